use Rattle.std.proofs.Common.{◌≡◌, ◌+◌, ◌-◌, ◌≤◌, ◌%◌, ◌++◌, ◌∷◌, [], List, ℕ, None, length, take, drop, ap, sym, ◌∙◌, subst, arith}
use Rattle.std.specs.Prelude.{reverse}
use Rattle.hw_base.specs.declared.numbers.TheConstants.{STACK_LENGTH}
use Rattle.hw_base.specs.AddressMap.{frame_size}
use Rattle.hw_tags.specs.Words.{coming}
use Rattle.stack_tags.specs.Frames.{LivingFrame, top_above}
use Rattle.stack_tags.specs.FrameSteps.{with_variables}
use Rattle.stack_tags.specs.KeptFrames.{OneStack, IsStack, AreObjects, variables_at, with_each, living_of, bytes_of, with_entered, frame_on}
use Rattle.stack_tags.specs.declared.frame_record.FrameRecord.{FrameRecord}
use Rattle.stack_tags.specs.declared.variables.Variable.{Variable}
use Rattle.stack_tags.specs.declared.entered_frames.EnteredFrame.{EnteredFrame}
use Rattle.stack_tags.proofs.VariableLemmas.{length-variables_at, objects-variables_at, with_each-variables, frame_size-whole}
use Rattle.stack_tags.proofs.StackLemmas.{Added, added-of, frames-entered, refusal-fits, living-entered, IsStack-entered}
use Rattle.stack_tags.proofs.task_stack.TaskStack.enter.Goals as goal

-- the frame's variables are added
before : (c : goal.After-put_variables-arg-2-1) → Added c.deref.result.now c.push_variables.new.variables.items c.self.inside.variables.items (c.top.result - c.frame_bytes-asked.result) c.len-first.result c.args.sizes.now
before c =
    let len = c.len-first.ensures in
    added-of c.deref.result.now c.push_variables.new.variables.items c.make_room.new.variables.items c.self.inside.variables.items (c.top.result - c.frame_bytes-asked.result) c.len-first.result c.args.sizes.now
    c.deref.ensures.value c.push_variables.ensures c.in-Ok.ensures.variables (omega (arith, len, c.make_room.new.variables.ok.0))

pub put_variables-requires-clause-few : goal.put_variables-requires-clause-few
put_variables-requires-clause-few c =
    let same = ap (λ (vs : List Variable). length vs) (before c).part in
    let count = length-variables_at (c.top.result - c.frame_bytes-asked.result) c.args.sizes.now in
    let least = c.frame_bytes-asked.ensures.count in
    let room = refusal-fits c.args.self.now c.frame_bytes-asked.result (sym (sym c.in-None.is ∙ c.refusal.ensures)) in
    omega (arith, same, count, least, room)

pub put_variables-requires-clause-objects : goal.put_variables-requires-clause-objects
put_variables-requires-clause-objects c =
    let room = refusal-fits c.args.self.now c.frame_bytes-asked.result (sym (sym c.in-None.is ∙ c.refusal.ensures)) in
    let asked = c.frame_bytes-asked.ensures.value in
    let even = frame_size-whole c.args.sizes.now in
    let value = c.top.ensures.value in
    let whole = c.top.ensures.whole in
    let not_above = c.top.ensures.not_above in
    let low = c.top.ensures.low in
    let small = c.top.ensures.small in
    subst (λ (vs : List Variable). AreObjects vs) (sym (before c).part)
    (objects-variables_at (c.top.result - c.frame_bytes-asked.result) c.args.sizes.now (omega (arith, room, asked, even, value, whole, not_above, low))
    (omega (arith, room, asked, value, not_above, low, small)))

-- the frame is added
after : (c : goal.After-push-pushed) → Added c.deref.result.now c.push_variables.new.variables.items c.self.inside.variables.items (c.top.result - c.frame_bytes-asked.result) c.len-first.result c.args.sizes.now
after c =
    let len = c.len-first.ensures in
    added-of c.deref.result.now c.push_variables.new.variables.items c.make_room.new.variables.items c.self.inside.variables.items (c.top.result - c.frame_bytes-asked.result) c.len-first.result c.args.sizes.now
    c.deref.ensures.value c.push_variables.ensures c.in-Ok.ensures.variables (omega (arith, len, c.make_room.new.variables.ok.0))

frames_are : (c : goal.After-push-pushed) → reverse c.push-pushed.new.self.items ≡ record { frame = record { func = c.args.func; low = c.top.result - c.frame_bytes-asked.result; word = c.next-word.result; birth = c.args.birth; born = c.args.born; died = None }; first = c.len-first.result } ∷ reverse c.self.inside.entered.items
frames_are c =
    frames-entered c.push-pushed.result c.push-pushed.new.self.items c.make_room.new.frames.items c.self.inside.entered.items (record { frame = record { func = c.args.func; low = c.top.result - c.frame_bytes-asked.result; word = c.next-word.result; birth = c.args.birth; born = c.args.born; died = None }; first = c.len-first.result })
    c.push-pushed.ensures.items (c.push-pushed.ensures.succeeds c.in-Ok.ensures.frame_fits) c.in-Ok.ensures.frames

living_is : (c : goal.After-push-pushed) → living_of c.push_variables.new.variables.items (reverse c.push-pushed.new.self.items)
    ≡ record { frame = record { func = c.args.func; low = c.top.result - c.frame_bytes-asked.result; word = c.next-word.result; birth = c.args.birth; born = c.args.born; died = None }; sizes = c.args.sizes.now } ∷ living_of c.self.inside.variables.items (reverse c.self.inside.entered.items)
living_is c =
    ap (λ (vs : List Variable). living_of vs (reverse c.push-pushed.new.self.items)) (after c).all
    ∙ ap (λ (es : List EnteredFrame). living_of (c.self.inside.variables.items ++ variables_at (c.top.result - c.frame_bytes-asked.result) c.args.sizes.now) es) (frames_are c)
    ∙ living-entered c.self.inside.variables.items (reverse c.self.inside.entered.items) (record { func = c.args.func; low = c.top.result - c.frame_bytes-asked.result; word = c.next-word.result; birth = c.args.birth; born = c.args.born; died = None }) c.len-first.result c.args.sizes.now (after c).at

low_is : (c : goal.After-push-pushed) → c.top.result - c.frame_bytes-asked.result ≡ top_above c.args.self.now.end c.args.self.now.frames.living - frame_size c.args.sizes.now
low_is c =
    let asked = c.frame_bytes-asked.ensures.value in
    let value = c.top.ensures.value in
    omega (arith, asked, value)

pub invariant_of-self-2 : goal.invariant_of-self-2
invariant_of-self-2 c =
    let s = c.self.inside in
    let room = refusal-fits c.args.self.now c.frame_bytes-asked.result (sym (sym c.in-None.is ∙ c.refusal.ensures)) in
    let asked = c.frame_bytes-asked.ensures.value in
    let value = c.top.ensures.value in
    let not_above = c.top.ensures.not_above in
    let low = c.top.ensures.low in
    let end = ap (λ (o : OneStack). o.end) c.self.view_is in
    let seen = ap (λ (o : OneStack). top_above o.end o.frames.living) c.self.view_is in
    let next : c.top.result - c.frame_bytes-asked.result + frame_size c.args.sizes.now ≡ top_above s.end (living_of s.variables.items (reverse s.entered.items)) =
    omega (arith, room, asked, value, not_above, low, seen) in
    let begins : s.end ≤ c.top.result - c.frame_bytes-asked.result + STACK_LENGTH = omega (arith, room, value, not_above, low, end) in
    subst (λ (vs : List Variable). IsStack s.end vs (reverse c.push-pushed.new.self.items)) (sym (after c).all)
    (subst (λ (es : List EnteredFrame). IsStack s.end (s.variables.items ++ variables_at (c.top.result - c.frame_bytes-asked.result) c.args.sizes.now) es) (sym (frames_are c))
    (IsStack-entered s.end s.variables.items (reverse s.entered.items) (record { func = c.args.func; low = c.top.result - c.frame_bytes-asked.result; word = c.next-word.result; birth = c.args.birth; born = c.args.born; died = None }) c.len-first.result c.args.sizes.now (after c).at c.self.invariant next begins))

pub returns-clause-frame : goal.returns-clause-frame
returns-clause-frame c =
    let s = c.self.inside in
    ap (λ (living : List LivingFrame). record { end = s.end; frames = record { living = living; ended = s.ended.kept }; ring = s.ended.size }) (living_is c)
    ∙ ap (λ (o : OneStack). with_entered o (record { frame = record { func = c.args.func; low = c.top.result - c.frame_bytes-asked.result; word = c.next-word.result; birth = c.args.birth; born = c.args.born; died = None }; sizes = c.args.sizes.now })) c.self.view_is
    ∙ ap (λ (low : ℕ). with_entered c.args.self.now (record { frame = record { func = c.args.func; low = low; word = c.next-word.result; birth = c.args.birth; born = c.args.born; died = None }; sizes = c.args.sizes.now })) (low_is c)
    ∙ ap (λ (word : ℕ). with_entered c.args.self.now (frame_on c.args.self.now c.args.func word c.args.sizes.now c.args.birth c.args.born)) c.next-word.ensures.first

pub returns-clause-memory : goal.returns-clause-memory
returns-clause-memory c =
    c.put_variables.ensures
    ∙ ap (λ (vs : List Variable). with_each c.args.mem.now c.next-word.result 0 vs) (after c).part
    ∙ with_each-variables c.args.mem.now c.next-word.result 0 (c.top.result - c.frame_bytes-asked.result) c.args.sizes.now
    ∙ ap (λ (low : ℕ). with_variables c.args.mem.now c.next-word.result 0 low c.args.sizes.now) (low_is c)
    ∙ ap (λ (word : ℕ). with_variables c.args.mem.now word 0 (top_above c.args.self.now.end c.args.self.now.frames.living - frame_size c.args.sizes.now) c.args.sizes.now) c.next-word.ensures.first

pub returns-clause-low : goal.returns-clause-low
returns-clause-low c = sym (ap (λ (living : List LivingFrame). top_above c.self.inside.end living) (living_is c))
