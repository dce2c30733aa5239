use Rattle.std.proofs.Common.{◌≡◌, ◌-◌, ◌+◌, ◌∷◌, ◌++◌, [], Some, None, List, ℕ, length, take, drop, refl, ap, sym, ◌∙◌, subst, arith}
use Rattle.std.specs.Prelude.{reverse, slice_get}
use Rattle.std.proofs.lemmas.Option.{slice_get_read}
use Rattle.hw_base.specs.AddressMap.{frame_size}
use Rattle.stack_tags.specs.Frames.{LivingFrame}
use Rattle.stack_tags.specs.KeptFrames.{OneStack, IsStack, sizes_of, living_of, newest_variable, top_of_entered}
use Rattle.stack_tags.specs.declared.entered_frames.EnteredFrame.{EnteredFrame}
use Rattle.stack_tags.proofs.StackLemmas.{frames-last, last-none, looked-at, looked-past, variable-place, past-place, place-small, tagged-fits, variable-number, no-variable}
use Rattle.stack_tags.proofs.task_stack.TaskStack.variable.Goals as goal
use Rattle.stack_tags.proofs.task_stack.TaskStack.variable.Goals.{in-Some-get, in-None-get}

frames_are : (c : goal.After-row_known-1) → reverse c.self.inside.entered.items ≡ c.in-Some.newest.now ∷ reverse (take (length c.self.inside.entered.items - 1) c.self.inside.entered.items)
frames_are c =
    frames-last c.self.inside.entered.items c.in-Some.newest.now
    (subst (λ (es : List EnteredFrame). slice_get es (length es - 1) ≡ Some c.in-Some.newest.now) c.deref.ensures.value (sym c.in-Some.ensures.value))

is_stack : (c : goal.After-row_known-1) → IsStack c.self.inside.end c.self.inside.variables.items (c.in-Some.newest.now ∷ reverse (take (length c.self.inside.entered.items - 1) c.self.inside.entered.items))
is_stack c = subst (λ (es : List EnteredFrame). IsStack c.self.inside.end c.self.inside.variables.items es) (frames_are c) c.self.invariant

place_is : (c : goal.After-row_known-1) → c.match-get.place ≡ c.in-Some.newest.now.frame.low + frame_size (take c.args.k (sizes_of (drop c.in-Some.newest.now.first c.self.inside.variables.items)))
place_is c =
    let s = c.self.inside in
    let older = reverse (take (length s.entered.items - 1) s.entered.items) in
    elim c.match-get.branch [
      | in-Some-get w ↦
          let found = w.in-Some-get.ensures.lookup in
          let inside = found.3.0 in
          let read = slice_get_read c.deref-in-Some.result.now (length c.deref-in-Some.result.now) c.saturating_add.result w.in-Some-get.variable.now refl inside found.1 in
          w.place-is
          ∙ variable-place s.end s.variables.items c.in-Some.newest.now older (is_stack c) c.args.k w.in-Some-get.variable.now
          (looked-at s.variables.items c.deref-in-Some.result.now c.in-Some.newest.now.first c.args.k c.saturating_add.result w.in-Some-get.variable.now c.deref-in-Some.ensures.value c.saturating_add.ensures
          (omega (arith, s.variables.ok.0, s.variables.small)) inside read)
      | in-None-get w ↦
          let past = w.in-None-get.ensures.lookup.3 in
          let count = w.len.ensures in
          let same : w.len.result ≡ length s.entered.items = omega (arith, count, s.entered.ok.0) in
          w.place-is
          ∙ w.top_of-place.ensures
          ∙ ap (λ (n : ℕ). top_of_entered s.end (reverse (take (n - 1) w.deref-in-None-get.result.now))) same
          ∙ ap (λ (es : List EnteredFrame). top_of_entered s.end (reverse (take (length s.entered.items - 1) es))) w.deref-in-None-get.ensures.value
          ∙ past-place s.end s.variables.items c.in-Some.newest.now older (is_stack c) c.args.k
          (looked-past s.variables.items c.deref-in-Some.result.now c.in-Some.newest.now.first c.args.k c.saturating_add.result c.deref-in-Some.ensures.value c.saturating_add.ensures past)
    ]

pub overflow_add-result : goal.overflow_add-result
overflow_add-result c =
    let fits = tagged-fits c.frame_tag-tag.result c.match-get.place c.frame_tag-tag.ensures.highest
    (place-small c.self.inside.end c.self.inside.variables.items c.in-Some.newest.now (reverse (take (length c.self.inside.entered.items - 1) c.self.inside.entered.items)) (is_stack c) c.args.k c.match-get.place (place_is c)) in
    omega (arith, fits)

pub returns-after-get : goal.returns-after-get
returns-after-get c =
    let s = c.self.inside in
    let older = reverse (take (length s.entered.items - 1) s.entered.items) in
    variable-number s.end s.variables.items c.in-Some.newest.now older (is_stack c) c.args.k c.frame_tag-tag.result c.match-get.place c.frame_tag-tag.ensures.value c.frame_tag-tag.ensures.highest (place_is c)
    ∙ ap (λ (es : List EnteredFrame). newest_variable (living_of s.variables.items es) c.args.k) (sym (frames_are c))
    ∙ ap (λ (o : OneStack). newest_variable o.frames.living c.args.k) c.self.view_is

pub returns-in-None : goal.returns-in-None
returns-in-None c =
    let s = c.self.inside in
    let none = subst (λ (es : List EnteredFrame). slice_get es (length es - 1) ≡ None) c.deref.ensures.value (sym c.in-None.ensures.value) in
    no-variable s.variables.items (reverse s.entered.items) c.args.k (last-none s.entered.items none)
    ∙ ap (λ (o : OneStack). newest_variable o.frames.living c.args.k) c.self.view_is
