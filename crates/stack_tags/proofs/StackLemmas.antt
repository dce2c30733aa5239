-- One task's stack as it is kept: its newest frame, a frame more and a frame fewer.
use Rattle.std.proofs.Common.{◌≡◌, ℕ, zero, suc, ◌+◌, ◌-◌, ◌*◌, ◌/◌, ◌%◌, ◌^◌, ◌<◌, ◌≤◌, Bool, true, false, List, [], ◌∷◌, ◌++◌, length, map, take, drop, get_or, min, Option, Some, None, refl, sym, ◌∙◌, ap, subst, arith}
use Rattle.std.specs.Prelude.{reverse, slice_get, option_map, unwrap_or, nat_le, sum_by, Result, IsOk, is_ok, if◌then◌else◌}
use Rattle.std.proofs.lemmas.Bool.Decides.{nat_tests}
use Rattle.std.proofs.lemmas.List.{append-nil, drop_at, take_at, take_all, take_more, length-map, length-reverse, get_or-reverse, length-drop, reverse-append}
use Rattle.std.proofs.lemmas.List.Sums.{sum_by-take-le}
use Rattle.std.proofs.lemmas.Option.{slice_get-get_or, slice_get_past, slice_get_within, get_or_from_slice_get}
use Rattle.hw_base.specs.declared.endings.Full.{Full}
use Rattle.hw_base.specs.declared.endings.Space.TheVariants.{Stack}
use Rattle.hw_base.specs.declared.numbers.TheConstants.{STACK_LENGTH}
use Rattle.hw_base.specs.AddressMap.{frame_size, rounded_size}
use Rattle.hw_base.specs.TaggedAddress.{tagged_address}
use Rattle.hw_tags.specs.Tag.{frame_tag_of}
use Rattle.tbi_memory.specs.AddressSpace.{AddressSpace}
use Rattle.tbi_memory.specs.ObjectMemory.{tag_plain}
use Rattle.stack_tags.specs.declared.frame_record.FrameRecord.{FrameRecord}
use Rattle.stack_tags.specs.declared.variables.Variable.{Variable}
use Rattle.stack_tags.specs.declared.entered_frames.EnteredFrame.{EnteredFrame}
use Rattle.stack_tags.specs.Frames.{LivingFrame, TaskFrames, top_above, FollowEachOther}
use Rattle.stack_tags.specs.KeptFrames.{variables_at, sizes_of, living_of, AreTheirs, IsStack, OneStack, top_of_entered, bytes_of, refusal_by, stack_refusal, newest_variable, frames_left, memory_left}
use Rattle.stack_tags.proofs.LivingSizeLemmas.{top-sum}
use Rattle.stack_tags.proofs.VariableLemmas.{pushed, frame_size-whole, sizes-variables_at, place-variables_at}

-- ---- the newest frame

pub living-top : (end : ℕ) (variables : List Variable) (frames : List EnteredFrame) → top_above end (living_of variables frames) ≡ top_of_entered end frames
unfolding living_of
living-top end variables [] = refl
living-top end variables (newest ∷ older) = refl

pub top-whole : (end : ℕ) (frames : List LivingFrame) → end % 16 ≡ 0 → FollowEachOther end frames → top_above end frames % 16 ≡ 0
top-whole end [] whole h = whole
top-whole end (newest ∷ older) whole h =
    let above = top-whole end older whole h.1 in
    let even = frame_size-whole newest.sizes in
    let next = h.0 in
    omega (arith, above, even, next)

pub top-not_above : (end : ℕ) (frames : List LivingFrame) → FollowEachOther end frames → top_above end frames ≤ end
top-not_above end frames h = let sum = top-sum end frames h in omega (arith, sum)

-- where a list of frames ends, and in which order they are seen
pub reverse-pushed : {A : Type 0} (older : List A) (newest : A) → reverse (older ++ newest ∷ []) ≡ newest ∷ reverse older
reverse-pushed older newest = reverse-append older (newest ∷ [])

pub last-split : {A : Type 0} (xs : List A) (x : A) → slice_get xs (length xs - 1) ≡ Some x → xs ≡ take (length xs - 1) xs ++ x ∷ []
last-split {A = A} xs x h =
    let inside = slice_get_within xs (length xs - 1) x h in
    let whole : length xs - 1 + 1 ≡ length xs = omega (arith, inside) in
    sym (take_all (length xs) xs (omega arith))
    ∙ ap (λ n. take n xs) (sym whole)
    ∙ take_more xs (length xs - 1) x inside
    ∙ ap (λ (y : A). take (length xs - 1) xs ++ y ∷ []) (get_or_from_slice_get xs (length xs - 1) x x h)

pub frames-last : (items : List EnteredFrame) (newest : EnteredFrame) → slice_get items (length items - 1) ≡ Some newest → reverse items ≡ newest ∷ reverse (take (length items - 1) items)
frames-last items newest there = ap (λ (es : List EnteredFrame). reverse es) (last-split items newest there) ∙ reverse-pushed (take (length items - 1) items) newest

pub last-none : {A : Type 0} (xs : List A) → slice_get xs (length xs - 1) ≡ None → reverse xs ≡ []
last-none [] h = refl
last-none (x ∷ xs) h =
    let there = slice_get-get_or (x ∷ xs) (length (x ∷ xs) - 1) x (omega arith) in
    absurd cc

-- ---- room

pub refusal-none : (stack : OneStack) (asked : ℕ) → bytes_of stack + asked ≤ STACK_LENGTH → None ≡ stack_refusal stack asked
refusal-none stack asked h =
    let fits : nat_le (bytes_of stack + asked) STACK_LENGTH ≡ true = grind (arith, nat_tests) in
    rw fits refl

pub refusal-some : (stack : OneStack) (asked living : ℕ) → living ≡ bytes_of stack → STACK_LENGTH < bytes_of stack + asked
    → Some (record { space = Stack; asked = asked; living = living }) ≡ stack_refusal stack asked
refusal-some stack asked living is h =
    let full : nat_le (bytes_of stack + asked) STACK_LENGTH ≡ false = grind (arith, nat_tests) in
    rw (full, is) refl

pub refusal-fits : (stack : OneStack) (asked : ℕ) → stack_refusal stack asked ≡ None → bytes_of stack + asked ≤ STACK_LENGTH
refusal-fits stack asked h = by (nat_le (bytes_of stack + asked) STACK_LENGTH) _ refl h
  where
    by : (t : Bool) (full : Full) → nat_le (bytes_of stack + asked) STACK_LENGTH ≡ t → refusal_by t full ≡ None → bytes_of stack + asked ≤ STACK_LENGTH
    by true full e h = grind (arith, nat_tests)
    by false full e h = absurd cc

-- ---- a frame more

pub living-entered : (variables : List Variable) (frames : List EnteredFrame) (frame : FrameRecord) (first : ℕ) (sizes : List ℕ) → first ≡ length variables
    → living_of (variables ++ variables_at frame.low sizes) (record { frame = frame; first = first } ∷ frames) ≡ record { frame = frame; sizes = sizes } ∷ living_of variables frames
unfolding living_of
living-entered variables frames frame first sizes at =
    rw (drop_at variables (variables_at frame.low sizes) first (sym at), take_at variables (variables_at frame.low sizes) first (sym at), sizes-variables_at frame.low sizes) refl

pub theirs-entered : (variables : List Variable) (frames : List EnteredFrame) (frame : FrameRecord) (first : ℕ) (sizes : List ℕ) → first ≡ length variables
    → AreTheirs variables frames → AreTheirs (variables ++ variables_at frame.low sizes) (record { frame = frame; first = first } ∷ frames)
unfolding AreTheirs
theirs-entered variables frames frame first sizes at theirs =
    let cut = drop_at variables (variables_at frame.low sizes) first (sym at) in
    let kept = take_at variables (variables_at frame.low sizes) first (sym at) in
    (rw (cut, sizes-variables_at frame.low sizes) refl, subst (λ (vs : List Variable). AreTheirs vs frames) (sym kept) theirs)

pub IsStack-entered : (end : ℕ) (variables : List Variable) (frames : List EnteredFrame) (frame : FrameRecord) (first : ℕ) (sizes : List ℕ) → first ≡ length variables
    → IsStack end variables frames → frame.low + frame_size sizes ≡ top_above end (living_of variables frames) → end ≤ frame.low + STACK_LENGTH
    → IsStack end (variables ++ variables_at frame.low sizes) (record { frame = frame; first = first } ∷ frames)
IsStack-entered end variables frames frame first sizes at is next begins =
    let seen = living-entered variables frames frame first sizes at in
    record {
      end_whole = is.end_whole;
      not_below = is.not_below;
      small = is.small;
      begins = subst (λ (living : List LivingFrame). end ≤ top_above end living + STACK_LENGTH) (sym seen) begins;
      follow = subst (λ (living : List LivingFrame). FollowEachOther end living) (sym seen) (next, is.follow);
      theirs = theirs-entered variables frames frame first sizes at is.theirs;
    }

-- the part of a list that was added
pub new-part : (all old new : List Variable) (first : ℕ) → all ≡ old ++ new → first ≡ length old → take (length all - first) (drop first all) ≡ new
new-part all old new first is at =
    let left = length-drop first all in
    take_all (length all - first) (drop first all) (omega (arith, left)) ∙ ap (λ (vs : List Variable). drop first vs) is ∙ drop_at old new first (sym at)

-- what is known when a frame's variables were added
pub record Added (seen pushed old : List Variable) (low first : ℕ) (sizes : List ℕ) : Type 0 where
  pub all : pushed ≡ old ++ variables_at low sizes
  pub at : first ≡ length old
  pub part : take (length seen - first) (drop first seen) ≡ variables_at low sizes

pub added-of : (seen pushed made old : List Variable) (low first : ℕ) (sizes : List ℕ) → seen ≡ pushed → pushed ≡ made ++ variables_at low sizes → made ≡ old → first ≡ length made
    → Added seen pushed old low first sizes
added-of seen pushed made old low first sizes is more same at =
    let all = more ∙ ap (λ (vs : List Variable). vs ++ variables_at low sizes) same in
    let place = at ∙ ap (λ (vs : List Variable). length vs) same in
    record { all = all; at = place; part = new-part seen old (variables_at low sizes) first (is ∙ all) place }

pub frames-entered : {X E : Type 0} (r : Result X E) (items made old : List EnteredFrame) (new : EnteredFrame) → items ≡ (if is_ok r then made ++ new ∷ [] else made) → IsOk r → made ≡ old
    → reverse items ≡ new ∷ reverse old
frames-entered r items made old new is ok same =
    ap (λ (es : List EnteredFrame). reverse es) (is ∙ pushed r (made ++ new ∷ []) made ok ∙ ap (λ (es : List EnteredFrame). es ++ new ∷ []) same) ∙ reverse-pushed old new

pub IsStack-none : (end : ℕ) (variables : List Variable) → end % 16 ≡ 0 → STACK_LENGTH ≤ end → end < 2 ^ 56 → IsStack end variables []
unfolding living_of AreTheirs
IsStack-none end variables whole not_below small =
    record { end_whole = whole; not_below = not_below; small = small; begins = omega arith; follow = tt; theirs = tt }

-- ---- a frame fewer

pub living-newest : (variables : List Variable) (newest : EnteredFrame) (older : List EnteredFrame)
    → living_of variables (newest ∷ older) ≡ record { frame = newest.frame; sizes = sizes_of (drop newest.first variables) } ∷ living_of (take newest.first variables) older
unfolding living_of
living-newest variables newest older = refl

pub record Newest (end : ℕ) (variables : List Variable) (newest : EnteredFrame) (older : List EnteredFrame) : Type 0 where
  pub next : newest.frame.low + frame_size (sizes_of (drop newest.first variables)) ≡ top_of_entered end older
  pub whole : newest.frame.low % 16 ≡ 0
  pub above_whole : top_of_entered end older % 16 ≡ 0
  pub above : top_of_entered end older ≤ end
  pub small : end < 2 ^ 56
  pub rest : IsStack end (take newest.first variables) older
  pub theirs : drop newest.first variables ≡ variables_at newest.frame.low (sizes_of (drop newest.first variables))

pub newest-of : (end : ℕ) (variables : List Variable) (newest : EnteredFrame) (older : List EnteredFrame) → IsStack end variables (newest ∷ older) → Newest end variables newest older
unfolding living_of AreTheirs
newest-of end variables newest older is =
    let follow = is.follow in
    let theirs = is.theirs in
    let top = living-top end (take newest.first variables) older in
    let whole = top-whole end (living_of (take newest.first variables) older) is.end_whole follow.1 in
    let above = top-not_above end (living_of (take newest.first variables) older) follow.1 in
    let even = frame_size-whole (sizes_of (drop newest.first variables)) in
    let next = follow.0 in
    let begins = is.begins in
    record {
      next = omega (arith, next, top);
      whole = omega (arith, next, whole, even);
      above_whole = omega (arith, top, whole);
      above = omega (arith, top, above);
      small = is.small;
      rest = record {
        end_whole = is.end_whole;
        not_below = is.not_below;
        small = is.small;
        begins = omega (arith, next, begins);
        follow = follow.1;
        theirs = theirs.1;
      };
      theirs = theirs.0;
    }

abbrev pub stack-seen : (end ring : ℕ) → List LivingFrame → List FrameRecord → OneStack
stack-seen end ring living ended = record { end = end; frames = record { living = living; ended = ended }; ring = ring }

pub frames-left : (end ring died : ℕ) (variables : List Variable) (newest : EnteredFrame) (older : List EnteredFrame) (ended : List FrameRecord)
    → stack-seen end ring (living_of (take newest.first variables) older) (take ring (record newest.frame { died = Some died } ∷ ended))
    ≡ record (stack-seen end ring (living_of variables (newest ∷ older)) ended)
    { frames = frames_left ring died (living_of variables (newest ∷ older)) (stack-seen end ring (living_of variables (newest ∷ older)) ended).frames }
unfolding living_of
frames-left end ring died variables newest older ended = refl

pub memory-left : (space : AddressSpace) (variables : List Variable) (newest : EnteredFrame) (older : List EnteredFrame) (count : ℕ) → count ≡ frame_size (sizes_of (drop newest.first variables))
    → tag_plain space newest.frame.low count 0 ≡ memory_left space (living_of variables (newest ∷ older))
unfolding living_of
memory-left space variables newest older count is = ap (λ (n : ℕ). tag_plain space newest.frame.low n 0) is

pub living-none : (variables : List Variable) (frames : List EnteredFrame) → frames ≡ [] → living_of variables frames ≡ []
unfolding living_of
living-none variables frames none = rw none refl

pub none-left : (stack : OneStack) (died : ℕ) → stack.frames.living ≡ [] → stack ≡ record stack { frames = frames_left stack.ring died stack.frames.living stack.frames }
none-left stack died none = rw none refl

pub newest-popped : (end : ℕ) (variables : List Variable) (items popped : List EnteredFrame) (newest : EnteredFrame) → items ≡ popped ++ newest ∷ [] → IsStack end variables (reverse items)
    → Newest end variables newest (reverse popped)
newest-popped end variables items popped newest is stack =
    newest-of end variables newest (reverse popped)
    (subst (λ (es : List EnteredFrame). IsStack end variables es) (ap (λ (es : List EnteredFrame). reverse es) is ∙ reverse-pushed popped newest) stack)

-- ---- a variable of the newest frame

drop-get : {A : Type 0} (xs : List A) (first k : ℕ) → slice_get xs (first + k) ≡ slice_get (drop first xs) k
drop-get [] zero k = refl
drop-get [] (suc first) k = refl
drop-get (x ∷ xs) zero k = let on : 0 + k ≡ k = omega arith in rw on refl
drop-get (x ∷ xs) (suc first) k = let on : suc first + k ≡ suc (first + k) = omega arith in rw on (drop-get xs first k)

tagged : (tag place : ℕ) → tag ≤ 255 → place < 2 ^ 56 → tag * 72057594037927936 + place ≡ tagged_address tag place
tagged tag place high small = omega arith

pub tagged-fits : (tag place : ℕ) → tag ≤ 255 → place < 2 ^ 56 → tag * 72057594037927936 + place < 2 ^ 64
tagged-fits tag place high small = omega arith

module _ (end : ℕ) (variables : List Variable) (newest : EnteredFrame) (older : List EnteredFrame) (is : IsStack end variables (newest ∷ older)) (k : ℕ) where
  sizes : List ℕ
  sizes = sizes_of (drop newest.first variables)

  pub variable-place : (v : Variable) → slice_get variables (newest.first + k) ≡ Some v → v.place ≡ newest.frame.low + frame_size (take k (sizes_of (drop newest.first variables)))
  variable-place v there =
      let n = newest-of end variables newest older is in
      let found : slice_get (drop newest.first variables) k ≡ Some v = sym (drop-get variables newest.first k) ∙ there in
      place-variables_at newest.frame.low (sizes_of (drop newest.first variables)) k v (subst (λ (vs : List Variable). slice_get vs k ≡ Some v) n.theirs found)

  pub past-place : length variables ≤ newest.first + k → top_of_entered end older ≡ newest.frame.low + frame_size (take k (sizes_of (drop newest.first variables)))
  past-place past =
      let n = newest-of end variables newest older is in
      let left = length-drop newest.first variables in
      let count = length-map (drop newest.first variables) (λ (v : Variable). v.size) in
      let whole : take k (sizes_of (drop newest.first variables)) ≡ sizes_of (drop newest.first variables) = take_all k (sizes_of (drop newest.first variables)) (omega (arith, left, count, past)) in
      sym n.next ∙ ap (λ (xs : List ℕ). newest.frame.low + frame_size xs) (sym whole)

  pub place-small : (place : ℕ) → place ≡ newest.frame.low + frame_size (take k (sizes_of (drop newest.first variables))) → place < 2 ^ 56
  place-small place at =
      let n = newest-of end variables newest older is in
      let part = sum_by-take-le rounded_size (sizes_of (drop newest.first variables)) k in
      let next = n.next in
      let above = n.above in
      let small = n.small in
      omega (arith, at, part, next, above, small)

  pub variable-number : (tag place : ℕ) → tag ≡ frame_tag_of newest.frame.word k → tag ≤ 255
      → place ≡ newest.frame.low + frame_size (take k (sizes_of (drop newest.first variables)))
      → tag * 72057594037927936 + place ≡ newest_variable (living_of variables (newest ∷ older)) k
  unfolding living_of
  variable-number tag place is_tag high at =
      tagged tag place high (place-small place at)
      ∙ ap (λ (t : ℕ). tagged_address t place) is_tag
      ∙ ap (λ (p : ℕ). tagged_address (frame_tag_of newest.frame.word k) p) at

-- what `get` found at the place that was looked at
pub looked-at : (variables seen : List Variable) (first k at : ℕ) (v : Variable) → seen ≡ variables → at ≡ min (first + k) 18446744073709551615 → length variables < 2 ^ 64 → at < length seen → slice_get seen at ≡ Some v
    → slice_get variables (first + k) ≡ Some v
looked-at variables seen first k at v is at_is few inside there =
    let len = ap (λ (vs : List Variable). length vs) is in
    let same : at ≡ first + k = omega (arith, at_is, few, inside, len) in
    ap (λ (n : ℕ). slice_get variables n) (sym same) ∙ subst (λ (vs : List Variable). slice_get vs at ≡ Some v) is there

pub looked-past : (variables seen : List Variable) (first k at : ℕ) → seen ≡ variables → at ≡ min (first + k) 18446744073709551615 → length seen ≤ at → length variables ≤ first + k
looked-past variables seen first k at is at_is past =
    let len = ap (λ (vs : List Variable). length vs) is in
    omega (arith, at_is, past, len)

pub no-variable : (variables : List Variable) (frames : List EnteredFrame) (k : ℕ) → frames ≡ [] → 0 ≡ newest_variable (living_of variables frames) k
unfolding living_of
no-variable variables frames k none = rw none refl

-- ---- the frames of reports

pub living-records : (variables : List Variable) (frames : List EnteredFrame) (i : ℕ)
    → option_map (λ (l : LivingFrame). l.frame) (slice_get (living_of variables frames) i) ≡ option_map (λ (e : EnteredFrame). e.frame) (slice_get frames i)
unfolding living_of
living-records variables [] i = refl
living-records variables (newest ∷ older) zero = refl
living-records variables (newest ∷ older) (suc i) = living-records (take newest.first variables) older i

pub record-at : (variables : List Variable) (items : List EnteredFrame) (i n : ℕ) (e : EnteredFrame) → n + i + 1 ≡ length items → e ≡ get_or items n e
    → Some e.frame ≡ option_map (λ (l : LivingFrame). l.frame) (slice_get (living_of variables (reverse items)) i)
record-at variables items i n e at is =
    let count = length-reverse items in
    let inside : i < length items = omega (arith, at) in
    let from_end : length items - 1 - i ≡ n = omega (arith, at) in
    let there : slice_get (reverse items) i ≡ Some e =
    slice_get-get_or (reverse items) i e (omega (arith, count, inside)) ∙ ap (λ (x : EnteredFrame). Some x) (get_or-reverse items i e inside ∙ ap (λ (k : ℕ). get_or items k e) from_end ∙ sym is) in
    sym (living-records variables (reverse items) i ∙ ap (option_map (λ (x : EnteredFrame). x.frame)) there)

pub record-past : (variables : List Variable) (items : List EnteredFrame) (i : ℕ) → length items ≤ i
    → None ≡ option_map (λ (l : LivingFrame). l.frame) (slice_get (living_of variables (reverse items)) i)
record-past variables items i past =
    let count = length-reverse items in
    sym (living-records variables (reverse items) i ∙ ap (option_map (λ (x : EnteredFrame). x.frame)) (slice_get_past (reverse items) i (omega (arith, count, past))))
