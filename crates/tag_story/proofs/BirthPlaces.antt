-- The places of what is born: variables of a frame, a block, and globals.
use Rattle.std.proofs.Common.{◌≡◌, ℕ, zero, suc, ◌+◌, ◌-◌, ◌*◌, ◌%◌, ◌<◌, ◌≤◌, Bool, true, false, ◌&&◌, ◌==◌, nat_le, List, [], ◌∷◌, map, slice_get, Some, option_map, ◌⊎◌, inl, inr, refl, sym, ◌∙◌, ap, subst, arith}
use Rattle.std.proofs.Math.Nat.{mul-le-mul_right}
use Rattle.std.proofs.lemmas.Bool.{cases_eq, cond-true, cond-false}
use Rattle.std.proofs.lemmas.Bool.Decides.{nat_tests}
use Rattle.std.proofs.lemmas.Option.{slice_get-map}
use Rattle.std.proofs.lemmas.List.Sums.{sum_by-cons}
use Rattle.std.specs.List.{list_all}
use Rattle.hw_base.specs.AddressMap.{rounded_size, frame_size}
use Rattle.hw_tags.specs.LeastPlace.{is_apart}
use Rattle.hw_tags.specs.Tag.{frame_tag_of}
use Rattle.hw_tags.proofs.LeastPlaceLemmas.{least_fit-some}
use Rattle.hw_tags.proofs.TagLemmas.{frame_tag_of_lowest, frame_tag_of_highest}
use Rattle.ir_meaning.specs.Births.{Heap, Life, is_living}
use Rattle.tag_story.specs.Story.{StorySetting, Placed, StoryBirth, OpenFrame, Story}
use Rattle.tag_story.specs.Telling.{variables_from, lowest_from, stack_end, span_of, block_spans, living_spans, place_of_block}
use Rattle.tag_story.specs.StoryFacts.{IsObject, AreApart, AreUpwards}
use Rattle.tag_story.proofs.StoryLists.{all-get, all-flat}

-- ---- sizes

pub rounded-some : (size : ℕ) → (16 ≤ rounded_size size) × (rounded_size size % 16 ≡ 0)
rounded-some zero = (omega arith, refl)
rounded-some (suc n) = (omega arith, omega arith)

pub aligned-sum : (a b : ℕ) → a % 16 ≡ 0 → b % 16 ≡ 0 → (a + b) % 16 ≡ 0
aligned-sum a b h k = omega arith

pub aligned-product : (n a : ℕ) → a % 16 ≡ 0 → (n * a) % 16 ≡ 0
aligned-product zero a h = let e : zero * a ≡ 0 = grind arith in rw e refl
aligned-product (suc n) a h =
    let r = aligned-product n a h in
    let e : suc n * a ≡ n * a + a = grind arith in
    rw e (omega arith)

pub frame_size-aligned : (sizes : List ℕ) → frame_size sizes % 16 ≡ 0
frame_size-aligned [] = refl
frame_size-aligned (size ∷ sizes) =
    let e = sum_by-cons rounded_size size sizes in
    let r = frame_size-aligned sizes in
    let s = (rounded-some size).1 in
    rw e (omega arith)

-- ---- stacks

-- the stack of a task is in the range of the stacks
pub stack-inside : (e : StorySetting) (task : ℕ) → task < e.places.most_tasks → stack_end e.places task ≤ e.places.stacks_at + e.places.most_tasks * e.places.stack_length
stack-inside e task below =
    let m : (task + 1) * e.places.stack_length ≤ e.places.most_tasks * e.places.stack_length = mul-le-mul_right e.places.stack_length (omega arith) in
    omega (arith, m)

-- the stacks of two tasks are apart
pub stacks-apart : (e : StorySetting) (t u : ℕ) → t < u → stack_end e.places t ≤ e.places.stacks_at + u * e.places.stack_length
stacks-apart e t u below =
    let m : (t + 1) * e.places.stack_length ≤ u * e.places.stack_length = mul-le-mul_right e.places.stack_length (omega arith) in
    omega (arith, m)

pub stack-length : (e : StorySetting) (task : ℕ) → stack_end e.places task ≡ e.places.stacks_at + task * e.places.stack_length + e.places.stack_length
stack-length e task =
    let m : (task + 1) * e.places.stack_length ≡ task * e.places.stack_length + e.places.stack_length = grind arith in
    omega (arith, m)

-- ---- variables of a frame

-- what holds of the variables of a frame: they are aligned, in the frame, apart, and have tags
pub record AreVariables (low end : ℕ) (objects : List Placed) : Type 0 where
  pub aligned : (k : ℕ) (x : Placed) → slice_get objects k ≡ Some x → x.at % 16 ≡ 0
  pub inside : (k : ℕ) (x : Placed) → slice_get objects k ≡ Some x → (low ≤ x.at) × (x.at + rounded_size x.size ≤ end)
  pub tagged : (k : ℕ) (x : Placed) → slice_get objects k ≡ Some x → (1 ≤ x.tag) × (x.tag < 256)
  pub apart : (k j : ℕ) (x y : Placed) → slice_get objects k ≡ Some x → slice_get objects j ≡ Some y → AreApart x y ⊎ (k ≡ j)

variable-first : (low end : ℕ) (x : Placed) (objects : List Placed) → x.at ≡ low → x.at % 16 ≡ 0 → (1 ≤ x.tag) × (x.tag < 256) → low + rounded_size x.size ≤ end → AreVariables (low + rounded_size x.size) end objects → AreVariables low end (x ∷ objects)
variable-first low end x objects at aligned tag room rest =
    record { aligned = aligned_at; inside = inside_at; tagged = tagged_at; apart = apart_at }
  where
    aligned_at : (k : ℕ) (y : Placed) → slice_get (x ∷ objects) k ≡ Some y → y.at % 16 ≡ 0
    aligned_at zero y e = let is : x ≡ y = cc in subst (λ (z : Placed). z.at % 16 ≡ 0) is aligned
    aligned_at (suc k) y e = rest.aligned k y e

    inside_at : (k : ℕ) (y : Placed) → slice_get (x ∷ objects) k ≡ Some y → (low ≤ y.at) × (y.at + rounded_size y.size ≤ end)
    inside_at zero y e = let is : x ≡ y = cc in subst (λ (z : Placed). (low ≤ z.at) × (z.at + rounded_size z.size ≤ end)) is (omega arith, omega arith)
    inside_at (suc k) y e = let h = rest.inside k y e in let a = h.0 in (omega arith, h.1)

    tagged_at : (k : ℕ) (y : Placed) → slice_get (x ∷ objects) k ≡ Some y → (1 ≤ y.tag) × (y.tag < 256)
    tagged_at zero y e = let is : x ≡ y = cc in subst (λ (z : Placed). (1 ≤ z.tag) × (z.tag < 256)) is tag
    tagged_at (suc k) y e = rest.tagged k y e

    after : (j : ℕ) (y z : Placed) → x ≡ y → slice_get objects j ≡ Some z → y.at + rounded_size y.size ≤ z.at
    after j y z is e =
        let a = (rest.inside j z e).0 in
        let b : x.at + rounded_size x.size ≤ z.at = omega arith in
        subst (λ (v : Placed). v.at + rounded_size v.size ≤ z.at) is b

    apart_at : (k j : ℕ) (y z : Placed) → slice_get (x ∷ objects) k ≡ Some y → slice_get (x ∷ objects) j ≡ Some z → AreApart y z ⊎ (k ≡ j)
    apart_at zero zero y z e f = inr refl
    apart_at zero (suc j) y z e f = let is : x ≡ y = cc in inl (inl (after j y z is f))
    apart_at (suc k) zero y z e f = let is : x ≡ z = cc in inl (inr (after k z y is e))
    apart_at (suc k) (suc j) y z e f = elim (rest.apart k j y z e f) [ inl h ↦ inl h | inr same ↦ inr (omega arith) ]

no-variables : (low end : ℕ) → AreVariables low end []
no-variables low end =
    record {
      aligned = λ k x h. absurd cc;
      inside = λ k x h. absurd cc;
      tagged = λ k x h. absurd cc;
      apart = λ k j x y h g. absurd cc;
    }

pub variables-laid : (word k low : ℕ) (sizes : List ℕ) → low % 16 ≡ 0 → AreVariables low (low + frame_size sizes) (variables_from word k low sizes)
unfolding variables_from
variables-laid word k low [] aligned = no-variables low _
variables-laid word k low (size ∷ sizes) aligned =
    let r = (rounded-some size).1 in
    let e = sum_by-cons rounded_size size sizes in
    let later = variables-laid word (k + 1) (low + rounded_size size) sizes (omega arith) in
    let highest = frame_tag_of_highest word k in
    let all : low + frame_size (size ∷ sizes) ≡ low + rounded_size size + frame_size sizes = omega arith in
    variable-first low (low + frame_size (size ∷ sizes)) (record { at = low; size = size; tag = frame_tag_of word k }) (variables_from word (k + 1) (low + rounded_size size) sizes)
    refl aligned (frame_tag_of_lowest word k, omega arith) (omega arith)
    (subst (λ end. AreVariables (low + rounded_size size) end (variables_from word (k + 1) (low + rounded_size size) sizes)) (sym all) later)

-- ---- the lowest address of a task's frames

equal-true : (a b : ℕ) → a ≡ b → (a == b) ≡ true
equal-true a b h = grind (arith, nat_tests)

equal-false : (a b : ℕ) → (a ≡ b → ⊥) → (a == b) ≡ false
equal-false a b h = grind (arith, nat_tests)

lowest-same : (task end : ℕ) (g : OpenFrame) (frames : List OpenFrame) → g.task ≡ task → lowest_from task end (g ∷ frames) ≡ g.low
lowest-same task end g frames h = cond-true (g.task == task) g.low (lowest_from task end frames) (equal-true g.task task h)

lowest-other : (task end : ℕ) (g : OpenFrame) (frames : List OpenFrame) → (g.task ≡ task → ⊥) → lowest_from task end (g ∷ frames) ≡ lowest_from task end frames
lowest-other task end g frames h = cond-false (g.task == task) g.low (lowest_from task end frames) (equal-false g.task task h)

-- each frame of the task is at or above it
pub lowest-below : (task end : ℕ) (frames : List OpenFrame) (i : ℕ) (f : OpenFrame) → AreUpwards frames → slice_get frames i ≡ Some f → f.task ≡ task → lowest_from task end frames ≤ f.low
lowest-below task end [] i f up e is = absurd cc
lowest-below task end (g ∷ frames) zero f up e is =
    let same : g ≡ f = cc in
    let lows : g.low ≡ f.low = ap (λ (h : OpenFrame). h.low) same in
    let low = lowest-same task end g frames (ap (λ (h : OpenFrame). h.task) same ∙ is) in
    omega (arith, low, lows)
lowest-below task end (g ∷ frames) (suc i) f up e is =
    elim (cases_eq g.task task) [
      | inl same ↦
          let low = lowest-same task end g frames same in
          let below : g.low ≤ f.low = up.0 i f e (is ∙ sym same) in
          omega (arith, low, below)
      | inr other ↦
          let low = lowest-other task end g frames other in
          let below = lowest-below task end frames i f up.1 e is in
          omega (arith, low, below)
    ]

-- it is the stack's end, or the lowest address of one of them
pub lowest-is : (task end : ℕ) (frames : List OpenFrame) → (lowest_from task end frames ≡ end) ⊎ ((i : ℕ) × (f : OpenFrame) × (slice_get frames i ≡ Some f) × (f.task ≡ task) × (lowest_from task end frames ≡ f.low))
lowest-is task end [] = inl refl
lowest-is task end (g ∷ frames) =
    elim (cases_eq g.task task) [
      | inl same ↦ inr (0, g, refl, same, lowest-same task end g frames same)
      | inr other ↦ elim (lowest-is task end frames) [
        | inl none ↦ inl (lowest-other task end g frames other ∙ none)
        | inr some ↦ inr (suc some.0, some.1, some.2, some.3, lowest-other task end g frames other ∙ some.4)
      ]
    ]

-- ---- blocks

-- a test that two ranges are apart
pub apart-test : (at size : ℕ) (x : Placed) → is_apart at size (span_of x) ≡ true → (at + size ≤ x.at) ⊎ (x.at + rounded_size x.size ≤ at)
apart-test at size x h = grind (arith, nat_tests)

and-parts : (s t : Bool) → (s && t) ≡ true → (s ≡ true) × (t ≡ true)
and-parts true t h = (refl, h)
and-parts false t h = absurd cc

-- the spans of a living block's objects
spans-of-living : (life : Life) (objects : List Placed) → is_living life ≡ true → block_spans Heap life objects ≡ map span_of objects
spans-of-living life objects alive = cond-true (is_living life) (map span_of objects) [] alive

-- the place of a new block is in the heap, and apart from all living blocks
pub record IsBlockPlace (e : StorySetting) (w : Story) (size at : ℕ) : Type 0 where
  pub low : e.places.heap_at ≤ at
  pub in_steps : (at - e.places.heap_at) % 16 ≡ 0
  pub high : at + rounded_size size ≤ e.places.heap_at + e.places.heap_length
  pub apart : (n k : ℕ) (birth : StoryBirth) (x : Placed) → IsObject w.births n k birth x → birth.region ≡ Heap → is_living birth.life ≡ true → (at + rounded_size size ≤ x.at) ⊎ (x.at + rounded_size x.size ≤ at)

pub block-place : (e : StorySetting) (w : Story) (size at : ℕ) → place_of_block e w size ≡ Some at → IsBlockPlace e w size at
block-place e w size at found =
    let some = (rounded-some size).0 in
    let least = least_fit-some (living_spans w.births) (rounded_size size) e.places.heap_at (e.places.heap_at + e.places.heap_length) at some found in
    let tests = and-parts (nat_le (at + rounded_size size) (e.places.heap_at + e.places.heap_length)) (list_all (is_apart at (rounded_size size)) (living_spans w.births)) least.place.fits in
    let inside = tests.0 in
    record {
      low = least.place.low;
      in_steps = least.place.in_steps;
      high = grind (arith, nat_tests);
      apart = apart_from tests.1;
    }
  where
    apart_from : list_all (is_apart at (rounded_size size)) (living_spans w.births) ≡ true → (n k : ℕ) (birth : StoryBirth) (x : Placed) → IsObject w.births n k birth x → birth.region ≡ Heap → is_living birth.life ≡ true → (at + rounded_size size ≤ x.at) ⊎ (x.at + rounded_size x.size ≤ at)
    apart_from all n k birth x h heap alive =
        let own : list_all (is_apart at (rounded_size size)) (block_spans birth.region birth.life birth.objects) ≡ true = all-flat (is_apart at (rounded_size size)) (λ (b : StoryBirth). block_spans b.region b.life b.objects) w.births n birth all h.there in
        let spans : block_spans birth.region birth.life birth.objects ≡ map span_of birth.objects = ap (λ r. block_spans r birth.life birth.objects) heap ∙ spans-of-living birth.life birth.objects alive in
        let mapped : list_all (is_apart at (rounded_size size)) (map span_of birth.objects) ≡ true = subst (λ xs. list_all (is_apart at (rounded_size size)) xs ≡ true) spans own in
        let there : slice_get (map span_of birth.objects) k ≡ Some (span_of x) = slice_get-map span_of birth.objects k ∙ ap (option_map span_of) h.object in
        apart-test at (rounded_size size) x (all-get (is_apart at (rounded_size size)) (map span_of birth.objects) k (span_of x) mapped there)
