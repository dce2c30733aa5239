-- The variables of a frame as they are kept, as they are added and born one by one.
use Rattle.std.proofs.Common.{◌≡◌, ℕ, zero, suc, ◌+◌, ◌-◌, ◌*◌, ◌/◌, ◌%◌, ◌^◌, ◌<◌, ◌≤◌, Bool, true, false, List, [], ◌∷◌, ◌++◌, length, map, take, drop, get_or, max, Option, Some, None, refl, sym, ◌∙◌, ap, subst, arith}
use Rattle.std.specs.Prelude.{All, slice_get, Result, Ok, Err, IsOk, is_ok, if◌then◌else◌}
use Rattle.std.proofs.lemmas.List.{append_assoc, append-nil, drop_all}
use Rattle.std.proofs.lemmas.List.Sums.{sum_by-le, sum_by-take-le}
use Rattle.hw_base.specs.AddressMap.{frame_size, rounded_size}
use Rattle.hw_tags.specs.Tag.{frame_tag_of}
use Rattle.tbi_memory.specs.AddressSpace.{AddressSpace}
use Rattle.tbi_memory.specs.ObjectMemory.{with_fresh_object}
use Rattle.stack_tags.specs.FrameSteps.{with_variables}
use Rattle.stack_tags.specs.KeptFrames.{variables_at, sizes_of, with_each, AreObjects}
use Rattle.stack_tags.specs.declared.variables.Variable.{Variable}
use Rattle.stack_tags.proofs.FrameLemmas.{rounded-whole, frame_size-cons}

-- ---- sizes

pub rounded-is : (size : ℕ) → (max size 1 + 15) / 16 * 16 ≡ rounded_size size
rounded-is zero = refl
rounded-is (suc n) = omega arith

pub rounded-least : (size : ℕ) → 16 ≤ rounded_size size
rounded-least zero = omega arith
rounded-least (suc n) = omega arith

pub rounded-not_below : (size : ℕ) → size ≤ rounded_size size
rounded-not_below zero = omega arith
rounded-not_below (suc n) = omega arith

pub rounded-below : (size : ℕ) → size < 2 ^ 64 → rounded_size size ≤ 2 ^ 64
rounded-below zero h = omega arith
rounded-below (suc n) h = omega arith

pub frame_size-whole : (sizes : List ℕ) → frame_size sizes % 16 ≡ 0
frame_size-whole [] = refl
frame_size-whole (size ∷ sizes) =
    let sum = frame_size-cons size sizes in
    let first = rounded-whole size in
    let rest = frame_size-whole sizes in
    omega (arith, sum, first, rest)

pub frame_size-count : (sizes : List ℕ) → 16 * length sizes ≤ frame_size sizes
frame_size-count [] = omega arith
frame_size-count (size ∷ sizes) =
    let sum = frame_size-cons size sizes in
    let first = rounded-least size in
    let rest = frame_size-count sizes in
    omega (arith, sum, first, rest)

pub frame_size-small : (sizes : List ℕ) → All (λ size. size < 2 ^ 64) sizes → frame_size sizes ≤ length sizes * 2 ^ 64
frame_size-small sizes small =
    sum_by-le rounded_size (2 ^ 64) sizes (λ k d inside. rounded-below (get_or sizes k d) (small k d inside))

pub drop-one : {A : Type 0} (xs : List A) (k : ℕ) (x : A) → slice_get xs k ≡ Some x → drop k xs ≡ x ∷ drop (k + 1) xs
drop-one [] k x h = absurd cc
drop-one (y ∷ xs) zero x h = let same : y ≡ x = cc in ap (λ z. z ∷ xs) same
drop-one (y ∷ xs) (suc k) x h = let on : suc k + 1 ≡ suc (k + 1) = omega arith in rw on (drop-one xs k x h)

pub inside-one : {A : Type 0} (xs : List A) (k : ℕ) (x : A) → slice_get xs k ≡ Some x → k < length xs
inside-one [] k x h = absurd cc
inside-one (y ∷ xs) zero x h = omega arith
inside-one (y ∷ xs) (suc k) x h = let rest = inside-one xs k x h in omega (arith, rest)

-- one more size is added up
pub bytes-more : (sizes : List ℕ) (k size sum goal_ : ℕ) → slice_get sizes k ≡ Some size → sum + frame_size (drop k sizes) ≡ goal_ → (sum + rounded_size size) + frame_size (drop (k + 1) sizes) ≡ goal_
bytes-more sizes k size sum goal_ there h =
    let cut : frame_size (drop k sizes) ≡ rounded_size size + frame_size (drop (k + 1) sizes) =
    ap (λ (xs : List ℕ). frame_size xs) (drop-one sizes k size there) ∙ frame_size-cons size (drop (k + 1) sizes) in
    omega (arith, cut, h)

pub bytes-done : (sizes : List ℕ) (k sum goal_ : ℕ) → length sizes ≤ k → sum + frame_size (drop k sizes) ≡ goal_ → sum ≡ goal_
bytes-done sizes k sum goal_ all h =
    let none : frame_size (drop k sizes) ≡ 0 = ap (λ (xs : List ℕ). frame_size xs) (drop_all k sizes all) in
    omega (arith, none, h)

-- ---- variables

pub sizes-variables_at : (place : ℕ) (sizes : List ℕ) → sizes_of (variables_at place sizes) ≡ sizes
unfolding variables_at
sizes-variables_at place [] = refl
sizes-variables_at place (size ∷ sizes) = ap (λ (xs : List ℕ). size ∷ xs) (sizes-variables_at (place + rounded_size size) sizes)

pub length-variables_at : (place : ℕ) (sizes : List ℕ) → length (variables_at place sizes) ≡ length sizes
unfolding variables_at
length-variables_at place [] = refl
length-variables_at place (size ∷ sizes) = ap (λ n. suc n) (length-variables_at (place + rounded_size size) sizes)

pub place-variables_at : (place : ℕ) (sizes : List ℕ) (k : ℕ) (v : Variable) → slice_get (variables_at place sizes) k ≡ Some v → v.place ≡ place + frame_size (take k sizes)
unfolding variables_at
place-variables_at place [] k v h = absurd cc
place-variables_at place (size ∷ sizes) zero v h =
    let same : record { place = place; size = size } ≡ v = cc in
    let at : place ≡ v.place = ap (λ (x : Variable). x.place) same in
    omega (arith, at)
place-variables_at place (size ∷ sizes) (suc k) v h =
    let sum = frame_size-cons size (take k sizes) in
    let rest = place-variables_at (place + rounded_size size) sizes k v h in
    omega (arith, sum, rest)

pub with_each-variables : (space : AddressSpace) (word k place : ℕ) (sizes : List ℕ) → with_each space word k (variables_at place sizes) ≡ with_variables space word k place sizes
unfolding variables_at with_each with_variables
with_each-variables space word k place [] = refl
with_each-variables space word k place (size ∷ sizes) =
    with_each-variables (with_fresh_object space place size (frame_tag_of word k)) word (k + 1) (place + rounded_size size) sizes

objects-cons : (v : Variable) (rest : List Variable) → (v.place % 16 ≡ 0) × (v.place + v.size < 2 ^ 56) → AreObjects rest → AreObjects (v ∷ rest)
objects-cons v rest first after zero d inside = first
objects-cons v rest first after (suc k) d inside = after k d (omega (arith, inside))

pub objects-variables_at : (place : ℕ) (sizes : List ℕ) → place % 16 ≡ 0 → place + frame_size sizes < 2 ^ 56 → AreObjects (variables_at place sizes)
unfolding variables_at
objects-variables_at place [] whole small = λ k d inside. absurd (omega (arith, inside))
objects-variables_at place (size ∷ sizes) whole small =
    let sum = frame_size-cons size sizes in
    let first = rounded-not_below size in
    let even = rounded-whole size in
    objects-cons (record { place = place; size = size }) (variables_at (place + rounded_size size) sizes) (whole, omega (arith, sum, first, small))
    (objects-variables_at (place + rounded_size size) sizes (omega (arith, even, whole)) (omega (arith, sum, small)))

-- one more variable is added
pub pushed-more : (items : List Variable) (sizes : List ℕ) (place k size : ℕ) (goal_ : List Variable) → slice_get sizes k ≡ Some size
    → items ++ variables_at place (drop k sizes) ≡ goal_
    → (items ++ record { place = place; size = size } ∷ []) ++ variables_at (place + rounded_size size) (drop (k + 1) sizes) ≡ goal_
unfolding variables_at
pushed-more items sizes place k size goal_ there h =
    append_assoc items (record { place = place; size = size } ∷ []) (variables_at (place + rounded_size size) (drop (k + 1) sizes))
    ∙ sym (ap (λ (xs : List ℕ). items ++ variables_at place xs) (drop-one sizes k size there))
    ∙ h

pub pushed-done : (items : List Variable) (sizes : List ℕ) (place k : ℕ) (goal_ : List Variable) → length sizes ≤ k
    → items ++ variables_at place (drop k sizes) ≡ goal_ → items ≡ goal_
unfolding variables_at
pushed-done items sizes place k goal_ all h =
    sym (append-nil items) ∙ sym (ap (λ (xs : List ℕ). items ++ variables_at place xs) (drop_all k sizes all)) ∙ h

pub pushed : {X E A : Type 0} (r : Result X E) (more same : A) → IsOk r → (if is_ok r then more else same) ≡ more
pushed (Ok x) more same ok = refl
pushed (Err e) more same ok = absurd cc

-- one more variable is born
pub born-more : (space goal_ : AddressSpace) (word k : ℕ) (v : Variable) (rest after : List Variable) → rest ≡ v ∷ after
    → with_each space word k rest ≡ goal_ → with_each (with_fresh_object space v.place v.size (frame_tag_of word k)) word (k + 1) after ≡ goal_
unfolding with_each
born-more space goal_ word k v rest after is h = sym (ap (λ (vs : List Variable). with_each space word k vs) is) ∙ h

pub born-done : (space goal_ : AddressSpace) (word k : ℕ) (rest : List Variable) → rest ≡ [] → with_each space word k rest ≡ goal_ → space ≡ goal_
unfolding with_each
born-done space goal_ word k rest is h = sym (ap (λ (vs : List Variable). with_each space word k vs) is) ∙ h

pub objects-first : (rest after : List Variable) (v : Variable) → rest ≡ v ∷ after → AreObjects rest → (v.place % 16 ≡ 0) × (v.place + v.size < 2 ^ 56)
objects-first rest after v is h = (subst (λ (vs : List Variable). AreObjects vs) is h) zero v (omega arith)

pub objects-after : (rest after : List Variable) (v : Variable) → rest ≡ v ∷ after → AreObjects rest → AreObjects after
objects-after rest after v is h = λ k d inside. (subst (λ (vs : List Variable). AreObjects vs) is h) (suc k) d (omega (arith, inside))
