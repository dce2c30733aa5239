-- Lists of births, objects and frames.
use Rattle.std.proofs.Common.{◌≡◌, ℕ, zero, suc, ◌<◌, Bool, true, false, ◌&&◌, List, [], ◌∷◌, ◌++◌, length, slice_get, Some, ◌⊎◌, inl, inr, refl, sym, ◌∙◌, ap, subst, arith}
use Rattle.std.specs.List.{list_all, filter, flat_map}
use Rattle.std.proofs.lemmas.List.Folds.{list_all-append}
use Rattle.ir_meaning.specs.Births.{changed_at}

-- an item of a list with one more is an old one, or the new one at the end
pub pushed-cases : {X : Type 0} (xs : List X) (new : X) (i : ℕ) (x : X) → slice_get (xs ++ new ∷ []) i ≡ Some x → (slice_get xs i ≡ Some x) ⊎ ((i ≡ length xs) × (x ≡ new))
pushed-cases [] new zero x e = inr (refl, cc)
pushed-cases [] new (suc i) x e = absurd cc
pushed-cases (y ∷ xs) new zero x e = inl e
pushed-cases (y ∷ xs) new (suc i) x e =
    elim (pushed-cases xs new i x e) [ inl old ↦ inl old | inr end ↦ let at = end.0 in inr (omega arith, end.1) ]

pub get-below : {X : Type 0} (xs : List X) (i : ℕ) (x : X) → slice_get xs i ≡ Some x → i < length xs
get-below [] i x e = absurd cc
get-below (y ∷ xs) zero x e = omega arith
get-below (y ∷ xs) (suc i) x e = let r = get-below xs i x e in omega arith

-- an item of a changed list is an old one at another place, or the changed one
pub changed-cases : {X : Type 0} (f : X → X) (xs : List X) (i j : ℕ) (y : X) → slice_get (changed_at f xs i) j ≡ Some y → (x : X) × (slice_get xs j ≡ Some x) × (((y ≡ x) × (j ≡ i → ⊥)) ⊎ ((y ≡ f x) × (j ≡ i)))
unfolding changed_at
changed-cases f [] i j y e = absurd cc
changed-cases f (x ∷ xs) zero zero y e = (x, refl, inr (cc, refl))
changed-cases f (x ∷ xs) zero (suc j) y e = (y, e, inl (refl, λ k. omega arith))
changed-cases f (x ∷ xs) (suc i) zero y e = (x, refl, inl (cc, λ k. omega arith))
changed-cases f (x ∷ xs) (suc i) (suc j) y e =
    let (old, there, kind) = changed-cases f xs i j y e in (
      old,
      there,
      elim kind [
        | inl other ↦ let apart = other.1 in inl (other.0, λ k. apart (omega arith))
        | inr here ↦ let at = here.1 in inr (here.0, omega arith)
      ],
    )

and-split : (s t : Bool) → (s && t) ≡ true → (s ≡ true) × (t ≡ true)
and-split true t h = (refl, h)
and-split false t h = absurd cc

-- a list whose items all pass a test
pub all-get : {X : Type 0} (p : X → Bool) (xs : List X) (i : ℕ) (x : X) → list_all p xs ≡ true → slice_get xs i ≡ Some x → p x ≡ true
all-get p [] i x all e = absurd cc
all-get p (y ∷ xs) zero x all e = let is : y ≡ x = cc in subst (λ z. p z ≡ true) is (and-split (p y) (list_all p xs) all).0
all-get p (y ∷ xs) (suc i) x all e = all-get p xs i x (and-split (p y) (list_all p xs) all).1 e

-- all items of all lists pass, so those of one do
pub all-flat : {X Y : Type 0} (p : Y → Bool) (f : X → List Y) (xs : List X) (i : ℕ) (x : X) → list_all p (flat_map f xs) ≡ true → slice_get xs i ≡ Some x → list_all p (f x) ≡ true
all-flat p f [] i x all e = absurd cc
all-flat p f (y ∷ xs) zero x all e =
    let is : y ≡ x = cc in
    subst (λ z. list_all p (f z) ≡ true) is (and-split (list_all p (f y)) (list_all p (flat_map f xs)) (sym (list_all-append p (f y) (flat_map f xs)) ∙ all)).0
all-flat p f (y ∷ xs) (suc i) x all e =
    all-flat p f xs i x (and-split (list_all p (f y)) (list_all p (flat_map f xs)) (sym (list_all-append p (f y) (flat_map f xs)) ∙ all)).1 e

-- an item of a filtered list, and its place in the list
pub record IsFiltered {X : Type 0} (p : X → Bool) (xs : List X) (x : X) : Type 0 where
  pub j : ℕ
  pub there : slice_get xs j ≡ Some x
  pub passes : p x ≡ true

filter-later : {X : Type 0} (p : X → Bool) (y : X) (xs : List X) (x : X) → IsFiltered p xs x → IsFiltered p (y ∷ xs) x
filter-later p y xs x h = record { j = suc h.j; there = h.there; passes = h.passes }

filter-kept : {X : Type 0} (p : X → Bool) (y : X) (xs : List X) (i : ℕ) (x : X) → p y ≡ true → ((k : ℕ) → slice_get (filter p xs) k ≡ Some x → IsFiltered p xs x) → slice_get (y ∷ filter p xs) i ≡ Some x → IsFiltered p (y ∷ xs) x
filter-kept p y xs zero x passes rest e = let is : y ≡ x = cc in record { j = 0; there = e; passes = subst (λ z. p z ≡ true) is passes }
filter-kept p y xs (suc i) x passes rest e = filter-later p y xs x (rest i e)

filter-by : {X : Type 0} (p : X → Bool) (y : X) (xs : List X) (i : ℕ) (x : X) (t : Bool) → p y ≡ t → ((k : ℕ) → slice_get (filter p xs) k ≡ Some x → IsFiltered p xs x) → slice_get (filter p (y ∷ xs)) i ≡ Some x → IsFiltered p (y ∷ xs) x
filter-by p y xs i x true is rest e =
    let kept : filter p (y ∷ xs) ≡ y ∷ filter p xs = rw is refl in
    filter-kept p y xs i x is rest (sym (ap (λ zs. slice_get zs i) kept) ∙ e)
filter-by p y xs i x false is rest e =
    let kept : filter p (y ∷ xs) ≡ filter p xs = rw is refl in
    filter-later p y xs x (rest i (sym (ap (λ zs. slice_get zs i) kept) ∙ e))

-- an item of a filtered list is in the list and passes
pub filter-get : {X : Type 0} (p : X → Bool) (xs : List X) (i : ℕ) (x : X) → slice_get (filter p xs) i ≡ Some x → IsFiltered p xs x
filter-get p [] i x e = absurd cc
filter-get p (y ∷ xs) i x e = filter-by p y xs i x (p y) refl (λ k h. filter-get p xs k x h) e

get-filter-by : {X : Type 0} (p : X → Bool) (y : X) (xs : List X) (k : ℕ) (x : X) (t : Bool) → p y ≡ t → slice_get (filter p xs) k ≡ Some x → (i : ℕ) × (slice_get (filter p (y ∷ xs)) i ≡ Some x)
get-filter-by p y xs k x true is h =
    let kept : filter p (y ∷ xs) ≡ y ∷ filter p xs = rw is refl in
    (suc k, ap (λ zs. slice_get zs (suc k)) kept ∙ h)
get-filter-by p y xs k x false is h =
    let kept : filter p (y ∷ xs) ≡ filter p xs = rw is refl in
    (k, ap (λ zs. slice_get zs k) kept ∙ h)

-- an item that passes is in the filtered list
pub get-filter : {X : Type 0} (p : X → Bool) (xs : List X) (j : ℕ) (x : X) → slice_get xs j ≡ Some x → p x ≡ true → (i : ℕ) × (slice_get (filter p xs) i ≡ Some x)
get-filter p [] j x e passes = absurd cc
get-filter p (y ∷ xs) zero x e passes =
    let is : x ≡ y = cc in
    let first : p y ≡ true = subst (λ z. p z ≡ true) is passes in
    let kept : filter p (y ∷ xs) ≡ y ∷ filter p xs = rw first refl in
    (0, ap (λ zs. slice_get zs 0) kept ∙ e)
get-filter p (y ∷ xs) (suc j) x e passes =
    let (k, there) = get-filter p xs j x e passes in
    get-filter-by p y xs k x (p y) refl there
