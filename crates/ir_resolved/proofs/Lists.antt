-- What holds of each of a list: of parts of joined lists, and of what is made from it.
use Rattle.std.proofs.Common.{◌≡◌, ℕ, zero, suc, List, [], ◌∷◌, ◌++◌, map, take, drop, slice_get, Bool, true, IfSome, All, refl}
use Rattle.std.specs.List.{flat_map}
use Rattle.std.proofs.lemmas.List.Elements.{All-nil, All-cons, All-head, All-tail}
use Rattle.ir_read_items.specs.Rows.{Each}

-- ---- joined lists

pub append_none : {A : Type 0} (xs ys : List A) → xs ++ ys ≡ [] → (xs ≡ []) × (ys ≡ [])
append_none [] ys h = (refl, h)
append_none (x ∷ xs) ys h = absurd (let e : x ∷ (xs ++ ys) ≡ [] = h in cc)

pub each_split : {A : Type 0} (P : A → Type 0) (xs ys : List A) → Each P (xs ++ ys) → Each P xs × Each P ys
each_split P [] ys h = (tt, h)
each_split P (x ∷ xs) ys h = let m = each_split P xs ys h.1 in ((h.0, m.0), m.1)

pub each_append : {A : Type 0} (P : A → Type 0) (xs ys : List A) → Each P xs → Each P ys → Each P (xs ++ ys)
each_append P [] ys h k = k
each_append P (x ∷ xs) ys h k = (h.0, each_append P xs ys h.1 k)

pub each_parts : {A B : Type 0} (P : B → Type 0) (f : A → List B) (xs : List A) → Each P (flat_map f xs) → Each (λ x. Each P (f x)) xs
each_parts P f [] h = tt
each_parts P f (x ∷ xs) h = let m = each_split P (f x) (flat_map f xs) h in (m.0, each_parts P f xs m.1)

pub each_whole : {A B : Type 0} (P : B → Type 0) (f : A → List B) (xs : List A) → Each (λ x. Each P (f x)) xs → Each P (flat_map f xs)
each_whole P f [] h = tt
each_whole P f (x ∷ xs) h = each_append P (f x) (flat_map f xs) h.0 (each_whole P f xs h.1)

-- ---- tests

-- each passes the test
abbrev pub AllPass : {A : Type 0} → (A → Bool) → List A → Type 0
AllPass {A} test xs = Each (λ (x : A). test x ≡ true) xs

pub pass_split : {A : Type 0} (test : A → Bool) (xs ys : List A) → AllPass test (xs ++ ys) → AllPass test xs × AllPass test ys
pass_split {A} test xs ys h = each_split (λ (x : A). test x ≡ true) xs ys h

pub pass_parts : {A B : Type 0} (test : B → Bool) (f : A → List B) (xs : List A) → AllPass test (flat_map f xs) → Each (λ (x : A). AllPass test (f x)) xs
pass_parts {A} {B} test f xs h = each_parts (λ (x : B). test x ≡ true) f xs h

-- ---- parts

pub each_take : {A : Type 0} (P : A → Type 0) (n : ℕ) (xs : List A) → Each P xs → Each P (take n xs)
each_take P zero xs h = tt
each_take P (suc n) [] h = tt
each_take P (suc n) (x ∷ xs) h = (h.0, each_take P n xs h.1)

pub each_drop : {A : Type 0} (P : A → Type 0) (n : ℕ) (xs : List A) → Each P xs → Each P (drop n xs)
each_drop P zero xs h = h
each_drop P (suc n) [] h = tt
each_drop P (suc n) (x ∷ xs) h = each_drop P n xs h.1

pub each_got : {A : Type 0} (P : A → Type 0) (xs : List A) (i : ℕ) → Each P xs → IfSome (slice_get xs i) P
each_got P [] i h = tt
each_got P (x ∷ xs) zero h = h.0
each_got P (x ∷ xs) (suc i) h = each_got P xs i h.1

-- ---- what follows from it

pub each_weaker : {A : Type 0} (P Q : A → Type 0) → ((x : A) → P x → Q x) → (xs : List A) → Each P xs → Each Q xs
each_weaker P Q f [] h = tt
each_weaker P Q f (x ∷ xs) h = (f x h.0, each_weaker P Q f xs h.1)

pub each_all : {A : Type 0} (P : A → Type 0) (xs : List A) → All P xs → Each P xs
each_all P [] h = tt
each_all P (x ∷ xs) h = (All-head P x xs h, each_all P xs (All-tail P x xs h))

-- what is made from each has what follows from two facts
pub all_made : {A B : Type 0} (P Q : A → Type 0) (R : B → Type 0) (f : A → B) → ((x : A) → P x → Q x → R (f x))
    → (xs : List A) → Each P xs → Each Q xs → All R (map f xs)
all_made P Q R f go [] h k = All-nil R
all_made P Q R f go (x ∷ xs) h k = All-cons R (f x) (map f xs) (go x h.0 k.0) (all_made P Q R f go xs h.1 k.1)
