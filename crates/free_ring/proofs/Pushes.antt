-- What pushes keep.
use Rattle.std.proofs.Common.{◌≡◌, ℕ, zero, suc, ◌≤◌, List, [], ◌∷◌, ◌++◌, length, take, reverse, refl, sym, ◌∙◌, ap, arith}
use Rattle.std.proofs.lemmas.Grind.{reverse_onto}
use Rattle.std.proofs.lemmas.List.{length-take, take_all, take-take}
use Rattle.free_ring.specs.Kept.{Kept, with_newest, after_pushes}

pub take-append-take : {R : Type 0} (xs ys : List R) (m n : ℕ) → m ≤ n → take m (xs ++ take n ys) ≡ take m (xs ++ ys)
take-append-take [] ys m n h = take-take m n ys h
take-append-take (x ∷ xs) ys zero n h = refl
take-append-take (x ∷ xs) ys (suc m) n h = ap (λ l. x ∷ l) (take-append-take xs ys m n (omega arith))

append-one : {R : Type 0} (xs : List R) (y : R) (ys : List R) → (xs ++ y ∷ []) ++ ys ≡ xs ++ y ∷ ys
append-one [] y ys = refl
append-one (x ∷ xs) y ys = ap (λ l. x ∷ l) (append-one xs y ys)

reverse-append : {R : Type 0} (x : R) (xs ys : List R) → reverse (x ∷ xs) ++ ys ≡ reverse xs ++ x ∷ ys
reverse-append x xs ys = ap (λ l. l ++ ys) (reverse_onto xs x []) ∙ append-one (reverse xs) x ys

pub after_pushes-size : {R : Type 0} (ring : Kept R) (pushed : List R) → (after_pushes ring pushed).size ≡ ring.size
unfolding after_pushes
after_pushes-size ring [] = refl
after_pushes-size ring (r ∷ later) = after_pushes-size (with_newest ring r) later

pub after_pushes-kept : {R : Type 0} (ring : Kept R) (pushed : List R) → length ring.kept ≤ ring.size → (after_pushes ring pushed).kept ≡ take ring.size (reverse pushed ++ ring.kept)
unfolding after_pushes
after_pushes-kept ring [] h = sym (take_all ring.size ring.kept h)
after_pushes-kept ring (r ∷ later) h =
    let few : length (take ring.size (r ∷ ring.kept)) ≤ ring.size = rw (length-take ring.size (r ∷ ring.kept)) omega arith in
    let last : (after_pushes (with_newest ring r) later).kept ≡ take ring.size (reverse later ++ take ring.size (r ∷ ring.kept)) = after_pushes-kept (with_newest ring r) later few in
    last ∙ (take-append-take (reverse later) (r ∷ ring.kept) ring.size ring.size (omega arith) ∙ sym (ap (take ring.size) (reverse-append r later ring.kept)))
