-- Parts of lists and their items.
use Rattle.std.proofs.Common.{◌≡◌, ℕ, zero, suc, ◌+◌, ◌≤◌, List, [], ◌∷◌, ◌++◌, length, map, take, drop, slice_get, Some, refl, sym, ◌∙◌, ap, arith}

pub get-take : {X : Type 0} (n : ℕ) (xs : List X) (k : ℕ) (x : X) → slice_get (take n xs) k ≡ Some x → slice_get xs k ≡ Some x
get-take zero xs k x h = absurd cc
get-take (suc n) [] k x h = absurd cc
get-take (suc n) (y ∷ xs) zero x h = h
get-take (suc n) (y ∷ xs) (suc k) x h = get-take n xs k x h

pub get-drop : {X : Type 0} (n : ℕ) (xs : List X) (k : ℕ) (x : X) → slice_get (drop n xs) k ≡ Some x → slice_get xs (n + k) ≡ Some x
get-drop zero xs k x h = let e : k ≡ 0 + k = omega arith in ap (slice_get xs) (sym e) ∙ h
get-drop (suc n) [] k x h = absurd cc
get-drop (suc n) (y ∷ xs) k x h = let e : suc n + k ≡ suc (n + k) = omega arith in ap (slice_get (y ∷ xs)) e ∙ get-drop n xs k x h

pub length-part : {X : Type 0} (off count : ℕ) (xs : List X) → off + count ≤ length xs → length (take count (drop off xs)) ≡ count
length-part zero zero xs h = refl
length-part zero (suc n) [] h = absurd (omega (arith, h))
length-part zero (suc n) (x ∷ xs) h = ap suc (length-part zero n xs (omega (arith, h)))
length-part (suc off) zero [] h = refl
length-part (suc off) (suc n) [] h = absurd (omega (arith, h))
length-part (suc off) count (x ∷ xs) h = length-part off count xs (omega (arith, h))

-- an item of a list after a function
pub get-map : {X : Type 0} (f : X → ℕ) (xs : List X) (i n : ℕ) → slice_get (map f xs) i ≡ Some n → (x : X) × ((slice_get xs i ≡ Some x) × (f x ≡ n))
get-map f [] i n h = absurd cc
get-map f (x ∷ xs) zero n h = (x, (refl, let is : f x ≡ n = cc in is))
get-map f (x ∷ xs) (suc i) n h = get-map f xs i n h

pub get-append : {X : Type 0} (xs ys : List X) (k : ℕ) (x : X) → slice_get xs k ≡ Some x → slice_get (xs ++ ys) k ≡ Some x
get-append [] ys k x h = absurd cc
get-append (z ∷ xs) ys zero x h = h
get-append (z ∷ xs) ys (suc k) x h = get-append xs ys k x h
