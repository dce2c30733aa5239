-- A number's bytes, one byte on.
use Rattle.std.proofs.Common.{◌≡◌, ℕ, suc, ◌+◌, ◌-◌, ◌*◌, ◌/◌, ◌%◌, ◌^◌, ◌<◌, ◌≤◌, List, [], ◌∷◌, ◌++◌, length, get_or, set, take, drop, refl, sym, ◌∙◌, ap, arith, pow-suc}
use Rattle.std.proofs.Math.Pow.{pow_mono}
use Rattle.std.proofs.lemmas.List.{append-nil, append_assoc, drop_all, drop_more, take_all, take_more_set}
use Rattle.hw_base.proofs.ByteLaws.{pow-256}
use Rattle.hw_base.specs.Bytes.{le_bytes, le_number}

-- a byte more in front of those that spell the value
pub spelled_more : (xs : List ℕ) (i value : ℕ) → 0 < i → i ≤ length xs → value ≡ le_number (drop i xs) → value * 256 + get_or xs (i - 1) 0 ≡ le_number (drop (i - 1) xs)
unfolding le_number
spelled_more xs i value some inside e =
    let next : i - 1 + 1 ≡ i = omega arith in
    let more : drop (i - 1) xs ≡ get_or xs (i - 1) 0 ∷ drop (i - 1 + 1) xs = drop_more xs (i - 1) 0 (omega arith) in
    let more' : drop (i - 1) xs ≡ get_or xs (i - 1) 0 ∷ drop i xs = more ∙ ap (λ (k : ℕ). get_or xs (i - 1) 0 ∷ drop k xs) next in
    rw more' (omega (arith, e))

pub below_more : (n i value byte : ℕ) → 0 < i → i ≤ n → byte < 256 → value < 256 ^ (n - i) → value * 256 + byte < 256 ^ (n - (i - 1))
below_more n i value byte some inside small below =
    let next : n - (i - 1) ≡ suc (n - i) = omega arith in
    let e : 256 ^ (n - (i - 1)) ≡ 256 ^ (n - i) * 256 = ap (λ (k : ℕ). 256 ^ k) next ∙ pow-suc 256 (n - i) in
    rw e (omega (arith, below, small))

-- no byte spells 0
pub spelled_none : (xs : List ℕ) → 0 ≡ le_number (drop (length xs) xs)
unfolding le_number
spelled_none xs = rw (drop_all (length xs) xs (omega arith)) refl

pub below_none : (n : ℕ) → 0 < 256 ^ (n - n)
below_none n = let none : n - n ≡ 0 = omega arith in rw none (omega arith)

-- sixteen bytes make 128 bits
pub below_128 : (n value : ℕ) → n ≤ 16 → value < 256 ^ n → value < 2 ^ 128
below_128 n value few below =
    let e : 256 ^ n ≡ 2 ^ (8 * n) = pow-256 n in
    let bits : 8 * n ≤ 128 = omega (arith, few) in
    let most : 2 ^ (8 * n) ≤ 2 ^ 128 = pow_mono bits in
    omega (arith, e, most, below)

-- the bits of a number of all the bytes
pub below_bits : (n i value : ℕ) → i ≤ 0 → value < 256 ^ (n - i) → value < 2 ^ (8 * n)
below_bits n i value first below =
    let all : n - i ≡ n = omega (arith, first) in
    let e : 256 ^ (n - i) ≡ 2 ^ (8 * n) = ap (λ (k : ℕ). 256 ^ k) all ∙ pow-256 n in
    omega (arith, e, below)

-- the next byte is written
pub written_more : (xs : List ℕ) (n i rest v : ℕ) → length xs ≡ n → i < n → take i xs ++ le_bytes (n - i) rest ≡ le_bytes n v
    → take (i + 1) (set xs i (rest % 256)) ++ le_bytes (n - (i + 1)) (rest / 256) ≡ le_bytes n v
unfolding le_bytes
written_more xs n i rest v count inside e =
    let next : n - i ≡ suc (n - (i + 1)) = omega arith in
    let e' : take i xs ++ le_bytes (suc (n - (i + 1))) rest ≡ le_bytes n v = ap (λ (k : ℕ). take i xs ++ le_bytes k rest) (sym next) ∙ e in
    let more : take (i + 1) (set xs i (rest % 256)) ≡ take i xs ++ rest % 256 ∷ [] = take_more_set xs i (rest % 256) (omega (arith, count)) in
    rw more (append_assoc (take i xs) (rest % 256 ∷ []) (le_bytes (n - (i + 1)) (rest / 256)) ∙ e')

pub written_all : (xs : List ℕ) (n i rest v : ℕ) → length xs ≡ n → n ≤ i → take i xs ++ le_bytes (n - i) rest ≡ le_bytes n v → xs ≡ le_bytes n v
unfolding le_bytes
written_all xs n i rest v count all e =
    let none : n - i ≡ 0 = omega arith in
    let e' : take i xs ++ le_bytes 0 rest ≡ le_bytes n v = ap (λ (k : ℕ). take i xs ++ le_bytes k rest) (sym none) ∙ e in
    sym (append-nil xs) ∙ ap (λ (ys : List ℕ). ys ++ []) (sym (take_all i xs (omega (arith, count, all)))) ∙ e'
