-- Bytes with zeros after them.
use Rattle.std.proofs.Common.{◌≡◌, ℕ, zero, suc, ◌+◌, ◌-◌, ◌*◌, ◌<◌, ◌≤◌, List, [], ◌∷◌, ◌++◌, length, take, drop, Some, refl, sym, ◌∙◌, ap, arith}
use Rattle.std.specs.Prelude.{slice_get, replicate}
use Rattle.std.proofs.lemmas.List.{append_assoc, drop-append-le, drop-replicate, length-append, length-drop, length-replicate, length-take-le, replicate-append-replicate, take-append-le, take-replicate}
use Rattle.hw_base.specs.Bytes.{le_number}
use Rattle.hw_region.proofs.PlaceLemmas.{slice_get-append_first, slice_get-append_second}
use Rattle.hw_region.specs.RegionBytes.{bytes_from, with_bytes_at, zeros_after}

pub length-zeros_after : (bytes : List ℕ) (len : ℕ) → length bytes ≤ len → length (zeros_after bytes len) ≡ len
length-zeros_after bytes len within =
    let both : length (zeros_after bytes len) ≡ length bytes + length {A = ℕ} (replicate (len - length bytes) 0) = length-append bytes (replicate (len - length bytes) 0) in
    let zeros : length {A = ℕ} (replicate (len - length bytes) 0) ≡ len - length bytes = length-replicate (len - length bytes) 0 in
    omega (arith, both, zeros, within)

-- zeros that are kept from then on
pub zeros_after-kept : (bytes : List ℕ) (count len : ℕ) → length bytes + count ≤ len → zeros_after (bytes ++ replicate count 0) len ≡ zeros_after bytes len
zeros_after-kept bytes count len within =
    let both : length (bytes ++ replicate count 0) ≡ length bytes + length {A = ℕ} (replicate count 0) = length-append bytes (replicate count 0) in
    let zeros : length {A = ℕ} (replicate count 0) ≡ count = length-replicate count 0 in
    let rest : len - length (bytes ++ replicate count 0) ≡ len - length bytes - count = omega (arith, both, zeros) in
    let all : count + (len - length bytes - count) ≡ len - length bytes = omega (arith, within) in
    ap (λ (n : ℕ). bytes ++ replicate count 0 ++ replicate n 0) rest
    ∙ append_assoc bytes (replicate count 0) (replicate (len - length bytes - count) 0)
    ∙ ap (λ (zs : List ℕ). bytes ++ zs) (replicate-append-replicate count (len - length bytes - count) 0)
    ∙ ap (λ (n : ℕ). bytes ++ replicate n 0) all

pub length-with_bytes_at : (bytes others : List ℕ) (at : ℕ) → at + length others ≤ length bytes → length (with_bytes_at bytes at others) ≡ length bytes
length-with_bytes_at bytes others at inside =
    let front : length (take at bytes) ≡ at = length-take-le at bytes (omega (arith, inside)) in
    let first : length (take at bytes ++ others) ≡ length (take at bytes) + length others = length-append (take at bytes) others in
    let all : length (with_bytes_at bytes at others) ≡ length (take at bytes ++ others) + length (drop (at + length others) bytes) = length-append (take at bytes ++ others) (drop (at + length others) bytes) in
    let rest : length (drop (at + length others) bytes) ≡ length bytes - (at + length others) = length-drop (at + length others) bytes in
    omega (arith, front, first, all, rest, inside)

-- bytes that are written before the zeros
pub zeros_after-written : (bytes others : List ℕ) (at len : ℕ) → at + length others ≤ length bytes
    → zeros_after (with_bytes_at bytes at others) len ≡ with_bytes_at (zeros_after bytes len) at others
zeros_after-written bytes others at len inside =
    let same : length (with_bytes_at bytes at others) ≡ length bytes = length-with_bytes_at bytes others at inside in
    let zeros : List ℕ = replicate (len - length bytes) 0 in
    let front : take at (bytes ++ zeros) ≡ take at bytes = take-append-le at bytes zeros (omega (arith, inside)) in
    let rest : drop (at + length others) (bytes ++ zeros) ≡ drop (at + length others) bytes ++ zeros = drop-append-le (at + length others) bytes zeros inside in
    ap (λ (n : ℕ). with_bytes_at bytes at others ++ replicate (len - n) 0) same
    ∙ append_assoc (take at bytes ++ others) (drop (at + length others) bytes) zeros
    ∙ ap (λ (ys : List ℕ). take at bytes ++ others ++ ys) (sym rest)
    ∙ ap (λ (ys : List ℕ). ys ++ others ++ drop (at + length others) (bytes ++ zeros)) (sym front)

-- bytes that are read before the zeros
pub bytes_from-before : (bytes : List ℕ) (at count len : ℕ) → at + count ≤ length bytes → bytes_from (zeros_after bytes len) at count ≡ bytes_from bytes at count
bytes_from-before bytes at count len inside =
    let zeros : List ℕ = replicate (len - length bytes) 0 in
    let left : length (drop at bytes) ≡ length bytes - at = length-drop at bytes in
    ap (λ (ys : List ℕ). take count ys) (drop-append-le at bytes zeros (omega (arith, inside)))
    ∙ take-append-le count (drop at bytes) zeros (omega (arith, left, inside))

le_number-zeros : (count : ℕ) → le_number (replicate count 0) ≡ 0
unfolding le_number
le_number-zeros zero = refl
le_number-zeros (suc count) = let rest : le_number (replicate count 0) ≡ 0 = le_number-zeros count in omega (arith, rest)

le_number-append_zeros : (bytes : List ℕ) (count : ℕ) → le_number (bytes ++ replicate count 0) ≡ le_number bytes
unfolding le_number
le_number-append_zeros [] count = le_number-zeros count
le_number-append_zeros (byte ∷ bytes) count = ap (λ (n : ℕ). byte + 256 * n) (le_number-append_zeros bytes count)

le_number-take_zeros : (bytes : List ℕ) (count more : ℕ) → length bytes ≤ count → count ≤ length bytes + more → le_number (take count (bytes ++ replicate more 0)) ≡ le_number bytes
unfolding le_number
le_number-take_zeros [] count more few enough = ap le_number (take-replicate count more 0 (omega (arith, enough))) ∙ le_number-zeros count
le_number-take_zeros (byte ∷ bytes) zero more few enough = absurd (omega (arith, few))
le_number-take_zeros (byte ∷ bytes) (suc count) more few enough =
    ap (λ (n : ℕ). byte + 256 * n) (le_number-take_zeros bytes count more (omega (arith, few)) (omega (arith, enough)))

-- the number of bytes up to a place among the zeros
pub number-past : (bytes : List ℕ) (at count len : ℕ) → length bytes ≤ at + count → at + count ≤ len → length bytes ≤ len
    → le_number (bytes_from (zeros_after bytes len) at count) ≡ le_number (drop at bytes)
number-past bytes at count len past inside within = by_place bytes at (len - length bytes) past (omega (arith, inside, within))
  where
    by_place : (bytes : List ℕ) (at more : ℕ) → length bytes ≤ at + count → at + count ≤ length bytes + more
        → le_number (take count (drop at (bytes ++ replicate more 0))) ≡ le_number (drop at bytes)
    by_place bytes zero more past inside = le_number-take_zeros bytes count more (omega (arith, past)) (omega (arith, inside))
    by_place [] (suc at) more past inside =
        ap (λ (ys : List ℕ). le_number (take count ys)) (drop-replicate (suc at) more 0)
        ∙ le_number-take_zeros [] count (more - suc at) (omega arith) (omega (arith, inside))
    by_place (byte ∷ bytes) (suc at) more past inside = by_place bytes at more (omega (arith, past)) (omega (arith, inside))

-- the byte at a place before the zeros, or among them
pub byte-before : (bytes : List ℕ) (at len : ℕ) → at < length bytes → slice_get (zeros_after bytes len) at ≡ slice_get bytes at
byte-before bytes at len before = slice_get-append_first bytes (replicate (len - length bytes) 0) at before

slice_get-replicate : (count i : ℕ) → i < count → slice_get {X = ℕ} (replicate count 0) i ≡ Some 0
slice_get-replicate zero i inside = absurd (omega (arith, inside))
slice_get-replicate (suc count) zero inside = refl
slice_get-replicate (suc count) (suc i) inside = slice_get-replicate count i (omega (arith, inside))

pub byte-past : (bytes : List ℕ) (at len : ℕ) → length bytes ≤ at → at < len → slice_get (zeros_after bytes len) at ≡ Some 0
byte-past bytes at len past inside =
    slice_get-append_second bytes (replicate (len - length bytes) 0) at (at - length bytes) (omega (arith, past))
    ∙ slice_get-replicate (len - length bytes) (at - length bytes) (omega (arith, past, inside))

-- zeros that are written among the zeros
pub zeros-written : (bytes : List ℕ) (at count len : ℕ) → length bytes ≤ at → at + count ≤ len
    → zeros_after bytes len ≡ with_bytes_at (zeros_after bytes len) at (replicate count 0)
zeros-written bytes at count len past inside =
    sym
    (ap (λ (n : ℕ). take at (zeros_after bytes len) ++ replicate count 0 ++ drop (at + n) (zeros_after bytes len)) (length-replicate count 0)
    ∙ by_place bytes at (len - length bytes) past (omega (arith, past, inside)))
  where
    by_place : (bytes : List ℕ) (at more : ℕ) → length bytes ≤ at → at + count ≤ length bytes + more
        → take at (bytes ++ replicate more 0) ++ replicate count 0 ++ drop (at + count) (bytes ++ replicate more 0) ≡ bytes ++ replicate more 0
    by_place [] at more past inside =
        let all : at + count + (more - (at + count)) ≡ more = omega (arith, inside) in
        ap (λ (ys : List ℕ). ys ++ replicate count 0 ++ drop (at + count) (replicate more 0)) (take-replicate at more 0 (omega (arith, inside)))
        ∙ ap (λ (ys : List ℕ). replicate at 0 ++ replicate count 0 ++ ys) (drop-replicate (at + count) more 0)
        ∙ ap (λ (ys : List ℕ). ys ++ replicate (more - (at + count)) 0) (replicate-append-replicate at count 0)
        ∙ replicate-append-replicate (at + count) (more - (at + count)) 0
        ∙ ap (λ (n : ℕ). replicate n 0) all
    by_place (byte ∷ bytes) zero more past inside = absurd (omega (arith, past))
    by_place (byte ∷ bytes) (suc at) more past inside =
        let next : suc at + count ≡ suc (at + count) = omega arith in
        ap (λ (n : ℕ). byte ∷ (take at (bytes ++ replicate more 0) ++ replicate count 0 ++ drop n (byte ∷ (bytes ++ replicate more 0)))) next
        ∙ ap (λ (ys : List ℕ). byte ∷ ys) (by_place bytes at more (omega (arith, past)) (omega (arith, inside)))
