-- Bytes that are read after others were written.
use Rattle.std.proofs.Common.{◌≡◌, ℕ, ◌+◌, ◌*◌, ◌^◌, ◌<◌, ◌≤◌, List, ◌++◌, length, take, drop, sym, ◌∙◌, ap, arith}
use Rattle.std.proofs.lemmas.List.{append_assoc, drop-take, length-append, length-take-le, take-append-le, take-take}
use Rattle.std.proofs.Math.Seq.{drop-append_seam, take-append_seam}
use Rattle.std.proofs.lemmas.Slice.{drop-append-drop}
use Rattle.hw_base.proofs.ByteLaws.{length-le_bytes, le_number-le_bytes, pow-256}
use Rattle.hw_base.specs.Bytes.{le_bytes, le_number}
use Rattle.hw_region.specs.RegionBytes.{bytes_from, with_bytes_at}

pub from_written : (bytes others : List ℕ) (at : ℕ) → at ≤ length bytes → bytes_from (with_bytes_at bytes at others) at (length others) ≡ others
from_written bytes others at inside =
    let front : length (take at bytes) ≡ at = length-take-le at bytes inside in
    let past : drop at (take at bytes ++ others ++ drop (at + length others) bytes) ≡ others ++ drop (at + length others) bytes =
    ap (λ (ys : List ℕ). drop at ys) (append_assoc (take at bytes) others (drop (at + length others) bytes))
    ∙ ap (λ (k : ℕ). drop k (take at bytes ++ (others ++ drop (at + length others) bytes))) (sym front)
    ∙ drop-append_seam (take at bytes) (others ++ drop (at + length others) bytes) in
    ap (λ (ys : List ℕ). take (length others) ys) past ∙ take-append_seam others (drop (at + length others) bytes)

pub number_from_written : (bytes : List ℕ) (at n v : ℕ) → at ≤ length bytes → v < 2 ^ (8 * n) → le_number (bytes_from (with_bytes_at bytes at (le_bytes n v)) at n) ≡ v
number_from_written bytes at n v inside fits =
    let count : length (le_bytes n v) ≡ n = length-le_bytes n v in
    let there : bytes_from (with_bytes_at bytes at (le_bytes n v)) at (length (le_bytes n v)) ≡ le_bytes n v = from_written bytes (le_bytes n v) at inside in
    let there' : bytes_from (with_bytes_at bytes at (le_bytes n v)) at n ≡ le_bytes n v = ap (λ (k : ℕ). bytes_from (with_bytes_at bytes at (le_bytes n v)) at k) (sym count) ∙ there in
    let power : 256 ^ n ≡ 2 ^ (8 * n) = pow-256 n in
    ap le_number there' ∙ le_number-le_bytes n v (omega (arith, power, fits))

take_before : (bytes others rest : List ℕ) (at n : ℕ) → at ≤ length bytes → n ≤ at → take n (take at bytes ++ others ++ rest) ≡ take n bytes
take_before bytes others rest at n inside before =
    let count : length (take at bytes) ≡ at = length-take-le at bytes inside in
    let fewer : n ≤ length (take at bytes) = omega (arith, count, before) in
    ap (λ (ys : List ℕ). take n ys) (append_assoc (take at bytes) others rest) ∙ take-append-le n (take at bytes) (others ++ rest) fewer ∙ take-take n at bytes before

pub before_written : (bytes others : List ℕ) (at place count : ℕ) → at ≤ length bytes → place + count ≤ at
    → bytes_from (with_bytes_at bytes at others) place count ≡ bytes_from bytes place count
before_written bytes others at place count inside before =
    sym (drop-take place count (with_bytes_at bytes at others))
    ∙ ap (λ (ys : List ℕ). drop place ys) (take_before bytes others (drop (at + length others) bytes) at (place + count) inside before)
    ∙ drop-take place count bytes

pub after_written : (bytes others : List ℕ) (at place count : ℕ) → at ≤ length bytes → at + length others ≤ place
    → bytes_from (with_bytes_at bytes at others) place count ≡ bytes_from bytes place count
after_written bytes others at place count inside after =
    let front : length (take at bytes) ≡ at = length-take-le at bytes inside in
    let both : length (take at bytes ++ others) ≡ length (take at bytes) + length others = length-append (take at bytes) others in
    ap (λ (ys : List ℕ). take count ys)
    (drop-append-drop (at + length others) bytes (take at bytes ++ others) place after (omega (arith, front, both)))

-- bytes that are written after others
pub written_append : (bytes first second : List ℕ) (at next : ℕ) → at + length first ≤ length bytes → next ≡ at + length first
    → with_bytes_at (with_bytes_at bytes at first) next second ≡ with_bytes_at bytes at (first ++ second)
written_append bytes first second at next inside e =
    let front : length (take at bytes) ≡ at = length-take-le at bytes (omega (arith, inside)) in
    let both : length (take at bytes ++ first) ≡ length (take at bytes) + length first = length-append (take at bytes) first in
    let seam : next ≡ length (take at bytes ++ first) = omega (arith, front, both, e) in
    let count : length (first ++ second) ≡ length first + length second = length-append first second in
    let last : next + length second ≡ at + length (first ++ second) = omega (arith, count, e) in
    let before : take next (with_bytes_at bytes at first) ≡ take at bytes ++ first =
    ap (λ (k : ℕ). take k (with_bytes_at bytes at first)) seam ∙ take-append_seam (take at bytes ++ first) (drop (at + length first) bytes) in
    let after : drop (next + length second) (with_bytes_at bytes at first) ≡ drop (next + length second) bytes =
    drop-append-drop (at + length first) bytes (take at bytes ++ first) (next + length second) (omega (arith, e)) (omega (arith, front, both)) in
    ap (λ (ys : List ℕ). ys ++ second ++ drop (next + length second) (with_bytes_at bytes at first)) before
    ∙ ap (λ (ys : List ℕ). take at bytes ++ first ++ second ++ ys) after
    ∙ ap (λ (k : ℕ). take at bytes ++ first ++ second ++ drop k bytes) last
    ∙ ap (λ (ys : List ℕ). ys ++ drop (at + length (first ++ second)) bytes) (append_assoc (take at bytes) first second)
