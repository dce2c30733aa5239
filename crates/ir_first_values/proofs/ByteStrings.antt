-- The pieces of byte strings.
use Rattle.std.proofs.Common.{◌≡◌, ℕ, zero, suc, ◌+◌, ◌-◌, ◌*◌, ◌/◌, ◌^◌, ◌<◌, ◌≤◌, List, [], ◌∷◌, ◌++◌, length, take, drop, Some, All, arith, refl, sym, ◌∙◌, ap, subst, append_assoc, length-drop}
use Rattle.std.proofs.lemmas.Nat.{pow-add}
use Rattle.std.proofs.lemmas.List.Elements.{All-head, All-tail}
use Rattle.std.proofs.Math.Nat.{pow-le-pow_right}
use Rattle.ir_core.specs.declared.operands.Part.{Part}
use Rattle.ir_first_values.specs.FirstValues.{little_endian, bytes_piece, string_pieces}
use Rattle.ir_first_values.specs.Answers.{behind}
use Rattle.ir_first_values.proofs.TextBytes.{IsByte}

-- one more byte below
pub byte_more : (n : ℕ) → 2 ^ (8 * suc n) ≡ 256 * 2 ^ (8 * n)
byte_more n =
    let e : 8 * suc n ≡ 8 + 8 * n = omega arith in
    ap (λ k. 2 ^ k) e ∙ pow-add 2 8 (8 * n)

pub one_more_byte : (b v n : ℕ) → b < 256 → v < 2 ^ (8 * n) → b + 256 * v < 2 ^ (8 * suc n)
one_more_byte b v n h k = let e = byte_more n in omega arith

-- bytes make a number of so many bytes
pub little_endian_below : (bytes : List ℕ) → All IsByte bytes → little_endian bytes < 2 ^ (8 * length bytes)
little_endian_below [] all = omega arith
little_endian_below (b ∷ bytes) all = one_more_byte b (little_endian bytes) (length bytes) (All-head IsByte b bytes all) (little_endian_below bytes (All-tail IsByte b bytes all))

-- at most 16 bytes make a number of 128 bits
pub in_16_bytes : (n v : ℕ) → n ≤ 16 → v < 2 ^ (8 * n) → v < 2 ^ 128
in_16_bytes n v le h = let grows : 2 ^ (8 * n) ≤ 2 ^ 128 = pow-le-pow_right {n = 2} (omega arith) {i = 8 * n} {j = 128} (omega arith) in omega arith

-- one piece more
pub string_more : (at : ℕ) (bytes : List ℕ) → 16 ≤ length bytes → string_pieces (length bytes / 16) at bytes ≡ bytes_piece at (take 16 bytes) ++ string_pieces (length (drop 16 bytes) / 16) (at + 16) (drop 16 bytes)
string_more at bytes h =
    let rest : length (drop 16 bytes) ≡ length bytes - 16 = length-drop 16 bytes in
    let n : length bytes / 16 ≡ suc (length (drop 16 bytes) / 16) = omega (arith, rest) in
    ap (λ k. string_pieces k at bytes) n

-- no piece of 16 bytes
pub string_last : (at : ℕ) (bytes : List ℕ) → length bytes < 16 → string_pieces (length bytes / 16) at bytes ≡ bytes_piece at bytes
string_last at bytes h = let n : length bytes / 16 ≡ 0 = omega arith in ap (λ k. string_pieces k at bytes) n

-- pieces behind those that were put
pub behind_more : (old mid xs ys : List Part) → behind old (Some xs) ≡ Some mid → behind old (Some (xs ++ ys)) ≡ behind mid (Some ys)
behind_more old mid xs ys h =
    let e : old ++ xs ≡ mid = cc in
    ap Some (sym (append_assoc old xs ys) ∙ ap (λ l. l ++ ys) e)

-- one piece of 16 bytes was put
pub round_put : (old new : List Part) (place : ℕ) (rest front more : List ℕ) → 16 ≤ length rest → front ≡ take 16 rest → more ≡ drop 16 rest → behind old (Some (bytes_piece place front)) ≡ Some new
    → behind new (Some (string_pieces (length more / 16) (place + 16) more)) ≡ behind old (Some (string_pieces (length rest / 16) place rest))
round_put old new place rest front more enough f m h =
    ap (λ v. behind new (Some (string_pieces (length v / 16) (place + 16) v))) m
    ∙ (sym (behind_more old new (bytes_piece place (take 16 rest)) (string_pieces (length (drop 16 rest) / 16) (place + 16) (drop 16 rest)) (ap (λ v. behind old (Some (bytes_piece place v))) (sym f) ∙ h))
    ∙ ap (λ v. behind old (Some v)) (sym (string_more place rest enough)))

-- a byte below the number of some bytes
pub byte_below : (b v n m : ℕ) → b < 256 → m ≡ suc n → v < 2 ^ (8 * n) → b + 256 * v < 2 ^ (8 * m)
byte_below b v n m h e k = subst (λ i. b + 256 * v < 2 ^ (8 * i)) (sym e) (one_more_byte b v n h k)

-- so it is one of 128 bits
pub byte_fits : (b v n m : ℕ) → b < 256 → m ≡ suc n → m ≤ 16 → v < 2 ^ (8 * n) → b + 256 * v < 2 ^ 128
byte_fits b v n m h e le k = in_16_bytes m (b + 256 * v) le (byte_below b v n m h e k)
