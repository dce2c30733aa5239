-- The number that an integer's digits write, against a limit.
use Rattle.std.proofs.Common.{◌≡◌, ℕ, ◌+◌, ◌-◌, ◌*◌, ◌<◌, ◌≤◌, List, ◌∷◌, true, false, length, get_or, take, drop, arith, refl, sym, subst, inl, inr, ◌⊎◌, leb}
use Rattle.std.specs.List.{AllPass}
use Rattle.std.specs.Char.{is_ascii_digit, digit_value}
use Rattle.std.specs.Str.Parse.{digits_value}
use Rattle.std.proofs.lemmas.Bool.{lt-leb}
use Rattle.std.proofs.lemmas.Bool.Decides.{nat_tests}
use Rattle.std.proofs.lemmas.Int.Digits.{digits_value_more}
use Rattle.std.proofs.lemmas.Str.Parse.{digits_value-take-le}
use Rattle.ir_core.specs.Spelling.{Spells, IsDigits, minus}
use Rattle.ir_core.specs.Spelling.Spells.{integer, negative}
use Rattle.ir_core.specs.declared.token.TokenKind.TheVariants.{Integer}

digit_is : (b : ℕ) → is_ascii_digit b ≡ true → (digit_value b ≡ b - 48) × (b ≤ 57) × (48 ≤ b)
digit_is b h = (grind (arith, nat_tests), grind (arith, nat_tests), grind (arith, nat_tests))

-- a digit of digits
pub digit_at : (digits : List ℕ) (i : ℕ) → AllPass is_ascii_digit digits → i < length digits → (digit_value (get_or digits i 0) ≡ get_or digits i 0 - 48) × (get_or digits i 0 ≤ 57) × (48 ≤ get_or digits i 0)
digit_at digits i all inside = digit_is (get_or digits i 0) (all i 0 inside)

-- one digit more
pub value_more : (digits : List ℕ) (i value : ℕ) → AllPass is_ascii_digit digits → i < length digits → value ≡ digits_value 10 (take i digits) → digits_value 10 (take (i + 1) digits) ≡ value * 10 + (get_or digits i 0 - 48)
value_more digits i value all inside e = let step = digits_value_more 10 digits i inside in let digit = digit_at digits i all inside in omega (arith, digit.0)

-- once past the limit the number stays there
pub value_past : (digits : List ℕ) (i value limit : ℕ) → AllPass is_ascii_digit digits → i < length digits → value ≡ digits_value 10 (take i digits) → limit < value * 10 + (get_or digits i 0 - 48) → leb (digits_value 10 digits) limit ≡ false
value_past digits i value limit all inside e past =
    let step = value_more digits i value all inside e in
    let more : digits_value 10 (take (i + 1) digits) ≤ digits_value 10 digits = digits_value-take-le 10 digits (i + 1) (omega arith) in
    lt-leb (digits_value 10 digits) limit (omega arith)

-- an integer is digits, behind a minus or not
integer_parts : (s : List ℕ) → Spells Integer s → IsDigits s ⊎ ((bytes : List ℕ) × (s ≡ minus ∷ bytes) × IsDigits bytes)
integer_parts _ (integer s h) = inl h
integer_parts _ (negative s h) = inr (s, refl, h)

pub digits_behind_minus : (s : List ℕ) → Spells Integer s → get_or s 0 0 ≡ minus → AllPass is_ascii_digit (drop 1 s)
digits_behind_minus s h first =
    elim (integer_parts s h) [
      | inl digits ↦ let d = (digit_at s 0 digits.digits digits.some).2 in absurd (omega arith)
      | inr parts ↦ subst (λ x. AllPass is_ascii_digit (drop 1 x)) (sym parts.1) parts.2.digits
    ]
