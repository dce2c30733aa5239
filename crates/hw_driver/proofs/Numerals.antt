-- The number that digits spell.
use Rattle.std.proofs.Common.{◌≡◌, ℕ, ◌<◌, ◌^◌, Bool, true, false, ◌&&◌, List, [], ◌∷◌, length, refl, arith, rules, Result, Ok, Err, Some, None}
use Rattle.std.specs.Prelude.{nat_lt, nat_le, Option, if◌then◌else◌}
use Rattle.std.specs.Char.{is_ascii_digit}
use Rattle.std.specs.List.{list_all}
use Rattle.std.specs.Str.Parse.{digits_value, ParsesUnsigned}
use Rattle.std.specs.Result.{result_ok, OkIff}
use Rattle.std.proofs.lemmas.Str.Parse.{IsNumeralModel, numerals_by_value, parse_digits}
use Rattle.std.proofs.lemmas.Bool.Decides.{nat_tests}
use Rattle.hw_driver.specs.Line.{is_number, number_of, tag_word}

-- a value that is chosen by a test, or none
chosen_some : (b : Bool) (v x m : ℕ) → b ≡ true → v < m → x ≡ v → ◌≡◌ {A = Option ℕ} (Some x) (if b && nat_lt v m then Some v else None)
chosen_some b v x m h l e = grind (arith, nat_tests)

chosen_none : (b : Bool) (v m : ℕ) → (v < m → ⊥) → ◌≡◌ {A = Option ℕ} None (if b && nat_lt v m then Some v else None)
chosen_none b v m l = grind (arith, nat_tests)

-- the test of digits and their value are those of std
numerals : IsNumeralModel (λ ds. list_all is_ascii_digit ds ≡ true) (digits_value 10)
numerals = numerals_by_value _ (search rules)

word_some : (b : Bool) (v x : ℕ) → b ≡ true → v < 2 ^ 8 → x ≡ v → ◌≡◌ {A = Option ℕ} (Some x) (if b && nat_le v 255 then Some v else None)
word_some b v x h l e = grind (arith, nat_tests)

word_none : (b : Bool) (v : ℕ) → (v < 2 ^ 8 → ⊥) → ◌≡◌ {A = Option ℕ} None (if b && nat_le v 255 then Some v else None)
word_none b v l = grind (arith, nat_tests)

pub both_true : (a b : Bool) → (a && b) ≡ true → (a ≡ true) × (b ≡ true)
both_true true b both = (refl, both)
both_true false b both = cc

number_parts : (ds : List ℕ) → is_number ds ≡ true → (0 < length ds) × (list_all is_ascii_digit ds ≡ true)
number_parts [] is = grind (arith, nat_tests)
number_parts (d ∷ ds) is = (omega arith, (both_true _ _ is).1)

word_by : {E : Type 0} (ds : List ℕ) (r : Result ℕ E) → is_number ds ≡ true → OkIff r ((0 < length ds) × (digits_value 10 ds < 2 ^ 8)) (digits_value 10 ds) → result_ok r ≡ tag_word ds
unfolding tag_word
word_by ds (Ok x) is found = word_some (is_number ds) (digits_value 10 ds) x is found.0.1 found.1
word_by ds (Err e) is none = word_none (is_number ds) (digits_value 10 ds) (λ small. none ((number_parts ds is).0, small))

pub result_ok-parse_word : {E : Type 0} (ds : List ℕ) (r : Result ℕ E) → is_number ds ≡ true → ParsesUnsigned 8 10 ds r → result_ok r ≡ tag_word ds
result_ok-parse_word ds r is parsed = word_by ds r is (parse_digits numerals 8 ds r parsed (number_parts ds is).1)

number_by : {E : Type 0} (ds : List ℕ) (r : Result ℕ E) → is_number ds ≡ true → OkIff r ((0 < length ds) × (digits_value 10 ds < 2 ^ 64)) (digits_value 10 ds) → result_ok r ≡ number_of ds
unfolding number_of
number_by ds (Ok x) is found = chosen_some (is_number ds) (digits_value 10 ds) x (2 ^ 64) is found.0.1 found.1
number_by ds (Err e) is none = chosen_none (is_number ds) (digits_value 10 ds) (2 ^ 64) (λ small. none ((number_parts ds is).0, small))

pub result_ok-parse_number : {E : Type 0} (ds : List ℕ) (r : Result ℕ E) → is_number ds ≡ true → ParsesUnsigned 64 10 ds r → result_ok r ≡ number_of ds
result_ok-parse_number ds r is parsed = number_by ds r is (parse_digits numerals 64 ds r parsed (number_parts ds is).1)
