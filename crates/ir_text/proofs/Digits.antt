-- The numbers that digits write, one digit on.
use Rattle.std.proofs.Common.{◌≡◌, ℕ, ◌+◌, ◌-◌, ◌*◌, ◌<◌, ◌≤◌, List, [], ◌∷◌, Bool, true, false, cond, ◌&&◌, leb, length, get_or, arith, refl}
use Rattle.std.specs.List.{list_all}
use Rattle.std.specs.Char.{is_ascii_digit, digit_value}
use Rattle.std.specs.Str.Parse.{digits_value_after}
use Rattle.std.proofs.lemmas.Bool.{lt-leb}
use Rattle.std.proofs.lemmas.Bool.Decides.{nat_tests}

-- the number that the digits so far and these write, 0 where it is past the limit
abbrev pub number_from : ℕ → List ℕ → ℕ
number_from n digits = cond (list_all is_ascii_digit digits && leb (digits_value_after 10 n digits) 4294967295) (digits_value_after 10 n digits) 0

and_false : (a : Bool) → (a && false) ≡ false
and_false true = refl
and_false false = refl

digit_is : (b : ℕ) → is_ascii_digit b ≡ true → digit_value b ≡ b - 48
digit_is b h = grind (arith, nat_tests)

after_grows : (n : ℕ) (digits : List ℕ) → n ≤ digits_value_after 10 n digits
after_grows n [] = omega arith
after_grows n (b ∷ rest) = let h = after_grows (n * 10 + digit_value b) rest in omega arith

-- and so does a number past the limit
past_limit : (n b : ℕ) (rest : List ℕ) → is_ascii_digit b ≡ true → 4294967295 < n * 10 + (b - 48) → number_from n (b ∷ rest) ≡ 0
past_limit n b rest h past =
    let grows : n * 10 + digit_value b ≤ digits_value_after 10 (n * 10 + digit_value b) rest = after_grows (n * 10 + digit_value b) rest in
    let value : digit_value b ≡ b - 48 = digit_is b h in
    let over : leb (digits_value_after 10 (n * 10 + digit_value b) rest) 4294967295 ≡ false = lt-leb _ _ (omega arith) in
    rw (over, and_false (list_all is_ascii_digit (b ∷ rest)))

pub number_past : (n : ℕ) (digits : List ℕ) → 1 ≤ length digits → is_ascii_digit (get_or digits 0 0) ≡ true → 4294967295 < n * 10 + (get_or digits 0 0 - 48) → number_from n digits ≡ 0
number_past n [] some h past = absurd (omega arith)
number_past n (b ∷ rest) some h past = past_limit n b rest h past
