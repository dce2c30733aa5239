-- When two names in one set, given without their `%` or `@`, are one (LLVM Language Reference, "Identifiers"): two numbers if
-- they write the same number, two other names if they stand for the same bytes, and a number and another name never.
use Rattle.std.specs.Prelude.{◌≡◌, ℕ, Bool, true, false, List}
use Rattle.std.specs.Str.Parse.{digits_value}
use Rattle.ir_text.specs.TokenText.{name_bytes}
use Rattle.ir_names.specs.Faults.{is_number}

abbrev pub AreSame : (number other_number : Bool) → List ℕ → List ℕ → Type 0
AreSame true true name other = digits_value 10 name ≡ digits_value 10 other
AreSame true false name other = ⊥
AreSame false true name other = ⊥
AreSame false false name other = name_bytes name ≡ name_bytes other

abbrev pub IsOneName : List ℕ → List ℕ → Type 0
IsOneName name other = AreSame (is_number name) (is_number other) name other
