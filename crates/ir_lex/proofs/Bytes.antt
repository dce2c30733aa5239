-- What the tests of a byte tell of each other.
use Rattle.std.proofs.Common.{◌≡◌, ℕ, true, false, arith, eqb}
use Rattle.std.proofs.lemmas.Bool.Decides.{nat_tests}
use Rattle.std.specs.Char.{is_ascii_digit}
use Rattle.ir_core.specs.Spelling.{begins_word, begins_name, is_name_byte, is_point, is_float_byte, is_mark, quote, colon}
use Rattle.ir_core.specs.Tokenisation.{is_separator}

pub name-from_word : (b : ℕ) → begins_word b ≡ true → is_name_byte b ≡ true
name-from_word b h = grind (arith, nat_tests)

pub name-from_begins : (b : ℕ) → begins_name b ≡ true → is_name_byte b ≡ true
name-from_begins b h = grind (arith, nat_tests)

pub name-from_digit : (b : ℕ) → is_ascii_digit b ≡ true → is_name_byte b ≡ true
name-from_digit b h = grind (arith, nat_tests)

pub float-from_digit : (b : ℕ) → is_ascii_digit b ≡ true → is_float_byte b ≡ true
float-from_digit b h = grind (arith, nat_tests)

pub float-from_point : (b : ℕ) → is_point b ≡ true → is_float_byte b ≡ true
float-from_point b h = grind (arith, nat_tests)

pub digit-from_point : (b : ℕ) → is_point b ≡ true → is_ascii_digit b ≡ false
digit-from_point b h = grind (arith, nat_tests)

pub point-from_digit : (b : ℕ) → is_ascii_digit b ≡ true → is_point b ≡ false
point-from_digit b h = grind (arith, nat_tests)

pub word-from_digit : (b : ℕ) → is_ascii_digit b ≡ true → begins_word b ≡ false
word-from_digit b h = grind (arith, nat_tests)

pub digit-from_begins : (b : ℕ) → begins_name b ≡ true → is_ascii_digit b ≡ false
digit-from_begins b h = grind (arith, nat_tests)

pub colon-from_float : (b : ℕ) → is_float_byte b ≡ true → (eqb b colon) ≡ false
colon-from_float b h = grind (arith, nat_tests)

pub quote-from_float : (b : ℕ) → is_float_byte b ≡ true → (eqb b quote) ≡ false
quote-from_float b h = grind (arith, nat_tests)

pub name-from_mark : (b : ℕ) → is_mark b ≡ true → is_name_byte b ≡ false
name-from_mark b h = grind (arith, nat_tests)

-- a mark is none of the bytes that begin other tokens
pub sigil-from_mark : (b : ℕ) → is_mark b ≡ true → ((eqb b 37) ≡ false) × ((eqb b 64) ≡ false) × ((eqb b 33) ≡ false) × ((eqb b 35) ≡ false) × ((eqb b 34) ≡ false)
sigil-from_mark b h = (grind (arith, nat_tests), grind (arith, nat_tests), grind (arith, nat_tests), grind (arith, nat_tests), grind (arith, nat_tests))

-- no token begins with a separator
pub separator-from_name : (b : ℕ) → is_name_byte b ≡ true → is_separator b ≡ false
separator-from_name b h = grind (arith, nat_tests)

pub separator-from_mark : (b : ℕ) → is_mark b ≡ true → is_separator b ≡ false
separator-from_mark b h = grind (arith, nat_tests)
