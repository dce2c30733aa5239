-- Numbers that stand for truth values and for signed numbers in two's complement.
use Rattle.std.specs.Prelude.{ℕ, ◌-◌, ◌%◌, ◌^◌, ◌==◌, Bool, true, false, not}

-- a truth value as a number of one bit
abbrev pub bit_of : Bool → ℕ
bit_of true = 1
bit_of false = 0

-- the truth value of a number's lowest bit
abbrev pub is_set : ℕ → Bool
is_set n = not (n % 2 == 0)

-- -1 in 32 bits
abbrev pub minus_one : ℕ
minus_one = 2 ^ 32 - 1
