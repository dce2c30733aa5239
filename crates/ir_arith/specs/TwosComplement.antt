-- Integers of a width, and the signed numbers that they stand for (LLVM Language Reference, "Integer Type" and "Binary Operations").
-- A value of the type with `width` bits is the number from 0 to 2 ^ width - 1 that its bits spell. The signed operations read it in
-- two's complement. In ℤ `pos n` is n, and `negsuc n` is -(n + 1).
use Rattle.std.specs.Prelude.{ℕ, ◌-◌, ◌%◌, ◌^◌, ℤ, pos, negsuc, ◌-ℤ◌, Bool, false, nat_lt, if◌then◌else◌}

-- the signed number that a value stands for: itself where its sign bit is 0, and 2 ^ width less where it is 1
unfoldable pub signed_of : ℕ → ℕ → ℤ
signed_of width a = if nat_lt a (2 ^ (width - 1)) then pos a else pos a -ℤ pos (2 ^ width)

-- the value that is left of a number in `width` bits: the one that equals it modulo 2 ^ width
unfoldable pub unsigned_of : ℕ → ℤ → ℕ
unsigned_of width (pos n) = n % 2 ^ width
unsigned_of width (negsuc n) = 2 ^ width - 1 - n % 2 ^ width

-- a number lies from -2 ^ (width - 1) to 2 ^ (width - 1) - 1
unfoldable pub fits_signed : ℕ → ℤ → Bool
fits_signed width (pos n) = nat_lt n (2 ^ (width - 1))
fits_signed width (negsuc n) = nat_lt n (2 ^ (width - 1))

-- a number lies from 0 to 2 ^ width - 1
unfoldable pub fits_unsigned : ℕ → ℤ → Bool
fits_unsigned width (pos n) = nat_lt n (2 ^ width)
fits_unsigned width (negsuc n) = false
