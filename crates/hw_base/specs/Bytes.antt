-- Numbers as bytes, the least significant byte first (LLVM Language Reference, "Data Layout", specification `e`), and the
-- order of runs of bytes (ISO C, "The memcmp function"; that its result is -1, 0 or 1 is this project's choice).
use Rattle.std.specs.Prelude.{ℕ, zero, suc, ◌+◌, ◌*◌, ◌/◌, ◌%◌, nat_lt, if◌then◌else◌, List, [], ◌∷◌}
use Rattle.std.specs.declared.cmp.Ordering.{Ordering}
use Rattle.std.specs.declared.cmp.Ordering.TheVariants.{Less, Equal, Greater}
use Rattle.hw_base.specs.Bits.{minus_one}

-- the low bytes of a number, as many as the count says
unfoldable pub le_bytes : ℕ → ℕ → List ℕ
le_bytes zero n = []
le_bytes (suc count) n = n % 256 ∷ le_bytes count (n / 256)

-- the number that bytes spell
unfoldable pub le_number : List ℕ → ℕ
le_number [] = 0
le_number (byte ∷ bytes) = byte + 256 * le_number bytes

-- byte j of a number, counted from 0 at the least significant one
unfoldable pub byte_of : ℕ → ℕ → ℕ
byte_of n zero = n % 256
byte_of n (suc j) = byte_of (n / 256) j

-- the order of two runs of bytes of one length: the first byte in which they differ decides
unfoldable pub byte_order : List ℕ → List ℕ → Ordering
byte_order [] others = Equal
byte_order (byte ∷ bytes) [] = Equal
byte_order (byte ∷ bytes) (other ∷ others) =
    if nat_lt byte other then Less else (if nat_lt other byte then Greater else byte_order bytes others)

-- the result of a comparison as the 32 bits of -1, 0 or 1
abbrev pub order_bits : Ordering → ℕ
order_bits Less = minus_one
order_bits Equal = 0
order_bits Greater = 1
