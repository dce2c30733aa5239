-- A 64-bit number as a tagged address: the tag is its top byte, which takes no part in the translation of the address (Arm
-- Architecture Reference Manual, "Address tagging"; Clang, "Hardware-assisted AddressSanitizer Design Documentation",
-- "Introduction").
use Rattle.std.specs.Prelude.{ℕ, ◌+◌, ◌*◌, ◌/◌, ◌%◌, ◌^◌}

-- the address, which is bits 55 to 0
abbrev pub address_of : ℕ → ℕ
address_of number = number % 2 ^ 56

-- the tag of a pointer, which is bits 63 to 56
abbrev pub pointer_tag : ℕ → ℕ
pointer_tag number = number / 2 ^ 56

-- the number with this tag and this address
abbrev pub tagged_address : ℕ → ℕ → ℕ
tagged_address tag address = (tag * 2 ^ 56 + address) % 2 ^ 64
