-- Mapped memory as ranges of bytes, seen through the byte at an address. The shadow is the same, with granules' numbers in
-- the place of addresses and tags in the place of bytes. This project's choice.
use Rattle.std.specs.Prelude.{ℕ, zero, suc, ◌+◌, ◌-◌, List, [], ◌∷◌, map, nat_le, if◌then◌else◌, Option, Some, None, slice_get, slice_set, Result, Ok, Err}
use Rattle.std.specs.Option.{option_or}
use Rattle.tbi_memory.specs.declared.mem_fault.MemFault.{MemFault}
use Rattle.tbi_memory.specs.declared.mem_fault.MemFault.TheVariants.{Unmapped}

-- the bytes from an address on
pub record Range : Type 0 where
  pub at : ℕ
  pub bytes : List ℕ

-- the byte of a range at an address, or none outside it
abbrev pub byte_in : Range → ℕ → Option ℕ
byte_in range address = if nat_le range.at address then slice_get range.bytes (address - range.at) else None

-- the byte at an address, or none if it isn't mapped
unfoldable pub byte_at : List Range → ℕ → Option ℕ
byte_at [] address = None
byte_at (range ∷ ranges) address = option_or (byte_in range address) (byte_at ranges address)

-- a range with this byte at an address; outside the range nothing changes
abbrev pub set_in : Range → (address byte : ℕ) → Range
set_in range address byte =
    if nat_le range.at address then record range { bytes = slice_set range.bytes (address - range.at) byte } else range

-- memory with this byte at an address; if it isn't mapped, nothing changes
abbrev pub set_byte : List Range → (address byte : ℕ) → List Range
set_byte ranges address byte = map (λ range. set_in range address byte) ranges

-- memory with these bytes from an address on
unfoldable pub write : List Range → ℕ → List ℕ → List Range
write ranges address [] = ranges
write ranges address (byte ∷ bytes) = write (set_byte ranges address byte) (address + 1) bytes

-- a byte, and what is read after it
abbrev pub after_byte : ℕ → Result (List ℕ) MemFault → Result (List ℕ) MemFault
after_byte byte (Ok bytes) = Ok (byte ∷ bytes)
after_byte byte (Err fault) = Err fault

-- so many bytes from an address on, or the first address of them that isn't mapped
unfoldable pub read_bytes : List Range → (address count : ℕ) → Result (List ℕ) MemFault
read_bytes ranges address zero = Ok []
read_bytes ranges address (suc count) =
    elim (byte_at ranges address) [
      | None ↦ Err (Unmapped address)
      | Some byte ↦ after_byte byte (read_bytes ranges (address + 1) count)
    ]
