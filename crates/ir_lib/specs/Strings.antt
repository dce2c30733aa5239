-- Strings: the bytes from a number on up to the first 0 (ISO C, "The strlen function"), and their check byte by byte, each as
-- an access of one byte (Clang, "Hardware-assisted AddressSanitizer Design Documentation", "Instrumentation"). A scan goes
-- upwards and ends at an address that isn't mapped, so it makes as many steps at most as there are addresses up to there.
use Rattle.std.specs.Prelude.{ℕ, zero, suc, ◌+◌, ◌-◌, ◌%◌, ◌^◌, ◌==◌, max, true, false, List, [], ◌∷◌, length, Some, None, Result, Ok, Err}
use Rattle.hw_base.specs.TaggedAddress.{address_of}
use Rattle.hw_shadow.specs.declared.mismatch.Mismatch.TheVariants.{Unmapped as UnmappedGranule}
use Rattle.tbi_memory.specs.declared.mem_fault.MemFault.{MemFault}
use Rattle.tbi_memory.specs.declared.mem_fault.MemFault.TheVariants.{Unmapped}
use Rattle.tbi_memory.specs.MappedBytes.{Range, byte_at, after_byte}
use Rattle.tbi_memory.specs.AddressSpace.{AddressSpace, check}
use Rattle.ir_lib.specs.declared.string_fault.StringFault.{StringFault}

-- the number of the next byte
abbrev pub next_byte : ℕ → ℕ
next_byte number = (number + 1) % 2 ^ 64

-- the address after the last mapped one
abbrev pub mapped_end : List Range → ℕ
mapped_end [] = 0
mapped_end (range ∷ ranges) = max (range.at + length range.bytes) (mapped_end ranges)

-- how many bytes a scan from a number on looks at, at most: those up to the first address after all mapped ones
unfoldable pub scan_bound : AddressSpace → ℕ → ℕ
scan_bound space number = mapped_end space.bytes - address_of number + 1

-- the bytes of the string at a number, without its 0, in so many steps; or the first address of it that isn't mapped
unfoldable pub string_from : AddressSpace → (steps number : ℕ) → Result (List ℕ) MemFault
string_from space zero number = Err (Unmapped (address_of number))
string_from space (suc steps) number =
    elim (byte_at space.bytes (address_of number)) [
      | None ↦ Err (Unmapped (address_of number))
      | Some byte ↦ elim (byte == 0) [
        | true ↦ Ok []
        | false ↦ after_byte byte (string_from space steps (next_byte number))
      ]
    ]

-- the bytes of the string at a number; its length is how many they are
abbrev pub string_at : AddressSpace → ℕ → Result (List ℕ) MemFault
string_at space number = string_from space (scan_bound space number) number

-- what is found at a byte that isn't mapped
abbrev pub unmapped_at : ℕ → StringFault
unmapped_at number = record { at = number; found = UnmappedGranule (address_of number) }

-- a byte, and what is checked after it
abbrev pub after_checked : ℕ → Result (List ℕ) StringFault → Result (List ℕ) StringFault
after_checked byte (Ok bytes) = Ok (byte ∷ bytes)
after_checked byte (Err fault) = Err fault

-- The check of the string at a number, in so many steps: each byte is checked as an access of one byte, and then looked at.
-- The bytes without the 0, or what refuses the first byte that is refused.
unfoldable pub checked_from : AddressSpace → (steps number : ℕ) → Result (List ℕ) StringFault
checked_from space zero number = Err (unmapped_at number)
checked_from space (suc steps) number =
    elim (check space number 1) [
      | Some found ↦ Err (record { at = number; found = found })
      | None ↦ elim (byte_at space.bytes (address_of number)) [
        | None ↦ Err (unmapped_at number)
        | Some byte ↦ elim (byte == 0) [
          | true ↦ Ok []
          | false ↦ after_checked byte (checked_from space steps (next_byte number))
        ]
      ]
    ]

-- the check of the string at a number
abbrev pub checked_string : AddressSpace → ℕ → Result (List ℕ) StringFault
checked_string space number = checked_from space (scan_bound space number) number
