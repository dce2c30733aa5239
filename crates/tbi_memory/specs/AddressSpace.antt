-- The address space and its accesses by numbers, whose top byte is ignored (Arm Architecture Reference Manual, "Address
-- tagging"). Which ranges are mapped, that all begins as zero with the tag 0, and the order of refusals are this project's
-- choice.
use Rattle.std.specs.Prelude.{ℕ, ◌+◌, ◌*◌, List, [], ◌∷◌, length, map, replicate, Bool, true, false, ◌&&◌, nat_le, nat_lt, if◌then◌else◌, Option, Some, None, unwrap_or, Result, Ok, Err}
use Rattle.hw_base.specs.AddressMap.{AddressMap, granule_of}
use Rattle.hw_base.specs.TaggedAddress.{address_of}
use Rattle.hw_shadow.specs.declared.mismatch.Mismatch.{Mismatch}
use Rattle.hw_shadow.specs.TagRule.{refusing_of}
use Rattle.tbi_memory.specs.declared.layout.Layout.{Layout}
use Rattle.tbi_memory.specs.declared.mem_fault.MemFault.{MemFault}
use Rattle.tbi_memory.specs.declared.mem_fault.MemFault.TheVariants.{ReadOnly}
use Rattle.tbi_memory.specs.MappedBytes.{Range, byte_at, write, read_bytes}

-- mapped bytes by address; the tag of each mapped granule by the granule's number; the constants' first address, and the
-- address after their last one
pub record AddressSpace : Type 0 where
  pub bytes : List Range
  pub shadow : List Range
  pub constants_at : ℕ
  pub constants_end : ℕ

-- a range of so many zeros
unfoldable pub zeros : (at count : ℕ) → Range
zeros at count = record { at = at; bytes = replicate count 0 }

-- A mapped range: its first address and its count of bytes, both multiples of 16; or its first granule and its count of
-- granules.
pub record Mapped : Type 0 where
  pub at : ℕ
  pub count : ℕ

-- an address is in it
abbrev pub is_in : ℕ → Mapped → Bool
is_in address mapped = nat_le mapped.at address && nat_lt address (mapped.at + mapped.count)

-- its granules
abbrev pub granules_of : Mapped → Mapped
granules_of mapped = record { at = granule_of mapped.at; count = granule_of mapped.count }

-- what is mapped: constants, variables, the stacks of all tasks, and the heap
abbrev pub mapped_ranges : AddressMap → Layout → List Mapped
mapped_ranges places layout =
    record { at = places.globals_at; count = layout.constants }
    ∷ record { at = layout.variables_at; count = layout.variables }
    ∷ record { at = places.stacks_at; count = places.most_tasks * places.stack_length }
    ∷ record { at = places.heap_at; count = layout.heap }
    ∷ []

-- the byte of an address at the start, by whether the address is mapped
abbrev pub zero_if : Bool → Option ℕ
zero_if true = Some 0
zero_if false = None

-- ranges of zeros
abbrev pub all_zeros : List Mapped → List Range
all_zeros mapped = map (λ range. zeros range.at range.count) mapped

-- at the start all bytes are zero, and all tags are 0
abbrev pub space_at_start : AddressMap → Layout → AddressSpace
space_at_start places layout =
    record {
      bytes = all_zeros (mapped_ranges places layout);
      shadow = all_zeros (map granules_of (mapped_ranges places layout));
      constants_at = places.globals_at;
      constants_end = places.globals_at + layout.constants;
    }

-- the tag of the granule that a number points into, or none if it isn't mapped
abbrev pub tag_at : AddressSpace → ℕ → Option ℕ
tag_at space number = byte_at space.shadow (granule_of (address_of number))

-- the last byte of a granule
abbrev pub last_byte : List Range → ℕ → ℕ
last_byte ranges granule = unwrap_or (byte_at ranges (16 * granule + 15)) 0

-- what refuses an access of so many bytes at a number, by the tags and bytes of memory, or none if it passes
abbrev pub check : AddressSpace → (number size : ℕ) → Option Mismatch
check space number size = refusing_of (byte_at space.shadow) (last_byte space.bytes) number size

-- so many bytes at a number, or the first address of them that isn't mapped
abbrev pub read : AddressSpace → (number count : ℕ) → Result (List ℕ) MemFault
read space number count = read_bytes space.bytes (address_of number) count

-- some of so many bytes from an address on is a constant's
abbrev pub meets_constants : AddressSpace → (address count : ℕ) → Bool
meets_constants space address count =
    nat_lt 0 count && nat_lt address space.constants_end && nat_lt space.constants_at (address + count)

-- why these bytes can't be overwritten, or none if they can
abbrev pub refused_write : Bool → Result (List ℕ) MemFault → Option MemFault
refused_write is_constant (Err fault) = Some fault
refused_write is_constant (Ok old) = if is_constant then Some ReadOnly else None

-- why so many bytes at a number can't be written: the first address that isn't mapped, or else that a constant is met
abbrev pub write_fault : AddressSpace → (number count : ℕ) → Option MemFault
write_fault space number count =
    refused_write (meets_constants space (address_of number) count) (read space number count)

-- the space with these bytes from an address on, constants or not; its tags stay
abbrev pub with_bytes : AddressSpace → ℕ → List ℕ → AddressSpace
with_bytes space address bytes = record space { bytes = write space.bytes address bytes }

-- the space after these bytes were written at a number, or why they can't be
unfoldable pub written : AddressSpace → ℕ → List ℕ → Result AddressSpace MemFault
written space number bytes =
    elim (write_fault space number (length bytes)) [
      | Some fault ↦ Err fault
      | None ↦ Ok (with_bytes space (address_of number) bytes)
    ]

-- the space after one byte was written so many times from a number on, or why it can't be
abbrev pub filled : AddressSpace → (number count byte : ℕ) → Result AddressSpace MemFault
filled space number count byte = written space number (replicate count byte)

-- the space after so many bytes were copied from one number to another, all read before the first is written, or why they
-- can't be: a byte that can't be read comes before one that can't be written
unfoldable pub moved : AddressSpace → (to from count : ℕ) → Result AddressSpace MemFault
moved space to from count =
    elim (read space from count) [
      | Err fault ↦ Err fault
      | Ok bytes ↦ written space to bytes
    ]
