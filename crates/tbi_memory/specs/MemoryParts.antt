-- The mapped parts of memory: constants, variables, the stacks of all tasks, and the heap; the address space that they
-- make, and what its calls return. This project's choice.
use Rattle.std.specs.Prelude.{◌==◌, ◌≡◌, ℕ, zero, suc, ◌+◌, ◌-◌, ◌*◌, ◌%◌, ◌^◌, ◌<◌, ◌≤◌, List, [], ◌∷◌, length, Bool, ◌&&◌, nat_le, if◌then◌else◌, Option, Some, None, unwrap_or, Result, Ok, Err}
use Rattle.hw_base.specs.AddressMap.{granule_of}
use Rattle.hw_base.specs.Bytes.{le_number}
use Rattle.hw_base.specs.TaggedAddress.{address_of}
use Rattle.hw_shadow.specs.TagRule.{mismatch_in}
use Rattle.std.specs.List.{list_all}
use Rattle.hw_region.specs.RegionBytes.{bytes_from}
use Rattle.hw_shadow.specs.declared.mismatch.Mismatch.{Mismatch}
use Rattle.tbi_memory.specs.declared.mapped_part.MappedPart.{MappedPart}
use Rattle.tbi_memory.specs.declared.mem_fault.MemFault.{MemFault}
use Rattle.tbi_memory.specs.AddressSpace.{AddressSpace, last_byte}
use Rattle.tbi_memory.specs.MappedBytes.{Range, byte_at, write}

-- the bytes of a part, by address
abbrev pub bytes_of : MappedPart → Range
bytes_of part = record { at = part.at; bytes = part.bytes }

-- the tags of a part, by granule
abbrev pub tags_of : MappedPart → Range
tags_of part = record { at = granule_of part.at; bytes = part.tags }

-- the address space of four parts
abbrev pub space_of : (constants variables stacks heap : MappedPart) → AddressSpace
space_of constants variables stacks heap =
    record {
      bytes = bytes_of constants ∷ bytes_of variables ∷ bytes_of stacks ∷ bytes_of heap ∷ [];
      shadow = tags_of constants ∷ tags_of variables ∷ tags_of stacks ∷ tags_of heap ∷ [];
      constants_at = constants.at;
      constants_end = constants.at + length constants.bytes;
    }

-- A part begins at a granule's first address, and is whole granules, each with a tag.
pub record HasWholeGranules (part : MappedPart) : Type 0 where
  pub place : part.at % 16 ≡ 0
  pub count : length part.bytes ≡ 16 * length part.tags

-- The parts are whole granules, in order and without overlap, below 2^56. Neighbours may touch.
pub record AreInOrder (constants variables stacks heap : MappedPart) : Type 0 where
  pub of_constants : HasWholeGranules constants
  pub of_variables : HasWholeGranules variables
  pub of_stacks : HasWholeGranules stacks
  pub of_heap : HasWholeGranules heap
  pub constants_end : constants.at + length constants.bytes ≤ variables.at
  pub variables_end : variables.at + length variables.bytes ≤ stacks.at
  pub stacks_end : stacks.at + length stacks.bytes ≤ heap.at
  pub heap_end : heap.at + length heap.bytes < 2 ^ 56

-- so many bytes from an address on lie in a range
abbrev pub lie_in : Range → (address count : ℕ) → Bool
lie_in range address count = nat_le range.at address && nat_le (address + count) (range.at + length range.bytes)

-- so many granules from one on lie in a range of tags, and each has this tag
abbrev pub all_tagged : Range → (first count tag : ℕ) → Bool
all_tagged range first count tag =
    lie_in range first count && list_all (λ t. t == tag) (bytes_from range.bytes (first - range.at) count)

-- the address after a range's last one, or the address itself if it isn't in the range
abbrev pub past_range : Range → ℕ → ℕ
past_range range address = if lie_in range address 1 then range.at + length range.bytes else address

-- so many bytes from an address on, with 0 for each that isn't mapped
unfoldable pub bytes_or_zeros : List Range → (address count : ℕ) → List ℕ
bytes_or_zeros ranges address zero = []
bytes_or_zeros ranges address (suc count) = unwrap_or (byte_at ranges address) 0 ∷ bytes_or_zeros ranges (address + 1) count

-- the number that the bytes spell that were read, or why they can't be
abbrev pub number_read : Result (List ℕ) MemFault → Result ℕ MemFault
number_read (Ok bytes) = Ok (le_number bytes)
number_read (Err fault) = Err fault

-- an access passes unless something refuses it
abbrev pub passed_unless : Option Mismatch → Result (Unit {0}) Mismatch
passed_unless None = Ok tt
passed_unless (Some mismatch) = Err mismatch

-- what refuses an access of so many bytes at a number in the granule of its address, or none
abbrev pub check_one : AddressSpace → (number size : ℕ) → Option Mismatch
check_one space number size =
    mismatch_in number size (granule_of (address_of number)) (byte_at space.shadow (granule_of (address_of number)))
    (last_byte space.bytes (granule_of (address_of number)))

-- the space with these tags from a granule on
abbrev pub with_tags : AddressSpace → (granule : ℕ) → List ℕ → AddressSpace
with_tags space granule tags = record space { shadow = write space.shadow granule tags }
