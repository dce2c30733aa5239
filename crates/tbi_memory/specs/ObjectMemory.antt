-- Objects in memory: their granules' tags, the tag in the last byte of a short granule (Clang, "Hardware-assisted
-- AddressSanitizer Design Documentation", "Short granules"), and zero bytes at their birth, which are this project's choice.
-- A place is an address that is a multiple of 16.
use Rattle.std.specs.Prelude.{ℕ, ◌+◌, ◌-◌, ◌%◌, List, ◌==◌, if◌then◌else◌, replicate}
use Rattle.hw_base.specs.AddressMap.{rounded_size, granule_of}
use Rattle.hw_shadow.specs.ObjectTags.{object_tags}
use Rattle.tbi_memory.specs.MappedBytes.{Range, set_byte, write}
use Rattle.tbi_memory.specs.AddressSpace.{AddressSpace, with_bytes}

-- bytes with the tag of an object in the last byte of its short granule, if it has one
abbrev pub with_last_byte : List Range → (place size tag : ℕ) → List Range
with_last_byte ranges place size tag = if size % 16 == 0 then ranges else set_byte ranges (place + rounded_size size - 1) tag

-- the space with the tags of an object's granules, and its tag in the last byte of a short one
abbrev pub tag_object : AddressSpace → (place size tag : ℕ) → AddressSpace
tag_object space place size tag =
    record space {
      bytes = with_last_byte space.bytes place size tag;
      shadow = write space.shadow (granule_of place) (object_tags size tag);
    }

-- the space with one tag in all granules of so many bytes, a multiple of 16
abbrev pub tag_plain : AddressSpace → (place count tag : ℕ) → AddressSpace
tag_plain space place count tag =
    record space { shadow = write space.shadow (granule_of place) (replicate (granule_of count) tag) }

-- the space with zeros in so many bytes from a place on
abbrev pub zeroed : AddressSpace → (place count : ℕ) → AddressSpace
zeroed space place count = with_bytes space place (replicate count 0)

-- the space after an object was born at a place: zero in its whole rounded size, then tagged
abbrev pub with_fresh_object : AddressSpace → (place size tag : ℕ) → AddressSpace
with_fresh_object space place size tag = tag_object (zeroed space place (rounded_size size)) place size tag
