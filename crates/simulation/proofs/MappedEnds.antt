-- Writes and births leave the end of mapped memory where it is.
use Rattle.std.proofs.Common.{◌≡◌, ℕ, ◌+◌, ◌-◌, ◌%◌, ◌==◌, Bool, true, false, nat_le, if◌then◌else◌, List, [], ◌∷◌, length, max, replicate, slice_set, refl, ◌∙◌, ap}
use Rattle.std.proofs.lemmas.List.{length-set}
use Rattle.hw_base.specs.AddressMap.{rounded_size}
use Rattle.ir_lib.specs.Strings.{mapped_end}
use Rattle.tag_story.specs.Story.{Placed}
use Rattle.tbi_memory.specs.AddressSpace.{AddressSpace}
use Rattle.tbi_memory.specs.MappedBytes.{Range, set_byte, write}
use Rattle.tbi_memory.specs.ObjectMemory.{with_fresh_object}
use Rattle.simulation.proofs.FreshMemory.{with_all_fresh}

in-end : (range : Range) (address byte : ℕ) (bit : Bool) → (if bit then record range { bytes = slice_set range.bytes (address - range.at) byte } else range).at + length (if bit then record range { bytes = slice_set range.bytes (address - range.at) byte } else range).bytes ≡ range.at + length range.bytes
in-end range address byte true = ap (λ n. range.at + n) (length-set range.bytes (address - range.at) byte)
in-end range address byte false = refl

set-ends : (ranges : List Range) (address byte : ℕ) → mapped_end (set_byte ranges address byte) ≡ mapped_end ranges
set-ends [] address byte = refl
set-ends (range ∷ ranges) address byte =
    ap (λ n. max n (mapped_end (set_byte ranges address byte))) (in-end range address byte (nat_le range.at address))
    ∙ ap (max (range.at + length range.bytes)) (set-ends ranges address byte)

pub write-ends : (ranges : List Range) (address : ℕ) (bytes : List ℕ) → mapped_end (write ranges address bytes) ≡ mapped_end ranges
unfolding write
write-ends ranges address [] = refl
write-ends ranges address (byte ∷ bytes) = write-ends (set_byte ranges address byte) (address + 1) bytes ∙ set-ends ranges address byte

pub last-ends : (ranges : List Range) (address tag : ℕ) (bit : Bool) → mapped_end (if bit then ranges else set_byte ranges address tag) ≡ mapped_end ranges
last-ends ranges address tag true = refl
last-ends ranges address tag false = set-ends ranges address tag

pub fresh-ends : (space : AddressSpace) (x : Placed) → mapped_end (with_fresh_object space x.at x.size x.tag).bytes ≡ mapped_end space.bytes
fresh-ends space x =
    last-ends (write space.bytes x.at (replicate (rounded_size x.size) 0)) (x.at + rounded_size x.size - 1) x.tag (x.size % 16 == 0)
    ∙ write-ends space.bytes x.at (replicate (rounded_size x.size) 0)

pub all-ends : (space : AddressSpace) (objects : List Placed) → mapped_end (with_all_fresh space objects).bytes ≡ mapped_end space.bytes
unfolding with_all_fresh
all-ends space [] = refl
all-ends space (x ∷ xs) = all-ends (with_fresh_object space x.at x.size x.tag) xs ∙ fresh-ends space x
