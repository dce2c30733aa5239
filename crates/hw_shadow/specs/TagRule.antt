-- The tag rule of an access (Clang, "Hardware-assisted AddressSanitizer Design Documentation", "Algorithm" and "Short
-- granules"). Memory tags and last bytes are functions of a granule's number; a granule without a tag isn't mapped. So the
-- rule is one for the simulated memory and for the tags that objects alone would have.
use Rattle.std.specs.Prelude.{◌≡◌, ℕ, zero, suc, ◌+◌, ◌-◌, ◌*◌, ◌<◌, ◌≤◌, min, max, Bool, true, false, ◌&&◌, ◌||◌, nat_le, ◌==◌, if◌then◌else◌, Option, Some, None}
use Rattle.hw_base.specs.AddressMap.{granule_of}
use Rattle.hw_base.specs.TaggedAddress.{address_of, pointer_tag}
use Rattle.hw_shadow.specs.declared.mismatch.Mismatch.{Mismatch}
use Rattle.hw_shadow.specs.declared.mismatch.Mismatch.TheVariants.{Unmapped, Tags}

-- a memory tag from 1 to 15 can be the size of a short granule
abbrev pub is_short_size : ℕ → Bool
is_short_size memory = nat_le 1 memory && nat_le memory 15

-- The tags agree: the pointer's tag is the memory tag; or the memory tag is the size of a short granule, the access ends
-- within it, and the pointer's tag is the last byte of the granule.
abbrev pub tags_agree : (pointer memory end last : ℕ) → Bool
tags_agree pointer memory end last = (pointer == memory) || (is_short_size memory && nat_le end memory && (pointer == last))

-- how many granules an access of so many bytes from an address on touches
abbrev pub granules_touched : (address size : ℕ) → ℕ
granules_touched address zero = 0
granules_touched address (suc n) = granule_of (address + n) + 1 - granule_of address

-- the end of the access in a granule that it touches: one more than the position of the last touched byte
abbrev pub end_in_granule : (address size granule : ℕ) → ℕ
end_in_granule address size granule = min 16 (address + size - 16 * granule)

-- the first touched address in a granule
abbrev pub first_touched : (address granule : ℕ) → ℕ
first_touched address granule = max address (16 * granule)

-- a granule with this memory tag, or with none if it isn't mapped, agrees with the pointer's tag
abbrev pub granule_agrees : (pointer end : ℕ) → Option ℕ → (last : ℕ) → Bool
granule_agrees pointer end None last = false
granule_agrees pointer end (Some memory) last = tags_agree pointer memory end last

-- what an access of so many bytes at a number finds in a granule with this memory tag and last byte, or none if it agrees
abbrev pub mismatch_in : (number size granule : ℕ) → Option ℕ → (last : ℕ) → Option Mismatch
mismatch_in number size granule None last = Some (Unmapped (first_touched (address_of number) granule))
mismatch_in number size granule (Some memory) last =
    if tags_agree (pointer_tag number) memory (end_in_granule (address_of number) size granule) last then None
    else Some (Tags (16 * granule) (pointer_tag number) memory last (end_in_granule (address_of number) size granule))

-- what is found in the first of so many granules from one on that doesn't agree, or none if each agrees
unfoldable pub first_mismatch : (ℕ → Option ℕ) → (ℕ → ℕ) → (number size count granule : ℕ) → Option Mismatch
first_mismatch tag last number size zero granule = None
first_mismatch tag last number size (suc count) granule =
    elim (mismatch_in number size granule (tag granule) (last granule)) [
      | None ↦ first_mismatch tag last number size count (granule + 1)
      | Some found ↦ Some found
    ]

-- What refuses an access of so many bytes at a number, or none if the tag rule passes it: the touched granules are taken
-- upwards, and the first that isn't mapped or doesn't agree is the one. An access of no bytes passes.
abbrev pub refusing_of : (ℕ → Option ℕ) → (ℕ → ℕ) → (number size : ℕ) → Option Mismatch
refusing_of tag last number size =
    first_mismatch tag last number size (granules_touched (address_of number) size) (granule_of (address_of number))

-- The tag rule passes the access: the granule of each touched address is mapped and agrees.
abbrev pub PassesTagRule : (ℕ → Option ℕ) → (ℕ → ℕ) → (number size : ℕ) → Type 0
PassesTagRule tag last number size =
    (address : ℕ) → address_of number ≤ address → address < address_of number + size
    → granule_agrees (pointer_tag number) (end_in_granule (address_of number) size (granule_of address)) (tag (granule_of address)) (last (granule_of address))
    ≡ true

-- This is found in granule k of the touched ones, counted from 0, and nothing in the ones before it.
pub record IsFirstMismatch (tag : ℕ → Option ℕ) (last : ℕ → ℕ) (number size k : ℕ) (found : Mismatch) : Type 0 where
  pub touched : k < granules_touched (address_of number) size
  pub here :
      let granule = granule_of (address_of number) + k in
      mismatch_in number size granule (tag granule) (last granule) ≡ Some found
  pub before :
      (j : ℕ) → j < k →
      let granule = granule_of (address_of number) + j in
      mismatch_in number size granule (tag granule) (last granule) ≡ None
