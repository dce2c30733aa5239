-- The tag rule for the violation of a source run, by the story: what refuses it, or by which coincidence it passes (Clang,
-- "Hardware-assisted AddressSanitizer Design Documentation", "Algorithm"; that a free compares tags is this project's
-- choice).
use Rattle.std.specs.Prelude.{ℕ, zero, suc, ◌+◌, ◌*◌, ◌==◌, Bool, false, if◌then◌else◌, List, [], ◌∷◌, Option, Some, None}
use Rattle.hw_base.specs.AddressMap.{granule_of}
use Rattle.hw_base.specs.TaggedAddress.{address_of, pointer_tag}
use Rattle.hw_base.specs.declared.accesses.Access.{Access}
use Rattle.hw_base.specs.declared.accesses.Access.TheVariants.{Read, Write, Free}
use Rattle.hw_shadow.specs.TagRule.{is_short_size, granules_touched, end_in_granule, refusing_of}
use Rattle.hw_shadow.specs.declared.mismatch.Mismatch.{Mismatch}
use Rattle.hw_shadow.specs.declared.mismatch.Mismatch.TheVariants.{Unmapped, Tags}
use Rattle.ir_meaning.specs.Births.{Region, Globals, Stack, Heap, Life, Birth, is_living}
use Rattle.ir_meaning.specs.State.{Violation}
use Rattle.tag_story.specs.declared.judgement.Coincidence.{Coincidence}
use Rattle.tag_story.specs.declared.judgement.Coincidence.TheVariants.{Granules, BlockTag, NullNumber}
use Rattle.tag_story.specs.declared.judgement.Judgement.{Judgement}
use Rattle.tag_story.specs.declared.judgement.Judgement.TheVariants.{Passes, Refused}
use Rattle.tag_story.specs.declared.judgement.Refusing.{Refusing}
use Rattle.tag_story.specs.declared.judgement.Refusing.TheVariants.{Granule, Unmapped as UnmappedAddress, Block}
use Rattle.tag_story.specs.declared.judgement.Short.{Short}
use Rattle.tag_story.specs.Story.{StorySetting, Placed, StoryBirth, Story, pointer_number}
use Rattle.tag_story.specs.StoryTags.{memory_tag, last_byte}

-- ---- reads and writes

-- what refuses an access of so many bytes at a number, or none if the tag rule passes it
abbrev pub refusing : StorySetting → Story → List Birth → (number size : ℕ) → Option Mismatch
refusing e w objects number size = refusing_of (memory_tag e w) (last_byte w objects) number size

-- the last byte is asked for in a short granule alone
abbrev pub asked_last : (memory last : ℕ) → Option ℕ
asked_last memory last = if is_short_size memory then Some last else None

abbrev pub refusing_by : Mismatch → Refusing
refusing_by (Unmapped address) = UnmappedAddress address
refusing_by (Tags granule pointer memory last end) = Granule granule pointer memory (asked_last memory last) end

-- the memory tag of a granule is the pointer's
abbrev pub has_tag : (pointer : ℕ) → Option ℕ → Bool
has_tag pointer None = false
has_tag pointer (Some memory) = memory == pointer

-- the first addresses of so many granules from one on: of the first and the last of them
abbrev pub run_of : (first count : ℕ) → Option (ℕ × ℕ)
run_of first zero = None
run_of first (suc more) = Some (16 * first, 16 * (first + more))

abbrev pub tag_or_zero : Option ℕ → ℕ
tag_or_zero None = 0
tag_or_zero (Some tag) = tag

-- a granule as a short one
abbrev pub short_of : StorySetting → Story → List Birth → (number size granule : ℕ) → Short
short_of e w objects number size g =
    record {
      granule = 16 * g;
      memory = tag_or_zero (memory_tag e w g);
      end = end_in_granule (address_of number) size g;
      last = last_byte w objects g;
    }

-- the coincidence of an access that passes, for one touched granule or more: only the last can pass as a short one
abbrev pub coincidence_by : StorySetting → Story → List Birth → (number size first more : ℕ) → Coincidence
coincidence_by e w objects number size first more =
    if has_tag (pointer_tag number) (memory_tag e w (first + more))
    then Granules (run_of first (suc more)) None
    else Granules (run_of first more) (Some (short_of e w objects number size (first + more)))

abbrev pub coincidence_in : StorySetting → Story → List Birth → (number size first count : ℕ) → Coincidence
coincidence_in e w objects number size first zero = Granules None None
coincidence_in e w objects number size first (suc more) = coincidence_by e w objects number size first more

-- the coincidence by which an access passes
abbrev pub coincidence_of : StorySetting → Story → List Birth → (number size : ℕ) → Coincidence
coincidence_of e w objects number size =
    coincidence_in e w objects number size (granule_of (address_of number)) (granules_touched (address_of number) size)

abbrev pub judged_by : StorySetting → Story → List Birth → (number size : ℕ) → Option Mismatch → Judgement
judged_by e w objects number size None = Passes (coincidence_of e w objects number size)
judged_by e w objects number size (Some found) = Refused (refusing_by found)

abbrev pub access_judged : StorySetting → Story → List Birth → (number size : ℕ) → Judgement
access_judged e w objects number size = judged_by e w objects number size (refusing e w objects number size)

-- ---- frees

-- the tag of a living block's object that begins at an address
abbrev pub tag_among : List Placed → (address : ℕ) → Option ℕ → Option ℕ
tag_among [] address otherwise = otherwise
tag_among (x ∷ xs) address otherwise = if x.at == address then Some x.tag else tag_among xs address otherwise

abbrev pub tag_in_birth : Region → Life → List Placed → (address : ℕ) → Option ℕ → Option ℕ
tag_in_birth Globals life objects address otherwise = otherwise
tag_in_birth (Stack func) life objects address otherwise = otherwise
tag_in_birth Heap life objects address otherwise = if is_living life then tag_among objects address otherwise else otherwise

-- the tag of the living block that begins at an address, or none
unfoldable pub block_tag_at : List StoryBirth → (address : ℕ) → Option ℕ
block_tag_at [] address = None
block_tag_at (birth ∷ births) address = tag_in_birth birth.region birth.life birth.objects address (block_tag_at births address)

abbrev pub free_judged_by : (pointer : ℕ) → Option ℕ → Judgement
free_judged_by pointer None = Refused (Block None)
free_judged_by pointer (Some tag) = if tag == pointer then Passes (BlockTag tag) else Refused (Block (Some tag))

-- a free passes for the number 0, and for the tagged address of a living block
abbrev pub free_judged : Story → (number : ℕ) → Judgement
free_judged w number =
    if number == 0 then Passes NullNumber else free_judged_by (pointer_tag number) (block_tag_at w.births (address_of number))

-- ---- violations

abbrev pub judged_as : Access → StorySetting → Story → List Birth → (number size : ℕ) → Judgement
judged_as Read e w objects number size = access_judged e w objects number size
judged_as Write e w objects number size = access_judged e w objects number size
judged_as Free e w objects number size = free_judged w number

-- The judgement of a violation, by the story and the objects in the state in which it came.
unfoldable pub judged : StorySetting → Story → List Birth → Violation → Judgement
judged e w objects v = judged_as v.access e w objects (pointer_number w v.pointer) v.size
