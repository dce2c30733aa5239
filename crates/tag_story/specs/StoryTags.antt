-- The memory tags and last bytes that granules have by the story alone (Clang, "Hardware-assisted AddressSanitizer Design
-- Documentation", "Algorithm" and "Short granules"). Inside these definitions a granule is its number.
use Rattle.std.specs.Prelude.{ℕ, ◌+◌, ◌-◌, ◌*◌, ◌&&◌, Bool, nat_le, nat_lt, if◌then◌else◌, List, [], ◌∷◌, slice_get, Option, Some, None}
use Rattle.std.specs.List.{list_any}
use Rattle.hw_base.specs.AddressMap.{rounded_size, granule_of}
use Rattle.hw_base.specs.declared.pointers.Obj.{Obj}
use Rattle.hw_shadow.specs.ObjectTags.{tag_in}
use Rattle.tbi_memory.specs.AddressSpace.{is_in, mapped_ranges}
use Rattle.global_tags.specs.GlobalPlaces.{layout_of}
use Rattle.ir_meaning.specs.Births.{Birth, is_living, get_object, bytes_in}
use Rattle.ir_meaning.specs.Values.{SourceByte}
use Rattle.tag_story.specs.Story.{StorySetting, Placed, StoryBirth, FreedBlock, Story, byte_image}

-- ---- owners of granules

-- a granule is in the rounded size of an object
abbrev pub covers : Placed → (granule : ℕ) → Bool
covers x g = nat_le x.at (16 * g) && nat_lt (16 * g) (x.at + rounded_size x.size)

-- the living object that holds a granule
pub record Owner : Type 0 where
  pub o : Obj
  pub placed : Placed

-- the first object of a birth that covers a granule, from an index on; or what is found otherwise
unfoldable pub owner_in : (birth index : ℕ) → List Placed → (granule : ℕ) → Option Owner → Option Owner
owner_in n k [] g otherwise = otherwise
owner_in n k (x ∷ xs) g otherwise =
    if covers x g then Some (record { o = record { birth = n; index = k }; placed = x }) else owner_in n (k + 1) xs g otherwise

-- the first living object that covers a granule, from a birth on
unfoldable pub owner_from : (birth : ℕ) → List StoryBirth → (granule : ℕ) → Option Owner
owner_from n [] g = None
owner_from n (birth ∷ births) g =
    if is_living birth.life then owner_in n 0 birth.objects g (owner_from (n + 1) births g) else owner_from (n + 1) births g

abbrev pub owner_of : List StoryBirth → (granule : ℕ) → Option Owner
owner_of births g = owner_from 0 births g

-- ---- memory tags

-- the free tag of the block that was freed last among those that covered a granule, and 0 if there was none
unfoldable pub freed_tag : List FreedBlock → (granule : ℕ) → ℕ
freed_tag [] g = 0
freed_tag (x ∷ xs) g = if covers x.block g then x.free_tag else freed_tag xs g

-- a granule is mapped
abbrev pub is_mapped : StorySetting → (granule : ℕ) → Bool
is_mapped e g = list_any (is_in (16 * g)) (mapped_ranges e.places (layout_of e.places e.program.layouts e.program.globals))

-- the tag of a granule that no living object holds
abbrev pub ground_tag : StorySetting → List FreedBlock → (granule : ℕ) → Option ℕ
ground_tag e freed g = if is_mapped e g then Some (freed_tag freed g) else None

abbrev pub owned_tag : Placed → (granule : ℕ) → ℕ
owned_tag x g = tag_in x.size x.tag (g - granule_of x.at)

abbrev pub tag_by : StorySetting → List FreedBlock → (granule : ℕ) → Option Owner → Option ℕ
tag_by e freed g None = ground_tag e freed g
tag_by e freed g (Some owner) = Some (owned_tag owner.placed g)

-- The memory tag of a granule, or none if it isn't mapped.
abbrev pub memory_tag : StorySetting → Story → (granule : ℕ) → Option ℕ
memory_tag e w g = tag_by e w.freed g (owner_of w.births g)

-- ---- last bytes

-- a granule is wholly inside an object
abbrev pub is_full : Placed → (granule : ℕ) → Bool
is_full x g = nat_le (16 * g + 16) (x.at + x.size)

abbrev pub image_at : List StoryBirth → Option SourceByte → ℕ
image_at births None = 0
image_at births (Some byte) = byte_image births byte

-- the last byte of a granule: the tag of its owner in a short granule, and else the image of the owner's byte there
abbrev pub last_by : List StoryBirth → List Birth → (granule : ℕ) → Option Owner → ℕ
last_by births objects g None = 0
last_by births objects g (Some owner) =
    if is_full owner.placed g
    then image_at births (slice_get (bytes_in (get_object objects owner.o)) (16 * g + 15 - owner.placed.at))
    else owner.placed.tag

-- The last byte of a granule, by the story and the objects of the source run. Nothing is said of one that no living object
-- holds.
abbrev pub last_byte : Story → List Birth → (granule : ℕ) → ℕ
last_byte w objects g = last_by w.births objects g (owner_of w.births g)
