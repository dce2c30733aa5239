-- The tag story: where the objects of a source run would be in the simulated memory, and which tags they would have. It
-- follows the run's births and deaths alone. It keeps no memory, no table of holes and no registers. This project's choice
-- of places and tags.
use Rattle.std.specs.Prelude.{ℕ, ◌+◌, ◌%◌, ◌^◌, ◌==◌, Bool, List, [], slice_get, Option, Some, None}
use Rattle.hw_base.specs.AddressMap.{AddressMap}
use Rattle.hw_base.specs.Bytes.{byte_of}
use Rattle.hw_base.specs.TaggedAddress.{pointer_tag, tagged_address}
use Rattle.hw_base.specs.declared.pointers.Base.{Base}
use Rattle.hw_base.specs.declared.pointers.Base.TheVariants.{Null, Object}
use Rattle.hw_base.specs.declared.pointers.Obj.{Obj}
use Rattle.hw_base.specs.declared.pointers.Pointer.{Pointer}
use Rattle.hw_base.specs.declared.pointers.Site.{Site}
use Rattle.ir_core.specs.declared.ir_module.Module.{Module}
use Rattle.ir_meaning.specs.Births.{Region, Life}
use Rattle.ir_meaning.specs.Values.{Value, Integer, Address, IntegerAndBit, SourceByte, Data, Piece}

-- what a story is given: the address map, the module, whose globals it places, and the tag words by their index
pub record StorySetting : Type 0 where
  pub places : AddressMap
  pub program : Module
  pub word : ℕ → ℕ

-- an object in the simulated memory: its first address, its size in bytes, and its tag
pub record Placed : Type 0 where
  pub at : ℕ
  pub size : ℕ
  pub tag : ℕ

-- a birth in the story: what it is, its task, its chain of sites, its life, and its objects by their index
pub record StoryBirth : Type 0 where
  pub region : Region
  pub task : ℕ
  pub born : List Site
  pub life : Life
  pub objects : List Placed

-- a living frame: its birth, its task and its lowest address
pub record OpenFrame : Type 0 where
  pub birth : ℕ
  pub task : ℕ
  pub low : ℕ

-- a block that was freed: its birth, the task that freed it, its place, size and tag, and the free tag of its memory
pub record FreedBlock : Type 0 where
  pub birth : ℕ
  pub task : ℕ
  pub block : Placed
  pub free_tag : ℕ

-- a frame that ended: its birth and its task
pub record EndedFrame : Type 0 where
  pub birth : ℕ
  pub task : ℕ

-- All births by their number; the living frames, newest first; what the living blocks take, in bytes; the blocks that were
-- freed and the frames that ended, the last one first; and how many tag words were drawn.
pub record Story : Type 0 where
  pub births : List StoryBirth
  pub frames : List OpenFrame
  pub heap_size : ℕ
  pub freed : List FreedBlock
  pub ended : List EndedFrame
  pub drawn : ℕ

-- the story before anything is born
abbrev pub no_story : Story
no_story = record { births = []; frames = []; heap_size = 0; freed = []; ended = []; drawn = 0 }

-- ---- objects by their numbers

abbrev pub placed_in : Option StoryBirth → (index : ℕ) → Option Placed
placed_in None index = None
placed_in (Some birth) index = slice_get birth.objects index

abbrev pub get_placed : List StoryBirth → Obj → Option Placed
get_placed births o = placed_in (slice_get births o.birth) o.index

-- ---- numbers and images

-- the tagged address so many bytes after the start of an object
abbrev pub number_in : Option Placed → (off : ℕ) → ℕ
number_in None off = off % 2 ^ 64
number_in (Some placed) off = tagged_address placed.tag (placed.at + off)

-- the number that a pointer is: its tagged address, and the offset alone if it is based on null
abbrev pub number_of : List StoryBirth → Base → (off : ℕ) → ℕ
number_of births Null off = off
number_of births (Object o) off = number_in (get_placed births o) off

abbrev pub pointer_number : Story → Pointer → ℕ
pointer_number w p = number_of w.births p.base p.off

-- the number that a value is in a machine register; of a pair the first part
abbrev pub value_image : List StoryBirth → Value → ℕ
value_image births (Integer n) = n
value_image births (Address base off) = number_of births base off
value_image births (IntegerAndBit n bit) = n

-- the byte that a byte of the source is in memory
abbrev pub byte_image : List StoryBirth → SourceByte → ℕ
byte_image births (Data n) = n
byte_image births (Piece o off j) = byte_of (number_of births (Object o) off) j

-- a pointer keeps its tag: the top byte of its number is the tag of its object
abbrev pub has_tag_of : Option Placed → (number : ℕ) → Bool
has_tag_of None number = pointer_tag number == 0
has_tag_of (Some placed) number = pointer_tag number == placed.tag

abbrev pub keeps_tag_from : List StoryBirth → Base → (off : ℕ) → Bool
keeps_tag_from births Null off = pointer_tag off == 0
keeps_tag_from births (Object o) off = has_tag_of (get_placed births o) (number_of births (Object o) off)

abbrev pub keeps_tag : Story → Pointer → Bool
keeps_tag w p = keeps_tag_from w.births p.base p.off
