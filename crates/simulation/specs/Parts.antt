-- The parts of the relation between the source run with its story and the machine, each over the components that it speaks
-- of: objects and the story, memory with its tags, the tables of blocks, frames and globals, chains, and registers.
use Rattle.std.specs.Prelude.{◌≡◌, ℕ, ◌+◌, ◌-◌, ◌*◌, ◌%◌, ◌<◌, ◌≤◌, Bool, true, false, ◌==◌, List, [], ◌∷◌, map, length, is_some, slice_get, slice_index, Option, Some}
use Rattle.std.specs.List.{filter, list_any}
use Rattle.hw_base.specs.AddressMap.{rounded_size}
use Rattle.hw_base.specs.declared.pointers.Base.{Base}
use Rattle.hw_base.specs.declared.pointers.Base.TheVariants.{Null, Object}
use Rattle.hw_base.specs.declared.pointers.Obj.{Obj}
use Rattle.hw_base.specs.declared.pointers.Site.{Site}
use Rattle.dbg_sites.specs.ChainTable.{ChainEntry, chain_of}
use Rattle.tbi_memory.specs.MappedBytes.{Range, byte_at}
use Rattle.tbi_memory.specs.AddressSpace.{is_in, mapped_ranges}
use Rattle.tag_alloc.specs.declared.blocks.Block.{Block}
use Rattle.tag_alloc.specs.declared.blocks.Freed.{Freed}
use Rattle.stack_tags.specs.declared.frame_record.FrameRecord.{FrameRecord}
use Rattle.stack_tags.specs.Frames.{LivingFrame}
use Rattle.global_tags.specs.GlobalPlaces.{layout_of}
use Rattle.ir_meaning.specs.Births.{Stack, Heap, Birth, SourceObject, Dead, is_living, get_object}
use Rattle.ir_meaning.specs.Values.{Value, Integer, Address, IntegerAndBit, SourceByte, Data, Piece}
use Rattle.tag_story.specs.Story.{StorySetting, Placed, StoryBirth, OpenFrame, FreedBlock, EndedFrame, Story, get_placed, value_image, byte_image}
use Rattle.tag_story.specs.StoryTags.{memory_tag}
use Rattle.tag_story.specs.Telling.{variables_from}

-- ---- objects and the story

-- a birth of the story is that of the source: its objects have the same sizes and live as it does
pub record IsTold (birth : Birth) (told : StoryBirth) : Type 0 where
  pub region : told.region ≡ birth.region
  pub task : told.task ≡ birth.task
  pub born : told.born ≡ birth.born
  pub sizes : map (λ (x : Placed). x.size) told.objects ≡ map (λ (x : SourceObject). x.size) birth.objects
  pub lives : (k : ℕ) (x : SourceObject) → slice_get birth.objects k ≡ Some x → x.life ≡ told.life

pub record AreTold (births : List Birth) (told : List StoryBirth) : Type 0 where
  pub count : length told ≡ length births
  pub each : (n : ℕ) (birth : Birth) (story : StoryBirth) → slice_get births n ≡ Some birth → slice_get told n ≡ Some story → IsTold birth story

-- an object was born
abbrev pub IsBorn : List StoryBirth → Obj → Type 0
IsBorn births o = (x : Placed) × (get_placed births o ≡ Some x)

-- a value names an object that was born
abbrev pub IsKnownBase : List StoryBirth → Base → Type 0
IsKnownBase births Null = Unit {0}
IsKnownBase births (Object o) = IsBorn births o

abbrev pub IsKnownValue : List StoryBirth → Value → Type 0
IsKnownValue births (Integer n) = Unit {0}
IsKnownValue births (Address base off) = IsKnownBase births base
IsKnownValue births (IntegerAndBit n bit) = Unit {0}

-- a byte is a number below 256, or a piece of a pointer into an object that was born
abbrev pub IsKnownByte : List StoryBirth → SourceByte → Type 0
IsKnownByte births (Data n) = n < 256
IsKnownByte births (Piece o off j) = IsBorn births o

abbrev pub AreKnownBytes : List Birth → List StoryBirth → Type 0
AreKnownBytes objects births =
    (o : Obj) (x : SourceObject) (i : ℕ) (byte : SourceByte) → get_object objects o ≡ Some x → slice_get x.bytes i ≡ Some byte
    → IsKnownByte births byte

-- ---- memory

-- the shadow has the story's memory tags
abbrev pub HasTags : StorySetting → Story → List Range → Type 0
HasTags e w shadow = (granule : ℕ) → byte_at shadow granule ≡ memory_tag e w granule

-- the bytes of each living object are the images of its source bytes, and a short granule ends in its tag
pub record HasBytes (objects : List Birth) (births : List StoryBirth) (bytes : List Range) : Type 0 where
  pub byte : (o : Obj) (x : SourceObject) (placed : Placed) (i : ℕ) (b : SourceByte) → get_object objects o ≡ Some x
      → get_placed births o ≡ Some placed → slice_get x.bytes i ≡ Some b → byte_at bytes (placed.at + i) ≡ Some (byte_image births b)
  pub last : (o : Obj) (x : SourceObject) (placed : Placed) → get_object objects o ≡ Some x → get_placed births o ≡ Some placed
      → is_living x.life ≡ true → 0 < placed.size % 16 → byte_at bytes (placed.at + rounded_size placed.size - 1) ≡ Some placed.tag

-- the constants are in this range of memory, and no other object is below its end
abbrev pub LiesAsConstant : (constant : Bool) → (at end : ℕ) → Placed → Type 0
LiesAsConstant true at end x = (at ≤ x.at) × (x.at + rounded_size x.size ≤ end)
LiesAsConstant false at end x = end ≤ x.at

abbrev pub HasConstants : List Birth → List StoryBirth → (at end : ℕ) → Type 0
HasConstants objects births at end =
    (o : Obj) (x : SourceObject) (placed : Placed) → get_object objects o ≡ Some x → get_placed births o ≡ Some placed
    → LiesAsConstant x.constant at end placed

-- what is mapped stays mapped, and nothing else is
abbrev pub IsMapped : StorySetting → List Range → Type 0
IsMapped e bytes =
    (address : ℕ) → is_some (byte_at bytes address) ≡ list_any (is_in address) (mapped_ranges e.places (layout_of e.places e.program.layouts e.program.globals))

-- ---- chains

-- a number stands for a chain of sites
pub record IsChain (table : List ChainEntry) (number : ℕ) (chain : List Site) : Type 0 where
  pub there : number ≤ length table
  pub sites : chain_of table number ≡ chain

-- ---- blocks

-- a block of the table is this living block of the story
pub record IsBlockOf (table : List ChainEntry) (births : List StoryBirth) (block : Block) (birth : StoryBirth) : Type 0 where
  pub there : slice_get births block.birth ≡ Some birth
  pub region : birth.region ≡ Heap
  pub alive : is_living birth.life ≡ true
  pub objects : birth.objects ≡ record { at = block.at; size = block.size; tag = block.tag } ∷ []
  pub born : IsChain table block.born birth.born

-- the table has the living blocks, and no others
pub record HasBlocks (table : List ChainEntry) (births : List StoryBirth) (blocks : List Block) : Type 0 where
  pub from : (i : ℕ) (block : Block) → slice_get blocks i ≡ Some block → (birth : StoryBirth) × IsBlockOf table births block birth
  pub to : (n : ℕ) (birth : StoryBirth) → slice_get births n ≡ Some birth → birth.region ≡ Heap → is_living birth.life ≡ true
      → (i : ℕ) × (block : Block) × (slice_get blocks i ≡ Some block) × (block.birth ≡ n)

-- a remembered block is this one of the story, which is dead
pub record IsFreedOf (table : List ChainEntry) (births : List StoryBirth) (freed : Freed) (x : FreedBlock) : Type 0 where
  pub birth : freed.block.birth ≡ x.birth
  pub block : x.block ≡ record { at = freed.block.at; size = freed.block.size; tag = freed.block.tag }
  pub story : StoryBirth
  pub there : slice_get births x.birth ≡ Some story
  pub chain : List Site
  pub dead : story.life ≡ Dead x.task chain
  pub born : IsChain table freed.block.born story.born
  pub died : IsChain table freed.died chain

-- freed blocks are in the heap
abbrev pub AreInHeap : (from end : ℕ) → List FreedBlock → Type 0
AreInHeap from end freed =
    (i : ℕ) (x : FreedBlock) → slice_get freed i ≡ Some x
    → (x.block.at % 16 ≡ 0) × (from ≤ x.block.at) × (x.block.at + rounded_size x.block.size ≤ end)

-- two lists item by item
abbrev pub AreEach : {X Y : Type 0} → (X → Y → Type 0) → List X → List Y → Type 0
AreEach R [] [] = Unit {0}
AreEach R [] (y ∷ ys) = ⊥
AreEach R (x ∷ xs) [] = ⊥
AreEach R (x ∷ xs) (y ∷ ys) = R x y × AreEach R xs ys

-- the blocks that a task freed, the last one first
abbrev pub freed_by_task : (task : ℕ) → List FreedBlock → List FreedBlock
freed_by_task task freed = filter (λ (x : FreedBlock). x.task == task) freed

-- ---- frames

-- a living frame of the table is this one of the story
pub record IsFrameOf (table : List ChainEntry) (births : List StoryBirth) (living : LivingFrame) (frame : OpenFrame) : Type 0 where
  pub birth : living.frame.birth ≡ frame.birth
  pub low : living.frame.low ≡ frame.low
  pub story : StoryBirth
  pub there : slice_get births frame.birth ≡ Some story
  pub region : story.region ≡ Stack living.frame.func
  pub alive : is_living story.life ≡ true
  pub objects : story.objects ≡ variables_from living.frame.word 0 living.frame.low living.sizes
  pub born : IsChain table living.frame.born story.born

-- living frames are births that happened, each its own
pub record AreOpen (births : List StoryBirth) (frames : List OpenFrame) : Type 0 where
  pub below : (i : ℕ) (frame : OpenFrame) → slice_get frames i ≡ Some frame → frame.birth < length births
  pub once : (i j : ℕ) (f g : OpenFrame) → slice_get frames i ≡ Some f → slice_get frames j ≡ Some g → f.birth ≡ g.birth → i ≡ j

abbrev pub frames_of_task : (task : ℕ) → List OpenFrame → List OpenFrame
frames_of_task task frames = filter (λ (frame : OpenFrame). frame.task == task) frames

-- a remembered frame is this one of the story, which is dead
pub record IsEndedOf (table : List ChainEntry) (births : List StoryBirth) (ended : FrameRecord) (x : EndedFrame) : Type 0 where
  pub birth : ended.birth ≡ x.birth
  pub story : StoryBirth
  pub there : slice_get births x.birth ≡ Some story
  pub region : story.region ≡ Stack ended.func
  pub objects : story.objects ≡ variables_from ended.word 0 ended.low (map (λ (y : Placed). y.size) story.objects)
  pub chain : List Site
  pub dead : story.life ≡ Dead x.task chain
  pub number : ℕ
  pub died_at : ended.died ≡ Some number
  pub born : IsChain table ended.born story.born
  pub died : IsChain table number chain

abbrev pub ended_by_task : (task : ℕ) → List EndedFrame → List EndedFrame
ended_by_task task ended = filter (λ (x : EndedFrame). x.task == task) ended

-- all that the story remembers is of tasks that were started
pub record AreStarted (tasks : ℕ) (w : Story) : Type 0 where
  pub freed : (i : ℕ) (x : FreedBlock) → slice_get w.freed i ≡ Some x → x.task < tasks
  pub ended : (i : ℕ) (x : EndedFrame) → slice_get w.ended i ≡ Some x → x.task < tasks
  pub frames : (i : ℕ) (x : OpenFrame) → slice_get w.frames i ≡ Some x → x.task < tasks

-- ---- registers

-- the register of a pair's bit has it
abbrev pub HasBit : List ℕ → (r : ℕ) → Value → Type 0
HasBit numbers r (Integer n) = Unit {0}
HasBit numbers r (Address base off) = Unit {0}
HasBit numbers r (IntegerAndBit n bit) = slice_index numbers (2 * r + 1) ≡ bit

-- each register that was set is the image of its value
pub record HasRegisters (births : List StoryBirth) (values : List (Option Value)) (numbers : List ℕ) : Type 0 where
  pub count : length numbers ≡ 2 * length values
  pub known : (r : ℕ) (v : Value) → slice_get values r ≡ Some (Some v) → IsKnownValue births v
  pub number : (r : ℕ) (v : Value) → slice_get values r ≡ Some (Some v) → slice_index numbers (2 * r) ≡ value_image births v
  pub bit : (r : ℕ) (v : Value) → slice_get values r ≡ Some (Some v) → HasBit numbers r v
