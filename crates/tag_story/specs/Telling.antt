-- How a birth or a death goes on with the story: the place and the tag of what is born, the words that are drawn, and what is
-- remembered of what died (Clang, "Hardware-assisted AddressSanitizer Design Documentation", "Stack", "Heap" and "Globals";
-- places and tags are this project's choice). A birth for which there is no room makes the story full.
use Rattle.std.specs.Prelude.{ℕ, ◌+◌, ◌-◌, ◌*◌, not, ◌==◌, nat_le, if◌then◌else◌, List, [], ◌∷◌, ◌++◌, map, length, slice_get, Option, Some, None, Result, Ok, Err}
use Rattle.std.specs.List.{filter, flat_map}
use Rattle.hw_base.specs.AddressMap.{AddressMap, rounded_size, frame_size}
use Rattle.hw_base.specs.declared.endings.Full.{Full}
use Rattle.hw_base.specs.declared.endings.Space.TheVariants.{Heap as HeapSpace, Stack as StackSpace}
use Rattle.hw_base.specs.declared.pointers.Site.{Site}
use Rattle.hw_tags.specs.LeastPlace.{Span, least_fit}
use Rattle.hw_tags.specs.Tag.{heap_tag_of, free_tag_of, frame_tag_of}
use Rattle.global_tags.specs.GlobalPlaces.{descriptors_of}
use Rattle.global_tags.specs.declared.descriptor.Descriptor.{Descriptor}
use Rattle.ir_meaning.specs.Births.{Region, Globals, Stack, Heap, Life, Living, Dead, is_living, changed_at}
use Rattle.ir_meaning.specs.State.{News, Born, Died}
use Rattle.tag_story.specs.Story.{StorySetting, Placed, StoryBirth, OpenFrame, Story}

-- one more birth, living, which draws a word
abbrev pub with_birth : Story → Region → (task : ℕ) → List Site → List Placed → Story
with_birth w region task chain objects =
    record w {
      births = w.births ++ record { region = region; task = task; born = chain; life = Living; objects = objects } ∷ [];
      drawn = w.drawn + 1;
    }

-- ---- globals

abbrev pub global_placed : Descriptor → Placed
global_placed d = record { at = d.at; size = d.size; tag = d.tag }

-- all globals have places by their order in the text, and their tags by one word
abbrev pub globals_told : StorySetting → Story → Story
globals_told e w =
    with_birth w Globals 0 [] (map global_placed (descriptors_of e.places e.program.layouts e.program.globals (e.word w.drawn)))

-- ---- frames

-- the lowest address of a task's living frames, or the end of its stack if it has none
abbrev pub lowest_from : (task end : ℕ) → List OpenFrame → ℕ
lowest_from task end [] = end
lowest_from task end (frame ∷ frames) = if frame.task == task then frame.low else lowest_from task end frames

-- the address after the last of a task's stack
abbrev pub stack_end : AddressMap → (task : ℕ) → ℕ
stack_end places task = places.stacks_at + (task + 1) * places.stack_length

abbrev pub lowest : StorySetting → Story → (task : ℕ) → ℕ
lowest e w task = lowest_from task (stack_end e.places task) w.frames

-- what a task's living frames take, in bytes
abbrev pub stack_size : StorySetting → Story → (task : ℕ) → ℕ
stack_size e w task = stack_end e.places task - lowest e w task

-- the variables of a frame from number k on, each after the one before it
unfoldable pub variables_from : (word k at : ℕ) → (sizes : List ℕ) → List Placed
variables_from word k at [] = []
variables_from word k at (size ∷ sizes) =
    record { at = at; size = size; tag = frame_tag_of word k } ∷ variables_from word (k + 1) (at + rounded_size size) sizes

-- a frame directly below its task's newest living one
abbrev pub frame_at : StorySetting → Story → (func task low : ℕ) → List Site → (sizes : List ℕ) → Story
frame_at e w func task low chain sizes =
    record (with_birth w (Stack func) task chain (variables_from (e.word w.drawn) 0 low sizes)) {
      frames = record { birth = length w.births; task = task; low = low } ∷ w.frames;
    }

-- the frame, or the stack is full
abbrev pub frame_told : StorySetting → Story → (func task : ℕ) → List Site → (sizes : List ℕ) → Result Story Full
frame_told e w func task chain sizes =
    if nat_le (stack_size e w task + frame_size sizes) e.places.stack_length
    then Ok (frame_at e w func task (lowest e w task - frame_size sizes) chain sizes)
    else Err (record { space = StackSpace; asked = frame_size sizes; living = stack_size e w task })

-- ---- blocks

abbrev pub span_of : Placed → Span
span_of placed = record { at = placed.at; size = rounded_size placed.size }

-- what the objects of a living block take
abbrev pub block_spans : Region → Life → List Placed → List Span
block_spans Globals life objects = []
block_spans (Stack func) life objects = []
block_spans Heap life objects = if is_living life then map span_of objects else []

-- what all living blocks take
abbrev pub living_spans : List StoryBirth → List Span
living_spans births = flat_map (λ (birth : StoryBirth). block_spans birth.region birth.life birth.objects) births

-- the least place of a new block: it is wholly in the heap and overlaps no living block
abbrev pub place_of_block : StorySetting → Story → (size : ℕ) → Option ℕ
place_of_block e w size =
    least_fit (living_spans w.births) (rounded_size size) e.places.heap_at (e.places.heap_at + e.places.heap_length)

abbrev pub block_at : StorySetting → Story → (task at size : ℕ) → List Site → Story
block_at e w task at size chain =
    record (with_birth w Heap task chain (record { at = at; size = size; tag = heap_tag_of (e.word w.drawn) } ∷ [])) {
      heap_size = w.heap_size + rounded_size size;
    }

-- the block at its place, or the heap is full
abbrev pub block_by : StorySetting → Story → (task size : ℕ) → List Site → Option ℕ → Result Story Full
block_by e w task size chain None = Err (record { space = HeapSpace; asked = size; living = w.heap_size })
block_by e w task size chain (Some at) = Ok (block_at e w task at size chain)

-- a block has one object; no run tells another birth in the heap
abbrev pub block_told : StorySetting → Story → (task : ℕ) → List Site → (sizes : List ℕ) → Result Story Full
block_told e w task chain [] = Ok w
block_told e w task chain (size ∷ sizes) = block_by e w task size chain (place_of_block e w size)

-- ---- deaths

-- a birth is dead from now on
abbrev pub ended : (task : ℕ) → List Site → StoryBirth → StoryBirth
ended task chain birth = record birth { life = Dead task chain }

abbrev pub without_birth : Story → (number task : ℕ) → List Site → Story
without_birth w number task chain = record w { births = changed_at (ended task chain) w.births number }

-- a frame has ended: it is no longer the lowest of its task
abbrev pub frame_ended : Story → (number task : ℕ) → List Site → Story
frame_ended w number task chain =
    record (without_birth w number task chain) {
      frames = filter (λ (frame : OpenFrame). not (frame.birth == number)) w.frames;
      ended = record { birth = number; task = task } ∷ w.ended;
    }

-- a block was freed: its memory has a free tag, by a word
abbrev pub block_freed : StorySetting → Story → (number task : ℕ) → List Site → Placed → Story
block_freed e w number task chain block =
    record (without_birth w number task chain) {
      heap_size = w.heap_size - rounded_size block.size;
      freed = record { birth = number; task = task; block = block; free_tag = free_tag_of (e.word w.drawn) block.tag } ∷ w.freed;
      drawn = w.drawn + 1;
    }

abbrev pub freed_by : StorySetting → Story → (number task : ℕ) → List Site → List Placed → Story
freed_by e w number task chain [] = w
freed_by e w number task chain (block ∷ blocks) = block_freed e w number task chain block

abbrev pub death_by : StorySetting → Story → (number task : ℕ) → List Site → Region → List Placed → Story
death_by e w number task chain Globals objects = w
death_by e w number task chain (Stack func) objects = frame_ended w number task chain
death_by e w number task chain Heap objects = freed_by e w number task chain objects

abbrev pub death_told : StorySetting → Story → (number task : ℕ) → List Site → Option StoryBirth → Story
death_told e w number task chain None = w
death_told e w number task chain (Some birth) = death_by e w number task chain birth.region birth.objects

-- ---- news

abbrev pub birth_told : StorySetting → Story → Region → (task : ℕ) → List Site → (sizes : List ℕ) → Result Story Full
birth_told e w Globals task chain sizes = Ok (globals_told e w)
birth_told e w (Stack func) task chain sizes = frame_told e w func task chain sizes
birth_told e w Heap task chain sizes = block_told e w task chain sizes

-- The story after one birth or death, or it is full.
unfoldable pub told : StorySetting → Story → News → Result Story Full
told e w (Born number region task chain sizes) = birth_told e w region task chain sizes
told e w (Died number task chain) = Ok (death_told e w number task chain (slice_get w.births number))

-- on from a story that isn't full
abbrev pub on_told : Result Story Full → (Story → Result Story Full) → Result Story Full
on_told (Ok w) go = go w
on_told (Err full) go = Err full

-- The story after births and deaths in order; the first birth without room makes it full.
unfoldable pub all_told : StorySetting → Story → List News → Result Story Full
all_told e w [] = Ok w
all_told e w (news ∷ later) = on_told (told e w news) (λ v. all_told e v later)
