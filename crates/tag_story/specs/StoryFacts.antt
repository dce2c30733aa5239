-- What holds of every story: its objects are aligned, in their ranges and apart, tags are in their ranges, and the living
-- frames of a task follow each other down from its stack's end. Laws of this project's definitions.
use Rattle.std.specs.Prelude.{◌≡◌, ℕ, ◌+◌, ◌*◌, ◌%◌, ◌^◌, ◌<◌, ◌≤◌, ◌⊎◌, true, List, [], ◌∷◌, slice_get, Some, Ok}
use Rattle.hw_base.specs.AddressMap.{rounded_size}
use Rattle.global_tags.specs.GlobalPlaces.{variables_at, variables_size}
use Rattle.ir_meaning.specs.Births.{Region, Globals, Stack, Heap, is_living}
use Rattle.ir_meaning.specs.State.{News, Born, Died}
use Rattle.tag_story.specs.Story.{StorySetting, Placed, StoryBirth, OpenFrame, FreedBlock, Story}
use Rattle.tag_story.specs.Telling.{stack_end, told}

-- ---- the setting

-- where the globals of a setting end
abbrev pub globals_end : StorySetting → ℕ
globals_end e =
    variables_at e.places e.program.layouts e.program.globals + variables_size e.program.layouts e.program.globals

-- the ranges of the map are whole granules, and apart: the globals, then the stacks, then the heap, within 2^56 bytes
pub record HasRoom (e : StorySetting) : Type 0 where
  pub globals_aligned : e.places.globals_at % 16 ≡ 0
  pub stacks_aligned : e.places.stacks_at % 16 ≡ 0
  pub stack_aligned : e.places.stack_length % 16 ≡ 0
  pub heap_aligned : e.places.heap_at % 16 ≡ 0
  pub globals_below : globals_end e ≤ e.places.stacks_at
  pub stacks_below : e.places.stacks_at + e.places.most_tasks * e.places.stack_length ≤ e.places.heap_at
  pub heap_below : e.places.heap_at + e.places.heap_length ≤ 2 ^ 56

-- ---- news

-- all globals are the first birth, and a frame's task is one that the map has a stack for
abbrev pub IsNextNews : StorySetting → Story → News → Type 0
IsNextNews e w (Born number Globals task chain sizes) = w.births ≡ []
IsNextNews e w (Born number (Stack func) task chain sizes) = task < e.places.most_tasks
IsNextNews e w (Born number Heap task chain sizes) = Unit {0}
IsNextNews e w (Died number task chain) = Unit {0}

-- the same of births and deaths in order, each after those before it
abbrev pub AreNextNews : StorySetting → Story → List News → Type 0
AreNextNews e w [] = Unit {0}
AreNextNews e w (news ∷ later) = IsNextNews e w news × ((v : Story) → told e w news ≡ Ok v → AreNextNews e v later)

-- ---- objects

-- an object is in the range of its birth's region: the globals, its task's stack, or the heap
abbrev pub IsInRegion : StorySetting → Region → (task : ℕ) → Placed → Type 0
IsInRegion e Globals task x = (e.places.globals_at ≤ x.at) × (x.at + rounded_size x.size ≤ globals_end e)
IsInRegion e (Stack func) task x =
    (task < e.places.most_tasks)
    × (e.places.stacks_at + task * e.places.stack_length ≤ x.at)
    × (x.at + rounded_size x.size ≤ stack_end e.places task)
IsInRegion e Heap task x =
    (e.places.heap_at ≤ x.at) × (x.at + rounded_size x.size ≤ e.places.heap_at + e.places.heap_length)

-- the tags of a region: 1 to 255, and from 16 on for globals
abbrev pub HasTag : Region → Placed → Type 0
HasTag Globals x = (16 ≤ x.tag) × (x.tag < 256)
HasTag (Stack func) x = (1 ≤ x.tag) × (x.tag < 256)
HasTag Heap x = (1 ≤ x.tag) × (x.tag < 256)

-- object k of birth n
pub record IsObject (births : List StoryBirth) (n k : ℕ) (birth : StoryBirth) (x : Placed) : Type 0 where
  pub there : slice_get births n ≡ Some birth
  pub object : slice_get birth.objects k ≡ Some x

-- the rounded sizes of two objects are apart
abbrev pub AreApart : Placed → Placed → Type 0
AreApart x y = (x.at + rounded_size x.size ≤ y.at) ⊎ (y.at + rounded_size y.size ≤ x.at)

-- ---- frames

-- a frame is at or below those of its task that are listed after it
abbrev pub IsBelow : OpenFrame → List OpenFrame → Type 0
IsBelow f frames = (i : ℕ) (g : OpenFrame) → slice_get frames i ≡ Some g → g.task ≡ f.task → f.low ≤ g.low

-- frames of one task are listed upwards
abbrev pub AreUpwards : List OpenFrame → Type 0
AreUpwards [] = Unit {0}
AreUpwards (f ∷ frames) = IsBelow f frames × AreUpwards frames

-- a living frame is listed, at or below its variables
pub record IsListed (frames : List OpenFrame) (n t : ℕ) (x : Placed) : Type 0 where
  pub i : ℕ
  pub frame : OpenFrame
  pub there : slice_get frames i ≡ Some frame
  pub birth : frame.birth ≡ n
  pub task : frame.task ≡ t
  pub low : frame.low ≤ x.at

abbrev pub IsListedIn : Region → List OpenFrame → (n task : ℕ) → Placed → Type 0
IsListedIn Globals frames n task x = Unit {0}
IsListedIn (Stack func) frames n task x = IsListed frames n task x
IsListedIn Heap frames n task x = Unit {0}

-- ---- stories

pub record IsLaidOut (e : StorySetting) (w : Story) : Type 0 where
  pub aligned : (n k : ℕ) (birth : StoryBirth) (x : Placed) → IsObject w.births n k birth x → x.at % 16 ≡ 0
  pub inside : (n k : ℕ) (birth : StoryBirth) (x : Placed) → IsObject w.births n k birth x → IsInRegion e birth.region birth.task x
  pub tagged : (n k : ℕ) (birth : StoryBirth) (x : Placed) → IsObject w.births n k birth x → HasTag birth.region x
  pub apart : (n k m j : ℕ) (b c : StoryBirth) (x y : Placed) → IsObject w.births n k b x → IsObject w.births m j c y
      → is_living b.life ≡ true → is_living c.life ≡ true → AreApart x y ⊎ ((n ≡ m) × (k ≡ j))
  pub listed : (n k : ℕ) (birth : StoryBirth) (x : Placed) → IsObject w.births n k birth x → is_living birth.life ≡ true
      → IsListedIn birth.region w.frames n birth.task x
  pub upwards : AreUpwards w.frames
  pub lows_aligned : (i : ℕ) (f : OpenFrame) → slice_get w.frames i ≡ Some f → f.low % 16 ≡ 0
  pub lows_inside : (i : ℕ) (f : OpenFrame) → slice_get w.frames i ≡ Some f
      → (e.places.stacks_at + f.task * e.places.stack_length ≤ f.low) × (f.low ≤ stack_end e.places f.task)
  pub freed_tags : (i : ℕ) (x : FreedBlock) → slice_get w.freed i ≡ Some x
      → (16 ≤ x.free_tag) × (x.free_tag < 256) × (x.free_tag ≡ x.block.tag → ⊥)
