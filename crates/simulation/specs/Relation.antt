-- The relation between the source run with its story and the machine: one record over what all tasks share, one over a frame,
-- and one over what a step sees.
use Rattle.std.specs.Prelude.{◌≡◌, ℕ, ◌+◌, ◌%◌, ◌^◌, ◌<◌, ◌≤◌, List, [], ◌∷◌, length, map, take, slice_get, Option, Some, None}
use Rattle.std.specs.List.{filter_map}
use Rattle.hw_base.specs.declared.numbers.TheConstants.{MOST_FRAMES, MOST_TASKS}
use Rattle.dbg_sites.specs.ChainTable.{ChainEntry, IsChainTable}
use Rattle.global_tags.specs.GlobalPlaces.{constants_size, descriptors_of}
use Rattle.global_tags.specs.declared.descriptor.Descriptor.{Descriptor}
use Rattle.ir_core.specs.declared.ir_module.Function.{Function}
use Rattle.ir_core.specs.declared.ir_module.GlobalVar.{GlobalVar}
use Rattle.ir_core.specs.declared.ir_module.Inst.{Inst}
use Rattle.ir_core.specs.declared.ir_module.Module.{Module}
use Rattle.ir_core.specs.declared.operands.Placed.{Placed as PlacedOperand}
use Rattle.ir_core.specs.declared.operations.Op.TheVariants.{Call}
use Rattle.ir_core.specs.Runnable.{IsRunnable}
use Rattle.ir_meaning.specs.Births.{Globals}
use Rattle.ir_meaning.specs.BirthChanges.{HaveTheirBytes}
use Rattle.ir_meaning.specs.State.{SourceFrame}
use Rattle.ir_tasks.specs.Frames.{Frame}
use Rattle.ir_lib.specs.Strings.{mapped_end}
use Rattle.mi_code.specs.Instrumentation.{instrumented, place_of}
use Rattle.stack_tags.specs.Frames as stacks
use Rattle.tag_alloc.specs.declared.blocks.Freed.{Freed}
use Rattle.tag_alloc.specs.HeapBlocks as heap
use Rattle.tag_story.specs.Story.{StorySetting, StoryBirth, OpenFrame, Story}
use Rattle.tag_story.specs.StoryFacts.{HasRoom, IsLaidOut}
use Rattle.tag_story.specs.ToldRun.{ToldShared, ToldSeen, ToldWorld}
use Rattle.ir_machine.specs.State.{MachineSetting, MachineShared, MachineSeen, MachineWorld}
use Rattle.simulation.specs.Parts.{AreTold, AreKnownBytes, HasTags, HasBytes, HasConstants, IsBorn, IsMapped, IsChain, HasBlocks, IsFreedOf, AreInHeap, freed_by_task, AreEach, IsFrameOf, AreOpen, frames_of_task, IsEndedOf, ended_by_task, AreStarted, HasRegisters}

-- ---- the setting

-- the story of a machine's setting: the same map, module and words
abbrev pub story_setting : MachineSetting → StorySetting
story_setting setting = record { places = setting.places; program = setting.program; word = setting.word }

-- the machine runs the module's own code, on a map that ends below 2 ^ 56, whose heap is whole granules, and that has the bounds
-- that the source has
pub record IsSetting (setting : MachineSetting) : Type 0 where
  pub runnable : IsRunnable setting.program
  pub code : setting.code ≡ instrumented setting.program
  pub room : HasRoom (story_setting setting)
  pub below : setting.places.heap_at + setting.places.heap_length < 2 ^ 56
  pub whole : setting.places.heap_length % 16 ≡ 0
  pub frames : setting.places.most_frames ≡ MOST_FRAMES
  pub tasks : setting.places.most_tasks ≡ MOST_TASKS

-- ---- what all tasks share

-- the globals of the machine are those of the story, which are its first birth, if there are any
abbrev pub HasGlobals : List GlobalVar → List StoryBirth → List Descriptor → Type 0
HasGlobals [] births descriptors = Unit {0}
HasGlobals (g ∷ globals) births descriptors =
    (birth : StoryBirth) × (slice_get births 0 ≡ Some birth) × (birth.region ≡ Globals)
    × (birth.objects ≡ map (λ (d : Descriptor). record { at = d.at; size = d.size; tag = d.tag }) descriptors)

-- the tables of blocks and of frames have a part for each task
pub record HasTables (tasks : ℕ) (m : MachineShared) : Type 0 where
  pub rings : length m.heap.freed ≡ tasks
  pub stacks : length m.stacks.tasks ≡ tasks

pub record HeapRelated (setting : MachineSetting) (w : Story) (table : List ChainEntry) (m : heap.HeapState) : Type 0 where
  pub from : m.from ≡ setting.places.heap_at
  pub end : m.end ≡ setting.places.heap_at + setting.places.heap_length
  pub blocks : HasBlocks table w.births m.living
  pub size : m.living_size ≡ w.heap_size
  pub ring : m.ring ≡ setting.ring
  pub freed : (task : ℕ) (records : List Freed) → slice_get m.freed task ≡ Some records
      → AreEach (IsFreedOf table w.births) records (take setting.ring (freed_by_task task w.freed))

pub record StacksRelated (setting : MachineSetting) (w : Story) (table : List ChainEntry) (m : stacks.StacksState) : Type 0 where
  pub from : m.from ≡ setting.places.stacks_at
  pub stack_length : m.stack_length ≡ setting.places.stack_length
  pub ring : m.ring ≡ setting.ring
  pub living : (task : ℕ) (frames : stacks.TaskFrames) → slice_get m.tasks task ≡ Some frames
      → AreEach (IsFrameOf table w.births) frames.living (frames_of_task task w.frames)
  pub ended : (task : ℕ) (frames : stacks.TaskFrames) → slice_get m.tasks task ≡ Some frames
      → AreEach (IsEndedOf table w.births) frames.ended (take setting.ring (ended_by_task task w.ended))

pub record SharedRelated (setting : MachineSetting) (t : ToldShared) (m : MachineShared) : Type 0 where
  pub laid : IsLaidOut (story_setting setting) t.story
  pub told : AreTold t.source.births t.story.births
  pub their_bytes : HaveTheirBytes t.source.births
  pub known : AreKnownBytes t.source.births t.story.births
  pub table : IsChainTable m.chains
  pub tags : HasTags (story_setting setting) t.story m.memory.shadow
  pub bytes : HasBytes t.source.births t.story.births m.memory.bytes
  pub mapped : IsMapped (story_setting setting) m.memory.bytes
  pub ends : mapped_end m.memory.bytes < 2 ^ 56
  pub constants_at : m.memory.constants_at ≡ setting.places.globals_at
  pub constants_end : m.memory.constants_end ≡ setting.places.globals_at + constants_size setting.program.layouts setting.program.globals
  pub descriptors : m.globals ≡ descriptors_of setting.places setting.program.layouts setting.program.globals (setting.word 0)
  pub constants : HasConstants t.source.births t.story.births m.memory.constants_at m.memory.constants_end
  pub globals : HasGlobals setting.program.globals t.story.births m.globals
  pub heap : HeapRelated setting t.story m.chains m.heap
  pub freed : AreInHeap setting.places.heap_at (setting.places.heap_at + setting.places.heap_length) t.story.freed
  pub stacks : StacksRelated setting t.story m.chains m.stacks
  pub opened : AreOpen t.story.births t.story.frames
  pub births : m.births ≡ length t.story.births
  pub drawn : m.drawn ≡ t.story.drawn
  pub input : m.input ≡ t.source.input

-- ---- frames and tasks

-- the frame of a function with variables of these sizes has a birth, whose objects they are
abbrev pub HasVariables : List StoryBirth → (sizes : List ℕ) → Option ℕ → Type 0
HasVariables births [] None = Unit {0}
HasVariables births [] (Some birth) = ⊥
HasVariables births (size ∷ sizes) None = ⊥
HasVariables births (size ∷ sizes) (Some birth) = (k : ℕ) → k < length (size ∷ sizes) → IsBorn births (record { birth = birth; index = k })

-- a frame of the machine is one of the source, wherever it is in its code: its function, its variables, the images of its
-- registers, and its chain
pub record FrameLike (program : Module) (births : List StoryBirth) (table : List ChainEntry) (f : SourceFrame) (m : Frame) : Type 0 where
  pub func : m.func ≡ f.func
  pub sized : (function : Function) → slice_get program.functions f.func ≡ Some function → length f.registers ≡ length function.regs
  pub variables : (function : Function) → slice_get program.functions f.func ≡ Some function → HasVariables births function.allocas f.birth
  pub registers : HasRegisters births f.registers m.registers
  pub chain : IsChain table m.chain f.chain

-- it is at the code of the source's instruction, before what was added to it
abbrev pub IsAtInstruction : MachineSetting → SourceFrame → Frame → Type 0
IsAtInstruction setting f m =
    (function : Function) → slice_get setting.program.functions f.func ≡ Some function → m.place ≡ place_of setting.program function f.inst

pub record FrameRelated (setting : MachineSetting) (births : List StoryBirth) (table : List ChainEntry) (f : SourceFrame) (m : Frame) : Type 0 where
  pub like : FrameLike setting.program births table f m
  pub place : IsAtInstruction setting f m

-- a frame that called another one is at a call of a defined function
pub record IsAtCall (program : Module) (f : SourceFrame) : Type 0 where
  pub function : Function
  pub inst : Inst
  pub func : ℕ
  pub result : ℕ
  pub args : List PlacedOperand
  pub there : slice_get program.functions f.func ≡ Some function
  pub instruction : slice_get function.insts f.inst ≡ Some inst
  pub call : inst.op ≡ Call func result args

pub record CallerRelated (setting : MachineSetting) (births : List StoryBirth) (table : List ChainEntry) (f : SourceFrame) (m : Frame) : Type 0 where
  pub frame : FrameRelated setting births table f m
  pub at_call : IsAtCall setting.program f

abbrev pub CallersRelated : MachineSetting → List StoryBirth → List ChainEntry → List SourceFrame → List Frame → Type 0
CallersRelated setting births table frames machine = AreEach (CallerRelated setting births table) frames machine

-- a task's frames, the newest first
abbrev pub FramesRelated : MachineSetting → List StoryBirth → List ChainEntry → List SourceFrame → List Frame → Type 0
FramesRelated setting births table [] [] = Unit {0}
FramesRelated setting births table [] (m ∷ machine) = ⊥
FramesRelated setting births table (f ∷ frames) [] = ⊥
FramesRelated setting births table (f ∷ frames) (m ∷ machine) = FrameRelated setting births table f m × CallersRelated setting births table frames machine

-- the births of a task's frames are its living frames in the story, the newest first
abbrev pub OwnsFrames : (task : ℕ) → List SourceFrame → Story → Type 0
OwnsFrames task frames w =
    filter_map (λ (f : SourceFrame). f.birth) frames ≡ map (λ (o : OpenFrame). o.birth) (frames_of_task task w.frames)

-- ---- what a step sees, and worlds

-- the machine sees what the source does, wherever its frame is in its code
pub record SeenLike (setting : MachineSetting) (t : ToldSeen) (m : MachineSeen) : Type 0 where
  pub shared : SharedRelated setting t.shared m.shared
  pub task : m.task ≡ t.task
  pub frame : FrameLike setting.program t.shared.story.births m.shared.chains t.frame m.frame
  pub callers : CallersRelated setting t.shared.story.births m.shared.chains t.callers m.callers
  pub owned : OwnsFrames t.task (t.frame ∷ t.callers) t.shared.story
  pub finished : m.finished ≡ t.finished
  pub step : m.step ≡ t.step
  pub there : t.task < length t.finished
  pub few : length t.finished ≤ setting.places.most_tasks
  pub tables : HasTables (length t.finished) m.shared
  pub started : AreStarted (length t.finished) t.shared.story

pub record SeenRelated (setting : MachineSetting) (t : ToldSeen) (m : MachineSeen) : Type 0 where
  pub like : SeenLike setting t m
  pub place : IsAtInstruction setting t.frame m.frame

pub record WorldRelated (setting : MachineSetting) (t : ToldWorld) (m : MachineWorld) : Type 0 where
  pub shared : SharedRelated setting t.shared m.shared
  pub tasks : AreEach (FramesRelated setting t.shared.story.births m.shared.chains) t.tasks m.tasks
  pub owned : (task : ℕ) (frames : List SourceFrame) → slice_get t.tasks task ≡ Some frames → OwnsFrames task frames t.shared.story
  pub few : length t.tasks ≤ setting.places.most_tasks
  pub tables : HasTables (length t.tasks) m.shared
  pub started : AreStarted (length t.tasks) t.shared.story
  pub steps : m.steps ≡ t.steps
  pub turns : m.turns ≡ t.turns
