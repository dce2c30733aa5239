-- What holds in each state of a run. Where the frames are: at instructions of their functions, the callers at calls, and the
-- first task has a frame; so no run of a module that can be run is stuck. And how the tables fit together: as many rings of
-- freed blocks and as many stacks as tasks, and a table of chains that has the chain of each frame.
use Rattle.std.specs.Prelude.{◌≡◌, ℕ, ◌≤◌, Bool, true, false, List, [], ◌∷◌, length, slice_get, Some}
use Rattle.dbg_sites.specs.ChainTable.{ChainEntry, IsChainTable}
use Rattle.stack_tags.specs.Frames.{StacksState, AreStacks}
use Rattle.tag_alloc.specs.HeapBlocks.{HeapState, IsTableOfBlocks}
use Rattle.ir_core.specs.declared.operations.Op.{Op}
use Rattle.ir_core.specs.declared.operations.Op.TheVariants as source
use Rattle.ir_core.specs.declared.ir_module.Function.{Function}
use Rattle.ir_core.specs.declared.ir_module.Inst.{Inst}
use Rattle.ir_core.specs.declared.ir_module.Module.{Module}
use Rattle.ir_core.specs.Operations.{is_phi}
use Rattle.mi_code.specs.Instrumentation.{place_of}
use Rattle.ir_tasks.specs.Frames.{Frame}
use Rattle.ir_machine.specs.State.{MachineWorld}

-- a frame is at instruction i of its function, which isn't a phi: its place is where the code of that instruction begins
pub record IsAt (m : Module) (frame : Frame) (f : Function) (i : ℕ) (inst : Inst) : Type 0 where
  pub func : slice_get m.functions frame.func ≡ Some f
  pub there : slice_get f.insts i ≡ Some inst
  pub not_phi : is_phi inst.op ≡ false
  pub place : frame.place ≡ place_of m f i

-- a frame is at some instruction of its function
abbrev pub IsAtInstruction : Module → Frame → Type 0
IsAtInstruction m frame = (f : Function) × (i : ℕ) × (inst : Inst) × IsAt m frame f i inst

abbrev pub is_call : Op → Bool
is_call (source.Call func result args) = true
is_call other = false

-- a frame is at a call of its function
abbrev pub IsAtCall : Module → Frame → Type 0
IsAtCall m frame = (f : Function) × (i : ℕ) × (inst : Inst) × IsAt m frame f i inst × (is_call inst.op ≡ true)

-- each caller is at a call
abbrev pub AreCallers : Module → List Frame → Type 0
AreCallers m [] = Unit {0}
AreCallers m (frame ∷ frames) = IsAtCall m frame × AreCallers m frames

-- the frames of a task, newest first
abbrev pub AreFrames : Module → List Frame → Type 0
AreFrames m [] = Unit {0}
AreFrames m (frame ∷ callers) = IsAtInstruction m frame × AreCallers m callers

-- a state between two steps: the frames of each task are at their places, and the first task isn't finished
pub record HasPlaces (m : Module) (w : MachineWorld) : Type 0 where
  pub frames : (k : ℕ) (frames : List Frame) → slice_get w.tasks k ≡ Some frames → AreFrames m frames
  pub first : (frame : Frame) × (callers : List Frame) × (slice_get w.tasks 0 ≡ Some (frame ∷ callers))

-- ---- the tables

-- there are so many rings of freed blocks and so many stacks, whose frames follow each other; the living blocks and the chains
-- are tables
pub record FitTogether (heap : HeapState) (stacks : StacksState) (chains : List ChainEntry) (tasks : ℕ) : Type 0 where
  pub rings : length heap.freed ≡ tasks
  pub blocks : IsTableOfBlocks heap
  pub stacks_of : length stacks.tasks ≡ tasks
  pub follow : AreStacks stacks
  pub table : IsChainTable chains

-- the table of chains has the chain of each frame
abbrev pub AreNumbered : List ChainEntry → List Frame → Type 0
AreNumbered chains [] = Unit {0}
AreNumbered chains (frame ∷ frames) = (frame.chain ≤ length chains) × AreNumbered chains frames

-- a state between two steps
pub record HasTables (w : MachineWorld) : Type 0 where
  pub fit : FitTogether w.shared.heap w.shared.stacks w.shared.chains (length w.tasks)
  pub numbered : (k : ℕ) (frames : List Frame) → slice_get w.tasks k ≡ Some frames → AreNumbered w.shared.chains frames
