-- What a run of instrumented code has and changes. The machine knows numbers, memory, tables of blocks, frames and globals,
-- and tasks; it knows no object. This project's choice.
use Rattle.std.specs.Prelude.{ℕ, List}
use Rattle.hw_base.specs.AddressMap.{AddressMap}
use Rattle.hw_base.specs.declared.endings.Full.{Full}
use Rattle.hw_base.specs.declared.endings.Trap.{Trap}
use Rattle.hw_tags.specs.InputState.{InputState}
use Rattle.hw_tags.specs.TaskRuns.{World, Seen, Outcome, WorldStep, Run}
use Rattle.ir_core.specs.declared.ir_module.Module.{Module}
use Rattle.mi_code.specs.declared.code_functions.CodeFunction.{CodeFunction}
use Rattle.tbi_memory.specs.AddressSpace.{AddressSpace}
use Rattle.tag_alloc.specs.HeapBlocks.{HeapState}
use Rattle.stack_tags.specs.Frames.{StacksState}
use Rattle.global_tags.specs.declared.descriptor.Descriptor.{Descriptor}
use Rattle.ir_tasks.specs.Frames.{Frame}
use Rattle.dbg_sites.specs.ChainTable.{ChainEntry}
use Rattle.ir_machine.specs.declared.found.Raw.{Raw}

-- What a run is given: the address map, the module and its code, the tag words by their index, how many ended frames and
-- freed blocks each task remembers, and the bytes of the input.
pub record MachineSetting : Type 0 where
  pub places : AddressMap
  pub program : Module
  pub code : List CodeFunction
  pub word : ℕ → ℕ
  pub ring : ℕ
  pub input : List ℕ

-- What all tasks share: memory with its tags; the globals, blocks and frames with theirs; the call chains; the number of
-- births so far; how many tag words were drawn; how much of the input was taken.
pub record MachineShared : Type 0 where
  pub memory : AddressSpace
  pub globals : List Descriptor
  pub heap : HeapState
  pub stacks : StacksState
  pub chains : List ChainEntry
  pub births : ℕ
  pub drawn : ℕ
  pub input : InputState

-- what a step reports: the bytes that it printed
abbrev pub MachineReport : Type 0
MachineReport = List ℕ

-- Why a run ends: the program exits with a 32-bit value; it traps, in a task and with a call chain; a check fails; there is
-- no room.
pub data MachineEnding : Type 0 where
  Exited : ℕ → MachineEnding
  Trapped : Trap → (task chain : ℕ) → MachineEnding
  Reported : Raw → MachineEnding
  IsFull : Full → MachineEnding

-- ---- states, steps and runs of this machine

abbrev pub MachineWorld : Type 0
MachineWorld = World MachineShared Frame

abbrev pub MachineSeen : Type 0
MachineSeen = Seen MachineShared Frame

abbrev pub MachineOutcome : Type 0
MachineOutcome = Outcome MachineShared Frame MachineReport MachineEnding

abbrev pub MachineWorldStep : Type 0
MachineWorldStep = WorldStep MachineShared Frame MachineReport MachineEnding

abbrev pub MachineRun : Type 0
MachineRun = Run MachineShared Frame MachineReport MachineEnding
