-- What a run has in hand while a step is made: what the task's step sees, the bytes that it printed, and how the run ended if it
-- has. The code's results are single words; what they mean is read from this state. This project's choice.
use Rattle.std.specs.Prelude.{◌≡◌, ℕ, ◌+◌, ◌-◌, ◌^◌, ◌<◌, ◌≤◌, List, [], ◌∷◌, false, length}
use Rattle.hw_base.specs.AddressMap.{program_map}
use Rattle.hw_tags.specs.InputState.{no_input_taken}
use Rattle.hw_tags.specs.TaskRuns.{Goes, Ends}
use Rattle.hw_tags.specs.Words.{coming}
use Rattle.hw_tags.specs.declared.words.Words.{Words}
use Rattle.stack_tags.specs.Frames as stacks
use Rattle.stack_tags.specs.FrameSteps.{left}
use Rattle.tag_alloc.specs.HeapBlocks as blocks
use Rattle.global_tags.specs.GlobalBytes.{loaded}
use Rattle.global_tags.specs.GlobalPlaces.{descriptors_of, global_words}
use Rattle.global_tags.specs.declared.descriptor.Descriptor.{Descriptor}
use Rattle.hw_base.specs.declared.pointers.Site.{Site}
use Rattle.tbi_memory.specs.AddressSpace.{AddressSpace}
use Rattle.hw_tags.specs.Word.{word}
use Rattle.hw_tags.specs.declared.options.Options.{Options}
use Rattle.ir_core.specs.declared.ir_module.Module.{Module}
use Rattle.dbg_sites.specs.ChainTable.{ChainEntry}
use Rattle.mi_code.specs.declared.edges.Move.{Move}
use Rattle.ir_tasks.specs.Frames.{Frame}
use Rattle.ir_tasks.specs.CallStacks.{Calls}
use Rattle.ir_machine.specs.declared.progress.Ending.{Ending}
use Rattle.ir_machine.specs.declared.progress.Ending.TheVariants.{Exit, Trap, Report, Full}
use Rattle.ir_machine.specs.declared.progress.Progress.{Progress}
use Rattle.ir_machine.specs.declared.progress.Progress.TheVariants.{Ran, Printed, Returned, Ended, NoMemory}
use Rattle.ir_machine.specs.Start.{global_births}
use Rattle.ir_machine.specs.State.{MachineSetting, MachineShared, MachineSeen, MachineOutcome, MachineEnding, Exited, Trapped, Reported, IsFull}
use Rattle.ir_machine.specs.CallSteps.{stacks_set}
use Rattle.ir_machine.specs.StepEnds.{advanced, chain_at, chain_known}

pub record RunState : Type 0 where
  pub seen : MachineSeen
  pub printed : List ℕ
  pub ending : MachineEnding

-- how a run ended
abbrev pub ending_of : Ending → MachineEnding
ending_of (Exit value) = Exited value
ending_of (Trap trap task chain) = Trapped trap task chain
ending_of (Report raw) = Reported raw
ending_of (Full full) = IsFull full

-- what all tasks share while no input is taken: memory and the globals in it, the blocks, the frames with variables, so many births
-- and words drawn, and these chains
abbrev pub shared_of : AddressSpace → List Descriptor → blocks.HeapState → stacks.StacksState → (births drawn : ℕ) → List ChainEntry → MachineShared
shared_of memory globals heap frames births drawn chains =
    record {
      memory = memory;
      globals = globals;
      heap = heap;
      stacks = frames;
      chains = chains;
      births = births;
      drawn = drawn;
      input = no_input_taken;
    }

-- what they share before `main` is entered, in a run of a module under options
abbrev pub loaded_module : Module → Options → MachineShared
loaded_module m options =
    shared_of (loaded (program_map options.heap) m.layouts m.globals (word options.tags 0))
    (descriptors_of (program_map options.heap) m.layouts m.globals (word options.tags 0))
    (blocks.with_task (blocks.heap_at_start (program_map options.heap) options.ring))
    (stacks.with_task (stacks.stacks_at_start (program_map options.heap) options.ring)) (global_births m.globals) (global_words m.globals) []

-- what a step of the only task sees
abbrev pub only_task : MachineShared → Calls → (step : ℕ) → MachineSeen
only_task shared calls step =
    record {
      shared = shared;
      task = 0;
      frame = calls.frame;
      callers = calls.callers;
      finished = false ∷ [];
      step = step;
    }

-- the outcome is that the run ends
abbrev pub EndsRun : MachineOutcome → Type 0
EndsRun (Ends shared frames report ending) = Unit {0}
EndsRun other = ⊥

-- The progress of a step and the state after it are an outcome. If memory ran out nothing is said.
abbrev pub IsOutcome : MachineOutcome → Progress → RunState → Type 0
IsOutcome outcome Ran v = outcome ≡ Goes v.seen []
IsOutcome outcome Printed v = outcome ≡ Goes v.seen v.printed
IsOutcome outcome Returned v = outcome ≡ Ends v.seen.shared [] [] v.ending
IsOutcome outcome Ended v = outcome ≡ Ends v.seen.shared (v.seen.frame ∷ v.seen.callers) [] v.ending
IsOutcome outcome NoMemory v = Unit {0}

-- The same of a step that takes no memory unless the run ends.
abbrev pub IsPlainOutcome : MachineOutcome → Progress → RunState → Type 0
IsPlainOutcome outcome NoMemory v = EndsRun outcome
IsPlainOutcome outcome progress v = IsOutcome outcome progress v

-- the state with another frame that runs
abbrev pub with_frame : RunState → Frame → RunState
with_frame v frame = record v { seen = record v.seen { frame = frame } }

-- moves beside the numbers that they were read to
abbrev pub moves_with : List Move → List ℕ → List (ℕ × ℕ)
moves_with [] numbers = []
moves_with (move ∷ moves) [] = []
moves_with (move ∷ moves) (n ∷ numbers) = (move.to, n) ∷ moves_with moves numbers

-- the state before the first step
abbrev pub first_state : MachineShared → Frame → RunState
first_state shared frame =
    record {
      seen = only_task shared (record { frame = frame; callers = [] }) 0;
      printed = [];
      ending = Exited 0;
    }

-- a check that passed: the state is the same, at the next place
abbrev pub passed : RunState → RunState
passed v = record v { seen = advanced v.seen }

-- a frame with variables has ended at a site: the state is at the next place
abbrev pub left_at : MachineSeen → Site → MachineSeen
left_at s site = advanced (stacks_set (chain_known s site) (left s.shared.stacks s.shared.memory s.task (chain_at s site)))

-- ---- what a step takes

-- the words that are left are those of the setting after so many
abbrev pub AreNext : MachineSetting → Words → (drawn : ℕ) → Type 0
AreNext setting words drawn = (k : ℕ) → coming words k ≡ setting.word (drawn + k)

-- there is a stack and a ring of freed blocks, and room for one birth and two words more
pub record HasRoom (shared : MachineShared) : Type 0 where
  pub births : shared.births < 2 ^ 32 - 1
  pub drawn : shared.drawn < 2 ^ 64 - 2
  pub stack : 1 ≤ length shared.stacks.tasks
  pub ring : 1 ≤ length shared.heap.freed

-- what a step has added, by what is shared before and after it: one chain at most, no birth, and no word was drawn
pub record AddsChain (before after : MachineShared) : Type 0 where
  pub chains : length after.chains ≤ length before.chains + 1
  pub births : after.births ≡ before.births
  pub drawn : after.drawn ≡ before.drawn
  pub stacks_are : length after.stacks.tasks ≡ length before.stacks.tasks
  pub rings_are : length after.heap.freed ≡ length before.heap.freed

-- at most so many words were drawn
pub record HasDrawn (most : ℕ) (words next : Words) (before after : ℕ) : Type 0 where
  pub count : ℕ
  pub few : count ≤ most
  pub drawn : after ≡ before + count
  pub rest : (k : ℕ) → coming next k ≡ coming words (k + count)

-- at most so many chains and births were added and words drawn
pub record Grows (more_chains more_births most : ℕ) (words next : Words) (before after : MachineShared) : Type 0 where
  pub chains : length after.chains ≤ length before.chains + more_chains
  pub births : after.births ≤ before.births + more_births
  pub drawn : HasDrawn most words next before.drawn after.drawn
  pub stacks_are : length after.stacks.tasks ≡ length before.stacks.tasks
  pub rings_are : length after.heap.freed ≡ length before.heap.freed

-- what a step adds at most
abbrev pub GrowsLittle : (words next : Words) (before after : MachineShared) → Type 0
GrowsLittle words next before after = Grows 2 1 2 words next before after
