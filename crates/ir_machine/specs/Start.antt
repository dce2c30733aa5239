-- The start of a run: memory with its globals, no block and no frame, and `main`'s frame, whose entry comes before the first
-- step. The first tag word is that of all globals, and the next one that of `main`'s entry. This project's choice.
use Rattle.std.specs.Prelude.{ℕ, List, [], ◌∷◌, slice_get, Option, Some, None, Result, Ok, Err}
use Rattle.hw_base.specs.declared.endings.Full.{Full}
use Rattle.hw_tags.specs.InputState.{no_input_taken}
use Rattle.hw_tags.specs.TaskRuns.{Next, Last, NoStep}
use Rattle.stack_tags.specs.Frames as stacks
use Rattle.tag_alloc.specs.HeapBlocks as blocks
use Rattle.global_tags.specs.GlobalBytes.{loaded}
use Rattle.global_tags.specs.GlobalPlaces.{descriptors_of, global_words}
use Rattle.ir_core.specs.declared.ir_module.GlobalVar.{GlobalVar}
use Rattle.mi_code.specs.declared.code_functions.CodeFunction.{CodeFunction}
use Rattle.ir_tasks.specs.Frames.{Frame}
use Rattle.ir_machine.specs.State.{MachineSetting, MachineShared, MachineWorld, MachineWorldStep, IsFull}
use Rattle.ir_machine.specs.CallSteps.{AfterEntry, entry_of, frame_for}

-- all globals are one birth, if there are any
abbrev pub global_births : List GlobalVar → ℕ
global_births [] = 0
global_births (global ∷ globals) = 1

-- what all tasks share before `main` is entered
abbrev pub shared_at_start : MachineSetting → MachineShared
shared_at_start setting =
    record {
      memory = loaded setting.places setting.program.layouts setting.program.globals (setting.word 0);
      globals = descriptors_of setting.places setting.program.layouts setting.program.globals (setting.word 0);
      heap = blocks.with_task (blocks.heap_at_start setting.places setting.ring);
      stacks = stacks.with_task (stacks.stacks_at_start setting.places setting.ring);
      chains = [];
      births = global_births setting.program.globals;
      drawn = global_words setting.program.globals;
      input = no_input_taken;
    }

-- the world with one task before the first step
abbrev pub first_world : MachineShared → List Frame → MachineWorld
first_world shared frames = record { shared = shared; tasks = frames ∷ []; steps = 0; turns = 0 }

-- `main` is entered with the empty chain. Its parameters, if it has them, are 0 and null, as all registers are
abbrev pub main_entered : MachineSetting → Result AfterEntry Full → MachineWorldStep
main_entered setting (Err full) = Last (first_world (shared_at_start setting) []) [] (IsFull full)
main_entered setting (Ok after) =
    Next (first_world after.shared (frame_for setting.code setting.program.main after.place [] 0 ∷ [])) []

-- a run starts if there is such a function
abbrev pub main_started : MachineSetting → Option CodeFunction → MachineWorldStep
main_started setting None = NoStep
main_started setting (Some code) = main_entered setting (entry_of setting 0 setting.program.main 0 (shared_at_start setting))

-- the state before the first step, or a full stack at step 0
unfoldable pub machine_start : MachineSetting → MachineWorldStep
machine_start setting = main_started setting (slice_get setting.code setting.program.main)
