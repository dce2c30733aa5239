-- What the machine has between two steps, the world that it shows, and what a step returns. This project's choice.
use Rattle.std.specs.Prelude.{◌≡◌, ℕ, ◌+◌, ◌*◌, ◌≤◌, false, List, [], ◌∷◌, length, Result, Ok, Err, Bool, true}
use Rattle.std.specs.Int.{w32, cast_signed}
use Rattle.hw_base.specs.declared.out_of_memory.OutOfMemory.{OutOfMemory}
use Rattle.hw_tags.specs.TaskRuns.{Next, Last, NoStep}
use Rattle.mi_code.specs.declared.code_functions.CodeFunction.{CodeFunction}
use Rattle.ir_machine.specs.declared.stepped.Stepped.{Stepped}
use Rattle.ir_machine.specs.declared.stepped.Stepped.TheVariants as stepped
use Rattle.ir_machine.specs.Built.{IsBuiltCode}
use Rattle.ir_machine.specs.Programs.{AreSmall, HasProgram}
use Rattle.ir_machine.specs.RunStates.{RunState, AreNext}
use Rattle.ir_machine.specs.Start.{first_world, machine_start, shared_at_start}
use Rattle.ir_machine.specs.declared.program.Program.{Program}
use Rattle.hw_base.specs.declared.endings.Full.{Full}
use Rattle.hw_tags.specs.declared.words.Words.{Words}
use Rattle.hw_base.specs.AddressMap.{program_map}
use Rattle.hw_tags.specs.Word.{word}
use Rattle.hw_tags.specs.declared.options.Options.{Options}
use Rattle.ir_core.specs.declared.ir_module.Module.{Module}
use Rattle.ir_machine.specs.State.{MachineSetting, MachineWorld, MachineWorldStep, MachineEnding, Exited, Trapped, Reported, IsFull}

-- the code, the run, the words that are left, how many steps were made, and whether memory has run out
pub record MachineState : Type 0 where
  pub program : Program
  pub run : RunState
  pub words : Words
  pub steps : ℕ
  pub lost : Bool

-- a machine of a setting: it has its code and its next words
pub record IsMachineOf (setting : MachineSetting) (m : MachineState) : Type 0 where
  pub program : HasProgram setting m.program
  pub words : AreNext setting m.words m.run.seen.shared.drawn

-- the world between two steps, which has one task
abbrev pub world_of : MachineState → MachineWorld
world_of m =
    record {
      shared = m.run.seen.shared;
      tasks = (m.run.seen.frame ∷ m.run.seen.callers) ∷ [];
      steps = m.steps;
      turns = 0;
    }

-- a machine that can make a step: the code is one that it runs, the variables are small, and there are two chains, a birth and two
-- words a step, beside those of the globals and of `main`, at most
pub record IsReady (m : MachineState) : Type 0 where
  pub built : IsBuiltCode m.program.code
  pub small : AreSmall m.program
  pub chains : m.lost ≡ false → length m.run.seen.shared.chains ≤ 2 * m.steps
  pub births : m.lost ≡ false → m.run.seen.shared.births ≤ m.steps + 2
  pub drawn : m.lost ≡ false → m.run.seen.shared.drawn ≤ 2 * m.steps + 2
  pub stack : m.lost ≡ false → 1 ≤ length m.run.seen.shared.stacks.tasks
  pub ring : m.lost ≡ false → 1 ≤ length m.run.seen.shared.heap.freed

-- how the run ended, and what the step returned
abbrev pub IsEnd : MachineEnding → Stepped → Type 0
IsEnd (Exited n) (stepped.Exit value) = value ≡ cast_signed w32 n
IsEnd (Trapped trap task chain) (stepped.Trap t k number) = (t ≡ trap) × (k ≡ task) × (number ≡ chain)
IsEnd (Reported raw) (stepped.Mismatch found) = found ≡ raw
IsEnd (IsFull full) (stepped.Full found) = found ≡ full
IsEnd ending other = ⊥

-- a step that goes on, and what it returned
abbrev pub GoesOn : MachineWorld → List ℕ → Stepped → MachineState → Type 0
GoesOn w printed stepped.Ran m = (w ≡ world_of m) × (printed ≡ [])
GoesOn w printed (stepped.Wrote count) m = (w ≡ world_of m) × (printed ≡ m.run.printed) × (count ≡ length m.run.printed)
GoesOn w printed other m = ⊥

-- a step of the definition, and what the machine's step returned and left. If memory ran out nothing is said of it.
abbrev pub IsStep : MachineWorldStep → Result Stepped OutOfMemory → MachineState → Type 0
IsStep (Next w printed) (Ok found) m = GoesOn w printed found m
IsStep (Last w printed ending) (Ok found) m = (w.shared ≡ m.run.seen.shared) × (printed ≡ []) × IsEnd ending found
IsStep NoStep result m = Unit {0}
IsStep step (Err error) m = m.lost ≡ true

-- a setting of a module, its code, and options
pub record IsSettingOf (setting : MachineSetting) (program : Module) (functions : List CodeFunction) (options : Options) : Type 0 where
  pub program_is : setting.program ≡ program
  pub code_is : setting.code ≡ functions
  pub places_are : setting.places ≡ program_map options.heap
  pub ring_is : setting.ring ≡ options.ring
  pub words_are : (k : ℕ) → setting.word k ≡ word options.tags k

-- the machine before the first step of a run
pub record IsStarted (program : Module) (functions : List CodeFunction) (options : Options) (m : MachineState) : Type 0 where
  pub code : m.program.code ≡ functions
  pub steps : m.steps ≡ 0
  pub lost : m.lost ≡ false
  pub machine : (setting : MachineSetting) → IsSettingOf setting program functions options → IsMachineOf setting m
  pub world : (setting : MachineSetting) → IsSettingOf setting program functions options → machine_start setting ≡ Next (world_of m) []

-- there is no room for the variables of `main`
abbrev pub IsFullAtStart : Module → List CodeFunction → Options → Full → Type 0
IsFullAtStart program functions options full =
    (setting : MachineSetting) → IsSettingOf setting program functions options
    → machine_start setting ≡ Last (first_world (shared_at_start setting) []) [] (IsFull full)
