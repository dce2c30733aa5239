-- The state of a run of the source program, what a step reports, and why a run ends. A step is made by one task, and sees
-- what all tasks share together with that task. How frames, registers and tasks are kept is this project's choice.
use Rattle.std.specs.Prelude.{ℕ, List, [], Option}
use Rattle.hw_base.specs.declared.accesses.Access.{Access}
use Rattle.hw_base.specs.declared.accesses.Kind.{Kind}
use Rattle.hw_base.specs.declared.accesses.Reason.{Reason}
use Rattle.hw_base.specs.declared.endings.Trap.{Trap}
use Rattle.hw_base.specs.declared.pointers.Pointer.{Pointer}
use Rattle.hw_base.specs.declared.pointers.Site.{Site}
use Rattle.hw_tags.specs.InputState.{InputState}
use Rattle.hw_tags.specs.TaskRuns.{World, Seen, Outcome, WorldStep, Run}
use Rattle.ir_meaning.specs.Values.{Value}
use Rattle.ir_meaning.specs.Births.{Region, Birth}

-- what all tasks share: all births, and how much of the input was taken
pub record SourceShared : Type 0 where
  pub births : List Birth
  pub input : InputState

-- A call that hasn't returned: its function, the number of the instruction at which it is, its registers, of which those
-- that weren't set are none, the birth of its variables, if it has any, and the chain of the calls that led to it,
-- innermost first. While it calls another function it is at that call.
pub record SourceFrame : Type 0 where
  pub func : ℕ
  pub inst : ℕ
  pub registers : List (Option Value)
  pub birth : Option ℕ
  pub chain : List Site

-- a birth: its number, what it is, its task, its chain of sites and the sizes of its objects in bytes; or the death of a
-- birth, with the task that ended it and its chain of sites
pub data News : Type 0 where
  Born : (number : ℕ) → Region → (task : ℕ) → (chain : List Site) → (sizes : List ℕ) → News
  Died : (number task : ℕ) → (chain : List Site) → News

-- what a step reports: the bytes that it printed, and its births and deaths in order
pub record SourceReport : Type 0 where
  pub printed : List ℕ
  pub news : List News

-- an access that the rule forbids: its kind, pointer, size in bytes, which is 0 for a free, what it is, task and chain
pub record Violation : Type 0 where
  pub kind : Kind
  pub pointer : Pointer
  pub size : ℕ
  pub access : Access
  pub task : ℕ
  pub chain : List Site

-- how a run ends: the program exits with a value, as its 32 bits; it traps, it meets a violation, or it goes outside the
-- profile, in a task and at a chain of sites
pub data SourceEnding : Type 0 where
  Exited : ℕ → SourceEnding
  Trapped : Trap → (task : ℕ) → (chain : List Site) → SourceEnding
  Violated : Violation → SourceEnding
  Outside : Reason → (task : ℕ) → (chain : List Site) → SourceEnding

-- ---- runs of the source program

abbrev pub SourceWorld : Type 0
SourceWorld = World SourceShared SourceFrame

abbrev pub SourceSeen : Type 0
SourceSeen = Seen SourceShared SourceFrame

abbrev pub SourceOutcome : Type 0
SourceOutcome = Outcome SourceShared SourceFrame SourceReport SourceEnding

abbrev pub SourceWorldStep : Type 0
SourceWorldStep = WorldStep SourceShared SourceFrame SourceReport SourceEnding

abbrev pub SourceRun : Type 0
SourceRun = Run SourceShared SourceFrame SourceReport SourceEnding

-- ---- reports

abbrev pub nothing_happened : SourceReport
nothing_happened = record { printed = []; news = [] }

abbrev pub printing : List ℕ → SourceReport
printing bytes = record { printed = bytes; news = [] }

abbrev pub telling : List News → SourceReport
telling news = record { printed = []; news = news }
