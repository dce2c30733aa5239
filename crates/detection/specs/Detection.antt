-- The detection theorem: what the machine's run of a module's instrumented code says of the run of the source program, under the
-- same input, tag words, turn words and bound on steps. The source's run goes along with its story, which gives its objects
-- places and tags. Laws of this project's definitions.
use Rattle.std.specs.Prelude.{◌≡◌, ◌≢◌, ℕ, List, [], ◌∷◌, ◌++◌}
use Rattle.hw_base.specs.AddressMap.{program_map}
use Rattle.hw_base.specs.declared.endings.Full.{Full}
use Rattle.hw_base.specs.declared.endings.Trap.{Trap}
use Rattle.hw_base.specs.declared.accesses.Reason.{Reason}
use Rattle.hw_base.specs.declared.pointers.Site.{Site}
use Rattle.hw_tags.specs.TaskRuns.{Spent, Ended, IsStuck}
use Rattle.ir_core.specs.declared.ir_module.Module.{Module}
use Rattle.ir_machine.specs.Runs.{machine_run}
use Rattle.ir_machine.specs.Shown.{output_of}
use Rattle.ir_machine.specs.State.{MachineSetting, MachineWorld, MachineRun, Exited as MachineExited, Trapped as MachineTrapped, Reported, IsFull as MachineFull}
use Rattle.ir_machine.specs.declared.found.Raw.{Raw}
use Rattle.ir_meaning.specs.Runs.{source_run}
use Rattle.ir_meaning.specs.State.{SourceReport, SourceWorld, SourceRun, Violation, Exited, Trapped, Violated, Outside}
use Rattle.mi_code.specs.Instrumentation.{instrumented}
use Rattle.tag_story.specs.Judging.{judged}
use Rattle.tag_story.specs.ToldRun.{ToldWorld, ToldRunOutcome, AsSource, IsFull, told_run}
use Rattle.tag_story.specs.declared.judgement.Coincidence.{Coincidence}
use Rattle.tag_story.specs.declared.judgement.Judgement.{Judgement}
use Rattle.tag_story.specs.declared.judgement.Judgement.TheVariants.{Passes, Refused}
use Rattle.tag_story.specs.declared.judgement.Refusing.{Refusing}
use Rattle.step_simulation.specs.Following.{IsReportOf}
use Rattle.detection.specs.FollowingRuns.{printed_in, machine_printed, PrintsBefore, SameStep}
use Rattle.simulation.specs.Parts.{IsChain}
use Rattle.simulation.specs.Relation.{story_setting}

-- ---- the runs

-- what a run is given by a module, a size of the heap in bytes, how many ended frames and freed blocks a task remembers, any tag
-- words and an input
abbrev pub program_setting : Module → (heap ring : ℕ) → (word : ℕ → ℕ) → (input : List ℕ) → MachineSetting
program_setting program heap ring word input =
    record { places = program_map heap; program = program; code = instrumented program; word = word; ring = ring; input = input }

-- the run of the source program with its story
abbrev pub told_run_of : MachineSetting → (turns : ℕ → ℕ) → (bound : ℕ) → ToldRunOutcome
told_run_of setting turns bound = told_run (story_setting setting) setting.input turns bound

-- the run of the source program alone: it takes no tag words
abbrev pub source_run_in : MachineSetting → (turns : ℕ → ℕ) → (bound : ℕ) → SourceRun
source_run_in setting turns bound = source_run setting.program setting.input turns bound

-- the judgement of the tag rule on a violation, by the story
abbrev pub judgement_at : MachineSetting → ToldWorld → Violation → Judgement
judgement_at setting t v = judged (story_setting setting) t.shared.story t.shared.source.births v

-- ---- the story goes along with the source's run

-- a state without its story
abbrev pub source_world : ToldWorld → SourceWorld
source_world t = record { shared = t.shared.source; tasks = t.tasks; steps = t.steps; turns = t.turns }

abbrev pub source_reports : SourceRun → List SourceReport
source_reports (Spent w reports) = reports
source_reports (Ended w reports ending) = reports
source_reports IsStuck = []

-- the run of the source reports first what came before the last step
pub record ReportsBefore (reports : List SourceReport) (run : SourceRun) : Type 0 where
  pub earlier : List SourceReport
  pub last : SourceReport
  pub all : reports ≡ earlier ++ last ∷ []
  pub more : List SourceReport
  pub reported : source_reports run ≡ earlier ++ more

-- the run with its story is the run of the source: all of it, or until the step in which the story is full
abbrev pub IsRunOfSource : ToldRunOutcome → SourceRun → Type 0
IsRunOfSource (Spent t reports) run = run ≡ Spent (source_world t) reports
IsRunOfSource (Ended t reports (AsSource ending)) run = run ≡ Ended (source_world t) reports ending
IsRunOfSource (Ended t reports (IsFull full)) run = run ≢ IsStuck → ReportsBefore reports run
IsRunOfSource IsStuck run = run ≡ IsStuck

-- ---- the theorem

-- What the machine says of the source program, in all cases but one: of a source run that is stuck nothing is said.
pub record Detects (setting : MachineSetting) (turns : ℕ → ℕ) (bound : ℕ) : Type 0 where
  -- the run with its story is the source's, until the story is full
  pub source : IsRunOfSource (told_run_of setting turns bound) (source_run_in setting turns bound)
  -- while the source meets no violation the machine makes the same steps, and each prints the same bytes
  pub goes_on : (t : ToldWorld) (reports : List SourceReport) → told_run_of setting turns bound ≡ Spent t reports
      → (m : MachineWorld) × (machine_run setting turns bound ≡ Spent m (printed_in reports)) × SameStep t m
  -- if it exits, the machine exits in the same step, with the same value
  pub exits : (t : ToldWorld) (reports : List SourceReport) (n : ℕ) → told_run_of setting turns bound ≡ Ended t reports (AsSource (Exited n))
      → (m : MachineWorld) × (machine_run setting turns bound ≡ Ended m (printed_in reports) (MachineExited n)) × SameStep t m
  -- if it traps, the machine traps in the same step, in the same task and at the same chain of sites
  pub traps : (t : ToldWorld) (reports : List SourceReport) (trap : Trap) (task : ℕ) (chain : List Site)
      → told_run_of setting turns bound ≡ Ended t reports (AsSource (Trapped trap task chain))
      → (m : MachineWorld) × (number : ℕ) × (machine_run setting turns bound ≡ Ended m (printed_in reports) (MachineTrapped trap task number))
      × IsChain m.shared.chains number chain × SameStep t m
  -- at the first violation, if the tag rule refuses it, the machine reports exactly that access, and has printed the same bytes
  pub reported : (t : ToldWorld) (reports : List SourceReport) (v : Violation) (refused : Refusing)
      → told_run_of setting turns bound ≡ Ended t reports (AsSource (Violated v)) → judgement_at setting t v ≡ Refused refused
      → (m : MachineWorld) × (raw : Raw) × (machine_run setting turns bound ≡ Ended m (printed_in reports) (Reported raw))
      × IsReportOf setting t.shared m.shared v t.steps refused raw × SameStep t m
  -- and if the tag rule passes it, by this coincidence, the machine first prints all that the source printed
  pub missed : (t : ToldWorld) (reports : List SourceReport) (v : Violation) (coincidence : Coincidence)
      → told_run_of setting turns bound ≡ Ended t reports (AsSource (Violated v)) → judgement_at setting t v ≡ Passes coincidence
      → PrintsBefore reports (machine_run setting turns bound)
  -- where the story is first full, the machine is full in the same step, with the same numbers
  pub full : (t : ToldWorld) (reports : List SourceReport) (full : Full) → told_run_of setting turns bound ≡ Ended t reports (IsFull full)
      → (m : MachineWorld) × (machine_run setting turns bound ≡ Ended m (printed_in reports) (MachineFull full)) × SameStep t m
  -- where the source leaves the profile, the machine first prints all that the source printed
  pub outside : (t : ToldWorld) (reports : List SourceReport) (reason : Reason) (task : ℕ) (chain : List Site)
      → told_run_of setting turns bound ≡ Ended t reports (AsSource (Outside reason task chain))
      → PrintsBefore reports (machine_run setting turns bound)

-- ---- tag words

-- the same setting with other tag words
abbrev pub with_words : MachineSetting → (ℕ → ℕ) → MachineSetting
with_words setting word = record setting { word = word }

-- the same run but for tags: each step reports the same, and the last state of the source and the end are the same. So the story
-- is full in the same step, with the same numbers
abbrev pub SameButTags : ToldRunOutcome → ToldRunOutcome → Type 0
SameButTags (Spent t reports) r = (u : ToldWorld) × (r ≡ Spent u reports) × (source_world u ≡ source_world t)
SameButTags (Ended t reports ending) r = (u : ToldWorld) × (r ≡ Ended u reports ending) × (source_world u ≡ source_world t)
SameButTags IsStuck r = r ≡ IsStuck

-- ---- what follows for runs of the source alone

-- a run that meets a violation or leaves the profile; or it is stuck
abbrev pub MeetsFault : SourceRun → Type 0
MeetsFault (Spent w reports) = ⊥
MeetsFault (Ended w reports (Exited n)) = ⊥
MeetsFault (Ended w reports (Trapped trap task chain)) = ⊥
MeetsFault (Ended w reports (Violated v)) = Unit {0}
MeetsFault (Ended w reports (Outside reason task chain)) = Unit {0}
MeetsFault IsStuck = Unit {0}

-- the story is full in no step
abbrev pub HasRoomAlways : ToldRunOutcome → Type 0
HasRoomAlways (Spent t reports) = Unit {0}
HasRoomAlways (Ended t reports (AsSource ending)) = Unit {0}
HasRoomAlways (Ended t reports (IsFull full)) = ⊥
HasRoomAlways IsStuck = Unit {0}

-- what the machine's run printed
abbrev pub machine_output : MachineRun → List ℕ
machine_output r = output_of (machine_printed r)

-- what the source printed until its story was full, or to its end
abbrev pub told_output : ToldRunOutcome → List ℕ
told_output (Spent t reports) = output_of (printed_in reports)
told_output (Ended t reports ending) = output_of (printed_in reports)
told_output IsStuck = []

-- the machine prints this first
abbrev pub PrintsFirst : List ℕ → MachineRun → Type 0
PrintsFirst output r = (more : List ℕ) × (machine_output r ≡ output ++ more)
