-- What the machine's run does, by the run of the source with its story, under the same turn words, input and bound on steps: after
-- as many steps the worlds are related and the same bytes were printed; or both runs end in the same step, in the same
-- way. At a violation the machine reports it if the tag rule refuses it. At one that passes, and where the source leaves the
-- profile, the machine goes on in some way after it has printed the same bytes.
use Rattle.std.specs.Prelude.{◌≡◌, ◌≢◌, ℕ, List, [], ◌∷◌, ◌++◌, map}
use Rattle.hw_tags.specs.TaskRuns.{Next, Last, NoStep, Spent, Ended, IsStuck}
use Rattle.ir_machine.specs.declared.found.Raw.{Raw}
use Rattle.ir_machine.specs.State.{MachineSetting, MachineWorld, MachineEnding, MachineWorldStep, MachineRun, Exited as MachineExited, Trapped as MachineTrapped, Reported, IsFull as MachineFull}
use Rattle.hw_tags.specs.InputState.{no_input_taken}
use Rattle.ir_core.specs.declared.ir_module.GlobalVar.{GlobalVar}
use Rattle.ir_meaning.specs.Start.{global_births}
use Rattle.ir_meaning.specs.State.{SourceReport, Exited, Trapped, Violated, Outside, Violation}
use Rattle.tag_story.specs.Judging.{judged}
use Rattle.tag_story.specs.Story.{Story, no_story}
use Rattle.tag_story.specs.Telling.{globals_told}
use Rattle.tag_story.specs.ToldRun.{ToldShared, ToldWorld, ToldEnding, AsSource, IsFull, ToldWorldStep, ToldRunOutcome}
use Rattle.tag_story.specs.declared.judgement.Judgement.{Judgement}
use Rattle.tag_story.specs.declared.judgement.Judgement.TheVariants.{Passes, Refused}
use Rattle.step_simulation.specs.Following.{IsReportOf}
use Rattle.simulation.specs.Parts.{IsChain}
use Rattle.simulation.specs.Relation.{story_setting, WorldRelated}

-- what each step of a run printed
abbrev pub printed_in : List SourceReport → List (List ℕ)
printed_in reports = map (λ (report : SourceReport). report.printed) reports

-- what each step of the machine's run printed
abbrev pub machine_printed : MachineRun → List (List ℕ)
machine_printed (Spent m printed) = printed
machine_printed (Ended m printed ending) = printed
machine_printed IsStuck = []

-- the machine first prints what the source printed before its last step, in which it printed nothing, and goes on in some way
pub record PrintsBefore (reports : List SourceReport) (r : MachineRun) : Type 0 where
  pub earlier : List SourceReport
  pub last : SourceReport
  pub all : reports ≡ earlier ++ last ∷ []
  pub nothing : last.printed ≡ []
  pub more : List (List ℕ)
  pub printed : machine_printed r ≡ printed_in earlier ++ more

-- it has made as many steps
abbrev pub SameStep : ToldWorld → MachineWorld → Type 0
SameStep t m = m.steps ≡ t.steps

-- the machine's last world and end at a violation, if `Is` holds of them; or else `Beyond`, if the tag rule passes it
abbrev pub EndsJudged : MachineSetting → Judgement → ToldWorld → Violation → (MachineWorld → MachineEnding → Type 0) → Type 0 → Type 0
EndsJudged setting (Passes coincidence) t v Is Beyond = Beyond
EndsJudged setting (Refused refused) t v Is Beyond =
    (m : MachineWorld) × (raw : Raw) × Is m (Reported raw) × IsReportOf setting t.shared m.shared v t.steps refused raw × SameStep t m

-- the machine's last world and end, by the source's, if `Is` holds of them; or else `Beyond`, if the source left the profile
abbrev pub EndsAs : MachineSetting → ToldWorld → ToldEnding → (MachineWorld → MachineEnding → Type 0) → Type 0 → Type 0
EndsAs setting t (AsSource (Exited n)) Is Beyond = (m : MachineWorld) × Is m (MachineExited n) × SameStep t m
EndsAs setting t (AsSource (Trapped trap task chain)) Is Beyond =
    (m : MachineWorld) × (number : ℕ) × Is m (MachineTrapped trap task number) × IsChain m.shared.chains number chain × SameStep t m
EndsAs setting t (AsSource (Violated v)) Is Beyond =
    EndsJudged setting (judged (story_setting setting) t.shared.story t.shared.source.births v) t v Is Beyond
EndsAs setting t (AsSource (Outside reason task chain)) Is Beyond = Beyond
EndsAs setting t (IsFull full) Is Beyond = (m : MachineWorld) × Is m (MachineFull full) × SameStep t m

-- one step of the run: if the machine need not follow it, the source prints nothing in it
abbrev pub FollowsWorldStep : MachineSetting → ToldWorldStep → MachineWorldStep → Type 0
FollowsWorldStep setting (Next t report) r = (m : MachineWorld) × (r ≡ Next m report.printed) × WorldRelated setting t m
FollowsWorldStep setting (Last t report ending) r = EndsAs setting t ending (λ m e. r ≡ Last m report.printed e) (report.printed ≡ [])
FollowsWorldStep setting NoStep r = Unit {0}

-- a run; that of a module that can be run is never stuck
abbrev pub FollowsRun : MachineSetting → ToldRunOutcome → MachineRun → Type 0
FollowsRun setting (Spent t reports) r = (m : MachineWorld) × (r ≡ Spent m (printed_in reports)) × WorldRelated setting t m
FollowsRun setting (Ended t reports ending) r =
    EndsAs setting t ending (λ m e. r ≡ Ended m (printed_in reports) e) (r ≢ IsStuck → PrintsBefore reports r)
FollowsRun setting IsStuck r = Unit {0}

-- ---- the start

-- the story of the globals
abbrev pub story_at : MachineSetting → List GlobalVar → Story
story_at setting [] = no_story
story_at setting (g ∷ globals) = globals_told (story_setting setting) no_story

-- what all tasks of the source share before `main` is entered
abbrev pub told_at_start : MachineSetting → ToldShared
told_at_start setting =
    record { source = record { births = global_births setting.program setting.program.globals; input = no_input_taken }; story = story_at setting setting.program.globals }
