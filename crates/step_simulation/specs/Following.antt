-- What the machine does when the source run with its story does a step: it does the same, and stays related; it ends in the
-- same way, with the same numbers; or, at a violation, it reports it exactly if the tag rule refuses it. Nothing is said of a
-- step outside the profile, nor of a stuck one.
use Rattle.std.specs.Prelude.{◌≡◌, ◌≢◌, ◌<◌, ℕ, false, List, [], ◌∷◌, ◌++◌, length}
use Rattle.hw_base.specs.declared.pointers.Site.{Site}
use Rattle.hw_tags.specs.TaskRuns.{Goes, Stays, Starts, Finishes, Ends, Stuck}
use Rattle.ir_meaning.specs.State.{Exited, Trapped, Violated, Outside, Violation}
use Rattle.dbg_sites.specs.ChainTable.{ChainEntry}
use Rattle.ir_tasks.specs.Frames.{Frame}
use Rattle.ir_machine.specs.declared.found.Raw.{Raw}
use Rattle.ir_machine.specs.State.{MachineSetting, MachineShared, MachineSeen, MachineOutcome, Exited as MachineExited, Trapped as MachineTrapped, Reported, IsFull as MachineFull}
use Rattle.tag_story.specs.declared.judgement.Judgement.{Judgement}
use Rattle.tag_story.specs.declared.judgement.Judgement.TheVariants.{Passes, Refused}
use Rattle.tag_story.specs.declared.judgement.Refusing.{Refusing}
use Rattle.tag_story.specs.Judging.{judged}
use Rattle.tag_story.specs.Story.{Story, pointer_number}
use Rattle.tag_story.specs.ToldRun.{ToldShared, ToldSeen, ToldEnding, AsSource, IsFull, ToldOutcome}
use Rattle.simulation.specs.Checks.{refusing_found}
use Rattle.simulation.specs.Images.{Stays as StaysPlaced}
use Rattle.simulation.specs.Parts.{IsChain, frames_of_task, AreStarted}
use Rattle.simulation.specs.Relation.{story_setting, SharedRelated, HasTables, OwnsFrames, SeenRelated, FrameRelated}

-- a report is on exactly this violation, refused by this, and comes in a state that is related to the source's
pub record IsReportOf (setting : MachineSetting) (t : ToldShared) (shared : MachineShared) (v : Violation) (step : ℕ) (refused : Refusing) (raw : Raw) : Type 0 where
  pub access : raw.access ≡ v.access
  pub size : raw.size ≡ v.size
  pub number : raw.number ≡ pointer_number t.story v.pointer
  pub task : raw.task ≡ v.task
  pub step_is : raw.step ≡ step
  pub chain : IsChain shared.chains raw.chain v.chain
  pub found : refusing_found raw.found ≡ refused
  pub related : SharedRelated setting t shared

-- a violation that the tag rule refuses is reported; of one that it passes nothing more is said
abbrev pub FollowsJudged : MachineSetting → Judgement → ToldShared → Violation → (step : ℕ) → List ℕ → MachineOutcome → Type 0
FollowsJudged setting (Passes coincidence) t v step printed r = Unit {0}
FollowsJudged setting (Refused refused) t v step printed r =
    (shared : MachineShared) × (frames : List Frame) × (raw : Raw) × (r ≡ Ends shared frames printed (Reported raw)) × IsReportOf setting t shared v step refused raw

-- the machine's end of a step, by the source's
abbrev pub FollowsEnding : MachineSetting → ToldShared → (step : ℕ) → List ℕ → ToldEnding → MachineOutcome → Type 0
FollowsEnding setting t step printed (AsSource (Exited n)) r =
    (shared : MachineShared) × (frames : List Frame) × (r ≡ Ends shared frames printed (MachineExited n))
FollowsEnding setting t step printed (AsSource (Trapped trap task chain)) r =
    (shared : MachineShared) × (frames : List Frame) × (number : ℕ) × (r ≡ Ends shared frames printed (MachineTrapped trap task number)) × IsChain shared.chains number chain
FollowsEnding setting t step printed (AsSource (Violated v)) r =
    FollowsJudged setting (judged (story_setting setting) t.story t.source.births v) t v step printed r
FollowsEnding setting t step printed (AsSource (Outside reason task chain)) r = Unit {0}
FollowsEnding setting t step printed (IsFull full) r =
    (shared : MachineShared) × (frames : List Frame) × (r ≡ Ends shared frames printed (MachineFull full))

-- what the frames of all other tasks are related by stays: numbers of chains, places of objects, and their frames with
-- variables
pub record KeepsOthers (acting : ℕ) (table : List ChainEntry) (story : Story) (table_after : List ChainEntry) (after : Story) : Type 0 where
  pub chains : (number : ℕ) (chain : List Site) → IsChain table number chain → IsChain table_after number chain
  pub places : StaysPlaced story.births after.births
  pub frames : (task : ℕ) → task ≢ acting → frames_of_task task after.frames ≡ frames_of_task task story.frames

-- the step of a task keeps them
abbrev pub KeepsOthersOf : ToldSeen → (before : MachineShared) → (after : Story) → MachineShared → Type 0
KeepsOthersOf t before after m = KeepsOthers t.task before.chains t.shared.story m.chains after

-- a step that starts a task keeps those of the tasks that were there
pub record KeepsOlder (acting new : ℕ) (table : List ChainEntry) (story : Story) (table_after : List ChainEntry) (after : Story) : Type 0 where
  pub chains : (number : ℕ) (chain : List Site) → IsChain table number chain → IsChain table_after number chain
  pub places : StaysPlaced story.births after.births
  pub frames : (task : ℕ) → task ≢ acting → task < new → frames_of_task task after.frames ≡ frames_of_task task story.frames

-- a state in which one more task has started
abbrev pub told_with_task : ToldSeen → ToldSeen
told_with_task t = record t { finished = t.finished ++ false ∷ [] }

abbrev pub machine_with_task : MachineSeen → MachineSeen
machine_with_task m = record m { finished = m.finished ++ false ∷ [] }

-- a state after a step of a task: the task is the same, and so is which ones are finished
abbrev pub as_from : ToldSeen → ToldSeen → ToldSeen
as_from from t = record t { task = from.task; finished = from.finished }

-- the machine's step, by the source's, from a state that the source sees and what all tasks of the machine share there
abbrev pub Follows : MachineSetting → ToldSeen → MachineShared → ToldOutcome → MachineOutcome → Type 0
Follows setting from before (Goes t report) r =
    (m : MachineSeen) × (r ≡ Goes m report.printed) × SeenRelated setting (as_from from t) m × KeepsOthersOf from before t.shared.story m.shared
Follows setting from before Stays r = r ≡ Stays
Follows setting from before (Starts t report frame) r =
    (m : MachineSeen) × (started : Frame) × (r ≡ Starts m report.printed started)
    × SeenRelated setting (told_with_task (as_from from t)) (machine_with_task m)
    × FrameRelated setting t.shared.story.births m.shared.chains frame started
    × OwnsFrames (length from.finished) (frame ∷ []) t.shared.story
    × KeepsOlder from.task (length from.finished) before.chains from.shared.story m.shared.chains t.shared.story
Follows setting from before (Finishes t report) r =
    (m : MachineShared) × (r ≡ Finishes m report.printed) × SharedRelated setting t m × HasTables (length from.finished) m
    × AreStarted (length from.finished) t.story × OwnsFrames from.task [] t.story × KeepsOthersOf from before t.story m
Follows setting from before (Ends t frames report ending) r = FollowsEnding setting t from.step report.printed ending r
Follows setting from before Stuck r = Unit {0}
