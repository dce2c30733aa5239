-- A violation that is shown to be refused is reported by the machine, with the number and the refusing granule that are shown; and if
-- the source is shown to exit, the machine does.
use Rattle.std.proofs.Common.{◌≡◌, ℕ, List, Option, None, Some, refl, ◌∙◌, ap}
use Rattle.hw_tags.specs.TaskRuns.{Spent, Ended, IsStuck}
use Rattle.ir_machine.specs.Runs.{machine_run}
use Rattle.ir_machine.specs.State.{MachineSetting, MachineWorld, Exited as MachineExited, Reported}
use Rattle.ir_machine.specs.declared.found.Raw.{Raw}
use Rattle.ir_meaning.specs.State.{SourceEnding, Exited, Trapped, Violated, Outside}
use Rattle.tag_story.specs.ShownStory.{Shown, judgement_of}
use Rattle.tag_story.specs.Story.{pointer_number}
use Rattle.tag_story.specs.ToldRun.{ToldEnding, ToldRunOutcome, AsSource, IsFull}
use Rattle.tag_story.specs.declared.judgement.Judgement.TheVariants.{Refused}
use Rattle.tag_story.specs.declared.judgement.Refusing.{Refusing}
use Rattle.detection.proofs.Detected.{detected}
use Rattle.detection.specs.Detection.{told_run_of, judgement_at}
use Rattle.detection.specs.FollowingRuns.{printed_in}
use Rattle.simulation.specs.Checks.{refusing_found}
use Rattle.simulation.specs.Relation.{IsSetting, story_setting}

same-some : (x y : Shown) → Some x ≡ Some y → x ≡ y
same-some x y h = cc

module _ (setting : MachineSetting) (turns : ℕ → ℕ) (is : IsSetting setting) (number : ℕ) (refused : Refusing) where
  abbrev pub IsReportedAs : Type 0
  IsReportedAs =
      (m : MachineWorld) × (printed : List (List ℕ)) × (raw : Raw) × (machine_run setting turns 20 ≡ Ended m printed (Reported raw))
      × (raw.number ≡ number) × (refusing_found raw.found ≡ refused)

  by-run : (o : ToldRunOutcome) → told_run_of setting turns 20 ≡ o → judgement_of (story_setting setting) o ≡ Some (record { number = number; judgement = Refused refused }) → IsReportedAs
  by-run (Spent t reports) same shown = absurd cc
  by-run (Ended t reports (AsSource (Exited n))) same shown = absurd cc
  by-run (Ended t reports (AsSource (Trapped trap task chain))) same shown = absurd cc
  by-run (Ended t reports (AsSource (Violated v))) same shown =
      let found : Shown = record { number = pointer_number t.shared.story v.pointer; judgement = judgement_at setting t v } in
      let wanted : Shown = record { number = number; judgement = Refused refused } in
      let first : found ≡ wanted = same-some found wanted shown in
      let (m, raw, run, report, steps) = (detected setting turns 20 is).reported t reports v refused same (ap (λ (s : Shown). s.judgement) first) in
      (m, printed_in reports, raw, run, report.number ∙ ap (λ (s : Shown). s.number) first, report.found)
  by-run (Ended t reports (AsSource (Outside reason task chain))) same shown = absurd cc
  by-run (Ended t reports (IsFull full)) same shown = absurd cc
  by-run IsStuck same shown = absurd cc

  pub shown-reported : judgement_of (story_setting setting) (told_run_of setting turns 20) ≡ Some (record { number = number; judgement = Refused refused }) → IsReportedAs
  shown-reported shown = by-run (told_run_of setting turns 20) refl shown

-- ---- exits

abbrev exit_by : SourceEnding → Option ℕ
exit_by (Exited n) = Some n
exit_by other = None

abbrev exit_at : ToldEnding → Option ℕ
exit_at (AsSource ending) = exit_by ending
exit_at (IsFull full) = None

-- the value with which the source exits
abbrev pub exit_of : ToldRunOutcome → Option ℕ
exit_of (Spent t reports) = None
exit_of (Ended t reports ending) = exit_at ending
exit_of IsStuck = None

module _ (setting : MachineSetting) (turns : ℕ → ℕ) (is : IsSetting setting) (number : ℕ) where
  abbrev pub ExitsWith : Type 0
  ExitsWith = (m : MachineWorld) × (printed : List (List ℕ)) × (machine_run setting turns 20 ≡ Ended m printed (MachineExited number))

  by-exit : (o : ToldRunOutcome) → told_run_of setting turns 20 ≡ o → exit_of o ≡ Some number → ExitsWith
  by-exit (Spent t reports) same shown = absurd cc
  by-exit (Ended t reports (AsSource (Exited n))) same shown =
      let value : n ≡ number = cc in
      let (m, run, steps) = (detected setting turns 20 is).exits t reports n same in
      (m, printed_in reports, run ∙ ap (λ k. Ended m (printed_in reports) (MachineExited k)) value)
  by-exit (Ended t reports (AsSource (Trapped trap task chain))) same shown = absurd cc
  by-exit (Ended t reports (AsSource (Violated v))) same shown = absurd cc
  by-exit (Ended t reports (AsSource (Outside reason task chain))) same shown = absurd cc
  by-exit (Ended t reports (IsFull full)) same shown = absurd cc
  by-exit IsStuck same shown = absurd cc

  pub shown-exited : exit_of (told_run_of setting turns 20) ≡ Some number → ExitsWith
  shown-exited shown = by-exit (told_run_of setting turns 20) refl shown
