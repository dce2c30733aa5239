-- The detection theorem for accepted modules: one of its cases always holds.
use Rattle.std.proofs.Common.{◌≡◌, ◌≢◌, ℕ, List, refl, sym, ◌∙◌}
use Rattle.hw_tags.specs.TaskRuns.{Spent, Ended, IsStuck}
use Rattle.ir_machine.specs.Runs.{machine_run}
use Rattle.ir_machine.specs.State.{MachineSetting, MachineWorld, Reported, IsFull as MachineFull}
use Rattle.ir_machine.specs.declared.found.Raw.{Raw}
use Rattle.ir_meaning.specs.Runs.{printed_by}
use Rattle.ir_meaning.specs.State.{SourceReport, SourceRun, Violation, Exited, Trapped, Violated, Outside}
use Rattle.tag_story.specs.ToldRun.{ToldWorld, ToldRunOutcome, AsSource, IsFull}
use Rattle.tag_story.specs.declared.judgement.Judgement.{Judgement}
use Rattle.tag_story.specs.declared.judgement.Judgement.TheVariants.{Passes, Refused}
use Rattle.simulation.specs.Relation.{IsSetting, story_setting}
use Rattle.well_typed_runs.specs.GoodWorlds.{IsAccepted}
use Rattle.detection.proofs.Detected.{detected, fault-met, prints-clean, with_words-is, room-still}
use Rattle.detection.specs.Detection.{Detects, MeetsFault, HasRoomAlways, told_run_of, source_run_in, judgement_at, machine_output, with_words}
use Rattle.detection.specs.FollowingRuns.{printed_in, PrintsBefore, EndsJudged}
use Rattle.accepted_detection.proofs.NeverStuck.{told-never-stuck, source-never-stuck}
use Rattle.accepted_detection.proofs.UntilFull.{comes-to}
use Rattle.accepted_detection.specs.AcceptedRuns.{IsDetected, DetectsAlways, EndsInFault}

-- a run that isn't stuck ends in a fault if it meets one
unstuck : (run : SourceRun) → run ≢ IsStuck → MeetsFault run → EndsInFault run
unstuck (Spent w reports) goes h = h
unstuck (Ended w reports (Exited n)) goes h = h
unstuck (Ended w reports (Trapped trap task chain)) goes h = h
unstuck (Ended w reports (Violated v)) goes h = h
unstuck (Ended w reports (Outside reason task chain)) goes h = h
unstuck IsStuck goes h = goes refl

module _ (setting : MachineSetting) (turns : ℕ → ℕ) (bound : ℕ) (is : IsSetting setting) (accepted : IsAccepted setting.program) where
  theorem : Detects setting turns bound
  theorem = detected setting turns bound is

  by-judgement : (t : ToldWorld) (reports : List SourceReport) (v : Violation) → told_run_of setting turns bound ≡ Ended t reports (AsSource (Violated v)) → (judgement : Judgement) → judgement_at setting t v ≡ judgement
      → EndsJudged setting judgement t v (λ m e. machine_run setting turns bound ≡ Ended m (printed_in reports) e) (PrintsBefore reports (machine_run setting turns bound))
  by-judgement t reports v h (Passes coincidence) judged = theorem.missed t reports v coincidence h judged
  by-judgement t reports v h (Refused refused) judged = theorem.reported t reports v refused h judged

  by-case : (o : ToldRunOutcome) → told_run_of setting turns bound ≡ o → IsDetected setting o (machine_run setting turns bound)
  by-case (Spent t reports) h = theorem.goes_on t reports h
  by-case (Ended t reports (AsSource (Exited n))) h = theorem.exits t reports n h
  by-case (Ended t reports (AsSource (Trapped trap task chain))) h = theorem.traps t reports trap task chain h
  by-case (Ended t reports (AsSource (Violated v))) h = by-judgement t reports v h (judgement_at setting t v) refl
  by-case (Ended t reports (AsSource (Outside reason task chain))) h = theorem.outside t reports reason task chain h
  by-case (Ended t reports (IsFull full)) h = theorem.full t reports full h
  by-case IsStuck h = absurd (told-never-stuck setting turns is accepted bound h)

  pub always : DetectsAlways setting turns bound
  always =
      record {
        detects = theorem;
        cases = by-case (told_run_of setting turns bound) refl;
        until_full = λ t reports full h. comes-to (story_setting setting) setting.input turns bound t reports full h;
      }

  -- a run that ends in a report had room
  reported-room : (m : MachineWorld) (printed : List (List ℕ)) (raw : Raw) → machine_run setting turns bound ≡ Ended m printed (Reported raw) → HasRoomAlways (told_run_of setting turns bound)
  reported-room m printed raw report = by_told (told_run_of setting turns bound) refl
    where
      by_told : (o : ToldRunOutcome) → told_run_of setting turns bound ≡ o → HasRoomAlways o
      by_told (Spent t reports) h = tt
      by_told (Ended t reports (AsSource ending)) h = tt
      by_told (Ended t reports (IsFull full)) h =
          let (last, own, steps) = theorem.full t reports full h in
          let wrong : Ended m printed (Reported raw) ≡ Ended last (printed_in reports) (MachineFull full) = sym report ∙ own in
          absurd cc
      by_told IsStuck h = tt

  pub ends-in-fault : (m : MachineWorld) (printed : List (List ℕ)) (raw : Raw) → machine_run setting turns bound ≡ Ended m printed (Reported raw) → EndsInFault (source_run_in setting turns bound)
  ends-in-fault m printed raw report =
      unstuck (source_run_in setting turns bound) (source-never-stuck setting turns is accepted bound (reported-room m printed raw report)) (fault-met setting turns bound is m printed raw report)

  no-fault : HasRoomAlways (told_run_of setting turns bound) → (EndsInFault (source_run_in setting turns bound) → ⊥) → MeetsFault (source_run_in setting turns bound) → ⊥
  no-fault room clean meets = clean (unstuck (source_run_in setting turns bound) (source-never-stuck setting turns is accepted bound room) meets)

  pub prints-as-source : HasRoomAlways (told_run_of setting turns bound) → (EndsInFault (source_run_in setting turns bound) → ⊥) → machine_output (machine_run setting turns bound) ≡ printed_by (source_run_in setting turns bound)
  prints-as-source room clean = prints-clean setting turns bound is room (no-fault room clean)

  pub prints-as-others : (other : ℕ → ℕ) → HasRoomAlways (told_run_of setting turns bound) → (EndsInFault (source_run_in setting turns bound) → ⊥) → machine_output (machine_run (with_words setting other) turns bound) ≡ machine_output (machine_run setting turns bound)
  prints-as-others other room clean =
      prints-clean (with_words setting other) turns bound (with_words-is setting other is) (room-still setting other turns bound room) (no-fault room clean)
      ∙ sym (prints-as-source room clean)
