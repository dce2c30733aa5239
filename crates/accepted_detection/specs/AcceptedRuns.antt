-- The detection theorem for accepted modules: what the machine's run is, in each case that there is of the source's run with its
-- story. None of them is a run that is stuck. Laws of this project's definitions.
use Rattle.std.specs.Prelude.{◌≡◌, ℕ, zero, suc, List, [], ◌∷◌, ◌++◌}
use Rattle.hw_base.specs.declared.endings.Full.{Full}
use Rattle.hw_tags.specs.TaskRuns.{Spent, Ended, IsStuck}
use Rattle.ir_machine.specs.Runs.{machine_run}
use Rattle.ir_machine.specs.State.{MachineSetting, MachineWorld, MachineRun}
use Rattle.ir_meaning.specs.State.{SourceReport, SourceWorld, SourceRun, Exited, Trapped, Violated, Outside, nothing_happened}
use Rattle.tag_story.specs.ToldRun.{ToldWorld, ToldRunOutcome, IsFull}
use Rattle.detection.specs.Detection.{Detects, told_run_of, source_run_in}
use Rattle.detection.specs.FollowingRuns.{printed_in, PrintsBefore, SameStep, EndsAs}

-- ---- the theorem

-- What the machine's run is, by the source's run with its story. All steps that the bound allows were made; or the source exits,
-- traps, meets a violation or leaves the profile, or the story is full.
abbrev pub IsDetected : MachineSetting → ToldRunOutcome → MachineRun → Type 0
IsDetected setting (Spent t reports) r = (m : MachineWorld) × (r ≡ Spent m (printed_in reports)) × SameStep t m
IsDetected setting (Ended t reports ending) r = EndsAs setting t ending (λ m e. r ≡ Ended m (printed_in reports) e) (PrintsBefore reports r)
IsDetected setting IsStuck r = ⊥

-- the source's run comes to the step in which the story is full, and has reported the same until then; at the start nothing was
-- reported
abbrev pub ComesTo : (steps : ℕ) → (reports : List SourceReport) → (runs : ℕ → SourceRun) → Type 0
ComesTo zero reports runs = reports ≡ nothing_happened ∷ []
ComesTo (suc n) reports runs =
    (w : SourceWorld) × (earlier : List SourceReport) × (runs n ≡ Spent w earlier) × (reports ≡ earlier ++ nothing_happened ∷ [])

pub record DetectsAlways (setting : MachineSetting) (turns : ℕ → ℕ) (bound : ℕ) : Type 0 where
  -- each sentence of the detection theorem
  pub detects : Detects setting turns bound
  -- and one of its cases always holds
  pub cases : IsDetected setting (told_run_of setting turns bound) (machine_run setting turns bound)
  -- where the story is first full, the source's run comes to that step
  pub until_full : (t : ToldWorld) (reports : List SourceReport) (full : Full) → told_run_of setting turns bound ≡ Ended t reports (IsFull full)
      → ComesTo t.steps reports (source_run_in setting turns)

-- ---- what follows for runs of the source alone

-- a run that meets a violation or leaves the profile
abbrev pub EndsInFault : SourceRun → Type 0
EndsInFault (Spent w reports) = ⊥
EndsInFault (Ended w reports (Exited n)) = ⊥
EndsInFault (Ended w reports (Trapped trap task chain)) = ⊥
EndsInFault (Ended w reports (Violated v)) = Unit {0}
EndsInFault (Ended w reports (Outside reason task chain)) = Unit {0}
EndsInFault IsStuck = ⊥
