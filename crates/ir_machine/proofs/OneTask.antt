-- A step of the run of one task.
use Rattle.std.proofs.Common.{◌≡◌, ◌≢◌, ℕ, ◌+◌, ◌%◌, ◌⊎◌, inl, inr, false, true, List, [], ◌∷◌, length, refl, ap, sym, ◌∙◌, subst, Result, Ok, Err, arith}
use Rattle.hw_base.specs.declared.out_of_memory.OutOfMemory.{OutOfMemory}
use Rattle.hw_tags.specs.Turn.{unfinished_from}
use Rattle.hw_tags.specs.TaskRuns.{Goes, Stays, Starts, Finishes, Ends, Stuck, Next, world_step, lifted}
use Rattle.ir_machine.specs.declared.progress.Progress.{Progress}
use Rattle.ir_machine.specs.declared.progress.Progress.TheVariants.{Ran, Printed, Returned, Ended, NoMemory}
use Rattle.ir_machine.specs.declared.stepped.Stepped.{Stepped}
use Rattle.ir_machine.specs.declared.stepped.Stepped.TheVariants as stepped
use Rattle.ir_machine.specs.Runs.{step_in}
use Rattle.ir_machine.specs.Built.{IsBuiltCode}
use Rattle.ir_machine.specs.MachineStates.{MachineState, world_of, IsEnd, IsMachineOf, IsReady, IsStep}
use Rattle.ir_machine.specs.Programs.{AreSmall, HasProgram}
use Rattle.ir_machine.specs.RunStates.{RunState, IsOutcome, EndsRun, GrowsLittle}
use Rattle.ir_machine.specs.State.{MachineSetting, MachineSeen, MachineShared, MachineOutcome, MachineWorld, MachineWorldStep}
use Rattle.ir_machine.specs.declared.program.Program.{Program}
use Rattle.ir_machine.proofs.Growth.{next-words}

-- the only task makes the step, whatever the turn words
pub one-task : (step : MachineSeen → MachineOutcome) (turns : ℕ → ℕ) (m : MachineState) (seen : MachineSeen) → m.run.seen.task ≡ 0 → m.run.seen.finished ≡ false ∷ []
    → seen ≡ record m.run.seen { step = m.steps + 1 }
    → world_step step [] turns (world_of m) ≡ lifted (record (world_of m) { steps = m.steps + 1 }) 0 [] (step seen)
unfolding world_step unfinished_from
one-task step turns m seen task finished same =
    let only : turns 0 % 1 ≡ 0 = omega arith in
    let whole : seen ≡ record { shared = m.run.seen.shared; task = 0; frame = m.run.seen.frame; callers = m.run.seen.callers; finished = false ∷ []; step = m.steps + 1 } =
    same ∙ (rw (task, finished) refl) in
    rw (only, whole) refl

-- what a step's progress is returned as
unfoldable pub IsAnswer : Progress → Result Stepped OutOfMemory → MachineState → Type 0
IsAnswer Ran (Ok stepped.Ran) m = Unit {0}
IsAnswer Printed (Ok (stepped.Wrote count)) m = count ≡ length m.run.printed
IsAnswer Returned (Ok found) m = IsEnd m.run.ending found
IsAnswer Ended (Ok found) m = IsEnd m.run.ending found
IsAnswer NoMemory (Err error) m = m.lost ≡ true
IsAnswer progress result m = ⊥

stuck-or : {X : Type 0} → (outcome : MachineOutcome) → (outcome ≢ Stuck → X) → (outcome ≡ Stuck) ⊎ X
stuck-or (Goes s report) h = inr (h (λ e. cc))
stuck-or Stays h = inr (h (λ e. cc))
stuck-or (Starts s report frame) h = inr (h (λ e. cc))
stuck-or (Finishes shared report) h = inr (h (λ e. cc))
stuck-or (Ends shared frames report ending) h = inr (h (λ e. cc))
stuck-or Stuck h = inl refl

lifted-step : (before after : MachineState) (outcome : MachineOutcome) (progress : Progress) (result : Result Stepped OutOfMemory)
    → IsOutcome outcome progress after.run → IsAnswer progress result after → after.steps ≡ before.steps + 1
    → IsStep (lifted (record (world_of before) { steps = before.steps + 1 }) 0 [] outcome) result after
unfolding IsAnswer
lifted-step before after outcome Ran (Ok stepped.Ran) h answer count = rw (h, count) (refl, refl)
lifted-step before after outcome Printed (Ok (stepped.Wrote n)) h answer count = rw (h, count) (refl, refl, answer)
lifted-step before after outcome Returned (Ok found) h answer count = rw h (refl, refl, answer)
lifted-step before after outcome Ended (Ok found) h answer count = rw h (refl, refl, answer)
lifted-step before after outcome NoMemory (Err error) h answer count = by outcome
  where
    by : (outcome : MachineOutcome) → IsStep (lifted (record (world_of before) { steps = before.steps + 1 }) 0 [] outcome) (Err error) after
    by (Goes s report) = answer
    by Stays = answer
    by (Starts s report frame) = answer
    by (Finishes shared report) = answer
    by (Ends shared frames report ending) = answer
    by Stuck = tt
lifted-step before after outcome progress result h answer count = absurd answer

-- the machine's step is the definition's
pub machine-stepped : (setting : MachineSetting) (turns : ℕ → ℕ) (before after : MachineState) (begun : RunState) (progress : Progress) (result : Result Stepped OutOfMemory)
    → before.run.seen.task ≡ 0 → before.run.seen.finished ≡ false ∷ [] → begun ≡ record before.run { seen = record before.run.seen { step = before.steps + 1 } }
    → (step_in setting begun.seen ≢ Stuck → IsOutcome (step_in setting begun.seen) progress after.run)
    → IsAnswer progress result after → after.steps ≡ before.steps + 1
    → IsStep (world_step (step_in setting) [] turns (world_of before)) result after
machine-stepped setting turns before after begun progress result task finished same h answer count =
    let step = one-task (step_in setting) turns before begun.seen task finished (ap (λ (v : RunState). v.seen) same) in
    subst (λ (s : MachineWorldStep). IsStep s result after) (sym step) (by (stuck-or (step_in setting begun.seen) h))
  where
    by : (step_in setting begun.seen ≡ Stuck) ⊎ IsOutcome (step_in setting begun.seen) progress after.run
        → IsStep (lifted (record (world_of before) { steps = before.steps + 1 }) 0 [] (step_in setting begun.seen)) result after
    by (inl stuck) = rw stuck tt
    by (inr goes) = lifted-step before after (step_in setting begun.seen) progress result goes answer count

-- a step that ends the run is no step after which it goes on
pub ended-no-next : (w v : MachineWorld) (printed : List ℕ) (outcome : MachineOutcome) → EndsRun outcome → lifted w 0 [] outcome ≡ Next v printed → ⊥
ended-no-next w v printed (Goes s report) ends same = ends
ended-no-next w v printed Stays ends same = ends
ended-no-next w v printed (Starts s report frame) ends same = ends
ended-no-next w v printed (Finishes shared report) ends same = ends
ended-no-next w v printed (Ends shared frames report ending) ends same = cc
ended-no-next w v printed Stuck ends same = ends

-- ---- the machine after a step

begun-shared : (begun run : RunState) (step : ℕ) → begun ≡ record run { seen = record run.seen { step = step } } → begun.seen.shared ≡ run.seen.shared
begun-shared begun run step same = ap (λ (v : RunState). v.seen.shared) same

module _ (before after : MachineState) (begun : RunState) (same : begun ≡ record before.run { seen = record before.run.seen { step = before.steps + 1 } }) (program : after.program ≡ before.program) (grows : GrowsLittle before.words after.words begun.seen.shared after.run.seen.shared) where
  grown : GrowsLittle before.words after.words before.run.seen.shared after.run.seen.shared
  grown = subst (λ (shared : MachineShared). GrowsLittle before.words after.words shared after.run.seen.shared) (begun-shared begun before.run (before.steps + 1) same) grows

  -- it is still one of the setting
  pub machine-kept : (setting : MachineSetting) → IsMachineOf setting before → IsMachineOf setting after
  machine-kept setting is =
      record {
        program = subst (HasProgram setting) (sym program) is.program;
        words = next-words setting 2 before.words after.words before.run.seen.shared.drawn after.run.seen.shared.drawn is.words grown.drawn;
      }

  -- and can make a step
  pub ready-kept : IsReady before → before.lost ≡ false → after.steps ≡ before.steps + 1 → IsReady after
  ready-kept ready held count =
      let chains = grown.chains in
      let births = grown.births in
      let drawn = grown.drawn.drawn in
      let few = grown.drawn.few in
      let stacks = grown.stacks_are in
      let chains_before = ready.chains held in
      let births_before = ready.births held in
      let drawn_before = ready.drawn held in
      let stack_before = ready.stack held in
      let rings = grown.rings_are in
      let ring_before = ready.ring held in
      record {
        built = subst (λ (p : Program). IsBuiltCode p.code) (sym program) ready.built;
        small = subst AreSmall (sym program) ready.small;
        chains = λ e. omega (arith, chains, chains_before, count);
        births = λ e. omega (arith, births, births_before, count);
        drawn = λ e. omega (arith, drawn, few, drawn_before, count);
        stack = λ e. omega (arith, stacks, stack_before);
        ring = λ e. omega (arith, rings, ring_before);
      }
