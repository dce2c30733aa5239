use Rattle.std.proofs.Common.{◌≡◌, ℕ, ◌+◌, ◌-◌, ◌<◌, ◌∙◌, [], List, refl, ap, sym, subst, arith, rules, false, Ok, w32, SFits}
use Rattle.std.proofs.lemmas.Int.{to_z-of_z}
use Rattle.hw_tags.specs.TaskRuns.{run_from, world_step}
use Rattle.ir_machine.specs.MachineStates.{MachineState, IsMachineOf, IsStep, world_of}
use Rattle.ir_machine.specs.Runs.{step_in}
use Rattle.ir_machine.specs.State.{MachineSetting}
use Rattle.ir_machine.specs.declared.stepped.Stepped.{Stepped}
use Rattle.ir_machine.specs.declared.stepped.Stepped.TheVariants as stepped
use Rattle.hw_run.specs.declared.ends.RunEnd.{RunEnd}
use Rattle.hw_run.specs.declared.ends.RunEnd.TheVariants as run_end
use Rattle.hw_run.specs.declared.ends.StepsMade.{StepsMade}
use Rattle.hw_run.specs.RunEnds.{IsRun}
use Rattle.hw_run.proofs.RunSteps.{IsContinued, EndsLoop, end_of, run-ran, run-wrote, run-ended, run-spent}
use Rattle.hw_run.proofs.steps.run_steps.Goals as goal

pub loop-left-preserved-in-Ok-Ran : goal.loop-left-preserved-in-Ok-Ran
loop-left-preserved-in-Ok-Ran c =
    let count = c.step.ensures.count c.loop-left.invariant.held in
    record {
      machine = λ setting has. c.in-Ok-Ran.ensures.same_setting setting (c.loop-left.invariant.machine setting has) c.loop-left.invariant.held;
      held = c.in-Ok-Ran.ensures.kept ∙ c.loop-left.invariant.held;
      within = omega (arith, count);
      run = λ setting turns has.
          let there = c.loop-left.invariant.machine setting has in
          run-ran (step_in setting) turns c.loop-left.left c.loop-left-test.true
          (run_from (step_in setting) [] turns c.args.bound (world_of c.args.machine.now)) c.loop-left.output c.loop-left.machine c.step.new.self
          (c.loop-left.invariant.run setting turns has) c.in-Ok-Ran.field-0 c.in-Ok-Ran.field-0-is
          (c.in-Ok-Ran.ensures.step setting turns there c.loop-left.invariant.held);
    }

pub loop-left-preserved : goal.loop-left-preserved
loop-left-preserved c =
    let count = c.step.ensures.count c.loop-left.invariant.held in
    record {
      machine = λ setting has. c.in-Ok-Wrote.ensures.same_setting setting (c.loop-left.invariant.machine setting has) c.loop-left.invariant.held;
      held = c.in-Ok-Wrote.ensures.kept ∙ c.loop-left.invariant.held;
      within = omega (arith, count);
      run = λ setting turns has.
          let there = c.loop-left.invariant.machine setting has in
          let whole = run_from (step_in setting) [] turns c.args.bound (world_of c.args.machine.now) in
          subst (λ (output : List ℕ). IsContinued whole (run_from (step_in setting) [] turns (c.loop-left.left - 1) (world_of c.step.new.self)) output) (sym c.in_ok-gather-in-Ok-Wrote.ensures)
          (run-wrote (step_in setting) turns c.loop-left.left c.loop-left-test.true whole c.loop-left.output c.loop-left.machine c.step.new.self
          (c.loop-left.invariant.run setting turns has) c.in-Ok-Wrote.field-0 c.in-Ok-Wrote.count c.in-Ok-Wrote.field-0-is
          (c.in-Ok-Wrote.ensures.step setting turns there c.loop-left.invariant.held));
    }

-- the loop ends in this step
ended : (setting : MachineSetting) (turns : ℕ → ℕ) (left bound : ℕ) (first old after : MachineState) (before : List ℕ) (made : StepsMade) (found stop : Stepped) (end : RunEnd)
    → 0 < left → IsMachineOf setting first → (IsMachineOf setting first → IsMachineOf setting old) → old.lost ≡ false
    → (IsMachineOf setting first → IsContinued (run_from (step_in setting) [] turns bound (world_of first)) (run_from (step_in setting) [] turns left (world_of old)) before)
    → made ≡ record { output = before; end = end } → end ≡ end_of stop → found ≡ stop → EndsLoop stop → (old.lost ≡ false → after.steps ≡ old.steps + 1)
    → (IsMachineOf setting old → old.lost ≡ false → IsStep (world_step (step_in setting) [] turns (world_of old)) (Ok found) after)
    → IsRun (run_from (step_in setting) [] turns bound (world_of first)) made after
ended setting turns left bound first old after before made found stop end more has kept held so_far is end_is found_is ends count step =
    let whole = run_from (step_in setting) [] turns bound (world_of first) in
    subst (λ (m : StepsMade). IsRun whole m after) (sym is)
    (run-ended (step_in setting) turns left more whole before old after (so_far has) found stop end found_is ends end_is (count held) (step (kept has) held))

pub returns-in-Ok-Exit : goal.returns-in-Ok-Exit
returns-in-Ok-Exit c setting turns has =
    ended setting turns c.loop-left.left c.args.bound c.args.machine.now c.loop-left.machine c.step.new.self c.loop-left.output c.made.result
    c.in-Ok-Exit.field-0 (stepped.Exit c.in-Ok-Exit.value) _
    c.loop-left-test.true has (c.loop-left.invariant.machine setting) c.loop-left.invariant.held (c.loop-left.invariant.run setting turns)
    c.made.ensures (ap run_end.Exit (let fits : SFits w32 c.in-Ok-Exit.value = search rules in to_z-of_z w32 c.in-Ok-Exit.value fits)) c.in-Ok-Exit.field-0-is tt c.step.ensures.count (c.in-Ok-Exit.ensures.step setting turns)

pub returns-in-Ok-Trap : goal.returns-in-Ok-Trap
returns-in-Ok-Trap c setting turns has =
    ended setting turns c.loop-left.left c.args.bound c.args.machine.now c.loop-left.machine c.step.new.self c.loop-left.output c.made-in-Ok-Trap.result
    c.in-Ok-Trap.field-0 (stepped.Trap c.in-Ok-Trap.trap c.in-Ok-Trap.task c.in-Ok-Trap.chain) _
    c.loop-left-test.true has (c.loop-left.invariant.machine setting) c.loop-left.invariant.held (c.loop-left.invariant.run setting turns)
    c.made-in-Ok-Trap.ensures refl c.in-Ok-Trap.field-0-is tt c.step.ensures.count (c.in-Ok-Trap.ensures.step setting turns)

pub returns-in-Ok-Mismatch : goal.returns-in-Ok-Mismatch
returns-in-Ok-Mismatch c setting turns has =
    ended setting turns c.loop-left.left c.args.bound c.args.machine.now c.loop-left.machine c.step.new.self c.loop-left.output c.made-in-Ok-Mismatch.result
    c.in-Ok-Mismatch.field-0 (stepped.Mismatch c.in-Ok-Mismatch.raw) _
    c.loop-left-test.true has (c.loop-left.invariant.machine setting) c.loop-left.invariant.held (c.loop-left.invariant.run setting turns)
    c.made-in-Ok-Mismatch.ensures refl c.in-Ok-Mismatch.field-0-is tt c.step.ensures.count (c.in-Ok-Mismatch.ensures.step setting turns)

pub returns-in-Ok-Full : goal.returns-in-Ok-Full
returns-in-Ok-Full c setting turns has =
    ended setting turns c.loop-left.left c.args.bound c.args.machine.now c.loop-left.machine c.step.new.self c.loop-left.output c.made-in-Ok-Full.result
    c.in-Ok-Full.field-0 (stepped.Full c.in-Ok-Full.full) _
    c.loop-left-test.true has (c.loop-left.invariant.machine setting) c.loop-left.invariant.held (c.loop-left.invariant.run setting turns)
    c.made-in-Ok-Full.ensures refl c.in-Ok-Full.field-0-is tt c.step.ensures.count (c.in-Ok-Full.ensures.step setting turns)

pub returns-in-Ok-WantsInput : goal.returns-in-Ok-WantsInput
returns-in-Ok-WantsInput c setting turns has =
    ended setting turns c.loop-left.left c.args.bound c.args.machine.now c.loop-left.machine c.step.new.self c.loop-left.output c.made-in-Ok-WantsInput.result
    c.in-Ok-WantsInput.field-0 stepped.WantsInput _
    c.loop-left-test.true has (c.loop-left.invariant.machine setting) c.loop-left.invariant.held (c.loop-left.invariant.run setting turns)
    c.made-in-Ok-WantsInput.ensures refl c.in-Ok-WantsInput.field-0-is tt c.step.ensures.count (c.in-Ok-WantsInput.ensures.step setting turns)

pub returns : goal.returns
returns c setting turns has =
    let none : c.loop-left.left ≡ 0 = omega arith in
    let whole = run_from (step_in setting) [] turns c.args.bound (world_of c.args.machine.now) in
    subst (λ (m : StepsMade). IsRun whole m c.loop-left.machine) (sym c.made-2.ensures)
    (run-spent (step_in setting) turns whole c.loop-left.output c.loop-left.machine
    (subst (λ (n : ℕ). IsContinued whole (run_from (step_in setting) [] turns n (world_of c.loop-left.machine)) c.loop-left.output) none (c.loop-left.invariant.run setting turns has)))
