use Rattle.std.proofs.Common.{◌≡◌, ℕ, ◌+◌, ◌≤◌, false, []}
use Rattle.hw_base.specs.declared.numbers.TheConstants.{MOST_STEPS}
use Rattle.hw_tags.specs.TaskRuns.{run_from}
use Rattle.ir_machine.specs.MachineStates.{IsMachineOf, world_of}
use Rattle.ir_machine.specs.Runs.{step_in}
use Rattle.ir_machine.specs.State.{MachineSetting}
use Rattle.hw_run.proofs.RunSteps.{IsContinued}
use Rattle.hw_run.proofs.steps.run_steps.Given as goal

abbrev pub invariant-loop-left : goal.invariant-loop-left
invariant-loop-left l = record {
  machine : (setting : MachineSetting) → IsMachineOf setting l.fn.machine → IsMachineOf setting l.machine;
  held : l.machine.lost ≡ false;
  within : l.machine.steps + l.left ≤ MOST_STEPS;
  run : (setting : MachineSetting) (turns : ℕ → ℕ) → IsMachineOf setting l.fn.machine
      → IsContinued (run_from (step_in setting) [] turns l.fn.bound (world_of l.fn.machine)) (run_from (step_in setting) [] turns l.left (world_of l.machine)) l.output;
}

abbrev pub decreases-loop-left : goal.decreases-loop-left
decreases-loop-left l = l.left
