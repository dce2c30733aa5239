-- Runs under bounds.
use Rattle.std.proofs.Common.{◌≡◌, ℕ, ◌+◌, List, [], refl, ◌∙◌, ap}
use Rattle.hw_tags.specs.TaskRuns.{Next, Last, NoStep, Ended, after_report, after_step, run_from, resumed}
use Rattle.hw_tags.proofs.RunLaws.{run_from-add, after_report-resumed}
use Rattle.ir_machine.specs.State.{MachineSetting, MachineWorld, MachineReport, MachineEnding, MachineWorldStep}
use Rattle.ir_machine.specs.Runs.{machine_run, step_in}
use Rattle.ir_machine.specs.Start.{machine_start}

sum-from : (setting : MachineSetting) (turns : ℕ → ℕ) (n m : ℕ) (start : MachineWorldStep) → after_step (run_from (step_in setting) [] turns (n + m)) start ≡ resumed (step_in setting) [] turns m (after_step (run_from (step_in setting) [] turns n) start)
sum-from setting turns n m (Next w report) =
    ap (after_report report) (run_from-add (step_in setting) [] turns n m w)
    ∙ after_report-resumed (step_in setting) [] turns m report (run_from (step_in setting) [] turns n w)
sum-from setting turns n m (Last w report ending) = refl
sum-from setting turns n m NoStep = refl

pub machine_run-sum : (setting : MachineSetting) (turns : ℕ → ℕ) (n m : ℕ) → machine_run setting turns (n + m) ≡ resumed (step_in setting) [] turns m (machine_run setting turns n)
unfolding machine_run
machine_run-sum setting turns n m = sum-from setting turns n m (machine_start setting)

pub machine_run-ended : (setting : MachineSetting) (turns : ℕ → ℕ) (n m : ℕ) (last : MachineWorld) (reports : List MachineReport) (ending : MachineEnding) → machine_run setting turns n ≡ Ended last reports ending → machine_run setting turns (n + m) ≡ Ended last reports ending
machine_run-ended setting turns n m last reports ending e = machine_run-sum setting turns n m ∙ ap (resumed (step_in setting) [] turns m) e
