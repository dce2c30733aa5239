use Rattle.std.proofs.Common.{refl}
use Rattle.hw_run.proofs.Jobs.{run-shown}
use Rattle.hw_run.proofs.job.run_started.Goals as goal

pub returns : goal.returns
returns c setting turns has goes =
    run-shown c.args.program.now c.args.bound _ c.in_ok-made.made c.run_steps.new.machine
    (record { output = c.in_ok-made.made.output; status = c.status_of.result; text = c.in_ok-text.text })
    goes (c.in_ok-made.ensures setting turns has)
    (record { output = refl; status = c.status_of.ensures; text = c.in_ok-text.ensures })
