use Rattle.std.proofs.Common.{ap, Err}
use Rattle.hw_run.proofs.Jobs.{job-full, job-started, main-below, shown-if, small-variables}
use Rattle.hw_run.proofs.job.run_gathered.Goals as goal

pub new-requires-clause-variables : goal.new-requires-clause-variables
new-requires-clause-variables c = small-variables c.args.program.now c.requires.runnable

pub new-requires-clause-main : goal.new-requires-clause-main
new-requires-clause-main c = main-below c.args.program.now c.args.code c.requires.runnable c.requires.instrumented

pub returns-in-Ok : goal.returns-in-Ok
returns-in-Ok c =
    shown-if c.run_started.result c.run_started.ensures
    (λ gathered shown input. job-started c.args.program.now c.args.options.now input c.args.code c.in-Ok.machine gathered c.requires.runnable c.requires.instrumented
    c.in-Ok.ensures.started shown)

pub returns-in-Err-Full : goal.returns-in-Err-Full
returns-in-Err-Full c =
    shown-if c.full_at_start.result c.full_at_start.ensures
    (λ gathered shown input. job-full c.args.program.now c.args.options.now input c.args.code c.in-Err-Full.full gathered c.requires.instrumented
    (c.in-Err-Full.ensures.full c.in-Err-Full.full (ap Err c.in-Err-Full.field-0-is)) shown)
