use Rattle.hw_run.proofs.TestCode.{add_code, on_ok, returns_without_ends}
use Rattle.hw_run.proofs.tests.add_function.Goals as goal

pub returns-clause-built : goal.returns-clause-built
returns-clause-built c =
    on_ok c.push-2.result c.push-2.ensures.ok
    (λ same. add_code c.args.code.now c.push-2.new.self _ same c.requires.built
    (record { built = c.requires.insts; returns = returns_without_ends c.args.insts c.requires.ops }))
