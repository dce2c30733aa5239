use Rattle.hw_run.proofs.TestCode.{add_built, on_ok}
use Rattle.hw_run.proofs.tests.add.Goals as goal

pub returns-clause-built : goal.returns-clause-built
returns-clause-built c =
    on_ok c.push.result c.push.ensures.ok (λ same. add_built c.args.insts.now c.push.new.self _ same c.requires.built c.requires.op)
