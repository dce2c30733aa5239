use Rattle.ir_machine.proofs.StepGrowth.{outcome-keeps, ret-keeps, setting_with, setting_with-code}
use Rattle.ir_machine.proofs.turn.returned.Goals as goal

pub returns-clause-keeps : goal.returns-clause-keeps
returns-clause-keeps c some =
    let setting = setting_with c.args.code.now in
    outcome-keeps c.args.run.now.seen.shared _ c.ret.result c.ret.new.self (c.ret.ensures setting (setting_with-code c.args.code.now).code) some
    (ret-keeps setting c.args.run.now.seen _)
