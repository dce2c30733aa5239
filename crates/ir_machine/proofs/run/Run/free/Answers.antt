use Rattle.hw_base.specs.declared.accesses.Access.TheVariants.{Free}
use Rattle.ir_machine.specs.declared.found.Found.TheVariants.{Block}
use Rattle.ir_machine.specs.StepEnds.{report_at}
use Rattle.ir_machine.proofs.Growth.{outcome-little}
use Rattle.ir_machine.proofs.Outcomes.{from_plain}
use Rattle.ir_machine.proofs.StepGrowth.{report-adds}
use Rattle.ir_machine.proofs.run.Run.free.Goals as goal

pub returns-in-Err-clause-grows : goal.returns-in-Err-clause-grows
returns-in-Err-clause-grows c some =
    let seen = c.args.self.now.seen in
    let outcome = report_at seen c.args.site Free 0 c.args.number (Block c.in-Err.found) in
    outcome-little c.args.words.now seen.shared outcome c.report.result c.report.new.self (from_plain outcome c.report.result c.report.new.self c.report.ensures) some
    (report-adds seen c.args.site Free 0 c.args.number (Block c.in-Err.found))
