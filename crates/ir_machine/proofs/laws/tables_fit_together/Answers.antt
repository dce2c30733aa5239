use Rattle.std.proofs.Common.{subst}
use Rattle.ir_machine.proofs.WorldTables.{StepHasTables, start-tables, world-tables}
use Rattle.ir_machine.proofs.laws.tables_fit_together.Goals as goal

pub returns-clause-start : goal.returns-clause-start
returns-clause-start c setting first report same = subst StepHasTables same (start-tables setting)

pub returns-clause-step : goal.returns-clause-step
returns-clause-step c setting turns world next report tables same = subst StepHasTables same (world-tables setting turns world tables)
