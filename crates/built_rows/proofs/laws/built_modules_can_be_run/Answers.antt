use Rattle.built_rows.proofs.BuiltCode.{built-can-be-run}
use Rattle.built_rows.proofs.laws.built_modules_can_be_run.Goals as goal

pub returns : goal.returns
returns c = built-can-be-run
