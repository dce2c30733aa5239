use Rattle.std.proofs.Common.{sym, subst}
use Rattle.tag_insert.specs.Functions.{IsSmallModule}
use Rattle.tag_insert.proofs.AcceptedIsSmall.{accepted-is-small}
use Rattle.tag_insert.proofs.instrumenting.instrument.Goals as goal

pub code_of_module-requires : goal.code_of_module-requires
code_of_module-requires c = subst IsSmallModule (sym c.module.ensures.value) (accepted-is-small c.args.checked.now c.module.ensures.checked)
