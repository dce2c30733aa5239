use Rattle.std.proofs.Common.{Option, ap, ◌∙◌}
use Rattle.std.specs.Prelude.{unwrap_or}
use Rattle.std.proofs.lemmas.Option.{unwrap_or-slice_get}
use Rattle.ir_core.specs.declared.types.IrType.{IrType}
use Rattle.ir_core.specs.declared.types.IrType.TheVariants.{Void}
use Rattle.tag_insert.proofs.types.type_of.Goals as goal

pub returns-in-Some : goal.returns-in-Some
returns-in-Some c = ap (λ (o : Option IrType). unwrap_or o Void) c.in-Some.ensures ∙ unwrap_or-slice_get c.args.m.now.types c.args.ty Void

pub returns-in-None : goal.returns-in-None
returns-in-None c = ap (λ (o : Option IrType). unwrap_or o Void) c.in-None.ensures ∙ unwrap_or-slice_get c.args.m.now.types c.args.ty Void
