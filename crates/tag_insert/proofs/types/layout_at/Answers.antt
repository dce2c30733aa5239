use Rattle.std.proofs.Common.{Option, ap, ◌∙◌}
use Rattle.std.specs.Prelude.{unwrap_or}
use Rattle.std.proofs.lemmas.Option.{unwrap_or-slice_get}
use Rattle.ir_core.specs.declared.types.TypeLayout.{TypeLayout}
use Rattle.ir_core.specs.declared.types.TypeLayout.TheVariants.{Loop}
use Rattle.tag_insert.proofs.types.layout_at.Goals as goal

pub returns-in-Some : goal.returns-in-Some
returns-in-Some c = ap (λ (o : Option TypeLayout). unwrap_or o Loop) c.in-Some.ensures ∙ unwrap_or-slice_get c.args.m.now.layouts c.args.ty Loop

pub returns-in-None : goal.returns-in-None
returns-in-None c = ap (λ (o : Option TypeLayout). unwrap_or o Loop) c.in-None.ensures ∙ unwrap_or-slice_get c.args.m.now.layouts c.args.ty Loop
