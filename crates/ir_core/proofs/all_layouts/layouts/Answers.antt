use Rattle.std.proofs.Common.{◌≡◌, ap₂, ◌∙◌, arith}
use Rattle.std.proofs.lemmas.Grind.{common_steps}
use Rattle.ir_core.proofs.Circles.{loops_by}
use Rattle.ir_core.proofs.Deepening.{closed_layouts}
use Rattle.ir_core.specs.Layout.{layouts_of}
use Rattle.ir_core.proofs.all_layouts.layouts.Goals as goal

pub returns-clause-layouts : goal.returns-clause-layouts
returns-clause-layouts c =
    let kept : c.from_vec.result ≡ c.settle_all.new.layouts = grind (arith, common_steps) in
    let worked : c.settle_all.new.layouts ≡ layouts_of c.as_slice-types.result.now c.as_slice-fields.result.now =
    closed_layouts c.as_slice-types.result.now c.as_slice-fields.result.now c.settle_all.new.layouts c.settle_all.ensures.partial c.settle_all.ensures.closed in
    kept ∙ (worked ∙ ap₂ layouts_of c.as_slice-types.ensures c.as_slice-fields.ensures)

pub returns-clause-circular : goal.returns-clause-circular
returns-clause-circular c =
    λ n. loops_by c.args.types.now c.args.fields.now _ (returns-clause-layouts c) n
