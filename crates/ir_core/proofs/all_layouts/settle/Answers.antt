use Rattle.std.proofs.Common.{◌≡◌, true, false, set, ap, sym, ◌∙◌, subst}
use Rattle.ir_core.proofs.Deepening.{partial_more, laid_out_more, not_loop}
use Rattle.ir_core.specs.Layout.{layout_at}
use Rattle.ir_core.specs.Progress.{is_loop, IsPartial}
use Rattle.ir_core.proofs.all_layouts.settle.Goals as goal

pub returns-in_default-layout : goal.returns-in_default-layout
returns-in_default-layout c =
    let made = c.type_layout-layout.ensures in
    let was : is_loop (layout_at c.args.layouts.now c.args.n) ≡ true = sym (ap is_loop c.in-Loop.ensures) in
    let is : is_loop c.type_layout-layout.result ≡ false = not_loop c.type_layout-layout.result c.in_default-layout.not-Loop in
    record {
      partial = subst (λ l. IsPartial c.args.types.now c.args.fields.now (set c.args.layouts.now c.args.n l)) (sym made)
          (partial_more c.args.types.now c.args.fields.now c.args.layouts.now c.args.n c.requires.partial c.requires.within was (sym (ap is_loop made) ∙ is));
      more = λ _. laid_out_more c.args.types.now c.args.fields.now c.args.layouts.now c.args.n c.type_layout-layout.result c.requires.partial.same c.requires.within was is;
      same = λ no. cc;
      closed = λ no. cc;
    }
