use Rattle.ir_core.specs.Progress.{IsPartial}
use Rattle.ir_core.proofs.all_layouts.settle_in_order.Given as goal

abbrev pub invariant-loop-n : goal.invariant-loop-n
invariant-loop-n l = IsPartial l.types l.fields l.layouts
