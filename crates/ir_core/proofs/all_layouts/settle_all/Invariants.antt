use Rattle.std.proofs.Common.{◌-◌, length}
use Rattle.ir_core.specs.Progress.{laid_out, IsPartial}
use Rattle.ir_core.proofs.all_layouts.settle_all.Given as goal

abbrev pub invariant-loop : goal.invariant-loop
invariant-loop l = IsPartial l.types l.fields l.layouts

abbrev pub decreases-loop : goal.decreases-loop
decreases-loop l = length l.types - laid_out l.layouts
