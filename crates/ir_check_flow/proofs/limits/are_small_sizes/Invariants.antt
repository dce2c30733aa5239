use Rattle.std.proofs.Common.{◌≡◌, drop}
use Rattle.std.specs.List.{list_all}
use Rattle.ir_check_flow.specs.Limits.{is_small_size}
use Rattle.ir_check_flow.proofs.limits.are_small_sizes.Given as goal

abbrev pub invariant-loop-i : goal.invariant-loop-i
invariant-loop-i l = list_all is_small_size (drop l.i l.sizes) ≡ list_all is_small_size l.sizes
