use Rattle.std.proofs.Common.{◌≢◌, ℕ, ◌≤◌, ◌<◌, decimal}
use Rattle.ir_core.proofs.externals.width_of.Given as goal

abbrev pub invariant-loop-width : goal.invariant-loop-width
invariant-loop-width l = (width : ℕ) → 1 ≤ width → width < l.width → decimal width ≢ l.bytes
