use Rattle.std.proofs.Common.{◌≡◌, ◌≤◌, drop}
use Rattle.hw_base.specs.declared.numbers.TheConstants.{MOST_GLOBALS}
use Rattle.ir_check_flow.specs.Limits.{globals_limit}
use Rattle.ir_check_flow.proofs.limits.globals_in.Given as goal

abbrev pub invariant-loop-g : goal.invariant-loop-g
invariant-loop-g l = (l.total ≤ MOST_GLOBALS) × (globals_limit l.m l.total (drop l.g-index l.globals) ≡ globals_limit l.m 0 l.globals)
