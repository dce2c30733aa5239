use Rattle.std.proofs.Common.{◌≡◌, take, length}
use Rattle.ir_check_flow.specs.Phis.{IsIndex}
use Rattle.ir_check_flow.proofs.tables.fill_index.Given as goal

abbrev pub invariant-loop-i : goal.invariant-loop-i
invariant-loop-i l = record { same : length l.table ≡ length l.initial.table; index : IsIndex l.table (take l.i l.keys) }
