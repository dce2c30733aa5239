use Rattle.std.proofs.Common.{◌≡◌, ◌++◌, length}
use Rattle.ir_first_values.specs.Tables.{tables_of}
use Rattle.ir_read_top.specs.Globals.{globals_of}
use Rattle.ir_read_top.proofs.global_variables.globals_of.Given as goal

abbrev pub invariant-loop-rest : goal.invariant-loop-rest
invariant-loop-rest l = l.globals ++ globals_of (tables_of l.values) l.rest ≡ globals_of (tables_of l.values) l.items

abbrev pub decreases-loop-rest : goal.decreases-loop-rest
decreases-loop-rest l = length l.rest
