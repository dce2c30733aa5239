use Rattle.std.proofs.Common.{List, ◌++◌, Option, length}
use Rattle.ir_core.specs.declared.lib_functions.Lib.{Lib}
use Rattle.ir_read_top.specs.Module.{AreLibsOf}
use Rattle.ir_read_top.proofs.declared.libs_of.Given as goal

abbrev pub invariant-loop-rest : goal.invariant-loop-rest
invariant-loop-rest l = (more : List (Option Lib)) → AreLibsOf l.tokens.source l.rest more → AreLibsOf l.tokens.source l.items (l.libs.items ++ more)

abbrev pub decreases-loop-rest : goal.decreases-loop-rest
decreases-loop-rest l = length l.rest
