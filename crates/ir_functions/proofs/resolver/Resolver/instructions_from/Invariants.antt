use Rattle.std.proofs.Common.{◌≡◌, ◌+◌, ◌≤◌, ◌++◌, length}
use Rattle.ir_functions.specs.Functions.{instructions_from}
use Rattle.ir_functions.specs.Views.{scope_in}
use Rattle.ir_functions.proofs.resolver.Resolver.instructions_from.Given as goal

abbrev pub invariant-loop-rest : goal.invariant-loop-rest
invariant-loop-rest l = record {
  registers : l.register + length l.rest ≤ l.fn.first + length l.fn.instructions;
  variables : l.variable + length l.rest ≤ length l.fn.instructions;
  insts : l.insts ++ instructions_from (scope_in l.self) l.register l.variable l.rest ≡ instructions_from (scope_in l.self) l.fn.first 0 l.fn.instructions;
}

abbrev pub decreases-loop-rest : goal.decreases-loop-rest
decreases-loop-rest l = length l.rest
