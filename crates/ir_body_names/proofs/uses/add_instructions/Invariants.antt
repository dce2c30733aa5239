use Rattle.std.proofs.Common.{◌≡◌, ◌++◌, length}
use Rattle.std.specs.List.{flat_map}
use Rattle.ir_grammar.specs.Spelled.{bodies_of}
use Rattle.ir_body_names.specs.Uses.{instruction_uses}
use Rattle.ir_body_names.proofs.uses.add_instructions.Given as goal

abbrev pub invariant-loop-rest : goal.invariant-loop-rest
invariant-loop-rest l = l.used.items ++ flat_map (instruction_uses l.source (bodies_of l.bodies)) l.rest ≡ l.fn.used.items ++ flat_map (instruction_uses l.source (bodies_of l.bodies)) l.fn.instructions

abbrev pub decreases-loop-rest : goal.decreases-loop-rest
decreases-loop-rest l = length l.rest
