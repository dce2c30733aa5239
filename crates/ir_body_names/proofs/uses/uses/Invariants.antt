use Rattle.std.proofs.Common.{◌≡◌, ◌++◌, length}
use Rattle.std.specs.List.{flat_map}
use Rattle.ir_grammar.specs.Spelled.{bodies_of}
use Rattle.ir_body_names.specs.Uses.{block_uses, uses}
use Rattle.ir_body_names.proofs.uses.uses.Given as goal

abbrev pub invariant-loop-rest : goal.invariant-loop-rest
invariant-loop-rest l = l.used.items ++ flat_map (block_uses l.source (bodies_of l.bodies)) l.rest ≡ uses l.source (bodies_of l.bodies) l.fn.blocks

abbrev pub decreases-loop-rest : goal.decreases-loop-rest
decreases-loop-rest l = length l.rest
