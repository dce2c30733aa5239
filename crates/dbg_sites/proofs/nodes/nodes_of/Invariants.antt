use Rattle.std.proofs.Common.{◌≡◌, ◌++◌, map, length}
use Rattle.ir_grammar.specs.DebugNodes.{node_of}
use Rattle.dbg_sites.specs.Read.{definitions_of}
use Rattle.dbg_sites.proofs.nodes.nodes_of.Given as goal

abbrev pub invariant-loop-rest : goal.invariant-loop-rest
invariant-loop-rest l =
    l.meta ++ map (node_of (definitions_of l.tokens.source l.nodes)) (definitions_of l.tokens.source l.rest) ≡ map (node_of (definitions_of l.tokens.source l.nodes)) (definitions_of l.tokens.source l.nodes)

abbrev pub decreases-loop-rest : goal.decreases-loop-rest
decreases-loop-rest l = length l.rest
