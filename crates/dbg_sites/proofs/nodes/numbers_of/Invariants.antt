use Rattle.std.proofs.Common.{◌≡◌, ◌++◌, map, length}
use Rattle.dbg_sites.specs.Read.{definitions_of, numbers_in}
use Rattle.dbg_sites.proofs.nodes.numbers_of.Given as goal

abbrev pub invariant-loop-rest : goal.invariant-loop-rest
invariant-loop-rest l =
    numbers_in l.numbers.items ++ map (λ d. d.number) (definitions_of l.tokens.source l.rest) ≡ map (λ d. d.number) (definitions_of l.tokens.source l.nodes)

abbrev pub decreases-loop-rest : goal.decreases-loop-rest
decreases-loop-rest l = length l.rest
