use Rattle.std.proofs.Common.{[], ◌∷◌, ◌≡◌, length}
use Rattle.ir_grammar.specs.Grammar.{read, with_front}
use Rattle.ir_grammar.specs.Spelled.{store_of}
use Rattle.ir_grammar.specs.Parameters.{more_parameters}
use Rattle.ir_grammar.proofs.reader.Reader.more_parameters.Given as goal

abbrev pub invariant-loop-context : goal.invariant-loop-context
invariant-loop-context l = with_front l.parameters.items (read l.levels (more_parameters l.context) l.self.rest.now (store_of l.self.found))
    ≡ with_front (l.fn.first ∷ []) (read l.fn.levels (more_parameters l.fn.context) l.fn.self.rest.now (store_of l.fn.self.found))

abbrev pub decreases-loop-context : goal.decreases-loop-context
decreases-loop-context l = length l.self.rest.now
