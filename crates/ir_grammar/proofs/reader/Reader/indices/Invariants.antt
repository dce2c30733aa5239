use Rattle.std.proofs.Common.{◌≡◌, length}
use Rattle.ir_grammar.specs.Grammar.{read, with_front}
use Rattle.ir_grammar.specs.Spelled.{store_of}
use Rattle.ir_grammar.specs.Constants.{indices}
use Rattle.ir_grammar.proofs.reader.Reader.indices.Given as goal

abbrev pub invariant-loop-self : goal.invariant-loop-self
invariant-loop-self l = with_front l.found.items (read l.levels indices l.self.rest.now (store_of l.self.found))
    ≡ read l.fn.levels indices l.fn.self.rest.now (store_of l.fn.self.found)

abbrev pub decreases-loop-self : goal.decreases-loop-self
decreases-loop-self l = length l.self.rest.now
