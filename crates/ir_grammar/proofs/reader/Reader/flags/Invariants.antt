use Rattle.std.proofs.Common.{◌≡◌, length}
use Rattle.ir_grammar.specs.Grammar.{read}
use Rattle.ir_grammar.specs.Spelled.{store_of}
use Rattle.ir_grammar.specs.Constants.{flags}
use Rattle.ir_grammar.proofs.reader.Reader.flags.Given as goal

abbrev pub invariant-loop-self : goal.invariant-loop-self
invariant-loop-self l = read l.levels flags l.self.rest.now (store_of l.self.found) ≡ read l.fn.levels flags l.fn.self.rest.now (store_of l.fn.self.found)

abbrev pub decreases-loop-self : goal.decreases-loop-self
decreases-loop-self l = length l.self.rest.now
