use Rattle.std.proofs.Common.{◌≡◌, length}
use Rattle.ir_grammar.specs.Grammar.{read}
use Rattle.ir_grammar.specs.Spelled.{store_of}
use Rattle.ir_grammar.specs.Attributes.{attributes}
use Rattle.ir_grammar.proofs.reader.Reader.attributes.Given as goal

abbrev pub invariant-loop-context : goal.invariant-loop-context
invariant-loop-context l = read l.levels (attributes l.context) l.self.rest.now (store_of l.self.found)
    ≡ read l.fn.levels (attributes l.fn.context) l.fn.self.rest.now (store_of l.fn.self.found)

abbrev pub decreases-loop-context : goal.decreases-loop-context
decreases-loop-context l = length l.self.rest.now
