use Rattle.std.proofs.Common.{◌≡◌, length}
use Rattle.ir_grammar.specs.Grammar.{read}
use Rattle.ir_grammar.specs.Spelled.{store_of}
use Rattle.ir_read_items.specs.Items.{define_tail}
use Rattle.ir_read_items.proofs.defines.define_tail.Given as goal

abbrev pub invariant-loop-reader : goal.invariant-loop-reader
invariant-loop-reader l = read l.levels define_tail l.reader.rest.now (store_of l.reader.found) ≡ read l.fn.levels define_tail l.fn.reader.rest.now (store_of l.fn.reader.found)

abbrev pub decreases-loop-reader : goal.decreases-loop-reader
decreases-loop-reader l = length l.reader.rest.now
