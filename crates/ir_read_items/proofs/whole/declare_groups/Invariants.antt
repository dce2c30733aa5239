use Rattle.std.proofs.Common.{◌≡◌, length}
use Rattle.ir_grammar.specs.Grammar.{read}
use Rattle.ir_grammar.specs.Spelled.{store_of}
use Rattle.ir_read_items.specs.Items.{declare_groups}
use Rattle.ir_read_items.proofs.whole.declare_groups.Given as goal

abbrev pub invariant-loop-reader : goal.invariant-loop-reader
invariant-loop-reader l = read l.levels declare_groups l.reader.rest.now (store_of l.reader.found) ≡ read l.fn.levels declare_groups l.fn.reader.rest.now (store_of l.fn.reader.found)

abbrev pub decreases-loop-reader : goal.decreases-loop-reader
decreases-loop-reader l = length l.reader.rest.now
