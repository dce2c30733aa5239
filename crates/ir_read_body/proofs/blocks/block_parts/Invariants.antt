use Rattle.std.proofs.Common.{[], ◌≡◌, length}
use Rattle.ir_grammar.specs.Grammar.{read}
use Rattle.ir_grammar.specs.Spelled.{store_of}
use Rattle.ir_grammar.specs.Blocks.{block_parts}
use Rattle.ir_read_body.specs.Views.{with_ones}
use Rattle.ir_read_body.proofs.blocks.block_parts.Given as goal

abbrev pub invariant-loop-reader : goal.invariant-loop-reader
invariant-loop-reader l = with_ones l.all.items (read l.levels (block_parts l.entry) l.reader.rest.now (store_of l.reader.found))
    ≡ with_ones [] (read l.fn.levels (block_parts l.fn.entry) l.fn.reader.rest.now (store_of l.fn.reader.found))

abbrev pub decreases-loop-reader : goal.decreases-loop-reader
decreases-loop-reader l = length l.reader.rest.now
