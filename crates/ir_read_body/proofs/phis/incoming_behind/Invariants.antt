use Rattle.std.proofs.Common.{◌≡◌, length}
use Rattle.ir_grammar.specs.Grammar.{read, with_front}
use Rattle.ir_grammar.specs.Spelled.{store_of}
use Rattle.ir_grammar.specs.Instructions.{more_incoming}
use Rattle.ir_read_body.proofs.phis.incoming_behind.Given as goal

abbrev pub invariant-loop-reader : goal.invariant-loop-reader
invariant-loop-reader l = with_front l.all.items (read l.levels more_incoming l.reader.rest.now (store_of l.reader.found))
    ≡ with_front l.fn.found.items (read l.fn.levels more_incoming l.fn.reader.rest.now (store_of l.fn.reader.found))

abbrev pub decreases-loop-reader : goal.decreases-loop-reader
decreases-loop-reader l = length l.reader.rest.now
