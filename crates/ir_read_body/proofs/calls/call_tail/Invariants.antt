use Rattle.std.proofs.Common.{◌≡◌, length}
use Rattle.ir_grammar.specs.Grammar.{read}
use Rattle.ir_grammar.specs.Spelled.{store_of}
use Rattle.ir_grammar.specs.Calls.{call_tail}
use Rattle.ir_read_body.proofs.calls.call_tail.Given as goal

abbrev pub invariant-loop-reader : goal.invariant-loop-reader
invariant-loop-reader l = read l.levels call_tail l.reader.rest.now (store_of l.reader.found) ≡ read l.fn.levels call_tail l.fn.reader.rest.now (store_of l.fn.reader.found)

abbrev pub decreases-loop-reader : goal.decreases-loop-reader
decreases-loop-reader l = length l.reader.rest.now
