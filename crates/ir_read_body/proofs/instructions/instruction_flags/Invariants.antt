use Rattle.std.proofs.Common.{◌≡◌, length}
use Rattle.ir_grammar.specs.Grammar.{read}
use Rattle.ir_grammar.specs.Spelled.{store_of}
use Rattle.ir_grammar.specs.Instructions.{instruction_flags}
use Rattle.ir_read_body.proofs.instructions.instruction_flags.Given as goal

abbrev pub invariant-loop-reader : goal.invariant-loop-reader
invariant-loop-reader l = read l.levels instruction_flags l.reader.rest.now (store_of l.reader.found) ≡ read l.fn.levels instruction_flags l.fn.reader.rest.now (store_of l.fn.reader.found)

abbrev pub decreases-loop-reader : goal.decreases-loop-reader
decreases-loop-reader l = length l.reader.rest.now
