use Rattle.std.proofs.Common.{◌≡◌, ◌+◌, ◌*◌, length}
use Rattle.ir_grammar.specs.Grammar.{read}
use Rattle.ir_grammar.specs.Spelled.{store_of}
use Rattle.ir_grammar.specs.Skipped.{any_run}
use Rattle.ir_grammar.proofs.reader.Reader.+any.Given as goal

abbrev pub decreases-any_part : goal.decreases-any_part
decreases-any_part l = 4 * l.levels + 2

abbrev pub decreases-any_run : goal.decreases-any_run
decreases-any_run l = 4 * l.levels + 3

abbrev pub decreases-in_braces : goal.decreases-in_braces
decreases-in_braces l = 4 * l.levels + 1

abbrev pub decreases-in_parens : goal.decreases-in_parens
decreases-in_parens l = 4 * l.levels + 1

abbrev pub decreases-in_squares : goal.decreases-in_squares
decreases-in_squares l = 4 * l.levels + 1

abbrev pub invariant-any_run-loop-self : goal.invariant-any_run-loop-self
invariant-any_run-loop-self l = read l.levels any_run l.self.rest.now (store_of l.self.found) ≡ read l.fn.levels any_run l.fn.self.rest.now (store_of l.fn.self.found)

abbrev pub decreases-any_run-loop-self : goal.decreases-any_run-loop-self
decreases-any_run-loop-self l = length l.self.rest.now
