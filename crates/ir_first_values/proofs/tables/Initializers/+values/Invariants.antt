use Rattle.std.proofs.Common.{◌≡◌, ◌+◌, ◌*◌, drop}
use Rattle.ir_first_values.specs.Tables.{tables_of}
use Rattle.ir_first_values.specs.FirstValues.{elements_value, first_value}
use Rattle.ir_first_values.specs.Answers.{behind}
use Rattle.ir_first_values.proofs.tables.Initializers.+values.Given as goal

abbrev pub decreases-put_value : goal.decreases-put_value
decreases-put_value l = 5 * l.levels

abbrev pub decreases-put_element : goal.decreases-put_element
decreases-put_element l = 5 * l.levels + 1

abbrev pub decreases-put_elements : goal.decreases-put_elements
decreases-put_elements l = 5 * l.levels + 2

abbrev pub decreases-put_elements_of : goal.decreases-put_elements_of
decreases-put_elements_of l = 5 * l.levels + 3

abbrev pub decreases-put_nested : goal.decreases-put_nested
decreases-put_nested l = 5 * l.levels + 4

abbrev pub invariant-put_elements-loop-k : goal.invariant-put_elements-loop-k
invariant-put_elements-loop-k l =
    behind l.parts (elements_value (tables_of l.self) (first_value l.levels (tables_of l.self)) l.ty l.at l.k (drop l.k l.elements))
    ≡ behind l.fn.parts (elements_value (tables_of l.self) (first_value l.levels (tables_of l.self)) l.ty l.at 0 l.elements)
