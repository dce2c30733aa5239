use Rattle.std.proofs.Common.{[], ◌∷◌, ◌≡◌, ◌+◌, ◌*◌, length}
use Rattle.ir_grammar.specs.Grammar.{read, with_front}
use Rattle.ir_grammar.specs.Spelled.{store_of}
use Rattle.ir_grammar.specs.Constants.{more_elements}
use Rattle.ir_grammar.proofs.reader.Reader.+constants.Given as goal

abbrev pub decreases-address_parens : goal.decreases-address_parens
decreases-address_parens l = 8 * l.levels + 0

abbrev pub decreases-address_value : goal.decreases-address_value
decreases-address_value l = 8 * l.levels + 1

abbrev pub decreases-value : goal.decreases-value
decreases-value l = 8 * l.levels + 2

abbrev pub decreases-squared_constants : goal.decreases-squared_constants
decreases-squared_constants l = 8 * l.levels + 0

abbrev pub decreases-braced_constants : goal.decreases-braced_constants
decreases-braced_constants l = 8 * l.levels + 0

abbrev pub decreases-array_constant : goal.decreases-array_constant
decreases-array_constant l = 8 * l.levels + 1

abbrev pub decreases-struct_constant : goal.decreases-struct_constant
decreases-struct_constant l = 8 * l.levels + 1

abbrev pub decreases-packed_constant : goal.decreases-packed_constant
decreases-packed_constant l = 8 * l.levels + 1

abbrev pub decreases-constant : goal.decreases-constant
decreases-constant l = 8 * l.levels + 3

abbrev pub decreases-typed_constant : goal.decreases-typed_constant
decreases-typed_constant l = 8 * l.levels + 4

abbrev pub decreases-comma_constant : goal.decreases-comma_constant
decreases-comma_constant l = 8 * l.levels + 5

abbrev pub decreases-more_elements : goal.decreases-more_elements
decreases-more_elements l = 8 * l.levels + 6

abbrev pub decreases-elements_inside : goal.decreases-elements_inside
decreases-elements_inside l = 8 * l.levels + 7

abbrev pub decreases-address_base : goal.decreases-address_base
decreases-address_base l = 8 * l.levels + 4

abbrev pub decreases-address_inside : goal.decreases-address_inside
decreases-address_inside l = 8 * l.levels + 7

abbrev pub invariant-more_elements-loop-self : goal.invariant-more_elements-loop-self
invariant-more_elements-loop-self l = with_front l.elements.items (read l.levels more_elements l.self.rest.now (store_of l.self.found))
    ≡ with_front (l.fn.first ∷ []) (read l.fn.levels more_elements l.fn.self.rest.now (store_of l.fn.self.found))

abbrev pub decreases-more_elements-loop-self : goal.decreases-more_elements-loop-self
decreases-more_elements-loop-self l = length l.self.rest.now
