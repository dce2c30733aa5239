use Rattle.std.proofs.Common.{[], ◌∷◌, ◌≡◌, ◌+◌, ◌*◌, length}
use Rattle.ir_grammar.specs.Grammar.{read, with_front}
use Rattle.ir_grammar.specs.Spelled.{store_of}
use Rattle.ir_grammar.specs.Types.{more_types}
use Rattle.ir_grammar.proofs.reader.Reader.+types.Given as goal

abbrev pub decreases-array_type : goal.decreases-array_type
decreases-array_type l = 7 * l.levels + 1

abbrev pub decreases-array_inside : goal.decreases-array_inside
decreases-array_inside l = 7 * l.levels + 6

abbrev pub decreases-braced_types : goal.decreases-braced_types
decreases-braced_types l = 7 * l.levels

abbrev pub decreases-struct_type : goal.decreases-struct_type
decreases-struct_type l = 7 * l.levels + 1

abbrev pub decreases-packed_type : goal.decreases-packed_type
decreases-packed_type l = 7 * l.levels + 1

abbrev pub decreases-ty : goal.decreases-ty
decreases-ty l = 7 * l.levels + 3

abbrev pub decreases-solid_type : goal.decreases-solid_type
decreases-solid_type l = 7 * l.levels + 2

abbrev pub decreases-comma_type : goal.decreases-comma_type
decreases-comma_type l = 7 * l.levels + 4

abbrev pub decreases-more_types : goal.decreases-more_types
decreases-more_types l = 7 * l.levels + 5

abbrev pub decreases-types_inside : goal.decreases-types_inside
decreases-types_inside l = 7 * l.levels + 6

abbrev pub invariant-more_types-loop-context : goal.invariant-more_types-loop-context
invariant-more_types-loop-context l = with_front l.types.items (read l.levels (more_types l.context) l.self.rest.now (store_of l.self.found))
    ≡ with_front (l.fn.first ∷ []) (read l.fn.levels (more_types l.fn.context) l.fn.self.rest.now (store_of l.fn.self.found))

abbrev pub decreases-more_types-loop-context : goal.decreases-more_types-loop-context
decreases-more_types-loop-context l = length l.self.rest.now
