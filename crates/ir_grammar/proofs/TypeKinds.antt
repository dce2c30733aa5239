-- The kinds that a type is read at.
use Rattle.std.proofs.Common.{[], ◌∷◌, ◌≡◌, refl, ◌||◌}
use Rattle.ir_grammar.specs.declared.context.Context.{Context}
use Rattle.ir_grammar.specs.declared.context.Context.TheVariants as at
use Rattle.ir_grammar.specs.declared.kind.Kind.{Kind}
use Rattle.ir_grammar.specs.declared.kind.Kind.TheVariants as k
use Rattle.ir_grammar.specs.Kinds.{is_same, is_among}
use Rattle.ir_grammar.specs.Reading.{first}
use Rattle.ir_grammar.specs.Words.{refused_types}
use Rattle.ir_grammar.specs.Types.{int_type, named_type, array_type, braced_types, struct_type, packed_type, other_type, solid_type, type_rule}

pub type_kinds : (c : Context) (j : Kind) → is_among (first (type_rule c)) j
    ≡ ((is_among (k.IntType ∷ k.BitType ∷ k.Ptr ∷ k.Void ∷ k.VoidBeforeOperand ∷ k.OpenSquare ∷ k.OpenBrace ∷ k.Less ∷ k.Local ∷ k.LocalDefinition ∷ []) j || is_among (refused_types c) j)
    || is_same j k.MetadataWord)
unfolding is_same type_rule solid_type int_type named_type array_type braced_types struct_type packed_type other_type
type_kinds at.Plain k.Equals = refl
type_kinds at.Global k.Equals = refl
type_kinds at.GlobalTail k.Equals = refl
type_kinds at.Declare k.Equals = refl
type_kinds at.Parameter k.Equals = refl
type_kinds at.DeclareTail k.Equals = refl
type_kinds _ _ = refl
