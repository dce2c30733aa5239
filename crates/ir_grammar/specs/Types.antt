-- Types (LLVM Language Reference, "Type System"): integers, pointers, arrays, structs and names. In a declare a type may
-- be `metadata`. Types of other texts are Unsupported where a type may stand.
use Rattle.ir_grammar.specs.declared.context.Context.{Context}
use Rattle.ir_grammar.specs.declared.context.Context.TheVariants as at
use Rattle.ir_grammar.specs.declared.kind.Kind.TheVariants as k
use Rattle.ir_grammar.specs.declared.spelled.SpelledType.TheVariants as types
use Rattle.std.specs.Prelude.{[], ◌∷◌, true, false}
use Rattle.ir_grammar.specs.Rules.{token, base, list, one, refused, ◌⨾◌, ◌∣◌, optional, many, between, act, the, just, ◌▷◌, ◌◁◌, items_of}
use Rattle.ir_grammar.specs.Names.{Production, number, array_inside, types_inside}
use Rattle.ir_grammar.specs.Words.{counts, locals, commas, voids, refused_types}
use Rattle.ir_grammar.specs.Spelled.{add_type, add_struct_type}

-- iN
unfoldable pub int_type : Production (base number)
int_type = act (λ t. add_type (types.Int t.number)) (one (k.IntType ∷ k.BitType ∷ []))

-- local
unfoldable pub named_type : Production (base number)
named_type = act (λ t. add_type (types.Named t.token)) (one locals)

-- [ integer x type ]
unfoldable pub array_type : Context → Production (base number)
array_type c = between k.OpenSquare (array_inside c) k.CloseSquare

-- { types }
unfoldable pub braced_types : Context → Production (list (base number))
braced_types c = between k.OpenBrace (types_inside c) k.CloseBrace

-- { types }, a struct
unfoldable pub struct_type : Context → Production (base number)
struct_type c = act (λ found. add_struct_type false found) (braced_types c)

-- < { types } >, a packed struct
unfoldable pub packed_type : Context → Production (base number)
packed_type c = act (λ found. add_struct_type true found) (the k.Less ▷ (braced_types c ◁ the k.Greater))

-- metadata, in a declare
unfoldable pub other_type : Context → Production (base number)
other_type at.Declare = act (λ t. add_type types.Metadata) (the k.MetadataWord) ∣ refused (refused_types at.Declare)
other_type at.DeclareTail = act (λ t. add_type types.Metadata) (the k.MetadataWord) ∣ refused (refused_types at.DeclareTail)
other_type c = refused (refused_types c)

-- iN | ptr | [ integer x type ] | { types } | < { types } > | local
unfoldable pub solid_type : Context → Production (base number)
solid_type c = int_type ∣ act (λ t. add_type types.Ptr) (the k.Ptr) ∣ array_type c ∣ struct_type c ∣ packed_type c ∣ named_type ∣ other_type c

-- iN | ptr | void | [ integer x type ] | { types } | < { types } > | local
unfoldable pub type_rule : Context → Production (base number)
type_rule c = act (λ t. add_type types.Void) (one voids) ∣ solid_type c

-- integer x type
unfoldable pub array_rule : Context → Production (base number)
array_rule c = act (λ v. add_type (types.Array (v.0).number v.1)) (one counts ⨾ (the k.X ▷ type_rule c))

-- , type
unfoldable pub comma_type : Context → Production (base number)
comma_type c = one commas ▷ type_rule c

-- (, type)*
unfoldable pub more_types : Context → Production (list (base number))
more_types c = many (comma_type c)

-- type (, type)* or nothing
unfoldable pub types_rule : Context → Production (list (base number))
types_rule c = just items_of (optional (type_rule c ⨾ more_types c))

-- ptr, where a production asks for it
unfoldable pub ptr_word : Production token
ptr_word = the k.Ptr ∣ refused (refused_types at.Plain)
