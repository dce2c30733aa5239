-- Values and constants (LLVM Language Reference, "Constants"). Constant expressions other than `getelementptr`, floats and
-- words of other types are Unsupported where a value may stand.
use Rattle.std.specs.Prelude.{true, false}
use Rattle.ir_grammar.specs.declared.context.Context.TheVariants as at
use Rattle.ir_grammar.specs.declared.kind.Kind.TheVariants as k
use Rattle.ir_grammar.specs.declared.spelled.SpelledConstant.TheVariants as constants
use Rattle.ir_grammar.specs.Rules.{nothing, base, pair, list, one, refused, ◌⨾◌, ◌∣◌, optional, many, between, act, the, just, gone, ◌▷◌, ◌◁◌, items_of}
use Rattle.ir_grammar.specs.Names.{Production, number, constant, element, index, elements_inside, address_inside}
use Rattle.ir_grammar.specs.Words.{integers, locals, globals, commas, refused_values}
use Rattle.ir_grammar.specs.Spelled.{add_constant, add_array, add_struct, add_address, integer_of}
use Rattle.ir_grammar.specs.Skipped.{in_parens}
use Rattle.ir_grammar.specs.Types.{type_rule, ptr_word}

-- integer
unfoldable pub integer_value : Production (base constant)
integer_value = act (λ t. add_constant (constants.Integer (integer_of t))) (one integers)

-- local | global
unfoldable pub name_value : Production (base constant)
name_value = act (λ t. add_constant (constants.Local t.token)) (one locals) ∣ act (λ t. add_constant (constants.Global t.token)) (one globals)

-- true | false | null | undef | poison | zeroinitializer
unfoldable pub word_value : Production (base constant)
word_value = act (λ t. add_constant (constants.Bool true)) (the k.True) ∣ act (λ t. add_constant (constants.Bool false)) (the k.False)
    ∣ act (λ t. add_constant constants.Null) (the k.Null) ∣ act (λ t. add_constant constants.Zero) (the k.ZeroWord)

-- flag | inrange ( any )
unfoldable pub flag : Production nothing
flag = gone (the k.Flag) ∣ gone (the k.InRange ⨾ in_parens)

-- flag*
unfoldable pub flags : Production nothing
flags = gone (many flag)

-- ( type , ptr const (, type integer)* )
unfoldable pub address_parens : Production (base constant)
address_parens = between k.OpenParen address_inside k.CloseParen

-- getelementptr flag* ( type , ptr const (, type integer)* )
unfoldable pub address_value : Production (base constant)
address_value = the k.GetElementPtr ▷ (flags ▷ address_parens)

-- local | global | integer | true | false | null | undef | poison | zeroinitializer | getelementptr ..
unfoldable pub value_rule : Production (base constant)
value_rule = integer_value ∣ name_value ∣ word_value ∣ address_value ∣ refused refused_values

-- [ elems ]
unfoldable pub squared_constants : Production (list (base element))
squared_constants = between k.OpenSquare elements_inside k.CloseSquare

-- { elems }
unfoldable pub braced_constants : Production (list (base element))
braced_constants = between k.OpenBrace elements_inside k.CloseBrace

-- [ elems ], an array
unfoldable pub array_constant : Production (base constant)
array_constant = act (λ found. add_array found) squared_constants

-- { elems }, a struct
unfoldable pub struct_constant : Production (base constant)
struct_constant = act (λ found. add_struct false found) braced_constants

-- < { elems } >, a packed struct
unfoldable pub packed_constant : Production (base constant)
packed_constant = act (λ found. add_struct true found) (the k.Less ▷ (braced_constants ◁ the k.Greater))

-- value | bytes | [ elems ] | { elems } | < { elems } >
unfoldable pub constant_rule : Production (base constant)
constant_rule = act (λ t. add_constant (constants.Bytes t.token)) (the k.Bytes) ∣ array_constant ∣ struct_constant ∣ packed_constant ∣ value_rule

-- type const
unfoldable pub typed_constant : Production (base element)
typed_constant = just (λ v. record { ty = v.0; value = v.1 }) (type_rule at.Plain ⨾ constant_rule)

-- , type const
unfoldable pub comma_constant : Production (base element)
comma_constant = one commas ▷ typed_constant

-- (, type const)*
unfoldable pub more_elements : Production (list (base element))
more_elements = many comma_constant

-- elems: type const (, type const)* or nothing
unfoldable pub elements_rule : Production (list (base element))
elements_rule = just items_of (optional (typed_constant ⨾ more_elements))

-- , type integer
unfoldable pub comma_index : Production (base index)
comma_index = just (λ v. record { ty = v.0; value = integer_of v.1 }) (one commas ▷ (type_rule at.Plain ⨾ one integers))

-- (, type integer)*
unfoldable pub indices : Production (list (base index))
indices = many comma_index

-- type , ptr const
unfoldable pub address_base : Production (pair (base number) (base constant))
address_base = type_rule at.Plain ⨾ (one commas ▷ (ptr_word ▷ constant_rule))

-- type , ptr const (, type integer)*
unfoldable pub address_rule : Production (base constant)
address_rule = act (λ v. add_address ((v.0).0) ((v.0).1) v.1) (address_base ⨾ indices)
