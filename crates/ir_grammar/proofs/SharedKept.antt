-- Reading by the shared rules keeps what was read sound.
use Rattle.std.proofs.Common.{ℕ, ◌+◌, List, [], ◌∷◌, length, ◌≤◌, ◌≡◌, true, Option, None, Some, arith}
use Rattle.ir_grammar.specs.declared.context.Context.{Context}
use Rattle.ir_grammar.specs.declared.context.Context.TheVariants as at
use Rattle.ir_grammar.specs.declared.kind.Kind.{Kind}
use Rattle.ir_grammar.specs.declared.kind.Kind.TheVariants as k
use Rattle.ir_grammar.specs.declared.terminal.Terminal.{Terminal}
use Rattle.ir_grammar.specs.declared.spelled.SpelledType.TheVariants as types
use Rattle.ir_grammar.specs.declared.spelled.SpelledConstant.TheVariants as constants
use Rattle.ir_grammar.specs.Kinds.{is_among}
use Rattle.ir_grammar.specs.Rules.{Sort, nothing, token, base, pair, option, list, Value, one, ◌⨾◌, ◌∣◌, optional, many, act, the, just, gone, ◌▷◌, ◌◁◌, items_of}
use Rattle.ir_grammar.specs.Words.{integers, locals, globals, texts, commas, voids, all_but_brackets}
use Rattle.ir_grammar.specs.Names.{Base, number, constant, element, index, parameter, shared, Production}
use Rattle.ir_grammar.specs.Spelled.{Store, integer_of, token_in, add_type, add_constant}
use Rattle.ir_grammar.specs.Skipped.{in_parens, in_squares, in_braces, any_part, any_run}
use Rattle.ir_grammar.specs.Types.{int_type, named_type, array_type, braced_types, struct_type, packed_type, other_type, solid_type, type_rule, array_rule, comma_type, more_types, types_rule, ptr_word}
use Rattle.ir_grammar.specs.Attributes.{alignment, word_attribute, align_attribute, convention_attribute, text_attribute, attribute, attributes}
use Rattle.ir_grammar.specs.Parameters.{behind_type, maybe_local, parameter_rule, comma_parameter, more_parameters, parameters_rule, parameters}
use Rattle.ir_grammar.specs.Constants.{integer_value, name_value, word_value, flag, flags, address_parens, address_value, value_rule, squared_constants, braced_constants, array_constant, struct_constant, packed_constant, constant_rule, typed_constant, comma_constant, more_elements, elements_rule, comma_index, indices, address_base, address_rule}
use Rattle.ir_grammar.specs.SoundStore.{IsInRange, IsSoundStore, IsSoundType, IsSoundConstant, counts_of, size_of}
use Rattle.ir_grammar.proofs.Kept.{SoundValue, items_in, Kept, Keeps, fewer}
use Rattle.ir_grammar.proofs.SoundSteps.{reading, kept_same, kept_type, kept_struct_type, kept_constant, kept_array, kept_struct, kept_address}

-- a shared rule keeps all, with so much to spare
abbrev pub Spares : (s : Sort Base) → Production s → ℕ → Type 0
Spares s a n = Keeps shared reading s a n

-- a value is dropped
pub gone_kept : {s : Sort Base} (a : Production s) (n : ℕ) → Spares s a n → Spares nothing (gone a) n
gone_kept {s} a n h = (0, n, (λ x st from good sound. kept_same nothing tt st (size_of st + items_in shared reading s x + 0) good tt (omega arith)), h, omega arith)

-- the value of the second
pub then_kept : {s t : Sort Base} (a : Production s) (b : Production t) (n i j : ℕ) → Spares s a i → Spares t b j → n ≤ i + j → Spares t (a ▷ b) n
then_kept {s} {t} a b n i j h g le =
    (0, n, (λ x st from good sound. kept_same t x.1 st (size_of st + items_in shared reading (pair s t) x + 0) good sound.1 (omega arith)), (i, j, h, g, le), omega arith)

-- the value of the first
pub first_kept : {s t : Sort Base} (a : Production s) (b : Production t) (n i j : ℕ) → Spares s a i → Spares t b j → n ≤ i + j → Spares s (a ◁ b) n
first_kept {s} {t} a b n i j h g le =
    (0, n, (λ x st from good sound. kept_same s x.0 st (size_of st + items_in shared reading (pair s t) x + 0) good sound.0 (omega arith)), (i, j, h, g, le), omega arith)

items_same : (b : Base) (o : Option (Value shared (base b) × List (Value shared (base b)))) (st : Store) → IsSoundStore st → SoundValue shared reading (option (pair (base b) (list (base b)))) o st
    → Kept shared reading (list (base b)) (items_of o) st st (size_of st + items_in shared reading (option (pair (base b) (list (base b)))) o + 0)
items_same b None st good h = kept_same (list (base b)) [] st (size_of st + 0 + 0) good tt (omega arith)
items_same b (Some x) st good h =
    kept_same (list (base b)) (x.0 ∷ x.1) st (size_of st + items_in shared reading (option (pair (base b) (list (base b)))) (Some x) + 0) good (h.0, h.1) (omega arith)

-- a list with commas
pub list_kept : (b : Base) (a : Production (base b)) (more : Production (list (base b))) → Spares (base b) a 1 → Spares (list (base b)) more 0 → Spares (list (base b)) (just items_of (optional (a ⨾ more))) 0
list_kept b a more h g = (0, 0, (λ x st from good sound. items_same b x st good sound), (omega arith, (1, 0, h, g, omega arith)), omega arith)

-- a type that only a token tells
word_type : (ks : List Kind) (f : Terminal → _) → ((t : Terminal) (st : Store) → is_among ks t.kind ≡ true → IsInRange t → IsSoundType (length st.types) (length st.fields) (f t)) → Spares (base number) (act (λ t. add_type (f t)) (one ks)) 2
word_type ks f h = (1, 8, (λ t st from good sound. kept_type (f t) st (size_of st + 0 + 1) good (h t st from sound) (omega arith)), omega arith, omega arith)

-- a constant that only a token tells
word_constant : (ks : List Kind) (f : Terminal → _) → ((t : Terminal) (st : Store) → IsSoundConstant (counts_of st) (f t)) → Spares (base constant) (act (λ t. add_constant (f t)) (one ks)) 2
word_constant ks f h = (1, 8, (λ t st from good sound. kept_constant (f t) st (size_of st + 0 + 1) good (h t st) (omega arith)), omega arith, omega arith)

int_kept : Spares (base number) int_type 2
unfolding int_type
int_kept = word_type (k.IntType ∷ k.BitType ∷ []) (λ t. types.Int t.number) (λ t st from h. h.width from)

named_kept : Spares (base number) named_type 2
unfolding named_type
named_kept = word_type locals (λ t. types.Named t.token) (λ t st from h. tt)

array_kept : (c : Context) → Spares (base number) (array_type c) 2
unfolding array_type
array_kept c = omega arith

braced_kept : (c : Context) → Spares (list (base number)) (braced_types c) 16
unfolding braced_types
braced_kept c = omega arith

struct_kept : (c : Context) → Spares (base number) (struct_type c) 2
unfolding struct_type
struct_kept c = (1, 16, (λ found st from good sound. kept_struct_type _ found st (size_of st + length found + 1) good sound (omega arith)), braced_kept c, omega arith)

packed_kept : (c : Context) → Spares (base number) (packed_type c) 2
unfolding packed_type
packed_kept c = (
  1,
  16,
  (λ found st from good sound. kept_struct_type _ found st (size_of st + length found + 1) good sound (omega arith)),
  then_kept (the k.Less) (braced_types c ◁ the k.Greater) 16 8 16 (omega arith) (first_kept (braced_types c) (the k.Greater) 16 16 8 (braced_kept c) (omega arith) (omega arith)) (omega arith),
  omega arith,
)

metadata_kept : Spares (base number) (act (λ t. add_type types.Metadata) (the k.MetadataWord)) 2
metadata_kept = word_type (k.MetadataWord ∷ []) (λ t. types.Metadata) (λ t st from h. tt)

other_kept : (c : Context) → Spares (base number) (other_type c) 2
unfolding other_type
other_kept at.Declare = (metadata_kept, tt)
other_kept at.DeclareTail = (metadata_kept, tt)
other_kept at.Plain = tt
other_kept at.Global = tt
other_kept at.GlobalTail = tt
other_kept at.Parameter = tt

pub solid_kept : (c : Context) → Spares (base number) (solid_type c) 2
unfolding solid_type
solid_kept c = (int_kept, (word_type (k.Ptr ∷ []) (λ t. types.Ptr) (λ t st from h. tt), (array_kept c, (struct_kept c, (packed_kept c, (named_kept, other_kept c))))))

pub type_kept : (c : Context) → Spares (base number) (type_rule c) 2
unfolding type_rule
type_kept c = (word_type voids (λ t. types.Void) (λ t st from h. tt), solid_kept c)

pub array_rule_kept : (c : Context) → Spares (base number) (array_rule c) 0
unfolding array_rule
array_rule_kept c = (
  1,
  10,
  (λ v st from good sound. kept_type (types.Array (v.0).number v.1) st (size_of st + (0 + 0) + 1) good ((sound.0).count from.0, sound.1) (omega arith)),
  (8, 10, omega arith, then_kept (the k.X) (type_rule c) 10 8 2 (omega arith) (type_kept c) (omega arith), omega arith),
  omega arith,
)

comma_type_kept : (c : Context) → Spares (base number) (comma_type c) 1
unfolding comma_type
comma_type_kept c = then_kept (one commas) (type_rule c) 1 8 2 (omega arith) (type_kept c) (omega arith)

more_types_kept : (c : Context) → Spares (list (base number)) (more_types c) 0
unfolding more_types
more_types_kept c = (omega arith, comma_type_kept c)

one_type_kept : (c : Context) → Spares (base number) (type_rule c) 1
one_type_kept c = fewer shared reading (base number) (type_rule c) 2 1 (omega arith) (type_kept c)

pub types_rule_kept : (c : Context) → Spares (list (base number)) (types_rule c) 0
unfolding types_rule
types_rule_kept c = list_kept number (type_rule c) (more_types c) (one_type_kept c) (more_types_kept c)

pub ptr_kept : Spares token ptr_word 8
unfolding ptr_word
ptr_kept = (omega arith, tt)

pub in_parens_kept : Spares nothing in_parens 16
unfolding in_parens
in_parens_kept = omega arith

pub in_squares_kept : Spares nothing in_squares 16
unfolding in_squares
in_squares_kept = omega arith

pub in_braces_kept : Spares nothing in_braces 16
unfolding in_braces
in_braces_kept = omega arith

-- one token, dropped
pub word_kept : (ks : List Kind) → Spares nothing (gone (one ks)) 8
word_kept ks = gone_kept (one ks) 8 (omega arith)

part_kept : Spares nothing any_part 1
unfolding any_part
part_kept = (
  fewer shared reading nothing in_parens 16 1 (omega arith) in_parens_kept,
  (
    fewer shared reading nothing in_squares 16 1 (omega arith) in_squares_kept,
    (fewer shared reading nothing in_braces 16 1 (omega arith) in_braces_kept, fewer shared reading nothing (gone (one all_but_brackets)) 8 1 (omega arith) (word_kept all_but_brackets)),
  ),
)

pub run_kept : Spares nothing any_run 0
unfolding any_run
run_kept = gone_kept (many any_part) 0 (omega arith, part_kept)

integer_kept : Spares (base constant) integer_value 2
unfolding integer_value
integer_kept = word_constant integers (λ t. constants.Integer (integer_of t)) (λ t st. tt)

name_kept : Spares (base constant) name_value 2
unfolding name_value
name_kept = (word_constant locals (λ t. constants.Local t.token) (λ t st. tt), word_constant globals (λ t. constants.Global t.token) (λ t st. tt))

word_value_kept : Spares (base constant) word_value 2
unfolding word_value
word_value_kept = (
  word_constant (k.True ∷ []) (λ t. constants.Bool _) (λ t st. tt),
  (
    word_constant (k.False ∷ []) (λ t. constants.Bool _) (λ t st. tt),
    (word_constant (k.Null ∷ []) (λ t. constants.Null) (λ t st. tt), word_constant (k.ZeroWord ∷ []) (λ t. constants.Zero) (λ t st. tt)),
  ),
)

flag_kept : Spares nothing flag 1
unfolding flag
flag_kept = (
  fewer shared reading nothing (gone (the k.Flag)) 8 1 (omega arith) (word_kept (k.Flag ∷ [])),
  gone_kept (the k.InRange ⨾ in_parens) 1 (8, 16, omega arith, in_parens_kept, omega arith),
)

pub flags_kept : Spares nothing flags 0
unfolding flags
flags_kept = gone_kept (many flag) 0 (omega arith, flag_kept)

pub address_parens_kept : Spares (base constant) address_parens 2
unfolding address_parens
address_parens_kept = omega arith

address_value_kept : Spares (base constant) address_value 2
unfolding address_value
address_value_kept =
    then_kept (the k.GetElementPtr) (flags ▷ address_parens) 2 8 2 (omega arith) (then_kept flags address_parens 2 0 2 flags_kept address_parens_kept (omega arith)) (omega arith)

value_kept : Spares (base constant) value_rule 2
unfolding value_rule
value_kept = (integer_kept, (name_kept, (word_value_kept, (address_value_kept, tt))))

squared_kept : Spares (list (base element)) squared_constants 16
unfolding squared_constants
squared_kept = omega arith

braced_constants_kept : Spares (list (base element)) braced_constants 16
unfolding braced_constants
braced_constants_kept = omega arith

array_constant_kept : Spares (base constant) array_constant 2
unfolding array_constant
array_constant_kept = (1, 16, (λ found st from good sound. kept_array found st (size_of st + length found + 1) good sound (omega arith)), squared_kept, omega arith)

struct_constant_kept : Spares (base constant) struct_constant 2
unfolding struct_constant
struct_constant_kept = (1, 16, (λ found st from good sound. kept_struct _ found st (size_of st + length found + 1) good sound (omega arith)), braced_constants_kept, omega arith)

packed_constant_kept : Spares (base constant) packed_constant 2
unfolding packed_constant
packed_constant_kept = (
  1,
  16,
  (λ found st from good sound. kept_struct _ found st (size_of st + length found + 1) good sound (omega arith)),
  then_kept (the k.Less) (braced_constants ◁ the k.Greater) 16 8 16 (omega arith) (first_kept braced_constants (the k.Greater) 16 16 8 braced_constants_kept (omega arith) (omega arith)) (omega arith),
  omega arith,
)

pub constant_kept : Spares (base constant) constant_rule 2
unfolding constant_rule
constant_kept =
    (word_constant (k.Bytes ∷ []) (λ t. constants.Bytes t.token) (λ t st. tt), (array_constant_kept, (struct_constant_kept, (packed_constant_kept, value_kept))))

typed_kept : Spares (base element) typed_constant 1
unfolding typed_constant
typed_kept = (
  0,
  4,
  (λ v st from good sound. kept_same (base element) (record { ty = v.0; value = v.1 }) st (size_of st + (0 + 0) + 0) good (sound.0, sound.1) (omega arith)),
  (2, 2, type_kept at.Plain, constant_kept, omega arith),
  omega arith,
)

comma_constant_kept : Spares (base element) comma_constant 1
unfolding comma_constant
comma_constant_kept = then_kept (one commas) typed_constant 1 8 1 (omega arith) typed_kept (omega arith)

more_elements_kept : Spares (list (base element)) more_elements 0
unfolding more_elements
more_elements_kept = (omega arith, comma_constant_kept)

pub elements_kept : Spares (list (base element)) elements_rule 0
unfolding elements_rule
elements_kept = list_kept element typed_constant more_elements typed_kept more_elements_kept

comma_index_kept : Spares (base index) comma_index 1
unfolding comma_index
comma_index_kept = (
  0,
  1,
  (λ v st from good sound. kept_same (base index) (record { ty = v.0; value = integer_of v.1 }) st (size_of st + (0 + 0) + 0) good sound.0 (omega arith)),
  then_kept (one commas) (type_rule at.Plain ⨾ one integers) 1 8 10 (omega arith) (2, 8, type_kept at.Plain, omega arith, omega arith) (omega arith),
  omega arith,
)

indices_kept : Spares (list (base index)) indices 0
unfolding indices
indices_kept = (omega arith, comma_index_kept)

address_base_kept : Spares (pair (base number) (base constant)) address_base 8
unfolding address_base
address_base_kept =
    (2, 10, type_kept at.Plain, then_kept (one commas) (ptr_word ▷ constant_rule) 10 8 10 (omega arith) (then_kept ptr_word constant_rule 10 8 2 ptr_kept constant_kept (omega arith)) (omega arith), omega arith)

pub address_kept : Spares (base constant) address_rule 0
unfolding address_rule
address_kept = (
  1,
  8,
  (λ v st from good sound. kept_address ((v.0).0) ((v.0).1) v.1 st (size_of st + ((0 + 0) + length v.1) + 1) good ((sound.0).0) ((sound.0).1) sound.1 (omega arith)),
  (8, 0, address_base_kept, indices_kept, omega arith),
  omega arith,
)

alignment_kept : (c : Context) → Spares nothing (alignment c) 8
unfolding alignment
alignment_kept at.Global = (word_kept (k.SmallPower ∷ []), tt)
alignment_kept at.GlobalTail = (word_kept (k.SmallPower ∷ []), tt)
alignment_kept at.Plain = word_kept (k.SmallPower ∷ k.Power ∷ k.GreatPower ∷ [])
alignment_kept at.Declare = word_kept (k.SmallPower ∷ k.Power ∷ k.GreatPower ∷ [])
alignment_kept at.Parameter = word_kept (k.SmallPower ∷ k.Power ∷ k.GreatPower ∷ [])
alignment_kept at.DeclareTail = word_kept (k.SmallPower ∷ k.Power ∷ k.GreatPower ∷ [])

-- what is in brackets, or nothing
optional_kept : (a : Production nothing) → Spares nothing a 1 → Spares (option nothing) (optional a) 0
optional_kept a h = (omega arith, h)

word_attribute_kept : (c : Context) → Spares nothing (word_attribute c) 1
unfolding word_attribute
word_attribute_kept c =
    gone_kept (one _ ⨾ optional in_parens) 1 (8, 0, omega arith, optional_kept in_parens (fewer shared reading nothing in_parens 16 1 (omega arith) in_parens_kept), omega arith)

align_kept : (c : Context) → Spares nothing (align_attribute c) 1
unfolding align_attribute
align_kept c =
    gone_kept (the k.Align ⨾ (in_parens ∣ alignment c)) 1 (8, 8, omega arith, (fewer shared reading nothing in_parens 16 8 (omega arith) in_parens_kept, alignment_kept c), omega arith)

convention_kept : Spares nothing convention_attribute 1
unfolding convention_attribute
convention_kept =
    gone_kept (the k.CallingConvention ⨾ (in_parens ∣ gone (one integers))) 1 (8, 8, omega arith, (fewer shared reading nothing in_parens 16 8 (omega arith) in_parens_kept, word_kept integers), omega arith)

text_kept : Spares nothing text_attribute 1
unfolding text_attribute
text_kept = gone_kept (one texts ⨾ optional (the k.Equals ⨾ one texts)) 1 (8, 0, omega arith, (omega arith, (8, 8, omega arith, omega arith, omega arith)), omega arith)

pub attribute_kept : (c : Context) → Spares nothing (attribute c) 1
unfolding attribute
attribute_kept c =
    (word_attribute_kept c, (align_kept c, (convention_kept, (text_kept, (fewer shared reading nothing (gone (the k.AttrNumber)) 8 1 (omega arith) (word_kept (k.AttrNumber ∷ [])), tt)))))

pub attributes_kept : (c : Context) → Spares nothing (attributes c) 0
unfolding attributes
attributes_kept c = gone_kept (many (attribute c)) 0 (omega arith, attribute_kept c)

maybe_local_kept : Spares (option token) maybe_local 0
unfolding maybe_local
maybe_local_kept = (omega arith, omega arith)

parameter_kept : (c : Context) → Spares (base parameter) (parameter_rule c) 1
unfolding parameter_rule
parameter_kept c = (
  0,
  2,
  (λ v st from good sound. kept_same (base parameter) (record { ty = v.0; name = token_in v.1 }) st (size_of st + (0 + items_in shared reading (option token) v.1) + 0) good sound.0 (omega arith)),
  (2, 0, type_kept c, then_kept (attributes (behind_type c)) maybe_local 0 0 0 (attributes_kept (behind_type c)) maybe_local_kept (omega arith), omega arith),
  omega arith,
)

comma_parameter_kept : (c : Context) → Spares (base parameter) (comma_parameter c) 1
unfolding comma_parameter
comma_parameter_kept c = then_kept (one commas) (parameter_rule c) 1 8 1 (omega arith) (parameter_kept c) (omega arith)

more_parameters_kept : (c : Context) → Spares (list (base parameter)) (more_parameters c) 0
unfolding more_parameters
more_parameters_kept c = (omega arith, comma_parameter_kept c)

pub parameters_rule_kept : (c : Context) → Spares (list (base parameter)) (parameters_rule c) 0
unfolding parameters_rule
parameters_rule_kept c = list_kept parameter (parameter_rule c) (more_parameters c) (parameter_kept c) (more_parameters_kept c)

pub parameters_kept : (c : Context) → Spares (list (base parameter)) (parameters c) 16
unfolding parameters
parameters_kept c = omega arith
