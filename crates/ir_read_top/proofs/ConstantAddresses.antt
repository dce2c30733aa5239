-- The variable at a constant address is there.
use Rattle.std.proofs.Common.{◌≡◌, ℕ, zero, suc, ◌<◌, Bool, true, false, cond, eqb, List, [], ◌∷◌, slice_get, Option, Some, None, IfSome, refl, subst}
use Rattle.std.proofs.lemmas.List.Elements.{All-get_or}
use Rattle.std.proofs.lemmas.Option.{slice_get_within, get_or_from_slice_get}
use Rattle.ir_core.specs.declared.types.IrType.{IrType}
use Rattle.ir_core.specs.declared.types.IrType.TheVariants.{Void, Int, Ptr, Array, Struct, Opaque, Pair}
use Rattle.ir_core.specs.declared.operands.Operand.{Operand}
use Rattle.ir_core.specs.declared.operands.Operand.TheVariants.{Int as Number, Null, Global}
use Rattle.ir_grammar.specs.declared.spelled.SpelledConstant.{SpelledConstant}
use Rattle.ir_grammar.specs.declared.spelled.SpelledConstant.TheVariants as constants
use Rattle.ir_grammar.specs.declared.spelled.TypedIndex.{TypedIndex}
use Rattle.ir_grammar.specs.Grammar.{nesting_limit}
use Rattle.ir_first_values.specs.Tables.{Tables, items_from, type_at, integer_in}
use Rattle.ir_first_values.specs.Addresses.{variable_address, moved, indexed, place_of, plain_address, address_by, address_of, if_there}
use Rattle.ir_first_values.specs.FirstValues.{bool_in, operand_of}
use Rattle.ir_first_values.specs.Operands.{number_operand, integer_operand, address_operand, pair_operand, typed_operand, constant_operand}
use Rattle.ir_first_values.specs.Pieces.{AreNumbered}

-- ---- addresses

-- an operand that is the address of a variable is that of one of so many
abbrev IsAfterOne : ℕ → Operand → Type 0
IsAfterOne globals (Global index off) = index < globals
IsAfterOne globals other = Unit {0}

null_or_number : (globals offset : ℕ) (z : Bool) → IsAfterOne globals (cond z Null (Number offset))
null_or_number globals offset true = tt
null_or_number globals offset false = tt

-- an offset more changes nothing
operand_moved : (globals offset further : ℕ) (variable : Option ℕ) → IsAfterOne globals (operand_of variable offset)
    → IsAfterOne globals (operand_of variable further)
operand_moved globals offset further (Some g) h = h
operand_moved globals offset further None h = null_or_number globals further (eqb further 0)

variable_after : (globals : ℕ) (v : Option (Option ℕ)) → IfSome v (λ o. IfSome o (λ g. g < globals))
    → IfSome (address_operand (variable_address v)) (IsAfterOne globals)
variable_after globals (Some (Some g)) h = h
variable_after globals (Some None) h = tt
variable_after globals None h = tt

numbered_at : (globals : ℕ) (variables : List (Option ℕ)) (c : ℕ) (v : Option (Option ℕ)) → AreNumbered globals variables → slice_get variables c ≡ v
    → IfSome v (λ o. IfSome o (λ g. g < globals))
numbered_at globals variables c (Some o) all e =
    subst (λ x. IfSome x (λ g. g < globals)) (get_or_from_slice_get variables c o None e)
    (All-get_or (λ v. IfSome v (λ g. g < globals)) variables c None (slice_get_within variables c o e) all)
numbered_at globals variables c None all e = tt

plain_after : (t : Tables) (globals c : ℕ) (constant : SpelledConstant) → AreNumbered globals t.variables
    → IfSome (address_operand (plain_address t c constant)) (IsAfterOne globals)
plain_after t globals c (constants.Local name) h = tt
plain_after t globals c (constants.Global name) h =
    variable_after globals (slice_get t.variables c) (numbered_at globals t.variables c (slice_get t.variables c) h refl)
plain_after t globals c (constants.Integer i) h = tt
plain_after t globals c (constants.Bool v) h = tt
plain_after t globals c constants.Null h = tt
plain_after t globals c constants.Zero h = tt
plain_after t globals c (constants.Bytes name) h = tt
plain_after t globals c (constants.Array first count) h = tt
plain_after t globals c (constants.Struct first count packed) h = tt
plain_after t globals c (constants.Address of base first count) h = tt

moved_after : (globals : ℕ) (a : Option _) (place : Option _) → IfSome (address_operand a) (IsAfterOne globals)
    → IfSome (address_operand (moved a place)) (IsAfterOne globals)
moved_after globals (Some a) (Some place) h = operand_moved globals a.offset _ a.variable h
moved_after globals (Some a) None h = tt
moved_after globals None place h = tt

indexed_after : (t : Tables) (globals of : ℕ) (is : List TypedIndex) (a : Option _) → IfSome (address_operand a) (IsAfterOne globals)
    → IfSome (address_operand (indexed t of is a)) (IsAfterOne globals)
indexed_after t globals of [] a h = h
indexed_after t globals of (i ∷ is) a h = moved_after globals a (place_of t (slice_get t.numbers of) i is) h

spelled_after : (t : Tables) (globals c : ℕ) (inside : ℕ → Option _) (constant : SpelledConstant) → AreNumbered globals t.variables
    → ((base : ℕ) → IfSome (address_operand (inside base)) (IsAfterOne globals))
    → IfSome (address_operand (address_by t inside c constant)) (IsAfterOne globals)
spelled_after t globals c inside (constants.Local name) n h = tt
spelled_after t globals c inside (constants.Global name) n h = plain_after t globals c (constants.Global name) n
spelled_after t globals c inside (constants.Integer i) n h = tt
spelled_after t globals c inside (constants.Bool v) n h = tt
spelled_after t globals c inside constants.Null n h = tt
spelled_after t globals c inside constants.Zero n h = tt
spelled_after t globals c inside (constants.Bytes name) n h = tt
spelled_after t globals c inside (constants.Array first count) n h = tt
spelled_after t globals c inside (constants.Struct first count packed) n h = tt
spelled_after t globals c inside (constants.Address of base first count) n h =
    indexed_after t globals of (items_from first count t.indices) (inside base) (h base)

if_found : (globals : ℕ) (found : Option SpelledConstant) (go : SpelledConstant → Option _)
    → ((constant : SpelledConstant) → IfSome (address_operand (go constant)) (IsAfterOne globals))
    → IfSome (address_operand (if_there found go)) (IsAfterOne globals)
if_found globals (Some constant) go h = h constant
if_found globals None go h = tt

address_after : (levels : ℕ) (t : Tables) (globals c : ℕ) → AreNumbered globals t.variables
    → IfSome (address_operand (address_of levels t c)) (IsAfterOne globals)
unfolding address_of
address_after zero t globals c n = if_found globals (slice_get t.constants c) (plain_address t c) (λ constant. plain_after t globals c constant n)
address_after (suc levels) t globals c n =
    if_found globals (slice_get t.constants c) (address_by t (address_of levels t) c)
    (λ constant. spelled_after t globals c (address_of levels t) constant n (λ base. address_after levels t globals base n))

-- ---- operands

number_after : (globals : ℕ) (n : Option ℕ) → IfSome (number_operand n) (IsAfterOne globals)
number_after globals None = tt
number_after globals (Some n) = tt

integer_after : (globals width : ℕ) (constant : SpelledConstant) → IfSome (integer_operand width constant) (IsAfterOne globals)
integer_after globals width (constants.Local name) = tt
integer_after globals width (constants.Global name) = tt
integer_after globals width (constants.Integer i) = number_after globals (integer_in width i)
integer_after globals width (constants.Bool v) = number_after globals (bool_in v width)
integer_after globals width constants.Null = tt
integer_after globals width constants.Zero = tt
integer_after globals width (constants.Bytes name) = tt
integer_after globals width (constants.Array first count) = tt
integer_after globals width (constants.Struct first count packed) = tt
integer_after globals width (constants.Address of base first count) = tt

pair_after : (globals : ℕ) (constant : SpelledConstant) → IfSome (pair_operand constant) (IsAfterOne globals)
pair_after globals (constants.Local name) = tt
pair_after globals (constants.Global name) = tt
pair_after globals (constants.Integer i) = tt
pair_after globals (constants.Bool v) = tt
pair_after globals constants.Null = tt
pair_after globals constants.Zero = tt
pair_after globals (constants.Bytes name) = tt
pair_after globals (constants.Array first count) = tt
pair_after globals (constants.Struct first count packed) = tt
pair_after globals (constants.Address of base first count) = tt

typed_after : (globals : ℕ) (a : Option _) (constant : SpelledConstant) (ty : Option IrType) → IfSome (address_operand a) (IsAfterOne globals)
    → IfSome (typed_operand a constant ty) (IsAfterOne globals)
typed_after globals a constant None h = tt
typed_after globals a constant (Some Void) h = tt
typed_after globals a constant (Some (Int width)) h = integer_after globals width constant
typed_after globals a constant (Some Ptr) h = h
typed_after globals a constant (Some (Array count item)) h = tt
typed_after globals a constant (Some (Struct first count packed)) h = tt
typed_after globals a constant (Some Opaque) h = tt
typed_after globals a constant (Some (Pair width)) h = pair_after globals constant

if_constant : (globals : ℕ) (found : Option SpelledConstant) (go : SpelledConstant → Option Operand)
    → ((constant : SpelledConstant) → IfSome (go constant) (IsAfterOne globals)) → IfSome (if_there found go) (IsAfterOne globals)
if_constant globals (Some constant) go h = h constant
if_constant globals None go h = tt

-- the variable at a constant address is one of so many
pub constant_variable : (t : Tables) (globals ty constant index off : ℕ) → AreNumbered globals t.variables
    → constant_operand t ty constant ≡ Some (Global index off) → index < globals
constant_variable t globals ty constant index off n e =
    let all : IfSome (constant_operand t ty constant) (IsAfterOne globals) =
    if_constant globals (slice_get t.constants constant) (λ k. typed_operand (address_of nesting_limit t constant) k (type_at t ty))
    (λ k. typed_after globals (address_of nesting_limit t constant) k (type_at t ty) (address_after nesting_limit t globals constant n)) in
    subst (λ (o : Option Operand). IfSome o (IsAfterOne globals)) e all
