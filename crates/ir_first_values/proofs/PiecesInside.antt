-- The pieces of a first value lie within its type.
use Rattle.std.proofs.Common.{◌≡◌, ℕ, zero, suc, ◌+◌, ◌-◌, ◌*◌, ◌/◌, ◌%◌, ◌^◌, ◌<◌, ◌≤◌, Bool, true, false, ◌&&◌, leb, ltb, eqb, cond, List, [], ◌∷◌, length, take, drop, slice_get, Option, Some, None, IfSome, All, arith, refl, sym, ◌∙◌, ap, subst, pow_pos, length-drop}
use Rattle.std.proofs.lemmas.Bool.{leb-true, ltb-true, eqb-true, and_parts}
use Rattle.std.proofs.lemmas.List.Elements.{All-nil, All-cons, All-head, All-tail, All-weaker, All-append, All-get_or, All-take, All-drop}
use Rattle.std.proofs.lemmas.List.{length-take-le}
use Rattle.std.proofs.lemmas.Option.{slice_get_within, get_or_from_slice_get}
use Rattle.std.proofs.Math.Nat.{pow-le-pow_right, mul-le-mul_left}
use Rattle.ir_core.specs.declared.types.IrType.{IrType}
use Rattle.ir_core.specs.declared.types.IrType.TheVariants.{Void, Int, Ptr, Array, Struct, Opaque, Pair}
use Rattle.ir_core.specs.declared.operands.Operand.{Operand}
use Rattle.ir_core.specs.declared.operands.Operand.TheVariants.{Int as Number, Null}
use Rattle.ir_core.specs.declared.operands.Part.{Part}
use Rattle.ir_core.specs.Layout.{int_store_size, int_layout, layout_size, exact_layouts, layout_at, is_known}
use Rattle.ir_core.specs.Resolved.{IsPieceOf, IsPartWithin}
use Rattle.ir_grammar.specs.declared.spelled.SpelledInteger.{SpelledInteger}
use Rattle.ir_grammar.specs.declared.spelled.SpelledConstant.{SpelledConstant}
use Rattle.ir_grammar.specs.declared.spelled.SpelledConstant.TheVariants as constants
use Rattle.ir_grammar.specs.declared.spelled.TypedConstant.{TypedConstant}
use Rattle.ir_grammar.specs.declared.spelled.TypedIndex.{TypedIndex}
use Rattle.ir_first_values.specs.declared.parts.TypePart.{TypePart}
use Rattle.ir_first_values.specs.declared.addresses.Address.{Address}
use Rattle.ir_first_values.specs.Tables.{Tables, items_from, type_at, is_spelled, is_sized, part_of, part_by, is_array_of, is_struct_of, is_in_width, integer_modulo, integer_in}
use Rattle.ir_first_values.specs.Addresses.{null_address, variable_address, moved, indexed, place_of, plain_address, address_by, address_of, if_there}
use Rattle.ir_first_values.specs.FirstValues.{piece, number_piece, integer_value, bool_in, operand_of, address_value, is_i8, is_i8_array_of, little_endian, bytes_piece, string_pieces, bytes_value, string_of, flat_value, joined, element_by, elements_value, elements_of, nested_value, first_value}
use Rattle.ir_first_values.specs.Pieces.{IsPieceIn, AreNumbered}
use Rattle.ir_first_values.specs.Answers.{behind}
use Rattle.ir_first_values.proofs.TextBytes.{IsByte, string_small}
use Rattle.ir_first_values.proofs.ByteStrings.{little_endian_below}
use Rattle.ir_first_values.proofs.PartsInside.{size, IsSmall, IsPartOf, HasPart, part_inside, layout_is, array_size, item_small}

-- the text has bytes, and names stand for variables that are there
pub record IsBounded (t : Tables) (globals : ℕ) : Type 0 where
  pub bytes : All IsByte t.source
  pub named : AreNumbered globals t.variables

-- pieces within so many bytes
abbrev AreIn : ℕ → ℕ → ℕ → List Part → Type 0
AreIn globals from to parts = All (IsPieceIn globals from to) parts

abbrev MayBeIn : ℕ → ℕ → ℕ → Option (List Part) → Type 0
MayBeIn globals from to value = IfSome value (AreIn globals from to)

widened : (globals from to least most : ℕ) (parts : List Part) → least ≤ from → to ≤ most → AreIn globals from to parts → AreIn globals least most parts
widened globals from to least most parts low high all =
    All-weaker (IsPieceIn globals from to) (IsPieceIn globals least most) (λ p h. let s : from ≤ p.at = h.starts in let e : p.at + p.size ≤ to = h.ends in record { starts = omega arith; ends = omega arith; piece = h.piece }) parts all

may_be_widened : (globals from to least most : ℕ) (value : Option (List Part)) → least ≤ from → to ≤ most → MayBeIn globals from to value → MayBeIn globals least most value
may_be_widened globals from to least most (Some parts) low high all = widened globals from to least most parts low high all
may_be_widened globals from to least most None low high all = tt

one_piece : (globals at bytes to : ℕ) (value : Operand) → at + bytes ≤ to → IsPieceOf globals bytes value → AreIn globals at to (piece at bytes value)
one_piece globals at bytes to value inside h =
    All-cons (IsPieceIn globals at to) _ [] (record { starts = omega arith; ends = inside; piece = h }) (All-nil (IsPieceIn globals at to))

-- ---- integers

-- a value of a width
record IsOfWidth (width n : ℕ) : Type 0 where
  from_1 : 1 ≤ width
  to_128 : width ≤ 128
  below : n < 2 ^ width

magnitude_below : (negative : Bool) (magnitude width : ℕ) → cond negative (leb magnitude (2 ^ (width - 1))) (ltb magnitude (2 ^ width)) ≡ true → cond negative ((2 ^ width - magnitude) % 2 ^ width) magnitude < 2 ^ width
magnitude_below true magnitude width h = let p = pow_pos width in omega arith
magnitude_below false magnitude width h = ltb-true magnitude (2 ^ width) h

in_range_of : (b : Bool) (width : ℕ) (i : SpelledInteger) → is_in_width width i ≡ b → IfSome (cond b (Some (integer_modulo width i)) None) (IsOfWidth width)
in_range_of true width i h =
    let outer = and_parts (leb 1 width && leb width 128) (cond i.negative (leb i.magnitude (2 ^ (width - 1))) (ltb i.magnitude (2 ^ width))) h in
    let inner = and_parts (leb 1 width) (leb width 128) outer.0 in
    record { from_1 = leb-true 1 width inner.0; to_128 = leb-true width 128 inner.1; below = magnitude_below i.negative i.magnitude width outer.1 }
in_range_of false width i h = tt

integer_of_width : (width : ℕ) (i : SpelledInteger) → IfSome (integer_in width i) (IsOfWidth width)
integer_of_width width i = in_range_of (is_in_width width i) width i refl

bool_of_width_by : (w1 b : Bool) (width : ℕ) → eqb width 1 ≡ w1 → IfSome (cond w1 (Some (cond b 1 0)) None) (IsOfWidth width)
bool_of_width_by true true width h = let e : width ≡ 1 = eqb-true width 1 h in rw e (record { from_1 = omega arith; to_128 = omega arith; below = omega arith })
bool_of_width_by true false width h = let e : width ≡ 1 = eqb-true width 1 h in rw e (record { from_1 = omega arith; to_128 = omega arith; below = omega arith })
bool_of_width_by false b width h = tt

bool_of_width : (b : Bool) (width : ℕ) → IfSome (bool_in b width) (IsOfWidth width)
bool_of_width b width = bool_of_width_by (eqb width 1) b width refl

number_inside : (t : Tables) (globals ty at width : ℕ) (n : Option ℕ) → IsSmall t ty → type_at t ty ≡ Some (Int width) → IfSome n (IsOfWidth width) → MayBeIn globals at (at + size t ty) (number_piece at width n)
number_inside t globals ty at width (Some n) small there h =
    let one : 1 ≤ width = h.from_1 in
    let most : width ≤ 128 = h.to_128 in
    let below : n < 2 ^ width = h.below in
    let whole : size t ty ≡ layout_size (int_layout width) = ap layout_size (layout_is t ty (Int width) small there) in
    let grows : 2 ^ width ≤ 2 ^ (8 * int_store_size width) = pow-le-pow_right {n = 2} (omega arith) (omega arith) in
    one_piece globals at (int_store_size width) (at + size t ty) (Number n) (omega arith) (omega arith, omega arith, omega arith)
number_inside t globals ty at width None small there h = tt

integer_inside : (t : Tables) (globals ty at : ℕ) (held : Option IrType) (value : ℕ → Option ℕ) → IsSmall t ty → type_at t ty ≡ held → ((width : ℕ) → IfSome (value width) (IsOfWidth width)) → MayBeIn globals at (at + size t ty) (integer_value at held value)
integer_inside t globals ty at (Some Void) value small there h = tt
integer_inside t globals ty at (Some (Int width)) value small there h = number_inside t globals ty at width (value width) small there (h width)
integer_inside t globals ty at (Some Ptr) value small there h = tt
integer_inside t globals ty at (Some (Array count item)) value small there h = tt
integer_inside t globals ty at (Some (Struct first count packed)) value small there h = tt
integer_inside t globals ty at (Some Opaque) value small there h = tt
integer_inside t globals ty at (Some (Pair width)) value small there h = tt
integer_inside t globals ty at None value small there h = tt

-- ---- addresses

-- an address names a variable that is there, or null
pub record IsAddress (globals : ℕ) (a : Address) : Type 0 where
  pub offset : a.offset < 2 ^ 64
  pub variable : IfSome a.variable (λ g. g < globals)

variable_there : (globals : ℕ) (v : Option (Option ℕ)) → IfSome v (λ o. IfSome o (λ g. g < globals)) → IfSome (variable_address v) (IsAddress globals)
variable_there globals (Some (Some g)) h = record { offset = omega arith; variable = h }
variable_there globals (Some None) h = tt
variable_there globals None h = tt

named_at : (globals : ℕ) (variables : List (Option ℕ)) (c : ℕ) (v : Option (Option ℕ)) → AreNumbered globals variables → slice_get variables c ≡ v → IfSome v (λ o. IfSome o (λ g. g < globals))
named_at globals variables c (Some o) all e =
    subst (λ x. IfSome x (λ g. g < globals)) (get_or_from_slice_get variables c o None e)
    (All-get_or (λ v. IfSome v (λ g. g < globals)) variables c None (slice_get_within variables c o e) all)
named_at globals variables c None all e = tt

null_there : (globals : ℕ) → IsAddress globals null_address
null_there globals = record { offset = omega arith; variable = tt }

plain_there : (t : Tables) (globals c : ℕ) (constant : SpelledConstant) → IsBounded t globals → IfSome (plain_address t c constant) (IsAddress globals)
plain_there t globals c (constants.Local name) b = tt
plain_there t globals c (constants.Global name) b = variable_there globals (slice_get t.variables c) (named_at globals t.variables c (slice_get t.variables c) b.named refl)
plain_there t globals c (constants.Integer i) b = tt
plain_there t globals c (constants.Bool v) b = tt
plain_there t globals c constants.Null b = null_there globals
plain_there t globals c constants.Zero b = null_there globals
plain_there t globals c (constants.Bytes name) b = tt
plain_there t globals c (constants.Array first count) b = tt
plain_there t globals c (constants.Struct first count packed) b = tt
plain_there t globals c (constants.Address of base first count) b = tt

moved_there : (globals : ℕ) (a : Option Address) (place : Option TypePart) → IfSome a (IsAddress globals) → IfSome (moved a place) (IsAddress globals)
moved_there globals (Some a) (Some place) h = record { offset = omega arith; variable = h.variable }
moved_there globals (Some a) None h = tt
moved_there globals None place h = tt

indexed_there : (t : Tables) (globals of : ℕ) (is : List TypedIndex) (a : Option Address) → IfSome a (IsAddress globals) → IfSome (indexed t of is a) (IsAddress globals)
indexed_there t globals of [] a h = h
indexed_there t globals of (i ∷ is) a h = moved_there globals a (place_of t (slice_get t.numbers of) i is) h

spelled_there : (t : Tables) (globals c : ℕ) (inside : ℕ → Option Address) (constant : SpelledConstant) → IsBounded t globals → ((base : ℕ) → IfSome (inside base) (IsAddress globals)) → IfSome (address_by t inside c constant) (IsAddress globals)
spelled_there t globals c inside (constants.Local name) b h = tt
spelled_there t globals c inside (constants.Global name) b h = plain_there t globals c (constants.Global name) b
spelled_there t globals c inside (constants.Integer i) b h = tt
spelled_there t globals c inside (constants.Bool v) b h = tt
spelled_there t globals c inside constants.Null b h = null_there globals
spelled_there t globals c inside constants.Zero b h = null_there globals
spelled_there t globals c inside (constants.Bytes name) b h = tt
spelled_there t globals c inside (constants.Array first count) b h = tt
spelled_there t globals c inside (constants.Struct first count packed) b h = tt
spelled_there t globals c inside (constants.Address of base first count) b h = indexed_there t globals of (items_from first count t.indices) (inside base) (h base)

there_or_not : (globals : ℕ) (found : Option SpelledConstant) (go : SpelledConstant → Option Address) → ((constant : SpelledConstant) → IfSome (go constant) (IsAddress globals)) → IfSome (if_there found go) (IsAddress globals)
there_or_not globals (Some constant) go h = h constant
there_or_not globals None go h = tt

address_there : (levels : ℕ) (t : Tables) (globals c : ℕ) → IsBounded t globals → IfSome (address_of levels t c) (IsAddress globals)
unfolding address_of
address_there zero t globals c b = there_or_not globals (slice_get t.constants c) (plain_address t c) (λ constant. plain_there t globals c constant b)
address_there (suc levels) t globals c b =
    there_or_not globals (slice_get t.constants c) (address_by t (address_of levels t) c)
    (λ constant. spelled_there t globals c (address_of levels t) constant b (λ base. address_there levels t globals base b))

zero_or_number : (z : Bool) (globals offset : ℕ) → offset < 2 ^ 64 → IsPieceOf globals 8 (cond z Null (Number offset))
zero_or_number true globals offset h = refl
zero_or_number false globals offset h = (omega arith, omega arith, h)

operand_there : (globals : ℕ) (variable : Option ℕ) (offset : ℕ) → offset < 2 ^ 64 → IfSome variable (λ g. g < globals) → IsPieceOf globals 8 (operand_of variable offset)
operand_there globals (Some g) offset h k = (refl, k)
operand_there globals None offset h k = zero_or_number (eqb offset 0) globals offset h

address_inside : (t : Tables) (globals ty at : ℕ) (held : Option IrType) (a : Option Address) → IsSmall t ty → type_at t ty ≡ held → IfSome a (IsAddress globals) → MayBeIn globals at (at + size t ty) (address_value at held a)
address_inside t globals ty at (Some Ptr) (Some a) small there h =
    let whole : size t ty ≡ 8 = ap layout_size (layout_is t ty Ptr small there) in
    one_piece globals at 8 (at + size t ty) (operand_of a.variable a.offset) (omega arith) (operand_there globals a.variable a.offset h.offset h.variable)
address_inside t globals ty at (Some Ptr) None small there h = tt
address_inside t globals ty at (Some Void) a small there h = tt
address_inside t globals ty at (Some (Int width)) a small there h = tt
address_inside t globals ty at (Some (Array count item)) a small there h = tt
address_inside t globals ty at (Some (Struct first count packed)) a small there h = tt
address_inside t globals ty at (Some Opaque) a small there h = tt
address_inside t globals ty at (Some (Pair width)) a small there h = tt
address_inside t globals ty at None a small there h = tt

-- ---- byte strings

i8_takes_a_byte : (t : Tables) (ty : ℕ) (held : Option IrType) → IsSmall t ty → type_at t ty ≡ held → is_i8 held ≡ true → 1 ≤ size t ty
i8_takes_a_byte t ty (Some (Int width)) small there h =
    let e : width ≡ 8 = eqb-true width 8 h in
    let whole : size t ty ≡ layout_size (int_layout width) = ap layout_size (layout_is t ty (Int width) small there) in
    omega arith
i8_takes_a_byte t ty (Some Void) small there h = cc
i8_takes_a_byte t ty (Some Ptr) small there h = cc
i8_takes_a_byte t ty (Some (Array count item)) small there h = cc
i8_takes_a_byte t ty (Some (Struct first count packed)) small there h = cc
i8_takes_a_byte t ty (Some Opaque) small there h = cc
i8_takes_a_byte t ty (Some (Pair width)) small there h = cc
i8_takes_a_byte t ty None small there h = cc

-- an array of so many i8 has as many bytes
i8s_take : (t : Tables) (ty count item : ℕ) → IsSmall t ty → type_at t ty ≡ Some (Array count item) → is_i8 (type_at t item) ≡ true → count ≤ size t ty
i8s_take t ty zero item small there h = omega arith
i8s_take t ty (suc n) item small there h =
    let whole : size t ty ≡ suc n * size t item = array_size t ty (suc n) item small there in
    let room : 1 ≤ size t item = i8_takes_a_byte t item (type_at t item) (item_small t ty n (suc n) item small there (omega arith)) refl h in
    let least : suc n * 1 ≤ suc n * size t item = mul-le-mul_left (suc n) room in
    omega arith

string_room : (t : Tables) (ty n : ℕ) (held : Option IrType) → IsSmall t ty → type_at t ty ≡ held → is_i8_array_of t n held ≡ true → n ≤ size t ty
string_room t ty n (Some (Array count item)) small there h =
    let both = and_parts (eqb count n) (is_i8 (type_at t item)) h in
    let e : count ≡ n = eqb-true count n both.0 in
    let room : count ≤ size t ty = i8s_take t ty count item small there both.1 in
    omega arith
string_room t ty n (Some Void) small there h = cc
string_room t ty n (Some (Int width)) small there h = cc
string_room t ty n (Some Ptr) small there h = cc
string_room t ty n (Some (Struct first count packed)) small there h = cc
string_room t ty n (Some Opaque) small there h = cc
string_room t ty n (Some (Pair width)) small there h = cc
string_room t ty n None small there h = cc

-- bytes in one piece
piece_inside : (globals at to : ℕ) (bytes : List ℕ) → length bytes ≤ 16 → at + length bytes ≤ to → All IsByte bytes → AreIn globals at to (bytes_piece at bytes)
piece_inside globals at to [] few room all = All-nil (IsPieceIn globals at to)
piece_inside globals at to (b ∷ bytes) few room all =
    one_piece globals at (length (b ∷ bytes)) to (Number (little_endian (b ∷ bytes))) room (omega arith, few, little_endian_below (b ∷ bytes) all)

-- bytes in pieces of 16, and one of what is left
string_inside : (globals n at to : ℕ) (bytes : List ℕ) → 16 * n ≤ length bytes → length bytes ≤ 16 * n + 15 → at + length bytes ≤ to → All IsByte bytes → AreIn globals at to (string_pieces n at bytes)
string_inside globals zero at to bytes least most room all = piece_inside globals at to bytes (omega arith) room all
string_inside globals (suc n) at to bytes least most room all =
    let first : length (take 16 bytes) ≡ 16 = length-take-le 16 bytes (omega arith) in
    let rest : length (drop 16 bytes) ≡ length bytes - 16 = length-drop 16 bytes in
    All-append (IsPieceIn globals at to) (bytes_piece at (take 16 bytes)) (string_pieces n (at + 16) (drop 16 bytes))
    (piece_inside globals at to (take 16 bytes) (omega (arith, first)) (omega (arith, first)) (All-take IsByte 16 bytes all))
    (widened globals (at + 16) to at to (string_pieces n (at + 16) (drop 16 bytes)) (omega arith) (omega arith)
    (string_inside globals n (at + 16) to (drop 16 bytes) (omega (arith, rest)) (omega (arith, rest)) (omega (arith, rest)) (All-drop IsByte 16 bytes all)))

if_some : (b : Bool) (globals from to : ℕ) (value : Option (List Part)) → (b ≡ true → MayBeIn globals from to value) → MayBeIn globals from to (cond b value None)
if_some true globals from to value h = h refl
if_some false globals from to value h = tt

bytes_inside : (t : Tables) (globals ty at : ℕ) (bytes : List ℕ) → IsSmall t ty → All IsByte bytes → MayBeIn globals at (at + size t ty) (bytes_value t ty at bytes)
bytes_inside t globals ty at bytes small all =
    if_some (is_i8_array_of t (length bytes) (type_at t ty)) globals at (at + size t ty) (Some (string_pieces (length bytes / 16) at bytes))
    (λ h. let room : length bytes ≤ size t ty = string_room t ty (length bytes) (type_at t ty) small refl h in
    string_inside globals (length bytes / 16) at (at + size t ty) bytes (omega arith) (omega arith) (omega arith) all)

flat_inside : (t : Tables) (globals levels ty c at : ℕ) (constant : SpelledConstant) → IsBounded t globals → IsSmall t ty → MayBeIn globals at (at + size t ty) (flat_value t levels ty c at constant)
flat_inside t globals levels ty c at (constants.Local name) b small = tt
flat_inside t globals levels ty c at (constants.Global name) b small = address_inside t globals ty at (type_at t ty) (address_of levels t c) small refl (address_there levels t globals c b)
flat_inside t globals levels ty c at (constants.Integer i) b small = integer_inside t globals ty at (type_at t ty) (λ width. integer_in width i) small refl (λ width. integer_of_width width i)
flat_inside t globals levels ty c at (constants.Bool v) b small = integer_inside t globals ty at (type_at t ty) (bool_in v) small refl (bool_of_width v)
flat_inside t globals levels ty c at constants.Null b small = address_inside t globals ty at (type_at t ty) (address_of levels t c) small refl (address_there levels t globals c b)
flat_inside t globals levels ty c at constants.Zero b small = if_some (is_sized t ty) globals at (at + size t ty) (Some []) (λ _. All-nil (IsPieceIn globals at (at + size t ty)))
flat_inside t globals levels ty c at (constants.Bytes name) b small = bytes_inside t globals ty at (string_of t name) small (string_small t name b.bytes)
flat_inside t globals levels ty c at (constants.Array first count) b small = tt
flat_inside t globals levels ty c at (constants.Struct first count packed) b small = tt
flat_inside t globals levels ty c at (constants.Address of base first count) b small = address_inside t globals ty at (type_at t ty) (address_of levels t c) small refl (address_there levels t globals c b)

-- ---- arrays and structs

joined_inside : (globals from to : ℕ) (a b : Option (List Part)) → MayBeIn globals from to a → MayBeIn globals from to b → MayBeIn globals from to (joined a b)
joined_inside globals from to (Some xs) (Some ys) h k = All-append (IsPieceIn globals from to) xs ys h k
joined_inside globals from to (Some xs) None h k = tt
joined_inside globals from to None b h k = tt

-- what holds of the values inside brackets
abbrev InsideHolds : Tables → ℕ → (ℕ → ℕ → ℕ → Option (List Part)) → Type 0
InsideHolds t globals inside = (ty c at : ℕ) → IsSmall t ty → MayBeIn globals at (at + size t ty) (inside ty c at)

element_inside : (t : Tables) (globals : ℕ) (inside : ℕ → ℕ → ℕ → Option (List Part)) (ty at : ℕ) (e : TypedConstant) (part : Option TypePart) → InsideHolds t globals inside → IfSome part (IsPartOf t ty) → MayBeIn globals at (at + size t ty) (element_by t inside at e part)
element_inside t globals inside ty at e (Some part) holds h =
    let ends : part.offset + size t part.ty ≤ size t ty = h.ends in
    if_some (is_spelled t part.ty e.ty) globals at (at + size t ty) (inside part.ty e.value (at + part.offset))
    (λ _. may_be_widened globals (at + part.offset) (at + part.offset + size t part.ty) at (at + size t ty) (inside part.ty e.value (at + part.offset)) (omega arith) (omega arith) (holds part.ty e.value (at + part.offset) h.small))
element_inside t globals inside ty at e None holds h = tt

elements_inside_from : (t : Tables) (globals : ℕ) (inside : ℕ → ℕ → ℕ → Option (List Part)) (ty at n k : ℕ) (es : List TypedConstant) → InsideHolds t globals inside → IsSmall t ty → ((j : ℕ) → j < n → HasPart (type_at t ty) j) → k + length es ≤ n → MayBeIn globals at (at + size t ty) (elements_value t inside ty at k es)
elements_inside_from t globals inside ty at n k [] holds small has room = All-nil (IsPieceIn globals at (at + size t ty))
elements_inside_from t globals inside ty at n k (e ∷ es) holds small has room =
    let less : k < n = omega arith in
    let more : suc k + length es ≤ n = omega arith in
    joined_inside globals at (at + size t ty) (element_by t inside at e (part_of t ty k)) (elements_value t inside ty at (suc k) es)
    (element_inside t globals inside ty at e (part_of t ty k) holds (part_inside t ty k small (has k less)))
    (elements_inside_from t globals inside ty at n (suc k) es holds small has more)

array_has : (n : ℕ) (held : Option IrType) → is_array_of n held ≡ true → (j : ℕ) → j < n → HasPart held j
array_has n (Some (Array count item)) h j lt = let e : count ≡ n = eqb-true count n h in omega arith
array_has n (Some Void) h j lt = tt
array_has n (Some (Int width)) h j lt = tt
array_has n (Some Ptr) h j lt = tt
array_has n (Some (Struct first count packed)) h j lt = tt
array_has n (Some Opaque) h j lt = tt
array_has n (Some (Pair width)) h j lt = tt
array_has n None h j lt = tt

struct_has : (packed : Bool) (n : ℕ) (held : Option IrType) → is_struct_of packed n held ≡ true → (j : ℕ) → j < n → HasPart held j
struct_has packed n (Some (Array count item)) h j lt = cc
struct_has packed n (Some Void) h j lt = tt
struct_has packed n (Some (Int width)) h j lt = tt
struct_has packed n (Some Ptr) h j lt = tt
struct_has packed n (Some (Struct first count is_packed)) h j lt = tt
struct_has packed n (Some Opaque) h j lt = tt
struct_has packed n (Some (Pair width)) h j lt = tt
struct_has packed n None h j lt = tt

elements_inside : (t : Tables) (globals : ℕ) (inside : ℕ → ℕ → ℕ → Option (List Part)) (ty at : ℕ) (fits : Bool) (es : List TypedConstant) → InsideHolds t globals inside → IsSmall t ty → (fits ≡ true → (j : ℕ) → j < length es → HasPart (type_at t ty) j) → MayBeIn globals at (at + size t ty) (elements_of t inside ty at fits es)
elements_inside t globals inside ty at fits es holds small has =
    if_some fits globals at (at + size t ty) (elements_value t inside ty at 0 es)
    (λ h. elements_inside_from t globals inside ty at (length es) 0 es holds small (has h) (omega arith))

nested_inside : (t : Tables) (globals : ℕ) (inside : ℕ → ℕ → ℕ → Option (List Part)) (levels ty c at : ℕ) (constant : SpelledConstant) → IsBounded t globals → InsideHolds t globals inside → IsSmall t ty → MayBeIn globals at (at + size t ty) (nested_value t inside levels ty c at constant)
nested_inside t globals inside levels ty c at (constants.Local name) b holds small = tt
nested_inside t globals inside levels ty c at (constants.Global name) b holds small = flat_inside t globals levels ty c at (constants.Global name) b small
nested_inside t globals inside levels ty c at (constants.Integer i) b holds small = flat_inside t globals levels ty c at (constants.Integer i) b small
nested_inside t globals inside levels ty c at (constants.Bool v) b holds small = flat_inside t globals levels ty c at (constants.Bool v) b small
nested_inside t globals inside levels ty c at constants.Null b holds small = flat_inside t globals levels ty c at constants.Null b small
nested_inside t globals inside levels ty c at constants.Zero b holds small = flat_inside t globals levels ty c at constants.Zero b small
nested_inside t globals inside levels ty c at (constants.Bytes name) b holds small = flat_inside t globals levels ty c at (constants.Bytes name) b small
nested_inside t globals inside levels ty c at (constants.Array first count) b holds small =
    let es : List TypedConstant = items_from first count t.elements in
    elements_inside t globals inside ty at (is_array_of (length es) (type_at t ty)) es holds small (λ h. array_has (length es) (type_at t ty) h)
nested_inside t globals inside levels ty c at (constants.Struct first count packed) b holds small =
    let es : List TypedConstant = items_from first count t.elements in
    elements_inside t globals inside ty at (is_struct_of packed (length es) (type_at t ty)) es holds small (λ h. struct_has packed (length es) (type_at t ty) h)
nested_inside t globals inside levels ty c at (constants.Address of base first count) b holds small = flat_inside t globals levels ty c at (constants.Address of base first count) b small

value_there : (globals from to : ℕ) (found : Option SpelledConstant) (go : SpelledConstant → Option (List Part)) → ((constant : SpelledConstant) → MayBeIn globals from to (go constant)) → MayBeIn globals from to (if_there found go)
value_there globals from to (Some constant) go h = h constant
value_there globals from to None go h = tt

-- the law
pub first_value_inside : (levels : ℕ) (t : Tables) (globals ty c at : ℕ) → IsBounded t globals → IsSmall t ty → MayBeIn globals at (at + size t ty) (first_value levels t ty c at)
unfolding first_value
first_value_inside zero t globals ty c at b small =
    value_there globals at (at + size t ty) (slice_get t.constants c) (flat_value t zero ty c at) (λ constant. flat_inside t globals zero ty c at constant b small)
first_value_inside (suc levels) t globals ty c at b small =
    value_there globals at (at + size t ty) (slice_get t.constants c) (nested_value t (first_value levels t) (suc levels) ty c at)
    (λ constant. nested_inside t globals (first_value levels t) (suc levels) ty c at constant b (λ ty2 c2 at2 small2. first_value_inside levels t globals ty2 c2 at2 b small2) small)

-- ---- what was put

within_size : (globals bytes : ℕ) (parts : List Part) → AreIn globals 0 (0 + bytes) parts → All (IsPartWithin globals bytes) parts
within_size globals bytes parts all =
    All-weaker (IsPieceIn globals 0 (0 + bytes)) (IsPartWithin globals bytes) (λ p h. let e : p.at + p.size ≤ 0 + bytes = h.ends in record { inside = omega arith; piece = h.piece }) parts all

put_within_by : (globals bytes : ℕ) (new : List Part) (value : Option (List Part)) → MayBeIn globals 0 (0 + bytes) value → behind [] value ≡ Some new → All (IsPartWithin globals bytes) new
put_within_by globals bytes new (Some parts) h e =
    let same : parts ≡ new = cc in
    subst (All (IsPartWithin globals bytes)) same (within_size globals bytes parts h)
put_within_by globals bytes new None h e = cc

may_be_within : (globals bytes : ℕ) (value : Option (List Part)) → MayBeIn globals 0 (0 + bytes) value → IfSome value (All (IsPartWithin globals bytes))
may_be_within globals bytes (Some parts) h = within_size globals bytes parts h
may_be_within globals bytes None h = tt

-- the law for a value from byte 0 on
pub first_value_within : (levels : ℕ) (t : Tables) (globals ty c : ℕ) → All IsByte t.source → AreNumbered globals t.variables → is_known (layout_at (exact_layouts t.types t.fields) ty) ≡ true → size t ty ≤ 2 ^ 40 → IfSome (first_value levels t ty c 0) (All (IsPartWithin globals (size t ty)))
first_value_within levels t globals ty c bytes named known small =
    may_be_within globals (size t ty) (first_value levels t ty c 0)
    (first_value_inside levels t globals ty c 0 (record { bytes = bytes; named = named }) (record { known = known; size = small }))

-- the pieces that were put behind none
pub put_within : (levels : ℕ) (t : Tables) (globals ty c : ℕ) (old new : List Part) → All IsByte t.source → AreNumbered globals t.variables → is_known (layout_at (exact_layouts t.types t.fields) ty) ≡ true → size t ty ≤ 2 ^ 40 → old ≡ [] → behind old (first_value levels t ty c 0) ≡ Some new → All (IsPartWithin globals (size t ty)) new
put_within levels t globals ty c old new bytes named known small none e =
    put_within_by globals (size t ty) new (first_value levels t ty c 0)
    (first_value_inside levels t globals ty c 0 (record { bytes = bytes; named = named }) (record { known = known; size = small }))
    (ap (λ o. behind o (first_value levels t ty c 0)) (sym none) ∙ e)
