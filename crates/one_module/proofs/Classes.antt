-- Which types are one is the same by any two lists of classes, and first values look at nothing else of them.
use Rattle.std.proofs.Common.{◌≡◌, ◌≢◌, ℕ, zero, suc, ◌+◌, ◌<◌, ◌≤◌, ◌==◌, ◌⊎◌, inl, inr, Bool, false, if◌then◌else◌, List, [], ◌∷◌, ◌++◌, length, get_or, slice_get, refl, sym, ◌∙◌, ap, arith, Option, Some, None, is_some, unwrap_or}
use Rattle.std.proofs.lemmas.Option.{slice_get_cases, slice_get-get_or, slice_get_past}
use Rattle.std.proofs.lemmas.Bool.Decides.{same_from_decides, Decides-eqb, Decides-like}
use Rattle.ir_core.specs.declared.types.IrType.{IrType}
use Rattle.ir_core.specs.declared.operands.Part.{Part}
use Rattle.ir_core.specs.Tokens.{bytes_of}
use Rattle.ir_text.specs.Names.{global_name}
use Rattle.ir_grammar.specs.declared.spelled.SpelledConstant.{SpelledConstant}
use Rattle.ir_grammar.specs.declared.spelled.SpelledConstant.TheVariants as constants
use Rattle.ir_grammar.specs.declared.spelled.SpelledItem.{SpelledItem}
use Rattle.ir_grammar.specs.declared.spelled.SpelledItem.TheVariants as items
use Rattle.ir_grammar.specs.declared.spelled.TypedConstant.{TypedConstant}
use Rattle.ir_grammar.specs.Grammar.{nesting_limit}
use Rattle.ir_type_numbers.specs.Numbering.{number_at}
use Rattle.ir_type_numbers.specs.SameTypes.{HasLayout}
use Rattle.ir_first_values.specs.Tables.{Tables, items_from, type_at, are_equal, class_by, is_spelled, part_of, is_array_of, is_struct_of}
use Rattle.ir_first_values.specs.Addresses.{indexed, address_by, address_of, if_there}
use Rattle.ir_first_values.specs.FirstValues.{address_value, flat_value, joined, element_by, elements_value, elements_of, nested_value, first_value}
use Rattle.ir_read_top.specs.Globals.{AreClasses, global_of, globals_of}

-- ---- classes

-- the same types are one by both lists
pub record AreAlike (c d : List ℕ) : Type 0 where
  pub same : (a b : ℕ) → are_equal (slice_get c a) (slice_get c b) ≡ are_equal (slice_get d a) (slice_get d b)

no_number : (n : ℕ) → (n ≢ 0 → ⊥) → n ≡ 0
no_number zero not_some = refl
no_number (suc n) not_some = absurd (not_some (λ e. omega arith))

-- a type without a class by one list has none by the other
none_too : (types : List IrType) (fields : List ℕ) (named : List Bool) (c d : List ℕ) → AreClasses types fields named c → AreClasses types fields named d
    → (a : ℕ) → number_at c a ≡ 0 → number_at d a ≡ 0
none_too types fields named c d h g a e = no_number (number_at d a) (λ some. (h.some a).1 ((g.some a).0 some) e)

one_by : (types : List IrType) (fields : List ℕ) (named : List Bool) (c d : List ℕ) → AreClasses types fields named c → AreClasses types fields named d
    → (a b class : ℕ) → number_at c a ≡ class → number_at c a ≡ number_at c b → number_at d a ≡ number_at d b
one_by types fields named c d h g a b zero is e = none_too types fields named c d h g a is ∙ sym (none_too types fields named c d h g b (sym e ∙ is))
one_by types fields named c d h g a b (suc n) is e =
    let left : HasLayout types fields a = (h.some a).0 (λ z. omega (arith, z, is)) in
    let right : HasLayout types fields b = (h.some b).0 (λ z. omega (arith, z, is, e)) in
    (g.same a b left right).1 ((h.same a b left right).0 e)

-- two types that are one by one list are one by the other
one_too : (types : List IrType) (fields : List ℕ) (named : List Bool) (c d : List ℕ) → AreClasses types fields named c → AreClasses types fields named d
    → (a b : ℕ) → number_at c a ≡ number_at c b → number_at d a ≡ number_at d b
one_too types fields named c d h g a b e = one_by types fields named c d h g a b (number_at c a) refl e

not_none : (x : Option ℕ) → are_equal x None ≡ false
not_none None = refl
not_none (Some n) = refl

-- a place in a list, or past its end
abbrev IsInOrPast : List ℕ → ℕ → Type 0
IsInOrPast c a = ((x : ℕ) × (a < length c) × (slice_get c a ≡ Some x) × (get_or c a x ≡ x)) ⊎ ((length c ≤ a) × (slice_get c a ≡ None))

tests : (c d : List ℕ) (a b : ℕ) → length c ≡ length d → (number_at c a ≡ number_at c b → number_at d a ≡ number_at d b) → (number_at d a ≡ number_at d b → number_at c a ≡ number_at c b)
    → IsInOrPast c a → IsInOrPast c b → are_equal (slice_get c a) (slice_get c b) ≡ are_equal (slice_get d a) (slice_get d b)
tests c d a b far to from (inr h) v =
    let past : length c ≤ a = h.0 in
    let none : slice_get d a ≡ None = slice_get_past d a (omega arith) in
    ap (λ x. are_equal x (slice_get c b)) h.1 ∙ sym (ap (λ x. are_equal x (slice_get d b)) none)
tests c d a b far to from (inl h) (inr v) =
    let past : length c ≤ b = v.0 in
    let none : slice_get d b ≡ None = slice_get_past d b (omega arith) in
    ap (are_equal (slice_get c a)) v.1 ∙ (not_none (slice_get c a) ∙ sym (ap (are_equal (slice_get d a)) none ∙ not_none (slice_get d a)))
tests c d a b far to from (inl h) (inl v) =
    let left : a < length c = h.1 in
    let right : b < length c = v.1 in
    let ca : slice_get c a ≡ Some (number_at c a) = slice_get-get_or c a 0 left in
    let cb : slice_get c b ≡ Some (number_at c b) = slice_get-get_or c b 0 right in
    let da : slice_get d a ≡ Some (number_at d a) = slice_get-get_or d a 0 (omega arith) in
    let db : slice_get d b ≡ Some (number_at d b) = slice_get-get_or d b 0 (omega arith) in
    let one : (number_at c a == number_at c b) ≡ (number_at d a == number_at d b) =
    same_from_decides {P = number_at c a ≡ number_at c b} (number_at c a == number_at c b) (number_at d a == number_at d b)
    (Decides-eqb (number_at c a) (number_at c b))
    (Decides-like (number_at d a == number_at d b) from to (Decides-eqb (number_at d a) (number_at d b))) in
    (λ i. are_equal (ca i) (cb i)) ∙ (one ∙ sym (λ i. are_equal (da i) (db i)))

-- the same types are one by any two lists of classes
pub classes_alike : (types : List IrType) (fields : List ℕ) (named : List Bool) (c d : List ℕ) → AreClasses types fields named c → AreClasses types fields named d → AreAlike c d
classes_alike types fields named c d h g = record {
  same = λ a b. tests c d a b (h.each ∙ sym g.each) (one_too types fields named c d h g a b) (one_too types fields named d c g h a b)
      (slice_get_cases c a).1 (slice_get_cases c b).1;
}

-- ---- first values

-- what first values are made from, with other classes
abbrev pub with_classes : Tables → List ℕ → Tables
with_classes t c = record t { classes = c }

if_there_same : {A : Type 0} (x : Option SpelledConstant) (go on : SpelledConstant → Option A) → ((constant : SpelledConstant) → go constant ≡ on constant)
    → if_there x go ≡ if_there x on
if_there_same None go on same = refl
if_there_same (Some constant) go on same = same constant

address_by_same : (levels : ℕ) (t : Tables) (c d : List ℕ) → ((k : ℕ) → address_of levels (with_classes t c) k ≡ address_of levels (with_classes t d) k) → (k : ℕ) (constant : SpelledConstant)
    → address_by (with_classes t c) (address_of levels (with_classes t c)) k constant ≡ address_by (with_classes t d) (address_of levels (with_classes t d)) k constant
address_by_same levels t c d same k (constants.Address of base first count) =
    ap (indexed (with_classes t c) of (items_from first count t.indices)) (same base)
address_by_same levels t c d same k constant = refl

-- an address looks at no class
pub one_address : (levels : ℕ) (t : Tables) (c d : List ℕ) (k : ℕ) → address_of levels (with_classes t c) k ≡ address_of levels (with_classes t d) k
unfolding address_of
one_address zero t c d k = refl
one_address (suc n) t c d k =
    if_there_same (slice_get t.constants k) (address_by (with_classes t c) (address_of n (with_classes t c)) k) (address_by (with_classes t d) (address_of n (with_classes t d)) k)
    (address_by_same n t c d (one_address n t c d) k)

flat_same : (t : Tables) (c d : List ℕ) (levels ty k at : ℕ) (constant : SpelledConstant) → flat_value (with_classes t c) levels ty k at constant ≡ flat_value (with_classes t d) levels ty k at constant
flat_same t c d levels ty k at constants.Null = ap (address_value at (type_at t ty)) (one_address levels t c d k)
flat_same t c d levels ty k at (constants.Global name) = ap (address_value at (type_at t ty)) (one_address levels t c d k)
flat_same t c d levels ty k at (constants.Address of base first count) = ap (address_value at (type_at t ty)) (one_address levels t c d k)
flat_same t c d levels ty k at constant = refl

is_spelled_by : (c d : List ℕ) → AreAlike c d → (t : Tables) (ty : ℕ) (number : Option ℕ)
    → are_equal (slice_get c ty) (class_by (with_classes t c) number) ≡ are_equal (slice_get d ty) (class_by (with_classes t d) number)
is_spelled_by c d alike t ty None = not_none (slice_get c ty) ∙ sym (not_none (slice_get d ty))
is_spelled_by c d alike t ty (Some n) = alike.same ty n

is_spelled_same : (c d : List ℕ) → AreAlike c d → (t : Tables) (ty spelled : ℕ) → is_spelled (with_classes t c) ty spelled ≡ is_spelled (with_classes t d) ty spelled
is_spelled_same c d alike t ty spelled = is_spelled_by c d alike t ty (slice_get t.numbers spelled)

-- the values of elements are the same
abbrev AreSame : (inside other : ℕ → ℕ → ℕ → Option (List Part)) → Type 0
AreSame inside other = (ty k at : ℕ) → inside ty k at ≡ other ty k at

part_same : {P : Type 0} (part : Option P) (value other : Option P → Option (List Part)) → value None ≡ other None → ((p : P) → value (Some p) ≡ other (Some p)) → value part ≡ other part
part_same None value other none some = none
part_same (Some p) value other none some = some p

element_same : (t : Tables) (c d : List ℕ) → AreAlike c d → (inside other : ℕ → ℕ → ℕ → Option (List Part)) → AreSame inside other → (ty at k : ℕ) (e : TypedConstant)
    → element_by (with_classes t c) inside at e (part_of t ty k) ≡ element_by (with_classes t d) other at e (part_of t ty k)
element_same t c d alike inside other same ty at k e =
    part_same (part_of t ty k) (element_by (with_classes t c) inside at e) (element_by (with_classes t d) other at e) refl
    (λ part. λ i. if is_spelled_same c d alike t part.ty e.ty i then same part.ty e.value (at + part.offset) i else None)

elements_same : (t : Tables) (c d : List ℕ) → AreAlike c d → (inside other : ℕ → ℕ → ℕ → Option (List Part)) → AreSame inside other → (ty at k : ℕ) (es : List TypedConstant)
    → elements_value (with_classes t c) inside ty at k es ≡ elements_value (with_classes t d) other ty at k es
elements_same t c d alike inside other same ty at k [] = refl
elements_same t c d alike inside other same ty at k (e ∷ es) =
    λ i. joined (element_same t c d alike inside other same ty at k e i) (elements_same t c d alike inside other same ty at (suc k) es i)

all_same : (t : Tables) (c d : List ℕ) → AreAlike c d → (inside other : ℕ → ℕ → ℕ → Option (List Part)) → AreSame inside other → (ty at : ℕ) (fits : Bool) (es : List TypedConstant)
    → elements_of (with_classes t c) inside ty at fits es ≡ elements_of (with_classes t d) other ty at fits es
all_same t c d alike inside other same ty at fits es = λ i. if fits then elements_same t c d alike inside other same ty at 0 es i else None

nested_same : (t : Tables) (c d : List ℕ) → AreAlike c d → (inside other : ℕ → ℕ → ℕ → Option (List Part)) → AreSame inside other → (levels ty k at : ℕ) (constant : SpelledConstant)
    → nested_value (with_classes t c) inside levels ty k at constant ≡ nested_value (with_classes t d) other levels ty k at constant
nested_same t c d alike inside other same levels ty k at (constants.Array first count) =
    all_same t c d alike inside other same ty at (is_array_of (length (items_from first count t.elements)) (type_at t ty)) (items_from first count t.elements)
nested_same t c d alike inside other same levels ty k at (constants.Struct first count packed) =
    all_same t c d alike inside other same ty at (is_struct_of packed (length (items_from first count t.elements)) (type_at t ty)) (items_from first count t.elements)
nested_same t c d alike inside other same levels ty k at constant = flat_same t c d levels ty k at constant

-- a first value is the same by lists of classes that are alike
one_value : (levels : ℕ) (t : Tables) (c d : List ℕ) → AreAlike c d → (ty k at : ℕ) → first_value levels (with_classes t c) ty k at ≡ first_value levels (with_classes t d) ty k at
unfolding first_value
one_value zero t c d alike ty k at =
    if_there_same (slice_get t.constants k) (flat_value (with_classes t c) zero ty k at) (flat_value (with_classes t d) zero ty k at) (flat_same t c d zero ty k at)
one_value (suc n) t c d alike ty k at =
    if_there_same (slice_get t.constants k) (nested_value (with_classes t c) (first_value n (with_classes t c)) (suc n) ty k at)
    (nested_value (with_classes t d) (first_value n (with_classes t d)) (suc n) ty k at)
    (nested_same t c d alike (first_value n (with_classes t c)) (first_value n (with_classes t d)) (one_value n t c d alike) (suc n) ty k at)

-- ---- global variables

global_same : (t : Tables) (c d : List ℕ) → AreAlike c d → (item : SpelledItem) → global_of (with_classes t c) item ≡ global_of (with_classes t d) item
global_same t c d alike (items.Global name constant ty value) =
    λ i. record {
      name = global_name (bytes_of t.source name);
      ty = number_at t.numbers ty;
      constant = constant;
      fits = is_some (one_value nesting_limit t c d alike (number_at t.numbers ty) value 0 i);
      init = unwrap_or (one_value nesting_limit t c d alike (number_at t.numbers ty) value 0 i) [];
      place = name.place;
    } ∷ []
global_same t c d alike item = refl

-- the global variables are the same by lists of classes that are alike
pub one_list_of_globals : (t : Tables) (c d : List ℕ) → AreAlike c d → (all : List SpelledItem) → globals_of (with_classes t c) all ≡ globals_of (with_classes t d) all
one_list_of_globals t c d alike [] = refl
one_list_of_globals t c d alike (item ∷ rest) = λ i. global_same t c d alike item i ++ one_list_of_globals t c d alike rest i
