-- In a module that is accepted each offset of a field on the way to an address is below 2^64 bytes.
use Rattle.std.proofs.Common.{◌≡◌, ◌∙◌, ap, sym, refl, subst, arith, ℕ, zero, suc, ◌<◌, ◌≤◌, ◌+◌, ◌^◌, List, [], ◌∷◌, length, drop, map, get_or, slice_index, Bool, true, nat_lt, All, Option, Some, None}
use Rattle.std.proofs.lemmas.List.{get_or-map, get_or-take, get_or-drop, length-take, length-drop, length-map}
use Rattle.std.proofs.lemmas.Bool.Decides.{nat_tests}
use Rattle.hw_base.specs.declared.numbers.TheConstants.{MOST_SIZE}
use Rattle.ir_core.specs.declared.types.IrType.{IrType}
use Rattle.ir_core.specs.declared.types.IrType.TheVariants.{Void, Int, Ptr, Array, Struct, Opaque, Pair}
use Rattle.ir_core.specs.declared.types.TypeLayout.{TypeLayout}
use Rattle.ir_core.specs.declared.types.TypeLayout.TheVariants.{Known, NoSize, Loop}
use Rattle.ir_core.specs.declared.faults.Fault.TheVariants.{BadType}
use Rattle.ir_core.specs.declared.refusals.Place.{Place}
use Rattle.ir_core.specs.declared.operands.Placed.{Placed}
use Rattle.ir_core.specs.declared.ir_module.Function.{Function}
use Rattle.ir_core.specs.declared.ir_module.Module.{Module}
use Rattle.ir_core.specs.IndexSteps.{AddressStep, inner_steps, scaled_step, field_step, step_before}
use Rattle.ir_core.specs.Layout.{is_known, layout_at, layout_size, layout_align, capped, exact_layouts, type_layout, array_layout, field_types, fields_layout, has_size_of}
use Rattle.ir_core.specs.NumberTypes.{type_of, field_type, field_offset, constant_number}
use Rattle.ir_core.specs.Resolved.{IsResolvedType, HasLayouts}
use Rattle.ir_core.proofs.Capping.{layout_at-capped, type_layout-capped}
use Rattle.ir_core.proofs.Deepening.{IsLaid, is_loop-capped, laid_is_within, length-within}
use Rattle.ir_core.proofs.Offsets.{exact_layout}
use Rattle.ir_check_types.specs.Operands.{is_same, integer_fault, typed_fault}
use Rattle.ir_check_types.specs.Instructions.{is_constant, is_field_index, step_fault, steps_fault, sized_fault, indices_fault, address_fault}
use Rattle.ir_check_types.proofs.PassedRules.{none_first, none_second, holds, both}
use Rattle.tag_insert.specs.SmallSteps.{IsSmallStep, HasSmallSteps}
use Rattle.tag_insert.proofs.FieldBounds.{field-inside, rounded-below}

-- what is used of a module
pub record HasSmallTypes (m : Module) : Type 0 where
  pub layouts : HasLayouts m
  pub types : All (IsResolvedType m) m.types
  pub small : (n : ℕ) → layout_size (layout_at m.layouts n) ≤ MOST_SIZE

-- ---- layouts of types

uncapped : (layout : TypeLayout) (size align : ℕ) → capped layout ≡ Known size align → size ≤ 2 ^ 40 → layout ≡ Known size align
uncapped (Known own most) size align same small =
    let sizes = ap layout_size same in
    let aligns = ap layout_align same in
    let own-is : own ≡ size = omega (arith, sizes, small) in
    ap (λ n. Known n most) own-is ∙ ap (λ n. Known size n) aligns
uncapped NoSize size align same small = cc
uncapped Loop size align same small = cc

-- what a number's layout says of its type
record IsLaidOut (m : Module) (n size align : ℕ) : Type 0 where
  inside : n < length m.types
  layout : type_layout m.fields m.layouts (type_of m n) ≡ Known size align

laid-out : (m : Module) (n size align : ℕ) → HasSmallTypes m → layout_at m.layouts n ≡ Known size align → IsLaidOut m n size align
laid-out m n size align small known =
    let exact = exact_layouts m.types m.fields in
    let type = type_of m n in
    let capped-known : capped (layout_at exact n) ≡ Known size align =
    sym (layout_at-capped exact n) ∙ sym (ap (λ layouts. layout_at layouts n) small.layouts) ∙ known in
    let one : IsLaid (capped (layout_at exact n) ∷ []) 0 = subst (λ layout. IsLaid (layout ∷ []) 0) (sym capped-known) refl in
    let laid : IsLaid exact n = sym (is_loop-capped (layout_at exact n)) ∙ one in
    let within = laid_is_within exact n laid in
    let inside : n < length m.types = omega (arith, within, length-within m.types m.fields (length m.types)) in
    let under = small.small n in
    let low : size ≤ 2 ^ 40 = omega (arith, under, ap layout_size known) in
    let kept : capped (type_layout m.fields m.layouts type) ≡ Known size align =
    ap (λ layouts. capped (type_layout m.fields layouts type)) small.layouts ∙ type_layout-capped m.fields exact type
    ∙ ap capped (sym (exact_layout m.types m.fields n inside laid)) ∙ capped-known in
    record { inside = inside; layout = uncapped (type_layout m.fields m.layouts type) size align kept low }

-- ---- lists of steps

all-cons : {A : Type 0} (P : A → Type 0) (x : A) (xs : List A) → P x → All P xs → All P (x ∷ xs)
all-cons P x xs here rest zero d lt = here
all-cons P x xs here rest (suc k) d lt = rest k d (omega (arith, lt))

all-before :
    (step : AddressStep) (further : Option (List AddressStep)) (steps : List AddressStep) → step_before step further ≡ Some steps → IsSmallStep step
    → ((more : List AddressStep) → further ≡ Some more → All IsSmallStep more) → All IsSmallStep steps
all-before step None steps found here rest = cc
all-before step (Some more) steps found here rest =
    let same : step ∷ more ≡ steps = cc in
    subst (λ all. All IsSmallStep all) same (all-cons IsSmallStep step more here (rest more refl))

-- ---- steps into a type

-- a type with this number has a size
abbrev pub IsSized : Module → ℕ → Type 0
IsSized m n = (size align : ℕ) × (layout_at m.layouts n ≡ Known size align)

item-sized : (m : Module) (count item size align : ℕ) → array_layout count (layout_at m.layouts item) ≡ Known size align → IsSized m item
item-sized m count item size align known = by-layout (layout_at m.layouts item) refl known
  where
    by-layout :
        (layout : TypeLayout) → layout_at m.layouts item ≡ layout → array_layout count layout ≡ Known size align → IsSized m item
    by-layout (Known own most) is same = (own, most, is)
    by-layout NoSize is same = cc
    by-layout Loop is same = cc

-- the number of a field is one of the struct's
index-below : (m : Module) (count : ℕ) (index : Placed) → is_field_index m count index ≡ true → constant_number index.operand < count
index-below m count index is =
    let k = constant_number index.operand in
    let second = (both (is_same (type_of m index.ty) (Int 32)) _ is).1 in
    let third = (both index.fits _ second).1 in
    let last : nat_lt k count ≡ true = (both (is_constant index.operand) (nat_lt k count) third).1 in
    grind (arith, nat_tests)

-- what is known of a field of a type that has a size
record IsSmallField (m : Module) (first count : ℕ) (packed : Bool) (k : ℕ) : Type 0 where
  begins : field_offset m first count packed k < 2 ^ 64
  sized : IsSized m (field_type m first k)

small-field :
    (m : Module) (first count : ℕ) (packed : Bool) (k size align : ℕ) → type_layout m.fields m.layouts (Struct first count packed) ≡ Known size align
    → size ≤ 2 ^ 40 → first + count ≤ length m.fields → k < count → IsSmallField m first count packed k
small-field m first count packed k size align known low room lt =
    let numbers = field_types m.fields first count in
    let fields = map (layout_at m.layouts) numbers in
    let rest = length-drop first m.fields in
    let taken = length-take count (drop first m.fields) in
    let many : k < length numbers = omega (arith, rest, taken, room, lt) in
    let mapped = length-map numbers (layout_at m.layouts) in
    let inside = field-inside packed fields (Known 0 1) k size (rounded-below (fields_layout packed fields) size align known) (omega (arith, many, mapped)) in
    let at : layout_at fields k ≡ layout_at m.layouts (get_or numbers k 0) = get_or-map (layout_at m.layouts) numbers k 0 Loop many in
    let number : get_or numbers k 0 ≡ slice_index m.fields (first + k) =
    get_or-take count (drop first m.fields) k 0 lt ∙ get_or-drop first m.fields k 0 in
    let begins = inside.begins in
    record {
      begins = omega (arith, begins, low);
      sized = (inside.own, inside.align, sym (ap (layout_at m.layouts) number) ∙ sym at ∙ inside.known);
    }

-- one index, by the type that it goes into and what is known of those after it
step-small :
    (m : Module) (f : Function) (n size align : ℕ) (index : Placed) (indices : List Placed) → HasSmallTypes m → IsLaidOut m n size align → size ≤ 2 ^ 40
    → ((inner : ℕ) → IsSized m inner → steps_fault m f (type_of m inner) indices ≡ None → (more : List AddressStep)
    → inner_steps m (type_of m inner) indices ≡ Some more → All IsSmallStep more)
    → (type : IrType) → type_of m n ≡ type → steps_fault m f type (index ∷ indices) ≡ None → (steps : List AddressStep)
    → inner_steps m type (index ∷ indices) ≡ Some steps → All IsSmallStep steps
unfolding inner_steps
step-small m f n size align index indices small laid low rest (Array count item) is none steps found =
    let known = sym (ap (type_layout m.fields m.layouts) is) ∙ laid.layout in
    let further = none_second (step_fault m f (Array count item) index) (steps_fault m f (type_of m item) indices) none in
    all-before (scaled_step m index item) (inner_steps m (type_of m item) indices) steps found tt
    (rest item (item-sized m count item size align known) further)
step-small m f n size align index indices small laid low rest (Struct first count packed) is none steps found =
    let k = constant_number index.operand in
    let inner = field_type m first k in
    let known = sym (ap (type_layout m.fields m.layouts) is) ∙ laid.layout in
    let here = none_first (step_fault m f (Struct first count packed) index) (steps_fault m f (type_of m inner) indices) none in
    let further = none_second (step_fault m f (Struct first count packed) index) (steps_fault m f (type_of m inner) indices) none in
    let test = holds (is_field_index m count index) BadType index.place (none_second (integer_fault m f index) _ here) in
    let room = subst (IsResolvedType m) is (small.types n Void laid.inside) in
    let field = small-field m first count packed k size align known low room (index-below m count index test) in
    all-before (field_step m first count packed index) (inner_steps m (type_of m inner) indices) steps found field.begins (rest inner field.sized further)
step-small m f n size align index indices small laid low rest Void is none steps found = cc
step-small m f n size align index indices small laid low rest (Int width) is none steps found = cc
step-small m f n size align index indices small laid low rest Ptr is none steps found = cc
step-small m f n size align index indices small laid low rest Opaque is none steps found = cc
step-small m f n size align index indices small laid low rest (Pair width) is none steps found = cc

inner-small :
    (m : Module) (f : Function) (indices : List Placed) → HasSmallTypes m → (n : ℕ) → IsSized m n → steps_fault m f (type_of m n) indices ≡ None
    → (steps : List AddressStep) → inner_steps m (type_of m n) indices ≡ Some steps → All IsSmallStep steps
unfolding inner_steps
inner-small m f [] small n sized none steps found =
    let same : [] ≡ steps = cc in
    subst (λ all. All IsSmallStep all) same (λ k d lt. absurd (omega (arith, lt)))
inner-small m f (index ∷ indices) small n (size, align, known) none steps found =
    let under = small.small n in
    let low : size ≤ 2 ^ 40 = omega (arith, under, ap layout_size known) in
    step-small m f n size align index indices small (laid-out m n size align small known) low
    (λ inner sized further. inner-small m f indices small inner sized further) (type_of m n) refl none steps found

-- ---- addresses

known-of : (layout : TypeLayout) → is_known layout ≡ true → (size align : ℕ) × (layout ≡ Known size align)
known-of (Known size align) is = (size, align, refl)
known-of NoSize is = cc
known-of Loop is = cc

sized-of : (m : Module) (n : ℕ) → HasSmallTypes m → has_size_of m.types m.fields n ≡ true → IsSized m n
sized-of m n small is =
    let exact = exact_layouts m.types m.fields in
    let (size, align, known) = known-of (layout_at exact n) is in
    (_, align, ap (λ layouts. layout_at layouts n) small.layouts ∙ layout_at-capped exact n ∙ ap capped known)

pub address-small :
    (m : Module) (f : Function) (place : Place) (ty : ℕ) (base : Placed) (indices : List Placed) → HasSmallTypes m
    → address_fault m f place ty base indices ≡ None → HasSmallSteps m ty indices
address-small m f place ty base [] small none steps found =
    let same : [] ≡ steps = cc in
    subst (λ all. All IsSmallStep all) same (λ k d lt. absurd (omega (arith, lt)))
address-small m f place ty base (index ∷ indices) small none steps found =
    let second = none_second (typed_fault m f Ptr base) (indices_fault m f place ty (index ∷ indices)) none in
    let sized = holds (has_size_of m.types m.fields ty) BadType place (none_first (sized_fault m ty place) _ second) in
    let further = none_second (integer_fault m f index) (steps_fault m f (type_of m ty) indices) (none_second (sized_fault m ty place) _ second) in
    all-before (scaled_step m index ty) (inner_steps m (type_of m ty) indices) steps found tt
    (inner-small m f indices small ty (sized-of m ty small sized) further)
