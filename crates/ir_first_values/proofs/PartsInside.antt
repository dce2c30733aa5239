-- A part of a type of at most 2^40 bytes lies within it.
use Rattle.std.proofs.Common.{◌≡◌, ℕ, suc, ◌+◌, ◌*◌, ◌^◌, ◌<◌, ◌≤◌, Bool, true, false, leb, cond, List, [], ◌∷◌, ◌++◌, map, fold, length, get_or, take, drop, slice_get, Option, Some, None, IfSome, arith, refl, sym, ◌∙◌, ap, ap₂}
use Rattle.std.proofs.lemmas.List.{map-append, get_or-map, take-append-drop, take-map}
use Rattle.std.proofs.lemmas.List.Sums.{fold-append}
use Rattle.std.proofs.lemmas.Option.{get_or_from_slice_get, slice_get_within}
use Rattle.std.proofs.Math.Seq.{drop-cons}
use Rattle.std.proofs.Math.Nat.{mul-le-mul_right}
use Rattle.std.proofs.lemmas.Bool.{leb-true, le-leb, and_from, and_parts}
use Rattle.ir_core.proofs.Offsets.{exact_layout}
use Rattle.ir_core.specs.Layout.{field_start, with_field, fields_layout, rounded, struct_layout, array_layout, layout_at, type_layout, field_types, exact_layouts, is_known, layout_size, layout_align, offset_in, field_offset_of, field_offset_by, has_size_of, alloc_size_of}
use Rattle.ir_core.specs.Progress.{is_loop}
use Rattle.ir_core.specs.declared.types.IrType.{IrType}
use Rattle.ir_core.specs.declared.types.IrType.TheVariants.{Void, Int, Ptr, Array, Struct, Opaque, Pair}
use Rattle.ir_core.specs.declared.types.TypeLayout.{TypeLayout}
use Rattle.ir_core.specs.declared.types.TypeLayout.TheVariants.{Known, NoSize, Loop}
use Rattle.ir_first_values.specs.declared.parts.TypePart.{TypePart}
use Rattle.ir_first_values.specs.Tables.{Tables, type_at, is_fitting, counted_size, counted_offset, field_part, part_by, part_of}

-- its alloc size in bytes
abbrev pub size : Tables → ℕ → ℕ
size t ty = alloc_size_of t.types t.fields ty

-- the type has a size of at most 2^40 bytes
pub record IsSmall (t : Tables) (ty : ℕ) : Type 0 where
  pub known : is_known (layout_at (exact_layouts t.types t.fields) ty) ≡ true
  pub size : layout_size (layout_at (exact_layouts t.types t.fields) ty) ≤ 2 ^ 40

laid_known : (l : TypeLayout) → is_known l ≡ true → is_loop l ≡ false
laid_known (Known size align) h = refl
laid_known NoSize h = cc
laid_known Loop h = cc

pub fitting_from_small : (t : Tables) (ty : ℕ) → IsSmall t ty → is_fitting t.types t.fields ty ≡ true
fitting_from_small t ty h = and_from (has_size_of t.types t.fields ty) (leb (alloc_size_of t.types t.fields ty) (2 ^ 40)) h.known (le-leb _ _ h.size)

pub small_from_fitting : (t : Tables) (ty : ℕ) → is_fitting t.types t.fields ty ≡ true → IsSmall t ty
small_from_fitting t ty h =
    let parts = and_parts (has_size_of t.types t.fields ty) (leb (alloc_size_of t.types t.fields ty) (2 ^ 40)) h in
    record { known = parts.0; size = leb-true _ _ parts.1 }

-- a small type's layout is made of those of what it holds
pub layout_is : (t : Tables) (ty : ℕ) (held : IrType) → IsSmall t ty → type_at t ty ≡ Some held → layout_at (exact_layouts t.types t.fields) ty ≡ type_layout t.fields (exact_layouts t.types t.fields) held
layout_is t ty held small there =
    exact_layout t.types t.fields ty (slice_get_within t.types ty held there) (laid_known (layout_at (exact_layouts t.types t.fields) ty) small.known)
    ∙ ap (type_layout t.fields (exact_layouts t.types t.fields)) (get_or_from_slice_get t.types ty held Void there)

-- ---- offsets that count

counted_small : (t : Tables) (ty : ℕ) → IsSmall t ty → counted_size t ty ≡ size t ty
counted_small t ty h = ap (λ b. cond b (alloc_size_of t.types t.fields ty) 0) (fitting_from_small t ty h)

counted_inside : (t : Tables) (ty offset : ℕ) → IsSmall t ty → offset ≤ 2 ^ 40 → counted_offset t ty offset ≡ offset
counted_inside t ty offset h small =
    ap (λ b. cond b offset 0) (and_from (is_fitting t.types t.fields ty) (leb offset (2 ^ 40)) (fitting_from_small t ty h) (le-leb _ _ small))

-- a part of a type
pub record IsPartOf (t : Tables) (ty : ℕ) (part : TypePart) : Type 0 where
  pub small : IsSmall t part.ty
  pub ends : part.offset + size t part.ty ≤ size t ty

-- an array has so many parts
abbrev pub HasPart : Option IrType → ℕ → Type 0
HasPart (Some (Array count item)) k = k < count
HasPart other k = Unit {0}

-- ---- items

record IsArrayLayout (count : ℕ) (item : TypeLayout) : Type 0 where
  known : is_known item ≡ true
  size : layout_size (array_layout count item) ≡ count * layout_size item

array_parts : (count : ℕ) (item : TypeLayout) → is_known (array_layout count item) ≡ true → IsArrayLayout count item
array_parts count (Known bytes align) h = record { known = refl; size = refl }
array_parts count NoSize h = cc
array_parts count Loop h = cc

item_inside : (t : Tables) (ty k count item : ℕ) → IsSmall t ty → type_at t ty ≡ Some (Array count item) → k < count → IsPartOf t ty (record { ty = item; offset = counted_offset t ty (k * counted_size t item) })
item_inside t ty k count item small there inside =
    let whole = layout_is t ty (Array count item) small there in
    let parts = array_parts count (layout_at (exact_layouts t.types t.fields) item) (sym (ap is_known whole) ∙ small.known) in
    let bytes : ℕ = layout_size (layout_at (exact_layouts t.types t.fields) item) in
    let total : layout_size (layout_at (exact_layouts t.types t.fields) ty) ≡ count * bytes = ap layout_size whole ∙ parts.size in
    let limit : layout_size (layout_at (exact_layouts t.types t.fields) ty) ≤ 2 ^ 40 = small.size in
    let here : suc k * bytes ≤ count * bytes = mul-le-mul_right bytes (omega arith) in
    let split : suc k * bytes ≡ k * bytes + bytes = omega arith in
    let item_small : IsSmall t item = record { known = parts.known; size = omega arith } in
    let counted : counted_size t item ≡ bytes = counted_small t item item_small in
    let offset : counted_offset t ty (k * counted_size t item) ≡ k * bytes =
    ap (λ n. counted_offset t ty (k * n)) counted ∙ counted_inside t ty (k * bytes) small (omega arith) in
    record { small = item_small; ends = omega arith }

-- an array has as many times its item's bytes as it has items
pub array_size : (t : Tables) (ty count item : ℕ) → IsSmall t ty → type_at t ty ≡ Some (Array count item) → size t ty ≡ count * size t item
array_size t ty count item small there =
    let whole = layout_is t ty (Array count item) small there in
    let parts = array_parts count (layout_at (exact_layouts t.types t.fields) item) (sym (ap is_known whole) ∙ small.known) in
    ap layout_size whole ∙ parts.size

-- the item of an array that has one is small
pub item_small : (t : Tables) (ty k count item : ℕ) → IsSmall t ty → type_at t ty ≡ Some (Array count item) → k < count → IsSmall t item
item_small t ty k count item small there inside = (item_inside t ty k count item small there inside).small

-- ---- fields

-- what one more field says of itself and of those before
record BehindField (packed : Bool) (so_far field : TypeLayout) : Type 0 where
  before : is_known so_far ≡ true
  known : is_known field ≡ true
  ends : field_start packed (layout_size so_far) (layout_align field) + layout_size field ≤ layout_size (with_field packed so_far field)
  grows : layout_size so_far ≤ layout_size (with_field packed so_far field)

behind_field : (packed : Bool) (so_far field : TypeLayout) → is_known (with_field packed so_far field) ≡ true → BehindField packed so_far field
behind_field packed (Known at most) (Known bytes align) h = record { before = refl; known = refl; ends = omega arith; grows = omega arith }
behind_field packed (Known at most) NoSize h = cc
behind_field packed (Known at most) Loop h = cc
behind_field packed NoSize (Known bytes align) h = cc
behind_field packed NoSize NoSize h = cc
behind_field packed NoSize Loop h = cc
behind_field packed Loop field h = cc

-- further fields don't shrink a struct
fields_grow : (packed : Bool) (so_far : TypeLayout) (fields : List TypeLayout) → is_known (fold (with_field packed) so_far fields) ≡ true → (is_known so_far ≡ true) × (layout_size so_far ≤ layout_size (fold (with_field packed) so_far fields))
fields_grow packed so_far [] h = (h, omega arith)
fields_grow packed so_far (l ∷ ls) h =
    let rest = fields_grow packed (with_field packed so_far l) ls h in
    let less : layout_size (with_field packed so_far l) ≤ layout_size (fold (with_field packed) (with_field packed so_far l) ls) = rest.1 in
    let here = behind_field packed so_far l rest.0 in
    let more : layout_size so_far ≤ layout_size (with_field packed so_far l) = here.grows in
    (here.before, omega arith)

rounding_grows : (l : TypeLayout) → is_known (rounded l) ≡ true → (is_known l ≡ true) × (layout_size l ≤ layout_size (rounded l))
rounding_grows (Known bytes align) h = (refl, omega arith)
rounding_grows NoSize h = cc
rounding_grows Loop h = cc

-- a field ends within its struct
record IsFieldInside (packed : Bool) (layouts : List TypeLayout) (ns : List ℕ) (k : ℕ) : Type 0 where
  known : is_known (layout_at layouts (get_or ns k 0)) ≡ true
  ends : field_start packed (layout_size (fields_layout packed (map (layout_at layouts) (take k ns)))) (layout_align (layout_at layouts (get_or ns k 0))) + layout_size (layout_at layouts (get_or ns k 0)) ≤ layout_size (struct_layout packed (map (layout_at layouts) ns))

field_ends : (packed : Bool) (layouts : List TypeLayout) (ns : List ℕ) (k : ℕ) → k < length ns → is_known (struct_layout packed (map (layout_at layouts) ns)) ≡ true → IsFieldInside packed layouts ns k
field_ends packed layouts ns k h known =
    let f : ℕ → TypeLayout = layout_at layouts in
    let n : ℕ = get_or ns k 0 in
    let so_far : TypeLayout = fields_layout packed (map f (take k ns)) in
    let whole : TypeLayout = fields_layout packed (map f ns) in
    let rest : List TypeLayout = map f (drop (suc k) ns) in
    let cut : take k ns ++ (n ∷ drop (suc k) ns) ≡ ns = ap (λ r. take k ns ++ r) (sym (drop-cons ns k 0 h)) ∙ take-append-drop k ns in
    let split : map f ns ≡ map f (take k ns) ++ (f n ∷ rest) = sym (ap (map f) cut) ∙ map-append f (take k ns) (n ∷ drop (suc k) ns) in
    let folded : whole ≡ fold (with_field packed) (with_field packed so_far (f n)) rest =
    ap (fields_layout packed) split ∙ fold-append (with_field packed) (Known 0 1) (map f (take k ns)) (f n ∷ rest) in
    let outer = rounding_grows whole known in
    let outer_size : layout_size whole ≤ layout_size (rounded whole) = outer.1 in
    let inner = fields_grow packed (with_field packed so_far (f n)) rest (sym (ap is_known folded) ∙ outer.0) in
    let inner_size : layout_size (with_field packed so_far (f n)) ≤ layout_size (fold (with_field packed) (with_field packed so_far (f n)) rest) = inner.1 in
    let same : layout_size whole ≡ layout_size (fold (with_field packed) (with_field packed so_far (f n)) rest) = ap layout_size folded in
    let here = behind_field packed so_far (f n) inner.0 in
    let ends : field_start packed (layout_size so_far) (layout_align (f n)) + layout_size (f n) ≤ layout_size (with_field packed so_far (f n)) = here.ends in
    record { known = here.known; ends = omega arith }

field_inside : (t : Tables) (ty k first count : ℕ) (packed : Bool) (field : ℕ) → IsSmall t ty → type_at t ty ≡ Some (Struct first count packed) → slice_get (field_types t.fields first count) k ≡ Some field → IsPartOf t ty (record { ty = field; offset = counted_offset t ty (field_offset_of t.types t.fields ty k) })
field_inside t ty k first count packed field small there found =
    let exact : List TypeLayout = exact_layouts t.types t.fields in
    let ns : List ℕ = field_types t.fields first count in
    let f : ℕ → TypeLayout = layout_at exact in
    let whole = layout_is t ty (Struct first count packed) small there in
    let inside : k < length ns = slice_get_within ns k field found in
    let named : get_or ns k 0 ≡ field = get_or_from_slice_get ns k field 0 found in
    let e = field_ends packed exact ns k inside (sym (ap is_known whole) ∙ small.known) in
    let total : layout_size (f ty) ≡ layout_size (struct_layout packed (map f ns)) = ap layout_size whole in
    let limit : layout_size (f ty) ≤ 2 ^ 40 = small.size in
    let so_far : TypeLayout = fields_layout packed (map f (take k ns)) in
    let start : ℕ = field_start packed (layout_size so_far) (layout_align (f (get_or ns k 0))) in
    let bytes : layout_size (f (get_or ns k 0)) ≡ layout_size (f field) = ap (λ n. layout_size (f n)) named in
    let ends : start + layout_size (f (get_or ns k 0)) ≤ layout_size (struct_layout packed (map f ns)) = e.ends in
    let placed : offset_in packed (map f ns) k ≡ start =
    ap₂ (λ ls l. field_start packed (layout_size (fields_layout packed ls)) (layout_align l)) (take-map f k ns) (get_or-map f ns k 0 Loop inside) in
    let offset : field_offset_of t.types t.fields ty k ≡ start = ap (λ o. field_offset_by t.fields exact o k) there ∙ placed in
    let counted : counted_offset t ty (field_offset_of t.types t.fields ty k) ≡ start = ap (counted_offset t ty) offset ∙ counted_inside t ty start small (omega arith) in
    let field_small : IsSmall t field = record { known = sym (ap (λ n. is_known (f n)) named) ∙ e.known; size = omega arith } in
    record { small = field_small; ends = omega arith }

-- ---- parts

struct_part_inside : (t : Tables) (ty k first count : ℕ) (packed : Bool) (field : Option ℕ) → IsSmall t ty → type_at t ty ≡ Some (Struct first count packed) → slice_get (field_types t.fields first count) k ≡ field → IfSome (field_part t ty k field) (IsPartOf t ty)
struct_part_inside t ty k first count packed (Some field) small there found = field_inside t ty k first count packed field small there found
struct_part_inside t ty k first count packed None small there found = tt

part_inside_by : (t : Tables) (ty k : ℕ) (held : Option IrType) → IsSmall t ty → type_at t ty ≡ held → HasPart held k → IfSome (part_by t ty k held) (IsPartOf t ty)
part_inside_by t ty k (Some Void) small there has = tt
part_inside_by t ty k (Some (Int width)) small there has = tt
part_inside_by t ty k (Some Ptr) small there has = tt
part_inside_by t ty k (Some (Array count item)) small there has = item_inside t ty k count item small there has
part_inside_by t ty k (Some (Struct first count packed)) small there has = struct_part_inside t ty k first count packed (slice_get (field_types t.fields first count) k) small there refl
part_inside_by t ty k (Some Opaque) small there has = tt
part_inside_by t ty k (Some (Pair width)) small there has = tt
part_inside_by t ty k None small there has = tt

pub part_inside : (t : Tables) (ty k : ℕ) → IsSmall t ty → HasPart (type_at t ty) k → IfSome (part_of t ty k) (IsPartOf t ty)
part_inside t ty k small has = part_inside_by t ty k (type_at t ty) small refl has
