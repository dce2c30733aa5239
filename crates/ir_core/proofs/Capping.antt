-- Capped sizes: whether sizes are capped on the way or in the end, what is kept is the same.
use Rattle.std.proofs.Common.{◌≡◌, ℕ, ◌+◌, ◌*◌, ◌<◌, ◌≤◌, zero, suc, min, max, Bool, List, [], ◌∷◌, ◌++◌, map, fold, length, get_or, take, arith, refl, sym, ◌∙◌, ap, inl, inr, zero-mul, suc-mul}
use Rattle.std.proofs.lemmas.Bool.{cases_lt}
use Rattle.std.proofs.lemmas.List.{take_more, map-append}
use Rattle.std.proofs.lemmas.List.Sums.{fold-append}
use Rattle.std.proofs.Math.ListN.{get_or-map}
use Rattle.ir_core.specs.Layout.{size_cap, padding, array_layout, field_align, field_start, with_field, fields_layout, rounded, layout_at, capped, type_layout, field_types}
use Rattle.ir_core.specs.declared.types.IrType.{IrType}
use Rattle.ir_core.specs.declared.types.IrType.TheVariants.{Void, Int, Ptr, Array, Struct, Opaque, Pair}
use Rattle.ir_core.specs.declared.types.TypeLayout.{TypeLayout}
use Rattle.ir_core.specs.declared.types.TypeLayout.TheVariants.{Known, NoSize, Loop}

-- a number that grows from another may take it capped
min_of_grown : (f : ℕ → ℕ) → ((n : ℕ) → n ≤ f n) → (at c : ℕ) → min (f (min at c)) c ≡ min (f at) c
min_of_grown f grows at c =
    elim (cases_lt at c) [
      | inl h ↦ let e : min at c ≡ at = omega arith in ap (λ n. min (f n) c) e
      | inr h ↦
          let e : min at c ≡ c = omega arith in
          let here : c ≤ f c = grows c in
          let there : at ≤ f at = grows at in
          let both : min (f c) c ≡ min (f at) c = omega arith in
          ap (λ n. min (f n) c) e ∙ both
    ]

-- a product may take a capped part
min_of_product : (count size c : ℕ) → min (count * min size c) c ≡ min (count * size) c
min_of_product zero size c = rw (zero-mul (min size c), zero-mul size) refl
min_of_product (suc n) size c =
    elim (cases_lt size c) [
      | inl h ↦ let e : min size c ≡ size = omega arith in ap (λ k. min (suc n * k) c) e
      | inr h ↦
          let e : min size c ≡ c = omega arith in
          let here : suc n * c ≡ n * c + c = suc-mul n c in
          let there : suc n * size ≡ n * size + size = suc-mul n size in
          let both : min (suc n * c) c ≡ min (suc n * size) c = omega arith in
          ap (λ k. min (suc n * k) c) e ∙ both
    ]

pub array_layout-capped : (count : ℕ) (item : TypeLayout) → capped (array_layout count (capped item)) ≡ capped (array_layout count item)
array_layout-capped count (Known size align) = ap (λ n. Known n align) (min_of_product count size size_cap)
array_layout-capped count NoSize = refl
array_layout-capped count Loop = refl

pub rounded-capped : (l : TypeLayout) → capped (rounded (capped l)) ≡ capped (rounded l)
rounded-capped (Known size align) = ap (λ n. Known n align) (min_of_grown (λ n. n + padding n align) (λ n. omega arith) size size_cap)
rounded-capped NoSize = refl
rounded-capped Loop = refl

-- the fields so far may be capped
pub with_field-capped_so_far : (packed : Bool) (so_far field : TypeLayout) → capped (with_field packed (capped so_far) field) ≡ capped (with_field packed so_far field)
with_field-capped_so_far packed (Known at most) (Known size align) =
    ap (λ n. Known n (max most (field_align packed align))) (min_of_grown (λ n. (n + padding n (field_align packed align)) + size) (λ n. omega arith) at size_cap)
with_field-capped_so_far packed (Known at most) NoSize = refl
with_field-capped_so_far packed (Known at most) Loop = refl
with_field-capped_so_far packed NoSize field = refl
with_field-capped_so_far packed Loop field = refl

-- the field may be capped
pub with_field-capped_field : (packed : Bool) (so_far field : TypeLayout) → capped (with_field packed so_far (capped field)) ≡ capped (with_field packed so_far field)
with_field-capped_field packed (Known at most) (Known size align) =
    let start : ℕ = field_start packed at align in
    let e : min (start + min size size_cap) size_cap ≡ min (start + size) size_cap = omega arith in
    ap (λ n. Known n (max most (field_align packed align))) e
with_field-capped_field packed (Known at most) NoSize = refl
with_field-capped_field packed (Known at most) Loop = refl
with_field-capped_field packed NoSize (Known size align) = refl
with_field-capped_field packed NoSize NoSize = refl
with_field-capped_field packed NoSize Loop = refl
with_field-capped_field packed Loop field = refl

-- one more field behind capped ones
pub with_field_same : (packed : Bool) (a b field : TypeLayout) → capped a ≡ capped b → capped (with_field packed a field) ≡ capped (with_field packed b field)
with_field_same packed a b field e =
    sym (with_field-capped_so_far packed a field) ∙ (ap (λ l. capped (with_field packed l field)) e ∙ with_field-capped_so_far packed b field)

-- a layout in a list whose layouts are capped
pub layout_at-capped : (layouts : List TypeLayout) (n : ℕ) → layout_at (map capped layouts) n ≡ capped (layout_at layouts n)
layout_at-capped layouts n = get_or-map capped layouts n Loop

-- the fields from some on, in a list whose layouts are capped
pub fold-capped : (packed : Bool) (layouts : List TypeLayout) (a b : TypeLayout) (ns : List ℕ) → capped a ≡ capped b → capped (fold (with_field packed) a (map (layout_at (map capped layouts)) ns)) ≡ capped (fold (with_field packed) b (map (layout_at layouts) ns))
fold-capped packed layouts a b [] e = e
fold-capped packed layouts a b (n ∷ ns) e =
    fold-capped packed layouts (with_field packed a (layout_at (map capped layouts) n)) (with_field packed b (layout_at layouts n)) ns
    (ap (λ l. capped (with_field packed a l)) (layout_at-capped layouts n) ∙ (with_field-capped_field packed a (layout_at layouts n) ∙ with_field_same packed a b (layout_at layouts n) e))

-- a type's layout may be worked out from capped ones
pub type_layout-capped : (fields : List ℕ) (layouts : List TypeLayout) (t : IrType) → capped (type_layout fields (map capped layouts) t) ≡ capped (type_layout fields layouts t)
type_layout-capped fields layouts Void = refl
type_layout-capped fields layouts (Int width) = refl
type_layout-capped fields layouts Ptr = refl
type_layout-capped fields layouts (Array count item) =
    ap (λ l. capped (array_layout count l)) (layout_at-capped layouts item) ∙ array_layout-capped count (layout_at layouts item)
type_layout-capped fields layouts (Struct first count packed) =
    let ns : List ℕ = field_types fields first count in
    let a : TypeLayout = fields_layout packed (map (layout_at (map capped layouts)) ns) in
    let b : TypeLayout = fields_layout packed (map (layout_at layouts) ns) in
    let e : capped a ≡ capped b = fold-capped packed layouts (Known 0 1) (Known 0 1) ns refl in
    sym (rounded-capped a) ∙ (ap (λ l. capped (rounded l)) e ∙ rounded-capped b)
type_layout-capped fields layouts Opaque = refl
type_layout-capped fields layouts (Pair width) = refl

-- one more field of a list
pub fields_layout_more : (packed : Bool) (layouts : List TypeLayout) (ns : List ℕ) (i : ℕ) (so_far next : TypeLayout) → i < length ns → so_far ≡ capped (fields_layout packed (map (layout_at layouts) (take i ns))) → next ≡ capped (with_field packed so_far (layout_at layouts (get_or ns i 0))) → next ≡ capped (fields_layout packed (map (layout_at layouts) (take (i + 1) ns)))
fields_layout_more packed layouts ns i so_far next h e made =
    let here : TypeLayout = layout_at layouts (get_or ns i 0) in
    let before : List ℕ = take i ns in
    let f : ℕ → TypeLayout = layout_at layouts in
    let whole : TypeLayout = fields_layout packed (map f before) in
    let split : map f (take (i + 1) ns) ≡ map f before ++ here ∷ [] = ap (map f) (take_more ns i 0 h) ∙ map-append f before (get_or ns i 0 ∷ []) in
    let folded : fields_layout packed (map f (take (i + 1) ns)) ≡ with_field packed whole here = ap (fields_layout packed) split ∙ fold-append (with_field packed) (Known 0 1) (map f before) (here ∷ []) in
    made ∙ (ap (λ l. capped (with_field packed l here)) e ∙ (with_field-capped_so_far packed whole here ∙ ap capped (sym folded)))
