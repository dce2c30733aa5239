-- Layouts worked out one type deeper at a time, and where that ends.
use Rattle.std.proofs.Common.{◌≡◌, ℕ, ◌+◌, ◌-◌, ◌<◌, ◌≤◌, zero, suc, Bool, true, false, not, cond, List, [], ◌∷◌, map, set, fold, length, get_or, All, arith, refl, sym, ◌∙◌, ap, inl, inr, subst}
use Rattle.std.proofs.lemmas.Bool.{cases_lt, cases_eq, cases_Bool}
use Rattle.std.proofs.lemmas.List.{get_or-map, get_or_past, get_or-set_same, get_or-set_other, ext_get_or, set-get_or}
use Rattle.std.proofs.lemmas.List.Elements.{All-nil, All-cons, All-head, All-tail, All-weaker}
use Rattle.std.proofs.lemmas.List.Sums.{sum_by-set, count_by-le-length}
use Rattle.std.proofs.Math.ListN.{length-map, length-set}
use Rattle.ir_core.proofs.Capping.{type_layout-capped, layout_at-capped}
use Rattle.ir_core.specs.Layout.{array_layout, with_field, fields_layout, rounded, struct_layout, layout_at, capped, type_layout, field_types, layouts_within, layouts_of, exact_layouts}
use Rattle.ir_core.specs.Holding.{held}
use Rattle.ir_core.specs.Progress.{is_loop, laid_out, type_at, IsPartial, IsClosedAt, IsClosed}
use Rattle.ir_core.specs.declared.types.IrType.{IrType}
use Rattle.ir_core.specs.declared.types.IrType.TheVariants.{Void, Int, Ptr, Array, Struct, Opaque, Pair}
use Rattle.ir_core.specs.declared.types.TypeLayout.{TypeLayout}
use Rattle.ir_core.specs.declared.types.TypeLayout.TheVariants.{Known, NoSize, Loop}

-- this number's type is laid out
abbrev pub IsLaid : List TypeLayout → ℕ → Type 0
IsLaid layouts n = is_loop (layout_at layouts n) ≡ false

pub is_loop-capped : (l : TypeLayout) → is_loop (capped l) ≡ is_loop l
is_loop-capped (Known size align) = refl
is_loop-capped NoSize = refl
is_loop-capped Loop = refl

is_loop-rounded : (l : TypeLayout) → is_loop (rounded l) ≡ is_loop l
is_loop-rounded (Known size align) = refl
is_loop-rounded NoSize = refl
is_loop-rounded Loop = refl

is_loop-array : (count : ℕ) (l : TypeLayout) → is_loop (array_layout count l) ≡ is_loop l
is_loop-array count (Known size align) = refl
is_loop-array count NoSize = refl
is_loop-array count Loop = refl

pub loop_is : (l : TypeLayout) → is_loop l ≡ true → l ≡ Loop
loop_is (Known size align) h = cc
loop_is NoSize h = cc
loop_is Loop h = refl

pub not_loop : (l : TypeLayout) → (l ≡ Loop → ⊥) → is_loop l ≡ false
not_loop (Known size align) h = refl
not_loop NoSize h = refl
not_loop Loop h = absurd (h refl)

-- both are laid out where one more field is
with_field_laid : (packed : Bool) (a l : TypeLayout) → is_loop (with_field packed a l) ≡ false → (is_loop a ≡ false) × (is_loop l ≡ false)
with_field_laid packed (Known at most) (Known size align) h = (refl, refl)
with_field_laid packed (Known at most) NoSize h = (refl, refl)
with_field_laid packed (Known at most) Loop h = cc
with_field_laid packed NoSize (Known size align) h = (refl, refl)
with_field_laid packed NoSize NoSize h = (refl, refl)
with_field_laid packed NoSize Loop h = cc
with_field_laid packed Loop l h = cc

laid_with_field : (packed : Bool) (a l : TypeLayout) → is_loop a ≡ false → is_loop l ≡ false → is_loop (with_field packed a l) ≡ false
laid_with_field packed (Known at most) (Known size align) h k = refl
laid_with_field packed (Known at most) NoSize h k = refl
laid_with_field packed (Known at most) Loop h k = cc
laid_with_field packed NoSize (Known size align) h k = refl
laid_with_field packed NoSize NoSize h k = refl
laid_with_field packed NoSize Loop h k = cc
laid_with_field packed Loop l h k = cc

-- all fields are laid out where the struct is
fold_laid : (packed : Bool) (layouts : List TypeLayout) (a : TypeLayout) (ns : List ℕ) → is_loop (fold (with_field packed) a (map (layout_at layouts) ns)) ≡ false → (is_loop a ≡ false) × All (IsLaid layouts) ns
fold_laid packed layouts a [] h = (h, All-nil (IsLaid layouts))
fold_laid packed layouts a (n ∷ ns) h =
    let rest = fold_laid packed layouts (with_field packed a (layout_at layouts n)) ns h in
    let here = with_field_laid packed a (layout_at layouts n) rest.0 in
    (here.0, All-cons (IsLaid layouts) n ns here.1 rest.1)

laid_fold : (packed : Bool) (layouts : List TypeLayout) (a : TypeLayout) (ns : List ℕ) → is_loop a ≡ false → All (IsLaid layouts) ns → is_loop (fold (with_field packed) a (map (layout_at layouts) ns)) ≡ false
laid_fold packed layouts a [] h all = h
laid_fold packed layouts a (n ∷ ns) h all =
    laid_fold packed layouts (with_field packed a (layout_at layouts n)) ns
    (laid_with_field packed a (layout_at layouts n) h (All-head (IsLaid layouts) n ns all))
    (All-tail (IsLaid layouts) n ns all)

-- a type is laid out exactly where all that it holds is
pub parts_laid : (fields : List ℕ) (layouts : List TypeLayout) (t : IrType) → is_loop (type_layout fields layouts t) ≡ false → All (IsLaid layouts) (held fields t)
parts_laid fields layouts Void h = All-nil (IsLaid layouts)
parts_laid fields layouts (Int width) h = All-nil (IsLaid layouts)
parts_laid fields layouts Ptr h = All-nil (IsLaid layouts)
parts_laid fields layouts (Array count item) h =
    All-cons (IsLaid layouts) item [] (sym (is_loop-array count (layout_at layouts item)) ∙ h) (All-nil (IsLaid layouts))
parts_laid fields layouts (Struct first count packed) h =
    let ns : List ℕ = field_types fields first count in
    let whole : TypeLayout = fields_layout packed (map (layout_at layouts) ns) in
    let e : is_loop whole ≡ false = sym (is_loop-rounded whole) ∙ h in
    let both = fold_laid packed layouts (Known 0 1) ns e in
    both.1
parts_laid fields layouts Opaque h = All-nil (IsLaid layouts)
parts_laid fields layouts (Pair width) h = All-nil (IsLaid layouts)

pub laid_parts : (fields : List ℕ) (layouts : List TypeLayout) (t : IrType) → All (IsLaid layouts) (held fields t) → is_loop (type_layout fields layouts t) ≡ false
laid_parts fields layouts Void all = refl
laid_parts fields layouts (Int width) all = refl
laid_parts fields layouts Ptr all = refl
laid_parts fields layouts (Array count item) all = is_loop-array count (layout_at layouts item) ∙ All-head (IsLaid layouts) item [] all
laid_parts fields layouts (Struct first count packed) all =
    let ns : List ℕ = field_types fields first count in
    let whole : TypeLayout = fields_layout packed (map (layout_at layouts) ns) in
    is_loop-rounded whole ∙ laid_fold packed layouts (Known 0 1) ns refl all
laid_parts fields layouts Opaque all = refl
laid_parts fields layouts (Pair width) all = refl

-- equal layouts of what is held
abbrev Same : List TypeLayout → List TypeLayout → ℕ → Type 0
Same a b n = layout_at a n ≡ layout_at b n

map_same : (a b : List TypeLayout) (ns : List ℕ) → All (Same a b) ns → map (layout_at a) ns ≡ map (layout_at b) ns
map_same a b [] all = refl
map_same a b (n ∷ ns) all =
    let here : layout_at a n ≡ layout_at b n = All-head (Same a b) n ns all in
    let rest : map (layout_at a) ns ≡ map (layout_at b) ns = map_same a b ns (All-tail (Same a b) n ns all) in
    cc

-- a type's layout is that of what it holds
type_layout_same : (fields : List ℕ) (a b : List TypeLayout) (t : IrType) → All (Same a b) (held fields t) → type_layout fields a t ≡ type_layout fields b t
type_layout_same fields a b Void all = refl
type_layout_same fields a b (Int width) all = refl
type_layout_same fields a b Ptr all = refl
type_layout_same fields a b (Array count item) all = ap (array_layout count) (All-head (Same a b) item [] all)
type_layout_same fields a b (Struct first count packed) all = ap (struct_layout packed) (map_same a b (field_types fields first count) all)
type_layout_same fields a b Opaque all = refl
type_layout_same fields a b (Pair width) all = refl

pub length-within : (types : List IrType) (fields : List ℕ) (k : ℕ) → length (layouts_within types fields k) ≡ length types
length-within types fields zero = length-map types (λ _. Loop)
length-within types fields (suc k) = length-map types (type_layout fields (layouts_within types fields k))

-- a number past the end isn't laid out
pub past_is_loop : (layouts : List TypeLayout) (n : ℕ) → length layouts ≤ n → is_loop (layout_at layouts n) ≡ true
past_is_loop layouts n h = ap is_loop (get_or_past layouts n Loop h)

pub laid_is_within : (layouts : List TypeLayout) (n : ℕ) → IsLaid layouts n → n < length layouts
laid_is_within layouts n h =
    elim (cases_lt n (length layouts)) [
      | inl less ↦ less
      | inr past ↦ let no : is_loop (layout_at layouts n) ≡ true = past_is_loop layouts n past in cc
    ]

pub nothing_at_first : (types : List IrType) (fields : List ℕ) (n : ℕ) → layout_at (layouts_within types fields zero) n ≡ Loop
nothing_at_first types fields n =
    elim (cases_lt n (length types)) [
      | inl less ↦ get_or-map (λ _. Loop) types n Void Loop less
      | inr past ↦ let e : length (layouts_within types fields zero) ≡ length types = length-within types fields zero in get_or_past (layouts_within types fields zero) n Loop (omega arith)
    ]

pub within_more : (types : List IrType) (fields : List ℕ) (k n : ℕ) → n < length types → layout_at (layouts_within types fields (suc k)) n ≡ type_layout fields (layouts_within types fields k) (type_at types n)
within_more types fields k n h = get_or-map (type_layout fields (layouts_within types fields k)) types n Void Loop h

-- what is laid out stays so one type deeper
pub deeper : (types : List IrType) (fields : List ℕ) (k n : ℕ) → IsLaid (layouts_within types fields k) n → layout_at (layouts_within types fields (suc k)) n ≡ layout_at (layouts_within types fields k) n
deeper types fields zero n h = let no : is_loop (layout_at (layouts_within types fields zero) n) ≡ true = ap is_loop (nothing_at_first types fields n) in cc
deeper types fields (suc k) n h =
    let inside : n < length types = subst (λ m. n < m) (length-within types fields (suc k)) (laid_is_within (layouts_within types fields (suc k)) n h) in
    let t : IrType = type_at types n in
    let below : layout_at (layouts_within types fields (suc k)) n ≡ type_layout fields (layouts_within types fields k) t = within_more types fields k n inside in
    let above : layout_at (layouts_within types fields (suc (suc k))) n ≡ type_layout fields (layouts_within types fields (suc k)) t = within_more types fields (suc k) n inside in
    let laid : is_loop (type_layout fields (layouts_within types fields k) t) ≡ false = sym (ap is_loop below) ∙ h in
    let all : All (Same (layouts_within types fields (suc k)) (layouts_within types fields k)) (held fields t) =
    All-weaker (IsLaid (layouts_within types fields k)) (Same (layouts_within types fields (suc k)) (layouts_within types fields k)) (λ m known. deeper types fields k m known) (held fields t) (parts_laid fields (layouts_within types fields k) t laid) in
    above ∙ (type_layout_same fields (layouts_within types fields (suc k)) (layouts_within types fields k) t all ∙ sym below)

-- and any number of types deeper
deeper_by : (types : List IrType) (fields : List ℕ) (k n d : ℕ) → IsLaid (layouts_within types fields k) n → layout_at (layouts_within types fields (d + k)) n ≡ layout_at (layouts_within types fields k) n
deeper_by types fields k n zero h = ap (λ j. layout_at (layouts_within types fields j) n) (let e : 0 + k ≡ k = omega arith in e)
deeper_by types fields k n (suc d) h =
    let before : layout_at (layouts_within types fields (d + k)) n ≡ layout_at (layouts_within types fields k) n = deeper_by types fields k n d h in
    let e : suc d + k ≡ suc (d + k) = omega arith in
    ap (λ j. layout_at (layouts_within types fields j) n) e ∙ (deeper types fields (d + k) n (ap is_loop before ∙ h) ∙ before)

pub deeper_to : (types : List IrType) (fields : List ℕ) (k n j : ℕ) → k ≤ j → IsLaid (layouts_within types fields k) n → layout_at (layouts_within types fields j) n ≡ layout_at (layouts_within types fields k) n
deeper_to types fields k n j h laid =
    let e : j ≡ (j - k) + k = omega arith in
    ap (λ i. layout_at (layouts_within types fields i) n) e ∙ deeper_by types fields k n (j - k) laid

-- nothing is laid out at first
pub partial_first : (types : List IrType) (fields : List ℕ) (layouts : List TypeLayout) → layouts ≡ map (λ _. Loop) types → IsPartial types fields layouts
partial_first types fields layouts e = record {
  same = ap length e ∙ length-map types (λ _. Loop);
  right = λ n h. let no : is_loop (layout_at layouts n) ≡ true = ap (λ l. is_loop (layout_at l n)) e ∙ ap is_loop (nothing_at_first types fields n) in cc;
}

-- a type's layout by those that are right
right_one : (types : List IrType) (fields : List ℕ) (layouts : List TypeLayout) (n : ℕ) → IsPartial types fields layouts → n < length types → is_loop (type_layout fields layouts (type_at types n)) ≡ false → capped (type_layout fields layouts (type_at types n)) ≡ capped (layout_at (layouts_within types fields (suc (laid_out layouts))) n)
right_one types fields layouts n p h laid =
    let t : IrType = type_at types n in
    let exact : List TypeLayout = layouts_within types fields (laid_out layouts) in
    let all : All (Same layouts (map capped exact)) (held fields t) =
    All-weaker (IsLaid layouts) (Same layouts (map capped exact)) (λ m known. p.right m known ∙ sym (layout_at-capped exact m)) (held fields t) (parts_laid fields layouts t laid) in
    ap capped (type_layout_same fields layouts (map capped exact) t all) ∙ (type_layout-capped fields exact t ∙ ap capped (sym (within_more types fields (laid_out layouts) n h)))

-- one more is laid out
laid_out-set : (layouts : List TypeLayout) (n : ℕ) (l : TypeLayout) → n < length layouts → is_loop (layout_at layouts n) ≡ true → is_loop l ≡ false → laid_out (set layouts n l) ≡ suc (laid_out layouts)
laid_out-set layouts n l h was is =
    let f : TypeLayout → ℕ = λ x. cond (not (is_loop x)) 1 0 in
    let e : laid_out (set layouts n l) + f (get_or layouts n Loop) ≡ laid_out layouts + f l = sum_by-set f layouts n l Loop h in
    let old : f (get_or layouts n Loop) ≡ 0 = ap (λ b. cond (not b) 1 0) was in
    let new : f l ≡ 1 = ap (λ b. cond (not b) 1 0) is in
    omega arith

-- one more type laid out by what it holds
pub partial_more : (types : List IrType) (fields : List ℕ) (layouts : List TypeLayout) (n : ℕ) → IsPartial types fields layouts → n < length types → is_loop (layout_at layouts n) ≡ true → is_loop (capped (type_layout fields layouts (type_at types n))) ≡ false → IsPartial types fields (set layouts n (capped (type_layout fields layouts (type_at types n))))
partial_more types fields layouts n p h was is =
    let t : IrType = type_at types n in
    let l : TypeLayout = capped (type_layout fields layouts t) in
    let inside : n < length layouts = subst (λ k. n < k) (sym p.same) h in
    let new : List TypeLayout = set layouts n l in
    let more : laid_out new ≡ suc (laid_out layouts) = laid_out-set layouts n l inside was is in
    let laid : is_loop (type_layout fields layouts t) ≡ false = sym (is_loop-capped (type_layout fields layouts t)) ∙ is in
    record {
      same = length-set layouts n l ∙ p.same;
      right = λ m known.
          elim (cases_eq m n) [
            | inl e ↦
                let here : layout_at new n ≡ l = get_or-set_same layouts n l Loop inside in
                ap (layout_at new) e ∙ (here ∙ (right_one types fields layouts n p h laid ∙ (ap (λ k. capped (layout_at (layouts_within types fields k) n)) (sym more) ∙ ap (λ k. capped (layout_at (layouts_within types fields (laid_out new)) k)) (sym e))))
            | inr ne ↦
                let other : layout_at new m ≡ layout_at layouts m = get_or-set_other layouts n m l Loop ne in
                let was_laid : IsLaid layouts m = sym (ap is_loop other) ∙ known in
                let before : layout_at layouts m ≡ capped (layout_at (layouts_within types fields (laid_out layouts)) m) = p.right m was_laid in
                let deep : IsLaid (layouts_within types fields (laid_out layouts)) m =
                sym (is_loop-capped (layout_at (layouts_within types fields (laid_out layouts)) m)) ∙ (sym (ap is_loop before) ∙ was_laid) in
                other ∙ (before ∙ (ap capped (sym (deeper types fields (laid_out layouts) m deep)) ∙ ap (λ k. capped (layout_at (layouts_within types fields k) m)) (sym more)))
          ];
    }

pub laid_out_more : (types : List IrType) (fields : List ℕ) (layouts : List TypeLayout) (n : ℕ) (l : TypeLayout) → length layouts ≡ length types → n < length types → is_loop (layout_at layouts n) ≡ true → is_loop l ≡ false → laid_out layouts < laid_out (set layouts n l)
laid_out_more types fields layouts n l same h was is =
    let e : laid_out (set layouts n l) ≡ suc (laid_out layouts) = laid_out-set layouts n l (subst (λ k. n < k) (sym same) h) was is in
    omega arith

-- where a type can't be laid out, nothing changes
pub set_loop : (layouts : List TypeLayout) (n : ℕ) (l : TypeLayout) → is_loop (layout_at layouts n) ≡ true → is_loop l ≡ true → set layouts n l ≡ layouts
set_loop layouts n l was is =
    let e : l ≡ layout_at layouts n = loop_is l is ∙ sym (loop_is (layout_at layouts n) was) in
    ap (set layouts n) e ∙ set-get_or layouts n Loop

pub closed_here : (types : List IrType) (fields : List ℕ) (layouts : List TypeLayout) (n : ℕ) → is_loop (capped (type_layout fields layouts (type_at types n))) ≡ true → IsClosedAt types fields layouts n
closed_here types fields layouts n h = λ _. sym (is_loop-capped (type_layout fields layouts (type_at types n))) ∙ h

-- where no further type can be laid out, all that are laid out at any depth are
complete : (types : List IrType) (fields : List ℕ) (layouts : List TypeLayout) → IsClosed types fields layouts → (k n : ℕ) → IsLaid (layouts_within types fields k) n → IsLaid layouts n
complete types fields layouts closed zero n h = let no : is_loop (layout_at (layouts_within types fields zero) n) ≡ true = ap is_loop (nothing_at_first types fields n) in cc
complete types fields layouts closed (suc k) n h =
    let inside : n < length types = subst (λ m. n < m) (length-within types fields (suc k)) (laid_is_within (layouts_within types fields (suc k)) n h) in
    let t : IrType = type_at types n in
    let e : layout_at (layouts_within types fields (suc k)) n ≡ type_layout fields (layouts_within types fields k) t = within_more types fields k n inside in
    let all : All (IsLaid layouts) (held fields t) =
    All-weaker (IsLaid (layouts_within types fields k)) (IsLaid layouts) (λ m known. complete types fields layouts closed k m known) (held fields t)
    (parts_laid fields (layouts_within types fields k) t (sym (ap is_loop e) ∙ h)) in
    let laid : is_loop (type_layout fields layouts t) ≡ false = laid_parts fields layouts t all in
    elim (cases_Bool (is_loop (layout_at layouts n))) [
      | inl not_laid ↦ let no : is_loop (type_layout fields layouts t) ≡ true = closed n inside not_laid in cc
      | inr known ↦ known
    ]

same_at : (types : List IrType) (fields : List ℕ) (layouts : List TypeLayout) → IsPartial types fields layouts → IsClosed types fields layouts → (n : ℕ) → layout_at layouts n ≡ capped (layout_at (exact_layouts types fields) n)
same_at types fields layouts p closed n =
    elim (cases_Bool (is_loop (layout_at layouts n))) [
      | inr laid ↦
          let few : laid_out layouts ≤ length layouts = count_by-le-length (λ l. not (is_loop l)) layouts in
          let e : length layouts ≡ length types = p.same in
          let before : layout_at layouts n ≡ capped (layout_at (layouts_within types fields (laid_out layouts)) n) = p.right n laid in
          let deep : IsLaid (layouts_within types fields (laid_out layouts)) n =
          sym (is_loop-capped (layout_at (layouts_within types fields (laid_out layouts)) n)) ∙ (sym (ap is_loop before) ∙ laid) in
          before ∙ ap capped (sym (deeper_to types fields (laid_out layouts) n (length types) (omega arith) deep))
      | inl not_laid ↦
          elim (cases_Bool (is_loop (layout_at (exact_layouts types fields) n))) [
            | inl never ↦ loop_is (layout_at layouts n) not_laid ∙ sym (ap capped (loop_is (layout_at (exact_layouts types fields) n) never))
            | inr deep ↦ let no : is_loop (layout_at layouts n) ≡ false = complete types fields layouts closed (length types) n deep in cc
          ]
    ]

-- and the layouts are those of the types
pub closed_layouts : (types : List IrType) (fields : List ℕ) (layouts : List TypeLayout) → IsPartial types fields layouts → IsClosed types fields layouts → layouts ≡ layouts_of types fields
closed_layouts types fields layouts p closed =
    let exact : List TypeLayout = exact_layouts types fields in
    let long : length (layouts_of types fields) ≡ length exact = length-map exact capped in
    ext_get_or Loop layouts (layouts_of types fields) (p.same ∙ (sym (length-within types fields (length types)) ∙ sym long))
    (λ n _. same_at types fields layouts p closed n ∙ sym (layout_at-capped exact n))
