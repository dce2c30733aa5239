-- Fields begin within their struct, and each has a size if the struct has one.
use Rattle.std.proofs.Common.{◌≡◌, ap, refl, arith, ℕ, zero, suc, ◌<◌, ◌≤◌, ◌+◌, List, [], ◌∷◌, length, take, fold, Bool}
use Rattle.ir_core.specs.declared.types.TypeLayout.{TypeLayout}
use Rattle.ir_core.specs.declared.types.TypeLayout.TheVariants.{Known, NoSize, Loop}
use Rattle.ir_core.specs.Layout.{field_start, with_field, rounded, layout_at, layout_size, layout_align}

start-above : (packed : Bool) (at align : ℕ) → at ≤ field_start packed at align
start-above packed at align = omega arith

-- the layout so far says a size, and it isn't above another one
abbrev pub IsBelow : TypeLayout → ℕ → Type 0
IsBelow layout size = (at most : ℕ) × (layout ≡ Known at most) × (at ≤ size)

one-before : (packed : Bool) (so_far field : TypeLayout) (size : ℕ) → IsBelow (with_field packed so_far field) size → IsBelow so_far size
one-before packed (Known at most) (Known own align) size (after, greatest, same, less) =
    let ends : field_start packed at align + own ≡ after = ap layout_size same in
    let above = start-above packed at align in
    (at, most, refl, omega (arith, ends, above, less))
one-before packed (Known at most) NoSize size (after, greatest, same, less) = cc
one-before packed (Known at most) Loop size (after, greatest, same, less) = cc
one-before packed NoSize (Known own align) size (after, greatest, same, less) = cc
one-before packed NoSize NoSize size (after, greatest, same, less) = cc
one-before packed NoSize Loop size (after, greatest, same, less) = cc
one-before packed Loop field size (after, greatest, same, less) = cc

all-before :
    (packed : Bool) (fields : List TypeLayout) (so_far : TypeLayout) (size : ℕ) → IsBelow (fold (with_field packed) so_far fields) size
    → IsBelow so_far size
all-before packed [] so_far size below = below
all-before packed (field ∷ fields) so_far size below = one-before packed so_far field size (all-before packed fields (with_field packed so_far field) size below)

-- the field with a number begins within the struct, and has a size
pub record FieldInside (packed : Bool) (so_far : TypeLayout) (fields : List TypeLayout) (k size : ℕ) : Type 0 where
  pub begins : field_start packed (layout_size (fold (with_field packed) so_far (take k fields))) (layout_align (layout_at fields k)) ≤ size
  pub own : ℕ
  pub align : ℕ
  pub known : layout_at fields k ≡ Known own align

first-inside :
    (packed : Bool) (so_far field : TypeLayout) (fields : List TypeLayout) (size : ℕ) → IsBelow (with_field packed so_far field) size
    → FieldInside packed so_far (field ∷ fields) 0 size
first-inside packed (Known at most) (Known own align) fields size (after, greatest, same, less) =
    let ends : field_start packed at align + own ≡ after = ap layout_size same in
    record { begins = omega (arith, ends, less); own = own; align = align; known = refl }
first-inside packed (Known at most) NoSize fields size (after, greatest, same, less) = cc
first-inside packed (Known at most) Loop fields size (after, greatest, same, less) = cc
first-inside packed NoSize (Known own align) fields size (after, greatest, same, less) = cc
first-inside packed NoSize NoSize fields size (after, greatest, same, less) = cc
first-inside packed NoSize Loop fields size (after, greatest, same, less) = cc
first-inside packed Loop field fields size (after, greatest, same, less) = cc

pub field-inside :
    (packed : Bool) (fields : List TypeLayout) (so_far : TypeLayout) (k size : ℕ) → IsBelow (fold (with_field packed) so_far fields) size
    → k < length fields → FieldInside packed so_far fields k size
field-inside packed [] so_far k size below lt = absurd (omega (arith, lt))
field-inside packed (field ∷ fields) so_far zero size below lt =
    first-inside packed so_far field fields size (all-before packed fields (with_field packed so_far field) size below)
field-inside packed (field ∷ fields) so_far (suc k) size below lt =
    let inside = field-inside packed fields (with_field packed so_far field) k size below (omega (arith, lt)) in
    record { begins = inside.begins; own = inside.own; align = inside.align; known = inside.known }

-- the fields of a struct end within its size
pub rounded-below : (layout : TypeLayout) (size align : ℕ) → rounded layout ≡ Known size align → IsBelow layout size
rounded-below (Known end most) size align same = let whole = ap layout_size same in (end, most, refl, omega (arith, whole))
rounded-below NoSize size align same = cc
rounded-below Loop size align same = cc
