-- How far the layouts of a list of types are worked out: Loop stands for those that aren't yet.
use Rattle.std.specs.Prelude.{ℕ, ◌≡◌, ◌<◌, Bool, true, false, not, List, length, count_by, slice_index_or}
use Rattle.ir_core.specs.declared.types.IrType.{IrType}
use Rattle.ir_core.specs.declared.types.IrType.TheVariants.{Void}
use Rattle.ir_core.specs.declared.types.TypeLayout.{TypeLayout}
use Rattle.ir_core.specs.declared.types.TypeLayout.TheVariants.{Known, NoSize, Loop}
use Rattle.ir_core.specs.Layout.{layout_at, layouts_within, type_layout, capped}

-- no layout, or none yet
abbrev pub is_loop : TypeLayout → Bool
is_loop (Known size align) = false
is_loop NoSize = false
is_loop Loop = true

-- how many types are laid out
abbrev pub laid_out : List TypeLayout → ℕ
laid_out layouts = count_by (λ l. not (is_loop l)) layouts

-- the type with a number
abbrev pub type_at : List IrType → ℕ → IrType
type_at types n = slice_index_or types n Void

-- what is laid out is right, by types at most as many deep as there are laid out
pub record IsPartial (types : List IrType) (fields : List ℕ) (layouts : List TypeLayout) : Type 0 where
  pub same : length layouts ≡ length types
  pub right : (n : ℕ) → is_loop (layout_at layouts n) ≡ false → layout_at layouts n ≡ capped (layout_at (layouts_within types fields (laid_out layouts)) n)

-- a type isn't laid out only where one that it holds isn't
abbrev pub IsClosedAt : List IrType → List ℕ → List TypeLayout → ℕ → Type 0
IsClosedAt types fields layouts n = is_loop (layout_at layouts n) ≡ true → is_loop (type_layout fields layouts (type_at types n)) ≡ true

-- no further type can be laid out
abbrev pub IsClosed : List IrType → List ℕ → List TypeLayout → Type 0
IsClosed types fields layouts = (n : ℕ) → n < length types → IsClosedAt types fields layouts n
