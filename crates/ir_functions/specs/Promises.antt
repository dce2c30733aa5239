-- What makes a function one whose names are resolved: the types of the module that it is part of.
use Rattle.std.specs.Prelude.{◌≡◌, ℕ, ◌+◌, ◌≤◌, List, slice_get, Some}
use Rattle.ir_core.specs.declared.types.IrType.{IrType}
use Rattle.ir_core.specs.declared.types.IrType.TheVariants.{Void, Int, Ptr, Pair}
use Rattle.ir_core.specs.declared.ir_module.Module.{Module}
use Rattle.ir_core.specs.Externals.{IsWidth}
use Rattle.ir_core.specs.Progress.{type_at}
use Rattle.ir_grammar.specs.declared.spelled.SpelledType.TheVariants as spelled
use Rattle.ir_functions.specs.Scope.{Scope, spelled_types}

-- the types of a module end with those of values whose type isn't spelled, after so many spelled ones
pub record HasGivenTypes (types : List IrType) (after : ℕ) : Type 0 where
  pub pointer : type_at types after ≡ Ptr
  pub void : type_at types (after + 1) ≡ Void
  pub integers : (width : ℕ) → 1 ≤ width → width ≤ 128 → type_at types (after + 1 + width) ≡ Int width
  pub pairs : (width : ℕ) → 1 ≤ width → width ≤ 128 → type_at types (after + 129 + width) ≡ Pair width

-- what resolving a function relies on of the module's types
pub record HasTypes (s : Scope) (m : Module) : Type 0 where
  pub same : s.tables.types ≡ m.types
  pub numbers : s.names.numbers ≡ s.tables.numbers
  pub given : HasGivenTypes m.types (spelled_types s)
  pub widths : (n width : ℕ) → slice_get m.types n ≡ Some (Int width) → IsWidth width
  pub voids : (n : ℕ) → slice_get s.names.types n ≡ Some spelled.Void → type_at m.types n ≡ Void
