-- Which types hold which, and which hold themselves, by their numbers.
use Rattle.std.specs.Prelude.{ℕ, ◌<◌, ◌≤◌, List, [], ◌∷◌, length}
use Rattle.std.specs.List.{Contains}
use Rattle.ir_core.specs.declared.types.IrType.{IrType}
use Rattle.ir_core.specs.declared.types.IrType.TheVariants.{Void, Int, Ptr, Array, Struct, Opaque, Pair}
use Rattle.ir_core.specs.Layout.{field_types}
use Rattle.ir_core.specs.Progress.{type_at}

-- the numbers of the types that a type holds: the item of its array, or its fields
abbrev pub held : List ℕ → IrType → List ℕ
held fields Void = []
held fields (Int width) = []
held fields Ptr = []
held fields (Array count item) = item ∷ []
held fields (Struct first count packed) = field_types fields first count
held fields Opaque = []
held fields (Pair width) = []

module _ (types : List IrType) (fields : List ℕ) where
  -- a type holds another. A number that names no type counts as one that holds itself
  pub data Holds : ℕ → ℕ → Type 0 where
    part : {n m : ℕ} → n < length types → Contains (held fields (type_at types n)) m → Holds n m
    nowhere : {n : ℕ} → length types ≤ n → Holds n n

  -- a chain of holding leads from a type to another, over others or none
  pub data Leads : ℕ → ℕ → Type 0 where
    at_once : {n m : ℕ} → Holds n m → Leads n m
    over : {n m k : ℕ} → Holds n m → Leads m k → Leads n k

  -- a type holds itself by a chain, or a chain leads from it to one that does
  pub data IsCircular : ℕ → Type 0 where
    itself : {n : ℕ} → Leads n n → IsCircular n
    another : {n m : ℕ} → Leads n m → Leads m m → IsCircular n
