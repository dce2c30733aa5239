-- The address computation of `getelementptr` (LLVM Language Reference, "'getelementptr' Instruction") as a list of steps,
-- which the source's semantics and the instrumented code share: the first index counts values of the source type, and
-- each further one goes into the type so far.
use Rattle.std.specs.Prelude.{ℕ, Bool, List, [], ◌∷◌, Option, Some, None, option_map}
use Rattle.ir_core.specs.declared.types.IrType.{IrType}
use Rattle.ir_core.specs.declared.types.IrType.TheVariants.{Void, Int, Ptr, Array, Struct, Opaque, Pair}
use Rattle.ir_core.specs.declared.operands.Placed.{Placed}
use Rattle.ir_core.specs.declared.ir_module.Module.{Module}
use Rattle.ir_core.specs.NumberTypes.{type_of, alloc_size, field_type, field_offset, constant_number}

-- what an index adds: an operand's value with its sign, times so many bytes; or a field's offset in bytes
pub data AddressStep : Type 0 where
  Scaled : Placed → ℕ → AddressStep
  Offset : ℕ → AddressStep

-- an index that counts values of a type
abbrev pub scaled_step : Module → Placed → ℕ → AddressStep
scaled_step m index ty = Scaled index (alloc_size m ty)

-- an index that is the number of a field
abbrev pub field_step : Module → (first count : ℕ) → (packed : Bool) → Placed → AddressStep
field_step m first count packed index = Offset (field_offset m first count packed (constant_number index.operand))

-- one more step before others
abbrev pub step_before : AddressStep → Option (List AddressStep) → Option (List AddressStep)
step_before step steps = option_map (λ more. step ∷ more) steps

-- The steps of the indices after the first one: in an array they count items, and in a struct they are numbers of fields.
-- There are none for an index into a type without parts.
unfoldable pub inner_steps : Module → IrType → List Placed → Option (List AddressStep)
inner_steps m type [] = Some []
inner_steps m (Array count item) (index ∷ indices) = step_before (scaled_step m index item) (inner_steps m (type_of m item) indices)
inner_steps m (Struct first count packed) (index ∷ indices) =
    step_before (field_step m first count packed index)
    (inner_steps m (type_of m (field_type m first (constant_number index.operand))) indices)
inner_steps m Void (index ∷ indices) = None
inner_steps m (Int width) (index ∷ indices) = None
inner_steps m Ptr (index ∷ indices) = None
inner_steps m Opaque (index ∷ indices) = None
inner_steps m (Pair width) (index ∷ indices) = None

-- the steps of all indices, for the number of the source type
abbrev pub index_steps : Module → ℕ → List Placed → Option (List AddressStep)
index_steps m ty [] = Some []
index_steps m ty (index ∷ indices) = step_before (scaled_step m index ty) (inner_steps m (type_of m ty) indices)
