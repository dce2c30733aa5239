-- The steps of an address one by one: each index leads to a type, from which the next one goes on.
use Rattle.std.specs.Prelude.{ℕ, ◌≡◌, List, ◌∷◌, map, Option, Some, None, option_map, ◌++◌}
use Rattle.ir_core.specs.declared.types.IrType.{IrType}
use Rattle.ir_core.specs.declared.types.IrType.TheVariants.{Array, Struct}
use Rattle.ir_core.specs.declared.operands.Placed.{Placed}
use Rattle.ir_core.specs.declared.ir_module.Module.{Module}
use Rattle.ir_core.specs.NumberTypes.{type_of, field_type, constant_number}
use Rattle.ir_core.specs.IndexSteps.{AddressStep, scaled_step, field_step, inner_steps, step_before}
use Rattle.mi_code.specs.declared.operands.IndexStep.{IndexStep}
use Rattle.mi_code.specs.AddressCode.{step_code}
use Rattle.tag_insert.specs.SmallSteps.{IsSmallStep}

-- the step of an index into a type, and the number of the type that it leads to
abbrev pub inner_step : Module → IrType → Placed → Option (AddressStep × ℕ)
inner_step m (Array count item) index = Some (scaled_step m index item, item)
inner_step m (Struct first count packed) index =
    Some (field_step m first count packed index, field_type m first (constant_number index.operand))
inner_step m other index = None

-- the steps after a step
abbrev pub steps_after : Module → Option (AddressStep × ℕ) → List Placed → Option (List AddressStep)
steps_after m None indices = None
steps_after m (Some (step, ty)) indices = step_before step (inner_steps m (type_of m ty) indices)

-- what the code finds of it: the step in machine code, if its offset is small
abbrev pub IsInnerStep : Module → Option (AddressStep × ℕ) → Option (IndexStep × ℕ) → Type 0
IsInnerStep m None None = Unit {0}
IsInnerStep m None (Some found) = ⊥
IsInnerStep m (Some (step, ty)) None = IsSmallStep step → ⊥
IsInnerStep m (Some (step, ty)) (Some (code, inner)) = (code ≡ step_code m step) × (inner ≡ ty)

-- what the code finds of all further steps: none if there are none, else they stand after the first one
abbrev pub IsWalked : Module → (first : IndexStep) → Option (List AddressStep) → Option (List IndexStep) → Type 0
IsWalked m first None found = found ≡ None
IsWalked m first (Some more) found = found ≡ Some (first ∷ map (step_code m) more)

-- so far the code found these steps, and the rest goes on from a type
abbrev pub GoesOnFrom : Module → (whole : Option (List AddressStep)) → (done : List AddressStep) → (ty : ℕ) → List Placed → Type 0
GoesOnFrom m whole done ty rest = whole ≡ option_map (λ more. done ++ more) (inner_steps m (type_of m ty) rest)
