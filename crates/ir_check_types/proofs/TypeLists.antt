-- Lists of types of different lengths are not the same.
use Rattle.std.proofs.Common.{◌≡◌, ◌≢◌, ℕ, suc, List, [], ◌∷◌, length, Bool, true, false, ◌&&◌, refl, ap}
use Rattle.ir_core.specs.declared.types.IrType.{IrType}
use Rattle.ir_core.specs.declared.ir_module.Module.{Module}
use Rattle.ir_core.specs.NumberTypes.{type_of}
use Rattle.ir_check_types.specs.Operands.{is_same}
use Rattle.ir_check_types.specs.Rules.{are_types}

and_false : (b : Bool) (c : Bool) → c ≡ false → (b && c) ≡ false
and_false true c e = e
and_false false c e = refl

pub other_lengths : (m : Module) (numbers : List ℕ) (types : List IrType) → length numbers ≢ length types → are_types m numbers types ≡ false
other_lengths m [] [] h = absurd (h refl)
other_lengths m [] (type ∷ types) h = refl
other_lengths m (ty ∷ numbers) [] h = refl
other_lengths m (ty ∷ numbers) (type ∷ types) h =
    and_false (is_same (type_of m ty) type) (are_types m numbers types) (other_lengths m numbers types (λ e. h (ap (λ n. suc n) e)))
