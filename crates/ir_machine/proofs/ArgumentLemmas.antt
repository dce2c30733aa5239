-- Arguments by their places.
use Rattle.std.proofs.Common.{◌≡◌, ℕ, zero, suc, List, [], ◌∷◌, refl}
use Rattle.std.specs.Prelude.{slice_get, unwrap_or}
use Rattle.mi_code.specs.declared.operands.MiOperand.{MiOperand}
use Rattle.mi_code.specs.declared.operands.MiOperand.TheVariants.{Num}
use Rattle.ir_machine.specs.Operands.{argument_at}

pub argument_at-get : (args : List MiOperand) (k : ℕ) → argument_at args k ≡ unwrap_or (slice_get args k) (Num 0)
argument_at-get [] zero = refl
argument_at-get [] (suc k) = refl
argument_at-get (arg ∷ args) zero = refl
argument_at-get (arg ∷ args) (suc k) = argument_at-get args k
