-- Arguments by their places.
use Rattle.std.proofs.Common.{◌≡◌, ℕ, zero, suc, List, [], ◌∷◌, Some, None, refl, ap}
use Rattle.std.specs.Prelude.{slice_get}
use Rattle.ir_core.specs.declared.operands.Placed.{Placed}
use Rattle.mi_code.specs.declared.operands.MiOperand.TheVariants.{Num}
use Rattle.mi_code.specs.MachineOperands.{operand_of, argument}

pub argument-some : (args : List Placed) (k : ℕ) (arg : Placed) → slice_get args k ≡ Some arg → argument args k ≡ operand_of arg
argument-some [] k arg found = cc
argument-some (first ∷ args) zero arg found = let same : first ≡ arg = cc in ap operand_of same
argument-some (first ∷ args) (suc k) arg found = argument-some args k arg found

pub argument-none : (args : List Placed) (k : ℕ) → slice_get args k ≡ None → argument args k ≡ Num 0
argument-none [] k none = refl
argument-none (first ∷ args) zero none = cc
argument-none (first ∷ args) (suc k) none = argument-none args k none
