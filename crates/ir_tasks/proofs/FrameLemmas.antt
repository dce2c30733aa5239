-- Laws of the registers of a frame.
use Rattle.std.proofs.Common.{◌≡◌, ℕ, zero, suc, ◌≤◌, List, [], ◌∷◌, length, refl, ap, arith}
use Rattle.std.specs.Prelude.{slice_set}
use Rattle.ir_tasks.specs.Frames.{Frame, with_register}

-- a write past the end changes nothing
set-past : (xs : List ℕ) (i n : ℕ) → length xs ≤ i → slice_set xs i n ≡ xs
set-past [] i n h = refl
set-past (x ∷ xs) zero n h = absurd (omega arith)
set-past (x ∷ xs) (suc i) n h = ap (λ rest. x ∷ rest) (set-past xs i n (omega arith))

pub with_register-past : (frame : Frame) (r n : ℕ) → length frame.registers ≤ r → with_register frame r n ≡ frame
with_register-past frame r n h = ap (λ (registers : List ℕ). record frame { registers = registers }) (set-past frame.registers r n h)
