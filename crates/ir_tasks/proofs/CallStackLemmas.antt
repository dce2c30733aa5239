-- What registers, calls and returns do to the frames of a task.
use Rattle.std.proofs.Common.{◌≡◌, ℕ, suc, ◌+◌, ◌-◌, ◌≤◌, List, [], ◌∷◌, ◌++◌, length, set, take, refl, ap, arith}
use Rattle.std.specs.Prelude.{reverse, replicate}
use Rattle.std.proofs.lemmas.List.{drop-set-add, take-set-le, drop_at, take_at, take_all, reverse-append}
use Rattle.ir_tasks.specs.declared.activation.Activation.{Activation}
use Rattle.ir_tasks.specs.Frames.{with_register}
use Rattle.ir_tasks.specs.CallStacks.{frames_of, calls_of, called, fresh_frame}

pub length-frames_of : (registers : List ℕ) (activations : List Activation) → length (frames_of registers activations) ≡ length activations
unfolding frames_of
length-frames_of registers [] = refl
length-frames_of registers (a ∷ older) = ap (λ n. suc n) (length-frames_of (take a.base registers) older)

-- a register of the newest frame is set
pub calls-set : (registers : List ℕ) (newest : Activation) (older : List Activation) (r v : ℕ)
    → calls_of (set registers (newest.base + r) v) newest older
    ≡ record (calls_of registers newest older) { frame = with_register (calls_of registers newest older).frame r v }
calls-set registers newest older r v =
    let below : newest.base ≤ newest.base + r = omega arith in
    rw (drop-set-add newest.base registers r v, take-set-le newest.base registers (newest.base + r) v below) refl

-- the newest activation among the others, the oldest first
reverse-pushed : (older : List Activation) (newest : Activation) → reverse (older ++ newest ∷ []) ≡ newest ∷ reverse older
reverse-pushed older newest = reverse-append older (newest ∷ [])

-- a call
pub calls-called : (registers : List ℕ) (newest new : Activation) (older : List Activation) (count : ℕ) → new.base ≡ length registers
    → calls_of (registers ++ replicate count 0) new (older ++ newest ∷ [])
    ≡ called (calls_of registers newest older) (fresh_frame new.func count new.place new.chain)
unfolding frames_of
calls-called registers newest new older count at =
    rw (at, drop_at registers (replicate count 0) (length registers) refl, take_at registers (replicate count 0) (length registers) refl, reverse-pushed older newest) refl

-- the callers of a frame, before it ends
pub callers-before : (registers : List ℕ) (newest caller : Activation) (older before : List Activation) → before ≡ older ++ caller ∷ []
    → (calls_of registers newest before).callers
    ≡ (calls_of (take newest.base registers) caller older).frame ∷ (calls_of (take newest.base registers) caller older).callers
unfolding frames_of
callers-before registers newest caller older before is = rw (is, reverse-pushed older caller) refl

-- a task of one frame has no callers
pub callers-none : (registers : List ℕ) (newest : Activation) (before : List Activation) → before ≡ [] → (calls_of registers newest before).callers ≡ []
unfolding frames_of
callers-none registers newest before is = rw is refl

-- a list that is filled up with zeros
pub filled-up : (xs : List ℕ) (n count : ℕ) → n ≡ length xs + count → take n xs ++ replicate (n - length xs) 0 ≡ xs ++ replicate count 0
filled-up xs n count is =
    let whole : length xs ≤ n = omega arith in
    let left : n - length xs ≡ count = omega arith in
    rw (take_all n xs whole, left) refl
