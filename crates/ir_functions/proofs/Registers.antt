-- Each register after the parameters is the result of just one instruction.
use Rattle.std.proofs.Common.{◌≡◌, ℕ, zero, suc, ◌+◌, ◌<◌, ◌≤◌, ◌⊎◌, inl, inr, List, [], ◌∷◌, length, Bool, true, false, Option, Some, None, if◌then◌else◌, arith, refl, sym, ap, ◌∙◌}
use Rattle.std.specs.List.{slice_get}
use Rattle.ir_core.specs.declared.ir_module.Inst.{Inst}
use Rattle.ir_grammar.specs.declared.spelled_bodies.SpelledInstruction.{SpelledInstruction}
use Rattle.ir_functions.specs.Scope.{Scope}
use Rattle.ir_functions.specs.Instructions.{has_register, value_type, instruction}
use Rattle.ir_functions.specs.Functions.{is_variable, instructions_from, register_types}

-- an instruction with a register has this one
result_by : (b : Bool) (r n : ℕ) → (if b then Some r else None) ≡ Some n → (b ≡ true) × (r ≡ n)
result_by true r n h = (refl, cc)
result_by false r n h = absurd (let e : None ≡ Some n = h in cc)

-- ---- within

within_by : (b : Bool) (r n t : ℕ) (rest : List ℕ) → ((if b then r + 1 else r) ≤ n) × (n < (if b then r + 1 else r) + length rest)
    → (r ≤ n) × (n < r + length (if b then t ∷ rest else rest))
within_by true r n t rest h = (omega (arith, h.0), omega (arith, h.1))
within_by false r n t rest h = h

first_by : (b : Bool) (r n t : ℕ) (rest : List ℕ) → (b ≡ true) × (r ≡ n) → (r ≤ n) × (n < r + length (if b then t ∷ rest else rest))
first_by true r n t rest h = (omega (arith, h.1), omega (arith, h.1))
first_by false r n t rest h = absurd (let e : false ≡ true = h.0 in cc)

pub results_within : (s : Scope) (r v : ℕ) (is : List SpelledInstruction) (i n : ℕ) (inst : Inst)
    → slice_get (instructions_from s r v is) i ≡ Some inst → inst.result ≡ Some n → (r ≤ n) × (n < r + length (register_types s is))
results_within s r v [] i n inst h e = absurd (let f : None ≡ Some inst = h in cc)
results_within s r v (x ∷ rest) zero n inst h e =
    let same : instruction s r v x ≡ inst = cc in
    first_by (has_register s x) r n (value_type s x.operation) (register_types s rest) (result_by (has_register s x) r n (ap (λ (y : Inst). y.result) same ∙ e))
results_within s r v (x ∷ rest) (suc i) n inst h e =
    within_by (has_register s x) r n (value_type s x.operation) (register_types s rest)
    (results_within s (if has_register s x then r + 1 else r) (if is_variable x.operation then v + 1 else v) rest i n inst h e)

-- ---- each

pub record HasResult (insts : List Inst) (n : ℕ) : Type 0 where
  pub at : ℕ
  pub inst : Inst
  pub there : slice_get insts at ≡ Some inst
  pub result : inst.result ≡ Some n

later : (x : Inst) (insts : List Inst) (n : ℕ) → HasResult insts n → HasResult (x ∷ insts) n
later x insts n h = record { at = suc h.at; inst = h.inst; there = h.there; result = h.result }

each_by : (x : Inst) (insts : List Inst) (b : Bool) (r n t : ℕ) (rest : List ℕ) → x.result ≡ (if b then Some r else None)
    → ((if b then r + 1 else r) ≤ n → n < (if b then r + 1 else r) + length rest → HasResult insts n)
    → r ≤ n → n < r + length (if b then t ∷ rest else rest) → (r ≡ n) ⊎ (r + 1 ≤ n) → HasResult (x ∷ insts) n
each_by x insts true r n t rest e more low high (inl same) = record { at = 0; inst = x; there = refl; result = e ∙ ap (λ k. Some k) same }
each_by x insts true r n t rest e more low high (inr above) = later x insts n (more above (omega arith))
each_by x insts false r n t rest e more low high order = later x insts n (more low high)

order_of : (r n : ℕ) → r ≤ n → (r ≡ n) ⊎ (r + 1 ≤ n)
order_of r n h = search arith

pub results_each : (s : Scope) (r v : ℕ) (is : List SpelledInstruction) (n : ℕ) → r ≤ n → n < r + length (register_types s is) → HasResult (instructions_from s r v is) n
results_each s r v [] n low high = absurd (omega arith)
results_each s r v (x ∷ rest) n low high =
    each_by (instruction s r v x) (instructions_from s (if has_register s x then r + 1 else r) (if is_variable x.operation then v + 1 else v) rest)
    (has_register s x) r n (value_type s x.operation) (register_types s rest) refl
    (λ l h. results_each s (if has_register s x then r + 1 else r) (if is_variable x.operation then v + 1 else v) rest n l h) low high (order_of r n low)

-- ---- once

not_again : (b : Bool) (r n : ℕ) → (b ≡ true) × (r ≡ n) → (if b then r + 1 else r) ≤ n → ⊥
not_again true r n h low = omega (arith, h.1)
not_again false r n h low = let e : false ≡ true = h.0 in cc

head_result : (s : Scope) (r v n : ℕ) (x : SpelledInstruction) (inst : Inst) → Some (instruction s r v x) ≡ Some inst → inst.result ≡ Some n → (has_register s x ≡ true) × (r ≡ n)
head_result s r v n x inst h e = let same : instruction s r v x ≡ inst = cc in result_by (has_register s x) r n (ap (λ (y : Inst). y.result) same ∙ e)

pub results_once : (s : Scope) (r v : ℕ) (is : List SpelledInstruction) (i j n : ℕ) (inst other : Inst)
    → slice_get (instructions_from s r v is) i ≡ Some inst → slice_get (instructions_from s r v is) j ≡ Some other
    → inst.result ≡ Some n → other.result ≡ Some n → i ≡ j
results_once s r v [] i j n inst other hi hj ei ej = absurd (let f : None ≡ Some inst = hi in cc)
results_once s r v (x ∷ rest) zero zero n inst other hi hj ei ej = refl
results_once s r v (x ∷ rest) zero (suc j) n inst other hi hj ei ej =
    absurd (not_again (has_register s x) r n (head_result s r v n x inst hi ei)
    (results_within s (if has_register s x then r + 1 else r) (if is_variable x.operation then v + 1 else v) rest j n other hj ej).0)
results_once s r v (x ∷ rest) (suc i) zero n inst other hi hj ei ej =
    absurd (not_again (has_register s x) r n (head_result s r v n x other hj ej)
    (results_within s (if has_register s x then r + 1 else r) (if is_variable x.operation then v + 1 else v) rest i n inst hi ei).0)
results_once s r v (x ∷ rest) (suc i) (suc j) n inst other hi hj ei ej =
    ap (λ k. suc k) (results_once s (if has_register s x then r + 1 else r) (if is_variable x.operation then v + 1 else v) rest i j n inst other hi hj ei ej)
