-- Laws of the binary operators: what the code computes on 128 bits is the result at the width.
use Rattle.std.proofs.Common.{◌≡◌, ℕ, suc, ◌+◌, ◌-◌, ◌*◌, ◌/◌, ◌%◌, ◌^◌, ◌<◌, ◌≤◌, min, sym, ◌∙◌, ap, subst, inl, inr, arith}
use Rattle.std.proofs.Math.Nat.{add-mul-mod_self_right, mul-mod_left}
use Rattle.std.proofs.lemmas.Nat.{shr_below}
use Rattle.std.proofs.lemmas.Bool.{cases_lt}
use Rattle.ir_arith.specs.Binary.{sub_result, shl_result, lshr_result}
use Rattle.ir_arith.specs.TwosComplement.{unsigned_of}
use Rattle.ir_arith.proofs.Residues.{pow_upto_128, pow_above, mod_128}
use Rattle.ir_arith.proofs.TwosComplementLaws.{pos-sub-below, pos-sub-above, unsigned_of-pos, unsigned_of-negsuc}

pub mod_128_sub : (w a b : ℕ) → w ≤ 128 → b < 2 ^ w → (a + (2 ^ 128 - b)) % 2 ^ 128 % 2 ^ w ≡ sub_result w a b
unfolding sub_result
mod_128_sub w a b top below =
    let whole = pow_upto_128 w top in let above = pow_above w top in
    elim (cases_lt a b) [
      | inl less ↦ mod_128 w (a + (2 ^ 128 - b)) top
          ∙ sym (ap (unsigned_of w) (pos-sub-below a b less)
          ∙ unsigned_of-negsuc w (b - suc a) (2 ^ (128 - w)) (a + (2 ^ 128 - b)) (omega arith))
      | inr more ↦
          let apart : a + (2 ^ 128 - b) ≡ (a - b) + 2 ^ (128 - w) * 2 ^ w = omega arith in
          mod_128 w (a + (2 ^ 128 - b)) top ∙ ap (λ n. n % 2 ^ w) apart ∙ add-mul-mod_self_right (a - b) (2 ^ (128 - w)) (2 ^ w)
          ∙ sym (ap (unsigned_of w) (pos-sub-above a b more) ∙ unsigned_of-pos w (a - b))
    ]

pub mod_128_shl : (w a b : ℕ) → w ≤ 128 → b < w → a * 2 ^ b % 2 ^ 128 % 2 ^ w ≡ shl_result w a b
unfolding shl_result
mod_128_shl w a b top inside =
    let amount : min b w ≡ b = omega arith in
    mod_128 w (a * 2 ^ b) top ∙ ap (λ k. a * 2 ^ k % 2 ^ w) (sym amount)

pub shl_result_past : (w a b : ℕ) → w ≤ b → 0 ≡ shl_result w a b
unfolding shl_result
shl_result_past w a b past =
    let amount : min b w ≡ w = omega arith in
    sym (ap (λ k. a * 2 ^ k % 2 ^ w) amount ∙ mul-mod_left a (2 ^ w))

pub lshr_result_inside : (w a b : ℕ) → b < w → a / 2 ^ b ≡ lshr_result w a b
unfolding lshr_result
lshr_result_inside w a b inside =
    let amount : min b w ≡ b = omega arith in ap (λ k. a / 2 ^ k) (sym amount)

pub lshr_result_past : (w a b : ℕ) → a < 2 ^ w → w ≤ b → 0 ≡ lshr_result w a b
unfolding lshr_result
lshr_result_past w a b below past =
    let amount : min b w ≡ w = omega arith in
    let none : a / 2 ^ w < 2 ^ 0 = shr_below a 0 w (subst (λ k. a < 2 ^ k) (omega arith) below) in
    sym (ap (λ k. a / 2 ^ k) amount ∙ omega arith)
