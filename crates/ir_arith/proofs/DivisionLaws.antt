-- Laws of signed division and of the arithmetic shift: the code's quotient, remainder and shift of 128 bits fit, and are the result at
-- the width.
use Rattle.std.proofs.Common.{◌≡◌, ◌≢◌, ℕ, zero, suc, ◌-◌, ◌*◌, ◌/◌, ◌^◌, ◌<◌, ◌≤◌, min, ℤ, pos, negsuc, true, false, refl, sym, ◌∙◌, ap, ap₂, inl, inr, arith, FitsSigned, int_div, int_rem, unsigned_abs, div-le_self, Ok, Err, lt_of_le_of_lt, neg_ℤ, eqb, ne_eqb, lt→ltb, ◌&&◌, Decides, eqb-true, pow_pos}
use Rattle.std.specs.Int.{cast_unsigned, w128, int_shr}
use Rattle.std.proofs.lemmas.Int.{ints, quot_fits, fits_signed_from_abs}
use Rattle.std.proofs.lemmas.Nat.{div_below}
use Rattle.std.proofs.lemmas.Bool.{cases_lt, cases_eq, eq-eqb, and_from}
use Rattle.std.proofs.lemmas.Bool.Decides.{same_from_decides, Decides-int_eq}
use lib.Signed.{mag, mag_rem, mag_shr, lt_z_yes}
use Rattle.hw_base.specs.declared.endings.Trap.TheVariants.{DivZero, DivOverflow}
use Rattle.ir_arith.specs.Binary.{is_least_by_minus_one, signed_division, ashr_result}
use Rattle.ir_arith.specs.TwosComplement.{signed_of, unsigned_of}
use Rattle.ir_arith.proofs.Residues.{pow_half, pow_upto_128}
use Rattle.ir_arith.proofs.TwosComplementLaws.{signed_of-low, signed_of-high, signed_of-fits_128, mag-signed_of}

-- a value other than 0 stands for a number other than 0
pub signed_of-nonzero : (w b : ℕ) → 1 ≤ w → w ≤ 128 → b < 2 ^ w → b ≢ 0 → 0 < cast_unsigned w128 (signed_of w b)
signed_of-nonzero w b one top below nonzero =
    let half = pow_half w one in let whole = pow_upto_128 w top in
    elim (cases_lt b (2 ^ (w - 1))) [
      | inl low ↦ rw (signed_of-low w b low) (omega arith)
      | inr high ↦ rw (signed_of-high w b high below) (omega arith)
    ]

abs-neg : (n : ℕ) → unsigned_abs (neg_ℤ (pos n)) ≡ n
abs-neg zero = refl
abs-neg (suc n) = refl

-- a quotient by a number below 0, of a natural and of a number below 0
quotient_of_natural_fits : (n d h : ℕ) → n < 2 ^ 127 → FitsSigned w128 (int_div (pos n) (negsuc d))
quotient_of_natural_fits n d h small =
    let less = div-le_self n (suc d) in
    let size : unsigned_abs (int_div (pos n) (negsuc d)) < 2 ^ 127 = rw (abs-neg (n / suc d)) (omega arith) in
    fits_signed_from_abs w128 (int_div (pos n) (negsuc d)) size

quotient_of_negative_fits : (n d : ℕ) → suc n < 2 ^ 127 * suc d → FitsSigned w128 (int_div (negsuc n) (negsuc d))
quotient_of_negative_fits n d small = record { sfits = div_below (suc n) (suc d) (2 ^ 127) (omega arith) small }

-- the two numbers in their bits
signed_of-least : (w a : ℕ) → 1 ≤ w → a < 2 ^ w → Decides (eqb a (2 ^ (w - 1))) (signed_of w a ≡ neg_ℤ (pos (2 ^ (w - 1))))
signed_of-least w a one below =
    let half = pow_half w one in let some = pow_pos (w - 1) in (
      λ t.
          let same : a ≡ 2 ^ (w - 1) = eqb-true a (2 ^ (w - 1)) t in
          rw (signed_of-high w a (omega arith) below) (omega (arith, ints)),
      λ e. elim (cases_lt a (2 ^ (w - 1))) [
        | inl low ↦ let number : pos a ≡ neg_ℤ (pos (2 ^ (w - 1))) = sym (signed_of-low w a low) ∙ e in absurd (omega (arith, ints))
        | inr high ↦
            let number : negsuc (2 ^ w - suc a) ≡ neg_ℤ (pos (2 ^ (w - 1))) = sym (signed_of-high w a high below) ∙ e in
            eq-eqb a (2 ^ (w - 1)) (omega (arith, ints))
      ],
    )

signed_of-minus_one : (w b : ℕ) → 1 ≤ w → b < 2 ^ w → Decides (eqb b (2 ^ w - 1)) (signed_of w b ≡ negsuc 0)
signed_of-minus_one w b one below =
    let half = pow_half w one in let some = pow_pos (w - 1) in (
      λ t.
          let same : b ≡ 2 ^ w - 1 = eqb-true b (2 ^ w - 1) t in
          rw (signed_of-high w b (omega arith) below) (omega (arith, ints)),
      λ e. elim (cases_lt b (2 ^ (w - 1))) [
        | inl low ↦ let number : pos b ≡ negsuc 0 = sym (signed_of-low w b low) ∙ e in absurd (omega (arith, ints))
        | inr high ↦
            let number : negsuc (2 ^ w - suc b) ≡ negsuc 0 = sym (signed_of-high w b high below) ∙ e in
            eq-eqb b (2 ^ w - 1) (omega (arith, ints))
      ],
    )

pub is_least_by_minus_one-bits : (w a b : ℕ) → 1 ≤ w → a < 2 ^ w → b < 2 ^ w → (eqb a (2 ^ (w - 1)) && eqb b (2 ^ w - 1)) ≡ is_least_by_minus_one w a b
unfolding is_least_by_minus_one
is_least_by_minus_one-bits w a b one a_below b_below =
    ap₂ (λ s t. s && t)
    (same_from_decides _ _ (signed_of-least w a one a_below) (Decides-int_eq (signed_of w a) (neg_ℤ (pos (2 ^ (w - 1))))))
    (same_from_decides _ _ (signed_of-minus_one w b one b_below) (Decides-int_eq (signed_of w b) (negsuc 0)))

-- the code's test, where the first number is the least one, and where it isn't
pub is_least_by_minus_one-first : (w a b l m : ℕ) → 1 ≤ w → a < 2 ^ w → b < 2 ^ w → l ≡ 2 ^ (w - 1) → m ≡ 2 ^ w - 1 → a ≡ l → eqb b m ≡ is_least_by_minus_one w a b
is_least_by_minus_one-first w a b l m one a_below b_below is_least is_ones same =
    let first : eqb a (2 ^ (w - 1)) ≡ true = eq-eqb a (2 ^ (w - 1)) (same ∙ is_least) in
    ap (eqb b) is_ones ∙ sym (ap (λ t. t && eqb b (2 ^ w - 1)) first) ∙ is_least_by_minus_one-bits w a b one a_below b_below

pub is_least_by_minus_one-other : (w a b l : ℕ) → 1 ≤ w → a < 2 ^ w → b < 2 ^ w → l ≡ 2 ^ (w - 1) → (a ≡ l → ⊥) → eqb a l ≡ is_least_by_minus_one w a b
is_least_by_minus_one-other w a b l one a_below b_below is_least other =
    let first : eqb a (2 ^ (w - 1)) ≡ false = ne_eqb a (2 ^ (w - 1)) (λ e. other (e ∙ sym is_least)) in
    ne_eqb a l other ∙ sym (ap (λ t. t && eqb b (2 ^ w - 1)) first) ∙ is_least_by_minus_one-bits w a b one a_below b_below

least_by_minus_one_is : (w a b : ℕ) → 1 ≤ w → a < 2 ^ w → b < 2 ^ w → a ≡ 2 ^ (w - 1) → b ≡ 2 ^ w - 1 → is_least_by_minus_one w a b ≡ true
least_by_minus_one_is w a b one a_below b_below p q =
    sym (is_least_by_minus_one-bits w a b one a_below b_below)
    ∙ and_from (eqb a (2 ^ (w - 1))) (eqb b (2 ^ w - 1)) (eq-eqb a _ p) (eq-eqb b _ q)

negative_bound : (p h a b : ℕ) → p ≡ 2 * h → p ≤ 2 ^ 128 → h ≤ a → a < p → b < p → (a ≡ h → b ≡ p - 1 → ⊥)
    → suc (p - suc a) < 2 ^ 127 * suc (p - suc b)
negative_bound p h a b half whole a_high a_below b_below not_both =
    elim (cases_eq b (p - 1)) [
      | inl last ↦ let other : a ≢ h = λ e. not_both e last in omega arith
      | inr other ↦ let gap : 1 ≤ p - suc b = omega arith in omega arith
    ]

-- the signed quotient fits in 128 bits, where it isn't the least number by -1
pub quotient_fits : (w a b : ℕ) → 1 ≤ w → w ≤ 128 → a < 2 ^ w → b < 2 ^ w → b ≢ 0 → is_least_by_minus_one w a b ≡ false
    → FitsSigned w128 (int_div (signed_of w a) (signed_of w b))
quotient_fits w a b one top a_below b_below nonzero inside =
    let half = pow_half w one in let whole = pow_upto_128 w top in
    elim (cases_lt b (2 ^ (w - 1))) [
      | inl b_low ↦
          let above : 0 < b = omega arith in
          quot_fits w128 (signed_of w a) (signed_of w b) (signed_of-fits_128 w a one top a_below) (rw (signed_of-low w b b_low) (lt_z_yes {a = pos 0} {b = pos b} (lt→ltb 0 b above)))
      | inr b_high ↦ rw (signed_of-high w b b_high b_below) (elim (cases_lt a (2 ^ (w - 1))) [
        | inl a_low ↦ rw (signed_of-low w a a_low) (quotient_of_natural_fits a (2 ^ w - suc b) 0 (omega arith))
        | inr a_high ↦
            let not_both : a ≡ 2 ^ (w - 1) → b ≡ 2 ^ w - 1 → ⊥ =
            λ p q. let t : is_least_by_minus_one w a b ≡ true = least_by_minus_one_is w a b one a_below b_below p q in cc in
            rw (signed_of-high w a a_high a_below)
            (quotient_of_negative_fits (2 ^ w - suc a) (2 ^ w - suc b)
            (negative_bound (2 ^ w) (2 ^ (w - 1)) a b half whole a_high a_below b_below not_both))
      ])
    ]

pub remainder_fits : (w a : ℕ) (d : ℤ) → 1 ≤ w → w ≤ 128 → a < 2 ^ w → FitsSigned w128 (int_rem (signed_of w a) d)
remainder_fits w a d one top below =
    let fits = signed_of-fits_128 w a one top below in
    record { sfits = lt_of_le_of_lt (mag_rem (signed_of w a) d) fits.sfits }

-- the three outcomes of a signed division
pub signed_division_by_zero : (w a b : ℕ) (z : ℤ) → b ≡ 0 → Err DivZero ≡ signed_division w a b z
unfolding signed_division
signed_division_by_zero w a b z e = rw e refl

pub signed_division_overflow : (w a b : ℕ) (z : ℤ) → b ≢ 0 → is_least_by_minus_one w a b ≡ true → Err DivOverflow ≡ signed_division w a b z
unfolding signed_division
signed_division_overflow w a b z nonzero least = rw (ne_eqb b 0 nonzero, least) refl

pub signed_division_fits : (w a b n : ℕ) (z : ℤ) → b ≢ 0 → is_least_by_minus_one w a b ≡ false → n ≡ unsigned_of w z → Ok n ≡ signed_division w a b z
unfolding signed_division
signed_division_fits w a b n z nonzero inside e = rw (ne_eqb b 0 nonzero, inside) (ap Ok e)

-- ---- the arithmetic shift

pub shift_fits : (w a k : ℕ) → 1 ≤ w → w ≤ 128 → a < 2 ^ w → FitsSigned w128 (int_shr (signed_of w a) k)
shift_fits w a k one top below =
    let fits = signed_of-fits_128 w a one top below in
    record { sfits = lt_of_le_of_lt (mag_shr (signed_of w a) (2 ^ k)) fits.sfits }

-- a shift by all places but one leaves the sign bit alone, as a shift by all places does
none_left : (w n : ℕ) → 1 ≤ w → n < 2 ^ (w - 1) → n / 2 ^ (w - 1) ≡ n / 2 ^ w
none_left w n one small =
    let half = pow_half w one in
    let low : n / 2 ^ (w - 1) < 1 = div_below n (2 ^ (w - 1)) 1 (omega arith) (omega arith) in
    let high : n / 2 ^ w < 1 = div_below n (2 ^ w) 1 (omega arith) (omega arith) in
    omega arith

int_shr-all : (w : ℕ) (z : ℤ) → 1 ≤ w → mag z < 2 ^ (w - 1) → int_shr z (w - 1) ≡ int_shr z w
int_shr-all w (pos n) one small = ap pos (none_left w n one small)
int_shr-all w (negsuc n) one small = ap negsuc (none_left w n one small)

pub ashr_result-inside : (w a b by : ℕ) → by ≡ b → b < w → unsigned_of w (int_shr (signed_of w a) by) ≡ ashr_result w a b
unfolding ashr_result
ashr_result-inside w a b by e inside =
    let amount : by ≡ min b w = omega arith in ap (λ k. unsigned_of w (int_shr (signed_of w a) k)) amount

pub ashr_result-past : (w a b by : ℕ) → 1 ≤ w → a < 2 ^ w → by ≡ w - 1 → w ≤ b → unsigned_of w (int_shr (signed_of w a) by) ≡ ashr_result w a b
unfolding ashr_result
ashr_result-past w a b by one below e past =
    let amount : w ≡ min b w = omega arith in
    ap (λ k. unsigned_of w (int_shr (signed_of w a) k)) e
    ∙ ap (unsigned_of w) (int_shr-all w (signed_of w a) one (mag-signed_of w a one below))
    ∙ ap (λ k. unsigned_of w (int_shr (signed_of w a) k)) amount
