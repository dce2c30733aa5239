-- Laws of overflow: sums, differences and products of signed numbers have the bits of those of the values, and the code's test of the
-- exact result is that of the range.
use Rattle.std.proofs.Common.{◌≡◌, ℕ, suc, ◌+◌, ◌-◌, ◌*◌, ◌%◌, ◌^◌, ◌<◌, ◌≤◌, ℤ, pos, negsuc, ◌+ℤ◌, ◌-ℤ◌, ◌*ℤ◌, neg_ℤ, Bool, true, not, ltb, sym, ◌∙◌, ap, ap₂, inl, inr, arith, FitsSigned, Option, None, Some, SomeIff, MatchOption, ltb-true, le-ltb, lt-ltb, pow_pos, mul-add, add-mul, mul_comm}
use Rattle.std.proofs.Math.Nat.{add-mul-mod_self_right}
use Rattle.std.specs.Int.{w128}
use Rattle.std.proofs.lemmas.Int.{ints}
use Rattle.std.proofs.lemmas.Bool.{cases_lt, cases_Bool}
use Rattle.ir_arith.specs.Binary.{add_result, sub_result, mul_result}
use Rattle.ir_arith.specs.TwosComplement.{signed_of, unsigned_of, fits_signed, fits_unsigned}
use Rattle.ir_arith.proofs.Residues.{pow_half, pow_upto_128}
use Rattle.ir_arith.proofs.TwosComplementLaws.{pos-sub-below, pos-sub-above, signed_of-low, signed_of-high, unsigned_of-pos, unsigned_of_is}

pub same_pair : (m n : ℕ) (s t : Bool) → m ≡ n → s ≡ t → ◌≡◌ {A = ℕ × Bool} (m, s) (n, t)
same_pair m n s t p q = let P : ℕ → Bool → ℕ × Bool = λ x y. (x, y) in ap₂ P p q

-- ---- the wrapped result

pub unsigned_of-signed_sum : (w a b : ℕ) → 1 ≤ w → a < 2 ^ w → b < 2 ^ w → add_result w a b ≡ unsigned_of w (signed_of w a +ℤ signed_of w b)
unfolding add_result
unsigned_of-signed_sum w a b one a_below b_below =
    elim (cases_lt a (2 ^ (w - 1))) [
      | inl a_low ↦ rw (signed_of-low w a a_low) (elim (cases_lt b (2 ^ (w - 1))) [
        | inl b_low ↦ rw (signed_of-low w b b_low) (sym (unsigned_of_is w 0 (a + b) (pos a +ℤ pos b) (omega (arith, ints))))
        | inr b_high ↦ rw (signed_of-high w b b_high b_below)
            (sym (unsigned_of_is w 1 (a + b) (pos a +ℤ negsuc (2 ^ w - suc b)) (omega (arith, ints))))
      ])
      | inr a_high ↦ rw (signed_of-high w a a_high a_below) (elim (cases_lt b (2 ^ (w - 1))) [
        | inl b_low ↦ rw (signed_of-low w b b_low)
            (sym (unsigned_of_is w 1 (a + b) (negsuc (2 ^ w - suc a) +ℤ pos b) (omega (arith, ints))))
        | inr b_high ↦ rw (signed_of-high w b b_high b_below)
            (sym (unsigned_of_is w 2 (a + b) (negsuc (2 ^ w - suc a) +ℤ negsuc (2 ^ w - suc b)) (omega (arith, ints))))
      ])
    ]

pub unsigned_of-signed_difference : (w a b : ℕ) → 1 ≤ w → a < 2 ^ w → b < 2 ^ w → sub_result w a b ≡ unsigned_of w (signed_of w a -ℤ signed_of w b)
unfolding sub_result
unsigned_of-signed_difference w a b one a_below b_below =
    unsigned_of_is w 1 (a + (2 ^ w - b)) (pos a -ℤ pos b) (omega (arith, ints))
    ∙ elim (cases_lt a (2 ^ (w - 1))) [
      | inl a_low ↦ rw (signed_of-low w a a_low) (elim (cases_lt b (2 ^ (w - 1))) [
        | inl b_low ↦ rw (signed_of-low w b b_low) (sym (unsigned_of_is w 1 (a + (2 ^ w - b)) (pos a -ℤ pos b) (omega (arith, ints))))
        | inr b_high ↦ rw (signed_of-high w b b_high b_below)
            (sym (unsigned_of_is w 0 (a + (2 ^ w - b)) (pos a -ℤ negsuc (2 ^ w - suc b)) (omega (arith, ints))))
      ])
      | inr a_high ↦ rw (signed_of-high w a a_high a_below) (elim (cases_lt b (2 ^ (w - 1))) [
        | inl b_low ↦ rw (signed_of-low w b b_low)
            (sym (unsigned_of_is w 2 (a + (2 ^ w - b)) (negsuc (2 ^ w - suc a) -ℤ pos b) (omega (arith, ints))))
        | inr b_high ↦ rw (signed_of-high w b b_high b_below)
            (sym (unsigned_of_is w 1 (a + (2 ^ w - b)) (negsuc (2 ^ w - suc a) -ℤ negsuc (2 ^ w - suc b)) (omega (arith, ints))))
      ])
    ]

-- x is what p is above b, and y what it is above a: products with them, modulo p
below_zero : (x y p : ℕ) → x + y ≡ p → neg_ℤ (pos x) +ℤ pos p ≡ pos y
below_zero x y p e = omega (arith, ints)

pub product-high_right : (a b y p : ℕ) → y + b ≡ p → neg_ℤ (pos (a * y)) +ℤ pos (a * p) ≡ pos (a * b)
product-high_right a b y p e = below_zero (a * y) (a * b) (a * p) (sym (mul-add a y b) ∙ ap (λ n. a * n) e)

pub product-high_left : (a b x p : ℕ) → x + a ≡ p → neg_ℤ (pos (x * b)) +ℤ pos (b * p) ≡ pos (a * b)
product-high_left a b x p e = below_zero (x * b) (a * b) (b * p) (sym (add-mul x a b) ∙ mul_comm (x + a) b ∙ ap (λ n. b * n) e)

product-high_both : (a b x y p : ℕ) → x + a ≡ p → y + b ≡ p → x * y + (a + b) * p ≡ a * b + p * p
product-high_both a b x y p e f =
    let first : a * p ≡ a * y + a * b = ap (λ n. a * n) (sym f) ∙ mul-add a y b in
    let second : b * p ≡ b * x + b * a = ap (λ n. b * n) (sym e) ∙ mul-add b x a in
    let square : p * p ≡ (x + a) * (y + b) = ap₂ (λ m n. m * n) (sym e) (sym f) in
    omega arith

same_rest : (m n k l p : ℕ) → m + k * p ≡ n + l * p → m % p ≡ n % p
same_rest m n k l p e = sym (add-mul-mod_self_right m k p) ∙ ap (λ x. x % p) e ∙ add-mul-mod_self_right n l p

pub unsigned_of-signed_product : (w a b : ℕ) → 1 ≤ w → a < 2 ^ w → b < 2 ^ w → mul_result w a b ≡ unsigned_of w (signed_of w a *ℤ signed_of w b)
unfolding mul_result
unsigned_of-signed_product w a b one a_below b_below =
    let x_above : suc (2 ^ w - suc a) + a ≡ 2 ^ w = omega arith in
    let y_above : suc (2 ^ w - suc b) + b ≡ 2 ^ w = omega arith in
    elim (cases_lt a (2 ^ (w - 1))) [
      | inl a_low ↦ rw (signed_of-low w a a_low) (elim (cases_lt b (2 ^ (w - 1))) [
        | inl b_low ↦ rw (signed_of-low w b b_low) (sym (unsigned_of-pos w (a * b)))
        | inr b_high ↦ rw (signed_of-high w b b_high b_below)
            (sym (unsigned_of_is w a (a * b) (pos a *ℤ negsuc (2 ^ w - suc b)) (product-high_right a b (suc (2 ^ w - suc b)) (2 ^ w) y_above)))
      ])
      | inr a_high ↦ rw (signed_of-high w a a_high a_below) (elim (cases_lt b (2 ^ (w - 1))) [
        | inl b_low ↦ rw (signed_of-low w b b_low)
            (sym (unsigned_of_is w b (a * b) (negsuc (2 ^ w - suc a) *ℤ pos b) (product-high_left a b (suc (2 ^ w - suc a)) (2 ^ w) x_above)))
        | inr b_high ↦ rw (signed_of-high w b b_high b_below)
            (sym (unsigned_of-pos w (suc (2 ^ w - suc a) * suc (2 ^ w - suc b))
            ∙ same_rest (suc (2 ^ w - suc a) * suc (2 ^ w - suc b)) (a * b) (a + b) (2 ^ w) (2 ^ w)
            (product-high_both a b (suc (2 ^ w - suc a)) (suc (2 ^ w - suc b)) (2 ^ w) x_above y_above)))
      ])
    ]

-- ---- the range

-- a number in the signed range of the width is in that of 128 bits
fits_signed-wider : (w : ℕ) (z : ℤ) → 1 ≤ w → w ≤ 128 → fits_signed w z ≡ true → FitsSigned w128 z
unfolding fits_signed
fits_signed-wider w (pos n) one top h =
    record { sfits = omega (arith, ltb-true n (2 ^ (w - 1)) h, pow_half w one, pow_upto_128 w top) }
fits_signed-wider w (negsuc n) one top h =
    record { sfits = omega (arith, ltb-true n (2 ^ (w - 1)) h, pow_half w one, pow_upto_128 w top) }

pub outside_signed : (w : ℕ) (o : Option ℤ) (z : ℤ) (t : Bool) → 1 ≤ w → w ≤ 128 → SomeIff o (FitsSigned w128 z) z
    → MatchOption o (t ≡ true) (λ y. t ≡ not (fits_signed w y)) → t ≡ not (fits_signed w z)
outside_signed w None z t one top outside is =
    elim (cases_Bool (fits_signed w z)) [
      | inl inside ↦ absurd (outside (fits_signed-wider w z one top inside))
      | inr past ↦ is ∙ ap not (sym past)
    ]
outside_signed w (Some y) z t one top held is = is ∙ ap (λ x. not (fits_signed w x)) held.1

pub outside_unsigned : (w : ℕ) (o : Option ℕ) (n : ℕ) (t : Bool) → w ≤ 128 → SomeIff o (n < 2 ^ 128) n
    → MatchOption o (t ≡ true) (λ m. t ≡ not (fits_unsigned w (pos m))) → t ≡ not (fits_unsigned w (pos n))
unfolding fits_unsigned
outside_unsigned w None n t top outside is =
    elim (cases_lt n (2 ^ 128)) [
      | inl less ↦ absurd (outside less)
      | inr more ↦ is ∙ ap not (sym (le-ltb n (2 ^ w) (omega (arith, pow_upto_128 w top))))
    ]
outside_unsigned w (Some m) n t top held is = is ∙ ap (λ x. not (fits_unsigned w (pos x))) held.1

pub above_ones : (w m n : ℕ) → m ≡ 2 ^ w - 1 → ltb m n ≡ not (fits_unsigned w (pos n))
unfolding fits_unsigned
above_ones w m n e = elim (cases_lt n (2 ^ w)) [
  | inl less ↦ le-ltb m n (omega arith) ∙ ap not (sym (lt-ltb n (2 ^ w) less))
  | inr more ↦ lt-ltb m n (omega (arith, pow_pos w)) ∙ ap not (sym (le-ltb n (2 ^ w) more))
]

pub below_zero_test : (w a b : ℕ) → a < 2 ^ w → ltb a b ≡ not (fits_unsigned w (pos a -ℤ pos b))
unfolding fits_unsigned
below_zero_test w a b below = elim (cases_lt a b) [
  | inl less ↦ lt-ltb a b less ∙ ap (λ z. not (fits_unsigned w z)) (sym (pos-sub-below a b less))
  | inr more ↦ le-ltb a b more ∙ ap not (sym (lt-ltb (a - b) (2 ^ w) (omega arith))) ∙ ap (λ z. not (fits_unsigned w z)) (sym (pos-sub-above a b more))
]
