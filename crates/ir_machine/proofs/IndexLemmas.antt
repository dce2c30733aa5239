-- Indices of addresses: a number with its sign, in 64 bits; and sums modulo 2^64.
use Rattle.std.proofs.Common.{◌≡◌, ℕ, suc, ◌+◌, ◌-◌, ◌*◌, ◌%◌, ◌^◌, ◌<◌, ◌≤◌, ap, sym, ◌∙◌, inl, inr, arith, pow-add}
use Rattle.std.proofs.lemmas.Bool.{cases_lt}
use Rattle.ir_arith.specs.TwosComplement.{signed_of, unsigned_of}
use Rattle.ir_arith.proofs.TwosComplementLaws.{signed_of-low, signed_of-high, unsigned_of-pos, unsigned_of-negsuc}

-- of a number that is as wide as an address or wider, the low 64 bits are left
pub signed-wide : (width n : ℕ) → 64 ≤ width → n < 2 ^ width → unsigned_of 64 (signed_of width n) ≡ n % 2 ^ 64
signed-wide width n wide below =
    elim (cases_lt n (2 ^ (width - 1))) [
      | inl low ↦ rw (signed_of-low width n low) (unsigned_of-pos 64 n)
      | inr high ↦ rw (signed_of-high width n high below)
          (unsigned_of-negsuc 64 (2 ^ width - suc n) (2 ^ (width - 64)) n
          (let e : (width - 64) + 64 ≡ width = omega arith in
          let whole : 2 ^ (width - 64) * 2 ^ 64 ≡ 2 ^ width = sym (pow-add 2 (width - 64) 64) ∙ ap (λ k. 2 ^ k) e in
          omega (arith, whole, below)))
    ]
