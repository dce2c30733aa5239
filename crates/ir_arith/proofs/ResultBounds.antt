-- Each table answers with values of its width. A crate that speaks of the tables alone, and not of the calls, cites these.
use Rattle.std.proofs.Common.{◌≡◌, ℕ, zero, suc, ◌+◌, ◌*◌, ◌/◌, ◌%◌, ◌^◌, ◌<◌, ◌≤◌, min, ℤ, pos, negsuc, Bool, true, false, cond, ◌∙◌, ap, subst, arith, pow_pos, pow-suc, mod-lt, div-le_self, IfOk, Result, ◌==◌, mul-le-mul_right}
use Rattle.std.proofs.Math.Nat.{mod-le}
use Rattle.std.proofs.lemmas.Nat.{and_le_l, or_lt, xor_lt, leading_le, trailing_le}
use lib.Count.{ones_in}
use Rattle.hw_base.specs.declared.endings.Trap.{Trap}
use Rattle.hw_base.specs.declared.operators.BinOp.{BinOp}
use Rattle.hw_base.specs.declared.operators.BinOp.TheVariants.{Add, Sub, Mul, UDiv, SDiv, URem, SRem, Shl, LShr, AShr, And, Or, Xor}
use Rattle.hw_base.specs.declared.operators.CastOp.{CastOp}
use Rattle.hw_base.specs.declared.operators.CastOp.TheVariants.{Trunc, ZExt, SExt}
use Rattle.hw_base.specs.declared.operators.BitOp.{BitOp}
use Rattle.hw_base.specs.declared.operators.BitOp.TheVariants.{BSwap, CtPop, CtLz, CtTz, FShl, FShr, SMin, SMax, UMin, UMax, Abs, Expect}
use Rattle.hw_base.specs.declared.operators.OverOp.{OverOp}
use Rattle.ir_arith.specs.TwosComplement.{unsigned_of}
use Rattle.ir_arith.specs.Binary.{binary_result, add_result, sub_result, mul_result, udiv_result, urem_result, is_least_by_minus_one, signed_division, shl_result, lshr_result, ashr_result}
use Rattle.ir_arith.specs.Conversion.{IsConversion, cast_result}
use Rattle.hw_base.specs.ByteSwap.{HasPairs}
use Rattle.ir_arith.specs.BitIntrinsics.{bits_result, reversed_bytes, bswap_result, fshl_result, fshr_result, smin_result, smax_result}
use Rattle.ir_arith.specs.Overflow.{overflow_result, exact_result}
use Rattle.ir_arith.proofs.Residues.{below_wider}
use Rattle.ir_arith.proofs.ByteLaws.{pow_of_bytes}
use Rattle.ir_arith.proofs.CountLaws.{below_pow}
use Rattle.ir_arith.proofs.SignedChoiceLaws.{abs_result-below}

pub unsigned_of-below : (w : ℕ) (z : ℤ) → unsigned_of w z < 2 ^ w
unfolding unsigned_of
unsigned_of-below w (pos n) = mod-lt n (pow_pos w)
unsigned_of-below w (negsuc n) = omega (arith, pow_pos w)

-- what holds of both branches holds of the choice
of_both : {X : Type 0} (P : X → Type 0) (t : Bool) (x y : X) → P x → P y → P (cond t x y)
of_both P true x y p q = p
of_both P false x y p q = q

abbrev IsValue : ℕ → Result ℕ Trap → Type 0
IsValue w r = IfOk r (λ n. n < 2 ^ w)

udiv_result-below : (w a b : ℕ) → a < 2 ^ w → IsValue w (udiv_result a b)
unfolding udiv_result
udiv_result-below w a b below = of_both (IsValue w) (b == 0) _ _ tt (omega (arith, div-le_self a b))

urem_result-below : (w a b : ℕ) → a < 2 ^ w → IsValue w (urem_result a b)
unfolding urem_result
urem_result-below w a b below = of_both (IsValue w) (b == 0) _ _ tt (omega (arith, mod-le a b))

signed_division-below : (w a b : ℕ) (z : ℤ) → IsValue w (signed_division w a b z)
unfolding signed_division
signed_division-below w a b z =
    of_both (IsValue w) (b == 0) _ _ tt (of_both (IsValue w) (is_least_by_minus_one w a b) _ _ tt (unsigned_of-below w z))

pub binary_result-below : (op : BinOp) (w a b : ℕ) → a < 2 ^ w → b < 2 ^ w → IfOk (binary_result op w a b) (λ n. n < 2 ^ w)
unfolding add_result sub_result mul_result shl_result lshr_result ashr_result
binary_result-below Add w a b p q = mod-lt (a + b) (pow_pos w)
binary_result-below Sub w a b p q = unsigned_of-below w _
binary_result-below Mul w a b p q = mod-lt (a * b) (pow_pos w)
binary_result-below UDiv w a b p q = udiv_result-below w a b p
binary_result-below SDiv w a b p q = signed_division-below w a b _
binary_result-below URem w a b p q = urem_result-below w a b p
binary_result-below SRem w a b p q = signed_division-below w a b _
binary_result-below Shl w a b p q = mod-lt (a * 2 ^ min b w) (pow_pos w)
binary_result-below LShr w a b p q = omega (arith, div-le_self a (2 ^ min b w))
binary_result-below AShr w a b p q = unsigned_of-below w _
binary_result-below And w a b p q = omega (arith, and_le_l a b)
binary_result-below Or w a b p q = or_lt w a b p q
binary_result-below Xor w a b p q = xor_lt w a b p q

pub cast_result-below : (op : CastOp) (from to a : ℕ) → IsConversion op from to → a < 2 ^ from → cast_result op from to a < 2 ^ to
cast_result-below Trunc from to a narrows below = mod-lt a (pow_pos to)
cast_result-below ZExt from to a widens below = below_wider from to a widens below
cast_result-below SExt from to a widens below = unsigned_of-below to _

reversed_bytes-below : (k a : ℕ) → reversed_bytes k a < 256 ^ k
unfolding reversed_bytes
reversed_bytes-below zero a = omega arith
reversed_bytes-below (suc k) a =
    let byte : a % 256 * 256 ^ k ≤ 255 * 256 ^ k = mul-le-mul_right (256 ^ k) (omega arith) in
    omega (arith, byte, reversed_bytes-below k (a / 256), pow-suc 256 k)

bswap_result-below : (w a : ℕ) → w % 16 ≡ 0 → bswap_result w a < 2 ^ w
unfolding bswap_result
bswap_result-below w a even =
    let bits : 8 * (w / 8) ≡ w = omega arith in
    subst (λ n. reversed_bytes (w / 8) a < n) (pow_of_bytes (w / 8) ∙ ap (λ n. 2 ^ n) bits) (reversed_bytes-below (w / 8) a)

ones_in-le : (k a : ℕ) → ones_in k a ≤ k
unfolding ones_in
ones_in-le zero a = omega arith
ones_in-le (suc k) a = omega (arith, ones_in-le k (a / 2))

pub bits_result-below : (op : BitOp) (w a b c : ℕ) → 1 ≤ w → a < 2 ^ w → b < 2 ^ w → HasPairs op w → bits_result op w a b c < 2 ^ w
unfolding fshl_result fshr_result smin_result smax_result
bits_result-below BSwap w a b c one p q even = bswap_result-below w a even
bits_result-below CtPop w a b c one p q d = omega (arith, ones_in-le w a, below_pow w)
bits_result-below CtLz w a b c one p q d = omega (arith, leading_le w a, below_pow w)
bits_result-below CtTz w a b c one p q d = omega (arith, trailing_le w a, below_pow w)
bits_result-below FShl w a b c one p q d = mod-lt _ (pow_pos w)
bits_result-below FShr w a b c one p q d = mod-lt _ (pow_pos w)
bits_result-below SMin w a b c one p q d = of_both (λ n. n < 2 ^ w) _ a b p q
bits_result-below SMax w a b c one p q d = of_both (λ n. n < 2 ^ w) _ b a q p
bits_result-below UMin w a b c one p q d = omega arith
bits_result-below UMax w a b c one p q d = omega arith
bits_result-below Abs w a b c one p q d = abs_result-below w a one p
bits_result-below Expect w a b c one p q d = p

pub overflow_result-below : (op : OverOp) (w a b : ℕ) → (overflow_result op w a b).0 < 2 ^ w
overflow_result-below op w a b = unsigned_of-below w (exact_result op w a b)
