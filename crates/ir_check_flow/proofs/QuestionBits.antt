-- Sets of questions as numbers.
use Rattle.std.proofs.Common.{◌≡◌, ℕ, ◌-◌, ◌^◌, ◌<◌, ◌⊎◌, min, max, arith}
use Rattle.std.specs.Int.{bit_at, bit_not}
use Rattle.std.specs.Int.RustNames.{bit_or}
use lib.Bits.{bit_and}
use mir.Syntax.{w128}
use Rattle.std.proofs.lemmas.Nat.Bits.{bit_at_or, bit_at_and, bit_at_not, bit_at-lt}
use Rattle.ir_check_flow.specs.Spreading.{HasBit}

max_left : (x a b : ℕ) → x ≡ max a b → a ≡ 1 → b < 2 → x ≡ 1
max_left x a b e h k = omega arith

max_right : (x a b : ℕ) → x ≡ max a b → b ≡ 1 → a < 2 → x ≡ 1
max_right x a b e h k = omega arith

max_either : (x a b : ℕ) → x ≡ max a b → x ≡ 1 → (a ≡ 1) ⊎ (b ≡ 1)
max_either x a b e h = grind arith

pub joined_left : (a b q : ℕ) → HasBit a q → HasBit (bit_or a b) q
joined_left a b q h = max_left (bit_at (bit_or a b) q) (bit_at a q) (bit_at b q) (bit_at_or a b q) h (bit_at-lt b q)

pub joined_right : (a b q : ℕ) → HasBit b q → HasBit (bit_or a b) q
joined_right a b q h = max_right (bit_at (bit_or a b) q) (bit_at a q) (bit_at b q) (bit_at_or a b q) h (bit_at-lt a q)

pub of_joined : (a b q : ℕ) → HasBit (bit_or a b) q → HasBit a q ⊎ HasBit b q
of_joined a b q h = max_either (bit_at (bit_or a b) q) (bit_at a q) (bit_at b q) (bit_at_or a b q) h

min_both : (x a b c : ℕ) → a < 2 → x ≡ min a b → b ≡ 1 - c → x ≡ 1 → (a ≡ 1) × (c ≡ 0)
min_both x a b c few e f h = (omega arith, omega arith)

min_of : (x a b c : ℕ) → x ≡ min a b → b ≡ 1 - c → a ≡ 1 → c ≡ 0 → x ≡ 1
min_of x a b c e f h k = omega arith

-- what is in one set and not in another
pub of_left : (a b q : ℕ) → b < 2 ^ 128 → q < 128 → HasBit (bit_and a (bit_not w128 b)) q → HasBit a q × (bit_at b q ≡ 0)
of_left a b q small below h =
    min_both (bit_at (bit_and a (bit_not w128 b)) q) (bit_at a q) (bit_at (bit_not w128 b) q) (bit_at b q)
    (bit_at-lt a q) (bit_at_and a (bit_not w128 b) q) (bit_at_not w128 b q small below) h

pub is_left : (a b q : ℕ) → b < 2 ^ 128 → q < 128 → HasBit a q → bit_at b q ≡ 0 → HasBit (bit_and a (bit_not w128 b)) q
is_left a b q small below h k =
    min_of (bit_at (bit_and a (bit_not w128 b)) q) (bit_at a q) (bit_at (bit_not w128 b) q) (bit_at b q)
    (bit_at_and a (bit_not w128 b) q) (bit_at_not w128 b q small below) h k
