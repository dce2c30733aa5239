-- Orders by two numbers, of which the first decides.
use Rattle.std.proofs.Common.{◌≡◌, ℕ, Bool, true, false, ◌&&◌, ◌||◌, ◌==◌, ltb, arith}
use Rattle.std.proofs.lemmas.Bool.Decides.{nat_tests}

abbrev pub precedes : ℕ → ℕ → ℕ → ℕ → Bool
precedes x i y j = ltb x y || x == y && ltb i j

pub precedes_self : (x i : ℕ) → precedes x i x i ≡ false
precedes_self x i = grind (arith, nat_tests)

-- what is before a third is before each that the third isn't behind
pub taken_place : (x i y j z k : ℕ) → precedes x i y j ≡ true → precedes x i z k ≡ false → precedes y j z k ≡ false
taken_place x i y j z k before kept = grind (arith, nat_tests)

pub kept_place : (x i y j z k : ℕ) → precedes x i y j ≡ false → precedes y j z k ≡ false → precedes x i z k ≡ false
kept_place x i y j z k before kept = grind (arith, nat_tests)
