-- The first of several refusals, in several parts.
use Rattle.std.proofs.Common.{◌≡◌, ℕ, Bool, true, false, cond, ◌&&◌, ◌||◌, ◌==◌, ltb, Option, Some, None, arith, refl, ap, sym, ◌∙◌}
use Rattle.std.proofs.lemmas.Bool.Decides.{nat_tests}
use Rattle.ir_core.specs.declared.refusals.Refusal.{Refusal}
use Rattle.ir_check_types.specs.Order.{fault_rank, is_before, first_of_two, earlier}

-- an order by three numbers, of which the first that differs decides
abbrev pub precedes : (line column rank other_line other_column other_rank : ℕ) → Bool
precedes x i r y j s = ltb x y || x == y && (ltb i j || i == j && ltb r s)

-- what is before a second, which is before a third, is before the third
pub precedes_third : (x i r y j s z k t : ℕ) → precedes x i r y j s ≡ true → precedes y j s z k t ≡ true → precedes x i r z k t ≡ true
precedes_third x i r y j s z k t first second = grind (arith, nat_tests)

-- what isn't before a second, which isn't before a third, isn't before the third
pub not_before_third : (x i r y j s z k t : ℕ) → precedes x i r y j s ≡ false → precedes y j s z k t ≡ false → precedes x i r z k t ≡ false
not_before_third x i r y j s z k t first second = grind (arith, nat_tests)

pub before_third : (c b a : Refusal) → is_before c b ≡ true → is_before b a ≡ true → is_before c a ≡ true
before_third c b a = precedes_third c.line c.column (fault_rank c.fault) b.line b.column (fault_rank b.fault) a.line a.column (fault_rank a.fault)

pub none_before_third : (c b a : Refusal) → is_before c b ≡ false → is_before b a ≡ false → is_before c a ≡ false
none_before_third c b a = not_before_third c.line c.column (fault_rank c.fault) b.line b.column (fault_rank b.fault) a.line a.column (fault_rank a.fault)

pub taken : (a b : Refusal) → is_before b a ≡ true → first_of_two a b ≡ b
taken a b e = ap (λ t. cond t b a) e

pub kept : (a b : Refusal) → is_before b a ≡ false → first_of_two a b ≡ a
kept a b e = ap (λ t. cond t b a) e

with_third : (c x y : Refusal) → x ≡ y → first_of_two x c ≡ first_of_two y c
with_third c x y e = ap (λ (z : Refusal). first_of_two z c) e

after_first : (a x y : Refusal) → x ≡ y → first_of_two a x ≡ first_of_two a y
after_first a x y e = ap (λ (z : Refusal). first_of_two a z) e

by_cases : (a b c : Refusal) (p q r : Bool) → is_before b a ≡ p → is_before c b ≡ q → is_before c a ≡ r
    → first_of_two (first_of_two a b) c ≡ first_of_two a (first_of_two b c)
by_cases a b c true true r e f g =
    with_third c (first_of_two a b) b (taken a b e) ∙ taken b c f
    ∙ sym (after_first a (first_of_two b c) c (taken b c f) ∙ taken a c (before_third c b a f e))
by_cases a b c true false r e f g =
    with_third c (first_of_two a b) b (taken a b e) ∙ kept b c f
    ∙ sym (after_first a (first_of_two b c) b (kept b c f) ∙ taken a b e)
by_cases a b c false true r e f g =
    with_third c (first_of_two a b) a (kept a b e) ∙ sym (after_first a (first_of_two b c) c (taken b c f))
by_cases a b c false false r e f g =
    with_third c (first_of_two a b) a (kept a b e) ∙ kept a c (none_before_third c b a f e)
    ∙ sym (after_first a (first_of_two b c) b (kept b c f) ∙ kept a b e)

-- it doesn't matter which two are compared first
pub earlier_assoc : (a b c : Option Refusal) → earlier (earlier a b) c ≡ earlier a (earlier b c)
earlier_assoc None b c = refl
earlier_assoc (Some a) None c = refl
earlier_assoc (Some a) (Some b) None = refl
earlier_assoc (Some a) (Some b) (Some c) = ap (λ (x : Refusal). Some x) (by_cases a b c (is_before b a) (is_before c b) (is_before c a) refl refl refl)

pub earlier_none : (a : Option Refusal) → earlier a None ≡ a
earlier_none None = refl
earlier_none (Some a) = refl

pub precedes_self : (x i r : ℕ) → precedes x i r x i r ≡ false
precedes_self x i r = grind (arith, nat_tests)
