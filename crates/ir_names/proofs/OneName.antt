-- Two names have one key exactly if they are one name.
use Rattle.std.proofs.Common.{◌≡◌, ℕ, zero, suc, ◌+◌, ◌-◌, ◌*◌, ◌^◌, ◌<◌, ◌≤◌, ◌⊎◌, inl, inr, List, [], ◌∷◌, length, Bool, true, false, ◌==◌, cond, arith, refl, sym, ap, ◌∙◌, subst}
use Rattle.std.proofs.Math.Nat.{pow-suc, mul-le-mul_right}
use Rattle.std.proofs.lemmas.Bool.Decides.{nat_tests}
use Rattle.std.specs.Char.{is_ascii_digit, digit_value}
use Rattle.std.specs.Str.Parse.{digits_value, digits_value_after}
use Rattle.std.specs.Prelude.{◌↔◌}
use Rattle.ir_core.specs.Spelling.{quote}
use Rattle.ir_text.specs.TokenText.{significant, name_bytes}
use Rattle.ir_text.specs.Names.{name_key}
use Rattle.ir_names.specs.Faults.{is_number}
use Rattle.ir_names.specs.OneName.{AreSame, IsOneName}
use Rattle.ir_names.proofs.Digits.{digit_is, digit_range, first_digit, other_digits, after_below, after_least, significant_value, significant_decimal}

-- ---- numbers of one length

same_front : (x y a b : ℕ) → (48 ≤ a) × (a ≤ 57) → (48 ≤ b) × (b ≤ 57) → x * 10 + (a - 48) ≡ y * 10 + (b - 48) → (x ≡ y) × (a ≡ b)
same_front x y a b ra rb h = (omega (arith, ra.0, ra.1, rb.0, rb.1), omega (arith, ra.0, ra.1, rb.0, rb.1))

same_digits : (x y : ℕ) (digits others : List ℕ) → length digits ≡ length others → is_number digits ≡ true → is_number others ≡ true
    → digits_value_after 10 x digits ≡ digits_value_after 10 y others → (x ≡ y) × (digits ≡ others)
same_digits x y [] [] l d o h = (h, refl)
same_digits x y [] (b ∷ others) l d o h = absurd (omega arith)
same_digits x y (a ∷ digits) [] l d o h = absurd (omega arith)
same_digits x y (a ∷ digits) (b ∷ others) l d o h =
    let less : length digits ≡ length others = omega arith in
    let tails = same_digits (x * 10 + digit_value a) (y * 10 + digit_value b) digits others less (other_digits a digits d) (other_digits b others o) h in
    let ea : digit_value a ≡ a - 48 = digit_is a (first_digit a digits d) in
    let eb : digit_value b ≡ b - 48 = digit_is b (first_digit b others o) in
    let sums : x * 10 + (a - 48) ≡ y * 10 + (b - 48) = omega (arith, tails.0, ea, eb) in
    let fronts = same_front x y a b (digit_range a (first_digit a digits d)) (digit_range b (first_digit b others o)) sums in
    let heads : a ≡ b = fronts.1 in let rest : digits ≡ others = tails.1 in
    (fronts.0, cc)

-- ---- numbers of different lengths

power_more : (n k : ℕ) → 10 ^ n ≤ 10 ^ (k + n)
power_more n zero = let e : zero + n ≡ n = omega arith in let p : 10 ^ (zero + n) ≡ 10 ^ n = ap (λ i. 10 ^ i) e in omega arith
power_more n (suc k) =
    let e : suc k + n ≡ suc (k + n) = omega arith in
    let p : 10 ^ (suc k + n) ≡ 10 ^ suc (k + n) = ap (λ i. 10 ^ i) e in
    let t : 10 ^ suc (k + n) ≡ 10 ^ (k + n) * 10 = pow-suc 10 (k + n) in
    let h = power_more n k in omega arith

power_ordered : (n m : ℕ) → n ≤ m → 10 ^ n ≤ 10 ^ m
power_ordered n m h = let e : (m - n) + n ≡ m = omega arith in let p : 10 ^ ((m - n) + n) ≡ 10 ^ m = ap (λ i. 10 ^ i) e in let q = power_more n (m - n) in omega arith

-- a digit that isn't 0 is 1 at least
at_least_1 : (b : ℕ) → is_ascii_digit b ≡ true → (b == 48) ≡ false → 1 ≤ digit_value b
at_least_1 b d z = let e = digit_is b d in let r = digit_range b d in grind (arith, nat_tests, e, r.0, r.1, z)

one_times : (d p : ℕ) → 1 ≤ d → p ≤ d * p
one_times d p h = let m : 1 * p ≤ d * p = mul-le-mul_right p h in omega arith

longer_more : (digits : List ℕ) (b : ℕ) (rest : List ℕ) → is_number digits ≡ true → is_number (b ∷ rest) ≡ true → (b == 48) ≡ false → length digits ≤ length rest
    → digits_value 10 digits < digits_value 10 (b ∷ rest)
longer_more digits b rest d o z l =
    let below : digits_value_after 10 0 digits < (0 + 1) * 10 ^ length digits = after_below 0 digits d in
    let least : (0 * 10 + digit_value b) * 10 ^ length rest ≤ digits_value_after 10 (0 * 10 + digit_value b) rest = after_least (0 * 10 + digit_value b) rest in
    let more : 10 ^ length digits ≤ 10 ^ length rest = power_ordered (length digits) (length rest) l in
    let one = at_least_1 b (first_digit b rest o) z in
    let e : (0 * 10 + digit_value b) ≡ digit_value b = omega arith in
    let times = one_times (0 * 10 + digit_value b) (10 ^ length rest) (omega arith) in
    omega arith

-- ---- digits without zeros in front

-- nothing, or a first digit that isn't 0
Leads : List ℕ → Type 0
Leads [] = Unit {0}
Leads (b ∷ rest) = (b == 48) ≡ false

leads_by : (b : ℕ) (rest : List ℕ) (t : Bool) → (b == 48) ≡ t → Leads (significant rest) → Leads (cond t (significant rest) (b ∷ rest))
unfolding Leads
leads_by b rest true e h = h
leads_by b rest false e h = e

leads : (digits : List ℕ) → Leads (significant digits)
unfolding Leads
leads [] = tt
leads (b ∷ rest) = leads_by b rest (b == 48) refl (leads rest)

longer : (digits others : List ℕ) → is_number digits ≡ true → is_number others ≡ true → Leads others → length digits < length others → digits_value 10 digits < digits_value 10 others
unfolding Leads
longer digits [] d o h l = absurd (omega arith)
longer digits (b ∷ rest) d o h l = longer_more digits b rest d o h (omega arith)

by_length : (digits others : List ℕ) → is_number digits ≡ true → is_number others ≡ true → Leads digits → Leads others → digits_value 10 digits ≡ digits_value 10 others
    → (length digits < length others) ⊎ ((length others < length digits) ⊎ (length digits ≡ length others)) → digits ≡ others
by_length digits others d o hd ho e (inl less) = absurd (let m = longer digits others d o ho less in omega arith)
by_length digits others d o hd ho e (inr (inl more)) = absurd (let m = longer others digits o d hd more in omega arith)
by_length digits others d o hd ho e (inr (inr same)) = (same_digits 0 0 digits others same d o e).1

lengths : (n m : ℕ) → (n < m) ⊎ ((m < n) ⊎ (n ≡ m))
lengths n m = search arith

same_significant : (a b : List ℕ) → is_number a ≡ true → is_number b ≡ true → digits_value 10 a ≡ digits_value 10 b → significant a ≡ significant b
same_significant a b na nb e =
    let va = significant_value a in let vb = significant_value b in
    by_length (significant a) (significant b) (significant_decimal a na) (significant_decimal b nb) (leads a) (leads b) (va ∙ e ∙ sym vb) (lengths (length (significant a)) (length (significant b)))

-- ---- keys

no_quote : (digits rest : List ℕ) → is_number digits ≡ true → digits ≡ quote ∷ rest → ⊥
no_quote [] rest d e = cc
no_quote (b ∷ digits) rest d e =
    let same : b ≡ 34 = cc in let digit : is_ascii_digit b ≡ true = first_digit b digits d in
    let never : is_ascii_digit 34 ≡ true = subst (λ i. is_ascii_digit i ≡ true) same digit in cc

keys_by : (a b : List ℕ) (m n : Bool) → is_number a ≡ m → is_number b ≡ n
    → (cond m (significant a) (quote ∷ name_bytes a) ≡ cond n (significant b) (quote ∷ name_bytes b)) ↔ AreSame m n a b
keys_by a b true true ea eb = (λ h. sym (significant_value a) ∙ (ap (λ d. digits_value 10 d) h ∙ significant_value b), λ e. same_significant a b ea eb e)
keys_by a b true false ea eb = (λ h. no_quote (significant a) (name_bytes b) (significant_decimal a ea) h, λ h. absurd h)
keys_by a b false true ea eb = (λ h. no_quote (significant b) (name_bytes a) (significant_decimal b eb) (sym h), λ h. absurd h)
keys_by a b false false ea eb = (λ h. let e : name_bytes a ≡ name_bytes b = cc in e, λ e. ap (λ x. quote ∷ x) e)

pub one_key : (a b : List ℕ) → (name_key a ≡ name_key b) ↔ IsOneName a b
one_key a b = keys_by a b (is_number a) (is_number b) refl refl
