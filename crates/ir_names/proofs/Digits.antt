-- Numbers as rows of digits: digits behind others, how large they are, and comparing two rows digit by digit.
use Rattle.std.proofs.Common.{◌≡◌, ℕ, zero, suc, ◌+◌, ◌-◌, ◌*◌, ◌^◌, ◌<◌, ◌≤◌, List, [], ◌∷◌, ◌++◌, Bool, true, false, cond, ◌&&◌, ◌==◌, ltb, length-take, length-drop, length, get_or, take, drop, arith, refl, ap, sym, ◌∙◌}
use Rattle.std.specs.Char.{is_ascii_digit, digit_value}
use Rattle.std.specs.Str.Parse.{digits_value, digits_value_after}
use Rattle.std.proofs.Math.Nat.{pow-suc, mul-le-mul_left, mul-le-mul_right}
use Rattle.std.proofs.lemmas.List.Folds.{list_all-append}
use Rattle.std.proofs.lemmas.List.{take_all}
use Rattle.std.proofs.lemmas.Bool.Decides.{nat_tests}
use Rattle.ir_text.specs.TokenText.{significant}
use Rattle.ir_names.specs.Faults.{is_number}

pub digit_is : (b : ℕ) → is_ascii_digit b ≡ true → digit_value b ≡ b - 48
digit_is b h = grind (arith, nat_tests)

pub digit_range : (b : ℕ) → is_ascii_digit b ≡ true → (48 ≤ b) × (b ≤ 57)
digit_range b h = (grind (arith, nat_tests), grind (arith, nat_tests))

and_left : (a b : Bool) → (a && b) ≡ true → a ≡ true
and_left true b h = refl
and_left false b h = cc

and_right : (a b : Bool) → (a && b) ≡ true → b ≡ true
and_right true b h = h
and_right false b h = cc

pub first_digit : (b : ℕ) (rest : List ℕ) → is_number (b ∷ rest) ≡ true → is_ascii_digit b ≡ true
first_digit b rest h = and_left (is_ascii_digit b) (is_number rest) h

pub other_digits : (b : ℕ) (rest : List ℕ) → is_number (b ∷ rest) ≡ true → is_number rest ≡ true
other_digits b rest h = and_right (is_ascii_digit b) (is_number rest) h

-- digits behind a sum
after_sum : (x y : ℕ) (digits : List ℕ) → digits_value_after 10 (x + y) digits ≡ x * 10 ^ length digits + digits_value_after 10 y digits
after_sum x y [] = omega arith
after_sum x y (b ∷ rest) =
    let regroup : (x + y) * 10 + digit_value b ≡ x * 10 + (y * 10 + digit_value b) = omega arith in
    let h : digits_value_after 10 (x * 10 + (y * 10 + digit_value b)) rest ≡ x * 10 * 10 ^ length rest + digits_value_after 10 (y * 10 + digit_value b) rest = after_sum (x * 10) (y * 10 + digit_value b) rest in
    let p : 10 ^ suc (length rest) ≡ 10 ^ length rest * 10 = pow-suc 10 (length rest) in
    let e : digits_value_after 10 ((x + y) * 10 + digit_value b) rest ≡ x * 10 * 10 ^ length rest + digits_value_after 10 (y * 10 + digit_value b) rest = ap (λ n. digits_value_after 10 n rest) regroup ∙ h in
    let q : x * 10 ^ suc (length rest) ≡ x * (10 ^ length rest * 10) = ap (λ n. x * n) p in
    omega arith

-- digits stay below one more in front of them
pub after_below : (x : ℕ) (digits : List ℕ) → is_number digits ≡ true → digits_value_after 10 x digits < (x + 1) * 10 ^ length digits
after_below x [] h = omega arith
after_below x (b ∷ rest) h =
    let range : (48 ≤ b) × (b ≤ 57) = digit_range b (first_digit b rest h) in
    let value : digit_value b ≡ b - 48 = digit_is b (first_digit b rest h) in
    let below : digits_value_after 10 (x * 10 + digit_value b) rest < (x * 10 + digit_value b + 1) * 10 ^ length rest = after_below (x * 10 + digit_value b) rest (other_digits b rest h) in
    let small : digit_value b ≤ 9 = omega arith in
    let most : digit_value b * 10 ^ length rest ≤ 9 * 10 ^ length rest = mul-le-mul_right (10 ^ length rest) small in
    let p : 10 ^ suc (length rest) ≡ 10 ^ length rest * 10 = pow-suc 10 (length rest) in
    let q : (x + 1) * 10 ^ suc (length rest) ≡ (x + 1) * (10 ^ length rest * 10) = ap (λ n. (x + 1) * n) p in
    omega arith

-- and reach what stands in front of them
pub after_least : (x : ℕ) (digits : List ℕ) → x * 10 ^ length digits ≤ digits_value_after 10 x digits
after_least x digits = let e : digits_value_after 10 (x + 0) digits ≡ x * 10 ^ length digits + digits_value_after 10 0 digits = after_sum x 0 digits in
    let same : digits_value_after 10 (x + 0) digits ≡ digits_value_after 10 x digits = ap (λ n. digits_value_after 10 n digits) (omega arith) in omega arith

-- digits in two parts
pub after_parts : (x : ℕ) (front back : List ℕ) → digits_value_after 10 x (front ++ back) ≡ digits_value_after 10 (digits_value_after 10 x front) back
after_parts x [] back = refl
after_parts x (b ∷ rest) back = after_parts (x * 10 + digit_value b) rest back

same_test : (a b c d : ℕ) → (a < b → c < d) → (c < d → a < b) → ltb a b ≡ ltb c d
same_test a b c d to from = grind (arith, nat_tests)

true_test : (a b : ℕ) → a < b → ltb a b ≡ true
true_test a b h = grind (arith, nat_tests)

false_test : (a b : ℕ) → b ≤ a → ltb a b ≡ false
false_test a b h = grind (arith, nat_tests)

-- one digit of each on, where what is above is left
on_one : (lead next more b o : ℕ) (rest others : List ℕ) → length rest ≡ length others → is_ascii_digit b ≡ true → is_ascii_digit o ≡ true
    → next + (o - 48) ≡ lead * 10 + (b - 48)
    → ltb (digits_value_after 10 next rest) (digits_value 10 others + more) ≡ ltb (digits_value_after 10 lead (b ∷ rest)) (digits_value 10 (o ∷ others) + more)
on_one lead next more b o rest others same digit other step =
    let vb : digit_value b ≡ b - 48 = digit_is b digit in
    let vo : digit_value o ≡ o - 48 = digit_is o other in
    let regroup : lead * 10 + digit_value b ≡ digit_value o + next = omega arith in
    let left : digits_value_after 10 (lead * 10 + digit_value b) rest ≡ digit_value o * 10 ^ length rest + digits_value_after 10 next rest =
    ap (λ n. digits_value_after 10 n rest) regroup ∙ after_sum (digit_value o) next rest in
    let front : digits_value_after 10 (0 * 10 + digit_value o) others ≡ digits_value_after 10 (digit_value o + 0) others = ap (λ n. digits_value_after 10 n others) (omega arith) in
    let right : digits_value_after 10 (0 * 10 + digit_value o) others ≡ digit_value o * 10 ^ length others + digits_value_after 10 0 others =
    front ∙ after_sum (digit_value o) 0 others in
    let equal : digit_value o * 10 ^ length rest ≡ digit_value o * 10 ^ length others = ap (λ n. digit_value o * 10 ^ n) same in
    same_test _ _ _ _ (λ h. omega arith) (λ h. omega arith)

-- the other's digit is more than what is above
now_less : (lead more b o : ℕ) (rest others : List ℕ) → length rest ≡ length others → is_ascii_digit b ≡ true → is_ascii_digit o ≡ true → is_number rest ≡ true
    → lead * 10 + (b - 48) < o - 48
    → ltb (digits_value_after 10 lead (b ∷ rest)) (digits_value 10 (o ∷ others) + more) ≡ true
now_less lead more b o rest others same digit other decimal less =
    let vb : digit_value b ≡ b - 48 = digit_is b digit in
    let vo : digit_value o ≡ o - 48 = digit_is o other in
    let below : digits_value_after 10 (lead * 10 + digit_value b) rest < (lead * 10 + digit_value b + 1) * 10 ^ length rest = after_below _ rest decimal in
    let at_most : lead * 10 + digit_value b + 1 ≤ digit_value o = omega arith in
    let most : (lead * 10 + digit_value b + 1) * 10 ^ length rest ≤ digit_value o * 10 ^ length rest = mul-le-mul_right (10 ^ length rest) at_most in
    let least : (0 * 10 + digit_value o) * 10 ^ length others ≤ digits_value_after 10 (0 * 10 + digit_value o) others = after_least (0 * 10 + digit_value o) others in
    let equal : digit_value o * 10 ^ length rest ≡ digit_value o * 10 ^ length others = ap (λ n. digit_value o * 10 ^ n) same in
    true_test _ _ (omega arith)

pow_positive : (n : ℕ) → 1 ≤ 10 ^ n
pow_positive zero = omega arith
pow_positive (suc n) = let h = pow_positive n in let e : 10 ^ suc n ≡ 10 ^ n * 10 = pow-suc 10 n in omega arith

-- digits behind more than the rest can make up
pub far_above : (lead more : ℕ) (rest others : List ℕ) → length rest ≡ length others → is_number others ≡ true → more < lead
    → ltb (digits_value_after 10 lead rest) (digits_value 10 others + more) ≡ false
far_above lead more rest others same decimal above =
    let least : lead * 10 ^ length rest ≤ digits_value_after 10 lead rest = after_least lead rest in
    let below : digits_value_after 10 0 others < (0 + 1) * 10 ^ length others = after_below 0 others decimal in
    let more_above : more + 1 ≤ lead = omega arith in
    let most : (more + 1) * 10 ^ length rest ≤ lead * 10 ^ length rest = mul-le-mul_right (10 ^ length rest) more_above in
    let positive : 1 ≤ 10 ^ length rest = pow_positive (length rest) in
    let kept : more * 1 ≤ more * 10 ^ length rest = mul-le-mul_left more positive in
    let equal : 10 ^ length rest ≡ 10 ^ length others = ap (λ n. 10 ^ n) same in
    false_test _ _ (omega arith)

-- the rows without their first digits
pub rest_decimal : (digits : List ℕ) → 1 ≤ length digits → is_number digits ≡ true → is_number (take (length digits - 1) (drop 1 digits)) ≡ true
rest_decimal [] some h = absurd (omega arith)
rest_decimal (b ∷ rest) some h = let e : take (length (b ∷ rest) - 1) rest ≡ rest = take_all _ rest (omega arith) in ap is_number e ∙ other_digits b rest h

pub rest_lengths : (digits others : List ℕ) → length digits ≡ length others → length (take (length digits - 1) (drop 1 digits)) ≡ length (take (length others - 1) (drop 1 others))
rest_lengths digits others same = simp (length-take, length-drop) (omega arith)

pub step_same : (lead next more : ℕ) (digits others : List ℕ) → 1 ≤ length digits → length digits ≡ length others → is_number digits ≡ true → is_number others ≡ true
    → next + (get_or others 0 0 - 48) ≡ lead * 10 + (get_or digits 0 0 - 48)
    → ltb (digits_value_after 10 next (take (length digits - 1) (drop 1 digits))) (digits_value 10 (take (length others - 1) (drop 1 others)) + more) ≡ ltb (digits_value_after 10 lead digits) (digits_value 10 others + more)
step_same lead next more [] others some same d o step = absurd (omega arith)
step_same lead next more (b ∷ rest) [] some same d o step = absurd (omega arith)
step_same lead next more (b ∷ rest) (other ∷ others) some same d o step =
    let e : take (length (b ∷ rest) - 1) rest ≡ rest = take_all _ rest (omega arith) in
    let f : take (length (other ∷ others) - 1) others ≡ others = take_all _ others (omega arith) in
    ap (λ xs. ltb (digits_value_after 10 next xs) (digits_value 10 (take (length (other ∷ others) - 1) others) + more)) e
    ∙ ap (λ xs. ltb (digits_value_after 10 next rest) (digits_value 10 xs + more)) f
    ∙ on_one lead next more b other rest others (omega arith) (first_digit b rest d) (first_digit other others o) step

pub step_less : (lead more : ℕ) (digits others : List ℕ) → 1 ≤ length digits → length digits ≡ length others → is_number digits ≡ true → is_number others ≡ true
    → lead * 10 + (get_or digits 0 0 - 48) < get_or others 0 0 - 48
    → ltb (digits_value_after 10 lead digits) (digits_value 10 others + more) ≡ true
step_less lead more [] others some same d o less = absurd (omega arith)
step_less lead more (b ∷ rest) [] some same d o less = absurd (omega arith)
step_less lead more (b ∷ rest) (other ∷ others) some same d o less =
    now_less lead more b other rest others (omega arith) (first_digit b rest d) (first_digit other others o) (other_digits b rest d) less

pub step_more : (lead next more : ℕ) (digits others : List ℕ) → 1 ≤ length digits → length digits ≡ length others → is_number digits ≡ true → is_number others ≡ true
    → next + (get_or others 0 0 - 48) ≡ lead * 10 + (get_or digits 0 0 - 48) → more < next
    → ltb (digits_value_after 10 lead digits) (digits_value 10 others + more) ≡ false
step_more lead next more [] others some same d o step above = absurd (omega arith)
step_more lead next more (b ∷ rest) [] some same d o step above = absurd (omega arith)
step_more lead next more (b ∷ rest) (other ∷ others) some same d o step above =
    sym (on_one lead next more b other rest others (omega arith) (first_digit b rest d) (first_digit other others o) step)
    ∙ far_above next more rest others (omega arith) (other_digits other others o) above

after_grows : (n : ℕ) (digits : List ℕ) → n ≤ digits_value_after 10 n digits
after_grows n [] = omega arith
after_grows n (b ∷ rest) = let h = after_grows (n * 10 + digit_value b) rest in omega arith

-- a number past the limit stays past it
pub past_limit : (value limit : ℕ) (digits : List ℕ) → 1 ≤ length digits → is_number digits ≡ true → limit < value * 10 + (get_or digits 0 0 - 48) → limit < digits_value_after 10 value digits
past_limit value limit [] some d past = absurd (omega arith)
past_limit value limit (b ∷ rest) some d past =
    let v : digit_value b ≡ b - 48 = digit_is b (first_digit b rest d) in
    let h : value * 10 + digit_value b ≤ digits_value_after 10 (value * 10 + digit_value b) rest = after_grows _ rest in
    omega arith

front_zero : (b : ℕ) (rest : List ℕ) (t : Bool) → (b == 48) ≡ t → digits_value 10 (significant rest) ≡ digits_value 10 rest → digits_value 10 (cond t (significant rest) (b ∷ rest)) ≡ digits_value 10 (b ∷ rest)
front_zero b rest true e same =
    let is : b ≡ 48 = grind (arith, nat_tests) in
    let zero_digit : 0 * 10 + digit_value b ≡ 0 = ap (λ n. 0 * 10 + digit_value n) is in
    same ∙ sym (ap (λ n. digits_value_after 10 n rest) zero_digit)
front_zero b rest false e same = refl

-- zeros in front don't count
pub significant_value : (digits : List ℕ) → digits_value 10 (significant digits) ≡ digits_value 10 digits
significant_value [] = refl
significant_value (b ∷ rest) = front_zero b rest (b == 48) refl (significant_value rest)

front_decimal : (b : ℕ) (rest : List ℕ) (t : Bool) → is_number (b ∷ rest) ≡ true → is_number (significant rest) ≡ true → is_number (cond t (significant rest) (b ∷ rest)) ≡ true
front_decimal b rest true h same = same
front_decimal b rest false h same = h

pub significant_decimal : (digits : List ℕ) → is_number digits ≡ true → is_number (significant digits) ≡ true
significant_decimal [] h = h
significant_decimal (b ∷ rest) h = front_decimal b rest (b == 48) h (significant_decimal rest (other_digits b rest h))

-- a part of digits
pub front_part : (front back : List ℕ) → is_number (front ++ back) ≡ true → is_number front ≡ true
front_part front back h = and_left (is_number front) (is_number back) (sym (list_all-append is_ascii_digit front back) ∙ h)

pub back_part : (front back : List ℕ) → is_number (front ++ back) ≡ true → is_number back ≡ true
back_part front back h = and_right (is_number front) (is_number back) (sym (list_all-append is_ascii_digit front back) ∙ h)

-- fewer digits than a row that doesn't begin with zeros
pub shorter_less : (more : ℕ) (digits front back : List ℕ) → length digits ≡ length back → is_number digits ≡ true → 0 < digits_value 10 front
    → ltb (digits_value 10 digits) (digits_value 10 (front ++ back) + more) ≡ true
shorter_less more digits front back same d some =
    let below : digits_value_after 10 0 digits < (0 + 1) * 10 ^ length digits = after_below 0 digits d in
    let parts : digits_value_after 10 0 (front ++ back) ≡ digits_value_after 10 (digits_value 10 front) back = after_parts 0 front back in
    let least : digits_value 10 front * 10 ^ length back ≤ digits_value_after 10 (digits_value 10 front) back = after_least _ back in
    let one : 1 ≤ digits_value 10 front = omega arith in
    let most : 1 * 10 ^ length back ≤ digits_value 10 front * 10 ^ length back = mul-le-mul_right (10 ^ length back) one in
    let equal : 10 ^ length digits ≡ 10 ^ length back = ap (λ n. 10 ^ n) same in
    true_test _ _ (omega arith)
