use Rattle.std.proofs.Common.{◌≡◌, ℕ, ◌+◌, List, ◌++◌, true, ltb, take, drop, arith, refl, sym, ap, ◌∙◌}
use Rattle.std.specs.Str.Parse.{digits_value, digits_value_after}
use Rattle.std.proofs.lemmas.List.{take-append-drop}
use Rattle.ir_text.specs.TokenText.{significant}
use Rattle.ir_names.specs.Faults.{is_number}
use Rattle.ir_names.proofs.Digits.{significant_decimal, significant_value, front_part, back_part, shorter_less, far_above, after_parts}
use Rattle.ir_names.proofs.counter.Counter.is_above.Goals as goal

parts_are : (n : ℕ) (whole front back : List ℕ) → front ≡ take n whole → back ≡ drop n whole → whole ≡ front ++ back
parts_are n whole front back f b = sym (take-append-drop n whole) ∙ cc

pub is_less-requires-clause-decimal : goal.is_less-requires-clause-decimal
is_less-requires-clause-decimal c = ap is_number c.significant-number.ensures ∙ significant_decimal c.args.digits.now c.requires

pub value_within-requires-else-number-self : goal.value_within-requires-else-number-self
value_within-requires-else-number-self c =
    let s = c.split_at-else-number-self in
    let whole = parts_are _ c.significant-number.result.now s.result.0.now s.result.1.now s.ensures.front s.ensures.back in
    front_part s.result.0.now s.result.1.now (sym (ap is_number whole) ∙ ap is_number c.significant-number.ensures ∙ significant_decimal c.args.digits.now c.requires)

pub is_less-requires-in-Some-value_within-clause-decimal : goal.is_less-requires-in-Some-value_within-clause-decimal
is_less-requires-in-Some-value_within-clause-decimal c =
    let s = c.split_at-else-number-self in
    let whole = parts_are _ c.significant-number.result.now s.result.0.now s.result.1.now s.ensures.front s.ensures.back in
    back_part s.result.0.now s.result.1.now (sym (ap is_number whole) ∙ ap is_number c.significant-number.ensures ∙ significant_decimal c.args.digits.now c.requires)

same_answer : (m n a b more : ℕ) → m ≡ n → a ≡ b → ltb m (a + more) ≡ ltb n (b + more)
same_answer m n a b more e f = cc

number_value : (digits number : List ℕ) → number ≡ significant digits → digits_value 10 number ≡ digits_value 10 digits
number_value digits number e = ap (digits_value 10) e ∙ significant_value digits

whole_value : (whole front back : List ℕ) (lead : ℕ) → whole ≡ front ++ back → lead ≡ digits_value 10 front → digits_value_after 10 lead back ≡ digits_value 10 whole
whole_value whole front back lead e f = ap (λ n. digits_value_after 10 n back) f ∙ sym (after_parts 0 front back) ∙ ap (digits_value 10) (sym e)

pub returns-in-None : goal.returns-in-None
returns-in-None c =
    let s = c.split_at in
    let whole : c.args.self.now.digits.now ≡ s.result.0.now ++ s.result.1.now = parts_are _ c.args.self.now.digits.now s.result.0.now s.result.1.now s.ensures.front s.ensures.back in
    let decimal : is_number c.significant-number.result.now ≡ true = ap is_number c.significant-number.ensures ∙ significant_decimal c.args.digits.now c.requires in
    let back_len = s.ensures.back_len in
    sym (shorter_less c.args.self.now.more c.significant-number.result.now s.result.0.now s.result.1.now (omega arith) decimal c.in-None.ensures)
    ∙ same_answer _ _ _ _ c.args.self.now.more (number_value c.args.digits.now c.significant-number.result.now c.significant-number.ensures) (ap (digits_value 10) (sym whole))

pub returns-in-Some : goal.returns-in-Some
returns-in-Some c =
    let s = c.split_at in
    let whole : c.args.self.now.digits.now ≡ s.result.0.now ++ s.result.1.now = parts_are _ c.args.self.now.digits.now s.result.0.now s.result.1.now s.ensures.front s.ensures.back in
    let found = c.in-Some.ensures in
    let zero_front : 0 ≡ digits_value 10 s.result.0.now = omega arith in
    c.is_less.ensures
    ∙ same_answer _ _ _ _ c.args.self.now.more (number_value c.args.digits.now c.significant-number.result.now c.significant-number.ensures) (whole_value c.args.self.now.digits.now s.result.0.now s.result.1.now 0 whole zero_front)

pub returns-in-None-value_within : goal.returns-in-None-value_within
returns-in-None-value_within c =
    let s = c.split_at-else-number-self in
    let whole : c.significant-number.result.now ≡ s.result.0.now ++ s.result.1.now = parts_are _ c.significant-number.result.now s.result.0.now s.result.1.now s.ensures.front s.ensures.back in
    let back_len = s.ensures.back_len in
    sym (far_above (digits_value 10 s.result.0.now) c.args.self.now.more s.result.1.now c.args.self.now.digits.now (omega arith) c.args.self.now.decimal c.in-None-value_within.ensures)
    ∙ ap (λ n. ltb n (digits_value 10 c.args.self.now.digits.now + c.args.self.now.more)) (whole_value c.significant-number.result.now s.result.0.now s.result.1.now _ whole refl ∙ number_value c.args.digits.now c.significant-number.result.now c.significant-number.ensures)

pub returns-in-Some-value_within : goal.returns-in-Some-value_within
returns-in-Some-value_within c =
    let s = c.split_at-else-number-self in
    let whole : c.significant-number.result.now ≡ s.result.0.now ++ s.result.1.now = parts_are _ c.significant-number.result.now s.result.0.now s.result.1.now s.ensures.front s.ensures.back in
    c.is_less-in-Some-value_within.ensures
    ∙ ap (λ n. ltb n (digits_value 10 c.args.self.now.digits.now + c.args.self.now.more)) (whole_value c.significant-number.result.now s.result.0.now s.result.1.now c.in-Some-value_within.lead whole c.in-Some-value_within.ensures.0 ∙ number_value c.args.digits.now c.significant-number.result.now c.significant-number.ensures)
