-- The loop over the cases of a switch.
use Rattle.std.proofs.Common.{ℕ, List, [], ◌∷◌, ◌++◌, length, ◌<◌, ◌≡◌, refl, ◌∙◌, ap, true, false, cond, Ok, Err}
use Rattle.ir_grammar.specs.declared.context.Context.TheVariants as at
use Rattle.ir_grammar.specs.declared.spelled_bodies.SpelledCase.{SpelledCase}
use Rattle.ir_grammar.specs.declared.terminal.Terminal.{Terminal}
use Rattle.ir_grammar.specs.declared.terminal.Flaw.{Flaw}
use Rattle.ir_grammar.specs.Reading.{Outcome, starts, first, is_empty}
use Rattle.ir_grammar.specs.Rules.{base}
use Rattle.ir_grammar.specs.Spelled.{Store}
use Rattle.ir_grammar.specs.Names.{case, shared}
use Rattle.ir_grammar.specs.Grammar.{production, read, with_front}
use Rattle.ir_grammar.specs.Types.{type_rule}
use Rattle.ir_grammar.specs.Operands.{integer_operand, comma_block}
use Rattle.ir_grammar.specs.Terminators.{case_value, case_rule, cases_rule}
use Rattle.ir_grammar.proofs.First.{shortens}
use Rattle.ir_grammar.proofs.Loops.{many_more, many_done, many_failed, front_more, front_done}
use Rattle.ir_grammar.proofs.TypeLists.{type_full}

-- a case begins as its type
first_value : first case_value ≡ first (type_rule at.Plain)
unfolding case_value
first_value = ap (λ e. cond e (first (type_rule at.Plain) ++ first integer_operand) (first (type_rule at.Plain))) (type_full at.Plain)

value_full : is_empty case_value ≡ false
unfolding case_value
value_full = rw (type_full at.Plain) refl

case_full : is_empty case_rule ≡ false
unfolding case_rule
case_full = rw value_full refl

first_case : first case_rule ≡ first (type_rule at.Plain)
unfolding case_rule
first_case = ap (λ e. cond e (first case_value ++ first comma_block) (first case_value)) value_full ∙ first_value

pub starts_with_type : (ts : List Terminal) → starts (first case_rule) ts ≡ starts (first (type_rule at.Plain)) ts
starts_with_type ts = ap (λ v. starts v ts) first_case

pub cases_rule_more : (levels : ℕ) (front : List SpelledCase) (ts : List Terminal) (st : Store) (x : SpelledCase × List Terminal × Store)
    → starts (first case_rule) ts ≡ true → read levels case_rule ts st ≡ Ok x
    → with_front front (read levels cases_rule ts st) ≡ with_front (front ++ x.0 ∷ []) (read levels cases_rule x.1 x.2)
unfolding cases_rule
cases_rule_more levels front ts st x h e =
    ap (with_front front) (many_more shared production levels (base case) case_rule ts st x case_full h e)
    ∙ front_more front x.0 (read levels cases_rule x.1 x.2)

pub cases_rule_done : (levels : ℕ) (front : List SpelledCase) (ts : List Terminal) (st : Store)
    → starts (first case_rule) ts ≡ false → with_front front (read levels cases_rule ts st) ≡ Ok (front, ts, st)
unfolding cases_rule
cases_rule_done levels front ts st h =
    ap (with_front front) (many_done shared production levels (base case) case_rule ts st h) ∙ front_done front ts st

pub cases_rule_failed : (levels : ℕ) (front : List SpelledCase) (ts : List Terminal) (st : Store) (e : Flaw)
    → starts (first case_rule) ts ≡ true → read levels case_rule ts st ≡ Err e → with_front front (read levels cases_rule ts st) ≡ Err e
unfolding cases_rule
cases_rule_failed levels front ts st e h q =
    ap (with_front front) (many_failed shared production levels (base case) case_rule ts st e h q)

pub cases_rule_take : (levels : ℕ) (ts : List Terminal) (st : Store) (x : SpelledCase × List Terminal × Store)
    → read levels case_rule ts st ≡ Ok x → length x.1 < length ts
cases_rule_take levels ts st x h = shortens shared production levels (base case) case_rule ts st x case_full h

-- none in front
none_first : {A : Type 0} (r : Outcome Store (List A)) → with_front [] r ≡ r
none_first (Ok x) = refl
none_first (Err e) = refl

pub cases_rule_from_none : (levels : ℕ) (ts : List Terminal) (st : Store) → with_front [] (read levels cases_rule ts st) ≡ read levels cases_rule ts st
cases_rule_from_none levels ts st = none_first (read levels cases_rule ts st)
