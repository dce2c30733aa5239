-- The loop over the parameters of a function.
use Rattle.std.proofs.Common.{ℕ, List, [], ◌∷◌, ◌++◌, length, ◌<◌, ◌≡◌, refl, ◌∙◌, ap, true, false, cond, Ok, Err}
use Rattle.ir_grammar.specs.declared.context.Context.{Context}
use Rattle.ir_grammar.specs.declared.kind.Kind.TheVariants as k
use Rattle.ir_grammar.specs.declared.spelled.SpelledParameter.{SpelledParameter}
use Rattle.ir_grammar.specs.declared.terminal.Terminal.{Terminal}
use Rattle.ir_grammar.specs.declared.terminal.Flaw.{Flaw}
use Rattle.ir_grammar.specs.Reading.{starts, first, is_empty}
use Rattle.ir_grammar.specs.Rules.{base, ◌▷◌}
use Rattle.ir_grammar.specs.Spelled.{Store}
use Rattle.ir_grammar.specs.Names.{parameter, shared}
use Rattle.ir_grammar.specs.Grammar.{production, read, with_front}
use Rattle.ir_grammar.specs.Types.{type_rule}
use Rattle.ir_grammar.specs.Attributes.{attributes}
use Rattle.ir_grammar.specs.Parameters.{behind_type, maybe_local, parameter_rule, comma_parameter, more_parameters, parameters_rule}
use Rattle.ir_grammar.proofs.First.{shortens}
use Rattle.ir_grammar.proofs.Loops.{many_more, many_done, many_failed, commas_none, front_more, front_done}
use Rattle.ir_grammar.proofs.TypeLists.{type_full}

-- a parameter begins as its type
first_parameter : (c : Context) → first (parameter_rule c) ≡ first (type_rule c)
unfolding parameter_rule
first_parameter c = ap (λ e. cond e (first (type_rule c) ++ first (attributes (behind_type c) ▷ maybe_local)) (first (type_rule c))) (type_full c)

pub starts_with_type : (c : Context) → (ts : List Terminal) → starts (first (parameter_rule c)) ts ≡ starts (first (type_rule c)) ts
starts_with_type c ts = ap (λ v. starts v ts) (first_parameter c)

parameter_full : (c : Context) → is_empty (parameter_rule c) ≡ false
unfolding parameter_rule
parameter_full c = rw (type_full c) refl

pub parameters_more : (c : Context) → (levels : ℕ) (front : List SpelledParameter) (ts : List Terminal) (st : Store) (x : SpelledParameter × List Terminal × Store)
    → starts (k.Comma ∷ k.MetaComma ∷ []) ts ≡ true → read levels (comma_parameter c) ts st ≡ Ok x
    → with_front front (read levels (more_parameters c) ts st) ≡ with_front (front ++ x.0 ∷ []) (read levels (more_parameters c) x.1 x.2)
unfolding more_parameters
parameters_more c levels front ts st x h e =
    ap (with_front front) (many_more shared production levels (base parameter) (comma_parameter c) ts st x (unfold comma_parameter in refl) (unfold comma_parameter in h) e)
    ∙ front_more front x.0 (read levels (more_parameters c) x.1 x.2)

pub parameters_done : (c : Context) → (levels : ℕ) (front : List SpelledParameter) (ts : List Terminal) (st : Store)
    → starts (k.Comma ∷ k.MetaComma ∷ []) ts ≡ false → with_front front (read levels (more_parameters c) ts st) ≡ Ok (front, ts, st)
unfolding more_parameters
parameters_done c levels front ts st h =
    ap (with_front front) (many_done shared production levels (base parameter) (comma_parameter c) ts st (unfold comma_parameter in h)) ∙ front_done front ts st

pub parameters_failed : (c : Context) → (levels : ℕ) (front : List SpelledParameter) (ts : List Terminal) (st : Store) (e : Flaw)
    → starts (k.Comma ∷ k.MetaComma ∷ []) ts ≡ true → read levels (comma_parameter c) ts st ≡ Err e → with_front front (read levels (more_parameters c) ts st) ≡ Err e
unfolding more_parameters
parameters_failed c levels front ts st e h q =
    ap (with_front front) (many_failed shared production levels (base parameter) (comma_parameter c) ts st e (unfold comma_parameter in h) q)

pub comma_parameter_takes : (c : Context) → (levels : ℕ) (ts : List Terminal) (st : Store) (x : SpelledParameter × List Terminal × Store)
    → read levels (comma_parameter c) ts st ≡ Ok x → length x.1 < length ts
comma_parameter_takes c levels ts st x h = shortens shared production levels (base parameter) (comma_parameter c) ts st x (unfold comma_parameter in refl) h

pub parameters_none : (c : Context) → (levels : ℕ) (ts : List Terminal) (st : Store) → starts (first (parameter_rule c)) ts ≡ false → read levels (parameters_rule c) ts st ≡ Ok ([], ts, st)
unfolding parameters_rule
parameters_none c levels ts st h = commas_none shared production levels (base parameter) (parameter_rule c) (more_parameters c) ts st (parameter_full c) h
