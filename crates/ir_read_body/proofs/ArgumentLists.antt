-- The loop over the arguments of a call.
use Rattle.std.proofs.Common.{ℕ, List, [], ◌∷◌, ◌++◌, length, ◌<◌, ◌≡◌, refl, ◌∙◌, ap, true, false, cond, Ok, Err}
use Rattle.ir_grammar.specs.declared.context.Context.TheVariants as at
use Rattle.ir_grammar.specs.declared.kind.Kind.TheVariants as k
use Rattle.ir_grammar.specs.declared.spelled_bodies.TypedOperand.{TypedOperand}
use Rattle.ir_grammar.specs.declared.terminal.Terminal.{Terminal}
use Rattle.ir_grammar.specs.declared.terminal.Flaw.{Flaw}
use Rattle.ir_grammar.specs.Reading.{starts, first, is_empty}
use Rattle.ir_grammar.specs.Rules.{base}
use Rattle.ir_grammar.specs.Spelled.{Store}
use Rattle.ir_grammar.specs.Names.{typed, shared}
use Rattle.ir_grammar.specs.Grammar.{production, read, with_front}
use Rattle.ir_grammar.specs.Types.{type_rule}
use Rattle.ir_grammar.specs.Calls.{argument_value, argument_rule, comma_argument, more_arguments, arguments_rule}
use Rattle.ir_grammar.proofs.First.{shortens}
use Rattle.ir_grammar.proofs.Loops.{many_more, many_done, many_failed, commas_none, front_more, front_done}
use Rattle.ir_grammar.proofs.TypeLists.{type_full}

pub more_arguments_more : (levels : ℕ) (front : List TypedOperand) (ts : List Terminal) (st : Store) (x : TypedOperand × List Terminal × Store)
    → starts (k.Comma ∷ k.MetaComma ∷ []) ts ≡ true → read levels comma_argument ts st ≡ Ok x
    → with_front front (read levels more_arguments ts st) ≡ with_front (front ++ x.0 ∷ []) (read levels more_arguments x.1 x.2)
unfolding more_arguments
more_arguments_more levels front ts st x h e =
    ap (with_front front) (many_more shared production levels (base typed) comma_argument ts st x (unfold comma_argument in refl) (unfold comma_argument in h) e)
    ∙ front_more front x.0 (read levels more_arguments x.1 x.2)

pub more_arguments_done : (levels : ℕ) (front : List TypedOperand) (ts : List Terminal) (st : Store)
    → starts (k.Comma ∷ k.MetaComma ∷ []) ts ≡ false → with_front front (read levels more_arguments ts st) ≡ Ok (front, ts, st)
unfolding more_arguments
more_arguments_done levels front ts st h =
    ap (with_front front) (many_done shared production levels (base typed) comma_argument ts st (unfold comma_argument in h)) ∙ front_done front ts st

pub more_arguments_failed : (levels : ℕ) (front : List TypedOperand) (ts : List Terminal) (st : Store) (e : Flaw)
    → starts (k.Comma ∷ k.MetaComma ∷ []) ts ≡ true → read levels comma_argument ts st ≡ Err e → with_front front (read levels more_arguments ts st) ≡ Err e
unfolding more_arguments
more_arguments_failed levels front ts st e h q =
    ap (with_front front) (many_failed shared production levels (base typed) comma_argument ts st e (unfold comma_argument in h) q)

pub more_arguments_take : (levels : ℕ) (ts : List Terminal) (st : Store) (x : TypedOperand × List Terminal × Store)
    → read levels comma_argument ts st ≡ Ok x → length x.1 < length ts
more_arguments_take levels ts st x h = shortens shared production levels (base typed) comma_argument ts st x (unfold comma_argument in refl) h

-- an argument begins as its type
first_argument : first argument_rule ≡ first (type_rule at.Plain)
unfolding argument_rule
first_argument = ap (λ e. cond e (first (type_rule at.Plain) ++ first argument_value) (first (type_rule at.Plain))) (type_full at.Plain)

pub starts_with_type : (ts : List Terminal) → starts (first argument_rule) ts ≡ starts (first (type_rule at.Plain)) ts
starts_with_type ts = ap (λ v. starts v ts) first_argument

argument_full : is_empty argument_rule ≡ false
unfolding argument_rule
argument_full = rw (type_full at.Plain) refl

pub arguments_none : (levels : ℕ) (ts : List Terminal) (st : Store) → starts (first argument_rule) ts ≡ false → read levels arguments_rule ts st ≡ Ok ([], ts, st)
unfolding arguments_rule
arguments_none levels ts st h = commas_none shared production levels (base typed) argument_rule more_arguments ts st argument_full h
