-- The loop over a skipped run.
use Rattle.std.proofs.Common.{ℕ, List, [], ◌∷◌, length, ◌<◌, ◌≡◌, refl, true, false, not, Ok, Err}
use Rattle.ir_grammar.specs.declared.kind.Kind.{Kind}
use Rattle.ir_grammar.specs.declared.kind.Kind.TheVariants as k
use Rattle.ir_grammar.specs.declared.terminal.Terminal.{Terminal}
use Rattle.ir_grammar.specs.declared.terminal.Flaw.{Flaw}
use Rattle.ir_grammar.specs.Kinds.{is_same, is_among}
use Rattle.ir_grammar.specs.Reading.{starts, first}
use Rattle.ir_grammar.specs.Rules.{nothing}
use Rattle.ir_grammar.specs.Spelled.{Store}
use Rattle.ir_grammar.specs.Names.{shared}
use Rattle.ir_grammar.specs.Grammar.{production, read}
use Rattle.ir_grammar.specs.Words.{all_but_brackets}
use Rattle.ir_grammar.specs.Skipped.{in_parens, in_squares, in_braces, any_part, any_run}
use Rattle.ir_grammar.proofs.First.{shortens}
use Rattle.ir_grammar.proofs.Loops.{skip_more, skip_done, skip_failed}

-- a run goes on at each kind but a closing bracket and the end of the text
pub goes_on_at : (j : Kind) → is_among (first any_part) j ≡ not (is_among (k.CloseParen ∷ k.CloseSquare ∷ k.CloseBrace ∷ k.End ∷ []) j)
unfolding is_same in_parens in_squares in_braces any_part
goes_on_at k.Equals = refl
goes_on_at _ = refl

-- the kinds that are no bracket, and not the end of the text
pub no_bracket : (j : Kind) → is_among all_but_brackets j
    ≡ not (is_among (k.OpenParen ∷ k.CloseParen ∷ k.OpenSquare ∷ k.CloseSquare ∷ k.OpenBrace ∷ k.CloseBrace ∷ k.End ∷ []) j)
unfolding is_same
no_bracket k.Equals = refl
no_bracket _ = refl

pub any_more : (levels : ℕ) (ts : List Terminal) (st : Store) (x : Unit {0} × List Terminal × Store)
    → starts (first any_part) ts ≡ true → read levels any_part ts st ≡ Ok x → read levels any_run ts st ≡ read levels any_run x.1 x.2
unfolding any_run
any_more levels ts st x h e = skip_more shared production levels nothing any_part ts st x (unfold any_part in_parens in_squares in_braces in refl) h e

pub any_done : (levels : ℕ) (ts : List Terminal) (st : Store) → starts (first any_part) ts ≡ false → read levels any_run ts st ≡ Ok (tt, ts, st)
unfolding any_run
any_done levels ts st h = skip_done shared production levels nothing any_part ts st h

pub any_failed : (levels : ℕ) (ts : List Terminal) (st : Store) (e : Flaw)
    → starts (first any_part) ts ≡ true → read levels any_part ts st ≡ Err e → read levels any_run ts st ≡ Err e
unfolding any_run
any_failed levels ts st e h q = skip_failed shared production levels nothing any_part ts st e h q

pub any_takes : (levels : ℕ) (ts : List Terminal) (st : Store) (x : Unit {0} × List Terminal × Store)
    → read levels any_part ts st ≡ Ok x → length x.1 < length ts
any_takes levels ts st x h = shortens shared production levels nothing any_part ts st x (unfold any_part in_parens in_squares in_braces in refl) h
