-- The loop over the entries of a phi.
use Rattle.std.proofs.Common.{ℕ, List, [], ◌∷◌, ◌++◌, length, ◌<◌, ◌≡◌, refl, ◌∙◌, ap, true, false, Ok, Err}
use Rattle.ir_grammar.specs.declared.kind.Kind.TheVariants as k
use Rattle.ir_grammar.specs.declared.spelled_bodies.SpelledIncoming.{SpelledIncoming}
use Rattle.ir_grammar.specs.declared.terminal.Terminal.{Terminal}
use Rattle.ir_grammar.specs.declared.terminal.Flaw.{Flaw}
use Rattle.ir_grammar.specs.Reading.{starts}
use Rattle.ir_grammar.specs.Rules.{base}
use Rattle.ir_grammar.specs.Spelled.{Store}
use Rattle.ir_grammar.specs.Names.{incoming, shared}
use Rattle.ir_grammar.specs.Grammar.{production, read, with_front}
use Rattle.ir_grammar.specs.Instructions.{comma_incoming, more_incoming}
use Rattle.ir_grammar.proofs.First.{shortens}
use Rattle.ir_grammar.proofs.Loops.{many_more, many_done, many_failed, front_more, front_done}

pub more_incoming_more : (levels : ℕ) (front : List SpelledIncoming) (ts : List Terminal) (st : Store) (x : SpelledIncoming × List Terminal × Store)
    → starts (k.Comma ∷ []) ts ≡ true → read levels comma_incoming ts st ≡ Ok x
    → with_front front (read levels more_incoming ts st) ≡ with_front (front ++ x.0 ∷ []) (read levels more_incoming x.1 x.2)
unfolding more_incoming
more_incoming_more levels front ts st x h e =
    ap (with_front front) (many_more shared production levels (base incoming) comma_incoming ts st x (unfold comma_incoming in refl) (unfold comma_incoming in h) e)
    ∙ front_more front x.0 (read levels more_incoming x.1 x.2)

pub more_incoming_done : (levels : ℕ) (front : List SpelledIncoming) (ts : List Terminal) (st : Store)
    → starts (k.Comma ∷ []) ts ≡ false → with_front front (read levels more_incoming ts st) ≡ Ok (front, ts, st)
unfolding more_incoming
more_incoming_done levels front ts st h =
    ap (with_front front) (many_done shared production levels (base incoming) comma_incoming ts st (unfold comma_incoming in h)) ∙ front_done front ts st

pub more_incoming_failed : (levels : ℕ) (front : List SpelledIncoming) (ts : List Terminal) (st : Store) (e : Flaw)
    → starts (k.Comma ∷ []) ts ≡ true → read levels comma_incoming ts st ≡ Err e → with_front front (read levels more_incoming ts st) ≡ Err e
unfolding more_incoming
more_incoming_failed levels front ts st e h q =
    ap (with_front front) (many_failed shared production levels (base incoming) comma_incoming ts st e (unfold comma_incoming in h) q)

pub more_incoming_take : (levels : ℕ) (ts : List Terminal) (st : Store) (x : SpelledIncoming × List Terminal × Store)
    → read levels comma_incoming ts st ≡ Ok x → length x.1 < length ts
more_incoming_take levels ts st x h = shortens shared production levels (base incoming) comma_incoming ts st x (unfold comma_incoming in refl) h
