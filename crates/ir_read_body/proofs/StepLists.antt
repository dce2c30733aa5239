-- The loop over the indices of an instruction.
use Rattle.std.proofs.Common.{ℕ, List, [], ◌∷◌, ◌++◌, length, ◌<◌, ◌≡◌, refl, ◌∙◌, ap, true, false, Ok, Err}
use Rattle.ir_grammar.specs.declared.kind.Kind.TheVariants as k
use Rattle.ir_grammar.specs.declared.spelled_bodies.TypedOperand.{TypedOperand}
use Rattle.ir_grammar.specs.declared.terminal.Terminal.{Terminal}
use Rattle.ir_grammar.specs.declared.terminal.Flaw.{Flaw}
use Rattle.ir_grammar.specs.Reading.{Outcome, starts}
use Rattle.ir_grammar.specs.Rules.{base}
use Rattle.ir_grammar.specs.Spelled.{Store}
use Rattle.ir_grammar.specs.Names.{typed, shared}
use Rattle.ir_grammar.specs.Grammar.{production, read, with_front}
use Rattle.ir_grammar.specs.Instructions.{step_index, step_indices}
use Rattle.ir_grammar.proofs.First.{shortens}
use Rattle.ir_grammar.proofs.Loops.{many_more, many_done, many_failed, front_more, front_done}

pub step_indices_more : (levels : ℕ) (front : List TypedOperand) (ts : List Terminal) (st : Store) (x : TypedOperand × List Terminal × Store)
    → starts (k.Comma ∷ []) ts ≡ true → read levels step_index ts st ≡ Ok x
    → with_front front (read levels step_indices ts st) ≡ with_front (front ++ x.0 ∷ []) (read levels step_indices x.1 x.2)
unfolding step_indices
step_indices_more levels front ts st x h e =
    ap (with_front front) (many_more shared production levels (base typed) step_index ts st x (unfold step_index in refl) (unfold step_index in h) e)
    ∙ front_more front x.0 (read levels step_indices x.1 x.2)

pub step_indices_done : (levels : ℕ) (front : List TypedOperand) (ts : List Terminal) (st : Store)
    → starts (k.Comma ∷ []) ts ≡ false → with_front front (read levels step_indices ts st) ≡ Ok (front, ts, st)
unfolding step_indices
step_indices_done levels front ts st h =
    ap (with_front front) (many_done shared production levels (base typed) step_index ts st (unfold step_index in h)) ∙ front_done front ts st

pub step_indices_failed : (levels : ℕ) (front : List TypedOperand) (ts : List Terminal) (st : Store) (e : Flaw)
    → starts (k.Comma ∷ []) ts ≡ true → read levels step_index ts st ≡ Err e → with_front front (read levels step_indices ts st) ≡ Err e
unfolding step_indices
step_indices_failed levels front ts st e h q =
    ap (with_front front) (many_failed shared production levels (base typed) step_index ts st e (unfold step_index in h) q)

pub step_indices_take : (levels : ℕ) (ts : List Terminal) (st : Store) (x : TypedOperand × List Terminal × Store)
    → read levels step_index ts st ≡ Ok x → length x.1 < length ts
step_indices_take levels ts st x h = shortens shared production levels (base typed) step_index ts st x (unfold step_index in refl) h

-- none in front
none_first : {A : Type 0} (r : Outcome Store (List A)) → with_front [] r ≡ r
none_first (Ok x) = refl
none_first (Err e) = refl

pub step_indices_from_none : (levels : ℕ) (ts : List Terminal) (st : Store) → with_front [] (read levels step_indices ts st) ≡ read levels step_indices ts st
step_indices_from_none levels ts st = none_first (read levels step_indices ts st)
