-- The loop over attachments.
use Rattle.std.proofs.Common.{ℕ, List, [], ◌∷◌, ◌++◌, length, ◌<◌, ◌≡◌, refl, ◌∙◌, ap, true, false, Ok, Err}
use Rattle.ir_grammar.specs.declared.kind.Kind.TheVariants as k
use Rattle.ir_grammar.specs.declared.spelled_bodies.SpelledAttachment.{SpelledAttachment}
use Rattle.ir_grammar.specs.declared.terminal.Terminal.{Terminal}
use Rattle.ir_grammar.specs.declared.terminal.Flaw.{Flaw}
use Rattle.ir_grammar.specs.Reading.{Outcome, starts}
use Rattle.ir_grammar.specs.Rules.{base}
use Rattle.ir_grammar.specs.Spelled.{Store}
use Rattle.ir_grammar.specs.Names.{attachment, shared}
use Rattle.ir_grammar.specs.Grammar.{production, read, with_front}
use Rattle.ir_grammar.specs.Operands.{comma_attachment, attachments}
use Rattle.ir_grammar.proofs.First.{shortens}
use Rattle.ir_grammar.proofs.Loops.{many_more, many_done, many_failed, front_more, front_done}

pub attachments_more : (levels : ℕ) (front : List SpelledAttachment) (ts : List Terminal) (st : Store) (x : SpelledAttachment × List Terminal × Store)
    → starts (k.Comma ∷ k.MetaComma ∷ []) ts ≡ true → read levels comma_attachment ts st ≡ Ok x
    → with_front front (read levels attachments ts st) ≡ with_front (front ++ x.0 ∷ []) (read levels attachments x.1 x.2)
unfolding attachments
attachments_more levels front ts st x h e =
    ap (with_front front) (many_more shared production levels (base attachment) comma_attachment ts st x (unfold comma_attachment in refl) (unfold comma_attachment in h) e)
    ∙ front_more front x.0 (read levels attachments x.1 x.2)

pub attachments_done : (levels : ℕ) (front : List SpelledAttachment) (ts : List Terminal) (st : Store)
    → starts (k.Comma ∷ k.MetaComma ∷ []) ts ≡ false → with_front front (read levels attachments ts st) ≡ Ok (front, ts, st)
unfolding attachments
attachments_done levels front ts st h =
    ap (with_front front) (many_done shared production levels (base attachment) comma_attachment ts st (unfold comma_attachment in h)) ∙ front_done front ts st

pub attachments_failed : (levels : ℕ) (front : List SpelledAttachment) (ts : List Terminal) (st : Store) (e : Flaw)
    → starts (k.Comma ∷ k.MetaComma ∷ []) ts ≡ true → read levels comma_attachment ts st ≡ Err e → with_front front (read levels attachments ts st) ≡ Err e
unfolding attachments
attachments_failed levels front ts st e h q =
    ap (with_front front) (many_failed shared production levels (base attachment) comma_attachment ts st e (unfold comma_attachment in h) q)

pub attachments_take : (levels : ℕ) (ts : List Terminal) (st : Store) (x : SpelledAttachment × List Terminal × Store)
    → read levels comma_attachment ts st ≡ Ok x → length x.1 < length ts
attachments_take levels ts st x h = shortens shared production levels (base attachment) comma_attachment ts st x (unfold comma_attachment in refl) h

-- none in front
none_first : {A : Type 0} (r : Outcome Store (List A)) → with_front [] r ≡ r
none_first (Ok x) = refl
none_first (Err e) = refl

pub attachments_from_none : (levels : ℕ) (ts : List Terminal) (st : Store) → with_front [] (read levels attachments ts st) ≡ read levels attachments ts st
attachments_from_none levels ts st = none_first (read levels attachments ts st)
