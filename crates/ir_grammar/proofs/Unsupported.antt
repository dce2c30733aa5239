-- A fault is Unsupported exactly where a form stands that isn't taken.
use Rattle.std.proofs.Common.{ℕ, suc, ◌+◌, List, ◌∷◌, ◌++◌, length, ◌≤◌, ◌≡◌, refl, ap, subst, true, ◌⊎◌, inl, inr, Err, arith}
use Rattle.ir_core.specs.declared.faults.Fault.TheVariants.{BadSyntax, Unsupported, TooLarge}
use Rattle.ir_core.specs.declared.faults.Limit.TheVariants.{Nesting}
use Rattle.ir_grammar.specs.declared.terminal.Terminal.{Terminal}
use Rattle.ir_grammar.specs.declared.terminal.Flaw.{Flaw}
use Rattle.ir_grammar.specs.Rules.{Sort, Signature, Value, Rule}
use Rattle.ir_grammar.specs.Reading.{Outcome, starts, first, read_in, inside}
use Rattle.ir_grammar.specs.Conditions.{goes_on, is_clear, IsWellFormed}
use Rattle.ir_grammar.specs.Forms.{IsListedAfter, StandsListed}
use Rattle.ir_grammar.proofs.Grown.{failed_there}
use Rattle.ir_grammar.proofs.Causes.{third, everywhere_form}
use Rattle.ir_grammar.proofs.Listed.{Fair, entered, listed_fair}

module _ (S : Signature) (rules : (n : S.Name) → Rule S (S.sort_of n)) where
  -- a fair outcome that is a fault at the token isn't BadSyntax
  not_bad : (s : Sort S.Base) (n : ℕ) (r : Outcome S.Store (Value S s)) (e : Flaw) → Fair n r → r ≡ Err e → e.left ≡ suc n → e.fault ≡ BadSyntax → ⊥
  not_bad s n r e f h at b = go (subst (λ v. Fair n v) h f)
    where
      go : Fair {Store = S.Store} {A = Value S s} n (Err e) → ⊥
      go (inl le) = omega (arith, le, at)
      go (inr other) = other b

  -- a rule that is read at a kind of its first ones gives no BadSyntax at that token
  pub no_bad_first : IsWellFormed S rules → (l : ℕ) (s : Sort S.Base) (a : Rule S s) (h : Terminal) (rest : List Terminal) (st : S.Store) (e : Flaw)
      → is_clear S rules s a ≡ true → goes_on a ≡ true → starts (first a) (h ∷ rest) ≡ true → read_in (inside S rules l) a (h ∷ rest) st ≡ Err e → e.left ≡ suc (length rest) → e.fault ≡ BadSyntax → ⊥
  no_bad_first wf l s a h rest st e c g k failed at b =
      not_bad s (length rest) (read_in (inside S rules l) a (h ∷ rest) st) e (entered S rules wf l s a h rest st c g k) failed at b

  -- a fault at a form that isn't taken is Unsupported, or one of nesting
  pub form_unsupported : IsWellFormed S rules → (l : ℕ) (s : Sort S.Base) (a : Rule S s) (front : List Terminal) (h : Terminal) (rest : List Terminal) (st : S.Store) (e : Flaw)
      → is_clear S rules s a ≡ true → goes_on a ≡ true → read_in (inside S rules l) a (front ++ h ∷ rest) st ≡ Err e → e.left ≡ suc (length rest) → (e.fault ≡ TooLarge Nesting → ⊥)
      → StandsListed S rules s a front st h → e.fault ≡ Unsupported
  form_unsupported wf l s a front h rest st e c g failed at other (inl d) =
      let (n, f) = listed_fair S rules wf s a front st h d c g in
      third S rules l s a (front ++ h ∷ rest) st e failed other
      (not_bad s (length rest) (read_in (inside S rules (l + n)) a (front ++ h ∷ rest) st) e (f (l + n) (omega arith) rest)
      (failed_there S rules l (l + n) (omega arith) s a (front ++ h ∷ rest) st e other failed) at)
  form_unsupported wf l s a front h rest st e c g failed at other (inr k) = everywhere_form S rules l s a front h rest st e failed at other k
