-- More levels change nothing but a fault of Nesting.
use Rattle.std.proofs.Common.{ℕ, zero, suc, ◌+◌, List, [], ◌∷◌, ◌++◌, length, ◌≤◌, ◌≡◌, refl, sym, ◌∙◌, ap, subst, Bool, true, false, cond, ◌⊎◌, inl, inr, Ok, Err, None, Some, arith, append-nil}
use Rattle.ir_core.specs.declared.faults.Fault.TheVariants.{TooLarge}
use Rattle.ir_core.specs.declared.faults.Limit.TheVariants.{Nesting}
use Rattle.ir_grammar.specs.declared.kind.Kind.{Kind}
use Rattle.ir_grammar.specs.declared.terminal.Terminal.{Terminal}
use Rattle.ir_grammar.specs.declared.terminal.Flaw.{Flaw}
use Rattle.ir_grammar.specs.Rules.{Sort, Signature, Value, Rule, one, refused, ◌⨾◌, ◌∣◌, optional, many, between, act, Derives}
use Rattle.ir_grammar.specs.Reading.{◌>>=◌, Outcome, Reading, starts, first, take, too_deep, read_in, inside, repeated}
use Rattle.ir_grammar.specs.Conditions.{goes_on, is_clear, IsWellFormed}
use Rattle.ir_grammar.proofs.Outcomes.{bind_flaw}
use Rattle.ir_grammar.proofs.Complete.{again_read}
use Rattle.ir_grammar.proofs.Viable.{weaker, failing}
use Rattle.ir_grammar.proofs.Stuck.{Leaves, past}

-- the first outcome is a fault of Nesting, or the other is the same
abbrev pub Grows : {Store A : Type 0} → Outcome Store A → Outcome Store A → Type 0
Grows {Store} {A} r q = ((e : Flaw) × (r ≡ Err e) × (e.fault ≡ TooLarge Nesting)) ⊎ (r ≡ q)

grows_bind : {Store A B : Type 0} (r q : Outcome Store A) (f g : A × List Terminal × Store → Outcome Store B)
    → Grows r q → ((x : A × List Terminal × Store) → Grows (f x) (g x)) → Grows (r >>= f) (q >>= g)
grows_bind r q f g (inl n) h = let (e, p, k) = n in inl (e, bind_flaw r f e p, k)
grows_bind (Ok x) q f g (inr p) h = subst (λ v. Grows (f x) (v >>= g)) p (h x)
grows_bind (Err e) q f g (inr p) h = inr (ap (λ v. v >>= g) p)

grows_choice : {Store A : Type 0} (b : Bool) (r q r' q' : Outcome Store A) → Grows r q → Grows r' q' → Grows (cond b r r') (cond b q q')
grows_choice true r q r' q' h k = h
grows_choice false r q r' q' h k = k

same : {Store A : Type 0} (r : Outcome Store A) → Grows r r
same r = inr refl

grows_rounds : {Store A : Type 0} (ks : List Kind) (f g : Reading Store A) → ((ts : List Terminal) (st : Store) → Grows (f ts st) (g ts st))
    → (n : ℕ) (ts : List Terminal) (st : Store) → Grows (repeated ks f n ts st) (repeated ks g n ts st)
grows_rounds ks f g h zero ts st = same (Ok ([], ts, st))
grows_rounds ks f g h (suc n) ts st =
    grows_choice (starts ks ts) (f ts st >>= λ x. repeated ks f n x.1 x.2 >>= λ xs. Ok (x.0 ∷ xs.0, xs.1, xs.2))
    (g ts st >>= λ x. repeated ks g n x.1 x.2 >>= λ xs. Ok (x.0 ∷ xs.0, xs.1, xs.2)) (Ok ([], ts, st)) (Ok ([], ts, st))
    (grows_bind (f ts st) (g ts st) (λ x. repeated ks f n x.1 x.2 >>= λ xs. Ok (x.0 ∷ xs.0, xs.1, xs.2)) (λ x. repeated ks g n x.1 x.2 >>= λ xs. Ok (x.0 ∷ xs.0, xs.1, xs.2)) (h ts st)
    (λ x. grows_bind (repeated ks f n x.1 x.2) (repeated ks g n x.1 x.2) (λ xs. Ok (x.0 ∷ xs.0, xs.1, xs.2)) (λ xs. Ok (x.0 ∷ xs.0, xs.1, xs.2))
    (grows_rounds ks f g h n x.1 x.2) (λ xs. same (Ok (x.0 ∷ xs.0, xs.1, xs.2)))))
    (same (Ok ([], ts, st)))

ok_not : {Store A : Type 0} (x : A × List Terminal × Store) (e : Flaw) → Ok x ≡ failing {Store = Store} {A = A} e → ⊥
ok_not x e h = cc

module _ (S : Signature) (rules : (n : S.Name) → Rule S (S.sort_of n)) where
  abbrev Deep : ℕ → ℕ → Type 0
  Deep l k = (n : S.Name) (at : ℕ) (ts : List Terminal) (st : S.Store) → Grows (inside S rules l n at ts st) (inside S rules k n at ts st)

  grows : (l k : ℕ) → Deep l k → (s : Sort S.Base) (a : Rule S s) (ts : List Terminal) (st : S.Store)
      → Grows (read_in (inside S rules l) a ts st) (read_in (inside S rules k) a ts st)
  grows l k deep _ (one ks) ts st = same (take ks ts st)
  grows l k deep s (refused ks) ts st = inr refl
  grows l k deep _ (◌⨾◌ {s = s} {t = t} a b) ts st =
      grows_bind (read_in (inside S rules l) a ts st) (read_in (inside S rules k) a ts st)
      (λ x. read_in (inside S rules l) b x.1 x.2 >>= λ y. Ok ((x.0, y.0), y.1, y.2)) (λ x. read_in (inside S rules k) b x.1 x.2 >>= λ y. Ok ((x.0, y.0), y.1, y.2))
      (grows l k deep s a ts st)
      (λ x. grows_bind (read_in (inside S rules l) b x.1 x.2) (read_in (inside S rules k) b x.1 x.2) (λ y. Ok ((x.0, y.0), y.1, y.2)) (λ y. Ok ((x.0, y.0), y.1, y.2))
      (grows l k deep t b x.1 x.2) (λ y. same (Ok ((x.0, y.0), y.1, y.2))))
  grows l k deep s (a ∣ b) ts st =
      grows_choice (starts (first a) ts) (read_in (inside S rules l) a ts st) (read_in (inside S rules k) a ts st) (read_in (inside S rules l) b ts st) (read_in (inside S rules k) b ts st)
      (grows l k deep s a ts st) (grows l k deep s b ts st)
  grows l k deep _ (optional {s = s} a) ts st =
      grows_choice (starts (first a) ts) (read_in (inside S rules l) a ts st >>= λ x. Ok (Some x.0, x.1, x.2)) (read_in (inside S rules k) a ts st >>= λ x. Ok (Some x.0, x.1, x.2))
      (Ok (None, ts, st)) (Ok (None, ts, st))
      (grows_bind (read_in (inside S rules l) a ts st) (read_in (inside S rules k) a ts st) (λ x. Ok (Some x.0, x.1, x.2)) (λ x. Ok (Some x.0, x.1, x.2))
      (grows l k deep s a ts st) (λ x. same (Ok (Some x.0, x.1, x.2))))
      (same (Ok (None, ts, st)))
  grows l k deep _ (many {s = s} a) ts st =
      grows_rounds (first a) (read_in (inside S rules l) a) (read_in (inside S rules k) a) (λ ts' st'. grows l k deep s a ts' st') (length ts) ts st
  grows l k deep _ (between o n c) ts st =
      grows_bind (take (o ∷ []) ts st) (take (o ∷ []) ts st)
      (λ u. inside S rules l n (length ts) u.1 u.2 >>= λ x. take (c ∷ []) x.1 x.2 >>= λ z. Ok (x.0, z.1, z.2))
      (λ u. inside S rules k n (length ts) u.1 u.2 >>= λ x. take (c ∷ []) x.1 x.2 >>= λ z. Ok (x.0, z.1, z.2)) (same (take (o ∷ []) ts st))
      (λ u. grows_bind (inside S rules l n (length ts) u.1 u.2) (inside S rules k n (length ts) u.1 u.2)
      (λ x. take (c ∷ []) x.1 x.2 >>= λ z. Ok (x.0, z.1, z.2)) (λ x. take (c ∷ []) x.1 x.2 >>= λ z. Ok (x.0, z.1, z.2))
      (deep n (length ts) u.1 u.2) (λ x. same (take (c ∷ []) x.1 x.2 >>= λ z. Ok (x.0, z.1, z.2))))
  grows l k deep _ (act {s = s} f a) ts st =
      grows_bind (read_in (inside S rules l) a ts st) (read_in (inside S rules k) a ts st) (λ x. Ok ((f x.0 x.2).0, x.1, (f x.0 x.2).1)) (λ x. Ok ((f x.0 x.2).0, x.1, (f x.0 x.2).1))
      (grows l k deep s a ts st) (λ x. same (Ok ((f x.0 x.2).0, x.1, (f x.0 x.2).1)))

  deep_grows : (l k : ℕ) → l ≤ k → Deep l k
  deep_grows zero k le n at ts st = inl (too_deep at, refl, refl)
  deep_grows (suc l) zero le n at ts st = absurd (omega arith)
  deep_grows (suc l) (suc k) le n at ts st = grows l k (deep_grows l k (omega arith)) (S.sort_of n) (rules n) ts st

  -- with more levels reading answers the same, but where it wanted them
  pub grown : (l k : ℕ) → l ≤ k → (s : Sort S.Base) (a : Rule S s) (ts : List Terminal) (st : S.Store)
      → Grows (read_in (inside S rules l) a ts st) (read_in (inside S rules k) a ts st)
  grown l k le s a ts st = grows l k (deep_grows l k le) s a ts st

  pub failed_there : (l k : ℕ) → l ≤ k → (s : Sort S.Base) (a : Rule S s) (ts : List Terminal) (st : S.Store) (e : Flaw) → (e.fault ≡ TooLarge Nesting → ⊥)
      → read_in (inside S rules l) a ts st ≡ Err e → read_in (inside S rules k) a ts st ≡ Err e
  failed_there l k le s a ts st e other h =
      elim (grown l k le s a ts st) [
        | inl p ↦ (let (d, q, n) = p in let same_flaw : Err d ≡ Err e = sym q ∙ h in let w : d ≡ e = cc in absurd (other (ap (λ v. v.fault) (sym w) ∙ n)))
        | inr p ↦ sym p ∙ h
      ]

  -- with the token at the fault, the tokens before it begin no derivation, of any depth
  pub stuck : IsWellFormed S rules → (levels : ℕ) (s : Sort S.Base) (a : Rule S s) (pre : List Terminal) (h : Terminal) (t : List Terminal) (st : S.Store) (e : Flaw)
      → is_clear S rules s a ≡ true → goes_on a ≡ true → read_in (inside S rules levels) a (pre ++ h ∷ t) st ≡ Err e → e.left ≡ suc (length t)
      → (e.fault ≡ TooLarge Nesting → ⊥) → (k : ℕ) (m : List Terminal) (x : Value S s) (end : S.Store) → Derives S rules k s a (pre ++ h ∷ m) st x end → ⊥
  stuck wf levels s a pre h t st e c g failed at other k m x end d =
      let p : Leaves (length t) (read_in (inside S rules (levels + k)) a (pre ++ h ∷ t) st) =
      past S rules wf (levels + k) s a (pre ++ h ∷ m) st x end (weaker S rules (levels + k) k s a (pre ++ h ∷ m) st x end d (omega arith)) c g pre h m t refl in
      let q : Leaves {Store = S.Store} {A = Value S s} (length t) (failing {Store = S.Store} {A = Value S s} e) =
      subst (λ v. Leaves (length t) v) (failed_there levels (levels + k) (omega arith) s a (pre ++ h ∷ t) st e other failed) p in
      let q' : e.left ≤ length t = q in
      omega (arith, q', at)

  -- tokens that aren't read, other than for want of levels, aren't derived at any depth
  pub no_whole : IsWellFormed S rules → (levels : ℕ) (s : Sort S.Base) (a : Rule S s) (ts : List Terminal) (st : S.Store) (e : Flaw)
      → is_clear S rules s a ≡ true → read_in (inside S rules levels) a ts st ≡ Err e → (e.fault ≡ TooLarge Nesting → ⊥)
      → (k : ℕ) (x : Value S s) (end : S.Store) → Derives S rules k s a ts st x end → ⊥
  no_whole wf levels s a ts st e c failed other k x end d =
      let r : read_in (inside S rules (levels + k)) a (ts ++ []) st ≡ Ok (x, [], end) =
      again_read S rules wf (levels + k) s a ts st x end (weaker S rules (levels + k) k s a ts st x end d (omega arith)) c [] refl in
      let f : read_in (inside S rules (levels + k)) a ts st ≡ Err e = failed_there levels (levels + k) (omega arith) s a ts st e other failed in
      ok_not {Store = S.Store} {A = Value S s} (x, [], end) e ((sym r ∙ ap (λ v. read_in (inside S rules (levels + k)) a v st) (append-nil ts)) ∙ f)
