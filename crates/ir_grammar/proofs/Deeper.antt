-- A fault of Nesting is at a bracket that goes on, with one more level.
use Rattle.std.proofs.Common.{ℕ, zero, suc, List, [], ◌∷◌, ◌++◌, length, ◌≤◌, ◌<◌, ◌≡◌, refl, sym, ◌∙◌, ap, subst, Bool, true, false, cond, ◌&&◌, ◌⊎◌, inl, inr, Ok, Err, None, Some, arith, append_assoc, length-append}
use Rattle.ir_core.specs.declared.faults.Fault.TheVariants.{TooLarge, Unsupported, BadSyntax}
use Rattle.ir_core.specs.declared.faults.Limit.TheVariants.{Nesting}
use Rattle.ir_grammar.specs.declared.kind.Kind.{Kind}
use Rattle.ir_grammar.specs.declared.terminal.Terminal.{Terminal}
use Rattle.ir_grammar.specs.declared.terminal.Flaw.{Flaw}
use Rattle.ir_grammar.specs.Kinds.{is_among}
use Rattle.ir_grammar.specs.Rules.{Sort, Signature, Value, Rule, one, refused, ◌⨾◌, ◌∣◌, optional, many, between, act, Derives}
use Rattle.ir_grammar.specs.Reading.{◌>>=◌, Outcome, Reading, refused_everywhere, starts, first, bad, unsupported, take, refuse, too_deep, read_in, inside, repeated}
use Rattle.ir_grammar.specs.Conditions.{goes_on, has, is_clear, IsWellFormed}
use Rattle.ir_grammar.specs.Prefixes.{Begins}
use Rattle.ir_grammar.proofs.KindSets.{both_true}
use Rattle.ir_grammar.proofs.Sound.{take_ok, all_sound}
use Rattle.ir_grammar.proofs.Viable.{begins_before}
use Rattle.ir_grammar.proofs.Stuck.{Leaves, leaves_bind, leaves_more, take_within, split, within, past}

-- it isn't a fault of Nesting
abbrev IsCalm : {Store A : Type 0} → Outcome Store A → Type 0
IsCalm (Ok x) = Unit {0}
IsCalm (Err e) = e.fault ≡ TooLarge Nesting → ⊥

-- fewer tokens than this are left, behind the value or from the fault on
abbrev Passes : {Store A : Type 0} → ℕ → Outcome Store A → Type 0
Passes n (Ok x) = length x.1 < n
Passes n (Err e) = e.left < n

-- the first outcome is a fault of Nesting, and the other one is past it; or they are the same, and no fault of Nesting
abbrev GoesOn : {Store A : Type 0} → Outcome Store A → Outcome Store A → Type 0
GoesOn {Store} {A} r q = ((e : Flaw) × (r ≡ Err e) × (e.fault ≡ TooLarge Nesting) × Passes e.left q) ⊎ ((r ≡ q) × IsCalm r)

passes_fewer : {Store A : Type 0} (n m : ℕ) (r : Outcome Store A) → m < n → Leaves m r → Passes n r
passes_fewer n m (Ok x) less h = omega arith
passes_fewer n m (Err e) less h = omega arith

passes_bind : {Store A B : Type 0} (n : ℕ) (q : Outcome Store A) (g : A × List Terminal × Store → Outcome Store B)
    → ((x : A × List Terminal × Store) → Leaves (length x.1) (g x)) → Passes n q → Passes n (q >>= g)
passes_bind n (Ok x) g leaves h = passes_fewer n (length x.1) (g x) h (leaves x)
passes_bind n (Err e) g leaves h = h

on_bind : {Store A B : Type 0} (r q : Outcome Store A) (f g : A × List Terminal × Store → Outcome Store B) → GoesOn r q
    → ((x : A × List Terminal × Store) → r ≡ Ok x → GoesOn (f x) (g x)) → ((x : A × List Terminal × Store) → Leaves (length x.1) (g x)) → GoesOn (r >>= f) (q >>= g)
on_bind r q f g (inl n) on leaves = let (e, p, k, w) = n in inl (e, rw p refl, k, passes_bind e.left q g leaves w)
on_bind (Ok x) q f g (inr n) on leaves = subst (λ v. GoesOn (f x) (v >>= g)) n.0 (on x refl)
on_bind (Err e) q f g (inr n) on leaves = subst (λ v. GoesOn (Err e) (v >>= g)) n.0 (inr (refl, n.1))

on_choice : {Store A : Type 0} (b : Bool) (r q r' q' : Outcome Store A) → GoesOn r q → GoesOn r' q' → GoesOn (cond b r r') (cond b q q')
on_choice true r q r' q' h k = h
on_choice false r q r' q' h k = k

plain : (b : Bool) → cond b Unsupported BadSyntax ≡ TooLarge Nesting → ⊥
plain true h = cc
plain false h = cc

calm_choice : {Store A : Type 0} (b : Bool) (r q : Outcome Store A) → IsCalm r → IsCalm q → IsCalm (cond b r q)
calm_choice true r q h k = h
calm_choice false r q h k = k

calm_take : {Store : Type 0} (ks : List Kind) (ts : List Terminal) (st : Store) → IsCalm (take ks ts st)
calm_take ks [] st = plain false
calm_take ks (t ∷ ts) st = calm_choice (is_among ks t.kind) (Ok (t, ts, st)) (Err (bad (t ∷ ts))) tt (plain (is_among refused_everywhere t.kind))

calm_refuse : {Store : Type 0} (A : Type 0) (ks : List Kind) (ts : List Terminal) (st : Store) → IsCalm (refuse {Store = Store} {A = A} ks ts st)
calm_refuse {Store} A ks ts st = calm_choice {Store = Store} {A = A} (starts ks ts) (Err (unsupported ts)) (Err (bad ts)) (λ h. cc) (plain (starts refused_everywhere ts))

leaves_choice : {Store A : Type 0} (n : ℕ) (b : Bool) (r q : Outcome Store A) → Leaves n r → Leaves n q → Leaves n (cond b r q)
leaves_choice n true r q h k = h
leaves_choice n false r q h k = k

-- rounds leave no more than they were given
rounds_within : {Store A : Type 0} (ks : List Kind) (g : Reading Store A) → ((ts : List Terminal) (st : Store) → Leaves (length ts) (g ts st))
    → (n : ℕ) (ts : List Terminal) (st : Store) → Leaves (length ts) (repeated ks g n ts st)
rounds_within ks g h zero ts st = omega arith
rounds_within ks g h (suc n) ts st =
    leaves_choice (length ts) (starts ks ts) (g ts st >>= λ x. repeated ks g n x.1 x.2 >>= λ xs. Ok (x.0 ∷ xs.0, xs.1, xs.2)) (Ok ([], ts, st))
    (leaves_bind (length ts) (g ts st) (λ x. repeated ks g n x.1 x.2 >>= λ xs. Ok (x.0 ∷ xs.0, xs.1, xs.2)) (h ts st)
    (λ x le. leaves_bind (length ts) (repeated ks g n x.1 x.2) (λ xs. Ok (x.0 ∷ xs.0, xs.1, xs.2)) (leaves_more (length x.1) (length ts) (repeated ks g n x.1 x.2) le (rounds_within ks g h n x.1 x.2)) (λ z q. q)))
    (omega arith)

on_rounds : {Store A : Type 0} (ks : List Kind) (f g : Reading Store A) → ((ts : List Terminal) (st : Store) → GoesOn (f ts st) (g ts st)) → ((ts : List Terminal) (st : Store) → Leaves (length ts) (g ts st))
    → (n : ℕ) (ts : List Terminal) (st : Store) → GoesOn (repeated ks f n ts st) (repeated ks g n ts st)
on_rounds ks f g on leaves zero ts st = inr (refl, tt)
on_rounds ks f g on leaves (suc n) ts st =
    on_choice (starts ks ts) (f ts st >>= λ x. repeated ks f n x.1 x.2 >>= λ xs. Ok (x.0 ∷ xs.0, xs.1, xs.2)) (g ts st >>= λ x. repeated ks g n x.1 x.2 >>= λ xs. Ok (x.0 ∷ xs.0, xs.1, xs.2)) (Ok ([], ts, st)) (Ok ([], ts, st))
    (on_bind (f ts st) (g ts st) (λ x. repeated ks f n x.1 x.2 >>= λ xs. Ok (x.0 ∷ xs.0, xs.1, xs.2)) (λ x. repeated ks g n x.1 x.2 >>= λ xs. Ok (x.0 ∷ xs.0, xs.1, xs.2)) (on ts st)
    (λ x e. on_bind (repeated ks f n x.1 x.2) (repeated ks g n x.1 x.2) (λ xs. Ok (x.0 ∷ xs.0, xs.1, xs.2)) (λ xs. Ok (x.0 ∷ xs.0, xs.1, xs.2)) (on_rounds ks f g on leaves n x.1 x.2) (λ xs d. inr (refl, tt)) (λ xs. omega arith))
    (λ x. leaves_bind (length x.1) (repeated ks g n x.1 x.2) (λ xs. Ok (x.0 ∷ xs.0, xs.1, xs.2)) (rounds_within ks g leaves n x.1 x.2) (λ z q. q)))
    (inr (refl, tt))

module _ (S : Signature) (rules : (n : S.Name) → Rule S (S.sort_of n)) where
  abbrev Deeper : ℕ → Type 0
  Deeper l = (n : S.Name) (at : ℕ) (ts : List Terminal) (st : S.Store) → length ts < at → GoesOn (inside S rules l n at ts st) (inside S rules (suc l) n at ts st)

  goes : IsWellFormed S rules → (l : ℕ) → Deeper l → (s : Sort S.Base) (a : Rule S s) (ts : List Terminal) (st : S.Store) → goes_on a ≡ true
      → GoesOn (read_in (inside S rules l) a ts st) (read_in (inside S rules (suc l)) a ts st)
  goes wf l deep _ (one ks) ts st g = inr (refl, calm_take ks ts st)
  goes wf l deep s (refused ks) ts st g = inr (refl, calm_refuse (Value S s) ks ts st)
  goes wf l deep _ (◌⨾◌ {s = s} {t = t} a b) ts st g =
      let (ga, gm) = both_true (goes_on a) (goes_on b && has true b) g in
      let (gb, hb) = both_true (goes_on b) (has true b) gm in
      on_bind (read_in (inside S rules l) a ts st) (read_in (inside S rules (suc l)) a ts st)
      (λ x. read_in (inside S rules l) b x.1 x.2 >>= λ y. Ok ((x.0, y.0), y.1, y.2)) (λ x. read_in (inside S rules (suc l)) b x.1 x.2 >>= λ y. Ok ((x.0, y.0), y.1, y.2))
      (goes wf l deep s a ts st ga)
      (λ x e. on_bind (read_in (inside S rules l) b x.1 x.2) (read_in (inside S rules (suc l)) b x.1 x.2) (λ y. Ok ((x.0, y.0), y.1, y.2)) (λ y. Ok ((x.0, y.0), y.1, y.2))
      (goes wf l deep t b x.1 x.2 gb) (λ y d. inr (refl, tt)) (λ y. omega arith))
      (λ x. leaves_bind (length x.1) (read_in (inside S rules (suc l)) b x.1 x.2) (λ y. Ok ((x.0, y.0), y.1, y.2)) (within S rules wf (suc l) t b x.1 x.2 gb) (λ z q. q))
  goes wf l deep s (a ∣ b) ts st g =
      let (ga, gb) = both_true (goes_on a) (goes_on b) g in
      on_choice (starts (first a) ts) (read_in (inside S rules l) a ts st) (read_in (inside S rules (suc l)) a ts st) (read_in (inside S rules l) b ts st) (read_in (inside S rules (suc l)) b ts st)
      (goes wf l deep s a ts st ga) (goes wf l deep s b ts st gb)
  goes wf l deep _ (optional {s = s} a) ts st g =
      on_choice (starts (first a) ts) (read_in (inside S rules l) a ts st >>= λ x. Ok (Some x.0, x.1, x.2)) (read_in (inside S rules (suc l)) a ts st >>= λ x. Ok (Some x.0, x.1, x.2)) (Ok (None, ts, st)) (Ok (None, ts, st))
      (on_bind (read_in (inside S rules l) a ts st) (read_in (inside S rules (suc l)) a ts st) (λ x. Ok (Some x.0, x.1, x.2)) (λ x. Ok (Some x.0, x.1, x.2))
      (goes wf l deep s a ts st g) (λ x e. inr (refl, tt)) (λ x. omega arith))
      (inr (refl, tt))
  goes wf l deep _ (many {s = s} a) ts st g =
      on_rounds (first a) (read_in (inside S rules l) a) (read_in (inside S rules (suc l)) a) (λ ts' st'. goes wf l deep s a ts' st' g) (λ ts' st'. within S rules wf (suc l) s a ts' st' g) (length ts) ts st
  goes wf l deep _ (between o n c) ts st g =
      on_bind (take (o ∷ []) ts st) (take (o ∷ []) ts st)
      (λ u. inside S rules l n (length ts) u.1 u.2 >>= λ x. take (c ∷ []) x.1 x.2 >>= λ z. Ok (x.0, z.1, z.2))
      (λ u. inside S rules (suc l) n (length ts) u.1 u.2 >>= λ x. take (c ∷ []) x.1 x.2 >>= λ z. Ok (x.0, z.1, z.2))
      (inr (refl, calm_take (o ∷ []) ts st))
      (λ u e.
      let (k, w, rest) = take_ok (o ∷ []) ts st u e in
      let len : length ts ≡ length (u.0 ∷ u.1) = ap length w in
      on_bind (inside S rules l n (length ts) u.1 u.2) (inside S rules (suc l) n (length ts) u.1 u.2)
      (λ x. take (c ∷ []) x.1 x.2 >>= λ z. Ok (x.0, z.1, z.2)) (λ x. take (c ∷ []) x.1 x.2 >>= λ z. Ok (x.0, z.1, z.2))
      (deep n (length ts) u.1 u.2 (omega (arith, len)))
      (λ x d. on_bind (take (c ∷ []) x.1 x.2) (take (c ∷ []) x.1 x.2) (λ z. Ok (x.0, z.1, z.2)) (λ z. Ok (x.0, z.1, z.2)) (inr (refl, calm_take (c ∷ []) x.1 x.2)) (λ z d'. inr (refl, tt)) (λ z. omega arith))
      (λ x. leaves_bind (length x.1) (take (c ∷ []) x.1 x.2) (λ z. Ok (x.0, z.1, z.2)) (take_within (c ∷ []) x.1 x.2) (λ z q. q)))
      (λ u. leaves_bind (length u.1) (read_in (inside S rules l) (rules n) u.1 u.2) (λ x. take (c ∷ []) x.1 x.2 >>= λ z. Ok (x.0, z.1, z.2)) (within S rules wf l (S.sort_of n) (rules n) u.1 u.2 (wf.completed n))
      (λ x le. leaves_bind (length u.1) (take (c ∷ []) x.1 x.2) (λ z. Ok (x.0, z.1, z.2)) (leaves_more (length x.1) (length u.1) (take (c ∷ []) x.1 x.2) le (take_within (c ∷ []) x.1 x.2)) (λ z q. q)))
  goes wf l deep _ (act {s = s} f a) ts st g =
      on_bind (read_in (inside S rules l) a ts st) (read_in (inside S rules (suc l)) a ts st) (λ x. Ok ((f x.0 x.2).0, x.1, (f x.0 x.2).1)) (λ x. Ok ((f x.0 x.2).0, x.1, (f x.0 x.2).1))
      (goes wf l deep s a ts st g) (λ x e. inr (refl, tt)) (λ x. omega arith)

  deeper_goes : IsWellFormed S rules → (l : ℕ) → Deeper l
  deeper_goes wf zero n at ts st less =
      inl (too_deep at, refl, refl, passes_fewer at (length ts) (read_in (inside S rules zero) (rules n) ts st) less (within S rules wf zero (S.sort_of n) (rules n) ts st (wf.completed n)))
  deeper_goes wf (suc l) n at ts st less = goes wf l (deeper_goes wf l) (S.sort_of n) (rules n) ts st (wf.completed n)

  calm_not : (s : Sort S.Base) (r : Outcome S.Store (Value S s)) (e : Flaw) → r ≡ Err e → e.fault ≡ TooLarge Nesting → IsCalm r → ⊥
  calm_not s (Ok x) e h n calm = cc
  calm_not s (Err d) e h n calm = let p : d ≡ e = cc in calm (ap (λ v. v.fault) p ∙ n)

  -- one level more passes the bracket of a fault of Nesting
  passed : IsWellFormed S rules → (l : ℕ) (s : Sort S.Base) (a : Rule S s) (ts : List Terminal) (st : S.Store) (e : Flaw) → goes_on a ≡ true
      → read_in (inside S rules l) a ts st ≡ Err e → e.fault ≡ TooLarge Nesting → Passes e.left (read_in (inside S rules (suc l)) a ts st)
  passed wf l s a ts st e g h n =
      elim (goes wf l (deeper_goes wf l) s a ts st g) [
        | inl p ↦ (let (d, q, m, w) = p in let same_flaw : Err d ≡ Err e = sym q ∙ h in let v : d ≡ e = cc in subst (λ f. Passes f.left (read_in (inside S rules (suc l)) a ts st)) v w)
        | inr p ↦ absurd (calm_not s (read_in (inside S rules l) a ts st) e h n p.1)
      ]

  -- tokens that reach past a token hold it
  reaches : (front rest pre : List Terminal) (h : Terminal) (t : List Terminal) → pre ++ h ∷ t ≡ front ++ rest → length rest ≤ length t → (m : List Terminal) × (front ≡ pre ++ h ∷ m)
  reaches front rest pre h t e le =
      elim (split front rest pre h t (sym e)) [
        | inl w ↦ w
        | inr w ↦ (let (pre', w1, w2) = w in let len : length rest ≡ length (pre' ++ h ∷ t) = ap length w2 in absurd (omega (arith, len, length-append pre' (h ∷ t))))
      ]

  -- at a fault of Nesting the tokens up to the bracket begin a derivation, of more levels
  pub bracket_begins : IsWellFormed S rules → (l : ℕ) (s : Sort S.Base) (a : Rule S s) (pre : List Terminal) (h : Terminal) (t : List Terminal) (st : S.Store) (e : Flaw)
      → goes_on a ≡ true → has true a ≡ true → read_in (inside S rules l) a (pre ++ h ∷ t) st ≡ Err e → e.left ≡ suc (length t) → e.fault ≡ TooLarge Nesting
      → Begins S rules s a (pre ++ h ∷ []) st
  bracket_begins wf l s a pre h t st e g has_one failed at n = go (read_in (inside S rules (suc l)) a (pre ++ h ∷ t) st) refl (passed wf l s a (pre ++ h ∷ t) st e g failed n)
    where
      go : (r : Outcome S.Store (Value S s)) → read_in (inside S rules (suc l)) a (pre ++ h ∷ t) st ≡ r → Passes e.left r → Begins S rules s a (pre ++ h ∷ []) st
      go (Ok x) q w =
          let (front, w1, d) = all_sound S rules (suc l) s a (pre ++ h ∷ t) st x q in
          let (m, w2) = reaches front x.1 pre h t w1 (omega (arith, at)) in
          (suc l, m, x.0, x.2, subst (λ v. Derives S rules (suc l) s a v st x.0 x.2) (w2 ∙ sym (append_assoc pre (h ∷ []) m)) d)
      go (Err d) q w =
          let (front, rest, w1, w2, b) = begins_before S rules wf (suc l) s a (pre ++ h ∷ t) st d g has_one q in
          let (m, w3) = reaches front rest pre h t w1 (omega (arith, at, w2)) in
          let (k, more, x, end, der) = b in
          (k, m ++ more, x, end, subst (λ v. Derives S rules k s a v st x end) (ap (λ v. v ++ more) (w3 ∙ sym (append_assoc pre (h ∷ []) m)) ∙ append_assoc (pre ++ h ∷ []) m more) der)

  -- with the token at any fault they begin no derivation of so many levels
  pub too_few_levels : IsWellFormed S rules → (l : ℕ) (s : Sort S.Base) (a : Rule S s) (pre : List Terminal) (h : Terminal) (t : List Terminal) (st : S.Store) (e : Flaw)
      → is_clear S rules s a ≡ true → goes_on a ≡ true → read_in (inside S rules l) a (pre ++ h ∷ t) st ≡ Err e → e.left ≡ suc (length t)
      → (m : List Terminal) (x : Value S s) (end : S.Store) → Derives S rules l s a (pre ++ h ∷ m) st x end → ⊥
  too_few_levels wf l s a pre h t st e c g failed at m x end d =
      let p : Leaves (length t) (read_in (inside S rules l) a (pre ++ h ∷ t) st) = past S rules wf l s a (pre ++ h ∷ m) st x end d c g pre h m t refl in
      let q : Leaves {Store = S.Store} {A = Value S s} (length t) (Err e) = subst (λ v. Leaves (length t) v) failed p in
      let q' : e.left ≤ length t = q in
      omega (arith, q', at)
