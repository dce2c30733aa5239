-- With the token at a fault, what was read before it begins no derivation, of any depth.
use Rattle.std.proofs.Common.{ℕ, List, [], ◌∷◌, ◌++◌, length, ◌≤◌, ◌≡◌, refl, sym, ◌∙◌, ap, subst, Bool, true, false, cond, not, ◌&&◌, ◌⊎◌, inl, inr, Ok, Err, None, Some, arith, append_assoc, append-nil, length-append}
use Rattle.ir_grammar.specs.declared.kind.Kind.{Kind}
use Rattle.ir_grammar.specs.declared.terminal.Terminal.{Terminal}
use Rattle.ir_grammar.specs.Kinds.{is_among, is_apart}
use Rattle.ir_grammar.specs.Rules.{Sort, list, Signature, Value, Rule, ◌⨾◌, many, Derives, one_token, both, left, right, absent, present, done, again, inner, acted}
use Rattle.ir_grammar.specs.Reading.{◌>>=◌, Outcome, starts, first, is_empty, take, read_in, inside}
use Rattle.ir_grammar.specs.Conditions.{begins, ends, has, goes_on, is_clear, IsWellFormed}
use Rattle.ir_grammar.proofs.Outcomes.{bind_value}
use Rattle.ir_grammar.proofs.KindSets.{both_true, not_true, false_of, apart}
use Rattle.ir_grammar.proofs.Sound.{take_ok, all_sound}
use Rattle.ir_grammar.proofs.First.{IsFront, begins_so}
use Rattle.ir_grammar.proofs.Loops.{many_more, many_failed}
use Rattle.ir_grammar.proofs.Complete.{take_again, begins_first, again_read}
use Rattle.ir_grammar.proofs.Viable.{take_err, reached_at}

-- no more than so many tokens are left, behind the value or from the fault on
abbrev pub Leaves : {Store A : Type 0} → ℕ → Outcome Store A → Type 0
Leaves n (Ok x) = length x.1 ≤ n
Leaves n (Err e) = e.left ≤ n

pub leaves_bind : {Store A B : Type 0} (n : ℕ) (r : Outcome Store A) (f : A × List Terminal × Store → Outcome Store B)
    → Leaves n r → ((x : A × List Terminal × Store) → length x.1 ≤ n → Leaves n (f x)) → Leaves n (r >>= f)
leaves_bind n (Ok x) f h k = k x h
leaves_bind n (Err e) f h k = h

pub leaves_more : {Store A : Type 0} (n m : ℕ) (r : Outcome Store A) → n ≤ m → Leaves n r → Leaves m r
leaves_more n m (Ok x) le h = omega arith
leaves_more n m (Err e) le h = omega arith

-- of two lists, joined, the middle lies in the first or in the second
pub split : (xs ys pre : List Terminal) (h : Terminal) (m : List Terminal) → xs ++ ys ≡ pre ++ h ∷ m
    → ((m' : List Terminal) × (xs ≡ pre ++ h ∷ m')) ⊎ ((pre' : List Terminal) × (pre ≡ xs ++ pre') × (ys ≡ pre' ++ h ∷ m))
split [] ys pre h m e = inr (pre, refl, e)
split (x ∷ xs) ys [] h m e = let p : x ≡ h = cc in inl (xs, ap (λ v. v ∷ xs) p)
split (x ∷ xs) ys (p ∷ pre) h m e =
    let q : x ≡ p = cc in
    let tail : xs ++ ys ≡ pre ++ h ∷ m = cc in
    elim (split xs ys pre h m tail) [
      | inl w ↦ (let (m', w') = w in inl (m', ap (λ v. x ∷ v) w' ∙ ap (λ v. v ∷ (pre ++ h ∷ m')) q))
      | inr w ↦ (let (pre', w1, w2) = w in inr (pre', ap (λ v. v ∷ pre) (sym q) ∙ ap (λ v. x ∷ v) w1, w2))
    ]

no_middle : (pre : List Terminal) (h : Terminal) (m : List Terminal) → [] ≡ pre ++ h ∷ m → ⊥
no_middle [] h m e = cc
no_middle (p ∷ pre) h m e = cc

-- the next token is the same, whatever stands behind the middle
front_middle : (js : List Kind) (e : Bool) (pre : List Terminal) (h : Terminal) (m t : List Terminal) → IsFront js e (pre ++ h ∷ m) → starts js (pre ++ h ∷ t) ≡ true
front_middle js e [] h m t f = f
front_middle js e (p ∷ pre) h m t f = f

follows_middle : (ks js : List Kind) (e : Bool) (pre : List Terminal) (h : Terminal) (m t : List Terminal) → is_apart ks js ≡ true → IsFront js e (pre ++ h ∷ m)
    → starts ks (pre ++ h ∷ t) ≡ false
follows_middle ks js e [] h m t a f = false_of (is_among ks h.kind) (λ p. apart ks js h.kind a p f)
follows_middle ks js e (p ∷ pre) h m t a f = false_of (is_among ks p.kind) (λ q. apart ks js p.kind a q f)

pub take_within : {Store : Type 0} (ks : List Kind) (ts : List Terminal) (st : Store) → Leaves (length ts) (take ks ts st)
take_within ks ts st = go (take ks ts st) refl
  where
    go : (r : Outcome _ Terminal) → take ks ts st ≡ r → Leaves (length ts) r
    go (Ok x) h = let (k, e, s) = take_ok ks ts st x h in let l : length ts ≡ length (x.0 ∷ x.1) = ap length e in omega (arith, l)
    go (Err e) h = let l : length ts ≡ e.left = take_err ks ts st e h in omega (arith, l)

module _ (S : Signature) (rules : (n : S.Name) → Rule S (S.sort_of n)) where
  -- reading leaves no more than it was given
  pub within : IsWellFormed S rules → (levels : ℕ) (s : Sort S.Base) (a : Rule S s) (ts : List Terminal) (st : S.Store) → goes_on a ≡ true
      → Leaves (length ts) (read_in (inside S rules levels) a ts st)
  within wf levels s a ts st g = go (read_in (inside S rules levels) a ts st) refl
    where
      go : (r : Outcome S.Store (Value S s)) → read_in (inside S rules levels) a ts st ≡ r → Leaves (length ts) r
      go (Ok x) h =
          let (front, e, d) = all_sound S rules levels s a ts st x h in
          let l : length ts ≡ length (front ++ x.1) = ap length e in omega (arith, l, length-append front x.1)
      go (Err e) h =
          let (front, rest, h1, h2) = reached_at S rules wf levels s a ts st e g h in
          let l : length ts ≡ length (front ++ rest) = ap length h1 in omega (arith, l, h2, length-append front rest)

  -- a loop whose first round was read past, leaves no more
  round_past : IsWellFormed S rules → (levels : ℕ) (s : Sort S.Base) (a : Rule S s) (ts : List Terminal) (st : S.Store) (n : ℕ) → is_empty a ≡ false → goes_on a ≡ true
      → starts (first a) ts ≡ true → (r : Outcome S.Store (Value S s)) → read_in (inside S rules levels) a ts st ≡ r → Leaves n r → Leaves n (read_in {S = S} {s = list s} (inside S rules levels) (many a) ts st)
  round_past wf levels s a ts st n full g h (Ok x) e l =
      subst (λ v. Leaves n v) (sym (many_more S rules levels s a ts st x full h e))
      (leaves_bind n (read_in {S = S} {s = list s} (inside S rules levels) (many a) x.1 x.2) (λ z. Ok (x.0 ∷ z.0, z.1, z.2))
      (leaves_more (length x.1) n (read_in {S = S} {s = list s} (inside S rules levels) (many a) x.1 x.2) l (within wf levels (list s) (many a) x.1 x.2 g)) (λ z q. q))
  round_past wf levels s a ts st n full g h (Err d) e l = subst (λ v. Leaves n v) (sym (many_failed S rules levels s a ts st d h e)) l

  -- the bracket behind what was read
  pub closing : (l : ℕ) (k' : Kind) (n : S.Name) (ts : List Terminal) (st : S.Store) (m : ℕ) → Leaves m (read_in (inside S rules l) (rules n) ts st)
      → Leaves m (read_in (inside S rules l) (rules n) ts st >>= λ y. take (k' ∷ []) y.1 y.2 >>= λ z. Ok (y.0, z.1, z.2))
  closing l k' n ts st m h =
      leaves_bind m (read_in (inside S rules l) (rules n) ts st) (λ y. take (k' ∷ []) y.1 y.2 >>= λ z. Ok (y.0, z.1, z.2)) h
      (λ y le. leaves_bind m (take (k' ∷ []) y.1 y.2) (λ z. Ok (y.0, z.1, z.2)) (leaves_more (length y.1) m (take (k' ∷ []) y.1 y.2) le (take_within (k' ∷ []) y.1 y.2)) (λ z q. q))

  -- the closing bracket is the token
  last : IsWellFormed S rules → (l : ℕ) (k' : Kind) (n : S.Name) (xs : List Terminal) (st : S.Store) (x : Value S (S.sort_of n)) (end : S.Store) (c : Terminal)
      → Derives S rules l (S.sort_of n) (rules n) xs st x end → is_among (k' ∷ []) c.kind ≡ true → is_apart (ends (rules n)) (k' ∷ []) ≡ true
      → (pre pre' : List Terminal) (h : Terminal) (m t : List Terminal) → pre ≡ xs ++ pre' → c ∷ [] ≡ pre' ++ h ∷ m
      → Leaves (length t) (read_in (inside S rules l) (rules n) (pre ++ h ∷ t) st >>= λ y. take (k' ∷ []) y.1 y.2 >>= λ z. Ok (y.0, z.1, z.2))
  last wf l k' n xs st x end c d kc clear pre [] h m t w1 w2 =
      let q : c ≡ h = cc in
      let kh : is_among (k' ∷ []) h.kind ≡ true = subst (λ v. is_among (k' ∷ []) v.kind ≡ true) q kc in
      let es : starts (ends (rules n)) (h ∷ t) ≡ false = false_of (is_among (ends (rules n)) h.kind) (λ p. apart (ends (rules n)) (k' ∷ []) h.kind clear p kh) in
      let again_d : read_in (inside S rules l) (rules n) (xs ++ (h ∷ t)) st ≡ Ok (x, h ∷ t, end) =
      again_read S rules wf l (S.sort_of n) (rules n) xs st x end d (wf.clear n) (h ∷ t) es in
      let whole : pre ++ h ∷ t ≡ xs ++ h ∷ t = ap (λ v. v ++ h ∷ t) (w1 ∙ append-nil xs) in
      subst (λ v. Leaves (length t) (read_in (inside S rules l) (rules n) v st >>= λ y. take (k' ∷ []) y.1 y.2 >>= λ z. Ok (y.0, z.1, z.2))) (sym whole)
      (subst (λ v. Leaves (length t) v)
      (sym (bind_value (read_in (inside S rules l) (rules n) (xs ++ (h ∷ t)) st) (λ y. take (k' ∷ []) y.1 y.2 >>= λ z. Ok (y.0, z.1, z.2)) (x, h ∷ t, end) again_d
      ∙ bind_value (take (k' ∷ []) (h ∷ t) end) (λ z. Ok (x, z.1, z.2)) (h, t, end) (take_again (k' ∷ []) h t end kh)))
      (omega arith))
  last wf l k' n xs st x end c d kc clear pre (p ∷ pre') h m t w1 w2 = let q : [] ≡ pre' ++ h ∷ m = cc in absurd (no_middle pre' h m q)

  -- the tokens up to some token of a derivation are read past it, whatever stands behind it
  pub past : IsWellFormed S rules → (levels : ℕ) (s : Sort S.Base) (a : Rule S s) (ys : List Terminal) (st : S.Store) (x : Value S s) (end : S.Store)
      → Derives S rules levels s a ys st x end → is_clear S rules s a ≡ true → goes_on a ≡ true
      → (pre : List Terminal) (h : Terminal) (m t : List Terminal) → ys ≡ pre ++ h ∷ m → Leaves (length t) (read_in (inside S rules levels) a (pre ++ h ∷ t) st)
  past wf levels _ _ _ st _ _ (one_token {ks = ks} o k) c g [] h m t e =
      let p : o ≡ h = cc in
      subst (λ v. Leaves (length t) v) (sym (take_again ks h t st (subst (λ v. is_among ks v.kind ≡ true) p k))) (omega arith)
  past wf levels _ _ _ st _ _ (one_token o k) c g (p ∷ pre) h m t e = let q : [] ≡ pre ++ h ∷ m = cc in absurd (no_middle pre h m q)
  past wf levels _ _ _ st _ end (both {s = s} {t = u} {a = a} {b = b} {xs = xs} {ys = ys} {st' = st'} {x = x} {y = y} p q) c g pre h m t e =
      let (ca, more) = both_true (is_clear S rules s a) (is_clear S rules u b && is_apart (ends a) (begins b)) c in
      let (cb, cab) = both_true (is_clear S rules u b) (is_apart (ends a) (begins b)) more in
      let (ga, g') = both_true (goes_on a) (goes_on b && has true b) g in
      let (gb, hb) = both_true (goes_on b) (has true b) g' in
      elim (split xs ys pre h m e) [
        | inl w ↦
            (let (m', w') = w in
            leaves_bind (length t) (read_in (inside S rules levels) a (pre ++ h ∷ t) st) (λ v. read_in (inside S rules levels) b v.1 v.2 >>= λ z. Ok ((v.0, z.0), z.1, z.2))
            (past wf levels s a xs st x st' p ca ga pre h m' t w')
            (λ v le. leaves_bind (length t) (read_in (inside S rules levels) b v.1 v.2) (λ z. Ok ((v.0, z.0), z.1, z.2))
            (leaves_more (length v.1) (length t) (read_in (inside S rules levels) b v.1 v.2) le (within wf levels u b v.1 v.2 gb)) (λ z l. l)))
        | inr w ↦
            (let (pre', w1, w2) = w in
            let follow : starts (ends a) (pre' ++ h ∷ t) ≡ false =
            follows_middle (ends a) (begins b) (is_empty b) pre' h m t cab (subst (λ v. IsFront (begins b) (is_empty b) v) w2 (begins_so S rules levels u b ys st' y end q)) in
            let ha : read_in (inside S rules levels) a (xs ++ (pre' ++ h ∷ t)) st ≡ Ok (x, pre' ++ h ∷ t, st') = again_read S rules wf levels s a xs st x st' p ca (pre' ++ h ∷ t) follow in
            let whole : (pre ++ h ∷ t) ≡ xs ++ (pre' ++ h ∷ t) = ap (λ v. v ++ h ∷ t) w1 ∙ append_assoc xs pre' (h ∷ t) in
            subst (λ v. Leaves (length t) (read_in {S = S} (inside S rules levels) (a ⨾ b) v st)) (sym whole)
            (subst (λ v. Leaves (length t) v)
            (sym (bind_value (read_in (inside S rules levels) a (xs ++ (pre' ++ h ∷ t)) st) (λ v. read_in (inside S rules levels) b v.1 v.2 >>= λ z. Ok ((v.0, z.0), z.1, z.2)) (x, pre' ++ h ∷ t, st') ha))
            (leaves_bind (length t) (read_in (inside S rules levels) b (pre' ++ h ∷ t) st') (λ z. Ok ((x, z.0), z.1, z.2))
            (past wf levels u b ys st' y end q cb gb pre' h m t w2) (λ z l. l))))
      ]
  past wf levels s _ ys st x end (left {a = a} {b = b} p) c g pre h m t e =
      let (ca, more) = both_true (is_clear S rules s a) (is_clear S rules s b && (not (is_empty a) && is_apart (first a) (begins b))) c in
      let (ga, gb) = both_true (goes_on a) (goes_on b) g in
      let q : starts (first a) (pre ++ h ∷ t) ≡ true =
      begins_first S s a (pre ++ h ∷ t) (front_middle (begins a) (is_empty a) pre h m t (subst (λ v. IsFront (begins a) (is_empty a) v) e (begins_so S rules levels s a ys st x end p))) in
      subst (λ v. Leaves (length t) (cond v (read_in (inside S rules levels) a (pre ++ h ∷ t) st) (read_in (inside S rules levels) b (pre ++ h ∷ t) st))) (sym q)
      (past wf levels s a ys st x end p ca ga pre h m t e)
  past wf levels s _ ys st x end (right {a = a} {b = b} p) c g pre h m t e =
      let (ca, more) = both_true (is_clear S rules s a) (is_clear S rules s b && (not (is_empty a) && is_apart (first a) (begins b))) c in
      let (cb, more') = both_true (is_clear S rules s b) (not (is_empty a) && is_apart (first a) (begins b)) more in
      let (ne, cab) = both_true (not (is_empty a)) (is_apart (first a) (begins b)) more' in
      let (ga, gb) = both_true (goes_on a) (goes_on b) g in
      let q : starts (first a) (pre ++ h ∷ t) ≡ false =
      follows_middle (first a) (begins b) (is_empty b) pre h m t cab (subst (λ v. IsFront (begins b) (is_empty b) v) e (begins_so S rules levels s b ys st x end p)) in
      subst (λ v. Leaves (length t) (cond v (read_in (inside S rules levels) a (pre ++ h ∷ t) st) (read_in (inside S rules levels) b (pre ++ h ∷ t) st))) (sym q)
      (past wf levels s b ys st x end p cb gb pre h m t e)
  past wf levels _ _ _ st _ _ absent c g pre h m t e = absurd (no_middle pre h m e)
  past wf levels _ _ ys st _ end (present {s = s} {a = a} {x = x} p) c g pre h m t e =
      let (ca, ne) = both_true (is_clear S rules s a) (not (is_empty a)) c in
      let q : starts (first a) (pre ++ h ∷ t) ≡ true =
      begins_first S s a (pre ++ h ∷ t) (front_middle (begins a) (is_empty a) pre h m t (subst (λ v. IsFront (begins a) (is_empty a) v) e (begins_so S rules levels s a ys st x end p))) in
      subst (λ v. Leaves (length t) (cond v (read_in (inside S rules levels) a (pre ++ h ∷ t) st >>= λ y. Ok (Some y.0, y.1, y.2)) (Ok (None, pre ++ h ∷ t, st)))) (sym q)
      (leaves_bind (length t) (read_in (inside S rules levels) a (pre ++ h ∷ t) st) (λ y. Ok (Some y.0, y.1, y.2)) (past wf levels s a ys st x end p ca g pre h m t e) (λ z l. l))
  past wf levels _ _ _ st _ _ done c g pre h m t e = absurd (no_middle pre h m e)
  past wf levels _ _ _ st _ end (again {s = s} {a = a} {xs = xs} {ys = ys} {st' = st'} {x = x} {rest = values} p q) c g pre h m t e =
      let (ca, more) = both_true (is_clear S rules s a) (not (is_empty a) && is_apart (ends a) (begins a)) c in
      let (ne, caa) = both_true (not (is_empty a)) (is_apart (ends a) (begins a)) more in
      let full : is_empty a ≡ false = not_true (is_empty a) ne in
      let starting : starts (first a) (pre ++ h ∷ t) ≡ true =
      begins_first S s a (pre ++ h ∷ t)
      (front_middle (begins a) true pre h m t (subst (λ v. IsFront (begins a) true v) e (begins_so S rules levels (list s) (many a) (xs ++ ys) st (x ∷ values) end (again p q)))) in
      elim (split xs ys pre h m e) [
        | inl w ↦
            (let (m', w') = w in
            round_past wf levels s a (pre ++ h ∷ t) st (length t) full g starting (read_in (inside S rules levels) a (pre ++ h ∷ t) st) refl
            (past wf levels s a xs st x st' p ca g pre h m' t w'))
        | inr w ↦
            (let (pre', w1, w2) = w in
            let follow : starts (ends a) (pre' ++ h ∷ t) ≡ false =
            follows_middle (ends a) (begins a) true pre' h m t caa (subst (λ v. IsFront (begins a) true v) w2 (begins_so S rules levels (list s) (many a) ys st' values end q)) in
            let ha : read_in (inside S rules levels) a (xs ++ (pre' ++ h ∷ t)) st ≡ Ok (x, pre' ++ h ∷ t, st') = again_read S rules wf levels s a xs st x st' p ca (pre' ++ h ∷ t) follow in
            let whole : (pre ++ h ∷ t) ≡ xs ++ (pre' ++ h ∷ t) = ap (λ v. v ++ h ∷ t) w1 ∙ append_assoc xs pre' (h ∷ t) in
            let go_on : starts (first a) (xs ++ (pre' ++ h ∷ t)) ≡ true = subst (λ v. starts (first a) v ≡ true) whole starting in
            subst (λ v. Leaves (length t) (read_in {S = S} (inside S rules levels) (many a) v st)) (sym whole)
            (subst (λ v. Leaves (length t) v) (sym (many_more S rules levels s a (xs ++ (pre' ++ h ∷ t)) st (x, pre' ++ h ∷ t, st') full go_on ha))
            (leaves_bind (length t) (read_in (inside S rules levels) (many a) (pre' ++ h ∷ t) st') (λ z. Ok (x ∷ z.0, z.1, z.2))
            (past wf levels (list s) (many a) ys st' values end q c g pre' h m t w2) (λ z l. l))))
      ]
  past wf _ _ _ _ st x end (inner {l = l} {k = k} {k' = k'} {n = n} {xs = xs} o c ko p kc) clear g [] h m t e =
      let q : o ≡ h = cc in
      let kh : is_among (k ∷ []) h.kind ≡ true = subst (λ v. is_among (k ∷ []) v.kind ≡ true) q ko in
      subst (λ v. Leaves (length t) v)
      (sym (bind_value (take (k ∷ []) (h ∷ t) st) (λ u. read_in (inside S rules l) (rules n) u.1 u.2 >>= λ y. take (k' ∷ []) y.1 y.2 >>= λ z. Ok (y.0, z.1, z.2)) (h, t, st) (take_again (k ∷ []) h t st kh)))
      (closing l k' n t st (length t) (within wf l (S.sort_of n) (rules n) t st (wf.completed n)))
  past wf _ _ _ _ st x end (inner {l = l} {k = k} {k' = k'} {n = n} {xs = xs} o c ko p kc) clear g (b ∷ pre) h m t e =
      let q : o ≡ b = cc in
      let tail : xs ++ c ∷ [] ≡ pre ++ h ∷ m = cc in
      let kb : is_among (k ∷ []) b.kind ≡ true = subst (λ v. is_among (k ∷ []) v.kind ≡ true) q ko in
      subst (λ v. Leaves (length t) v)
      (sym (bind_value (take (k ∷ []) (b ∷ (pre ++ h ∷ t)) st) (λ u. read_in (inside S rules l) (rules n) u.1 u.2 >>= λ y. take (k' ∷ []) y.1 y.2 >>= λ z. Ok (y.0, z.1, z.2))
      (b, pre ++ h ∷ t, st) (take_again (k ∷ []) b (pre ++ h ∷ t) st kb)))
      (elim (split xs (c ∷ []) pre h m tail) [
        | inl w ↦ (let (m', w') = w in closing l k' n (pre ++ h ∷ t) st (length t) (past wf l (S.sort_of n) (rules n) xs st x end p (wf.clear n) (wf.completed n) pre h m' t w'))
        | inr w ↦ (let (pre', w1, w2) = w in last wf l k' n xs st x end c p kc clear pre pre' h m t w1 w2)
      ])
  past wf levels _ _ ys st _ _ (acted {s = s} {f = f} {a = a} {st' = st'} {x = x} p) c g pre h m t e =
      leaves_bind (length t) (read_in (inside S rules levels) a (pre ++ h ∷ t) st) (λ y. Ok ((f y.0 y.2).0, y.1, (f y.0 y.2).1)) (past wf levels s a ys st x st' p c g pre h m t e) (λ z l. l)
