-- What is read is derived.
use Rattle.std.proofs.Common.{ℕ, zero, suc, List, [], ◌∷◌, ◌++◌, length, ◌≡◌, refl, sym, ◌∙◌, ap, subst, true, inl, inr, Ok, Err, None, Some, append_assoc}
use Rattle.ir_grammar.specs.declared.kind.Kind.{Kind}
use Rattle.ir_grammar.specs.declared.terminal.Terminal.{Terminal}
use Rattle.ir_grammar.specs.Kinds.{is_among}
use Rattle.ir_grammar.specs.Rules.{Sort, token, pair, option, list, Signature, Value, Rule, one, refused, ◌⨾◌, ◌∣◌, optional, many, between, act, Derives, one_token, both, left, right, absent, present, done, again, inner, acted}
use Rattle.ir_grammar.specs.Reading.{◌>>=◌, Reading, starts, bad, unsupported, take, refuse, first, repeated, read_in, inside}
use Rattle.ir_grammar.proofs.Outcomes.{bind_ok, chosen}

-- one token was taken: it is the first, and of these kinds
pub take_ok : {Store : Type 0} (ks : List Kind) (ts : List Terminal) (st : Store) (x : Terminal × List Terminal × Store) → take ks ts st ≡ Ok x
    → (is_among ks (x.0).kind ≡ true) × (ts ≡ x.0 ∷ x.1) × (st ≡ x.2)
take_ok ks [] st x h = cc
take_ok ks (t ∷ ts) st x h =
    elim (chosen (is_among ks t.kind) (Ok (t, ts, st)) (Err (bad (t ∷ ts))) (Ok x) h) [
      | inl p ↦ (let e : (t, ts, st) ≡ x = cc in subst (λ y. (is_among ks (y.0).kind ≡ true) × (t ∷ ts ≡ y.0 ∷ y.1) × (st ≡ y.2)) e (p.0, refl, refl))
      | inr p ↦ (let e : Err (bad (t ∷ ts)) ≡ Ok x = p.1 in cc)
    ]

-- nothing is read of what is refused
pub refuse_ok : {Store A : Type 0} (ks : List Kind) (ts : List Terminal) (st : Store) (x : A × List Terminal × Store) → refuse ks ts st ≡ Ok x → ⊥
refuse_ok ks ts st x h =
    elim (chosen (starts ks ts) (Err (unsupported ts)) (Err (bad ts)) (Ok x) h) [ inl p ↦ (let e : Err (unsupported ts) ≡ Ok x = p.1 in cc) | inr p ↦ (let e : Err (bad ts) ≡ Ok x = p.1 in cc) ]

module _ (S : Signature) (rules : (n : S.Name) → Rule S (S.sort_of n)) where
  -- the tokens have a front of the rule, and what is left is the rest
  abbrev pub Found : ℕ → (s : Sort S.Base) → Rule S s → List Terminal → S.Store → Value S s × List Terminal × S.Store → Type 0
  Found levels s a ts st x = (front : List Terminal) × (ts ≡ front ++ x.1) × Derives S rules levels s a front st x.0 x.2

  -- the same for what stands between brackets, one level deeper
  abbrev Hypothesis : ℕ → Type 0
  Hypothesis levels = (n : S.Name) (at : ℕ) (ts : List Terminal) (st : S.Store) (x : Value S (S.sort_of n) × List Terminal × S.Store)
      → inside S rules levels n at ts st ≡ Ok x → (l : ℕ) × (levels ≡ suc l) × Found l (S.sort_of n) (rules n) ts st x

  -- rounds are derived where each round is
  rounds : (levels : ℕ) (s : Sort S.Base) (a : Rule S s) (reading : Reading S.Store (Value S s))
      → ((ts : List Terminal) (st : S.Store) (x : Value S s × List Terminal × S.Store) → reading ts st ≡ Ok x → Found levels s a ts st x)
      → (n : ℕ) (ts : List Terminal) (st : S.Store) (x : List (Value S s) × List Terminal × S.Store) → repeated (first a) reading n ts st ≡ Ok x
      → Found levels (list s) (many a) ts st x
  rounds levels s a reading each zero ts st x h =
      let e : ([], ts, st) ≡ x = cc in subst (λ y. Found levels (list s) (many a) ts st y) e ([], refl, done)
  rounds levels s a reading each (suc n) ts st x h =
      elim (chosen (starts (first a) ts) (reading ts st >>= λ y. repeated (first a) reading n y.1 y.2 >>= λ ys. Ok (y.0 ∷ ys.0, ys.1, ys.2)) (Ok ([], ts, st)) (Ok x) h) [
        | inl p ↦
            (let (y, hy, q) = bind_ok (reading ts st) (λ y. repeated (first a) reading n y.1 y.2 >>= λ ys. Ok (y.0 ∷ ys.0, ys.1, ys.2)) x p.1 in
            let (ys, hys, r) = bind_ok (repeated (first a) reading n y.1 y.2) (λ ys. Ok (y.0 ∷ ys.0, ys.1, ys.2)) x q in
            let (front, e, d) = each ts st y hy in
            let (fronts, es, ds) = rounds levels s a reading each n y.1 y.2 ys hys in
            let w : (y.0 ∷ ys.0, ys.1, ys.2) ≡ x = cc in
            subst (λ z. Found levels (list s) (many a) ts st z) w (front ++ fronts, (e ∙ ap (λ z. front ++ z) es) ∙ sym (append_assoc front fronts ys.1), again d ds))
        | inr p ↦ (let e : ([], ts, st) ≡ x = cc in subst (λ y. Found levels (list s) (many a) ts st y) e ([], refl, done))
      ]

  -- one rule, where what stands between brackets is derived
  sound : (levels : ℕ) → Hypothesis levels → (s : Sort S.Base) (a : Rule S s) (ts : List Terminal) (st : S.Store) (x : Value S s × List Terminal × S.Store)
      → read_in (inside S rules levels) a ts st ≡ Ok x → Found levels s a ts st x
  sound levels deep _ (one ks) ts st x h =
      let (k, e, f) = take_ok ks ts st x h in
      (x.0 ∷ [], e, subst (λ st'. Derives S rules levels token (one ks) (x.0 ∷ []) st x.0 st') f (one_token x.0 k))
  sound levels deep s (refused ks) ts st x h = absurd (refuse_ok ks ts st x h)
  sound levels deep _ (◌⨾◌ {s = s} {t = t} a b) ts st x h =
      let (y, hy, q) = bind_ok (read_in (inside S rules levels) a ts st) (λ y. read_in (inside S rules levels) b y.1 y.2 >>= λ z. Ok ((y.0, z.0), z.1, z.2)) x h in
      let (z, hz, r) = bind_ok (read_in (inside S rules levels) b y.1 y.2) (λ z. Ok ((y.0, z.0), z.1, z.2)) x q in
      let (front, e, d) = sound levels deep s a ts st y hy in
      let (fronts, es, ds) = sound levels deep t b y.1 y.2 z hz in
      let w : ((y.0, z.0), z.1, z.2) ≡ x = cc in
      subst (λ v. Found levels (pair s t) (a ⨾ b) ts st v) w (front ++ fronts, (e ∙ ap (λ v. front ++ v) es) ∙ sym (append_assoc front fronts z.1), both d ds)
  sound levels deep s (a ∣ b) ts st x h =
      elim (chosen (starts (first a) ts) (read_in (inside S rules levels) a ts st) (read_in (inside S rules levels) b ts st) (Ok x) h) [
        | inl p ↦ (let (front, e, d) = sound levels deep s a ts st x p.1 in (front, e, left d))
        | inr p ↦ (let (front, e, d) = sound levels deep s b ts st x p.1 in (front, e, right d))
      ]
  sound levels deep _ (optional {s = s} a) ts st x h =
      elim (chosen (starts (first a) ts) (read_in (inside S rules levels) a ts st >>= λ y. Ok (Some y.0, y.1, y.2)) (Ok (None, ts, st)) (Ok x) h) [
        | inl p ↦
            (let (y, hy, q) = bind_ok (read_in (inside S rules levels) a ts st) (λ y. Ok (Some y.0, y.1, y.2)) x p.1 in
            let (front, e, d) = sound levels deep s a ts st y hy in
            let w : (Some y.0, y.1, y.2) ≡ x = cc in
            subst (λ v. Found levels (option s) (optional a) ts st v) w (front, e, present d))
        | inr p ↦ (let w : (None, ts, st) ≡ x = cc in subst (λ v. Found levels (option s) (optional a) ts st v) w ([], refl, absent))
      ]
  sound levels deep _ (many {s = s} a) ts st x h =
      rounds levels s a (read_in (inside S rules levels) a) (λ ts' st' y hy. sound levels deep s a ts' st' y hy) (length ts) ts st x h
  sound levels deep _ (between k n k') ts st x h =
      let (o, ho, q) = bind_ok (take (k ∷ []) ts st) (λ o. inside S rules levels n (length ts) o.1 o.2 >>= λ y. take (k' ∷ []) y.1 y.2 >>= λ c. Ok (y.0, c.1, c.2)) x h in
      let (y, hy, r) = bind_ok (inside S rules levels n (length ts) o.1 o.2) (λ y. take (k' ∷ []) y.1 y.2 >>= λ c. Ok (y.0, c.1, c.2)) x q in
      let (c, hc, u) = bind_ok (take (k' ∷ []) y.1 y.2) (λ c. Ok (y.0, c.1, c.2)) x r in
      let (ko, eo, so) = take_ok (k ∷ []) ts st o ho in
      let (kc, ec, sc) = take_ok (k' ∷ []) y.1 y.2 c hc in
      let (l, el, found) = deep n (length ts) o.1 o.2 y hy in
      let (front, e, d) = found in
      let w : (y.0, c.1, c.2) ≡ x = cc in
      let d' : Derives S rules l (S.sort_of n) (rules n) front st y.0 c.2 =
      subst (λ v. Derives S rules l (S.sort_of n) (rules n) front st y.0 v) sc (subst (λ v. Derives S rules l (S.sort_of n) (rules n) front v y.0 y.2) (sym so) d) in
      let whole : ts ≡ (o.0 ∷ (front ++ c.0 ∷ [])) ++ c.1 =
      eo ∙ ap (λ v. o.0 ∷ v) ((e ∙ ap (λ v. front ++ v) ec) ∙ sym (append_assoc front (c.0 ∷ []) c.1)) in
      subst (λ v. Found levels (S.sort_of n) (between k n k') ts st v) w
      (subst (λ v. Found v (S.sort_of n) (between k n k') ts st (y.0, c.1, c.2)) (sym el) (o.0 ∷ (front ++ c.0 ∷ []), whole, inner o.0 c.0 ko d' kc))
  sound levels deep _ (act {s = s} {t = t} f a) ts st x h =
      let (y, hy, q) = bind_ok (read_in (inside S rules levels) a ts st) (λ y. Ok ((f y.0 y.2).0, y.1, (f y.0 y.2).1)) x h in
      let (front, e, d) = sound levels deep s a ts st y hy in
      let w : ((f y.0 y.2).0, y.1, (f y.0 y.2).1) ≡ x = cc in
      subst (λ v. Found levels t (act f a) ts st v) w (front, e, acted d)

  deep_sound : (levels : ℕ) → Hypothesis levels
  deep_sound zero n at ts st x h = cc
  deep_sound (suc l) n at ts st x h = (l, refl, sound l (deep_sound l) (S.sort_of n) (rules n) ts st x h)

  -- what is read by a rule has a front that is derived by it
  pub all_sound : (levels : ℕ) (s : Sort S.Base) (a : Rule S s) (ts : List Terminal) (st : S.Store) (x : Value S s × List Terminal × S.Store)
      → read_in (inside S rules levels) a ts st ≡ Ok x → Found levels s a ts st x
  all_sound levels s a ts st x h = sound levels (deep_sound levels) s a ts st x h
