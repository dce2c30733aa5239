-- How a fault comes: a bracket opens a level too many, or nothing goes on with a token, or it is a form that is listed there.
use Rattle.std.proofs.Common.{ℕ, zero, suc, List, [], ◌∷◌, ◌++◌, length, ◌≡◌, refl, sym, ◌∙◌, ap, subst, Bool, true, false, cond, ◌⊎◌, inl, inr, Ok, Err, None, Some, arith, append_assoc, length-append}
use Rattle.ir_core.specs.declared.faults.Fault.{Fault}
use Rattle.ir_core.specs.declared.faults.Fault.TheVariants.{BadSyntax, Unsupported, TooLarge}
use Rattle.ir_core.specs.declared.faults.Limit.TheVariants.{Nesting}
use Rattle.ir_grammar.specs.declared.kind.Kind.{Kind}
use Rattle.ir_grammar.specs.declared.terminal.Terminal.{Terminal}
use Rattle.ir_grammar.specs.declared.terminal.Flaw.{Flaw}
use Rattle.ir_grammar.specs.Kinds.{is_among}
use Rattle.ir_grammar.specs.Rules.{Sort, pair, option, list, Signature, Value, Rule, one, refused, ◌⨾◌, ◌∣◌, optional, many, between, act, Derives}
use Rattle.ir_grammar.specs.Reading.{◌>>=◌, Outcome, refused_everywhere, starts, first, take, refuse, bad, unsupported, too_deep, read_in, inside, repeated}
use Rattle.ir_grammar.specs.Forms.{IsListedAfter, here, in_first, in_second, in_left, in_right, in_optional, in_round, in_later, in_brackets, in_act, StandsListed}
use Rattle.ir_grammar.proofs.Outcomes.{bind_err, chosen}
use Rattle.ir_grammar.proofs.Sound.{take_ok, all_sound}
use Rattle.ir_grammar.proofs.Viable.{failing, same_flaw, inside_ok}
use Rattle.ir_grammar.proofs.Stuck.{split}

-- no token was taken: nothing goes on here
take_bad : {Store : Type 0} (ks : List Kind) (ts : List Terminal) (st : Store) (e : Flaw) → take ks ts st ≡ Err e → e ≡ bad ts
take_bad ks [] st e h = let p : bad [] ≡ e = cc in sym p
take_bad ks (t ∷ ts) st e h =
    elim (chosen (is_among ks t.kind) (Ok (t, ts, st)) (Err (bad (t ∷ ts))) (Err e) h) [
      | inl p ↦ (let q : Ok (t, ts, st) ≡ Err e = p.1 in cc)
      | inr p ↦ (let q : Err (bad (t ∷ ts)) ≡ Err e = p.1 in let r : bad (t ∷ ts) ≡ e = cc in sym r)
    ]

-- the fault stands at these tokens, with which nothing goes on
abbrev pub IsBadAt : List Terminal → Flaw → Type 0
IsBadAt ts e = (front : List Terminal) × (rest : List Terminal) × (ts ≡ front ++ rest) × (e ≡ bad rest)

module _ (S : Signature) (rules : (n : S.Name) → Rule S (S.sort_of n)) where
  -- the fault stands at a form that is listed there
  abbrev pub IsListedAt : (s : Sort S.Base) → Rule S s → List Terminal → S.Store → Flaw → Type 0
  IsListedAt s a ts st e =
      (front : List Terminal) × (h : Terminal) × (rest : List Terminal) × (ts ≡ front ++ h ∷ rest) × (e ≡ unsupported (h ∷ rest)) × IsListedAfter S rules s a front st h

  -- how the fault came
  abbrev pub Cause : (s : Sort S.Base) → Rule S s → List Terminal → S.Store → Flaw → Type 0
  Cause s a ts st e = (e.fault ≡ TooLarge Nesting) ⊎ (IsBadAt ts e ⊎ IsListedAt s a ts st e)

  -- the same of a rule around it, after a front
  around : (s u : Sort S.Base) (a : Rule S s) (c : Rule S u) (ts fa mid : List Terminal) (st st' : S.Store) (e : Flaw) → ts ≡ fa ++ mid
      → ((front : List Terminal) (h : Terminal) → IsListedAfter S rules s a front st' h → IsListedAfter S rules u c (fa ++ front) st h) → Cause s a mid st' e → Cause u c ts st e
  around s u a c ts fa mid st st' e w f (inl n) = inl n
  around s u a c ts fa mid st st' e w f (inr (inl p)) =
      let (front, rest, q, r) = p in inr (inl (fa ++ front, rest, (w ∙ ap (λ v. fa ++ v) q) ∙ sym (append_assoc fa front rest), r))
  around s u a c ts fa mid st st' e w f (inr (inr p)) =
      let (front, h, rest, q, r, d) = p in inr (inr (fa ++ front, h, rest, (w ∙ ap (λ v. fa ++ v) q) ∙ sym (append_assoc fa front (h ∷ rest)), r, f front h d))

  -- the fault of what is refused
  refused_cause : (s : Sort S.Base) (ks : List Kind) (ts : List Terminal) (st : S.Store) (e : Flaw)
      → refuse {Store = S.Store} {A = Value S s} ks ts st ≡ failing {Store = S.Store} {A = Value S s} e → Cause s (refused ks) ts st e
  refused_cause s ks [] st e h = inr (inl ([], [], refl, sym (same_flaw {Store = S.Store} {A = Value S s} (bad []) e h)))
  refused_cause s ks (t ∷ ts) st e h =
      elim (chosen (is_among ks t.kind) (failing {Store = S.Store} {A = Value S s} (unsupported (t ∷ ts))) (failing {Store = S.Store} {A = Value S s} (bad (t ∷ ts))) (failing {Store = S.Store} {A = Value S s} e) h) [
        | inl p ↦ inr (inr ([], t, ts, refl, sym (same_flaw {Store = S.Store} {A = Value S s} (unsupported (t ∷ ts)) e p.1), here t p.0))
        | inr p ↦ inr (inl ([], t ∷ ts, refl, sym (same_flaw {Store = S.Store} {A = Value S s} (bad (t ∷ ts)) e p.1)))
      ]

  abbrev Hypothesis : ℕ → Type 0
  Hypothesis levels = (n : S.Name) (at : ℕ) (ts : List Terminal) (st : S.Store) (e : Flaw)
      → inside S rules levels n at ts st ≡ Err e → Cause (S.sort_of n) (rules n) ts st e

  rounds_cause : (levels : ℕ) (s : Sort S.Base) (a : Rule S s)
      → ((ts : List Terminal) (st : S.Store) (e : Flaw) → read_in (inside S rules levels) a ts st ≡ Err e → Cause s a ts st e)
      → (n : ℕ) (ts : List Terminal) (st : S.Store) (e : Flaw) → repeated (first a) (read_in (inside S rules levels) a) n ts st ≡ Err e → Cause (list s) (many a) ts st e
  rounds_cause levels s a each zero ts st e h = cc
  rounds_cause levels s a each (suc n) ts st e h =
      elim (chosen (starts (first a) ts)
      (read_in (inside S rules levels) a ts st >>= λ y. repeated (first a) (read_in (inside S rules levels) a) n y.1 y.2 >>= λ ys. Ok (y.0 ∷ ys.0, ys.1, ys.2))
      (Ok ([], ts, st)) (Err e) h) [
        | inl p ↦
            elim (bind_err (read_in (inside S rules levels) a ts st)
            (λ y. repeated (first a) (read_in (inside S rules levels) a) n y.1 y.2 >>= λ ys. Ok (y.0 ∷ ys.0, ys.1, ys.2)) e p.1) [
              | inl q ↦ around s (list s) a (many a) ts [] ts st st e refl (λ front t d. in_round d) (each ts st e q)
              | inr q ↦
                  (let (y, hy, q') = q in
                  elim (bind_err (repeated (first a) (read_in (inside S rules levels) a) n y.1 y.2) (λ ys. Ok (y.0 ∷ ys.0, ys.1, ys.2)) e q') [
                    | inl r ↦
                        (let (fa, ha, da) = all_sound S rules levels s a ts st y hy in
                        around (list s) (list s) (many a) (many a) ts fa y.1 st y.2 e ha (λ front t d. in_later da d) (rounds_cause levels s a each n y.1 y.2 e r))
                    | inr r ↦ (let (ys, hys, z) = r in cc)
                  ])
            ]
        | inr p ↦ (let q : Ok ([], ts, st) ≡ Err e = p.1 in cc)
      ]

  cause_in : (levels : ℕ) → Hypothesis levels → (s : Sort S.Base) (a : Rule S s) (ts : List Terminal) (st : S.Store) (e : Flaw)
      → read_in (inside S rules levels) a ts st ≡ Err e → Cause s a ts st e
  cause_in levels deep _ (one ks) ts st e h = inr (inl ([], ts, refl, take_bad ks ts st e h))
  cause_in levels deep s (refused ks) ts st e h = refused_cause s ks ts st e h
  cause_in levels deep _ (◌⨾◌ {s = s} {t = t} a b) ts st e h =
      elim (bind_err (read_in (inside S rules levels) a ts st) (λ y. read_in (inside S rules levels) b y.1 y.2 >>= λ z. Ok ((y.0, z.0), z.1, z.2)) e h) [
        | inl q ↦ around s (pair s t) a (a ⨾ b) ts [] ts st st e refl (λ front o d. in_first d) (cause_in levels deep s a ts st e q)
        | inr q ↦
            (let (y, hy, q') = q in
            elim (bind_err (read_in (inside S rules levels) b y.1 y.2) (λ z. Ok ((y.0, z.0), z.1, z.2)) e q') [
              | inl r ↦
                  (let (fa, ha, da) = all_sound S rules levels s a ts st y hy in
                  around t (pair s t) b (a ⨾ b) ts fa y.1 st y.2 e ha (λ front o d. in_second da d) (cause_in levels deep t b y.1 y.2 e r))
              | inr r ↦ (let (z, hz, w) = r in cc)
            ])
      ]
  cause_in levels deep s (a ∣ b) ts st e h =
      elim (chosen (starts (first a) ts) (read_in (inside S rules levels) a ts st) (read_in (inside S rules levels) b ts st) (Err e) h) [
        | inl p ↦ around s s a (a ∣ b) ts [] ts st st e refl (λ front o d. in_left d) (cause_in levels deep s a ts st e p.1)
        | inr p ↦ around s s b (a ∣ b) ts [] ts st st e refl (λ front o d. in_right d) (cause_in levels deep s b ts st e p.1)
      ]
  cause_in levels deep _ (optional {s = s} a) ts st e h =
      elim (chosen (starts (first a) ts) (read_in (inside S rules levels) a ts st >>= λ y. Ok (Some y.0, y.1, y.2)) (Ok (None, ts, st)) (Err e) h) [
        | inl p ↦
            elim (bind_err (read_in (inside S rules levels) a ts st) (λ y. Ok (Some y.0, y.1, y.2)) e p.1) [
              | inl q ↦ around s (option s) a (optional a) ts [] ts st st e refl (λ front o d. in_optional d) (cause_in levels deep s a ts st e q)
              | inr q ↦ (let (y, hy, z) = q in cc)
            ]
        | inr p ↦ (let q : Ok (None, ts, st) ≡ Err e = p.1 in cc)
      ]
  cause_in levels deep _ (many {s = s} a) ts st e h =
      rounds_cause levels s a (λ ts' st' e' h'. cause_in levels deep s a ts' st' e' h') (length ts) ts st e h
  cause_in levels deep _ (between k n k') ts st e h =
      elim (bind_err (take (k ∷ []) ts st) (λ o. inside S rules levels n (length ts) o.1 o.2 >>= λ y. take (k' ∷ []) y.1 y.2 >>= λ c. Ok (y.0, c.1, c.2)) e h) [
        | inl q ↦ inr (inl ([], ts, refl, take_bad (k ∷ []) ts st e q))
        | inr q ↦
            (let (o, ho, q') = q in
            let (ko, eo, so) = take_ok (k ∷ []) ts st o ho in
            elim (bind_err (inside S rules levels n (length ts) o.1 o.2) (λ y. take (k' ∷ []) y.1 y.2 >>= λ c. Ok (y.0, c.1, c.2)) e q') [
              | inl r ↦
                  around (S.sort_of n) (S.sort_of n) (rules n) (between k n k') ts (o.0 ∷ []) o.1 st o.2 e eo
                  (λ front t d. in_brackets o.0 ko (subst (λ v. IsListedAfter S rules (S.sort_of n) (rules n) front v t) (sym so) d)) (deep n (length ts) o.1 o.2 e r)
              | inr r ↦
                  (let (y, hy, r') = r in
                  let (l, el, found) = inside_ok S rules levels n (length ts) o.1 o.2 y hy in
                  let (front, h1, d) = found in
                  elim (bind_err (take (k' ∷ []) y.1 y.2) (λ c. Ok (y.0, c.1, c.2)) e r') [
                    | inl u ↦ inr (inl (o.0 ∷ front, y.1, eo ∙ ap (λ v. o.0 ∷ v) h1, take_bad (k' ∷ []) y.1 y.2 e u))
                    | inr u ↦ (let (c, hc, z) = u in cc)
                  ])
            ])
      ]
  cause_in levels deep _ (act {s = s} {t = t} f a) ts st e h =
      elim (bind_err (read_in (inside S rules levels) a ts st) (λ y. Ok ((f y.0 y.2).0, y.1, (f y.0 y.2).1)) e h) [
        | inl q ↦ around s t a (act f a) ts [] ts st st e refl (λ front o d. in_act d) (cause_in levels deep s a ts st e q)
        | inr q ↦ (let (y, hy, z) = q in cc)
      ]

  deep_cause : (levels : ℕ) → Hypothesis levels
  deep_cause zero n at ts st e h = inl (let p : too_deep at ≡ e = cc in ap (λ v. v.fault) (sym p))
  deep_cause (suc l) n at ts st e h = cause_in l (deep_cause l) (S.sort_of n) (rules n) ts st e h

  -- how the fault of reading by a rule came
  pub cause : (levels : ℕ) (s : Sort S.Base) (a : Rule S s) (ts : List Terminal) (st : S.Store) (e : Flaw)
      → read_in (inside S rules levels) a ts st ≡ Err e → Cause s a ts st e
  cause levels s a ts st e h = cause_in levels (deep_cause levels) s a ts st e h

  -- the fault that isn't BadSyntax, where nothing goes on
  bad_so : (b : Bool) (f : Fault) → f ≡ cond b Unsupported BadSyntax → f ≡ Unsupported → b ≡ true
  bad_so true f h q = refl
  bad_so false f h q = let p : Unsupported ≡ BadSyntax = sym q ∙ h in cc

  -- the tokens where an Unsupported fault stands, and the form there
  abbrev pub Form : (s : Sort S.Base) → Rule S s → List Terminal → S.Store → Flaw → Type 0
  Form s a ts st e =
      (front : List Terminal) × (h : Terminal) × (rest : List Terminal) × (ts ≡ front ++ h ∷ rest) × (e.left ≡ suc (length rest)) × StandsListed S rules s a front st h

  bad_form : (s : Sort S.Base) (a : Rule S s) (ts front rest : List Terminal) (st : S.Store) (e : Flaw) → ts ≡ front ++ rest → e ≡ bad rest → e.fault ≡ Unsupported → Form s a ts st e
  bad_form s a ts front [] st e q r u = let p : Unsupported ≡ BadSyntax = sym u ∙ ap (λ v. v.fault) r in cc
  bad_form s a ts front (h ∷ rest) st e q r u =
      (front, h, rest, q, ap (λ v. v.left) r, inr (bad_so (is_among refused_everywhere h.kind) e.fault (ap (λ v. v.fault) r) u))

  -- a fault that is Unsupported stands at a form that isn't taken
  pub unsupported_form : (levels : ℕ) (s : Sort S.Base) (a : Rule S s) (ts : List Terminal) (st : S.Store) (e : Flaw)
      → read_in (inside S rules levels) a ts st ≡ Err e → e.fault ≡ Unsupported → Form s a ts st e
  unsupported_form levels s a ts st e h u =
      elim (cause levels s a ts st e h) [
        | inl n ↦ (let p : Unsupported ≡ TooLarge Nesting = sym u ∙ n in cc)
        | inr p ↦
            elim p [
              | inl q ↦ (let (front, rest, w, r) = q in bad_form s a ts front rest st e w r u)
              | inr q ↦ (let (front, t, rest, w, r, d) = q in (front, t, rest, w, ap (λ v. v.left) r, inl d))
            ]
      ]

  -- of one list, two ends of one length are one
  pub same_end : (front pre rest t : List Terminal) (h : Terminal) → pre ++ h ∷ t ≡ front ++ rest → length rest ≡ suc (length t) → rest ≡ h ∷ t
  same_end front pre rest t h e le =
      elim (split front rest pre h t (sym e)) [
        | inl w ↦
            (let (m, w') = w in
            let lw : length front ≡ length (pre ++ h ∷ m) = ap length w' in
            let le' : length (pre ++ h ∷ t) ≡ length (front ++ rest) = ap length e in
            absurd (omega (arith, lw, le', le, length-append pre (h ∷ m), length-append pre (h ∷ t), length-append front rest)))
        | inr w ↦ (let (pre', w1, w2) = w in none pre' w2 (let lw : length rest ≡ length (pre' ++ h ∷ t) = ap length w2 in omega (arith, lw, le, length-append pre' (h ∷ t))))
      ]
    where
      none : (pre' : List Terminal) → rest ≡ pre' ++ h ∷ t → length pre' ≡ 0 → rest ≡ h ∷ t
      none [] w z = w
      none (p ∷ pre') w z = absurd (omega (arith, z))

  everywhere_so : (b : Bool) → b ≡ true → cond b Unsupported BadSyntax ≡ Unsupported
  everywhere_so true h = refl
  everywhere_so false h = cc

  -- at a form that is taken nowhere a fault is Unsupported, or of nesting
  pub everywhere_form : (levels : ℕ) (s : Sort S.Base) (a : Rule S s) (pre : List Terminal) (h : Terminal) (t : List Terminal) (st : S.Store) (e : Flaw)
      → read_in (inside S rules levels) a (pre ++ h ∷ t) st ≡ Err e → e.left ≡ suc (length t) → (e.fault ≡ TooLarge Nesting → ⊥) → is_among refused_everywhere h.kind ≡ true → e.fault ≡ Unsupported
  everywhere_form levels s a pre h t st e failed at other k =
      elim (cause levels s a (pre ++ h ∷ t) st e failed) [
        | inl n ↦ absurd (other n)
        | inr p ↦
            elim p [
              | inl q ↦
                  (let (front, rest, w, r) = q in
                  let le : length rest ≡ suc (length t) = sym (ap (λ v. v.left) r) ∙ at in
                  ap (λ v. v.fault) r ∙ (ap (λ v. (bad v).fault) (same_end front pre rest t h w le) ∙ everywhere_so (is_among refused_everywhere h.kind) k))
              | inr q ↦ (let (front, o, rest, w, r, d) = q in ap (λ v. v.fault) r)
            ]
      ]

  -- a fault that is neither of nesting nor BadSyntax is Unsupported
  pub third : (levels : ℕ) (s : Sort S.Base) (a : Rule S s) (ts : List Terminal) (st : S.Store) (e : Flaw)
      → read_in (inside S rules levels) a ts st ≡ Err e → (e.fault ≡ TooLarge Nesting → ⊥) → (e.fault ≡ BadSyntax → ⊥) → e.fault ≡ Unsupported
  third levels s a ts st e failed other fine =
      elim (cause levels s a ts st e failed) [
        | inl n ↦ absurd (other n)
        | inr p ↦
            elim p [
              | inl q ↦ (let (front, rest, w, r) = q in of_two (starts refused_everywhere rest) (ap (λ v. v.fault) r))
              | inr q ↦ (let (front, o, rest, w, r, d) = q in ap (λ v. v.fault) r)
            ]
      ]
    where
      of_two : (b : Bool) → e.fault ≡ cond b Unsupported BadSyntax → e.fault ≡ Unsupported
      of_two true h = h
      of_two false h = absurd (fine h)
