-- What was read before a fault begins a derivation.
use Rattle.std.proofs.Common.{ℕ, zero, suc, ◌+◌, List, [], ◌∷◌, ◌++◌, length, ◌≤◌, ◌≡◌, refl, sym, ◌∙◌, ap, subst, Bool, true, false, ◌||◌, ◌&&◌, ◌⊎◌, inl, inr, Ok, Err, None, Some, arith, append_assoc, append-nil}
use Rattle.ir_core.specs.declared.token.TokenKind.TheVariants as tokens
use Rattle.ir_grammar.specs.declared.kind.Kind.{Kind}
use Rattle.ir_grammar.specs.declared.terminal.Terminal.{Terminal}
use Rattle.ir_grammar.specs.declared.terminal.Flaw.{Flaw}
use Rattle.ir_grammar.specs.Kinds.{is_among}
use Rattle.ir_grammar.specs.Rules.{Sort, pair, list, Signature, Value, Rule, one, refused, ◌⨾◌, ◌∣◌, optional, many, between, act, Derives, one_token, both, left, right, absent, present, done, again, inner, acted}
use Rattle.ir_grammar.specs.Reading.{◌>>=◌, Outcome, starts, first, take, refuse, bad, unsupported, too_deep, read_in, inside, repeated}
use Rattle.ir_grammar.specs.Conditions.{has, goes_on, IsWellFormed}
use Rattle.ir_grammar.specs.Prefixes.{Begins}
use Rattle.ir_grammar.proofs.Outcomes.{bind_err, chosen}
use Rattle.ir_grammar.proofs.KindSets.{both_true, either_true, kind_same}
use Rattle.ir_grammar.proofs.Sound.{Found, take_ok, all_sound}

-- some token of a kind
abbrev sample : Kind → Terminal
sample k = record { kind = k; number = 0; token = record { kind = tokens.Word; from = 0; to = 0; place = record { line = 0; column = 0 } } }

first_of_list : (k : Kind) (ks : List Kind) → is_among (k ∷ ks) k ≡ true
first_of_list k ks = ap (λ v. v || is_among ks k) (kind_same k)

-- no token was taken: the fault stands at the next
pub take_err : {Store : Type 0} (ks : List Kind) (ts : List Terminal) (st : Store) (e : Flaw) → take ks ts st ≡ Err e → length ts ≡ e.left
take_err ks [] st e h = let p : bad [] ≡ e = cc in ap (λ v. v.left) p
take_err ks (t ∷ ts) st e h =
    elim (chosen (is_among ks t.kind) (Ok (t, ts, st)) (Err (bad (t ∷ ts))) (Err e) h) [
      | inl p ↦ (let q : Ok (t, ts, st) ≡ Err e = p.1 in cc)
      | inr p ↦ (let q : Err (bad (t ∷ ts)) ≡ Err e = p.1 in let r : bad (t ∷ ts) ≡ e = cc in ap (λ v. v.left) r)
    ]

-- the outcome of a fault
abbrev pub failing : {Store A : Type 0} → Flaw → Outcome Store A
failing e = Err e

pub same_flaw : {Store A : Type 0} (d e : Flaw) → failing {Store = Store} {A = A} d ≡ failing {Store = Store} {A = A} e → d ≡ e
same_flaw d e h = cc

refuse_err : {Store A : Type 0} (ks : List Kind) (ts : List Terminal) (st : Store) (e : Flaw)
    → refuse {Store = Store} {A = A} ks ts st ≡ failing {Store = Store} {A = A} e → length ts ≡ e.left
refuse_err {Store} {A} ks ts st e h =
    elim (chosen (starts ks ts) (failing {Store = Store} {A = A} (unsupported ts)) (failing {Store = Store} {A = A} (bad ts)) (failing {Store = Store} {A = A} e) h) [
      | inl p ↦ ap (λ v. v.left) (same_flaw {Store = Store} {A = A} (unsupported ts) e p.1)
      | inr p ↦ ap (λ v. v.left) (same_flaw {Store = Store} {A = A} (bad ts) e p.1)
    ]

module _ (S : Signature) (rules : (n : S.Name) → Rule S (S.sort_of n)) where
  -- a derivation is one of more levels
  pub weaker : (l k : ℕ) (s : Sort S.Base) (a : Rule S s) (xs : List Terminal) (st : S.Store) (x : Value S s) (end : S.Store)
      → Derives S rules k s a xs st x end → k ≤ l → Derives S rules l s a xs st x end
  weaker l k _ _ _ _ _ _ (one_token t h) le = one_token t h
  weaker l k _ _ _ _ _ _ (both p q) le = both (weaker l k _ _ _ _ _ _ p le) (weaker l k _ _ _ _ _ _ q le)
  weaker l k _ _ _ _ _ _ (left p) le = left (weaker l k _ _ _ _ _ _ p le)
  weaker l k _ _ _ _ _ _ (right p) le = right (weaker l k _ _ _ _ _ _ p le)
  weaker l k _ _ _ _ _ _ absent le = absent
  weaker l k _ _ _ _ _ _ (present p) le = present (weaker l k _ _ _ _ _ _ p le)
  weaker l k _ _ _ _ _ _ done le = done
  weaker l k _ _ _ _ _ _ (again p q) le = again (weaker l k _ _ _ _ _ _ p le) (weaker l k _ _ _ _ _ _ q le)
  weaker zero _ _ _ _ _ _ _ (inner o c h p g) le = absurd (omega arith)
  weaker (suc l) _ _ _ _ _ _ _ (inner {l = k} o c h p g) le = inner o c h (weaker l k _ _ _ _ _ _ p (omega arith)) g
  weaker l k _ _ _ _ _ _ (acted p) le = acted (weaker l k _ _ _ _ _ _ p le)

  -- some tokens are derived, from this store on
  abbrev Made : ℕ → (s : Sort S.Base) → Rule S s → S.Store → Type 0
  Made l s a st = (xs : List Terminal) × (x : Value S s) × (end : S.Store) × Derives S rules l s a xs st x end

  made_in : (deep : Bool) (l : ℕ) → (deep ≡ true → (k : Kind) (n : S.Name) (k' : Kind) (st : S.Store) → Made l (S.sort_of n) (between k n k') st)
      → (s : Sort S.Base) (a : Rule S s) → has deep a ≡ true → (st : S.Store) → Made l s a st
  made_in deep l names _ (one []) h st = cc
  made_in deep l names _ (one (k ∷ ks)) h st = (sample k ∷ [], sample k, st, one_token (sample k) (first_of_list k ks))
  made_in deep l names s (refused ks) h st = cc
  made_in deep l names _ (◌⨾◌ {s = s} {t = t} a b) h st =
      let (ha, hb) = both_true (has deep a) (has deep b) h in
      let (xs, x, st', p) = made_in deep l names s a ha st in
      let (ys, y, st'', q) = made_in deep l names t b hb st' in
      (xs ++ ys, (x, y), st'', both p q)
  made_in deep l names s (a ∣ b) h st =
      elim (either_true (has deep a) (has deep b) h) [
        | inl p ↦ (let (xs, x, st', q) = made_in deep l names s a p st in (xs, x, st', left q))
        | inr p ↦ (let (xs, x, st', q) = made_in deep l names s b p st in (xs, x, st', right q))
      ]
  made_in deep l names _ (optional a) h st = ([], None, st, absent)
  made_in deep l names _ (many a) h st = ([], [], st, done)
  made_in deep l names _ (between k n k') h st = names h k n k' st
  made_in deep l names _ (act {s = s} f a) h st =
      let (xs, x, st', p) = made_in deep l names s a h st in (xs, (f x st').0, (f x st').1, acted p)

  -- what stands between brackets is derived without brackets
  shallow : IsWellFormed S rules → (n : S.Name) (st : S.Store) → Made 0 (S.sort_of n) (rules n) st
  shallow wf n st = made_in false 0 (λ e. absurd (let f : false ≡ true = e in cc)) (S.sort_of n) (rules n) (wf.shallow n) st

  bracketed : IsWellFormed S rules → (k : Kind) (n : S.Name) (k' : Kind) (st : S.Store) → Made 1 (S.sort_of n) (between k n k') st
  bracketed wf k n k' st =
      let (xs, x, st', p) = shallow wf n st in
      (sample k ∷ (xs ++ sample k' ∷ []), x, st', inner {l = 0} (sample k) (sample k') (first_of_list k []) p (first_of_list k' []))

  -- a rule that has a derivation has one from each store
  pub made : IsWellFormed S rules → (s : Sort S.Base) (a : Rule S s) → has true a ≡ true → (st : S.Store) → Made 1 s a st
  made wf s a h st = made_in true 1 (λ e k n k' st. bracketed wf k n k' st) s a h st

  -- they begin one, or are none
  abbrev Reaches : (s : Sort S.Base) → Rule S s → List Terminal → S.Store → Type 0
  Reaches s a front st = (front ≡ []) ⊎ Begins S rules s a front st

  begun : IsWellFormed S rules → (s : Sort S.Base) (a : Rule S s) → has true a ≡ true → (front : List Terminal) (st : S.Store) → Reaches s a front st → Begins S rules s a front st
  begun wf s a h front st (inl e) =
      let (xs, x, end, p) = made wf s a h st in subst (λ v. Begins S rules s a v st) (sym e) (1, xs, x, end, p)
  begun wf s a h front st (inr b) = b

  -- the tokens have a front that begins a derivation, and the fault stands behind it
  abbrev Reached : (s : Sort S.Base) → Rule S s → List Terminal → S.Store → Flaw → Type 0
  Reached s a ts st e = (front : List Terminal) × (rest : List Terminal) × (ts ≡ front ++ rest) × (length rest ≡ e.left) × Reaches s a front st

  -- a second part behind a whole first
  behind : (levels : ℕ) (s t : Sort S.Base) (a : Rule S s) (b : Rule S t) (xs ys : List Terminal) (st st' : S.Store) (x : Value S s)
      → Derives S rules levels s a xs st x st' → Begins S rules t b ys st' → Begins S rules (pair s t) (a ⨾ b) (xs ++ ys) st
  behind levels s t a b xs ys st st' x p g =
      let (k, more, y, end, q) = g in (
        levels + k,
        more,
        (x, y),
        end,
        subst (λ v. Derives S rules (levels + k) (pair s t) (a ⨾ b) v st (x, y) end) (sym (append_assoc xs ys more))
            (both (weaker (levels + k) levels s a xs st x st' p (omega arith)) (weaker (levels + k) k t b (ys ++ more) st' y end q (omega arith))),
      )

  -- a first part that is begun, and some second
  before : IsWellFormed S rules → (s t : Sort S.Base) (a : Rule S s) (b : Rule S t) (front : List Terminal) (st : S.Store) → has true b ≡ true
      → Begins S rules s a front st → Begins S rules (pair s t) (a ⨾ b) front st
  before wf s t a b front st hb g =
      let (k, more, x, st', p) = g in
      let (ys, y, end, q) = made wf t b hb st' in (
        k + 1,
        more ++ ys,
        (x, y),
        end,
        subst (λ v. Derives S rules (k + 1) (pair s t) (a ⨾ b) v st (x, y) end) (append_assoc front more ys)
            (both (weaker (k + 1) k s a (front ++ more) st x st' p (omega arith)) (weaker (k + 1) 1 t b ys st' y end q (omega arith))),
      )

  -- rounds behind a whole round
  round_behind : (levels : ℕ) (s : Sort S.Base) (a : Rule S s) (xs ys : List Terminal) (st st' : S.Store) (x : Value S s)
      → Derives S rules levels s a xs st x st' → Begins S rules (list s) (many a) ys st' → Begins S rules (list s) (many a) (xs ++ ys) st
  round_behind levels s a xs ys st st' x p g =
      let (k, more, y, end, q) = g in (
        levels + k,
        more,
        x ∷ y,
        end,
        subst (λ v. Derives S rules (levels + k) (list s) (many a) v st (x ∷ y) end) (sym (append_assoc xs ys more))
            (again (weaker (levels + k) levels s a xs st x st' p (omega arith)) (weaker (levels + k) k (list s) (many a) (ys ++ more) st' y end q (omega arith))),
      )

  -- a round that is begun
  round_begun : (s : Sort S.Base) (a : Rule S s) (front : List Terminal) (st : S.Store) → Begins S rules s a front st → Begins S rules (list s) (many a) front st
  round_begun s a front st g =
      let (k, more, x, end, p) = g in
      (k, more, x ∷ [], end, subst (λ v. Derives S rules k (list s) (many a) v st (x ∷ []) end) (append-nil (front ++ more)) (again p done))

  -- what stands between brackets is begun behind the first
  inside_begun : (k : Kind) (n : S.Name) (k' : Kind) (o : Terminal) (front : List Terminal) (st : S.Store) → is_among (k ∷ []) o.kind ≡ true
      → Begins S rules (S.sort_of n) (rules n) front st → Begins S rules (S.sort_of n) (between k n k') (o ∷ front) st
  inside_begun k n k' o front st h g =
      let (l, more, x, end, p) = g in (
        suc l,
        more ++ sample k' ∷ [],
        x,
        end,
        subst (λ v. Derives S rules (suc l) (S.sort_of n) (between k n k') (o ∷ v) st x end) (append_assoc front more (sample k' ∷ []))
            (inner o (sample k') h p (first_of_list k' [])),
      )

  begun_name : IsWellFormed S rules → (n : S.Name) (front : List Terminal) (st : S.Store) → Reaches (S.sort_of n) (rules n) front st → Begins S rules (S.sort_of n) (rules n) front st
  begun_name wf n front st (inl e) =
      let (xs, x, end, p) = shallow wf n st in subst (λ v. Begins S rules (S.sort_of n) (rules n) v st) (sym e) (0, xs, x, end, p)
  begun_name wf n front st (inr b) = b

  pub inside_ok : (levels : ℕ) (n : S.Name) (at : ℕ) (ts : List Terminal) (st : S.Store) (x : Value S (S.sort_of n) × List Terminal × S.Store)
      → inside S rules levels n at ts st ≡ Ok x → (l : ℕ) × (levels ≡ suc l) × Found S rules l (S.sort_of n) (rules n) ts st x
  inside_ok zero n at ts st x h = cc
  inside_ok (suc l) n at ts st x h = (l, refl, all_sound S rules l (S.sort_of n) (rules n) ts st x h)

  -- a fault inside brackets stands at the bracket, or behind what is begun
  abbrev Hypothesis : ℕ → Type 0
  Hypothesis levels = (n : S.Name) (at : ℕ) (ts : List Terminal) (st : S.Store) (e : Flaw)
      → inside S rules levels n at ts st ≡ Err e → (at ≡ e.left) ⊎ Reached (S.sort_of n) (rules n) ts st e

  -- the same behind a front
  moved : (s : Sort S.Base) (a : Rule S s) (ts front mid rest : List Terminal) (st : S.Store) (e : Flaw) → ts ≡ front ++ mid → mid ≡ rest → length rest ≡ e.left
      → Begins S rules s a front st → Reached s a ts st e
  moved s a ts front mid rest st e h k l g = (front, rest, h ∙ ap (λ v. front ++ v) k, l, inr g)

  rounds_reached : (levels : ℕ) (s : Sort S.Base) (a : Rule S s)
      → ((ts : List Terminal) (st : S.Store) (e : Flaw) → read_in (inside S rules levels) a ts st ≡ Err e → Reached s a ts st e)
      → (n : ℕ) (ts : List Terminal) (st : S.Store) (e : Flaw) → repeated (first a) (read_in (inside S rules levels) a) n ts st ≡ Err e → Reached (list s) (many a) ts st e
  rounds_reached levels s a each zero ts st e h = cc
  rounds_reached levels s a each (suc n) ts st e h =
      elim (chosen (starts (first a) ts)
      (read_in (inside S rules levels) a ts st >>= λ y. repeated (first a) (read_in (inside S rules levels) a) n y.1 y.2 >>= λ ys. Ok (y.0 ∷ ys.0, ys.1, ys.2))
      (Ok ([], ts, st)) (Err e) h) [
        | inl p ↦
            elim (bind_err (read_in (inside S rules levels) a ts st)
            (λ y. repeated (first a) (read_in (inside S rules levels) a) n y.1 y.2 >>= λ ys. Ok (y.0 ∷ ys.0, ys.1, ys.2)) e p.1) [
              | inl q ↦
                  (let (front, rest, h1, h2, r) = each ts st e q in
                  (front, rest, h1, h2, elim r [ inl z ↦ inl z | inr g ↦ inr (round_begun s a front st g) ]))
              | inr q ↦
                  (let (y, hy, q') = q in
                  elim (bind_err (repeated (first a) (read_in (inside S rules levels) a) n y.1 y.2) (λ ys. Ok (y.0 ∷ ys.0, ys.1, ys.2)) e q') [
                    | inl r ↦
                        (let (fa, ha, da) = all_sound S rules levels s a ts st y hy in
                        let (fb, rest, h1, h2, rb) = rounds_reached levels s a each n y.1 y.2 e r in (
                          fa ++ fb,
                          rest,
                          (ha ∙ ap (λ v. fa ++ v) h1) ∙ sym (append_assoc fa fb rest),
                          h2,
                          inr (round_behind levels s a fa fb st y.2 y.0 da
                              (elim rb [ inl z ↦ subst (λ v. Begins S rules (list s) (many a) v y.2) (sym z) (0, [], [], y.2, done) | inr g ↦ g ])),
                        ))
                    | inr r ↦ (let (ys, hys, z) = r in cc)
                  ])
            ]
        | inr p ↦ (let q : Ok ([], ts, st) ≡ Err e = p.1 in cc)
      ]

  reached : IsWellFormed S rules → (levels : ℕ) → Hypothesis levels → (s : Sort S.Base) (a : Rule S s) (ts : List Terminal) (st : S.Store) (e : Flaw)
      → goes_on a ≡ true → read_in (inside S rules levels) a ts st ≡ Err e → Reached s a ts st e
  reached wf levels deep _ (one ks) ts st e g h = ([], ts, refl, take_err ks ts st e h, inl refl)
  reached wf levels deep s (refused ks) ts st e g h = ([], ts, refl, refuse_err {Store = S.Store} {A = Value S s} ks ts st e h, inl refl)
  reached wf levels deep _ (◌⨾◌ {s = s} {t = t} a b) ts st e g h =
      let (ga, g') = both_true (goes_on a) (goes_on b && has true b) g in
      let (gb, hb) = both_true (goes_on b) (has true b) g' in
      elim (bind_err (read_in (inside S rules levels) a ts st) (λ y. read_in (inside S rules levels) b y.1 y.2 >>= λ z. Ok ((y.0, z.0), z.1, z.2)) e h) [
        | inl q ↦
            (let (front, rest, h1, h2, r) = reached wf levels deep s a ts st e ga q in
            (front, rest, h1, h2, elim r [ inl z ↦ inl z | inr p ↦ inr (before wf s t a b front st hb p) ]))
        | inr q ↦
            (let (y, hy, q') = q in
            elim (bind_err (read_in (inside S rules levels) b y.1 y.2) (λ z. Ok ((y.0, z.0), z.1, z.2)) e q') [
              | inl r ↦
                  (let (fa, ha, da) = all_sound S rules levels s a ts st y hy in
                  let (fb, rest, h1, h2, rb) = reached wf levels deep t b y.1 y.2 e gb r in (
                    fa ++ fb,
                    rest,
                    (ha ∙ ap (λ v. fa ++ v) h1) ∙ sym (append_assoc fa fb rest),
                    h2,
                    inr (behind levels s t a b fa fb st y.2 y.0 da (begun wf t b hb fb y.2 rb)),
                  ))
              | inr r ↦ (let (z, hz, w) = r in cc)
            ])
      ]
  reached wf levels deep s (a ∣ b) ts st e g h =
      let (ga, gb) = both_true (goes_on a) (goes_on b) g in
      elim (chosen (starts (first a) ts) (read_in (inside S rules levels) a ts st) (read_in (inside S rules levels) b ts st) (Err e) h) [
        | inl p ↦
            (let (front, rest, h1, h2, r) = reached wf levels deep s a ts st e ga p.1 in
            (front, rest, h1, h2, elim r [ inl z ↦ inl z | inr q ↦ (let (k, more, x, end, d) = q in inr (k, more, x, end, left d)) ]))
        | inr p ↦
            (let (front, rest, h1, h2, r) = reached wf levels deep s b ts st e gb p.1 in
            (front, rest, h1, h2, elim r [ inl z ↦ inl z | inr q ↦ (let (k, more, x, end, d) = q in inr (k, more, x, end, right d)) ]))
      ]
  reached wf levels deep _ (optional {s = s} a) ts st e g h =
      elim (chosen (starts (first a) ts) (read_in (inside S rules levels) a ts st >>= λ y. Ok (Some y.0, y.1, y.2)) (Ok (None, ts, st)) (Err e) h) [
        | inl p ↦
            elim (bind_err (read_in (inside S rules levels) a ts st) (λ y. Ok (Some y.0, y.1, y.2)) e p.1) [
              | inl q ↦
                  (let (front, rest, h1, h2, r) = reached wf levels deep s a ts st e g q in
                  (front, rest, h1, h2, elim r [ inl z ↦ inl z | inr q ↦ (let (k, more, x, end, d) = q in inr (k, more, Some x, end, present d)) ]))
              | inr q ↦ (let (y, hy, z) = q in cc)
            ]
        | inr p ↦ (let q : Ok (None, ts, st) ≡ Err e = p.1 in cc)
      ]
  reached wf levels deep _ (many {s = s} a) ts st e g h =
      rounds_reached levels s a (λ ts' st' e' h'. reached wf levels deep s a ts' st' e' g h') (length ts) ts st e h
  reached wf levels deep _ (between k n k') ts st e g h =
      elim (bind_err (take (k ∷ []) ts st) (λ o. inside S rules levels n (length ts) o.1 o.2 >>= λ y. take (k' ∷ []) y.1 y.2 >>= λ c. Ok (y.0, c.1, c.2)) e h) [
        | inl q ↦ ([], ts, refl, take_err (k ∷ []) ts st e q, inl refl)
        | inr q ↦
            (let (o, ho, q') = q in
            let (ko, eo, so) = take_ok (k ∷ []) ts st o ho in
            elim (bind_err (inside S rules levels n (length ts) o.1 o.2) (λ y. take (k' ∷ []) y.1 y.2 >>= λ c. Ok (y.0, c.1, c.2)) e q') [
              | inl r ↦
                  elim (deep n (length ts) o.1 o.2 e r) [
                    | inl z ↦ ([], ts, refl, z, inl refl)
                    | inr z ↦
                        (let (front, rest, h1, h2, w) = z in (
                          o.0 ∷ front,
                          rest,
                          eo ∙ ap (λ v. o.0 ∷ v) h1,
                          h2,
                          inr (inside_begun k n k' o.0 front st ko (subst (λ v. Begins S rules (S.sort_of n) (rules n) front v) (sym so) (begun_name wf n front o.2 w))),
                        ))
                  ]
              | inr r ↦
                  (let (y, hy, r') = r in
                  let (l, el, found) = inside_ok levels n (length ts) o.1 o.2 y hy in
                  let (front, h1, d) = found in
                  elim (bind_err (take (k' ∷ []) y.1 y.2) (λ c. Ok (y.0, c.1, c.2)) e r') [
                    | inl u ↦ (
                      o.0 ∷ front,
                      y.1,
                      eo ∙ ap (λ v. o.0 ∷ v) h1,
                      take_err (k' ∷ []) y.1 y.2 e u,
                      inr (inside_begun k n k' o.0 front st ko
                          (subst (λ v. Begins S rules (S.sort_of n) (rules n) front v) (sym so)
                          (l, [], y.0, y.2, subst (λ v. Derives S rules l (S.sort_of n) (rules n) v o.2 y.0 y.2) (sym (append-nil front)) d))),
                    )
                    | inr u ↦ (let (c, hc, z) = u in cc)
                  ])
            ])
      ]
  reached wf levels deep _ (act {s = s} f a) ts st e g h =
      elim (bind_err (read_in (inside S rules levels) a ts st) (λ y. Ok ((f y.0 y.2).0, y.1, (f y.0 y.2).1)) e h) [
        | inl q ↦
            (let (front, rest, h1, h2, r) = reached wf levels deep s a ts st e g q in
            (front, rest, h1, h2, elim r [ inl z ↦ inl z | inr w ↦ (let (k, more, x, end, d) = w in inr (k, more, (f x end).0, (f x end).1, acted d)) ]))
        | inr q ↦ (let (y, hy, z) = q in cc)
      ]

  deep_reached : IsWellFormed S rules → (levels : ℕ) → Hypothesis levels
  deep_reached wf zero n at ts st e h = inl (let p : too_deep at ≡ e = cc in ap (λ v. v.left) p)
  deep_reached wf (suc l) n at ts st e h = inr (reached wf l (deep_reached wf l) (S.sort_of n) (rules n) ts st e (wf.completed n) h)

  -- the tokens before a fault begin a derivation, and the fault's number of tokens is that of those behind them
  pub begins_before : IsWellFormed S rules → (levels : ℕ) (s : Sort S.Base) (a : Rule S s) (ts : List Terminal) (st : S.Store) (e : Flaw)
      → goes_on a ≡ true → has true a ≡ true → read_in (inside S rules levels) a ts st ≡ Err e
      → (front : List Terminal) × (rest : List Terminal) × (ts ≡ front ++ rest) × (length rest ≡ e.left) × Begins S rules s a front st
  begins_before wf levels s a ts st e g has_one h =
      let (front, rest, h1, h2, r) = reached wf levels (deep_reached wf levels) s a ts st e g h in
      (front, rest, h1, h2, begun wf s a has_one front st r)

  -- where the fault stands among the tokens
  pub reached_at : IsWellFormed S rules → (levels : ℕ) (s : Sort S.Base) (a : Rule S s) (ts : List Terminal) (st : S.Store) (e : Flaw)
      → goes_on a ≡ true → read_in (inside S rules levels) a ts st ≡ Err e
      → (front : List Terminal) × (rest : List Terminal) × (ts ≡ front ++ rest) × (length rest ≡ e.left)
  reached_at wf levels s a ts st e g h =
      let (front, rest, h1, h2, r) = reached wf levels (deep_reached wf levels) s a ts st e g h in (front, rest, h1, h2)
