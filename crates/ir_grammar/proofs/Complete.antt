-- What is derived is read again, whatever follows that isn't read on.
use Rattle.std.proofs.Common.{ℕ, suc, List, [], ◌∷◌, ◌++◌, length, ◌≡◌, sym, ◌∙◌, ap, Bool, true, false, cond, not, ◌&&◌, inl, inr, Ok, Err, None, Some, append_assoc}
use Rattle.ir_grammar.specs.declared.kind.Kind.{Kind}
use Rattle.ir_grammar.specs.declared.terminal.Terminal.{Terminal}
use Rattle.ir_grammar.specs.Kinds.{is_among, is_apart}
use Rattle.ir_grammar.specs.Rules.{Sort, list, Signature, Value, Rule, one, refused, ◌⨾◌, ◌∣◌, optional, many, between, act, Derives, one_token, both, left, right, absent, present, done, again, inner, acted}
use Rattle.ir_grammar.specs.Reading.{◌>>=◌, starts, first, is_empty, take, bad, read_in, inside}
use Rattle.ir_grammar.specs.Conditions.{begins, ends, is_clear, IsWellFormed}
use Rattle.ir_grammar.proofs.Outcomes.{bind_value}
use Rattle.ir_grammar.proofs.KindSets.{either_true, both_true, not_true, false_of, apart, starts_neither, starts_left, starts_right, starts-append}
use Rattle.ir_grammar.proofs.First.{IsFront, begins_so}
use Rattle.ir_grammar.proofs.Loops.{with_first, many_more, many_done}

-- a token of these kinds is taken
pub take_again : {Store : Type 0} (ks : List Kind) (t : Terminal) (ts : List Terminal) (st : Store) → is_among ks t.kind ≡ true → take ks (t ∷ ts) st ≡ Ok (t, ts, st)
take_again ks t ts st h = ap (λ v. cond v (Ok (t, ts, st)) (Err (bad (t ∷ ts)))) h

either_starts : (ks js ks' js' : List Kind) (ts : List Terminal) → (starts ks ts ≡ true → starts ks' ts ≡ true) → (starts js ts ≡ true → starts js' ts ≡ true)
    → starts (ks ++ js) ts ≡ true → starts (ks' ++ js') ts ≡ true
either_starts ks js ks' js' ts f g h =
    elim (either_true (starts ks ts) (starts js ts) (sym (starts-append ks js ts) ∙ h))
    [ inl p ↦ starts_left ks' js' ts (f p) | inr p ↦ starts_right ks' js' ts (g p) ]

chosen_starts : (e : Bool) (ks js ks' js' : List Kind) (ts : List Terminal) → (starts ks ts ≡ true → starts ks' ts ≡ true) → (starts js ts ≡ true → starts js' ts ≡ true)
    → starts (cond e (ks ++ js) ks) ts ≡ true → starts (cond e (ks' ++ js') ks') ts ≡ true
chosen_starts true ks js ks' js' ts f g h = either_starts ks js ks' js' ts f g h
chosen_starts false ks js ks' js' ts f g h = f h

no_kind : (ts : List Terminal) → starts [] ts ≡ true → ⊥
no_kind [] h = cc
no_kind (t ∷ ts) h = cc

-- what a rule begins with is read by it
pub begins_first : (S : Signature) (s : Sort S.Base) (a : Rule S s) (ts : List Terminal) → starts (begins a) ts ≡ true → starts (first a) ts ≡ true
begins_first S _ (one ks) ts h = h
begins_first S s (refused ks) ts h = absurd (no_kind ts h)
begins_first S _ (◌⨾◌ {s = s} {t = t} a b) ts h =
    chosen_starts (is_empty a) (begins a) (begins b) (first a) (first b) ts (λ p. begins_first S s a ts p) (λ p. begins_first S t b ts p) h
begins_first S s (a ∣ b) ts h =
    either_starts (begins a) (begins b) (first a) (first b) ts (λ p. begins_first S s a ts p) (λ p. begins_first S s b ts p) h
begins_first S _ (optional {s = s} a) ts h = begins_first S s a ts h
begins_first S _ (many {s = s} a) ts h = begins_first S s a ts h
begins_first S _ (between k n k') ts h = h
begins_first S _ (act {s = s} f a) ts h = begins_first S s a ts h

-- what follows isn't of these kinds, where a front of others or the rest follows
pub follows : (ks js : List Kind) (empty : Bool) (ys rest : List Terminal) → is_apart ks js ≡ true → IsFront js empty ys
    → (empty ≡ true → starts ks rest ≡ false) → starts ks (ys ++ rest) ≡ false
follows ks js empty [] rest h f g = g f
follows ks js empty (y ∷ ys) rest h f g = false_of (is_among ks y.kind) (λ p. apart ks js y.kind h p f)

-- a front that isn't empty begins so
pub fronts : (ks : List Kind) (empty : Bool) (xs rest : List Terminal) → empty ≡ false → IsFront ks empty xs → starts ks (xs ++ rest) ≡ true
fronts ks empty [] rest e h = cc
fronts ks empty (x ∷ xs) rest e h = h

pub second_ends : (e : Bool) (ks js : List Kind) (ts : List Terminal) → starts (cond e (ks ++ js) js) ts ≡ false → starts js ts ≡ false
second_ends true ks js ts h = (starts_neither ks js ts h).1
second_ends false ks js ts h = h

pub first_ends : (e : Bool) (ks js : List Kind) (ts : List Terminal) → starts (cond e (ks ++ js) js) ts ≡ false → e ≡ true → starts ks ts ≡ false
first_ends true ks js ts h p = (starts_neither ks js ts h).0
first_ends false ks js ts h p = cc

module _ (S : Signature) (rules : (n : S.Name) → Rule S (S.sort_of n)) where
  -- a derivation is read again, with its value and store, whatever follows that the rule doesn't read on at
  pub again_read : IsWellFormed S rules → (levels : ℕ) (s : Sort S.Base) (a : Rule S s) (front : List Terminal) (st : S.Store) (x : Value S s) (end : S.Store)
      → Derives S rules levels s a front st x end → is_clear S rules s a ≡ true → (rest : List Terminal) → starts (ends a) rest ≡ false
      → read_in (inside S rules levels) a (front ++ rest) st ≡ Ok (x, rest, end)
  again_read wf levels _ _ _ st _ _ (one_token {ks = ks} t h) c rest e = take_again ks t rest st h
  again_read wf levels _ _ _ st _ end (both {s = s} {t = t} {a = a} {b = b} {xs = xs} {ys = ys} {st' = st'} {x = x} {y = y} p q) c rest e =
      let (ca, more) = both_true (is_clear S rules s a) (is_clear S rules t b && is_apart (ends a) (begins b)) c in
      let (cb, cab) = both_true (is_clear S rules t b) (is_apart (ends a) (begins b)) more in
      let fa : starts (ends a) (ys ++ rest) ≡ false =
      follows (ends a) (begins b) (is_empty b) ys rest cab (begins_so S rules levels t b ys st' y end q) (first_ends (is_empty b) (ends a) (ends b) rest e) in
      let ha : read_in (inside S rules levels) a (xs ++ (ys ++ rest)) st ≡ Ok (x, ys ++ rest, st') = again_read wf levels s a xs st x st' p ca (ys ++ rest) fa in
      let hb : read_in (inside S rules levels) b (ys ++ rest) st' ≡ Ok (y, rest, end) = again_read wf levels t b ys st' y end q cb rest (second_ends (is_empty b) (ends a) (ends b) rest e) in
      ap (λ v. read_in (inside S rules levels) (a ⨾ b) v st) (append_assoc xs ys rest)
      ∙ (bind_value (read_in (inside S rules levels) a (xs ++ (ys ++ rest)) st) (λ u. read_in (inside S rules levels) b u.1 u.2 >>= λ z. Ok ((u.0, z.0), z.1, z.2)) (x, ys ++ rest, st') ha
      ∙ bind_value (read_in (inside S rules levels) b (ys ++ rest) st') (λ z. Ok ((x, z.0), z.1, z.2)) (y, rest, end) hb)
  again_read wf levels s _ _ st x end (left {a = a} {b = b} {xs = xs} p) c rest e =
      let (ca, more) = both_true (is_clear S rules s a) (is_clear S rules s b && (not (is_empty a) && is_apart (first a) (begins b))) c in
      let (cb, more') = both_true (is_clear S rules s b) (not (is_empty a) && is_apart (first a) (begins b)) more in
      let (ne, cab) = both_true (not (is_empty a)) (is_apart (first a) (begins b)) more' in
      let h : starts (first a) (xs ++ rest) ≡ true =
      begins_first S s a (xs ++ rest) (fronts (begins a) (is_empty a) xs rest (not_true (is_empty a) ne) (begins_so S rules levels s a xs st x end p)) in
      let ea : starts (ends a) rest ≡ false = (starts_neither (ends a) (ends b) rest (second_ends (is_empty b) (first a) (ends a ++ ends b) rest e)).0 in
      ap (λ v. cond v (read_in (inside S rules levels) a (xs ++ rest) st) (read_in (inside S rules levels) b (xs ++ rest) st)) h
      ∙ again_read wf levels s a xs st x end p ca rest ea
  again_read wf levels s _ _ st x end (right {a = a} {b = b} {xs = xs} p) c rest e =
      let (ca, more) = both_true (is_clear S rules s a) (is_clear S rules s b && (not (is_empty a) && is_apart (first a) (begins b))) c in
      let (cb, more') = both_true (is_clear S rules s b) (not (is_empty a) && is_apart (first a) (begins b)) more in
      let (ne, cab) = both_true (not (is_empty a)) (is_apart (first a) (begins b)) more' in
      let h : starts (first a) (xs ++ rest) ≡ false =
      follows (first a) (begins b) (is_empty b) xs rest cab (begins_so S rules levels s b xs st x end p) (first_ends (is_empty b) (first a) (ends a ++ ends b) rest e) in
      let eb : starts (ends b) rest ≡ false = (starts_neither (ends a) (ends b) rest (second_ends (is_empty b) (first a) (ends a ++ ends b) rest e)).1 in
      ap (λ v. cond v (read_in (inside S rules levels) a (xs ++ rest) st) (read_in (inside S rules levels) b (xs ++ rest) st)) h
      ∙ again_read wf levels s b xs st x end p cb rest eb
  again_read wf levels _ _ _ st _ _ (absent {a = a}) c rest e =
      ap (λ v. cond v (read_in (inside S rules levels) a rest st >>= λ y. Ok (Some y.0, y.1, y.2)) (Ok (None, rest, st))) (starts_neither (first a) (ends a) rest e).0
  again_read wf levels _ _ _ st _ end (present {s = s} {a = a} {xs = xs} {x = x} p) c rest e =
      let (ca, ne) = both_true (is_clear S rules s a) (not (is_empty a)) c in
      let h : starts (first a) (xs ++ rest) ≡ true =
      begins_first S s a (xs ++ rest) (fronts (begins a) (is_empty a) xs rest (not_true (is_empty a) ne) (begins_so S rules levels s a xs st x end p)) in
      ap (λ v. cond v (read_in (inside S rules levels) a (xs ++ rest) st >>= λ y. Ok (Some y.0, y.1, y.2)) (Ok (None, xs ++ rest, st))) h
      ∙ bind_value (read_in (inside S rules levels) a (xs ++ rest) st) (λ y. Ok (Some y.0, y.1, y.2)) (x, rest, end)
      (again_read wf levels s a xs st x end p ca rest (starts_neither (first a) (ends a) rest e).1)
  again_read wf levels _ _ _ st _ _ (done {s = s} {a = a}) c rest e = many_done S rules levels s a rest st (starts_neither (first a) (ends a) rest e).0
  again_read wf levels _ _ _ st _ end (again {s = s} {a = a} {xs = xs} {ys = ys} {st' = st'} {x = x} {rest = values} p q) c rest e =
      let (ca, more) = both_true (is_clear S rules s a) (not (is_empty a) && is_apart (ends a) (begins a)) c in
      let (ne, caa) = both_true (not (is_empty a)) (is_apart (ends a) (begins a)) more in
      let h : starts (first a) (xs ++ (ys ++ rest)) ≡ true =
      begins_first S s a (xs ++ (ys ++ rest)) (fronts (begins a) (is_empty a) xs (ys ++ rest) (not_true (is_empty a) ne) (begins_so S rules levels s a xs st x st' p)) in
      let fa : starts (ends a) (ys ++ rest) ≡ false =
      follows (ends a) (begins a) true ys rest caa (begins_so S rules levels (list s) (many a) ys st' values end q) (λ _. (starts_neither (first a) (ends a) rest e).1) in
      let ha : read_in (inside S rules levels) a (xs ++ (ys ++ rest)) st ≡ Ok (x, ys ++ rest, st') = again_read wf levels s a xs st x st' p ca (ys ++ rest) fa in
      let hb : read_in (inside S rules levels) (many a) (ys ++ rest) st' ≡ Ok (values, rest, end) = again_read wf levels (list s) (many a) ys st' values end q c rest e in
      ap (λ v. read_in (inside S rules levels) (many a) v st) (append_assoc xs ys rest)
      ∙ (many_more S rules levels s a (xs ++ (ys ++ rest)) st (x, ys ++ rest, st') (not_true (is_empty a) ne) h ha
      ∙ ap (λ v. with_first x v) hb)
  again_read wf _ _ _ _ st x end (inner {l = l} {k = k} {k' = k'} {n = n} {xs = xs} o c ko p kc) clear rest e =
      let es : starts (ends (rules n)) (c ∷ rest) ≡ false = false_of (is_among (ends (rules n)) c.kind) (λ h. apart (ends (rules n)) (k' ∷ []) c.kind clear h kc) in
      let h : read_in (inside S rules l) (rules n) (xs ++ (c ∷ rest)) st ≡ Ok (x, c ∷ rest, end) =
      again_read wf l (S.sort_of n) (rules n) xs st x end p (wf.clear n) (c ∷ rest) es in
      ap (λ v. read_in {S = S} (inside S rules (suc l)) (between k n k') (o ∷ v) st) (append_assoc xs (c ∷ []) rest)
      ∙ (bind_value (take (k ∷ []) (o ∷ (xs ++ (c ∷ rest))) st)
      (λ u. inside S rules (suc l) n (length (o ∷ (xs ++ (c ∷ rest)))) u.1 u.2 >>= λ y. take (k' ∷ []) y.1 y.2 >>= λ z. Ok (y.0, z.1, z.2))
      (o, xs ++ (c ∷ rest), st) (take_again (k ∷ []) o (xs ++ (c ∷ rest)) st ko)
      ∙ (bind_value (read_in (inside S rules l) (rules n) (xs ++ (c ∷ rest)) st) (λ y. take (k' ∷ []) y.1 y.2 >>= λ z. Ok (y.0, z.1, z.2)) (x, c ∷ rest, end) h
      ∙ bind_value (take (k' ∷ []) (c ∷ rest) end) (λ z. Ok (x, z.1, z.2)) (c, rest, end) (take_again (k' ∷ []) c rest end kc)))
  again_read wf levels _ _ _ st _ _ (acted {s = s} {f = f} {a = a} {xs = xs} {st' = st'} {x = x} p) c rest e =
      bind_value (read_in (inside S rules levels) a (xs ++ rest) st) (λ y. Ok ((f y.0 y.2).0, y.1, (f y.0 y.2).1)) (x, rest, st') (again_read wf levels s a xs st x st' p c rest e)
