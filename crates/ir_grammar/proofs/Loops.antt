-- A rule any number of times, a round at a time.
use Rattle.std.proofs.Common.{ℕ, zero, suc, List, [], ◌∷◌, ◌++◌, length, ◌<◌, ◌≤◌, ◌≡◌, refl, sym, ◌∙◌, ap, true, false, cond, Option, None, Some, Ok, Err, arith, append_assoc, append-nil}
use Rattle.ir_grammar.specs.declared.kind.Kind.{Kind}
use Rattle.ir_grammar.specs.declared.terminal.Terminal.{Terminal}
use Rattle.ir_grammar.specs.declared.terminal.Flaw.{Flaw}
use Rattle.ir_grammar.specs.Rules.{Sort, pair, option, list, Signature, Value, Rule, ◌⨾◌, optional, many, gone, just, items_of}
use Rattle.ir_grammar.specs.Reading.{◌>>=◌, Outcome, Reading, starts, first, is_empty, repeated, read_in, inside}
use Rattle.ir_grammar.specs.Grammar.{with_front}
use Rattle.ir_grammar.proofs.Outcomes.{bind_same}
use Rattle.ir_grammar.proofs.First.{shortens}

-- each round takes a token
abbrev pub Shortens : {Store A : Type 0} → Reading Store A → Type 0
Shortens {Store} {A} reading = (ts : List Terminal) (st : Store) (x : A × List Terminal × Store) → reading ts st ≡ Ok x → length x.1 < length ts

-- a list of rounds, with one more in front
abbrev pub with_first : {Store A : Type 0} → A → Outcome Store (List A) → Outcome Store (List A)
with_first y outcome = outcome >>= λ ys. Ok (y ∷ ys.0, ys.1, ys.2)

-- as many rounds as there are tokens are enough
pub enough : {Store A : Type 0} (kinds : List Kind) (reading : Reading Store A) → Shortens reading → (n m : ℕ) (ts : List Terminal) (st : Store)
    → length ts ≤ n → length ts ≤ m → repeated kinds reading n ts st ≡ repeated kinds reading m ts st
enough kinds reading short zero zero ts st h k = refl
enough kinds reading short zero (suc m) [] st h k = refl
enough kinds reading short zero (suc m) (t ∷ ts) st h k = absurd (omega arith)
enough kinds reading short (suc n) zero [] st h k = refl
enough kinds reading short (suc n) zero (t ∷ ts) st h k = absurd (omega arith)
enough kinds reading short (suc n) (suc m) ts st h k =
    ap (λ v. cond (starts kinds ts) v (Ok ([], ts, st)))
    (bind_same (reading ts st) (λ x. with_first x.0 (repeated kinds reading n x.1 x.2)) (λ x. with_first x.0 (repeated kinds reading m x.1 x.2))
    (λ x q. let s : length x.1 < length ts = short ts st x q in ap (λ v. with_first x.0 v) (enough kinds reading short n m x.1 x.2 (omega arith) (omega arith))))

-- a round that succeeds is followed by the others
pub rounds_more : {Store A : Type 0} (kinds : List Kind) (reading : Reading Store A) → Shortens reading → (ts : List Terminal) (st : Store) (x : A × List Terminal × Store)
    → starts kinds ts ≡ true → reading ts st ≡ Ok x → repeated kinds reading (length ts) ts st ≡ with_first x.0 (repeated kinds reading (length x.1) x.1 x.2)
rounds_more kinds reading short [] st x h k = cc
rounds_more kinds reading short (t ∷ ts) st x h k =
    let s : length x.1 < length (t ∷ ts) = short (t ∷ ts) st x k in
    let le : length x.1 ≤ length ts = omega (arith, s) in
    let same : repeated kinds reading (length ts) x.1 x.2 ≡ repeated kinds reading (length x.1) x.1 x.2 =
    enough kinds reading short (length ts) (length x.1) x.1 x.2 le (omega arith) in
    ap (λ v. cond v (reading (t ∷ ts) st >>= λ y. with_first y.0 (repeated kinds reading (length ts) y.1 y.2)) (Ok ([], t ∷ ts, st))) h
    ∙ (ap (λ r. r >>= λ y. with_first y.0 (repeated kinds reading (length ts) y.1 y.2)) k
    ∙ ap (λ v. with_first x.0 v) same)

-- where no round begins, there is none
pub rounds_done : {Store A : Type 0} (kinds : List Kind) (reading : Reading Store A) (ts : List Terminal) (st : Store)
    → starts kinds ts ≡ false → repeated kinds reading (length ts) ts st ≡ Ok ([], ts, st)
rounds_done kinds reading [] st h = refl
rounds_done kinds reading (t ∷ ts) st h = ap (λ v. cond v (reading (t ∷ ts) st >>= λ y. with_first y.0 (repeated kinds reading (length ts) y.1 y.2)) (Ok ([], t ∷ ts, st))) h

-- a round that fails is the flaw of all
pub rounds_failed : {Store A : Type 0} (kinds : List Kind) (reading : Reading Store A) (ts : List Terminal) (st : Store) (e : Flaw)
    → starts kinds ts ≡ true → reading ts st ≡ Err e → repeated kinds reading (length ts) ts st ≡ Err e
rounds_failed kinds reading [] st e h k = cc
rounds_failed kinds reading (t ∷ ts) st e h k =
    ap (λ v. cond v (reading (t ∷ ts) st >>= λ y. with_first y.0 (repeated kinds reading (length ts) y.1 y.2)) (Ok ([], t ∷ ts, st))) h
    ∙ ap (λ r. r >>= λ y. with_first y.0 (repeated kinds reading (length ts) y.1 y.2)) k

-- items in front of a list of rounds, one of which was read
pub front_more : {Store A : Type 0} (front : List A) (y : A) (r : Outcome Store (List A)) → with_front front (with_first y r) ≡ with_front (front ++ y ∷ []) r
front_more front y (Ok x) = ap (λ v. Ok (v, x.1, x.2)) (sym (append_assoc front (y ∷ []) x.0))
front_more front y (Err e) = refl

-- items in front of no round
pub front_done : {Store A : Type 0} (front : List A) (ts : List Terminal) (st : Store) → with_front front (Ok ([], ts, st)) ≡ Ok (front, ts, st)
front_done front ts st = ap (λ v. Ok (v, ts, st)) (append-nil front)

-- the outcome without its value
abbrev pub without : {Store A : Type 0} → Outcome Store A → Outcome Store (Unit {0})
without outcome = outcome >>= λ x. Ok (tt, x.1, x.2)

dropped : {Store A : Type 0} (y : A) (r : Outcome Store (List A)) → without (with_first y r) ≡ without r
dropped y (Ok x) = refl
dropped y (Err e) = refl

-- the outcome with the items of a list that was there or not
abbrev itemised : {Store A : Type 0} → Outcome Store (Option (A × List A)) → Outcome Store (List A)
itemised outcome = outcome >>= λ x. Ok (items_of x.0, x.1, x.2)

module _ (S : Signature) (rules : (n : S.Name) → Rule S (S.sort_of n)) where
  abbrev pub reads : (levels : ℕ) (s : Sort S.Base) → Rule S s → Reading S.Store (Value S s)
  reads levels s a = read_in (inside S rules levels) a

  short : (levels : ℕ) (s : Sort S.Base) (a : Rule S s) → is_empty a ≡ false → Shortens (reads levels s a)
  short levels s a full ts st x h = shortens S rules levels s a ts st x full h

  -- the three ways that a loop over a rule goes on
  pub many_more : (levels : ℕ) (s : Sort S.Base) (a : Rule S s) (ts : List Terminal) (st : S.Store) (x : Value S s × List Terminal × S.Store)
      → is_empty a ≡ false → starts (first a) ts ≡ true → reads levels s a ts st ≡ Ok x
      → read_in (inside S rules levels) (many a) ts st ≡ with_first x.0 (read_in (inside S rules levels) (many a) x.1 x.2)
  many_more levels s a ts st x full h k = rounds_more (first a) (reads levels s a) (short levels s a full) ts st x h k

  pub many_done : (levels : ℕ) (s : Sort S.Base) (a : Rule S s) (ts : List Terminal) (st : S.Store)
      → starts (first a) ts ≡ false → read_in (inside S rules levels) (many a) ts st ≡ Ok ([], ts, st)
  many_done levels s a ts st h = rounds_done (first a) (reads levels s a) ts st h

  pub many_failed : (levels : ℕ) (s : Sort S.Base) (a : Rule S s) (ts : List Terminal) (st : S.Store) (e : Flaw)
      → starts (first a) ts ≡ true → reads levels s a ts st ≡ Err e → read_in (inside S rules levels) (many a) ts st ≡ Err e
  many_failed levels s a ts st e h k = rounds_failed (first a) (reads levels s a) ts st e h k

  pub skip_more : (levels : ℕ) (s : Sort S.Base) (a : Rule S s) (ts : List Terminal) (st : S.Store) (x : Value S s × List Terminal × S.Store)
      → is_empty a ≡ false → starts (first a) ts ≡ true → reads levels s a ts st ≡ Ok x
      → read_in (inside S rules levels) (gone (many a)) ts st ≡ read_in (inside S rules levels) (gone (many a)) x.1 x.2
  skip_more levels s a ts st x full h k =
      ap without (many_more levels s a ts st x full h k) ∙ dropped x.0 (read_in (inside S rules levels) (many a) x.1 x.2)

  pub skip_done : (levels : ℕ) (s : Sort S.Base) (a : Rule S s) (ts : List Terminal) (st : S.Store)
      → starts (first a) ts ≡ false → read_in (inside S rules levels) (gone (many a)) ts st ≡ Ok (tt, ts, st)
  skip_done levels s a ts st h = ap without (many_done levels s a ts st h)

  pub skip_failed : (levels : ℕ) (s : Sort S.Base) (a : Rule S s) (ts : List Terminal) (st : S.Store) (e : Flaw)
      → starts (first a) ts ≡ true → reads levels s a ts st ≡ Err e → read_in (inside S rules levels) (gone (many a)) ts st ≡ Err e
  skip_failed levels s a ts st e h k = ap without (many_failed levels s a ts st e h k)

  -- what may be absent, where it doesn't begin
  pub optional_none : (levels : ℕ) (s : Sort S.Base) (a : Rule S s) (ts : List Terminal) (st : S.Store)
      → starts (first a) ts ≡ false → read_in (inside S rules levels) (optional a) ts st ≡ Ok (None, ts, st)
  optional_none levels s a ts st h = ap (λ v. cond v (read_in (inside S rules levels) a ts st >>= λ y. Ok (Some y.0, y.1, y.2)) (Ok (None, ts, st))) h

  -- a list with commas, where no item begins
  pub commas_none : (levels : ℕ) (s : Sort S.Base) (a : Rule S s) (b : Rule S (list s)) (ts : List Terminal) (st : S.Store)
      → is_empty a ≡ false → starts (first a) ts ≡ false → read_in {s = list s} (inside S rules levels) (just {s = option (pair s (list s))} {t = list s} items_of (optional (a ⨾ b))) ts st ≡ Ok ([], ts, st)
  commas_none levels s a b ts st full h =
      ap itemised (optional_none levels (pair s (list s)) (a ⨾ b) ts st (ap (λ e. starts (cond e (first a ++ first b) (first a)) ts) full ∙ h))
