-- At a form that isn't taken, reading gives no BadSyntax.
use Rattle.std.proofs.Common.{ℕ, zero, suc, ◌+◌, List, [], ◌∷◌, ◌++◌, length, ◌≤◌, ◌≡◌, refl, sym, ◌∙◌, ap, subst, Bool, true, false, cond, not, ◌&&◌, ◌||◌, ◌⊎◌, inl, inr, Ok, Err, None, Some, arith, append_assoc}
use Rattle.ir_core.specs.declared.faults.Fault.TheVariants.{BadSyntax, Unsupported, TooLarge}
use Rattle.ir_core.specs.declared.faults.Limit.TheVariants.{Nesting}
use Rattle.ir_grammar.specs.declared.kind.Kind.{Kind}
use Rattle.ir_grammar.specs.declared.terminal.Terminal.{Terminal}
use Rattle.ir_grammar.specs.declared.terminal.Flaw.{Flaw}
use Rattle.ir_grammar.specs.Kinds.{is_among, is_apart}
use Rattle.ir_grammar.specs.Rules.{Sort, pair, option, list, Signature, Value, Rule, one, refused, ◌⨾◌, ◌∣◌, optional, many, between, act, Derives, one_token, both, left, right, absent, present, done, again, inner, acted}
use Rattle.ir_grammar.specs.Reading.{◌>>=◌, Outcome, starts, first, is_empty, take, refuse, bad, unsupported, too_deep, read_in, inside}
use Rattle.ir_grammar.specs.Conditions.{begins, ends, has, goes_on, is_clear, IsWellFormed}
use Rattle.ir_grammar.specs.Forms.{IsListedAfter, here, in_first, in_second, in_left, in_right, in_optional, in_round, in_later, in_brackets, in_act}
use Rattle.ir_grammar.proofs.Outcomes.{bind_value}
use Rattle.ir_grammar.proofs.KindSets.{both_true, either_true, not_true, false_of, apart, starts_left, starts_right, starts_neither, starts-append}
use Rattle.ir_grammar.proofs.First.{IsFront, begins_so}
use Rattle.ir_grammar.proofs.Loops.{many_more, many_done, many_failed}
use Rattle.ir_grammar.proofs.Complete.{take_again, begins_first, fronts, again_read}
use Rattle.ir_grammar.proofs.Viable.{weaker}
use Rattle.ir_grammar.proofs.Stuck.{Leaves, leaves_bind, leaves_more, take_within, within, closing}

-- no more than so many tokens are left, or there is a fault other than BadSyntax
abbrev pub Fair : {Store A : Type 0} → ℕ → Outcome Store A → Type 0
Fair n (Ok x) = length x.1 ≤ n
Fair n (Err e) = (e.left ≤ n) ⊎ (e.fault ≡ BadSyntax → ⊥)

pub fair_leaves : {Store A : Type 0} (n : ℕ) (r : Outcome Store A) → Leaves n r → Fair n r
fair_leaves n (Ok x) h = h
fair_leaves n (Err e) h = inl h

fair_bind : {Store A B : Type 0} (n : ℕ) (r : Outcome Store A) (f : A × List Terminal × Store → Outcome Store B)
    → Fair n r → ((x : A × List Terminal × Store) → Leaves (length x.1) (f x)) → Fair n (r >>= f)
fair_bind n (Ok x) f h k = fair_leaves n (f x) (leaves_more (length x.1) n (f x) h (k x))
fair_bind n (Err e) f h k = h

deep_fair : (Store A : Type 0) (n at : ℕ) → Fair {Store = Store} {A = A} n (Err (too_deep at))
deep_fair Store A n at = inr (λ q. cc)

-- the next kind is one of these, if there is a token
abbrev HeadIn : List Kind → List Terminal → Type 0
HeadIn js [] = Unit {0}
HeadIn js (y ∷ ys) = is_among js y.kind ≡ true

head_of_front : (js : List Kind) (e : Bool) (ys : List Terminal) → IsFront js e ys → HeadIn js ys
head_of_front js e [] f = tt
head_of_front js e (y ∷ ys) f = f

-- the tokens begin with one of the second kinds, or are none, and the token after them is of the first
abbrev Meets : List Kind → List Kind → List Terminal → Terminal → Type 0
Meets ks js [] h = is_among ks h.kind ≡ true
Meets ks js (y ∷ ys) h = is_among js y.kind ≡ true

head_of_meets : (ks js : List Kind) (ys : List Terminal) (h : Terminal) → Meets ks js ys h → HeadIn js ys
head_of_meets ks js [] h m = tt
head_of_meets ks js (y ∷ ys) h m = m

meets_left : (ks js ks' js' : List Kind) (xs : List Terminal) (h : Terminal) → Meets ks js xs h → Meets (ks ++ ks') (js ++ js') xs h
meets_left ks js ks' js' [] h m = starts_left ks ks' (h ∷ []) m
meets_left ks js ks' js' (x ∷ xs) h m = starts_left js js' (x ∷ xs) m

meets_right : (ks js ks' js' : List Kind) (xs : List Terminal) (h : Terminal) → Meets ks' js' xs h → Meets (ks ++ ks') (js ++ js') xs h
meets_right ks js ks' js' [] h m = starts_right ks ks' (h ∷ []) m
meets_right ks js ks' js' (x ∷ xs) h m = starts_right js js' (x ∷ xs) m

meets_first : (e : Bool) (ks js ks' js' : List Kind) (xs : List Terminal) (h : Terminal) → Meets ks js xs h → Meets (cond e (ks ++ ks') ks) (cond e (js ++ js') js) xs h
meets_first true ks js ks' js' xs h m = meets_left ks js ks' js' xs h m
meets_first false ks js ks' js' xs h m = m

head_left : (e : Bool) (js js' : List Kind) (x : Terminal) → is_among js x.kind ≡ true → is_among (cond e (js ++ js') js) x.kind ≡ true
head_left true js js' x m = starts_left js js' (x ∷ []) m
head_left false js js' x m = m

meets_second : (e : Bool) (ks js ks' js' : List Kind) (xs ys : List Terminal) (h : Terminal) → IsFront js e xs → Meets ks' js' ys h → Meets (cond e (ks ++ ks') ks) (cond e (js ++ js') js) (xs ++ ys) h
meets_second true ks js ks' js' [] ys h f m = meets_right ks js ks' js' ys h m
meets_second false ks js ks' js' [] ys h f m = absurd (let q : false ≡ true = f in cc)
meets_second e ks js ks' js' (x ∷ xs) ys h f m = head_left e js js' x f

meets_more : (ks js : List Kind) (e : Bool) (xs ys : List Terminal) (h : Terminal) → IsFront js e xs → Meets ks js ys h → Meets ks js (xs ++ ys) h
meets_more ks js e [] ys h f m = m
meets_more ks js e (x ∷ xs) ys h f m = f

module _ (S : Signature) (rules : (n : S.Name) → Rule S (S.sort_of n)) where
  -- a rule that may be empty takes nothing of tokens that it isn't read at
  abbrev Idles : ℕ → (s : Sort S.Base) → Rule S s → List Terminal → S.Store → Type 0
  Idles l s a ts st = (x : Value S s) × (end : S.Store) × (read_in (inside S rules l) a ts st ≡ Ok (x, ts, end))

  idles : (l : ℕ) (s : Sort S.Base) (a : Rule S s) (ts : List Terminal) (st : S.Store) → is_clear S rules s a ≡ true → is_empty a ≡ true → starts (first a) ts ≡ false → Idles l s a ts st
  idles l _ (one ks) ts st c e h = cc
  idles l s (refused ks) ts st c e h = cc
  idles l _ (◌⨾◌ {s = s} {t = t} a b) ts st c e h =
      let (ca, more) = both_true (is_clear S rules s a) (is_clear S rules t b && is_apart (ends a) (begins b)) c in
      let (cb, cab) = both_true (is_clear S rules t b) (is_apart (ends a) (begins b)) more in
      let (ea, eb) = both_true (is_empty a) (is_empty b) e in
      let h' : starts (first a ++ first b) ts ≡ false = subst (λ v. starts (cond v (first a ++ first b) (first a)) ts ≡ false) ea h in
      let (ha, hb) = starts_neither (first a) (first b) ts h' in
      let (x, st', p) = idles l s a ts st ca ea ha in
      let (y, st'', q) = idles l t b ts st' cb eb hb in (
        (x, y),
        st'',
        bind_value (read_in (inside S rules l) a ts st) (λ u. read_in (inside S rules l) b u.1 u.2 >>= λ z. Ok ((u.0, z.0), z.1, z.2)) (x, ts, st') p
            ∙ bind_value (read_in (inside S rules l) b ts st') (λ z. Ok ((x, z.0), z.1, z.2)) (y, ts, st'') q,
      )
  idles l s (a ∣ b) ts st c e h =
      let (ca, more) = both_true (is_clear S rules s a) (is_clear S rules s b && (not (is_empty a) && is_apart (first a) (begins b))) c in
      let (cb, more') = both_true (is_clear S rules s b) (not (is_empty a) && is_apart (first a) (begins b)) more in
      let (ne, cab) = both_true (not (is_empty a)) (is_apart (first a) (begins b)) more' in
      let eb : is_empty b ≡ true = ap (λ v. v || is_empty b) (sym (not_true (is_empty a) ne)) ∙ e in
      let (ha, hb) = starts_neither (first a) (first b) ts h in
      let (x, st', p) = idles l s b ts st cb eb hb in
      (x, st', ap (λ v. cond v (read_in (inside S rules l) a ts st) (read_in (inside S rules l) b ts st)) ha ∙ p)
  idles l _ (optional {s = s} a) ts st c e h =
      (None, st, ap (λ v. cond v (read_in (inside S rules l) a ts st >>= λ y. Ok (Some y.0, y.1, y.2)) (Ok (None, ts, st))) h)
  idles l _ (many {s = s} a) ts st c e h = ([], st, many_done S rules l s a ts st h)
  idles l _ (between k n k') ts st c e h = cc
  idles l _ (act {s = s} f a) ts st c e h =
      let (x, st', p) = idles l s a ts st c e h in
      ((f x st').0, (f x st').1, bind_value (read_in (inside S rules l) a ts st) (λ y. Ok ((f y.0 y.2).0, y.1, (f y.0 y.2).1)) (x, ts, st') p)

  -- a loop whose first round was read fairly
  round_fair : IsWellFormed S rules → (l : ℕ) (s : Sort S.Base) (a : Rule S s) (ts : List Terminal) (st : S.Store) (n : ℕ) → is_empty a ≡ false → goes_on a ≡ true
      → starts (first a) ts ≡ true → (r : Outcome S.Store (Value S s)) → read_in (inside S rules l) a ts st ≡ r → Fair n r → Fair n (read_in {S = S} {s = list s} (inside S rules l) (many a) ts st)
  round_fair wf l s a ts st n full g h (Ok x) e k =
      subst (λ v. Fair n v) (sym (many_more S rules l s a ts st x full h e))
      (fair_leaves n (read_in {S = S} {s = list s} (inside S rules l) (many a) x.1 x.2 >>= λ z. Ok (x.0 ∷ z.0, z.1, z.2))
      (leaves_bind n (read_in {S = S} {s = list s} (inside S rules l) (many a) x.1 x.2) (λ z. Ok (x.0 ∷ z.0, z.1, z.2))
      (leaves_more (length x.1) n (read_in {S = S} {s = list s} (inside S rules l) (many a) x.1 x.2) k (within S rules wf l (list s) (many a) x.1 x.2 g)) (λ z q. q)))
  round_fair wf l s a ts st n full g h (Err d) e k = subst (λ v. Fair n v) (sym (many_failed S rules l s a ts st d h e)) k

  -- behind a first part
  then_fair : IsWellFormed S rules → (l : ℕ) (s t : Sort S.Base) (a : Rule S s) (b : Rule S t) (ts : List Terminal) (st : S.Store) (n : ℕ) → goes_on b ≡ true
      → Fair n (read_in (inside S rules l) a ts st) → Fair n (read_in {S = S} {s = pair s t} (inside S rules l) (a ⨾ b) ts st)
  then_fair wf l s t a b ts st n g h =
      fair_bind n (read_in (inside S rules l) a ts st) (λ u. read_in (inside S rules l) b u.1 u.2 >>= λ z. Ok ((u.0, z.0), z.1, z.2)) h
      (λ u. leaves_bind (length u.1) (read_in (inside S rules l) b u.1 u.2) (λ z. Ok ((u.0, z.0), z.1, z.2)) (within S rules wf l t b u.1 u.2 g) (λ z q. q))

  -- a second part, after a first that was read to its end
  second_fair : (l : ℕ) (s t : Sort S.Base) (a : Rule S s) (b : Rule S t) (ts mid : List Terminal) (st st' : S.Store) (x : Value S s) (n : ℕ) → read_in (inside S rules l) a ts st ≡ Ok (x, mid, st')
      → Fair n (read_in (inside S rules l) b mid st') → Fair n (read_in {S = S} {s = pair s t} (inside S rules l) (a ⨾ b) ts st)
  second_fair l s t a b ts mid st st' x n e h =
      subst (λ v. Fair n v) (sym (bind_value (read_in (inside S rules l) a ts st) (λ u. read_in (inside S rules l) b u.1 u.2 >>= λ z. Ok ((u.0, z.0), z.1, z.2)) (x, mid, st') e))
      (fair_bind n (read_in (inside S rules l) b mid st') (λ z. Ok ((x, z.0), z.1, z.2)) h (λ z. omega arith))

  -- what stands between brackets, behind the first
  inside_fair : IsWellFormed S rules → (l : ℕ) (k k' : Kind) (n : S.Name) (h : Terminal) (rest : List Terminal) (st : S.Store) → is_among (k ∷ []) h.kind ≡ true
      → Fair (length rest) (read_in {S = S} {s = S.sort_of n} (inside S rules l) (between k n k') (h ∷ rest) st)
  inside_fair wf zero k k' n h rest st kh =
      subst (λ v. Fair (length rest) v)
      (sym (bind_value (take (k ∷ []) (h ∷ rest) st) (λ u. inside S rules zero n (length (h ∷ rest)) u.1 u.2 >>= λ y. take (k' ∷ []) y.1 y.2 >>= λ z. Ok (y.0, z.1, z.2)) (h, rest, st) (take_again (k ∷ []) h rest st kh)))
      (deep_fair S.Store (Value S (S.sort_of n)) (length rest) (length (h ∷ rest)))
  inside_fair wf (suc l) k k' n h rest st kh =
      subst (λ v. Fair (length rest) v)
      (sym (bind_value (take (k ∷ []) (h ∷ rest) st) (λ u. read_in (inside S rules l) (rules n) u.1 u.2 >>= λ y. take (k' ∷ []) y.1 y.2 >>= λ z. Ok (y.0, z.1, z.2)) (h, rest, st) (take_again (k ∷ []) h rest st kh)))
      (fair_leaves (length rest) (read_in (inside S rules l) (rules n) rest st >>= λ y. take (k' ∷ []) y.1 y.2 >>= λ z. Ok (y.0, z.1, z.2))
      (closing S rules l k' n rest st (length rest) (within S rules wf l (S.sort_of n) (rules n) rest st (wf.completed n))))

  refused_fair : (s : Sort S.Base) (ks : List Kind) (h : Terminal) (rest : List Terminal) (st : S.Store) (n : ℕ) → is_among ks h.kind ≡ true
      → Fair {Store = S.Store} {A = Value S s} n (refuse ks (h ∷ rest) st)
  refused_fair s ks h rest st n k =
      subst (λ v. Fair {Store = S.Store} {A = Value S s} n (cond v (Err (unsupported (h ∷ rest))) (Err (bad (h ∷ rest))))) (sym k) (inr (λ q. cc))

  -- two parts, read at a kind of the first ones of either
  both_entered : IsWellFormed S rules → (l : ℕ) (s t : Sort S.Base) (a : Rule S s) (b : Rule S t) (h : Terminal) (rest : List Terminal) (st : S.Store) → is_clear S rules s a ≡ true → goes_on b ≡ true
      → (starts (first a) (h ∷ rest) ≡ true → Fair (length rest) (read_in (inside S rules l) a (h ∷ rest) st))
      → (starts (first b) (h ∷ rest) ≡ true → (st' : S.Store) → Fair (length rest) (read_in (inside S rules l) b (h ∷ rest) st'))
      → (v w : Bool) → starts (first a) (h ∷ rest) ≡ v → is_empty a ≡ w → starts (cond w (first a ++ first b) (first a)) (h ∷ rest) ≡ true
      → Fair (length rest) (read_in {S = S} {s = pair s t} (inside S rules l) (a ⨾ b) (h ∷ rest) st)
  both_entered wf l s t a b h rest st ca gb on_a on_b true w p e k = then_fair wf l s t a b (h ∷ rest) st (length rest) gb (on_a p)
  both_entered wf l s t a b h rest st ca gb on_a on_b false true p e k =
      let q : starts (first b) (h ∷ rest) ≡ true = sym (starts-append (first a) (first b) (h ∷ rest) ∙ ap (λ v. v || starts (first b) (h ∷ rest)) p) ∙ k in
      let (x, st', r) = idles l s a (h ∷ rest) st ca e p in
      second_fair l s t a b (h ∷ rest) (h ∷ rest) st st' x (length rest) r (on_b q st')
  both_entered wf l s t a b h rest st ca gb on_a on_b false false p e k = let z : false ≡ true = sym p ∙ k in cc

  -- one of two, read at a kind of the first ones of either
  either_entered : (l : ℕ) (s : Sort S.Base) (a b : Rule S s) (ts : List Terminal) (st : S.Store) (n : ℕ)
      → (starts (first a) ts ≡ true → Fair n (read_in (inside S rules l) a ts st)) → (starts (first a) ts ≡ false → Fair n (read_in (inside S rules l) b ts st))
      → (v : Bool) → starts (first a) ts ≡ v → Fair n (read_in {S = S} {s = s} (inside S rules l) (a ∣ b) ts st)
  either_entered l s a b ts st n on_a on_b true p =
      subst (λ v. Fair n (cond v (read_in (inside S rules l) a ts st) (read_in (inside S rules l) b ts st))) (sym p) (on_a p)
  either_entered l s a b ts st n on_a on_b false p =
      subst (λ v. Fair n (cond v (read_in (inside S rules l) a ts st) (read_in (inside S rules l) b ts st))) (sym p) (on_b p)

  -- what may be absent, where it begins
  optional_fair : (l : ℕ) (s : Sort S.Base) (a : Rule S s) (ts : List Terminal) (st : S.Store) (n : ℕ) → starts (first a) ts ≡ true
      → Fair n (read_in (inside S rules l) a ts st) → Fair n (read_in {S = S} {s = option s} (inside S rules l) (optional a) ts st)
  optional_fair l s a ts st n k h =
      subst (λ v. Fair n (cond v (read_in (inside S rules l) a ts st >>= λ y. Ok (Some y.0, y.1, y.2)) (Ok (None, ts, st)))) (sym k)
      (fair_bind n (read_in (inside S rules l) a ts st) (λ y. Ok (Some y.0, y.1, y.2)) h (λ y. omega arith))

  act_fair : (l : ℕ) (s t : Sort S.Base) (f : Value S s → S.Store → Value S t × S.Store) (a : Rule S s) (ts : List Terminal) (st : S.Store) (n : ℕ)
      → Fair n (read_in (inside S rules l) a ts st) → Fair n (read_in {S = S} {s = t} (inside S rules l) (act f a) ts st)
  act_fair l s t f a ts st n h = fair_bind n (read_in (inside S rules l) a ts st) (λ y. Ok ((f y.0 y.2).0, y.1, (f y.0 y.2).1)) h (λ y. omega arith)

  second_starts : (ks js : List Kind) (ts : List Terminal) → starts (ks ++ js) ts ≡ true → starts ks ts ≡ false → starts js ts ≡ true
  second_starts ks js ts h p = sym (starts-append ks js ts ∙ ap (λ v. v || starts js ts) p) ∙ h

  -- a rule that is read at a kind of its first ones gives no BadSyntax at that token
  pub entered : IsWellFormed S rules → (l : ℕ) (s : Sort S.Base) (a : Rule S s) (h : Terminal) (rest : List Terminal) (st : S.Store)
      → is_clear S rules s a ≡ true → goes_on a ≡ true → starts (first a) (h ∷ rest) ≡ true → Fair (length rest) (read_in (inside S rules l) a (h ∷ rest) st)
  entered wf l _ (one ks) h rest st c g k = subst (λ v. Fair (length rest) v) (sym (take_again ks h rest st k)) (omega arith)
  entered wf l s (refused ks) h rest st c g k = refused_fair s ks h rest st (length rest) k
  entered wf l _ (◌⨾◌ {s = s} {t = t} a b) h rest st c g k =
      let (ca, more) = both_true (is_clear S rules s a) (is_clear S rules t b && is_apart (ends a) (begins b)) c in
      let (cb, cab) = both_true (is_clear S rules t b) (is_apart (ends a) (begins b)) more in
      let (ga, g') = both_true (goes_on a) (goes_on b && has true b) g in
      let (gb, hb) = both_true (goes_on b) (has true b) g' in
      both_entered wf l s t a b h rest st ca gb (λ p. entered wf l s a h rest st ca ga p) (λ p st'. entered wf l t b h rest st' cb gb p)
      (starts (first a) (h ∷ rest)) (is_empty a) refl refl k
  entered wf l s (a ∣ b) h rest st c g k =
      let (ca, more) = both_true (is_clear S rules s a) (is_clear S rules s b && (not (is_empty a) && is_apart (first a) (begins b))) c in
      let (cb, more') = both_true (is_clear S rules s b) (not (is_empty a) && is_apart (first a) (begins b)) more in
      let (ga, gb) = both_true (goes_on a) (goes_on b) g in
      either_entered l s a b (h ∷ rest) st (length rest) (λ p. entered wf l s a h rest st ca ga p) (λ p. entered wf l s b h rest st cb gb (second_starts (first a) (first b) (h ∷ rest) k p))
      (starts (first a) (h ∷ rest)) refl
  entered wf l _ (optional {s = s} a) h rest st c g k =
      let (ca, ne) = both_true (is_clear S rules s a) (not (is_empty a)) c in
      optional_fair l s a (h ∷ rest) st (length rest) k (entered wf l s a h rest st ca g k)
  entered wf l _ (many {s = s} a) h rest st c g k =
      let (ca, more) = both_true (is_clear S rules s a) (not (is_empty a) && is_apart (ends a) (begins a)) c in
      let (ne, caa) = both_true (not (is_empty a)) (is_apart (ends a) (begins a)) more in
      round_fair wf l s a (h ∷ rest) st (length rest) (not_true (is_empty a) ne) g k (read_in (inside S rules l) a (h ∷ rest) st) refl (entered wf l s a h rest st ca g k)
  entered wf l _ (between k n k') h rest st c g q = inside_fair wf l k k' n h rest st q
  entered wf l _ (act {s = s} {t = t} f a) h rest st c g k = act_fair l s t f a (h ∷ rest) st (length rest) (entered wf l s a h rest st c g k)

  -- what a derivation comes to, with another token after it: it is read and nothing more, or read past the token, or with a
  -- fault other than BadSyntax
  abbrev Outlives : ℕ → (s : Sort S.Base) → Rule S s → List Terminal → List Terminal → S.Store → Value S s → S.Store → ℕ → Type 0
  Outlives l s a ts rest st x end n = Fair n (read_in (inside S rules l) a ts st) ⊎ (read_in (inside S rules l) a ts st ≡ Ok (x, rest, end))

  -- the same where more tokens stand between, which the rule doesn't go on with
  gate : IsWellFormed S rules → (l : ℕ) (s : Sort S.Base) (a : Rule S s) (xs : List Terminal) (st : S.Store) (x : Value S s) (end : S.Store) → Derives S rules l s a xs st x end → is_clear S rules s a ≡ true
      → (js : List Kind) → is_apart (ends a) js ≡ true → (ys : List Terminal) → HeadIn js ys → (h : Terminal) (rest : List Terminal) → Outlives l s a (xs ++ h ∷ rest) (h ∷ rest) st x end (length rest)
      → Outlives l s a (xs ++ (ys ++ h ∷ rest)) (ys ++ h ∷ rest) st x end (length rest)
  gate wf l s a xs st x end d c js ap [] head h rest on_h = on_h
  gate wf l s a xs st x end d c js ap (y ∷ ys) head h rest on_h =
      inr (again_read S rules wf l s a xs st x end d c (y ∷ (ys ++ h ∷ rest)) (false_of (is_among (ends a) y.kind) (λ p. apart (ends a) js y.kind ap p head)))

  -- two parts, the first of which is derived
  then_outlives : IsWellFormed S rules → (l : ℕ) (s t : Sort S.Base) (a : Rule S s) (b : Rule S t) (ts mid : List Terminal) (st st' : S.Store) (x : Value S s) (n : ℕ) → goes_on b ≡ true
      → Outlives l s a ts mid st x st' n → Fair n (read_in (inside S rules l) b mid st') → Fair n (read_in {S = S} {s = pair s t} (inside S rules l) (a ⨾ b) ts st)
  then_outlives wf l s t a b ts mid st st' x n g (inl w) h = then_fair wf l s t a b ts st n g w
  then_outlives wf l s t a b ts mid st st' x n g (inr w) h = second_fair l s t a b ts mid st st' x n w h

  both_outlive : IsWellFormed S rules → (l : ℕ) (s t : Sort S.Base) (a : Rule S s) (b : Rule S t) (ts mid rest : List Terminal) (st st' st'' : S.Store) (x : Value S s) (y : Value S t) (n : ℕ) → goes_on b ≡ true
      → Outlives l s a ts mid st x st' n → Outlives l t b mid rest st' y st'' n → Outlives l (pair s t) (a ⨾ b) ts rest st (x, y) st'' n
  both_outlive wf l s t a b ts mid rest st st' st'' x y n g (inl w) v = inl (then_fair wf l s t a b ts st n g w)
  both_outlive wf l s t a b ts mid rest st st' st'' x y n g (inr w) (inl v) = inl (second_fair l s t a b ts mid st st' x n w v)
  both_outlive wf l s t a b ts mid rest st st' st'' x y n g (inr w) (inr v) =
      inr (bind_value (read_in (inside S rules l) a ts st) (λ u. read_in (inside S rules l) b u.1 u.2 >>= λ z. Ok ((u.0, z.0), z.1, z.2)) (x, mid, st') w
      ∙ bind_value (read_in (inside S rules l) b mid st') (λ z. Ok ((x, z.0), z.1, z.2)) (y, rest, st'') v)

  -- rounds, the first of which is derived
  rounds_outlive : IsWellFormed S rules → (l : ℕ) (s : Sort S.Base) (a : Rule S s) (ts mid rest : List Terminal) (st st' st'' : S.Store) (x : Value S s) (xs : List (Value S s)) (n : ℕ) → is_empty a ≡ false → goes_on a ≡ true
      → starts (first a) ts ≡ true → Outlives l s a ts mid st x st' n → Outlives l (list s) (many a) mid rest st' xs st'' n → Outlives l (list s) (many a) ts rest st (x ∷ xs) st'' n
  rounds_outlive wf l s a ts mid rest st st' st'' x xs n full g k (inl w) v = inl (round_fair wf l s a ts st n full g k (read_in (inside S rules l) a ts st) refl w)
  rounds_outlive wf l s a ts mid rest st st' st'' x xs n full g k (inr w) (inl v) =
      inl (subst (λ r. Fair n r) (sym (many_more S rules l s a ts st (x, mid, st') full k w))
      (fair_bind n (read_in {S = S} {s = list s} (inside S rules l) (many a) mid st') (λ z. Ok (x ∷ z.0, z.1, z.2)) v (λ z. omega arith)))
  rounds_outlive wf l s a ts mid rest st st' st'' x xs n full g k (inr w) (inr v) =
      inr (many_more S rules l s a ts st (x, mid, st') full k w ∙ ap (λ r. r >>= λ z. Ok (x ∷ z.0, z.1, z.2)) v)

  -- the second of two, derived of tokens that the first doesn't begin with
  right_outlives : IsWellFormed S rules → (l : ℕ) (s : Sort S.Base) (a b : Rule S s) (xs : List Terminal) (st : S.Store) (x : Value S s) (end : S.Store) (h : Terminal) (rest : List Terminal) → is_clear S rules s a ≡ true → goes_on a ≡ true
      → is_apart (first a) (begins b) ≡ true → HeadIn (begins b) xs → Outlives l s b (xs ++ h ∷ rest) (h ∷ rest) st x end (length rest)
      → (v : Bool) → starts (first a) (xs ++ h ∷ rest) ≡ v → Outlives l s (a ∣ b) (xs ++ h ∷ rest) (h ∷ rest) st x end (length rest)
  right_outlives wf l s a b [] st x end h rest ca ga cab head on_b true p =
      inl (subst (λ v. Fair (length rest) (cond v (read_in (inside S rules l) a (h ∷ rest) st) (read_in (inside S rules l) b (h ∷ rest) st))) (sym p) (entered wf l s a h rest st ca ga p))
  right_outlives wf l s a b (x' ∷ xs) st x end h rest ca ga cab head on_b true p = absurd (apart (first a) (begins b) x'.kind cab p head)
  right_outlives wf l s a b xs st x end h rest ca ga cab head (inl w) false p =
      inl (subst (λ v. Fair (length rest) (cond v (read_in (inside S rules l) a (xs ++ h ∷ rest) st) (read_in (inside S rules l) b (xs ++ h ∷ rest) st))) (sym p) w)
  right_outlives wf l s a b xs st x end h rest ca ga cab head (inr w) false p =
      inr (ap (λ v. cond v (read_in (inside S rules l) a (xs ++ h ∷ rest) st) (read_in (inside S rules l) b (xs ++ h ∷ rest) st)) p ∙ w)

  -- nothing derived, before a token
  absent_outlives : IsWellFormed S rules → (l : ℕ) (s : Sort S.Base) (a : Rule S s) (st : S.Store) (h : Terminal) (rest : List Terminal) → is_clear S rules (option s) (optional a) ≡ true → goes_on a ≡ true
      → (v : Bool) → starts (first a) (h ∷ rest) ≡ v → Outlives l (option s) (optional a) (h ∷ rest) (h ∷ rest) st None st (length rest)
  absent_outlives wf l s a st h rest c g true p = inl (entered wf l (option s) (optional a) h rest st c g p)
  absent_outlives wf l s a st h rest c g false p =
      inr (ap (λ v. cond v (read_in (inside S rules l) a (h ∷ rest) st >>= λ y. Ok (Some y.0, y.1, y.2)) (Ok (None, h ∷ rest, st))) p)

  done_outlives : IsWellFormed S rules → (l : ℕ) (s : Sort S.Base) (a : Rule S s) (st : S.Store) (h : Terminal) (rest : List Terminal) → is_clear S rules (list s) (many a) ≡ true → goes_on a ≡ true
      → (v : Bool) → starts (first a) (h ∷ rest) ≡ v → Outlives l (list s) (many a) (h ∷ rest) (h ∷ rest) st [] st (length rest)
  done_outlives wf l s a st h rest c g true p = inl (entered wf l (list s) (many a) h rest st c g p)
  done_outlives wf l s a st h rest c g false p = inr (many_done S rules l s a (h ∷ rest) st p)

  -- the outcome behind a step that changes the value alone
  left_outlives : (l : ℕ) (s : Sort S.Base) (a b : Rule S s) (ts rest : List Terminal) (st : S.Store) (x : Value S s) (end : S.Store) (n : ℕ) → starts (first a) ts ≡ true
      → Outlives l s a ts rest st x end n → Outlives l s (a ∣ b) ts rest st x end n
  left_outlives l s a b ts rest st x end n k (inl w) = inl (subst (λ v. Fair n (cond v (read_in (inside S rules l) a ts st) (read_in (inside S rules l) b ts st))) (sym k) w)
  left_outlives l s a b ts rest st x end n k (inr w) = inr (ap (λ v. cond v (read_in (inside S rules l) a ts st) (read_in (inside S rules l) b ts st)) k ∙ w)

  present_outlives : (l : ℕ) (s : Sort S.Base) (a : Rule S s) (ts rest : List Terminal) (st : S.Store) (x : Value S s) (end : S.Store) (n : ℕ) → starts (first a) ts ≡ true
      → Outlives l s a ts rest st x end n → Outlives l (option s) (optional a) ts rest st (Some x) end n
  present_outlives l s a ts rest st x end n k (inl w) = inl (optional_fair l s a ts st n k w)
  present_outlives l s a ts rest st x end n k (inr w) =
      inr (ap (λ v. cond v (read_in (inside S rules l) a ts st >>= λ y. Ok (Some y.0, y.1, y.2)) (Ok (None, ts, st))) k
      ∙ bind_value (read_in (inside S rules l) a ts st) (λ y. Ok (Some y.0, y.1, y.2)) (x, rest, end) w)

  act_outlives : (l : ℕ) (s t : Sort S.Base) (f : Value S s → S.Store → Value S t × S.Store) (a : Rule S s) (ts rest : List Terminal) (st : S.Store) (x : Value S s) (end : S.Store) (n : ℕ)
      → Outlives l s a ts rest st x end n → Outlives l t (act f a) ts rest st (f x end).0 (f x end).1 n
  act_outlives l s t f a ts rest st x end n (inl w) = inl (act_fair l s t f a ts st n w)
  act_outlives l s t f a ts rest st x end n (inr w) =
      inr (bind_value (read_in (inside S rules l) a ts st) (λ y. Ok ((f y.0 y.2).0, y.1, (f y.0 y.2).1)) (x, rest, end) w)

  -- whatever token follows a derivation, it is no BadSyntax of the rule
  outlives : IsWellFormed S rules → (l : ℕ) (s : Sort S.Base) (a : Rule S s) (xs : List Terminal) (st : S.Store) (x : Value S s) (end : S.Store) → Derives S rules l s a xs st x end
      → is_clear S rules s a ≡ true → goes_on a ≡ true → (h : Terminal) (rest : List Terminal) → Outlives l s a (xs ++ h ∷ rest) (h ∷ rest) st x end (length rest)
  outlives wf l _ _ _ st _ _ (one_token {ks = ks} t k) c g h rest = inr (take_again ks t (h ∷ rest) st k)
  outlives wf l _ _ _ st _ end (both {s = s} {t = t} {a = a} {b = b} {xs = xs} {ys = ys} {st' = st'} {x = x} {y = y} p q) c g h rest =
      let (ca, more) = both_true (is_clear S rules s a) (is_clear S rules t b && is_apart (ends a) (begins b)) c in
      let (cb, cab) = both_true (is_clear S rules t b) (is_apart (ends a) (begins b)) more in
      let (ga, g') = both_true (goes_on a) (goes_on b && has true b) g in
      let (gb, hb) = both_true (goes_on b) (has true b) g' in
      subst (λ v. Outlives l (pair s t) (a ⨾ b) v (h ∷ rest) st (x, y) end (length rest)) (sym (append_assoc xs ys (h ∷ rest)))
      (both_outlive wf l s t a b (xs ++ (ys ++ h ∷ rest)) (ys ++ h ∷ rest) (h ∷ rest) st st' end x y (length rest) gb
      (gate wf l s a xs st x st' p ca (begins b) cab ys (head_of_front (begins b) (is_empty b) ys (begins_so S rules l t b ys st' y end q)) h rest (outlives wf l s a xs st x st' p ca ga h rest))
      (outlives wf l t b ys st' y end q cb gb h rest))
  outlives wf l s _ xs st x end (left {a = a} {b = b} p) c g h rest =
      let (ca, more) = both_true (is_clear S rules s a) (is_clear S rules s b && (not (is_empty a) && is_apart (first a) (begins b))) c in
      let (cb, more') = both_true (is_clear S rules s b) (not (is_empty a) && is_apart (first a) (begins b)) more in
      let (ne, cab) = both_true (not (is_empty a)) (is_apart (first a) (begins b)) more' in
      let (ga, gb) = both_true (goes_on a) (goes_on b) g in
      left_outlives l s a b (xs ++ h ∷ rest) (h ∷ rest) st x end (length rest)
      (begins_first S s a (xs ++ h ∷ rest) (fronts (begins a) (is_empty a) xs (h ∷ rest) (not_true (is_empty a) ne) (begins_so S rules l s a xs st x end p)))
      (outlives wf l s a xs st x end p ca ga h rest)
  outlives wf l s _ xs st x end (right {a = a} {b = b} p) c g h rest =
      let (ca, more) = both_true (is_clear S rules s a) (is_clear S rules s b && (not (is_empty a) && is_apart (first a) (begins b))) c in
      let (cb, more') = both_true (is_clear S rules s b) (not (is_empty a) && is_apart (first a) (begins b)) more in
      let (ne, cab) = both_true (not (is_empty a)) (is_apart (first a) (begins b)) more' in
      let (ga, gb) = both_true (goes_on a) (goes_on b) g in
      right_outlives wf l s a b xs st x end h rest ca ga cab (head_of_front (begins b) (is_empty b) xs (begins_so S rules l s b xs st x end p)) (outlives wf l s b xs st x end p cb gb h rest)
      (starts (first a) (xs ++ h ∷ rest)) refl
  outlives wf l _ _ _ st _ _ (absent {s = s} {a = a}) c g h rest = absent_outlives wf l s a st h rest c g (starts (first a) (h ∷ rest)) refl
  outlives wf l _ _ xs st _ end (present {s = s} {a = a} {x = x} p) c g h rest =
      let (ca, ne) = both_true (is_clear S rules s a) (not (is_empty a)) c in
      present_outlives l s a (xs ++ h ∷ rest) (h ∷ rest) st x end (length rest)
      (begins_first S s a (xs ++ h ∷ rest) (fronts (begins a) (is_empty a) xs (h ∷ rest) (not_true (is_empty a) ne) (begins_so S rules l s a xs st x end p)))
      (outlives wf l s a xs st x end p ca g h rest)
  outlives wf l _ _ _ st _ _ (done {s = s} {a = a}) c g h rest = done_outlives wf l s a st h rest c g (starts (first a) (h ∷ rest)) refl
  outlives wf l _ _ _ st _ end (again {s = s} {a = a} {xs = xs} {ys = ys} {st' = st'} {x = x} {rest = values} p q) c g h rest =
      let (ca, more) = both_true (is_clear S rules s a) (not (is_empty a) && is_apart (ends a) (begins a)) c in
      let (ne, caa) = both_true (not (is_empty a)) (is_apart (ends a) (begins a)) more in
      let full : is_empty a ≡ false = not_true (is_empty a) ne in
      subst (λ v. Outlives l (list s) (many a) v (h ∷ rest) st (x ∷ values) end (length rest)) (sym (append_assoc xs ys (h ∷ rest)))
      (rounds_outlive wf l s a (xs ++ (ys ++ h ∷ rest)) (ys ++ h ∷ rest) (h ∷ rest) st st' end x values (length rest) full g
      (begins_first S s a (xs ++ (ys ++ h ∷ rest)) (fronts (begins a) (is_empty a) xs (ys ++ h ∷ rest) full (begins_so S rules l s a xs st x st' p)))
      (gate wf l s a xs st x st' p ca (begins a) caa ys (head_of_front (begins a) true ys (begins_so S rules l (list s) (many a) ys st' values end q)) h rest (outlives wf l s a xs st x st' p ca g h rest))
      (outlives wf l (list s) (many a) ys st' values end q c g h rest))
  outlives wf _ _ _ _ st x end (inner {l = l} {k = k} {k' = k'} {n = n} {xs = xs} o t ko p kt) c g h rest =
      inr (again_read S rules wf (suc l) (S.sort_of n) (between k n k') (o ∷ (xs ++ t ∷ [])) st x end (inner {l = l} {k = k} {k' = k'} {n = n} {xs = xs} o t ko p kt) c (h ∷ rest) refl)
  outlives wf l _ _ xs st _ _ (acted {s = s} {t = t} {f = f} {a = a} {st' = st'} {x = x} p) c g h rest =
      act_outlives l s t f a (xs ++ h ∷ rest) (h ∷ rest) st x st' (length rest) (outlives wf l s a xs st x st' p c g h rest)

  -- what stands before a listed form
  meets : (s : Sort S.Base) (a : Rule S s) (xs : List Terminal) (st : S.Store) (h : Terminal) → IsListedAfter S rules s a xs st h → Meets (first a) (begins a) xs h
  meets s _ _ st h (here _ k) = k
  meets _ _ xs st h (in_first {s = s} {a = a} {b = b} d) = meets_first (is_empty a) (first a) (begins a) (first b) (begins b) xs h (meets s a xs st h d)
  meets _ _ _ st h (in_second {l = l} {s = s} {t = t} {a = a} {b = b} {xs = xs} {ys = ys} {st' = st'} {x = x} p d) =
      meets_second (is_empty a) (first a) (begins a) (first b) (begins b) xs ys h (begins_so S rules l s a xs st x st' p) (meets t b ys st' h d)
  meets s _ xs st h (in_left {a = a} {b = b} d) = meets_left (first a) (begins a) (first b) (begins b) xs h (meets s a xs st h d)
  meets s _ xs st h (in_right {a = a} {b = b} d) = meets_right (first a) (begins a) (first b) (begins b) xs h (meets s b xs st h d)
  meets _ _ xs st h (in_optional {s = s} {a = a} d) = meets s a xs st h d
  meets _ _ xs st h (in_round {s = s} {a = a} d) = meets s a xs st h d
  meets _ _ _ st h (in_later {l = l} {s = s} {a = a} {xs = xs} {ys = ys} {st' = st'} {x = x} p d) =
      meets_more (first a) (begins a) (is_empty a) xs ys h (begins_so S rules l s a xs st x st' p) (meets (list s) (many a) ys st' h d)
  meets _ _ _ st h (in_brackets o ko d) = ko
  meets _ _ xs st h (in_act {s = s} {a = a} d) = meets s a xs st h d

  meets_starts : (s : Sort S.Base) (a : Rule S s) (xs : List Terminal) (h : Terminal) (rest : List Terminal) → Meets (first a) (begins a) xs h → starts (first a) (xs ++ h ∷ rest) ≡ true
  meets_starts s a [] h rest m = m
  meets_starts s a (x ∷ xs) h rest m = begins_first S s a (x ∷ (xs ++ h ∷ rest)) m

  -- the second of two, at a listed form of it
  right_fair : IsWellFormed S rules → (l : ℕ) (s : Sort S.Base) (a b : Rule S s) (xs : List Terminal) (st : S.Store) (h : Terminal) (rest : List Terminal) → is_clear S rules s a ≡ true → goes_on a ≡ true
      → is_apart (first a) (begins b) ≡ true → HeadIn (begins b) xs → Fair (length rest) (read_in (inside S rules l) b (xs ++ h ∷ rest) st)
      → (v : Bool) → starts (first a) (xs ++ h ∷ rest) ≡ v → Fair (length rest) (read_in {S = S} {s = s} (inside S rules l) (a ∣ b) (xs ++ h ∷ rest) st)
  right_fair wf l s a b [] st h rest ca ga cab head on_b true p =
      subst (λ v. Fair (length rest) (cond v (read_in (inside S rules l) a (h ∷ rest) st) (read_in (inside S rules l) b (h ∷ rest) st))) (sym p) (entered wf l s a h rest st ca ga p)
  right_fair wf l s a b (x ∷ xs) st h rest ca ga cab head on_b true p = absurd (apart (first a) (begins b) x.kind cab p head)
  right_fair wf l s a b xs st h rest ca ga cab head w false p =
      subst (λ v. Fair (length rest) (cond v (read_in (inside S rules l) a (xs ++ h ∷ rest) st) (read_in (inside S rules l) b (xs ++ h ∷ rest) st))) (sym p) w

  -- rounds, the first of which is derived, at a listed form of a later one
  rounds_fair : IsWellFormed S rules → (l : ℕ) (s : Sort S.Base) (a : Rule S s) (ts mid : List Terminal) (st st' : S.Store) (x : Value S s) (n : ℕ) → is_empty a ≡ false → goes_on a ≡ true
      → starts (first a) ts ≡ true → Outlives l s a ts mid st x st' n → Fair n (read_in {S = S} {s = list s} (inside S rules l) (many a) mid st') → Fair n (read_in {S = S} {s = list s} (inside S rules l) (many a) ts st)
  rounds_fair wf l s a ts mid st st' x n full g k (inl w) v = round_fair wf l s a ts st n full g k (read_in (inside S rules l) a ts st) refl w
  rounds_fair wf l s a ts mid st st' x n full g k (inr w) v =
      subst (λ r. Fair n r) (sym (many_more S rules l s a ts st (x, mid, st') full k w))
      (fair_bind n (read_in {S = S} {s = list s} (inside S rules l) (many a) mid st') (λ z. Ok (x ∷ z.0, z.1, z.2)) v (λ z. omega arith))

  -- inside brackets, at a listed form
  brackets_fair : (l m : ℕ) (k k' : Kind) (n : S.Name) (o : Terminal) (xs : List Terminal) (st : S.Store) (h : Terminal) (rest : List Terminal) → is_among (k ∷ []) o.kind ≡ true → suc m ≤ l
      → ((i : ℕ) → m ≤ i → Fair (length rest) (read_in (inside S rules i) (rules n) (xs ++ h ∷ rest) st)) → Fair (length rest) (read_in {S = S} {s = S.sort_of n} (inside S rules l) (between k n k') (o ∷ (xs ++ h ∷ rest)) st)
  brackets_fair zero m k k' n o xs st h rest ko le f = absurd (omega arith)
  brackets_fair (suc l) m k k' n o xs st h rest ko le f =
      subst (λ v. Fair (length rest) v)
      (sym (bind_value (take (k ∷ []) (o ∷ (xs ++ h ∷ rest)) st) (λ u. read_in (inside S rules l) (rules n) u.1 u.2 >>= λ y. take (k' ∷ []) y.1 y.2 >>= λ z. Ok (y.0, z.1, z.2))
      (o, xs ++ h ∷ rest, st) (take_again (k ∷ []) o (xs ++ h ∷ rest) st ko)))
      (fair_bind (length rest) (read_in (inside S rules l) (rules n) (xs ++ h ∷ rest) st) (λ y. take (k' ∷ []) y.1 y.2 >>= λ z. Ok (y.0, z.1, z.2)) (f l (omega arith))
      (λ y. leaves_bind (length y.1) (take (k' ∷ []) y.1 y.2) (λ z. Ok (y.0, z.1, z.2)) (take_within (k' ∷ []) y.1 y.2) (λ z q. q)))

  -- with levels enough, reading at a listed form is fair
  abbrev FairAt : (s : Sort S.Base) → Rule S s → List Terminal → S.Store → Terminal → Type 0
  FairAt s a xs st h = (n : ℕ) × ((l : ℕ) → n ≤ l → (rest : List Terminal) → Fair (length rest) (read_in (inside S rules l) a (xs ++ h ∷ rest) st))

  pub listed_fair : IsWellFormed S rules → (s : Sort S.Base) (a : Rule S s) (xs : List Terminal) (st : S.Store) (h : Terminal) → IsListedAfter S rules s a xs st h
      → is_clear S rules s a ≡ true → goes_on a ≡ true → FairAt s a xs st h
  listed_fair wf s _ _ st h (here {ks = ks} _ k) c g = (0, λ l le rest. refused_fair s ks h rest st (length rest) k)
  listed_fair wf _ _ xs st h (in_first {s = s} {t = t} {a = a} {b = b} d) c g =
      let (ca, more) = both_true (is_clear S rules s a) (is_clear S rules t b && is_apart (ends a) (begins b)) c in
      let (ga, g') = both_true (goes_on a) (goes_on b && has true b) g in
      let (gb, hb) = both_true (goes_on b) (has true b) g' in
      let (n, f) = listed_fair wf s a xs st h d ca ga in
      (n, λ l le rest. then_fair wf l s t a b (xs ++ h ∷ rest) st (length rest) gb (f l le rest))
  listed_fair wf _ _ _ st h (in_second {l = m} {s = s} {t = t} {a = a} {b = b} {xs = xs} {ys = ys} {st' = st'} {x = x} p d) c g =
      let (ca, more) = both_true (is_clear S rules s a) (is_clear S rules t b && is_apart (ends a) (begins b)) c in
      let (cb, cab) = both_true (is_clear S rules t b) (is_apart (ends a) (begins b)) more in
      let (ga, g') = both_true (goes_on a) (goes_on b && has true b) g in
      let (gb, hb) = both_true (goes_on b) (has true b) g' in
      let (n, f) = listed_fair wf t b ys st' h d cb gb in
      let head : HeadIn (begins b) ys = head_of_meets (first b) (begins b) ys h (meets t b ys st' h d) in (
        m + n,
        λ l le rest.
            let pl : Derives S rules l s a xs st x st' = weaker S rules l m s a xs st x st' p (omega arith) in
            subst (λ v. Fair (length rest) (read_in {S = S} {s = pair s t} (inside S rules l) (a ⨾ b) v st)) (sym (append_assoc xs ys (h ∷ rest)))
            (then_outlives wf l s t a b (xs ++ (ys ++ h ∷ rest)) (ys ++ h ∷ rest) st st' x (length rest) gb
            (gate wf l s a xs st x st' pl ca (begins b) cab ys head h rest (outlives wf l s a xs st x st' pl ca ga h rest)) (f l (omega arith) rest)),
      )
  listed_fair wf s _ xs st h (in_left {a = a} {b = b} d) c g =
      let (ca, more) = both_true (is_clear S rules s a) (is_clear S rules s b && (not (is_empty a) && is_apart (first a) (begins b))) c in
      let (ga, gb) = both_true (goes_on a) (goes_on b) g in
      let (n, f) = listed_fair wf s a xs st h d ca ga in
      let m : Meets (first a) (begins a) xs h = meets s a xs st h d in (
        n,
        λ l le rest.
            subst (λ v. Fair (length rest) (cond v (read_in (inside S rules l) a (xs ++ h ∷ rest) st) (read_in (inside S rules l) b (xs ++ h ∷ rest) st))) (sym (meets_starts s a xs h rest m)) (f l le rest),
      )
  listed_fair wf s _ xs st h (in_right {a = a} {b = b} d) c g =
      let (ca, more) = both_true (is_clear S rules s a) (is_clear S rules s b && (not (is_empty a) && is_apart (first a) (begins b))) c in
      let (cb, more') = both_true (is_clear S rules s b) (not (is_empty a) && is_apart (first a) (begins b)) more in
      let (ne, cab) = both_true (not (is_empty a)) (is_apart (first a) (begins b)) more' in
      let (ga, gb) = both_true (goes_on a) (goes_on b) g in
      let (n, f) = listed_fair wf s b xs st h d cb gb in
      let head : HeadIn (begins b) xs = head_of_meets (first b) (begins b) xs h (meets s b xs st h d) in
      (n, λ l le rest. right_fair wf l s a b xs st h rest ca ga cab head (f l le rest) (starts (first a) (xs ++ h ∷ rest)) refl)
  listed_fair wf _ _ xs st h (in_optional {s = s} {a = a} d) c g =
      let (ca, ne) = both_true (is_clear S rules s a) (not (is_empty a)) c in
      let (n, f) = listed_fair wf s a xs st h d ca g in
      let m : Meets (first a) (begins a) xs h = meets s a xs st h d in
      (n, λ l le rest. optional_fair l s a (xs ++ h ∷ rest) st (length rest) (meets_starts s a xs h rest m) (f l le rest))
  listed_fair wf _ _ xs st h (in_round {s = s} {a = a} d) c g =
      let (ca, more) = both_true (is_clear S rules s a) (not (is_empty a) && is_apart (ends a) (begins a)) c in
      let (ne, caa) = both_true (not (is_empty a)) (is_apart (ends a) (begins a)) more in
      let (n, f) = listed_fair wf s a xs st h d ca g in
      let m : Meets (first a) (begins a) xs h = meets s a xs st h d in
      (n, λ l le rest. round_fair wf l s a (xs ++ h ∷ rest) st (length rest) (not_true (is_empty a) ne) g (meets_starts s a xs h rest m) (read_in (inside S rules l) a (xs ++ h ∷ rest) st) refl (f l le rest))
  listed_fair wf _ _ _ st h (in_later {l = m} {s = s} {a = a} {xs = xs} {ys = ys} {st' = st'} {x = x} p d) c g =
      let (ca, more) = both_true (is_clear S rules s a) (not (is_empty a) && is_apart (ends a) (begins a)) c in
      let (ne, caa) = both_true (not (is_empty a)) (is_apart (ends a) (begins a)) more in
      let full : is_empty a ≡ false = not_true (is_empty a) ne in
      let (n, f) = listed_fair wf (list s) (many a) ys st' h d c g in
      let head : HeadIn (begins a) ys = head_of_meets (first a) (begins a) ys h (meets (list s) (many a) ys st' h d) in (
        m + n,
        λ l le rest.
            let pl : Derives S rules l s a xs st x st' = weaker S rules l m s a xs st x st' p (omega arith) in
            subst (λ v. Fair (length rest) (read_in {S = S} {s = list s} (inside S rules l) (many a) v st)) (sym (append_assoc xs ys (h ∷ rest)))
            (rounds_fair wf l s a (xs ++ (ys ++ h ∷ rest)) (ys ++ h ∷ rest) st st' x (length rest) full g
            (begins_first S s a (xs ++ (ys ++ h ∷ rest)) (fronts (begins a) (is_empty a) xs (ys ++ h ∷ rest) full (begins_so S rules l s a xs st x st' pl)))
            (gate wf l s a xs st x st' pl ca (begins a) caa ys head h rest (outlives wf l s a xs st x st' pl ca g h rest)) (f l (omega arith) rest)),
      )
  listed_fair wf _ _ _ st h (in_brackets {k = k} {k' = k'} {n = n} {xs = xs} o ko d) c g =
      let (m, f) = listed_fair wf (S.sort_of n) (rules n) xs st h d (wf.clear n) (wf.completed n) in
      (suc m, λ l le rest. brackets_fair l m k k' n o xs st h rest ko le (λ i more. f i more rest))
  listed_fair wf _ _ xs st h (in_act {s = s} {t = t} {f = v} {a = a} d) c g =
      let (n, f) = listed_fair wf s a xs st h d c g in
      (n, λ l le rest. act_fair l s t v a (xs ++ h ∷ rest) st (length rest) (f l le rest))
