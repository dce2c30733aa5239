-- What a derivation begins with, and that reading takes tokens.
use Rattle.std.proofs.Common.{ℕ, List, [], ◌∷◌, ◌++◌, length, ◌<◌, ◌≡◌, refl, ◌∙◌, ap, subst, Bool, true, false, cond, ◌||◌, ◌&&◌, Ok, arith, length-append}
use Rattle.ir_grammar.specs.declared.kind.Kind.{Kind}
use Rattle.ir_grammar.specs.declared.terminal.Terminal.{Terminal}
use Rattle.ir_grammar.specs.Kinds.{is_among}
use Rattle.ir_grammar.specs.Rules.{Sort, Signature, Value, Rule, many, Derives, one_token, both, left, right, absent, present, done, again, inner, acted}
use Rattle.ir_grammar.specs.Reading.{is_empty, read_in, inside}
use Rattle.ir_grammar.specs.Conditions.{begins}
use Rattle.ir_grammar.proofs.KindSets.{starts_left, starts_right, or_true}
use Rattle.ir_grammar.proofs.Sound.{all_sound}

-- the tokens begin with one of these kinds, or are none where that may be
abbrev pub IsFront : List Kind → Bool → List Terminal → Type 0
IsFront kinds empty [] = empty ≡ true
IsFront kinds empty (t ∷ ts) = is_among kinds t.kind ≡ true

front_left : (ks js : List Kind) (e f : Bool) (ts : List Terminal) → IsFront ks e ts → IsFront (ks ++ js) (e || f) ts
front_left ks js e f [] h = ap (λ v. v || f) h
front_left ks js e f (t ∷ ts) h = starts_left ks js (t ∷ ts) h

front_right : (ks js : List Kind) (e f : Bool) (ts : List Terminal) → IsFront js f ts → IsFront (ks ++ js) (e || f) ts
front_right ks js e f [] h = ap (λ v. e || v) h ∙ or_true e
front_right ks js e f (t ∷ ts) h = starts_right ks js (t ∷ ts) h

-- one front behind another
front_both : (ks js : List Kind) (e f : Bool) (xs ys : List Terminal) → IsFront ks e xs → IsFront js f ys → IsFront (cond e (ks ++ js) ks) (e && f) (xs ++ ys)
front_both ks js true f [] ys h k = onwards ys k
  where
    onwards : (ys : List Terminal) → IsFront js f ys → IsFront (ks ++ js) f ys
    onwards [] k = k
    onwards (y ∷ ys) k = starts_right ks js (y ∷ ys) k
front_both ks js false f [] ys h k = cc
front_both ks js true f (x ∷ xs) ys h k = starts_left ks js (x ∷ xs) h
front_both ks js false f (x ∷ xs) ys h k = h

-- a front of more tokens
front_more : (ks : List Kind) (e : Bool) (xs ys : List Terminal) → IsFront ks e xs → IsFront ks true ys → IsFront ks true (xs ++ ys)
front_more ks e [] ys h k = k
front_more ks e (x ∷ xs) ys h k = h

front_any : (ks : List Kind) (e : Bool) (xs : List Terminal) → IsFront ks e xs → IsFront ks true xs
front_any ks e [] h = refl
front_any ks e (x ∷ xs) h = h

module _ (S : Signature) (rules : (n : S.Name) → Rule S (S.sort_of n)) where
  -- a derivation begins with a kind of the rule, or is empty where the rule may be
  pub begins_so : (levels : ℕ) (s : Sort S.Base) (a : Rule S s) (xs : List Terminal) (st : S.Store) (x : Value S s) (st' : S.Store)
      → Derives S rules levels s a xs st x st' → IsFront (begins a) (is_empty a) xs
  begins_so levels _ _ _ _ _ _ (one_token t h) = h
  begins_so levels _ _ _ _ _ _ (both {a = a} {b = b} {xs = xs} {ys = ys} p q) =
      front_both (begins a) (begins b) (is_empty a) (is_empty b) xs ys (begins_so levels _ a xs _ _ _ p) (begins_so levels _ b ys _ _ _ q)
  begins_so levels _ _ _ _ _ _ (left {a = a} {b = b} {xs = xs} p) = front_left (begins a) (begins b) (is_empty a) (is_empty b) xs (begins_so levels _ a xs _ _ _ p)
  begins_so levels _ _ _ _ _ _ (right {a = a} {b = b} {xs = xs} p) = front_right (begins a) (begins b) (is_empty a) (is_empty b) xs (begins_so levels _ b xs _ _ _ p)
  begins_so levels _ _ _ _ _ _ absent = refl
  begins_so levels _ _ _ _ _ _ (present {a = a} {xs = xs} p) = front_any (begins a) (is_empty a) xs (begins_so levels _ a xs _ _ _ p)
  begins_so levels _ _ _ _ _ _ done = refl
  begins_so levels _ _ _ _ _ _ (again {a = a} {xs = xs} {ys = ys} p q) =
      front_more (begins a) (is_empty a) xs ys (begins_so levels _ a xs _ _ _ p) (begins_so levels _ (many a) ys _ _ _ q)
  begins_so _ _ _ _ _ _ _ (inner o c h p k) = h
  begins_so levels _ _ _ _ _ _ (acted {a = a} {xs = xs} p) = begins_so levels _ a xs _ _ _ p

  -- a rule that isn't empty takes a token
  pub shortens : (levels : ℕ) (s : Sort S.Base) (a : Rule S s) (ts : List Terminal) (st : S.Store) (x : Value S s × List Terminal × S.Store)
      → is_empty a ≡ false → read_in (inside S rules levels) a ts st ≡ Ok x → length x.1 < length ts
  shortens levels s a ts st x full h =
      let (front, e, d) = all_sound S rules levels s a ts st x h in
      longer front e (subst (λ v. IsFront (begins a) v front) full (begins_so levels s a front st x.0 x.2 d))
    where
      longer : (front : List Terminal) → ts ≡ front ++ x.1 → IsFront (begins a) false front → length x.1 < length ts
      longer [] e f = cc
      longer (t ∷ front) e f = let l : length ts ≡ length (t ∷ (front ++ x.1)) = ap length e in omega (arith, l, length-append front x.1)
