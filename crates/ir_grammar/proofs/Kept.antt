-- What every step of a derivation keeps, the whole keeps: a store stays sound, it grows, values are sound in it, and it
-- grows by no more than a multiple of the tokens.
use Rattle.std.proofs.Common.{ℕ, zero, suc, ◌+◌, ◌*◌, List, [], ◌∷◌, ◌++◌, length, ◌≤◌, ◌≡◌, true, None, Some, All, ◌⊎◌, inl, inr, arith, length-append}
use Rattle.ir_grammar.specs.declared.terminal.Terminal.{Terminal}
use Rattle.ir_grammar.specs.Kinds.{is_among}
use Rattle.ir_grammar.specs.Rules.{Sort, nothing, token, base, pair, option, list, Signature, Value, Rule, one, refused, ◌⨾◌, ◌∣◌, optional, many, between, act, Derives, one_token, both, left, right, absent, present, done, again, inner, acted}

-- what is kept: a sound store, sound values in it, what growing means, fine tokens, and a weight
pub record Keeping (S : Signature) : Type 1 where
  pub Good : S.Store → Type 0
  pub Sound : (b : S.Base) → S.Carrier b → S.Store → Type 0
  pub Grows : S.Store → S.Store → Type 0
  pub Fine : Terminal → Type 0
  pub weight : S.Store → ℕ
  pub same : (st : S.Store) → Grows st st
  pub on : (a b c : S.Store) → Grows a b → Grows b c → Grows a c
  pub later : (b : S.Base) (x : S.Carrier b) (st st' : S.Store) → Grows st st' → Sound b x st → Sound b x st'

-- how many tokens' worth a token is
abbrev pub worth : ℕ
worth = 8

-- it holds of each
abbrev pub Each : {A : Type 0} → (A → Type 0) → List A → Type 0
Each P [] = Unit {0}
Each P (x ∷ xs) = P x × Each P xs

-- what holds of all holds of each
pub each_of_all : {A : Type 0} (P : A → Type 0) (xs : List A) → All P xs → Each P xs
each_of_all P [] h = tt
each_of_all P (x ∷ xs) h = (h zero x (omega arith), each_of_all P xs (λ k d le. h (suc k) d (omega arith)))

each_front : {A : Type 0} (P : A → Type 0) (xs ys : List A) → Each P (xs ++ ys) → Each P xs
each_front P [] ys h = tt
each_front P (x ∷ xs) ys h = (h.0, each_front P xs ys h.1)

each_back : {A : Type 0} (P : A → Type 0) (xs ys : List A) → Each P (xs ++ ys) → Each P ys
each_back P [] ys h = h
each_back P (x ∷ xs) ys h = each_back P xs ys h.1

module _ (S : Signature) (K : Keeping S) where
  -- the value is sound in the store
  abbrev pub SoundValue : (s : Sort S.Base) → Value S s → S.Store → Type 0
  SoundValue nothing x st = Unit {0}
  SoundValue token t st = K.Fine t
  SoundValue (base b) x st = K.Sound b x st
  SoundValue (pair s t) x st = SoundValue s x.0 st × SoundValue t x.1 st
  SoundValue (option s) None st = Unit {0}
  SoundValue (option s) (Some x) st = SoundValue s x st
  SoundValue (list s) [] st = Unit {0}
  SoundValue (list s) (x ∷ xs) st = SoundValue s x st × SoundValue (list s) xs st

  -- how many items of lists it holds, what may be absent among them
  abbrev pub items_in : (s : Sort S.Base) → Value S s → ℕ
  items_in nothing x = 0
  items_in token t = 0
  items_in (base b) x = 0
  items_in (pair s t) x = items_in s x.0 + items_in t x.1
  items_in (option s) None = 0
  items_in (option s) (Some x) = items_in s x + 1
  items_in (list s) x = length x

  -- the value may come from the rule, as far as its tokens tell
  abbrev pub From : (s : Sort S.Base) → Rule S s → Value S s → Type 0
  From _ (one ks) t = is_among ks t.kind ≡ true
  From _ (refused ks) x = Unit {0}
  From _ (◌⨾◌ {s = s} {t = t} a b) x = From s a x.0 × From t b x.1
  From s (a ∣ b) x = From s a x ⊎ From s b x
  From _ (optional a) x = Unit {0}
  From _ (many a) x = Unit {0}
  From _ (between k n k') x = Unit {0}
  From _ (act f a) x = Unit {0}

  -- what is so behind a step
  pub record Kept (s : Sort S.Base) (x : Value S s) (before after : S.Store) (budget : ℕ) : Type 0 where
    pub good : K.Good after
    pub grows : K.Grows before after
    pub sound : SoundValue s x after
    pub light : K.weight after + items_in s x ≤ budget

  -- what is done with a value keeps all, and adds this much
  abbrev pub KeepsBy : (s t : Sort S.Base) → (Value S s → S.Store → Value S t × S.Store) → Rule S s → ℕ → Type 0
  KeepsBy s t f a cost = (x : Value S s) (st : S.Store) → From s a x → K.Good st → SoundValue s x st
      → Kept t (f x st).0 st (f x st).1 (K.weight st + items_in s x + cost)

  -- every step of the rule keeps all, with this much of its tokens' worth to spare
  abbrev pub Keeps : (s : Sort S.Base) → Rule S s → ℕ → Type 0
  Keeps _ (one ks) n = n ≤ worth
  Keeps _ (refused ks) n = Unit {0}
  Keeps _ (◌⨾◌ {s = s} {t = t} a b) n = (i : ℕ) × (j : ℕ) × Keeps s a i × Keeps t b j × (n ≤ i + j)
  Keeps s (a ∣ b) n = Keeps s a n × Keeps s b n
  Keeps _ (optional {s = s} a) n = (n ≤ 0) × Keeps s a 1
  Keeps _ (many {s = s} a) n = (n ≤ 0) × Keeps s a 1
  Keeps _ (between k m k') n = n ≤ 2 * worth
  Keeps t (act {s = s} f a) n = (cost : ℕ) × (i : ℕ) × KeepsBy s t f a cost × Keeps s a i × (n + cost ≤ i)

  -- with so much to spare there is less to spare
  pub fewer : (s : Sort S.Base) (a : Rule S s) (n m : ℕ) → m ≤ n → Keeps s a n → Keeps s a m
  fewer _ (one ks) n m le h = let g : n ≤ worth = h in omega arith
  fewer _ (refused ks) n m le h = tt
  fewer _ (◌⨾◌ {s = s} {t = t} a b) n m le h = let (i, j, ka, kb, more) = h in let g : n ≤ i + j = more in (i, j, ka, kb, omega arith)
  fewer s (a ∣ b) n m le h = (fewer s a n m le h.0, fewer s b n m le h.1)
  fewer _ (optional a) n m le h = let g : n ≤ 0 = h.0 in (omega arith, h.1)
  fewer _ (many a) n m le h = let g : n ≤ 0 = h.0 in (omega arith, h.1)
  fewer _ (between k p k') n m le h = let g : n ≤ 2 * worth = h in omega arith
  fewer t (act {s = s} f a) n m le h = let (cost, i, step, ka, more) = h in let g : n + cost ≤ i = more in (cost, i, step, ka, omega arith)

  -- a sound value stays so
  pub sound_later : (s : Sort S.Base) (x : Value S s) (st st' : S.Store) → K.Grows st st' → SoundValue s x st → SoundValue s x st'
  sound_later nothing x st st' g h = tt
  sound_later token t st st' g h = h
  sound_later (base b) x st st' g h = K.later b x st st' g h
  sound_later (pair s t) x st st' g h = (sound_later s x.0 st st' g h.0, sound_later t x.1 st st' g h.1)
  sound_later (option s) None st st' g h = tt
  sound_later (option s) (Some x) st st' g h = sound_later s x st st' g h
  sound_later (list s) [] st st' g h = tt
  sound_later (list s) (x ∷ xs) st st' g h = (sound_later s x st st' g h.0, sound_later (list s) xs st st' g h.1)

  -- what is so behind a derivation: as behind a step, and the value comes from the rule
  pub record Behind (s : Sort S.Base) (a : Rule S s) (x : Value S s) (before after : S.Store) (spare budget : ℕ) : Type 0 where
    pub good : K.Good after
    pub grows : K.Grows before after
    pub sound : SoundValue s x after
    pub from : From s a x
    pub light : K.weight after + items_in s x + spare ≤ budget

  module _ (rules : (n : S.Name) → Rule S (S.sort_of n)) where
    -- a derivation keeps all
    pub kept : ((m : S.Name) → Keeps (S.sort_of m) (rules m) 0) → (l : ℕ) (s : Sort S.Base) (a : Rule S s) (xs : List Terminal) (st : S.Store) (x : Value S s) (end : S.Store) (n : ℕ)
        → Derives S rules l s a xs st x end → Keeps s a n → Each K.Fine xs → K.Good st → Behind s a x st end n (K.weight st + worth * length xs)
    kept names l _ _ _ st _ _ n (one_token t h) k fine good =
        record { good = good; grows = K.same st; sound = fine.0; from = h; light = omega arith }
    kept names l _ _ _ st _ end n (both {s = s} {t = t} {a = a} {b = b} {xs = xs} {ys = ys} {st' = st'} {x = x} {y = y} p q) k fine good =
        let (i, j, ka, kb, le) = k in
        let u = kept names l s a xs st x st' i p ka (each_front K.Fine xs ys fine) good in
        let v = kept names l t b ys st' y end j q kb (each_back K.Fine xs ys fine) u.good in
        record {
          good = v.good;
          grows = K.on st st' end u.grows v.grows;
          sound = (sound_later s x st' end v.grows u.sound, v.sound);
          from = (u.from, v.from);
          light = let hu = u.light in let hv = v.light in let more : n ≤ i + j = le in omega (arith, length-append xs ys);
        }
    kept names l s _ xs st x end n (left {a = a} p) k fine good =
        let u = kept names l s a xs st x end n p k.0 fine good in
        record { good = u.good; grows = u.grows; sound = u.sound; from = inl u.from; light = u.light }
    kept names l s _ xs st x end n (right {b = b} p) k fine good =
        let u = kept names l s b xs st x end n p k.1 fine good in
        record { good = u.good; grows = u.grows; sound = u.sound; from = inr u.from; light = u.light }
    kept names l _ _ _ st _ _ n absent k fine good =
        record { good = good; grows = K.same st; sound = tt; from = tt; light = let le = k.0 in omega arith }
    kept names l _ _ xs st _ end n (present {s = s} {a = a} {x = x} p) k fine good =
        let u = kept names l s a xs st x end 1 p k.1 fine good in
        record { good = u.good; grows = u.grows; sound = u.sound; from = tt; light = let h = u.light in let le = k.0 in omega arith }
    kept names l _ _ _ st _ _ n done k fine good =
        record { good = good; grows = K.same st; sound = tt; from = tt; light = let le = k.0 in omega arith }
    kept names l _ _ _ st _ end n (again {s = s} {a = a} {xs = xs} {ys = ys} {st' = st'} {x = x} {rest = rest} p q) k fine good =
        let u = kept names l s a xs st x st' 1 p k.1 (each_front K.Fine xs ys fine) good in
        let none : 0 ≤ 0 = omega arith in
        let v = kept names l (list s) (many a) ys st' rest end 0 q (none, k.1) (each_back K.Fine xs ys fine) u.good in
        record {
          good = v.good;
          grows = K.on st st' end u.grows v.grows;
          sound = (sound_later s x st' end v.grows u.sound, v.sound);
          from = tt;
          light = let hu = u.light in let hv = v.light in let le = k.0 in omega (arith, length-append xs ys);
        }
    kept names _ _ _ _ st x end n (inner {l = l} {n = m} {xs = xs} o c ko p kc) k fine good =
        let u = kept names l (S.sort_of m) (rules m) xs st x end 0 p (names m) (each_front K.Fine xs (c ∷ []) fine.1) good in
        record { good = u.good; grows = u.grows; sound = u.sound; from = tt; light = let h = u.light in let le : n ≤ 2 * worth = k in omega (arith, length-append xs (c ∷ [])) }
    kept names l _ _ xs st _ _ n (acted {s = s} {t = t} {f = f} {a = a} {st' = st'} {x = x} p) k fine good =
        let (cost, i, step, ka, le) = k in
        let u = kept names l s a xs st x st' i p ka fine good in
        let w = step x st' u.from u.good u.sound in
        record {
          good = w.good;
          grows = K.on st st' (f x st').1 u.grows w.grows;
          sound = w.sound;
          from = tt;
          light = let hu = u.light in let hw = w.light in let more : n + cost ≤ i = le in omega arith;
        }
