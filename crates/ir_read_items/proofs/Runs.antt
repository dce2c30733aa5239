-- What a derivation does, rule by rule: the values that its parts give, and the stores through which it goes.
use Rattle.std.proofs.Common.{◌≡◌, ℕ, List, [], ◌∷◌, ◌++◌, Option, None, Some, true, ◌⊎◌, inl, inr, refl}
use Rattle.ir_grammar.specs.declared.terminal.Terminal.{Terminal}
use Rattle.ir_grammar.specs.Kinds.{is_among}
use Rattle.ir_grammar.specs.Rules.{Sort, list, Value, one, refused, ◌⨾◌, ◌∣◌, optional, many, between, act, Derives, one_token, both, left, right, absent, present, done, again, inner, acted}
use Rattle.ir_grammar.specs.Names.{Base, Name, sort_of, Production, shared}
use Rattle.ir_grammar.specs.Spelled.{Store}
use Rattle.ir_grammar.specs.Grammar.{production}
use Rattle.ir_read_items.specs.Rows.{Each}

-- values in a row, each behind the one before
abbrev pub Chain : {A : Type 0} → (A → Store → Store → Type 0) → List A → Store → Store → Type 0
Chain R [] st end = st ≡ end
Chain R (x ∷ xs) st end = (mid : Store) × R x st mid × Chain R xs mid end

-- a value, if it is there
abbrev pub Perhaps : {A : Type 0} → (A → Store → Store → Type 0) → Option A → Store → Store → Type 0
Perhaps R None st end = st ≡ end
Perhaps R (Some x) st end = R x st end

-- what stands between brackets is derived
abbrev pub Inside : (Terminal → Type 0) → (n : Name) → Value shared (sort_of n) → Store → Store → Type 0
Inside F n x st end = (l : ℕ) × (xs : List Terminal) × Derives shared production l (sort_of n) (production n) xs st x end × Each F xs

-- the rule gives this value, and goes from the one store to the other
abbrev pub Runs : (F : Terminal → Type 0) → (s : Sort Base) → Production s → Value shared s → Store → Store → Type 0
Runs F _ (one ks) t st end = (is_among ks t.kind ≡ true) × F t × (st ≡ end)
Runs F _ (refused ks) x st end = ⊥
Runs F _ (◌⨾◌ {s = s} {t = t} a b) x st end = (mid : Store) × Runs F s a x.0 st mid × Runs F t b x.1 mid end
Runs F s (a ∣ b) x st end = Runs F s a x st end ⊎ Runs F s b x st end
Runs F _ (optional {s = s} a) x st end = Perhaps (Runs F s a) x st end
Runs F _ (many {s = s} a) x st end = Chain (Runs F s a) x st end
Runs F _ (between k n k') x st end = Inside F n x st end
Runs F _ (act {s = s} f a) x st end = (y : Value shared s) × (mid : Store) × Runs F s a y st mid × (x ≡ (f y mid).0) × (end ≡ (f y mid).1)

pub each_front : {A : Type 0} (P : A → Type 0) (xs ys : List A) → Each P (xs ++ ys) → Each P xs
each_front P [] ys h = tt
each_front P (x ∷ xs) ys h = (h.0, each_front P xs ys h.1)

pub each_back : {A : Type 0} (P : A → Type 0) (xs ys : List A) → Each P (xs ++ ys) → Each P ys
each_back P [] ys h = h
each_back P (x ∷ xs) ys h = each_back P xs ys h.1

pub each_append : {A : Type 0} (P : A → Type 0) (xs ys : List A) → Each P xs → Each P ys → Each P (xs ++ ys)
each_append P [] ys h g = g
each_append P (x ∷ xs) ys h g = (h.0, each_append P xs ys h.1 g)

-- a derivation goes as its rule says
pub runs : (F : Terminal → Type 0) (l : ℕ) (s : Sort Base) (a : Production s) (xs : List Terminal) (st : Store) (x : Value shared s) (end : Store)
    → Derives shared production l s a xs st x end → Each F xs → Runs F s a x st end
runs F l _ _ _ st _ _ (one_token t h) fine = (h, fine.0, refl)
runs F l _ _ _ st _ end (both {s = s} {t = t} {a = a} {b = b} {xs = xs} {ys = ys} {st' = st'} {x = x} {y = y} p q) fine =
    (st', runs F l s a xs st x st' p (each_front F xs ys fine), runs F l t b ys st' y end q (each_back F xs ys fine))
runs F l s _ xs st x end (left {a = a} p) fine = inl (runs F l s a xs st x end p fine)
runs F l s _ xs st x end (right {b = b} p) fine = inr (runs F l s b xs st x end p fine)
runs F l _ _ _ st _ _ absent fine = refl
runs F l _ _ xs st _ end (present {s = s} {a = a} {x = x} p) fine = runs F l s a xs st x end p fine
runs F l _ _ _ st _ _ done fine = refl
runs F l _ _ _ st _ end (again {s = s} {a = a} {xs = xs} {ys = ys} {st' = st'} {x = x} {rest = rest} p q) fine =
    (st', runs F l s a xs st x st' p (each_front F xs ys fine), runs F l (list s) (many a) ys st' rest end q (each_back F xs ys fine))
runs F _ _ _ _ st x end (inner {l = l} {n = n} {xs = xs} o c ko p kc) fine = (l, xs, p, each_front F xs (c ∷ []) fine.1)
runs F l _ _ xs st _ _ (acted {s = s} {f = f} {a = a} {st' = st'} {x = x} p) fine = (x, st', runs F l s a xs st x st' p fine, refl, refl)
