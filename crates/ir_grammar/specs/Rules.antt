-- What a production is: a rule as data, over kinds of tokens. A grammar gives each of its names, which stand between
-- brackets, a rule. Rules carry values: what a derivation builds, and what it adds to a store on the way.
use Rattle.std.specs.Prelude.{ℕ, suc, List, [], ◌∷◌, ◌++◌, Option, None, Some, ◌≡◌, true}
use Rattle.ir_grammar.specs.declared.kind.Kind.{Kind}
use Rattle.ir_grammar.specs.declared.terminal.Terminal.{Terminal}
use Rattle.ir_grammar.specs.Kinds.{is_among}

-- what a rule gives: nothing, a terminal, something of the grammar's own, or pairs, options and lists of these
pub data Sort (B : Type 0) : Type 0 where
  nothing : Sort B
  token : Sort B
  base : B → Sort B
  pair : Sort B → Sort B → Sort B
  option : Sort B → Sort B
  list : Sort B → Sort B

-- what a grammar brings of its own: base sorts with their values, the names of the rules between brackets with what they
-- give, and the store that reading adds to
pub record Signature : Type 1 where
  pub Base : Type 0
  pub Carrier : Base → Type 0
  pub Name : Type 0
  pub sort_of : Name → Sort Base
  pub Store : Type 0

-- the values of a sort
abbrev pub Value : (S : Signature) → Sort S.Base → Type 0
Value S nothing = Unit {0}
Value S token = Terminal
Value S (base b) = S.Carrier b
Value S (pair s t) = Value S s × Value S t
Value S (option s) = Option (Value S s)
Value S (list s) = List (Value S s)

infixr 4 ◌∣◌
infixr 5 ◌⨾◌
-- a production
pub data Rule (S : Signature) : Sort S.Base → Type 0 where
  -- a token of one of these kinds
  one : List Kind → Rule S token
  -- nothing: in this place a token of these kinds is Unsupported
  refused : {s : Sort S.Base} → List Kind → Rule S s
  -- the first, then the second
  ◌⨾◌ : {s t : Sort S.Base} → Rule S s → Rule S t → Rule S (pair s t)
  -- the first or the second
  ◌∣◌ : {s : Sort S.Base} → Rule S s → Rule S s → Rule S s
  -- once or not at all
  optional : {s : Sort S.Base} → Rule S s → Rule S (option s)
  -- any number of times
  many : {s : Sort S.Base} → Rule S s → Rule S (list s)
  -- a bracket, the rule of this name one level deeper, and a bracket
  between : Kind → (n : S.Name) → Kind → Rule S (S.sort_of n)
  -- the rule, and with its value this is done
  act : {s t : Sort S.Base} → (Value S s → S.Store → Value S t × S.Store) → Rule S s → Rule S t

-- a token of this kind
abbrev pub the : {S : Signature} → Kind → Rule S token
the k = one (k ∷ [])

-- the rule, and a value made of its own
abbrev pub just : {S : Signature} {s t : Sort S.Base} → (Value S s → Value S t) → Rule S s → Rule S t
just f a = act (λ x store. (f x, store)) a

-- the rule without its value
abbrev pub gone : {S : Signature} {s : Sort S.Base} → Rule S s → Rule S nothing
gone a = just (λ x. tt) a

infixr 5 ◌▷◌
-- the first, then the second, with the value of the second
abbrev pub ◌▷◌ : {S : Signature} {s t : Sort S.Base} → Rule S s → Rule S t → Rule S t
a ▷ b = just (λ x. x.1) (a ⨾ b)

infixr 5 ◌◁◌
-- the first, then the second, with the value of the first
abbrev pub ◌◁◌ : {S : Signature} {s t : Sort S.Base} → Rule S s → Rule S t → Rule S s
a ◁ b = just (λ x. x.0) (a ⨾ b)

-- the items of a list that is there or not
abbrev pub items_of : {A : Type 0} → Option (A × List A) → List A
items_of None = []
items_of (Some x) = x.0 ∷ x.1

-- the derivations of a grammar, whose names have these rules: the tokens, with at most this many brackets around one
-- another, are of the rule, build the value, and take the store from the one to the other
module _ (S : Signature) (rules : (n : S.Name) → Rule S (S.sort_of n)) where
  pub data Derives : ℕ → (s : Sort S.Base) → Rule S s → List Terminal → S.Store → Value S s → S.Store → Type 0 where
    one_token : {l : ℕ} {ks : List Kind} {st : S.Store} (t : Terminal) → is_among ks t.kind ≡ true → Derives l token (one ks) (t ∷ []) st t st
    both : {l : ℕ} {s t : Sort S.Base} {a : Rule S s} {b : Rule S t} {xs ys : List Terminal} {st st' st'' : S.Store} {x : Value S s} {y : Value S t}
        → Derives l s a xs st x st' → Derives l t b ys st' y st'' → Derives l (pair s t) (a ⨾ b) (xs ++ ys) st (x, y) st''
    left : {l : ℕ} {s : Sort S.Base} {a b : Rule S s} {xs : List Terminal} {st st' : S.Store} {x : Value S s}
        → Derives l s a xs st x st' → Derives l s (a ∣ b) xs st x st'
    right : {l : ℕ} {s : Sort S.Base} {a b : Rule S s} {xs : List Terminal} {st st' : S.Store} {x : Value S s}
        → Derives l s b xs st x st' → Derives l s (a ∣ b) xs st x st'
    absent : {l : ℕ} {s : Sort S.Base} {a : Rule S s} {st : S.Store} → Derives l (option s) (optional a) [] st None st
    present : {l : ℕ} {s : Sort S.Base} {a : Rule S s} {xs : List Terminal} {st st' : S.Store} {x : Value S s}
        → Derives l s a xs st x st' → Derives l (option s) (optional a) xs st (Some x) st'
    done : {l : ℕ} {s : Sort S.Base} {a : Rule S s} {st : S.Store} → Derives l (list s) (many a) [] st [] st
    again : {l : ℕ} {s : Sort S.Base} {a : Rule S s} {xs ys : List Terminal} {st st' st'' : S.Store} {x : Value S s} {rest : List (Value S s)}
        → Derives l s a xs st x st' → Derives l (list s) (many a) ys st' rest st'' → Derives l (list s) (many a) (xs ++ ys) st (x ∷ rest) st''
    inner : {l : ℕ} {k k' : Kind} {n : S.Name} {xs : List Terminal} {st st' : S.Store} {x : Value S (S.sort_of n)} (o c : Terminal)
        → is_among (k ∷ []) o.kind ≡ true → Derives l (S.sort_of n) (rules n) xs st x st' → is_among (k' ∷ []) c.kind ≡ true
        → Derives (suc l) (S.sort_of n) (between k n k') (o ∷ (xs ++ c ∷ [])) st x st'
    acted : {l : ℕ} {s t : Sort S.Base} {f : Value S s → S.Store → Value S t × S.Store} {a : Rule S s} {xs : List Terminal} {st st' : S.Store} {x : Value S s}
        → Derives l s a xs st x st' → Derives l t (act f a) xs st (f x st').0 (f x st').1
