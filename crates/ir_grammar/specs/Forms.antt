-- Where a form stands that this program doesn't take. It is said beside the derivations, without reading.
use Rattle.std.specs.Prelude.{ℕ, List, [], ◌∷◌, ◌++◌, ◌≡◌, true, ◌⊎◌}
use Rattle.ir_grammar.specs.declared.kind.Kind.{Kind}
use Rattle.ir_grammar.specs.declared.terminal.Terminal.{Terminal}
use Rattle.ir_grammar.specs.Kinds.{is_among}
use Rattle.ir_grammar.specs.Rules.{Sort, pair, option, list, Signature, Value, Rule, refused, ◌⨾◌, ◌∣◌, optional, many, between, act, Derives}
use Rattle.ir_grammar.specs.Reading.{refused_everywhere}

module _ (S : Signature) (rules : (n : S.Name) → Rule S (S.sort_of n)) where
  -- after these tokens, which are of the rule as far as they go, at any depth, the rule lists the token's kind as one that
  -- isn't taken there. The store is that before the tokens
  pub data IsListedAfter : (s : Sort S.Base) → Rule S s → List Terminal → S.Store → Terminal → Type 0 where
    here : {s : Sort S.Base} {ks : List Kind} {st : S.Store} (h : Terminal) → is_among ks h.kind ≡ true → IsListedAfter s (refused ks) [] st h
    in_first : {s t : Sort S.Base} {a : Rule S s} {b : Rule S t} {xs : List Terminal} {st : S.Store} {h : Terminal}
        → IsListedAfter s a xs st h → IsListedAfter (pair s t) (a ⨾ b) xs st h
    in_second : {l : ℕ} {s t : Sort S.Base} {a : Rule S s} {b : Rule S t} {xs ys : List Terminal} {st st' : S.Store} {x : Value S s} {h : Terminal}
        → Derives S rules l s a xs st x st' → IsListedAfter t b ys st' h → IsListedAfter (pair s t) (a ⨾ b) (xs ++ ys) st h
    in_left : {s : Sort S.Base} {a b : Rule S s} {xs : List Terminal} {st : S.Store} {h : Terminal}
        → IsListedAfter s a xs st h → IsListedAfter s (a ∣ b) xs st h
    in_right : {s : Sort S.Base} {a b : Rule S s} {xs : List Terminal} {st : S.Store} {h : Terminal}
        → IsListedAfter s b xs st h → IsListedAfter s (a ∣ b) xs st h
    in_optional : {s : Sort S.Base} {a : Rule S s} {xs : List Terminal} {st : S.Store} {h : Terminal}
        → IsListedAfter s a xs st h → IsListedAfter (option s) (optional a) xs st h
    in_round : {s : Sort S.Base} {a : Rule S s} {xs : List Terminal} {st : S.Store} {h : Terminal}
        → IsListedAfter s a xs st h → IsListedAfter (list s) (many a) xs st h
    in_later : {l : ℕ} {s : Sort S.Base} {a : Rule S s} {xs ys : List Terminal} {st st' : S.Store} {x : Value S s} {h : Terminal}
        → Derives S rules l s a xs st x st' → IsListedAfter (list s) (many a) ys st' h → IsListedAfter (list s) (many a) (xs ++ ys) st h
    in_brackets : {k k' : Kind} {n : S.Name} {xs : List Terminal} {st : S.Store} {h : Terminal} (o : Terminal)
        → is_among (k ∷ []) o.kind ≡ true → IsListedAfter (S.sort_of n) (rules n) xs st h → IsListedAfter (S.sort_of n) (between k n k') (o ∷ xs) st h
    in_act : {s t : Sort S.Base} {f : Value S s → S.Store → Value S t × S.Store} {a : Rule S s} {xs : List Terminal} {st : S.Store} {h : Terminal}
        → IsListedAfter s a xs st h → IsListedAfter t (act f a) xs st h

  -- after these tokens the token is a form that this program doesn't take: one that is listed there, or one that is taken
  -- nowhere, if nothing goes on with it
  abbrev pub StandsListed : (s : Sort S.Base) → Rule S s → List Terminal → S.Store → Terminal → Type 0
  StandsListed s a front st h = IsListedAfter s a front st h ⊎ (is_among refused_everywhere h.kind ≡ true)
