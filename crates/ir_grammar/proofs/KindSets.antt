-- Sets of kinds.
use Rattle.std.proofs.Common.{List, [], ◌∷◌, ◌++◌, ◌≡◌, refl, sym, ◌∙◌, ap, subst, Bool, true, false, not, ◌&&◌, ◌||◌, ◌⊎◌, inl, inr, rules}
use denote.Enum.Bare.{same_true, true_same}
use Rattle.ir_grammar.specs.contracts.kind.Kind.{the_type}
use Rattle.ir_grammar.specs.declared.kind.Kind.{Kind}
use Rattle.ir_grammar.specs.declared.terminal.Terminal.{Terminal}
use Rattle.ir_grammar.specs.Kinds.{is_same, is_among, is_apart}
use Rattle.ir_grammar.specs.Reading.{starts}

-- both hold
pub both_true : (a b : Bool) → (a && b) ≡ true → (a ≡ true) × (b ≡ true)
both_true true b h = (refl, h)
both_true false b h = cc

-- one of them holds
pub either_true : (a b : Bool) → (a || b) ≡ true → (a ≡ true) ⊎ (b ≡ true)
either_true true b h = inl refl
either_true false b h = inr h

-- neither holds
pub neither : (a b : Bool) → (a || b) ≡ false → (a ≡ false) × (b ≡ false)
neither true b h = cc
neither false b h = (refl, h)

pub not_true : (a : Bool) → not a ≡ true → a ≡ false
not_true true h = cc
not_true false h = refl

-- what isn't true is false
pub false_of : (b : Bool) → (b ≡ true → ⊥) → b ≡ false
false_of true h = absurd (h refl)
false_of false h = refl

or_assoc : (a b c : Bool) → ((a || b) || c) ≡ (a || (b || c))
or_assoc true b c = refl
or_assoc false b c = refl

pub same_kind : (a b : Kind) → is_same a b ≡ true → a ≡ b
unfolding is_same
same_kind a b h = same_true the_type (search rules) a b h

pub kind_same : (a : Kind) → is_same a a ≡ true
unfolding is_same
kind_same a = true_same the_type a a refl

pub is_among-append : (ks js : List Kind) (k : Kind) → is_among (ks ++ js) k ≡ (is_among ks k || is_among js k)
is_among-append [] js k = refl
is_among-append (a ∷ ks) js k = ap (λ v. is_same k a || v) (is_among-append ks js k) ∙ sym (or_assoc (is_same k a) (is_among ks k) (is_among js k))

-- no kind is in two lists that are apart
pub apart : (ks js : List Kind) (k : Kind) → is_apart ks js ≡ true → is_among ks k ≡ true → is_among js k ≡ true → ⊥
apart [] js k h p q = cc
apart (a ∷ ks) js k h p q =
    let (r, rest) = both_true (not (is_among js a)) (is_apart ks js) h in
    elim (either_true (is_same k a) (is_among ks k) p) [
      | inl e ↦ (let f : is_among js a ≡ true = subst (λ j. is_among js j ≡ true) (same_kind k a e) q in let g : is_among js a ≡ false = not_true (is_among js a) r in cc)
      | inr e ↦ apart ks js k rest e q
    ]

-- tokens that begin with a kind of one list or the other
pub starts-append : (ks js : List Kind) (ts : List Terminal) → starts (ks ++ js) ts ≡ (starts ks ts || starts js ts)
starts-append ks js [] = refl
starts-append ks js (t ∷ ts) = is_among-append ks js t.kind

-- they begin with neither
pub starts_neither : (ks js : List Kind) (ts : List Terminal) → starts (ks ++ js) ts ≡ false → (starts ks ts ≡ false) × (starts js ts ≡ false)
starts_neither ks js ts h = neither (starts ks ts) (starts js ts) (sym (starts-append ks js ts) ∙ h)

-- they begin with one of the first
pub starts_left : (ks js : List Kind) (ts : List Terminal) → starts ks ts ≡ true → starts (ks ++ js) ts ≡ true
starts_left ks js ts h = starts-append ks js ts ∙ ap (λ v. v || starts js ts) h

pub or_true : (a : Bool) → (a || true) ≡ true
or_true true = refl
or_true false = refl

-- they begin with one of the others
pub starts_right : (ks js : List Kind) (ts : List Terminal) → starts js ts ≡ true → starts (ks ++ js) ts ≡ true
starts_right ks js ts h = starts-append ks js ts ∙ (ap (λ v. starts ks ts || v) h ∙ or_true (starts ks ts))

-- the same, read from the right
pub starts_append : (ks js : List Kind) (ts : List Terminal) → (starts ks ts || starts js ts) ≡ starts (ks ++ js) ts
starts_append ks js ts = sym (starts-append ks js ts)
