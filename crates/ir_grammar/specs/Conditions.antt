-- Conditions on a grammar that are computed from its rules. Where they hold, one token ahead decides each choice, and what
-- was read before a fault can be completed.
use Rattle.std.specs.Prelude.{List, [], ◌∷◌, ◌++◌, ◌≡◌, Bool, true, false, not, ◌&&◌, ◌||◌, if◌then◌else◌}
use Rattle.ir_grammar.specs.declared.kind.Kind.{Kind}
use Rattle.ir_grammar.specs.Kinds.{is_apart}
use Rattle.ir_grammar.specs.Rules.{Sort, Signature, Rule, one, refused, ◌⨾◌, ◌∣◌, optional, many, between, act}
use Rattle.ir_grammar.specs.Reading.{first, is_empty}

-- the kinds that a derivation of the rule may begin with
abbrev pub begins : {S : Signature} {s : Sort S.Base} → Rule S s → List Kind
begins (one ks) = ks
begins (refused ks) = []
begins (a ⨾ b) = if is_empty a then begins a ++ begins b else begins a
begins (a ∣ b) = begins a ++ begins b
begins (optional a) = begins a
begins (many a) = begins a
begins (between k n k') = k ∷ []
begins (act f a) = begins a

-- the kinds at which reading goes on behind a derivation of the rule: none of them may follow it
abbrev pub ends : {S : Signature} {s : Sort S.Base} → Rule S s → List Kind
ends (one ks) = []
ends (refused ks) = []
ends (a ⨾ b) = if is_empty b then ends a ++ ends b else ends b
ends (a ∣ b) = if is_empty b then first a ++ (ends a ++ ends b) else ends a ++ ends b
ends (optional a) = first a ++ ends a
ends (many a) = first a ++ ends a
ends (between k n k') = []
ends (act f a) = ends a

-- the rule has a derivation, where what stands between brackets has one or not
abbrev pub has : {S : Signature} {s : Sort S.Base} → Bool → Rule S s → Bool
has deep (one []) = false
has deep (one (k ∷ ks)) = true
has deep (refused ks) = false
has deep (a ⨾ b) = has deep a && has deep b
has deep (a ∣ b) = has deep a || has deep b
has deep (optional a) = true
has deep (many a) = true
has deep (between k n k') = deep
has deep (act f a) = has deep a

-- what follows something has a derivation, so that what was read can be completed
abbrev pub goes_on : {S : Signature} {s : Sort S.Base} → Rule S s → Bool
goes_on (one ks) = true
goes_on (refused ks) = true
goes_on (a ⨾ b) = goes_on a && (goes_on b && has true b)
goes_on (a ∣ b) = goes_on a && goes_on b
goes_on (optional a) = goes_on a
goes_on (many a) = goes_on a
goes_on (between k n k') = true
goes_on (act f a) = goes_on a

module _ (S : Signature) (rules : (n : S.Name) → Rule S (S.sort_of n)) where
  -- one token ahead decides: nothing that may follow a part is read as more of it, and no choice takes what is of the other
  abbrev pub is_clear : (s : Sort S.Base) → Rule S s → Bool
  is_clear _ (one ks) = true
  is_clear _ (refused ks) = true
  is_clear _ (◌⨾◌ {s = s} {t = t} a b) = is_clear s a && (is_clear t b && is_apart (ends a) (begins b))
  is_clear s (a ∣ b) = is_clear s a && (is_clear s b && (not (is_empty a) && is_apart (first a) (begins b)))
  is_clear _ (optional {s = s} a) = is_clear s a && not (is_empty a)
  is_clear _ (many {s = s} a) = is_clear s a && (not (is_empty a) && is_apart (ends a) (begins a))
  is_clear _ (between k n k') = is_apart (ends (rules n)) (k' ∷ [])
  is_clear _ (act {s = s} f a) = is_clear s a

  -- the conditions of a whole grammar, for the rule of each name
  pub record IsWellFormed : Type 0 where
    pub clear : (n : S.Name) → is_clear (S.sort_of n) (rules n) ≡ true
    pub shallow : (n : S.Name) → has false (rules n) ≡ true
    pub completed : (n : S.Name) → goes_on (rules n) ≡ true
