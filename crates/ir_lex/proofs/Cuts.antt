-- A text is cut into tokens in one way, or has one first bad token.
use Rattle.std.proofs.Common.{◌≡◌, ℕ, ◌+◌, ◌-◌, ◌<◌, ◌≤◌, List, [], ◌∷◌, ◌++◌, false, length, get_or, take, drop, arith, refl, sym, ◌∙◌, ap, subst, inl, inr, append-nil}
use Rattle.std.proofs.lemmas.Bool.{cases_lt, cases_order}
use Rattle.std.proofs.lemmas.List.{length-take-le, length-drop, length-append, take-append-drop, drop-drop, drop_more, get_or-drop, get_or-take}
use Rattle.ir_core.specs.Spelling.{Spells, line_feed}
use Rattle.ir_core.specs.Tokens.{bytes_between, bytes_of}
use Rattle.ir_core.specs.Tokenisation.{place_after, IsGap, IsGapOf, IsToken, IsCut, IsTokenisation, IsBadTokenAt, is_separator}
use Rattle.ir_core.specs.declared.token.Token.{Token}
use Rattle.ir_core.specs.declared.refusals.Place.{Place}
use Rattle.ir_lex.specs.Gaps.{gap_length}
use Rattle.ir_lex.proofs.OneKind.{same_kind}
use Rattle.ir_lex.proofs.Longest.{spells_some}
use Rattle.ir_lex.proofs.Heads.{spells_head}
use Rattle.ir_lex.proofs.GapLaws.{gap_passed, gap_none, gap_apart}

-- the parts of a text around an offset behind another
pub between_rest : (text : List ℕ) (from at : ℕ) → from ≤ at → bytes_between text from at ++ drop at text ≡ drop from text
between_rest text from at le =
    let e : from + (at - from) ≡ at = omega arith in
    ap (λ k. take (at - from) (drop from text) ++ drop k text) (sym e)
    ∙ ap (λ r. take (at - from) (drop from text) ++ r) (sym (drop-drop (at - from) from text))
    ∙ take-append-drop (at - from) (drop from text)

between_length : (text : List ℕ) (from at : ℕ) → from ≤ at → at ≤ length text → length (bytes_between text from at) ≡ at - from
between_length text from at le inside = length-take-le (at - from) (drop from text) (omega (arith, length-drop from text))

-- a token is some bytes
pub token_some : (text : List ℕ) (t : Token) → IsToken text t → t.from < t.to
token_some text t h =
    let some = spells_some t.kind (bytes_of text t) h.spelled in
    let size = between_length text t.from t.to h.within.ordered h.within.inside in
    omega arith

-- and the first separates nothing
token_begins : (text : List ℕ) (t : Token) → IsToken text t → is_separator (get_or text t.from 0) ≡ false
token_begins text t h =
    let some = token_some text t h in
    let head : is_separator (get_or (bytes_of text t) 0 0) ≡ false = spells_head t.kind (bytes_of text t) h.spelled in
    let e : get_or (bytes_of text t) 0 0 ≡ get_or text t.from 0 = get_or-take (t.to - t.from) (drop t.from text) 0 0 (omega arith) ∙ get_or-drop t.from text 0 0 ∙ ap (λ k. get_or text k 0) (omega arith) in
    subst (λ b. is_separator b ≡ false) e head

same_tokens : (s t : Token) → s.kind ≡ t.kind → s.from ≡ t.from → s.to ≡ t.to → s.place ≡ t.place → s ≡ t
same_tokens s t kind from to place i = record { kind = kind i; from = from i; to = to i; place = place i }

-- at an offset stands one token
one_token : (text : List ℕ) (s t : Token) → IsToken text s → IsToken text t → s.from ≡ t.from → s ≡ t
one_token text s t a b from =
    let inner : bytes_between text s.from t.to ≡ bytes_of text t = ap (λ k. bytes_between text k t.to) from in
    let outer : bytes_between text t.from s.to ≡ bytes_of text s = ap (λ k. bytes_between text k s.to) (sym from) in
    let to : s.to ≡ t.to =
    elim (cases_order s.to t.to) [
      | inl same ↦ same
      | inr differ ↦ elim differ [
        | inl less ↦ absurd (a.longest t.kind t.to less b.within.inside (subst (Spells t.kind) (sym inner) b.spelled))
        | inr more ↦ absurd (b.longest s.kind s.to more a.within.inside (subst (Spells s.kind) (sym outer) a.spelled))
      ]
    ] in
    let bytes : bytes_of text s ≡ bytes_of text t = ap (λ k. bytes_between text s.from k) to ∙ inner in
    let kind : s.kind ≡ t.kind = same_kind s.kind t.kind (bytes_of text t) (subst (Spells s.kind) bytes a.spelled) b.spelled in
    let place : s.place ≡ t.place = a.placed ∙ ap (λ k. place_after (take k text)) from ∙ sym b.placed in
    same_tokens s t kind from to place

-- a gap ends at the first byte that separates nothing
gap_end : (text : List ℕ) (from at : ℕ) → IsGapOf text from at → at < length text → is_separator (get_or text at 0) ≡ false → at ≡ from + gap_length false (drop from text)
gap_end text from at g inside begins =
    let passed : gap_length false (bytes_between text from at ++ drop at text) ≡ length (bytes_between text from at) + gap_length false (drop at text) = gap_passed (bytes_between text from at) (drop at text) g.gap in
    let whole : gap_length false (bytes_between text from at ++ drop at text) ≡ gap_length false (drop from text) = ap (gap_length false) (between_rest text from at g.ordered) in
    let size = between_length text from at g.ordered g.inside in
    let none : gap_length false (drop at text) ≡ 0 = ap (gap_length false) (drop_more text at 0 inside) ∙ gap_none (get_or text at 0) (drop (at + 1) text) begins in
    let order = g.ordered in
    omega arith

-- a gap up to the end leaves nothing
last_gap : (rest : List ℕ) → IsGap (rest ++ line_feed ∷ []) → length rest ≤ gap_length false rest
last_gap rest g =
    let passed : gap_length false (rest ++ line_feed ∷ []) ≡ length (rest ++ line_feed ∷ []) = ap (gap_length false) (sym (append-nil (rest ++ line_feed ∷ []))) ∙ gap_passed (rest ++ line_feed ∷ []) [] g ∙ omega arith in
    let size : length (rest ++ line_feed ∷ []) ≡ length rest + 1 = length-append rest (line_feed ∷ []) in
    elim (cases_lt (gap_length false rest) (length rest)) [
      | inl less ↦ let apart = gap_apart false rest (line_feed ∷ []) less in absurd (omega arith)
      | inr more ↦ more
    ]

-- where the next token of a cut stands
next_at : (text : List ℕ) (from : ℕ) (t : Token) → IsGapOf text from t.from → IsToken text t → (t.from ≡ from + gap_length false (drop from text)) × (t.from < length text)
next_at text from t g h =
    let some = token_some text t h in
    let within = h.within.inside in
    let inside : t.from < length text = omega arith in
    (gap_end text from t.from g inside (token_begins text t h), inside)

-- behind these tokens only a gap is left
abbrev pub IsRest : List ℕ → ℕ → Type 0
IsRest text last = IsGap (drop last text ++ line_feed ∷ [])

rest_past : (text : List ℕ) (last : ℕ) → IsRest text last → length text ≤ last + gap_length false (drop last text)
rest_past text last g = omega (arith, last_gap (drop last text) g, length-drop last text)

-- a token can't stand where only a gap is left
none_in_rest : (text : List ℕ) (from last : ℕ) (t : Token) → from ≡ last → IsRest text last → IsGapOf text from t.from → IsToken text t → ⊥
none_in_rest text from last t same rest g h =
    let next = next_at text from t g h in
    let past = subst (λ k. length text ≤ k + gap_length false (drop k text)) (sym same) (rest_past text last rest) in
    omega arith

cuts_same : (text : List ℕ) (ts us : List Token) (from a b : ℕ) → IsCut text from ts a → IsRest text a → IsCut text from us b → IsRest text b → ts ≡ us
cuts_same text [] [] from a b c r d q = refl
cuts_same text [] (u ∷ us) from a b c r d q = absurd (none_in_rest text from a u c r d.0 d.1)
cuts_same text (t ∷ ts) [] from a b c r d q = absurd (none_in_rest text from b t d q c.0 c.1)
cuts_same text (t ∷ ts) (u ∷ us) from a b c r d q =
    let here = next_at text from t c.0 c.1 in
    let there = next_at text from u d.0 d.1 in
    let same : t ≡ u = one_token text t u c.1 d.1 (here.0 ∙ sym there.0) in
    let more : ts ≡ us = cuts_same text ts us t.to a b c.2 r (subst (λ x. IsCut text x.to us b) (sym same) d.2) q in
    λ i. same i ∷ more i

-- a text has at most one tokenisation
pub one_tokenisation : (text : List ℕ) (a b : List Token) → IsTokenisation text a → IsTokenisation text b → a ≡ b
one_tokenisation text a b f g = cuts_same text a b 0 f.last g.last f.cut f.rest g.cut g.rest

-- what stands at a bad token
pub record IsBadAt (text : List ℕ) (last at : ℕ) : Type 0 where
  pub gap : IsGapOf text last at
  pub inside : at < length text
  pub begins : is_separator (get_or text at 0) ≡ false
  pub none : (t : Token) → t.from ≡ at → IsToken text t → ⊥

bad_at : (text : List ℕ) (last at : ℕ) → IsBadAt text last at → at ≡ last + gap_length false (drop last text)
bad_at text last at h = gap_end text last at h.gap h.inside h.begins

-- a token can't stand where a bad one does
none_at_bad : (text : List ℕ) (from last at : ℕ) (t : Token) → from ≡ last → IsBadAt text last at → IsGapOf text from t.from → IsToken text t → ⊥
none_at_bad text from last at t same bad g h =
    let next = next_at text from t g h in
    let e = bad_at text last at bad in
    bad.none t (next.0 ∙ ap (λ k. k + gap_length false (drop k text)) same ∙ sym e) h

cuts_apart : (text : List ℕ) (ts us : List Token) (from a b at : ℕ) → IsCut text from ts a → IsRest text a → IsCut text from us b → IsBadAt text b at → ⊥
cuts_apart text [] [] from a b at c r d bad =
    let past = rest_past text a r in
    let same : a ≡ b = sym c ∙ d in
    let e : at ≡ a + gap_length false (drop a text) = subst (λ k. at ≡ k + gap_length false (drop k text)) (sym same) (bad_at text b at bad) in
    let inside = bad.inside in
    omega arith
cuts_apart text [] (u ∷ us) from a b at c r d bad = none_in_rest text from a u c r d.0 d.1
cuts_apart text (t ∷ ts) [] from a b at c r d bad = none_at_bad text from b at t d bad c.0 c.1
cuts_apart text (t ∷ ts) (u ∷ us) from a b at c r d bad =
    let here = next_at text from t c.0 c.1 in
    let there = next_at text from u d.0 d.1 in
    let same : t ≡ u = one_token text t u c.1 d.1 (here.0 ∙ sym there.0) in
    cuts_apart text ts us t.to a b at c.2 r (subst (λ x. IsCut text x.to us b) (sym same) d.2) bad

is_bad : (text : List ℕ) (place : Place) (h : IsBadTokenAt text place) → IsBadAt text h.last h.at
is_bad text place h = record { gap = h.gap; inside = h.inside; begins = h.begins; none = h.none }

-- and none where it has a bad token
pub never_both : (text : List ℕ) (tokens : List Token) (place : Place) → IsTokenisation text tokens → IsBadTokenAt text place → ⊥
never_both text tokens place f g = cuts_apart text tokens g.tokens 0 f.last g.last g.at f.cut f.rest g.cut (is_bad text place g)

bads_same : (text : List ℕ) (ts us : List Token) (from a b at to : ℕ) → IsCut text from ts a → IsBadAt text a at → IsCut text from us b → IsBadAt text b to → at ≡ to
bads_same text [] [] from a b at to c p d q =
    let same : a ≡ b = sym c ∙ d in
    bad_at text a at p ∙ ap (λ k. k + gap_length false (drop k text)) same ∙ sym (bad_at text b to q)
bads_same text [] (u ∷ us) from a b at to c p d q = absurd (none_at_bad text from a at u c p d.0 d.1)
bads_same text (t ∷ ts) [] from a b at to c p d q = absurd (none_at_bad text from b to t d q c.0 c.1)
bads_same text (t ∷ ts) (u ∷ us) from a b at to c p d q =
    let here = next_at text from t c.0 c.1 in
    let there = next_at text from u d.0 d.1 in
    let same : t ≡ u = one_token text t u c.1 d.1 (here.0 ∙ sym there.0) in
    bads_same text ts us t.to a b at to c.2 p (subst (λ x. IsCut text x.to us b) (sym same) d.2) q

-- and at most one of these
pub one_bad_place : (text : List ℕ) (p q : Place) → IsBadTokenAt text p → IsBadTokenAt text q → p ≡ q
one_bad_place text p q f g =
    let at : f.at ≡ g.at = bads_same text f.tokens g.tokens 0 f.last g.last f.at g.at f.cut (is_bad text p f) g.cut (is_bad text q g) in
    f.placed ∙ ap (λ k. place_after (take k text)) at ∙ sym g.placed
