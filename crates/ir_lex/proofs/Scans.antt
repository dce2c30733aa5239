-- How far a text is read, one token on and at its ends.
use Rattle.std.proofs.Common.{◌≡◌, ℕ, ◌+◌, ◌-◌, ◌<◌, ◌≤◌, List, [], ◌∷◌, ◌++◌, false, length, get_or, take, drop, arith, refl, sym, ◌∙◌, ap, subst}
use Rattle.std.proofs.lemmas.List.{length-drop, get_or-drop}
use Rattle.ir_core.specs.Spelling.{Spells, is_in_range}
use Rattle.ir_core.specs.Tokens.{bytes_between, bytes_of}
use Rattle.ir_core.specs.Tokenisation.{place_after, IsGap, IsGapOf, IsToken, IsCut, IsTokenisation, IsBadTokenAt, is_separator}
use Rattle.ir_core.specs.declared.token.Token.{Token}
use Rattle.ir_core.specs.declared.refusals.Place.{Place}
use Rattle.ir_lex.specs.declared.reach.Found.{Found}
use Rattle.ir_lex.specs.Front.{IsFront, HasNoFront}
use Rattle.ir_lex.specs.Cursors.{BeginsNoToken, IsTaken}
use Rattle.ir_lex.specs.Gaps.{gap_length}
use Rattle.ir_lex.proofs.GapLaws.{gap_stops, gap_ends}
use Rattle.ir_lex.proofs.Cuts.{token_some}

-- the token at the front of what is left is one of the text
pub front_token : (text : List ℕ) (at : ℕ) (found : Found) (t : Token) → at ≤ length text → IsFront (drop at text) found → t.kind ≡ found.kind → t.from ≡ at → t.to ≡ at + found.len → t.place ≡ place_after (take at text) → IsToken text t
front_token text at found t inside f kind from to place =
    let rest : List ℕ = drop at text in
    let size : length rest ≡ length text - at = length-drop at text in
    let short = f.inside in
    let len : t.to - t.from ≡ found.len = omega arith in
    let bytes : bytes_of text t ≡ take found.len rest = ap (λ n. take n (drop t.from text)) len ∙ ap (λ k. take found.len (drop k text)) from in
    record {
      within = record { ordered = omega arith; inside = omega arith };
      spelled = subst (λ k. Spells k (bytes_of text t)) (sym kind) (subst (Spells found.kind) (sym bytes) f.spelled);
      longest = λ k end more past spelled.
          let there : bytes_between text t.from end ≡ take (end - at) rest = ap (λ i. take (end - i) (drop i text)) from in
          f.longest k (end - at) (omega arith) (omega arith) (subst (Spells k) there spelled);
      in_range = λ isint. ap is_in_range bytes ∙ f.in_range (sym kind ∙ isint);
      placed = place ∙ ap (λ k. place_after (take k text)) (sym from);
    }

-- and a token of the text is at the front of what is left there
token_front : (text : List ℕ) (at : ℕ) (t : Token) → t.from ≡ at → IsToken text t → IsFront (drop at text) (record { kind = t.kind; len = t.to - t.from })
token_front text at t from h =
    let ordered = h.within.ordered in
    let inside = h.within.inside in
    let size : length (drop at text) ≡ length text - at = length-drop at text in
    let bytes : bytes_of text t ≡ take (t.to - t.from) (drop at text) = ap (λ k. take (t.to - t.from) (drop k text)) from in
    record {
      inside = omega arith;
      spelled = subst (Spells t.kind) bytes h.spelled;
      longest = λ k len more past spelled.
          let len_is : (at + len) - t.from ≡ len = omega arith in
          let there : take len (drop at text) ≡ bytes_between text t.from (at + len) = ap (λ n. take n (drop at text)) (sym len_is) ∙ ap (λ i. take ((at + len) - t.from) (drop i text)) (sym from) in
          h.longest k (at + len) (omega arith) (omega arith) (subst (Spells k) there spelled);
      in_range = λ isint. ap is_in_range (sym bytes) ∙ h.in_range isint;
    }

pub no_token : (text : List ℕ) (at : ℕ) → HasNoFront (drop at text) → BeginsNoToken text at
no_token text at none t from h = none (record { kind = t.kind; len = t.to - t.from }) (token_front text at t from h)

-- one more token at the end of a cut
cut_push : (text : List ℕ) (ts : List Token) (from last : ℕ) (t : Token) → IsCut text from ts last → IsGapOf text last t.from → IsToken text t → IsCut text from (ts ++ t ∷ []) t.to
cut_push text [] from last t c g h = (subst (λ k. IsGapOf text k t.from) (sym c) g, h, refl)
cut_push text (u ∷ ts) from last t c g h = (c.0, c.1, cut_push text ts u.to last t c.2 g h)

-- these tokens are read, and the gap behind them
pub record IsScanned (text : List ℕ) (tokens : List Token) (at : ℕ) : Type 0 where
  pub last : ℕ
  pub cut : IsCut text 0 tokens last
  pub inside : last ≤ length text
  pub gap : at ≡ last + gap_length false (drop last text)

pub scanned_none : (text : List ℕ) (at : ℕ) → at ≡ gap_length false text → IsScanned text [] at
scanned_none text at e = record { last = 0; cut = refl; inside = omega arith; gap = omega arith }

-- the gap before a token
gap_of : (text : List ℕ) (last at : ℕ) → last ≤ length text → at ≡ last + gap_length false (drop last text) → at < length text → IsGapOf text last at × (is_separator (get_or text at 0) ≡ false)
gap_of text last at inside e before =
    let rest : List ℕ = drop last text in
    let size : length rest ≡ length text - last = length-drop last text in
    let stops = gap_stops false rest (omega arith) in
    let len : at - last ≡ gap_length false rest = omega arith in
    let byte : get_or rest (gap_length false rest) 0 ≡ get_or text at 0 = get_or-drop last text (gap_length false rest) 0 ∙ ap (λ k. get_or text k 0) (sym e) in
    (record { ordered = omega arith; inside = omega arith; gap = subst (λ n. IsGap (take n rest)) (sym len) stops.0 }, subst (λ b. is_separator b ≡ false) byte stops.1)

pub scanned_more : (text : List ℕ) (ts : List Token) (at after : ℕ) (t : Token) → IsScanned text ts at → t.from ≡ at → IsToken text t → after ≡ t.to + gap_length false (drop t.to text) → IsScanned text (ts ++ t ∷ []) after
scanned_more text ts at after t s from h e =
    let some = token_some text t h in
    let within = h.within.inside in
    let here : t.from ≡ s.last + gap_length false (drop s.last text) = from ∙ s.gap in
    let gap = gap_of text s.last t.from s.inside here (omega arith) in
    record { last = t.to; cut = cut_push text ts 0 s.last t s.cut gap.0 h; inside = within; gap = e }

-- at the end of the text these are its tokens
pub scanned_all : (text : List ℕ) (ts : List Token) (at : ℕ) → IsScanned text ts at → length text ≤ at → IsTokenisation text ts
scanned_all text ts at s past =
    let size : length (drop s.last text) ≡ length text - s.last = length-drop s.last text in
    let gap = s.gap in
    let inside = s.inside in
    record { last = s.last; cut = s.cut; rest = gap_ends false (drop s.last text) (omega arith) }

-- and where no token begins before it, there is the bad one
pub scanned_bad : (text : List ℕ) (ts : List Token) (at : ℕ) (place : Place) → IsScanned text ts at → at < length text → BeginsNoToken text at → place ≡ place_after (take at text) → IsBadTokenAt text place
scanned_bad text ts at place s before none e =
    let gap = gap_of text s.last at s.inside s.gap before in
    record { tokens = ts; last = s.last; cut = s.cut; at = at; gap = gap.0; inside = before; begins = gap.1; none = none; placed = e }

-- the token that the cursor took is read, with the gap behind it
pub taken_more : (text seen left : List ℕ) (ts us : List Token) (at mid after : ℕ) (t : Token) → seen ≡ text → left ≡ seen → IsScanned text ts at → IsTaken seen at mid t → us ≡ ts ++ t ∷ [] → after ≡ mid + gap_length false (drop mid left) → IsScanned text us after
taken_more text seen left ts us at mid after t same kept s taken pushed e =
    let token : IsToken text t = subst (λ x. IsToken x t) same taken.token in
    let gap : after ≡ t.to + gap_length false (drop t.to text) = e ∙ ap (λ k. k + gap_length false (drop k left)) taken.at ∙ ap (λ x. t.to + gap_length false (drop t.to x)) (kept ∙ same) in
    subst (λ us. IsScanned text us after) (sym pushed) (scanned_more text ts at after t s taken.from token gap)

-- and it is some bytes
pub taken_later : (seen : List ℕ) (at mid after rest : ℕ) (t : Token) → IsTaken seen at mid t → after ≡ mid + rest → at < after
taken_later seen at mid after rest t taken e =
    let some = token_some seen t taken.token in
    let from = taken.from in
    let to = taken.at in
    omega arith
