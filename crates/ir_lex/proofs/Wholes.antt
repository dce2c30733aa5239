-- Each text is cut into tokens or has a bad one, and nothing of it is lost.
use Rattle.std.proofs.Common.{zero, ◌≡◌, ℕ, ◌+◌, ◌<◌, ◌≤◌, List, [], ◌∷◌, ◌++◌, false, length, take, drop, arith, refl, ◌∙◌, ap, suc, inl, inr, ◌⊎◌}
use Rattle.std.specs.List.{prefix_len}
use Rattle.std.proofs.lemmas.Bool.{cases_lt, cases_Bool, cases_eq}
use Rattle.ir_core.specs.Spelling.{is_name_byte, is_in_range}
use Rattle.ir_core.specs.Tokens.{bytes_between, bytes_of}
use Rattle.ir_core.specs.Tokenisation.{place_after, IsToken, IsCut, IsTokenisation, IsBadTokenAt, joined}
use Rattle.ir_core.specs.declared.token.Token.{Token}
use Rattle.ir_core.specs.declared.token.TokenKind.{TokenKind}
use Rattle.ir_core.specs.declared.token.TokenKind.TheVariants.{Word, Label, Integer, Float, Local, Global, MetaName, MetaNumber, Bang, AttrNumber, DebugRecord, Text, Bytes, Mark}
use Rattle.ir_core.specs.declared.refusals.Place.{Place}
use Rattle.ir_lex.specs.declared.reach.Found.{Found}
use Rattle.ir_lex.specs.Front.{IsFront, HasNoFront}
use Rattle.ir_lex.specs.Gaps.{gap_length}
use Rattle.ir_lex.specs.Reach.{longest}
use Rattle.ir_lex.proofs.Longest.{IsLongestFront, longest_found, no_front, no_front_range, front_is}
use Rattle.ir_lex.proofs.Cuts.{between_rest, token_some}
use Rattle.ir_lex.proofs.Scans.{IsScanned, scanned_none, scanned_more, scanned_all, scanned_bad, front_token, no_token}

integer_or_not : (kind : TokenKind) → (kind ≡ Integer) ⊎ (kind ≡ Integer → ⊥)
integer_or_not Integer = inl refl
integer_or_not Word = inr (λ e. cc)
integer_or_not Label = inr (λ e. cc)
integer_or_not Float = inr (λ e. cc)
integer_or_not Local = inr (λ e. cc)
integer_or_not Global = inr (λ e. cc)
integer_or_not MetaName = inr (λ e. cc)
integer_or_not MetaNumber = inr (λ e. cc)
integer_or_not Bang = inr (λ e. cc)
integer_or_not AttrNumber = inr (λ e. cc)
integer_or_not DebugRecord = inr (λ e. cc)
integer_or_not Text = inr (λ e. cc)
integer_or_not Bytes = inr (λ e. cc)
integer_or_not Mark = inr (λ e. cc)

-- a text begins with a token or with none
found_or_not : (text : List ℕ) (found : Found) → IsLongestFront text found → IsFront text found ⊎ HasNoFront text
found_or_not text found f =
    elim (integer_or_not found.kind) [
      | inl isint ↦ elim (cases_Bool (is_in_range (take found.len text))) [
        | inl within ↦ inl (front_is text found f (λ _. within))
        | inr out ↦ inr (no_front_range text found f isint out)
      ]
      | inr other ↦ inl (front_is text found f (λ isint. absurd (other isint)))
    ]

front_or_not : (text : List ℕ) → ((found : Found) × IsFront text found) ⊎ HasNoFront text
front_or_not text =
    let names : ℕ = prefix_len is_name_byte text in
    elim (cases_eq (longest names text).len 0) [
      | inl none ↦ inr (no_front names text refl none)
      | inr some ↦ elim (found_or_not text (longest names text) (longest_found names text (longest names text) refl refl some)) [
        | inl front ↦ inl (longest names text, front)
        | inr none ↦ inr none
      ]
    ]

-- a text is its tokens, or has a bad one
abbrev IsDecided : List ℕ → Type 0
IsDecided text = ((tokens : List Token) × IsTokenisation text tokens) ⊎ ((place : Place) × IsBadTokenAt text place)

token_here : (text : List ℕ) (at : ℕ) → Found → Token
token_here text at found = record { kind = found.kind; from = at; to = at + found.len; place = place_after (take at text) }

-- one token on, or a bad one here
decided_step : (text : List ℕ) (ts : List Token) (at fuel : ℕ) → length text ≤ at + suc fuel → at < length text → IsScanned text ts at → ((us : List Token) (to : ℕ) → length text ≤ to + fuel → IsScanned text us to → IsDecided text) → IsDecided text
unfolding token_here
decided_step text ts at fuel left inside s go =
    elim (front_or_not (drop at text)) [
      | inl front ↦
          let t : Token = token_here text at front.0 in
          let token : IsToken text t = front_token text at front.0 t (omega arith) front.1 refl refl refl refl in
          let some : t.from < t.to = token_some text t token in
          let to : ℕ = t.to + gap_length false (drop t.to text) in
          go (ts ++ t ∷ []) to (omega arith) (scanned_more text ts at to t s refl token refl)
      | inr none ↦ inr (place_after (take at text), scanned_bad text ts at (place_after (take at text)) s inside (no_token text at none) refl)
    ]

-- from an offset on, by the bytes that are left
decided_from : (fuel : ℕ) (text : List ℕ) (ts : List Token) (at : ℕ) → length text ≤ at + fuel → IsScanned text ts at → IsDecided text
decided_from zero text ts at left s = inl (ts, scanned_all text ts at s (omega arith))
decided_from (suc fuel) text ts at left s =
    elim (cases_lt at (length text)) [
      | inl inside ↦ decided_step text ts at fuel left inside s (λ us to more scanned. decided_from fuel text us to more scanned)
      | inr past ↦ inl (ts, scanned_all text ts at s past)
    ]

pub cut_or_bad : (text : List ℕ) → ((tokens : List Token) × IsTokenisation text tokens) ⊎ ((place : Place) × IsBadTokenAt text place)
cut_or_bad text = decided_from (length text) text [] (gap_length false text) (omega arith) (scanned_none text (gap_length false text) refl)

-- the gaps and the tokens are what they were cut from
cut_joins : (text : List ℕ) (ts : List Token) (from to : ℕ) → IsCut text from ts to → joined text from ts ≡ drop from text
cut_joins text [] from to c = refl
cut_joins text (t ∷ ts) from to c =
    let rest : joined text t.to ts ≡ drop t.to text = cut_joins text ts t.to to c.2 in
    ap (λ r. bytes_between text from t.from ++ (bytes_of text t ++ r)) rest
    ∙ ap (λ r. bytes_between text from t.from ++ r) (between_rest text t.from t.to c.1.within.ordered)
    ∙ between_rest text from t.from c.0.ordered

pub joined_is_text : (text : List ℕ) (tokens : List Token) → IsTokenisation text tokens → joined text 0 tokens ≡ text
joined_is_text text tokens h = cut_joins text tokens 0 h.last h.cut
