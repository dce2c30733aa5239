-- The longest token at the front: what `longest` finds is it, and where it finds nothing there is none.
use Rattle.std.proofs.Common.{zero, ◌≡◌, ℕ, ◌<◌, ◌≤◌, List, [], ◌∷◌, true, false, ltb, length, get_or, take, drop, arith, refl, sym, ◌∙◌, ap, subst, suc, inl, inr}
use Rattle.std.specs.Prelude.{fold}
use Rattle.std.specs.List.{prefix_len}
use Rattle.std.proofs.lemmas.Bool.{cond-true, cond-false, cases_Bool, cases_order, ltb-true, ltb-false, lt-ltb, le-ltb}
use Rattle.std.proofs.lemmas.List.{length-take-le, take-append-drop}
use Rattle.ir_core.specs.Spelling.{Spells, is_name_byte, is_in_range, colon}
use Rattle.ir_core.specs.Spelling.Spells.{word, label, string_label, integer, negative, float, local, global, meta_name, meta_number, bang, attr_number, debug_record, string, byte_string, mark, dots}
use Rattle.ir_core.specs.Spelling.IsString.{quoted}
use Rattle.std.proofs.lemmas.List.{length_push, length-append}
use Rattle.ir_core.specs.declared.token.TokenKind.{TokenKind}
use Rattle.ir_core.specs.declared.token.TokenKind.TheVariants.{Word, Label, Integer, Float, Local, Global, MetaName, MetaNumber, Bang, AttrNumber, DebugRecord, Text, Bytes, Mark}
use Rattle.ir_lex.specs.declared.reach.Found.{Found}
use Rattle.ir_lex.specs.declared.reach.TheConstants.{KINDS}
use Rattle.ir_lex.specs.Reach.{reach, longer, longest}
use Rattle.ir_lex.specs.Front.{IsFront, HasNoFront}
use Rattle.ir_lex.proofs.KindsSound.{reach_sound}
use Rattle.ir_lex.proofs.KindsReach.{reach_covers}
use Rattle.ir_lex.proofs.OneKind.{same_kind}

module _ (names : ℕ) (text : List ℕ) where
  longer_yes : (best : Found) (kind : TokenKind) → ltb best.len (reach kind names text) ≡ true → longer names text best kind ≡ record { kind = kind; len = reach kind names text }
  unfolding longer
  longer_yes best kind h = cond-true (ltb best.len (reach kind names text)) (record { kind = kind; len = reach kind names text }) best h

  longer_no : (best : Found) (kind : TokenKind) → ltb best.len (reach kind names text) ≡ false → longer names text best kind ≡ best
  unfolding longer
  longer_no best kind h = cond-false (ltb best.len (reach kind names text)) (record { kind = kind; len = reach kind names text }) best h

  -- no shorter than either
  longer_bounds : (best : Found) (kind : TokenKind) → (best.len ≤ (longer names text best kind).len) × (reach kind names text ≤ (longer names text best kind).len)
  longer_bounds best kind =
      elim (cases_Bool (ltb best.len (reach kind names text))) [
        | inl less ↦ let lt : best.len < reach kind names text = ltb-true best.len (reach kind names text) less in
            subst (λ f. (best.len ≤ f.len) × (reach kind names text ≤ f.len)) (sym (longer_yes best kind less)) (omega arith, omega arith)
        | inr more ↦ let le : reach kind names text ≤ best.len = ltb-false best.len (reach kind names text) more in
            subst (λ f. (best.len ≤ f.len) × (reach kind names text ≤ f.len)) (sym (longer_no best kind more)) (omega arith, omega arith)
      ]

  fold_bounds : (kinds : List TokenKind) (best : Found) → best.len ≤ (fold (longer names text) best kinds).len
  fold_bounds [] best = omega arith
  fold_bounds (k ∷ kinds) best = let here = (longer_bounds best k).0 in let more = fold_bounds kinds (longer names text best k) in omega arith

  fold_reaches : (kinds : List TokenKind) (best : Found) (i : ℕ) → i < length kinds → reach (get_or kinds i Word) names text ≤ (fold (longer names text) best kinds).len
  fold_reaches [] best i h = absurd (omega arith)
  fold_reaches (k ∷ kinds) best zero h = let here = (longer_bounds best k).1 in let more = fold_bounds kinds (longer names text best k) in omega arith
  fold_reaches (k ∷ kinds) best (suc i) h = fold_reaches kinds (longer names text best k) i (omega arith)

  -- where something was found, its kind reaches so far
  IsReach : Found → Type 0
  IsReach best = 0 < best.len → best.len ≡ reach best.kind names text

  longer_is : (best : Found) (kind : TokenKind) → IsReach best → IsReach (longer names text best kind)
  unfolding IsReach
  longer_is best kind h =
      elim (cases_Bool (ltb best.len (reach kind names text))) [
        | inl less ↦ subst IsReach (sym (longer_yes best kind less)) (λ some. refl)
        | inr more ↦ subst IsReach (sym (longer_no best kind more)) h
      ]

  fold_is : (kinds : List TokenKind) (best : Found) → IsReach best → IsReach (fold (longer names text) best kinds)
  fold_is [] best h = h
  fold_is (k ∷ kinds) best h = fold_is kinds (longer names text best k) (longer_is best k h)

-- one kind more, by its length
pub longer_less : (names : ℕ) (text : List ℕ) (best : Found) (kind : TokenKind) (len : ℕ) → len ≡ reach kind names text → best.len < len → record { kind = kind; len = len } ≡ longer names text best kind
longer_less names text best kind len e less = (λ i. record { kind = kind; len = e i }) ∙ sym (longer_yes names text best kind (lt-ltb best.len (reach kind names text) (omega arith)))

pub longer_more : (names : ℕ) (text : List ℕ) (best : Found) (kind : TokenKind) (len : ℕ) → len ≡ reach kind names text → len ≤ best.len → best ≡ longer names text best kind
longer_more names text best kind len e more = sym (longer_no names text best kind (le-ltb best.len (reach kind names text) (omega arith)))

-- where each kind stands in the list of kinds
place_of_kind : TokenKind → ℕ
place_of_kind Word = 0
place_of_kind Label = 1
place_of_kind Integer = 2
place_of_kind Float = 3
place_of_kind Local = 4
place_of_kind Global = 5
place_of_kind MetaName = 6
place_of_kind MetaNumber = 7
place_of_kind Bang = 8
place_of_kind AttrNumber = 9
place_of_kind DebugRecord = 10
place_of_kind Text = 11
place_of_kind Bytes = 12
place_of_kind Mark = 13

all_kinds : (kind : TokenKind) → (place_of_kind kind < length KINDS) × (get_or KINDS (place_of_kind kind) Word ≡ kind)
unfolding place_of_kind
all_kinds Word = (omega arith, refl)
all_kinds Label = (omega arith, refl)
all_kinds Integer = (omega arith, refl)
all_kinds Float = (omega arith, refl)
all_kinds Local = (omega arith, refl)
all_kinds Global = (omega arith, refl)
all_kinds MetaName = (omega arith, refl)
all_kinds MetaNumber = (omega arith, refl)
all_kinds Bang = (omega arith, refl)
all_kinds AttrNumber = (omega arith, refl)
all_kinds DebugRecord = (omega arith, refl)
all_kinds Text = (omega arith, refl)
all_kinds Bytes = (omega arith, refl)
all_kinds Mark = (omega arith, refl)

longest_bound : (kind : TokenKind) (names : ℕ) (text : List ℕ) → reach kind names text ≤ (longest names text).len
unfolding longest
longest_bound kind names text =
    let at = all_kinds kind in
    subst (λ k. reach k names text ≤ (longest names text).len) at.1 (fold_reaches names text KINDS (record { kind = Word; len = 0 }) (place_of_kind kind) at.0)

longest_is : (names : ℕ) (text : List ℕ) → 0 < (longest names text).len → (longest names text).len ≡ reach (longest names text).kind names text
unfolding longest IsReach
longest_is names text = fold_is names text KINDS (record { kind = Word; len = 0 }) (λ some. absurd (omega arith))

-- nothing that spells a token is longer
longest_covers : (names : ℕ) (text : List ℕ) → names ≡ prefix_len is_name_byte text → (kind : TokenKind) (len : ℕ) → len ≤ length text → Spells kind (take len text) → len ≤ (longest names text).len
longest_covers names text e kind len inside spelled =
    let found = reach_covers kind (take len text) (drop len text) spelled in
    let here : length (take len text) ≤ reach found.0 (prefix_len is_name_byte text) text = subst (λ t. length (take len text) ≤ reach found.0 (prefix_len is_name_byte t) t) (take-append-drop len text) found.1 in
    let there : length (take len text) ≤ reach found.0 names text = subst (λ n. length (take len text) ≤ reach found.0 n text) (sym e) here in
    omega (arith, longest_bound found.0 names text, length-take-le len text inside)

-- the text begins with a token of this kind and length, but for an integer's range
pub record IsLongestFront (text : List ℕ) (found : Found) : Type 0 where
  pub inside : found.len ≤ length text
  pub spelled : Spells found.kind (take found.len text)
  pub longest : (kind : TokenKind) (len : ℕ) → found.len < len → len ≤ length text → Spells kind (take len text) → ⊥

pub longest_front : (names : ℕ) (text : List ℕ) → names ≡ prefix_len is_name_byte text → 0 < (longest names text).len → IsLongestFront text (longest names text)
longest_front names text e some =
    let is : reach (longest names text).kind (prefix_len is_name_byte text) text ≡ (longest names text).len = ap (λ n. reach (longest names text).kind n text) (sym e) ∙ sym (longest_is names text some) in
    let sound = subst (λ n. 0 < n → (n ≤ length text) × Spells (longest names text).kind (take n text)) is (reach_sound (longest names text).kind text) some in
    record {
      inside = sound.0;
      spelled = sound.1;
      longest = λ kind len more inside spelled. let le = longest_covers names text e kind len inside spelled in absurd (omega arith);
    }

-- no token is empty
pub spells_some : (kind : TokenKind) (s : List ℕ) → Spells kind s → 0 < length s
spells_some _ _ (word b bytes begins h others) = omega arith
spells_some _ _ (label s some h) = omega (arith, length_push s colon)
spells_some _ _ (string_label s h) = omega (arith, length_push s colon)
spells_some _ _ (integer s h) = h.some
spells_some _ _ (negative s h) = omega arith
spells_some _ _ (float digits b bytes ds point h) = omega (arith, length-append digits (b ∷ bytes))
spells_some _ _ (local s h) = omega arith
spells_some _ _ (global s h) = omega arith
spells_some _ _ (meta_name s h) = omega arith
spells_some _ _ (meta_number s h) = omega arith
spells_some _ _ bang = omega arith
spells_some _ _ (attr_number s h) = omega arith
spells_some _ _ (debug_record bytes h) = omega arith
spells_some _ _ (string _ (quoted inside h)) = omega arith
spells_some _ _ (byte_string s h) = omega arith
spells_some _ _ (mark b h) = omega arith
spells_some _ _ dots = omega arith

-- where nothing is found there is no token
pub no_front : (names : ℕ) (text : List ℕ) → names ≡ prefix_len is_name_byte text → (longest names text).len ≡ 0 → HasNoFront text
no_front names text e none found front =
    let le = longest_covers names text e found.kind found.len front.inside front.spelled in
    let some = spells_some found.kind (take found.len text) front.spelled in
    let size = length-take-le found.len text front.inside in
    absurd (omega arith)

-- two longest tokens are of one length
same_length : (text : List ℕ) (f g : Found) → IsLongestFront text f → IsLongestFront text g → f.len ≡ g.len
same_length text f g a b =
    elim (cases_order f.len g.len) [
      | inl same ↦ same
      | inr differ ↦ elim differ [ inl less ↦ absurd (a.longest g.kind g.len less b.inside b.spelled) | inr more ↦ absurd (b.longest f.kind f.len more a.inside a.spelled) ]
    ]

-- where an integer is out of range there is no token
pub no_front_range : (text : List ℕ) (found : Found) → IsLongestFront text found → found.kind ≡ Integer → is_in_range (take found.len text) ≡ false → HasNoFront text
no_front_range text found f isint out other front =
    let g : IsLongestFront text other = record { inside = front.inside; spelled = front.spelled; longest = front.longest } in
    let size : found.len ≡ other.len = same_length text found other f g in
    let spelled : Spells found.kind (take other.len text) = subst (λ n. Spells found.kind (take n text)) size f.spelled in
    let kinds : other.kind ≡ Integer = same_kind other.kind found.kind (take other.len text) front.spelled spelled ∙ isint in
    let range : is_in_range (take other.len text) ≡ true = front.in_range kinds in
    let wrong : is_in_range (take other.len text) ≡ false = subst (λ n. is_in_range (take n text) ≡ false) size out in
    let clash : true ≡ false = sym range ∙ wrong in
    cc

-- where it is in its range the token is there
pub front_is : (text : List ℕ) (found : Found) → IsLongestFront text found → (found.kind ≡ Integer → is_in_range (take found.len text) ≡ true) → IsFront text found
front_is text found f range = record { inside = f.inside; spelled = f.spelled; longest = f.longest; in_range = range }

-- what was found, where something was
pub longest_found : (names : ℕ) (text : List ℕ) (found : Found) → names ≡ prefix_len is_name_byte text → found ≡ longest names text → (found.len ≡ 0 → ⊥) → IsLongestFront text found
longest_found names text found e same some =
    let more : 0 < (longest names text).len = subst (λ f. 0 < f.len) same (omega (arith, some)) in
    subst (IsLongestFront text) (sym same) (longest_front names text e more)
