-- An alignment that an access to memory states is a power of two up to 16.
use Rattle.std.proofs.Common.{◌≡◌, ℕ, zero, suc, ◌^◌, ◌≤◌, min, List, [], ◌∷◌, drop, Bool, true, false, not, cond, ◌&&◌, ◌||◌, Option, None, Some, arith, refl, sym, ap, ◌∙◌}
use Rattle.std.specs.Prelude.{nat_le, nat_lt, nat_eq, codes, ◌==◌, unwrap_or, IsTrue}
use Rattle.std.specs.List.{list_all, starts_with}
use Rattle.std.specs.Str.{bytes_eq}
use Rattle.std.specs.Str.Parse.{digits_value}
use Rattle.std.specs.Char.{is_ascii_digit}
use Rattle.std.specs.Int.{is_power_of_two}
use Rattle.std.specs.Int.RustNames.{count_ones}
use Rattle.std.proofs.lemmas.Bool.Decides.{nat_tests}
use Rattle.std.proofs.lemmas.List.Elements.{All-head}
use Rattle.std.proofs.lemmas.List.Sums.{list_all-from_AllPass}
use Rattle.ir_core.specs.declared.token.Token.{Token}
use Rattle.ir_core.specs.declared.token.TokenKind.{TokenKind}
use Rattle.ir_core.specs.declared.refusals.Place.{Place}
use Rattle.ir_core.specs.Tokens.{bytes_of}
use Rattle.ir_core.specs.Spelling.{Spells, IsDigits, minus}
use Rattle.ir_core.specs.Spelling.Spells.{word, label, string_label, integer, negative, float, local, global, meta_name, meta_number, bang, attr_number, debug_record, string, byte_string, mark, dots}
use Rattle.ir_core.specs.Tokenisation.{IsCut, IsTokenisation}
use Rattle.ir_core.specs.ResolvedBodies.{is_alignment}
use Rattle.ir_text.specs.Names.{is_used_list, is_debug_function}
use Rattle.ir_text.specs.DataLayout.{is_layout_taken}
use Rattle.ir_text.specs.TokenText.{small_number}
use Rattle.ir_grammar.specs.declared.kind.Kind.{Kind}
use Rattle.ir_grammar.specs.declared.kind.Kind.TheVariants as k
use Rattle.ir_grammar.specs.Kinds.{is_same, is_among}
use Rattle.ir_grammar.specs.KindOf.{Table, kind_in, type_words, item_words, body_words, other_words, or_else, is_int_type, int_kind, number_of, greatest, other_word, word_kind, count_kind, integer_kind, mark_table, mark_kind, local_kind, meta_name_kind, global_kind, text_kind, token_kind, equals_follows, integer_follows, meta_name_follows, operand_follows, kind_before, terminals_of, end_of_text, text_of}
use Rattle.ir_grammar.proofs.KindSets.{both_true, not_true}
use Rattle.ir_read_items.specs.Rows.{Each}
use Rattle.ir_read_items.proofs.BlockRows.{IsFine}
use Rattle.ir_resolved.proofs.Lists.{each_append}

-- the bytes write an alignment
abbrev pub IsSmallText : List ℕ → Type 0
IsSmallText text = IsTrue (is_alignment (small_number text))

-- ---- integers

power_is_alignment : (n : ℕ) → is_power_of_two n ≡ true → n ≤ 16 → is_alignment n ≡ true
unfolding count_ones
power_is_alignment zero h most = absurd (let e : false ≡ true = h in cc)
power_is_alignment (suc zero) h most = refl
power_is_alignment (suc (suc zero)) h most = refl
power_is_alignment (suc (suc (suc zero))) h most = absurd (let e : false ≡ true = h in cc)
power_is_alignment (suc (suc (suc (suc zero)))) h most = refl
power_is_alignment (suc (suc (suc (suc (suc zero))))) h most = absurd (let e : false ≡ true = h in cc)
power_is_alignment (suc (suc (suc (suc (suc (suc zero)))))) h most = absurd (let e : false ≡ true = h in cc)
power_is_alignment (suc (suc (suc (suc (suc (suc (suc zero))))))) h most = absurd (let e : false ≡ true = h in cc)
power_is_alignment (suc (suc (suc (suc (suc (suc (suc (suc zero)))))))) h most = refl
power_is_alignment (suc (suc (suc (suc (suc (suc (suc (suc (suc zero))))))))) h most = absurd (let e : false ≡ true = h in cc)
power_is_alignment (suc (suc (suc (suc (suc (suc (suc (suc (suc (suc zero)))))))))) h most = absurd (let e : false ≡ true = h in cc)
power_is_alignment (suc (suc (suc (suc (suc (suc (suc (suc (suc (suc (suc zero))))))))))) h most = absurd (let e : false ≡ true = h in cc)
power_is_alignment (suc (suc (suc (suc (suc (suc (suc (suc (suc (suc (suc (suc zero)))))))))))) h most = absurd (let e : false ≡ true = h in cc)
power_is_alignment (suc (suc (suc (suc (suc (suc (suc (suc (suc (suc (suc (suc (suc zero))))))))))))) h most = absurd (let e : false ≡ true = h in cc)
power_is_alignment (suc (suc (suc (suc (suc (suc (suc (suc (suc (suc (suc (suc (suc (suc zero)))))))))))))) h most =
    absurd (let e : false ≡ true = h in cc)
power_is_alignment (suc (suc (suc (suc (suc (suc (suc (suc (suc (suc (suc (suc (suc (suc (suc zero))))))))))))))) h most =
    absurd (let e : false ≡ true = h in cc)
power_is_alignment (suc (suc (suc (suc (suc (suc (suc (suc (suc (suc (suc (suc (suc (suc (suc (suc zero)))))))))))))))) h most = refl
power_is_alignment (suc (suc (suc (suc (suc (suc (suc (suc (suc (suc (suc (suc (suc (suc (suc (suc (suc n))))))))))))))))) h most =
    absurd (omega arith)

-- the kind isn't that of a power of two up to 16
abbrev IsOther : Kind → Type 0
IsOther kind = is_among (k.SmallPower ∷ []) kind ≡ false

other_small : (kind : Kind) → IsOther kind → is_among (k.SmallPower ∷ []) kind ≡ true → ⊥
other_small kind o h = let e : true ≡ false = sym h ∙ o in cc

either : (b : Bool) (x y : Kind) → IsOther x → IsOther y → IsOther (cond b x y)
either true x y p q = p
either false x y p q = q

-- a number of this kind is such an alignment
small_count : (n : ℕ) → is_among (k.SmallPower ∷ []) (count_kind n) ≡ true → (is_alignment n ≡ true) × (n ≤ 16)
unfolding is_same
small_count n h = go (is_power_of_two n) (nat_le n 16) (nat_lt n (2 ^ 64)) refl refl h
  where
    go : (a b c : Bool) → is_power_of_two n ≡ a → nat_le n 16 ≡ b → is_among (k.SmallPower ∷ []) (cond a (cond b k.SmallPower (cond c k.Power k.GreatPower)) (cond c k.Count k.Great)) ≡ true
        → (is_alignment n ≡ true) × (n ≤ 16)
    go true true c p q h = let most : n ≤ 16 = grind (arith, nat_tests) in (power_is_alignment n p most, most)
    go true false true p q h = cc
    go true false false p q h = cc
    go false b true p q h = cc
    go false b false p q h = cc

no_minus : (b : ℕ) → is_ascii_digit b ≡ true → (minus == b) ≡ false
no_minus b h = grind (arith, nat_tests)

plain_digits : (text : List ℕ) → IsDigits text → starts_with nat_eq text (codes "-") ≡ false
plain_digits [] d = absurd (omega (arith, d.some))
plain_digits (b ∷ text) d = plain_by (minus == b) (no_minus b (All-head (λ x. is_ascii_digit x ≡ true) b text d.digits)) refl
  where
    plain_by : (t : Bool) → t ≡ false → (minus == b) ≡ t → starts_with nat_eq (b ∷ text) (codes "-") ≡ false
    plain_by true e f = cc
    plain_by false e f = rw f refl

capped_small : (n : ℕ) → min n greatest ≤ 16 → (min n greatest ≡ n) × (nat_le n 4294967295 ≡ true)
capped_small n h = (omega arith, let less : n ≤ 4294967295 = omega arith in grind (arith, nat_tests))

small_digits : (text : List ℕ) → IsDigits text → is_among (k.SmallPower ∷ []) (count_kind (number_of text)) ≡ true → IsSmallText text
small_digits text d h =
    let (is, most) = small_count (number_of text) h in
    let (same, little) = capped_small (digits_value 10 text) most in
    let all : list_all is_ascii_digit text ≡ true = list_all-from_AllPass is_ascii_digit text d.digits in
    let number : small_number text ≡ digits_value 10 text = rw all (rw little refl) in
    ap (λ n. is_alignment n) number ∙ (ap (λ n. is_alignment n) (sym same) ∙ is)

small_integer : (text : List ℕ) → IsDigits text → is_among (k.SmallPower ∷ []) (integer_kind text) ≡ true → IsSmallText text
unfolding integer_kind
small_integer text d h = go (starts_with nat_eq text (codes "-")) (plain_digits text d) h
  where
    go : (b : Bool) → b ≡ false → is_among (k.SmallPower ∷ []) (cond (b && not (number_of (cond b (drop 1 text) text) == 0)) k.Negative (count_kind (number_of (cond b (drop 1 text) text)))) ≡ true → IsSmallText text
    go true e h = absurd (let f : true ≡ false = e in cc)
    go false e h = small_digits text d h

-- behind a `-` there is none
no_small_negative : (text : List ℕ) → is_among (k.SmallPower ∷ []) (integer_kind (minus ∷ text)) ≡ true → ⊥
unfolding integer_kind is_same
no_small_negative text h = go (number_of text == 0) refl h
  where
    go : (b : Bool) → (number_of text == 0) ≡ b → is_among (k.SmallPower ∷ []) (cond (not b) k.Negative (count_kind (number_of text))) ≡ true → ⊥
    go true e h = let p = small_count (number_of text) h in let none : number_of text ≡ 0 = grind (arith, nat_tests) in let q : is_alignment 0 ≡ true = sym (ap (λ n. is_alignment n) none) ∙ p.0 in cc
    go false e h = cc

-- ---- other tokens

-- no word of a table is of this kind
abbrev IsOtherIn : Table → Type 0
IsOtherIn table = list_all (λ e. not (is_among (k.SmallPower ∷ []) e.1)) table ≡ true

abbrev IfOther : Option Kind → Type 0
IfOther None = Unit {0}
IfOther (Some kind) = IsOther kind

or_next : (b : Bool) (found : Kind) (rest : Option Kind) → IsOther found → IfOther rest → IfOther (cond b (Some found) rest)
or_next true found rest p q = p
or_next false found rest p q = q

in_table : (table : Table) (text : List ℕ) → IsOtherIn table → IfOther (kind_in table text)
in_table [] text w = tt
in_table (e ∷ rest) text w =
    let (here, there) = both_true (not (is_among (k.SmallPower ∷ []) e.1)) (list_all (λ e. not (is_among (k.SmallPower ∷ []) e.1)) rest) w in
    or_next (bytes_eq text e.0) e.1 (kind_in rest text) (not_true (is_among (k.SmallPower ∷ []) e.1) here) (in_table rest text there)

or_other : (a b : Option Kind) → IfOther a → IfOther b → IfOther (or_else a b)
or_other None b p q = q
or_other (Some kind) b p q = p

unwrapped : (o : Option Kind) (kind : Kind) → IfOther o → IsOther kind → IsOther (unwrap_or o kind)
unwrapped None kind p q = q
unwrapped (Some found) kind p q = p

other_word_other : (text : List ℕ) → IsOther (other_word text)
unfolding is_same other_word
other_word_other text =
    let n : ℕ = number_of (drop 1 text) in
    either (is_int_type text) (int_kind n) _
    (either (n == 0) k.EmptyIntType _ refl (either (n == 1) k.BitType _ refl (either (nat_le n 128) k.IntType k.WideIntType refl refl)))
    (either (starts_with nat_eq text (codes "$")) k.DollarWord _ refl (either (starts_with nat_eq text (codes "u0x") || starts_with nat_eq text (codes "s0x")) k.HexWord k.Word refl refl))

word_other : (text : List ℕ) → IsOther (word_kind text)
unfolding is_same word_kind
word_other text =
    unwrapped (or_else (kind_in type_words text) (or_else (kind_in item_words text) (or_else (kind_in body_words text) (kind_in other_words text)))) (other_word text)
    (or_other (kind_in type_words text) _ (in_table type_words text refl)
    (or_other (kind_in item_words text) _ (in_table item_words text refl) (or_other (kind_in body_words text) _ (in_table body_words text refl) (in_table other_words text refl))))
    (other_word_other text)

mark_other : (text : List ℕ) (follows : Bool) → IsOther (mark_kind text follows)
unfolding is_same mark_kind
mark_other text follows =
    unwrapped (kind_in mark_table text) _ (in_table mark_table text refl)
    (either (bytes_eq text (codes "<")) _ k.OtherMark (either follows k.Vector k.Less refl refl) refl)

global_other : (text : List ℕ) → IsOther (global_kind text)
unfolding is_same
global_other text = either (is_used_list text) k.UsedGlobal _ refl (either (is_debug_function text) k.DebugGlobal k.Global refl refl)

-- ---- tokens

small_token : (kind : TokenKind) (text : List ℕ) (e i : Bool) → Spells kind text → is_among (k.SmallPower ∷ []) (token_kind kind text e i) ≡ true
    → IsSmallText text
unfolding is_same
small_token _ text e i (word b bytes begins name others) h = absurd (other_small (word_kind (b ∷ bytes)) (word_other (b ∷ bytes)) h)
small_token _ text e i (label bytes some name) h = cc
small_token _ text e i (string_label bytes s) h = cc
small_token _ _ e i (integer bytes d) h = small_integer bytes d h
small_token _ _ e i (negative bytes d) h = absurd (no_small_negative bytes h)
small_token _ text e i (float digits b bytes d point more) h = cc
small_token _ text e i (local bytes r) h = absurd (other_small (local_kind e) (either e k.LocalDefinition k.Local refl refl) h)
small_token _ text e i (global bytes r) h = absurd (other_small (global_kind (64 ∷ bytes)) (global_other (64 ∷ bytes)) h)
small_token _ text e i (meta_name bytes n) h = absurd (other_small (meta_name_kind e) (either e k.MetaDefinition k.MetaName refl refl) h)
small_token _ text e i (meta_number bytes d) h = cc
small_token _ text e i bang h = cc
small_token _ text e i (attr_number bytes d) h = cc
small_token _ text e i (debug_record bytes r) h = cc
small_token _ text e i (string bytes s) h = absurd (other_small (text_kind bytes) (either (is_layout_taken bytes) k.Text k.OtherLayout refl refl) h)
small_token _ text e i (byte_string bytes s) h = cc
small_token _ text e i (mark b m) h = absurd (other_small (mark_kind (b ∷ []) i) (mark_other (b ∷ []) i) h)
small_token _ text e i dots h = absurd (other_small (mark_kind (codes "...") i) (mark_other (codes "...") i) h)

-- what is of this kind before other tokens is so by itself
small_before : (source : List ℕ) (behind : List Token) (kind : Kind) → is_among (k.SmallPower ∷ []) (kind_before source behind kind) ≡ true
    → is_among (k.SmallPower ∷ []) kind ≡ true
unfolding kind_before is_same
small_before source behind kind h = go (is_same kind k.Comma) (meta_name_follows behind) (is_same kind k.Void) (operand_follows source behind) h
  where
    go : (a b c d : Bool) → is_among (k.SmallPower ∷ []) (cond a (cond b k.MetaComma kind) (cond c (cond d k.VoidBeforeOperand kind) kind)) ≡ true → is_among (k.SmallPower ∷ []) kind ≡ true
    go true true c d h = cc
    go true false c d h = h
    go false b true true h = cc
    go false b true false h = h
    go false b false d h = h

-- ---- texts

abbrev pub IsSmallToken : List ℕ → Token → Type 0
IsSmallToken text token = IsSmallText (bytes_of text token)

cut_small : (text : List ℕ) (from : ℕ) (ts : List Token) (to : ℕ) → IsCut text from ts to → Each (IsFine (IsSmallToken text)) (terminals_of text ts)
cut_small text from [] to c = tt
cut_small text from (t ∷ ts) to (gap, token, rest) = (
  (λ h. small_token t.kind (bytes_of text t) (equals_follows text ts) (integer_follows ts) token.spelled (small_before text ts _ h)),
  cut_small text t.to ts to rest,
)

end_small : (text : List ℕ) (place : Place) → IsFine (IsSmallToken text) (end_of_text place)
unfolding is_same
end_small text place h = cc

-- each power of two up to 16 among the tokens of a text is written so
pub small_text : (text : List ℕ) (tokens : List Token) (place : Place) → IsTokenisation text tokens
    → Each (IsFine (IsSmallToken text)) (text_of text tokens place)
small_text text tokens place h =
    each_append (IsFine (IsSmallToken text)) (terminals_of text tokens) (end_of_text place ∷ []) (cut_small text 0 tokens h.last h.cut) (end_small text place, tt)
