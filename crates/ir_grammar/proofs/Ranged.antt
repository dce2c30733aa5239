-- The number of each token is in the range that its kind says.
use Rattle.std.proofs.Common.{ℕ, ◌^◌, List, [], ◌∷◌, drop, ◌≤◌, ◌<◌, ◌≡◌, refl, sym, ◌∙◌, ap, Bool, true, false, not, cond, ◌&&◌, ◌||◌, Option, None, Some, All, arith}
use Rattle.std.specs.Prelude.{nat_le, nat_lt, nat_eq, codes, ◌==◌, unwrap_or}
use Rattle.std.specs.List.{list_all, starts_with}
use Rattle.std.specs.Str.{bytes_eq}
use Rattle.std.specs.Int.{is_power_of_two}
use Rattle.std.proofs.lemmas.Bool.Decides.{nat_tests}
use Rattle.std.proofs.lemmas.List.Elements.{All-append, All-cons, All-nil}
use Rattle.ir_core.specs.declared.token.Token.{Token}
use Rattle.ir_core.specs.declared.token.TokenKind.{TokenKind}
use Rattle.ir_core.specs.declared.token.TokenKind.TheVariants as tokens
use Rattle.ir_core.specs.declared.refusals.Place.{Place}
use Rattle.ir_core.specs.Tokens.{bytes_of}
use Rattle.ir_text.specs.Names.{is_used_list, is_debug_function}
use Rattle.ir_text.specs.DataLayout.{is_layout_taken}
use Rattle.ir_grammar.specs.declared.kind.Kind.{Kind}
use Rattle.ir_grammar.specs.declared.kind.Kind.TheVariants as k
use Rattle.ir_grammar.specs.Kinds.{is_same, is_among}
use Rattle.ir_grammar.specs.Words.{counts}
use Rattle.ir_grammar.specs.KindOf.{Table, kind_in, type_words, item_words, body_words, other_words, or_else, is_int_type, int_kind, number_of, other_word, word_kind, count_kind, digits_of, integer_kind, mark_table, mark_kind, token_kind, token_number, equals_follows, integer_follows, meta_name_follows, operand_follows, kind_before, global_kind, terminal_of, terminals_of, end_of_text, text_of}
use Rattle.ir_grammar.specs.SoundStore.{IsInRange}
use Rattle.ir_grammar.proofs.KindSets.{both_true, not_true}
use Rattle.ir_grammar.proofs.Kept.{Each}

-- the kinds of integer types
abbrev widths : List Kind
widths = k.IntType ∷ k.BitType ∷ []

-- a table has none of these kinds
abbrev Without : List Kind → Table → Type 0
Without ks table = list_all (λ e. not (is_among ks e.1)) table ≡ true

found_by : (ks : List Kind) (found kind : Kind) (b : Bool) (rest : Option Kind) → is_among ks found ≡ false → (rest ≡ Some kind → is_among ks kind ≡ false) → cond b (Some found) rest ≡ Some kind
    → is_among ks kind ≡ false
found_by ks found kind true rest here there h = let p : found ≡ kind = cc in ap (λ v. is_among ks v) (sym p) ∙ here
found_by ks found kind false rest here there h = there h

found_without : (ks : List Kind) (table : Table) (text : List ℕ) (kind : Kind) → Without ks table → kind_in table text ≡ Some kind → is_among ks kind ≡ false
found_without ks [] text kind w h = cc
found_without ks (e ∷ rest) text kind w h =
    let (here, there) = both_true (not (is_among ks e.1)) (list_all (λ e. not (is_among ks e.1)) rest) w in
    found_by ks e.1 kind (bytes_eq text e.0) (kind_in rest text) (not_true (is_among ks e.1) here) (λ g. found_without ks rest text kind there g) h

-- of two kinds that aren't among these, neither is
neither_among : (ks : List Kind) (a b : Kind) → is_among ks a ≡ false → is_among ks b ≡ false → (c : Bool) → is_among ks (cond c a b) ≡ true → ⊥
neither_among ks a b p q true h = cc
neither_among ks a b p q false h = cc

-- a word of no table is another word
word_by : (ks : List Kind) (text : List ℕ) → Without ks type_words → Without ks item_words → Without ks body_words → Without ks other_words
    → is_among ks (word_kind text) ≡ true → is_among ks (other_word text) ≡ true
unfolding word_kind
word_by ks text w1 w2 w3 w4 h = first (kind_in type_words text) refl h
  where
    fourth : (o : Option Kind) → kind_in other_words text ≡ o → is_among ks (unwrap_or o (other_word text)) ≡ true → is_among ks (other_word text) ≡ true
    fourth None e h = h
    fourth (Some kind) e h = let p : is_among ks kind ≡ false = found_without ks other_words text kind w4 e in absurd (let q : is_among ks kind ≡ true = h in cc)

    third : (o : Option Kind) → kind_in body_words text ≡ o → is_among ks (unwrap_or (or_else o (kind_in other_words text)) (other_word text)) ≡ true → is_among ks (other_word text) ≡ true
    third None e h = fourth (kind_in other_words text) refl h
    third (Some kind) e h = let p : is_among ks kind ≡ false = found_without ks body_words text kind w3 e in absurd (let q : is_among ks kind ≡ true = h in cc)

    second : (o : Option Kind) → kind_in item_words text ≡ o → is_among ks (unwrap_or (or_else o (or_else (kind_in body_words text) (kind_in other_words text))) (other_word text)) ≡ true → is_among ks (other_word text) ≡ true
    second None e h = third (kind_in body_words text) refl h
    second (Some kind) e h = let p : is_among ks kind ≡ false = found_without ks item_words text kind w2 e in absurd (let q : is_among ks kind ≡ true = h in cc)

    first : (o : Option Kind) → kind_in type_words text ≡ o → is_among ks (unwrap_or (or_else o (or_else (kind_in item_words text) (or_else (kind_in body_words text) (kind_in other_words text)))) (other_word text)) ≡ true
        → is_among ks (other_word text) ≡ true
    first None e h = second (kind_in item_words text) refl h
    first (Some kind) e h = let p : is_among ks kind ≡ false = found_without ks type_words text kind w1 e in absurd (let q : is_among ks kind ≡ true = h in cc)

-- an integer type's width
int_width : (n : ℕ) → is_among widths (int_kind n) ≡ true → (1 ≤ n) × (n ≤ 128)
unfolding is_same
int_width n h = go (n == 0) (n == 1) (nat_le n 128) refl refl refl h
  where
    go : (a b c : Bool) → (n == 0) ≡ a → (n == 1) ≡ b → nat_le n 128 ≡ c
        → is_among widths (cond a k.EmptyIntType (cond b k.BitType (cond c k.IntType k.WideIntType))) ≡ true → (1 ≤ n) × (n ≤ 128)
    go true b c p q r h = cc
    go false true c p q r h = (grind (arith, nat_tests), grind (arith, nat_tests))
    go false false true p q r h = (grind (arith, nat_tests), grind (arith, nat_tests))
    go false false false p q r h = cc

other_width : (text : List ℕ) → is_among widths (other_word text) ≡ true → (1 ≤ token_number tokens.Word text) × (token_number tokens.Word text ≤ 128)
unfolding is_same other_word
other_width text h = go (is_int_type text) (starts_with nat_eq text (codes "$")) _ h
  where
    go : (a b c : Bool) → is_among widths (cond a (int_kind (number_of (drop 1 text))) (cond b k.DollarWord (cond c k.HexWord k.Word))) ≡ true
        → (1 ≤ cond a (number_of (drop 1 text)) 0) × (cond a (number_of (drop 1 text)) 0 ≤ 128)
    go true b c h = int_width (number_of (drop 1 text)) h
    go false true c h = cc
    go false false true h = cc
    go false false false h = cc

-- no other word is an integer
other_count : (text : List ℕ) → is_among counts (other_word text) ≡ true → ⊥
unfolding is_same other_word
other_count text h = go (is_int_type text) (starts_with nat_eq text (codes "$")) _ (number_of (drop 1 text)) h
  where
    int : (n : ℕ) (a b c : Bool) → is_among counts (cond a k.EmptyIntType (cond b k.BitType (cond c k.IntType k.WideIntType))) ≡ true → ⊥
    int n true b c h = cc
    int n false true c h = cc
    int n false false true h = cc
    int n false false false h = cc

    go : (a b c : Bool) (n : ℕ) → is_among counts (cond a (int_kind n) (cond b k.DollarWord (cond c k.HexWord k.Word))) ≡ true → ⊥
    go true b c n h = int n (n == 0) (n == 1) (nat_le n 128) h
    go false true c n h = cc
    go false false true n h = cc
    go false false false n h = cc

-- a count is below 2^64, and an integer has no width
count_below : (n : ℕ) → is_among counts (count_kind n) ≡ true → n < 2 ^ 64
unfolding is_same
count_below n h = go (is_power_of_two n) (nat_le n 16) (nat_lt n (2 ^ 64)) refl refl h
  where
    go : (a b c : Bool) → nat_le n 16 ≡ b → nat_lt n (2 ^ 64) ≡ c
        → is_among counts (cond a (cond b k.SmallPower (cond c k.Power k.GreatPower)) (cond c k.Count k.Great)) ≡ true → n < 2 ^ 64
    go a b true p q h = grind (arith, nat_tests)
    go true true false p q h = grind (arith, nat_tests)
    go true false false p q h = cc
    go false b false p q h = cc

count_no_width : (n : ℕ) → is_among widths (count_kind n) ≡ true → ⊥
unfolding is_same
count_no_width n h = go (is_power_of_two n) (nat_le n 16) (nat_lt n (2 ^ 64)) h
  where
    go : (a b c : Bool) → is_among widths (cond a (cond b k.SmallPower (cond c k.Power k.GreatPower)) (cond c k.Count k.Great)) ≡ true → ⊥
    go true true c h = cc
    go true false true h = cc
    go true false false h = cc
    go false b true h = cc
    go false b false h = cc

integer_below : (text : List ℕ) → is_among counts (integer_kind text) ≡ true → number_of (digits_of text) < 2 ^ 64
unfolding is_same integer_kind
integer_below text h = go (starts_with nat_eq text (codes "-") && not (number_of (digits_of text) == 0)) h
  where
    go : (b : Bool) → is_among counts (cond b k.Negative (count_kind (number_of (digits_of text)))) ≡ true → number_of (digits_of text) < 2 ^ 64
    go true h = cc
    go false h = count_below (number_of (digits_of text)) h

integer_no_width : (text : List ℕ) → is_among widths (integer_kind text) ≡ true → ⊥
unfolding is_same integer_kind
integer_no_width text h = go (starts_with nat_eq text (codes "-") && not (number_of (digits_of text) == 0)) h
  where
    go : (b : Bool) → is_among widths (cond b k.Negative (count_kind (number_of (digits_of text)))) ≡ true → ⊥
    go true h = cc
    go false h = count_no_width (number_of (digits_of text)) h

mark_without : (ks : List Kind) (text : List ℕ) (integer : Bool) → Without ks mark_table → is_among ks k.Vector ≡ false → is_among ks k.Less ≡ false → is_among ks k.OtherMark ≡ false
    → is_among ks (mark_kind text integer) ≡ true → ⊥
unfolding mark_kind
mark_without ks text integer w v l o h = go (kind_in mark_table text) refl h
  where
    last : (a b : Bool) → is_among ks (cond a (cond b k.Vector k.Less) k.OtherMark) ≡ true → ⊥
    last true true h = cc
    last true false h = cc
    last false b h = cc

    go : (o : Option Kind) → kind_in mark_table text ≡ o → is_among ks (unwrap_or o (cond (bytes_eq text (codes "<")) (cond integer k.Vector k.Less) k.OtherMark)) ≡ true → ⊥
    go None e h = last (bytes_eq text (codes "<")) integer h
    go (Some kind) e h = let p : is_among ks kind ≡ false = found_without ks mark_table text kind w e in let q : is_among ks kind ≡ true = h in cc

global_without : (ks : List Kind) (text : List ℕ) → is_among ks k.UsedGlobal ≡ false → is_among ks k.DebugGlobal ≡ false → is_among ks k.Global ≡ false → is_among ks (global_kind text) ≡ true → ⊥
global_without ks text u d g h = go (is_used_list text) (is_debug_function text) h
  where
    go : (a b : Bool) → is_among ks (cond a k.UsedGlobal (cond b k.DebugGlobal k.Global)) ≡ true → ⊥
    go true b h = cc
    go false true h = cc
    go false false h = cc

-- what a token's kind is before other tokens, it is by itself, if it is no kind of such a place
before_among : (ks : List Kind) (source : List ℕ) (behind : List Token) (kind : Kind) → is_among ks k.MetaComma ≡ false → is_among ks k.VoidBeforeOperand ≡ false
    → is_among ks (kind_before source behind kind) ≡ true → is_among ks kind ≡ true
unfolding kind_before
before_among ks source behind kind m v h = go (is_same kind k.Comma) (meta_name_follows behind) (is_same kind k.Void) (operand_follows source behind) h
  where
    go : (a b c d : Bool) → is_among ks (cond a (cond b k.MetaComma kind) (cond c (cond d k.VoidBeforeOperand kind) kind)) ≡ true → is_among ks kind ≡ true
    go true true c d h = cc
    go true false c d h = h
    go false b true true h = cc
    go false b true false h = h
    go false b false d h = h

width_of : (kind : TokenKind) (text : List ℕ) (equals integer : Bool) → is_among widths (token_kind kind text equals integer) ≡ true → (1 ≤ token_number kind text) × (token_number kind text ≤ 128)
unfolding is_same
width_of tokens.Word text e i h = other_width text (word_by widths text refl refl refl refl h)
width_of tokens.Label text e i h = cc
width_of tokens.Integer text e i h = absurd (integer_no_width text h)
width_of tokens.Float text e i h = cc
width_of tokens.Local text true i h = cc
width_of tokens.Local text false i h = cc
width_of tokens.Global text e i h = absurd (global_without widths text refl refl refl h)
width_of tokens.MetaName text true i h = cc
width_of tokens.MetaName text false i h = cc
width_of tokens.MetaNumber text e i h = cc
width_of tokens.Bang text e i h = cc
width_of tokens.AttrNumber text e i h = cc
width_of tokens.DebugRecord text e i h = cc
width_of tokens.Text text e i h = absurd (neither_among widths k.Text k.OtherLayout refl refl (is_layout_taken text) h)
width_of tokens.Bytes text e i h = cc
width_of tokens.Mark text e i h = absurd (mark_without widths text i refl refl refl refl h)

count_of : (kind : TokenKind) (text : List ℕ) (equals integer : Bool) → is_among counts (token_kind kind text equals integer) ≡ true → token_number kind text < 2 ^ 64
unfolding is_same
count_of tokens.Word text e i h = absurd (other_count text (word_by counts text refl refl refl refl h))
count_of tokens.Label text e i h = cc
count_of tokens.Integer text e i h = integer_below text h
count_of tokens.Float text e i h = cc
count_of tokens.Local text true i h = cc
count_of tokens.Local text false i h = cc
count_of tokens.Global text e i h = absurd (global_without counts text refl refl refl h)
count_of tokens.MetaName text true i h = cc
count_of tokens.MetaName text false i h = cc
count_of tokens.MetaNumber text e i h = cc
count_of tokens.Bang text e i h = cc
count_of tokens.AttrNumber text e i h = cc
count_of tokens.DebugRecord text e i h = cc
count_of tokens.Text text e i h = absurd (neither_among counts k.Text k.OtherLayout refl refl (is_layout_taken text) h)
count_of tokens.Bytes text e i h = cc
count_of tokens.Mark text e i h = absurd (mark_without counts text i refl refl refl refl h)

terminal_ranged : (source : List ℕ) (t : Token) (behind : List Token) → IsInRange (terminal_of source t behind)
terminal_ranged source t behind = record {
  width = λ h. width_of t.kind (bytes_of source t) (equals_follows source behind) (integer_follows behind) (before_among widths source behind _ (unfold is_same in refl) (unfold is_same in refl) h);
  count = λ h. count_of t.kind (bytes_of source t) (equals_follows source behind) (integer_follows behind) (before_among counts source behind _ (unfold is_same in refl) (unfold is_same in refl) h);
}

end_ranged : (place : Place) → IsInRange (end_of_text place)
unfolding is_same
end_ranged place = record { width = λ h. cc; count = λ h. cc }

terminals_ranged : (source : List ℕ) (ts : List Token) → All IsInRange (terminals_of source ts)
terminals_ranged source [] = All-nil IsInRange
terminals_ranged source (t ∷ ts) = All-cons IsInRange (terminal_of source t ts) (terminals_of source ts) (terminal_ranged source t ts) (terminals_ranged source ts)

-- the numbers of a whole text's tokens are in their ranges
pub text_ranged : (source : List ℕ) (ts : List Token) (place : Place) → All IsInRange (text_of source ts place)
text_ranged source ts place = All-append IsInRange (terminals_of source ts) (end_of_text place ∷ []) (terminals_ranged source ts) (All-cons IsInRange (end_of_text place) [] (end_ranged place) (All-nil IsInRange))

-- the kind of the end of a text
abbrev the_end : List Kind
the_end = k.End ∷ []

-- of two kinds that aren't among these, neither is
not_among : (ks : List Kind) (c : Bool) (a b : Kind) → is_among ks a ≡ false → is_among ks b ≡ false → is_among ks (cond c a b) ≡ false
not_among ks true a b p q = p
not_among ks false a b p q = q

other_no_end : (text : List ℕ) → is_among the_end (other_word text) ≡ false
unfolding is_same other_word
other_no_end text =
    let n : ℕ = number_of (drop 1 text) in
    not_among the_end (is_int_type text) (int_kind n) _
    (not_among the_end (n == 0) k.EmptyIntType _ refl (not_among the_end (n == 1) k.BitType _ refl (not_among the_end (nat_le n 128) k.IntType k.WideIntType refl refl)))
    (not_among the_end (starts_with nat_eq text (codes "$")) k.DollarWord _ refl (not_among the_end (starts_with nat_eq text (codes "u0x") || starts_with nat_eq text (codes "s0x")) k.HexWord k.Word refl refl))

count_no_end : (n : ℕ) → is_among the_end (count_kind n) ≡ false
unfolding is_same
count_no_end n =
    not_among the_end (is_power_of_two n) _ _
    (not_among the_end (nat_le n 16) k.SmallPower _ refl (not_among the_end (nat_lt n (2 ^ 64)) k.Power k.GreatPower refl refl))
    (not_among the_end (nat_lt n (2 ^ 64)) k.Count k.Great refl refl)

integer_no_end : (text : List ℕ) → is_among the_end (integer_kind text) ≡ false
unfolding is_same integer_kind
integer_no_end text = not_among the_end (starts_with nat_eq text (codes "-") && not (number_of (digits_of text) == 0)) k.Negative _ refl (count_no_end (number_of (digits_of text)))

no_end : (kind : TokenKind) (text : List ℕ) (equals integer : Bool) → is_among the_end (token_kind kind text equals integer) ≡ true → ⊥
unfolding is_same
no_end tokens.Word text e i h = let p : is_among the_end (other_word text) ≡ true = word_by the_end text refl refl refl refl h in let q = other_no_end text in cc
no_end tokens.Label text e i h = cc
no_end tokens.Integer text e i h = let q = integer_no_end text in cc
no_end tokens.Float text e i h = cc
no_end tokens.Local text true i h = cc
no_end tokens.Local text false i h = cc
no_end tokens.Global text e i h = global_without the_end text refl refl refl h
no_end tokens.MetaName text true i h = cc
no_end tokens.MetaName text false i h = cc
no_end tokens.MetaNumber text e i h = cc
no_end tokens.Bang text e i h = cc
no_end tokens.AttrNumber text e i h = cc
no_end tokens.DebugRecord text e i h = cc
no_end tokens.Text text e i h = neither_among the_end k.Text k.OtherLayout refl refl (is_layout_taken text) h
no_end tokens.Bytes text e i h = cc
no_end tokens.Mark text e i h = mark_without the_end text i refl refl refl refl h

-- no token of a text is its end
pub text_has_no_end : (source : List ℕ) (ts : List Token) → Each (λ t. is_among (k.End ∷ []) t.kind ≡ true → ⊥) (terminals_of source ts)
text_has_no_end source [] = tt
text_has_no_end source (t ∷ ts) = (
  (λ h. no_end t.kind (bytes_of source t) (equals_follows source ts) (integer_follows ts) (before_among the_end source ts _ (unfold is_same in refl) (unfold is_same in refl) h)),
  text_has_no_end source ts,
)
