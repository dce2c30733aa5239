-- A list of tag words, read from its front.
use Rattle.std.proofs.Common.{◌≡◌, ℕ, suc, ◌+◌, ◌-◌, ◌<◌, ◌≤◌, Bool, true, false, List, [], ◌∷◌, ◌++◌, length, refl, sym, ◌∙◌, ap, subst, arith, Some, None, append-nil, append_assoc}
use Rattle.std.specs.Prelude.{◌==◌, Option, IsSome, not, cond, nat_le, option_map, if◌then◌else◌}
use Rattle.std.specs.Option.{is_some}
use Rattle.std.specs.List.{onto_first, before_first, after_first, position_or_len}
use Rattle.std.proofs.lemmas.List.Splits.{slice_split_first, length-slice_split}
use Rattle.std.proofs.lemmas.Bool.Decides.{nat_tests}
use Rattle.hw_base.specs.declared.numbers.TheConstants.{MOST_WORDS}
use Rattle.hw_tags.specs.Word.{IsWordsSpec}
use Rattle.hw_tags.specs.declared.words_spec.WordsSpec.TheVariants.{Cycle}
use Rattle.hw_driver.specs.Line.{tag_word, tag_list, word_before, words_of, at_most, parts}

-- ---- how many

length-word_before : (word : Option ℕ) (words : Option (List ℕ)) (n : ℕ) (all : List ℕ) → ((rest : List ℕ) → words ≡ Some rest → length rest ≡ n)
    → word_before word words ≡ Some all → length all ≡ suc n
length-word_before None words n all rest is = cc
length-word_before (Some w) None n all rest is = cc
length-word_before (Some w) (Some ws) n all rest is = let same : w ∷ ws ≡ all = cc in ap length (sym same) ∙ ap suc (rest ws refl)

-- as many words as texts
length-words_of : (texts : List (List ℕ)) (words : List ℕ) → words_of texts ≡ Some words → length words ≡ length texts
length-words_of [] words is = let same : [] ≡ words = cc in ap length (sym same)
length-words_of (text ∷ texts) words is = length-word_before (tag_word text) (words_of texts) (length texts) words (λ rest e. length-words_of texts rest e) is

-- ---- the first part

-- a text with a comma: the part before it, and the parts of the text after it
pub parts_first : (text first more : List ℕ) → first ≡ before_first (λ b. b == 44) text → more ≡ after_first (λ b. b == 44) text
    → position_or_len (λ b. b == 44) text < length text → parts text ≡ first ∷ parts more
parts_first text first more is rest within = slice_split_first (λ b. b == 44) text 0 within ∙ ap (λ x. x ∷ parts (after_first (λ b. b == 44) text)) (sym is) ∙ ap (λ x. first ∷ parts x) (sym rest)

-- a text has a part
some_part : (text : List ℕ) → 1 ≤ length (parts text)
some_part text = omega (arith, length-slice_split (λ b. b == 44) text)

-- ---- the test

no_word : (most : ℕ) (word : Option ℕ) (words : Option (List ℕ)) → is_some word ≡ false → is_some (at_most most (word_before word words)) ≡ false
no_word most None words is = refl
no_word most (Some w) words is = cc

too_many : (most n : ℕ) (words : Option (List ℕ)) → ((all : List ℕ) → words ≡ Some all → length all ≡ n) → most < n → is_some (at_most most words) ≡ false
too_many most n None many less = refl
too_many most n (Some all) many less = by_length (length all) (many all refl)
  where
    by_length : (k : ℕ) → k ≡ n → is_some (at_most most (Some all)) ≡ false
    by_length k is = grind (arith, nat_tests)

-- a text with a comma isn't one word
pub test_full : (most : ℕ) (text first more : List ℕ) → parts text ≡ first ∷ parts more → most ≤ 1 → is_some (at_most most (words_of (parts text))) ≡ false
test_full most text first more is less =
    too_many most (length (parts text)) (words_of (parts text)) (λ all e. length-words_of (parts text) all e) (omega (arith, some_part more, ap length is))

pub test_not : (most : ℕ) (text first more : List ℕ) → parts text ≡ first ∷ parts more → is_some (tag_word first) ≡ false → is_some (at_most most (words_of (parts text))) ≡ false
test_not most text first more is none = ap (λ x. is_some (at_most most (words_of x))) is ∙ no_word most (tag_word first) (words_of (parts more)) none

one_less : (most : ℕ) (word : Option ℕ) (words : Option (List ℕ)) → IsSome word → 1 < most → is_some (at_most most (word_before word words)) ≡ is_some (at_most (most - 1) words)
one_less most None words some less = cc
one_less most (Some w) None some less = refl
one_less most (Some w) (Some ws) some less = grind (arith, nat_tests)

-- a word at the front leaves room for one less
pub test_more : (most : ℕ) (text first more : List ℕ) → parts text ≡ first ∷ parts more → IsSome (tag_word first) → 1 < most
    → is_some (at_most (most - 1) (words_of (parts more))) ≡ is_some (at_most most (words_of (parts text)))
test_more most text first more is some less = sym (ap (λ x. is_some (at_most most (words_of x))) is ∙ one_less most (tag_word first) (words_of (parts more)) some less)

-- ---- the last part

last_by : (x : ℕ) (xs : List ℕ) (b : Bool) → (x == 44) ≡ b → cond (not b) (1 + position_or_len (λ c. c == 44) xs) 0 ≡ suc (length xs)
    → (position_or_len (λ c. c == 44) xs ≡ length xs → parts xs ≡ xs ∷ []) → cond b ([] ∷ parts xs) (onto_first x (parts xs)) ≡ (x ∷ xs) ∷ []
last_by x xs true is at rest = absurd (omega (arith, at))
last_by x xs false is at rest = ap (onto_first x) (rest (omega (arith, at)))

-- a text without a comma is its one part
pub parts_last : (text : List ℕ) → position_or_len (λ b. b == 44) text ≡ length text → parts text ≡ text ∷ []
parts_last [] at = refl
parts_last (x ∷ xs) at = last_by x xs (x == 44) refl at (parts_last xs)

one_word : (most : ℕ) (word : Option ℕ) → 1 ≤ most → is_some (at_most most (word_before word (Some []))) ≡ is_some word
one_word most None less = refl
one_word most (Some w) less = grind (arith, nat_tests)

pub test_last : (most : ℕ) (text : List ℕ) → parts text ≡ text ∷ [] → 1 ≤ most → is_some (tag_word text) ≡ is_some (at_most most (words_of (parts text)))
test_last most text is less = sym (ap (λ x. is_some (at_most most (words_of x))) is ∙ one_word most (tag_word text) less)

-- ---- what is read

some_words : (most : ℕ) (words : Option (List ℕ)) → IsSome (at_most most words) → at_most most words ≡ words
some_words most None some = refl
some_words most (Some all) some = grind (arith, nat_tests)

-- a list of tag words has all words of its parts
pub tag_list_words : (text : List ℕ) → IsSome (tag_list text) → tag_list text ≡ words_of (parts text)
unfolding tag_list
tag_list_words text some = some_words MOST_WORDS (words_of (parts text)) some

word_by : (list : List ℕ) (word : Option ℕ) (words other : Option (List ℕ)) → option_map (λ ws. list ++ ws) (word_before word words) ≡ other → IsSome other → IsSome word
word_by list None words other is some = cc
word_by list (Some w) words other is some = refl

-- the next part is a word
pub word_there : (list text first : List ℕ) (rest : List (List ℕ)) (other : Option (List ℕ)) → parts text ≡ first ∷ rest
    → option_map (λ ws. list ++ ws) (words_of (parts text)) ≡ other → IsSome other → IsSome (tag_word first)
word_there list text first rest other is same some =
    word_by list (tag_word first) (words_of rest) other (sym (ap (λ x. option_map (λ ws. list ++ ws) (words_of x)) is) ∙ same) some

word_moves : (list : List ℕ) (w : ℕ) (words : Option (List ℕ)) → option_map (λ ws. list ++ ws) (word_before (Some w) words) ≡ option_map (λ ws. (list ++ w ∷ []) ++ ws) words
word_moves list w None = refl
word_moves list w (Some ws) = ap Some (sym (append_assoc list (w ∷ []) ws))

-- a word that was read is at the end of the list
pub word_read : (list more_list text first : List ℕ) (w : ℕ) (rest : List (List ℕ)) → parts text ≡ first ∷ rest → tag_word first ≡ Some w → more_list ≡ list ++ w ∷ []
    → option_map (λ ws. more_list ++ ws) (words_of rest) ≡ option_map (λ ws. list ++ ws) (words_of (parts text))
word_read list more_list text first w rest is word more =
    ap (λ (l : List ℕ). option_map (λ ws. l ++ ws) (words_of rest)) more
    ∙ sym (ap (λ x. option_map (λ ws. list ++ ws) (words_of x)) is ∙ ap (λ o. option_map (λ ws. list ++ ws) (word_before o (words_of rest))) word ∙ word_moves list w (words_of rest))

-- and the last one ends it
pub words_end : (list : List ℕ) → option_map (λ ws. list ++ ws) (words_of []) ≡ Some list
words_end list = ap Some (append-nil list)

-- ---- as options

limited : (most : ℕ) (words : Option (List ℕ)) (list : List ℕ) → at_most most words ≡ Some list → (words ≡ Some list) × (length list ≤ most)
limited most None list is = cc
limited most (Some all) list is = by_test (nat_le (length all) most) refl is
  where
    by_test : (b : Bool) → nat_le (length all) most ≡ b → (if b then Some all else None) ≡ Some list → (Some all ≡ Some list) × (length list ≤ most)
    by_test true less is = let same : all ≡ list = cc in (is, subst (λ (l : List ℕ). length l ≤ most) same (grind (arith, nat_tests)))
    by_test false less is = cc

same_words : (list other : List ℕ) → Cycle list ≡ Cycle other → list ≡ other
same_words list other is = cc

pub cycle_range : (text list : List ℕ) → tag_list text ≡ Some list → IsWordsSpec (Cycle list)
unfolding tag_list
cycle_range text list is = by (limited MOST_WORDS (words_of (parts text)) list is)
  where
    by : (words_of (parts text) ≡ Some list) × (length list ≤ MOST_WORDS) → IsWordsSpec (Cycle list)
    by b = record {
      not_empty = λ other same. subst (λ (l : List ℕ). 0 < length l) (same_words list other same) (omega (arith, some_part text, length-words_of (parts text) list b.0));
      not_long = λ other same. subst (λ (l : List ℕ). length l ≤ MOST_WORDS) (same_words list other same) b.1;
    }

some_map : (words : Option (List ℕ)) → IsSome (option_map Cycle words) → IsSome words
some_map None some = cc
some_map (Some list) some = refl

-- a text that is given as a list is one
pub listed : (text : List ℕ) → IsSome (option_map Cycle (tag_list text)) → IsSome (tag_list text)
listed text some = some_map (tag_list text) some
