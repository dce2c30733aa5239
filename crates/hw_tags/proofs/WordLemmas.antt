-- The words of a list and of a generator, one draw further on.
use Rattle.std.proofs.Common.{◌≡◌, ℕ, ◌+◌, ◌<◌, ◌%◌, ◌^◌, List, length, slice_index, ap, ◌∙◌, arith}
use Rattle.std.proofs.Math.Nat.{add-mod_left, mod-eq_of_lt}
use Rattle.rand_pcg.proofs.LcgLemmas.{advance_zero, advance_more}
use Rattle.rand_pcg.specs.Lcg.{Lcg}
use Rattle.rand_pcg.specs.Pcg.{multiplier_64, pcg32}
use Rattle.hw_tags.specs.declared.words_spec.WordsSpec.{WordsSpec}
use Rattle.hw_tags.specs.declared.words.Words.{Words}
use Rattle.hw_tags.specs.Word.{repeated, generated, word}
use Rattle.hw_tags.specs.Words.{coming, AreWordsFrom}

-- within the list a word is the item
pub repeated_within : (list : List ℕ) (i : ℕ) → i < length list → repeated list i ≡ slice_index list i
unfolding repeated
repeated_within list i within = ap (slice_index list) (mod-eq_of_lt within)

-- after the last item comes the first
pub repeated_again : (list : List ℕ) (i : ℕ) → repeated list (length list + i) ≡ repeated list i
unfolding repeated
repeated_again list i = ap (slice_index list) (add-mod_left (length list) i)

-- the first output of a generator
pub generated_zero : (g : Lcg) → generated g 0 ≡ (pcg32 g).0 % 2 ^ 8
unfolding generated
generated_zero g = ap (λ (h : Lcg). (pcg32 h).0 % 2 ^ 8) (advance_zero 64 multiplier_64 g)

-- the outputs after one step are those from the second on
pub generated_step : (g : Lcg) (k : ℕ) → generated (pcg32 g).1 k ≡ generated g (k + 1)
unfolding generated
generated_step g k = ap (λ (h : Lcg). (pcg32 h).0 % 2 ^ 8) (advance_more 64 multiplier_64 k g)

-- the first of the words to come from word i on is word i
pub coming_zero : (spec : WordsSpec) (i : ℕ) (words : Words) → AreWordsFrom spec i words → coming words 0 ≡ word spec i
coming_zero spec i words from =
    let here : i + 0 ≡ i = omega arith in
    from.same 0 ∙ ap (word spec) here

-- after one draw the words are those from word i + 1 on
pub AreWordsFrom_step : (spec : WordsSpec) (i : ℕ) (old new : Words)
    → ((k : ℕ) → coming new k ≡ coming old (k + 1)) → AreWordsFrom spec i old → AreWordsFrom spec (i + 1) new
AreWordsFrom_step spec i old new rest from = record {
  same = λ k. (let further : i + (k + 1) ≡ i + 1 + k = omega arith in rest k ∙ from.same (k + 1) ∙ ap (word spec) further);
}
