-- The first words of three seeds, from the published algorithm, so that a wrong constant or step in the definition
-- doesn't check.
use Rattle.std.proofs.Common.{◌≡◌, ℕ, List, [], ◌∷◌, map, refl}
use Rattle.rand_pcg.specs.Lcg.{state_after}
use Rattle.hw_tags.specs.declared.words_spec.WordsSpec.{WordsSpec}
use Rattle.hw_tags.specs.declared.words_spec.WordsSpec.TheVariants.{Cycle, Seed}
use Rattle.hw_tags.specs.Word.{repeated, generated, word}

abbrev first_words : WordsSpec → List ℕ
first_words spec = map (word spec) (0 ∷ 1 ∷ 2 ∷ 3 ∷ 4 ∷ 5 ∷ 6 ∷ 7 ∷ [])

pub word_seed-0 : first_words (Seed 0) ≡ 169 ∷ 221 ∷ 244 ∷ 49 ∷ 137 ∷ 3 ∷ 122 ∷ 156 ∷ []
unfolding word generated state_after
word_seed-0 = refl

pub word_seed-1 : first_words (Seed 1) ≡ 145 ∷ 116 ∷ 87 ∷ 211 ∷ 86 ∷ 121 ∷ 38 ∷ 51 ∷ []
unfolding word generated state_after
word_seed-1 = refl

pub word_seed-greatest : first_words (Seed 18446744073709551615)
    ≡ 81 ∷ 166 ∷ 189 ∷ 59 ∷ 149 ∷ 133 ∷ 73 ∷ 103 ∷ []
unfolding word generated state_after
word_seed-greatest = refl

pub word_list : first_words (Cycle (7 ∷ 0 ∷ 255 ∷ [])) ≡ 7 ∷ 0 ∷ 255 ∷ 7 ∷ 0 ∷ 255 ∷ 7 ∷ 0 ∷ []
unfolding word repeated
word_list = refl
