-- What is left to draw.
use Rattle.std.specs.Prelude.{◌≡◌, ℕ, ◌+◌}
use Rattle.hw_tags.specs.declared.words_spec.WordsSpec.{WordsSpec}
use Rattle.hw_tags.specs.declared.words.Source.{Source}
use Rattle.hw_tags.specs.declared.words.Source.TheVariants.{Repeated, Generated}
use Rattle.hw_tags.specs.declared.words.Words.{Words}
use Rattle.hw_tags.specs.Word.{repeated, generated, word}

-- the word that draw number k from now on gives, counted from 0
abbrev pub coming_from : Source → ℕ → ℕ
coming_from (Repeated r) k = repeated r.list (r.at + k)
coming_from (Generated g) k = generated g k

abbrev pub coming : Words → ℕ → ℕ
coming words k = coming_from words.source k

-- what is left to draw are the words of a specification from word i on
pub record AreWordsFrom (spec : WordsSpec) (i : ℕ) (words : Words) : Type 0 where
  pub same : (k : ℕ) → coming words k ≡ word spec (i + k)
