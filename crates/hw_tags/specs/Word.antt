-- The words of a specification by their index alone, counted from 0. A word is a byte.
use Rattle.std.specs.Prelude.{◌≡◌, ℕ, ◌%◌, ◌^◌, ◌<◌, ◌≤◌, List, length, slice_index}
use Rattle.hw_base.specs.declared.numbers.TheConstants.{MOST_WORDS}
use Rattle.rand_pcg.specs.Lcg.{Lcg, advance, started, increment_of}
use Rattle.rand_pcg.specs.Pcg.{multiplier_64, pcg32}
use Rattle.hw_tags.specs.declared.words_spec.WordsSpec.{WordsSpec}
use Rattle.hw_tags.specs.declared.words_spec.WordsSpec.TheVariants.{Cycle, Seed}

-- item i of a list that repeats
unfoldable pub repeated : List ℕ → ℕ → ℕ
repeated list i = slice_index list (i % length list)

-- the low byte of the i-th output from a generator on
unfoldable pub generated : Lcg → ℕ → ℕ
generated generator i = (pcg32 (advance 64 multiplier_64 i generator)).0 % 2 ^ 8

-- the generator of a seed, on stream 1
abbrev pub generator_of : ℕ → Lcg
generator_of seed = started 64 multiplier_64 seed (increment_of 64 1)

-- word i of a specification
unfoldable pub word : WordsSpec → ℕ → ℕ
word (Cycle list) i = repeated list i
word (Seed seed) i = generated (generator_of seed) i

-- a list of words has one at least
abbrev pub IsNotEmpty : WordsSpec → Type 0
IsNotEmpty spec = (list : List ℕ) → spec ≡ Cycle list → 0 < length list

-- a list of words has as many as `MOST_WORDS` at most, and one at least
pub record IsWordsSpec (spec : WordsSpec) : Type 0 where
  pub not_empty : IsNotEmpty spec
  pub not_long : (list : List ℕ) → spec ≡ Cycle list → length list ≤ MOST_WORDS
