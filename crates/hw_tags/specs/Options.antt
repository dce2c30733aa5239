-- The ranges of the options of a run. This project's choice.
use Rattle.std.specs.Prelude.{◌≡◌, ℕ, ◌%◌, ◌≤◌}
use Rattle.hw_base.specs.declared.numbers.TheConstants.{MOST_HEAP, MOST_RING, MOST_STEPS}
use Rattle.hw_tags.specs.declared.words_spec.WordsSpec.{WordsSpec}
use Rattle.hw_tags.specs.Word.{IsWordsSpec}

-- a bound on the source steps
pub record IsStepBound (steps : ℕ) : Type 0 where
  pub at_least : 1 ≤ steps
  pub at_most : steps ≤ MOST_STEPS

-- a size of the heap in bytes, which is whole granules of 16 bytes
pub record IsHeapSize (heap : ℕ) : Type 0 where
  pub granules : heap % 16 ≡ 0
  pub at_least : 16 ≤ heap
  pub at_most : heap ≤ MOST_HEAP

-- a number of ended frames, and of freed blocks, that a task remembers
pub record IsRingSize (ring : ℕ) : Type 0 where
  pub at_least : 1 ≤ ring
  pub at_most : ring ≤ MOST_RING

-- each option is in its range
pub record IsOptions (tags turns : WordsSpec) (steps heap ring : ℕ) : Type 0 where
  pub tags_in_range : IsWordsSpec tags
  pub turns_in_range : IsWordsSpec turns
  pub steps_in_range : IsStepBound steps
  pub heap_in_range : IsHeapSize heap
  pub ring_in_range : IsRingSize ring
