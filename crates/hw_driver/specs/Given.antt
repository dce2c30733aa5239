-- The options that are given are in their ranges.
use Rattle.std.specs.Prelude.{ℕ, Option, Some, None, IsSome, option_map}
use Rattle.std.specs.Option.{ForSome}
use Rattle.hw_tags.specs.Options.{IsHeapSize, IsRingSize, IsStepBound}
use Rattle.hw_tags.specs.declared.words_spec.WordsSpec.{WordsSpec}
use Rattle.hw_tags.specs.declared.words_spec.WordsSpec.TheVariants as spec
use Rattle.hw_driver.specs.Line.{tag_list}
use Rattle.hw_driver.specs.declared.command.Given.{Given}
use Rattle.hw_driver.specs.declared.command.TagWords.{TagWords}
use Rattle.hw_driver.specs.declared.command.TagWords.TheVariants.{List as Listed, Seed}

-- the tag words that are given, if a text that is given is a list of them
abbrev pub words_view : TagWords → Option WordsSpec
words_view (Listed text) = option_map spec.Cycle (tag_list text.now)
words_view (Seed seed) = Some (spec.Seed seed)

abbrev pub tags_view : Option TagWords → Option WordsSpec
tags_view None = None
tags_view (Some words) = words_view words

abbrev pub HasTags : Option TagWords → Type 0
HasTags tags = ForSome tags (λ words. IsSome (words_view words))

abbrev pub HasBound : Option ℕ → Type 0
HasBound steps = ForSome steps IsStepBound

abbrev pub HasRing : Option ℕ → Type 0
HasRing ring = ForSome ring IsRingSize

abbrev pub HasHeap : Option ℕ → Type 0
HasHeap heap = ForSome heap IsHeapSize

pub record IsGiven (given : Given) : Type 0 where
  pub tags : HasTags given.tags
  pub steps : HasBound given.steps
  pub ring : HasRing given.ring
  pub heap : HasHeap given.heap
