-- What the story says of a run of a small module, shown by evaluation: the program's map with a small heap, tag words and
-- turn words that repeat, and at most 20 steps. This project's choice.
use Rattle.std.specs.Prelude.{ℕ, List, [], Option, Some, None}
use Rattle.hw_base.specs.AddressMap.{program_map}
use Rattle.hw_base.specs.declared.endings.Full.{Full}
use Rattle.hw_shadow.specs.TagRule.{first_mismatch}
use Rattle.hw_tags.specs.LeastPlace.{first_place}
use Rattle.hw_tags.specs.TaskRuns.{Spent, Ended, IsStuck}
use Rattle.hw_tags.specs.Word.{word}
use Rattle.hw_tags.specs.declared.words_spec.WordsSpec.TheVariants.{Cycle}
use Rattle.global_tags.specs.GlobalPlaces.{constants_size, variables_size}
use Rattle.ir_core.specs.declared.ir_module.Module.{Module}
use Rattle.ir_meaning.specs.State.{SourceEnding, Violated}
use Rattle.ir_meaning.specs.Shown as source
use Rattle.tag_story.specs.declared.judgement.Judgement.{Judgement}
use Rattle.tag_story.specs.Story.{StorySetting, pointer_number}
use Rattle.tag_story.specs.StoryTags.{owner_in, owner_from, freed_tag}
use Rattle.tag_story.specs.Telling.{variables_from, told, all_told}
use Rattle.tag_story.specs.Judging.{block_tag_at, judged}
use Rattle.tag_story.specs.ToldRun.{ToldEnding, AsSource, IsFull, ToldWorld, ToldRunOutcome, told_start, told_run}

-- naming this definition in a line `unfolding` opens all that its own line names
unfoldable pub story_is_computed : ℕ
unfolding source.run_is_computed program_map first_mismatch first_place constants_size variables_size owner_in owner_from freed_tag variables_from told all_told block_tag_at judged told_start told_run
story_is_computed = 0

abbrev pub setting : Module → (heap : ℕ) → (tags : List ℕ) → StorySetting
setting program heap tags = record { places = program_map heap; program = program; word = word (Cycle tags) }

abbrev pub told_example : Module → (heap : ℕ) → (tags turns : List ℕ) → ToldRunOutcome
told_example program heap tags turns = told_run (setting program heap tags) [] (word (Cycle turns)) 20

-- the number and the judgement of a violation
pub record Shown : Type 0 where
  pub number : ℕ
  pub judgement : Judgement

abbrev pub violation_shown : StorySetting → ToldWorld → SourceEnding → Option Shown
violation_shown e v (Violated violation) =
    Some (record {
      number = pointer_number v.shared.story violation.pointer;
      judgement = judged e v.shared.story v.shared.source.births violation;
    })
violation_shown e v ending = None

abbrev pub ending_shown : StorySetting → ToldWorld → ToldEnding → Option Shown
ending_shown e v (AsSource ending) = violation_shown e v ending
ending_shown e v (IsFull full) = None

abbrev pub judgement_of : StorySetting → ToldRunOutcome → Option Shown
judgement_of e (Spent v reports) = None
judgement_of e (Ended v reports ending) = ending_shown e v ending
judgement_of e IsStuck = None

-- the violation of an example
unfoldable pub shown_judgement : Module → (heap : ℕ) → (tags turns : List ℕ) → Option Shown
unfolding story_is_computed
shown_judgement program heap tags turns = judgement_of (setting program heap tags) (told_example program heap tags turns)

-- where a story is full: its numbers, and the step
pub record ShownFull : Type 0 where
  pub full : Full
  pub step : ℕ

abbrev pub full_in : ToldWorld → ToldEnding → Option ShownFull
full_in v (AsSource ending) = None
full_in v (IsFull full) = Some (record { full = full; step = v.steps })

abbrev pub full_of : ToldRunOutcome → Option ShownFull
full_of (Spent v reports) = None
full_of (Ended v reports ending) = full_in v ending
full_of IsStuck = None

-- the end of an example by a full story
unfoldable pub shown_full : Module → (heap : ℕ) → (tags turns : List ℕ) → Option ShownFull
unfolding story_is_computed
shown_full program heap tags turns = full_of (told_example program heap tags turns)
