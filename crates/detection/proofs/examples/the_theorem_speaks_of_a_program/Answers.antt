use Rattle.std.proofs.Common.{◌≡◌, ℕ, ◌+◌, ◌*◌, ◌^◌, List, [], ◌∷◌, Some, refl, arith}
use Rattle.hw_tags.specs.Options.{IsHeapSize}
use Rattle.hw_tags.specs.Word.{word}
use Rattle.hw_tags.specs.declared.words_spec.WordsSpec.TheVariants.{Cycle}
use Rattle.detection.proofs.Detected.{detected}
use Rattle.detection.proofs.ProgramSettings.{program-setting}
use Rattle.detection.proofs.SmallProgramRuns.{small_program-runnable}
use Rattle.simulation.specs.Relation.{IsSetting, story_setting}
use Rattle.detection.specs.SmallProgram.{small_program, small_setting}
use Rattle.tag_story.specs.ShownStory.{shown_judgement, judgement_of}
use Rattle.tag_story.specs.declared.judgement.Judgement.TheVariants.{Refused}
use Rattle.tag_story.specs.declared.judgement.Refusing.TheVariants.{Granule}
use Rattle.detection.proofs.ShownReports.{exit_of, shown-exited, shown-reported}
use Rattle.detection.specs.Detection.{told_run_of}
use Rattle.detection.proofs.examples.the_theorem_speaks_of_a_program.Goals as goal

small-heap : IsHeapSize 64
small-heap = record { granules = refl; at_least = omega arith; at_most = omega arith }

small-is : (off : ℕ) (tags : List ℕ) → IsSetting (small_setting off tags)
small-is off tags = program-setting (small_program off) 64 1 (word (Cycle tags)) [] (small_program-runnable off) small-heap

pub returns-clause-runs : goal.returns-clause-runs
returns-clause-runs c off = small_program-runnable off

pub returns-clause-has_settings : goal.returns-clause-has_settings
returns-clause-has_settings c off tags = small-is off tags

pub returns-clause-detects : goal.returns-clause-detects
returns-clause-detects c off tags turns bound = detected (small_setting off tags) turns bound (small-is off tags)

small-exits : exit_of (told_run_of (small_setting 9 (41 ∷ [])) (word (Cycle (0 ∷ []))) 20) ≡ Some 0
unfolding shown_judgement
small-exits = refl

pub returns-clause-kept : goal.returns-clause-kept
returns-clause-kept c = shown-exited (small_setting 9 (41 ∷ [])) (word (Cycle (0 ∷ []))) (small-is 9 (41 ∷ [])) 0 small-exits

pub returns-clause-refused : goal.returns-clause-refused
unfolding shown_judgement
returns-clause-refused c = refl

pub returns-clause-missed : goal.returns-clause-missed
unfolding shown_judgement
returns-clause-missed c = refl

small-shown : judgement_of (story_setting (small_setting 10 (41 ∷ []))) (told_run_of (small_setting 10 (41 ∷ [])) (word (Cycle (0 ∷ []))) 20) ≡ Some (record { number = 42 * 2 ^ 56 + 536870922; judgement = Refused (Granule 536870912 42 10 (Some 42) 11) })
unfolding shown_judgement
small-shown = refl

pub returns-clause-reported : goal.returns-clause-reported
returns-clause-reported c =
    shown-reported (small_setting 10 (41 ∷ [])) (word (Cycle (0 ∷ []))) (small-is 10 (41 ∷ [])) (42 * 2 ^ 56 + 536870922) (Granule 536870912 42 10 (Some 42) 11) small-shown
