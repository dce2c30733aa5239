use Rattle.std.proofs.Common.{[], refl, arith}
use Rattle.hw_tags.specs.Options.{IsHeapSize}
use Rattle.hw_tags.specs.Word.{word}
use Rattle.hw_tags.specs.declared.words_spec.WordsSpec.TheVariants.{Cycle}
use Rattle.detection.proofs.ProgramSettings.{program-setting}
use Rattle.detection.proofs.SmallProgramRuns.{small_program-runnable}
use Rattle.detection.specs.SmallProgram.{small_program, small_setting}
use Rattle.accepted_detection.proofs.Always.{always}
use Rattle.accepted_detection.proofs.NeverStuck.{checked-accepted}
use Rattle.accepted_detection.proofs.SmallProgramChecked.{small_program-checked}
use Rattle.accepted_detection.proofs.examples.the_theorem_speaks_of_accepted_programs.Goals as goal

small-heap : IsHeapSize 64
small-heap = record { granules = refl; at_least = omega arith; at_most = omega arith }

pub returns-clause-checked : goal.returns-clause-checked
returns-clause-checked c off = small_program-checked off

pub returns-clause-detects : goal.returns-clause-detects
returns-clause-detects c off tags turns bound =
    always (small_setting off tags) turns bound (program-setting (small_program off) 64 1 (word (Cycle tags)) [] (small_program-runnable off) small-heap)
    (checked-accepted (small_program off) (small_program-checked off))
