use Rattle.hw_tags.specs.Word as words
use Rattle.ir_machine.specs.Runs.{setting_of}
use Rattle.detection.proofs.ProgramSettings.{program-setting}
use Rattle.detection.specs.Detection.{program_setting}
use Rattle.accepted_detection.proofs.NeverStuck.{checked-accepted}
use Rattle.accepted_detection.proofs.Always.{always}
use Rattle.accepted_detection.proofs.laws.violations_of_accepted_modules_are_detected.Goals as goal

pub returns-clause-any_setting : goal.returns-clause-any_setting
returns-clause-any_setting c setting turns bound is accepted = always setting turns bound is accepted

pub returns-clause-any_words : goal.returns-clause-any_words
returns-clause-any_words c program heap ring word turns input bound checked sized =
    always (program_setting program heap ring word input) turns bound (program-setting program heap ring word input checked.runnable sized) (checked-accepted program checked)

pub returns-clause-options : goal.returns-clause-options
returns-clause-options c program options input checked =
    always (setting_of program options input) (words.word options.turns) options.steps
    (program-setting program options.heap options.ring (words.word options.tags) input checked.runnable options.in_range.heap_in_range) (checked-accepted program checked)
