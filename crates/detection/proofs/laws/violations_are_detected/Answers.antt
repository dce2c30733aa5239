use Rattle.hw_tags.specs.Word as words
use Rattle.ir_machine.specs.Runs.{setting_of}
use Rattle.detection.proofs.Detected.{detected}
use Rattle.detection.proofs.ProgramSettings.{program-setting}
use Rattle.detection.specs.Detection.{program_setting}
use Rattle.detection.proofs.laws.violations_are_detected.Goals as goal

pub returns-clause-any_setting : goal.returns-clause-any_setting
returns-clause-any_setting c setting turns bound is = detected setting turns bound is

pub returns-clause-any_words : goal.returns-clause-any_words
returns-clause-any_words c program heap ring word turns input bound runnable sized =
    detected (program_setting program heap ring word input) turns bound (program-setting program heap ring word input runnable sized)

pub returns-clause-options : goal.returns-clause-options
returns-clause-options c program options input runnable =
    detected (setting_of program options input) (words.word options.turns) options.steps
    (program-setting program options.heap options.ring (words.word options.tags) input runnable options.in_range.heap_in_range)
