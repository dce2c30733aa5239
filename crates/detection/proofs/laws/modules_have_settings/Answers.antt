use Rattle.hw_tags.specs.Word as words
use Rattle.detection.proofs.ProgramSettings.{program-setting}
use Rattle.detection.proofs.laws.modules_have_settings.Goals as goal

pub returns-clause-any_words : goal.returns-clause-any_words
returns-clause-any_words c program heap ring word input runnable sized =
    program-setting program heap ring word input runnable sized

pub returns-clause-options : goal.returns-clause-options
returns-clause-options c program options input runnable =
    program-setting program options.heap options.ring (words.word options.tags) input runnable options.in_range.heap_in_range
