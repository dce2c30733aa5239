use Rattle.hw_tags.specs.Word as words
use Rattle.ir_machine.specs.Runs.{setting_of}
use Rattle.detection.proofs.ProgramSettings.{program-setting}
use Rattle.accepted_detection.proofs.NeverStuck.{checked-accepted}
use Rattle.accepted_detection.proofs.Always.{ends-in-fault}
use Rattle.accepted_detection.proofs.laws.no_report_without_a_violation.Goals as goal

pub returns-clause-any_setting : goal.returns-clause-any_setting
returns-clause-any_setting c setting turns bound last printed raw is accepted report = ends-in-fault setting turns bound is accepted last printed raw report

pub returns-clause-options : goal.returns-clause-options
returns-clause-options c program options input last printed raw checked report =
    ends-in-fault (setting_of program options input) (words.word options.turns) options.steps
    (program-setting program options.heap options.ring (words.word options.tags) input checked.runnable options.in_range.heap_in_range) (checked-accepted program checked) last printed raw report
