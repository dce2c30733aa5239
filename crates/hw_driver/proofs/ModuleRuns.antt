-- The run of an accepted module that the machine runs, as a decision.
use Rattle.std.proofs.Common.{ℕ, List}
use Rattle.hw_tags.specs.Word as words
use Rattle.hw_tags.specs.declared.options.Options.{Options}
use Rattle.ir_core.specs.declared.ir_module.Module.{Module}
use Rattle.ir_check_flow.specs.Checked.{IsChecked}
use Rattle.ir_machine.specs.Runs.{setting_of}
use Rattle.detection.proofs.ProgramSettings.{program-setting}
use Rattle.accepted_detection.proofs.NeverStuck.{checked-accepted}
use Rattle.accepted_detection.proofs.Always.{always}
use Rattle.accepted_detection.specs.AcceptedRuns.{DetectsAlways}

-- the detection theorem holds of each run of an accepted module
pub always_detects : (program : Module) (options : Options) (input : List ℕ) → IsChecked program → DetectsAlways (setting_of program options input) (words.word options.turns) options.steps
always_detects program options input checked =
    always (setting_of program options input) (words.word options.turns) options.steps
    (program-setting program options.heap options.ring (words.word options.tags) input checked.runnable options.in_range.heap_in_range) (checked-accepted program checked)
