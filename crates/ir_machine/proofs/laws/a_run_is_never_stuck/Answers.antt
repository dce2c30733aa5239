use Rattle.std.proofs.Common.{refl}
use Rattle.hw_tags.specs.Word.{word}
use Rattle.ir_machine.specs.Runs.{setting_of}
use Rattle.ir_machine.proofs.WorldPlaces.{machine_run-not_stuck}
use Rattle.ir_machine.proofs.laws.a_run_is_never_stuck.Goals as goal

pub returns-clause-options : goal.returns-clause-options
returns-clause-options c program options input runnable =
    machine_run-not_stuck program runnable (setting_of program options input) refl refl (word options.turns) options.steps

pub returns-clause-any_setting : goal.returns-clause-any_setting
returns-clause-any_setting c setting turns bound runnable code =
    machine_run-not_stuck setting.program runnable setting code refl turns bound
