use Rattle.detection.proofs.ProgramSettings.{program-setting}
use Rattle.detection.specs.Detection.{program_setting}
use Rattle.accepted_detection.proofs.NeverStuck.{checked-accepted, small-until, told-never-stuck, source-never-stuck, typed-until, typed-at-end}
use Rattle.accepted_detection.proofs.laws.accepted_runs_are_never_stuck.Goals as goal

pub returns-clause-small : goal.returns-clause-small
returns-clause-small c setting turns bound t reports is h = small-until setting turns is bound t reports h

pub returns-clause-told : goal.returns-clause-told
returns-clause-told c setting turns bound is accepted = told-never-stuck setting turns is accepted bound

pub returns-clause-source : goal.returns-clause-source
returns-clause-source c setting turns bound is accepted room = source-never-stuck setting turns is accepted bound room

pub returns-clause-registers : goal.returns-clause-registers
returns-clause-registers c setting turns bound t reports is accepted h = typed-until setting turns is accepted bound t reports h

pub returns-clause-last_registers : goal.returns-clause-last_registers
returns-clause-last_registers c setting turns bound t reports ending is accepted h = typed-at-end setting turns is accepted bound t reports ending h

pub returns-clause-checked : goal.returns-clause-checked
returns-clause-checked c program heap ring word turns input bound checked sized =
    told-never-stuck (program_setting program heap ring word input) turns (program-setting program heap ring word input checked.runnable sized) (checked-accepted program checked) bound
