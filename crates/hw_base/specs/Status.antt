-- The exit status of each way to end. This project's choice.
use Rattle.std.specs.Prelude.{ℕ}
use Rattle.hw_base.specs.declared.endings.Status.{Status}
use Rattle.hw_base.specs.declared.endings.Status.TheVariants.{Ended, Reported, BadWords, Refused, FileFault, ReadFault, WriteFault, Memory, Trapped, Spent, Full, Missed, Outside}

-- the number of a status
abbrev pub status_number : Status → ℕ
status_number Ended = 0
status_number Reported = 1
status_number BadWords = 2
status_number Refused = 3
status_number FileFault = 4
status_number ReadFault = 5
status_number WriteFault = 6
status_number Memory = 7
status_number Trapped = 8
status_number Spent = 9
status_number Full = 10
status_number Missed = 11
status_number Outside = 12
