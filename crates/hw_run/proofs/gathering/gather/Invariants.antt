use Rattle.std.proofs.Common.{◌≡◌, ◌++◌, take}
use Rattle.hw_run.proofs.gathering.gather.Given as goal

abbrev pub invariant-loop-i : goal.invariant-loop-i
invariant-loop-i l = l.output ≡ l.initial.output ++ take l.i l.machine.run.printed
