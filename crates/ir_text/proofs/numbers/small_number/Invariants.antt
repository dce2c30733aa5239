use Rattle.std.proofs.Common.{◌≡◌, ◌≤◌, length}
use Rattle.ir_text.specs.TokenText.{small_number}
use Rattle.ir_text.proofs.Digits.{number_from}
use Rattle.ir_text.proofs.numbers.small_number.Given as goal

abbrev pub invariant-loop-rest : goal.invariant-loop-rest
invariant-loop-rest l = record { within : l.value ≤ 4294967295; number : number_from l.value l.rest ≡ small_number l.fn.bytes }

abbrev pub decreases-loop-rest : goal.decreases-loop-rest
decreases-loop-rest l = length l.rest
