use Rattle.std.proofs.Common.{◌≡◌, ◌+◌, ◌/◌, length, Some}
use Rattle.ir_first_values.specs.FirstValues.{string_pieces}
use Rattle.ir_first_values.specs.Answers.{behind}
use Rattle.ir_first_values.proofs.values.put_bytes.Given as goal

abbrev pub invariant-loop-rest : goal.invariant-loop-rest
invariant-loop-rest l =
    (behind l.parts (Some (string_pieces (length l.rest / 16) l.place l.rest)) ≡ behind l.fn.parts (Some (string_pieces (length l.bytes / 16) l.at l.bytes)))
    × (l.place + length l.rest ≡ l.at + length l.bytes)

abbrev pub decreases-loop-rest : goal.decreases-loop-rest
decreases-loop-rest l = length l.rest
