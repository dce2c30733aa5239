use Rattle.std.proofs.Common.{length, ◌-◌, ◌≡◌, false, drop, ◌+◌, ◌≤◌}
use Rattle.ir_lex.specs.Gaps.{gap_length}
use Rattle.ir_lex.proofs.gaps.gap_len.Given as goal

abbrev pub invariant-loop-n : goal.invariant-loop-n
invariant-loop-n l = record {
  within : l.n ≤ length l.bytes;
  gap : gap_length l.comment (drop l.n l.bytes) + l.n ≡ gap_length false l.bytes;
}

abbrev pub decreases-loop-n : goal.decreases-loop-n
decreases-loop-n l = length l.bytes - l.n
