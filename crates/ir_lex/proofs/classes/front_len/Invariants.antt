use Rattle.std.proofs.Common.{length, ◌-◌, ◌≡◌, drop, ◌+◌, ◌≤◌}
use Rattle.std.specs.List.{prefix_len}
use Rattle.ir_lex.specs.Classes.{passes}
use Rattle.ir_lex.proofs.classes.front_len.Given as goal

abbrev pub invariant-loop-n : goal.invariant-loop-n
invariant-loop-n l = record {
  within : l.n ≤ length l.bytes;
  front : prefix_len (passes l.class) (drop l.n l.bytes) + l.n ≡ prefix_len (passes l.class) l.bytes;
}

abbrev pub decreases-loop-n : goal.decreases-loop-n
decreases-loop-n l = length l.bytes - l.n
