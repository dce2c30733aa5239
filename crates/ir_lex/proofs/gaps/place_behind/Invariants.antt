use Rattle.std.proofs.Common.{◌≡◌, take, ◌+◌, ◌≤◌}
use Rattle.std.specs.Prelude.{fold}
use Rattle.ir_lex.specs.Gaps.{place_over}
use Rattle.ir_lex.proofs.gaps.place_behind.Given as goal

abbrev pub invariant-loop-b : goal.invariant-loop-b
invariant-loop-b l = record {
  value : l.place ≡ fold place_over l.fn.start (take l.b-index l.bytes);
  line : l.place.line ≤ l.fn.start.line + l.b-index;
  column : l.place.column ≤ l.fn.start.column + l.b-index;
}
