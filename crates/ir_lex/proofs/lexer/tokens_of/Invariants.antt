use Rattle.std.proofs.Common.{length, ◌-◌, ◌≡◌}
use Rattle.ir_lex.proofs.Scans.{IsScanned}
use Rattle.ir_lex.proofs.lexer.tokens_of.Given as goal

abbrev pub invariant-loop-cursor : goal.invariant-loop-cursor
invariant-loop-cursor l = record {
  text : l.cursor.text.now ≡ l.fn.text;
  source : l.tokens.source ≡ l.fn.text;
  scanned : IsScanned l.fn.text l.tokens.tokens l.cursor.at;
}

abbrev pub decreases-loop-cursor : goal.decreases-loop-cursor
decreases-loop-cursor l = length l.fn.text - l.cursor.at
