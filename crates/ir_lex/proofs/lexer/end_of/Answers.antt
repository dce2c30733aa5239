use Rattle.std.proofs.Common.{[], ◌∙◌}
use Rattle.ir_lex.proofs.Places.{place_fold}
use Rattle.ir_lex.proofs.lexer.end_of.Goals as goal

pub returns : goal.returns
returns c = c.place_behind.ensures ∙ place_fold c.args.text.now []
