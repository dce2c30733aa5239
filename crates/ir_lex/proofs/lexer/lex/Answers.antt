use Rattle.ir_lex.proofs.Few.{few_tokens}
use Rattle.ir_lex.proofs.lexer.lex.Goals as goal

pub returns-clause-few : goal.returns-clause-few
returns-clause-few c = few_tokens c.args.text.now _ c.tokens_of.ensures
