use Rattle.std.proofs.Common.{sym, subst, All}
use Rattle.ir_grammar.specs.SoundStore.{IsInRange}
use Rattle.ir_grammar.proofs.Ranged.{text_ranged}
use Rattle.ir_grammar.proofs.kind_of.terminals.Goals as goal

pub returns-clause-ranges : goal.returns-clause-ranges
returns-clause-ranges c = subst (λ found. All IsInRange found) (sym c.in_ok-found.ensures) (text_ranged c.args.tokens.now.source c.args.tokens.now.tokens c.args.end)
