use Rattle.std.proofs.Common.{All, sym, subst, arith}
use Rattle.std.proofs.lemmas.List.Elements.{All-from_get_or}
use Rattle.ir_first_values.proofs.TextBytes.{IsByte}
use Rattle.ir_read_top.specs.Texts.{IsFaultOf, too_long}
use Rattle.ir_read_top.proofs.DeclaredFunctions.{known_answer}
use Rattle.ir_read_top.proofs.ResolvedFunctions.{resolved_answer}
use Rattle.ir_read_top.proofs.ResolvedModule.{ending_answer}
use Rattle.ir_read_top.proofs.reading.read.Goals as goal

pub returns-then-text-gt-MOST_TEXT-clause-text : goal.returns-then-text-gt-MOST_TEXT-clause-text
returns-then-text-gt-MOST_TEXT-clause-text c = subst (IsFaultOf c.args.text.now) (sym c.refusal_at.ensures) (too_long c.if-text-gt-MOST_TEXT.true)

pub returns-clause-resolved : goal.returns-clause-resolved
returns-clause-resolved c =
    let bytes : All IsByte c.args.text.now = All-from_get_or IsByte c.args.text.now 0 (λ k h. let fits = c.type_inv.text k in omega arith) in
    resolved_answer c.args.text.now c.read_short.result bytes c.read_short.ensures

pub returns-clause-scopes : goal.returns-clause-scopes
returns-clause-scopes c = ending_answer c.args.text.now c.read_short.result c.read_short.ensures

pub returns-clause-known : goal.returns-clause-known
returns-clause-known c = known_answer c.args.text.now c.read_short.result c.read_short.ensures
