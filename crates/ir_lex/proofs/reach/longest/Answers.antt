use Rattle.std.proofs.Common.{get_or, sym, ◌∙◌, ap}
use Rattle.std.proofs.lemmas.List.Sums.{fold_more}
use Rattle.ir_core.specs.declared.token.TokenKind.TheVariants.{Word}
use Rattle.ir_lex.specs.Reach.{longer}
use Rattle.ir_lex.specs.declared.reach.TheConstants.{KINDS}
use Rattle.ir_lex.proofs.Longest.{longer_less, longer_more}
use Rattle.ir_lex.proofs.reach.longest.Goals as goal
use Rattle.ir_lex.proofs.reach.longest.Goals.{then-len-best, else-len-best}

pub loop-kind-preserved : goal.loop-kind-preserved
loop-kind-preserved c =
    let step = fold_more (longer c.args.names c.args.bytes.now) (record { kind = Word; len = 0 }) KINDS c.loop-kind.kind-index Word c.loop-kind-test.true in
    let before = ap (λ best. longer c.args.names c.args.bytes.now best (get_or KINDS c.loop-kind.kind-index Word)) c.loop-kind.invariant in
    elim c.if-len-best.branch [
      | then-len-best w ↦ w.best-is ∙ longer_less c.args.names c.args.bytes.now c.loop-kind.best (get_or KINDS c.loop-kind.kind-index Word) c.reach-len.result c.reach-len.ensures w.if-len-best.true ∙ before ∙ sym step
      | else-len-best w ↦ w.best-is ∙ longer_more c.args.names c.args.bytes.now c.loop-kind.best (get_or KINDS c.loop-kind.kind-index Word) c.reach-len.result c.reach-len.ensures w.if-len-best.false ∙ before ∙ sym step
    ]
