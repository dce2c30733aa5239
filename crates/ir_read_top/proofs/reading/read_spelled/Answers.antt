use Rattle.std.proofs.Common.{sym, subst}
use Rattle.ir_grammar.specs.Spelled.{store_of}
use Rattle.ir_read_top.specs.Texts.{IsGathered}
use Rattle.ir_read_top.proofs.Phases.{bad_text, gathered_by}
use Rattle.ir_read_top.proofs.reading.read_spelled.Goals as goal

pub read_found-requires-clause-gathered : goal.read_found-requires-clause-gathered
read_found-requires-clause-gathered c =
    let store = store_of c.args.found.now in
    subst (λ v. IsGathered v c.in-Ok.tokens.tokens store) (sym c.in-Ok.ensures.lexes.0)
    (gathered_by c.args.text.now c.in-Ok.tokens.tokens store c.requires.spelled c.in-Ok.ensures.lexes.1)

pub returns-in-Err : goal.returns-in-Err
returns-in-Err c = bad_text c.args.text.now c.in-Err.error c.requires.short c.in-Err.ensures.lexes
