use Rattle.std.proofs.Common.{sym, ◌∙◌, ap}
use Rattle.ir_grammar.specs.Grammar.{read, with_front}
use Rattle.ir_grammar.specs.Spelled.{store_of}
use Rattle.ir_grammar.specs.Terminators.{cases_rule}
use Rattle.ir_read_body.proofs.CaseLists.{cases_rule_more, cases_rule_take}
use Rattle.ir_read_body.proofs.terminators.cases_behind.Goals as goal

pub loop-reader-smaller : goal.loop-reader-smaller
loop-reader-smaller c = cases_rule_take _ _ _ _ c.in_ok-next.ensures

pub loop-reader-preserved : goal.loop-reader-preserved
loop-reader-preserved c =
    (ap (λ v. with_front v (read c.args.levels cases_rule c.case.new.reader.rest.now (store_of c.case.new.reader.found))) c.in_ok-push.ensures.items
    ∙ sym (cases_rule_more _ c.loop-reader.all.items _ _ _ (sym c.starts_case.ensures ∙ c.loop-reader-test.true) c.in_ok-next.ensures))
    ∙ c.loop-reader.invariant
