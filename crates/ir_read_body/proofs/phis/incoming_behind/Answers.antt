use Rattle.std.proofs.Common.{sym, ◌∙◌, ap}
use Rattle.ir_grammar.specs.Grammar.{read, with_front}
use Rattle.ir_grammar.specs.Spelled.{store_of}
use Rattle.ir_grammar.specs.Instructions.{more_incoming}
use Rattle.ir_read_body.proofs.PhiLists.{more_incoming_more, more_incoming_take}
use Rattle.ir_read_body.proofs.phis.incoming_behind.Goals as goal

pub loop-reader-smaller : goal.loop-reader-smaller
loop-reader-smaller c = more_incoming_take _ _ _ _ c.in_ok-next.ensures

pub loop-reader-preserved : goal.loop-reader-preserved
loop-reader-preserved c =
    (ap (λ v. with_front v (read c.args.levels more_incoming c.comma_incoming.new.reader.rest.now (store_of c.comma_incoming.new.reader.found))) c.in_ok-push.ensures.items
    ∙ sym (more_incoming_more _ c.loop-reader.all.items _ _ _ (sym c.next_is.ensures ∙ c.loop-reader-test.true) c.in_ok-next.ensures))
    ∙ c.loop-reader.invariant
