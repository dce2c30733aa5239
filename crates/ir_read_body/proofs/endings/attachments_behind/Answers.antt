use Rattle.std.proofs.Common.{sym, ◌∙◌, ap}
use Rattle.ir_grammar.specs.Grammar.{read, with_front}
use Rattle.ir_grammar.specs.Spelled.{store_of}
use Rattle.ir_grammar.specs.Operands.{attachments}
use Rattle.ir_read_body.proofs.EndingLists.{attachments_more, attachments_take}
use Rattle.ir_read_body.proofs.endings.attachments_behind.Goals as goal

pub loop-reader-smaller : goal.loop-reader-smaller
loop-reader-smaller c = attachments_take _ _ _ _ c.in_ok-next.ensures

pub loop-reader-preserved : goal.loop-reader-preserved
loop-reader-preserved c =
    (ap (λ v. with_front v (read c.args.levels attachments c.comma_attachment.new.reader.rest.now (store_of c.comma_attachment.new.reader.found))) c.in_ok-push.ensures.items
    ∙ sym (attachments_more _ c.loop-reader.all.items _ _ _ (sym c.comma_is_next.ensures ∙ c.loop-reader-test.true) c.in_ok-next.ensures))
    ∙ c.loop-reader.invariant
