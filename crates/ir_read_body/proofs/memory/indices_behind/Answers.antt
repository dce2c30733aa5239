use Rattle.std.proofs.Common.{sym, ◌∙◌, ap}
use Rattle.ir_grammar.specs.Grammar.{read, with_front}
use Rattle.ir_grammar.specs.Spelled.{store_of}
use Rattle.ir_grammar.specs.Instructions.{step_indices}
use Rattle.ir_read_body.proofs.StepLists.{step_indices_more, step_indices_take}
use Rattle.ir_read_body.proofs.memory.indices_behind.Goals as goal

pub loop-reader-smaller : goal.loop-reader-smaller
loop-reader-smaller c = step_indices_take _ _ _ _ c.in_ok-next.ensures

pub loop-reader-preserved : goal.loop-reader-preserved
loop-reader-preserved c =
    (ap (λ v. with_front v (read c.args.levels step_indices c.step_index.new.reader.rest.now (store_of c.step_index.new.reader.found))) c.in_ok-push.ensures.items
    ∙ sym (step_indices_more _ c.loop-reader.all.items _ _ _ (sym c.next_is.ensures ∙ c.loop-reader-test.true) c.in_ok-next.ensures))
    ∙ c.loop-reader.invariant
