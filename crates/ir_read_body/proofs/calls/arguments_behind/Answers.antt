use Rattle.std.proofs.Common.{sym, ◌∙◌, ap}
use Rattle.ir_grammar.specs.Grammar.{read, with_front}
use Rattle.ir_grammar.specs.Spelled.{store_of}
use Rattle.ir_grammar.specs.Calls.{more_arguments}
use Rattle.ir_read_body.proofs.ArgumentLists.{more_arguments_more, more_arguments_take}
use Rattle.ir_read_body.proofs.calls.arguments_behind.Goals as goal

pub loop-reader-smaller : goal.loop-reader-smaller
loop-reader-smaller c = more_arguments_take _ _ _ _ c.in_ok-next.ensures

pub loop-reader-preserved : goal.loop-reader-preserved
loop-reader-preserved c =
    (ap (λ v. with_front v (read c.args.levels more_arguments c.comma_argument.new.reader.rest.now (store_of c.comma_argument.new.reader.found))) c.in_ok-push.ensures.items
    ∙ sym (more_arguments_more _ c.loop-reader.all.items _ _ _ (sym c.comma_is_next.ensures ∙ c.loop-reader-test.true) c.in_ok-next.ensures))
    ∙ c.loop-reader.invariant
