use Rattle.std.proofs.Common.{sym, ◌∙◌, ap}
use Rattle.ir_grammar.specs.Grammar.{read, with_front}
use Rattle.ir_grammar.specs.Spelled.{store_of}
use Rattle.ir_grammar.specs.Constants.{indices}
use Rattle.ir_grammar.proofs.ConstantLists.{indices_more, comma_index_takes}
use Rattle.ir_grammar.proofs.reader.Reader.indices.Goals as goal

pub loop-self-smaller : goal.loop-self-smaller
loop-self-smaller c = comma_index_takes _ _ _ _ c.in_ok-next.ensures

pub loop-self-preserved : goal.loop-self-preserved
loop-self-preserved c =
    (ap (λ v. with_front v (read c.args.levels indices c.comma_index.new.self.rest.now (store_of c.comma_index.new.self.found))) c.in_ok-push.ensures.items
    ∙ sym (indices_more _ c.loop-self.found.items _ _ _ (sym c.comma_is_next.ensures ∙ c.loop-self-test.true) c.in_ok-next.ensures))
    ∙ c.loop-self.invariant
