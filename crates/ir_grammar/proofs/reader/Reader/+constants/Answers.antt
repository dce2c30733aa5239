use Rattle.std.proofs.Common.{sym, ◌∙◌, ap, Ok}
use Rattle.ir_grammar.specs.Grammar.{read, with_front}
use Rattle.ir_grammar.specs.Spelled.{store_of}
use Rattle.ir_grammar.specs.Constants.{more_elements}
use Rattle.ir_grammar.proofs.ConstantLists.{elements_more, comma_constant_takes, elements_none}
use Rattle.ir_grammar.proofs.reader.Reader.+constants.Goals as goal

pub more_elements-loop-self-smaller : goal.more_elements-loop-self-smaller
more_elements-loop-self-smaller t c = comma_constant_takes _ _ _ _ c.in_ok-next.ensures

pub more_elements-loop-self-preserved : goal.more_elements-loop-self-preserved
more_elements-loop-self-preserved t c =
    (ap (λ v. with_front v (read c.args.levels more_elements c.comma_constant.new.self.rest.now (store_of c.comma_constant.new.self.found))) c.in_ok-push-2.ensures.items
    ∙ sym (elements_more _ c.loop-self.elements.items _ _ _ (sym c.comma_is_next.ensures ∙ c.loop-self-test.true) c.in_ok-next.ensures))
    ∙ c.loop-self.invariant

pub elements_inside-returns-else-starts_element : goal.elements_inside-returns-else-starts_element
elements_inside-returns-else-starts_element t c =
    elements_none _ _ _ (sym c.starts_element.ensures ∙ c.if-starts_element.false) ∙ ap (λ v. Ok (v, c.args.self.now.rest.now, store_of c.args.self.now.found)) (sym c.new.ensures.items)
