use Rattle.std.proofs.Common.{sym, ◌∙◌}
use Rattle.ir_grammar.proofs.AttributeLists.{attributes_more, attribute_takes}
use Rattle.ir_grammar.proofs.reader.Reader.attributes.Goals as goal

pub loop-context-smaller : goal.loop-context-smaller
loop-context-smaller c = attribute_takes _ _ _ _ _ c.in_ok-attribute.ensures

pub loop-context-preserved : goal.loop-context-preserved
loop-context-preserved c =
    sym (attributes_more _ _ _ _ _ (sym c.starts_attribute.ensures ∙ c.loop-context-test.true) c.in_ok-attribute.ensures) ∙ c.loop-context.invariant
