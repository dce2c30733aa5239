use Rattle.std.proofs.Common.{sym, ◌∙◌, ap}
use Rattle.ir_grammar.specs.Grammar.{read, with_front}
use Rattle.ir_grammar.specs.Spelled.{store_of}
use Rattle.ir_grammar.specs.Parameters.{more_parameters}
use Rattle.ir_grammar.proofs.ParameterLists.{parameters_more, comma_parameter_takes}
use Rattle.ir_grammar.proofs.reader.Reader.more_parameters.Goals as goal

pub loop-context-smaller : goal.loop-context-smaller
loop-context-smaller c = comma_parameter_takes _ _ _ _ _ c.in_ok-next.ensures

pub loop-context-preserved : goal.loop-context-preserved
loop-context-preserved c =
    (ap (λ v. with_front v (read c.args.levels (more_parameters c.args.context) c.comma_parameter.new.self.rest.now (store_of c.comma_parameter.new.self.found))) c.in_ok-push-2.ensures.items
    ∙ sym (parameters_more _ _ c.loop-context.parameters.items _ _ _ (sym c.comma_is_next.ensures ∙ c.loop-context-test.true) c.in_ok-next.ensures))
    ∙ c.loop-context.invariant
