use Rattle.std.proofs.Common.{sym, ◌∙◌, ap, Ok}
use Rattle.ir_grammar.specs.Spelled.{store_of}
use Rattle.ir_grammar.proofs.ParameterLists.{parameters_none}
use Rattle.ir_grammar.proofs.reader.Reader.parameters_inside.Goals as goal

pub returns-else-starts_parameter : goal.returns-else-starts_parameter
returns-else-starts_parameter c =
    parameters_none _ _ _ _ (sym c.starts_parameter.ensures ∙ c.if-starts_parameter.false) ∙ ap (λ v. Ok (v, c.args.self.now.rest.now, store_of c.args.self.now.found)) (sym c.new.ensures.items)
