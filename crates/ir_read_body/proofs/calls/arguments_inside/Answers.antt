use Rattle.std.proofs.Common.{sym, ◌∙◌, ap, Ok}
use Rattle.ir_grammar.specs.Spelled.{store_of}
use Rattle.ir_read_body.proofs.ArgumentLists.{arguments_none}
use Rattle.ir_read_body.proofs.calls.arguments_inside.Goals as goal

pub returns-else-starts_argument : goal.returns-else-starts_argument
returns-else-starts_argument c =
    arguments_none _ _ _ (sym c.starts_argument.ensures ∙ c.if-starts_argument.false) ∙ ap (λ v. Ok (v, c.args.reader.now.rest.now, store_of c.args.reader.now.found)) (sym c.new.ensures.items)
