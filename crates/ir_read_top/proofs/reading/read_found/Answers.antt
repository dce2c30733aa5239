use Rattle.std.proofs.Common.{◌∙◌, ap}
use Rattle.ir_grammar.specs.Spelled.{store_of}
use Rattle.ir_names.specs.First.{first_fault}
use Rattle.ir_names.specs.Faults.{name_faults}
use Rattle.ir_names.specs.Meanings.{variables_of}
use Rattle.ir_read_top.proofs.reading.read_found.Goals as goal

pub outline_of-requires-clause-names : goal.outline_of-requires-clause-names
outline_of-requires-clause-names c =
    let store = store_of c.args.found.now in
    c.in_ok-names.ensures.variables
    ∙ (ap (λ v. variables_of v c.deref-2.result.now store) c.source.ensures ∙ ap (λ v. variables_of c.args.tokens.now.source v store) c.deref-2.ensures.value)

pub read_functions-requires-clause-variables : goal.read_functions-requires-clause-variables
read_functions-requires-clause-variables c =
    let store = store_of c.args.found.now in
    c.in_ok-names.ensures.variables
    ∙ (ap (λ v. variables_of v c.deref-2.result.now store) c.source.ensures ∙ ap (λ v. variables_of c.args.tokens.now.source v store) c.deref-2.ensures.value)

pub read_functions-requires-clause-first : goal.read_functions-requires-clause-first
read_functions-requires-clause-first c =
    let store = store_of c.args.found.now in
    c.in_ok-names.ensures.fault
    ∙ (ap (λ v. first_fault (name_faults v c.deref-2.result.now store)) c.source.ensures ∙ ap (λ v. first_fault (name_faults c.args.tokens.now.source v store)) c.deref-2.ensures.value)
