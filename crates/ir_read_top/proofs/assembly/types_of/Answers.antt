use Rattle.std.proofs.Common.{◌∙◌, ap}
use Rattle.ir_grammar.specs.Spelled.{store_of}
use Rattle.ir_type_numbers.specs.Numbering.{stands_for, module_types}
use Rattle.ir_read_top.proofs.Assembled.{types_from}
use Rattle.ir_read_top.proofs.assembly.types_of.Goals as goal

pub returns-clause-types : goal.returns-clause-types
returns-clause-types c =
    let store = store_of c.args.found.now in
    types_from store.types store.items c.args.libs.now store.bodies.instructions c.in_ok-numbered.numbered.fields c.in_ok-numbered.numbered.types (module_types store.types (stands_for store.types c.args.leads.now)) c.with_all_pairs.result
    (c.in_ok-numbered.ensures.types ∙ ap (λ v. module_types v (stands_for v c.args.leads.now)) c.deref.ensures.value) c.with_all_pairs.ensures.types c.with_all_pairs.ensures.fields
