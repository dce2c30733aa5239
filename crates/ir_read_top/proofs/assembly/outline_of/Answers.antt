use Rattle.std.proofs.Common.{◌++◌, ◌∙◌, ap, sym}
use Rattle.ir_grammar.specs.Spelled.{store_of}
use Rattle.ir_type_numbers.specs.Numbering.{stands_for, module_types, module_fields}
use Rattle.ir_functions.specs.Given.{given_types}
use Rattle.ir_read_top.specs.Module.{all_pairs}
use Rattle.ir_read_top.proofs.Assembled.{outline_from}
use Rattle.ir_read_top.proofs.assembly.outline_of.Goals as goal

pub returns : goal.returns
returns c =
    let store = store_of c.args.found.now in
    let numbered = c.in_ok-numbered.numbered in
    outline_from c.args.tokens.now.source c.args.tokens.now.tokens store numbered.numbers.items numbered.types numbered.fields c.args.libs.now c.assembled.result
    (c.in_ok-numbered.ensures.numbers ∙ ap (stands_for store.types) (c.deref.ensures.value ∙ c.requires.leads))
    (c.in_ok-numbered.ensures.types ∙ ap (λ n. all_pairs store.types numbered.fields (module_types store.types n) store.items c.args.libs.now store.bodies.instructions ++ given_types) (sym c.in_ok-numbered.ensures.numbers))
    (c.in_ok-numbered.ensures.fields ∙ ap (module_fields store.fields) (sym c.in_ok-numbered.ensures.numbers))
    c.assembled.ensures.numbers
    c.assembled.ensures.assembled
