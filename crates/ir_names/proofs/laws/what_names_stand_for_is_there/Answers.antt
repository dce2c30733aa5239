use Rattle.std.proofs.Common.{arith}
use Rattle.std.proofs.lemmas.List.{length-map}
use Rattle.ir_grammar.specs.SoundStore.{counts_of}
use Rattle.ir_names.specs.Keys.{item_keys}
use Rattle.ir_names.specs.Meanings.{numbered, variable}
use Rattle.ir_names.proofs.Within.{leads_within, length-leads, variables_within}
use Rattle.ir_names.proofs.laws.what_names_stand_for_is_there.Goals as goal

pub returns-clause-one_a_type : goal.returns-clause-one_a_type
returns-clause-one_a_type c = λ source items store. length-leads source (item_keys source items) items 0 store.types

pub returns-clause-leads : goal.returns-clause-leads
returns-clause-leads c = λ source items store sound. leads_within source (item_keys source items) items (counts_of store) 0 store.types (omega arith) sound

pub returns-clause-one_a_constant : goal.returns-clause-one_a_constant
returns-clause-one_a_constant c = λ source items store. length-map store.constants (variable source (item_keys source items) (numbered 0 items))

pub returns-clause-variables : goal.returns-clause-variables
returns-clause-variables c = λ source items store. variables_within source (item_keys source items) items store.constants
