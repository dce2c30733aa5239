-- The rule of each name keeps what was read sound.
use Rattle.ir_grammar.specs.Names.{Name, array_inside, types_inside, elements_inside, address_inside, parameters_inside, any_inside, incoming_inside, pair_inside, arguments_inside, cases_inside, scope_inside, blocks_inside, sort_of}
use Rattle.ir_grammar.specs.Grammar.{production}
use Rattle.ir_grammar.proofs.SharedKept.{Spares, array_rule_kept, types_rule_kept, elements_kept, address_kept, parameters_rule_kept, run_kept}
use Rattle.ir_grammar.proofs.BodiesKept.{incoming_kept, pair_kept, arguments_rule_kept, cases_rule_kept, scope_rule_kept, blocks_kept}

pub names_kept : (n : Name) → Spares (sort_of n) (production n) 0
names_kept (array_inside c) = array_rule_kept c
names_kept (types_inside c) = types_rule_kept c
names_kept elements_inside = elements_kept
names_kept address_inside = address_kept
names_kept (parameters_inside c) = parameters_rule_kept c
names_kept any_inside = run_kept
names_kept incoming_inside = incoming_kept
names_kept pair_inside = pair_kept
names_kept arguments_inside = arguments_rule_kept
names_kept cases_inside = cases_rule_kept
names_kept scope_inside = scope_rule_kept
names_kept blocks_inside = blocks_kept
