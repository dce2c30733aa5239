-- The conditions of the shared grammar, computed.
use Rattle.std.proofs.Common.{◌≡◌, refl, true, false}
use Rattle.ir_grammar.specs.declared.context.Context.{Context}
use Rattle.ir_grammar.specs.declared.context.Context.TheVariants as at
use Rattle.ir_grammar.specs.Kinds.{is_same}
use Rattle.ir_grammar.specs.Rules.{base}
use Rattle.ir_grammar.specs.Conditions.{is_clear, has, goes_on, IsWellFormed}
use Rattle.ir_grammar.specs.Names.{Name, number, constant, array_inside, types_inside, elements_inside, address_inside, parameters_inside, any_inside, incoming_inside, pair_inside, arguments_inside, cases_inside, scope_inside, blocks_inside, sort_of, shared}
use Rattle.ir_grammar.specs.Grammar.{production}
use Rattle.ir_grammar.proofs.BodiesWellFormed.{incoming_clear, pair_clear, arguments_clear, cases_clear, scope_clear, blocks_clear, incoming_shallow, pair_shallow, arguments_shallow, cases_shallow, scope_shallow, blocks_shallow, incoming_completed, pair_completed, arguments_completed, cases_completed, scope_completed, blocks_completed}
use Rattle.ir_grammar.specs.Skipped.{in_parens, in_squares, in_braces, any_part, any_run}
use Rattle.ir_grammar.specs.Types.{int_type, named_type, array_type, braced_types, struct_type, packed_type, other_type, solid_type, type_rule, array_rule, comma_type, more_types, types_rule, ptr_word}
use Rattle.ir_grammar.specs.Attributes.{alignment, word_attribute, align_attribute, convention_attribute, text_attribute, attribute, attributes}
use Rattle.ir_grammar.specs.Parameters.{maybe_local, parameter_rule, comma_parameter, more_parameters, parameters_rule}
use Rattle.ir_grammar.specs.Constants.{integer_value, name_value, word_value, flag, flags, address_parens, address_value, value_rule, squared_constants, braced_constants, array_constant, struct_constant, packed_constant, constant_rule, typed_constant, comma_constant, more_elements, elements_rule, comma_index, indices, address_base, address_rule}

clear : (n : Name) → is_clear shared production (sort_of n) (production n) ≡ true
unfolding is_same in_parens in_squares in_braces any_part any_run int_type named_type array_type braced_types struct_type packed_type other_type solid_type type_rule array_rule comma_type more_types types_rule ptr_word integer_value name_value word_value flag flags address_parens address_value value_rule squared_constants braced_constants array_constant struct_constant packed_constant constant_rule typed_constant comma_constant more_elements elements_rule comma_index indices address_base address_rule alignment word_attribute align_attribute convention_attribute text_attribute attribute attributes maybe_local parameter_rule comma_parameter more_parameters parameters_rule
clear (array_inside at.Plain) = refl
clear (array_inside at.Global) = refl
clear (array_inside at.GlobalTail) = refl
clear (array_inside at.Declare) = refl
clear (array_inside at.Parameter) = refl
clear (array_inside at.DeclareTail) = refl
clear (types_inside at.Plain) = refl
clear (types_inside at.Global) = refl
clear (types_inside at.GlobalTail) = refl
clear (types_inside at.Declare) = refl
clear (types_inside at.Parameter) = refl
clear (types_inside at.DeclareTail) = refl
clear elements_inside = refl
clear address_inside = refl
clear (parameters_inside at.Plain) = refl
clear (parameters_inside at.Global) = refl
clear (parameters_inside at.GlobalTail) = refl
clear (parameters_inside at.Declare) = refl
clear (parameters_inside at.Parameter) = refl
clear (parameters_inside at.DeclareTail) = refl
clear any_inside = refl
clear incoming_inside = incoming_clear
clear pair_inside = pair_clear
clear arguments_inside = arguments_clear
clear cases_inside = cases_clear
clear scope_inside = scope_clear
clear blocks_inside = blocks_clear

shallow : (n : Name) → has false (production n) ≡ true
unfolding in_parens in_squares in_braces any_part any_run int_type named_type array_type braced_types struct_type packed_type other_type solid_type type_rule array_rule comma_type more_types types_rule ptr_word integer_value name_value word_value flag flags address_parens address_value value_rule squared_constants braced_constants array_constant struct_constant packed_constant constant_rule typed_constant comma_constant more_elements elements_rule comma_index indices address_base address_rule alignment word_attribute align_attribute convention_attribute text_attribute attribute attributes maybe_local parameter_rule comma_parameter more_parameters parameters_rule
shallow (array_inside c) = refl
shallow (types_inside c) = refl
shallow elements_inside = refl
shallow address_inside = refl
shallow (parameters_inside c) = refl
shallow any_inside = refl
shallow incoming_inside = incoming_shallow
shallow pair_inside = pair_shallow
shallow arguments_inside = arguments_shallow
shallow cases_inside = cases_shallow
shallow scope_inside = scope_shallow
shallow blocks_inside = blocks_shallow

completed : (n : Name) → goes_on (production n) ≡ true
unfolding in_parens in_squares in_braces any_part any_run int_type named_type array_type braced_types struct_type packed_type other_type solid_type type_rule array_rule comma_type more_types types_rule ptr_word integer_value name_value word_value flag flags address_parens address_value value_rule squared_constants braced_constants array_constant struct_constant packed_constant constant_rule typed_constant comma_constant more_elements elements_rule comma_index indices address_base address_rule alignment word_attribute align_attribute convention_attribute text_attribute attribute attributes maybe_local parameter_rule comma_parameter more_parameters parameters_rule
completed (array_inside at.Plain) = refl
completed (array_inside at.Global) = refl
completed (array_inside at.GlobalTail) = refl
completed (array_inside at.Declare) = refl
completed (array_inside at.Parameter) = refl
completed (array_inside at.DeclareTail) = refl
completed (types_inside at.Plain) = refl
completed (types_inside at.Global) = refl
completed (types_inside at.GlobalTail) = refl
completed (types_inside at.Declare) = refl
completed (types_inside at.Parameter) = refl
completed (types_inside at.DeclareTail) = refl
completed elements_inside = refl
completed address_inside = refl
completed (parameters_inside at.Plain) = refl
completed (parameters_inside at.Global) = refl
completed (parameters_inside at.GlobalTail) = refl
completed (parameters_inside at.Declare) = refl
completed (parameters_inside at.Parameter) = refl
completed (parameters_inside at.DeclareTail) = refl
completed any_inside = refl
completed incoming_inside = incoming_completed
completed pair_inside = pair_completed
completed arguments_inside = arguments_completed
completed cases_inside = cases_completed
completed scope_inside = scope_completed
completed blocks_inside = blocks_completed

-- one token ahead decides each choice of the shared grammar, and what was read before a fault can be completed
pub well_formed : IsWellFormed shared production
well_formed = record { clear = clear; shallow = shallow; completed = completed }

-- the same of types and constants
pub type_clear : (c : Context) → is_clear shared production (base number) (type_rule c) ≡ true
unfolding is_same in_parens in_squares in_braces any_part any_run int_type named_type array_type braced_types struct_type packed_type other_type solid_type type_rule array_rule comma_type more_types types_rule ptr_word integer_value name_value word_value flag flags address_parens address_value value_rule squared_constants braced_constants array_constant struct_constant packed_constant constant_rule typed_constant comma_constant more_elements elements_rule comma_index indices address_base address_rule
type_clear at.Plain = refl
type_clear at.Global = refl
type_clear at.GlobalTail = refl
type_clear at.Declare = refl
type_clear at.Parameter = refl
type_clear at.DeclareTail = refl

pub constant_clear : is_clear shared production (base constant) constant_rule ≡ true
unfolding is_same in_parens in_squares in_braces any_part any_run int_type named_type array_type braced_types struct_type packed_type other_type solid_type type_rule array_rule comma_type more_types types_rule ptr_word integer_value name_value word_value flag flags address_parens address_value value_rule squared_constants braced_constants array_constant struct_constant packed_constant constant_rule typed_constant comma_constant more_elements elements_rule comma_index indices address_base address_rule
constant_clear = refl
