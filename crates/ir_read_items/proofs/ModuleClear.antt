-- The conditions under which the law of reading says all, computed for the whole module.
use Rattle.std.proofs.Common.{◌≡◌, refl, true}
use Rattle.ir_grammar.specs.Kinds.{is_same}
use Rattle.ir_grammar.specs.Rules.{nothing}
use Rattle.ir_grammar.specs.Conditions.{is_clear, goes_on, has}
use Rattle.ir_grammar.specs.Names.{shared}
use Rattle.ir_grammar.specs.Grammar.{production}
use Rattle.ir_grammar.specs.Skipped.{in_parens, in_squares, in_braces, any_part, any_run}
use Rattle.ir_grammar.specs.Types.{int_type, named_type, array_type, braced_types, struct_type, packed_type, other_type, solid_type, type_rule, array_rule, comma_type, more_types, types_rule, ptr_word}
use Rattle.ir_grammar.specs.Attributes.{alignment, word_attribute, align_attribute, convention_attribute, text_attribute, attribute, attributes}
use Rattle.ir_grammar.specs.Parameters.{maybe_local, parameter_rule, comma_parameter, more_parameters, parameters_rule, parameters}
use Rattle.ir_grammar.specs.Constants.{integer_value, name_value, word_value, flag, flags, address_parens, address_value, value_rule, squared_constants, braced_constants, array_constant, struct_constant, packed_constant, constant_rule, typed_constant, comma_constant, more_elements, elements_rule, comma_index, indices, address_base, address_rule}
use Rattle.ir_grammar.specs.Operands.{register, word_operand, integer_operand, named_operand, address_operand, simple_operand, operand_rule, typed_operand, comma_operand, comma_typed, pointer_operand, comma_pointer, bit_word, bit_operand, block_name, comma_block, inline_node, attached_node, attachment_rule, comma_attachment, attachments as body_attachments, list_attachments, small_alignment, stated_alignment, alignment_end, plain_end, aligned_end, scope_rule, scope, order, maybe_order}
use Rattle.ir_grammar.specs.Instructions.{instruction_flags, maybe_word, two_operands, binary_rest, predicate, icmp_rest, cast_rest, freeze_rest, select_rest, incoming_rule, incoming_squares, comma_incoming, more_incoming, all_incoming, phi_head, phi_rest, count_operand, count_rule, counted_end, uncounted_end, comma_end, alloca_plain, alloca_end, alloca_rest, access_words, access_end, load_rest, store_rest, step_index, step_indices, step_head, step_rest, fence_rest, ordered_end, rmw_word, rmw_rest, exchange_words, exchange_pointer, exchange_end, exchange_rest, pair_rule, pair_type, extract_rest}
use Rattle.ir_grammar.specs.Calls.{argument_value, argument_rule, comma_argument, more_arguments, arguments_rule, arguments, named_call, debug_call, called, call_part, call_tail, call_type, call_head, call_rest, call_word, call_rule}
use Rattle.ir_grammar.specs.Terminators.{simple_behind_void, operand_behind_void, void_alone, void_operand, solid_value, returned, return_rest, jump_end, branch_end, branch_rest, case_value, case_rule, cases_rule, cases, switch_head, switch_rest, unreachable_rest}
use Rattle.ir_grammar.specs.Blocks.{value_instruction, memory_instruction, atomic_instruction, alloca, common_instruction, plain_instruction, plain_body, body_rule, result_name, instruction_rule, record_rule, block_part, block_parts, worded_terminator, terminator, block_rule, later_blocks, blocks_rule, function_body}
use Rattle.ir_read_items.specs.Items.{equals_text, source_filename, layout_text, layout, triple, target_line, target, attribute_group, type_body, type_item, global_head, section_rest, section, attachment, global_part, comma_part, global_tail, global_value, global_item, packed_any, used_value, used_item, attachments, declare_attachment, declare_part, declare_tail, declare_head, declare_parameters, declare_item, define_part, define_tail, define_head, define_body, define_rest, define_item, bang_node, named_node, node, maybe_distinct, node_item, list_item, item, free_items, next_items, maybe_next_items, declare_group, declare_groups, module_rule}

pub module_clear : is_clear shared production nothing module_rule ≡ true
unfolding is_same in_parens in_squares in_braces any_part any_run int_type named_type array_type braced_types struct_type packed_type other_type solid_type type_rule array_rule comma_type more_types types_rule ptr_word integer_value name_value word_value flag flags address_parens address_value value_rule squared_constants braced_constants array_constant struct_constant packed_constant constant_rule typed_constant comma_constant more_elements elements_rule comma_index indices address_base address_rule alignment word_attribute align_attribute convention_attribute text_attribute attribute attributes maybe_local parameter_rule comma_parameter more_parameters parameters_rule parameters equals_text source_filename layout_text layout triple target_line target attribute_group type_body type_item global_head section_rest section attachment global_part comma_part global_tail global_value global_item packed_any used_value used_item attachments declare_attachment declare_part declare_tail declare_head declare_parameters declare_item define_part define_tail define_head define_body define_rest define_item bang_node named_node node maybe_distinct node_item list_item item free_items next_items maybe_next_items declare_group declare_groups module_rule register word_operand integer_operand named_operand address_operand simple_operand operand_rule typed_operand comma_operand comma_typed pointer_operand comma_pointer bit_word bit_operand block_name comma_block inline_node attached_node attachment_rule comma_attachment body_attachments list_attachments small_alignment stated_alignment alignment_end plain_end aligned_end scope_rule scope order maybe_order instruction_flags maybe_word two_operands binary_rest predicate icmp_rest cast_rest freeze_rest select_rest incoming_rule incoming_squares comma_incoming more_incoming all_incoming phi_head phi_rest count_operand count_rule counted_end uncounted_end comma_end alloca_plain alloca_end alloca_rest access_words access_end load_rest store_rest step_index step_indices step_head step_rest fence_rest ordered_end rmw_word rmw_rest exchange_words exchange_pointer exchange_end exchange_rest pair_rule pair_type extract_rest argument_value argument_rule comma_argument more_arguments arguments_rule arguments named_call debug_call called call_part call_tail call_type call_head call_rest call_word call_rule simple_behind_void operand_behind_void void_alone void_operand solid_value returned return_rest jump_end branch_end branch_rest case_value case_rule cases_rule cases switch_head switch_rest unreachable_rest value_instruction memory_instruction atomic_instruction alloca common_instruction plain_instruction plain_body body_rule result_name instruction_rule record_rule block_part block_parts worded_terminator terminator block_rule later_blocks blocks_rule function_body
module_clear = refl

pub module_goes_on : goes_on module_rule ≡ true
unfolding in_parens in_squares in_braces any_part any_run int_type named_type array_type braced_types struct_type packed_type other_type solid_type type_rule array_rule comma_type more_types types_rule ptr_word integer_value name_value word_value flag flags address_parens address_value value_rule squared_constants braced_constants array_constant struct_constant packed_constant constant_rule typed_constant comma_constant more_elements elements_rule comma_index indices address_base address_rule alignment word_attribute align_attribute convention_attribute text_attribute attribute attributes maybe_local parameter_rule comma_parameter more_parameters parameters_rule parameters equals_text source_filename layout_text layout triple target_line target attribute_group type_body type_item global_head section_rest section attachment global_part comma_part global_tail global_value global_item packed_any used_value used_item attachments declare_attachment declare_part declare_tail declare_head declare_parameters declare_item define_part define_tail define_head define_body define_rest define_item bang_node named_node node maybe_distinct node_item list_item item free_items next_items maybe_next_items declare_group declare_groups module_rule register word_operand integer_operand named_operand address_operand simple_operand operand_rule typed_operand comma_operand comma_typed pointer_operand comma_pointer bit_word bit_operand block_name comma_block inline_node attached_node attachment_rule comma_attachment body_attachments list_attachments small_alignment stated_alignment alignment_end plain_end aligned_end scope_rule scope order maybe_order instruction_flags maybe_word two_operands binary_rest predicate icmp_rest cast_rest freeze_rest select_rest incoming_rule incoming_squares comma_incoming more_incoming all_incoming phi_head phi_rest count_operand count_rule counted_end uncounted_end comma_end alloca_plain alloca_end alloca_rest access_words access_end load_rest store_rest step_index step_indices step_head step_rest fence_rest ordered_end rmw_word rmw_rest exchange_words exchange_pointer exchange_end exchange_rest pair_rule pair_type extract_rest argument_value argument_rule comma_argument more_arguments arguments_rule arguments named_call debug_call called call_part call_tail call_type call_head call_rest call_word call_rule simple_behind_void operand_behind_void void_alone void_operand solid_value returned return_rest jump_end branch_end branch_rest case_value case_rule cases_rule cases switch_head switch_rest unreachable_rest value_instruction memory_instruction atomic_instruction alloca common_instruction plain_instruction plain_body body_rule result_name instruction_rule record_rule block_part block_parts worded_terminator terminator block_rule later_blocks blocks_rule function_body
module_goes_on = refl

pub module_has : has true module_rule ≡ true
unfolding in_parens in_squares in_braces any_part any_run int_type named_type array_type braced_types struct_type packed_type other_type solid_type type_rule array_rule comma_type more_types types_rule ptr_word integer_value name_value word_value flag flags address_parens address_value value_rule squared_constants braced_constants array_constant struct_constant packed_constant constant_rule typed_constant comma_constant more_elements elements_rule comma_index indices address_base address_rule alignment word_attribute align_attribute convention_attribute text_attribute attribute attributes maybe_local parameter_rule comma_parameter more_parameters parameters_rule parameters equals_text source_filename layout_text layout triple target_line target attribute_group type_body type_item global_head section_rest section attachment global_part comma_part global_tail global_value global_item packed_any used_value used_item attachments declare_attachment declare_part declare_tail declare_head declare_parameters declare_item define_part define_tail define_head define_body define_rest define_item bang_node named_node node maybe_distinct node_item list_item item free_items next_items maybe_next_items declare_group declare_groups module_rule register word_operand integer_operand named_operand address_operand simple_operand operand_rule typed_operand comma_operand comma_typed pointer_operand comma_pointer bit_word bit_operand block_name comma_block inline_node attached_node attachment_rule comma_attachment body_attachments list_attachments small_alignment stated_alignment alignment_end plain_end aligned_end scope_rule scope order maybe_order instruction_flags maybe_word two_operands binary_rest predicate icmp_rest cast_rest freeze_rest select_rest incoming_rule incoming_squares comma_incoming more_incoming all_incoming phi_head phi_rest count_operand count_rule counted_end uncounted_end comma_end alloca_plain alloca_end alloca_rest access_words access_end load_rest store_rest step_index step_indices step_head step_rest fence_rest ordered_end rmw_word rmw_rest exchange_words exchange_pointer exchange_end exchange_rest pair_rule pair_type extract_rest argument_value argument_rule comma_argument more_arguments arguments_rule arguments named_call debug_call called call_part call_tail call_type call_head call_rest call_word call_rule simple_behind_void operand_behind_void void_alone void_operand solid_value returned return_rest jump_end branch_end branch_rest case_value case_rule cases_rule cases switch_head switch_rest unreachable_rest value_instruction memory_instruction atomic_instruction alloca common_instruction plain_instruction plain_body body_rule result_name instruction_rule record_rule block_part block_parts worded_terminator terminator block_rule later_blocks blocks_rule function_body
module_has = refl
