-- Most rules leave alone the instructions, blocks and items that were read.
use Rattle.std.proofs.Common.{◌≡◌, ℕ, Bool, true, false, List, [], ◌∷◌, Option, None, Some, refl, sym, ◌∙◌, subst, inl, inr}
use Rattle.ir_core.specs.declared.token.Token.{Token}
use Rattle.ir_grammar.specs.declared.context.Context.{Context}
use Rattle.ir_grammar.specs.declared.context.Context.TheVariants as at
use Rattle.ir_grammar.specs.declared.kind.Kind.{Kind}
use Rattle.ir_grammar.specs.declared.kind.Kind.TheVariants as k
use Rattle.ir_grammar.specs.declared.terminal.Terminal.{Terminal}
use Rattle.ir_grammar.specs.declared.spelled_bodies.SpelledOperation.{SpelledOperation}
use Rattle.ir_grammar.specs.declared.spelled_bodies.SpelledAttachment.{SpelledAttachment}
use Rattle.ir_grammar.specs.declared.spelled_bodies.TypedOperand.{TypedOperand}
use Rattle.ir_grammar.specs.Rules.{Sort, nothing, token, base, pair, option, list, Value, Derives, one, refused, ◌⨾◌, ◌∣◌, optional, many, between, act, the, ◌▷◌, one_token, both, left, right, absent, present, done, again, inner, acted}
use Rattle.ir_grammar.specs.Names.{Base, number, constant, parameter, typed, incoming, case, element, attachment as base_attachment, instruction, Name, array_inside, types_inside, elements_inside, address_inside, parameters_inside, any_inside, incoming_inside, pair_inside, arguments_inside, cases_inside, scope_inside, blocks_inside, sort_of, Production, shared}
use Rattle.ir_grammar.specs.Words.{globals, locals}
use Rattle.ir_grammar.specs.Spelled.{Store, token_in}
use Rattle.ir_grammar.specs.SpelledBodies.{add_kept}
use Rattle.ir_grammar.specs.Calls.{call_sort, called_sort, add_called}
use Rattle.ir_grammar.specs.Grammar.{production}
use Rattle.ir_grammar.specs.Skipped.{in_parens, in_squares, in_braces, any_part, any_run}
use Rattle.ir_grammar.specs.Types.{int_type, named_type, array_type, braced_types, struct_type, packed_type, other_type, solid_type, type_rule, array_rule, comma_type, more_types, types_rule, ptr_word}
use Rattle.ir_grammar.specs.Attributes.{alignment, word_attribute, align_attribute, convention_attribute, text_attribute, attribute, attributes}
use Rattle.ir_grammar.specs.Parameters.{maybe_local, parameter_rule, comma_parameter, more_parameters, parameters_rule, parameters}
use Rattle.ir_grammar.specs.Constants.{integer_value, name_value, word_value, flag, flags, address_parens, address_value, value_rule, squared_constants, braced_constants, array_constant, struct_constant, packed_constant, constant_rule, typed_constant, comma_constant, more_elements, elements_rule, comma_index, indices, address_base, address_rule}
use Rattle.ir_grammar.specs.Operands.{register, word_operand, integer_operand, named_operand, address_operand, simple_operand, operand_rule, typed_operand, comma_operand, comma_typed, pointer_operand, comma_pointer, bit_word, bit_operand, block_name, comma_block, inline_node, attached_node, attachment_rule, comma_attachment, attachments as body_attachments, list_attachments, small_alignment, stated_alignment, alignment_end, plain_end, aligned_end, scope_rule, scope, order, maybe_order}
use Rattle.ir_grammar.specs.Instructions.{instruction_flags, maybe_word, two_operands, binary_rest, predicate, icmp_rest, cast_rest, freeze_rest, select_rest, incoming_rule, incoming_squares, comma_incoming, more_incoming, all_incoming, phi_head, phi_rest, count_operand, count_rule, counted_end, uncounted_end, comma_end, alloca_plain, alloca_end, alloca_rest, access_words, access_end, load_rest, store_rest, step_index, step_indices, step_head, step_rest, fence_rest, ordered_end, rmw_word, rmw_rest, exchange_words, exchange_pointer, exchange_end, exchange_rest, pair_rule, pair_type, extract_rest}
use Rattle.ir_grammar.specs.Calls.{argument_value, argument_rule, comma_argument, more_arguments, arguments_rule, arguments, named_call, debug_call, called, call_part, call_tail, call_type, call_head, call_rest, call_word, call_rule}
use Rattle.ir_grammar.specs.Terminators.{simple_behind_void, operand_behind_void, void_alone, void_operand, solid_value, returned, return_rest, jump_end, branch_end, branch_rest, case_value, case_rule, cases_rule, cases, switch_head, switch_rest, unreachable_rest}
use Rattle.ir_grammar.specs.Blocks.{value_instruction, memory_instruction, atomic_instruction, alloca, common_instruction, plain_instruction, plain_body, body_rule, result_name, instruction_rule, record_rule, block_part, block_parts, worded_terminator, terminator, block_rule, later_blocks, blocks_rule, function_body}
use Rattle.ir_read_items.specs.Items.{equals_text, source_filename, layout_text, layout, triple, target_line, target, attribute_group, type_body, type_item, global_head, section_rest, section, attachment, global_part, comma_part, global_tail, global_value, global_item, packed_any, used_value, used_item, attachments, declare_attachment, declare_part, declare_tail, declare_head, declare_parameters, declare_item, define_part, define_tail, define_head, define_body, define_rest, define_item, bang_node, named_node, node, maybe_distinct, node_item, list_item, item, free_items, next_items, maybe_next_items, declare_group, declare_groups, module_rule}
use Rattle.ir_read_items.proofs.Runs.{Chain, Perhaps, Runs}

-- what was read of blocks and items stays
abbrev pub Stay : (st end : Store) → Type 0
Stay st end = (end.bodies.instructions ≡ st.bodies.instructions) × (end.bodies.blocks ≡ st.bodies.blocks) × (end.items ≡ st.items)

pub still : (st : Store) → Stay st st
still st = (refl, refl, refl)

pub on : (a b c : Store) → Stay a b → Stay b c → Stay a c
on a b c g h = (h.0 ∙ g.0, h.1 ∙ g.1, h.2 ∙ g.2)

-- what stands between brackets is no body
abbrev pub IsCalmName : Name → Type 0
IsCalmName blocks_inside = ⊥
IsCalmName other = Unit {0}

-- nothing that is done with the values of a rule adds a block or an item
abbrev pub Calm : (s : Sort Base) → Production s → Type 0
Calm _ (one ks) = Unit {0}
Calm _ (refused ks) = Unit {0}
Calm _ (◌⨾◌ {s = s} {t = t} a b) = Calm s a × Calm t b
Calm s (a ∣ b) = Calm s a × Calm s b
Calm _ (optional {s = s} a) = Calm s a
Calm _ (many {s = s} a) = Calm s a
Calm _ (between k n k') = IsCalmName n
Calm _ (act {s = s} f a) = ((y : Value shared s) (st : Store) → Stay st (f y st).1) × Calm s a

-- the same of a rule with which nothing is done: it is what the above comes to for most rules, computed
abbrev Idle : (s : Sort Base) → Production s → Type 0
Idle _ (one ks) = Unit {0}
Idle _ (refused ks) = Unit {0}
Idle _ (◌⨾◌ {s = s} {t = t} a b) = Idle s a × Idle t b
Idle s (a ∣ b) = Idle s a × Idle s b
Idle _ (optional {s = s} a) = Idle s a
Idle _ (many {s = s} a) = Idle s a
Idle _ (between k n k') = Unit {0}
Idle _ (act {s = s} f a) = ((y : Value shared s) (st : Store) → Stay st st) × Idle s a

idle : (s : Sort Base) (a : Production s) → Idle s a
idle _ (one ks) = tt
idle _ (refused ks) = tt
idle _ (◌⨾◌ {s = s} {t = t} a b) = (idle s a, idle t b)
idle s (a ∣ b) = (idle s a, idle s b)
idle _ (optional {s = s} a) = idle s a
idle _ (many {s = s} a) = idle s a
idle _ (between k n k') = tt
idle _ (act {s = s} f a) = ((λ y st. still st), idle s a)

-- ---- rules between brackets

contexts_calm : (c : Context) → Calm (base number) (array_rule c) × Calm (list (base number)) (types_rule c) × Calm (list (base parameter)) (parameters_rule c)
unfolding in_parens in_squares in_braces any_part any_run int_type named_type array_type braced_types struct_type packed_type other_type solid_type type_rule array_rule comma_type more_types types_rule ptr_word integer_value name_value word_value flag flags address_parens address_value value_rule squared_constants braced_constants array_constant struct_constant packed_constant constant_rule typed_constant comma_constant more_elements elements_rule comma_index indices address_base address_rule alignment word_attribute align_attribute convention_attribute text_attribute attribute attributes maybe_local parameter_rule comma_parameter more_parameters parameters_rule parameters equals_text source_filename layout_text layout triple target_line target attribute_group type_body type_item global_head section_rest section attachment global_part comma_part global_tail global_value global_item packed_any used_value used_item attachments declare_attachment declare_part declare_tail declare_head declare_parameters declare_item define_part define_tail define_head define_body define_rest define_item bang_node named_node node maybe_distinct node_item list_item item free_items next_items maybe_next_items declare_group declare_groups module_rule register word_operand integer_operand named_operand address_operand simple_operand operand_rule typed_operand comma_operand comma_typed pointer_operand comma_pointer bit_word bit_operand block_name comma_block inline_node attached_node attachment_rule comma_attachment body_attachments list_attachments small_alignment stated_alignment alignment_end plain_end aligned_end scope_rule scope order maybe_order instruction_flags maybe_word two_operands binary_rest predicate icmp_rest cast_rest freeze_rest select_rest incoming_rule incoming_squares comma_incoming more_incoming all_incoming phi_head phi_rest count_operand count_rule counted_end uncounted_end comma_end alloca_plain alloca_end alloca_rest access_words access_end load_rest store_rest step_index step_indices step_head step_rest fence_rest ordered_end rmw_word rmw_rest exchange_words exchange_pointer exchange_end exchange_rest pair_rule pair_type extract_rest argument_value argument_rule comma_argument more_arguments arguments_rule arguments named_call debug_call called call_part call_tail call_type call_head call_rest call_word call_rule simple_behind_void operand_behind_void void_alone void_operand solid_value returned return_rest jump_end branch_end branch_rest case_value case_rule cases_rule cases switch_head switch_rest unreachable_rest value_instruction memory_instruction atomic_instruction alloca common_instruction plain_instruction plain_body body_rule result_name instruction_rule record_rule block_part block_parts worded_terminator terminator block_rule later_blocks blocks_rule function_body
contexts_calm at.Plain = (idle (base number) (array_rule at.Plain), idle (list (base number)) (types_rule at.Plain), idle (list (base parameter)) (parameters_rule at.Plain))
contexts_calm at.Global = (idle (base number) (array_rule at.Global), idle (list (base number)) (types_rule at.Global), idle (list (base parameter)) (parameters_rule at.Global))
contexts_calm at.GlobalTail = (idle (base number) (array_rule at.GlobalTail), idle (list (base number)) (types_rule at.GlobalTail), idle (list (base parameter)) (parameters_rule at.GlobalTail))
contexts_calm at.Declare = (idle (base number) (array_rule at.Declare), idle (list (base number)) (types_rule at.Declare), idle (list (base parameter)) (parameters_rule at.Declare))
contexts_calm at.Parameter = (idle (base number) (array_rule at.Parameter), idle (list (base number)) (types_rule at.Parameter), idle (list (base parameter)) (parameters_rule at.Parameter))
contexts_calm at.DeclareTail = (idle (base number) (array_rule at.DeclareTail), idle (list (base number)) (types_rule at.DeclareTail), idle (list (base parameter)) (parameters_rule at.DeclareTail))

names_calm : (n : Name) → IsCalmName n → Calm (sort_of n) (production n)
unfolding in_parens in_squares in_braces any_part any_run int_type named_type array_type braced_types struct_type packed_type other_type solid_type type_rule array_rule comma_type more_types types_rule ptr_word integer_value name_value word_value flag flags address_parens address_value value_rule squared_constants braced_constants array_constant struct_constant packed_constant constant_rule typed_constant comma_constant more_elements elements_rule comma_index indices address_base address_rule alignment word_attribute align_attribute convention_attribute text_attribute attribute attributes maybe_local parameter_rule comma_parameter more_parameters parameters_rule parameters equals_text source_filename layout_text layout triple target_line target attribute_group type_body type_item global_head section_rest section attachment global_part comma_part global_tail global_value global_item packed_any used_value used_item attachments declare_attachment declare_part declare_tail declare_head declare_parameters declare_item define_part define_tail define_head define_body define_rest define_item bang_node named_node node maybe_distinct node_item list_item item free_items next_items maybe_next_items declare_group declare_groups module_rule register word_operand integer_operand named_operand address_operand simple_operand operand_rule typed_operand comma_operand comma_typed pointer_operand comma_pointer bit_word bit_operand block_name comma_block inline_node attached_node attachment_rule comma_attachment body_attachments list_attachments small_alignment stated_alignment alignment_end plain_end aligned_end scope_rule scope order maybe_order instruction_flags maybe_word two_operands binary_rest predicate icmp_rest cast_rest freeze_rest select_rest incoming_rule incoming_squares comma_incoming more_incoming all_incoming phi_head phi_rest count_operand count_rule counted_end uncounted_end comma_end alloca_plain alloca_end alloca_rest access_words access_end load_rest store_rest step_index step_indices step_head step_rest fence_rest ordered_end rmw_word rmw_rest exchange_words exchange_pointer exchange_end exchange_rest pair_rule pair_type extract_rest argument_value argument_rule comma_argument more_arguments arguments_rule arguments named_call debug_call called call_part call_tail call_type call_head call_rest call_word call_rule simple_behind_void operand_behind_void void_alone void_operand solid_value returned return_rest jump_end branch_end branch_rest case_value case_rule cases_rule cases switch_head switch_rest unreachable_rest value_instruction memory_instruction atomic_instruction alloca common_instruction plain_instruction plain_body body_rule result_name instruction_rule record_rule block_part block_parts worded_terminator terminator block_rule later_blocks blocks_rule function_body
names_calm (array_inside c) h = (contexts_calm c).0
names_calm (types_inside c) h = (contexts_calm c).1
names_calm elements_inside h = idle (list (base element)) elements_rule
names_calm address_inside h = idle (base constant) address_rule
names_calm (parameters_inside c) h = (contexts_calm c).2
names_calm any_inside h = idle nothing any_run
names_calm incoming_inside h = idle (base incoming) incoming_rule
names_calm pair_inside h = idle (base number) pair_rule
names_calm arguments_inside h = idle (list (base typed)) arguments_rule
names_calm cases_inside h = idle (list (base case)) cases_rule
names_calm scope_inside h = idle nothing scope_rule
names_calm blocks_inside h = absurd h

-- ---- derivations

-- a derivation of such a rule lets them stay
calm : (l : ℕ) (s : Sort Base) (a : Production s) (xs : List Terminal) (st : Store) (x : Value shared s) (end : Store)
    → Derives shared production l s a xs st x end → Calm s a → Stay st end
calm l _ _ _ st _ _ (one_token t h) c = still st
calm l _ _ _ st _ end (both {s = s} {t = t} {a = a} {b = b} {xs = xs} {ys = ys} {st' = st'} {x = x} {y = y} p q) c =
    on st st' end (calm l s a xs st x st' p c.0) (calm l t b ys st' y end q c.1)
calm l s _ xs st x end (left {a = a} p) c = calm l s a xs st x end p c.0
calm l s _ xs st x end (right {b = b} p) c = calm l s b xs st x end p c.1
calm l _ _ _ st _ _ absent c = still st
calm l _ _ xs st _ end (present {s = s} {a = a} {x = x} p) c = calm l s a xs st x end p c
calm l _ _ _ st _ _ done c = still st
calm l _ _ _ st _ end (again {s = s} {a = a} {xs = xs} {ys = ys} {st' = st'} {x = x} {rest = rest} p q) c =
    on st st' end (calm l s a xs st x st' p c) (calm l (list s) (many a) ys st' rest end q c)
calm _ _ _ _ st x end (inner {l = l} {n = n} {xs = xs} o d ko p kd) c = calm l (sort_of n) (production n) xs st x end p (names_calm n c)
calm l _ _ xs st _ _ (acted {s = s} {f = f} {a = a} {st' = st'} {x = x} p) c = on st st' (f x st').1 (calm l s a xs st x st' p c.1) (c.0 x st')

row_calm : {A : Type 0} (R : A → Store → Store → Type 0) → ((x : A) (st end : Store) → R x st end → Stay st end) → (xs : List A) (st end : Store) → Chain R xs st end → Stay st end
row_calm R h [] st end e = subst (Stay st) e (still st)
row_calm R h (x ∷ xs) st end r = let (mid, p, q) = r in on st mid end (h x st mid p) (row_calm R h xs mid end q)

perhaps_calm : {A : Type 0} (R : A → Store → Store → Type 0) → ((x : A) (st end : Store) → R x st end → Stay st end) → (x : Option A) (st end : Store) → Perhaps R x st end → Stay st end
perhaps_calm R h None st end e = subst (Stay st) e (still st)
perhaps_calm R h (Some x) st end r = h x st end r

pub calm_run : (F : Terminal → Type 0) (s : Sort Base) (a : Production s) → Calm s a → (x : Value shared s) (st end : Store) → Runs F s a x st end → Stay st end
calm_run F _ (one ks) c x st end r = subst (Stay st) r.2 (still st)
calm_run F _ (refused ks) c x st end r = absurd r
calm_run F _ (◌⨾◌ {s = s} {t = t} a b) c x st end r = let (mid, p, q) = r in on st mid end (calm_run F s a c.0 x.0 st mid p) (calm_run F t b c.1 x.1 mid end q)
calm_run F s (a ∣ b) c x st end r = elim r [ inl p ↦ calm_run F s a c.0 x st end p | inr q ↦ calm_run F s b c.1 x st end q ]
calm_run F _ (optional {s = s} a) c x st end r = perhaps_calm (Runs F s a) (calm_run F s a c) x st end r
calm_run F _ (many {s = s} a) c x st end r = row_calm (Runs F s a) (calm_run F s a c) x st end r
calm_run F _ (between k n k') c x st end r = let (l, xs, d, fine) = r in calm l (sort_of n) (production n) xs st x end d (names_calm n c)
calm_run F _ (act {s = s} f a) c x st end r =
    let (y, mid, p, e, e') = r in subst (Stay st) (sym e') (on st mid (f y mid).1 (calm_run F s a c.1 y st mid p) (c.0 y mid))

-- ---- rules of bodies

kept_stays : (result : Option Token) (word : Token) (o : Option SpelledOperation) (found : List SpelledAttachment) (st : Store) → Stay st (add_kept result word o found st).1
kept_stays result word None found st = still st
kept_stays result word (Some o) found st = (refl, refl, refl)

called_stays : (result : ℕ) (v : Option (Terminal × List TypedOperand)) (st : Store) → Stay st (add_called result v st).1
called_stays result None st = still st
called_stays result (Some v) st = (refl, refl, refl)

call_calm : Calm (pair token call_sort) call_rule
unfolding in_parens in_squares in_braces any_part any_run int_type named_type array_type braced_types struct_type packed_type other_type solid_type type_rule array_rule comma_type more_types types_rule ptr_word integer_value name_value word_value flag flags address_parens address_value value_rule squared_constants braced_constants array_constant struct_constant packed_constant constant_rule typed_constant comma_constant more_elements elements_rule comma_index indices address_base address_rule alignment word_attribute align_attribute convention_attribute text_attribute attribute attributes maybe_local parameter_rule comma_parameter more_parameters parameters_rule parameters equals_text source_filename layout_text layout triple target_line target attribute_group type_body type_item global_head section_rest section attachment global_part comma_part global_tail global_value global_item packed_any used_value used_item attachments declare_attachment declare_part declare_tail declare_head declare_parameters declare_item define_part define_tail define_head define_body define_rest define_item bang_node named_node node maybe_distinct node_item list_item item free_items next_items maybe_next_items declare_group declare_groups module_rule register word_operand integer_operand named_operand address_operand simple_operand operand_rule typed_operand comma_operand comma_typed pointer_operand comma_pointer bit_word bit_operand block_name comma_block inline_node attached_node attachment_rule comma_attachment body_attachments list_attachments small_alignment stated_alignment alignment_end plain_end aligned_end scope_rule scope order maybe_order instruction_flags maybe_word two_operands binary_rest predicate icmp_rest cast_rest freeze_rest select_rest incoming_rule incoming_squares comma_incoming more_incoming all_incoming phi_head phi_rest count_operand count_rule counted_end uncounted_end comma_end alloca_plain alloca_end alloca_rest access_words access_end load_rest store_rest step_index step_indices step_head step_rest fence_rest ordered_end rmw_word rmw_rest exchange_words exchange_pointer exchange_end exchange_rest pair_rule pair_type extract_rest argument_value argument_rule comma_argument more_arguments arguments_rule arguments named_call debug_call called call_part call_tail call_type call_head call_rest call_word call_rule simple_behind_void operand_behind_void void_alone void_operand solid_value returned return_rest jump_end branch_end branch_rest case_value case_rule cases_rule cases switch_head switch_rest unreachable_rest value_instruction memory_instruction atomic_instruction alloca common_instruction plain_instruction plain_body body_rule result_name instruction_rule record_rule block_part block_parts worded_terminator terminator block_rule later_blocks blocks_rule function_body
call_calm = (idle token call_word, (((λ y st. called_stays y.0 y.1 st), idle (pair (base number) called_sort) (call_type ⨾ called)), idle (list (base base_attachment)) (call_tail ▷ body_attachments)))

plain_calm : (entry : Bool) → Calm (pair token call_sort) (plain_body entry)
unfolding in_parens in_squares in_braces any_part any_run int_type named_type array_type braced_types struct_type packed_type other_type solid_type type_rule array_rule comma_type more_types types_rule ptr_word integer_value name_value word_value flag flags address_parens address_value value_rule squared_constants braced_constants array_constant struct_constant packed_constant constant_rule typed_constant comma_constant more_elements elements_rule comma_index indices address_base address_rule alignment word_attribute align_attribute convention_attribute text_attribute attribute attributes maybe_local parameter_rule comma_parameter more_parameters parameters_rule parameters equals_text source_filename layout_text layout triple target_line target attribute_group type_body type_item global_head section_rest section attachment global_part comma_part global_tail global_value global_item packed_any used_value used_item attachments declare_attachment declare_part declare_tail declare_head declare_parameters declare_item define_part define_tail define_head define_body define_rest define_item bang_node named_node node maybe_distinct node_item list_item item free_items next_items maybe_next_items declare_group declare_groups module_rule register word_operand integer_operand named_operand address_operand simple_operand operand_rule typed_operand comma_operand comma_typed pointer_operand comma_pointer bit_word bit_operand block_name comma_block inline_node attached_node attachment_rule comma_attachment body_attachments list_attachments small_alignment stated_alignment alignment_end plain_end aligned_end scope_rule scope order maybe_order instruction_flags maybe_word two_operands binary_rest predicate icmp_rest cast_rest freeze_rest select_rest incoming_rule incoming_squares comma_incoming more_incoming all_incoming phi_head phi_rest count_operand count_rule counted_end uncounted_end comma_end alloca_plain alloca_end alloca_rest access_words access_end load_rest store_rest step_index step_indices step_head step_rest fence_rest ordered_end rmw_word rmw_rest exchange_words exchange_pointer exchange_end exchange_rest pair_rule pair_type extract_rest argument_value argument_rule comma_argument more_arguments arguments_rule arguments named_call debug_call called call_part call_tail call_type call_head call_rest call_word call_rule simple_behind_void operand_behind_void void_alone void_operand solid_value returned return_rest jump_end branch_end branch_rest case_value case_rule cases_rule cases switch_head switch_rest unreachable_rest value_instruction memory_instruction atomic_instruction alloca common_instruction plain_instruction plain_body body_rule result_name instruction_rule record_rule block_part block_parts worded_terminator terminator block_rule later_blocks blocks_rule function_body
plain_calm true = idle (pair token call_sort) (plain_body true)
plain_calm false = idle (pair token call_sort) (plain_body false)

result_calm : Calm token result_name
unfolding result_name
result_calm = idle token result_name

body_calm : (entry : Bool) → Calm (pair token call_sort) (body_rule entry)
unfolding body_rule
body_calm entry = (plain_calm entry, (call_calm, tt))

instruction_calm : (entry : Bool) → Calm (option (base instruction)) (instruction_rule entry)
unfolding instruction_rule
instruction_calm entry = ((λ v st. kept_stays (token_in v.0) ((v.1).0).token (((v.1).1).0) (((v.1).1).1) st), (result_calm, body_calm entry))

record_calm : Calm (option (base instruction)) record_rule
unfolding record_rule in_parens
record_calm = idle (option (base instruction)) record_rule

parts_calm : (entry : Bool) → Calm (list (option (base instruction))) (block_parts entry)
unfolding block_parts block_part
parts_calm entry = (record_calm, instruction_calm entry)

terminator_calm : Calm (base instruction) terminator
unfolding in_parens in_squares in_braces any_part any_run int_type named_type array_type braced_types struct_type packed_type other_type solid_type type_rule array_rule comma_type more_types types_rule ptr_word integer_value name_value word_value flag flags address_parens address_value value_rule squared_constants braced_constants array_constant struct_constant packed_constant constant_rule typed_constant comma_constant more_elements elements_rule comma_index indices address_base address_rule alignment word_attribute align_attribute convention_attribute text_attribute attribute attributes maybe_local parameter_rule comma_parameter more_parameters parameters_rule parameters equals_text source_filename layout_text layout triple target_line target attribute_group type_body type_item global_head section_rest section attachment global_part comma_part global_tail global_value global_item packed_any used_value used_item attachments declare_attachment declare_part declare_tail declare_head declare_parameters declare_item define_part define_tail define_head define_body define_rest define_item bang_node named_node node maybe_distinct node_item list_item item free_items next_items maybe_next_items declare_group declare_groups module_rule register word_operand integer_operand named_operand address_operand simple_operand operand_rule typed_operand comma_operand comma_typed pointer_operand comma_pointer bit_word bit_operand block_name comma_block inline_node attached_node attachment_rule comma_attachment body_attachments list_attachments small_alignment stated_alignment alignment_end plain_end aligned_end scope_rule scope order maybe_order instruction_flags maybe_word two_operands binary_rest predicate icmp_rest cast_rest freeze_rest select_rest incoming_rule incoming_squares comma_incoming more_incoming all_incoming phi_head phi_rest count_operand count_rule counted_end uncounted_end comma_end alloca_plain alloca_end alloca_rest access_words access_end load_rest store_rest step_index step_indices step_head step_rest fence_rest ordered_end rmw_word rmw_rest exchange_words exchange_pointer exchange_end exchange_rest pair_rule pair_type extract_rest argument_value argument_rule comma_argument more_arguments arguments_rule arguments named_call debug_call called call_part call_tail call_type call_head call_rest call_word call_rule simple_behind_void operand_behind_void void_alone void_operand solid_value returned return_rest jump_end branch_end branch_rest case_value case_rule cases_rule cases switch_head switch_rest unreachable_rest value_instruction memory_instruction atomic_instruction alloca common_instruction plain_instruction plain_body body_rule result_name instruction_rule record_rule block_part block_parts worded_terminator terminator block_rule later_blocks blocks_rule function_body
terminator_calm = idle (base instruction) terminator

-- label? (record ( any ) | inst)* term
pub block_calm : (entry : Bool) → Calm (pair (option token) (pair (list (option (base instruction))) (base instruction))) (optional (the k.Label) ⨾ (block_parts entry ⨾ terminator))
block_calm entry = (tt, (parts_calm entry, terminator_calm))

-- ---- rules of items

pub source_calm : Calm (pair token nothing) (the k.SourceFilename ⨾ equals_text)
unfolding in_parens in_squares in_braces any_part any_run int_type named_type array_type braced_types struct_type packed_type other_type solid_type type_rule array_rule comma_type more_types types_rule ptr_word integer_value name_value word_value flag flags address_parens address_value value_rule squared_constants braced_constants array_constant struct_constant packed_constant constant_rule typed_constant comma_constant more_elements elements_rule comma_index indices address_base address_rule alignment word_attribute align_attribute convention_attribute text_attribute attribute attributes maybe_local parameter_rule comma_parameter more_parameters parameters_rule parameters equals_text source_filename layout_text layout triple target_line target attribute_group type_body type_item global_head section_rest section attachment global_part comma_part global_tail global_value global_item packed_any used_value used_item attachments declare_attachment declare_part declare_tail declare_head declare_parameters declare_item define_part define_tail define_head define_body define_rest define_item bang_node named_node node maybe_distinct node_item list_item item free_items next_items maybe_next_items declare_group declare_groups module_rule register word_operand integer_operand named_operand address_operand simple_operand operand_rule typed_operand comma_operand comma_typed pointer_operand comma_pointer bit_word bit_operand block_name comma_block inline_node attached_node attachment_rule comma_attachment body_attachments list_attachments small_alignment stated_alignment alignment_end plain_end aligned_end scope_rule scope order maybe_order instruction_flags maybe_word two_operands binary_rest predicate icmp_rest cast_rest freeze_rest select_rest incoming_rule incoming_squares comma_incoming more_incoming all_incoming phi_head phi_rest count_operand count_rule counted_end uncounted_end comma_end alloca_plain alloca_end alloca_rest access_words access_end load_rest store_rest step_index step_indices step_head step_rest fence_rest ordered_end rmw_word rmw_rest exchange_words exchange_pointer exchange_end exchange_rest pair_rule pair_type extract_rest argument_value argument_rule comma_argument more_arguments arguments_rule arguments named_call debug_call called call_part call_tail call_type call_head call_rest call_word call_rule simple_behind_void operand_behind_void void_alone void_operand solid_value returned return_rest jump_end branch_end branch_rest case_value case_rule cases_rule cases switch_head switch_rest unreachable_rest value_instruction memory_instruction atomic_instruction alloca common_instruction plain_instruction plain_body body_rule result_name instruction_rule record_rule block_part block_parts worded_terminator terminator block_rule later_blocks blocks_rule function_body
source_calm = idle (pair token nothing) (the k.SourceFilename ⨾ equals_text)

pub target_calm : Calm (pair token nothing) (the k.Target ⨾ target_line)
unfolding in_parens in_squares in_braces any_part any_run int_type named_type array_type braced_types struct_type packed_type other_type solid_type type_rule array_rule comma_type more_types types_rule ptr_word integer_value name_value word_value flag flags address_parens address_value value_rule squared_constants braced_constants array_constant struct_constant packed_constant constant_rule typed_constant comma_constant more_elements elements_rule comma_index indices address_base address_rule alignment word_attribute align_attribute convention_attribute text_attribute attribute attributes maybe_local parameter_rule comma_parameter more_parameters parameters_rule parameters equals_text source_filename layout_text layout triple target_line target attribute_group type_body type_item global_head section_rest section attachment global_part comma_part global_tail global_value global_item packed_any used_value used_item attachments declare_attachment declare_part declare_tail declare_head declare_parameters declare_item define_part define_tail define_head define_body define_rest define_item bang_node named_node node maybe_distinct node_item list_item item free_items next_items maybe_next_items declare_group declare_groups module_rule register word_operand integer_operand named_operand address_operand simple_operand operand_rule typed_operand comma_operand comma_typed pointer_operand comma_pointer bit_word bit_operand block_name comma_block inline_node attached_node attachment_rule comma_attachment body_attachments list_attachments small_alignment stated_alignment alignment_end plain_end aligned_end scope_rule scope order maybe_order instruction_flags maybe_word two_operands binary_rest predicate icmp_rest cast_rest freeze_rest select_rest incoming_rule incoming_squares comma_incoming more_incoming all_incoming phi_head phi_rest count_operand count_rule counted_end uncounted_end comma_end alloca_plain alloca_end alloca_rest access_words access_end load_rest store_rest step_index step_indices step_head step_rest fence_rest ordered_end rmw_word rmw_rest exchange_words exchange_pointer exchange_end exchange_rest pair_rule pair_type extract_rest argument_value argument_rule comma_argument more_arguments arguments_rule arguments named_call debug_call called call_part call_tail call_type call_head call_rest call_word call_rule simple_behind_void operand_behind_void void_alone void_operand solid_value returned return_rest jump_end branch_end branch_rest case_value case_rule cases_rule cases switch_head switch_rest unreachable_rest value_instruction memory_instruction atomic_instruction alloca common_instruction plain_instruction plain_body body_rule result_name instruction_rule record_rule block_part block_parts worded_terminator terminator block_rule later_blocks blocks_rule function_body
target_calm = idle (pair token nothing) (the k.Target ⨾ target_line)

pub group_calm : Calm (pair token (pair token (pair token nothing))) (the k.AttributesWord ⨾ (the k.AttrNumber ⨾ (the k.Equals ⨾ in_braces)))
unfolding in_parens in_squares in_braces any_part any_run int_type named_type array_type braced_types struct_type packed_type other_type solid_type type_rule array_rule comma_type more_types types_rule ptr_word integer_value name_value word_value flag flags address_parens address_value value_rule squared_constants braced_constants array_constant struct_constant packed_constant constant_rule typed_constant comma_constant more_elements elements_rule comma_index indices address_base address_rule alignment word_attribute align_attribute convention_attribute text_attribute attribute attributes maybe_local parameter_rule comma_parameter more_parameters parameters_rule parameters equals_text source_filename layout_text layout triple target_line target attribute_group type_body type_item global_head section_rest section attachment global_part comma_part global_tail global_value global_item packed_any used_value used_item attachments declare_attachment declare_part declare_tail declare_head declare_parameters declare_item define_part define_tail define_head define_body define_rest define_item bang_node named_node node maybe_distinct node_item list_item item free_items next_items maybe_next_items declare_group declare_groups module_rule register word_operand integer_operand named_operand address_operand simple_operand operand_rule typed_operand comma_operand comma_typed pointer_operand comma_pointer bit_word bit_operand block_name comma_block inline_node attached_node attachment_rule comma_attachment body_attachments list_attachments small_alignment stated_alignment alignment_end plain_end aligned_end scope_rule scope order maybe_order instruction_flags maybe_word two_operands binary_rest predicate icmp_rest cast_rest freeze_rest select_rest incoming_rule incoming_squares comma_incoming more_incoming all_incoming phi_head phi_rest count_operand count_rule counted_end uncounted_end comma_end alloca_plain alloca_end alloca_rest access_words access_end load_rest store_rest step_index step_indices step_head step_rest fence_rest ordered_end rmw_word rmw_rest exchange_words exchange_pointer exchange_end exchange_rest pair_rule pair_type extract_rest argument_value argument_rule comma_argument more_arguments arguments_rule arguments named_call debug_call called call_part call_tail call_type call_head call_rest call_word call_rule simple_behind_void operand_behind_void void_alone void_operand solid_value returned return_rest jump_end branch_end branch_rest case_value case_rule cases_rule cases switch_head switch_rest unreachable_rest value_instruction memory_instruction atomic_instruction alloca common_instruction plain_instruction plain_body body_rule result_name instruction_rule record_rule block_part block_parts worded_terminator terminator block_rule later_blocks blocks_rule function_body
group_calm = idle (pair token (pair token (pair token nothing))) (the k.AttributesWord ⨾ (the k.AttrNumber ⨾ (the k.Equals ⨾ in_braces)))

pub type_item_calm : Calm (pair token (base number)) (one locals ⨾ (the k.Equals ▷ (the k.TypeWord ▷ type_body)))
unfolding in_parens in_squares in_braces any_part any_run int_type named_type array_type braced_types struct_type packed_type other_type solid_type type_rule array_rule comma_type more_types types_rule ptr_word integer_value name_value word_value flag flags address_parens address_value value_rule squared_constants braced_constants array_constant struct_constant packed_constant constant_rule typed_constant comma_constant more_elements elements_rule comma_index indices address_base address_rule alignment word_attribute align_attribute convention_attribute text_attribute attribute attributes maybe_local parameter_rule comma_parameter more_parameters parameters_rule parameters equals_text source_filename layout_text layout triple target_line target attribute_group type_body type_item global_head section_rest section attachment global_part comma_part global_tail global_value global_item packed_any used_value used_item attachments declare_attachment declare_part declare_tail declare_head declare_parameters declare_item define_part define_tail define_head define_body define_rest define_item bang_node named_node node maybe_distinct node_item list_item item free_items next_items maybe_next_items declare_group declare_groups module_rule register word_operand integer_operand named_operand address_operand simple_operand operand_rule typed_operand comma_operand comma_typed pointer_operand comma_pointer bit_word bit_operand block_name comma_block inline_node attached_node attachment_rule comma_attachment body_attachments list_attachments small_alignment stated_alignment alignment_end plain_end aligned_end scope_rule scope order maybe_order instruction_flags maybe_word two_operands binary_rest predicate icmp_rest cast_rest freeze_rest select_rest incoming_rule incoming_squares comma_incoming more_incoming all_incoming phi_head phi_rest count_operand count_rule counted_end uncounted_end comma_end alloca_plain alloca_end alloca_rest access_words access_end load_rest store_rest step_index step_indices step_head step_rest fence_rest ordered_end rmw_word rmw_rest exchange_words exchange_pointer exchange_end exchange_rest pair_rule pair_type extract_rest argument_value argument_rule comma_argument more_arguments arguments_rule arguments named_call debug_call called call_part call_tail call_type call_head call_rest call_word call_rule simple_behind_void operand_behind_void void_alone void_operand solid_value returned return_rest jump_end branch_end branch_rest case_value case_rule cases_rule cases switch_head switch_rest unreachable_rest value_instruction memory_instruction atomic_instruction alloca common_instruction plain_instruction plain_body body_rule result_name instruction_rule record_rule block_part block_parts worded_terminator terminator block_rule later_blocks blocks_rule function_body
type_item_calm = idle (pair token (base number)) (one locals ⨾ (the k.Equals ▷ (the k.TypeWord ▷ type_body)))

pub global_calm : Calm (pair token (pair (pair token (base number)) (base constant))) (one (k.Global ∷ k.DebugGlobal ∷ []) ⨾ (global_head ⨾ global_value))
unfolding in_parens in_squares in_braces any_part any_run int_type named_type array_type braced_types struct_type packed_type other_type solid_type type_rule array_rule comma_type more_types types_rule ptr_word integer_value name_value word_value flag flags address_parens address_value value_rule squared_constants braced_constants array_constant struct_constant packed_constant constant_rule typed_constant comma_constant more_elements elements_rule comma_index indices address_base address_rule alignment word_attribute align_attribute convention_attribute text_attribute attribute attributes maybe_local parameter_rule comma_parameter more_parameters parameters_rule parameters equals_text source_filename layout_text layout triple target_line target attribute_group type_body type_item global_head section_rest section attachment global_part comma_part global_tail global_value global_item packed_any used_value used_item attachments declare_attachment declare_part declare_tail declare_head declare_parameters declare_item define_part define_tail define_head define_body define_rest define_item bang_node named_node node maybe_distinct node_item list_item item free_items next_items maybe_next_items declare_group declare_groups module_rule register word_operand integer_operand named_operand address_operand simple_operand operand_rule typed_operand comma_operand comma_typed pointer_operand comma_pointer bit_word bit_operand block_name comma_block inline_node attached_node attachment_rule comma_attachment body_attachments list_attachments small_alignment stated_alignment alignment_end plain_end aligned_end scope_rule scope order maybe_order instruction_flags maybe_word two_operands binary_rest predicate icmp_rest cast_rest freeze_rest select_rest incoming_rule incoming_squares comma_incoming more_incoming all_incoming phi_head phi_rest count_operand count_rule counted_end uncounted_end comma_end alloca_plain alloca_end alloca_rest access_words access_end load_rest store_rest step_index step_indices step_head step_rest fence_rest ordered_end rmw_word rmw_rest exchange_words exchange_pointer exchange_end exchange_rest pair_rule pair_type extract_rest argument_value argument_rule comma_argument more_arguments arguments_rule arguments named_call debug_call called call_part call_tail call_type call_head call_rest call_word call_rule simple_behind_void operand_behind_void void_alone void_operand solid_value returned return_rest jump_end branch_end branch_rest case_value case_rule cases_rule cases switch_head switch_rest unreachable_rest value_instruction memory_instruction atomic_instruction alloca common_instruction plain_instruction plain_body body_rule result_name instruction_rule record_rule block_part block_parts worded_terminator terminator block_rule later_blocks blocks_rule function_body
global_calm = idle (pair token (pair (pair token (base number)) (base constant))) (one (k.Global ∷ k.DebugGlobal ∷ []) ⨾ (global_head ⨾ global_value))

pub used_calm : Calm (pair token (pair (pair token (base number)) (pair nothing nothing))) (the k.UsedGlobal ⨾ (global_head ⨾ (used_value ⨾ global_tail)))
unfolding in_parens in_squares in_braces any_part any_run int_type named_type array_type braced_types struct_type packed_type other_type solid_type type_rule array_rule comma_type more_types types_rule ptr_word integer_value name_value word_value flag flags address_parens address_value value_rule squared_constants braced_constants array_constant struct_constant packed_constant constant_rule typed_constant comma_constant more_elements elements_rule comma_index indices address_base address_rule alignment word_attribute align_attribute convention_attribute text_attribute attribute attributes maybe_local parameter_rule comma_parameter more_parameters parameters_rule parameters equals_text source_filename layout_text layout triple target_line target attribute_group type_body type_item global_head section_rest section attachment global_part comma_part global_tail global_value global_item packed_any used_value used_item attachments declare_attachment declare_part declare_tail declare_head declare_parameters declare_item define_part define_tail define_head define_body define_rest define_item bang_node named_node node maybe_distinct node_item list_item item free_items next_items maybe_next_items declare_group declare_groups module_rule register word_operand integer_operand named_operand address_operand simple_operand operand_rule typed_operand comma_operand comma_typed pointer_operand comma_pointer bit_word bit_operand block_name comma_block inline_node attached_node attachment_rule comma_attachment body_attachments list_attachments small_alignment stated_alignment alignment_end plain_end aligned_end scope_rule scope order maybe_order instruction_flags maybe_word two_operands binary_rest predicate icmp_rest cast_rest freeze_rest select_rest incoming_rule incoming_squares comma_incoming more_incoming all_incoming phi_head phi_rest count_operand count_rule counted_end uncounted_end comma_end alloca_plain alloca_end alloca_rest access_words access_end load_rest store_rest step_index step_indices step_head step_rest fence_rest ordered_end rmw_word rmw_rest exchange_words exchange_pointer exchange_end exchange_rest pair_rule pair_type extract_rest argument_value argument_rule comma_argument more_arguments arguments_rule arguments named_call debug_call called call_part call_tail call_type call_head call_rest call_word call_rule simple_behind_void operand_behind_void void_alone void_operand solid_value returned return_rest jump_end branch_end branch_rest case_value case_rule cases_rule cases switch_head switch_rest unreachable_rest value_instruction memory_instruction atomic_instruction alloca common_instruction plain_instruction plain_body body_rule result_name instruction_rule record_rule block_part block_parts worded_terminator terminator block_rule later_blocks blocks_rule function_body
used_calm = idle (pair token (pair (pair token (base number)) (pair nothing nothing))) (the k.UsedGlobal ⨾ (global_head ⨾ (used_value ⨾ global_tail)))

pub declare_calm : Calm (pair (base number) (pair token (list (base parameter)))) (declare_head ⨾ (one globals ⨾ declare_parameters))
unfolding in_parens in_squares in_braces any_part any_run int_type named_type array_type braced_types struct_type packed_type other_type solid_type type_rule array_rule comma_type more_types types_rule ptr_word integer_value name_value word_value flag flags address_parens address_value value_rule squared_constants braced_constants array_constant struct_constant packed_constant constant_rule typed_constant comma_constant more_elements elements_rule comma_index indices address_base address_rule alignment word_attribute align_attribute convention_attribute text_attribute attribute attributes maybe_local parameter_rule comma_parameter more_parameters parameters_rule parameters equals_text source_filename layout_text layout triple target_line target attribute_group type_body type_item global_head section_rest section attachment global_part comma_part global_tail global_value global_item packed_any used_value used_item attachments declare_attachment declare_part declare_tail declare_head declare_parameters declare_item define_part define_tail define_head define_body define_rest define_item bang_node named_node node maybe_distinct node_item list_item item free_items next_items maybe_next_items declare_group declare_groups module_rule register word_operand integer_operand named_operand address_operand simple_operand operand_rule typed_operand comma_operand comma_typed pointer_operand comma_pointer bit_word bit_operand block_name comma_block inline_node attached_node attachment_rule comma_attachment body_attachments list_attachments small_alignment stated_alignment alignment_end plain_end aligned_end scope_rule scope order maybe_order instruction_flags maybe_word two_operands binary_rest predicate icmp_rest cast_rest freeze_rest select_rest incoming_rule incoming_squares comma_incoming more_incoming all_incoming phi_head phi_rest count_operand count_rule counted_end uncounted_end comma_end alloca_plain alloca_end alloca_rest access_words access_end load_rest store_rest step_index step_indices step_head step_rest fence_rest ordered_end rmw_word rmw_rest exchange_words exchange_pointer exchange_end exchange_rest pair_rule pair_type extract_rest argument_value argument_rule comma_argument more_arguments arguments_rule arguments named_call debug_call called call_part call_tail call_type call_head call_rest call_word call_rule simple_behind_void operand_behind_void void_alone void_operand solid_value returned return_rest jump_end branch_end branch_rest case_value case_rule cases_rule cases switch_head switch_rest unreachable_rest value_instruction memory_instruction atomic_instruction alloca common_instruction plain_instruction plain_body body_rule result_name instruction_rule record_rule block_part block_parts worded_terminator terminator block_rule later_blocks blocks_rule function_body
declare_calm = idle (pair (base number) (pair token (list (base parameter)))) (declare_head ⨾ (one globals ⨾ declare_parameters))

pub define_head_calm : Calm (base number) (define_head)
unfolding in_parens in_squares in_braces any_part any_run int_type named_type array_type braced_types struct_type packed_type other_type solid_type type_rule array_rule comma_type more_types types_rule ptr_word integer_value name_value word_value flag flags address_parens address_value value_rule squared_constants braced_constants array_constant struct_constant packed_constant constant_rule typed_constant comma_constant more_elements elements_rule comma_index indices address_base address_rule alignment word_attribute align_attribute convention_attribute text_attribute attribute attributes maybe_local parameter_rule comma_parameter more_parameters parameters_rule parameters equals_text source_filename layout_text layout triple target_line target attribute_group type_body type_item global_head section_rest section attachment global_part comma_part global_tail global_value global_item packed_any used_value used_item attachments declare_attachment declare_part declare_tail declare_head declare_parameters declare_item define_part define_tail define_head define_body define_rest define_item bang_node named_node node maybe_distinct node_item list_item item free_items next_items maybe_next_items declare_group declare_groups module_rule register word_operand integer_operand named_operand address_operand simple_operand operand_rule typed_operand comma_operand comma_typed pointer_operand comma_pointer bit_word bit_operand block_name comma_block inline_node attached_node attachment_rule comma_attachment body_attachments list_attachments small_alignment stated_alignment alignment_end plain_end aligned_end scope_rule scope order maybe_order instruction_flags maybe_word two_operands binary_rest predicate icmp_rest cast_rest freeze_rest select_rest incoming_rule incoming_squares comma_incoming more_incoming all_incoming phi_head phi_rest count_operand count_rule counted_end uncounted_end comma_end alloca_plain alloca_end alloca_rest access_words access_end load_rest store_rest step_index step_indices step_head step_rest fence_rest ordered_end rmw_word rmw_rest exchange_words exchange_pointer exchange_end exchange_rest pair_rule pair_type extract_rest argument_value argument_rule comma_argument more_arguments arguments_rule arguments named_call debug_call called call_part call_tail call_type call_head call_rest call_word call_rule simple_behind_void operand_behind_void void_alone void_operand solid_value returned return_rest jump_end branch_end branch_rest case_value case_rule cases_rule cases switch_head switch_rest unreachable_rest value_instruction memory_instruction atomic_instruction alloca common_instruction plain_instruction plain_body body_rule result_name instruction_rule record_rule block_part block_parts worded_terminator terminator block_rule later_blocks blocks_rule function_body
define_head_calm = idle (base number) (define_head)

pub parameters_calm : Calm (list (base parameter)) (parameters at.Plain)
unfolding in_parens in_squares in_braces any_part any_run int_type named_type array_type braced_types struct_type packed_type other_type solid_type type_rule array_rule comma_type more_types types_rule ptr_word integer_value name_value word_value flag flags address_parens address_value value_rule squared_constants braced_constants array_constant struct_constant packed_constant constant_rule typed_constant comma_constant more_elements elements_rule comma_index indices address_base address_rule alignment word_attribute align_attribute convention_attribute text_attribute attribute attributes maybe_local parameter_rule comma_parameter more_parameters parameters_rule parameters equals_text source_filename layout_text layout triple target_line target attribute_group type_body type_item global_head section_rest section attachment global_part comma_part global_tail global_value global_item packed_any used_value used_item attachments declare_attachment declare_part declare_tail declare_head declare_parameters declare_item define_part define_tail define_head define_body define_rest define_item bang_node named_node node maybe_distinct node_item list_item item free_items next_items maybe_next_items declare_group declare_groups module_rule register word_operand integer_operand named_operand address_operand simple_operand operand_rule typed_operand comma_operand comma_typed pointer_operand comma_pointer bit_word bit_operand block_name comma_block inline_node attached_node attachment_rule comma_attachment body_attachments list_attachments small_alignment stated_alignment alignment_end plain_end aligned_end scope_rule scope order maybe_order instruction_flags maybe_word two_operands binary_rest predicate icmp_rest cast_rest freeze_rest select_rest incoming_rule incoming_squares comma_incoming more_incoming all_incoming phi_head phi_rest count_operand count_rule counted_end uncounted_end comma_end alloca_plain alloca_end alloca_rest access_words access_end load_rest store_rest step_index step_indices step_head step_rest fence_rest ordered_end rmw_word rmw_rest exchange_words exchange_pointer exchange_end exchange_rest pair_rule pair_type extract_rest argument_value argument_rule comma_argument more_arguments arguments_rule arguments named_call debug_call called call_part call_tail call_type call_head call_rest call_word call_rule simple_behind_void operand_behind_void void_alone void_operand solid_value returned return_rest jump_end branch_end branch_rest case_value case_rule cases_rule cases switch_head switch_rest unreachable_rest value_instruction memory_instruction atomic_instruction alloca common_instruction plain_instruction plain_body body_rule result_name instruction_rule record_rule block_part block_parts worded_terminator terminator block_rule later_blocks blocks_rule function_body
parameters_calm = idle (list (base parameter)) (parameters at.Plain)

pub define_tail_calm : Calm (nothing) (define_tail)
unfolding in_parens in_squares in_braces any_part any_run int_type named_type array_type braced_types struct_type packed_type other_type solid_type type_rule array_rule comma_type more_types types_rule ptr_word integer_value name_value word_value flag flags address_parens address_value value_rule squared_constants braced_constants array_constant struct_constant packed_constant constant_rule typed_constant comma_constant more_elements elements_rule comma_index indices address_base address_rule alignment word_attribute align_attribute convention_attribute text_attribute attribute attributes maybe_local parameter_rule comma_parameter more_parameters parameters_rule parameters equals_text source_filename layout_text layout triple target_line target attribute_group type_body type_item global_head section_rest section attachment global_part comma_part global_tail global_value global_item packed_any used_value used_item attachments declare_attachment declare_part declare_tail declare_head declare_parameters declare_item define_part define_tail define_head define_body define_rest define_item bang_node named_node node maybe_distinct node_item list_item item free_items next_items maybe_next_items declare_group declare_groups module_rule register word_operand integer_operand named_operand address_operand simple_operand operand_rule typed_operand comma_operand comma_typed pointer_operand comma_pointer bit_word bit_operand block_name comma_block inline_node attached_node attachment_rule comma_attachment body_attachments list_attachments small_alignment stated_alignment alignment_end plain_end aligned_end scope_rule scope order maybe_order instruction_flags maybe_word two_operands binary_rest predicate icmp_rest cast_rest freeze_rest select_rest incoming_rule incoming_squares comma_incoming more_incoming all_incoming phi_head phi_rest count_operand count_rule counted_end uncounted_end comma_end alloca_plain alloca_end alloca_rest access_words access_end load_rest store_rest step_index step_indices step_head step_rest fence_rest ordered_end rmw_word rmw_rest exchange_words exchange_pointer exchange_end exchange_rest pair_rule pair_type extract_rest argument_value argument_rule comma_argument more_arguments arguments_rule arguments named_call debug_call called call_part call_tail call_type call_head call_rest call_word call_rule simple_behind_void operand_behind_void void_alone void_operand solid_value returned return_rest jump_end branch_end branch_rest case_value case_rule cases_rule cases switch_head switch_rest unreachable_rest value_instruction memory_instruction atomic_instruction alloca common_instruction plain_instruction plain_body body_rule result_name instruction_rule record_rule block_part block_parts worded_terminator terminator block_rule later_blocks blocks_rule function_body
define_tail_calm = idle (nothing) (define_tail)

pub node_item_calm : Calm (pair token (pair token (pair nothing nothing))) (the k.MetaNumber ⨾ (the k.Equals ⨾ (maybe_distinct ⨾ node)))
unfolding in_parens in_squares in_braces any_part any_run int_type named_type array_type braced_types struct_type packed_type other_type solid_type type_rule array_rule comma_type more_types types_rule ptr_word integer_value name_value word_value flag flags address_parens address_value value_rule squared_constants braced_constants array_constant struct_constant packed_constant constant_rule typed_constant comma_constant more_elements elements_rule comma_index indices address_base address_rule alignment word_attribute align_attribute convention_attribute text_attribute attribute attributes maybe_local parameter_rule comma_parameter more_parameters parameters_rule parameters equals_text source_filename layout_text layout triple target_line target attribute_group type_body type_item global_head section_rest section attachment global_part comma_part global_tail global_value global_item packed_any used_value used_item attachments declare_attachment declare_part declare_tail declare_head declare_parameters declare_item define_part define_tail define_head define_body define_rest define_item bang_node named_node node maybe_distinct node_item list_item item free_items next_items maybe_next_items declare_group declare_groups module_rule register word_operand integer_operand named_operand address_operand simple_operand operand_rule typed_operand comma_operand comma_typed pointer_operand comma_pointer bit_word bit_operand block_name comma_block inline_node attached_node attachment_rule comma_attachment body_attachments list_attachments small_alignment stated_alignment alignment_end plain_end aligned_end scope_rule scope order maybe_order instruction_flags maybe_word two_operands binary_rest predicate icmp_rest cast_rest freeze_rest select_rest incoming_rule incoming_squares comma_incoming more_incoming all_incoming phi_head phi_rest count_operand count_rule counted_end uncounted_end comma_end alloca_plain alloca_end alloca_rest access_words access_end load_rest store_rest step_index step_indices step_head step_rest fence_rest ordered_end rmw_word rmw_rest exchange_words exchange_pointer exchange_end exchange_rest pair_rule pair_type extract_rest argument_value argument_rule comma_argument more_arguments arguments_rule arguments named_call debug_call called call_part call_tail call_type call_head call_rest call_word call_rule simple_behind_void operand_behind_void void_alone void_operand solid_value returned return_rest jump_end branch_end branch_rest case_value case_rule cases_rule cases switch_head switch_rest unreachable_rest value_instruction memory_instruction atomic_instruction alloca common_instruction plain_instruction plain_body body_rule result_name instruction_rule record_rule block_part block_parts worded_terminator terminator block_rule later_blocks blocks_rule function_body
node_item_calm = idle (pair token (pair token (pair nothing nothing))) (the k.MetaNumber ⨾ (the k.Equals ⨾ (maybe_distinct ⨾ node)))

pub list_item_calm : (names : List Kind) → Calm (pair token (pair token nothing)) (one names ⨾ (the k.Equals ⨾ bang_node))
unfolding in_parens in_squares in_braces any_part any_run int_type named_type array_type braced_types struct_type packed_type other_type solid_type type_rule array_rule comma_type more_types types_rule ptr_word integer_value name_value word_value flag flags address_parens address_value value_rule squared_constants braced_constants array_constant struct_constant packed_constant constant_rule typed_constant comma_constant more_elements elements_rule comma_index indices address_base address_rule alignment word_attribute align_attribute convention_attribute text_attribute attribute attributes maybe_local parameter_rule comma_parameter more_parameters parameters_rule parameters equals_text source_filename layout_text layout triple target_line target attribute_group type_body type_item global_head section_rest section attachment global_part comma_part global_tail global_value global_item packed_any used_value used_item attachments declare_attachment declare_part declare_tail declare_head declare_parameters declare_item define_part define_tail define_head define_body define_rest define_item bang_node named_node node maybe_distinct node_item list_item item free_items next_items maybe_next_items declare_group declare_groups module_rule register word_operand integer_operand named_operand address_operand simple_operand operand_rule typed_operand comma_operand comma_typed pointer_operand comma_pointer bit_word bit_operand block_name comma_block inline_node attached_node attachment_rule comma_attachment body_attachments list_attachments small_alignment stated_alignment alignment_end plain_end aligned_end scope_rule scope order maybe_order instruction_flags maybe_word two_operands binary_rest predicate icmp_rest cast_rest freeze_rest select_rest incoming_rule incoming_squares comma_incoming more_incoming all_incoming phi_head phi_rest count_operand count_rule counted_end uncounted_end comma_end alloca_plain alloca_end alloca_rest access_words access_end load_rest store_rest step_index step_indices step_head step_rest fence_rest ordered_end rmw_word rmw_rest exchange_words exchange_pointer exchange_end exchange_rest pair_rule pair_type extract_rest argument_value argument_rule comma_argument more_arguments arguments_rule arguments named_call debug_call called call_part call_tail call_type call_head call_rest call_word call_rule simple_behind_void operand_behind_void void_alone void_operand solid_value returned return_rest jump_end branch_end branch_rest case_value case_rule cases_rule cases switch_head switch_rest unreachable_rest value_instruction memory_instruction atomic_instruction alloca common_instruction plain_instruction plain_body body_rule result_name instruction_rule record_rule block_part block_parts worded_terminator terminator block_rule later_blocks blocks_rule function_body
list_item_calm names = idle (pair token (pair token nothing)) (one names ⨾ (the k.Equals ⨾ bang_node))
