-- The conditions under which the law of reading says all, and what is kept, for a whole body.
use Rattle.std.proofs.Common.{ℕ, zero, suc, List, [], ◌∷◌, ◌++◌, drop, length, ◌-◌, ◌≡◌, refl, subst, true, false, All, Ok, Err, arith}
use Rattle.ir_grammar.specs.declared.spelled_bodies.SpelledBlock.{SpelledBlock}
use Rattle.ir_grammar.specs.declared.terminal.Terminal.{Terminal}
use Rattle.ir_grammar.specs.Reading.{Outcome, ◌>>=◌, starts}
use Rattle.ir_grammar.specs.Rules.{base, list}
use Rattle.ir_grammar.specs.Conditions.{is_clear, goes_on, has, ends}
use Rattle.ir_grammar.specs.Names.{block, shared}
use Rattle.ir_grammar.specs.Spelled.{Store}
use Rattle.ir_grammar.specs.Grammar.{production, read, nesting_limit}
use Rattle.ir_grammar.specs.SoundStore.{IsInRange, IsSoundStore, IsSoundBlock, counts_of}
use Rattle.ir_grammar.specs.Kinds.{is_same}
use Rattle.ir_grammar.specs.Skipped.{in_parens, in_squares, in_braces, any_part, any_run}
use Rattle.ir_grammar.specs.Types.{int_type, named_type, array_type, braced_types, struct_type, packed_type, other_type, solid_type, type_rule, array_rule, comma_type, more_types, types_rule, ptr_word}
use Rattle.ir_grammar.specs.Attributes.{alignment, word_attribute, align_attribute, convention_attribute, text_attribute, attribute, attributes}
use Rattle.ir_grammar.specs.Constants.{integer_value, name_value, word_value, flag, flags, address_parens, address_value, value_rule, squared_constants, braced_constants, array_constant, struct_constant, packed_constant, constant_rule, typed_constant, comma_constant, more_elements, elements_rule, comma_index, indices, address_base, address_rule}
use Rattle.ir_grammar.specs.Operands.{register, word_operand, integer_operand, named_operand, address_operand, simple_operand, operand_rule, typed_operand, comma_operand, comma_typed, pointer_operand, comma_pointer, bit_word, bit_operand, block_name, comma_block, inline_node, attached_node, attachment_rule, comma_attachment, attachments, list_attachments, small_alignment, stated_alignment, alignment_end, plain_end, aligned_end, scope_rule, scope, order, maybe_order}
use Rattle.ir_grammar.specs.Instructions.{instruction_flags, maybe_word, two_operands, binary_rest, predicate, icmp_rest, cast_rest, freeze_rest, select_rest, incoming_rule, incoming_squares, comma_incoming, more_incoming, all_incoming, phi_head, phi_rest, count_operand, count_rule, counted_end, uncounted_end, comma_end, alloca_plain, alloca_end, alloca_rest, access_words, access_end, load_rest, store_rest, step_index, step_indices, step_head, step_rest, fence_rest, ordered_end, rmw_word, rmw_rest, exchange_words, exchange_pointer, exchange_end, exchange_rest, pair_rule, pair_type, extract_rest}
use Rattle.ir_grammar.specs.Calls.{argument_value, argument_rule, comma_argument, more_arguments, arguments_rule, arguments, named_call, debug_call, called, call_part, call_tail, call_type, call_head, call_rest, call_word, call_rule}
use Rattle.ir_grammar.specs.Terminators.{simple_behind_void, operand_behind_void, void_alone, void_operand, solid_value, returned, return_rest, jump_end, branch_end, branch_rest, case_value, case_rule, cases_rule, cases, switch_head, switch_rest, unreachable_rest}
use Rattle.ir_grammar.specs.Blocks.{value_instruction, memory_instruction, atomic_instruction, alloca, common_instruction, plain_instruction, plain_body, body_rule, result_name, instruction_rule, record_rule, block_part, block_parts, worded_terminator, terminator, block_rule, later_blocks, blocks_rule, function_body}
use Rattle.std.proofs.lemmas.List.Elements.{All-cons, All-nil}
use Rattle.ir_grammar.proofs.Kept.{SoundValue, Each, each_of_all, kept}
use Rattle.ir_grammar.proofs.SoundSteps.{reading}
use Rattle.ir_grammar.proofs.SharedKept.{Spares}
use Rattle.ir_grammar.proofs.NamesKept.{names_kept}
use Rattle.ir_grammar.proofs.Sound.{all_sound}
use Rattle.ir_read_body.specs.BodyReading.{nothing_read, ReadBody, body_at}

pub body_clear : is_clear shared production (list (base block)) function_body ≡ true
unfolding is_same in_parens in_squares in_braces any_part any_run int_type named_type array_type braced_types struct_type packed_type other_type solid_type type_rule array_rule comma_type more_types types_rule ptr_word alignment word_attribute align_attribute convention_attribute text_attribute attribute attributes integer_value name_value word_value flag flags address_parens address_value value_rule squared_constants braced_constants array_constant struct_constant packed_constant constant_rule typed_constant comma_constant more_elements elements_rule comma_index indices address_base address_rule register word_operand integer_operand named_operand address_operand simple_operand operand_rule typed_operand comma_operand comma_typed pointer_operand comma_pointer bit_word bit_operand block_name comma_block inline_node attached_node attachment_rule comma_attachment attachments list_attachments small_alignment stated_alignment alignment_end plain_end aligned_end scope_rule scope order maybe_order instruction_flags maybe_word two_operands binary_rest predicate icmp_rest cast_rest freeze_rest select_rest incoming_rule incoming_squares comma_incoming more_incoming all_incoming phi_head phi_rest count_operand count_rule counted_end uncounted_end comma_end alloca_plain alloca_end alloca_rest access_words access_end load_rest store_rest step_index step_indices step_head step_rest fence_rest ordered_end rmw_word rmw_rest exchange_words exchange_pointer exchange_end exchange_rest pair_rule pair_type extract_rest argument_value argument_rule comma_argument more_arguments arguments_rule arguments named_call debug_call called call_part call_tail call_type call_head call_rest call_word call_rule simple_behind_void operand_behind_void void_alone void_operand solid_value returned return_rest jump_end branch_end branch_rest case_value case_rule cases_rule cases switch_head switch_rest unreachable_rest value_instruction memory_instruction atomic_instruction alloca common_instruction plain_instruction plain_body body_rule result_name instruction_rule record_rule block_part block_parts worded_terminator terminator block_rule later_blocks blocks_rule function_body
body_clear = refl

pub body_goes_on : goes_on function_body ≡ true
unfolding function_body
body_goes_on = refl

pub body_has : has true function_body ≡ true
unfolding function_body
body_has = refl

pub body_ends : (rest : List Terminal) → starts (ends function_body) rest ≡ false
unfolding function_body
body_ends [] = refl
body_ends (t ∷ ts) = refl

body_kept : Spares (list (base block)) function_body 0
unfolding function_body
body_kept = omega arith

nothing_sound : IsSoundStore nothing_read
nothing_sound = record {
  types = All-nil _;
  fields = All-nil _;
  constants = All-nil _;
  elements = All-nil _;
  indices = All-nil _;
  parameters = All-nil _;
  items = All-nil _;
  bodies = record { operands = All-nil _; incoming = All-nil _; cases = All-nil _; instructions = All-nil _; blocks = All-nil _ };
}

each_front : {A : Type 0} (P : A → Type 0) (xs ys : List A) → Each P (xs ++ ys) → Each P xs
each_front P [] ys h = tt
each_front P (x ∷ xs) ys h = (h.0, each_front P xs ys h.1)

each_drop : {A : Type 0} (P : A → Type 0) (n : ℕ) (xs : List A) → Each P xs → Each P (drop n xs)
each_drop P zero xs h = h
each_drop P (suc n) [] h = h
each_drop P (suc n) (x ∷ xs) h = each_drop P n xs h.1

blocks_sound : (xs : List SpelledBlock) (st : Store) → SoundValue shared reading (list (base block)) xs st → All (IsSoundBlock (counts_of st)) xs
blocks_sound [] st h = All-nil (IsSoundBlock (counts_of st))
blocks_sound (x ∷ xs) st h = All-cons (IsSoundBlock (counts_of st)) x xs h.0 (blocks_sound xs st h.1)

-- what was read is sound
pub record IsSoundBody (x : ReadBody) : Type 0 where
  pub sound : IsSoundStore x.2
  pub blocks : All (IsSoundBlock (counts_of x.2)) x.0

outcome_sound : (tokens : List Terminal) (n : ℕ) (x : ReadBody) (r : Outcome Store (List SpelledBlock)) → Each IsInRange tokens → read nesting_limit function_body tokens nothing_read ≡ r
    → (r >>= λ y. Ok (y.0, n - length y.1, y.2)) ≡ Ok x → IsSoundBody x
outcome_sound tokens n x (Err e) fine h q = cc
outcome_sound tokens n x (Ok y) fine h q =
    let (front, e, d) = all_sound shared production nesting_limit (list (base block)) function_body tokens nothing_read y h in
    let each : Each IsInRange (front ++ y.1) = subst (λ v. Each IsInRange v) e fine in
    let b = kept shared reading production names_kept nesting_limit (list (base block)) function_body front nothing_read y.0 y.2 0 d body_kept (each_front IsInRange front y.1 each) nothing_sound in
    let first : y.0 ≡ x.0 = cc in
    let last : y.2 ≡ x.2 = cc in
    record {
      sound = subst (λ v. IsSoundStore v) last b.good;
      blocks = subst (λ v. All (IsSoundBlock (counts_of v)) x.0) last (subst (λ v. All (IsSoundBlock (counts_of y.2)) v) first (blocks_sound y.0 y.2 b.sound));
    }

pub body_sound : (tokens : List Terminal) (at : ℕ) (x : ReadBody) → All IsInRange tokens → body_at tokens at ≡ Ok x → IsSoundBody x
body_sound tokens at x fine h =
    outcome_sound (drop at tokens) (length tokens) x (read nesting_limit function_body (drop at tokens) nothing_read) (each_drop IsInRange at tokens (each_of_all IsInRange tokens fine)) refl h
