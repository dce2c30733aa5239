-- Reading of function bodies keeps what was read sound.
use Rattle.std.proofs.Common.{ℕ, ◌+◌, List, [], ◌∷◌, ◌++◌, length, ◌≤◌, ◌<◌, ◌≡◌, Bool, true, false, Option, None, Some, arith, length-append}
use Rattle.ir_core.specs.declared.token.Token.{Token}
use Rattle.ir_grammar.specs.declared.context.Context.TheVariants as at
use Rattle.ir_grammar.specs.declared.kind.Kind.{Kind}
use Rattle.ir_grammar.specs.declared.kind.Kind.TheVariants as k
use Rattle.ir_grammar.specs.declared.terminal.Terminal.{Terminal}
use Rattle.ir_grammar.specs.declared.spelled.SpelledType.TheVariants as types
use Rattle.ir_grammar.specs.declared.spelled.SpelledConstant.{SpelledConstant}
use Rattle.ir_grammar.specs.declared.spelled.SpelledConstant.TheVariants as constants
use Rattle.ir_grammar.specs.declared.spelled_bodies.SpelledOperand.{SpelledOperand}
use Rattle.ir_grammar.specs.declared.spelled_bodies.SpelledOperand.TheVariants as operands
use Rattle.ir_grammar.specs.declared.spelled_bodies.TypedOperand.{TypedOperand}
use Rattle.ir_grammar.specs.declared.spelled_bodies.SpelledAttachment.{SpelledAttachment}
use Rattle.ir_grammar.specs.declared.spelled_bodies.SpelledOperation.{SpelledOperation}
use Rattle.ir_grammar.specs.declared.spelled_bodies.SpelledOperation.TheVariants as operations
use Rattle.ir_grammar.specs.declared.spelled_bodies.SpelledInstruction.{SpelledInstruction}
use Rattle.ir_grammar.specs.Rules.{Sort, nothing, token, base, pair, option, list, Value, one, ◌⨾◌, ◌∣◌, optional, many, between, act, the, just, ◌▷◌}
use Rattle.ir_grammar.specs.Words.{integers, locals, globals, commas, meta_names, texts}
use Rattle.ir_grammar.specs.Names.{Base, number, operand, typed, incoming, case, attachment, operation, instruction, block, scope_inside, shared, Production}
use Rattle.ir_grammar.specs.Spelled.{Store, integer_of, token_in, add_type}
use Rattle.ir_grammar.specs.SpelledBodies.{add_kept, kept_ones}
use Rattle.ir_grammar.specs.Skipped.{in_parens, in_braces}
use Rattle.ir_grammar.specs.Types.{type_rule, ptr_word}
use Rattle.ir_grammar.specs.Attributes.{attributes}
use Rattle.ir_grammar.specs.Constants.{flags, address_parens}
use Rattle.ir_grammar.specs.Operands.{register, word_operand, integer_operand, named_operand, address_operand, simple_operand, operand_rule, typed_operand, comma_operand, comma_typed, pointer_operand, comma_pointer, bit_word, bit_operand, block_name, comma_block, inline_node, attached_node, attachment_rule, comma_attachment, attachments, list_attachments, small_alignment, stated_alignment, alignment_end, plain_end, aligned_end, scope_rule, scope, order, maybe_order}
use Rattle.ir_grammar.specs.Instructions.{instruction_flags, maybe_word, two_operands, binary_rest, predicate, icmp_rest, cast_rest, freeze_rest, select_rest, incoming_rule, incoming_squares, comma_incoming, more_incoming, all_incoming, phi_head, phi_rest, count_operand, count_rule, counted_end, uncounted_end, comma_end, alloca_plain, alloca_end, alloca_rest, access_words, access_end, load_rest, store_rest, step_index, step_indices, step_head, step_rest, fence_rest, ordered_end, rmw_word, rmw_rest, exchange_words, exchange_pointer, exchange_end, exchange_rest, pair_rule, pair_type, extract_rest, rest_sort, end_sort}
use Rattle.ir_grammar.specs.Calls.{argument_value, argument_rule, comma_argument, more_arguments, arguments_rule, arguments, named_call, debug_call, called, call_part, call_tail, call_type, call_head, call_rest, call_word, call_rule, called_sort, call_sort, add_called}
use Rattle.ir_grammar.specs.Terminators.{simple_behind_void, operand_behind_void, void_alone, void_operand, solid_value, returned, return_rest, jump_end, branch_end, branch_rest, case_value, case_rule, cases_rule, cases, switch_head, switch_rest, unreachable_rest}
use Rattle.ir_grammar.specs.Blocks.{value_instruction, memory_instruction, atomic_instruction, alloca, common_instruction, plain_instruction, plain_body, body_rule, result_name, instruction_rule, record_rule, block_part, block_parts, worded_terminator, terminator, block_rule, later_blocks, blocks_rule, worded_sort}
use Rattle.ir_grammar.specs.SoundStore.{counts_of, IsSoundConstant, IsSoundCount, IsSoundReturned, IsSoundStore, size_of}
use Rattle.ir_grammar.proofs.Kept.{SoundValue, items_in, Kept, fewer}
use Rattle.ir_grammar.proofs.SoundSteps.{reading, kept_same, kept_type}
use Rattle.ir_grammar.proofs.BodySteps.{kept_operand, kept_phi, kept_step, kept_call, kept_switch, kept_instruction, kept_block}
use Rattle.ir_grammar.proofs.SharedKept.{Spares, gone_kept, then_kept, first_kept, list_kept, type_kept, solid_kept, ptr_kept, in_parens_kept, in_braces_kept, word_kept, flags_kept, address_parens_kept, attribute_kept, attributes_kept}

-- a value is made of another, which costs this much
value_kept : {s t : Sort Base} (f : Value shared s → Value shared t) (a : Production s) (n cost i : ℕ) → ((x : Value shared s) (st : Store) → SoundValue shared reading s x st → SoundValue shared reading t (f x) st)
    → ((x : Value shared s) → items_in shared reading t (f x) ≤ items_in shared reading s x + cost) → Spares s a i → n + cost ≤ i → Spares t (just f a) n
value_kept {s} {t} f a n cost i sound light h le =
    (cost, i, (λ x st from good g. kept_same t (f x) st (size_of st + items_in shared reading s x + cost) good (sound x st g) (let l = light x in omega arith)), h, le)

register_kept : (ks : List Kind) → Spares (base operand) (register ks) 2
unfolding register
register_kept ks = value_kept (λ t. operands.Register t.token) (one ks) 2 0 2 (λ x st h. tt) (λ x. omega arith) (omega arith) (omega arith)

word_operand_kept : (ks : List Kind) (f : Terminal → SpelledConstant) → ((t : Terminal) (st : Store) → IsSoundConstant (counts_of st) (f t)) → Spares (base operand) (word_operand ks f) 2
unfolding word_operand
word_operand_kept ks f h = (1, 8, (λ t st from good sound. kept_operand t (f t) st (size_of st + 0 + 1) good (h t st) (omega arith)), omega arith, omega arith)

integer_kept : Spares (base operand) integer_operand 2
unfolding integer_operand
integer_kept = word_operand_kept integers (λ t. constants.Integer (integer_of t)) (λ t st. tt)

named_kept : Spares (base operand) named_operand 2
unfolding named_operand
named_kept = (
  word_operand_kept (k.True ∷ []) (λ t. constants.Bool true) (λ t st. tt),
  (
    word_operand_kept (k.False ∷ []) (λ t. constants.Bool false) (λ t st. tt),
    (word_operand_kept (k.Null ∷ []) (λ t. constants.Null) (λ t st. tt), word_operand_kept (k.ZeroWord ∷ []) (λ t. constants.Zero) (λ t st. tt)),
  ),
)

address_kept : Spares (base operand) address_operand 2
unfolding address_operand
address_kept =
    value_kept (λ v. operands.Constant (v.0).token v.1) (the k.GetElementPtr ⨾ (flags ▷ address_parens)) 2 0 2 (λ x st h. h.1) (λ x. omega arith)
    (8, 2, omega arith, then_kept flags address_parens 2 0 2 flags_kept address_parens_kept (omega arith), omega arith) (omega arith)

simple_kept : Spares (base operand) simple_operand 2
unfolding simple_operand
simple_kept = (integer_kept, (word_operand_kept globals (λ t. constants.Global t.token) (λ t st. tt), named_kept))

operand_kept : Spares (base operand) operand_rule 2
unfolding operand_rule
operand_kept = (register_kept locals, (simple_kept, (address_kept, tt)))

typed_kept : Spares (base typed) typed_operand 2
unfolding typed_operand
typed_kept = value_kept (λ v. record { ty = v.0; value = v.1 }) (type_rule at.Plain ⨾ operand_rule) 2 0 2 (λ x st h. (h.0, h.1)) (λ x. omega arith) (2, 2, type_kept at.Plain, operand_kept, omega arith) (omega arith)

comma_operand_kept : Spares (base operand) comma_operand 2
unfolding comma_operand
comma_operand_kept = then_kept (one commas) operand_rule 2 8 2 (omega arith) operand_kept (omega arith)

comma_typed_kept : Spares (base typed) comma_typed 2
unfolding comma_typed
comma_typed_kept = then_kept (one commas) typed_operand 2 8 2 (omega arith) typed_kept (omega arith)

pointer_kept : Spares (base operand) pointer_operand 2
unfolding pointer_operand
pointer_kept = then_kept ptr_word operand_rule 2 8 2 ptr_kept operand_kept (omega arith)

comma_pointer_kept : Spares (base operand) comma_pointer 2
unfolding comma_pointer
comma_pointer_kept = then_kept (one commas) pointer_operand 2 8 2 (omega arith) pointer_kept (omega arith)

bit_word_kept : Spares token bit_word 8
unfolding bit_word
bit_word_kept = (omega arith, tt)

bit_operand_kept : Spares (base operand) bit_operand 2
unfolding bit_operand
bit_operand_kept = then_kept bit_word operand_rule 2 8 2 bit_word_kept operand_kept (omega arith)

block_name_kept : Spares token block_name 8
unfolding block_name
block_name_kept = then_kept (the k.LabelWord) (one locals) 8 8 8 (omega arith) (omega arith) (omega arith)

comma_block_kept : Spares token comma_block 8
unfolding comma_block
comma_block_kept = then_kept (one commas) block_name 8 8 8 (omega arith) block_name_kept (omega arith)

inline_kept : Spares token inline_node 8
unfolding inline_node
inline_kept = (first_kept (the k.Bang) in_braces 8 8 16 (omega arith) in_braces_kept (omega arith), first_kept (one meta_names) in_parens 8 8 16 (omega arith) in_parens_kept (omega arith))

attached_kept : Spares token attached_node 8
unfolding attached_node
attached_kept = (omega arith, inline_kept)

attachment_kept : Spares (base attachment) attachment_rule 2
unfolding attachment_rule
attachment_kept = value_kept (λ v. record { name = (v.0).token; node = (v.1).token }) (one meta_names ⨾ attached_node) 2 0 2 (λ x st h. tt) (λ x. omega arith) (8, 8, omega arith, attached_kept, omega arith) (omega arith)

comma_attachment_kept : Spares (base attachment) comma_attachment 1
unfolding comma_attachment
comma_attachment_kept = then_kept (one commas) attachment_rule 1 8 2 (omega arith) attachment_kept (omega arith)

attachments_kept : Spares (list (base attachment)) attachments 0
unfolding attachments
attachments_kept = (omega arith, comma_attachment_kept)

list_attachments_kept : Spares (list (base attachment)) list_attachments 0
unfolding list_attachments
list_attachments_kept = list_kept attachment (the k.MetaComma ▷ attachment_rule) attachments (then_kept (the k.MetaComma) attachment_rule 1 8 2 (omega arith) attachment_kept (omega arith)) attachments_kept

small_kept : Spares token small_alignment 8
unfolding small_alignment
small_kept = (omega arith, tt)

stated_kept : Spares token stated_alignment 8
unfolding stated_alignment
stated_kept = then_kept (the k.Align) small_alignment 8 8 8 (omega arith) small_kept (omega arith)

alignment_end_kept : Spares end_sort alignment_end 1
unfolding alignment_end
alignment_end_kept = value_kept (λ v. (Some v.0, v.1)) (stated_alignment ⨾ attachments) 1 1 8 (λ x st h. (h.0, h.1)) (λ x. omega arith) (8, 0, stated_kept, attachments_kept, omega arith) (omega arith)

plain_end_kept : Spares end_sort plain_end 0
unfolding plain_end
plain_end_kept = value_kept (λ v. (None, v)) list_attachments 0 0 0 (λ x st h. (tt, h)) (λ x. omega arith) list_attachments_kept (omega arith)

aligned_kept : Spares end_sort aligned_end 0
unfolding aligned_end
aligned_kept = (then_kept (the k.Comma) alignment_end 0 8 1 (omega arith) alignment_end_kept (omega arith), plain_end_kept)

pub scope_rule_kept : Spares nothing scope_rule 0
unfolding scope_rule
scope_rule_kept = gone_kept (one texts) 0 (omega arith)

scope_kept : Spares nothing scope 8
unfolding scope
scope_kept = gone_kept (the k.SyncScope ⨾ between k.OpenParen scope_inside k.CloseParen) 8 (8, 16, omega arith, omega arith, omega arith)

order_kept : Spares nothing order 8
unfolding order
order_kept = (word_kept (k.Order ∷ []), gone_kept (scope ⨾ the k.Order) 8 (8, 8, scope_kept, omega arith, omega arith))

maybe_order_kept : Spares nothing maybe_order 0
unfolding maybe_order
maybe_order_kept = gone_kept (optional order) 0 (omega arith, fewer shared reading nothing order 8 1 (omega arith) order_kept)

flags_of_kept : Spares nothing instruction_flags 0
unfolding instruction_flags
flags_of_kept = gone_kept (many (the k.Flag)) 0 (omega arith, omega arith)

maybe_word_kept : (kind : Kind) → Spares nothing (maybe_word kind) 0
unfolding maybe_word
maybe_word_kept kind = gone_kept (optional (the kind)) 0 (omega arith, omega arith)

two_kept : Spares (pair (base typed) (base operand)) two_operands 2
unfolding two_operands
two_kept = (2, 2, typed_kept, comma_operand_kept, omega arith)

binary_kept : Spares rest_sort binary_rest 0
unfolding binary_rest
binary_kept =
    value_kept (λ v. (operations.Binary (v.0).0 (v.0).1, v.1)) (instruction_flags ▷ (two_operands ⨾ attachments)) 0 0 2 (λ x st h. (((h.0).0, (h.0).1), h.1)) (λ x. omega arith)
    (then_kept instruction_flags (two_operands ⨾ attachments) 2 0 2 flags_of_kept (2, 0, two_kept, attachments_kept, omega arith) (omega arith)) (omega arith)

predicate_kept : Spares token predicate 8
unfolding predicate
predicate_kept = then_kept (maybe_word k.SameSign) (the k.Predicate) 8 0 8 (maybe_word_kept k.SameSign) (omega arith) (omega arith)

icmp_kept : Spares rest_sort icmp_rest 0
unfolding icmp_rest
icmp_kept =
    value_kept (λ v. (operations.Icmp (v.0).token ((v.1).0).0 ((v.1).0).1, (v.1).1)) (predicate ⨾ (two_operands ⨾ attachments)) 0 0 8 (λ x st h. ((((h.1).0).0, ((h.1).0).1), (h.1).1)) (λ x. omega arith)
    (8, 2, predicate_kept, (2, 0, two_kept, attachments_kept, omega arith), omega arith) (omega arith)

cast_kept : Spares rest_sort cast_rest 0
unfolding cast_rest
cast_kept =
    value_kept (λ v. (operations.Cast v.0 (v.1).0, (v.1).1)) (instruction_flags ▷ (typed_operand ⨾ ((the k.To ▷ type_rule at.Plain) ⨾ attachments))) 0 0 2 (λ x st h. ((h.0, (h.1).0), (h.1).1)) (λ x. omega arith)
    (then_kept instruction_flags (typed_operand ⨾ ((the k.To ▷ type_rule at.Plain) ⨾ attachments)) 2 0 2 flags_of_kept
    (2, 2, typed_kept, (2, 0, then_kept (the k.To) (type_rule at.Plain) 2 8 2 (omega arith) (type_kept at.Plain) (omega arith), attachments_kept, omega arith), omega arith) (omega arith))
    (omega arith)

freeze_kept : Spares rest_sort freeze_rest 0
unfolding freeze_rest
freeze_kept = value_kept (λ v. (operations.Freeze v.0, v.1)) (typed_operand ⨾ attachments) 0 0 2 (λ x st h. (h.0, h.1)) (λ x. omega arith) (2, 0, typed_kept, attachments_kept, omega arith) (omega arith)

select_kept : Spares rest_sort select_rest 0
unfolding select_rest
select_kept =
    value_kept (λ v. (operations.Select v.0 (v.1).0 ((v.1).1).0, ((v.1).1).1)) (bit_operand ⨾ (comma_typed ⨾ (comma_typed ⨾ attachments))) 0 0 2 (λ x st h. ((h.0, (h.1).0, ((h.1).1).0), ((h.1).1).1)) (λ x. omega arith)
    (2, 2, bit_operand_kept, (2, 2, comma_typed_kept, (2, 0, comma_typed_kept, attachments_kept, omega arith), omega arith), omega arith) (omega arith)

pub incoming_kept : Spares (base incoming) incoming_rule 0
unfolding incoming_rule
incoming_kept =
    value_kept (λ v. record { value = v.0; block = (v.1).token }) (operand_rule ⨾ (one commas ▷ one locals)) 0 0 2 (λ x st h. h.0) (λ x. omega arith)
    (2, 8, operand_kept, then_kept (one commas) (one locals) 8 8 8 (omega arith) (omega arith) (omega arith), omega arith) (omega arith)

squares_kept : Spares (base incoming) incoming_squares 16
unfolding incoming_squares
squares_kept = omega arith

comma_incoming_kept : Spares (base incoming) comma_incoming 1
unfolding comma_incoming
comma_incoming_kept = then_kept (the k.Comma) incoming_squares 1 8 16 (omega arith) squares_kept (omega arith)

more_incoming_kept : Spares (list (base incoming)) more_incoming 0
unfolding more_incoming
more_incoming_kept = (omega arith, comma_incoming_kept)

all_incoming_kept : Spares (list (base incoming)) all_incoming 0
unfolding all_incoming
all_incoming_kept = value_kept (λ v. v.0 ∷ v.1) (incoming_squares ⨾ more_incoming) 0 1 16 (λ x st h. (h.0, h.1)) (λ x. omega arith) (16, 0, squares_kept, more_incoming_kept, omega arith) (omega arith)

phi_head_kept : Spares (base operation) phi_head 0
unfolding phi_head
phi_head_kept = (0, 2, (λ v st from good sound. kept_phi v.0 v.1 st (size_of st + (0 + length v.1) + 0) good sound.0 sound.1 (omega arith)), (2, 0, type_kept at.Plain, all_incoming_kept, omega arith), omega arith)

phi_kept : Spares rest_sort phi_rest 0
unfolding phi_rest
phi_kept = (0, 0, phi_head_kept, list_attachments_kept, omega arith)

count_operand_kept : Spares (base operand) count_operand 2
unfolding count_operand
count_operand_kept = (integer_kept, tt)

count_rule_kept : Spares (base typed) count_rule 2
unfolding count_rule
count_rule_kept = value_kept (λ v. record { ty = v.0; value = v.1 }) (type_rule at.Plain ⨾ count_operand) 2 0 2 (λ x st h. (h.0, h.1)) (λ x. omega arith) (2, 2, type_kept at.Plain, count_operand_kept, omega arith) (omega arith)

counted_kept : Spares (pair (option (base typed)) end_sort) counted_end 1
unfolding counted_end
counted_kept = value_kept (λ v. (Some v.0, v.1)) (count_rule ⨾ aligned_end) 1 1 2 (λ x st h. (h.0, h.1)) (λ x. omega arith) (2, 0, count_rule_kept, aligned_kept, omega arith) (omega arith)

uncounted_kept : Spares (pair (option (base typed)) end_sort) uncounted_end 1
unfolding uncounted_end
uncounted_kept = value_kept (λ v. (None, v)) alignment_end 1 0 1 (λ x st h. (tt, h)) (λ x. omega arith) alignment_end_kept (omega arith)

comma_end_kept : Spares (pair (option (base typed)) end_sort) comma_end 0
unfolding comma_end
comma_end_kept = then_kept (the k.Comma) (uncounted_end ∣ counted_end) 0 8 1 (omega arith) (uncounted_kept, counted_kept) (omega arith)

alloca_plain_kept : Spares (pair (option (base typed)) end_sort) alloca_plain 0
unfolding alloca_plain
alloca_plain_kept = value_kept (λ v. (None, v)) plain_end 0 0 0 (λ x st h. (tt, h)) (λ x. omega arith) plain_end_kept (omega arith)

alloca_end_kept : Spares (pair (option (base typed)) end_sort) alloca_end 0
unfolding alloca_end
alloca_end_kept = (comma_end_kept, alloca_plain_kept)

count_sound : (o : Option TypedOperand) (st : Store) → SoundValue shared reading (option (base typed)) o st → IsSoundCount (counts_of st) o
count_sound None st h = tt
count_sound (Some x) st h = h

alloca_rest_kept : Spares rest_sort alloca_rest 0
unfolding alloca_rest
alloca_rest_kept =
    value_kept (λ v. (operations.Alloca v.0 (v.1).0 (token_in ((v.1).1).0), ((v.1).1).1)) (type_rule at.Plain ⨾ alloca_end) 0 0 2 (λ x st h. ((h.0, count_sound (x.1).0 st (h.1).0), ((h.1).1).1)) (λ x. omega arith)
    (2, 0, type_kept at.Plain, alloca_end_kept, omega arith) (omega arith)

access_words_kept : Spares nothing access_words 0
unfolding access_words
access_words_kept = gone_kept (maybe_word k.Atomic ⨾ maybe_word k.Volatile) 0 (0, 0, maybe_word_kept k.Atomic, maybe_word_kept k.Volatile, omega arith)

access_end_kept : Spares end_sort access_end 0
unfolding access_end
access_end_kept = then_kept maybe_order aligned_end 0 0 0 maybe_order_kept aligned_kept (omega arith)

load_kept : Spares rest_sort load_rest 0
unfolding load_rest
load_kept =
    value_kept (λ v. (operations.Load v.0 (v.1).0 (token_in ((v.1).1).0), ((v.1).1).1)) (access_words ▷ (type_rule at.Plain ⨾ (comma_pointer ⨾ access_end))) 0 0 2 (λ x st h. ((h.0, (h.1).0), ((h.1).1).1)) (λ x. omega arith)
    (then_kept access_words (type_rule at.Plain ⨾ (comma_pointer ⨾ access_end)) 2 0 2 access_words_kept (2, 2, type_kept at.Plain, (2, 0, comma_pointer_kept, access_end_kept, omega arith), omega arith) (omega arith)) (omega arith)

store_kept : Spares rest_sort store_rest 0
unfolding store_rest
store_kept =
    value_kept (λ v. (operations.Store v.0 (v.1).0 (token_in ((v.1).1).0), ((v.1).1).1)) (access_words ▷ (typed_operand ⨾ (comma_pointer ⨾ access_end))) 0 0 2 (λ x st h. ((h.0, (h.1).0), ((h.1).1).1)) (λ x. omega arith)
    (then_kept access_words (typed_operand ⨾ (comma_pointer ⨾ access_end)) 2 0 2 access_words_kept (2, 2, typed_kept, (2, 0, comma_pointer_kept, access_end_kept, omega arith), omega arith) (omega arith)) (omega arith)

step_index_kept : Spares (base typed) step_index 1
unfolding step_index
step_index_kept = then_kept (the k.Comma) typed_operand 1 8 2 (omega arith) typed_kept (omega arith)

step_indices_kept : Spares (list (base typed)) step_indices 0
unfolding step_indices
step_indices_kept = (omega arith, step_index_kept)

step_head_kept : Spares (base operation) step_head 0
unfolding step_head
step_head_kept = (
  0,
  2,
  (λ v st from good sound. kept_step v.0 (v.1).0 (v.1).1 st (size_of st + (0 + (0 + length (v.1).1)) + 0) good sound.0 (sound.1).0 (sound.1).1 (omega arith)),
  then_kept instruction_flags (type_rule at.Plain ⨾ (comma_pointer ⨾ step_indices)) 2 0 2 flags_of_kept (2, 2, type_kept at.Plain, (2, 0, comma_pointer_kept, step_indices_kept, omega arith), omega arith) (omega arith),
  omega arith,
)

step_kept : Spares rest_sort step_rest 0
unfolding step_rest
step_kept = (0, 0, step_head_kept, list_attachments_kept, omega arith)

fence_kept : Spares rest_sort fence_rest 0
unfolding fence_rest
fence_kept = value_kept (λ v. (operations.Fence, v)) (order ▷ attachments) 0 0 0 (λ x st h. (tt, h)) (λ x. omega arith) (then_kept order attachments 0 8 0 order_kept attachments_kept (omega arith)) (omega arith)

ordered_end_kept : Spares end_sort ordered_end 0
unfolding ordered_end
ordered_end_kept = then_kept order aligned_end 0 8 0 order_kept aligned_kept (omega arith)

rmw_word_kept : Spares token rmw_word 8
unfolding rmw_word
rmw_word_kept = then_kept (maybe_word k.Volatile) (one (k.BinaryRmw ∷ k.Rmw ∷ [])) 8 0 8 (maybe_word_kept k.Volatile) (omega arith) (omega arith)

rmw_kept : Spares rest_sort rmw_rest 0
unfolding rmw_rest
rmw_kept =
    value_kept (λ v. (operations.AtomicRmw (v.0).token (v.1).0 ((v.1).1).0 (token_in (((v.1).1).1).0), (((v.1).1).1).1)) (rmw_word ⨾ (pointer_operand ⨾ (comma_typed ⨾ ordered_end))) 0 0 8
    (λ x st h. (((h.1).0, ((h.1).1).0), (((h.1).1).1).1)) (λ x. omega arith)
    (8, 2, rmw_word_kept, (2, 2, pointer_kept, (2, 0, comma_typed_kept, ordered_end_kept, omega arith), omega arith), omega arith) (omega arith)

exchange_words_kept : Spares nothing exchange_words 0
unfolding exchange_words
exchange_words_kept = gone_kept (maybe_word k.Weak ⨾ maybe_word k.Volatile) 0 (0, 0, maybe_word_kept k.Weak, maybe_word_kept k.Volatile, omega arith)

exchange_pointer_kept : Spares (base operand) exchange_pointer 2
unfolding exchange_pointer
exchange_pointer_kept = then_kept exchange_words pointer_operand 2 0 2 exchange_words_kept pointer_kept (omega arith)

exchange_end_kept : Spares end_sort exchange_end 0
unfolding exchange_end
exchange_end_kept = then_kept order ordered_end 0 8 0 order_kept ordered_end_kept (omega arith)

exchange_kept : Spares rest_sort exchange_rest 0
unfolding exchange_rest
exchange_kept =
    value_kept (λ v. (operations.CmpXchg v.0 (v.1).0 ((v.1).1).0 (token_in (((v.1).1).1).0), (((v.1).1).1).1)) (exchange_pointer ⨾ (comma_typed ⨾ (comma_typed ⨾ exchange_end))) 0 0 2
    (λ x st h. ((h.0, (h.1).0, ((h.1).1).0), (((h.1).1).1).1)) (λ x. omega arith)
    (2, 2, exchange_pointer_kept, (2, 2, comma_typed_kept, (2, 0, comma_typed_kept, exchange_end_kept, omega arith), omega arith), omega arith) (omega arith)

pub pair_kept : Spares (base number) pair_rule 0
unfolding pair_rule
pair_kept = first_kept (type_rule at.Plain) (one commas ▷ bit_word) 0 2 8 (type_kept at.Plain) (then_kept (one commas) bit_word 8 8 8 (omega arith) bit_word_kept (omega arith)) (omega arith)

pair_type_kept : Spares (base number) pair_type 2
unfolding pair_type
pair_type_kept = (omega arith, tt)

extract_kept : Spares rest_sort extract_rest 0
unfolding extract_rest
extract_kept =
    value_kept (λ v. (operations.ExtractValue v.0 (v.1).0 ((v.1).1).0.token, ((v.1).1).1)) (pair_type ⨾ (operand_rule ⨾ ((one commas ▷ one integers) ⨾ attachments))) 0 0 2 (λ x st h. ((h.0, (h.1).0), ((h.1).1).1)) (λ x. omega arith)
    (2, 2, pair_type_kept, (2, 8, operand_kept, (8, 0, then_kept (one commas) (one integers) 8 8 8 (omega arith) (omega arith) (omega arith), attachments_kept, omega arith), omega arith), omega arith) (omega arith)

argument_value_kept : Spares (base operand) argument_value 2
unfolding argument_value
argument_value_kept = then_kept (attributes at.Plain) operand_rule 2 0 2 (attributes_kept at.Plain) operand_kept (omega arith)

argument_kept : Spares (base typed) argument_rule 1
unfolding argument_rule
argument_kept = value_kept (λ v. record { ty = v.0; value = v.1 }) (type_rule at.Plain ⨾ argument_value) 1 0 2 (λ x st h. (h.0, h.1)) (λ x. omega arith) (2, 2, type_kept at.Plain, argument_value_kept, omega arith) (omega arith)

comma_argument_kept : Spares (base typed) comma_argument 1
unfolding comma_argument
comma_argument_kept = then_kept (one commas) argument_rule 1 8 1 (omega arith) argument_kept (omega arith)

more_arguments_kept : Spares (list (base typed)) more_arguments 0
unfolding more_arguments
more_arguments_kept = (omega arith, comma_argument_kept)

pub arguments_rule_kept : Spares (list (base typed)) arguments_rule 0
unfolding arguments_rule
arguments_rule_kept = list_kept typed argument_rule more_arguments argument_kept more_arguments_kept

arguments_kept : Spares (list (base typed)) arguments 16
unfolding arguments
arguments_kept = omega arith

named_call_kept : Spares called_sort named_call 1
unfolding named_call
named_call_kept = value_kept (λ v. Some v) (one (k.Global ∷ k.UsedGlobal ∷ []) ⨾ arguments) 1 1 8 (λ x st h. h) (λ x. omega arith) (8, 16, omega arith, arguments_kept, omega arith) (omega arith)

debug_call_kept : Spares called_sort debug_call 1
unfolding debug_call
debug_call_kept = value_kept (λ v. None) (the k.DebugGlobal ⨾ in_parens) 1 0 8 (λ x st h. tt) (λ x. omega arith) (8, 16, omega arith, in_parens_kept, omega arith) (omega arith)

called_kept : Spares called_sort called 1
unfolding called
called_kept = (named_call_kept, (debug_call_kept, tt))

call_part_kept : Spares nothing call_part 1
unfolding call_part
call_part_kept = (attribute_kept at.Plain, tt)

call_tail_kept : Spares nothing call_tail 0
unfolding call_tail
call_tail_kept = gone_kept (many call_part) 0 (omega arith, call_part_kept)

kept_called : (ty : ℕ) (o : Option (Terminal × List TypedOperand)) (st : Store) (budget : ℕ) → IsSoundStore st → ty < length st.types → SoundValue shared reading called_sort o st
    → size_of st + items_in shared reading called_sort o ≤ budget → Kept shared reading (option (base operation)) (add_called ty o st).0 st (add_called ty o st).1 budget
kept_called ty None st budget good ht h le = kept_same (option (base operation)) None st budget good tt (omega arith)
kept_called ty (Some v) st budget good ht h le =
    let c = kept_call (v.0).token ty v.1 st (size_of st + length v.1) good ht h.1 (omega arith) in
    let light = c.light in
    record { good = c.good; grows = c.grows; sound = c.sound; light = omega arith }

call_type_kept : Spares (base number) call_type 2
unfolding call_type
call_type_kept = then_kept (attributes at.Plain) (type_rule at.Plain) 2 0 2 (attributes_kept at.Plain) (type_kept at.Plain) (omega arith)

call_head_kept : Spares (option (base operation)) call_head 0
unfolding call_head
call_head_kept = (
  0,
  2,
  (λ v st from good sound. kept_called v.0 v.1 st (size_of st + (0 + items_in shared reading called_sort v.1) + 0) good sound.0 sound.1 (omega arith)),
  (2, 1, call_type_kept, called_kept, omega arith),
  omega arith,
)

call_rest_kept : Spares call_sort call_rest 0
unfolding call_rest
call_rest_kept = (0, 0, call_head_kept, then_kept call_tail attachments 0 0 0 call_tail_kept attachments_kept (omega arith), omega arith)

call_word_kept : Spares token call_word 8
unfolding call_word
call_word_kept = (omega arith, first_kept (the k.TailWord) (the k.Call) 8 8 8 (omega arith) (omega arith) (omega arith))

call_kept : Spares (pair token call_sort) call_rule 4
unfolding call_rule
call_kept = (8, 0, call_word_kept, call_rest_kept, omega arith)

void_kept : (ks : List Kind) → Spares (base number) (act (λ t. add_type types.Void) (one ks)) 2
void_kept ks = (1, 8, (λ t st from good sound. kept_type types.Void st (size_of st + 0 + 1) good tt (omega arith)), omega arith, omega arith)

simple_behind_kept : Spares (base operand) simple_behind_void 1
unfolding simple_behind_void
simple_behind_kept = (fewer shared reading (base operand) simple_operand 2 1 (omega arith) simple_kept, tt)

operand_behind_kept : Spares (base operand) operand_behind_void 2
unfolding operand_behind_void
operand_behind_kept = (register_kept (k.Local ∷ []), address_kept)

void_alone_kept : Spares (pair (base number) (option (base operand))) void_alone 1
unfolding void_alone
void_alone_kept = (2, 0, void_kept (k.Void ∷ []), (omega arith, simple_behind_kept), omega arith)

void_operand_kept : Spares (pair (base number) (option (base operand))) void_operand 1
unfolding void_operand
void_operand_kept = (2, 1, void_kept (k.VoidBeforeOperand ∷ []), value_kept (λ v. Some v) operand_behind_void 1 1 2 (λ x st h. h) (λ x. omega arith) operand_behind_kept (omega arith), omega arith)

solid_value_kept : Spares (pair (base number) (option (base operand))) solid_value 1
unfolding solid_value
solid_value_kept = (2, 1, solid_kept at.Plain, value_kept (λ v. Some v) operand_rule 1 1 2 (λ x st h. h) (λ x. omega arith) operand_kept (omega arith), omega arith)

returned_kept : Spares (pair (base number) (option (base operand))) returned 1
unfolding returned
returned_kept = (void_alone_kept, (void_operand_kept, solid_value_kept))

returned_sound : (o : Option SpelledOperand) (st : Store) → SoundValue shared reading (option (base operand)) o st → IsSoundReturned (counts_of st) o
returned_sound None st h = tt
returned_sound (Some x) st h = h

return_kept : Spares rest_sort return_rest 0
unfolding return_rest
return_kept =
    value_kept (λ v. (operations.Return (v.0).0 (v.0).1, v.1)) (returned ⨾ attachments) 0 0 1 (λ x st h. (((h.0).0, returned_sound (x.0).1 st (h.0).1), h.1)) (λ x. omega arith)
    (1, 0, returned_kept, attachments_kept, omega arith) (omega arith)

jump_kept : Spares rest_sort jump_end 0
unfolding jump_end
jump_kept = value_kept (λ v. (operations.Jump (v.0).token, v.1)) (block_name ⨾ attachments) 0 0 8 (λ x st h. (tt, h.1)) (λ x. omega arith) (8, 0, block_name_kept, attachments_kept, omega arith) (omega arith)

branch_end_kept : Spares rest_sort branch_end 0
unfolding branch_end
branch_end_kept =
    value_kept (λ v. (operations.Branch v.0 (v.1).0.token ((v.1).1).0.token, ((v.1).1).1)) (bit_operand ⨾ (comma_block ⨾ (comma_block ⨾ attachments))) 0 0 2 (λ x st h. (h.0, ((h.1).1).1)) (λ x. omega arith)
    (2, 8, bit_operand_kept, (8, 8, comma_block_kept, (8, 0, comma_block_kept, attachments_kept, omega arith), omega arith), omega arith) (omega arith)

branch_kept : Spares rest_sort branch_rest 0
unfolding branch_rest
branch_kept = (jump_kept, branch_end_kept)

case_value_kept : Spares (base typed) case_value 2
unfolding case_value
case_value_kept = value_kept (λ v. record { ty = v.0; value = v.1 }) (type_rule at.Plain ⨾ integer_operand) 2 0 2 (λ x st h. (h.0, h.1)) (λ x. omega arith) (2, 2, type_kept at.Plain, integer_kept, omega arith) (omega arith)

case_kept : Spares (base case) case_rule 1
unfolding case_rule
case_kept = value_kept (λ v. record { value = v.0; block = (v.1).token }) (case_value ⨾ comma_block) 1 0 2 (λ x st h. h.0) (λ x. omega arith) (2, 8, case_value_kept, comma_block_kept, omega arith) (omega arith)

pub cases_rule_kept : Spares (list (base case)) cases_rule 0
unfolding cases_rule
cases_rule_kept = (omega arith, case_kept)

cases_kept : Spares (list (base case)) cases 16
unfolding cases
cases_kept = omega arith

switch_head_kept : Spares (base operation) switch_head 0
unfolding switch_head
switch_head_kept = (
  0,
  2,
  (λ v st from good sound. kept_switch v.0 (v.1).0.token (v.1).1 st (size_of st + (0 + (0 + length (v.1).1)) + 0) good sound.0 (sound.1).1 (omega arith)),
  (2, 8, typed_kept, (8, 16, comma_block_kept, cases_kept, omega arith), omega arith),
  omega arith,
)

switch_kept : Spares rest_sort switch_rest 0
unfolding switch_rest
switch_kept = (0, 0, switch_head_kept, attachments_kept, omega arith)

unreachable_kept : Spares rest_sort unreachable_rest 0
unfolding unreachable_rest
unreachable_kept = value_kept (λ v. (operations.Unreachable, v)) attachments 0 0 0 (λ x st h. (tt, h)) (λ x. omega arith) attachments_kept (omega arith)

-- a word, and what follows it
worded_kept : (ks : List Kind) (a : Production rest_sort) → Spares rest_sort a 0 → Spares worded_sort (one ks ⨾ a) 8
worded_kept ks a h = (8, 0, omega arith, h, omega arith)

value_instruction_kept : Spares worded_sort value_instruction 8
unfolding value_instruction
value_instruction_kept = (
  worded_kept (k.Binary ∷ k.BinaryRmw ∷ []) binary_rest binary_kept,
  (
    worded_kept (k.Icmp ∷ []) icmp_rest icmp_kept,
    (
      worded_kept (k.Cast ∷ []) cast_rest cast_kept,
      (
        worded_kept (k.Freeze ∷ []) freeze_rest freeze_kept,
        (worded_kept (k.Select ∷ []) select_rest select_kept, worded_kept (k.Phi ∷ []) phi_rest phi_kept),
      ),
    ),
  ),
)

memory_instruction_kept : Spares worded_sort memory_instruction 8
unfolding memory_instruction
memory_instruction_kept = (worded_kept (k.Load ∷ []) load_rest load_kept, (worded_kept (k.Store ∷ []) store_rest store_kept, worded_kept (k.GetElementPtr ∷ []) step_rest step_kept))

atomic_instruction_kept : Spares worded_sort atomic_instruction 8
unfolding atomic_instruction
atomic_instruction_kept = (
  worded_kept (k.Fence ∷ []) fence_rest fence_kept,
  (
    worded_kept (k.AtomicRmw ∷ []) rmw_rest rmw_kept,
    (worded_kept (k.CmpXchg ∷ []) exchange_rest exchange_kept, worded_kept (k.ExtractValue ∷ []) extract_rest extract_kept),
  ),
)

alloca_kept : Spares worded_sort alloca 8
unfolding alloca
alloca_kept = worded_kept (k.Alloca ∷ []) alloca_rest alloca_rest_kept

common_kept : Spares worded_sort common_instruction 8
unfolding common_instruction
common_kept = (value_instruction_kept, (memory_instruction_kept, atomic_instruction_kept))

plain_kept : (entry : Bool) → Spares worded_sort (plain_instruction entry) 8
unfolding plain_instruction
plain_kept true = (common_kept, alloca_kept)
plain_kept false = common_kept

plain_body_kept : (entry : Bool) → Spares (pair token call_sort) (plain_body entry) 4
unfolding plain_body
plain_body_kept entry = value_kept (λ v. (v.0, (Some (v.1).0, (v.1).1))) (plain_instruction entry) 4 1 8 (λ x st h. (h.0, ((h.1).0, (h.1).1))) (λ x. omega arith) (plain_kept entry) (omega arith)

body_kept : (entry : Bool) → Spares (pair token call_sort) (body_rule entry) 4
unfolding body_rule
body_kept entry = (plain_body_kept entry, (call_kept, tt))

result_kept : Spares token result_name 8
unfolding result_name
result_kept = first_kept (one locals) (the k.Equals) 8 8 8 (omega arith) (omega arith) (omega arith)

kept_optional : (result : Option Token) (word : Token) (o : Option SpelledOperation) (found : List SpelledAttachment) (st : Store) (budget : ℕ) → IsSoundStore st → SoundValue shared reading (option (base operation)) o st
    → size_of st + (items_in shared reading (option (base operation)) o + length found) ≤ budget → Kept shared reading (option (base instruction)) (add_kept result word o found st).0 st (add_kept result word o found st).1 budget
kept_optional result word None found st budget good h le = kept_same (option (base instruction)) None st budget good tt (omega arith)
kept_optional result word (Some o) found st budget good h le =
    let c = kept_instruction result word o found st (size_of st + length found) good h (omega arith) in
    let light = c.light in
    record { good = c.good; grows = c.grows; sound = c.sound; light = omega arith }

instruction_kept : (entry : Bool) → Spares (option (base instruction)) (instruction_rule entry) 1
unfolding instruction_rule
instruction_kept entry = (
  0,
  4,
  (λ v st from good sound. kept_optional (token_in v.0) ((v.1).0).token (((v.1).1).0) (((v.1).1).1) st
      (size_of st + (items_in shared reading (option token) v.0 + (0 + (items_in shared reading (option (base operation)) (((v.1).1).0) + length (((v.1).1).1)))) + 0) good (((sound.1).1).0) (omega arith)),
  (0, 4, (omega arith, fewer shared reading token result_name 8 1 (omega arith) result_kept), body_kept entry, omega arith),
  omega arith,
)

record_kept : Spares (option (base instruction)) record_rule 1
unfolding record_rule
record_kept = value_kept (λ v. None) (the k.DebugRecord ⨾ in_parens) 1 0 8 (λ x st h. tt) (λ x. omega arith) (8, 16, omega arith, in_parens_kept, omega arith) (omega arith)

part_kept : (entry : Bool) → Spares (option (base instruction)) (block_part entry) 1
unfolding block_part
part_kept entry = (record_kept, instruction_kept entry)

parts_kept : (entry : Bool) → Spares (list (option (base instruction))) (block_parts entry) 0
unfolding block_parts
parts_kept entry = (omega arith, part_kept entry)

worded_terminator_kept : Spares worded_sort worded_terminator 8
unfolding worded_terminator
worded_terminator_kept = (
  worded_kept (k.Ret ∷ []) return_rest return_kept,
  (
    worded_kept (k.Br ∷ []) branch_rest branch_kept,
    (worded_kept (k.Switch ∷ []) switch_rest switch_kept, worded_kept (k.Unreachable ∷ []) unreachable_rest unreachable_kept),
  ),
)

terminator_kept : Spares (base instruction) terminator 4
unfolding terminator
terminator_kept = (
  0,
  8,
  (λ v st from good sound. kept_instruction None (v.0).token (v.1).0 (v.1).1 st (size_of st + (0 + (0 + length (v.1).1)) + 0) good (sound.1).0 (omega arith)),
  worded_terminator_kept,
  omega arith,
)

-- those that are there are no more, and sound
few_ones : (xs : List (Option SpelledInstruction)) → length (kept_ones xs) ≤ length xs
few_ones [] = omega arith
few_ones (None ∷ xs) = let h = few_ones xs in omega arith
few_ones (Some x ∷ xs) = let h = few_ones xs in omega arith

sound_ones : (xs : List (Option SpelledInstruction)) (y : SpelledInstruction) (st : Store) → SoundValue shared reading (list (option (base instruction))) xs st → SoundValue shared reading (base instruction) y st
    → SoundValue shared reading (list (base instruction)) (kept_ones xs ++ y ∷ []) st
sound_ones [] y st h g = (g, tt)
sound_ones (None ∷ xs) y st h g = sound_ones xs y st h.1 g
sound_ones (Some x ∷ xs) y st h g = (h.0, sound_ones xs y st h.1 g)

block_kept : (entry : Bool) → Spares (base block) (block_rule entry) 1
unfolding block_rule
block_kept entry = (
  1,
  4,
  (λ v st from good sound.
      let more : length (kept_ones (v.1).0 ++ (v.1).1 ∷ []) ≡ length (kept_ones (v.1).0) + 1 = length-append (kept_ones (v.1).0) ((v.1).1 ∷ []) in
      let few : length (kept_ones (v.1).0) ≤ length (v.1).0 = few_ones (v.1).0 in
      kept_block (token_in v.0) (kept_ones (v.1).0 ++ (v.1).1 ∷ []) st (size_of st + (items_in shared reading (option token) v.0 + (length (v.1).0 + 0)) + 1) good
      (sound_ones (v.1).0 (v.1).1 st (sound.1).0 (sound.1).1) (omega (arith, more)) (omega (arith, more, few))),
  (0, 4, (omega arith, omega arith), (0, 4, parts_kept entry, terminator_kept, omega arith), omega arith),
  omega arith,
)

later_kept : Spares (list (base block)) later_blocks 0
unfolding later_blocks
later_kept = (omega arith, block_kept false)

pub blocks_kept : Spares (list (base block)) blocks_rule 0
unfolding blocks_rule
blocks_kept = value_kept (λ v. v.0 ∷ v.1) (block_rule true ⨾ later_blocks) 0 1 1 (λ x st h. (h.0, h.1)) (λ x. omega arith) (1, 0, block_kept true, later_kept, omega arith) (omega arith)
