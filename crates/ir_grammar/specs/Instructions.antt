-- Instructions without calls (LLVM Language Reference, "Instruction Reference"): what follows the first word of each, with
-- its attachments.
use Rattle.std.specs.Prelude.{[], ◌∷◌, Some, None}
use Rattle.ir_grammar.specs.declared.context.Context.TheVariants as at
use Rattle.ir_grammar.specs.declared.kind.Kind.{Kind}
use Rattle.ir_grammar.specs.declared.kind.Kind.TheVariants as k
use Rattle.ir_grammar.specs.declared.spelled_bodies.SpelledOperation.TheVariants as operations
use Rattle.ir_grammar.specs.Rules.{Sort, nothing, token, base, pair, option, list, one, refused, ◌⨾◌, ◌∣◌, optional, many, between, act, the, just, gone, ◌▷◌, ◌◁◌}
use Rattle.ir_grammar.specs.Names.{Base, Production, number, operand, typed, incoming, attachment, operation, incoming_inside, pair_inside}
use Rattle.ir_grammar.specs.Words.{integers, locals, commas, refused_types, refused_values}
use Rattle.ir_grammar.specs.Spelled.{token_in}
use Rattle.ir_grammar.specs.SpelledBodies.{add_phi, add_step}
use Rattle.ir_grammar.specs.Types.{type_rule}
use Rattle.ir_grammar.specs.Operands.{integer_operand, operand_rule, typed_operand, comma_operand, comma_typed, pointer_operand, comma_pointer, bit_word, bit_operand, attachments, list_attachments, alignment_end, plain_end, aligned_end, order, maybe_order}

-- what follows a first word: an operation, and attachments
abbrev pub rest_sort : Sort Base
rest_sort = pair (base operation) (list (base attachment))

-- an alignment that may be absent, and attachments
abbrev pub end_sort : Sort Base
end_sort = pair (option token) (list (base attachment))

-- flag*, in an instruction
unfoldable pub instruction_flags : Production nothing
instruction_flags = gone (many (the k.Flag))

-- a word of this kind, or none
unfoldable pub maybe_word : Kind → Production nothing
maybe_word kind = gone (optional (the kind))

-- type value , value
unfoldable pub two_operands : Production (pair (base typed) (base operand))
two_operands = typed_operand ⨾ comma_operand

-- flag* type value , value
unfoldable pub binary_rest : Production rest_sort
binary_rest = just (λ v. (operations.Binary (v.0).0 (v.0).1, v.1)) (instruction_flags ▷ (two_operands ⨾ attachments))

-- samesign? pred
unfoldable pub predicate : Production token
predicate = maybe_word k.SameSign ▷ the k.Predicate

-- samesign? pred type value , value
unfoldable pub icmp_rest : Production rest_sort
icmp_rest = just (λ v. (operations.Icmp (v.0).token ((v.1).0).0 ((v.1).0).1, (v.1).1)) (predicate ⨾ (two_operands ⨾ attachments))

-- flag* type value to type
unfoldable pub cast_rest : Production rest_sort
cast_rest = just (λ v. (operations.Cast v.0 (v.1).0, (v.1).1)) (instruction_flags ▷ (typed_operand ⨾ ((the k.To ▷ type_rule at.Plain) ⨾ attachments)))

-- type value
unfoldable pub freeze_rest : Production rest_sort
freeze_rest = just (λ v. (operations.Freeze v.0, v.1)) (typed_operand ⨾ attachments)

-- i1 value , type value , type value
unfoldable pub select_rest : Production rest_sort
select_rest = just (λ v. (operations.Select v.0 (v.1).0 ((v.1).1).0, ((v.1).1).1)) (bit_operand ⨾ (comma_typed ⨾ (comma_typed ⨾ attachments)))

-- value , local
unfoldable pub incoming_rule : Production (base incoming)
incoming_rule = just (λ v. record { value = v.0; block = (v.1).token }) (operand_rule ⨾ (one commas ▷ one locals))

-- [ value , local ]
unfoldable pub incoming_squares : Production (base incoming)
incoming_squares = between k.OpenSquare incoming_inside k.CloseSquare

-- , [ value , local ]
unfoldable pub comma_incoming : Production (base incoming)
comma_incoming = the k.Comma ▷ incoming_squares

-- (, [ value , local ])*
unfoldable pub more_incoming : Production (list (base incoming))
more_incoming = many comma_incoming

-- ([ value , local ])%
unfoldable pub all_incoming : Production (list (base incoming))
all_incoming = just (λ v. v.0 ∷ v.1) (incoming_squares ⨾ more_incoming)

-- type ([ value , local ])%, without attachments
unfoldable pub phi_head : Production (base operation)
phi_head = act (λ v. add_phi v.0 v.1) (type_rule at.Plain ⨾ all_incoming)

-- type ([ value , local ])%
unfoldable pub phi_rest : Production rest_sort
phi_rest = phi_head ⨾ list_attachments

-- integer, and Unsupported at what begins another value
unfoldable pub count_operand : Production (base operand)
count_operand = integer_operand ∣ refused (k.Local ∷ k.LocalDefinition ∷ k.Global ∷ k.UsedGlobal ∷ k.DebugGlobal ∷ k.True ∷ k.False ∷ k.Null ∷ k.ZeroWord
    ∷ k.GetElementPtr ∷ refused_values)

-- type integer
unfoldable pub count_rule : Production (base typed)
count_rule = just (λ v. record { ty = v.0; value = v.1 }) (type_rule at.Plain ⨾ count_operand)

-- type integer (, align integer)? and attachments
unfoldable pub counted_end : Production (pair (option (base typed)) end_sort)
counted_end = just (λ v. (Some v.0, v.1)) (count_rule ⨾ aligned_end)

-- align integer and attachments
unfoldable pub uncounted_end : Production (pair (option (base typed)) end_sort)
uncounted_end = just (λ v. (None, v)) alignment_end

-- behind a comma: type integer (, align integer)? | align integer, and attachments
unfoldable pub comma_end : Production (pair (option (base typed)) end_sort)
comma_end = the k.Comma ▷ (uncounted_end ∣ counted_end)

-- nothing but attachments
unfoldable pub alloca_plain : Production (pair (option (base typed)) end_sort)
alloca_plain = just (λ v. (None, v)) plain_end

-- (, type integer)? (, align integer)? and attachments
unfoldable pub alloca_end : Production (pair (option (base typed)) end_sort)
alloca_end = comma_end ∣ alloca_plain

-- type (, type integer)? (, align integer)?
unfoldable pub alloca_rest : Production rest_sort
alloca_rest = just (λ v. (operations.Alloca v.0 (v.1).0 (token_in ((v.1).1).0), ((v.1).1).1)) (type_rule at.Plain ⨾ alloca_end)

-- atomic? volatile?
unfoldable pub access_words : Production nothing
access_words = gone (maybe_word k.Atomic ⨾ maybe_word k.Volatile)

-- order? (, align integer)? and attachments
unfoldable pub access_end : Production end_sort
access_end = maybe_order ▷ aligned_end

-- atomic? volatile? type , ptr value order? (, align integer)?
unfoldable pub load_rest : Production rest_sort
load_rest = just (λ v. (operations.Load v.0 (v.1).0 (token_in ((v.1).1).0), ((v.1).1).1)) (access_words ▷ (type_rule at.Plain ⨾ (comma_pointer ⨾ access_end)))

-- atomic? volatile? type value , ptr value order? (, align integer)?
unfoldable pub store_rest : Production rest_sort
store_rest = just (λ v. (operations.Store v.0 (v.1).0 (token_in ((v.1).1).0), ((v.1).1).1)) (access_words ▷ (typed_operand ⨾ (comma_pointer ⨾ access_end)))

-- , type value
unfoldable pub step_index : Production (base typed)
step_index = the k.Comma ▷ typed_operand

-- (, type value)*
unfoldable pub step_indices : Production (list (base typed))
step_indices = many step_index

-- flag* type , ptr value (, type value)*, without attachments
unfoldable pub step_head : Production (base operation)
step_head = act (λ v. add_step v.0 (v.1).0 (v.1).1) (instruction_flags ▷ (type_rule at.Plain ⨾ (comma_pointer ⨾ step_indices)))

-- flag* type , ptr value (, type value)*
unfoldable pub step_rest : Production rest_sort
step_rest = step_head ⨾ list_attachments

-- order
unfoldable pub fence_rest : Production rest_sort
fence_rest = just (λ v. (operations.Fence, v)) (order ▷ attachments)

-- order (, align integer)? and attachments
unfoldable pub ordered_end : Production end_sort
ordered_end = order ▷ aligned_end

-- volatile? rmw
unfoldable pub rmw_word : Production token
rmw_word = maybe_word k.Volatile ▷ one (k.BinaryRmw ∷ k.Rmw ∷ [])

-- volatile? rmw ptr value , type value order (, align integer)?
unfoldable pub rmw_rest : Production rest_sort
rmw_rest = just (λ v. (operations.AtomicRmw (v.0).token (v.1).0 ((v.1).1).0 (token_in (((v.1).1).1).0), (((v.1).1).1).1)) (rmw_word ⨾ (pointer_operand ⨾ (comma_typed ⨾ ordered_end)))

-- weak? volatile?
unfoldable pub exchange_words : Production nothing
exchange_words = gone (maybe_word k.Weak ⨾ maybe_word k.Volatile)

-- weak? volatile? ptr value
unfoldable pub exchange_pointer : Production (base operand)
exchange_pointer = exchange_words ▷ pointer_operand

-- order order (, align integer)? and attachments
unfoldable pub exchange_end : Production end_sort
exchange_end = order ▷ ordered_end

-- weak? volatile? ptr value , type value , type value order order (, align integer)?
unfoldable pub exchange_rest : Production rest_sort
exchange_rest = just (λ v. (operations.CmpXchg v.0 (v.1).0 ((v.1).1).0 (token_in (((v.1).1).1).0), (((v.1).1).1).1)) (exchange_pointer ⨾ (comma_typed ⨾ (comma_typed ⨾ exchange_end)))

-- type , i1
unfoldable pub pair_rule : Production (base number)
pair_rule = type_rule at.Plain ◁ (one commas ▷ bit_word)

-- { type , i1 }, where a production asks for it
unfoldable pub pair_type : Production (base number)
pair_type = between k.OpenBrace pair_inside k.CloseBrace ∣ refused (refused_types at.Plain)

-- { type , i1 } value , integer
unfoldable pub extract_rest : Production rest_sort
extract_rest = just (λ v. (operations.ExtractValue v.0 (v.1).0 ((v.1).1).0.token, ((v.1).1).1)) (pair_type ⨾ (operand_rule ⨾ ((one commas ▷ one integers) ⨾ attachments)))
