-- Operands of instructions (LLVM Language Reference, "Instruction Reference"): values, with or without their types, words
-- of types that an instruction asks for, names of blocks, and what may follow an instruction.
use Rattle.std.specs.Prelude.{List, [], ◌∷◌, true, false, Some, None}
use Rattle.ir_grammar.specs.declared.context.Context.TheVariants as at
use Rattle.ir_grammar.specs.declared.kind.Kind.{Kind}
use Rattle.ir_grammar.specs.declared.kind.Kind.TheVariants as k
use Rattle.ir_grammar.specs.declared.terminal.Terminal.{Terminal}
use Rattle.ir_grammar.specs.declared.spelled.SpelledConstant.{SpelledConstant}
use Rattle.ir_grammar.specs.declared.spelled.SpelledConstant.TheVariants as constants
use Rattle.ir_grammar.specs.declared.spelled_bodies.SpelledOperand.TheVariants as operands
use Rattle.ir_grammar.specs.Rules.{nothing, token, base, pair, option, list, one, refused, ◌⨾◌, ◌∣◌, optional, many, between, act, the, just, gone, ◌▷◌, ◌◁◌, items_of}
use Rattle.ir_grammar.specs.Names.{Production, operand, typed, attachment, scope_inside}
use Rattle.ir_grammar.specs.Words.{integers, locals, globals, commas, meta_names, texts, refused_types, refused_values}
use Rattle.ir_grammar.specs.Spelled.{integer_of}
use Rattle.ir_grammar.specs.SpelledBodies.{add_operand}
use Rattle.ir_grammar.specs.Skipped.{in_parens, in_braces}
use Rattle.ir_grammar.specs.Types.{type_rule, ptr_word}
use Rattle.ir_grammar.specs.Constants.{flags, address_parens}

-- local, of these kinds
unfoldable pub register : List Kind → Production (base operand)
register kinds = just (λ t. operands.Register t.token) (one kinds)

-- a constant of one token, of these kinds
unfoldable pub word_operand : List Kind → (Terminal → SpelledConstant) → Production (base operand)
word_operand kinds value = act (λ t. add_operand t (value t)) (one kinds)

-- integer
unfoldable pub integer_operand : Production (base operand)
integer_operand = word_operand integers (λ t. constants.Integer (integer_of t))

-- true | false | null | undef | poison | zeroinitializer
unfoldable pub named_operand : Production (base operand)
named_operand = word_operand (k.True ∷ []) (λ t. constants.Bool true) ∣ word_operand (k.False ∷ []) (λ t. constants.Bool false)
    ∣ word_operand (k.Null ∷ []) (λ t. constants.Null) ∣ word_operand (k.ZeroWord ∷ []) (λ t. constants.Zero)

-- getelementptr flag* ( type , ptr const (, type integer)* )
unfoldable pub address_operand : Production (base operand)
address_operand = just (λ v. operands.Constant (v.0).token v.1) (the k.GetElementPtr ⨾ (flags ▷ address_parens))

-- global | integer | true | false | null | undef | poison | zeroinitializer
unfoldable pub simple_operand : Production (base operand)
simple_operand = integer_operand ∣ word_operand globals (λ t. constants.Global t.token) ∣ named_operand

-- value
unfoldable pub operand_rule : Production (base operand)
operand_rule = register locals ∣ simple_operand ∣ address_operand ∣ refused refused_values

-- type value
unfoldable pub typed_operand : Production (base typed)
typed_operand = just (λ v. record { ty = v.0; value = v.1 }) (type_rule at.Plain ⨾ operand_rule)

-- , value
unfoldable pub comma_operand : Production (base operand)
comma_operand = one commas ▷ operand_rule

-- , type value
unfoldable pub comma_typed : Production (base typed)
comma_typed = one commas ▷ typed_operand

-- ptr value
unfoldable pub pointer_operand : Production (base operand)
pointer_operand = ptr_word ▷ operand_rule

-- , ptr value
unfoldable pub comma_pointer : Production (base operand)
comma_pointer = one commas ▷ pointer_operand

-- i1, where a production asks for it
unfoldable pub bit_word : Production token
bit_word = the k.BitType ∣ refused (refused_types at.Plain)

-- i1 value
unfoldable pub bit_operand : Production (base operand)
bit_operand = bit_word ▷ operand_rule

-- label local
unfoldable pub block_name : Production token
block_name = the k.LabelWord ▷ one locals

-- , label local
unfoldable pub comma_block : Production token
comma_block = one commas ▷ block_name

-- bang { any } | metaname ( any ), by its first token
unfoldable pub inline_node : Production token
inline_node = (the k.Bang ◁ in_braces) ∣ (one meta_names ◁ in_parens)

-- metanum | node, by its first token
unfoldable pub attached_node : Production token
attached_node = the k.MetaNumber ∣ inline_node

-- metaname (metanum | node)
unfoldable pub attachment_rule : Production (base attachment)
attachment_rule = just (λ v. record { name = (v.0).token; node = (v.1).token }) (one meta_names ⨾ attached_node)

-- , metaname (metanum | node)
unfoldable pub comma_attachment : Production (base attachment)
comma_attachment = one commas ▷ attachment_rule

-- (, metaname (metanum | node))*
unfoldable pub attachments : Production (list (base attachment))
attachments = many comma_attachment

-- (, metaname (metanum | node))* behind a list with commas of its own: the first comma is one before a metadata name
unfoldable pub list_attachments : Production (list (base attachment))
list_attachments = just items_of (optional ((the k.MetaComma ▷ attachment_rule) ⨾ attachments))

-- a power of two up to 16; above that Unsupported
unfoldable pub small_alignment : Production token
small_alignment = the k.SmallPower ∣ refused (k.Power ∷ k.GreatPower ∷ [])

-- align integer
unfoldable pub stated_alignment : Production token
stated_alignment = the k.Align ▷ small_alignment

-- align integer (, metaname (metanum | node))*
unfoldable pub alignment_end : Production (pair (option token) (list (base attachment)))
alignment_end = just (λ v. (Some v.0, v.1)) (stated_alignment ⨾ attachments)

-- nothing, and attachments
unfoldable pub plain_end : Production (pair (option token) (list (base attachment)))
plain_end = just (λ v. (None, v)) list_attachments

-- (, align integer)? (, metaname (metanum | node))*
unfoldable pub aligned_end : Production (pair (option token) (list (base attachment)))
aligned_end = (the k.Comma ▷ alignment_end) ∣ plain_end

-- string, of a scope
unfoldable pub scope_rule : Production nothing
scope_rule = gone (one texts)

-- syncscope ( string )
unfoldable pub scope : Production nothing
scope = gone (the k.SyncScope ⨾ between k.OpenParen scope_inside k.CloseParen)

-- an ordering without a scope, or with one before it
unfoldable pub order : Production nothing
order = gone (the k.Order) ∣ gone (scope ⨾ the k.Order)

-- order?
unfoldable pub maybe_order : Production nothing
maybe_order = gone (optional order)
