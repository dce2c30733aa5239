-- Calls (LLVM Language Reference, "'call' Instruction"). A call of a function that describes variables to a debugger is no
-- instruction, and its arguments are skipped.
use Rattle.std.specs.Prelude.{ℕ, List, [], ◌∷◌, Option, Some, None}
use Rattle.ir_grammar.specs.declared.context.Context.TheVariants as at
use Rattle.ir_grammar.specs.declared.kind.Kind.TheVariants as k
use Rattle.ir_grammar.specs.declared.terminal.Terminal.{Terminal}
use Rattle.ir_grammar.specs.declared.spelled_bodies.TypedOperand.{TypedOperand}
use Rattle.ir_grammar.specs.declared.spelled_bodies.SpelledOperation.{SpelledOperation}
use Rattle.ir_grammar.specs.Rules.{Sort, nothing, token, base, pair, option, list, one, refused, ◌⨾◌, ◌∣◌, optional, many, between, act, the, just, gone, ◌▷◌, ◌◁◌, items_of}
use Rattle.ir_grammar.specs.Names.{Base, Production, number, operand, typed, attachment, operation, arguments_inside}
use Rattle.ir_grammar.specs.Words.{commas, refused_values}
use Rattle.ir_grammar.specs.Spelled.{Store}
use Rattle.ir_grammar.specs.SpelledBodies.{add_call}
use Rattle.ir_grammar.specs.Skipped.{in_parens}
use Rattle.ir_grammar.specs.Types.{type_rule}
use Rattle.ir_grammar.specs.Attributes.{attribute, attributes}
use Rattle.ir_grammar.specs.Operands.{operand_rule, attachments}

-- what is called: a function and its arguments, or nothing that takes a step
abbrev pub called_sort : Sort Base
called_sort = option (pair token (list (base typed)))

-- what follows `call`: an operation that may be absent, and attachments
abbrev pub call_sort : Sort Base
call_sort = pair (option (base operation)) (list (base attachment))

-- attr* value
unfoldable pub argument_value : Production (base operand)
argument_value = attributes at.Plain ▷ operand_rule

-- type attr* value
unfoldable pub argument_rule : Production (base typed)
argument_rule = just (λ v. record { ty = v.0; value = v.1 }) (type_rule at.Plain ⨾ argument_value)

-- , type attr* value
unfoldable pub comma_argument : Production (base typed)
comma_argument = one commas ▷ argument_rule

-- (, type attr* value)*
unfoldable pub more_arguments : Production (list (base typed))
more_arguments = many comma_argument

-- args: type attr* value (, type attr* value)* or nothing
unfoldable pub arguments_rule : Production (list (base typed))
arguments_rule = just items_of (optional (argument_rule ⨾ more_arguments))

-- ( args )
unfoldable pub arguments : Production (list (base typed))
arguments = between k.OpenParen arguments_inside k.CloseParen

-- global ( args )
unfoldable pub named_call : Production called_sort
named_call = just (λ v. Some v) (one (k.Global ∷ k.UsedGlobal ∷ []) ⨾ arguments)

-- a name that begins with `llvm.dbg.` ( any )
unfoldable pub debug_call : Production called_sort
debug_call = just (λ v. None) (the k.DebugGlobal ⨾ in_parens)

-- a function and its arguments; a function type, and a register as the function, are Unsupported
unfoldable pub called : Production called_sort
called = named_call ∣ debug_call ∣ refused (k.OpenParen ∷ k.Local ∷ k.LocalDefinition ∷ refused_values)

-- attr; a bundle is Unsupported
unfoldable pub call_part : Production nothing
call_part = attribute at.Plain ∣ refused (k.OpenSquare ∷ [])

-- attr*
unfoldable pub call_tail : Production nothing
call_tail = gone (many call_part)

-- the operation of a call with this result type
abbrev pub add_called : ℕ → Option (Terminal × List TypedOperand) → Store → Option SpelledOperation × Store
add_called result None store = (None, store)
add_called result (Some v) store = (Some (add_call (v.0).token result v.1 store).0, (add_call (v.0).token result v.1 store).1)

-- attr* type
unfoldable pub call_type : Production (base number)
call_type = attributes at.Plain ▷ type_rule at.Plain

-- attr* type global ( args )
unfoldable pub call_head : Production (option (base operation))
call_head = act (λ v. add_called v.0 v.1) (call_type ⨾ called)

-- attr* type global ( args ) attr*
unfoldable pub call_rest : Production call_sort
call_rest = call_head ⨾ (call_tail ▷ attachments)

-- (tail | musttail | notail)? call, by its first word
unfoldable pub call_word : Production token
call_word = the k.Call ∣ (the k.TailWord ◁ the k.Call)

-- (tail | musttail | notail)? call attr* type global ( args ) attr*
unfoldable pub call_rule : Production (pair token call_sort)
call_rule = call_word ⨾ call_rest
