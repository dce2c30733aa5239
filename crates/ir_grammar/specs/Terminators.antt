-- Terminators (LLVM Language Reference, "Terminator Instructions"): what follows the first word of each, with its
-- attachments.
use Rattle.std.specs.Prelude.{[], ◌∷◌, Some}
use Rattle.ir_grammar.specs.declared.context.Context.TheVariants as at
use Rattle.ir_grammar.specs.declared.kind.Kind.TheVariants as k
use Rattle.ir_grammar.specs.declared.spelled.SpelledType.TheVariants as types
use Rattle.ir_grammar.specs.declared.spelled_bodies.SpelledOperation.TheVariants as operations
use Rattle.ir_grammar.specs.Rules.{base, pair, option, list, refused, ◌⨾◌, ◌∣◌, optional, many, between, act, the, just}
use Rattle.ir_grammar.specs.Names.{Production, number, operand, typed, case, operation, cases_inside}
use Rattle.ir_grammar.specs.Spelled.{add_type}
use Rattle.ir_grammar.specs.SpelledBodies.{add_switch}
use Rattle.ir_grammar.specs.Types.{type_rule, solid_type}
use Rattle.ir_grammar.specs.Operands.{register, integer_operand, address_operand, simple_operand, operand_rule, typed_operand, bit_operand, block_name, comma_block, attachments}
use Rattle.ir_grammar.specs.Instructions.{rest_sort}

-- a value behind `ret void` that no instruction of a next block begins with
unfoldable pub simple_behind_void : Production (base operand)
simple_behind_void = simple_operand ∣ refused (k.Float ∷ [])

-- another value behind `ret void`
unfoldable pub operand_behind_void : Production (base operand)
operand_behind_void = register (k.Local ∷ []) ∣ address_operand

-- void, and a value or none
unfoldable pub void_alone : Production (pair (base number) (option (base operand)))
void_alone = act (λ t. add_type types.Void) (the k.Void) ⨾ optional simple_behind_void

-- void, and a value that may be taken for the beginning of an instruction
unfoldable pub void_operand : Production (pair (base number) (option (base operand)))
void_operand = act (λ t. add_type types.Void) (the k.VoidBeforeOperand) ⨾ just (λ v. Some v) operand_behind_void

-- type value, where the type isn't void
unfoldable pub solid_value : Production (pair (base number) (option (base operand)))
solid_value = solid_type at.Plain ⨾ just (λ v. Some v) operand_rule

-- void | type value
unfoldable pub returned : Production (pair (base number) (option (base operand)))
returned = void_alone ∣ void_operand ∣ solid_value

-- ret void | ret type value
unfoldable pub return_rest : Production rest_sort
return_rest = just (λ v. (operations.Return (v.0).0 (v.0).1, v.1)) (returned ⨾ attachments)

-- label local
unfoldable pub jump_end : Production rest_sort
jump_end = just (λ v. (operations.Jump (v.0).token, v.1)) (block_name ⨾ attachments)

-- i1 value , label local , label local
unfoldable pub branch_end : Production rest_sort
branch_end = just (λ v. (operations.Branch v.0 (v.1).0.token ((v.1).1).0.token, ((v.1).1).1)) (bit_operand ⨾ (comma_block ⨾ (comma_block ⨾ attachments)))

-- label local | i1 value , label local , label local
unfoldable pub branch_rest : Production rest_sort
branch_rest = jump_end ∣ branch_end

-- type integer
unfoldable pub case_value : Production (base typed)
case_value = just (λ v. record { ty = v.0; value = v.1 }) (type_rule at.Plain ⨾ integer_operand)

-- type integer , label local
unfoldable pub case_rule : Production (base case)
case_rule = just (λ v. record { value = v.0; block = (v.1).token }) (case_value ⨾ comma_block)

-- (type integer , label local)*
unfoldable pub cases_rule : Production (list (base case))
cases_rule = many case_rule

-- [ (type integer , label local)* ]
unfoldable pub cases : Production (list (base case))
cases = between k.OpenSquare cases_inside k.CloseSquare

-- type value , label local [ (type integer , label local)* ]
unfoldable pub switch_head : Production (base operation)
switch_head = act (λ v. add_switch v.0 (v.1).0.token (v.1).1) (typed_operand ⨾ (comma_block ⨾ cases))

-- type value , label local [ (type integer , label local)* ]
unfoldable pub switch_rest : Production rest_sort
switch_rest = switch_head ⨾ attachments

-- nothing
unfoldable pub unreachable_rest : Production rest_sort
unreachable_rest = just (λ v. (operations.Unreachable, v)) attachments
