-- Blocks of a function's body (LLVM Language Reference, "Functions"). An alloca outside the entry block is Unsupported.
use Rattle.std.specs.Prelude.{List, [], ◌∷◌, ◌++◌, Bool, true, false, Some, None}
use Rattle.ir_grammar.specs.declared.context.Context.TheVariants as at
use Rattle.ir_grammar.specs.declared.kind.Kind.{Kind}
use Rattle.ir_grammar.specs.declared.kind.Kind.TheVariants as k
use Rattle.ir_grammar.specs.Rules.{Sort, token, base, pair, option, list, one, refused, ◌⨾◌, ◌∣◌, optional, many, between, act, the, just, ◌◁◌}
use Rattle.ir_grammar.specs.Names.{Base, Production, instruction, block, blocks_inside}
use Rattle.ir_grammar.specs.Words.{locals, refused_types}
use Rattle.ir_grammar.specs.Spelled.{token_in}
use Rattle.ir_grammar.specs.SpelledBodies.{add_instruction, add_kept, add_block, kept_ones}
use Rattle.ir_grammar.specs.Skipped.{in_parens}
use Rattle.ir_grammar.specs.Instructions.{rest_sort, binary_rest, icmp_rest, cast_rest, freeze_rest, select_rest, phi_rest, alloca_rest, load_rest, store_rest, step_rest, fence_rest, rmw_rest, exchange_rest, extract_rest}
use Rattle.ir_grammar.specs.Calls.{call_sort, call_rule}
use Rattle.ir_grammar.specs.Terminators.{return_rest, branch_rest, switch_rest, unreachable_rest}

-- a first word and what follows it
abbrev pub worded_sort : Sort Base
worded_sort = pair token rest_sort

-- binop | icmp | trunc | zext | sext | freeze | select | phi
unfoldable pub value_instruction : Production worded_sort
value_instruction = (one (k.Binary ∷ k.BinaryRmw ∷ []) ⨾ binary_rest) ∣ (the k.Icmp ⨾ icmp_rest) ∣ (the k.Cast ⨾ cast_rest) ∣ (the k.Freeze ⨾ freeze_rest)
    ∣ (the k.Select ⨾ select_rest) ∣ (the k.Phi ⨾ phi_rest)

-- load | store | getelementptr
unfoldable pub memory_instruction : Production worded_sort
memory_instruction = (the k.Load ⨾ load_rest) ∣ (the k.Store ⨾ store_rest) ∣ (the k.GetElementPtr ⨾ step_rest)

-- fence | atomicrmw | cmpxchg | extractvalue
unfoldable pub atomic_instruction : Production worded_sort
atomic_instruction = (the k.Fence ⨾ fence_rest) ∣ (the k.AtomicRmw ⨾ rmw_rest) ∣ (the k.CmpXchg ⨾ exchange_rest) ∣ (the k.ExtractValue ⨾ extract_rest)

-- alloca, in the entry block
unfoldable pub alloca : Production worded_sort
alloca = the k.Alloca ⨾ alloca_rest

-- an instruction of any block, but a call
unfoldable pub common_instruction : Production worded_sort
common_instruction = value_instruction ∣ memory_instruction ∣ atomic_instruction

-- an instruction but a call, in the entry block or in another
unfoldable pub plain_instruction : Bool → Production worded_sort
plain_instruction true = common_instruction ∣ alloca
plain_instruction false = common_instruction

-- such an instruction, with an operation that is there
unfoldable pub plain_body : Bool → Production (pair token call_sort)
plain_body entry = just (λ v. (v.0, (Some (v.1).0, (v.1).1))) (plain_instruction entry)

-- words that are Unsupported where an instruction may stand
abbrev pub refused_bodies : Bool → List Kind
refused_bodies true = refused_types at.Plain
refused_bodies false = k.Alloca ∷ refused_types at.Plain

-- body
unfoldable pub body_rule : Bool → Production (pair token call_sort)
body_rule entry = plain_body entry ∣ call_rule ∣ refused (refused_bodies entry)

-- local =
unfoldable pub result_name : Production token
result_name = one locals ◁ the k.Equals

-- (local =)? body (, metaname (metanum | node))*
unfoldable pub instruction_rule : Bool → Production (option (base instruction))
instruction_rule entry = act (λ v. add_kept (token_in v.0) ((v.1).0).token (((v.1).1).0) (((v.1).1).1)) (optional result_name ⨾ body_rule entry)

-- record ( any )
unfoldable pub record_rule : Production (option (base instruction))
record_rule = just (λ v. None) (the k.DebugRecord ⨾ in_parens)

-- record ( any ) | inst
unfoldable pub block_part : Bool → Production (option (base instruction))
block_part entry = record_rule ∣ instruction_rule entry

-- (record ( any ) | inst)*
unfoldable pub block_parts : Bool → Production (list (option (base instruction)))
block_parts entry = many (block_part entry)

-- a terminator's first word and what follows it
unfoldable pub worded_terminator : Production worded_sort
worded_terminator = (the k.Ret ⨾ return_rest) ∣ (the k.Br ⨾ branch_rest) ∣ (the k.Switch ⨾ switch_rest) ∣ (the k.Unreachable ⨾ unreachable_rest)

-- term (, metaname (metanum | node))*
unfoldable pub terminator : Production (base instruction)
terminator = act (λ v. add_instruction None (v.0).token (v.1).0 (v.1).1) worded_terminator

-- label? (record ( any ) | inst)* term
unfoldable pub block_rule : Bool → Production (base block)
block_rule entry = act (λ v. add_block (token_in v.0) (kept_ones (v.1).0 ++ (v.1).1 ∷ [])) (optional (the k.Label) ⨾ (block_parts entry ⨾ terminator))

-- block*, behind the entry block
unfoldable pub later_blocks : Production (list (base block))
later_blocks = many (block_rule false)

-- block+
unfoldable pub blocks_rule : Production (list (base block))
blocks_rule = just (λ v. v.0 ∷ v.1) (block_rule true ⨾ later_blocks)

-- { block+ }
unfoldable pub function_body : Production (list (base block))
function_body = between k.OpenBrace blocks_inside k.CloseBrace
