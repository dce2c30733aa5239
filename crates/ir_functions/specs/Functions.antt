-- The functions of a module, from their bodies as they are spelled (LLVM Language Reference, "Functions").
use Rattle.std.specs.Prelude.{ℕ, ◌+◌, ◌*◌, min, Bool, true, false, if◌then◌else◌, List, [], ◌∷◌, ◌++◌, map, length, Option, Some, None}
use Rattle.std.specs.Option.{option_map}
use Rattle.std.specs.List.{flat_map, prefix_len}
use Rattle.ir_core.specs.declared.token.Token.{Token}
use Rattle.ir_core.specs.declared.ir_module.Block.{Block}
use Rattle.ir_core.specs.declared.ir_module.Inst.{Inst}
use Rattle.ir_core.specs.declared.ir_module.Function.{Function}
use Rattle.ir_core.specs.declared.ir_module.Module.{Module}
use Rattle.ir_core.specs.Tokens.{bytes_of}
use Rattle.ir_core.specs.Layout.{size_cap}
use Rattle.ir_core.specs.NumberTypes.{alloc_size}
use Rattle.ir_core.specs.ResolvedBodies.{value_count}
use Rattle.ir_text.specs.Names.{global_name}
use Rattle.ir_grammar.specs.declared.spelled.SpelledParameter.{SpelledParameter}
use Rattle.ir_grammar.specs.declared.spelled_bodies.SpelledOperation.{SpelledOperation}
use Rattle.ir_grammar.specs.declared.spelled_bodies.SpelledOperation.TheVariants as operations
use Rattle.ir_grammar.specs.declared.spelled_bodies.SpelledInstruction.{SpelledInstruction}
use Rattle.ir_grammar.specs.declared.spelled_bodies.SpelledBlock.{SpelledBlock}
use Rattle.ir_first_values.specs.Tables.{Tables}
use Rattle.ir_body_names.specs.Definitions.{definition_keys, instructions_of}
use Rattle.ir_body_names.specs.BodyFaults.{Surroundings, definitions_of}
use Rattle.ir_functions.specs.Scope.{Scope, definition_numbers, type_number, typed}
use Rattle.ir_functions.specs.Instructions.{has_register, value_type, instruction}

-- a function as it is spelled: its name, the type of its result, its parameters and its blocks
pub record Spelled : Type 0 where
  pub name : Token
  pub result : ℕ
  pub parameters : List SpelledParameter
  pub blocks : List SpelledBlock

-- what a function is resolved by
abbrev pub scope_of : Surroundings → Tables → Module → Spelled → Scope
scope_of names tables m f = record {
  names = names;
  tables = tables;
  built = m;
  keys = definition_keys names.source (definitions_of names f.parameters f.blocks);
  numbers = definition_numbers 0 0 (definitions_of names f.parameters f.blocks);
}

-- ---- instructions

abbrev pub is_variable : SpelledOperation → Bool
is_variable (operations.Alloca ty count stated) = true
is_variable other = false

-- instructions, whose registers and variables are numbered from these on
abbrev pub instructions_from : Scope → (register variable : ℕ) → List SpelledInstruction → List Inst
instructions_from s r v [] = []
instructions_from s r v (i ∷ rest) =
    instruction s r v i
    ∷ instructions_from s (if has_register s i then r + 1 else r) (if is_variable i.operation then v + 1 else v) rest

-- the types of the registers that instructions define
abbrev pub register_types : Scope → List SpelledInstruction → List ℕ
register_types s [] = []
register_types s (i ∷ rest) = if has_register s i then value_type s i.operation ∷ register_types s rest else register_types s rest

-- the size of a variable of so many values of a type, at most 2^40 + 1, by the sizes that the module keeps
abbrev pub variable_size : Scope → (count ty : ℕ) → ℕ
variable_size s count ty = min (count * alloc_size s.built ty) size_cap

-- the sizes of the variables that instructions make
abbrev pub made_sizes : Scope → SpelledOperation → List ℕ
made_sizes s (operations.Alloca ty count stated) = variable_size s (value_count (option_map (typed s) count)) (type_number s ty) ∷ []
made_sizes s other = []

abbrev pub variable_sizes : Scope → List SpelledInstruction → List ℕ
variable_sizes s [] = []
variable_sizes s (i ∷ rest) = made_sizes s i.operation ++ variable_sizes s rest

-- ---- blocks

abbrev pub is_phi_operation : SpelledOperation → Bool
is_phi_operation (operations.Phi ty first count) = true
is_phi_operation other = false

abbrev pub is_phi : SpelledInstruction → Bool
is_phi i = is_phi_operation i.operation

-- a block of instructions, from this one on
abbrev pub block_at : (first : ℕ) → List SpelledInstruction → Block
block_at first instructions = record { first = first; phis = prefix_len is_phi instructions; count = length instructions }

abbrev pub blocks_from : List SpelledInstruction → (first : ℕ) → List SpelledBlock → List Block
blocks_from all first [] = []
blocks_from all first (b ∷ rest) =
    block_at first (instructions_of all b) ∷ blocks_from all (first + length (instructions_of all b)) rest

-- the instructions of blocks, one block after the other
abbrev pub all_instructions : List SpelledInstruction → List SpelledBlock → List SpelledInstruction
all_instructions all blocks = flat_map (instructions_of all) blocks

-- ---- functions

-- the function of these instructions, by what it is resolved by
abbrev pub function_by : Scope → Spelled → List SpelledInstruction → Function
function_by s f is = record {
  name = global_name (bytes_of s.names.source f.name);
  params = length f.parameters;
  result = type_number s f.result;
  regs = map (λ p. type_number s p.ty) f.parameters ++ register_types s is;
  allocas = variable_sizes s is;
  blocks = blocks_from s.names.bodies.instructions 0 f.blocks;
  insts = instructions_from s (length f.parameters) 0 is;
  place = f.name.place;
}

-- a function with its names resolved
abbrev pub function_of : Surroundings → Tables → Module → Spelled → Function
function_of names tables m f = function_by (scope_of names tables m f) f (all_instructions names.bodies.instructions f.blocks)
