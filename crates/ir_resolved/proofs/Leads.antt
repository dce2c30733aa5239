-- The numbers of the registers and blocks that an instruction names are those of what is there.
use Rattle.std.proofs.Common.{◌≡◌, ℕ, ◌<◌, ◌≤◌, List, [], ◌∷◌, ◌++◌, map, take, drop, length, length-append, Bool, true, not, ◌&&◌, Option, Some, None, arith}
use Rattle.std.specs.List.{flat_map}
use Rattle.std.proofs.lemmas.Bool.{and_parts}
use Rattle.std.proofs.lemmas.List.{length-map}
use Rattle.ir_core.specs.declared.token.Token.{Token}
use Rattle.ir_core.specs.declared.ir_module.Function.{Function}
use Rattle.ir_core.specs.declared.ir_module.Module.{Module}
use Rattle.ir_core.specs.ResolvedBodies.{IsTarget}
use Rattle.ir_grammar.specs.declared.spelled.SpelledParameter.{SpelledParameter}
use Rattle.ir_grammar.specs.declared.spelled_bodies.SpelledOperand.{SpelledOperand}
use Rattle.ir_grammar.specs.declared.spelled_bodies.SpelledOperand.TheVariants as operands
use Rattle.ir_grammar.specs.declared.spelled_bodies.TypedOperand.{TypedOperand}
use Rattle.ir_grammar.specs.declared.spelled_bodies.SpelledIncoming.{SpelledIncoming}
use Rattle.ir_grammar.specs.declared.spelled_bodies.SpelledCase.{SpelledCase}
use Rattle.ir_grammar.specs.declared.spelled_bodies.SpelledOperation.{SpelledOperation}
use Rattle.ir_grammar.specs.declared.spelled_bodies.SpelledOperation.TheVariants as operations
use Rattle.ir_grammar.specs.declared.spelled_bodies.SpelledInstruction.{SpelledInstruction}
use Rattle.ir_grammar.specs.declared.spelled_bodies.SpelledBlock.{SpelledBlock}
use Rattle.ir_read_items.specs.Rows.{Each}
use Rattle.ir_first_values.specs.Tables.{Tables}
use Rattle.ir_body_names.specs.Definitions.{is_void, result_definitions, block_definitions, instructions_of}
use Rattle.ir_body_names.specs.BodyFaults.{Surroundings, is_register, is_block, definition_at, is_place, local_place, definitions_of}
use Rattle.ir_functions.specs.Scope.{Scope, definition_numbers, number_by, type_number, local_number}
use Rattle.ir_functions.specs.Functions.{Spelled, scope_of, function_of, register_types, all_instructions}
use Rattle.ir_resolved.proofs.Uses.{defined_in, keys_in}
use Rattle.ir_resolved.proofs.Numbers.{registers_in, blocks_in, register_at, block_at, later_at, registers-all, blocks-all, length-blocks_from}

-- ---- what names lead to

-- an operand leads to a register that is there
abbrev pub OperandLeads : Scope → Function → SpelledOperand → Type 0
OperandLeads s fn (operands.Register name) = local_number s name < length fn.regs
OperandLeads s fn (operands.Constant first number) = Unit {0}

abbrev pub TypedLeads : Scope → Function → TypedOperand → Type 0
TypedLeads s fn x = OperandLeads s fn x.value

abbrev pub CountLeads : Scope → Function → Option TypedOperand → Type 0
CountLeads s fn None = Unit {0}
CountLeads s fn (Some x) = TypedLeads s fn x

abbrev pub ReturnedLeads : Scope → Function → Option SpelledOperand → Type 0
ReturnedLeads s fn None = Unit {0}
ReturnedLeads s fn (Some x) = OperandLeads s fn x

-- an entry of a phi leads to a block too, and a case of a switch to one that isn't the first
abbrev pub IncomingLeads : Scope → Function → SpelledIncoming → Type 0
IncomingLeads s fn x = OperandLeads s fn x.value × (local_number s x.block < length fn.blocks)

abbrev pub CaseLeads : Scope → Function → SpelledCase → Type 0
CaseLeads s fn x = TypedLeads s fn x.value × IsTarget fn (local_number s x.block)

-- the row of operands that begins at this place
abbrev pub RowLeads : Scope → Function → (first count : ℕ) → Type 0
RowLeads s fn first count = Each (TypedLeads s fn) (take count (drop first s.names.bodies.operands))

-- all names in an instruction
abbrev pub OperationLeads : Scope → Function → SpelledOperation → Type 0
OperationLeads s fn (operations.Binary a b) = TypedLeads s fn a × OperandLeads s fn b
OperationLeads s fn (operations.Icmp pred a b) = TypedLeads s fn a × OperandLeads s fn b
OperationLeads s fn (operations.Cast a to) = TypedLeads s fn a
OperationLeads s fn (operations.Freeze a) = TypedLeads s fn a
OperationLeads s fn (operations.Select condition a b) = OperandLeads s fn condition × TypedLeads s fn a × TypedLeads s fn b
OperationLeads s fn (operations.Phi ty first count) = Each (IncomingLeads s fn) (take count (drop first s.names.bodies.incoming))
OperationLeads s fn (operations.Alloca ty count stated) = CountLeads s fn count
OperationLeads s fn (operations.Load ty pointer stated) = OperandLeads s fn pointer
OperationLeads s fn (operations.Store value pointer stated) = TypedLeads s fn value × OperandLeads s fn pointer
OperationLeads s fn (operations.GetElementPtr of base first count) = OperandLeads s fn base × RowLeads s fn first count
OperationLeads s fn operations.Fence = Unit {0}
OperationLeads s fn (operations.AtomicRmw operator pointer value stated) = OperandLeads s fn pointer × TypedLeads s fn value
OperationLeads s fn (operations.CmpXchg pointer expected new stated) = OperandLeads s fn pointer × TypedLeads s fn expected × TypedLeads s fn new
OperationLeads s fn (operations.ExtractValue of value part) = OperandLeads s fn value
OperationLeads s fn (operations.Call name result first count) = RowLeads s fn first count
OperationLeads s fn (operations.Return ty value) = ReturnedLeads s fn value
OperationLeads s fn (operations.Jump block) = IsTarget fn (local_number s block)
OperationLeads s fn (operations.Branch condition yes_block no_block) =
    OperandLeads s fn condition × IsTarget fn (local_number s yes_block) × IsTarget fn (local_number s no_block)
OperationLeads s fn (operations.Switch value other first count) =
    TypedLeads s fn value × IsTarget fn (local_number s other) × Each (CaseLeads s fn) (take count (drop first s.names.bodies.cases))
OperationLeads s fn operations.Unreachable = Unit {0}

-- ---- numbers of what is there

-- as many registers are defined as the function has, and as many blocks
registers_are : (names : Surroundings) (tables : Tables) (built : Module) (f : Spelled)
    → registers_in (defined_in names f) ≡ length (function_of names tables built f).regs
registers_are names tables built f =
    let s : Scope = scope_of names tables built f in
    let all : List SpelledInstruction = names.bodies.instructions in
    let a = registers-all s all f.parameters f.blocks in
    let b = length-append (map (λ (p : SpelledParameter). type_number s p.ty) f.parameters) (register_types s (all_instructions all f.blocks)) in
    let c = length-map f.parameters (λ (p : SpelledParameter). type_number s p.ty) in omega arith

blocks_are : (names : Surroundings) (tables : Tables) (built : Module) (f : Spelled)
    → blocks_in (defined_in names f) ≡ length (function_of names tables built f).blocks
blocks_are names tables built f =
    let a = blocks-all (scope_of names tables built f) names.bodies.instructions f.parameters f.blocks in
    let b = length-blocks_from names.bodies.instructions 0 f.blocks in omega arith

-- only the first block has the number 0
later_than_first : (names : Surroundings) (parameters : List SpelledParameter) (blocks : List SpelledBlock) (place : Option ℕ) → 1 ≤ length blocks
    → (is_block (definition_at (definitions_of names parameters blocks) place) && not (is_place (length parameters) place)) ≡ true
    → 0 < number_by (definition_numbers 0 0 (definitions_of names parameters blocks)) place
later_than_first names parameters [] place some h = absurd (omega arith)
later_than_first names parameters (b ∷ blocks) place some h =
    let void : ℕ → Bool = is_void names.types names.numbers in
    let all : List SpelledInstruction = names.bodies.instructions in
    later_at parameters b.label (flat_map (result_definitions void) (instructions_of all b) ++ flat_map (block_definitions void all) blocks) place h

-- the place of the definition that a name leads to
abbrev pub place_in : Surroundings → Spelled → Token → Option ℕ
place_in names f name = local_place names.source (keys_in names f) name

module _ (names : Surroundings) (tables : Tables) (built : Module) (f : Spelled) where
  pub register_leads : (name : Token) → is_register (definition_at (defined_in names f) (place_in names f name)) ≡ true
      → local_number (scope_of names tables built f) name < length (function_of names tables built f).regs
  register_leads name h =
      let b = register_at (defined_in names f) (place_in names f name) h in
      let e = registers_are names tables built f in omega arith

  pub origin_leads : (name : Token) → is_block (definition_at (defined_in names f) (place_in names f name)) ≡ true
      → local_number (scope_of names tables built f) name < length (function_of names tables built f).blocks
  origin_leads name h =
      let b = block_at (defined_in names f) (place_in names f name) h in
      let e = blocks_are names tables built f in omega arith

  pub target_leads : (name : Token) → 1 ≤ length f.blocks
      → (is_block (definition_at (defined_in names f) (place_in names f name)) && not (is_place (length f.parameters) (place_in names f name))) ≡ true
      → IsTarget (function_of names tables built f) (local_number (scope_of names tables built f) name)
  target_leads name some h =
      let both = and_parts (is_block (definition_at (defined_in names f) (place_in names f name))) (not (is_place (length f.parameters) (place_in names f name))) h in
      record { later = later_than_first names f.parameters f.blocks (place_in names f name) some h; there = origin_leads name both.0 }
