-- What makes the names of a function resolved: what its text has around it, and that no name in its body has a fault.
use Rattle.std.specs.Prelude.{ℕ, ◌+◌, ◌≡◌, ◌≤◌, ◌<◌, length, All, IsTrue, None, Some}
use Rattle.ir_core.specs.declared.token.Token.{Token}
use Rattle.ir_core.specs.declared.ir_module.Module.{Module}
use Rattle.ir_core.specs.declared.operands.Operand.TheVariants.{Global}
use Rattle.ir_core.specs.Resolved.{HasLayouts}
use Rattle.ir_core.specs.ResolvedBodies.{is_alignment}
use Rattle.ir_text.specs.TokenText.{small_number}
use Rattle.ir_grammar.specs.declared.spelled_bodies.SpelledBlock.{SpelledBlock}
use Rattle.ir_grammar.specs.declared.spelled_bodies.SpelledInstruction.{SpelledInstruction}
use Rattle.ir_grammar.specs.SoundStore.{Counts, IsSoundBodies, IsSoundParameter}
use Rattle.ir_read_items.specs.Rows.{IsEnded, IsStated, stated_in, Each}
use Rattle.ir_names.specs.First.{first_fault}
use Rattle.ir_first_values.specs.Operands.{constant_operand}
use Rattle.ir_body_names.specs.Definitions.{instructions_of}
use Rattle.ir_body_names.specs.BodyFaults.{Surroundings, body_faults}
use Rattle.ir_functions.specs.Functions.{Spelled}
use Rattle.ir_functions.specs.Instructions.{token_bytes}
use Rattle.ir_functions.specs.Promises.{HasTypes}
use Rattle.ir_functions.specs.Scope.{Scope, spelled_types, type_number}

-- an alignment that is stated is a power of two up to 16
abbrev pub HasSmallAlignment : Scope → SpelledInstruction → Type 0
HasSmallAlignment s i = IsStated (λ (token : Token). IsTrue (is_alignment (small_number (token_bytes s token)))) (stated_in i.operation)

-- what is around a function in its text makes a module, of which so many things are spelled
pub record HasGrounds (s : Scope) (m : Module) (counts : Counts) : Type 0 where
  -- types, with those of values whose type isn't spelled at the end
  pub types : HasTypes s m
  pub many : spelled_types s + 258 ≤ length m.types
  pub below : (ty : ℕ) → ty < counts.types → type_number s ty < length m.types
  -- the module that functions are resolved in has the same types, and keeps their layouts
  pub layouts : HasLayouts s.built
  pub same_types : m.types ≡ s.built.types
  pub same_fields : m.fields ≡ s.built.fields
  -- what is read of bodies names what is there
  pub bodies : IsSoundBodies counts s.names.bodies
  pub stated : Each (HasSmallAlignment s) s.names.bodies.instructions
  -- the global variable at a constant address is there
  pub globals : (ty constant index off : ℕ) → constant_operand s.tables ty constant ≡ Some (Global index off) → index < length m.globals
  -- functions are those that names lead to
  pub functions : length s.names.functions ≡ length m.functions
  pub declares : length s.names.declares ≡ length m.declares

-- a function in whose body no name has a fault, with blocks that end where they should
pub record IsFaultless (names : Surroundings) (counts : Counts) (f : Spelled) : Type 0 where
  pub faultless : first_fault (body_faults names f.parameters f.blocks) ≡ None
  pub rows : Each (λ (b : SpelledBlock). IsEnded (instructions_of names.bodies.instructions b)) f.blocks
  pub some_block : 1 ≤ length f.blocks
  pub result : f.result < counts.types
  pub parameters : All (IsSoundParameter counts) f.parameters
