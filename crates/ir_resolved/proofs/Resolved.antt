-- A function in whose body no name has a fault is one whose names are resolved.
use Rattle.std.proofs.Common.{◌^◌, ◌<◌, List, length}
use Rattle.ir_core.specs.declared.ir_module.Module.{Module}
use Rattle.ir_core.specs.ResolvedBodies.{IsResolvedFunction}
use Rattle.ir_grammar.specs.declared.spelled_bodies.SpelledInstruction.{SpelledInstruction}
use Rattle.ir_grammar.specs.SoundStore.{Counts}
use Rattle.ir_first_values.specs.Tables.{Tables}
use Rattle.ir_body_names.specs.BodyFaults.{Surroundings}
use Rattle.ir_functions.specs.Scope.{Scope}
use Rattle.ir_functions.specs.Functions.{Spelled, scope_of, all_instructions, function_of}
use Rattle.ir_functions.proofs.Resolved.{has_registers, has_variables}
use Rattle.ir_resolved.specs.Grounds.{HasGrounds, IsFaultless}
use Rattle.ir_resolved.proofs.Blocks.{blocks_hold, has_block}
use Rattle.ir_resolved.proofs.ResolvedInstructions.{instructions_resolved, types_there, result_there}

pub function_resolved : (names : Surroundings) (tables : Tables) (built m : Module) (counts : Counts) (f : Spelled)
    → HasGrounds (scope_of names tables built f) m counts → IsFaultless names counts f
    → length (function_of names tables built f).regs < 2 ^ 30 → IsResolvedFunction m (function_of names tables built f)
function_resolved names tables built m counts f g h few =
    let s : Scope = scope_of names tables built f in
    let is : List SpelledInstruction = all_instructions names.bodies.instructions f.blocks in
    record {
      result = result_there names tables built m counts f g h;
      register_types = types_there names tables built m counts f g h;
      registers = has_registers s m f is g.types few;
      variables = has_variables s m f is g.layouts g.same_types g.same_fields;
      some_block = has_block names tables built counts f h;
      blocks = blocks_hold names tables built counts f h;
      instructions = instructions_resolved names tables built m counts f g h;
    }
