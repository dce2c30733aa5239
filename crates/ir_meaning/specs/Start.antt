-- The start of a run of the source program: its global variables with their first values, and task 0 at the entry of
-- `main` (LLVM Language Reference, "Global Variables"; the C standard, "Program startup").
use Rattle.std.specs.Prelude.{ℕ, zero, suc, List, [], ◌∷◌, ◌++◌, map, replicate, slice_get, Option, Some, None}
use Rattle.hw_base.specs.declared.pointers.Base.TheVariants.{Null as NullBase, Object}
use Rattle.hw_tags.specs.InputState.{no_input_taken}
use Rattle.hw_tags.specs.TaskRuns.{Next, NoStep}
use Rattle.ir_core.specs.declared.ir_module.Function.{Function}
use Rattle.ir_core.specs.declared.ir_module.GlobalVar.{GlobalVar}
use Rattle.ir_core.specs.declared.ir_module.Module.{Module}
use Rattle.ir_core.specs.declared.operands.Operand.{Operand}
use Rattle.ir_core.specs.declared.operands.Operand.TheVariants.{Reg, Int as Literal, Null, Global}
use Rattle.ir_core.specs.declared.operands.Part.{Part}
use Rattle.ir_core.specs.NumberTypes.{alloc_size}
use Rattle.ir_meaning.specs.Values.{Value, Integer, Address, SourceByte, Data}
use Rattle.ir_meaning.specs.Births.{Globals, Living, SourceObject, Birth, written_from}
use Rattle.ir_meaning.specs.Encoding.{number_bytes, pointer_bytes}
use Rattle.ir_meaning.specs.State.{News, Born, SourceWorld, SourceWorldStep, telling}
use Rattle.ir_meaning.specs.CallSteps.{Entry, entry_of, entry_frame}

-- ---- globals

-- the bytes of one piece of a global's first value
abbrev pub part_bytes : (size : ℕ) → Operand → List SourceByte
part_bytes size (Reg r) = []
part_bytes size (Literal n) = number_bytes size n
part_bytes size Null = number_bytes size 0
part_bytes size (Global index off) = pointer_bytes (Object (record { birth = 0; index = index })) off

-- bytes with the pieces of a first value in them
unfoldable pub with_parts : List SourceByte → List Part → List SourceByte
with_parts bytes [] = bytes
with_parts bytes (part ∷ parts) = with_parts (written_from bytes part.at (part_bytes part.size part.value)) parts

-- a global variable: zero but for the pieces of its first value
abbrev pub global_object : Module → GlobalVar → SourceObject
global_object program g =
    record {
      size = alloc_size program g.ty;
      constant = g.constant;
      life = Living;
      bytes = with_parts (replicate (alloc_size program g.ty) (Data 0)) g.init;
    }

-- all globals are the first birth, if there are any
abbrev pub global_births : Module → List GlobalVar → List Birth
global_births program [] = []
global_births program (g ∷ globals) =
    record { region = Globals; task = 0; born = []; objects = map (global_object program) (g ∷ globals) } ∷ []

abbrev pub global_news : Module → List GlobalVar → List News
global_news program [] = []
global_news program (g ∷ globals) = Born 0 Globals 0 [] (map (λ (x : GlobalVar). alloc_size program x.ty) (g ∷ globals)) ∷ []

-- ---- the start

-- `main` has no parameters, or gets 0 and null
abbrev pub main_arguments : (params : ℕ) → List Value
main_arguments zero = []
main_arguments (suc params) = Integer 0 ∷ Address NullBase 0 ∷ []

abbrev pub world_with_main : Module → Function → Entry → SourceWorld
world_with_main program f entry =
    record {
      shared = record { births = entry.births; input = no_input_taken };
      tasks = (entry_frame f program.main (main_arguments f.params) entry.birth [] ∷ []) ∷ [];
      steps = 0;
      turns = 0;
    }

-- the start, with its births; there is none if `main` names no function
abbrev pub start_with : Module → Option Function → SourceWorldStep
start_with program None = NoStep
start_with program (Some f) =
    let entry = entry_of (global_births program program.globals) program.main 0 [] f.allocas in
    Next (world_with_main program f entry) (telling (global_news program program.globals ++ entry.news))

-- The globals, and task 0 at the entry of `main`, whose chain is empty.
unfoldable pub source_start : Module → SourceWorldStep
source_start program = start_with program (slice_get program.functions program.main)
