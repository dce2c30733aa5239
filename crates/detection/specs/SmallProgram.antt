-- Small modules of which the detection theorem speaks: one global, and a write of a byte so many bytes after the start of a block of 10
-- bytes. Its places mean nothing.
--
--     @g = global i32 5
--
--     define i32 @main() {
--       %p = call ptr @malloc(i64 10)
--       %q = getelementptr i8, ptr %p, i64 OFF
--       store i8 1, ptr %q
--       ret i32 0
--     }
use Rattle.std.specs.Prelude.{ℕ, false, true, List, [], ◌∷◌, codes}
use Rattle.hw_tags.specs.Word.{word}
use Rattle.hw_tags.specs.declared.words_spec.WordsSpec.TheVariants.{Cycle}
use Rattle.ir_core.specs.Examples.{nowhere, ptr_type, i32_type, call_malloc, bytes_behind, store_byte, return_zero, main_function, example_module}
use Rattle.ir_core.specs.declared.ir_module.GlobalVar.{GlobalVar}
use Rattle.ir_core.specs.declared.ir_module.Function.{Function}
use Rattle.ir_core.specs.declared.ir_module.Inst.{Inst}
use Rattle.ir_core.specs.declared.ir_module.Module.{Module}
use Rattle.ir_core.specs.declared.operands.Operand.TheVariants.{Int as Literal}
use Rattle.ir_machine.specs.State.{MachineSetting}
use Rattle.detection.specs.Detection.{program_setting}

abbrev pub small_global : GlobalVar
small_global =
    record {
      name = codes "g";
      ty = i32_type;
      constant = false;
      fits = true;
      init = record { at = 0; size = 4; value = Literal 5 } ∷ [];
      place = nowhere;
    }

abbrev pub small_insts : (off : ℕ) → List Inst
small_insts off = call_malloc 0 10 ∷ bytes_behind 1 0 off ∷ store_byte 1 1 ∷ return_zero ∷ []

abbrev pub small_main : (off : ℕ) → Function
small_main off = main_function (ptr_type ∷ ptr_type ∷ []) 4 (small_insts off)

abbrev pub small_program : (off : ℕ) → Module
small_program off = example_module (small_global ∷ []) (small_main off ∷ []) 0

-- on the program's map with a heap of 64 bytes, with tag words that repeat
abbrev pub small_setting : (off : ℕ) → List ℕ → MachineSetting
small_setting off tags = program_setting (small_program off) 64 1 (word (Cycle tags)) []
