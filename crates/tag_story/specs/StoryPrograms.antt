-- Small modules, beside those of `ir_core`, whose stories are shown by evaluation. Above each is its text, in the syntax of the LLVM
-- Language Reference; the modules are this project's choice. No place in them means anything.
use Rattle.std.specs.Prelude.{ℕ, ◌^◌, List, [], ◌∷◌, ◌++◌, Some, None, codes}
use Rattle.ir_core.specs.declared.ir_module.Inst.{Inst}
use Rattle.ir_core.specs.declared.ir_module.Module.{Module}
use Rattle.ir_core.specs.declared.lib_functions.Lib.TheVariants.{Calloc, Memset}
use Rattle.ir_core.specs.declared.operations.Op.TheVariants.{Alloca, Call, CallLib}
use Rattle.ir_core.specs.Examples.{
  bytes_behind,
  call_free,
  call_malloc,
  declared_function,
  defines,
  example_declares,
  example_module,
  i32_literal,
  i32_type,
  i64_literal,
  i64_type,
  i8_type,
  load_byte,
  main_alone,
  main_function,
  ptr_register,
  ptr_type,
  return_zero,
  returns_its_variable,
  sixteen_bytes_type,
  straight_function,
}

-- a module of `main` alone that also has `declare ptr @calloc(i64, i64)` and `declare ptr @memset(ptr, i32, i64)`
abbrev pub main_with_tables : (registers : List ℕ) → (count : ℕ) → List Inst → Module
main_with_tables registers count insts =
    record (main_alone registers count insts) {
      declares =
          example_declares
          ++ declared_function Calloc ptr_type (i64_type ∷ i64_type ∷ [])
          ∷ declared_function Memset ptr_type (ptr_type ∷ i32_type ∷ i64_type ∷ [])
          ∷ [];
    }

-- A write to three blocks that follow each other, of which the first one's pointer is given:
-- define i32 @main() {
--   %a = call ptr @malloc(i64 16)
--   %b = call ptr @malloc(i64 16)
--   %c = call ptr @malloc(i64 16)
--   %s = call ptr @memset(ptr %a, i32 0, i64 48)
--   ret i32 0
-- }
abbrev pub writes_to_three_blocks : Module
writes_to_three_blocks =
    main_with_tables (ptr_type ∷ ptr_type ∷ ptr_type ∷ ptr_type ∷ []) 5
    (call_malloc 0 16
    ∷ call_malloc 1 16
    ∷ call_malloc 2 16
    ∷ defines 3 (CallLib 5 ptr_type (ptr_register 0 ∷ i32_literal 0 ∷ i64_literal 48 ∷ []) None)
    ∷ return_zero
    ∷ [])

-- A block of a byte where another one was freed, and a read of the byte after it:
-- define i32 @main() {
--   %p = call ptr @malloc(i64 16)
--   %q = call ptr @malloc(i64 16)
--   call void @free(ptr %p)
--   %r = call ptr @malloc(i64 1)
--   %s = getelementptr i8, ptr %r, i64 1
--   %v = load i8, ptr %s
--   ret i32 0
-- }
abbrev pub reads_after_a_block_in_a_hole : Module
reads_after_a_block_in_a_hole =
    main_alone (ptr_type ∷ ptr_type ∷ ptr_type ∷ ptr_type ∷ i8_type ∷ []) 7
    (call_malloc 0 16
    ∷ call_malloc 1 16
    ∷ call_free 0
    ∷ call_malloc 2 1
    ∷ bytes_behind 3 2 1
    ∷ load_byte 4 3
    ∷ return_zero
    ∷ [])

-- A read of a variable after its function returned, with no other frame there; f is `define ptr @f() { %a = alloca [16 x i8] ret ptr %a }`:
-- define i32 @main() {
--   %p = call ptr @f()
--   %v = load i8, ptr %p
--   ret i32 0
-- }
abbrev pub reads_a_returned_variable : Module
reads_a_returned_variable =
    example_module []
    (returns_its_variable
    ∷ main_function (ptr_type ∷ i8_type ∷ []) 3 (defines 0 (Call 0 ptr_type []) ∷ load_byte 1 0 ∷ return_zero ∷ [])
    ∷ [])
    1

-- Three blocks:
-- define i32 @main() {
--   %p = call ptr @malloc(i64 16)
--   %q = call ptr @malloc(i64 16)
--   %r = call ptr @malloc(i64 1)
--   ret i32 0
-- }
abbrev pub makes_three_blocks : Module
makes_three_blocks =
    main_alone (ptr_type ∷ ptr_type ∷ ptr_type ∷ []) 4 (call_malloc 0 16 ∷ call_malloc 1 16 ∷ call_malloc 2 1 ∷ return_zero ∷ [])

-- A table of 2 ^ 40 items of 2 ^ 40 bytes:
-- define i32 @main() {
--   %p = call ptr @calloc(i64 1099511627776, i64 1099511627776)
--   ret i32 0
-- }
abbrev pub makes_a_large_table : Module
makes_a_large_table =
    main_with_tables (ptr_type ∷ []) 2
    (defines 0 (CallLib 4 ptr_type (i64_literal (2 ^ 40) ∷ i64_literal (2 ^ 40) ∷ []) None) ∷ return_zero ∷ [])

-- A variable of 16 bytes more than a stack has:
-- define i32 @main() {
--   %a = alloca [16 x i8], i64 16385
--   ret i32 0
-- }
abbrev pub has_a_large_variable : Module
has_a_large_variable =
    example_module []
    (straight_function (codes "main") 0 i32_type (ptr_type ∷ []) (262160 ∷ []) 2
    (defines 0 (Alloca 0 sixteen_bytes_type (Some (i64_literal 16385))) ∷ return_zero ∷ [])
    ∷ [])
    0
