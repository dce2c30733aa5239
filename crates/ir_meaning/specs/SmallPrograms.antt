-- Further modules as values, for examples of branches, strings, copies of pointers, constants and mutexes. Above each
-- stands its text, in the syntax of the LLVM Language Reference; the modules are this project's choice.
use Rattle.std.specs.Prelude.{ℕ, true, false, List, [], ◌∷◌, ◌++◌, Some, None, codes}
use Rattle.hw_base.specs.declared.operators.BinOp.TheVariants.{Add, Sub}
use Rattle.hw_base.specs.declared.operators.Pred.TheVariants.{Eq}
use Rattle.hw_base.specs.declared.operators.CastOp.TheVariants.{ZExt}
use Rattle.ir_core.specs.declared.types.IrType.TheVariants.{Array}
use Rattle.ir_core.specs.declared.types.TypeLayout.TheVariants.{Known}
use Rattle.ir_core.specs.declared.operands.Operand.TheVariants.{Reg, Int as Literal}
use Rattle.ir_core.specs.declared.operands.Part.{Part}
use Rattle.ir_core.specs.declared.operations.Op.TheVariants.{Phi, Binary, Icmp, Cast, Alloca, Load, Store, CallLib, Br, BrIf, Ret}
use Rattle.ir_core.specs.declared.lib_functions.Lib.TheVariants.{Malloc, Memcpy, Puts, MutexLock, Getchar}
use Rattle.ir_core.specs.declared.ir_module.GlobalVar.{GlobalVar}
use Rattle.ir_core.specs.declared.ir_module.Inst.{Inst}
use Rattle.ir_core.specs.declared.ir_module.Module.{Module}
use Rattle.ir_core.specs.Examples.{nowhere, i8_type, i32_type, i64_type, ptr_type, example_types, example_layouts, placed, i32_literal, i64_literal, i32_register, ptr_register, start_of_global, effect, defines, declared_function, return_zero, call_malloc, load_byte, straight_function, main_function, example_module}

abbrev pub i1_type : ℕ
i1_type = 1

-- the sum of the numbers from 3 down to 1:
-- define i32 @main() {
--   br label %1
-- 1:
--   %2 = phi i32 [ 3, %0 ], [ %5, %1 ]
--   %3 = phi i32 [ 0, %0 ], [ %4, %1 ]
--   %4 = add i32 %3, %2
--   %5 = sub i32 %2, 1
--   %6 = icmp eq i32 %5, 0
--   br i1 %6, label %7, label %1
-- 7:
--   ret i32 %4
-- }
abbrev pub adds_in_a_loop : Module
adds_in_a_loop =
    example_module []
    (record {
      name = codes "main";
      params = 0;
      result = i32_type;
      regs = i32_type ∷ i32_type ∷ i32_type ∷ i32_type ∷ i1_type ∷ [];
      allocas = [];
      blocks =
          record { first = 0; phis = 0; count = 1 }
          ∷ record { first = 1; phis = 2; count = 6 }
          ∷ record { first = 7; phis = 0; count = 1 }
          ∷ [];
      insts =
          effect (Br 1)
          ∷ defines 0 (Phi i32_type (record { value = i32_literal 3; block = 0 } ∷ record { value = i32_register 3; block = 1 } ∷ []))
          ∷ defines 1 (Phi i32_type (record { value = i32_literal 0; block = 0 } ∷ record { value = i32_register 2; block = 1 } ∷ []))
          ∷ defines 2 (Binary Add (i32_register 1) (i32_register 0))
          ∷ defines 3 (Binary Sub (i32_register 0) (i32_literal 1))
          ∷ defines 4 (Icmp Eq (i32_register 3) (i32_literal 0))
          ∷ effect (BrIf (placed (Reg 4) i1_type) 2 1)
          ∷ effect (Ret (Some (i32_register 2)))
          ∷ [];
      place = nowhere;
    }
    ∷ [])
    0

-- `main` of one block with two variables of type `ptr`, which are registers 0 and 1, and declarations of `malloc` and `memcpy`
abbrev pub with_two_variables : List ℕ → ℕ → List Inst → Module
with_two_variables regs count insts =
    record (example_module [] (straight_function (codes "main") 0 i32_type regs (8 ∷ 8 ∷ []) count insts ∷ []) 0) {
      declares =
          declared_function Malloc ptr_type (i64_type ∷ [])
          ∷ declared_function Memcpy ptr_type (ptr_type ∷ ptr_type ∷ i64_type ∷ [])
          ∷ [];
    }

-- `%r = alloca ptr`, variable k
abbrev pub pointer_variable : ℕ → ℕ → Inst
pointer_variable r k = defines r (Alloca k ptr_type None)

-- `store ptr %value, ptr %at`
abbrev pub store_pointer : ℕ → ℕ → Inst
store_pointer value at = effect (Store (ptr_register value) (ptr_register at) 8)

-- An integer is read over a piece of a pointer:
-- define i32 @main() {
--   %a = alloca ptr
--   %b = alloca ptr
--   %p = call ptr @malloc(i64 1)
--   store ptr %p, ptr %a
--   %v = load i8, ptr %a
--   ret i32 0
-- }
abbrev pub reads_a_piece : Module
reads_a_piece =
    with_two_variables (ptr_type ∷ ptr_type ∷ ptr_type ∷ i8_type ∷ []) 6
    (pointer_variable 0 0 ∷ pointer_variable 1 1 ∷ call_malloc 2 1 ∷ store_pointer 2 0 ∷ load_byte 3 0 ∷ return_zero ∷ [])

-- A pointer is copied as bytes, and is the same pointer when it is read:
-- define i32 @main() {
--   %a = alloca ptr
--   %b = alloca ptr
--   %p = call ptr @malloc(i64 1)
--   store ptr %p, ptr %a
--   %m = call ptr @memcpy(ptr %b, ptr %a, i64 8)
--   %q = load ptr, ptr %b
--   %e = icmp eq ptr %p, %q
--   %x = zext i1 %e to i32
--   ret i32 %x
-- }
abbrev pub copies_a_pointer : Module
copies_a_pointer =
    with_two_variables (ptr_type ∷ ptr_type ∷ ptr_type ∷ ptr_type ∷ ptr_type ∷ i1_type ∷ i32_type ∷ []) 9
    (pointer_variable 0 0
    ∷ pointer_variable 1 1
    ∷ call_malloc 2 1
    ∷ store_pointer 2 0
    ∷ defines 3 (CallLib 1 ptr_type (ptr_register 1 ∷ ptr_register 0 ∷ i64_literal 8 ∷ []) None)
    ∷ defines 4 (Load ptr_type (ptr_register 1) 8)
    ∷ defines 5 (Icmp Eq (ptr_register 2) (ptr_register 4))
    ∷ defines 6 (Cast ZExt (placed (Reg 5) i1_type) i32_type)
    ∷ effect (Ret (Some (i32_register 6)))
    ∷ [])

-- `[3 x i8]`
abbrev pub three_bytes_type : ℕ
three_bytes_type = 7

abbrev pub byte_part : ℕ → ℕ → Part
byte_part at n = record { at = at; size = 1; value = Literal n }

-- @s = constant [3 x i8] c"hi\00"
abbrev pub greeting : GlobalVar
greeting =
    record {
      name = codes "s";
      ty = three_bytes_type;
      constant = true;
      fits = true;
      init = byte_part 0 104 ∷ byte_part 1 105 ∷ [];
      place = nowhere;
    }

-- a module with that constant, `declare i32 @puts(ptr)`, and `main` of one block
abbrev pub with_greeting : List ℕ → ℕ → List Inst → Module
with_greeting regs count insts =
    record (example_module (greeting ∷ []) (main_function regs count insts ∷ []) 0) {
      types = example_types ++ Array 3 i8_type ∷ [];
      layouts = example_layouts ++ Known 3 1 ∷ [];
      declares = declared_function Puts i32_type (ptr_type ∷ []) ∷ [];
    }

-- define i32 @main() {
--   %r = call i32 @puts(ptr @s)
--   ret i32 0
-- }
abbrev pub prints_a_constant : Module
prints_a_constant =
    with_greeting (i32_type ∷ []) 2 (defines 0 (CallLib 0 i32_type (start_of_global 0 ∷ []) None) ∷ return_zero ∷ [])

-- define i32 @main() {
--   store i8 0, ptr @s
--   ret i32 0
-- }
abbrev pub writes_a_constant : Module
writes_a_constant =
    with_greeting [] 2 (effect (Store (placed (Literal 0) i8_type) (start_of_global 0) 1) ∷ return_zero ∷ [])

-- @m = global i32 0
abbrev pub mutex_variable : GlobalVar
mutex_variable = record { name = codes "m"; ty = i32_type; constant = false; fits = true; init = []; place = nowhere }

-- `%r = call i32 @pthread_mutex_lock(ptr @m)`
abbrev pub call_lock : ℕ → Inst
call_lock r = defines r (CallLib 0 i32_type (start_of_global 0 ∷ []) None)

-- A task waits for a mutex that it holds itself:
-- define i32 @main() {
--   %a = call i32 @pthread_mutex_lock(ptr @m)
--   %b = call i32 @pthread_mutex_lock(ptr @m)
--   ret i32 0
-- }
abbrev pub locks_twice : Module
locks_twice =
    record (example_module (mutex_variable ∷ []) (main_function (i32_type ∷ i32_type ∷ []) 3 (call_lock 0 ∷ call_lock 1 ∷ return_zero ∷ []) ∷ []) 0) {
      declares = declared_function MutexLock i32_type (ptr_type ∷ []) ∷ [];
    }

-- `main` has a variable, which keeps a block:
-- define i32 @main() {
--   %a = alloca ptr
--   %b = alloca ptr
--   %p = call ptr @malloc(i64 1)
--   store ptr %p, ptr %a
--   ret i32 0
-- }
abbrev pub keeps_a_block : Module
keeps_a_block =
    with_two_variables (ptr_type ∷ ptr_type ∷ ptr_type ∷ []) 5
    (pointer_variable 0 0 ∷ pointer_variable 1 1 ∷ call_malloc 2 1 ∷ store_pointer 2 0 ∷ return_zero ∷ [])

-- `%r = call i32 @getchar()`
abbrev pub call_getchar : ℕ → Inst
call_getchar r = defines r (CallLib 0 i32_type [] None)

-- define i32 @main() {
--   %a = call i32 @getchar()
--   %b = call i32 @getchar()
--   ret i32 %b
-- }
abbrev pub reads_twice : Module
reads_twice =
    record (example_module [] (main_function (i32_type ∷ i32_type ∷ []) 3 (call_getchar 0 ∷ call_getchar 1 ∷ effect (Ret (Some (i32_register 1))) ∷ []) ∷ []) 0) {
      declares = declared_function Getchar i32_type [] ∷ [];
    }
