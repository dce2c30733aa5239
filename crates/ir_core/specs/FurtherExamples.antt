-- More small modules as values, one for each of the library functions, tasks and instructions that the first ones leave out.
-- Above each is its text, in the syntax of the LLVM Language Reference; the modules are this project's choice. Lines that
-- are the same in many of them: `%r = getelementptr i8, ptr %p, i64 n`, and a byte that is printed by
-- `%x = zext i8 %v to i32` and `%q = call i32 @putchar(i32 %x)`.
use Rattle.std.specs.Prelude.{ℕ, ◌^◌, true, false, List, [], ◌∷◌, ◌++◌, Option, Some, None, codes}
use Rattle.hw_base.specs.declared.operators.CastOp.TheVariants.{ZExt}
use Rattle.hw_base.specs.declared.operators.OverOp.TheVariants.{SAdd}
use Rattle.ir_core.specs.declared.types.IrType.{IrType}
use Rattle.ir_core.specs.declared.types.IrType.TheVariants.{Array, Pair}
use Rattle.ir_core.specs.declared.types.TypeLayout.{TypeLayout}
use Rattle.ir_core.specs.declared.types.TypeLayout.TheVariants.{Known}
use Rattle.ir_core.specs.declared.operands.Operand.TheVariants.{Reg, Int as Literal, Null}
use Rattle.ir_core.specs.declared.operands.Part.{Part}
use Rattle.ir_core.specs.declared.operands.Placed.{Placed}
use Rattle.ir_core.specs.declared.operands.StartArg.{StartArg}
use Rattle.ir_core.specs.declared.operations.Op.{Op}
use Rattle.ir_core.specs.declared.operations.Op.TheVariants.{Alloca, Br, CallLib, Cast, CmpXchg, ExtractValue, Phi, Ret, Store, Switch, Unreachable}
use Rattle.ir_core.specs.declared.lib_functions.Lib.TheVariants.{Exit, Getchar, Memcmp, MutexLock, MutexUnlock, Overflow, PthreadJoin, Puts, Realloc}
use Rattle.ir_core.specs.declared.ir_module.GlobalVar.{GlobalVar}
use Rattle.ir_core.specs.declared.ir_module.Inst.{Inst}
use Rattle.ir_core.specs.declared.ir_module.Function.{Function}
use Rattle.ir_core.specs.declared.ir_module.Declare.{Declare}
use Rattle.ir_core.specs.declared.ir_module.Module.{Module}
use Rattle.ir_core.specs.Examples.{nowhere, void_type, i8_type, i32_type, i64_type, ptr_type, example_types, example_layouts, placed, i32_literal, i64_literal, i8_literal, null_pointer, i8_register, i32_register, ptr_register, start_of_global, effect, defines, bytes_behind, store_byte, load_byte, return_zero, declared_function, example_declares, call_malloc, call_free, call_putchar, straight_function, task_number_variable}

-- ---- types after the first ones: `{ i8, i1 }`, `{ i32, i1 }`, `[3 x i8]` and `[2 x i8]`, by their numbers

abbrev pub byte_pair_type : ℕ
byte_pair_type = 7

abbrev pub int_pair_type : ℕ
int_pair_type = 8

abbrev pub three_bytes_type : ℕ
three_bytes_type = 9

abbrev pub two_bytes_type : ℕ
two_bytes_type = 10

abbrev pub i1_type : ℕ
i1_type = 1

abbrev pub further_types : List IrType
further_types = example_types ++ Pair 8 ∷ Pair 32 ∷ Array 3 2 ∷ Array 2 2 ∷ []

abbrev pub further_layouts : List TypeLayout
further_layouts = example_layouts ++ Known 2 1 ∷ Known 8 4 ∷ Known 3 1 ∷ Known 2 1 ∷ []

-- ---- declared functions after the first ones

-- `realloc`, `puts`, `getchar`, `memcmp`, `pthread_join`, `pthread_mutex_lock`, `pthread_mutex_unlock`, `exit` and
-- `llvm.sadd.with.overflow.i8`
abbrev pub further_declares : List Declare
further_declares =
    example_declares
    ++ declared_function Realloc ptr_type (ptr_type ∷ i64_type ∷ [])
    ∷ declared_function Puts i32_type (ptr_type ∷ [])
    ∷ declared_function Getchar i32_type []
    ∷ declared_function Memcmp i32_type (ptr_type ∷ ptr_type ∷ i64_type ∷ [])
    ∷ declared_function PthreadJoin i32_type (i64_type ∷ ptr_type ∷ [])
    ∷ declared_function MutexLock i32_type (ptr_type ∷ [])
    ∷ declared_function MutexUnlock i32_type (ptr_type ∷ [])
    ∷ declared_function Exit void_type (i32_type ∷ [])
    ∷ declared_function (Overflow SAdd 8) byte_pair_type (i8_type ∷ i8_type ∷ [])
    ∷ []

-- ---- instructions

-- `%r = call ptr @realloc(ptr %at, i64 n)`
abbrev pub call_realloc : (r at n : ℕ) → Inst
call_realloc r at n = defines r (CallLib 4 ptr_type (ptr_register at ∷ i64_literal n ∷ []) None)

-- `%r = call i32 @puts(ptr @g)`, for the global with number g
abbrev pub call_puts : (r g : ℕ) → Inst
call_puts r g = defines r (CallLib 5 i32_type (start_of_global g ∷ []) None)

-- `%r = call i32 @getchar()`
abbrev pub call_getchar : (r : ℕ) → Inst
call_getchar r = defines r (CallLib 6 i32_type [] None)

-- `%r = call i32 @memcmp(ptr %a, ptr %b, i64 n)`
abbrev pub call_memcmp : (r a b n : ℕ) → Inst
call_memcmp r a b n = defines r (CallLib 7 i32_type (ptr_register a ∷ ptr_register b ∷ i64_literal n ∷ []) None)

-- `%r = call i32 @pthread_create(ptr @t, ptr null, ptr @f, ptr null)`, for the global with number t and the function with
-- number f
abbrev pub call_create : (r t f : ℕ) → Inst
call_create r t f =
    defines r (CallLib 3 i32_type (start_of_global t ∷ null_pointer ∷ null_pointer ∷ []) (Some (record { func = f; ty = ptr_type; place = nowhere })))

-- `%r = call i32 @pthread_join(i64 n, ptr null)`
abbrev pub call_join : (r n : ℕ) → Inst
call_join r n = defines r (CallLib 8 i32_type (i64_literal n ∷ null_pointer ∷ []) None)

-- `%r = call i32 @pthread_mutex_lock(ptr @m)` and `%r = call i32 @pthread_mutex_unlock(ptr @m)`
abbrev pub call_lock : (r m : ℕ) → Inst
call_lock r m = defines r (CallLib 9 i32_type (start_of_global m ∷ []) None)

abbrev pub call_unlock : (r m : ℕ) → Inst
call_unlock r m = defines r (CallLib 10 i32_type (start_of_global m ∷ []) None)

-- `call void @exit(i32 n)`
abbrev pub call_exit : ℕ → Inst
call_exit n = effect (CallLib 11 void_type (i32_literal n ∷ []) None)

-- `%r = call { i8, i1 } @llvm.sadd.with.overflow.i8(i8 a, i8 b)`
abbrev pub call_sadd : (r a b : ℕ) → Inst
call_sadd r a b = defines r (CallLib 12 byte_pair_type (i8_literal a ∷ i8_literal b ∷ []) None)

-- `%r = zext i8 %v to i32`
abbrev pub widened_byte : (r v : ℕ) → Inst
widened_byte r v = defines r (Cast ZExt (i8_register v) i32_type)

-- `%r = zext i1 %v to i32`
abbrev pub widened_bit : (r v : ℕ) → Inst
widened_bit r v = defines r (Cast ZExt (placed (Reg v) i1_type) i32_type)

-- `%r = extractvalue { i32, i1 } %p, k`
abbrev pub part_of_int_pair : (r p k : ℕ) → Inst
part_of_int_pair r p k = defines r (ExtractValue (placed (Reg p) int_pair_type) (Some k))

-- `%r = cmpxchg ptr %at, i32 expected, i32 new seq_cst seq_cst`
abbrev pub exchange_int : (r at expected new : ℕ) → Inst
exchange_int r at expected new = defines r (CmpXchg (ptr_register at) (i32_literal expected) (i32_literal new) 4)

-- `ret ptr null`
abbrev pub return_null : Inst
return_null = effect (Ret (Some null_pointer))

-- ---- globals, functions and modules

abbrev pub further_module : List GlobalVar → List Function → ℕ → Module
further_module globals functions main =
    record {
      types = further_types;
      fields = [];
      layouts = further_layouts;
      globals = globals;
      declares = further_declares;
      functions = functions;
      main = main;
      meta = [];
    }

-- `define i32 @main()` with one block and no variable
abbrev pub main_of : (registers : List ℕ) → (count : ℕ) → List Inst → Function
main_of registers count insts = straight_function (codes "main") 0 i32_type registers [] count insts

-- a module of `main` alone
abbrev pub only_main : (registers : List ℕ) → (count : ℕ) → List Inst → Module
only_main registers count insts = further_module [] (main_of registers count insts ∷ []) 0

abbrev pub byte_part : (at n : ℕ) → Part
byte_part at n = record { at = at; size = 1; value = Literal n }

-- `@s = constant [3 x i8] c"hi\00"`
abbrev pub text_constant : GlobalVar
text_constant =
    record { name = codes "s"; ty = three_bytes_type; constant = true; fits = true; init = byte_part 0 104 ∷ byte_part 1 105 ∷ byte_part 2 0 ∷ []; place = nowhere }

-- `@s = constant [2 x i8] c"hi"`
abbrev pub open_text_constant : GlobalVar
open_text_constant =
    record { name = codes "s"; ty = two_bytes_type; constant = true; fits = true; init = byte_part 0 104 ∷ byte_part 1 105 ∷ []; place = nowhere }

-- `@m = global i32 0`
abbrev pub mutex_variable : GlobalVar
mutex_variable = record { name = codes "m"; ty = i32_type; constant = false; fits = true; init = []; place = nowhere }

-- `define ptr @w(ptr %p)` with one block, where `%p` is register 0
abbrev pub task_function : (registers : List ℕ) → (count : ℕ) → List Inst → Function
task_function registers count insts = straight_function (codes "w") 1 ptr_type (ptr_type ∷ registers) [] count insts

-- ---- blocks

-- A read of a block of no bytes:
-- define i32 @main() {
--   %p = call ptr @malloc(i64 0)
--   %v = load i8, ptr %p
--   ret i32 0
-- }
abbrev pub reads_an_empty_block : Module
reads_an_empty_block = only_main (ptr_type ∷ i8_type ∷ []) 3 (call_malloc 0 0 ∷ load_byte 1 0 ∷ return_zero ∷ [])

-- define i32 @main() {
--   %p = call ptr @malloc(i64 16)
--   call void @free(ptr %p)
--   call void @free(ptr %p)
--   ret i32 0
-- }
abbrev pub frees_twice : Module
frees_twice = only_main (ptr_type ∷ []) 4 (call_malloc 0 16 ∷ call_free 0 ∷ call_free 0 ∷ return_zero ∷ [])

-- define i32 @main() {
--   %p = call ptr @malloc(i64 16)
--   %q = getelementptr i8, ptr %p, i64 1
--   call void @free(ptr %q)
--   ret i32 0
-- }
abbrev pub frees_an_inner_pointer : Module
frees_an_inner_pointer =
    only_main (ptr_type ∷ ptr_type ∷ []) 4 (call_malloc 0 16 ∷ bytes_behind 1 0 1 ∷ call_free 1 ∷ return_zero ∷ [])

-- define i32 @main() {
--   call void @free(ptr @t)
--   ret i32 0
-- }
-- with `@t = global i64 0`
abbrev pub frees_a_global : Module
frees_a_global =
    further_module (task_number_variable ∷ [])
    (main_of [] 2 (effect (CallLib 1 void_type (start_of_global 0 ∷ []) None) ∷ return_zero ∷ []) ∷ [])
    0

-- define i32 @main() {
--   call void @free(ptr null)
--   ret i32 0
-- }
abbrev pub frees_null : Module
frees_null = only_main [] 2 (effect (CallLib 1 void_type (null_pointer ∷ []) None) ∷ return_zero ∷ [])

-- A read through a pointer 2 ^ 56 bytes past a block:
-- define i32 @main() {
--   %p = call ptr @malloc(i64 16)
--   %q = getelementptr i8, ptr %p, i64 72057594037927936
--   %v = load i8, ptr %q
--   ret i32 0
-- }
abbrev pub goes_far_past_a_block : Module
goes_far_past_a_block =
    only_main (ptr_type ∷ ptr_type ∷ i8_type ∷ []) 4 (call_malloc 0 16 ∷ bytes_behind 1 0 (2 ^ 56) ∷ load_byte 2 1 ∷ return_zero ∷ [])

-- A new block where another one was, whose last byte is read and printed:
-- define i32 @main() {
--   %p = call ptr @malloc(i64 10)
--   call void @free(ptr %p)
--   %q = call ptr @malloc(i64 16)
--   %r = getelementptr i8, ptr %q, i64 15
--   %v = load i8, ptr %r
--   %x = zext i8 %v to i32
--   %c = call i32 @putchar(i32 %x)
--   ret i32 0
-- }
abbrev pub reads_a_new_block : Module
reads_a_new_block =
    only_main (ptr_type ∷ ptr_type ∷ ptr_type ∷ i8_type ∷ i32_type ∷ i32_type ∷ []) 8
    (call_malloc 0 10
    ∷ call_free 0
    ∷ call_malloc 1 16
    ∷ bytes_behind 2 1 15
    ∷ load_byte 3 2
    ∷ widened_byte 4 3
    ∷ call_putchar 5 4
    ∷ return_zero
    ∷ [])

-- A block that grows, and a read of the old one:
-- define i32 @main() {
--   %p = call ptr @malloc(i64 4)
--   store i8 65, ptr %p
--   %r = call ptr @realloc(ptr %p, i64 20)
--   %v = load i8, ptr %r
--   %x = zext i8 %v to i32
--   %c = call i32 @putchar(i32 %x)
--   %w = load i8, ptr %p
--   ret i32 0
-- }
abbrev pub grows_a_block : Module
grows_a_block =
    only_main (ptr_type ∷ ptr_type ∷ i8_type ∷ i32_type ∷ i32_type ∷ i8_type ∷ []) 8
    (call_malloc 0 4
    ∷ store_byte 65 0
    ∷ call_realloc 1 0 20
    ∷ load_byte 2 1
    ∷ widened_byte 3 2
    ∷ call_putchar 4 3
    ∷ load_byte 5 0
    ∷ return_zero
    ∷ [])

-- define i32 @main() {
--   %p = call ptr @malloc(i64 16)
--   %q = getelementptr i8, ptr %p, i64 1
--   %r = call ptr @realloc(ptr %q, i64 20)
--   ret i32 0
-- }
abbrev pub grows_an_inner_pointer : Module
grows_an_inner_pointer =
    only_main (ptr_type ∷ ptr_type ∷ ptr_type ∷ []) 4 (call_malloc 0 16 ∷ bytes_behind 1 0 1 ∷ call_realloc 2 1 20 ∷ return_zero ∷ [])

-- The bytes of a stored pointer are compared with themselves:
-- define i32 @main() {
--   %p = call ptr @malloc(i64 16)
--   store ptr %p, ptr %p
--   %c = call i32 @memcmp(ptr %p, ptr %p, i64 8)
--   %q = call i32 @putchar(i32 %c)
--   ret i32 0
-- }
abbrev pub compares_the_bytes_of_a_pointer : Module
compares_the_bytes_of_a_pointer =
    only_main (ptr_type ∷ i32_type ∷ i32_type ∷ []) 5
    (call_malloc 0 16
    ∷ effect (Store (ptr_register 0) (ptr_register 0) 8)
    ∷ call_memcmp 1 0 0 8
    ∷ call_putchar 2 1
    ∷ return_zero
    ∷ [])

-- A block that only a variable of `main` leads to when `main` returns:
-- define i32 @main() {
--   %a = alloca ptr
--   %p = call ptr @malloc(i64 16)
--   store ptr %p, ptr %a
--   ret i32 0
-- }
abbrev pub keeps_a_block_in_a_variable : Module
keeps_a_block_in_a_variable =
    further_module []
    (straight_function (codes "main") 0 i32_type (ptr_type ∷ ptr_type ∷ []) (8 ∷ []) 4
    (defines 0 (Alloca 0 ptr_type None)
    ∷ call_malloc 1 16
    ∷ effect (Store (ptr_register 1) (ptr_register 0) 8)
    ∷ return_zero
    ∷ [])
    ∷ [])
    0

-- ---- constants and strings

-- define i32 @main() {
--   store i8 0, ptr @s
--   ret i32 0
-- }
-- with `@s = constant [3 x i8] c"hi\00"`
abbrev pub writes_a_constant : Module
writes_a_constant =
    further_module (text_constant ∷ []) (main_of [] 2 (effect (Store (i8_literal 0) (start_of_global 0) 1) ∷ return_zero ∷ []) ∷ []) 0

-- define i32 @main() {
--   %c = call i32 @puts(ptr @s)
--   ret i32 0
-- }
abbrev pub prints : GlobalVar → Module
prints text = further_module (text ∷ []) (main_of (i32_type ∷ []) 2 (call_puts 0 0 ∷ return_zero ∷ []) ∷ []) 0

-- with `@s = constant [3 x i8] c"hi\00"`
abbrev pub prints_a_string : Module
prints_a_string = prints text_constant

-- with `@s = constant [2 x i8] c"hi"`
abbrev pub prints_an_open_string : Module
prints_an_open_string = prints open_text_constant

-- ---- input

-- define i32 @main() {
--   %a = call i32 @getchar()
--   %x = call i32 @putchar(i32 %a)
--   %b = call i32 @getchar()
--   %y = call i32 @putchar(i32 %b)
--   ret i32 0
-- }
abbrev pub echoes_two_bytes : Module
echoes_two_bytes =
    only_main (i32_type ∷ i32_type ∷ i32_type ∷ i32_type ∷ []) 5
    (call_getchar 0 ∷ call_putchar 1 0 ∷ call_getchar 2 ∷ call_putchar 3 2 ∷ return_zero ∷ [])

-- define i32 @main() {
--   %k = call i32 @getchar()
--   switch i32 %k, label %c [ i32 65, label %a i32 66, label %b ]
-- a:
--   br label %c
-- b:
--   br label %c
-- c:
--   %x = phi i32 [ 48, %0 ], [ 49, %a ], [ 50, %b ]
--   %q = call i32 @putchar(i32 %x)
--   ret i32 0
-- }
abbrev pub switches_on_a_byte : Module
switches_on_a_byte =
    further_module []
    (record {
      name = codes "main";
      params = 0;
      result = i32_type;
      regs = i32_type ∷ i32_type ∷ i32_type ∷ [];
      allocas = [];
      blocks =
          record { first = 0; phis = 0; count = 2 }
          ∷ record { first = 2; phis = 0; count = 1 }
          ∷ record { first = 3; phis = 0; count = 1 }
          ∷ record { first = 4; phis = 1; count = 3 }
          ∷ [];
      insts =
          call_getchar 0
          ∷ effect (Switch (i32_register 0) 3 (record { value = i32_literal 65; block = 1 } ∷ record { value = i32_literal 66; block = 2 } ∷ []))
          ∷ effect (Br 3)
          ∷ effect (Br 3)
          ∷ defines 1 (Phi i32_type (record { value = i32_literal 48; block = 0 } ∷ record { value = i32_literal 49; block = 1 } ∷ record { value = i32_literal 50; block = 2 } ∷ []))
          ∷ call_putchar 2 1
          ∷ return_zero
          ∷ [];
      place = nowhere;
    }
    ∷ [])
    0

-- ---- numbers

-- define i32 @main() {
--   %a = call { i8, i1 } @llvm.sadd.with.overflow.i8(i8 127, i8 1)
--   %b = extractvalue { i8, i1 } %a, 0
--   %x = zext i8 %b to i32
--   %q = call i32 @putchar(i32 %x)
--   ret i32 0
-- }
abbrev pub adds_with_overflow : Module
adds_with_overflow =
    only_main (byte_pair_type ∷ i8_type ∷ i32_type ∷ i32_type ∷ []) 5
    (call_sadd 0 127 1
    ∷ defines 1 (ExtractValue (placed (Reg 0) byte_pair_type) (Some 0))
    ∷ widened_byte 2 1
    ∷ call_putchar 3 2
    ∷ return_zero
    ∷ [])

-- An exchange that stores and one that doesn't; both bits and the second old value are printed:
-- define i32 @main() {
--   %p = call ptr @malloc(i64 4)
--   %a = cmpxchg ptr %p, i32 0, i32 7 seq_cst seq_cst
--   %b = cmpxchg ptr %p, i32 0, i32 9 seq_cst seq_cst
--   %c = extractvalue { i32, i1 } %a, 1
--   %d = zext i1 %c to i32
--   %e = call i32 @putchar(i32 %d)
--   %f = extractvalue { i32, i1 } %b, 1
--   %g = zext i1 %f to i32
--   %h = call i32 @putchar(i32 %g)
--   %i = extractvalue { i32, i1 } %b, 0
--   %j = call i32 @putchar(i32 %i)
--   ret i32 0
-- }
abbrev pub exchanges_twice : Module
exchanges_twice =
    only_main
    (ptr_type
    ∷ int_pair_type
    ∷ int_pair_type
    ∷ i1_type
    ∷ i32_type
    ∷ i32_type
    ∷ i1_type
    ∷ i32_type
    ∷ i32_type
    ∷ i32_type
    ∷ i32_type
    ∷ [])
    12
    (call_malloc 0 4
    ∷ exchange_int 1 0 0 7
    ∷ exchange_int 2 0 0 9
    ∷ part_of_int_pair 3 1 1
    ∷ widened_bit 4 3
    ∷ call_putchar 5 4
    ∷ part_of_int_pair 6 2 1
    ∷ widened_bit 7 6
    ∷ call_putchar 8 7
    ∷ part_of_int_pair 9 2 0
    ∷ call_putchar 10 9
    ∷ return_zero
    ∷ [])

-- ---- tasks

-- A task that returns, and a join of it:
-- @t = global i64 0
-- define ptr @w(ptr %p) {
--   ret ptr null
-- }
-- define i32 @main() {
--   %c = call i32 @pthread_create(ptr @t, ptr null, ptr @w, ptr null)
--   %j = call i32 @pthread_join(i64 1, ptr null)
--   ret i32 0
-- }
abbrev pub joins_a_task : Module
joins_a_task =
    further_module (task_number_variable ∷ [])
    (task_function [] 1 (return_null ∷ [])
    ∷ main_of (i32_type ∷ i32_type ∷ []) 3 (call_create 0 0 0 ∷ call_join 1 1 ∷ return_zero ∷ [])
    ∷ [])
    1

-- A task that unlocks the mutex of another one, and prints the result:
-- @t = global i64 0
-- @m = global i32 0
-- define ptr @w(ptr %p) {
--   %u = call i32 @pthread_mutex_unlock(ptr @m)
--   %q = call i32 @putchar(i32 %u)
--   ret ptr null
-- }
-- define i32 @main() {
--   %l = call i32 @pthread_mutex_lock(ptr @m)
--   %c = call i32 @pthread_create(ptr @t, ptr null, ptr @w, ptr null)
--   %j = call i32 @pthread_join(i64 1, ptr null)
--   ret i32 0
-- }
abbrev pub unlocks_for_another_task : Module
unlocks_for_another_task =
    further_module (task_number_variable ∷ mutex_variable ∷ [])
    (task_function (i32_type ∷ i32_type ∷ []) 3 (call_unlock 1 1 ∷ call_putchar 2 1 ∷ return_null ∷ [])
    ∷ main_of (i32_type ∷ i32_type ∷ i32_type ∷ []) 4 (call_lock 0 1 ∷ call_create 1 0 0 ∷ call_join 2 1 ∷ return_zero ∷ [])
    ∷ [])
    1

-- A task that locks a mutex twice:
-- define i32 @main() {
--   %k = call i32 @pthread_mutex_lock(ptr @m)
--   %l = call i32 @pthread_mutex_lock(ptr @m)
--   ret i32 0
-- }
abbrev pub locks_twice : Module
locks_twice =
    further_module (mutex_variable ∷ []) (main_of (i32_type ∷ i32_type ∷ []) 3 (call_lock 0 0 ∷ call_lock 1 0 ∷ return_zero ∷ []) ∷ []) 0

-- A task that ends the program:
-- define ptr @w(ptr %p) {
--   call void @exit(i32 5)
--   unreachable
-- }
-- define i32 @main() {
--   %c = call i32 @pthread_create(ptr @t, ptr null, ptr @w, ptr null)
--   %j = call i32 @pthread_join(i64 1, ptr null)
--   ret i32 0
-- }
abbrev pub exits_in_a_task : Module
exits_in_a_task =
    further_module (task_number_variable ∷ [])
    (task_function [] 2 (call_exit 5 ∷ effect Unreachable ∷ [])
    ∷ main_of (i32_type ∷ i32_type ∷ []) 3 (call_create 0 0 0 ∷ call_join 1 1 ∷ return_zero ∷ [])
    ∷ [])
    1
