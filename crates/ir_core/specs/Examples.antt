-- Small modules as values, on which the definitions of runs are shown by evaluation. Above each stands its text, in the
-- syntax of the LLVM Language Reference; the modules are this project's choice. All of them share one list of types, and
-- no place in them means anything.
use Rattle.std.specs.Prelude.{ℕ, ◌-◌, ◌^◌, true, false, List, [], ◌∷◌, Some, None, codes}
use Rattle.hw_base.specs.declared.operators.BinOp.TheVariants.{SDiv}
use Rattle.hw_base.specs.declared.operators.CastOp.TheVariants.{ZExt}
use Rattle.ir_core.specs.declared.refusals.Place.{Place}
use Rattle.ir_core.specs.declared.types.IrType.{IrType}
use Rattle.ir_core.specs.declared.types.IrType.TheVariants.{Void, Int, Ptr, Array}
use Rattle.ir_core.specs.declared.types.TypeLayout.{TypeLayout}
use Rattle.ir_core.specs.declared.types.TypeLayout.TheVariants.{Known, NoSize}
use Rattle.ir_core.specs.declared.operands.Operand.{Operand}
use Rattle.ir_core.specs.declared.operands.Operand.TheVariants.{Reg, Int as Literal, Null, Global}
use Rattle.ir_core.specs.declared.operands.Placed.{Placed}
use Rattle.ir_core.specs.declared.operations.Op.{Op}
use Rattle.ir_core.specs.declared.operations.Op.TheVariants.{Binary, Cast, Alloca, Load, Store, Gep, Call, CallLib, Ret, Unreachable}
use Rattle.ir_core.specs.declared.lib_functions.Lib.{Lib}
use Rattle.ir_core.specs.declared.lib_functions.Lib.TheVariants.{Malloc, Free, Putchar, PthreadCreate}
use Rattle.ir_core.specs.declared.ir_module.GlobalVar.{GlobalVar}
use Rattle.ir_core.specs.declared.ir_module.Inst.{Inst}
use Rattle.ir_core.specs.declared.ir_module.Function.{Function}
use Rattle.ir_core.specs.declared.ir_module.Declare.{Declare}
use Rattle.ir_core.specs.declared.ir_module.Module.{Module}

-- a place that means nothing
abbrev pub nowhere : Place
nowhere = record { line = 0; column = 0 }

-- ---- the types: `void`, `i1`, `i8`, `i32`, `i64`, `ptr` and `[16 x i8]`, by their numbers

abbrev pub void_type : ℕ
void_type = 0

abbrev pub i8_type : ℕ
i8_type = 2

abbrev pub i32_type : ℕ
i32_type = 3

abbrev pub i64_type : ℕ
i64_type = 4

abbrev pub ptr_type : ℕ
ptr_type = 5

abbrev pub sixteen_bytes_type : ℕ
sixteen_bytes_type = 6

abbrev pub example_types : List IrType
example_types = Void ∷ Int 1 ∷ Int 8 ∷ Int 32 ∷ Int 64 ∷ Ptr ∷ Array 16 2 ∷ []

abbrev pub example_layouts : List TypeLayout
example_layouts = NoSize ∷ Known 1 1 ∷ Known 1 1 ∷ Known 4 4 ∷ Known 8 8 ∷ Known 8 8 ∷ Known 16 1 ∷ []

-- ---- operands

abbrev pub placed : Operand → ℕ → Placed
placed operand ty = record { operand = operand; ty = ty; fits = true; place = nowhere }

abbrev pub i8_literal : ℕ → Placed
i8_literal n = placed (Literal n) i8_type

abbrev pub i32_literal : ℕ → Placed
i32_literal n = placed (Literal n) i32_type

abbrev pub i64_literal : ℕ → Placed
i64_literal n = placed (Literal n) i64_type

abbrev pub null_pointer : Placed
null_pointer = placed Null ptr_type

abbrev pub i8_register : ℕ → Placed
i8_register r = placed (Reg r) i8_type

abbrev pub i32_register : ℕ → Placed
i32_register r = placed (Reg r) i32_type

abbrev pub ptr_register : ℕ → Placed
ptr_register r = placed (Reg r) ptr_type

abbrev pub start_of_global : ℕ → Placed
start_of_global g = placed (Global g 0) ptr_type

-- ---- instructions

-- an instruction that defines no register
abbrev pub effect : Op → Inst
effect op = record { op = op; result = None; dbg = None; place = nowhere }

-- an instruction that defines a register
abbrev pub defines : ℕ → Op → Inst
defines r op = record { op = op; result = Some r; dbg = None; place = nowhere }

-- `%r = getelementptr i8, ptr %base, i64 n`
abbrev pub bytes_behind : ℕ → ℕ → ℕ → Inst
bytes_behind r base n = defines r (Gep i8_type (ptr_register base) (i64_literal n ∷ []))

-- `store i8 n, ptr %at`
abbrev pub store_byte : ℕ → ℕ → Inst
store_byte n at = effect (Store (i8_literal n) (ptr_register at) 1)

-- `%r = load i8, ptr %at`
abbrev pub load_byte : ℕ → ℕ → Inst
load_byte r at = defines r (Load i8_type (ptr_register at) 1)

-- `ret i32 0`
abbrev pub return_zero : Inst
return_zero = effect (Ret (Some (i32_literal 0)))

-- ---- the declared functions, by their numbers

abbrev pub declared_function : Lib → ℕ → List ℕ → Declare
declared_function lib result params = record { lib = lib; result = result; params = params; place = nowhere }

-- `declare ptr @malloc(i64)`, `declare void @free(ptr)`, `declare i32 @putchar(i32)` and
-- `declare i32 @pthread_create(ptr, ptr, ptr, ptr)`
abbrev pub example_declares : List Declare
example_declares =
    declared_function Malloc ptr_type (i64_type ∷ [])
    ∷ declared_function Free void_type (ptr_type ∷ [])
    ∷ declared_function Putchar i32_type (i32_type ∷ [])
    ∷ declared_function PthreadCreate i32_type (ptr_type ∷ ptr_type ∷ ptr_type ∷ ptr_type ∷ [])
    ∷ []

-- `%r = call ptr @malloc(i64 n)`
abbrev pub call_malloc : ℕ → ℕ → Inst
call_malloc r n = defines r (CallLib 0 ptr_type (i64_literal n ∷ []) None)

-- `call void @free(ptr %at)`
abbrev pub call_free : ℕ → Inst
call_free at = effect (CallLib 1 void_type (ptr_register at ∷ []) None)

-- `%r = call i32 @putchar(i32 %c)`
abbrev pub call_putchar : ℕ → ℕ → Inst
call_putchar r c = defines r (CallLib 2 i32_type (i32_register c ∷ []) None)

-- ---- functions and modules

-- a function of one block
abbrev pub straight_function : List ℕ → ℕ → ℕ → List ℕ → List ℕ → ℕ → List Inst → Function
straight_function name params result regs allocas count insts =
    record {
      name = name;
      params = params;
      result = result;
      regs = regs;
      allocas = allocas;
      blocks = record { first = 0; phis = 0; count = count } ∷ [];
      insts = insts;
      place = nowhere;
    }

-- `define i32 @main()` with one block
abbrev pub main_function : List ℕ → ℕ → List Inst → Function
main_function regs count insts = straight_function (codes "main") 0 i32_type regs [] count insts

abbrev pub example_module : List GlobalVar → List Function → ℕ → Module
example_module globals functions main =
    record {
      types = example_types;
      fields = [];
      layouts = example_layouts;
      globals = globals;
      declares = example_declares;
      functions = functions;
      main = main;
      meta = [];
    }

-- a module of `main` alone
abbrev pub main_alone : List ℕ → ℕ → List Inst → Module
main_alone regs count insts = example_module [] (main_function regs count insts ∷ []) 0

-- define i32 @main() {
--   ret i32 0
-- }
abbrev pub returns_zero : Module
returns_zero = main_alone [] 1 (return_zero ∷ [])

-- define i32 @main() {
--   unreachable
-- }
abbrev pub meets_unreachable : Module
meets_unreachable = main_alone [] 1 (effect Unreachable ∷ [])

-- define i32 @main() {
--   %a = sdiv i32 1, 0
--   ret i32 0
-- }
abbrev pub divides_by_zero : Module
divides_by_zero = main_alone (i32_type ∷ []) 2 (defines 0 (Binary SDiv (i32_literal 1) (i32_literal 0)) ∷ return_zero ∷ [])

-- A write of one byte just behind a block of 10 bytes:
-- define i32 @main() {
--   %p = call ptr @malloc(i64 10)
--   %q = getelementptr i8, ptr %p, i64 10
--   store i8 1, ptr %q
--   ret i32 0
-- }
abbrev pub overflows_a_block : Module
overflows_a_block =
    main_alone (ptr_type ∷ ptr_type ∷ []) 4 (call_malloc 0 10 ∷ bytes_behind 1 0 10 ∷ store_byte 1 1 ∷ return_zero ∷ [])

-- A read of a block after it was freed:
-- define i32 @main() {
--   %p = call ptr @malloc(i64 16)
--   call void @free(ptr %p)
--   %v = load i8, ptr %p
--   ret i32 0
-- }
abbrev pub uses_a_freed_block : Module
uses_a_freed_block =
    main_alone (ptr_type ∷ i8_type ∷ []) 4 (call_malloc 0 16 ∷ call_free 0 ∷ load_byte 1 0 ∷ return_zero ∷ [])

-- define ptr @f() {
--   %a = alloca [16 x i8]
--   ret ptr %a
-- }
abbrev pub returns_its_variable : Function
returns_its_variable =
    straight_function (codes "f") 0 ptr_type (ptr_type ∷ []) (16 ∷ []) 2
    (defines 0 (Alloca 0 sixteen_bytes_type None) ∷ effect (Ret (Some (ptr_register 0))) ∷ [])

-- define i8 @g(ptr %p) {
--   %b = alloca [16 x i8]
--   %v = load i8, ptr %p
--   ret i8 %v
-- }
abbrev pub loads_its_argument : Function
loads_its_argument =
    straight_function (codes "g") 1 i8_type (ptr_type ∷ ptr_type ∷ i8_type ∷ []) (16 ∷ []) 3
    (defines 1 (Alloca 0 sixteen_bytes_type None) ∷ load_byte 2 0 ∷ effect (Ret (Some (i8_register 2))) ∷ [])

-- A read of a variable after its function returned, in another function's frame; f and g are as above:
-- define i32 @main() {
--   %p = call ptr @f()
--   %v = call i8 @g(ptr %p)
--   ret i32 0
-- }
abbrev pub uses_a_returned_variable : Module
uses_a_returned_variable =
    example_module []
    (returns_its_variable
    ∷ loads_its_argument
    ∷ main_function (ptr_type ∷ i8_type ∷ []) 3
    (defines 0 (Call 0 ptr_type []) ∷ defines 1 (Call 1 i8_type (ptr_register 0 ∷ [])) ∷ return_zero ∷ [])
    ∷ [])
    2

-- A write before a block, which reaches the block before it:
-- define i32 @main() {
--   %a = call ptr @malloc(i64 16)
--   %c = getelementptr i8, ptr %a, i64 15
--   store i8 42, ptr %c
--   %b = call ptr @malloc(i64 16)
--   %d = getelementptr i8, ptr %b, i64 -16
--   store i8 7, ptr %d
--   ret i32 0
-- }
abbrev pub writes_before_a_block : Module
writes_before_a_block =
    main_alone (ptr_type ∷ ptr_type ∷ ptr_type ∷ ptr_type ∷ []) 7
    (call_malloc 0 16
    ∷ bytes_behind 1 0 15
    ∷ store_byte 42 1
    ∷ call_malloc 2 16
    ∷ bytes_behind 3 2 (2 ^ 64 - 16)
    ∷ store_byte 7 3
    ∷ return_zero
    ∷ [])

-- define ptr @w(ptr %p) {
--   call void @free(ptr %p)
--   ret ptr null
-- }
abbrev pub frees_its_argument : Function
frees_its_argument =
    straight_function (codes "w") 1 ptr_type (ptr_type ∷ []) [] 2 (call_free 0 ∷ effect (Ret (Some null_pointer)) ∷ [])

-- @t = global i64 0
abbrev pub task_number_variable : GlobalVar
task_number_variable =
    record { name = codes "t"; ty = i64_type; constant = false; fits = true; init = []; place = nowhere }

-- Two tasks, of which one frees a block and the other one reads it; @t and w are as above:
-- define i32 @main() {
--   %p = call ptr @malloc(i64 16)
--   %c = call i32 @pthread_create(ptr @t, ptr null, ptr @w, ptr %p)
--   %v = load i8, ptr %p
--   %x = zext i8 %v to i32
--   %q = call i32 @putchar(i32 %x)
--   ret i32 0
-- }
abbrev pub races_for_a_block : Module
races_for_a_block =
    example_module (task_number_variable ∷ [])
    (frees_its_argument
    ∷ main_function (ptr_type ∷ i32_type ∷ i8_type ∷ i32_type ∷ i32_type ∷ []) 6
    (call_malloc 0 16
    ∷ defines 1 (CallLib 3 i32_type (start_of_global 0 ∷ null_pointer ∷ ptr_register 0 ∷ []) (Some (record { func = 0; ty = ptr_type; place = nowhere })))
    ∷ load_byte 2 0
    ∷ defines 3 (Cast ZExt (i8_register 2) i32_type)
    ∷ call_putchar 4 3
    ∷ return_zero
    ∷ [])
    ∷ [])
    1
