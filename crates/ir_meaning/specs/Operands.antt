-- The values of operands (LLVM Language Reference, "Constants"). A step goes on from a value of the kind that it asks for,
-- and is stuck at any other. An integer is taken modulo 2 ^ width and a pointer's offset modulo 2 ^ 64.
use Rattle.std.specs.Prelude.{ℕ, ◌%◌, ◌^◌, List, [], ◌∷◌, map, slice_get, Option, Some, None, option_map, option_and_then}
use Rattle.std.specs.Option.{option_flatten}
use Rattle.hw_base.specs.declared.pointers.Base.{Base}
use Rattle.hw_base.specs.declared.pointers.Base.TheVariants.{Null as NullBase, Object}
use Rattle.hw_tags.specs.TaskRuns.{Stuck}
use Rattle.ir_core.specs.declared.types.IrType.{IrType}
use Rattle.ir_core.specs.declared.types.IrType.TheVariants.{Void, Int, Ptr, Array, Struct, Opaque, Pair}
use Rattle.ir_core.specs.declared.operands.Operand.{Operand}
use Rattle.ir_core.specs.declared.operands.Operand.TheVariants.{Reg, Int as Literal, Null, Global}
use Rattle.ir_core.specs.declared.operands.Placed.{Placed}
use Rattle.ir_core.specs.declared.ir_module.Module.{Module}
use Rattle.ir_core.specs.NumberTypes.{type_of}
use Rattle.ir_meaning.specs.Values.{Value, Integer, Address, IntegerAndBit}
use Rattle.ir_meaning.specs.State.{SourceOutcome}

-- ---- the value of an operand

-- a value of the kind that a type has, or none
abbrev pub of_kind : IrType → Value → Option Value
of_kind (Int width) (Integer n) = Some (Integer n)
of_kind Ptr (Address base off) = Some (Address base off)
of_kind (Pair width) (IntegerAndBit n bit) = Some (IntegerAndBit n bit)
of_kind type value = None

-- a number as a value of a type: a pointer based on null, and a pair whose bit is 0
abbrev pub constant_value : IrType → ℕ → Option Value
constant_value Void n = None
constant_value (Int width) n = Some (Integer n)
constant_value Ptr n = Some (Address NullBase n)
constant_value (Array count item) n = None
constant_value (Struct first count packed) n = None
constant_value Opaque n = None
constant_value (Pair width) n = Some (IntegerAndBit n 0)

-- the pointer that is so many bytes after the start of a global variable. All globals are the first birth
abbrev pub global_pointer : (index off : ℕ) → Value
global_pointer index off = Address (Object (record { birth = 0; index = index })) off

-- the value of an operand of a type, or none for a register that wasn't set or holds a value of another kind
abbrev pub value_by : IrType → List (Option Value) → Operand → Option Value
value_by type registers (Reg r) = option_and_then (of_kind type) (option_flatten (slice_get registers r))
value_by type registers (Literal n) = constant_value type n
value_by type registers Null = constant_value type 0
value_by type registers (Global index off) = of_kind type (global_pointer index off)

abbrev pub operand_value : Module → List (Option Value) → Placed → Option Value
operand_value program registers placed = value_by (type_of program placed.ty) registers placed.operand

abbrev pub operand_values : Module → List (Option Value) → List Placed → List (Option Value)
operand_values program registers operands = map (operand_value program registers) operands

-- the value of an operand that an instruction may lack: none inside if it isn't there
abbrev pub optional_value : Module → List (Option Value) → Option Placed → Option (Option Value)
optional_value program registers None = Some None
optional_value program registers (Some placed) = option_map (λ value. Some value) (operand_value program registers placed)

-- an argument by its place, counted from 0
abbrev pub argument : List (Option Value) → ℕ → Option Value
argument values k = option_flatten (slice_get values k)

-- a number or a pointer: a pair is an operand of `extractvalue` alone
abbrev pub single : Value → Option Value
single (Integer n) = Some (Integer n)
single (Address base off) = Some (Address base off)
single (IntegerAndBit n bit) = None

-- numbers and pointers that are all there
abbrev pub single_before : Option Value → Option (List Value) → Option (List Value)
single_before (Some value) (Some values) = Some (value ∷ values)
single_before value values = None

unfoldable pub all_single : List (Option Value) → Option (List Value)
all_single [] = Some []
all_single (value ∷ values) = single_before (option_and_then single value) (all_single values)

-- ---- on from operands

-- on from what a number names
unfoldable pub with_named : {X : Type 0} → Option X → (X → SourceOutcome) → SourceOutcome
with_named None go = Stuck
with_named (Some x) go = go x

-- on from a number or a pointer
abbrev pub with_value : Option Value → (Value → SourceOutcome) → SourceOutcome
with_value value go = with_named (option_and_then single value) go

unfoldable pub with_integer : (width : ℕ) → Option Value → (ℕ → SourceOutcome) → SourceOutcome
with_integer width None go = Stuck
with_integer width (Some (Integer n)) go = go (n % 2 ^ width)
with_integer width (Some (Address base off)) go = Stuck
with_integer width (Some (IntegerAndBit n bit)) go = Stuck

unfoldable pub with_pointer : Option Value → (Base → ℕ → SourceOutcome) → SourceOutcome
with_pointer None go = Stuck
with_pointer (Some (Integer n)) go = Stuck
with_pointer (Some (Address base off)) go = go base (off % 2 ^ 64)
with_pointer (Some (IntegerAndBit n bit)) go = Stuck

unfoldable pub with_pair : Option Value → (ℕ → ℕ → SourceOutcome) → SourceOutcome
with_pair None go = Stuck
with_pair (Some (Integer n)) go = Stuck
with_pair (Some (Address base off)) go = Stuck
with_pair (Some (IntegerAndBit n bit)) go = go n bit
