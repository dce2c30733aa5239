-- What of a module the machine doesn't run yet, and its first place in the text: accesses that may touch more than one granule, what
-- deals with tasks, and library functions on runs of bytes, on strings and on input. The place of an instruction is its first token. This project's choice; the
-- table goes when the machine runs all.
use Rattle.std.specs.Prelude.{ℕ, ◌&&◌, Bool, true, false, nat_le, Option}
use Rattle.ir_core.specs.declared.faults.Fault.TheVariants.{Unsupported}
use Rattle.ir_core.specs.declared.refusals.Refusal.{Refusal}
use Rattle.ir_core.specs.declared.types.IrType.{IrType}
use Rattle.ir_core.specs.declared.lib_functions.Lib.{Lib}
use Rattle.ir_core.specs.declared.lib_functions.Lib.TheVariants as lib
use Rattle.ir_core.specs.declared.operations.Op.{Op}
use Rattle.ir_core.specs.declared.operations.Op.TheVariants as op
use Rattle.ir_core.specs.declared.ir_module.Inst.{Inst}
use Rattle.ir_core.specs.declared.ir_module.Function.{Function}
use Rattle.ir_core.specs.declared.ir_module.Module.{Module}
use Rattle.ir_core.specs.NumberTypes.{access_size, type_of}
use Rattle.ir_check_types.specs.Order.{first_among, unless}
use Rattle.mi_code.specs.TagChecks.{is_one_size, lib_of}

-- ---- rows

-- library functions that the machine runs
abbrev pub is_built_function : Lib → Bool
is_built_function lib.Malloc = true
is_built_function lib.Calloc = true
is_built_function lib.Realloc = true
is_built_function lib.Free = true
is_built_function lib.Putchar = true
is_built_function lib.Exit = true
is_built_function lib.Abort = true
is_built_function lib.LlvmTrap = true
is_built_function lib.LifetimeStart = true
is_built_function lib.LifetimeEnd = true
is_built_function lib.Assume = true
is_built_function (lib.Bits kind width) = true
is_built_function (lib.Overflow kind width) = true
is_built_function other = false

-- an access to a type that one granule holds, since it is aligned to its size
abbrev pub is_one_access : IrType → (align : ℕ) → Bool
is_one_access type align = is_one_size (access_size type) && nat_le (access_size type) align

-- operations that the machine runs
abbrev pub is_built_row : Module → Op → Bool
is_built_row m (op.Load ty at align) = is_one_access (type_of m ty) align
is_built_row m (op.Store value at align) = is_one_access (type_of m value.ty) align
is_built_row m (op.Rmw kind at value align) = false
is_built_row m (op.CmpXchg at expected new align) = false
is_built_row m (op.CallLib declare result args start) = is_built_function (lib_of m declare)
is_built_row m other = true

-- ---- the first that isn't built

abbrev pub unbuilt_instruction : Module → Inst → Option Refusal
unbuilt_instruction m inst = unless (is_built_row m inst.op) Unsupported inst.place

abbrev pub unbuilt_function : Module → Function → Option Refusal
unbuilt_function m f = first_among (unbuilt_instruction m) f.insts

-- the refusal of what comes first in the text and isn't built
abbrev pub unbuilt : Module → Option Refusal
unbuilt m = first_among (unbuilt_function m) m.functions
