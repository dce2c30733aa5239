-- The instructions that the machine runs today: not those of tasks and of input, with the widths that they can have; and what the code
-- of a run is. This project's choice.
use Rattle.std.specs.Prelude.{◌≡◌, ◌≤◌, ◌<◌, ◌^◌, List, [], ◌∷◌, drop, length, All}
use Rattle.hw_base.specs.ByteSwap.{HasPairs}
use Rattle.hw_base.specs.declared.numbers.TheConstants.{MOST_FRAMES}
use Rattle.ir_arith.specs.Conversion.{IsConversion}
use Rattle.ir_core.specs.Externals.{IsWidth}
use Rattle.ir_core.specs.declared.lib_functions.Lib.{Lib}
use Rattle.ir_core.specs.declared.lib_functions.Lib.TheVariants as lib
use Rattle.mi_code.specs.declared.code_functions.CodeFunction.{CodeFunction}
use Rattle.mi_code.specs.declared.code_functions.Mark.{Mark}
use Rattle.mi_code.specs.declared.code_functions.Mark.TheVariants.{Entry, Added, Source}
use Rattle.mi_code.specs.declared.code_functions.Mi.{Mi}
use Rattle.mi_code.specs.declared.operands.IndexStep.{IndexStep}
use Rattle.mi_code.specs.declared.operands.IndexStep.TheVariants.{Scaled, Offset}
use Rattle.mi_code.specs.declared.operations.MiOp.{MiOp}
use Rattle.ir_tasks.specs.Frames.{Frame}
use Rattle.mi_code.specs.declared.operations.MiOp.TheVariants as machine
use Rattle.ir_machine.specs.CallSteps.{code_at}
use Rattle.ir_machine.specs.Operands.{bits_in}
use Rattle.ir_machine.specs.State.{MachineSetting}

-- library functions on runs of bytes
abbrev pub IsByteFunction : Lib → Type 0
IsByteFunction lib.Memcpy = Unit {0}
IsByteFunction lib.Memmove = Unit {0}
IsByteFunction lib.Memset = Unit {0}
IsByteFunction lib.LlvmMemcpy = Unit {0}
IsByteFunction lib.LlvmMemmove = Unit {0}
IsByteFunction lib.LlvmMemset = Unit {0}
IsByteFunction lib.Memcmp = Unit {0}
IsByteFunction other = ⊥

-- library functions that the machine runs and that have no blocks: those on bytes, on strings and output, and ends of the program
abbrev pub IsTextFunction : Lib → Type 0
IsTextFunction lib.Strlen = Unit {0}
IsTextFunction lib.Puts = Unit {0}
IsTextFunction lib.Putchar = Unit {0}
IsTextFunction lib.Exit = Unit {0}
IsTextFunction lib.Abort = Unit {0}
IsTextFunction lib.LlvmTrap = Unit {0}
IsTextFunction other = IsByteFunction other

-- library functions that the machine runs
abbrev pub IsBuiltFunction : Lib → Type 0
IsBuiltFunction lib.Malloc = Unit {0}
IsBuiltFunction lib.Calloc = Unit {0}
IsBuiltFunction lib.Realloc = Unit {0}
IsBuiltFunction lib.Free = Unit {0}
IsBuiltFunction other = IsTextFunction other

-- an index of an address has a width
abbrev pub IsBuiltStep : IndexStep → Type 0
IsBuiltStep (Scaled value width size) = IsWidth width
IsBuiltStep (Offset off) = Unit {0}

abbrev pub IsBuiltOp : MiOp → Type 0
IsBuiltOp (machine.Alloca to variable) = Unit {0}
IsBuiltOp (machine.One at size access) = 1 ≤ size
IsBuiltOp (machine.Sized at size access) = Unit {0}
IsBuiltOp (machine.Str at) = Unit {0}
IsBuiltOp (machine.FreeCheck at) = Unit {0}
IsBuiltOp (machine.Gep to base indices) = All IsBuiltStep indices
IsBuiltOp (machine.Load width to at) = IsWidth (bits_in width)
IsBuiltOp (machine.Store width value at) = IsWidth (bits_in width)
IsBuiltOp (machine.Binary op width to a b) = IsWidth width
IsBuiltOp (machine.Icmp pred width to a b) = IsWidth (bits_in width)
IsBuiltOp (machine.Cast op from width to a) = IsWidth from × IsWidth width × IsConversion op from width
IsBuiltOp (machine.Bits op width to args) = IsWidth width × HasPairs op width
IsBuiltOp (machine.Overflow op width to a b) = IsWidth width
IsBuiltOp (machine.Select to cond a b) = Unit {0}
IsBuiltOp (machine.Freeze to a) = Unit {0}
IsBuiltOp (machine.Part to pair part) = Unit {0}
IsBuiltOp machine.Nop = Unit {0}
IsBuiltOp (machine.Jump edge) = Unit {0}
IsBuiltOp (machine.Branch cond first second) = Unit {0}
IsBuiltOp (machine.Switch width on other cases) = IsWidth width
IsBuiltOp (machine.Call func to args) = length args < 2 ^ 32
IsBuiltOp (machine.CallLib function to args start) = IsBuiltFunction function
IsBuiltOp (machine.Ret value) = Unit {0}
IsBuiltOp machine.Unreachable = Unit {0}
IsBuiltOp other = ⊥

-- an instruction that ends its step and calls no function
abbrev pub IsOrdinary : MiOp → Type 0
IsOrdinary machine.Leave = ⊥
IsOrdinary (machine.One at size access) = ⊥
IsOrdinary (machine.Sized at size access) = ⊥
IsOrdinary (machine.Str at) = ⊥
IsOrdinary (machine.FreeCheck at) = ⊥
IsOrdinary (machine.Call func to args) = ⊥
IsOrdinary (machine.CallLib function to args start) = ⊥
IsOrdinary op = Unit {0}

-- a check other than that of one granule
abbrev pub IsOtherCheck : MiOp → Type 0
IsOtherCheck (machine.Sized at size access) = Unit {0}
IsOtherCheck (machine.Str at) = Unit {0}
IsOtherCheck (machine.FreeCheck at) = Unit {0}
IsOtherCheck other = ⊥

-- an instruction that is added before one of the source: the end of a frame with variables too
abbrev pub IsBuiltAdded : MiOp → Type 0
IsBuiltAdded machine.Leave = Unit {0}
IsBuiltAdded op = IsBuiltOp op

-- an instruction that the machine runs, or an entry, which is run by what enters its function
abbrev pub IsBuiltAs : Mark → MiOp → Type 0
IsBuiltAs Entry op = op ≡ machine.Enter
IsBuiltAs (Added site) op = IsBuiltAdded op
IsBuiltAs (Source site) op = IsBuiltOp op

abbrev pub IsBuilt : Mi → Type 0
IsBuilt mi = IsBuiltAs mi.mark mi.op

-- ---- returns

abbrev pub IsLeave : MiOp → Type 0
IsLeave machine.Leave = Unit {0}
IsLeave other = ⊥

abbrev pub IsReturn : MiOp → Type 0
IsReturn (machine.Ret value) = Unit {0}
IsReturn other = ⊥

-- the first instruction, if there is one, is a return
abbrev pub BeginsWithReturn : List Mi → Type 0
BeginsWithReturn [] = Unit {0}
BeginsWithReturn (mi ∷ insts) = IsReturn mi.op

-- after each end of a frame with variables comes a return
abbrev pub HasReturns : List Mi → Type 0
HasReturns [] = Unit {0}
HasReturns (mi ∷ insts) = (IsLeave mi.op → BeginsWithReturn insts) × HasReturns insts

-- ---- code

-- the code of a function: the machine runs each instruction
pub record IsBuiltFunctionCode (function : CodeFunction) : Type 0 where
  pub built : All IsBuilt function.insts
  pub returns : HasReturns function.insts

abbrev pub IsBuiltCode : List CodeFunction → Type 0
IsBuiltCode code = All IsBuiltFunctionCode code

-- the setting has this code, and as many frames a task as the program's map says
pub record HasCode (setting : MachineSetting) (functions : List CodeFunction) : Type 0 where
  pub code : setting.code ≡ functions
  pub most_frames : setting.places.most_frames ≡ MOST_FRAMES

-- the instructions that take no memory of the host if the task goes on
abbrev pub IsPlainOp : MiOp → Type 0
IsPlainOp (machine.Binary op width to a b) = Unit {0}
IsPlainOp (machine.Icmp pred width to a b) = Unit {0}
IsPlainOp (machine.Cast op from width to a) = Unit {0}
IsPlainOp (machine.Bits op width to args) = Unit {0}
IsPlainOp (machine.Overflow op width to a b) = Unit {0}
IsPlainOp (machine.Select to cond a b) = Unit {0}
IsPlainOp (machine.Freeze to a) = Unit {0}
IsPlainOp (machine.Part to pair part) = Unit {0}
IsPlainOp machine.Nop = Unit {0}
IsPlainOp (machine.Alloca to variable) = Unit {0}
IsPlainOp (machine.Gep to base indices) = Unit {0}
IsPlainOp (machine.Load width to at) = Unit {0}
IsPlainOp (machine.Store width value at) = Unit {0}
IsPlainOp other = ⊥

-- such an instruction follows, after checks alone
abbrev pub IsPlainAfter : MiOp → Type 0 → Type 0
IsPlainAfter (machine.One at size access) rest = rest
IsPlainAfter (machine.Sized at size access) rest = rest
IsPlainAfter op rest = IsPlainOp op

abbrev pub IsPlainFrom : List Mi → Type 0
IsPlainFrom [] = ⊥
IsPlainFrom (mi ∷ insts) = IsPlainAfter mi.op (IsPlainFrom insts)

-- such an instruction is where a frame is
abbrev pub IsPlainAt : List CodeFunction → Frame → Type 0
IsPlainAt code frame = IsPlainFrom (drop frame.place (code_at code frame.func).insts)
