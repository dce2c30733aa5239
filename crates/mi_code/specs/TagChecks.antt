-- The tag work that is added before a source instruction (Clang's HWASan design document, sections "Memory accesses", "Heap"
-- and "Stack"). Which accesses have the check of one granule and which the sized one follows the LLVM pass; that a free is
-- checked by an instruction of its own, and that a library function's accesses are checked before the call, one by one, is
-- this project's choice.
use Rattle.std.specs.Prelude.{ℕ, ◌==◌, ◌&&◌, ◌||◌, Bool, nat_le, if◌then◌else◌, List, [], ◌∷◌, map, Option, Some, None, slice_get}
use Rattle.hw_base.specs.declared.accesses.Access.{Access}
use Rattle.hw_base.specs.declared.accesses.Access.TheVariants.{Read, Write}
use Rattle.ir_core.specs.declared.lib_functions.Lib.{Lib}
use Rattle.ir_core.specs.declared.lib_functions.Lib.TheVariants as lib
use Rattle.ir_core.specs.declared.operands.Placed.{Placed}
use Rattle.ir_core.specs.declared.operations.Op.{Op}
use Rattle.ir_core.specs.declared.operations.Op.TheVariants as source
use Rattle.ir_core.specs.declared.ir_module.Declare.{Declare}
use Rattle.ir_core.specs.declared.ir_module.Module.{Module}
use Rattle.ir_core.specs.LibraryAccesses.{LibraryAccess, Counted, Fixed, Text, Freed, accesses_of}
use Rattle.ir_core.specs.NumberTypes.{access_size, type_of}
use Rattle.mi_code.specs.declared.operands.MiOperand.{MiOperand}
use Rattle.mi_code.specs.declared.operands.MiOperand.TheVariants.{Num}
use Rattle.mi_code.specs.declared.operations.MiOp.{MiOp}
use Rattle.mi_code.specs.declared.operations.MiOp.TheVariants.{Enter, Leave, One, Sized, Str, FreeCheck}
use Rattle.mi_code.specs.MachineOperands.{operand_of, argument}

-- the sizes of which an access that is aligned to its size lies in one granule
abbrev pub is_one_size : ℕ → Bool
is_one_size n = (n == 1) || ((n == 2) || ((n == 4) || ((n == 8) || (n == 16))))

-- the check of an access to n bytes with a stated alignment
abbrev pub check_of : (n align : ℕ) → MiOperand → Access → MiOp
check_of n align at access = if is_one_size n && nat_le n align then One at n access else Sized at (Num n) access

-- the frame of a function with variables is entered and left
abbrev pub enter_code : List ℕ → List MiOp
enter_code [] = []
enter_code (size ∷ sizes) = Enter ∷ []

abbrev pub leave_code : List ℕ → List MiOp
leave_code [] = []
leave_code (size ∷ sizes) = Leave ∷ []

-- the check of an access of a library function
abbrev pub access_check : List Placed → LibraryAccess → MiOp
access_check args (Counted access pointer count) = Sized (argument args pointer) (argument args count) access
access_check args (Fixed access pointer size) = One (argument args pointer) size access
access_check args (Text pointer) = Str (argument args pointer)
access_check args (Freed pointer) = FreeCheck (argument args pointer)

-- the checks of all its accesses, in order
abbrev pub library_checks : Lib → List Placed → List MiOp
library_checks lib args = map (access_check args) (accesses_of lib)

-- the library function of a declaration; a call that was accepted names one
abbrev pub lib_by : Option Declare → Lib
lib_by None = lib.Assume
lib_by (Some declare) = declare.lib

abbrev pub lib_of : Module → ℕ → Lib
lib_of m declare = lib_by (slice_get m.declares declare)

-- the check of an access to a type
abbrev pub type_check : Module → (ty align : ℕ) → Placed → Access → List MiOp
type_check m ty align at access = check_of (access_size (type_of m ty)) align (operand_of at) access ∷ []

-- what is added before an instruction of a function whose variables have these sizes
abbrev pub added_code : Module → List ℕ → Op → List MiOp
added_code m sizes (source.Binary op a b) = []
added_code m sizes (source.Icmp pred a b) = []
added_code m sizes (source.Cast op a to) = []
added_code m sizes (source.Select cond a b) = []
added_code m sizes (source.Freeze a) = []
added_code m sizes (source.Phi ty entries) = []
added_code m sizes (source.Alloca index ty count) = []
added_code m sizes (source.Load ty at align) = type_check m ty align at Read
added_code m sizes (source.Store value at align) = type_check m value.ty align at Write
added_code m sizes (source.Gep ty base indices) = []
added_code m sizes source.Fence = []
added_code m sizes (source.Rmw op at value align) = type_check m value.ty align at Write
added_code m sizes (source.CmpXchg at expected new align) = type_check m new.ty align at Write
added_code m sizes (source.ExtractValue pair part) = []
added_code m sizes (source.Call func result args) = []
added_code m sizes (source.CallLib declare result args start) = library_checks (lib_of m declare) args
added_code m sizes (source.Br block) = []
added_code m sizes (source.BrIf cond first second) = []
added_code m sizes (source.Switch on other cases) = []
added_code m sizes (source.Ret value) = leave_code sizes
added_code m sizes source.Unreachable = []
