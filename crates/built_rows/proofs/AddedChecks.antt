-- The tag work of what the machine runs: checks of one granule and of frees, and the ends of frames with variables, before returns
-- alone.
use Rattle.std.proofs.Common.{◌≡◌, ℕ, zero, suc, ◌≤◌, true, List, [], ◌∷◌, get_or, refl, arith}
use Rattle.std.specs.Prelude.{Bool, false, ◌&&◌, if◌then◌else◌, nat_le}
use Rattle.std.specs.List.{All}
use Rattle.std.proofs.lemmas.List.Elements.{All-nil, All-cons}
use Rattle.hw_base.specs.declared.accesses.Access.{Access}
use Rattle.hw_base.specs.declared.accesses.Access.TheVariants.{Read, Write}
use Rattle.ir_core.specs.declared.lib_functions.Lib.{Lib}
use Rattle.ir_core.specs.declared.lib_functions.Lib.TheVariants as lib
use Rattle.ir_core.specs.declared.operands.Placed.{Placed}
use Rattle.ir_core.specs.declared.operations.Op.{Op}
use Rattle.ir_core.specs.declared.operations.Op.TheVariants as op
use Rattle.ir_core.specs.declared.ir_module.Module.{Module}
use Rattle.ir_core.specs.NumberTypes.{access_size, type_of}
use Rattle.ir_check_types.proofs.PassedRules.{both}
use Rattle.ir_machine.specs.Built.{IsBuiltAdded, IsBuiltOp}
use Rattle.mi_code.specs.declared.operations.MiOp.{MiOp}
use Rattle.mi_code.specs.declared.operations.MiOp.TheVariants.{Leave, One, Sized}
use Rattle.mi_code.specs.declared.operands.MiOperand.{MiOperand}
use Rattle.mi_code.specs.declared.operands.MiOperand.TheVariants.{Num}
use Rattle.mi_code.specs.MachineOperands.{operand_of}
use Rattle.mi_code.specs.TagChecks.{check_of, is_one_size, leave_code, library_checks, lib_of, added_code, type_check}
use Rattle.built_rows.specs.Unbuilt.{is_built_function, is_built_row, is_one_access}

library-checked : (function : Lib) (args : List Placed) → is_built_function function ≡ true → All IsBuiltOp (library_checks function args)
library-checked lib.Malloc args built = All-nil IsBuiltOp
library-checked lib.Calloc args built = All-nil IsBuiltOp
library-checked lib.Realloc args built = All-cons IsBuiltOp _ [] tt (All-nil IsBuiltOp)
library-checked lib.Free args built = All-cons IsBuiltOp _ [] tt (All-nil IsBuiltOp)
library-checked lib.Putchar args built = All-nil IsBuiltOp
library-checked lib.Exit args built = All-nil IsBuiltOp
library-checked lib.Abort args built = All-nil IsBuiltOp
library-checked lib.LlvmTrap args built = All-nil IsBuiltOp
library-checked lib.LifetimeStart args built = All-nil IsBuiltOp
library-checked lib.LifetimeEnd args built = All-nil IsBuiltOp
library-checked lib.Assume args built = All-nil IsBuiltOp
library-checked (lib.Bits kind width) args built = All-nil IsBuiltOp
library-checked (lib.Overflow kind width) args built = All-nil IsBuiltOp
library-checked other args built = absurd cc

some-bytes : (n : ℕ) → is_one_size n ≡ true → 1 ≤ n
some-bytes zero one = absurd cc
some-bytes (suc n) one = omega arith

checked : (one : Bool) (n : ℕ) (at : MiOperand) (access : Access) → one ≡ true → 1 ≤ n → IsBuiltOp (if one then One at n access else Sized at (Num n) access)
checked true n at access is some = some
checked false n at access is some = absurd cc

access-checked : (m : Module) (ty align : ℕ) (at : Placed) (access : Access) → is_one_access (type_of m ty) align ≡ true → All IsBuiltOp (type_check m ty align at access)
access-checked m ty align at access one =
    let n = access_size (type_of m ty) in
    let size = (both (is_one_size n) (nat_le n align) one).0 in
    All-cons IsBuiltOp (check_of n align (operand_of at) access) [] (checked (is_one_size n && nat_le n align) n (operand_of at) access one (some-bytes n size)) (All-nil IsBuiltOp)

abbrev pub is_return : Op → Bool
is_return (op.Ret value) = true
is_return other = false

-- what is added before an instruction that is no return
pub checks-built : (m : Module) (sizes : List ℕ) (o : Op) → is_return o ≡ false → is_built_row m o ≡ true → All IsBuiltOp (added_code m sizes o)
checks-built m sizes (op.Load ty at align) other built = access-checked m ty align at Read built
checks-built m sizes (op.Store value at align) other built = access-checked m value.ty align at Write built
checks-built m sizes (op.Rmw kind at value align) other built = absurd cc
checks-built m sizes (op.CmpXchg at expected new align) other built = absurd cc
checks-built m sizes (op.CallLib declare result args start) other built = library-checked (lib_of m declare) args built
checks-built m sizes (op.Ret value) other built = absurd cc
checks-built m sizes o other built = All-nil IsBuiltOp

pub built-added : (o : MiOp) → IsBuiltOp o → IsBuiltAdded o
built-added Leave built = absurd built
built-added o built = built

all-added : (ops : List MiOp) → All IsBuiltOp ops → All IsBuiltAdded ops
all-added ops built k d within = built-added (get_or ops k d) (built k d within)

leave-built : (sizes : List ℕ) → All IsBuiltAdded (leave_code sizes)
leave-built [] = All-nil IsBuiltAdded
leave-built (size ∷ sizes) = All-cons IsBuiltAdded Leave [] tt (All-nil IsBuiltAdded)

-- what is added before any instruction
pub added-built : (m : Module) (sizes : List ℕ) (o : Op) → is_built_row m o ≡ true → All IsBuiltAdded (added_code m sizes o)
added-built m sizes (op.Ret value) built = leave-built sizes
added-built m sizes o built = all-added (added_code m sizes o) (checks-built m sizes o refl built)
