-- The instructions that are added before a source instruction go forward, or end the run.
use Rattle.std.proofs.Common.{◌≡◌, ℕ, ◌+◌, Bool, true, false, List, [], ◌∷◌, map, Option, Some, None, refl}
use Rattle.std.specs.Prelude.{◌&&◌, nat_le, if◌then◌else◌, Result, Ok, Err}
use Rattle.hw_base.specs.declared.accesses.Access.{Access}
use Rattle.hw_base.specs.declared.accesses.Access.TheVariants.{Read, Write}
use Rattle.hw_base.specs.declared.endings.Input.{Input}
use Rattle.hw_base.specs.declared.pointers.Site.{Site}
use Rattle.hw_shadow.specs.declared.mismatch.Mismatch.{Mismatch}
use Rattle.tag_alloc.specs.declared.blocks.FreeMismatch.{FreeMismatch}
use Rattle.tag_alloc.specs.HeapBlocks.{free_mismatch}
use Rattle.tbi_memory.specs.AddressSpace.{check}
use Rattle.ir_core.specs.declared.operands.Placed.{Placed}
use Rattle.ir_core.specs.declared.operations.Op.{Op}
use Rattle.ir_core.specs.declared.operations.Op.TheVariants as source
use Rattle.ir_core.specs.declared.ir_module.Module.{Module}
use Rattle.ir_core.specs.LibraryAccesses.{LibraryAccess, Counted, Fixed, Text, Freed, accesses_of}
use Rattle.ir_core.specs.NumberTypes.{access_size, type_of}
use Rattle.ir_lib.specs.Strings.{checked_string}
use Rattle.ir_lib.specs.declared.string_fault.StringFault.{StringFault}
use Rattle.mi_code.specs.declared.operands.MiOperand.{MiOperand}
use Rattle.mi_code.specs.declared.operands.MiOperand.TheVariants.{Num}
use Rattle.mi_code.specs.declared.operations.MiOp.{MiOp}
use Rattle.mi_code.specs.declared.operations.MiOp.TheVariants.{Leave, One, Sized, Str, FreeCheck}
use Rattle.mi_code.specs.MachineOperands.{operand_of}
use Rattle.mi_code.specs.TagChecks.{is_one_size, leave_code, access_check, lib_of, type_check, added_code}
use Rattle.ir_machine.specs.State.{MachineSetting, MachineSeen, MachineOutcome}
use Rattle.ir_machine.specs.Operands.{integer_in, pointer_in}
use Rattle.ir_machine.specs.CallSteps.{leave_step}
use Rattle.ir_machine.specs.CheckSteps.{one_check, on_check, on_checked, on_free, one_step, sized_step, str_step, free_check_step}
use Rattle.ir_machine.specs.InstructionStep.{operation_step}
use Rattle.ir_machine.specs.StepEnds.{advanced}
use Rattle.ir_machine.proofs.KeptPlaces.{KeepsPlaces}

-- ---- what is added

abbrev pub IsAddedWork : MiOp → Type 0
IsAddedWork Leave = Unit {0}
IsAddedWork (One at size access) = Unit {0}
IsAddedWork (Sized at size access) = Unit {0}
IsAddedWork (Str at) = Unit {0}
IsAddedWork (FreeCheck at) = Unit {0}
IsAddedWork other = ⊥

abbrev pub AreAddedWork : List MiOp → Type 0
AreAddedWork [] = Unit {0}
AreAddedWork (op ∷ ops) = IsAddedWork op × AreAddedWork ops

check-added : (t : Bool) (n : ℕ) (at : MiOperand) (access : Access) → AreAddedWork ((if t then One at n access else Sized at (Num n) access) ∷ [])
check-added true n at access = (tt, tt)
check-added false n at access = (tt, tt)

type-added : (m : Module) (ty align : ℕ) (at : Placed) (access : Access) → AreAddedWork (type_check m ty align at access)
type-added m ty align at access = let n = access_size (type_of m ty) in check-added (is_one_size n && nat_le n align) n (operand_of at) access

library-added : (args : List Placed) (accesses : List LibraryAccess) → AreAddedWork (map (access_check args) accesses)
library-added args [] = tt
library-added args (Counted access pointer count ∷ accesses) = (tt, library-added args accesses)
library-added args (Fixed access pointer size ∷ accesses) = (tt, library-added args accesses)
library-added args (Text pointer ∷ accesses) = (tt, library-added args accesses)
library-added args (Freed pointer ∷ accesses) = (tt, library-added args accesses)

leave-added : (sizes : List ℕ) → AreAddedWork (leave_code sizes)
leave-added [] = tt
leave-added (size ∷ sizes) = (tt, tt)

pub code-added : (m : Module) (sizes : List ℕ) (op : Op) → AreAddedWork (added_code m sizes op)
code-added m sizes (source.Binary op a b) = tt
code-added m sizes (source.Icmp pred a b) = tt
code-added m sizes (source.Cast op a to) = tt
code-added m sizes (source.Select cond a b) = tt
code-added m sizes (source.Freeze a) = tt
code-added m sizes (source.Phi ty entries) = tt
code-added m sizes (source.Alloca index ty count) = tt
code-added m sizes (source.Load ty at align) = type-added m ty align at Read
code-added m sizes (source.Store value at align) = type-added m value.ty align at Write
code-added m sizes (source.Gep ty base indices) = tt
code-added m sizes source.Fence = tt
code-added m sizes (source.Rmw op at value align) = type-added m value.ty align at Write
code-added m sizes (source.CmpXchg at expected new align) = type-added m new.ty align at Write
code-added m sizes (source.ExtractValue pair part) = tt
code-added m sizes (source.Call func result args) = tt
code-added m sizes (source.CallLib declare result args start) = library-added args (accesses_of (lib_of m declare))
code-added m sizes (source.Br block) = tt
code-added m sizes (source.BrIf cond first second) = tt
code-added m sizes (source.Switch on other cases) = tt
code-added m sizes (source.Ret value) = leave-added sizes
code-added m sizes source.Unreachable = tt

-- ---- what it does

module _ (m : Module) (task : ℕ) where
  -- a step goes on from a state with the frame at the next place
  abbrev pub GoesForward : MachineSeen → (MachineSeen → MachineOutcome) → Type 0
  GoesForward s next =
      (s' : MachineSeen) → s'.frame.func ≡ s.frame.func → s'.frame.place ≡ s.frame.place + 1 → s'.callers ≡ s.callers → s'.task ≡ s.task
      → KeepsPlaces m task (next s')

  check-kept : (s : MachineSeen) (site : Site) (access : Access) (size number : ℕ) (next : MachineSeen → MachineOutcome) (o : Option Mismatch) → GoesForward s next → KeepsPlaces m task (on_check s site access size number next o)
  check-kept s site access size number next None h = h (advanced s) refl refl refl refl
  check-kept s site access size number next (Some found) h = tt

  checked-kept : (s : MachineSeen) (site : Site) (next : MachineSeen → MachineOutcome) (r : Result (List ℕ) StringFault) → GoesForward s next → KeepsPlaces m task (on_checked s site next r)
  checked-kept s site next (Ok bytes) h = h (advanced s) refl refl refl refl
  checked-kept s site next (Err fault) h = tt

  free_check-kept : (s : MachineSeen) (site : Site) (number : ℕ) (next : MachineSeen → MachineOutcome) (o : Option FreeMismatch) → GoesForward s next → KeepsPlaces m task (on_free s site number (next (advanced s)) o)
  free_check-kept s site number next None h = h (advanced s) refl refl refl refl
  free_check-kept s site number next (Some found) h = tt

  pub added-kept : (setting : MachineSetting) (given : Input) (site : Site) (next : MachineSeen → MachineOutcome) (s : MachineSeen) (op : MiOp) → IsAddedWork op → GoesForward s next → KeepsPlaces m task (operation_step setting given site next s op)
  unfolding leave_step one_step sized_step str_step free_check_step
  added-kept setting given site next s Leave work h = h _ refl refl refl refl
  added-kept setting given site next s (One at size access) work h =
      check-kept s site access size (pointer_in s at) next (one_check s.shared.memory (pointer_in s at) size) h
  added-kept setting given site next s (Sized at size access) work h =
      check-kept s site access (integer_in s 64 size) (pointer_in s at) next (check s.shared.memory (pointer_in s at) (integer_in s 64 size)) h
  added-kept setting given site next s (Str at) work h = checked-kept s site next (checked_string s.shared.memory (pointer_in s at)) h
  added-kept setting given site next s (FreeCheck at) work h = free_check-kept s site (pointer_in s at) next (free_mismatch s.shared.heap (pointer_in s at)) h
  added-kept setting given site next s other work h = absurd work
