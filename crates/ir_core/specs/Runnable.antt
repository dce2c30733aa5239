-- What a run needs of a module: all that its names being resolved gives, and of the rules of types, flow and limits what
-- the steps of instructions rely on. Modules that are accepted have it.
use Rattle.std.specs.Prelude.{◌≡◌, ℕ, ◌+◌, ◌<◌, ◌≤◌, false, List, length, slice_get, slice_index, sum_by, All, IsTrue, Option, Some, None}
use Rattle.hw_base.specs.AddressMap.{rounded_size}
use Rattle.hw_base.specs.declared.numbers.TheConstants.{MOST_GLOBALS, MOST_SIZE}
use Rattle.ir_core.specs.declared.types.IrType.{IrType}
use Rattle.ir_core.specs.declared.types.IrType.TheVariants.{Int, Ptr}
use Rattle.ir_core.specs.declared.lib_functions.Lib.{Lib}
use Rattle.ir_core.specs.declared.lib_functions.Lib.TheVariants.{PthreadCreate}
use Rattle.ir_core.specs.declared.operands.StartArg.{StartArg}
use Rattle.ir_core.specs.declared.operations.Op.{Op}
use Rattle.ir_core.specs.declared.operations.Op.TheVariants as op
use Rattle.ir_core.specs.declared.ir_module.Block.{Block}
use Rattle.ir_core.specs.declared.ir_module.Declare.{Declare}
use Rattle.ir_core.specs.declared.ir_module.Inst.{Inst}
use Rattle.ir_core.specs.declared.ir_module.Function.{Function}
use Rattle.ir_core.specs.declared.ir_module.GlobalVar.{GlobalVar}
use Rattle.ir_core.specs.declared.ir_module.Module.{Module}
use Rattle.ir_core.specs.Layout.{has_size_of, alloc_size_of}
use Rattle.ir_core.specs.NumberTypes.{type_of, alloc_size}
use Rattle.ir_core.specs.Operations.{is_phi, is_number_type}
use Rattle.ir_core.specs.Resolved.{IsFitting}
use Rattle.ir_core.specs.ResolvedBodies.{IsResolved, is_alignment, is_atomic_width}

-- ---- accesses

-- a load or store is of an integer or a pointer, at an alignment that is a power of two up to 16
pub record IsAccess (type : IrType) (align : ℕ) : Type 0 where
  pub number : IsTrue (is_number_type type)
  pub alignment : IsTrue (is_alignment align)

-- an atomic instruction is of an integer of 8, 16, 32 or 64 bits
abbrev pub IsAtomic : IrType → ℕ → Type 0
IsAtomic (Int width) align = IsTrue (is_atomic_width width) × IsTrue (is_alignment align)
IsAtomic other align = ⊥

-- ---- calls

-- a call has as many arguments as the function has parameters
abbrev pub HasArguments : Module → (func count : ℕ) → Type 0
HasArguments m func count = (f : Function) → slice_get m.functions func ≡ Some f → count ≡ f.params

-- a function that a task can start with: it takes a pointer and returns one
pub record IsStartFunction (m : Module) (f : Function) : Type 0 where
  pub result : type_of m f.result ≡ Ptr
  pub one_parameter : f.params ≡ 1
  pub parameter : type_of m (slice_index f.regs 0) ≡ Ptr

-- a call of `pthread_create` names such a function
abbrev pub StartsTask : Module → Option StartArg → Type 0
StartsTask m None = ⊥
StartsTask m (Some start) = (f : Function) → slice_get m.functions start.func ≡ Some f → IsStartFunction m f

abbrev pub StartsAsItIs : Module → Lib → Option StartArg → Type 0
StartsAsItIs m PthreadCreate start = StartsTask m start
StartsAsItIs m other start = Unit {0}

-- ---- instructions, functions, modules

abbrev pub IsRunnableOp : Module → Op → Type 0
IsRunnableOp m (op.Load ty at align) = IsAccess (type_of m ty) align
IsRunnableOp m (op.Store value at align) = IsAccess (type_of m value.ty) align
IsRunnableOp m (op.Rmw kind at value align) = IsAtomic (type_of m value.ty) align
IsRunnableOp m (op.CmpXchg at expected new align) = IsAtomic (type_of m new.ty) align
IsRunnableOp m (op.Call func result args) = HasArguments m func (length args)
IsRunnableOp m (op.CallLib declare result args start) = (d : Declare) → slice_get m.declares declare ≡ Some d → StartsAsItIs m d.lib start
IsRunnableOp m other = Unit {0}

-- the phis of a block come first
abbrev pub HasPhisFirst : List Inst → Block → Type 0
HasPhisFirst insts block =
    (i : ℕ) (inst : Inst) → block.first + block.phis ≤ i → i < block.first + block.count → slice_get insts i ≡ Some inst
    → is_phi inst.op ≡ false

pub record IsRunnableFunction (m : Module) (f : Function) : Type 0 where
  pub variables : All (λ size. size ≤ MOST_SIZE) f.allocas
  pub phis_first : All (HasPhisFirst f.insts) f.blocks
  pub instructions : All (λ inst. IsRunnableOp m inst.op) f.insts

-- the first value of a global breaks no rule, and its type has a size
pub record IsRunnableGlobal (m : Module) (g : GlobalVar) : Type 0 where
  pub fits : IsTrue g.fits
  pub size : IsFitting m g.ty

-- all that a run needs of a module
pub record IsRunnable (m : Module) : Type 0 where
  pub resolved : IsResolved m
  pub sizes : (n : ℕ) → n < length m.types → IsTrue (has_size_of m.types m.fields n) → alloc_size_of m.types m.fields n ≤ MOST_SIZE
  pub globals : All (IsRunnableGlobal m) m.globals
  pub room : sum_by (λ (g : GlobalVar). rounded_size (alloc_size m g.ty)) m.globals ≤ MOST_GLOBALS
  pub functions : All (IsRunnableFunction m) m.functions
