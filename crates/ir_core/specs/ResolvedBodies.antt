-- What is true of the functions of a module whose names are resolved: each number in them names a thing that is there,
-- blocks hold the instructions one after the other, and registers have the types of what they hold.
use Rattle.std.specs.Prelude.{◌≡◌, ℕ, ◌+◌, ◌*◌, ◌^◌, ◌<◌, ◌≤◌, ◌⊎◌, min, Bool, true, ◌||◌, ◌==◌, if◌then◌else◌, List, [], ◌∷◌, length, slice_get, slice_index, All, IfSome, IsSome, IsTrue, Option, Some, None}
use Rattle.std.specs.List.{filter_map}
use Rattle.ir_core.specs.declared.types.IrType.{IrType}
use Rattle.ir_core.specs.declared.types.IrType.TheVariants.{Int, Ptr}
use Rattle.ir_core.specs.declared.operands.Operand.{Operand}
use Rattle.ir_core.specs.declared.operands.Operand.TheVariants.{Reg, Int as Literal, Null, Global}
use Rattle.ir_core.specs.declared.operands.Placed.{Placed}
use Rattle.ir_core.specs.declared.operands.PhiEntry.{PhiEntry}
use Rattle.ir_core.specs.declared.operands.Case.{Case}
use Rattle.ir_core.specs.declared.operands.StartArg.{StartArg}
use Rattle.ir_core.specs.declared.operations.Op.{Op}
use Rattle.ir_core.specs.declared.operations.Op.TheVariants as op
use Rattle.ir_core.specs.declared.ir_module.Block.{Block}
use Rattle.ir_core.specs.declared.ir_module.Inst.{Inst}
use Rattle.ir_core.specs.declared.ir_module.Function.{Function}
use Rattle.ir_core.specs.declared.ir_module.Module.{Module}
use Rattle.ir_core.specs.Layout.{alloc_size_of, size_cap}
use Rattle.ir_core.specs.NumberTypes.{type_of, constant_number}
use Rattle.ir_core.specs.Operations.{is_terminator, is_phi, is_value_type, is_number_type, given_type}
use Rattle.ir_core.specs.Resolved.{IsResolvedOutside}

-- ---- operands

abbrev pub IsType : Module → ℕ → Type 0
IsType m ty = ty < length m.types

abbrev pub IsResolvedOperand : Module → Function → Operand → Type 0
IsResolvedOperand m f (Reg r) = r < length f.regs
IsResolvedOperand m f (Literal n) = Unit {0}
IsResolvedOperand m f Null = Unit {0}
IsResolvedOperand m f (Global index off) = index < length m.globals

pub record IsResolvedPlaced (m : Module) (f : Function) (placed : Placed) : Type 0 where
  pub operand : IsResolvedOperand m f placed.operand
  pub type : IsType m placed.ty

-- a block that control can come to: no terminator names the first one
pub record IsTarget (f : Function) (block : ℕ) : Type 0 where
  pub later : 0 < block
  pub there : block < length f.blocks

pub record IsResolvedEntry (m : Module) (f : Function) (entry : PhiEntry) : Type 0 where
  pub value : IsResolvedPlaced m f entry.value
  pub block : entry.block < length f.blocks

pub record IsResolvedCase (m : Module) (f : Function) (case : Case) : Type 0 where
  pub value : IsResolvedPlaced m f case.value
  pub block : IsTarget f case.block

pub record IsResolvedStart (m : Module) (start : StartArg) : Type 0 where
  pub func : start.func < length m.functions
  pub type : IsType m start.ty

-- ---- alignments of accesses, in bytes

abbrev pub is_alignment : ℕ → Bool
is_alignment align = align == 1 || align == 2 || align == 4 || align == 8 || align == 16

-- that of a load or store
abbrev pub HasAlignment : IrType → ℕ → Type 0
HasAlignment type align = IsTrue (is_number_type type) → IsTrue (is_alignment align)

-- the widths of atomic instructions, in bits
abbrev pub is_atomic_width : ℕ → Bool
is_atomic_width width = width == 8 || width == 16 || width == 32 || width == 64

-- that of an atomic instruction: of another width it is 1 at least
abbrev pub HasAtomicAlignment : IrType → ℕ → Type 0
HasAtomicAlignment (Int width) align = (IsTrue (is_atomic_width width) → IsTrue (is_alignment align)) × (1 ≤ align)
HasAtomicAlignment Ptr align = 1 ≤ align
HasAtomicAlignment other align = Unit {0}

-- ---- instructions

-- each number in an instruction names a thing that is there
abbrev pub IsResolvedOp : Module → Function → Op → Type 0
IsResolvedOp m f (op.Binary kind a b) = IsResolvedPlaced m f a × IsResolvedPlaced m f b
IsResolvedOp m f (op.Icmp pred a b) = IsResolvedPlaced m f a × IsResolvedPlaced m f b
IsResolvedOp m f (op.Cast kind a to) = IsResolvedPlaced m f a × IsType m to
IsResolvedOp m f (op.Select cond a b) = IsResolvedPlaced m f cond × IsResolvedPlaced m f a × IsResolvedPlaced m f b
IsResolvedOp m f (op.Freeze a) = IsResolvedPlaced m f a
IsResolvedOp m f (op.Phi ty entries) = IsType m ty × All (IsResolvedEntry m f) entries
IsResolvedOp m f (op.Alloca index ty count) = (index < length f.allocas) × IsType m ty × IfSome count (IsResolvedPlaced m f)
IsResolvedOp m f (op.Load ty at align) = IsType m ty × IsResolvedPlaced m f at × HasAlignment (type_of m ty) align
IsResolvedOp m f (op.Store value at align) =
    IsResolvedPlaced m f value × IsResolvedPlaced m f at × HasAlignment (type_of m value.ty) align
IsResolvedOp m f (op.Gep ty base indices) = IsType m ty × IsResolvedPlaced m f base × All (IsResolvedPlaced m f) indices
IsResolvedOp m f op.Fence = Unit {0}
IsResolvedOp m f (op.Rmw kind at value align) =
    IsResolvedPlaced m f at × IsResolvedPlaced m f value × HasAtomicAlignment (type_of m value.ty) align
IsResolvedOp m f (op.CmpXchg at expected new align) =
    IsResolvedPlaced m f at × IsResolvedPlaced m f expected × IsResolvedPlaced m f new × HasAtomicAlignment (type_of m new.ty) align
IsResolvedOp m f (op.ExtractValue pair part) = IsResolvedPlaced m f pair
IsResolvedOp m f (op.Call func result args) = (func < length m.functions) × IsType m result × All (IsResolvedPlaced m f) args
IsResolvedOp m f (op.CallLib declare result args start) =
    (declare < length m.declares) × IsType m result × All (IsResolvedPlaced m f) args × IfSome start (IsResolvedStart m)
IsResolvedOp m f (op.Br block) = IsTarget f block
IsResolvedOp m f (op.BrIf cond yes_block no_block) = IsResolvedPlaced m f cond × IsTarget f yes_block × IsTarget f no_block
IsResolvedOp m f (op.Switch on other cases) = IsResolvedPlaced m f on × IsTarget f other × All (IsResolvedCase m f) cases
IsResolvedOp m f (op.Ret value) = IfSome value (IsResolvedPlaced m f)
IsResolvedOp m f op.Unreachable = Unit {0}

-- ---- blocks

-- A block begins at an instruction, and its phis are counted. Its last instruction is its only terminator.
pub record IsBlockAt (insts : List Inst) (from : ℕ) (block : Block) : Type 0 where
  pub first : block.first ≡ from
  pub phis : block.phis < block.count
  pub inside : block.first + block.count ≤ length insts
  pub leading : (i : ℕ) (inst : Inst) → block.first ≤ i → i < block.first + block.phis → slice_get insts i ≡ Some inst → is_phi inst.op ≡ true
  pub ends : (i : ℕ) (inst : Inst) → block.first ≤ i → i < block.first + block.count → slice_get insts i ≡ Some inst
      → is_terminator inst.op ≡ (i + 1 == block.first + block.count)

-- blocks hold the instructions from a number on, one block after the other
abbrev pub AreBlocksFrom : List Inst → (from : ℕ) → List Block → Type 0
AreBlocksFrom insts from [] = from ≡ length insts
AreBlocksFrom insts from (block ∷ blocks) = IsBlockAt insts from block × AreBlocksFrom insts (block.first + block.count) blocks

-- ---- registers

-- Parameters are the first registers, and each other one is the result of just one instruction. An instruction that gives a
-- value has a result, and its register has that value's type.
pub record HasRegisters (m : Module) (f : Function) : Type 0 where
  pub few : length f.regs < 2 ^ 30
  pub parameters : f.params ≤ length f.regs
  pub result : (i r : ℕ) (inst : Inst) → slice_get f.insts i ≡ Some inst → inst.result ≡ Some r → (f.params ≤ r) × (r < length f.regs)
  pub each : (r : ℕ) → f.params ≤ r → r < length f.regs → (i : ℕ) × (inst : Inst) × (slice_get f.insts i ≡ Some inst) × (inst.result ≡ Some r)
  pub once : (i j r : ℕ) (inst other : Inst) → slice_get f.insts i ≡ Some inst → slice_get f.insts j ≡ Some other
      → inst.result ≡ Some r → other.result ≡ Some r → i ≡ j
  pub given : (i : ℕ) (inst : Inst) → slice_get f.insts i ≡ Some inst → IsTrue (is_value_type (given_type m inst.op)) → IsSome inst.result
  pub types : (i r : ℕ) (inst : Inst) → slice_get f.insts i ≡ Some inst → inst.result ≡ Some r
      → IsTrue (is_value_type (given_type m inst.op)) → type_of m (slice_index f.regs r) ≡ given_type m inst.op

-- ---- variables

-- how many values a variable has: 1 if no count is spelled, and 0 for a count that doesn't fit its type
abbrev pub value_count : Option Placed → ℕ
value_count None = 1
value_count (Some count) = if count.fits then constant_number count.operand else 0

-- the size of a variable in bytes, at most 2^40 + 1; that of a type without a size is 0
abbrev pub variable_size : Module → ℕ → Option Placed → ℕ
variable_size m ty count = min (value_count count * alloc_size_of m.types m.fields ty) size_cap

-- the number of the variable that an instruction makes, and its size
abbrev pub variable_number : Op → Option ℕ
variable_number (op.Alloca index ty count) = Some index
variable_number other = None

abbrev pub made_size : Module → Op → Option ℕ
made_size m (op.Alloca index ty count) = Some (variable_size m ty count)
made_size m other = None

-- a function has one size for each variable, and variables are numbered in the order of the text
pub record HasVariables (m : Module) (f : Function) : Type 0 where
  pub sizes : f.allocas ≡ filter_map (λ (inst : Inst). made_size m inst.op) f.insts
  pub numbers : (k index : ℕ) → slice_get (filter_map (λ (inst : Inst). variable_number inst.op) f.insts) k ≡ Some index → index ≡ k

-- ---- functions and modules

-- a function whose names are resolved
pub record IsResolvedFunction (m : Module) (f : Function) : Type 0 where
  pub result : IsType m f.result
  pub register_types : All (IsType m) f.regs
  pub registers : HasRegisters m f
  pub variables : HasVariables m f
  pub some_block : 0 < length f.blocks
  pub blocks : AreBlocksFrom f.insts 0 f.blocks
  pub instructions : All (λ inst. IsResolvedOp m f inst.op) f.insts

-- `main` has no parameters, or an `i32` and a pointer, and its result is an `i32`
pub record IsMain (m : Module) (f : Function) : Type 0 where
  pub result : type_of m f.result ≡ Int 32
  pub parameters : (f.params ≡ 0) ⊎ ((f.params ≡ 2) × (type_of m (slice_index f.regs 0) ≡ Int 32) × (type_of m (slice_index f.regs 1) ≡ Ptr))

-- a module whose names are resolved
pub record IsResolved (m : Module) : Type 0 where
  pub outside : IsResolvedOutside m
  pub functions : All (IsResolvedFunction m) m.functions
  pub main_there : m.main < length m.functions
  pub main : (f : Function) → slice_get m.functions m.main ≡ Some f → IsMain m f
