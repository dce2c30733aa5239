-- Uses of registers (LLVM Language Reference, "Well-Formedness", "'phi' Instruction"): a register is defined on every path from
-- the entry block to its use, and for an entry of a phi on every path to the end of the entry's block.
use Rattle.std.specs.Prelude.{◌≡◌, ℕ, ◌+◌, ◌<◌, ◌≤◌, List, [], ◌∷◌, slice_get, Some}
use Rattle.std.specs.Option.{option_to_list}
use Rattle.ir_core.specs.declared.faults.Fault.TheVariants.{NotOnEveryPath}
use Rattle.ir_core.specs.declared.operands.Operand.TheVariants.{Reg}
use Rattle.ir_core.specs.declared.operands.Placed.{Placed}
use Rattle.ir_core.specs.declared.operands.PhiEntry.{PhiEntry}
use Rattle.ir_core.specs.declared.operations.Op.{Op}
use Rattle.ir_core.specs.declared.operations.Op.TheVariants as op
use Rattle.ir_core.specs.declared.refusals.Refusal.{Refusal}
use Rattle.ir_core.specs.declared.ir_module.Block.{Block}
use Rattle.ir_core.specs.declared.ir_module.Inst.{Inst}
use Rattle.ir_core.specs.declared.ir_module.Function.{Function}
use Rattle.ir_check_types.specs.Order.{refusal_at}
use Rattle.ir_check_flow.specs.Ways.{ways_of, IsPath}

-- the operands that an operation reads where it is. Those of a phi are read in the blocks of its entries, and the values of
-- cases are numbers.
abbrev pub operands_of : Op → List Placed
operands_of (op.Binary kind a b) = a ∷ b ∷ []
operands_of (op.Icmp pred a b) = a ∷ b ∷ []
operands_of (op.Cast kind a to) = a ∷ []
operands_of (op.Select cond a b) = cond ∷ a ∷ b ∷ []
operands_of (op.Freeze a) = a ∷ []
operands_of (op.Phi ty entries) = []
operands_of (op.Alloca index ty count) = option_to_list count
operands_of (op.Load ty at align) = at ∷ []
operands_of (op.Store value at align) = value ∷ at ∷ []
operands_of (op.Gep ty base indices) = base ∷ indices
operands_of op.Fence = []
operands_of (op.Rmw kind at value align) = at ∷ value ∷ []
operands_of (op.CmpXchg at expected new align) = at ∷ expected ∷ new ∷ []
operands_of (op.ExtractValue pair part) = pair ∷ []
operands_of (op.Call func result args) = args
operands_of (op.CallLib declare result args start) = args
operands_of (op.Br block) = []
operands_of (op.BrIf cond yes_block no_block) = cond ∷ []
operands_of (op.Switch on other cases) = on ∷ []
operands_of (op.Ret value) = option_to_list value
operands_of op.Unreachable = []

-- the entries of a phi
abbrev pub entries_of : Op → List PhiEntry
entries_of (op.Phi ty entries) = entries
entries_of other = []

-- instruction i is in block b
pub record IsIn (f : Function) (b i : ℕ) (block : Block) (inst : Inst) : Type 0 where
  pub at : slice_get f.blocks b ≡ Some block
  pub from : block.first ≤ i
  pub to : i < block.first + block.count
  pub there : slice_get f.insts i ≡ Some inst

-- the block defines the register
pub record Defines (f : Function) (register b : ℕ) : Type 0 where
  pub block : Block
  pub place : ℕ
  pub inst : Inst
  pub inside : IsIn f b place block inst
  pub gives : inst.result ≡ Some register

abbrev pub NoneDefines : Function → (register : ℕ) → List ℕ → Type 0
NoneDefines f register [] = Unit {0}
NoneDefines f register (b ∷ blocks) = (Defines f register b → ⊥) × NoneDefines f register blocks

-- some path leads to the block, and no block on it before defines the register
pub record IsUndefinedAt (f : Function) (register b : ℕ) : Type 0 where
  pub before : List ℕ
  pub path : IsPath (ways_of f) b before
  pub none : NoneDefines f register before

-- no instruction before this one in its block defines the register
abbrev pub IsNotBefore : Function → (register : ℕ) → Block → (i : ℕ) → Type 0
IsNotBefore f register block i = (j : ℕ) (other : Inst) → block.first ≤ j → j < i → slice_get f.insts j ≡ Some other → other.result ≡ Some register → ⊥

-- the refusals for uses in a function that some path comes to without a definition
pub data IsUndefinedUse (f : Function) : Refusal → Type 0 where
  use_in_block : (b i n : ℕ) (block : Block) (inst : Inst) (placed : Placed) (register : ℕ) → IsIn f b i block inst
      → slice_get (operands_of inst.op) n ≡ Some placed → placed.operand ≡ Reg register → f.params ≤ register → IsNotBefore f register block i
      → IsUndefinedAt f register b → IsUndefinedUse f (refusal_at NotOnEveryPath placed.place)
  use_in_phi : (b i n : ℕ) (block : Block) (inst : Inst) (entry : PhiEntry) (register : ℕ) → IsIn f b i block inst
      → slice_get (entries_of inst.op) n ≡ Some entry → entry.value.operand ≡ Reg register → f.params ≤ register → (Defines f register entry.block → ⊥)
      → IsUndefinedAt f register entry.block → IsUndefinedUse f (refusal_at NotOnEveryPath entry.value.place)
