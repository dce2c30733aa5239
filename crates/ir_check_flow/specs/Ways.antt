-- Where control can go in a function (LLVM Language Reference, "Terminator Instructions"), and paths from its entry block.
use Rattle.std.specs.Prelude.{ℕ, ◌+◌, ◌-◌, List, [], ◌∷◌, map, slice_get, slice_index_or, Option, Some, None}
use Rattle.std.specs.List.{Contains}
use Rattle.ir_core.specs.declared.operands.Case.{Case}
use Rattle.ir_core.specs.declared.operations.Op.{Op}
use Rattle.ir_core.specs.declared.operations.Op.TheVariants as op
use Rattle.ir_core.specs.declared.ir_module.Block.{Block}
use Rattle.ir_core.specs.declared.ir_module.Inst.{Inst}
use Rattle.ir_core.specs.declared.ir_module.Function.{Function}

-- the blocks to which an operation leads
abbrev pub targets_of : Op → List ℕ
targets_of (op.Br block) = block ∷ []
targets_of (op.BrIf cond yes_block no_block) = yes_block ∷ no_block ∷ []
targets_of (op.Switch on other cases) = other ∷ map (λ (case : Case). case.block) cases
targets_of other = []

abbrev pub targets_at : Option Inst → List ℕ
targets_at None = []
targets_at (Some inst) = targets_of inst.op

-- the blocks to which the last instruction of a block leads
abbrev pub block_targets : List Inst → Block → List ℕ
block_targets insts block = targets_at (slice_get insts (block.first + block.count - 1))

-- the same for each block of a function
abbrev pub ways_of : Function → List (List ℕ)
ways_of f = map (block_targets f.insts) f.blocks

-- control can go from one block to another
abbrev pub Leads : (ways : List (List ℕ)) → (from to : ℕ) → Type 0
Leads ways from to = Contains (slice_index_or ways from []) to

-- A path from the entry block to a block: the blocks before it, the last one first. Each is a target of the one before.
pub data IsPath (ways : List (List ℕ)) : (to : ℕ) → (before : List ℕ) → Type 0 where
  entry : IsPath ways 0 []
  onward : (from to : ℕ) (before : List ℕ) → IsPath ways from before → Leads ways from to → IsPath ways to (from ∷ before)
