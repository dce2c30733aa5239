-- The basic blocks of a function, whose instructions are numbered in the order of the text, and the values of phis on
-- edges (LLVM Language Reference, "Functions" and "'phi' Instruction").
use Rattle.std.specs.Prelude.{ℕ, suc, ◌+◌, nat_lt, ◌==◌, if◌then◌else◌, List, [], ◌∷◌, take, drop, Option, Some, None}
use Rattle.ir_core.specs.declared.ir_module.Block.{Block}
use Rattle.ir_core.specs.declared.ir_module.Inst.{Inst}
use Rattle.ir_core.specs.declared.operands.PhiEntry.{PhiEntry}
use Rattle.ir_core.specs.declared.operands.Placed.{Placed}
use Rattle.ir_core.specs.declared.operations.Op.{Op}
use Rattle.ir_core.specs.declared.operations.Op.TheVariants.{Phi}

-- the number of the block that holds instruction number i: the blocks follow one another
unfoldable pub block_holding : List Block → ℕ → ℕ
block_holding [] i = 0
block_holding (block ∷ blocks) i = if nat_lt i (block.first + block.count) then 0 else suc (block_holding blocks i)

-- the phis of a block, which come first in it
abbrev pub phis_of : List Inst → Block → List Inst
phis_of insts block = take block.phis (drop block.first insts)

-- the number of a block's first instruction after its phis
abbrev pub start_of : Block → ℕ
start_of block = block.first + block.phis

-- the operand that a phi takes when control comes from a block: that of the first entry for it, or none
unfoldable pub entry_from : (from : ℕ) → List PhiEntry → Option Placed
entry_from from [] = None
entry_from from (entry ∷ entries) = if entry.block == from then Some entry.value else entry_from from entries

-- the same for an instruction; only a phi takes any
abbrev pub phi_entry : (from : ℕ) → Op → Option Placed
phi_entry from (Phi ty entries) = entry_from from entries
phi_entry from other = None
