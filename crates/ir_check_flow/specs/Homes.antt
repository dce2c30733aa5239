-- In which block of a function, and by which of its instructions, each register is defined.
use Rattle.std.specs.Prelude.{ℕ, ◌+◌, List, [], ◌∷◌, take, drop, length, replicate, slice_set, slice_index_or, Option, None, Some}
use Rattle.ir_core.specs.declared.ir_module.Block.{Block}
use Rattle.ir_core.specs.declared.ir_module.Inst.{Inst}
use Rattle.ir_core.specs.declared.ir_module.Function.{Function}
use Rattle.ir_check_flow.specs.declared.home.Home.{Home}

-- the instructions of a block
abbrev pub block_insts : List Inst → Block → List Inst
block_insts insts block = take block.count (drop block.first insts)

-- an instruction defines its result
abbrev pub set_home : List Home → (b i : ℕ) → Option ℕ → List Home
set_home homes b i None = homes
set_home homes b i (Some register) = slice_set homes register (record { block = b; inst = i })

-- instructions of block b, the first of which has number i
abbrev pub homes_in : (b i : ℕ) → List Home → List Inst → List Home
homes_in b i homes [] = homes
homes_in b i homes (inst ∷ insts) = homes_in b (i + 1) (set_home homes b i inst.result) insts

-- blocks from number b on
abbrev pub homes_from : List Inst → (b : ℕ) → List Home → List Block → List Home
homes_from insts b homes [] = homes
homes_from insts b homes (block ∷ blocks) = homes_from insts (b + 1) (homes_in b block.first homes (block_insts insts block)) blocks

-- before any block: a register that nothing defines is defined after the last block
abbrev pub no_home : Function → Home
no_home f = record { block = length f.blocks; inst = 0 }

abbrev pub homes_of : Function → List Home
homes_of f = homes_from f.insts 0 (replicate (length f.regs) (no_home f)) f.blocks

abbrev pub home_of : Function → List Home → (register : ℕ) → Home
home_of f homes register = slice_index_or homes register (no_home f)
