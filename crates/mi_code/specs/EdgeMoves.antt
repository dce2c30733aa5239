-- The edges between blocks, and the moves on them for the phis of the block to which they lead (LLVM Language
-- Reference, "'phi' Instruction"): all phis are read on the edge, at once.
use Rattle.std.specs.Prelude.{ℕ, List, [], ◌∷◌, ◌++◌, slice_get, slice_index, Option, Some, None}
use Rattle.ir_core.specs.declared.operands.Placed.{Placed}
use Rattle.ir_core.specs.declared.operands.Case.{Case}
use Rattle.ir_core.specs.declared.ir_module.Block.{Block}
use Rattle.ir_core.specs.declared.ir_module.Inst.{Inst}
use Rattle.ir_core.specs.declared.ir_module.Function.{Function}
use Rattle.ir_core.specs.Blocks.{phi_entry, phis_of}
use Rattle.ir_core.specs.NumberTypes.{constant_number}
use Rattle.mi_code.specs.declared.edges.Edge.{Edge}
use Rattle.mi_code.specs.declared.edges.Move.{Move}
use Rattle.mi_code.specs.declared.edges.MiCase.{MiCase}
use Rattle.mi_code.specs.MachineOperands.{operand_of, result_register}

-- the phis of the block with a number
abbrev pub phis_by : List Inst → Option Block → List Inst
phis_by insts None = []
phis_by insts (Some block) = phis_of insts block

abbrev pub phis_at : Function → ℕ → List Inst
phis_at f block = phis_by f.insts (slice_get f.blocks block)

-- the move of the value that a phi takes, if it takes one
abbrev pub phi_move : (to : ℕ) → Option Placed → List Move
phi_move to None = []
phi_move to (Some value) = record { to = to; value = operand_of value } ∷ []

-- the moves of phis in order, for the block that control comes from
unfoldable pub phi_moves : Function → (from : ℕ) → List Inst → List Move
phi_moves f from [] = []
phi_moves f from (phi ∷ phis) = phi_move (result_register f phi.result) (phi_entry from phi.op) ++ phi_moves f from phis

-- the edge from one block to another: the place of the first machine instruction there, and the moves for its phis
abbrev pub edge_to : Function → List ℕ → (from to : ℕ) → Edge
edge_to f starts from to = record { place = slice_index starts to; moves = phi_moves f from (phis_at f to) }

-- the cases of a switch
unfoldable pub case_edges : Function → List ℕ → ℕ → List Case → List MiCase
case_edges f starts from [] = []
case_edges f starts from (case ∷ cases) =
    record { value = constant_number case.value.operand; edge = edge_to f starts from case.block } ∷ case_edges f starts from cases
