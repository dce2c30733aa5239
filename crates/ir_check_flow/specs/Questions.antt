-- Uses of registers as questions: in which block the register is defined, and in which block it is asked for. A question is
-- open at a block if some path leads there without the definition.
use Rattle.std.specs.Prelude.{ℕ, ◌+◌, List, [], ◌∷◌, ◌++◌, ◌&&◌, ◌==◌, nat_lt, if◌then◌else◌}
use Rattle.std.specs.List.{flat_map}
use Rattle.ir_core.specs.declared.operands.Operand.{Operand}
use Rattle.ir_core.specs.declared.operands.Operand.TheVariants.{Reg, Int as Literal, Null, Global}
use Rattle.ir_core.specs.declared.operands.Placed.{Placed}
use Rattle.ir_core.specs.declared.operands.PhiEntry.{PhiEntry}
use Rattle.ir_core.specs.declared.refusals.Place.{Place}
use Rattle.ir_core.specs.declared.ir_module.Block.{Block}
use Rattle.ir_core.specs.declared.ir_module.Inst.{Inst}
use Rattle.ir_core.specs.declared.ir_module.Function.{Function}
use Rattle.ir_check_flow.specs.declared.home.Home.{Home}
use Rattle.ir_check_flow.specs.declared.question.Question.{Question}
use Rattle.ir_check_flow.specs.Homes.{block_insts, homes_of, home_of}
use Rattle.ir_check_flow.specs.Flow.{operands_of, entries_of}

-- a register that is asked for at instruction i of block b, unless it is defined before in that block
abbrev pub ask_in_block : Home → (b i : ℕ) → Place → List Question
ask_in_block home b i place = if home.block == b && nat_lt home.inst i then [] else record { home = home.block; at = b; place = place } ∷ []

-- a register that is asked for at the end of block b, unless it is defined in that block
abbrev pub ask_at_end : Home → (b : ℕ) → Place → List Question
ask_at_end home b place = if home.block == b then [] else record { home = home.block; at = b; place = place } ∷ []

-- parameters are defined before the entry block
abbrev pub operand_questions : Function → List Home → (b i : ℕ) → Place → Operand → List Question
operand_questions f homes b i place (Reg register) = if nat_lt register f.params then [] else ask_in_block (home_of f homes register) b i place
operand_questions f homes b i place (Literal n) = []
operand_questions f homes b i place Null = []
operand_questions f homes b i place (Global global off) = []

abbrev pub entry_questions : Function → List Home → (b : ℕ) → Place → Operand → List Question
entry_questions f homes b place (Reg register) = if nat_lt register f.params then [] else ask_at_end (home_of f homes register) b place
entry_questions f homes b place (Literal n) = []
entry_questions f homes b place Null = []
entry_questions f homes b place (Global global off) = []

abbrev pub placed_questions : Function → List Home → (b i : ℕ) → List Placed → List Question
placed_questions f homes b i operands = flat_map (λ (placed : Placed). operand_questions f homes b i placed.place placed.operand) operands

abbrev pub phi_questions : Function → List Home → List PhiEntry → List Question
phi_questions f homes entries =
    flat_map (λ (entry : PhiEntry). entry_questions f homes entry.block entry.value.place entry.value.operand) entries

-- the questions of an instruction
unfoldable pub inst_questions : Function → List Home → (b i : ℕ) → Inst → List Question
inst_questions f homes b i inst = placed_questions f homes b i (operands_of inst.op) ++ phi_questions f homes (entries_of inst.op)

-- instructions of block b, the first of which has number i
abbrev pub questions_in : Function → List Home → (b i : ℕ) → List Inst → List Question
questions_in f homes b i [] = []
questions_in f homes b i (inst ∷ insts) = inst_questions f homes b i inst ++ questions_in f homes b (i + 1) insts

-- blocks from number b on
abbrev pub questions_from : Function → List Home → (b : ℕ) → List Block → List Question
questions_from f homes b [] = []
questions_from f homes b (block ∷ blocks) = questions_in f homes b block.first (block_insts f.insts block) ++ questions_from f homes (b + 1) blocks

abbrev pub questions_of : Function → List Question
questions_of f = questions_from f (homes_of f) 0 f.blocks
