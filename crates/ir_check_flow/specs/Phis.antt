-- Phis (LLVM Language Reference, "'phi' Instruction"): they are the first instructions of their block, which isn't the entry block,
-- and have an entry for each block that leads to theirs and for no other one. Entries for one block have one value.
use Rattle.std.specs.Prelude.{◌≡◌, ℕ, ◌+◌, ◌<◌, List, [], ◌∷◌, ◌++◌, map, replicate, slice_set, slice_get, slice_index, slice_index_or, length, Bool, true, false, ◌&&◌, ◌==◌, nat_lt, if◌then◌else◌, Option, Some, None}
use Rattle.std.specs.Bool.{IsTrue}
use Rattle.ir_core.specs.declared.faults.Fault.TheVariants.{BadPhi}
use Rattle.ir_core.specs.declared.operands.Operand.{Operand}
use Rattle.ir_core.specs.declared.operands.Operand.TheVariants.{Reg, Int as Literal, Null, Global}
use Rattle.ir_core.specs.declared.operands.PhiEntry.{PhiEntry}
use Rattle.ir_core.specs.declared.operations.Op.TheVariants as op
use Rattle.ir_core.specs.declared.refusals.Place.{Place}
use Rattle.ir_core.specs.declared.refusals.Refusal.{Refusal}
use Rattle.ir_core.specs.declared.ir_module.Block.{Block}
use Rattle.ir_core.specs.declared.ir_module.Inst.{Inst}
use Rattle.ir_core.specs.declared.ir_module.Function.{Function}
use Rattle.ir_check_types.specs.Order.{refusal_at}
use Rattle.ir_check_flow.specs.Flow.{IsIn}
use Rattle.ir_check_flow.specs.Homes.{block_insts}
use Rattle.ir_check_flow.specs.Ways.{ways_of, Leads}

-- an entry for the block is there
pub record HasEntry (entries : List PhiEntry) (block : ℕ) : Type 0 where
  pub number : ℕ
  pub entry : PhiEntry
  pub there : slice_get entries number ≡ Some entry
  pub from : entry.block ≡ block

-- entries for one block have one value
abbrev pub HasOneValueEach : List PhiEntry → Type 0
HasOneValueEach entries =
    (i j : ℕ) (a b : PhiEntry) → slice_get entries i ≡ Some a → slice_get entries j ≡ Some b → a.block ≡ b.block → a.value.operand ≡ b.value.operand

-- the entries of a phi are those that it needs, by the blocks that lead to its own
pub record AreEntries (leads : ℕ → Type 0) (entries : List PhiEntry) : Type 0 where
  pub each : (from : ℕ) → leads from → HasEntry entries from
  pub only : (n : ℕ) (entry : PhiEntry) → slice_get entries n ≡ Some entry → leads entry.block
  pub same : HasOneValueEach entries

-- a phi of block b, at instruction i
pub record IsGoodPhi (f : Function) (b i : ℕ) (block : Block) (entries : List PhiEntry) : Type 0 where
  pub leading : i < block.first + block.phis
  pub later : 0 < b
  pub entries_are : AreEntries (λ from. Leads (ways_of f) from b) entries

-- the refusals for phis in a function
pub data IsBadPhi (f : Function) : Refusal → Type 0 where
  bad_phi : (b i ty : ℕ) (block : Block) (inst : Inst) (entries : List PhiEntry) → IsIn f b i block inst → inst.op ≡ op.Phi ty entries
      → (IsGoodPhi f b i block entries → ⊥) → IsBadPhi f (refusal_at BadPhi inst.place)

-- ---- how they are found

-- two operands are the same
abbrev pub is_same_operand : (a b : Operand) → Bool
is_same_operand (Reg r) (Reg s) = r == s
is_same_operand (Literal n) (Literal k) = n == k
is_same_operand Null Null = true
is_same_operand (Global global off) (Global other at) = global == other && off == at
is_same_operand a b = false

-- for each of these blocks the table has the number of a place where it is in the list
pub record IsIndex (table keys : List ℕ) : Type 0 where
  pub inside : (i k : ℕ) → slice_get keys i ≡ Some k → slice_index table k < length keys
  pub found : (i k : ℕ) → slice_get keys i ≡ Some k → slice_get keys (slice_index table k) ≡ Some k

-- the blocks of entries
abbrev pub blocks_of : List PhiEntry → List ℕ
blocks_of entries = map (λ (entry : PhiEntry). entry.block) entries

-- an entry has the value of the one for its block whose place the table has
abbrev pub agrees_with : Option PhiEntry → Operand → Bool
agrees_with None operand = false
agrees_with (Some other) operand = is_same_operand other.value.operand operand

abbrev pub agrees : (table : List ℕ) → List PhiEntry → PhiEntry → Bool
agrees table entries entry = agrees_with (slice_get entries (slice_index table entry.block)) entry.value.operand

-- a block leads to another: it is one more of its predecessors
abbrev pub add_predecessor : List (List ℕ) → (from to : ℕ) → List (List ℕ)
add_predecessor lists from to = slice_set lists to (slice_index_or lists to [] ++ from ∷ [])

abbrev pub add_predecessors : List (List ℕ) → (from : ℕ) → List ℕ → List (List ℕ)
add_predecessors lists from [] = lists
add_predecessors lists from (to ∷ targets) = add_predecessors (add_predecessor lists from to) from targets

-- blocks from this number on
abbrev pub predecessors_from : List (List ℕ) → (from : ℕ) → List (List ℕ) → List (List ℕ)
predecessors_from lists from [] = lists
predecessors_from lists from (targets ∷ ways) = predecessors_from (add_predecessors lists from targets) (from + 1) ways

abbrev pub predecessors_of : List (List ℕ) → List (List ℕ)
predecessors_of ways = predecessors_from (replicate (length ways) []) 0 ways

-- the refusal for a phi with these entries
pub record IsBadPhiWith (leads : ℕ → Type 0) (placed : Bool) (entries : List PhiEntry) (place : Place) (refusal : Refusal) : Type 0 where
  pub bad : IsTrue placed × AreEntries leads entries → ⊥
  pub refused : refusal ≡ refusal_at BadPhi place

-- the refusals for an instruction that is a phi: it isn't where phis are, or its entries aren't those that it needs
pub record IsBadHere (leads : ℕ → Type 0) (placed : Bool) (inst : Inst) (refusal : Refusal) : Type 0 where
  pub ty : ℕ
  pub entries : List PhiEntry
  pub is : inst.op ≡ op.Phi ty entries
  pub bad : IsTrue placed × AreEntries leads entries → ⊥
  pub refused : refusal ≡ refusal_at BadPhi inst.place

-- the refusals for phis among the instructions of a block, of which so many are where phis are
pub record IsBadIn (leads : ℕ → Type 0) (phis : ℕ) (insts : List Inst) (refusal : Refusal) : Type 0 where
  pub number : ℕ
  pub inst : Inst
  pub there : slice_get insts number ≡ Some inst
  pub here : IsBadHere leads (nat_lt number phis) inst refusal

-- how many instructions of a block are where phis are: none in the entry block
abbrev pub phi_places : (b : ℕ) → Block → ℕ
phi_places b block = if b == 0 then 0 else block.phis

-- the refusals for phis in blocks
pub record IsBadAmong (f : Function) (blocks : List Block) (refusal : Refusal) : Type 0 where
  pub number : ℕ
  pub block : Block
  pub there : slice_get blocks number ≡ Some block
  pub bad : IsBadIn (λ from. Leads (ways_of f) from number) (phi_places number block) (block_insts f.insts block) refusal
