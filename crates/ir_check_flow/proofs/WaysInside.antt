-- The blocks to which the blocks of a resolved function lead are there.
use Rattle.std.proofs.Common.{◌≡◌, ℕ, zero, suc, ◌+◌, ◌-◌, List, [], ◌∷◌, map, length, slice_get, Option, Some, None, refl, subst, arith}
use Rattle.std.proofs.lemmas.List.{length-map}
use Rattle.std.specs.List.{All}
use Rattle.ir_core.specs.declared.operands.Case.{Case}
use Rattle.ir_core.specs.declared.operations.Op.{Op}
use Rattle.ir_core.specs.declared.operations.Op.TheVariants as op
use Rattle.ir_core.specs.declared.ir_module.Block.{Block}
use Rattle.ir_core.specs.declared.ir_module.Inst.{Inst}
use Rattle.ir_core.specs.declared.ir_module.Function.{Function}
use Rattle.ir_core.specs.declared.ir_module.Module.{Module}
use Rattle.ir_core.specs.ResolvedBodies.{IsResolvedFunction, IsResolvedOp, IsTarget, IsResolvedCase}
use Rattle.ir_check_flow.specs.Spreading.{AreWays}
use Rattle.ir_check_flow.specs.Ways.{targets_of, targets_at, block_targets, ways_of}

-- each of these is a block that control can come to
abbrev pub AreTargets : Function → List ℕ → Type 0
AreTargets f targets = All (λ to. IsTarget f to) targets

none_targets : (f : Function) → AreTargets f []
none_targets f k d h = absurd (omega arith)

more_targets : (f : Function) (to : ℕ) (targets : List ℕ) → IsTarget f to → AreTargets f targets → AreTargets f (to ∷ targets)
more_targets f to targets here rest zero d h = here
more_targets f to targets here rest (suc k) d h = rest k d (omega arith)

case_targets : (m : Module) (f : Function) (cases : List Case) → All (IsResolvedCase m f) cases → AreTargets f (map (λ (case : Case). case.block) cases)
case_targets m f [] all = none_targets f
case_targets m f (case ∷ cases) all =
    more_targets f case.block (map (λ (case : Case). case.block) cases) (all 0 case (omega arith)).block (case_targets m f cases (λ k d h. all (suc k) d (omega arith)))

operation_targets : (m : Module) (f : Function) (o : Op) → IsResolvedOp m f o → AreTargets f (targets_of o)
operation_targets m f (op.Br block) h = more_targets f block [] h (none_targets f)
operation_targets m f (op.BrIf cond yes_block no_block) h = more_targets f yes_block (no_block ∷ []) h.1 (more_targets f no_block [] h.2 (none_targets f))
operation_targets m f (op.Switch on other cases) h = more_targets f other (map (λ (case : Case). case.block) cases) h.1 (case_targets m f cases h.2)
operation_targets m f other h = none_targets f

all_at : {A : Type 0} (P : A → Type 0) (xs : List A) (n : ℕ) (x : A) → All P xs → slice_get xs n ≡ Some x → P x
all_at P [] n x all e = cc
all_at P (y ∷ xs) zero x all e = let same : y ≡ x = cc in subst P same (all 0 y (omega arith))
all_at P (y ∷ xs) (suc n) x all e = all_at P xs n x (λ k d h. all (suc k) d (omega arith)) e

found_targets : (m : Module) (f : Function) → IsResolvedFunction m f → (n : ℕ) (found : Option Inst) → slice_get f.insts n ≡ found → AreTargets f (targets_at found)
found_targets m f h n None e = none_targets f
found_targets m f h n (Some inst) e = operation_targets m f inst.op (all_at (λ (x : Inst). IsResolvedOp m f x.op) f.insts n inst h.instructions e)

targets_there : (m : Module) (f : Function) → IsResolvedFunction m f → (block : Block) → AreTargets f (block_targets f.insts block)
targets_there m f h block = found_targets m f h (block.first + block.count - 1) (slice_get f.insts (block.first + block.count - 1)) refl

all_mapped : (f : Function) (blocks : List Block) → ((block : Block) → AreTargets f (block_targets f.insts block)) → All (AreTargets f) (map (block_targets f.insts) blocks)
all_mapped f [] h k d within = absurd (omega arith)
all_mapped f (block ∷ blocks) h zero d within = h block
all_mapped f (block ∷ blocks) h (suc k) d within = all_mapped f blocks h k d (omega arith)

pub all_targets : (m : Module) (f : Function) → IsResolvedFunction m f → All (AreTargets f) (ways_of f)
all_targets m f h = all_mapped f f.blocks (targets_there m f h)

pub ways_inside : (m : Module) (f : Function) (n : ℕ) → IsResolvedFunction m f → n ≡ length f.blocks → AreWays n (ways_of f)
ways_inside m f n h e i d within k t inside =
    let there = (all_targets m f h i d within k t inside).there in omega arith

pub ways_length : (f : Function) → length (ways_of f) ≡ length f.blocks
ways_length f = length-map f.blocks (block_targets f.insts)
