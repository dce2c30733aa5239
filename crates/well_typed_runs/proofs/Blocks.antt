-- Blocks of functions whose names are resolved, and the instructions in them.
use Rattle.std.proofs.Common.{◌≡◌, ℕ, zero, suc, ◌+◌, ◌<◌, ◌≤◌, List, [], ◌∷◌, length, slice_get, get_or, Some, Bool, true, false, ◌==◌, nat_lt, refl, sym, ◌∙◌, subst, arith}
use Rattle.std.proofs.lemmas.Bool.Decides.{nat_tests}
use Rattle.std.specs.List.{All}
use Rattle.ir_core.specs.declared.ir_module.Block.{Block}
use Rattle.ir_core.specs.declared.ir_module.Inst.{Inst}
use Rattle.ir_core.specs.declared.ir_module.Function.{Function}
use Rattle.ir_core.specs.declared.ir_module.Module.{Module}
use Rattle.ir_core.specs.Operations.{is_phi, is_terminator}
use Rattle.ir_core.specs.ResolvedBodies.{AreBlocksFrom, IsBlockAt, IsResolvedFunction}
use Rattle.ir_core.specs.Runnable.{HasPhisFirst}
use Rattle.ir_check_flow.specs.Flow.{IsIn}
use Rattle.well_typed_runs.specs.GoodFrames.{IsAt}

-- ---- lists

pub get_at : {A : Type 0} (xs : List A) (n : ℕ) (d : A) → n < length xs → slice_get xs n ≡ Some (get_or xs n d)
get_at [] n d h = absurd (omega arith)
get_at (x ∷ xs) zero d h = refl
get_at (x ∷ xs) (suc n) d h = get_at xs n d (omega arith)

pub get_below : {A : Type 0} (xs : List A) (n : ℕ) (x : A) → slice_get xs n ≡ Some x → n < length xs
get_below [] n x e = absurd cc
get_below (y ∷ xs) zero x e = omega arith
get_below (y ∷ xs) (suc n) x e = let k = get_below xs n x e in omega arith

pub all_at : {A : Type 0} (P : A → Type 0) (xs : List A) (n : ℕ) (x : A) → All P xs → slice_get xs n ≡ Some x → P x
all_at P [] n x all e = absurd cc
all_at P (y ∷ xs) zero x all e = let same : y ≡ x = cc in subst P same (all 0 y (omega arith))
all_at P (y ∷ xs) (suc n) x all e = all_at P xs n x (λ k d h. all (suc k) d (omega arith)) e

-- ---- blocks

block_from : (insts : List Inst) (from : ℕ) (blocks : List Block) (b : ℕ) (block : Block) → AreBlocksFrom insts from blocks → slice_get blocks b ≡ Some block
    → IsBlockAt insts block.first block
block_from insts from [] b block h e = absurd cc
block_from insts from (x ∷ blocks) zero block h e =
    let same : x ≡ block = cc in
    let here : IsBlockAt insts x.first x = subst (λ (k : ℕ). IsBlockAt insts k x) (sym h.0.first) h.0 in
    subst (λ (y : Block). IsBlockAt insts y.first y) same here
block_from insts from (x ∷ blocks) (suc b) block h e = block_from insts (x.first + x.count) blocks b block h.1 e

-- a block of a function
pub block_at : (m : Module) (f : Function) (b : ℕ) (block : Block) → IsResolvedFunction m f → slice_get f.blocks b ≡ Some block → IsBlockAt f.insts block.first block
block_at m f b block resolved e = block_from f.insts 0 f.blocks b block resolved.blocks e

-- what isn't a phi is after the phis of its block
pub after_phis : (f : Function) (b i : ℕ) (block : Block) (inst : Inst) → IsBlockAt f.insts block.first block → IsIn f b i block inst → is_phi inst.op ≡ false
    → block.first + block.phis ≤ i
after_phis f b i block inst at inside no_phi = by_order (nat_lt i (block.first + block.phis)) refl
  where
    by_order : (t : Bool) → nat_lt i (block.first + block.phis) ≡ t → block.first + block.phis ≤ i
    by_order true e =
        let below : i < block.first + block.phis = grind (arith, nat_tests) in
        let phi : is_phi inst.op ≡ true = at.leading i inst inside.from below inside.there in
        absurd cc
    by_order false e = grind (arith, nat_tests)

-- what is no terminator has an instruction after it in its block
pub before_end : (f : Function) (b i : ℕ) (block : Block) (inst : Inst) → IsBlockAt f.insts block.first block → IsIn f b i block inst → is_terminator inst.op ≡ false
    → i + 1 < block.first + block.count
before_end f b i block inst at inside no_end =
    let here : (i + 1 == block.first + block.count) ≡ false = sym (at.ends i inst inside.from inside.to inside.there) ∙ no_end in
    let to = inside.to in
    grind (arith, nat_tests)

-- the terminator is the last instruction
pub at_end : (f : Function) (b i : ℕ) (block : Block) (inst : Inst) → IsBlockAt f.insts block.first block → IsIn f b i block inst → is_terminator inst.op ≡ true
    → i + 1 ≡ block.first + block.count
at_end f b i block inst at inside end =
    let here : (i + 1 == block.first + block.count) ≡ true = sym (at.ends i inst inside.from inside.to inside.there) ∙ end in
    grind (arith, nat_tests)

-- the next instruction, if there is one in the block
unfoldable pub next_at : (m : Module) (f : Function) (i : ℕ) → IsResolvedFunction m f → All (HasPhisFirst f.insts) f.blocks → (at : IsAt f i) → is_terminator at.inst.op ≡ false → IsAt f (i + 1)
next_at m f i resolved phis at no_end =
    let whole = block_at m f at.b at.block resolved at.inside.at in
    let later = before_end f at.b i at.block at.inst whole at.inside no_end in
    let phis_before = after_phis f at.b i at.block at.inst whole at.inside at.no_phi in
    let inside_all = whole.inside in
    let from = at.inside.from in
    let there : slice_get f.insts (i + 1) ≡ Some (get_or f.insts (i + 1) at.inst) = get_at f.insts (i + 1) at.inst (omega arith) in
    record {
      b = at.b;
      block = at.block;
      inst = get_or f.insts (i + 1) at.inst;
      before = at.before;
      path = at.path;
      inside = record { at = at.inside.at; from = omega arith; to = later; there = there };
      no_phi = all_at (HasPhisFirst f.insts) f.blocks at.b at.block phis at.inside.at (i + 1) (get_or f.insts (i + 1) at.inst) (omega arith) later there;
    }

pub next-before : (m : Module) (f : Function) (i : ℕ) (resolved : IsResolvedFunction m f) (phis : All (HasPhisFirst f.insts) f.blocks) (at : IsAt f i) (no_end : is_terminator at.inst.op ≡ false)
    → (next_at m f i resolved phis at no_end).before ≡ at.before
unfolding next_at
next-before m f i resolved phis at no_end = refl

pub next-block : (m : Module) (f : Function) (i : ℕ) (resolved : IsResolvedFunction m f) (phis : All (HasPhisFirst f.insts) f.blocks) (at : IsAt f i) (no_end : is_terminator at.inst.op ≡ false)
    → (next_at m f i resolved phis at no_end).block ≡ at.block
unfolding next_at
next-block m f i resolved phis at no_end = refl
