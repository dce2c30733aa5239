-- The instruction that control comes to: the next one, the first of a block after its phis, and the first of a function.
use Rattle.std.proofs.Common.{◌≡◌, ◌≢◌, ℕ, zero, suc, ◌+◌, ◌<◌, ◌≤◌, false, List, [], ◌∷◌, length, map, Some, refl, sym, ◌∙◌, ap, subst, inl, inr, arith, All}
use Rattle.std.specs.Prelude.{slice_get, slice_index, ◌==◌}
use Rattle.std.proofs.lemmas.Bool.{cases_lt}
use Rattle.std.proofs.lemmas.Bool.Decides.{nat_tests}
use Rattle.std.proofs.lemmas.Option.{slice_get_within, get_or_from_slice_get}
use Rattle.ir_core.specs.declared.ir_module.Block.{Block}
use Rattle.ir_core.specs.declared.ir_module.Inst.{Inst}
use Rattle.ir_core.specs.declared.ir_module.Function.{Function}
use Rattle.ir_core.specs.declared.ir_module.Module.{Module}
use Rattle.ir_core.specs.Operations.{is_phi, is_terminator}
use Rattle.ir_core.specs.ResolvedBodies.{AreBlocksFrom, IsBlockAt, IsResolvedFunction, IsTarget}
use Rattle.ir_core.specs.Runnable.{HasPhisFirst, IsRunnableFunction}
use Rattle.mi_code.specs.TagChecks.{enter_code}
use Rattle.mi_code.specs.Instrumentation.{place_of, starts_of}
use Rattle.mi_code.proofs.CodePlaces.{starts_of_blocks}
use Rattle.ir_tasks.specs.Frames.{Frame}
use Rattle.ir_machine.specs.ReachableWorlds.{IsAtInstruction}
use Rattle.ir_machine.proofs.CodeAt.{get-below, place-phi, place-zero}

-- what all elements have, one of them has
pub all-at : {X : Type 0} (P : X → Type 0) (xs : List X) (k : ℕ) (x : X) → All P xs → slice_get xs k ≡ Some x → P x
all-at P xs k x all h = subst P (get_or_from_slice_get xs k x x h) (all k x (slice_get_within xs k x h))

-- an instruction that isn't a phi is after the phis of its block
after-phis : (insts : List Inst) (from : ℕ) (block : Block) → IsBlockAt insts from block → (i : ℕ) (inst : Inst) → from ≤ i → slice_get insts i ≡ Some inst → is_phi inst.op ≡ false → block.first + block.phis ≤ i
after-phis insts from block b i inst low there phi =
    elim (cases_lt i (block.first + block.phis)) [
      | inl below ↦ absurd (let start = b.first in let is = b.leading i inst (omega arith) below there in cc)
      | inr above ↦ above
    ]

-- the instruction after another one that isn't a terminator is there, and isn't a phi
abbrev NextOf : List Inst → ℕ → Type 0
NextOf insts i = (next : Inst) × (slice_get insts (suc i) ≡ Some next) × (is_phi next.op ≡ false)

next-in : (insts : List Inst) (from : ℕ) (block : Block) → IsBlockAt insts from block → HasPhisFirst insts block → (i : ℕ) (inst : Inst) → from ≤ i → i < block.first + block.count → slice_get insts i ≡ Some inst → is_phi inst.op ≡ false → is_terminator inst.op ≡ false → NextOf insts i
next-in insts from block b first i inst low high there phi last =
    let start = b.first in
    let more : (i + 1 == block.first + block.count) ≡ false = sym (b.ends i inst (omega arith) high there) ∙ last in
    let other : i + 1 ≢ block.first + block.count = grind (arith, nat_tests) in
    let inside = b.inside in
    let after = after-phis insts from block b i inst low there phi in
    let below : suc i < block.first + block.count = strictly i (block.first + block.count) high other in
    let (next, found) = get-below insts (suc i) (omega (arith, below, inside)) in
    (next, found, first (suc i) next (omega (arith, after)) below found)
  where
    strictly : (i end : ℕ) → i < end → i + 1 ≢ end → suc i < end
    strictly i end h other = omega arith

next-from : (insts : List Inst) (from : ℕ) (blocks : List Block) → AreBlocksFrom insts from blocks → All (HasPhisFirst insts) blocks → (i : ℕ) (inst : Inst) → from ≤ i → slice_get insts i ≡ Some inst → is_phi inst.op ≡ false → is_terminator inst.op ≡ false → NextOf insts i
next-from insts from [] h all i inst low there phi last = absurd (let below = slice_get_within insts i inst there in omega arith)
next-from insts from (block ∷ blocks) h all i inst low there phi last =
    elim (cases_lt i (block.first + block.count)) [
      | inl below ↦ next-in insts from block h.0 (all 0 block (omega arith)) i inst low below there phi last
      | inr above ↦ next-from insts (block.first + block.count) blocks h.1 (λ (k : ℕ) (d : Block) (q : k < length blocks). all (suc k) d (omega arith)) i inst above there phi last
    ]

pub next-instruction : (m : Module) (f : Function) → IsResolvedFunction m f → IsRunnableFunction m f → (i : ℕ) (inst : Inst) → slice_get f.insts i ≡ Some inst → is_phi inst.op ≡ false → is_terminator inst.op ≡ false → NextOf f.insts i
next-instruction m f resolved runnable i inst there phi last = next-from f.insts 0 f.blocks resolved.blocks runnable.phis_first i inst (omega arith) there phi last

-- ---- the first instruction of a block

pub block-from : (insts : List Inst) (from : ℕ) (blocks : List Block) → AreBlocksFrom insts from blocks → (k : ℕ) (block : Block) → slice_get blocks k ≡ Some block → (start : ℕ) × IsBlockAt insts start block
block-from insts from [] h k block there = absurd (cc)
block-from insts from (first ∷ blocks) h zero block there = let e : first ≡ block = cc in (from, subst (IsBlockAt insts from) e h.0)
block-from insts from (first ∷ blocks) h (suc k) block there = block-from insts (first.first + first.count) blocks h.1 k block there

-- the phis of a block have no code
pub phis-place : (m : Module) (f : Function) (from : ℕ) (block : Block) → IsBlockAt f.insts from block → (j : ℕ) → j ≤ block.phis → place_of m f (block.first + j) ≡ place_of m f block.first
phis-place m f from block b zero low = let e : block.first + 0 ≡ block.first = omega arith in ap (place_of m f) e
phis-place m f from block b (suc j) low =
    let e : block.first + suc j ≡ suc (block.first + j) = omega arith in
    let some = b.phis in
    let inside = b.inside in
    let (inst, there) = get-below f.insts (block.first + j) (omega (arith, some, inside)) in
    let phi = b.leading (block.first + j) inst (omega arith) (omega arith) there in
    ap (place_of m f) e ∙ (place-phi m f (block.first + j) inst there phi ∙ phis-place m f from block b j (omega arith))

-- a frame at the place where a block begins is at the block's first instruction after its phis
at-block : (m : Module) (f : Function) (from : ℕ) (block : Block) → IsBlockAt f.insts from block → HasPhisFirst f.insts block → (frame : Frame) → slice_get m.functions frame.func ≡ Some f → frame.place ≡ place_of m f block.first → IsAtInstruction m frame
at-block m f from block b first frame func place =
    let some = b.phis in
    let inside = b.inside in
    let (inst, there) = get-below f.insts (block.first + block.phis) (omega (arith, some, inside)) in (
      f,
      block.first + block.phis,
      inst,
      record {
        func = func;
        there = there;
        not_phi = first (block.first + block.phis) inst (omega arith) (omega (arith, some)) there;
        place = place ∙ sym (phis-place m f from block b block.phis (omega arith));
      },
    )

get-map : {A : Type 0} (g : A → ℕ) (xs : List A) (k : ℕ) (x : A) → slice_get xs k ≡ Some x → slice_index (map g xs) k ≡ g x
get-map g [] k x h = absurd (cc)
get-map g (y ∷ ys) zero x h = ap g (cc)
get-map g (y ∷ ys) (suc k) x h = get-map g ys k x h

pub target-start : (m : Module) (f : Function) (blocks : List Block) → f.blocks ≡ blocks → (k : ℕ) (block : Block) → 0 < k → slice_get blocks k ≡ Some block → slice_index (starts_of m f) k ≡ place_of m f block.first
target-start m f [] e k block some there = absurd (cc)
target-start m f (entry ∷ blocks) e zero block some there = absurd (omega arith)
target-start m f (entry ∷ blocks) e (suc k) block some there =
    ap (λ (starts : List ℕ). slice_index starts (suc k)) (starts_of_blocks m f entry blocks e)
    ∙ get-map (λ (b : Block). place_of m f b.first) blocks k block there

-- a frame that goes to a block
pub target-at : (m : Module) (f : Function) → IsResolvedFunction m f → IsRunnableFunction m f → (k : ℕ) → IsTarget f k → (frame : Frame) → slice_get m.functions frame.func ≡ Some f → frame.place ≡ slice_index (starts_of m f) k → IsAtInstruction m frame
target-at m f resolved runnable k target frame func place =
    let (block, there) = get-below f.blocks k target.there in
    let (from, b) = block-from f.insts 0 f.blocks resolved.blocks k block there in
    at-block m f from block b (all-at (HasPhisFirst f.insts) f.blocks k block runnable.phis_first there) frame func
    (place ∙ target-start m f f.blocks refl k block target.later there)

-- a frame that enters a function
pub entry-at : (m : Module) (f : Function) → IsResolvedFunction m f → IsRunnableFunction m f → (frame : Frame) → slice_get m.functions frame.func ≡ Some f → frame.place ≡ length (enter_code f.allocas) → IsAtInstruction m frame
entry-at m f resolved runnable frame func place = by_blocks f.blocks resolved.blocks runnable.phis_first resolved.some_block
  where
    by_blocks : (blocks : List Block) → AreBlocksFrom f.insts 0 blocks → All (HasPhisFirst f.insts) blocks → 0 < length blocks → IsAtInstruction m frame
    by_blocks [] h all some = absurd (omega arith)
    by_blocks (entry ∷ blocks) h all some =
        let start : entry.first ≡ 0 = h.0.first in
        let zero_place : place_of m f 0 ≡ length (enter_code f.allocas) = place-zero m f in
        at-block m f 0 entry h.0 (all 0 entry (omega arith)) frame func
        (place ∙ (sym zero_place ∙ ap (place_of m f) (sym start)))
