-- The places of instructions, one after the other.
use Rattle.std.proofs.Common.{◌≡◌, ◌≢◌, ◌⊎◌, inl, inr, true, false, ℕ, suc, zero, ◌+◌, ◌<◌, ◌≤◌, List, [], ◌∷◌, ◌++◌, length, take, get_or, refl, ap, ◌∙◌, arith}
use Rattle.std.specs.Prelude.{min, slice_get, nat_lt, Some}
use Rattle.std.proofs.lemmas.Bool.{cases_eq}
use Rattle.std.proofs.lemmas.Bool.Decides.{nat_tests}
use Rattle.std.proofs.lemmas.List.{take_more, length_push, get_or_push, get_or_append_left, take_min}
use Rattle.ir_core.specs.declared.ir_module.Block.{Block}
use Rattle.ir_core.specs.declared.ir_module.Inst.{Inst}
use Rattle.ir_core.specs.declared.ir_module.Function.{Function}
use Rattle.ir_core.specs.declared.ir_module.Module.{Module}
use Rattle.ir_core.specs.Blocks.{block_holding}
use Rattle.mi_code.specs.Instrumentation.{instruction_length, code_length, place_of}
use Rattle.mi_code.specs.TagChecks.{enter_code}
use Rattle.tag_insert.specs.Functions.{ArePlaces, EndBefore}

code_length-push : (m : Module) (sizes : List ℕ) (insts : List Inst) (inst : Inst) → code_length m sizes (insts ++ inst ∷ []) ≡ code_length m sizes insts + instruction_length m sizes inst
unfolding code_length
code_length-push m sizes [] inst = omega arith
code_length-push m sizes (first ∷ insts) inst = let rest = code_length-push m sizes insts inst in omega arith

-- the place after an instruction
pub place_of-next : (m : Module) (f : Function) (i : ℕ) (inst : Inst) → i < length f.insts → inst ≡ get_or f.insts i inst → place_of m f (i + 1) ≡ place_of m f i + instruction_length m f.allocas inst
place_of-next m f i inst h is =
    let more = take_more f.insts i inst h in
    let split = code_length-push m f.allocas (take i f.insts) (get_or f.insts i inst) in
    let here = ap (λ (x : Inst). instruction_length m f.allocas x) is in
    rw more (omega arith)

pub place_of-start : (m : Module) (f : Function) → place_of m f 0 ≡ length (enter_code f.allocas)
unfolding code_length
place_of-start m f = omega arith

-- past the last instruction all places are one
pub place_of-min : (m : Module) (f : Function) (i : ℕ) → place_of m f (min i (length f.insts)) ≡ place_of m f i
place_of-min m f i = rw (take_min i f.insts) refl

-- one more place
pub places-push : (m : Module) (f : Function) (n at : ℕ) (places : List ℕ) → ArePlaces m f n places → at ≡ place_of m f n → ArePlaces m f (n + 1) (places ++ at ∷ [])
places-push m f n at places h is =
    record {
      count_is = let more = length_push places at in omega (arith, h.count_is);
      each = λ k lt. by k (cases_eq k n) lt;
    }
  where
    by : (k : ℕ) → (k ≡ n) ⊎ (k ≢ n) → k < n + 1 → get_or (places ++ at ∷ []) k 0 ≡ place_of m f k
    by k (inl same) lt = rw same (get_or_push places at 0 n h.count_is ∙ is)
    by k (inr apart) lt =
        let before : k < n = omega arith in
        let inside : k < length places = omega (arith, h.count_is) in
        get_or_append_left places (at ∷ []) 0 k inside ∙ h.each k before

-- the number of the block that holds an instruction
pub block_holding-at : (blocks : List Block) (number i : ℕ) → number ≤ length blocks → EndBefore blocks number i
    → ((block : Block) → slice_get blocks number ≡ Some block → i < block.first + block.count) → block_holding blocks i ≡ number
unfolding block_holding
block_holding-at [] number i within before here = omega arith
block_holding-at (block ∷ blocks) zero i within before here =
    let inside : i < block.first + block.count = here block refl in
    let test : nat_lt i (block.first + block.count) ≡ true = grind (arith, nat_tests) in
    rw test refl
block_holding-at (block ∷ blocks) (suc number) i within before here =
    let after : block.first + block.count ≤ i = before 0 block (omega arith) refl in
    let test : nat_lt i (block.first + block.count) ≡ false = grind (arith, nat_tests) in
    rw test (ap (λ n. suc n) (block_holding-at blocks number i (omega arith) (λ k later lt found. before (suc k) later (omega arith) found) here))

-- one more block ends before an instruction
pub end_before-more : (blocks : List Block) (number i : ℕ) (block : Block) → EndBefore blocks number i → slice_get blocks number ≡ Some block → block.first + block.count ≤ i
    → EndBefore blocks (number + 1) i
end_before-more blocks number i block before there ends k other lt found = by (cases_eq k number)
  where
    by : (k ≡ number) ⊎ (k ≢ number) → other.first + other.count ≤ i
    by (inl same) =
        let at : slice_get blocks number ≡ Some other = rw (← same) found in
        let is : other ≡ block = cc in
        rw is ends
    by (inr apart) = let earlier : k < number = omega arith in before k other earlier found
