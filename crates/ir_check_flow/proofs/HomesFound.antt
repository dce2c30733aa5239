-- Each register that an instruction gives has that instruction as its home.
use Rattle.std.proofs.Common.{◌≡◌, ℕ, zero, suc, ◌+◌, ◌-◌, ◌<◌, ◌≤◌, ◌⊎◌, inl, inr, List, [], ◌∷◌, take, drop, length, get_or, slice_get, replicate, Option, Some, None, refl, sym, subst, ap, ◌∙◌, arith}
use Rattle.std.proofs.Math.ListN.{set, length-set}
use Rattle.std.proofs.lemmas.List.{get_or-set_same, get_or-set_other, length-replicate}
use Rattle.ir_core.specs.declared.ir_module.Block.{Block}
use Rattle.ir_core.specs.declared.ir_module.Inst.{Inst}
use Rattle.ir_core.specs.declared.ir_module.Function.{Function}
use Rattle.ir_core.specs.ResolvedBodies.{AreBlocksFrom}
use Rattle.ir_check_flow.specs.declared.home.Home.{Home}
use Rattle.ir_check_flow.specs.Flow.{IsIn}
use Rattle.ir_check_flow.specs.Homes.{block_insts, set_home, homes_in, homes_from, no_home, homes_of, home_of}

-- ---- blocks hold instructions one after the other

pub first_after : (insts : List Inst) (from : ℕ) (blocks : List Block) (k : ℕ) (x : Block) → AreBlocksFrom insts from blocks → slice_get blocks k ≡ Some x → from ≤ x.first
first_after insts from [] k x h e = cc
first_after insts from (block ∷ blocks) zero x h e =
    let same : block ≡ x = cc in
    let f = h.0.first in
    subst (λ (b : Block). from ≤ b.first) same (omega arith)
first_after insts from (block ∷ blocks) (suc k) x h e =
    let f = h.0.first in
    let later = first_after insts (block.first + block.count) blocks k x h.1 e in omega arith

pub blocks_apart : (insts : List Inst) (from : ℕ) (blocks : List Block) (k j : ℕ) (x y : Block) → AreBlocksFrom insts from blocks
    → slice_get blocks k ≡ Some x → slice_get blocks j ≡ Some y → k < j → x.first + x.count ≤ y.first
blocks_apart insts from [] k j x y h e f l = cc
blocks_apart insts from (block ∷ blocks) k zero x y h e f l = absurd (omega arith)
blocks_apart insts from (block ∷ blocks) zero (suc j) x y h e f l =
    let same : block ≡ x = cc in
    subst (λ (b : Block). b.first + b.count ≤ y.first) same (first_after insts (block.first + block.count) blocks j y h.1 f)
blocks_apart insts from (block ∷ blocks) (suc k) (suc j) x y h e f l = blocks_apart insts (block.first + block.count) blocks k j x y h.1 e f (omega arith)

compared : (a b : ℕ) → (a ≡ b) ⊎ ((a < b) ⊎ (b < a))
compared zero zero = inl refl
compared zero (suc b) = inr (inl (omega arith))
compared (suc a) zero = inr (inr (omega arith))
compared (suc a) (suc b) = elim (compared a b) [ inl e ↦ inl (ap (λ n. suc n) e) | inr h ↦ inr (elim h [ inl l ↦ inl (omega arith) | inr g ↦ inr (omega arith) ]) ]

-- an instruction is in one block
pub one_block : (f : Function) → AreBlocksFrom f.insts 0 f.blocks → (b c i j : ℕ) (x y : Block) (inst other : Inst) → IsIn f b i x inst → IsIn f c j y other → i ≡ j → b ≡ c
one_block f h b c i j x y inst other p q e =
    let pf = p.from in let pt = p.to in let qf = q.from in let qt = q.to in
    elim (compared b c) [
      | inl same ↦ same
      | inr apart ↦ elim apart [
        | inl less ↦ (let k = blocks_apart f.insts 0 f.blocks b c x y h p.at q.at less in absurd (omega arith))
        | inr more ↦ (let k = blocks_apart f.insts 0 f.blocks c b y x h q.at p.at more in absurd (omega arith))
      ]
    ]

-- each instruction is in a block
pub record HasBlock (insts : List Inst) (blocks : List Block) (i : ℕ) : Type 0 where
  pub number : ℕ
  pub block : Block
  pub at : slice_get blocks number ≡ Some block
  pub from : block.first ≤ i
  pub to : i < block.first + block.count

later_block : (insts : List Inst) (block : Block) (blocks : List Block) (i : ℕ) → HasBlock insts blocks i → HasBlock insts (block ∷ blocks) i
later_block insts block blocks i h = record { number = suc h.number; block = h.block; at = h.at; from = h.from; to = h.to }

below_or_not : (a b : ℕ) → (a < b) ⊎ (b ≤ a)
below_or_not a b = elim (compared a b) [ inl e ↦ inr (omega arith) | inr h ↦ elim h [ inl l ↦ inl l | inr g ↦ inr (omega arith) ] ]

pub block_with : (insts : List Inst) (from : ℕ) (blocks : List Block) (i : ℕ) → AreBlocksFrom insts from blocks → from ≤ i → i < length insts → HasBlock insts blocks i
block_with insts from [] i h low high = let e : from ≡ length insts = h in absurd (omega arith)
block_with insts from (block ∷ blocks) i h low high =
    let f = h.0.first in
    elim (below_or_not i (block.first + block.count)) [
      | inl here ↦ record { number = 0; block = block; at = refl; from = omega arith; to = here }
      | inr later ↦ later_block insts block blocks i (block_with insts (block.first + block.count) blocks i h.1 later high)
    ]

-- ---- instruction j of a block

there_in : {A : Type 0} (list : List A) (i : ℕ) (x : A) → slice_get list i ≡ Some x → i < length list
there_in [] i x e = cc
there_in (y ∷ list) zero x e = omega arith
there_in (y ∷ list) (suc i) x e = let h = there_in list i x e in omega arith

pub taken_from : {A : Type 0} (list : List A) (n j : ℕ) (x : A) → slice_get (take n list) j ≡ Some x → (j < n) × (slice_get list j ≡ Some x)
taken_from [] zero j x e = cc
taken_from [] (suc n) j x e = cc
taken_from (y ∷ list) zero j x e = cc
taken_from (y ∷ list) (suc n) zero x e = (omega arith, e)
taken_from (y ∷ list) (suc n) (suc j) x e = let h = taken_from list n j x e in (omega (arith, h.0), h.1)

still_taken : {A : Type 0} (list : List A) (n j : ℕ) (x : A) → j < n → slice_get list j ≡ Some x → slice_get (take n list) j ≡ Some x
still_taken [] n j x h e = cc
still_taken (y ∷ list) zero j x h e = absurd (omega arith)
still_taken (y ∷ list) (suc n) zero x h e = e
still_taken (y ∷ list) (suc n) (suc j) x h e = still_taken list n j x (omega arith) e

pub dropped_from : {A : Type 0} (list : List A) (n j : ℕ) → slice_get (drop n list) j ≡ slice_get list (n + j)
dropped_from list zero j = ap (λ k. slice_get list k) (omega arith)
dropped_from [] (suc n) j = let e : suc n + j ≡ suc (n + j) = omega arith in ap (λ k. slice_get [] k) (sym e)
dropped_from (y ∷ list) (suc n) j = let e : suc n + j ≡ suc (n + j) = omega arith in dropped_from list n j ∙ ap (λ k. slice_get (y ∷ list) k) (sym e)

-- ---- homes

set_length : (homes : List Home) (b i : ℕ) (result : Option ℕ) → length (set_home homes b i result) ≡ length homes
set_length homes b i None = refl
set_length homes b i (Some r) = length-set homes r (record { block = b; inst = i })

pub in_length : (b i : ℕ) (homes : List Home) (insts : List Inst) → length (homes_in b i homes insts) ≡ length homes
in_length b i homes [] = refl
in_length b i homes (inst ∷ insts) = in_length b (i + 1) (set_home homes b i inst.result) insts ∙ set_length homes b i inst.result

set_other : (homes : List Home) (b i r : ℕ) (d : Home) (result : Option ℕ) → (result ≡ Some r → ⊥) → get_or (set_home homes b i result) r d ≡ get_or homes r d
set_other homes b i r d None h = refl
set_other homes b i r d (Some s) h = get_or-set_other homes s r (record { block = b; inst = i }) d (λ e. h (ap (λ (n : ℕ). Some n) (sym e)))

set_here : (homes : List Home) (b i r : ℕ) (d : Home) (result : Option ℕ) → r < length homes → result ≡ Some r
    → get_or (set_home homes b i result) r d ≡ record { block = b; inst = i }
set_here homes b i r d None within e = cc
set_here homes b i r d (Some s) within e =
    let same : s ≡ r = cc in
    subst (λ (n : ℕ). get_or (set homes n (record { block = b; inst = i })) r d ≡ record { block = b; inst = i }) (sym same)
    (get_or-set_same homes r (record { block = b; inst = i }) d within)

-- none of the instructions gives the register
abbrev pub NoneGives : List Inst → ℕ → Type 0
NoneGives insts r = (k : ℕ) (inst : Inst) → slice_get insts k ≡ Some inst → inst.result ≡ Some r → ⊥

in_other : (b i r : ℕ) (d : Home) (homes : List Home) (insts : List Inst) → NoneGives insts r → get_or (homes_in b i homes insts) r d ≡ get_or homes r d
in_other b i r d homes [] h = refl
in_other b i r d homes (inst ∷ insts) h =
    in_other b (i + 1) r d (set_home homes b i inst.result) insts (λ k other at gives. h (suc k) other at gives)
    ∙ set_other homes b i r d inst.result (h 0 inst refl)

-- only this one of the instructions gives it
abbrev pub OnlyGives : List Inst → (k r : ℕ) → Type 0
OnlyGives insts k r = (j : ℕ) (other : Inst) → slice_get insts j ≡ Some other → other.result ≡ Some r → j ≡ k

rest_gives_none : (inst : Inst) (insts : List Inst) (r : ℕ) → OnlyGives (inst ∷ insts) 0 r → NoneGives insts r
rest_gives_none inst insts r only k other at gives = let e = only (suc k) other at gives in absurd (omega arith)

only_in_rest : (inst : Inst) (insts : List Inst) (k r : ℕ) → OnlyGives (inst ∷ insts) (suc k) r → OnlyGives insts k r
only_in_rest inst insts k r only j other at gives = let e = only (suc j) other at gives in omega arith

in_here : (b i k r : ℕ) (d : Home) (homes : List Home) (insts : List Inst) (inst : Inst) → slice_get insts k ≡ Some inst → inst.result ≡ Some r → r < length homes
    → OnlyGives insts k r → get_or (homes_in b i homes insts) r d ≡ record { block = b; inst = i + k }
in_here b i k r d homes [] inst at gives within only = cc
in_here b i zero r d homes (front ∷ insts) inst at gives within only =
    let same : front ≡ inst = cc in
    let given : front.result ≡ Some r = ap (λ (x : Inst). x.result) same ∙ gives in
    let n : i ≡ i + 0 = omega arith in
    in_other b (i + 1) r d (set_home homes b i front.result) insts (rest_gives_none front insts r only)
    ∙ set_here homes b i r d front.result within given
    ∙ ap (λ (m : ℕ). record { block = b; inst = m }) n
in_here b i (suc k) r d homes (front ∷ insts) inst at gives within only =
    let n : i + 1 + k ≡ i + suc k = omega arith in
    in_here b (i + 1) k r d (set_home homes b i front.result) insts inst at gives (subst (λ (m : ℕ). r < m) (sym (set_length homes b i front.result)) within)
    (only_in_rest front insts k r only)
    ∙ ap (λ (m : ℕ). record { block = b; inst = m }) n

-- none of the blocks has an instruction that gives it
abbrev pub NoBlockGives : List Inst → List Block → ℕ → Type 0
NoBlockGives insts blocks r = (k : ℕ) (block : Block) → slice_get blocks k ≡ Some block → NoneGives (block_insts insts block) r

from_other : (insts : List Inst) (b r : ℕ) (d : Home) (homes : List Home) (blocks : List Block) → NoBlockGives insts blocks r
    → get_or (homes_from insts b homes blocks) r d ≡ get_or homes r d
from_other insts b r d homes [] h = refl
from_other insts b r d homes (block ∷ blocks) h =
    from_other insts (b + 1) r d (homes_in b block.first homes (block_insts insts block)) blocks (λ k other at. h (suc k) other at)
    ∙ in_other b block.first r d homes (block_insts insts block) (h 0 block refl)

-- only instruction j of block k gives it
abbrev pub OnlyBlockGives : List Inst → List Block → (k j r : ℕ) → Type 0
OnlyBlockGives insts blocks k j r =
    (l : ℕ) (block : Block) (i : ℕ) (inst : Inst) → slice_get blocks l ≡ Some block → slice_get (block_insts insts block) i ≡ Some inst → inst.result ≡ Some r
    → (l ≡ k) × (i ≡ j)

from_here : (insts : List Inst) (b k j r : ℕ) (d : Home) (homes : List Home) (blocks : List Block) (block : Block) (inst : Inst)
    → slice_get blocks k ≡ Some block → slice_get (block_insts insts block) j ≡ Some inst → inst.result ≡ Some r → r < length homes
    → OnlyBlockGives insts blocks k j r → get_or (homes_from insts b homes blocks) r d ≡ record { block = b + k; inst = block.first + j }
from_here insts b k j r d homes [] block inst at there gives within only = cc
from_here insts b zero j r d homes (front ∷ blocks) block inst at there gives within only =
    let same : front ≡ block = cc in
    let given : slice_get (block_insts insts front) j ≡ Some inst = subst (λ (x : Block). slice_get (block_insts insts x) j ≡ Some inst) (sym same) there in
    let n : b ≡ b + 0 = omega arith in
    from_other insts (b + 1) r d (homes_in b front.first homes (block_insts insts front)) blocks
    (λ l other other_at i found found_at found_gives. let e = (only (suc l) other i found other_at found_at found_gives).0 in absurd (omega arith))
    ∙ in_here b front.first j r d homes (block_insts insts front) inst given gives within
    (λ i other other_at other_gives. (only 0 front i other refl other_at other_gives).1)
    ∙ ap (λ (m : ℕ). record { block = m; inst = front.first + j }) n
    ∙ ap (λ (x : Block). record { block = b + 0; inst = x.first + j }) same
from_here insts b (suc k) j r d homes (front ∷ blocks) block inst at there gives within only =
    let n : b + 1 + k ≡ b + suc k = omega arith in
    from_here insts (b + 1) k j r d (homes_in b front.first homes (block_insts insts front)) blocks block inst at there gives
    (subst (λ (m : ℕ). r < m) (sym (in_length b front.first homes (block_insts insts front))) within)
    (λ l other i found other_at found_at found_gives. let e = only (suc l) other i found other_at found_at found_gives in (omega (arith, e.0), e.1))
    ∙ ap (λ (m : ℕ). record { block = m; inst = block.first + j }) n

-- ---- the homes of a function

-- an instruction of a block is one of the function
pub in_function : (f : Function) (b : ℕ) (block : Block) (j : ℕ) (inst : Inst) → slice_get f.blocks b ≡ Some block → slice_get (block_insts f.insts block) j ≡ Some inst
    → IsIn f b (block.first + j) block inst
in_function f b block j inst at there =
    let t = taken_from (drop block.first f.insts) block.count j inst there in
    record { at = at; from = omega arith; to = omega (arith, t.0); there = sym (dropped_from f.insts block.first j) ∙ t.1 }

pub in_its_block : (f : Function) (b i : ℕ) (block : Block) (inst : Inst) → IsIn f b i block inst → slice_get (block_insts f.insts block) (i - block.first) ≡ Some inst
in_its_block f b i block inst h =
    let low = h.from in let high = h.to in
    let n : block.first + (i - block.first) ≡ i = omega arith in
    still_taken (drop block.first f.insts) block.count (i - block.first) inst (omega arith)
    (dropped_from f.insts block.first (i - block.first) ∙ ap (λ k. slice_get f.insts k) n ∙ h.there)

-- no two instructions give one register
abbrev pub GivenOnce : Function → Type 0
GivenOnce f = (i j r : ℕ) (inst other : Inst) → slice_get f.insts i ≡ Some inst → slice_get f.insts j ≡ Some other
    → inst.result ≡ Some r → other.result ≡ Some r → i ≡ j

only_it : (f : Function) → AreBlocksFrom f.insts 0 f.blocks → GivenOnce f → (b i r : ℕ) (block : Block) (inst : Inst) → IsIn f b i block inst → inst.result ≡ Some r
    → OnlyBlockGives f.insts f.blocks b (i - block.first) r
only_it f blocks once b i r block inst h gives l other j found at there given =
    let q = in_function f l other j found at there in
    let e : other.first + j ≡ i = once (other.first + j) i r found inst q.there h.there given gives in
    let same : l ≡ b = one_block f blocks l b (other.first + j) i other block found inst q h e in
    let one : slice_get f.blocks b ≡ Some other = subst (λ (n : ℕ). slice_get f.blocks n ≡ Some other) same at in
    let equal : other ≡ block = (let hat = h.at in cc) in
    let first : other.first ≡ block.first = ap (λ (x : Block). x.first) equal in
    (same, omega arith)

pub home_found : (f : Function) → AreBlocksFrom f.insts 0 f.blocks → GivenOnce f → (b i r : ℕ) (block : Block) (inst : Inst) → IsIn f b i block inst
    → inst.result ≡ Some r → r < length f.regs → home_of f (homes_of f) r ≡ record { block = b; inst = i }
home_found f blocks once b i r block inst h gives within =
    let low = h.from in
    let n : block.first + (i - block.first) ≡ i = omega arith in
    let z : 0 + b ≡ b = omega arith in
    from_here f.insts 0 b (i - block.first) r (no_home f) (replicate (length f.regs) (no_home f)) f.blocks block inst h.at (in_its_block f b i block inst h) gives
    (subst (λ (m : ℕ). r < m) (sym (length-replicate (length f.regs) (no_home f))) within) (only_it f blocks once b i r block inst h gives)
    ∙ ap (λ (m : ℕ). record { block = 0 + b; inst = m }) n ∙ ap (λ (m : ℕ). record { block = m; inst = i }) z
