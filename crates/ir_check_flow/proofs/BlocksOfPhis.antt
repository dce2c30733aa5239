-- The refusals for phis, block by block.
use Rattle.std.specs.Global.{Vec}
use Rattle.std.proofs.Common.{◌≡◌, ℕ, zero, suc, ◌+◌, ◌-◌, ◌<◌, ◌≤◌, ◌⊎◌, inl, inr, ◌↔◌, Bool, true, false, cond, ◌==◌, ltb, List, [], ◌∷◌, ◌++◌, take, drop, replicate, length, get_or, slice_get, Option, Some, None, refl, sym, subst, ap, ◌∙◌, arith, add-one}
use Rattle.std.proofs.Math.Seq.{take-suc, take-length}
use Rattle.std.proofs.lemmas.List.{length-take-le, length-map, length-replicate, get_or-map, get_or_default}
use Rattle.std.proofs.lemmas.Bool.{eqb-true}
use Rattle.std.proofs.lemmas.Bool.Decides.{nat_tests}
use Rattle.std.specs.List.{All, Contains}
use Rattle.ir_core.specs.declared.faults.Fault.TheVariants.{BadPhi}
use Rattle.ir_core.specs.declared.operands.PhiEntry.{PhiEntry}
use Rattle.ir_core.specs.declared.operations.Op.{Op}
use Rattle.ir_core.specs.declared.operations.Op.TheVariants as op
use Rattle.ir_core.specs.declared.refusals.Refusal.{Refusal}
use Rattle.ir_core.specs.declared.ir_module.Block.{Block}
use Rattle.ir_core.specs.declared.ir_module.Inst.{Inst}
use Rattle.ir_core.specs.declared.ir_module.Function.{Function}
use Rattle.ir_core.specs.declared.ir_module.Module.{Module}
use Rattle.ir_core.specs.ResolvedBodies.{IsResolvedFunction, IsResolvedOp}
use Rattle.ir_check_types.specs.Order.{refusal_at, earlier}
use Rattle.ir_check_flow.specs.First.{IsFirstOf}
use Rattle.ir_check_flow.specs.Flow.{IsIn, entries_of}
use Rattle.ir_check_flow.specs.Homes.{block_insts}
use Rattle.ir_check_flow.specs.Phis.{IsGoodPhi, IsBadPhi, bad_phi, IsBadIn, phi_places, IsBadAmong, predecessors_of}
use Rattle.ir_check_flow.specs.Spreading.{lists_of}
use Rattle.ir_check_flow.specs.Ways.{ways_of, Leads}
use Rattle.ir_check_flow.proofs.FirstOne.{same_first, first_of_both}
use Rattle.ir_check_flow.proofs.HomesFound.{in_function, in_its_block, taken_from, dropped_from}
use Rattle.ir_check_flow.proofs.OpenOnes.{front_there, back_there}
use Rattle.ir_check_flow.proofs.Marks.{leads_from}
use Rattle.ir_check_flow.proofs.PredecessorLists.{from_length, is_predecessor, predecessor_leads}
use Rattle.ir_check_flow.proofs.WaysInside.{ways_length}
use Rattle.ir_check_flow.proofs.UsesFound.{is_phi_entry, all_at}

-- ---- what a block's phis name is there

get_entry : (xs : List PhiEntry) (n : ℕ) (d : PhiEntry) → n < length xs → slice_get xs n ≡ Some (get_or xs n d)
get_entry [] n d h = absurd (omega arith)
get_entry (x ∷ xs) zero d h = refl
get_entry (x ∷ xs) (suc n) d h = get_entry xs n d (omega arith)

get_inst : (xs : List Inst) (n : ℕ) (d : Inst) → n < length xs → slice_get xs n ≡ Some (get_or xs n d)
get_inst [] n d h = absurd (omega arith)
get_inst (x ∷ xs) zero d h = refl
get_inst (x ∷ xs) (suc n) d h = get_inst xs n d (omega arith)

entries_inside : (m : Module) (f : Function) (o : Op) (count : ℕ) → IsResolvedOp m f o → length f.blocks ≤ count → All (λ entry. entry.block < count) (entries_of o)
entries_inside m f o count h few k d within =
    let e = get_entry (entries_of o) k d within in
    let i = (is_phi_entry m f o k (get_or (entries_of o) k d) h e).block in
    omega arith

block_entries : (m : Module) (f : Function) (insts : List Inst) (count : ℕ) → ((n : ℕ) (inst : Inst) → slice_get insts n ≡ Some inst → IsResolvedOp m f inst.op)
    → length f.blocks ≤ count → All (λ inst. All (λ entry. entry.block < count) (entries_of inst.op)) insts
block_entries m f insts count h few k d within =
    entries_inside m f (get_or insts k d).op count (h k (get_or insts k d) (get_inst insts k d within)) few

pub phis_inside : (m : Module) (f : Function) (block : Block) (count : ℕ) → IsResolvedFunction m f → length f.blocks ≤ count
    → All (λ inst. All (λ entry. entry.block < count) (entries_of inst.op)) (block_insts f.insts block)
phis_inside m f block count h few =
    block_entries m f (block_insts f.insts block) count
    (λ n inst at.
    let t = taken_from (drop block.first f.insts) block.count n inst at in
    all_at (λ (x : Inst). IsResolvedOp m f x.op) f.insts (block.first + n) inst h.instructions (sym (dropped_from f.insts block.first n) ∙ t.1))
    few

-- ---- predecessors

pub leads_here : (f : Function) (b : ℕ) (list : List ℕ) → b < length (ways_of f) → list ≡ get_or (predecessors_of (ways_of f)) b []
    → (p : ℕ) → Contains list p ↔ Leads (ways_of f) p b
leads_here f b list within e p = (
  λ h. predecessor_leads (ways_of f) b p within (subst (λ (l : List ℕ). Contains l p) e h),
  λ h. subst (λ (l : List ℕ). Contains l p) (sym e) (is_predecessor (ways_of f) b p within h),
)

-- ---- blocks

in_blocks : (f : Function) (xs ys : List Block) (r : Refusal) → IsBadAmong f xs r → IsBadAmong f (xs ++ ys) r
in_blocks f xs ys r h = record { number = h.number; block = h.block; there = front_there xs ys h.number h.block h.there; bad = h.bad }

-- the refusals of one block
abbrev pub IsBadAt : Function → ℕ → Block → Refusal → Type 0
IsBadAt f b block r = IsBadIn (λ from. Leads (ways_of f) from b) (phi_places b block) (block_insts f.insts block) r

last_block : (f : Function) (xs : List Block) (x : Block) (r : Refusal) → IsBadAt f (length xs) x r → IsBadAmong f (xs ++ x ∷ []) r
last_block f xs x r h =
    let n : length xs + 0 ≡ length xs = omega arith in
    record { number = length xs; block = x; there = subst (λ (k : ℕ). slice_get (xs ++ x ∷ []) k ≡ Some x) n (back_there xs (x ∷ []) 0 x refl); bad = h }

last_or_before : (xs : List Block) (x block : Block) (number : ℕ) → slice_get (xs ++ x ∷ []) number ≡ Some block
    → (slice_get xs number ≡ Some block) ⊎ ((number ≡ length xs) × (block ≡ x))
last_or_before [] x block zero e = inr (refl, cc)
last_or_before [] x block (suc number) e = cc
last_or_before (y ∷ xs) x block zero e = inl e
last_or_before (y ∷ xs) x block (suc number) e =
    elim (last_or_before xs x block number e) [ inl before ↦ inl before | inr last ↦ inr (omega (arith, last.0), last.1) ]

either_block : (f : Function) (xs : List Block) (x : Block) (r : Refusal) → IsBadAmong f (xs ++ x ∷ []) r → IsBadAmong f xs r ⊎ IsBadAt f (length xs) x r
either_block f xs x r h =
    elim (last_or_before xs x h.block h.number h.there) [
      | inl before ↦ inl (record { number = h.number; block = h.block; there = before; bad = h.bad })
      | inr last ↦ inr (subst (λ (b : Block). IsBadAt f (length xs) b r) last.1 (subst (λ (n : ℕ). IsBadAt f n h.block r) last.0 h.bad))
    ]

with_block : (f : Function) (xs : List Block) (x : Block) (a b : Option Refusal) → IsFirstOf (IsBadAmong f xs) a → IsFirstOf (IsBadAt f (length xs) x) b
    → IsFirstOf (IsBadAmong f (xs ++ x ∷ [])) (earlier a b)
with_block f xs x a b h k =
    same_first (λ r. IsBadAmong f xs r ⊎ IsBadAt f (length xs) x r) (IsBadAmong f (xs ++ x ∷ [])) (earlier a b)
    (λ r it. elim it [ inl p ↦ in_blocks f xs (x ∷ []) r p | inr q ↦ last_block f xs x r q ])
    (λ r it. either_block f xs x r it)
    (first_of_both (IsBadAmong f xs) (IsBadAt f (length xs) x) a b h k)

pub next_block : (f : Function) (blocks : List Block) (b : ℕ) (d : Block) (a c : Option Refusal) → b < length blocks
    → IsFirstOf (IsBadAmong f (take b blocks)) a → IsFirstOf (IsBadAt f b (get_or blocks b d)) c
    → IsFirstOf (IsBadAmong f (take (b + 1) blocks)) (earlier a c)
next_block f blocks b d a c there h k =
    let n : length (take b blocks) ≡ b = length-take-le b blocks (omega arith) in
    let list : take b blocks ++ get_or blocks b d ∷ [] ≡ take (b + 1) blocks = sym (ap (λ j. take j blocks) (add-one b) ∙ take-suc blocks b d there) in
    subst (λ (l : List Block). IsFirstOf (IsBadAmong f l) (earlier a c)) list
    (with_block f (take b blocks) (get_or blocks b d) a c h (subst (λ (j : ℕ). IsFirstOf (IsBadAt f j (get_or blocks b d)) c) (sym n) k))

pub no_block : (f : Function) → IsFirstOf (IsBadAmong f []) None
no_block f r h = cc (h.there)

-- ---- a function's phis

below : (a b : ℕ) → ltb a b ≡ true → a < b
below a b e = grind (arith, nat_tests)

places_below : (b : ℕ) (block : Block) (n : ℕ) → (t : Bool) → (b == 0) ≡ t → ltb n (cond t 0 block.phis) ≡ true → (0 < b) × (n < block.phis)
places_below b block n true e h = absurd (omega (arith, below n 0 h))
places_below b block n false e h = (grind (arith, nat_tests), below n block.phis h)

below_places : (b : ℕ) (block : Block) (n : ℕ) → (t : Bool) → (b == 0) ≡ t → 0 < b → n < block.phis → ltb n (cond t 0 block.phis) ≡ true
below_places b block n true e some h = let z = eqb-true b 0 e in absurd (omega arith)
below_places b block n false e some h = grind (arith, nat_tests)

to_bad : (f : Function) (r : Refusal) → IsBadAmong f f.blocks r → IsBadPhi f r
to_bad f r h =
    let inside = in_function f h.number h.block h.bad.number h.bad.inst h.there h.bad.there in
    subst (λ (x : Refusal). IsBadPhi f x) (sym h.bad.here.refused)
    (bad_phi h.number (h.block.first + h.bad.number) h.bad.here.ty h.block h.bad.inst h.bad.here.entries inside h.bad.here.is
    (λ good. let l = good.leading in
    h.bad.here.bad (below_places h.number h.block h.bad.number (h.number == 0) refl good.later (omega arith), good.entries_are)))

from_bad_phi : (f : Function) (b i ty : ℕ) (block : Block) (inst : Inst) (entries : List PhiEntry) → IsIn f b i block inst → inst.op ≡ op.Phi ty entries
    → (IsGoodPhi f b i block entries → ⊥) → IsBadAmong f f.blocks (refusal_at BadPhi inst.place)
from_bad_phi f b i ty block inst entries inside is bad =
    let low = inside.from in
    record {
      number = b;
      block = block;
      there = inside.at;
      bad = record {
        number = i - block.first;
        inst = inst;
        there = in_its_block f b i block inst inside;
        here = record {
          ty = ty;
          entries = entries;
          is = is;
          refused = refl;
          bad = λ it. let p = places_below b block (i - block.first) (b == 0) refl it.0 in
              bad (record { leading = let q = p.1 in omega arith; later = p.0; entries_are = it.1 });
        };
      };
    }

from_bad : (f : Function) (r : Refusal) → IsBadPhi f r → IsBadAmong f f.blocks r
from_bad f r (bad_phi b i ty block inst entries inside is bad) = from_bad_phi f b i ty block inst entries inside is bad

pub all_blocks : (f : Function) (b : ℕ) (a : Option Refusal) → b ≡ length f.blocks → IsFirstOf (IsBadAmong f (take b f.blocks)) a → IsFirstOf (IsBadPhi f) a
all_blocks f b a e h =
    same_first (IsBadAmong f f.blocks) (IsBadPhi f) a (to_bad f) (from_bad f)
    (subst (λ (l : List Block). IsFirstOf (IsBadAmong f l) a) (ap (λ j. take j f.blocks) e ∙ take-length f.blocks) h)

-- ---- lists of predecessors

pub predecessors_count : (f : Function) (lists : List (Vec ℕ)) → lists_of lists ≡ predecessors_of (ways_of f) → length lists ≡ length f.blocks
predecessors_count f lists e =
    sym (length-map lists (λ (v : Vec ℕ). v.items)) ∙ ap (λ (l : List (List ℕ)). length l) e
    ∙ from_length (replicate {A = List ℕ} (length (ways_of f)) []) 0 (ways_of f) ∙ length-replicate {A = List ℕ} (length (ways_of f)) [] ∙ ways_length f

pub predecessors_at : (f : Function) (lists : List (Vec ℕ)) (b : ℕ) (d : Vec ℕ) → lists_of lists ≡ predecessors_of (ways_of f) → b < length lists
    → (get_or lists b d).items ≡ get_or (predecessors_of (ways_of f)) b []
predecessors_at f lists b d e within =
    sym (get_or-map (λ (v : Vec ℕ). v.items) lists b d [] within) ∙ ap (λ (l : List (List ℕ)). get_or l b []) e

get_number : (xs : List ℕ) (n d : ℕ) → n < length xs → Contains xs (get_or xs n d)
get_number xs n d h = (n, h, get_or_default xs n (get_or xs n d) d h)

pub predecessors_inside : (f : Function) (b : ℕ) (list : List ℕ) → b < length f.blocks → list ≡ get_or (predecessors_of (ways_of f)) b []
    → All (λ from. from < length f.blocks) list
predecessors_inside f b list within e k d h =
    let n = ways_length f in
    let leads = (leads_here f b list (omega arith) e (get_or list k d)).0 (get_number list k d h) in
    let there = leads_from (ways_of f) (get_or list k d) b leads in
    omega arith
