-- The limits on sizes, from one variable or size to the next.
use Rattle.std.proofs.Math.Seq.{drop-cons}
use Rattle.std.proofs.Common.{arith, add-one, ◌≡◌, ℕ, zero, suc, ◌+◌, ◌<◌, ◌≤◌, List, ◌∷◌, length, drop, get_or, Bool, true, false, cond, nat_le, ◌&&◌, Option, Some, None, refl, ap, sym, ◌∙◌}
use Rattle.std.specs.List.{list_all}
use Rattle.hw_base.specs.AddressMap.{rounded_size}
use Rattle.hw_base.specs.declared.numbers.TheConstants.{MOST_GLOBALS}
use Rattle.ir_core.specs.declared.faults.Limit.TheVariants.{Globals}
use Rattle.ir_core.specs.declared.faults.Fault.TheVariants.{TooLarge}
use Rattle.ir_core.specs.declared.refusals.Refusal.{Refusal}
use Rattle.ir_core.specs.declared.ir_module.GlobalVar.{GlobalVar}
use Rattle.ir_core.specs.declared.ir_module.Module.{Module}
use Rattle.ir_core.specs.NumberTypes.{alloc_size}
use Rattle.ir_check_types.specs.Order.{refusal_at}
use Rattle.ir_check_flow.specs.Limits.{globals_limit, is_small_size}

next_of : {A : Type 0} (list : List A) (i : ℕ) (d : A) → i < length list → drop i list ≡ get_or list i d ∷ drop (i + 1) list
next_of list i d h = drop-cons list i d h ∙ ap (λ k. get_or list i d ∷ drop k list) (sym (add-one i))

-- ---- rounded sizes

pub size_in_rounded : (size : ℕ) → size ≤ rounded_size size
size_in_rounded zero = omega arith
size_in_rounded (suc n) = omega arith

-- ---- sums

pub if_some : (b : Bool) (s sum : ℕ) → Some sum ≡ cond b (Some s) None → (b ≡ true) × (sum ≡ s)
if_some true s sum e = (refl, cc)
if_some false s sum e = cc

pub if_none : (b : Bool) (s : ℕ) → None ≡ cond b (Some s) None → b ≡ false
if_none true s e = cc
if_none false s e = refl

if_true : {A : Type 0} (b : Bool) (x y : A) → b ≡ true → cond b x y ≡ x
if_true true x y e = refl
if_true false x y e = cc

if_false : {A : Type 0} (b : Bool) (x y : A) → b ≡ false → cond b x y ≡ y
if_false true x y e = cc
if_false false x y e = refl

pub sum_with : (m : Module) → (total : ℕ) → GlobalVar → ℕ
sum_with m total g = total + rounded_size (alloc_size m g.ty)

pub one_more : (m : Module) (total sum : ℕ) (globals : List GlobalVar) (i : ℕ) (d : GlobalVar) (x : Option Refusal) → i < length globals
    → Some sum ≡ cond (nat_le (total + rounded_size (alloc_size m (get_or globals i d).ty)) MOST_GLOBALS) (Some (total + rounded_size (alloc_size m (get_or globals i d).ty))) None
    → globals_limit m total (drop i globals) ≡ x → globals_limit m sum (drop (i + 1) globals) ≡ x
one_more m total sum globals i d x h found e =
    let g : GlobalVar = get_or globals i d in
    let two = if_some (nat_le (total + rounded_size (alloc_size m g.ty)) MOST_GLOBALS) (total + rounded_size (alloc_size m g.ty)) sum found in
    let here : globals_limit m total (g ∷ drop (i + 1) globals) ≡ globals_limit m (total + rounded_size (alloc_size m g.ty)) (drop (i + 1) globals) =
    if_true (nat_le (total + rounded_size (alloc_size m g.ty)) MOST_GLOBALS) _ _ two.0 in
    ap (λ s. globals_limit m s (drop (i + 1) globals)) two.1 ∙ sym here ∙ sym (ap (λ (l : List GlobalVar). globals_limit m total l) (next_of globals i d h)) ∙ e

pub too_large_here : (m : Module) (total : ℕ) (globals : List GlobalVar) (i : ℕ) (d : GlobalVar) (x : Option Refusal) → i < length globals
    → None ≡ cond (nat_le (total + rounded_size (alloc_size m (get_or globals i d).ty)) MOST_GLOBALS) (Some (total + rounded_size (alloc_size m (get_or globals i d).ty))) None
    → globals_limit m total (drop i globals) ≡ x → Some (refusal_at (TooLarge Globals) (get_or globals i d).place) ≡ x
too_large_here m total globals i d x h found e =
    let g : GlobalVar = get_or globals i d in
    let no = if_none (nat_le (total + rounded_size (alloc_size m g.ty)) MOST_GLOBALS) (total + rounded_size (alloc_size m g.ty)) found in
    let here : globals_limit m total (g ∷ drop (i + 1) globals) ≡ Some (refusal_at (TooLarge Globals) g.place) =
    if_false (nat_le (total + rounded_size (alloc_size m g.ty)) MOST_GLOBALS) _ _ no in
    sym here ∙ sym (ap (λ (l : List GlobalVar). globals_limit m total l) (next_of globals i d h)) ∙ e

-- ---- sizes

and_true : (a b : Bool) → a ≡ true → (a && b) ≡ b
and_true true b e = refl
and_true false b e = cc

and_false : (a b : Bool) → a ≡ false → (a && b) ≡ false
and_false true b e = cc
and_false false b e = refl

pub size_more : (sizes : List ℕ) (i : ℕ) (x : Bool) → i < length sizes → is_small_size (get_or sizes i 0) ≡ true
    → list_all is_small_size (drop i sizes) ≡ x → list_all is_small_size (drop (i + 1) sizes) ≡ x
size_more sizes i x h small e =
    sym (and_true (is_small_size (get_or sizes i 0)) (list_all is_small_size (drop (i + 1) sizes)) small)
    ∙ sym (ap (λ (l : List ℕ). list_all is_small_size l) (next_of sizes i 0 h)) ∙ e

pub large_here : (sizes : List ℕ) (i : ℕ) (x : Bool) → i < length sizes → is_small_size (get_or sizes i 0) ≡ false
    → list_all is_small_size (drop i sizes) ≡ x → false ≡ x
large_here sizes i x h large e =
    sym (and_false (is_small_size (get_or sizes i 0)) (list_all is_small_size (drop (i + 1) sizes)) large)
    ∙ sym (ap (λ (l : List ℕ). list_all is_small_size l) (next_of sizes i 0 h)) ∙ e
