-- The refusals for phis, one after the other.
use Rattle.std.proofs.Common.{◌≡◌, ℕ, zero, suc, ◌+◌, ◌<◌, ◌⊎◌, inl, inr, ◌↔◌, Bool, true, false, ◌&&◌, ltb, List, [], ◌∷◌, ◌++◌, take, length, get_or, slice_get, Option, Some, None, refl, sym, subst, ap, ◌∙◌, arith, add-one}
use Rattle.std.proofs.Math.Seq.{take-suc, take-length}
use Rattle.std.proofs.lemmas.List.{length-take-le}
use Rattle.std.specs.Bool.{IsTrue}
use Rattle.ir_core.specs.declared.faults.Fault.TheVariants.{BadPhi}
use Rattle.ir_core.specs.declared.operands.PhiEntry.{PhiEntry}
use Rattle.ir_core.specs.declared.operations.Op.TheVariants as op
use Rattle.ir_core.specs.declared.refusals.Place.{Place}
use Rattle.ir_core.specs.declared.refusals.Refusal.{Refusal}
use Rattle.ir_core.specs.declared.ir_module.Inst.{Inst}
use Rattle.ir_check_types.specs.Order.{refusal_at, unless, earlier}
use Rattle.ir_check_flow.specs.First.{IsFirstOf}
use Rattle.ir_check_flow.specs.Phis.{AreEntries, IsBadPhiWith, IsBadHere, IsBadIn}
use Rattle.ir_check_flow.proofs.OpenOnes.{front_there, back_there}
use Rattle.ir_check_flow.proofs.FirstOne.{same_first, first_of_both, first_unless}

both_parts : (a b : Bool) → IsTrue a → IsTrue b → (a && b) ≡ true
both_parts true b x y = y
both_parts false b x y = cc

parts_of : (a b : Bool) → (a && b) ≡ true → IsTrue a × IsTrue b
parts_of true b e = (refl, e)
parts_of false b e = cc

or_else : (t : Bool) → (t ≡ true) ⊎ (t ≡ false)
or_else true = inl refl
or_else false = inr refl

is_bad : (leads : ℕ → Type 0) (placed good : Bool) (entries : List PhiEntry) → IsTrue good ↔ AreEntries leads entries → (placed && good) ≡ false
    → IsTrue placed × AreEntries leads entries → ⊥
is_bad leads placed good entries means e h = let t = both_parts placed good h.0 (means.1 h.1) in cc

is_false : (leads : ℕ → Type 0) (placed good : Bool) (entries : List PhiEntry) → IsTrue good ↔ AreEntries leads entries
    → (IsTrue placed × AreEntries leads entries → ⊥) → (placed && good) ≡ true ⊎ ((placed && good) ≡ false) → (placed && good) ≡ false
is_false leads placed good entries means bad (inl e) = let t = parts_of placed good e in absurd (bad (t.0, means.0 t.1))
is_false leads placed good entries means bad (inr e) = e

pub entries_refused : (leads : ℕ → Type 0) (placed good : Bool) (entries : List PhiEntry) (place : Place) → IsTrue good ↔ AreEntries leads entries
    → IsFirstOf (IsBadPhiWith leads placed entries place) (unless (placed && good) BadPhi place)
entries_refused leads placed good entries place means =
    same_first (λ r. ((placed && good) ≡ false) × (r ≡ refusal_at BadPhi place)) (IsBadPhiWith leads placed entries place) (unless (placed && good) BadPhi place)
    (λ r h. record { bad = is_bad leads placed good entries means h.0; refused = h.1 })
    (λ r h. (is_false leads placed good entries means h.bad (or_else (placed && good)), h.refused))
    (first_unless (placed && good) BadPhi place)

pub phi_refused : (leads : ℕ → Type 0) (placed : Bool) (inst : Inst) (ty : ℕ) (entries : List PhiEntry) (found : Option Refusal) → inst.op ≡ op.Phi ty entries
    → IsFirstOf (IsBadPhiWith leads placed entries inst.place) found → IsFirstOf (IsBadHere leads placed inst) found
phi_refused leads placed inst ty entries found is h =
    same_first (IsBadPhiWith leads placed entries inst.place) (IsBadHere leads placed inst) found
    (λ r it. record { ty = ty; entries = entries; is = is; bad = it.bad; refused = it.refused })
    (λ r it. (let other = it.is in let same : entries ≡ it.entries = cc in
    record { bad = subst (λ (list : List PhiEntry). IsTrue placed × AreEntries leads list → ⊥) (sym same) it.bad; refused = it.refused }))
    h

-- ---- the phis of a block

in_front : (leads : ℕ → Type 0) (phis : ℕ) (xs ys : List Inst) (r : Refusal) → IsBadIn leads phis xs r → IsBadIn leads phis (xs ++ ys) r
in_front leads phis xs ys r h = record { number = h.number; inst = h.inst; there = front_there xs ys h.number h.inst h.there; here = h.here }

at_end : (leads : ℕ → Type 0) (phis : ℕ) (xs : List Inst) (x : Inst) (r : Refusal) → IsBadHere leads (ltb (length xs) phis) x r → IsBadIn leads phis (xs ++ x ∷ []) r
at_end leads phis xs x r h =
    let n : length xs + 0 ≡ length xs = omega arith in
    record { number = length xs; inst = x; there = subst (λ (k : ℕ). slice_get (xs ++ x ∷ []) k ≡ Some x) n (back_there xs (x ∷ []) 0 x refl); here = h }

last_or_before : (xs : List Inst) (x inst : Inst) (number : ℕ) → slice_get (xs ++ x ∷ []) number ≡ Some inst
    → (slice_get xs number ≡ Some inst) ⊎ ((number ≡ length xs) × (inst ≡ x))
last_or_before [] x inst zero e = inr (refl, cc)
last_or_before [] x inst (suc number) e = cc
last_or_before (y ∷ xs) x inst zero e = inl e
last_or_before (y ∷ xs) x inst (suc number) e =
    elim (last_or_before xs x inst number e) [ inl before ↦ inl before | inr last ↦ inr (omega (arith, last.0), last.1) ]

in_either : (leads : ℕ → Type 0) (phis : ℕ) (xs : List Inst) (x : Inst) (r : Refusal) → IsBadIn leads phis (xs ++ x ∷ []) r
    → IsBadIn leads phis xs r ⊎ IsBadHere leads (ltb (length xs) phis) x r
in_either leads phis xs x r h =
    elim (last_or_before xs x h.inst h.number h.there) [
      | inl before ↦ inl (record { number = h.number; inst = h.inst; there = before; here = h.here })
      | inr last ↦ inr (subst (λ (i : Inst). IsBadHere leads (ltb (length xs) phis) i r) last.1
          (subst (λ (n : ℕ). IsBadHere leads (ltb n phis) h.inst r) last.0 h.here))
    ]

with_last : (leads : ℕ → Type 0) (phis : ℕ) (xs : List Inst) (x : Inst) (a b : Option Refusal) → IsFirstOf (IsBadIn leads phis xs) a
    → IsFirstOf (IsBadHere leads (ltb (length xs) phis) x) b → IsFirstOf (IsBadIn leads phis (xs ++ x ∷ [])) (earlier a b)
with_last leads phis xs x a b h k =
    same_first (λ r. IsBadIn leads phis xs r ⊎ IsBadHere leads (ltb (length xs) phis) x r) (IsBadIn leads phis (xs ++ x ∷ [])) (earlier a b)
    (λ r it. elim it [ inl p ↦ in_front leads phis xs (x ∷ []) r p | inr q ↦ at_end leads phis xs x r q ])
    (λ r it. in_either leads phis xs x r it)
    (first_of_both (IsBadIn leads phis xs) (IsBadHere leads (ltb (length xs) phis) x) a b h k)

pub next_phi : (leads : ℕ → Type 0) (phis : ℕ) (insts : List Inst) (i : ℕ) (inst : Inst) (a b : Option Refusal) → i < length insts → inst ≡ get_or insts i inst
    → IsFirstOf (IsBadIn leads phis (take i insts)) a → IsFirstOf (IsBadHere leads (ltb i phis) inst) b
    → IsFirstOf (IsBadIn leads phis (take (i + 1) insts)) (earlier a b)
next_phi leads phis insts i inst a b there at h k =
    let n : length (take i insts) ≡ i = length-take-le i insts (omega arith) in
    let list : take i insts ++ inst ∷ [] ≡ take (i + 1) insts =
    ap (λ (x : Inst). take i insts ++ x ∷ []) at ∙ sym (ap (λ j. take j insts) (add-one i) ∙ take-suc insts i inst there) in
    subst (λ (l : List Inst). IsFirstOf (IsBadIn leads phis l) (earlier a b)) list
    (with_last leads phis (take i insts) inst a b h (subst (λ (m : ℕ). IsFirstOf (IsBadHere leads (ltb m phis) inst) b) (sym n) k))

pub no_phi : (leads : ℕ → Type 0) (phis : ℕ) → IsFirstOf (IsBadIn leads phis []) None
no_phi leads phis r h = cc (h.there)

pub all_phis : (leads : ℕ → Type 0) (phis i : ℕ) (insts : List Inst) (a : Option Refusal) → i ≡ length insts → IsFirstOf (IsBadIn leads phis (take i insts)) a
    → IsFirstOf (IsBadIn leads phis insts) a
all_phis leads phis i insts a e h =
    subst (λ (l : List Inst). IsFirstOf (IsBadIn leads phis l) a) (ap (λ j. take j insts) e ∙ take-length insts) h

-- ---- which blocks lead to a block

same_entries : (L K : ℕ → Type 0) (entries : List PhiEntry) → ((p : ℕ) → L p ↔ K p) → AreEntries L entries → AreEntries K entries
same_entries L K entries e h = record {
  each = λ p k. h.each p ((e p).1 k);
  only = λ n entry at. (e entry.block).0 (h.only n entry at);
  same = h.same;
}

flipped : (L K : ℕ → Type 0) → ((p : ℕ) → L p ↔ K p) → (p : ℕ) → K p ↔ L p
flipped L K e p = ((e p).1, (e p).0)

pub same_bad : (L K : ℕ → Type 0) (phis : ℕ) (insts : List Inst) → ((p : ℕ) → L p ↔ K p) → (r : Refusal) → IsBadIn L phis insts r → IsBadIn K phis insts r
same_bad L K phis insts e r h = record {
  number = h.number;
  inst = h.inst;
  there = h.there;
  here = record {
    ty = h.here.ty;
    entries = h.here.entries;
    is = h.here.is;
    refused = h.here.refused;
    bad = λ it. h.here.bad (it.0, same_entries K L h.here.entries (flipped L K e) it.1);
  };
}

pub first_bad : (L K : ℕ → Type 0) (phis : ℕ) (insts : List Inst) (found : Option Refusal) → ((p : ℕ) → L p ↔ K p)
    → IsFirstOf (IsBadIn L phis insts) found → IsFirstOf (IsBadIn K phis insts) found
first_bad L K phis insts found e h =
    same_first (IsBadIn L phis insts) (IsBadIn K phis insts) found (same_bad L K phis insts e) (same_bad K L phis insts (flipped L K e)) h
