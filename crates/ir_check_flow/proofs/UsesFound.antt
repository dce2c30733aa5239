-- The open questions of a resolved function are its undefined uses.
use Rattle.std.proofs.Common.{◌≡◌, ℕ, zero, suc, ◌<◌, ◌≤◌, inl, inr, Bool, true, false, ◌&&◌, ◌==◌, ltb, List, [], ◌∷◌, length, slice_get, Option, Some, None, refl, sym, subst, ap, ◌∙◌, arith}
use Rattle.std.proofs.lemmas.Bool.{eqb-true, eq-eqb}
use Rattle.std.proofs.lemmas.Bool.Decides.{nat_tests}
use Rattle.std.specs.List.{All}
use Rattle.std.specs.Option.{IfSome, option_to_list}
use Rattle.ir_core.specs.declared.faults.Fault.TheVariants.{NotOnEveryPath}
use Rattle.ir_core.specs.declared.operands.Operand.{Operand}
use Rattle.ir_core.specs.declared.operands.Operand.TheVariants.{Reg}
use Rattle.ir_core.specs.declared.operands.Placed.{Placed}
use Rattle.ir_core.specs.declared.operands.PhiEntry.{PhiEntry}
use Rattle.ir_core.specs.declared.operations.Op.{Op}
use Rattle.ir_core.specs.declared.operations.Op.TheVariants as op
use Rattle.ir_core.specs.declared.refusals.Refusal.{Refusal}
use Rattle.ir_core.specs.declared.ir_module.Block.{Block}
use Rattle.ir_core.specs.declared.ir_module.Inst.{Inst}
use Rattle.ir_core.specs.declared.ir_module.Function.{Function}
use Rattle.ir_core.specs.declared.ir_module.Module.{Module}
use Rattle.ir_core.specs.ResolvedBodies.{IsResolvedFunction, IsResolvedOp, IsResolvedPlaced, IsResolvedOperand, IsResolvedEntry}
use Rattle.ir_check_types.specs.Order.{refusal_at}
use Rattle.ir_check_flow.specs.declared.home.Home.{Home}
use Rattle.ir_check_flow.specs.declared.question.Question.{Question}
use Rattle.ir_check_flow.specs.Answering.{NoneIs, IsOpenQuestion, IsOpenAmong}
use Rattle.ir_check_flow.specs.First.{IsFirstOf}
use Rattle.ir_check_flow.specs.Flow.{operands_of, entries_of, IsIn, Defines, IsUndefinedAt, IsNotBefore, IsUndefinedUse, use_in_block, use_in_phi}
use Rattle.ir_check_flow.specs.Homes.{homes_of, home_of}
use Rattle.ir_check_flow.specs.Questions.{operand_questions, entry_questions, placed_questions, phi_questions, inst_questions, questions_of}
use Rattle.ir_check_flow.specs.Ways.{ways_of}
use Rattle.ir_check_flow.proofs.AskedUses.{Has, in_front, in_back, in_either, in_flat, IsFromFlat, from_flat, KnownHome, known_home, home_of_definition, none_defines, none_is_home, is_definition, operand_asked, entry_asked, asks_register, asks_at_end, asked_at, at_asked}
use Rattle.ir_check_flow.proofs.FirstOne.{same_first}

-- ---- what is used is there

pub all_at : {A : Type 0} (P : A → Type 0) (xs : List A) (n : ℕ) (x : A) → All P xs → slice_get xs n ≡ Some x → P x
all_at P [] n x all e = cc
all_at P (y ∷ xs) zero x all e = let same : y ≡ x = cc in subst P same (all 0 y (omega arith))
all_at P (y ∷ xs) (suc n) x all e = all_at P xs n x (λ k d h. all (suc k) d (omega arith)) e

first_at : {A : Type 0} (P : A → Type 0) (y : A) (xs : List A) (n : ℕ) (x : A) → P y → ((m : ℕ) → slice_get xs m ≡ Some x → P x) → slice_get (y ∷ xs) n ≡ Some x → P x
first_at P y xs zero x here rest e = let same : y ≡ x = cc in subst P same here
first_at P y xs (suc n) x here rest e = rest n e

none_at : {A : Type 0} (P : A → Type 0) (n : ℕ) (x : A) → slice_get [] n ≡ Some x → P x
none_at P n x e = cc

one_at : {A : Type 0} (P : A → Type 0) (y : A) (n : ℕ) (x : A) → P y → slice_get (y ∷ []) n ≡ Some x → P x
one_at P y n x here e = first_at P y [] n x here (λ m h. none_at P m x h) e

two_at : {A : Type 0} (P : A → Type 0) (y z : A) (n : ℕ) (x : A) → P y → P z → slice_get (y ∷ z ∷ []) n ≡ Some x → P x
two_at P y z n x here then e = first_at P y (z ∷ []) n x here (λ m h. one_at P z m x then h) e

three_at : {A : Type 0} (P : A → Type 0) (y z w : A) (n : ℕ) (x : A) → P y → P z → P w → slice_get (y ∷ z ∷ w ∷ []) n ≡ Some x → P x
three_at P y z w n x here then last e = first_at P y (z ∷ w ∷ []) n x here (λ m h. two_at P z w m x then last h) e

some_at : {A : Type 0} (P : A → Type 0) (option : Option A) (n : ℕ) (x : A) → IfSome option P → slice_get (option_to_list option) n ≡ Some x → P x
some_at P None n x h e = none_at P n x e
some_at P (Some y) n x h e = one_at P y n x h e

operand_there : (m : Module) (f : Function) (o : Op) (n : ℕ) (placed : Placed) → IsResolvedOp m f o → slice_get (operands_of o) n ≡ Some placed → IsResolvedPlaced m f placed
operand_there m f (op.Binary kind a b) n placed h e = two_at (IsResolvedPlaced m f) a b n placed h.0 h.1 e
operand_there m f (op.Icmp pred a b) n placed h e = two_at (IsResolvedPlaced m f) a b n placed h.0 h.1 e
operand_there m f (op.Cast kind a to) n placed h e = one_at (IsResolvedPlaced m f) a n placed h.0 e
operand_there m f (op.Select cond a b) n placed h e = three_at (IsResolvedPlaced m f) cond a b n placed h.0 h.1 h.2 e
operand_there m f (op.Freeze a) n placed h e = one_at (IsResolvedPlaced m f) a n placed h e
operand_there m f (op.Phi ty entries) n placed h e = none_at (IsResolvedPlaced m f) n placed e
operand_there m f (op.Alloca index ty count) n placed h e = some_at (IsResolvedPlaced m f) count n placed h.2 e
operand_there m f (op.Load ty at align) n placed h e = one_at (IsResolvedPlaced m f) at n placed h.1 e
operand_there m f (op.Store value at align) n placed h e = two_at (IsResolvedPlaced m f) value at n placed h.0 h.1 e
operand_there m f (op.Gep ty base indices) n placed h e =
    first_at (IsResolvedPlaced m f) base indices n placed h.1 (λ k there. all_at (IsResolvedPlaced m f) indices k placed h.2 there) e
operand_there m f op.Fence n placed h e = none_at (IsResolvedPlaced m f) n placed e
operand_there m f (op.Rmw kind at value align) n placed h e = two_at (IsResolvedPlaced m f) at value n placed h.0 h.1 e
operand_there m f (op.CmpXchg at expected new align) n placed h e = three_at (IsResolvedPlaced m f) at expected new n placed h.0 h.1 h.2 e
operand_there m f (op.ExtractValue pair part) n placed h e = one_at (IsResolvedPlaced m f) pair n placed h e
operand_there m f (op.Call func result args) n placed h e = all_at (IsResolvedPlaced m f) args n placed h.2 e
operand_there m f (op.CallLib declare result args start) n placed h e = all_at (IsResolvedPlaced m f) args n placed h.2 e
operand_there m f (op.Br block) n placed h e = none_at (IsResolvedPlaced m f) n placed e
operand_there m f (op.BrIf cond yes_block no_block) n placed h e = one_at (IsResolvedPlaced m f) cond n placed h.0 e
operand_there m f (op.Switch on other cases) n placed h e = one_at (IsResolvedPlaced m f) on n placed h.0 e
operand_there m f (op.Ret value) n placed h e = some_at (IsResolvedPlaced m f) value n placed h e
operand_there m f op.Unreachable n placed h e = none_at (IsResolvedPlaced m f) n placed e

pub is_phi_entry : (m : Module) (f : Function) (o : Op) (n : ℕ) (entry : PhiEntry) → IsResolvedOp m f o → slice_get (entries_of o) n ≡ Some entry → IsResolvedEntry m f entry
is_phi_entry m f (op.Phi ty entries) n entry h e = all_at (IsResolvedEntry m f) entries n entry h.1 e
is_phi_entry m f other n entry h e = cc

register_below : (m : Module) (f : Function) (operand : Operand) (r : ℕ) → operand ≡ Reg r → IsResolvedOperand m f operand → r < length f.regs
register_below m f operand r e h = let P : Operand → Type 0 = IsResolvedOperand m f in let k : P (Reg r) = subst P e h in k

result_below : (m : Module) (f : Function) → IsResolvedFunction m f → (i r : ℕ) (inst : Inst) → slice_get f.insts i ≡ Some inst → inst.result ≡ Some r → r < length f.regs
result_below m f h i r inst at gives = (h.registers.result i r inst at gives).1

-- ---- an open question is an undefined use

is_less : (a b : ℕ) → a < b → ltb a b ≡ true
is_less a b h = grind (arith, nat_tests)

both_true : (a b : Bool) → a ≡ true → b ≡ true → (a && b) ≡ false → ⊥
both_true true true x y e = cc
both_true true false x y e = cc
both_true false b x y e = cc

never_before : (m : Module) (f : Function) → IsResolvedFunction m f → (b i r : ℕ) (block : Block) (inst : Inst) → IsIn f b i block inst
    → ((home_of f (homes_of f) r).block == b && ltb (home_of f (homes_of f) r).inst i) ≡ false → IsNotBefore f r block i
never_before m f h b i r block inst inside e j other low less at gives =
    let high = inside.to in
    let here : IsIn f b j block other = record { at = inside.at; from = low; to = omega arith; there = at } in
    let home = home_of_definition m f h r b (result_below m f h j r other at gives) (record { block = block; place = j; inst = other; inside = here; gives = gives }) in
    let same : (home_of f (homes_of f) r).block ≡ b = ap (λ (x : Home). x.block) home in
    let place : (home_of f (homes_of f) r).inst ≡ j = ap (λ (x : Home). x.inst) home in
    let one : ((home_of f (homes_of f) r).block == b) ≡ true = eq-eqb (home_of f (homes_of f) r).block b same in
    let two : ltb (home_of f (homes_of f) r).inst i ≡ true = is_less (home_of f (homes_of f) r).inst i (omega arith) in
    both_true ((home_of f (homes_of f) r).block == b) (ltb (home_of f (homes_of f) r).inst i) one two e

undefined_at : (m : Module) (f : Function) → IsResolvedFunction m f → (r b : ℕ) (q : Question) → q.home ≡ (home_of f (homes_of f) r).block → q.at ≡ b
    → IsOpenQuestion (ways_of f) q → IsUndefinedAt f r b
undefined_at m f h r b q home at o =
    subst (λ (n : ℕ). IsUndefinedAt f r n) at
    (record { before = o.before; path = o.path; none = none_defines m f h r o.before (subst (λ (n : ℕ). NoneIs n o.before) home o.none) })

not_there : (a b : ℕ) → (a == b) ≡ false → a ≡ b → ⊥
not_there a b e same = let t = eq-eqb a b same in cc

less_than : (a b : ℕ) → ltb a b ≡ true → a < b
less_than a b e = grind (arith, nat_tests)

differs_by : (a b : ℕ) (t : Bool) → (a == b) ≡ t → (a ≡ b → ⊥) → (a == b) ≡ false
differs_by a b true e h = absurd (h (eqb-true a b e))
differs_by a b false e h = e

differs : (a b : ℕ) → (a ≡ b → ⊥) → (a == b) ≡ false
differs a b h = differs_by a b (a == b) refl h

use_found : (m : Module) (f : Function) → IsResolvedFunction m f → (b i : ℕ) (block : Block) (inst : Inst) (q : Question) → IsIn f b i block inst
    → IsFromFlat (λ (placed : Placed). operand_questions f (homes_of f) b i placed.place placed.operand) (operands_of inst.op) q
    → IsOpenQuestion (ways_of f) q → IsUndefinedUse f (refusal_at NotOnEveryPath q.place)
use_found m f h b i block inst q inside from o =
    let a = operand_asked f b i from.from.place from.from.operand q from.has in
    let place : from.from.place ≡ q.place = sym (ap (λ (x : Question). x.place) a.asked.is) in
    subst (λ p. IsUndefinedUse f (refusal_at NotOnEveryPath p)) place
    (use_in_block b i from.number block inst from.from a.register inside from.there a.operand_is a.later
    (never_before m f h b i a.register block inst inside a.not_before)
    (undefined_at m f h a.register b q (ap (λ (x : Question). x.home) a.asked.is) (ap (λ (x : Question). x.at) a.asked.is) o))

phi_found : (m : Module) (f : Function) → IsResolvedFunction m f → (b i : ℕ) (block : Block) (inst : Inst) (q : Question) → IsIn f b i block inst
    → IsFromFlat (λ (entry : PhiEntry). entry_questions f (homes_of f) entry.block entry.value.place entry.value.operand) (entries_of inst.op) q
    → IsOpenQuestion (ways_of f) q → IsUndefinedUse f (refusal_at NotOnEveryPath q.place)
phi_found m f h b i block inst q inside from o =
    let a = entry_asked f from.from.block from.from.value.place from.from.value.operand q from.has in
    let place : from.from.value.place ≡ q.place = sym (ap (λ (x : Question). x.place) a.asked.is) in
    subst (λ p. IsUndefinedUse f (refusal_at NotOnEveryPath p)) place
    (use_in_phi b i from.number block inst from.from a.register inside from.there a.operand_is a.later
    (λ d. not_there (home_of f (homes_of f) a.register).block from.from.block a.elsewhere
    (ap (λ (x : Home). x.block) (home_of_definition m f h a.register from.from.block (h.registers.result d.place a.register d.inst d.inside.there d.gives).1 d)))
    (undefined_at m f h a.register from.from.block q (ap (λ (x : Question). x.home) a.asked.is) (ap (λ (x : Question). x.at) a.asked.is) o))

to_undefined : (m : Module) (f : Function) → IsResolvedFunction m f → (r : Refusal) → IsOpenAmong (ways_of f) (questions_of f) r → IsUndefinedUse f r
unfolding inst_questions
to_undefined m f h r o =
    let a = asked_at f o.question (o.number, o.there) in
    subst (λ (x : Refusal). IsUndefinedUse f x) (sym o.refused)
    (elim (in_either (placed_questions f (homes_of f) a.b a.i (operands_of a.inst.op)) (phi_questions f (homes_of f) (entries_of a.inst.op)) o.question a.has) [
      | inl here ↦ use_found m f h a.b a.i a.block a.inst o.question a.inside
          (from_flat (λ (placed : Placed). operand_questions f (homes_of f) a.b a.i placed.place placed.operand) (operands_of a.inst.op) o.question here) o.open_one
      | inr there ↦ phi_found m f h a.b a.i a.block a.inst o.question a.inside
          (from_flat (λ (entry : PhiEntry). entry_questions f (homes_of f) entry.block entry.value.place entry.value.operand) (entries_of a.inst.op) o.question there) o.open_one
    ])

-- ---- an undefined use is an open question

is_later : (f : Function) (r b i : ℕ) (block : Block) (k : KnownHome f r) → slice_get f.blocks b ≡ Some block → IsNotBefore f r block i → (s t : Bool)
    → ((home_of f (homes_of f) r).block == b) ≡ s → ltb (home_of f (homes_of f) r).inst i ≡ t → (s && t) ≡ false
is_later f r b i block k at never false t x y = refl
is_later f r b i block k at never true false x y = refl
is_later f r b i block k at never true true x y =
    let home : (home_of f (homes_of f) r).block ≡ b = eqb-true (home_of f (homes_of f) r).block b x in
    let same : k.b ≡ b = sym (ap (λ (v : Home). v.block) k.home) ∙ home in
    let place : (home_of f (homes_of f) r).inst ≡ k.i = ap (λ (v : Home). v.inst) k.home in
    let less : (home_of f (homes_of f) r).inst < i = less_than (home_of f (homes_of f) r).inst i y in
    let one : slice_get f.blocks b ≡ Some k.block = subst (λ (n : ℕ). slice_get f.blocks n ≡ Some k.block) same k.inside.at in
    let equal : k.block ≡ block = cc in
    let low = k.inside.from in
    let first : k.block.first ≡ block.first = ap (λ (v : Block). v.first) equal in
    absurd (never k.i k.inst (omega arith) (omega arith) k.inside.there k.gives)

from_use : (m : Module) (f : Function) → IsResolvedFunction m f → (b i n : ℕ) (block : Block) (inst : Inst) (placed : Placed) (r : ℕ) → IsIn f b i block inst
    → slice_get (operands_of inst.op) n ≡ Some placed → placed.operand ≡ Reg r → f.params ≤ r → IsNotBefore f r block i → IsUndefinedAt f r b
    → IsOpenAmong (ways_of f) (questions_of f) (refusal_at NotOnEveryPath placed.place)
unfolding inst_questions
from_use m f h b i n block inst placed r inside there is low never undefined =
    let resolved : IsResolvedOp m f inst.op = all_at (λ (x : Inst). IsResolvedOp m f x.op) f.insts i inst h.instructions inside.there in
    let high : r < length f.regs = register_below m f placed.operand r is (operand_there m f inst.op n placed resolved there).operand in
    let k = known_home m f h r low high in
    let later : ((home_of f (homes_of f) r).block == b && ltb (home_of f (homes_of f) r).inst i) ≡ false =
    is_later f r b i block k inside.at never ((home_of f (homes_of f) r).block == b) (ltb (home_of f (homes_of f) r).inst i) refl refl in
    let q : Question = record { home = (home_of f (homes_of f) r).block; at = b; place = placed.place } in
    let asked : Has (operand_questions f (homes_of f) b i placed.place placed.operand) q =
    subst (λ (x : Operand). Has (operand_questions f (homes_of f) b i placed.place x) q) (sym is) (asks_register f b i r placed.place low later) in
    let listed = at_asked f b i block inst q inside
    (in_front (placed_questions f (homes_of f) b i (operands_of inst.op)) (phi_questions f (homes_of f) (entries_of inst.op)) q
    (in_flat (λ (x : Placed). operand_questions f (homes_of f) b i x.place x.operand) (operands_of inst.op) n placed q there asked)) in
    record {
      number = listed.0;
      question = q;
      there = listed.1;
      refused = refl;
      open_one = record { before = undefined.before; path = undefined.path; none = none_is_home f r k undefined.before undefined.none };
    }

from_phi : (m : Module) (f : Function) → IsResolvedFunction m f → (b i n : ℕ) (block : Block) (inst : Inst) (entry : PhiEntry) (r : ℕ) → IsIn f b i block inst
    → slice_get (entries_of inst.op) n ≡ Some entry → entry.value.operand ≡ Reg r → f.params ≤ r → (Defines f r entry.block → ⊥) → IsUndefinedAt f r entry.block
    → IsOpenAmong (ways_of f) (questions_of f) (refusal_at NotOnEveryPath entry.value.place)
unfolding inst_questions
from_phi m f h b i n block inst entry r inside there is low nowhere undefined =
    let resolved : IsResolvedOp m f inst.op = all_at (λ (x : Inst). IsResolvedOp m f x.op) f.insts i inst h.instructions inside.there in
    let high : r < length f.regs = register_below m f entry.value.operand r is (is_phi_entry m f inst.op n entry resolved there).value.operand in
    let k = known_home m f h r low high in
    let elsewhere : ((home_of f (homes_of f) r).block == entry.block) ≡ false =
    differs (home_of f (homes_of f) r).block entry.block (λ e. nowhere (is_definition f r entry.block k e)) in
    let q : Question = record { home = (home_of f (homes_of f) r).block; at = entry.block; place = entry.value.place } in
    let asked : Has (entry_questions f (homes_of f) entry.block entry.value.place entry.value.operand) q =
    subst (λ (x : Operand). Has (entry_questions f (homes_of f) entry.block entry.value.place x) q) (sym is) (asks_at_end f entry.block r entry.value.place low elsewhere) in
    let listed = at_asked f b i block inst q inside
    (in_back (placed_questions f (homes_of f) b i (operands_of inst.op)) (phi_questions f (homes_of f) (entries_of inst.op)) q
    (in_flat (λ (x : PhiEntry). entry_questions f (homes_of f) x.block x.value.place x.value.operand) (entries_of inst.op) n entry q there asked)) in
    record {
      number = listed.0;
      question = q;
      there = listed.1;
      refused = refl;
      open_one = record { before = undefined.before; path = undefined.path; none = none_is_home f r k undefined.before undefined.none };
    }

from_undefined : (m : Module) (f : Function) → IsResolvedFunction m f → (r : Refusal) → IsUndefinedUse f r → IsOpenAmong (ways_of f) (questions_of f) r
from_undefined m f h r (use_in_block b i n block inst placed register inside there is low never undefined) =
    from_use m f h b i n block inst placed register inside there is low never undefined
from_undefined m f h r (use_in_phi b i n block inst entry register inside there is low nowhere undefined) =
    from_phi m f h b i n block inst entry register inside there is low nowhere undefined

-- the first open question is the first undefined use
pub open_is_undefined : (m : Module) (f : Function) (found : Option Refusal) → IsResolvedFunction m f → IsFirstOf (IsOpenAmong (ways_of f) (questions_of f)) found
    → IsFirstOf (IsUndefinedUse f) found
open_is_undefined m f found h first =
    same_first (IsOpenAmong (ways_of f) (questions_of f)) (IsUndefinedUse f) found (to_undefined m f h) (from_undefined m f h) first
