-- Open questions are the uses that some path comes to without a definition.
use Rattle.std.proofs.Common.{◌≡◌, ℕ, zero, suc, ◌+◌, ◌-◌, ◌<◌, ◌≤◌, ◌⊎◌, inl, inr, Bool, true, false, cond, ◌&&◌, ◌==◌, ltb, List, [], ◌∷◌, ◌++◌, length, slice_get, Some, refl, sym, subst, ap, ◌∙◌, arith}
use Rattle.std.proofs.lemmas.Bool.Decides.{nat_tests}
use Rattle.std.specs.List.{flat_map}
use Rattle.ir_core.specs.declared.operands.Operand.{Operand}
use Rattle.ir_core.specs.declared.operands.Operand.TheVariants.{Reg, Int as Literal, Null, Global}
use Rattle.ir_core.specs.declared.refusals.Place.{Place}
use Rattle.ir_core.specs.declared.ir_module.Block.{Block}
use Rattle.ir_core.specs.declared.ir_module.Inst.{Inst}
use Rattle.ir_core.specs.declared.ir_module.Function.{Function}
use Rattle.ir_core.specs.declared.ir_module.Module.{Module}
use Rattle.ir_core.specs.ResolvedBodies.{IsResolvedFunction}
use Rattle.ir_check_flow.specs.declared.home.Home.{Home}
use Rattle.ir_check_flow.specs.declared.question.Question.{Question}
use Rattle.ir_check_flow.specs.Answering.{NoneIs}
use Rattle.ir_check_flow.specs.Flow.{IsIn, Defines, NoneDefines}
use Rattle.ir_check_flow.specs.Homes.{block_insts, homes_of, home_of}
use Rattle.ir_check_flow.specs.Questions.{ask_in_block, ask_at_end, operand_questions, entry_questions, inst_questions, questions_in, questions_from, questions_of}
use Rattle.ir_check_flow.proofs.HomesFound.{GivenOnce, home_found, block_with, in_function, in_its_block}
use Rattle.ir_check_flow.proofs.OpenOnes.{front_there, back_there, either_there}

-- ---- elements of lists

abbrev pub Has : {A : Type 0} → List A → A → Type 0
Has {A} xs x = (n : ℕ) × (slice_get xs n ≡ Some x)

pub in_front : {A : Type 0} (xs ys : List A) (x : A) → Has xs x → Has (xs ++ ys) x
in_front xs ys x h = (h.0, front_there xs ys h.0 x h.1)

pub in_back : {A : Type 0} (xs ys : List A) (x : A) → Has ys x → Has (xs ++ ys) x
in_back xs ys x h = (length xs + h.0, back_there xs ys h.0 x h.1)

pub in_either : {A : Type 0} (xs ys : List A) (x : A) → Has (xs ++ ys) x → Has xs x ⊎ Has ys x
in_either xs ys x h = elim (either_there xs ys h.0 x h.1) [ inl a ↦ inl (h.0, a) | inr b ↦ inr b ]

has_none : {A : Type 0} (x : A) → Has [] x → ⊥
has_none x h = cc (h.1)

has_one : {A : Type 0} (y x : A) → Has (y ∷ []) x → x ≡ y
has_one y x (zero, e) = cc
has_one y x (suc n, e) = cc

pub in_flat : {A B : Type 0} (g : A → List B) (xs : List A) (n : ℕ) (x : A) (y : B) → slice_get xs n ≡ Some x → Has (g x) y → Has (flat_map g xs) y
in_flat g [] n x y e h = cc
in_flat g (z ∷ xs) zero x y e h = let same : x ≡ z = cc in in_front (g z) (flat_map g xs) y (subst (λ v. Has (g v) y) same h)
in_flat g (z ∷ xs) (suc n) x y e h = in_back (g z) (flat_map g xs) y (in_flat g xs n x y e h)

pub record IsFromFlat {A B : Type 0} (g : A → List B) (xs : List A) (y : B) : Type 0 where
  pub number : ℕ
  pub from : A
  pub there : slice_get xs number ≡ Some from
  pub has : Has (g from) y

flat_rest : {A B : Type 0} (g : A → List B) (z : A) (xs : List A) (y : B) → IsFromFlat g xs y → IsFromFlat g (z ∷ xs) y
flat_rest g z xs y h = record { number = suc h.number; from = h.from; there = h.there; has = h.has }

pub from_flat : {A B : Type 0} (g : A → List B) (xs : List A) (y : B) → Has (flat_map g xs) y → IsFromFlat g xs y
from_flat g [] y h = absurd (has_none y h)
from_flat g (z ∷ xs) y h =
    elim (in_either (g z) (flat_map g xs) y h) [
      | inl here ↦ record { number = 0; from = z; there = refl; has = here }
      | inr later ↦ flat_rest g z xs y (from_flat g xs y later)
    ]

-- ---- homes of registers that are used

pub record KnownHome (f : Function) (r : ℕ) : Type 0 where
  pub b : ℕ
  pub i : ℕ
  pub block : Block
  pub inst : Inst
  pub inside : IsIn f b i block inst
  pub gives : inst.result ≡ Some r
  pub home : home_of f (homes_of f) r ≡ record { block = b; inst = i }

once_of : (m : Module) (f : Function) → IsResolvedFunction m f → GivenOnce f
once_of m f h i j r inst other a b c d = h.registers.once i j r inst other a b c d

below_length : {A : Type 0} (list : List A) (i : ℕ) (x : A) → slice_get list i ≡ Some x → i < length list
below_length [] i x e = cc
below_length (y ∷ list) zero x e = omega arith
below_length (y ∷ list) (suc i) x e = let h = below_length list i x e in omega arith

pub known_home : (m : Module) (f : Function) → IsResolvedFunction m f → (r : ℕ) → f.params ≤ r → r < length f.regs → KnownHome f r
known_home m f h r low high =
    let e = h.registers.each r low high in
    let w = block_with f.insts 0 f.blocks e.0 h.blocks (omega arith) (below_length f.insts e.0 e.1 e.2) in
    let inside : IsIn f w.number e.0 w.block e.1 = record { at = w.at; from = w.from; to = w.to; there = e.2 } in
    record {
      b = w.number;
      i = e.0;
      block = w.block;
      inst = e.1;
      inside = inside;
      gives = e.3;
      home = home_found f h.blocks (once_of m f h) w.number e.0 r w.block e.1 inside e.3 high;
    }

pub home_of_definition : (m : Module) (f : Function) → IsResolvedFunction m f → (r b : ℕ) → r < length f.regs → (d : Defines f r b)
    → home_of f (homes_of f) r ≡ record { block = b; inst = d.place }
home_of_definition m f h r b high d = home_found f h.blocks (once_of m f h) b d.place r d.block d.inst d.inside d.gives high

pub none_defines : (m : Module) (f : Function) → IsResolvedFunction m f → (r : ℕ) → (before : List ℕ)
    → NoneIs (home_of f (homes_of f) r).block before → NoneDefines f r before
none_defines m f h r [] none = tt
none_defines m f h r (b ∷ before) none =
    (λ d. none.0 (ap (λ (x : Home). x.block) (home_of_definition m f h r b (h.registers.result d.place r d.inst d.inside.there d.gives).1 d)), none_defines m f h r before none.1)

pub is_definition : (f : Function) (r b : ℕ) (k : KnownHome f r) → (home_of f (homes_of f) r).block ≡ b → Defines f r b
is_definition f r b k e =
    let same : k.b ≡ b = sym (ap (λ (x : Home). x.block) k.home) ∙ e in
    record { block = k.block; place = k.i; inst = k.inst; inside = subst (λ (n : ℕ). IsIn f n k.i k.block k.inst) same k.inside; gives = k.gives }

pub none_is_home : (f : Function) (r : ℕ) → KnownHome f r → (before : List ℕ) → NoneDefines f r before → NoneIs (home_of f (homes_of f) r).block before
none_is_home f r k [] none = tt
none_is_home f r k (b ∷ before) none = (λ e. none.0 (is_definition f r b k e), none_is_home f r k before none.1)

-- ---- the question of one use

pub record IsAskedBy (home : Home) (b : ℕ) (place : Place) (q : Question) : Type 0 where
  pub is : q ≡ record { home = home.block; at = b; place = place }

in_block_by : (home : Home) (b : ℕ) (place : Place) (q : Question) (t : Bool)
    → Has (cond t [] ((record { home = home.block; at = b; place = place }) ∷ [])) q → (t ≡ false) × IsAskedBy home b place q
in_block_by home b place q true h = absurd (has_none q h)
in_block_by home b place q false h = (refl, record { is = has_one (record { home = home.block; at = b; place = place }) q h })

-- a question of an operand is one of a register that isn't a parameter
pub record IsOperandAsked (f : Function) (b i : ℕ) (place : Place) (operand : Operand) (q : Question) : Type 0 where
  pub register : ℕ
  pub operand_is : operand ≡ Reg register
  pub later : f.params ≤ register
  pub not_before : ((home_of f (homes_of f) register).block == b && ltb (home_of f (homes_of f) register).inst i) ≡ false
  pub asked : IsAskedBy (home_of f (homes_of f) register) b place q

not_less : (r p : ℕ) → ltb r p ≡ false → p ≤ r
not_less r p e = grind (arith, nat_tests)

register_asked : (f : Function) (b i r : ℕ) (place : Place) (q : Question) (t : Bool) → ltb r f.params ≡ t
    → Has (cond t [] (ask_in_block (home_of f (homes_of f) r) b i place)) q → IsOperandAsked f b i place (Reg r) q
register_asked f b i r place q true e h = absurd (has_none q h)
register_asked f b i r place q false e h =
    let one = in_block_by (home_of f (homes_of f) r) b place q ((home_of f (homes_of f) r).block == b && ltb (home_of f (homes_of f) r).inst i) h in
    record { register = r; operand_is = refl; later = not_less r f.params e; not_before = one.0; asked = one.1 }

pub operand_asked : (f : Function) (b i : ℕ) (place : Place) (operand : Operand) (q : Question) → Has (operand_questions f (homes_of f) b i place operand) q
    → IsOperandAsked f b i place operand q
operand_asked f b i place (Reg r) q h = register_asked f b i r place q (ltb r f.params) refl h
operand_asked f b i place (Literal n) q h = absurd (has_none q h)
operand_asked f b i place Null q h = absurd (has_none q h)
operand_asked f b i place (Global global off) q h = absurd (has_none q h)

pub record IsEntryAsked (f : Function) (b : ℕ) (place : Place) (operand : Operand) (q : Question) : Type 0 where
  pub register : ℕ
  pub operand_is : operand ≡ Reg register
  pub later : f.params ≤ register
  pub elsewhere : ((home_of f (homes_of f) register).block == b) ≡ false
  pub asked : IsAskedBy (home_of f (homes_of f) register) b place q

register_at_end : (f : Function) (b r : ℕ) (place : Place) (q : Question) (t : Bool) → ltb r f.params ≡ t
    → Has (cond t [] (ask_at_end (home_of f (homes_of f) r) b place)) q → IsEntryAsked f b place (Reg r) q
register_at_end f b r place q true e h = absurd (has_none q h)
register_at_end f b r place q false e h =
    let one = in_block_by (home_of f (homes_of f) r) b place q ((home_of f (homes_of f) r).block == b) h in
    record { register = r; operand_is = refl; later = not_less r f.params e; elsewhere = one.0; asked = one.1 }

pub entry_asked : (f : Function) (b : ℕ) (place : Place) (operand : Operand) (q : Question) → Has (entry_questions f (homes_of f) b place operand) q
    → IsEntryAsked f b place operand q
entry_asked f b place (Reg r) q h = register_at_end f b r place q (ltb r f.params) refl h
entry_asked f b place (Literal n) q h = absurd (has_none q h)
entry_asked f b place Null q h = absurd (has_none q h)
entry_asked f b place (Global global off) q h = absurd (has_none q h)

not_less_back : (r p : ℕ) → p ≤ r → ltb r p ≡ false
not_less_back r p h = grind (arith, nat_tests)

pub asks_register : (f : Function) (b i r : ℕ) (place : Place) → f.params ≤ r
    → ((home_of f (homes_of f) r).block == b && ltb (home_of f (homes_of f) r).inst i) ≡ false
    → Has (operand_questions f (homes_of f) b i place (Reg r)) (record { home = (home_of f (homes_of f) r).block; at = b; place = place })
asks_register f b i r place low other =
    let q : Question = record { home = (home_of f (homes_of f) r).block; at = b; place = place } in
    let inner : Has (ask_in_block (home_of f (homes_of f) r) b i place) q = subst (λ (t : Bool). Has (cond t [] (q ∷ [])) q) (sym other) (0, refl) in
    subst (λ (t : Bool). Has (cond t [] (ask_in_block (home_of f (homes_of f) r) b i place)) q) (sym (not_less_back r f.params low)) inner

pub asks_at_end : (f : Function) (b r : ℕ) (place : Place) → f.params ≤ r → ((home_of f (homes_of f) r).block == b) ≡ false
    → Has (entry_questions f (homes_of f) b place (Reg r)) (record { home = (home_of f (homes_of f) r).block; at = b; place = place })
asks_at_end f b r place low other =
    let q : Question = record { home = (home_of f (homes_of f) r).block; at = b; place = place } in
    let inner : Has (ask_at_end (home_of f (homes_of f) r) b place) q = subst (λ (t : Bool). Has (cond t [] (q ∷ [])) q) (sym other) (0, refl) in
    subst (λ (t : Bool). Has (cond t [] (ask_at_end (home_of f (homes_of f) r) b place)) q) (sym (not_less_back r f.params low)) inner

-- ---- the questions of a function

record IsAskedIn (f : Function) (homes : List Home) (b i : ℕ) (insts : List Inst) (q : Question) : Type 0 where
  pub number : ℕ
  pub inst : Inst
  pub there : slice_get insts number ≡ Some inst
  pub has : Has (inst_questions f homes b (i + number) inst) q

asked_rest : (f : Function) (homes : List Home) (b i : ℕ) (front : Inst) (insts : List Inst) (q : Question) → IsAskedIn f homes b (i + 1) insts q → IsAskedIn f homes b i (front ∷ insts) q
asked_rest f homes b i front insts q h = record {
  number = suc h.number;
  inst = h.inst;
  there = h.there;
  has = let n : i + 1 + h.number ≡ i + suc h.number = omega arith in subst (λ (k : ℕ). Has (inst_questions f homes b k h.inst) q) n h.has;
}

asked_in : (f : Function) (homes : List Home) (b i : ℕ) (insts : List Inst) (q : Question) → Has (questions_in f homes b i insts) q → IsAskedIn f homes b i insts q
asked_in f homes b i [] q h = absurd (has_none q h)
asked_in f homes b i (inst ∷ insts) q h =
    elim (in_either (inst_questions f homes b i inst) (questions_in f homes b (i + 1) insts) q h) [
      | inl here ↦ (let n : i ≡ i + 0 = omega arith in record { number = 0; inst = inst; there = refl; has = subst (λ (k : ℕ). Has (inst_questions f homes b k inst) q) n here })
      | inr later ↦ asked_rest f homes b i inst insts q (asked_in f homes b (i + 1) insts q later)
    ]

in_asked : (f : Function) (homes : List Home) (b i k : ℕ) (insts : List Inst) (inst : Inst) (q : Question) → slice_get insts k ≡ Some inst
    → Has (inst_questions f homes b (i + k) inst) q → Has (questions_in f homes b i insts) q
in_asked f homes b i k [] inst q e h = cc
in_asked f homes b i zero (front ∷ insts) inst q e h =
    let same : inst ≡ front = cc in
    let n : i + 0 ≡ i = omega arith in
    in_front (inst_questions f homes b i front) (questions_in f homes b (i + 1) insts) q
    (subst (λ (x : Inst). Has (inst_questions f homes b i x) q) same (subst (λ (j : ℕ). Has (inst_questions f homes b j inst) q) n h))
in_asked f homes b i (suc k) (front ∷ insts) inst q e h =
    let n : i + suc k ≡ i + 1 + k = omega arith in
    in_back (inst_questions f homes b i front) (questions_in f homes b (i + 1) insts) q
    (in_asked f homes b (i + 1) k insts inst q e (subst (λ (j : ℕ). Has (inst_questions f homes b j inst) q) n h))

record IsAskedFrom (f : Function) (homes : List Home) (b : ℕ) (blocks : List Block) (q : Question) : Type 0 where
  pub number : ℕ
  pub block : Block
  pub there : slice_get blocks number ≡ Some block
  pub has : Has (questions_in f homes (b + number) block.first (block_insts f.insts block)) q

from_rest : (f : Function) (homes : List Home) (b : ℕ) (front : Block) (blocks : List Block) (q : Question) → IsAskedFrom f homes (b + 1) blocks q → IsAskedFrom f homes b (front ∷ blocks) q
from_rest f homes b front blocks q h = record {
  number = suc h.number;
  block = h.block;
  there = h.there;
  has = let n : b + 1 + h.number ≡ b + suc h.number = omega arith in subst (λ (k : ℕ). Has (questions_in f homes k h.block.first (block_insts f.insts h.block)) q) n h.has;
}

asked_from : (f : Function) (homes : List Home) (b : ℕ) (blocks : List Block) (q : Question) → Has (questions_from f homes b blocks) q → IsAskedFrom f homes b blocks q
asked_from f homes b [] q h = absurd (has_none q h)
asked_from f homes b (block ∷ blocks) q h =
    elim (in_either (questions_in f homes b block.first (block_insts f.insts block)) (questions_from f homes (b + 1) blocks) q h) [
      | inl here ↦ (let n : b ≡ b + 0 = omega arith in
          record { number = 0; block = block; there = refl; has = subst (λ (k : ℕ). Has (questions_in f homes k block.first (block_insts f.insts block)) q) n here })
      | inr later ↦ from_rest f homes b block blocks q (asked_from f homes (b + 1) blocks q later)
    ]

from_asked : (f : Function) (homes : List Home) (b k : ℕ) (blocks : List Block) (block : Block) (q : Question) → slice_get blocks k ≡ Some block
    → Has (questions_in f homes (b + k) block.first (block_insts f.insts block)) q → Has (questions_from f homes b blocks) q
from_asked f homes b k [] block q e h = cc
from_asked f homes b zero (front ∷ blocks) block q e h =
    let same : block ≡ front = cc in
    let n : b + 0 ≡ b = omega arith in
    in_front (questions_in f homes b front.first (block_insts f.insts front)) (questions_from f homes (b + 1) blocks) q
    (subst (λ (x : Block). Has (questions_in f homes b x.first (block_insts f.insts x)) q) same
    (subst (λ (j : ℕ). Has (questions_in f homes j block.first (block_insts f.insts block)) q) n h))
from_asked f homes b (suc k) (front ∷ blocks) block q e h =
    let n : b + suc k ≡ b + 1 + k = omega arith in
    in_back (questions_in f homes b front.first (block_insts f.insts front)) (questions_from f homes (b + 1) blocks) q
    (from_asked f homes (b + 1) k blocks block q e (subst (λ (j : ℕ). Has (questions_in f homes j block.first (block_insts f.insts block)) q) n h))

-- a question of a function is that of an instruction
pub record IsAskedAt (f : Function) (q : Question) : Type 0 where
  pub b : ℕ
  pub i : ℕ
  pub block : Block
  pub inst : Inst
  pub inside : IsIn f b i block inst
  pub has : Has (inst_questions f (homes_of f) b i inst) q

pub asked_at : (f : Function) (q : Question) → Has (questions_of f) q → IsAskedAt f q
asked_at f q h =
    let a = asked_from f (homes_of f) 0 f.blocks q h in
    let n : 0 + a.number ≡ a.number = omega arith in
    let c = asked_in f (homes_of f) (0 + a.number) a.block.first (block_insts f.insts a.block) q a.has in
    record {
      b = a.number;
      i = a.block.first + c.number;
      block = a.block;
      inst = c.inst;
      inside = in_function f a.number a.block c.number c.inst a.there c.there;
      has = subst (λ (k : ℕ). Has (inst_questions f (homes_of f) k (a.block.first + c.number) c.inst) q) n c.has;
    }

pub at_asked : (f : Function) (b i : ℕ) (block : Block) (inst : Inst) (q : Question) → IsIn f b i block inst → Has (inst_questions f (homes_of f) b i inst) q → Has (questions_of f) q
at_asked f b i block inst q inside h =
    let low = inside.from in
    let n : i ≡ block.first + (i - block.first) = omega arith in
    let z : b ≡ 0 + b = omega arith in
    from_asked f (homes_of f) 0 b f.blocks block q inside.at
    (in_asked f (homes_of f) (0 + b) block.first (i - block.first) (block_insts f.insts block) inst q (in_its_block f b i block inst inside)
    (subst (λ (k : ℕ). Has (inst_questions f (homes_of f) k (block.first + (i - block.first)) inst) q) z
    (subst (λ (k : ℕ). Has (inst_questions f (homes_of f) b k inst) q) n h)))
