-- The machine follows address computations: the number of a pointer is where its object starts plus the offset, modulo 2 ^ 64.
use Rattle.std.proofs.Common.{◌≡◌, ℕ, zero, suc, ◌+◌, ◌*◌, ◌%◌, ◌^◌, ◌<◌, List, [], ◌∷◌, map, slice_get, Option, Some, None, All, refl, sym, ◌∙◌, ap, subst, arith}
use Rattle.hw_base.specs.declared.pointers.Base.{Base}
use Rattle.hw_base.specs.declared.pointers.Base.TheVariants.{Null, Object}
use Rattle.ir_arith.specs.TwosComplement.{signed_of, unsigned_of}
use Rattle.ir_core.specs.IndexSteps.{AddressStep, Scaled as ScaledIndex, Offset as FieldOffset, index_steps, inner_steps, step_before}
use Rattle.ir_core.specs.NumberTypes.{type_of, bits_of}
use Rattle.ir_core.specs.ResolvedBodies.{IsResolvedPlaced}
use Rattle.ir_core.specs.declared.ir_module.Function.{Function}
use Rattle.ir_core.specs.declared.ir_module.Module.{Module}
use Rattle.ir_core.specs.declared.operands.Placed.{Placed as PlacedOperand}
use Rattle.ir_core.specs.declared.types.IrType.{IrType}
use Rattle.ir_core.specs.declared.types.IrType.TheVariants.{Void, Int, Ptr, Array, Struct, Opaque, Pair}
use Rattle.ir_machine.specs.AddressSteps as machine
use Rattle.ir_machine.specs.AddressSteps.{stepped_address}
use Rattle.ir_machine.specs.Operands.{number_in as machine_number, pointer_in}
use Rattle.ir_machine.specs.State.{MachineSetting, MachineSeen, MachineOutcome}
use Rattle.ir_meaning.specs.AddressSteps as source
use Rattle.ir_meaning.specs.AddressSteps.{scaled_by, added, step_bytes, steps_bytes}
use Rattle.ir_meaning.specs.InstructionStep.{value_of}
use Rattle.ir_meaning.specs.Operands.{with_pointer}
use Rattle.ir_meaning.specs.State.{SourceOutcome}
use Rattle.ir_meaning.specs.Values.{Value, Integer, Address, IntegerAndBit}
use Rattle.mi_code.specs.AddressCode.{step_code, steps_code, indices_code}
use Rattle.mi_code.specs.MachineOperands.{operand_of, result_register}
use Rattle.mi_code.specs.declared.operands.MiOperand.{MiOperand}
use Rattle.tag_story.specs.Story.{Placed, StoryBirth, get_placed, number_in, number_of}
use Rattle.tag_story.specs.ToldRun.{ToldSeen, source_seen}
use Rattle.step_simulation.proofs.ArithmeticFollows.{IsOperandOf}
use Rattle.step_simulation.proofs.OperandsThere.{operand-of}
use Rattle.step_simulation.proofs.PlainSteps.{FollowsIn, IsBeforeNext, IsNumberOf, gives-follows, named-follows}
use Rattle.simulation.specs.Parts.{IsKnownBase}
use Rattle.simulation.specs.Relation.{SeenLike}

-- ---- numbers of pointers

-- the number of a pointer to the start, with its tag
abbrev pub start_in : Option Placed → ℕ
start_in None = 0
start_in (Some placed) = placed.tag * 2 ^ 56 + placed.at

abbrev pub start_of : List StoryBirth → Base → ℕ
start_of births Null = 0
start_of births (Object o) = start_in (get_placed births o)

object-number : (placed : Option Placed) (off : ℕ) → number_in placed off ≡ (start_in placed + off) % 2 ^ 64
object-number None off = ap (λ n. n % 2 ^ 64) (let e : off ≡ 0 + off = omega arith in e)
object-number (Some placed) off = ap (λ n. n % 2 ^ 64) (let e : placed.tag * 2 ^ 56 + (placed.at + off) ≡ placed.tag * 2 ^ 56 + placed.at + off = omega arith in e)

-- for an offset of 64 bits
pub number-is : (births : List StoryBirth) (base : Base) (off : ℕ) → off < 2 ^ 64 → number_of births base off ≡ (start_of births base + off) % 2 ^ 64
number-is births Null off small = omega (arith, small)
number-is births (Object o) off small = object-number (get_placed births o) off

-- for any offset
pub number-modulo : (births : List StoryBirth) (base : Base) (off : ℕ) → number_of births base off % 2 ^ 64 ≡ (start_of births base + off) % 2 ^ 64
number-modulo births Null off = ap (λ n. n % 2 ^ 64) (let e : off ≡ 0 + off = omega arith in e)
number-modulo births (Object o) off = let is = object-number (get_placed births o) off in omega (arith, is)

sum-modulo : (start off bytes : ℕ) → ((start + off) % 2 ^ 64 + bytes) % 2 ^ 64 ≡ (start + (off % 2 ^ 64 + bytes) % 2 ^ 64) % 2 ^ 64
sum-modulo start off bytes = omega arith

-- a pointer that goes so many bytes further
pub further : (births : List StoryBirth) (base : Base) (off bytes : ℕ) → (number_of births base off % 2 ^ 64 + bytes) % 2 ^ 64 ≡ number_of births base ((off % 2 ^ 64 + bytes) % 2 ^ 64)
further births base off bytes =
    ap (λ n. (n + bytes) % 2 ^ 64) (number-modulo births base off)
    ∙ sum-modulo (start_of births base) off bytes
    ∙ sym (number-is births base ((off % 2 ^ 64 + bytes) % 2 ^ 64) (let small : (off % 2 ^ 64 + bytes) % 2 ^ 64 < 2 ^ 64 = omega arith in small))

pub pointer-follows : (setting : MachineSetting) (t : ToldSeen) (m : MachineSeen) (o : Option Value) (number : ℕ) (go : Base → ℕ → SourceOutcome) (r : MachineOutcome) → IsNumberOf t.shared.story.births number o → ((base : Base) (off : ℕ) → IsKnownBase t.shared.story.births base → number ≡ number_of t.shared.story.births base off → FollowsIn setting t m (go base (off % 2 ^ 64)) r) → FollowsIn setting t m (with_pointer o go) r
unfolding with_pointer
pointer-follows setting t m None number go r is follows = tt
pointer-follows setting t m (Some (Integer n)) number go r is follows = tt
pointer-follows setting t m (Some (Address base off)) number go r is follows = let image = is (Address base off) refl in follows base off image.1 image.0
pointer-follows setting t m (Some (IntegerAndBit n bit)) number go r is follows = tt

-- ---- indices

-- the operand of an index is resolved
abbrev IsResolvedStep : Module → Function → AddressStep → Type 0
IsResolvedStep program f (ScaledIndex index size) = IsResolvedPlaced program f index
IsResolvedStep program f (FieldOffset off) = Unit {0}

abbrev AreResolvedSteps : Module → Function → List AddressStep → Type 0
AreResolvedSteps program f steps = (k : ℕ) (step : AddressStep) → slice_get steps k ≡ Some step → IsResolvedStep program f step

abbrev IfResolvedSteps : Module → Function → Option (List AddressStep) → Type 0
IfResolvedSteps program f None = Unit {0}
IfResolvedSteps program f (Some steps) = AreResolvedSteps program f steps

before-resolved : (program : Module) (f : Function) (step : AddressStep) (steps : Option (List AddressStep)) → IsResolvedStep program f step → IfResolvedSteps program f steps → IfResolvedSteps program f (step_before step steps)
before-resolved program f step None one rest = tt
before-resolved program f step (Some steps) one rest = by_place
  where
    by_place : AreResolvedSteps program f (step ∷ steps)
    by_place zero x h = let same : step ≡ x = cc in subst (IsResolvedStep program f) same one
    by_place (suc k) x h = rest k x h

later-all : (program : Module) (f : Function) (index : PlacedOperand) (indices : List PlacedOperand) → All (IsResolvedPlaced program f) (index ∷ indices) → All (IsResolvedPlaced program f) indices
later-all program f index indices all k d q = all (suc k) d (omega (arith, q))

inner-resolved : (program : Module) (f : Function) (type : IrType) (indices : List PlacedOperand) → All (IsResolvedPlaced program f) indices → IfResolvedSteps program f (inner_steps program type indices)
unfolding inner_steps
inner-resolved program f type [] all = λ k x h. absurd cc
inner-resolved program f (Array count item) (index ∷ indices) all = before-resolved program f _ _ (all 0 index (omega arith)) (inner-resolved program f (type_of program item) indices (later-all program f index indices all))
inner-resolved program f (Struct first count packed) (index ∷ indices) all = before-resolved program f _ _ tt (inner-resolved program f _ indices (later-all program f index indices all))
inner-resolved program f Void (index ∷ indices) all = tt
inner-resolved program f (Int width) (index ∷ indices) all = tt
inner-resolved program f Ptr (index ∷ indices) all = tt
inner-resolved program f Opaque (index ∷ indices) all = tt
inner-resolved program f (Pair width) (index ∷ indices) all = tt

pub indices-resolved : (program : Module) (f : Function) (ty : ℕ) (indices : List PlacedOperand) → All (IsResolvedPlaced program f) indices → IfResolvedSteps program f (index_steps program ty indices)
indices-resolved program f ty [] all = λ k x h. absurd cc
indices-resolved program f ty (index ∷ indices) all = before-resolved program f _ _ (all 0 index (omega arith)) (inner-resolved program f (type_of program ty) indices (later-all program f index indices all))

-- ---- the steps

module _ (setting : MachineSetting) (t : ToldSeen) (m : MachineSeen) (f : Function) (like : SeenLike setting t m) where
  scaled-same : (width size : ℕ) (o : Option Value) (x : MiOperand) (bytes : ℕ) → IsOperandOf t m x o → scaled_by width size o ≡ Some bytes → unsigned_of 64 (signed_of width (machine_number m x % 2 ^ width)) * size ≡ bytes
  scaled-same width size None x bytes is h = absurd cc
  scaled-same width size (Some (Integer n)) x bytes is h =
      ap (λ k. unsigned_of 64 (signed_of width (k % 2 ^ width)) * size) (is (Integer n) refl).0 ∙ (let same : unsigned_of 64 (signed_of width (n % 2 ^ width)) * size ≡ bytes = cc in same)
  scaled-same width size (Some (Address base off)) x bytes is h = absurd cc
  scaled-same width size (Some (IntegerAndBit n bit)) x bytes is h = absurd cc

  step-same : (step : AddressStep) (bytes : ℕ) → IsResolvedStep setting.program f step → step_bytes setting.program t.frame.registers step ≡ Some bytes → machine.step_bytes m (step_code setting.program step) ≡ bytes
  step-same (ScaledIndex index size) bytes resolved h =
      scaled-same (bits_of (type_of setting.program index.ty)) size (value_of setting.program (source_seen t) index) (operand_of index) bytes (operand-of setting t m f index like resolved) h
  step-same (FieldOffset off) bytes resolved h = cc

  stepped : (steps : List AddressStep) (bytes at : ℕ) → AreResolvedSteps setting.program f steps → at < 2 ^ 64 → steps_bytes setting.program t.frame.registers steps ≡ Some bytes → stepped_address m at (map (step_code setting.program) steps) ≡ (at + bytes) % 2 ^ 64
  unfolding stepped_address steps_bytes
  stepped [] bytes at resolved small h = let none : 0 ≡ bytes = cc in omega (arith, none, small)
  stepped (step ∷ steps) bytes at resolved small h =
      by_step (step_bytes setting.program t.frame.registers step) refl (steps_bytes setting.program t.frame.registers steps) refl h
      (λ rest later from below. stepped steps rest from (λ k x e. resolved (suc k) x e) below later)
    where
      by_step : (one : Option ℕ) → step_bytes setting.program t.frame.registers step ≡ one → (rest : Option ℕ) → steps_bytes setting.program t.frame.registers steps ≡ rest → added one rest ≡ Some bytes
          → ((rest : ℕ) → steps_bytes setting.program t.frame.registers steps ≡ Some rest → (from : ℕ) → from < 2 ^ 64 → stepped_address m from (map (step_code setting.program) steps) ≡ (from + rest) % 2 ^ 64)
          → stepped_address m ((at + machine.step_bytes m (step_code setting.program step)) % 2 ^ 64) (map (step_code setting.program) steps) ≡ (at + bytes) % 2 ^ 64
      by_step None here rest later e go = absurd cc
      by_step (Some one) here None later e go = absurd cc
      by_step (Some one) here (Some rest) later e go =
          let same = step-same step one (resolved 0 step refl) here in
          let sum : one + rest ≡ bytes = cc in
          let from = (at + machine.step_bytes m (step_code setting.program step)) % 2 ^ 64 in
          go rest later from (let small : (at + machine.step_bytes m (step_code setting.program step)) % 2 ^ 64 < 2 ^ 64 = omega arith in small)
          ∙ omega (arith, same, sum)

  pub gep-follows : IsBeforeNext setting t m f → (result : Option ℕ) (ty : ℕ) (o : Option Value) (x : MiOperand) (indices : List PlacedOperand) → IsOperandOf t m x o → All (IsResolvedPlaced setting.program f) indices → FollowsIn setting t m (source.gep_step setting.program (source_seen t) result ty o indices) (machine.gep_step m (result_register f result) x (indices_code setting.program ty indices))
  unfolding source.gep_step machine.gep_step
  gep-follows before result ty o x indices is all =
      pointer-follows setting t m o (machine_number m x) _ _ is (λ base off known number.
      named-follows setting t m (index_steps setting.program ty indices) _ _ (λ steps are.
      named-follows setting t m (steps_bytes setting.program t.frame.registers steps) _ _ (λ bytes sum.
      gives-follows setting t m f result (Address base ((off % 2 ^ 64 + bytes) % 2 ^ 64)) _ like before known tt
      (ap (λ s. stepped_address m (pointer_in m x) (steps_code setting.program s)) are
      ∙ stepped steps bytes (pointer_in m x) (subst (IfResolvedSteps setting.program f) are (indices-resolved setting.program f ty indices all)) (let small : machine_number m x % 2 ^ 64 < 2 ^ 64 = omega arith in small) sum
      ∙ ap (λ n. (n % 2 ^ 64 + bytes) % 2 ^ 64) number
      ∙ further t.shared.story.births base off bytes))))
