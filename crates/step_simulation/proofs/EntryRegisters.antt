-- The registers at the entry of a function: the machine's have the images of the arguments.
use Rattle.std.proofs.Common.{◌≡◌, ℕ, zero, suc, ◌+◌, ◌-◌, ◌*◌, ◌<◌, ◌≤◌, List, [], ◌∷◌, ◌++◌, length, map, replicate, slice_get, slice_set, slice_index, Option, Some, None, All, refl, sym, ◌∙◌, ap, subst, arith}
use Rattle.std.specs.Prelude.{option_and_then}
use Rattle.std.proofs.lemmas.List.{get_or-set_same, get_or-set_other, length-set, length-map, length-append, length-replicate}
use Rattle.ir_core.specs.ResolvedBodies.{IsResolvedPlaced}
use Rattle.ir_core.specs.declared.ir_module.Function.{Function}
use Rattle.ir_core.specs.declared.operands.Placed.{Placed}
use Rattle.ir_machine.specs.CallSteps.{with_arguments}
use Rattle.ir_machine.specs.Operands.{number_in as machine_number, numbers_in}
use Rattle.ir_machine.specs.State.{MachineSetting, MachineSeen}
use Rattle.ir_meaning.specs.CallSteps.{entry_registers}
use Rattle.ir_meaning.specs.InstructionStep.{value_of, values_of}
use Rattle.ir_meaning.specs.Operands.{single, single_before, all_single}
use Rattle.ir_meaning.specs.Values.{Value, Integer, Address, IntegerAndBit}
use Rattle.mi_code.specs.MachineOperands.{operand_of, operands_of}
use Rattle.tag_story.proofs.StoryLists.{get-below}
use Rattle.tag_story.specs.Story.{StoryBirth, value_image}
use Rattle.tag_story.specs.ToldRun.{ToldSeen, source_seen}
use Rattle.step_simulation.proofs.ArithmeticFollows.{IsOperandOf}
use Rattle.step_simulation.proofs.OperandsThere.{operand-of}
use Rattle.step_simulation.proofs.RegisterImages.{IsSingle, single-bit}
use Rattle.simulation.specs.Parts.{IsKnownValue, HasRegisters, AreEach}
use Rattle.simulation.specs.Relation.{SeenLike}

-- a number is the image of an argument
pub record IsArgument (births : List StoryBirth) (v : Value) (n : ℕ) : Type 0 where
  pub image : n ≡ value_image births v
  pub known : IsKnownValue births v
  pub one : IsSingle v

-- ---- the arguments of a call

pub arguments-given : (setting : MachineSetting) (t : ToldSeen) (m : MachineSeen) (f : Function) (args : List Placed) (values : List Value) → SeenLike setting t m → All (IsResolvedPlaced setting.program f) args → all_single (values_of setting.program (source_seen t) args) ≡ Some values
    → AreEach (IsArgument t.shared.story.births) values (numbers_in m (operands_of args))
unfolding all_single
arguments-given setting t m f [] values like all h = let none : [] ≡ values = cc in subst (λ vs. AreEach (IsArgument t.shared.story.births) vs []) none tt
arguments-given setting t m f (arg ∷ args) values like all h =
    by_value (value_of setting.program (source_seen t) arg) refl (all_single (values_of setting.program (source_seen t) args)) refl h (operand-of setting t m f arg like (all 0 arg (omega arith)))
    (λ rest later. arguments-given setting t m f args rest like (λ j d q. all (suc j) d (omega (arith, q))) later)
  where
    on : (v : Value) → IsSingle v → (machine_number m (operand_of arg) ≡ value_image t.shared.story.births v) × IsKnownValue t.shared.story.births v → (rest : Option (List Value)) → all_single (values_of setting.program (source_seen t) args) ≡ rest → single_before (Some v) rest ≡ Some values
        → ((vs : List Value) → all_single (values_of setting.program (source_seen t) args) ≡ Some vs → AreEach (IsArgument t.shared.story.births) vs (numbers_in m (operands_of args))) → AreEach (IsArgument t.shared.story.births) values (numbers_in m (operands_of (arg ∷ args)))
    on v one image None there e go = absurd cc
    on v one image (Some vs) there e go =
        let same : v ∷ vs ≡ values = cc in
        subst (λ xs. AreEach (IsArgument t.shared.story.births) xs (numbers_in m (operands_of (arg ∷ args)))) same (record { image = image.0; known = image.1; one = one }, go vs there)

    by_value : (o : Option Value) → value_of setting.program (source_seen t) arg ≡ o → (rest : Option (List Value)) → all_single (values_of setting.program (source_seen t) args) ≡ rest → single_before (option_and_then single o) rest ≡ Some values → IsOperandOf t m (operand_of arg) (value_of setting.program (source_seen t) arg)
        → ((vs : List Value) → all_single (values_of setting.program (source_seen t) args) ≡ Some vs → AreEach (IsArgument t.shared.story.births) vs (numbers_in m (operands_of args))) → AreEach (IsArgument t.shared.story.births) values (numbers_in m (operands_of (arg ∷ args)))
    by_value None here rest there e is go = absurd cc
    by_value (Some (Integer n)) here rest there e is go = on (Integer n) tt (is (Integer n) here) rest there e go
    by_value (Some (Address base off)) here rest there e is go = on (Address base off) tt (is (Address base off) here) rest there e go
    by_value (Some (IntegerAndBit n bit)) here rest there e is go = absurd cc

-- ---- registers

length-arguments : (registers : List ℕ) (k : ℕ) (numbers : List ℕ) → length (with_arguments registers k numbers) ≡ length registers
unfolding with_arguments
length-arguments registers k [] = refl
length-arguments registers k (n ∷ numbers) = length-arguments (slice_set registers (2 * k) n) (suc k) numbers ∙ length-set registers (2 * k) n

arguments-below : (registers : List ℕ) (k : ℕ) (numbers : List ℕ) (i : ℕ) → i < 2 * k → slice_index (with_arguments registers k numbers) i ≡ slice_index registers i
unfolding with_arguments
arguments-below registers k [] i below = refl
arguments-below registers k (n ∷ numbers) i below =
    arguments-below (slice_set registers (2 * k) n) (suc k) numbers i (omega (arith, below))
    ∙ get_or-set_other registers (2 * k) i n 0 (λ same. omega (arith, below, same))

arguments-at : (registers : List ℕ) (k : ℕ) (numbers : List ℕ) (j n : ℕ) → slice_get numbers j ≡ Some n → 2 * (k + j) < length registers → slice_index (with_arguments registers k numbers) (2 * (k + j)) ≡ n
unfolding with_arguments
arguments-at registers k [] j n h room = absurd cc
arguments-at registers k (first ∷ numbers) zero n h room =
    let same : first ≡ n = cc in
    let place : 2 * (k + 0) ≡ 2 * k = omega arith in
    ap (slice_index (with_arguments (slice_set registers (2 * k) first) (suc k) numbers)) place
    ∙ arguments-below (slice_set registers (2 * k) first) (suc k) numbers (2 * k) (omega arith)
    ∙ get_or-set_same registers (2 * k) first 0 (omega (arith, room))
    ∙ same
arguments-at registers k (first ∷ numbers) (suc j) n h room =
    let place : 2 * (k + suc j) ≡ 2 * (suc k + j) = omega arith in
    let many = length-set registers (2 * k) first in
    ap (slice_index (with_arguments (slice_set registers (2 * k) first) (suc k) numbers)) place
    ∙ arguments-at (slice_set registers (2 * k) first) (suc k) numbers j n h (omega (arith, room, many))

-- a register that is set at the entry is an argument
entry-get : (values : List Value) (more r : ℕ) (v : Value) → slice_get (map (λ value. Some value) values ++ replicate {A = Option Value} more None) r ≡ Some (Some v) → slice_get values r ≡ Some v
entry-get [] zero r v h = absurd cc
entry-get [] (suc more) zero v h = absurd cc
entry-get [] (suc more) (suc r) v h = absurd (none-there (entry-get [] more r v h))
  where
    none-there : slice_get {X = Value} [] r ≡ Some v → ⊥
    none-there e = cc
entry-get (value ∷ values) more zero v h = cc
entry-get (value ∷ values) more (suc r) v h = entry-get values more r v h

each-at : (births : List StoryBirth) (values : List Value) (numbers : List ℕ) (r : ℕ) (v : Value) → AreEach (IsArgument births) values numbers → slice_get values r ≡ Some v → (n : ℕ) × (slice_get numbers r ≡ Some n) × IsArgument births v n
each-at births [] numbers r v each h = absurd cc
each-at births (value ∷ values) [] r v each h = absurd each
each-at births (value ∷ values) (n ∷ numbers) zero v each h = let same : value ≡ v = cc in (n, refl, subst (λ w. IsArgument births w n) same each.0)
each-at births (value ∷ values) (n ∷ numbers) (suc r) v each h = each-at births values numbers r v each.1 h

pub entry-count : (count : ℕ) (values : List Value) → length values ≤ count → length (entry_registers count values) ≡ count
entry-count count values few =
    let a = length-append (map (λ (value : Value). Some value) values) (replicate {A = Option Value} (count - length values) None) in
    let b : length (map (λ (value : Value). Some value) values) ≡ length values = length-map _ _ in
    let c = length-replicate {A = Option Value} (count - length values) None in
    omega (arith, a, b, c, few)

pub entry-registers : (births : List StoryBirth) (count : ℕ) (values : List Value) (numbers : List ℕ) → length values ≤ count → AreEach (IsArgument births) values numbers → HasRegisters births (entry_registers count values) (with_arguments (replicate (2 * count) 0) 0 numbers)
entry-registers births count values numbers few each =
    record {
      count =
          let a = length-arguments (replicate (2 * count) 0) 0 numbers in
          let b = length-replicate {A = ℕ} (2 * count) 0 in
          let c = entry-count count values few in
          omega (arith, a, b, c);
      known = λ r v h. (argument r v h).2.known;
      number = λ r v h.
          let (n, there, is) = argument r v h in
          let below = get-below values r v (entry-get values (count - length values) r v h) in
          let room = length-replicate {A = ℕ} (2 * count) 0 in
          let first : 0 + r ≡ r = omega arith in
          ap (λ k. slice_index (with_arguments (replicate (2 * count) 0) 0 numbers) (2 * k)) (sym first)
          ∙ arguments-at (replicate (2 * count) 0) 0 numbers r n there (omega (arith, below, few, room))
          ∙ is.image;
      bit = λ r v h. single-bit (with_arguments (replicate (2 * count) 0) 0 numbers) r v (argument r v h).2.one;
    }
  where
    argument : (r : ℕ) (v : Value) → slice_get (entry_registers count values) r ≡ Some (Some v) → (n : ℕ) × (slice_get numbers r ≡ Some n) × IsArgument births v n
    argument r v h = each-at births values numbers r v each (entry-get values (count - length values) r v h)
