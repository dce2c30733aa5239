-- The machine follows each step that computes a value from values, one lemma a step in the order of their definitions.
use Rattle.std.proofs.Common.{◌≡◌, ℕ, ◌%◌, ◌^◌, ◌==◌, Bool, true, false, not, if◌then◌else◌, List, arith, Option, Some, None, refl, sym, ap, subst}
use Rattle.std.specs.Prelude.{Result, Ok, Err, option_and_then}
use Rattle.hw_base.specs.Bits.{bit_of, is_set}
use Rattle.hw_base.specs.declared.endings.Trap.{Trap}
use Rattle.hw_base.specs.declared.operators.BinOp.{BinOp}
use Rattle.hw_base.specs.declared.operators.CastOp.{CastOp}
use Rattle.hw_base.specs.declared.operators.OverOp.{OverOp}
use Rattle.hw_base.specs.declared.operators.Pred.{Pred}
use Rattle.ir_arith.specs.Binary.{binary_result}
use Rattle.ir_arith.specs.Comparison.{compare_result}
use Rattle.ir_arith.specs.Conversion.{cast_result}
use Rattle.ir_arith.specs.Overflow.{overflow_result}
use Rattle.ir_core.specs.declared.ir_module.Function.{Function}
use Rattle.ir_core.specs.declared.types.IrType.TheVariants.{Int}
use Rattle.ir_meaning.specs.Values.{Value, Integer, Address, IntegerAndBit}
use Rattle.ir_meaning.specs.Operands.{single, with_named, with_pair, argument}
use Rattle.ir_meaning.specs.ArithmeticSteps as source
use Rattle.ir_machine.specs.State.{MachineSetting, MachineSeen}
use Rattle.ir_machine.specs.Operands.{number_in, integer_in, second_part}
use Rattle.ir_machine.specs.ArithmeticSteps as machine
use Rattle.mi_code.specs.declared.operands.MiOperand.{MiOperand}
use Rattle.mi_code.specs.declared.operands.Width.TheVariants.{Int as WidthOf}
use Rattle.mi_code.specs.MachineOperands.{result_register}
use Rattle.tag_story.specs.Story.{value_image}
use Rattle.tag_story.specs.ToldRun.{ToldSeen, source_seen}
use Rattle.simulation.specs.Parts.{IsKnownValue}
use Rattle.simulation.specs.Relation.{SeenLike}
use Rattle.step_simulation.proofs.RegisterImages.{IsSingle}
use Rattle.step_simulation.proofs.PlainSteps.{FollowsIn, IsBeforeNext, IsNumberOf, own_site, gives-follows, pair-follows, traps-follows, integer-follows, value-follows}

-- the machine's operand is a number of the source's value
abbrev pub IsOperandOf : ToldSeen → MachineSeen → MiOperand → Option Value → Type 0
IsOperandOf t m operand value = IsNumberOf t.shared.story.births (number_in m operand) value

-- a condition counts by its lowest bit
pub one-bit : (n : ℕ) → is_set (n % 2 ^ 1) ≡ is_set n
one-bit n = let e : n % 2 ^ 1 % 2 ≡ n % 2 = omega arith in ap (λ k. not (k == 0)) e

-- the second part of the machine's operand is the bit of the source's pair
abbrev pub IsBitOf : MachineSeen → MiOperand → Option Value → Type 0
IsBitOf m x pair = (n bit : ℕ) → pair ≡ Some (IntegerAndBit n bit) → second_part m.frame.registers x ≡ bit

module _ (setting : MachineSetting) (t : ToldSeen) (m : MachineSeen) (f : Function) (like : SeenLike setting t m) (before : IsBeforeNext setting t m f) (result : Option ℕ) where
  integer-given : (n : ℕ) → FollowsIn setting t m (Rattle.ir_meaning.specs.StepEnds.gives (source_seen t) result (Integer n)) (Rattle.ir_machine.specs.StepEnds.gives m (result_register f result) n)
  integer-given n = gives-follows setting t m f result (Integer n) n like before tt tt refl

  gives_or_traps-follows : (r : Result ℕ Trap) → FollowsIn setting t m (source.gives_or_traps (source_seen t) result r) (machine.gives_or_traps m (own_site t) (result_register f result) r)
  gives_or_traps-follows (Ok n) = integer-given n
  gives_or_traps-follows (Err trap) = traps-follows setting t m trap like

  pub binary-follows : (op : BinOp) (width : ℕ) (a b : Option Value) (x y : MiOperand) → IsOperandOf t m x a → IsOperandOf t m y b → FollowsIn setting t m (source.binary_step (source_seen t) result op width a b) (machine.binary_step m (own_site t) op width (result_register f result) x y)
  unfolding source.binary_step machine.binary_step
  binary-follows op width a b x y is also =
      integer-follows setting t m width a (number_in m x) _ (λ k. machine.gives_or_traps m (own_site t) (result_register f result) (binary_result op width k (integer_in m width y))) is (λ k.
      integer-follows setting t m width b (number_in m y) _ (λ l. machine.gives_or_traps m (own_site t) (result_register f result) (binary_result op width k l)) also (λ l.
      gives_or_traps-follows (binary_result op width k l)))

  pub icmp-follows : (pred : Pred) (width : ℕ) (a b : Option Value) (x y : MiOperand) → IsOperandOf t m x a → IsOperandOf t m y b → FollowsIn setting t m (source.icmp_step (source_seen t) result pred (Int width) a b) (machine.icmp_step m pred (WidthOf width) (result_register f result) x y)
  unfolding source.icmp_step machine.icmp_step
  icmp-follows pred width a b x y is also =
      integer-follows setting t m width a (number_in m x) _ (λ k. Rattle.ir_machine.specs.StepEnds.gives m (result_register f result) (bit_of (compare_result pred width k (integer_in m width y)))) is (λ k.
      integer-follows setting t m width b (number_in m y) _ (λ l. Rattle.ir_machine.specs.StepEnds.gives m (result_register f result) (bit_of (compare_result pred width k l))) also (λ l.
      integer-given (bit_of (compare_result pred width k l))))

  pub cast-follows : (op : CastOp) (from to : ℕ) (a : Option Value) (x : MiOperand) → IsOperandOf t m x a → FollowsIn setting t m (source.cast_step (source_seen t) result op from to a) (machine.cast_step m op from to (result_register f result) x)
  unfolding source.cast_step machine.cast_step
  cast-follows op from to a x is =
      integer-follows setting t m from a (number_in m x) _ (λ k. Rattle.ir_machine.specs.StepEnds.gives m (result_register f result) (cast_result op from to k)) is (λ k. integer-given (cast_result op from to k))

  pub select-follows : (cond a b : Option Value) (c x y : MiOperand) → IsOperandOf t m c cond → IsOperandOf t m x a → IsOperandOf t m y b → FollowsIn setting t m (source.select_step (source_seen t) result cond a b) (machine.select_step m (result_register f result) c x y)
  unfolding source.select_step machine.select_step
  select-follows cond a b c x y test is also =
      subst (λ bit. FollowsIn setting t m (source.select_step (source_seen t) result cond a b) (Rattle.ir_machine.specs.StepEnds.gives m (result_register f result) (if bit then number_in m x else number_in m y))) (one-bit (number_in m c))
      (integer-follows setting t m 1 cond (number_in m c) _ (λ k. Rattle.ir_machine.specs.StepEnds.gives m (result_register f result) (if is_set k then number_in m x else number_in m y)) test (λ k. chosen (is_set k)))
    where
      given : (v : Value) (n : ℕ) → IsSingle v → IsKnownValue t.shared.story.births v → n ≡ value_image t.shared.story.births v → FollowsIn setting t m (Rattle.ir_meaning.specs.StepEnds.gives (source_seen t) result v) (Rattle.ir_machine.specs.StepEnds.gives m (result_register f result) n)
      given v n one known image = gives-follows setting t m f result v n like before known one image

      chosen : (bit : Bool) → FollowsIn setting t m (with_named (option_and_then single (if bit then a else b)) (λ value. Rattle.ir_meaning.specs.StepEnds.gives (source_seen t) result value)) (Rattle.ir_machine.specs.StepEnds.gives m (result_register f result) (if bit then number_in m x else number_in m y))
      chosen true = value-follows setting t m a (number_in m x) _ _ is (λ v one known image. given v (number_in m x) one known image)
      chosen false = value-follows setting t m b (number_in m y) _ _ also (λ v one known image. given v (number_in m y) one known image)

  pub freeze-follows : (a : Option Value) (x : MiOperand) → IsOperandOf t m x a → FollowsIn setting t m (source.freeze_step (source_seen t) result a) (machine.freeze_step m (result_register f result) x)
  unfolding source.freeze_step machine.freeze_step
  freeze-follows a x is = value-follows setting t m a (number_in m x) _ _ is (λ v one known image. gives-follows setting t m f result v (number_in m x) like before known one image)

  part-follows : (part n bit k l : ℕ) → k ≡ n → l ≡ bit → FollowsIn setting t m (Rattle.ir_meaning.specs.StepEnds.gives (source_seen t) result (Integer (source.part_of_pair part n bit))) (Rattle.ir_machine.specs.StepEnds.gives m (result_register f result) (if part == 1 then l else k))
  part-follows part n bit k l is also =
      subst (λ j. FollowsIn setting t m (Rattle.ir_meaning.specs.StepEnds.gives (source_seen t) result (Integer (source.part_of_pair part n bit))) (Rattle.ir_machine.specs.StepEnds.gives m (result_register f result) (if part == 1 then l else j))) (sym is)
      (subst (λ j. FollowsIn setting t m (Rattle.ir_meaning.specs.StepEnds.gives (source_seen t) result (Integer (source.part_of_pair part n bit))) (Rattle.ir_machine.specs.StepEnds.gives m (result_register f result) (if part == 1 then j else n))) (sym also)
      (integer-given (source.part_of_pair part n bit)))

  pub extract-follows : (part : Option ℕ) (number : ℕ) (pair : Option Value) (x : MiOperand) → part ≡ Some number → IsOperandOf t m x pair → IsBitOf m x pair → FollowsIn setting t m (source.extract_step (source_seen t) result part pair) (machine.extract_step m (result_register f result) x number)
  unfolding source.extract_step machine.extract_step with_pair
  extract-follows part number pair x named is also =
      subst (λ p. FollowsIn setting t m (source.extract_step (source_seen t) result p pair) (machine.extract_step m (result_register f result) x number)) (sym named) (by_pair pair is also)
    where
      by_pair : (o : Option Value) → IsOperandOf t m x o → IsBitOf m x o → FollowsIn setting t m (source.extract_step (source_seen t) result (Some number) o) (machine.extract_step m (result_register f result) x number)
      by_pair None h k = tt
      by_pair (Some (Integer n)) h k = tt
      by_pair (Some (Address base off)) h k = tt
      by_pair (Some (IntegerAndBit n bit)) h k =
          part-follows number n bit (number_in m x) (second_part m.frame.registers x) (h (IntegerAndBit n bit) refl).0 (k n bit refl)

  pub overflow-follows : (op : OverOp) (width : ℕ) (values : List (Option Value)) (x y : MiOperand) → IsOperandOf t m x (argument values 0) → IsOperandOf t m y (argument values 1) → FollowsIn setting t m (source.overflow_step (source_seen t) result op width values) (machine.overflow_step m op width (result_register f result) x y)
  unfolding source.overflow_step machine.overflow_step
  overflow-follows op width values x y is also =
      integer-follows setting t m width (argument values 0) (number_in m x) _ (λ k. let pair = overflow_result op width k (integer_in m width y) in Rattle.ir_machine.specs.StepEnds.gives_pair m (result_register f result) pair.0 pair.1) is (λ k.
      integer-follows setting t m width (argument values 1) (number_in m y) _ (λ l. let pair = overflow_result op width k l in Rattle.ir_machine.specs.StepEnds.gives_pair m (result_register f result) pair.0 pair.1) also (λ l.
      pair-follows setting t m f result (overflow_result op width k l).0 (overflow_result op width k l).1 like before))
