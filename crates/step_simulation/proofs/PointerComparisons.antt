-- The machine follows a comparison of pointers.
use Rattle.std.proofs.Common.{◌≡◌, ℕ, ◌+◌, ◌%◌, ◌^◌, ◌<◌, Bool, Option, Some, None, refl, sym, ◌∙◌, ap, arith}
use Rattle.hw_base.specs.Bits.{bit_of}
use Rattle.hw_base.specs.declared.operators.Pred.{Pred}
use Rattle.hw_base.specs.declared.pointers.Base.{Base}
use Rattle.ir_arith.specs.Comparison.{compare_result}
use Rattle.ir_core.specs.declared.ir_module.Function.{Function}
use Rattle.ir_core.specs.declared.types.IrType.TheVariants.{Ptr}
use Rattle.ir_machine.specs.ArithmeticSteps as machine
use Rattle.ir_machine.specs.Operands.{number_in as machine_number, pointer_in}
use Rattle.ir_machine.specs.State.{MachineSetting, MachineSeen}
use Rattle.ir_meaning.specs.ArithmeticSteps as source
use Rattle.ir_meaning.specs.PointerComparison.{pointers_compared}
use Rattle.ir_meaning.specs.Values.{Value, Integer}
use Rattle.mi_code.specs.MachineOperands.{result_register}
use Rattle.mi_code.specs.declared.operands.MiOperand.{MiOperand}
use Rattle.mi_code.specs.declared.operands.Width.TheVariants.{Ptr as AddressWidth}
use Rattle.tag_story.specs.Story.{number_of}
use Rattle.tag_story.specs.Telling.{all_told}
use Rattle.tag_story.specs.ToldRun.{ToldSeen, source_seen}
use Rattle.step_simulation.proofs.ArithmeticFollows.{IsOperandOf}
use Rattle.step_simulation.proofs.ComparisonFollows.{compared-numbers}
use Rattle.step_simulation.proofs.PlainSteps.{FollowsIn, IsBeforeNext, gives-follows}
use Rattle.step_simulation.proofs.PointerFollows.{number-modulo, pointer-follows, start_of}
use Rattle.simulation.specs.Relation.{IsSetting, SeenLike}

-- a number modulo 2 ^ 64 is that of the offset modulo 2 ^ 64
pub offset-modulo : (start off : ℕ) → (start + off) % 2 ^ 64 ≡ (start + off % 2 ^ 64) % 2 ^ 64
offset-modulo start off = omega arith

module _ (setting : MachineSetting) (t : ToldSeen) (m : MachineSeen) (f : Function) (is : IsSetting setting) (like : SeenLike setting t m) (before : IsBeforeNext setting t m f) (result : Option ℕ) where
  number-same : (x : MiOperand) (base : Base) (off : ℕ) → machine_number m x ≡ number_of t.shared.story.births base off → pointer_in m x ≡ (start_of t.shared.story.births base + off % 2 ^ 64) % 2 ^ 64
  number-same x base off same =
      ap (λ n. n % 2 ^ 64) same ∙ number-modulo t.shared.story.births base off ∙ offset-modulo (start_of t.shared.story.births base) off

  answer-follows : (pred : Pred) (p q : Base) (off other : ℕ) (x y : MiOperand) → machine_number m x ≡ number_of t.shared.story.births p off → machine_number m y ≡ number_of t.shared.story.births q other → (answer : Option Bool) → pointers_compared t.shared.source.births pred p (off % 2 ^ 64) q (other % 2 ^ 64) ≡ answer
      → FollowsIn setting t m (source.gives_comparison (source_seen t) result answer) (Rattle.ir_machine.specs.StepEnds.gives m (result_register f result) (bit_of (compare_result pred 64 (pointer_in m x) (pointer_in m y))))
  unfolding all_told
  answer-follows pred p q off other x y same also None h = tt
  answer-follows pred p q off other x y same also (Some answer) h =
      gives-follows setting t m f result (Integer (bit_of answer)) _ like before tt tt
      (ap bit_of
      (ap (λ n. compare_result pred 64 n (pointer_in m y)) (number-same x p off same)
      ∙ ap (λ n. compare_result pred 64 ((start_of t.shared.story.births p + off % 2 ^ 64) % 2 ^ 64) n) (number-same y q other also)
      ∙ sym (compared-numbers setting t.shared is like.shared.laid like.shared.told pred p q (off % 2 ^ 64) (other % 2 ^ 64) answer
      (let small : off % 2 ^ 64 < 2 ^ 64 = omega arith in small) (let little : other % 2 ^ 64 < 2 ^ 64 = omega arith in little) h)))

  pub pointers-follow : (pred : Pred) (a b : Option Value) (x y : MiOperand) → IsOperandOf t m x a → IsOperandOf t m y b → FollowsIn setting t m (source.icmp_step (source_seen t) result pred Ptr a b) (machine.icmp_step m pred AddressWidth (result_register f result) x y)
  unfolding source.icmp_step machine.icmp_step
  pointers-follow pred a b x y first second =
      pointer-follows setting t m a (machine_number m x) _ _ first (λ p off known same.
      pointer-follows setting t m b (machine_number m y) _ _ second (λ q other born also.
      answer-follows pred p q off other x y same also (pointers_compared t.shared.source.births pred p (off % 2 ^ 64) q (other % 2 ^ 64)) refl))
