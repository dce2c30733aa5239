-- The machine follows each store, of integers and of pointers.
use Rattle.std.proofs.Common.{◌≡◌, ℕ, ◌%◌, ◌^◌, ◌≤◌, true, Option, refl, sym, ◌∙◌, ap, subst, arith}
use Rattle.hw_base.specs.Bytes.{le_bytes}
use Rattle.hw_base.specs.declared.accesses.Access.TheVariants.{Write}
use Rattle.hw_base.specs.declared.endings.Input.{Input}
use Rattle.hw_tags.specs.InputState.{next_input}
use Rattle.ir_core.specs.Layout.{int_store_size}
use Rattle.ir_core.specs.NumberTypes.{type_of, access_size}
use Rattle.ir_core.specs.ResolvedBodies.{is_alignment, IsResolvedOp}
use Rattle.ir_core.specs.Runnable.{IsRunnableOp}
use Rattle.ir_core.specs.declared.ir_module.Function.{Function}
use Rattle.ir_core.specs.declared.ir_module.Inst.{Inst}
use Rattle.ir_core.specs.declared.operands.Placed.{Placed}
use Rattle.ir_core.specs.declared.operations.Op.TheVariants as op
use Rattle.ir_core.specs.declared.types.IrType.{IrType}
use Rattle.ir_core.specs.declared.types.IrType.TheVariants.{Void, Int, Ptr, Array, Struct, Opaque, Pair}
use Rattle.ir_machine.specs.InstructionStep as machine
use Rattle.ir_machine.specs.MemorySteps as memory
use Rattle.ir_machine.specs.Operands.{number_in as machine_number, pointer_in}
use Rattle.ir_machine.specs.State.{MachineSetting, MachineSeen}
use Rattle.ir_machine.specs.StepEnds.{advanced}
use Rattle.ir_meaning.specs.AccessRule.{access_answer}
use Rattle.ir_meaning.specs.Encoding.{number_bytes, pointer_bytes}
use Rattle.ir_meaning.specs.InstructionStep.{source_step, value_of, operation_step as source_operation}
use Rattle.ir_meaning.specs.MemorySteps as source
use Rattle.ir_meaning.specs.StepEnds.{goes_on, stored}
use Rattle.ir_meaning.specs.State.{nothing_happened}
use Rattle.ir_meaning.specs.Values.{Value}
use Rattle.mi_code.specs.MachineOperands.{operand_of}
use Rattle.mi_code.specs.TagChecks.{check_of}
use Rattle.mi_code.specs.Widths.{width_of_type}
use Rattle.mi_code.specs.declared.operands.MiOperand.{MiOperand}
use Rattle.mi_code.specs.declared.operands.Width.TheVariants.{Int as WidthOf, Ptr as AddressWidth}
use Rattle.mi_code.specs.declared.operations.MiOp.TheVariants.{Store}
use Rattle.tag_story.specs.Telling.{all_told}
use Rattle.tag_story.specs.ToldRun.{ToldSeen, source_seen}
use Rattle.step_simulation.proofs.ArithmeticFollows.{IsOperandOf}
use Rattle.step_simulation.proofs.CheckedAccess.{advanced-like, access-checked}
use Rattle.step_simulation.proofs.LoadFollows.{pointer-is, HasCheckedCode, before-next, checked-step, checked-code, width-is, runnable-here}
use Rattle.step_simulation.proofs.OperandsThere.{operand-of, resolved-at}
use Rattle.step_simulation.proofs.PlainSteps.{FollowsIn, goes_on-follows, integer-known}
use Rattle.step_simulation.proofs.PointerFollows.{pointer-follows}
use Rattle.step_simulation.proofs.RegisterSteps.{source-at}
use Rattle.step_simulation.proofs.WritesFollow.{pointer-length, pointer-image, pointer-known, told_stored, numbers_stored, fine-write, constant-write, number-write}
use Rattle.hw_base.proofs.ByteLaws.{length-le_bytes}
use Rattle.step_simulation.specs.RegisterSteps.{IsAt, IsFollowed}
use Rattle.simulation.specs.Relation.{IsSetting, SeenRelated}

module _ (setting : MachineSetting) (given : Input) (t : ToldSeen) (m : MachineSeen) (f : Function) (inst : Inst) (is : IsSetting setting) (at : IsAt setting.program t f inst) (related : SeenRelated setting t m) where
  -- a store of an integer
  integer-stored : (width align : ℕ) (value place : Option Value) (v x : MiOperand) → 1 ≤ width → width ≤ 128 → is_alignment align ≡ true → IsOperandOf t m v value → IsOperandOf t m x place → HasCheckedCode setting given t m f inst is at related (check_of (int_store_size width) align x Write) (Store (WidthOf width) v x)
      → FollowsIn setting t m (source.store_step (source_seen t) (Int width) align value place) (machine.machine_step setting given m)
  unfolding source.store_step memory.store_step all_told
  integer-stored width align value place v x some few aligned is_value is_place has =
      checked-step setting given t m f inst is at related _ _ has _ (λ go next own.
      integer-known setting t m width value (machine_number m v) _ _ is_value (λ n same.
      pointer-follows setting t m place (machine_number m x) _ _ is_place (λ base off known number.
      let pointer = pointer-is setting t m f is related.like x base off number in
      access-checked setting t m is related.like given Write (λ wrong. absurd cc) base (off % 2 ^ 64) (int_store_size width) align x go _ (omega (arith, some)) (omega (arith, few)) aligned pointer
      (λ fine.
      subst (λ r. FollowsIn setting t m (goes_on (stored (source_seen t) base (off % 2 ^ 64) (number_bytes (int_store_size width) n)) nothing_happened) r) (sym own)
      (number-write setting t (advanced m) is (advanced-like setting t m is related.like) base (off % 2 ^ 64) align (int_store_size width) n (machine_number m v % 2 ^ width) (pointer_in m x) (goes_on (stored (source_seen t) base (off % 2 ^ 64) (number_bytes (int_store_size width) n)) nothing_happened) Rattle.ir_machine.specs.StepEnds.goes_on pointer (sym same) fine (λ like.
      goes_on-follows setting (told_stored t base (off % 2 ^ 64) (number_bytes (int_store_size width) n)) (numbers_stored (advanced m) (pointer_in m x) (le_bytes (int_store_size width) (machine_number m v % 2 ^ width))) f like (before-next setting given t m f inst is at related _ _ has))))
      (λ constant.
      subst (λ r. FollowsIn setting t m (Rattle.ir_meaning.specs.StepEnds.traps (source_seen t) Rattle.hw_base.specs.declared.endings.Trap.TheVariants.ReadOnly) r) (sym own)
      (constant-write setting t (advanced m) is (advanced-like setting t m is related.like) base (off % 2 ^ 64) align (int_store_size width) (pointer_in m x) (le_bytes (int_store_size width) (machine_number m v % 2 ^ width)) Rattle.ir_machine.specs.StepEnds.goes_on pointer (length-le_bytes (int_store_size width) (machine_number m v % 2 ^ width)) constant)))))

  -- a store of a pointer
  pointer-stored : (align : ℕ) (value place : Option Value) (v x : MiOperand) → is_alignment align ≡ true → IsOperandOf t m v value → IsOperandOf t m x place → HasCheckedCode setting given t m f inst is at related (check_of 8 align x Write) (Store AddressWidth v x)
      → FollowsIn setting t m (source.store_step (source_seen t) Ptr align value place) (machine.machine_step setting given m)
  unfolding source.store_step memory.store_step all_told
  pointer-stored align value place v x aligned is_value is_place has =
      checked-step setting given t m f inst is at related _ _ has _ (λ go next own.
      pointer-follows setting t m value (machine_number m v) _ _ is_value (λ stored_base stored_off stored_known stored_number.
      let stored_is = pointer-is setting t m f is related.like v stored_base stored_off stored_number in
      pointer-follows setting t m place (machine_number m x) _ _ is_place (λ base off known number.
      let pointer = pointer-is setting t m f is related.like x base off number in
      let image = ap (le_bytes 8) stored_is ∙ sym (pointer-image t.shared.story.births stored_base (stored_off % 2 ^ 64)) in
      access-checked setting t m is related.like given Write (λ wrong. absurd cc) base (off % 2 ^ 64) 8 align x go _ (omega arith) (omega arith) aligned pointer
      (λ fine.
      subst (λ r. FollowsIn setting t m (goes_on (stored (source_seen t) base (off % 2 ^ 64) (pointer_bytes stored_base (stored_off % 2 ^ 64))) nothing_happened) r) (sym own)
      (fine-write setting t (advanced m) is (advanced-like setting t m is related.like) base (off % 2 ^ 64) align (pointer_bytes stored_base (stored_off % 2 ^ 64)) (pointer_in m x) (le_bytes 8 (pointer_in m v)) (goes_on (stored (source_seen t) base (off % 2 ^ 64) (pointer_bytes stored_base (stored_off % 2 ^ 64))) nothing_happened) Rattle.ir_machine.specs.StepEnds.goes_on pointer image
      (ap (λ n. access_answer t.shared.source.births Write base (off % 2 ^ 64) n align) (pointer-length stored_base (stored_off % 2 ^ 64)) ∙ fine)
      (pointer-known t.shared.story.births stored_base (stored_off % 2 ^ 64) stored_known) (λ like.
      goes_on-follows setting (told_stored t base (off % 2 ^ 64) (pointer_bytes stored_base (stored_off % 2 ^ 64))) (numbers_stored (advanced m) (pointer_in m x) (le_bytes 8 (pointer_in m v))) f like (before-next setting given t m f inst is at related _ _ has))))
      (λ constant.
      subst (λ r. FollowsIn setting t m (Rattle.ir_meaning.specs.StepEnds.traps (source_seen t) Rattle.hw_base.specs.declared.endings.Trap.TheVariants.ReadOnly) r) (sym own)
      (constant-write setting t (advanced m) is (advanced-like setting t m is related.like) base (off % 2 ^ 64) align 8 (pointer_in m x) (le_bytes 8 (pointer_in m v)) Rattle.ir_machine.specs.StepEnds.goes_on pointer (length-le_bytes 8 (pointer_in m v)) constant)))))

  -- ---- by the type

  -- what the source does at a store of a type
  stores-at : (value place : Placed) (align : ℕ) (type : IrType) → inst.op ≡ op.Store value place align → type_of setting.program value.ty ≡ type → source_step setting.program given (source_seen t) ≡ source.store_step (source_seen t) type align (value_of setting.program (source_seen t) value) (value_of setting.program (source_seen t) place)
  stores-at value place align type same typed =
      source-at setting.program given t f inst at ∙ ap (λ o. source_operation setting.program given f (source_seen t) inst.result o) same ∙ ap (λ y. source.store_step (source_seen t) y align (value_of setting.program (source_seen t) value) (value_of setting.program (source_seen t) place)) typed

  by-type : (value place : Placed) (align : ℕ) (type : IrType) → inst.op ≡ op.Store value place align → type_of setting.program value.ty ≡ type → FollowsIn setting t m (source.store_step (source_seen t) type align (value_of setting.program (source_seen t) value) (value_of setting.program (source_seen t) place)) (machine.machine_step setting given m) → FollowsIn setting t m (source_step setting.program given (source_seen t)) (machine.machine_step setting given m)
  by-type value place align type same typed h = subst (λ outcome. FollowsIn setting t m outcome (machine.machine_step setting given m)) (sym (stores-at value place align type same typed)) h

  stored-code : (value place : Placed) (align : ℕ) (type : IrType) → inst.op ≡ op.Store value place align → type_of setting.program value.ty ≡ type → HasCheckedCode setting given t m f inst is at related (check_of (access_size type) align (operand_of place) Write) (Store (width_of_type type) (operand_of value) (operand_of place))
  stored-code value place align type same typed =
      subst (λ y. HasCheckedCode setting given t m f inst is at related (check_of (access_size y) align (operand_of place) Write) (Store (width_of_type y) (operand_of value) (operand_of place))) typed
      (checked-code setting given t m f inst is at related (op.Store value place align) _ _ same refl refl refl)

  own-store : (value place : Placed) (align : ℕ) → inst.op ≡ op.Store value place align → (type : IrType) → type_of setting.program value.ty ≡ type → FollowsIn setting t m (source_step setting.program given (source_seen t)) (machine.machine_step setting given m)
  unfolding source.store_step
  own-store value place align same (Int width) typed =
      let resolved = subst (IsResolvedOp setting.program f) same (resolved-at setting.program t.frame.func t.frame.inst f inst is.runnable at.function at.instruction) in
      let access = subst (IsRunnableOp setting.program) same (runnable-here setting given t m f inst is at related) in
      let few = width-is setting given t m f inst is at related value.ty width resolved.0.type typed in
      by-type value place align (Int width) same typed
      (integer-stored width align (value_of setting.program (source_seen t) value) (value_of setting.program (source_seen t) place) (operand_of value) (operand_of place) few.some few.most access.alignment (operand-of setting t m f value related.like resolved.0) (operand-of setting t m f place related.like resolved.1) (stored-code value place align (Int width) same typed))
  own-store value place align same Ptr typed =
      let resolved = subst (IsResolvedOp setting.program f) same (resolved-at setting.program t.frame.func t.frame.inst f inst is.runnable at.function at.instruction) in
      let access = subst (IsRunnableOp setting.program) same (runnable-here setting given t m f inst is at related) in
      by-type value place align Ptr same typed
      (pointer-stored align (value_of setting.program (source_seen t) value) (value_of setting.program (source_seen t) place) (operand_of value) (operand_of place) access.alignment (operand-of setting t m f value related.like resolved.0) (operand-of setting t m f place related.like resolved.1) (stored-code value place align Ptr same typed))
  own-store value place align same Void typed = by-type value place align Void same typed tt
  own-store value place align same (Array count item) typed = by-type value place align (Array count item) same typed tt
  own-store value place align same (Struct first count packed) typed = by-type value place align (Struct first count packed) same typed tt
  own-store value place align same Opaque typed = by-type value place align Opaque same typed tt
  own-store value place align same (Pair width) typed = by-type value place align (Pair width) same typed tt

-- the machine follows each store
pub each-store-followed : (setting : MachineSetting) (t : ToldSeen) (m : MachineSeen) (f : Function) (inst : Inst) (value place : Placed) (align : ℕ) → IsSetting setting → IsAt setting.program t f inst → inst.op ≡ op.Store value place align → SeenRelated setting t m → IsFollowed setting t m
each-store-followed setting t m f inst value place align is at same related input =
    own-store setting (next_input input t.shared.source.input) t m f inst is at related value place align same (type_of setting.program value.ty) refl
