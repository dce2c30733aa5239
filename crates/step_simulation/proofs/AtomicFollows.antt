-- The machine follows each `atomicrmw` and each `cmpxchg`.
use Rattle.std.proofs.Common.{◌≡◌, ℕ, ◌%◌, ◌^◌, ◌≤◌, ◌==◌, Bool, true, false, if◌then◌else◌, List, map, Option, Some, None, option_map, refl, sym, ◌∙◌, ap, subst, arith}
use Rattle.hw_base.proofs.ByteLaws.{length-le_bytes}
use Rattle.hw_base.specs.Bytes.{le_bytes}
use Rattle.hw_base.specs.declared.accesses.Access.TheVariants.{Write}
use Rattle.hw_base.specs.declared.endings.Input.{Input}
use Rattle.hw_base.specs.declared.endings.Trap.TheVariants.{ReadOnly}
use Rattle.hw_base.specs.declared.operators.RmwOp.{RmwOp}
use Rattle.hw_base.specs.declared.pointers.Base.{Base}
use Rattle.hw_tags.specs.InputState.{next_input}
use Rattle.ir_arith.specs.Atomics.{rmw_result}
use Rattle.ir_core.specs.Layout.{int_store_size}
use Rattle.ir_core.specs.NumberTypes.{type_of, bits_of, access_size}
use Rattle.ir_core.specs.ResolvedBodies.{is_alignment, IsResolvedOp}
use Rattle.ir_core.specs.Runnable.{IsAtomic, IsRunnableOp}
use Rattle.ir_core.specs.declared.ir_module.Function.{Function}
use Rattle.ir_core.specs.declared.ir_module.Inst.{Inst}
use Rattle.ir_core.specs.declared.operands.Placed.{Placed}
use Rattle.ir_core.specs.declared.operations.Op.TheVariants as op
use Rattle.ir_core.specs.declared.types.IrType.{IrType}
use Rattle.ir_core.specs.declared.types.IrType.TheVariants.{Void, Int, Ptr, Array, Struct, Opaque, Pair}
use Rattle.ir_machine.specs.InstructionStep as machine
use Rattle.ir_machine.specs.MemorySteps as memory
use Rattle.ir_machine.specs.MemorySteps.{number_of_bytes, exchange}
use Rattle.ir_machine.specs.Operands.{number_in as machine_number, pointer_in, integer_in}
use Rattle.ir_machine.specs.State.{MachineSetting, MachineSeen, MachineOutcome}
use Rattle.ir_machine.specs.StepEnds as ends
use Rattle.ir_machine.specs.StepEnds.{advanced, with_read, with_write}
use Rattle.ir_meaning.specs.AccessRule.{Fine, access_answer}
use Rattle.ir_meaning.specs.Births.{bytes_at}
use Rattle.ir_meaning.specs.Encoding.{number_bytes, data_numbers, number_of_width, int_from}
use Rattle.ir_meaning.specs.InstructionStep.{source_step, value_of, operation_step as source_operation}
use Rattle.ir_meaning.specs.MemorySteps as source
use Rattle.ir_meaning.specs.MemorySteps.{integer_stored}
use Rattle.ir_meaning.specs.StepEnds.{gives, traps, on_integer}
use Rattle.ir_meaning.specs.State.{SourceOutcome}
use Rattle.ir_meaning.specs.Values.{Value, Integer, IntegerAndBit}
use Rattle.mi_code.specs.MachineOperands.{operand_of, result_register}
use Rattle.mi_code.specs.TagChecks.{check_of}
use Rattle.mi_code.specs.declared.operands.MiOperand.{MiOperand}
use Rattle.mi_code.specs.declared.operations.MiOp.TheVariants.{Rmw, CmpXchg}
use Rattle.tag_story.specs.Story.{number_of, byte_image}
use Rattle.tag_story.specs.Telling.{all_told}
use Rattle.tag_story.specs.ToldRun.{ToldSeen, source_seen}
use Rattle.step_simulation.proofs.ArithmeticFollows.{IsOperandOf}
use Rattle.step_simulation.proofs.CheckedAccess.{advanced-like, access-checked}
use Rattle.step_simulation.proofs.LoadFollows.{data-images, pointer-is, HasCheckedCode, before-next, checked-step, checked-code, width-is, runnable-here}
use Rattle.step_simulation.proofs.OperandsThere.{operand-of, resolved-at}
use Rattle.step_simulation.proofs.PlainSteps.{FollowsIn, IsBeforeNext, own_site, gives-follows, pair-follows, integer-known}
use Rattle.step_simulation.proofs.PointerFollows.{pointer-follows}
use Rattle.step_simulation.proofs.RegisterSteps.{source-at}
use Rattle.step_simulation.proofs.WritesFollow.{told_stored, numbers_stored, constant-write, number-write, overwritten-read, fine-asked, constant-asked}
use Rattle.simulation.specs.Checks.{lies_inside}
use Rattle.step_simulation.specs.RegisterSteps.{IsAt, IsFollowed}
use Rattle.simulation.specs.Relation.{IsSetting, SeenLike, SeenRelated}

-- ---- a read, and a write after it

module _ (setting : MachineSetting) (t : ToldSeen) (m : MachineSeen) (f : Function) (is : IsSetting setting) (like : SeenLike setting t m) (before : IsBeforeNext setting t m f) (result : Option ℕ) (base : Base) (off align width number : ℕ) (pointer : number ≡ number_of t.shared.story.births base off) (fine : access_answer t.shared.source.births Write base off (int_store_size width) align ≡ Fine) where
  -- the old value, or the source is outside the profile
  old-follows : (go : ℕ → SourceOutcome) (r : ℕ → MachineOutcome) → ((old : ℕ) → FollowsIn setting t m (go old) (r old))
      → FollowsIn setting t m (on_integer (source_seen t) (int_from width (bytes_at t.shared.source.births base off (int_store_size width))) go) (with_read m (own_site t) Write (int_store_size width) number (λ bytes. r (number_of_bytes width bytes)))
  unfolding on_integer int_from all_told
  old-follows go r follows =
      overwritten-read setting t m is like base off align (int_store_size width) number _ (λ bytes. r (number_of_bytes width bytes)) pointer (ap lies_inside fine)
      (by_numbers (data_numbers (bytes_at t.shared.source.births base off (int_store_size width))) refl)
    where
      by_numbers : (o : Option (List ℕ)) → data_numbers (bytes_at t.shared.source.births base off (int_store_size width)) ≡ o
          → FollowsIn setting t m (on_integer (source_seen t) (option_map (number_of_width width) o) go) (r (number_of_bytes width (map (byte_image t.shared.story.births) (bytes_at t.shared.source.births base off (int_store_size width)))))
      by_numbers None here = tt
      by_numbers (Some ns) here =
          subst (λ bytes. FollowsIn setting t m (go (number_of_width width ns)) (r (number_of_bytes width bytes)))
          (sym (data-images t.shared.story.births (bytes_at t.shared.source.births base off (int_store_size width)) ns here))
          (follows (number_of_width width ns))

  pub rmw-written : (kind : RmwOp) (operand : ℕ) → FollowsIn setting t m (source.with_old (source_seen t) width base off (λ old. gives (integer_stored (source_seen t) width base off (rmw_result kind width old operand)) result (Integer old)))
      (with_read m (own_site t) Write (int_store_size width) number (λ bytes. let old = number_of_bytes width bytes in with_write m (own_site t) number (le_bytes (int_store_size width) (rmw_result kind width old operand)) (λ after. ends.gives after (result_register f result) old)))
  unfolding all_told
  rmw-written kind operand =
      old-follows (λ old. gives (integer_stored (source_seen t) width base off (rmw_result kind width old operand)) result (Integer old))
      (λ old. with_write m (own_site t) number (le_bytes (int_store_size width) (rmw_result kind width old operand)) (λ after. ends.gives after (result_register f result) old)) (λ old.
      number-write setting t m is like base off align (int_store_size width) (rmw_result kind width old operand) (rmw_result kind width old operand) number (gives (integer_stored (source_seen t) width base off (rmw_result kind width old operand)) result (Integer old)) (λ after. ends.gives after (result_register f result) old) pointer refl fine (λ after.
      gives-follows setting (told_stored t base off (number_bytes (int_store_size width) (rmw_result kind width old operand))) (numbers_stored m number (le_bytes (int_store_size width) (rmw_result kind width old operand))) f result (Integer old) old after before tt tt refl))

  exchanged : (old replacement : ℕ) (equal : Bool)
      → FollowsIn setting t m (if equal then gives (integer_stored (source_seen t) width base off replacement) result (IntegerAndBit old 1) else gives (source_seen t) result (IntegerAndBit old 0)) (exchange m (own_site t) number (result_register f result) (le_bytes (int_store_size width) replacement) old equal)
  unfolding all_told
  exchanged old replacement true =
      number-write setting t m is like base off align (int_store_size width) replacement replacement number (gives (integer_stored (source_seen t) width base off replacement) result (IntegerAndBit old 1)) (λ after. ends.gives_pair after (result_register f result) old true) pointer refl fine (λ after.
      pair-follows setting (told_stored t base off (number_bytes (int_store_size width) replacement)) (numbers_stored m number (le_bytes (int_store_size width) replacement)) f result old true after before)
  exchanged old replacement false = pair-follows setting t m f result old false like before

  pub cmpxchg-written : (wanted replacement : ℕ) → FollowsIn setting t m
      (source.with_old (source_seen t) width base off (λ old. if old == wanted then gives (integer_stored (source_seen t) width base off replacement) result (IntegerAndBit old 1) else gives (source_seen t) result (IntegerAndBit old 0)))
      (with_read m (own_site t) Write (int_store_size width) number (λ bytes. let old = number_of_bytes width bytes in exchange m (own_site t) number (result_register f result) (le_bytes (int_store_size width) replacement) old (old == wanted)))
  cmpxchg-written wanted replacement =
      old-follows (λ old. if old == wanted then gives (integer_stored (source_seen t) width base off replacement) result (IntegerAndBit old 1) else gives (source_seen t) result (IntegerAndBit old 0))
      (λ old. exchange m (own_site t) number (result_register f result) (le_bytes (int_store_size width) replacement) old (old == wanted)) (λ old.
      exchanged old replacement (old == wanted))

-- ---- the steps

module _ (setting : MachineSetting) (given : Input) (t : ToldSeen) (m : MachineSeen) (f : Function) (inst : Inst) (is : IsSetting setting) (at : IsAt setting.program t f inst) (related : SeenRelated setting t m) where
  abbrev ahead : SeenLike setting t (advanced m)
  ahead = advanced-like setting t m is related.like

  rmw-follows : (kind : RmwOp) (width align : ℕ) (place value : Option Value) (x v : MiOperand) → 1 ≤ width → width ≤ 128 → is_alignment align ≡ true → IsOperandOf t m x place → IsOperandOf t m v value
      → HasCheckedCode setting given t m f inst is at related (check_of (int_store_size width) align x Write) (Rmw kind width (result_register f inst.result) x v)
      → FollowsIn setting t m (source.rmw_step (source_seen t) inst.result kind (Int width) align place value) (machine.machine_step setting given m)
  unfolding source.rmw_step memory.rmw_step
  rmw-follows kind width align place value x v some few aligned is_place is_value has =
      checked-step setting given t m f inst is at related _ _ has _ (λ go next own.
      pointer-follows setting t m place (machine_number m x) _ _ is_place (λ base off known number.
      integer-known setting t m width value (machine_number m v) _ _ is_value (λ operand same.
      let pointer = pointer-is setting t m f is related.like x base off number in
      access-checked setting t m is related.like given Write (λ wrong. absurd cc) base (off % 2 ^ 64) (int_store_size width) align x go _ (omega (arith, some)) (omega (arith, few)) aligned pointer
      (λ fine.
      let outcome = source.with_old (source_seen t) width base (off % 2 ^ 64) (λ old. gives (integer_stored (source_seen t) width base (off % 2 ^ 64) (rmw_result kind width old operand)) inst.result (Integer old)) in
      subst (λ r. FollowsIn setting t m outcome r) (sym own)
      (subst (λ n. FollowsIn setting t m outcome (with_read (advanced m) (own_site t) Write (int_store_size width) (pointer_in m x) (λ bytes. let old = number_of_bytes width bytes in with_write (advanced m) (own_site t) (pointer_in m x) (le_bytes (int_store_size width) (rmw_result kind width old n)) (λ after. ends.gives after (result_register f inst.result) old)))) same
      (rmw-written setting t (advanced m) f is ahead (before-next setting given t m f inst is at related _ _ has) inst.result base (off % 2 ^ 64) align width (pointer_in m x) pointer fine kind operand)))
      (λ constant.
      subst (λ r. FollowsIn setting t m (traps (source_seen t) ReadOnly) r) (sym own)
      (let old = number_of_bytes width (map (byte_image t.shared.story.births) (bytes_at t.shared.source.births base (off % 2 ^ 64) (int_store_size width))) in
      overwritten-read setting t (advanced m) is ahead base (off % 2 ^ 64) align (int_store_size width) (pointer_in m x) (traps (source_seen t) ReadOnly) (λ bytes. with_write (advanced m) (own_site t) (pointer_in m x) (le_bytes (int_store_size width) (rmw_result kind width (number_of_bytes width bytes) (integer_in m width v))) (λ after. ends.gives after (result_register f inst.result) (number_of_bytes width bytes))) pointer (ap lies_inside constant)
      (constant-write setting t (advanced m) is ahead base (off % 2 ^ 64) align (int_store_size width) (pointer_in m x) (le_bytes (int_store_size width) (rmw_result kind width old (integer_in m width v))) (λ after. ends.gives after (result_register f inst.result) old) pointer (length-le_bytes (int_store_size width) (rmw_result kind width old (integer_in m width v))) constant))))))

  cmpxchg-follows : (width align : ℕ) (place expected new : Option Value) (x e n : MiOperand) → 1 ≤ width → width ≤ 128 → is_alignment align ≡ true → IsOperandOf t m x place → IsOperandOf t m e expected → IsOperandOf t m n new
      → HasCheckedCode setting given t m f inst is at related (check_of (int_store_size width) align x Write) (CmpXchg width (result_register f inst.result) x e n)
      → FollowsIn setting t m (source.cmpxchg_step (source_seen t) inst.result (Int width) align place expected new) (machine.machine_step setting given m)
  unfolding source.cmpxchg_step memory.cmpxchg_step
  cmpxchg-follows width align place expected new x e n some few aligned is_place is_expected is_new has =
      checked-step setting given t m f inst is at related _ _ has _ (λ go next own.
      pointer-follows setting t m place (machine_number m x) _ _ is_place (λ base off known number.
      integer-known setting t m width expected (machine_number m e) _ _ is_expected (λ wanted wanted_is.
      integer-known setting t m width new (machine_number m n) _ _ is_new (λ replacement replacement_is.
      let pointer = pointer-is setting t m f is related.like x base off number in
      access-checked setting t m is related.like given Write (λ wrong. absurd cc) base (off % 2 ^ 64) (int_store_size width) align x go _ (omega (arith, some)) (omega (arith, few)) aligned pointer
      (λ fine.
      let outcome = source.with_old (source_seen t) width base (off % 2 ^ 64) (λ old. if old == wanted then gives (integer_stored (source_seen t) width base (off % 2 ^ 64) replacement) inst.result (IntegerAndBit old 1) else gives (source_seen t) inst.result (IntegerAndBit old 0)) in
      subst (λ r. FollowsIn setting t m outcome r) (sym own)
      (fine-asked setting t (advanced m) is ahead base (off % 2 ^ 64) align (int_store_size width) (pointer_in m x) outcome _ pointer fine
      (subst (λ w. FollowsIn setting t m outcome (with_read (advanced m) (own_site t) Write (int_store_size width) (pointer_in m x) (λ bytes. let old = number_of_bytes width bytes in exchange (advanced m) (own_site t) (pointer_in m x) (result_register f inst.result) (le_bytes (int_store_size width) (integer_in m width n)) old (old == w)))) wanted_is
      (subst (λ w. FollowsIn setting t m outcome (with_read (advanced m) (own_site t) Write (int_store_size width) (pointer_in m x) (λ bytes. let old = number_of_bytes width bytes in exchange (advanced m) (own_site t) (pointer_in m x) (result_register f inst.result) (le_bytes (int_store_size width) w) old (old == wanted)))) replacement_is
      (cmpxchg-written setting t (advanced m) f is ahead (before-next setting given t m f inst is at related _ _ has) inst.result base (off % 2 ^ 64) align width (pointer_in m x) pointer fine wanted replacement)))))
      (λ constant.
      subst (λ r. FollowsIn setting t m (traps (source_seen t) ReadOnly) r) (sym own)
      (constant-asked setting t (advanced m) is ahead base (off % 2 ^ 64) align (int_store_size width) (pointer_in m x) _ pointer constant))))))

  -- ---- by the type

  rmw-by : (kind : RmwOp) (place value : Placed) (align : ℕ) → inst.op ≡ op.Rmw kind place value align → (type : IrType) → type_of setting.program value.ty ≡ type → FollowsIn setting t m (source.rmw_step (source_seen t) inst.result kind type align (value_of setting.program (source_seen t) place) (value_of setting.program (source_seen t) value)) (machine.machine_step setting given m)
  unfolding source.rmw_step
  rmw-by kind place value align same (Int width) typed =
      let resolved = subst (IsResolvedOp setting.program f) same (resolved-at setting.program t.frame.func t.frame.inst f inst is.runnable at.function at.instruction) in
      let access = subst (λ y. IsAtomic y align) typed (subst (IsRunnableOp setting.program) same (runnable-here setting given t m f inst is at related)) in
      let few = width-is setting given t m f inst is at related value.ty width resolved.1.type typed in
      rmw-follows kind width align (value_of setting.program (source_seen t) place) (value_of setting.program (source_seen t) value) (operand_of place) (operand_of value) few.some few.most access.1 (operand-of setting t m f place related.like resolved.0) (operand-of setting t m f value related.like resolved.1)
      (subst (λ y. HasCheckedCode setting given t m f inst is at related (check_of (access_size y) align (operand_of place) Write) (Rmw kind (bits_of y) (result_register f inst.result) (operand_of place) (operand_of value))) typed
      (checked-code setting given t m f inst is at related (op.Rmw kind place value align) _ _ same refl refl refl))
  rmw-by kind place value align same Void typed = tt
  rmw-by kind place value align same Ptr typed = tt
  rmw-by kind place value align same (Array count item) typed = tt
  rmw-by kind place value align same (Struct first count packed) typed = tt
  rmw-by kind place value align same Opaque typed = tt
  rmw-by kind place value align same (Pair width) typed = tt

  pub own-rmw : (kind : RmwOp) (place value : Placed) (align : ℕ) → inst.op ≡ op.Rmw kind place value align → FollowsIn setting t m (source_step setting.program given (source_seen t)) (machine.machine_step setting given m)
  own-rmw kind place value align same =
      subst (λ outcome. FollowsIn setting t m outcome (machine.machine_step setting given m))
      (sym (source-at setting.program given t f inst at ∙ ap (λ o. source_operation setting.program given f (source_seen t) inst.result o) same))
      (rmw-by kind place value align same (type_of setting.program value.ty) refl)

  cmpxchg-by : (place expected new : Placed) (align : ℕ) → inst.op ≡ op.CmpXchg place expected new align → (type : IrType) → type_of setting.program new.ty ≡ type
      → FollowsIn setting t m (source.cmpxchg_step (source_seen t) inst.result type align (value_of setting.program (source_seen t) place) (value_of setting.program (source_seen t) expected) (value_of setting.program (source_seen t) new)) (machine.machine_step setting given m)
  unfolding source.cmpxchg_step
  cmpxchg-by place expected new align same (Int width) typed =
      let resolved = subst (IsResolvedOp setting.program f) same (resolved-at setting.program t.frame.func t.frame.inst f inst is.runnable at.function at.instruction) in
      let access = subst (λ y. IsAtomic y align) typed (subst (IsRunnableOp setting.program) same (runnable-here setting given t m f inst is at related)) in
      let few = width-is setting given t m f inst is at related new.ty width resolved.2.type typed in
      cmpxchg-follows width align (value_of setting.program (source_seen t) place) (value_of setting.program (source_seen t) expected) (value_of setting.program (source_seen t) new) (operand_of place) (operand_of expected) (operand_of new) few.some few.most access.1
      (operand-of setting t m f place related.like resolved.0) (operand-of setting t m f expected related.like resolved.1) (operand-of setting t m f new related.like resolved.2)
      (subst (λ y. HasCheckedCode setting given t m f inst is at related (check_of (access_size y) align (operand_of place) Write) (CmpXchg (bits_of y) (result_register f inst.result) (operand_of place) (operand_of expected) (operand_of new))) typed
      (checked-code setting given t m f inst is at related (op.CmpXchg place expected new align) _ _ same refl refl refl))
  cmpxchg-by place expected new align same Void typed = tt
  cmpxchg-by place expected new align same Ptr typed = tt
  cmpxchg-by place expected new align same (Array count item) typed = tt
  cmpxchg-by place expected new align same (Struct first count packed) typed = tt
  cmpxchg-by place expected new align same Opaque typed = tt
  cmpxchg-by place expected new align same (Pair width) typed = tt

  pub own-cmpxchg : (place expected new : Placed) (align : ℕ) → inst.op ≡ op.CmpXchg place expected new align → FollowsIn setting t m (source_step setting.program given (source_seen t)) (machine.machine_step setting given m)
  own-cmpxchg place expected new align same =
      subst (λ outcome. FollowsIn setting t m outcome (machine.machine_step setting given m))
      (sym (source-at setting.program given t f inst at ∙ ap (λ o. source_operation setting.program given f (source_seen t) inst.result o) same))
      (cmpxchg-by place expected new align same (type_of setting.program new.ty) refl)

-- the machine follows each `atomicrmw`
pub each-rmw-followed : (setting : MachineSetting) (t : ToldSeen) (m : MachineSeen) (f : Function) (inst : Inst) (kind : RmwOp) (place value : Placed) (align : ℕ) → IsSetting setting → IsAt setting.program t f inst → inst.op ≡ op.Rmw kind place value align → SeenRelated setting t m → IsFollowed setting t m
each-rmw-followed setting t m f inst kind place value align is at same related input = own-rmw setting (next_input input t.shared.source.input) t m f inst is at related kind place value align same

-- and each `cmpxchg`
pub each-cmpxchg-followed : (setting : MachineSetting) (t : ToldSeen) (m : MachineSeen) (f : Function) (inst : Inst) (place expected new : Placed) (align : ℕ) → IsSetting setting → IsAt setting.program t f inst → inst.op ≡ op.CmpXchg place expected new align → SeenRelated setting t m → IsFollowed setting t m
each-cmpxchg-followed setting t m f inst place expected new align is at same related input = own-cmpxchg setting (next_input input t.shared.source.input) t m f inst is at related place expected new align same
