-- The machine follows each load: those of integers, and those of pointers.
use Rattle.std.proofs.Common.{◌≡◌, ℕ, suc, ◌+◌, ◌%◌, ◌^◌, true, if◌then◌else◌, [], length, map, take, drop, Option, Some, None, refl, sym, ◌∙◌, ap, subst, inl, inr, arith}
use Rattle.std.specs.Prelude.{ok_or}
use Rattle.hw_base.specs.declared.accesses.Access.TheVariants.{Read}
use Rattle.hw_base.specs.declared.accesses.Kind.TheVariants.{NoObject}
use Rattle.hw_base.specs.declared.accesses.Reason.TheVariants.{MixedBytes}
use Rattle.hw_base.specs.declared.endings.Input.{Input}
use Rattle.hw_base.specs.declared.pointers.Base.{Base}
use Rattle.hw_base.specs.declared.pointers.Base.TheVariants.{Null, Object}
use Rattle.hw_base.specs.declared.pointers.Obj.{Obj}
use Rattle.hw_tags.specs.InputState.{next_input}
use Rattle.ir_core.specs.NumberTypes.{type_of}
use Rattle.ir_core.specs.ResolvedBodies.{is_alignment, IsResolvedOp}
use Rattle.ir_core.specs.Runnable.{IsRunnableOp}
use Rattle.ir_core.specs.declared.ir_module.Function.{Function}
use Rattle.ir_core.specs.declared.ir_module.Inst.{Inst}
use Rattle.ir_core.specs.declared.operands.Placed.{Placed}
use Rattle.ir_core.specs.declared.operations.Op.TheVariants as op
use Rattle.ir_core.specs.declared.types.IrType.{IrType}
use Rattle.ir_core.specs.declared.types.IrType.TheVariants.{Void, Int, Ptr, Array, Struct, Opaque, Pair}
use Rattle.ir_machine.specs.InstructionStep as machine
use Rattle.ir_machine.specs.MemorySteps as memory
use Rattle.ir_machine.specs.MemorySteps.{number_of_bytes}
use Rattle.ir_machine.specs.Operands.{number_in as machine_number, pointer_in}
use Rattle.ir_machine.specs.State.{MachineSetting, MachineSeen}
use Rattle.ir_machine.specs.StepEnds.{advanced, on_bytes}
use Rattle.ir_meaning.specs.AccessRule.{Fine, OnNull, OnNothing, bytes_answer, access_rule, accessed_in, access_answer}
use Rattle.ir_meaning.specs.Births.{SourceObject, get_object, region_of, bytes_in, bytes_at}
use Rattle.ir_meaning.specs.Encoding.{pointer_from}
use Rattle.ir_meaning.specs.InstructionStep.{source_step, value_of, operation_step as source_operation}
use Rattle.ir_meaning.specs.MemorySteps as source
use Rattle.ir_meaning.specs.StepEnds.{gives, on_read}
use Rattle.ir_meaning.specs.Values.{Value}
use Rattle.mi_code.specs.MachineOperands.{operand_of, result_register}
use Rattle.mi_code.specs.TagChecks.{check_of}
use Rattle.mi_code.specs.declared.operands.MiOperand.{MiOperand}
use Rattle.mi_code.specs.declared.operands.Width.TheVariants.{Ptr as AddressWidth}
use Rattle.mi_code.specs.declared.operations.MiOp.TheVariants.{Load}
use Rattle.tag_story.specs.Story.{number_of, byte_image}
use Rattle.tag_story.specs.Telling.{all_told}
use Rattle.tag_story.specs.ToldRun.{ToldSeen, ToldShared, source_seen}
use Rattle.step_simulation.proofs.ArithmeticFollows.{IsOperandOf}
use Rattle.step_simulation.proofs.CheckedAccess.{advanced-like}
use Rattle.simulation.proofs.FinePasses.{fine-object, fine-nothing}
use Rattle.simulation.proofs.ListParts.{get-take, get-drop, length-part}
use Rattle.step_simulation.proofs.LoadFollows.{pointer-is, read-checked, HasCheckedCode, added-there, source-there, before-next, pointer-code, runnable-here, integer-load}
use Rattle.step_simulation.proofs.OperandsThere.{operand-of, resolved-at}
use Rattle.step_simulation.proofs.PlainSteps.{FollowsIn, IsBeforeNext, own_site, gives-follows}
use Rattle.step_simulation.proofs.PointerBytes.{pointer-read}
use Rattle.step_simulation.proofs.PointerFollows.{pointer-follows}
use Rattle.simulation.proofs.ReadImages.{fine-read}
use Rattle.step_simulation.proofs.RegisterSteps.{source-at}
use Rattle.step_simulation.proofs.Steps.{added-first}
use Rattle.simulation.specs.Checks.{lies_inside}
use Rattle.step_simulation.specs.RegisterSteps.{IsAt, IsFollowed}
use Rattle.simulation.specs.Writes.{AreKnown}
use Rattle.simulation.specs.Relation.{IsSetting, SharedRelated, SeenLike, SeenRelated}
use Rattle.ir_machine.specs.State.{MachineShared}

-- ---- the bytes of a fine read

module _ (setting : MachineSetting) (t : ToldShared) (m : MachineShared) (related : SharedRelated setting t m) where
  object-known : (o : Obj) (found : Option SourceObject) (off count : ℕ) → get_object t.source.births o ≡ found → AreKnown t.story.births (take count (drop off (bytes_in found)))
  object-known o None off count there i byte h = let none = get-drop off [] i byte (get-take count (drop off []) i byte h) in absurd cc
  object-known o (Some x) off count there i byte h = related.known o x (off + i) byte there (get-drop off x.bytes i byte (get-take count (drop off x.bytes) i byte h))

  pub bytes-known : (base : Base) (off count : ℕ) → AreKnown t.story.births (bytes_at t.source.births base off count)
  bytes-known Null off count = λ i byte h. absurd cc
  bytes-known (Object o) off count = object-known o (get_object t.source.births o) off count refl

  object-length : (o : Obj) (found : Option SourceObject) (off n align : ℕ) → get_object t.source.births o ≡ found → bytes_answer Read (accessed_in (region_of t.source.births o) found) off (suc n) align ≡ Fine → length (take (suc n) (drop off (bytes_in found))) ≡ suc n
  object-length o None off n align there h = absurd (fine-nothing Read OnNothing off n align (inl refl) (ap lies_inside h))
  object-length o (Some x) off n align there h =
      let fine = fine-object Read (region_of t.source.births o) x off n align (ap lies_inside h) in
      let inside = fine.1 in
      let size = related.their_bytes o x there ∙ ap (λ bit. if bit then x.size else 0) fine.0 in
      length-part off (suc n) x.bytes (omega (arith, inside, size))

  pub fine-length : (base : Base) (off n align : ℕ) → access_answer t.source.births Read base off (suc n) align ≡ Fine → length (bytes_at t.source.births base off (suc n)) ≡ suc n
  unfolding access_rule
  fine-length Null off n align h = absurd (fine-nothing Read OnNull off n align (inr (NoObject, refl)) (ap lies_inside h))
  fine-length (Object o) off n align h = object-length o (get_object t.source.births o) off n align refl h

-- ---- a read of a pointer

module _ (setting : MachineSetting) (t : ToldSeen) (m : MachineSeen) (f : Function) (is : IsSetting setting) (like : SeenLike setting t m) where
  value-read : (base : Base) (off align : ℕ) (x : MiOperand) (result : Option ℕ) → IsBeforeNext setting t (advanced m) f → pointer_in m x ≡ number_of t.shared.story.births base off → access_answer t.shared.source.births Read base off 8 align ≡ Fine
      → FollowsIn setting t m (on_read (source_seen t) (ok_or (pointer_from (bytes_at t.shared.source.births base off 8)) MixedBytes) (λ v. gives (source_seen t) result v)) (memory.load_step (advanced m) (own_site t) AddressWidth (result_register f result) x)
  unfolding memory.load_step on_read all_told
  value-read base off align x result before pointer fine =
      subst (λ r. FollowsIn setting t m (on_read (source_seen t) (ok_or (pointer_from (bytes_at t.shared.source.births base off 8)) MixedBytes) (λ v. gives (source_seen t) result v)) (on_bytes (advanced m) (own_site t) Read 8 (pointer_in m x) r (λ bytes. Rattle.ir_machine.specs.StepEnds.gives (advanced m) (result_register f result) (number_of_bytes 64 bytes))))
      (sym (ap (λ n. Rattle.tbi_memory.specs.AddressSpace.read m.shared.memory n 8) pointer ∙ fine-read setting t.shared m.shared is like.shared Read base off 8 align (λ same. absurd cc) fine))
      (by_value (pointer_from (bytes_at t.shared.source.births base off 8)) refl)
    where
      by_value : (o : Option Value) → pointer_from (bytes_at t.shared.source.births base off 8) ≡ o
          → FollowsIn setting t m (on_read (source_seen t) (ok_or o MixedBytes) (λ v. gives (source_seen t) result v)) (Rattle.ir_machine.specs.StepEnds.gives (advanced m) (result_register f result) (number_of_bytes 64 (map (byte_image t.shared.story.births) (bytes_at t.shared.source.births base off 8))))
      by_value None here = tt
      by_value (Some v) here =
          let read = pointer-read t.shared.story.births (bytes_at t.shared.source.births base off 8) v (fine-length setting t.shared m.shared like.shared base off 7 align fine) (bytes-known setting t.shared m.shared like.shared base off 8) here in
          gives-follows setting t (advanced m) f result v _ (advanced-like setting t m is like) before read.known read.one read.image

-- ---- the step

module _ (setting : MachineSetting) (given : Input) (t : ToldSeen) (m : MachineSeen) (f : Function) (inst : Inst) (is : IsSetting setting) (at : IsAt setting.program t f inst) (related : SeenRelated setting t m) where
  pointer-loaded : (align : ℕ) (value : Option Value) (x : MiOperand) → is_alignment align ≡ true → IsOperandOf t m x value → HasCheckedCode setting given t m f inst is at related (check_of 8 align x Read) (Load AddressWidth (result_register f inst.result) x)
      → FollowsIn setting t m (source.load_step (source_seen t) inst.result Ptr align value) (machine.machine_step setting given m)
  unfolding source.load_step
  pointer-loaded align value x aligned operand has =
      let (go, (first, later)) = added-first setting given m (own_site t) (check_of 8 align x Read) (Load AddressWidth (result_register f inst.result) x) (added-there setting given t m f inst is at related _ _ has) (source-there setting given t m f inst is at related _ _ has) in
      let (last, load) = later (advanced m) (source-there setting given t m f inst is at related _ _ has) in
      subst (λ r. FollowsIn setting t m (source.load_step (source_seen t) inst.result Ptr align value) r) (sym first)
      (pointer-follows setting t m value (machine_number m x) _ _ operand (λ base off known number.
      let pointer = pointer-is setting t m f is related.like x base off number in
      read-checked setting t m f is related.like given base (off % 2 ^ 64) 8 align x go _ (omega arith) (omega arith) aligned pointer (λ fine.
      subst (λ r. FollowsIn setting t m (on_read (source_seen t) (ok_or (pointer_from (bytes_at t.shared.source.births base (off % 2 ^ 64) 8)) MixedBytes) (λ v. gives (source_seen t) inst.result v)) r) (sym load)
      (value-read setting t m f is related.like base (off % 2 ^ 64) align x inst.result (before-next setting given t m f inst is at related _ _ has) pointer fine))))

  -- what the source does at a load of a type
  load-at : (ty align : ℕ) (place : Placed) (type : IrType) → inst.op ≡ op.Load ty place align → type_of setting.program ty ≡ type → source_step setting.program given (source_seen t) ≡ source.load_step (source_seen t) inst.result type align (value_of setting.program (source_seen t) place)
  load-at ty align place type same typed =
      source-at setting.program given t f inst at ∙ ap (λ o. source_operation setting.program given f (source_seen t) inst.result o) same ∙ ap (λ y. source.load_step (source_seen t) inst.result y align (value_of setting.program (source_seen t) place)) typed

  -- a load of a type that isn't one of numbers is stuck
  stuck-load : (ty align : ℕ) (place : Placed) (type : IrType) → inst.op ≡ op.Load ty place align → type_of setting.program ty ≡ type → FollowsIn setting t m (source.load_step (source_seen t) inst.result type align (value_of setting.program (source_seen t) place)) (machine.machine_step setting given m) → FollowsIn setting t m (source_step setting.program given (source_seen t)) (machine.machine_step setting given m)
  stuck-load ty align place type same typed h = subst (λ outcome. FollowsIn setting t m outcome (machine.machine_step setting given m)) (sym (load-at ty align place type same typed)) h

  own-load : (ty align : ℕ) (place : Placed) → inst.op ≡ op.Load ty place align → (type : IrType) → type_of setting.program ty ≡ type → FollowsIn setting t m (source_step setting.program given (source_seen t)) (machine.machine_step setting given m)
  unfolding source.load_step
  own-load ty align place same (Int width) typed = integer-load setting given t m f inst is at related ty width align place same typed
  own-load ty align place same Ptr typed =
      let resolved = subst (IsResolvedOp setting.program f) same (resolved-at setting.program t.frame.func t.frame.inst f inst is.runnable at.function at.instruction) in
      let access = subst (IsRunnableOp setting.program) same (runnable-here setting given t m f inst is at related) in
      subst (λ outcome. FollowsIn setting t m outcome (machine.machine_step setting given m)) (sym (load-at ty align place Ptr same typed))
      (pointer-loaded align (value_of setting.program (source_seen t) place) (operand_of place) access.alignment (operand-of setting t m f place related.like resolved.1) (pointer-code setting given t m f inst is at related ty align place same typed))
  own-load ty align place same Void typed = stuck-load ty align place Void same typed tt
  own-load ty align place same (Array count item) typed = stuck-load ty align place (Array count item) same typed tt
  own-load ty align place same (Struct first count packed) typed = stuck-load ty align place (Struct first count packed) same typed tt
  own-load ty align place same Opaque typed = stuck-load ty align place Opaque same typed tt
  own-load ty align place same (Pair width) typed = stuck-load ty align place (Pair width) same typed tt

-- the machine follows each load
pub each-load-followed : (setting : MachineSetting) (t : ToldSeen) (m : MachineSeen) (f : Function) (inst : Inst) (ty align : ℕ) (place : Placed) → IsSetting setting → IsAt setting.program t f inst → inst.op ≡ op.Load ty place align → SeenRelated setting t m → IsFollowed setting t m
each-load-followed setting t m f inst ty align place is at same related input =
    own-load setting (next_input input t.shared.source.input) t m f inst is at related ty align place same (type_of setting.program ty) refl
