-- The machine follows each load of an integer: it is checked and reported as the story says, and else gives the same number.
use Rattle.std.proofs.Common.{◌≡◌, ℕ, suc, ◌+◌, ◌%◌, ◌^◌, ◌<◌, ◌≤◌, true, List, [], ◌∷◌, ◌++◌, length, map, slice_get, Option, Some, None, option_map, refl, sym, ◌∙◌, ap, subst, arith}
use Rattle.hw_base.specs.declared.accesses.Access.TheVariants.{Read}
use Rattle.hw_base.specs.declared.endings.Input.{Input}
use Rattle.hw_base.specs.declared.pointers.Base.{Base}
use Rattle.ir_core.specs.Blocks.{block_holding}
use Rattle.ir_core.specs.Layout.{int_store_size}
use Rattle.ir_core.specs.NumberTypes.{type_of, access_size}
use Rattle.ir_core.specs.ResolvedBodies.{is_alignment, IsResolvedOp}
use Rattle.ir_core.specs.Externals.{IsWidth}
use Rattle.ir_core.specs.Resolved.{IsResolvedType}
use Rattle.ir_core.specs.Runnable.{IsRunnableOp, IsRunnableFunction}
use Rattle.ir_core.specs.declared.operands.Placed.{Placed}
use Rattle.ir_core.specs.declared.operations.Op.{Op}
use Rattle.ir_core.specs.declared.operations.Op.TheVariants as op
use Rattle.ir_core.specs.declared.ir_module.Function.{Function}
use Rattle.ir_core.specs.declared.ir_module.Inst.{Inst}
use Rattle.ir_core.specs.declared.types.IrType.{IrType}
use Rattle.ir_core.specs.declared.types.IrType.TheVariants.{Void, Int, Ptr}
use Rattle.ir_machine.proofs.CodeAt.{place-next}
use Rattle.ir_machine.proofs.BlockPlaces.{all-at}
use Rattle.ir_machine.specs.CallSteps.{instruction_at}
use Rattle.ir_machine.specs.InstructionStep as machine
use Rattle.ir_machine.specs.MemorySteps as memory
use Rattle.ir_machine.specs.MemorySteps.{number_of_bytes}
use Rattle.ir_machine.specs.Operands.{number_in as machine_number, pointer_in}
use Rattle.ir_machine.specs.State.{MachineSetting, MachineSeen, MachineOutcome}
use Rattle.ir_machine.specs.StepEnds.{advanced, on_bytes}
use Rattle.ir_meaning.specs.AccessRule.{Fine, accessed, access_answer}
use Rattle.ir_meaning.specs.Births.{bytes_at}
use Rattle.ir_meaning.specs.Encoding.{data_numbers, number_before, number_of_width, int_from}
use Rattle.ir_meaning.specs.MemorySteps as source
use Rattle.ir_meaning.specs.InstructionStep.{source_step, value_of, operation_step as source_operation}
use Rattle.ir_meaning.specs.State.{SourceOutcome}
use Rattle.ir_meaning.specs.StepEnds.{gives, on_access, on_integer}
use Rattle.ir_meaning.specs.Values.{Value, Integer, SourceByte, Data, Piece}
use Rattle.mi_code.specs.Instrumentation.{place_of, own_length, instruction_length, code_of_instruction, starts_of, added_mi, source_mi}
use Rattle.mi_code.specs.MachineOperands.{operand_of, result_register}
use Rattle.mi_code.specs.SourceCode.{source_code}
use Rattle.mi_code.specs.Widths.{width_of_type}
use Rattle.mi_code.specs.TagChecks.{check_of, added_code}
use Rattle.mi_code.specs.declared.code_functions.Mark.TheVariants.{Added, Source}
use Rattle.mi_code.specs.declared.operands.MiOperand.{MiOperand}
use Rattle.mi_code.specs.declared.operands.Width.TheVariants.{Int as WidthOf, Ptr as AddressWidth}
use Rattle.mi_code.specs.declared.operations.MiOp.{MiOp}
use Rattle.mi_code.specs.declared.operations.MiOp.TheVariants.{Load}
use Rattle.tag_story.specs.Story.{StoryBirth, number_of, byte_image}
use Rattle.tag_story.specs.Telling.{all_told}
use Rattle.tag_story.specs.ToldRun.{ToldSeen, source_seen}
use Rattle.tbi_memory.specs.AddressSpace.{check}
use Rattle.step_simulation.proofs.ArithmeticFollows.{IsOperandOf}
use Rattle.step_simulation.proofs.CheckedAccess.{advanced-like, read-writes-nothing, access-checked}
use Rattle.step_simulation.proofs.CodeAt.{instruction-get, at-frame}
use Rattle.step_simulation.proofs.PlainSteps.{FollowsIn, IsBeforeNext, own_site, gives-follows}
use Rattle.step_simulation.proofs.PointerFollows.{number-is, number-modulo, pointer-follows}
use Rattle.step_simulation.proofs.PointerComparisons.{offset-modulo}
use Rattle.simulation.proofs.ReadImages.{fine-read}
use Rattle.step_simulation.proofs.Steps.{added-first}
use Rattle.simulation.specs.Relation.{IsSetting, SeenLike, SeenRelated}
use Rattle.step_simulation.specs.RegisterSteps.{IsAt}
use Rattle.step_simulation.proofs.OperandsThere.{operand-of, resolved-at}
use Rattle.step_simulation.proofs.RegisterSteps.{source-at}

-- ---- values

-- the images of bytes that are numbers are these numbers
pub data-images : (births : List StoryBirth) (bytes : List SourceByte) (ns : List ℕ) → data_numbers bytes ≡ Some ns → map (byte_image births) bytes ≡ ns
unfolding data_numbers
data-images births [] ns h = cc
data-images births (Data n ∷ bytes) ns h = by_rest (data_numbers bytes) refl h (λ rest e. data-images births bytes rest e)
  where
    by_rest : (o : Option (List ℕ)) → data_numbers bytes ≡ o → number_before n o ≡ Some ns → ((rest : List ℕ) → data_numbers bytes ≡ Some rest → map (byte_image births) bytes ≡ rest) → n ∷ map (byte_image births) bytes ≡ ns
    by_rest None here e later = absurd cc
    by_rest (Some rest) here e later = ap (λ xs. n ∷ xs) (later rest here) ∙ (let is : n ∷ rest ≡ ns = cc in is)
data-images births (Piece o off j ∷ bytes) ns h = absurd cc

module _ (setting : MachineSetting) (t : ToldSeen) (m : MachineSeen) (f : Function) (is : IsSetting setting) (like : SeenLike setting t m) where
  -- the pointer that the machine's operand is
  pub pointer-is : (x : MiOperand) (base : Base) (off : ℕ) → machine_number m x ≡ number_of t.shared.story.births base off → pointer_in m x ≡ number_of t.shared.story.births base (off % 2 ^ 64)
  pointer-is x base off same =
      ap (λ n. n % 2 ^ 64) same ∙ number-modulo t.shared.story.births base off ∙ offset-modulo _ off
      ∙ sym (number-is t.shared.story.births base (off % 2 ^ 64) (let small : off % 2 ^ 64 < 2 ^ 64 = omega arith in small))

  -- ---- reads

  -- a read of an integer that is fine
  integer-read : (width : ℕ) (base : Base) (off align : ℕ) (x : MiOperand) (result : Option ℕ) → IsBeforeNext setting t (advanced m) f → pointer_in m x ≡ number_of t.shared.story.births base off → access_answer t.shared.source.births Read base off (int_store_size width) align ≡ Fine
      → FollowsIn setting t m (on_integer (source_seen t) (int_from width (bytes_at t.shared.source.births base off (int_store_size width))) (λ n. gives (source_seen t) result (Integer n))) (memory.load_step (advanced m) (own_site t) (WidthOf width) (result_register f result) x)
  unfolding memory.load_step int_from on_integer all_told
  integer-read width base off align x result before pointer fine =
      subst (λ r. FollowsIn setting t m (on_integer (source_seen t) (int_from width (bytes_at t.shared.source.births base off (int_store_size width))) (λ n. gives (source_seen t) result (Integer n))) (on_bytes (advanced m) (own_site t) Read (int_store_size width) (pointer_in m x) r (λ bytes. Rattle.ir_machine.specs.StepEnds.gives (advanced m) (result_register f result) (number_of_bytes width bytes))))
      (sym (ap (λ n. Rattle.tbi_memory.specs.AddressSpace.read m.shared.memory n (int_store_size width)) pointer ∙ fine-read setting t.shared m.shared is like.shared Read base off (int_store_size width) align (λ same. absurd cc) fine))
      (by_numbers (data_numbers (bytes_at t.shared.source.births base off (int_store_size width))) refl)
    where
      by_numbers : (o : Option (List ℕ)) → data_numbers (bytes_at t.shared.source.births base off (int_store_size width)) ≡ o
          → FollowsIn setting t m (on_integer (source_seen t) (option_map (number_of_width width) o) (λ n. gives (source_seen t) result (Integer n))) (Rattle.ir_machine.specs.StepEnds.gives (advanced m) (result_register f result) (number_of_bytes width (map (byte_image t.shared.story.births) (bytes_at t.shared.source.births base off (int_store_size width)))))
      by_numbers None here = tt
      by_numbers (Some ns) here =
          gives-follows setting t (advanced m) f result (Integer (number_of_width width ns)) _ (advanced-like setting t m is like) before tt tt
          (ap (number_of_bytes width) (data-images t.shared.story.births (bytes_at t.shared.source.births base off (int_store_size width)) ns here))

  -- a read through a pointer: the check reports it as the story says, or the machine goes on
  pub read-checked : (given : Input) (base : Base) (off n align : ℕ) (x : MiOperand) (go : MachineSeen → MachineOutcome) (next : SourceOutcome) → 1 ≤ n → n < 2 ^ 64 → is_alignment align ≡ true → pointer_in m x ≡ number_of t.shared.story.births base off
      → (access_answer t.shared.source.births Read base off n align ≡ Fine → FollowsIn setting t m next (go (advanced m)))
      → FollowsIn setting t m (on_access (source_seen t) Read base off n align next) (machine.operation_step setting given (own_site t) go m (check_of n align x Read))
  read-checked given base off n align x go next some small aligned pointer follows =
      access-checked setting t m is like given Read (λ same. absurd cc) base off n align x go next some small aligned pointer follows (λ constant. absurd (read-writes-nothing (accessed t.shared.source.births base) off n align constant))

-- ---- the step

module _ (setting : MachineSetting) (given : Input) (t : ToldSeen) (m : MachineSeen) (f : Function) (inst : Inst) (is : IsSetting setting) (at : IsAt setting.program t f inst) (related : SeenRelated setting t m) where
  -- a check was added before the instruction, and its own code is this machine instruction
  pub record HasCheckedCode (added op : MiOp) : Type 0 where
    pub code : code_of_instruction setting.program f (own_site t) inst ≡ record { mark = Added (own_site t); op = added } ∷ record { mark = Source (own_site t); op = op } ∷ []
    pub two : instruction_length setting.program f.allocas inst ≡ 2

  pub added-there : (added op : MiOp) → HasCheckedCode added op → instruction_at setting.code m.frame ≡ Some (record { mark = Added (own_site t); op = added })
  added-there added op has =
      ap (λ code. instruction_at code m.frame) is.code
      ∙ at-frame setting.program t.frame.func f m.frame (place_of setting.program f t.frame.inst + 0) (record { mark = Added (own_site t); op = added }) at.function related.like.frame.func
      (related.place f at.function ∙ (let e : place_of setting.program f t.frame.inst ≡ place_of setting.program f t.frame.inst + 0 = omega arith in e))
      (instruction-get setting.program f t.frame.func t.frame.inst 0 inst _ at.instruction (ap (λ xs. slice_get xs 0) has.code))

  pub source-there : (added op : MiOp) → HasCheckedCode added op → instruction_at setting.code (advanced m).frame ≡ Some (record { mark = Source (own_site t); op = op })
  source-there added op has =
      ap (λ code. instruction_at code (advanced m).frame) is.code
      ∙ at-frame setting.program t.frame.func f (advanced m).frame (place_of setting.program f t.frame.inst + 1) (record { mark = Source (own_site t); op = op }) at.function related.like.frame.func
      (ap (λ n. n + 1) (related.place f at.function))
      (instruction-get setting.program f t.frame.func t.frame.inst 1 inst _ at.instruction (ap (λ xs. slice_get xs 1) has.code))

  pub before-next : (added op : MiOp) → HasCheckedCode added op → IsBeforeNext setting t (advanced m) f
  before-next added op has =
      (at.function, let here = related.place f at.function in let next = place-next setting.program f t.frame.inst inst at.instruction in let two = has.two in let after : t.frame.inst + 1 ≡ suc t.frame.inst = omega arith in let same = ap (place_of setting.program f) after in omega (arith, here, next, two, same))

  -- a step whose check was added before it
  pub checked-step : (added op : MiOp) → HasCheckedCode added op → (outcome : SourceOutcome)
      → ((go next : MachineSeen → MachineOutcome) → go (advanced m) ≡ machine.operation_step setting given (own_site t) next (advanced m) op → FollowsIn setting t m outcome (machine.operation_step setting given (own_site t) go m added))
      → FollowsIn setting t m outcome (machine.machine_step setting given m)
  checked-step added op has outcome follows =
      let (go, (first, later)) = added-first setting given m (own_site t) added op (added-there _ _ has) (source-there _ _ has) in
      let (next, own) = later (advanced m) (source-there _ _ has) in
      subst (λ r. FollowsIn setting t m outcome r) (sym first) (follows go next own)

  -- an operation to which one check was added
  pub checked-code : (o : Op) (added op : MiOp) → inst.op ≡ o → added_code setting.program f.allocas o ≡ added ∷ [] → source_code setting.program f (starts_of setting.program f) (block_holding f.blocks t.frame.inst) inst.result o ≡ Some op → own_length o ≡ 1 → HasCheckedCode added op
  unfolding code_of_instruction
  checked-code o added op same first own one =
      record {
        code =
            ap (λ x. map (added_mi (own_site t)) (added_code setting.program f.allocas x) ++ source_mi (own_site t) (source_code setting.program f (starts_of setting.program f) (block_holding f.blocks t.frame.inst) inst.result x)) same
            ∙ ap (λ added. map (added_mi (own_site t)) added ++ source_mi (own_site t) (source_code setting.program f (starts_of setting.program f) (block_holding f.blocks t.frame.inst) inst.result o)) first
            ∙ ap (λ x. map (added_mi (own_site t)) (added ∷ []) ++ source_mi (own_site t) x) own;
        two = ap (λ x. length (added_code setting.program f.allocas x) + own_length x) same ∙ ap (λ added. length added + own_length o) first ∙ ap (λ n. 1 + n) one;
      }

  -- a load of an integer
  pub integer-loaded : (width align : ℕ) (value : Option Value) (x : MiOperand) → 1 ≤ width → width ≤ 128 → is_alignment align ≡ true → IsOperandOf t m x value → HasCheckedCode (check_of (int_store_size width) align x Read) (Load (WidthOf width) (result_register f inst.result) x)
      → FollowsIn setting t m (source.load_step (source_seen t) inst.result (Int width) align value) (machine.machine_step setting given m)
  unfolding source.load_step
  integer-loaded width align value x some few aligned operand has =
      let added = check_of (int_store_size width) align x Read in
      let (go, (first, later)) = added-first setting given m (own_site t) added (Load (WidthOf width) (result_register f inst.result) x) (added-there _ _ has) (source-there _ _ has) in
      let (last, load) = later (advanced m) (source-there _ _ has) in
      subst (λ r. FollowsIn setting t m (source.load_step (source_seen t) inst.result (Int width) align value) r) (sym first)
      (pointer-follows setting t m value (machine_number m x) _ _ operand (λ base off known number.
      let pointer = pointer-is setting t m f is related.like x base off number in
      read-checked setting t m f is related.like given base (off % 2 ^ 64) (int_store_size width) align x go _ (omega (arith, some)) (omega (arith, few)) aligned pointer (λ fine.
      subst (λ r. FollowsIn setting t m (on_integer (source_seen t) (int_from width (bytes_at t.shared.source.births base (off % 2 ^ 64) (int_store_size width))) (λ n. gives (source_seen t) inst.result (Integer n))) r) (sym load)
      (integer-read setting t m f is related.like width base (off % 2 ^ 64) align x inst.result (before-next _ _ has) pointer fine))))

  -- the code of a load of a type
  typed-code : (ty align : ℕ) (place : Placed) (type : IrType) → inst.op ≡ op.Load ty place align → type_of setting.program ty ≡ type → HasCheckedCode (check_of (access_size type) align (operand_of place) Read) (Load (width_of_type type) (result_register f inst.result) (operand_of place))
  unfolding code_of_instruction
  typed-code ty align place type same typed =
      record {
        code =
            ap (λ o. map (added_mi (own_site t)) (added_code setting.program f.allocas o) ++ source_mi (own_site t) (source_code setting.program f (starts_of setting.program f) (block_holding f.blocks t.frame.inst) inst.result o)) same
            ∙ ap (λ y. record { mark = Added (own_site t); op = check_of (access_size y) align (operand_of place) Read } ∷ record { mark = Source (own_site t); op = Load (width_of_type y) (result_register f inst.result) (operand_of place) } ∷ []) typed;
        two = ap (λ o. length (added_code setting.program f.allocas o) + own_length o) same;
      }

  load-code : (ty width align : ℕ) (place : Placed) → inst.op ≡ op.Load ty place align → type_of setting.program ty ≡ Int width → HasCheckedCode (check_of (int_store_size width) align (operand_of place) Read) (Load (WidthOf width) (result_register f inst.result) (operand_of place))
  load-code ty width align place same typed = typed-code ty align place (Int width) same typed

  pub pointer-code : (ty align : ℕ) (place : Placed) → inst.op ≡ op.Load ty place align → type_of setting.program ty ≡ Ptr → HasCheckedCode (check_of 8 align (operand_of place) Read) (Load AddressWidth (result_register f inst.result) (operand_of place))
  pointer-code ty align place same typed = typed-code ty align place Ptr same typed

  pub width-is : (ty width : ℕ) → ty < length setting.program.types → type_of setting.program ty ≡ Int width → IsWidth width
  width-is ty width below typed = subst (IsResolvedType setting.program) typed (is.runnable.resolved.outside.types ty Void below)

  pub runnable-here : IsRunnableOp setting.program inst.op
  runnable-here =
      all-at (λ (x : Inst). IsRunnableOp setting.program x.op) f.insts t.frame.inst inst
      (all-at (IsRunnableFunction setting.program) setting.program.functions t.frame.func f is.runnable.functions at.function).instructions at.instruction

  pub integer-load : (ty width align : ℕ) (place : Placed) → inst.op ≡ op.Load ty place align → type_of setting.program ty ≡ Int width → FollowsIn setting t m (source_step setting.program given (source_seen t)) (machine.machine_step setting given m)
  integer-load ty width align place same typed =
      let resolved = subst (IsResolvedOp setting.program f) same (resolved-at setting.program t.frame.func t.frame.inst f inst is.runnable at.function at.instruction) in
      let access = subst (IsRunnableOp setting.program) same runnable-here in
      let few = width-is ty width resolved.0 typed in
      subst (λ outcome. FollowsIn setting t m outcome (machine.machine_step setting given m))
      (sym (source-at setting.program given t f inst at ∙ ap (λ o. source_operation setting.program given f (source_seen t) inst.result o) same ∙ ap (λ type. source.load_step (source_seen t) inst.result type align (value_of setting.program (source_seen t) place)) typed))
      (integer-loaded width align (value_of setting.program (source_seen t) place) (operand_of place) few.some few.most access.alignment (operand-of setting t m f place related.like resolved.1) (load-code ty width align place same typed))
