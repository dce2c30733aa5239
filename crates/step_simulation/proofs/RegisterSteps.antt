-- The machine follows each step that reads and writes registers alone.
use Rattle.std.proofs.Common.{◌≡◌, ℕ, suc, ◌+◌, true, List, [], ◌∷◌, ◌++◌, length, map, slice_get, Option, Some, None, refl, sym, ◌∙◌, ap, subst, arith}
use Rattle.hw_base.specs.declared.endings.Input.{Input}
use Rattle.hw_base.specs.declared.operators.BinOp.{BinOp}
use Rattle.hw_base.specs.declared.operators.CastOp.{CastOp}
use Rattle.hw_base.specs.declared.operators.Pred.{Pred}
use Rattle.hw_base.specs.declared.pointers.Site.{Site}
use Rattle.hw_tags.specs.InputState.{next_input}
use Rattle.ir_core.specs.declared.ir_module.Function.{Function}
use Rattle.ir_core.specs.declared.ir_module.Inst.{Inst}
use Rattle.ir_core.specs.declared.ir_module.Module.{Module}
use Rattle.ir_core.specs.declared.operands.Placed.{Placed}
use Rattle.ir_core.specs.declared.operations.Op.{Op}
use Rattle.ir_core.specs.declared.operations.Op.TheVariants as op
use Rattle.ir_core.specs.declared.types.IrType.{IrType}
use Rattle.ir_core.specs.declared.types.IrType.TheVariants.{Void, Int, Ptr, Array, Struct, Opaque, Pair}
use Rattle.ir_core.specs.NumberTypes.{type_of, bits_of}
use Rattle.ir_core.specs.ResolvedBodies.{IsResolvedPlaced, IsResolvedOp, IsResolvedFunction}
use Rattle.ir_meaning.specs.InstructionStep as source
use Rattle.ir_meaning.specs.ArithmeticSteps.{extract_step, icmp_step}
use Rattle.ir_meaning.specs.Operands.{with_named}
use Rattle.ir_meaning.specs.LibraryCalls.{nothing_step}
use Rattle.ir_machine.specs.InstructionStep as machine
use Rattle.ir_machine.specs.CallSteps.{instruction_at}
use Rattle.ir_machine.specs.State.{MachineSetting, MachineSeen, MachineOutcome}
use Rattle.ir_machine.proofs.BlockPlaces.{all-at}
use Rattle.mi_code.specs.declared.code_functions.Mark.TheVariants.{Source}
use Rattle.mi_code.specs.declared.operations.MiOp.{MiOp}
use Rattle.mi_code.specs.Instrumentation.{place_of, own_length, instruction_length, code_of_instruction, starts_of, added_mi, source_mi}
use Rattle.mi_code.specs.MachineOperands.{operand_of, result_register}
use Rattle.mi_code.specs.SourceCode.{source_code}
use Rattle.mi_code.specs.TagChecks.{added_code}
use Rattle.mi_code.specs.Widths.{width_of_type}
use Rattle.ir_core.specs.Blocks.{block_holding}
use Rattle.tag_story.specs.ToldRun.{ToldSeen, source_seen}
use Rattle.simulation.specs.Relation.{IsSetting, SeenRelated}
use Rattle.step_simulation.specs.RegisterSteps.{is_register_step, IsAt, IsFollowed}
use Rattle.ir_machine.proofs.CodeAt.{place-next}
use Rattle.step_simulation.proofs.CodeAt.{instruction-get, at-frame}
use Rattle.step_simulation.proofs.PlainSteps.{FollowsIn, IsBeforeNext, own_site, goes_on-follows}
use Rattle.step_simulation.proofs.Steps.{source-first}
use Rattle.step_simulation.proofs.ArithmeticFollows.{IsOperandOf, binary-follows, icmp-follows, cast-follows, select-follows, freeze-follows, extract-follows}
use Rattle.ir_core.specs.declared.operands.Case.{Case}
use Rattle.step_simulation.proofs.BranchFollows.{br-follows, br_if-follows, switch-follows, unreachable-follows}
use Rattle.step_simulation.proofs.PointerComparisons.{pointers-follow}
use Rattle.step_simulation.proofs.PointerFollows.{gep-follows}
use Rattle.step_simulation.proofs.OperandsThere.{operand-of, bit-of, resolved-at}

-- ---- code

-- the machine instructions of an instruction to which nothing was added
abbrev pub HasCode : Module → Function → Site → Inst → MiOp → Type 0
HasCode program f site inst op = (code_of_instruction program f site inst ≡ record { mark = Source site; op = op } ∷ []) × (instruction_length program f.allocas inst ≡ 1)

pub plain-step : (setting : MachineSetting) (given : Input) (t : ToldSeen) (m : MachineSeen) (f : Function) (inst : Inst) (op : MiOp) → IsSetting setting → IsAt setting.program t f inst → SeenRelated setting t m → HasCode setting.program f (own_site t) inst op → (next : MachineSeen → MachineOutcome) × (machine.machine_step setting given m ≡ machine.operation_step setting given (own_site t) next m op)
plain-step setting given t m f inst op is at related has =
    source-first setting given m (own_site t) op
    (ap (λ code. instruction_at code m.frame) is.code
    ∙ at-frame setting.program t.frame.func f m.frame (place_of setting.program f t.frame.inst + 0) (record { mark = Source (own_site t); op = op }) at.function related.like.frame.func
    (related.place f at.function ∙ (let e : place_of setting.program f t.frame.inst ≡ place_of setting.program f t.frame.inst + 0 = omega arith in e))
    (instruction-get setting.program f t.frame.func t.frame.inst 0 inst _ at.instruction (ap (λ xs. slice_get xs 0) has.0)))

pub before-next : (setting : MachineSetting) (t : ToldSeen) (m : MachineSeen) (f : Function) (inst : Inst) (op : MiOp) → IsAt setting.program t f inst → SeenRelated setting t m → HasCode setting.program f (own_site t) inst op → IsBeforeNext setting t m f
before-next setting t m f inst op at related has =
    (at.function, let here = related.place f at.function in let next = place-next setting.program f t.frame.inst inst at.instruction in let one = has.1 in let after : t.frame.inst + 1 ≡ suc t.frame.inst = omega arith in let same = ap (place_of setting.program f) after in omega (arith, here, next, one, same))

-- ---- the step

-- what the source does at an instruction
pub source-at : (program : Module) (given : Input) (t : ToldSeen) (f : Function) (inst : Inst) → IsAt program t f inst → source.source_step program given (source_seen t) ≡ source.operation_step program given f (source_seen t) inst.result inst.op
unfolding with_named
source-at program given t f inst at =
    ap (λ o. with_named o (λ g. with_named (slice_get g.insts t.frame.inst) (λ i. source.operation_step program given g (source_seen t) i.result i.op))) at.function
    ∙ ap (λ o. with_named o (λ i. source.operation_step program given f (source_seen t) i.result i.op)) at.instruction

-- the machine's own step, after what the source's is
pub by-code : (setting : MachineSetting) (given : Input) (t : ToldSeen) (m : MachineSeen) (f : Function) (inst : Inst) (op : MiOp) → IsSetting setting → IsAt setting.program t f inst → SeenRelated setting t m → HasCode setting.program f (own_site t) inst op
    → ((next : MachineSeen → MachineOutcome) → IsBeforeNext setting t m f → FollowsIn setting t m (source.operation_step setting.program given f (source_seen t) inst.result inst.op) (machine.operation_step setting given (own_site t) next m op))
    → FollowsIn setting t m (source.source_step setting.program given (source_seen t)) (machine.machine_step setting given m)
by-code setting given t m f inst op is at related has follows =
    let step = plain-step setting given t m f inst op is at related has in
    subst (λ r. FollowsIn setting t m (source.source_step setting.program given (source_seen t)) r) (sym step.1)
    (subst (λ o. FollowsIn setting t m o (machine.operation_step setting given (own_site t) step.0 m op)) (sym (source-at setting.program given t f inst at))
    (follows step.0 (before-next setting t m f inst op at related has)))

module _ (setting : MachineSetting) (given : Input) (t : ToldSeen) (m : MachineSeen) (f : Function) (inst : Inst) (is : IsSetting setting) (at : IsAt setting.program t f inst) (related : SeenRelated setting t m) where
  abbrev Followed : Op → Type 0
  Followed o = inst.op ≡ o → IsResolvedOp setting.program f o → FollowsIn setting t m (source.source_step setting.program given (source_seen t)) (machine.machine_step setting given m)

  -- nothing is added to an operation, and its code is this machine instruction
  abbrev IsCodeOf : Op → MiOp → Type 0
  IsCodeOf o mi =
      (map (added_mi (own_site t)) (added_code setting.program f.allocas o) ++ source_mi (own_site t) (source_code setting.program f (starts_of setting.program f) (block_holding f.blocks t.frame.inst) inst.result o) ≡ record { mark = Source (own_site t); op = mi } ∷ [])
      × (length (added_code setting.program f.allocas o) + own_length o ≡ 1)

  has-code : (o : Op) (mi : MiOp) → inst.op ≡ o → IsCodeOf o mi → HasCode setting.program f (own_site t) inst mi
  unfolding code_of_instruction
  has-code o mi same code = subst (λ x. IsCodeOf x mi) (sym same) code

  -- the machine instruction of an instruction of a register step
  by-step : (o : Op) (mi : MiOp) → inst.op ≡ o → IsCodeOf o mi
      → ((next : MachineSeen → MachineOutcome) → IsBeforeNext setting t m f → FollowsIn setting t m (source.operation_step setting.program given f (source_seen t) inst.result o) (machine.operation_step setting given (own_site t) next m mi))
      → FollowsIn setting t m (source.source_step setting.program given (source_seen t)) (machine.machine_step setting given m)
  by-step o mi same code follows =
      by-code setting given t m f inst mi is at related (has-code o mi same code) (λ next before.
      subst (λ x. FollowsIn setting t m (source.operation_step setting.program given f (source_seen t) inst.result x) (machine.operation_step setting given (own_site t) next m mi)) (sym same) (follows next before))

  operand : (placed : Placed) → IsResolvedPlaced setting.program f placed → IsOperandOf t m (operand_of placed) (source.value_of setting.program (source_seen t) placed)
  operand placed resolved = operand-of setting t m f placed related.like resolved

  binary : (kind : BinOp) (a b : Placed) → Followed (op.Binary kind a b)
  binary kind a b same resolved =
      by-step (op.Binary kind a b) _ same (refl, refl) (λ next before.
      binary-follows setting t m f related.like before inst.result kind (bits_of (type_of setting.program a.ty)) _ _ (operand_of a) (operand_of b) (operand a resolved.0) (operand b resolved.1))

  cast : (kind : CastOp) (a : Placed) (to : ℕ) → Followed (op.Cast kind a to)
  cast kind a to same resolved =
      by-step (op.Cast kind a to) _ same (refl, refl) (λ next before.
      cast-follows setting t m f related.like before inst.result kind (bits_of (type_of setting.program a.ty)) (bits_of (type_of setting.program to)) _ (operand_of a) (operand a resolved.0))

  select : (cond a b : Placed) → Followed (op.Select cond a b)
  select cond a b same resolved =
      by-step (op.Select cond a b) _ same (refl, refl) (λ next before.
      select-follows setting t m f related.like before inst.result _ _ _ (operand_of cond) (operand_of a) (operand_of b) (operand cond resolved.0) (operand a resolved.1) (operand b resolved.2))

  freeze : (a : Placed) → Followed (op.Freeze a)
  freeze a same resolved =
      by-step (op.Freeze a) _ same (refl, refl) (λ next before.
      freeze-follows setting t m f related.like before inst.result _ (operand_of a) (operand a resolved))

  extract : (pair : Placed) (part : Option ℕ) → Followed (op.ExtractValue pair part)
  unfolding extract_step
  extract pair None same resolved = by-step (op.ExtractValue pair None) _ same (refl, refl) (λ next before. tt)
  extract pair (Some part) same resolved =
      by-step (op.ExtractValue pair (Some part)) _ same (refl, refl) (λ next before.
      extract-follows setting t m f related.like before inst.result (Some part) part _ (operand_of pair) refl (operand pair resolved) (bit-of setting t m pair related.like))

  fence : Followed op.Fence
  unfolding nothing_step
  fence same resolved = by-step op.Fence _ same (refl, refl) (λ next before. goes_on-follows setting t m f related.like before)

  icmp : (pred : Pred) (a b : Placed) → Followed (op.Icmp pred a b)
  unfolding icmp_step
  icmp pred a b same resolved =
      by-step (op.Icmp pred a b) _ same (refl, refl) (λ next before. by_type before (type_of setting.program a.ty))
    where
      by_type : IsBeforeNext setting t m f → (type : IrType) → FollowsIn setting t m (icmp_step (source_seen t) inst.result pred type (source.value_of setting.program (source_seen t) a) (source.value_of setting.program (source_seen t) b)) (Rattle.ir_machine.specs.ArithmeticSteps.icmp_step m pred (width_of_type type) (result_register f inst.result) (operand_of a) (operand_of b))
      by_type before (Int width) = icmp-follows setting t m f related.like before inst.result pred width _ _ (operand_of a) (operand_of b) (operand a resolved.0) (operand b resolved.1)
      by_type before Ptr = pointers-follow setting t m f is related.like before inst.result pred _ _ (operand_of a) (operand_of b) (operand a resolved.0) (operand b resolved.1)
      by_type before Void = tt
      by_type before (Array count item) = tt
      by_type before (Struct first count packed) = tt
      by_type before Opaque = tt
      by_type before (Pair width) = tt

  gep : (ty : ℕ) (base : Placed) (indices : List Placed) → Followed (op.Gep ty base indices)
  gep ty base indices same resolved =
      by-step (op.Gep ty base indices) _ same (refl, refl) (λ next before.
      gep-follows setting t m f related.like before inst.result ty _ (operand_of base) indices (operand base resolved.1) resolved.2)

  resolved-function : IsResolvedFunction setting.program f
  resolved-function = all-at (IsResolvedFunction setting.program) setting.program.functions t.frame.func f is.runnable.resolved.functions at.function

  br : (block : ℕ) → Followed (op.Br block)
  br block same resolved =
      by-step (op.Br block) _ same (refl, refl) (λ next before.
      br-follows setting t m f related.like resolved-function at.function block resolved)

  br_if : (cond : Placed) (first second : ℕ) → Followed (op.BrIf cond first second)
  br_if cond first second same resolved =
      by-step (op.BrIf cond first second) _ same (refl, refl) (λ next before.
      br_if-follows setting t m f related.like resolved-function at.function _ (operand_of cond) first second (operand cond resolved.0) resolved.1 resolved.2)

  switch : (on : Placed) (other : ℕ) (cases : List Case) → Followed (op.Switch on other cases)
  switch on other cases same resolved =
      by-step (op.Switch on other cases) _ same (refl, refl) (λ next before.
      switch-follows setting t m f related.like resolved-function at.function (bits_of (type_of setting.program on.ty)) _ (operand_of on) other cases (operand on resolved.0) resolved.1 resolved.2)

  unreachable : Followed op.Unreachable
  unreachable same resolved = by-step op.Unreachable _ same (refl, refl) (λ next before. unreachable-follows setting t m f related.like)

  -- by the instruction
  pub own : (o : Op) → is_register_step o ≡ true → Followed o
  own (op.Binary kind a b) h = binary kind a b
  own (op.Icmp pred a b) h = icmp pred a b
  own (op.Cast kind a to) h = cast kind a to
  own (op.Select cond a b) h = select cond a b
  own (op.Freeze a) h = freeze a
  own (op.Phi ty entries) h = absurd cc
  own (op.Alloca index ty count) h = absurd cc
  own (op.Load ty where_at align) h = absurd cc
  own (op.Store value where_at align) h = absurd cc
  own (op.Gep ty base indices) h = gep ty base indices
  own op.Fence h = fence
  own (op.Rmw kind where_at value align) h = absurd cc
  own (op.CmpXchg where_at expected new align) h = absurd cc
  own (op.ExtractValue pair part) h = extract pair part
  own (op.Call func ty args) h = absurd cc
  own (op.CallLib declare ty args start) h = absurd cc
  own (op.Br block) h = br block
  own (op.BrIf cond at_one at_zero) h = br_if cond at_one at_zero
  own (op.Switch on other cases) h = switch on other cases
  own (op.Ret value) h = absurd cc
  own op.Unreachable h = unreachable

-- the machine follows each step of a register step
pub register_step-followed : (setting : MachineSetting) (t : ToldSeen) (m : MachineSeen) (f : Function) (inst : Inst) → IsSetting setting → IsAt setting.program t f inst → is_register_step inst.op ≡ true → SeenRelated setting t m → IsFollowed setting t m
register_step-followed setting t m f inst is at computes related input =
    own setting (next_input input t.shared.source.input) t m f inst is at related inst.op computes refl
    (resolved-at setting.program t.frame.func t.frame.inst f inst is.runnable at.function at.instruction)
