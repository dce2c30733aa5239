-- Steps that read and write registers alone: computations on integers and addresses, comparisons, `select` and `freeze`, a part
-- of a pair, fences, and branches with the phis on their edges.
use Rattle.std.specs.Prelude.{◌≡◌, ℕ, Bool, true, false, List, slice_get, Some}
use Rattle.hw_tags.specs.InputState.{next_input}
use Rattle.ir_core.specs.declared.ir_module.Function.{Function}
use Rattle.ir_core.specs.declared.ir_module.Inst.{Inst}
use Rattle.ir_core.specs.declared.ir_module.Module.{Module}
use Rattle.ir_core.specs.declared.operations.Op.{Op}
use Rattle.ir_core.specs.declared.operations.Op.TheVariants as op
use Rattle.ir_machine.specs.State.{MachineSetting, MachineSeen}
use Rattle.ir_machine.specs.InstructionStep.{machine_step}
use Rattle.tag_story.specs.ToldRun.{ToldSeen, told_step}
use Rattle.simulation.specs.Relation.{story_setting}
use Rattle.step_simulation.specs.Following.{Follows}

-- an instruction whose step reads and writes registers alone
abbrev pub is_register_step : Op → Bool
is_register_step (op.Binary kind a b) = true
is_register_step (op.Icmp pred a b) = true
is_register_step (op.Cast kind a to) = true
is_register_step (op.Select cond a b) = true
is_register_step (op.Freeze a) = true
is_register_step (op.ExtractValue pair part) = true
is_register_step op.Fence = true
is_register_step (op.Gep ty base indices) = true
is_register_step (op.Br block) = true
is_register_step (op.BrIf cond at_one at_zero) = true
is_register_step (op.Switch on other cases) = true
is_register_step op.Unreachable = true
is_register_step other = false

-- the task's newest frame is at this instruction of this function
pub record IsAt (program : Module) (t : ToldSeen) (f : Function) (inst : Inst) : Type 0 where
  pub function : slice_get program.functions t.frame.func ≡ Some f
  pub instruction : slice_get f.insts t.frame.inst ≡ Some inst

-- the machine follows the source's step at this instruction, whatever the input gives next
abbrev pub IsFollowed : MachineSetting → ToldSeen → MachineSeen → Type 0
IsFollowed setting t m =
    (input : List ℕ) → Follows setting t m.shared (told_step (story_setting setting) input t) (machine_step setting (next_input input t.shared.source.input) m)
