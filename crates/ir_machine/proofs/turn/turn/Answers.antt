use Rattle.std.proofs.Common.{◌≡◌, ◌≢◌, List, drop, length, sym, subst}
use Rattle.hw_tags.specs.TaskRuns.{Stuck}
use Rattle.mi_code.specs.declared.code_functions.Mi.{Mi}
use Rattle.ir_machine.specs.Built.{IsPlainFrom}
use Rattle.ir_machine.specs.CallSteps.{code_at}
use Rattle.ir_machine.specs.InstructionStep.{machine_step, steps_within}
use Rattle.ir_machine.specs.RunStates.{IsOutcome, IsPlainOutcome}
use Rattle.ir_machine.proofs.turn.turn.Goals as goal

pub returns-clause-step : goal.returns-clause-step
unfolding machine_step
returns-clause-step c setting given has next goes =
    let seen = c.args.run.now.seen in
    let insts : c.instructions_of-insts.result.now ≡ (code_at setting.code seen.frame.func).insts = rw (has.has.code, ← c.func.ensures) c.instructions_of-insts.ensures in
    subst (λ (l : List Mi). IsOutcome (steps_within setting given (length l) seen) c.instructions.result c.instructions.new.run) insts
    (c.instructions.ensures.step setting given has next (subst (λ (l : List Mi). steps_within setting given (length l) seen ≢ Stuck) (sym insts) goes))

pub returns-clause-plain : goal.returns-clause-plain
unfolding machine_step
returns-clause-plain c setting given has is =
    let seen = c.args.run.now.seen in
    let insts : c.instructions_of-insts.result.now ≡ (code_at setting.code seen.frame.func).insts = rw (has.code, ← c.func.ensures) c.instructions_of-insts.ensures in
    let here : c.instructions_of-insts.result.now ≡ (code_at c.args.program.now.code seen.frame.func).insts = rw (← c.func.ensures) c.instructions_of-insts.ensures in
    subst (λ (l : List Mi). IsPlainOutcome (steps_within setting given (length l) seen) c.instructions.result c.instructions.new.run) insts
    (c.instructions.ensures.plain setting given has (subst (λ (l : List Mi). IsPlainFrom (drop seen.frame.place l)) (sym here) is))
