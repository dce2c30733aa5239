use Rattle.std.proofs.Common.{◌≡◌, ◌+◌, [], sym, refl, ap, ◌∙◌, subst, Ok}
use Rattle.hw_tags.specs.TaskRuns.{world_step}
use Rattle.ir_machine.specs.declared.progress.Progress.TheVariants.{Ran, Printed, Returned, Ended}
use Rattle.ir_machine.specs.declared.stepped.Stepped.TheVariants as stepped
use Rattle.ir_machine.specs.Built.{IsPlainAt}
use Rattle.hw_tags.specs.InputState.{next_input}
use Rattle.ir_machine.specs.Runs.{step_in}
use Rattle.ir_machine.specs.MachineStates.{MachineState, IsEnd, IsMachineOf, IsStep, world_of}
use Rattle.ir_machine.specs.State.{MachineEnding, MachineSeen}
use Rattle.ir_machine.specs.RunStates.{RunState, AreNext}
use Rattle.ir_tasks.specs.Frames.{Frame}
use Rattle.ir_machine.proofs.OneTask.{IsAnswer, machine-stepped, one-task, ended-no-next}
use Rattle.ir_machine.proofs.machine.Machine.step.Goals as goal

pub returns-in-Ran-clause-step : goal.returns-in-Ran-clause-step
unfolding IsAnswer
returns-in-Ran-clause-step c setting turns has here =
    let before : MachineState = record { program = c.self.inside.program; run = c.self.inside.run; words = c.self.inside.words; steps = c.self.inside.steps; lost = c.self.inside.lost } in
    let after : MachineState = record { program = c.self.inside.program; run = c.turn.new.run; words = c.turn.new.words; steps = c.self.inside.steps + 1; lost = c.self.inside.lost } in
    let machine : IsMachineOf setting before = subst (IsMachineOf setting) (sym c.self.view_is) has in
    let next : AreNext setting before.words c.begin_step.new.self.seen.shared.drawn =
    subst (λ (v : RunState). AreNext setting before.words v.seen.shared.drawn) (sym c.begin_step.ensures.begun) machine.words in
    subst (λ (m : MachineState). IsStep (world_step (step_in setting) [] turns (world_of m)) (Ok stepped.Ran) after) c.self.view_is
    (machine-stepped setting turns before after c.begin_step.new.self Ran (Ok stepped.Ran)
    c.begin_step.ensures.task c.begin_step.ensures.finished c.begin_step.ensures.begun
    (λ goes. c.in-Ran.ensures.step setting (next_input setting.input c.begin_step.new.self.seen.shared.input) machine.program next goes) tt refl)

pub returns-in-Printed-clause-step : goal.returns-in-Printed-clause-step
unfolding IsAnswer
returns-in-Printed-clause-step c setting turns has here =
    let before : MachineState = record { program = c.self.inside.program; run = c.self.inside.run; words = c.self.inside.words; steps = c.self.inside.steps; lost = c.self.inside.lost } in
    let after : MachineState = record { program = c.self.inside.program; run = c.turn.new.run; words = c.turn.new.words; steps = c.self.inside.steps + 1; lost = c.self.inside.lost } in
    let machine : IsMachineOf setting before = subst (IsMachineOf setting) (sym c.self.view_is) has in
    let next : AreNext setting before.words c.begin_step.new.self.seen.shared.drawn =
    subst (λ (v : RunState). AreNext setting before.words v.seen.shared.drawn) (sym c.begin_step.ensures.begun) machine.words in
    subst (λ (m : MachineState). IsStep (world_step (step_in setting) [] turns (world_of m)) (Ok (stepped.Wrote c.printed_count.result)) after) c.self.view_is
    (machine-stepped setting turns before after c.begin_step.new.self Printed (Ok (stepped.Wrote c.printed_count.result))
    c.begin_step.ensures.task c.begin_step.ensures.finished c.begin_step.ensures.begun
    (λ goes. c.in-Printed.ensures.step setting (next_input setting.input c.begin_step.new.self.seen.shared.input) machine.program next goes) c.printed_count.ensures refl)

pub returns-in-Returned-clause-step : goal.returns-in-Returned-clause-step
unfolding IsAnswer
returns-in-Returned-clause-step c setting turns has here =
    let before : MachineState = record { program = c.self.inside.program; run = c.self.inside.run; words = c.self.inside.words; steps = c.self.inside.steps; lost = c.self.inside.lost } in
    let after : MachineState = record { program = c.self.inside.program; run = c.turn.new.run; words = c.turn.new.words; steps = c.self.inside.steps + 1; lost = c.self.inside.lost } in
    let machine : IsMachineOf setting before = subst (IsMachineOf setting) (sym c.self.view_is) has in
    let next : AreNext setting before.words c.begin_step.new.self.seen.shared.drawn =
    subst (λ (v : RunState). AreNext setting before.words v.seen.shared.drawn) (sym c.begin_step.ensures.begun) machine.words in
    subst (λ (m : MachineState). IsStep (world_step (step_in setting) [] turns (world_of m)) (Ok c.ended.result) after) c.self.view_is
    (machine-stepped setting turns before after c.begin_step.new.self Returned (Ok c.ended.result)
    c.begin_step.ensures.task c.begin_step.ensures.finished c.begin_step.ensures.begun
    (λ goes. c.in-Returned.ensures.step setting (next_input setting.input c.begin_step.new.self.seen.shared.input) machine.program next goes) (subst (λ (e : MachineEnding). IsEnd e c.ended.result) c.ending.ensures c.ended.ensures) refl)

pub returns-in-Ended-clause-step : goal.returns-in-Ended-clause-step
unfolding IsAnswer
returns-in-Ended-clause-step c setting turns has here =
    let before : MachineState = record { program = c.self.inside.program; run = c.self.inside.run; words = c.self.inside.words; steps = c.self.inside.steps; lost = c.self.inside.lost } in
    let after : MachineState = record { program = c.self.inside.program; run = c.turn.new.run; words = c.turn.new.words; steps = c.self.inside.steps + 1; lost = c.self.inside.lost } in
    let machine : IsMachineOf setting before = subst (IsMachineOf setting) (sym c.self.view_is) has in
    let next : AreNext setting before.words c.begin_step.new.self.seen.shared.drawn =
    subst (λ (v : RunState). AreNext setting before.words v.seen.shared.drawn) (sym c.begin_step.ensures.begun) machine.words in
    subst (λ (m : MachineState). IsStep (world_step (step_in setting) [] turns (world_of m)) (Ok c.ended-in-Ended.result) after) c.self.view_is
    (machine-stepped setting turns before after c.begin_step.new.self Ended (Ok c.ended-in-Ended.result)
    c.begin_step.ensures.task c.begin_step.ensures.finished c.begin_step.ensures.begun
    (λ goes. c.in-Ended.ensures.step setting (next_input setting.input c.begin_step.new.self.seen.shared.input) machine.program next goes) (subst (λ (e : MachineEnding). IsEnd e c.ended-in-Ended.result) c.ending-in-Ended.ensures c.ended-in-Ended.ensures) refl)

pub returns-in-NoMemory-clause-plain : goal.returns-in-NoMemory-clause-plain
returns-in-NoMemory-clause-plain c setting turns w printed has here plain next =
    let before : MachineState = record { program = c.self.inside.program; run = c.self.inside.run; words = c.self.inside.words; steps = c.self.inside.steps; lost = c.self.inside.lost } in
    let begun = c.begin_step.new.self in
    let machine : IsMachineOf setting before = subst (IsMachineOf setting) (sym c.self.view_is) has in
    let seen = ap (λ (v : RunState). v.seen) c.begin_step.ensures.begun in
    let same_frame = ap (λ (s : MachineSeen). s.frame) seen in
    let at : IsPlainAt before.program.code begun.seen.frame =
    subst (λ (f : Frame). IsPlainAt before.program.code f) (sym same_frame) (subst (λ (m : MachineState). IsPlainAt m.program.code m.run.seen.frame) (sym c.self.view_is) plain) in
    let step = one-task (step_in setting) turns before begun.seen c.begin_step.ensures.task c.begin_step.ensures.finished seen in
    let went = ap (λ (m : MachineState). world_step (step_in setting) [] turns (world_of m)) c.self.view_is in
    let ends = c.in-NoMemory.ensures.plain setting (next_input setting.input begun.seen.shared.input) machine.program.has at in
    absurd (ended-no-next (record (world_of before) { steps = before.steps + 1 }) w printed (step_in setting begun.seen) ends (sym step ∙ (went ∙ next)))
