use Rattle.std.proofs.Common.{◌≡◌, ◌+◌, ◌-◌, ◌≤◌, suc, drop, length, refl, sym, ap, ◌∙◌, subst, Some, None, arith}
use Rattle.std.specs.Prelude.{slice_get}
use Rattle.hw_tags.specs.declared.words.Words.{Words}
use Rattle.ir_machine.specs.Built.{IsPlainFrom}
use Rattle.ir_machine.specs.CallSteps.{code_at}
use Rattle.ir_machine.specs.InstructionStep.{steps_within}
use Rattle.ir_machine.specs.RunStates.{RunState, AreNext, GrowsLittle, HasRoom, IsOutcome, IsPlainOutcome}
use Rattle.ir_machine.specs.State.{MachineOutcome, MachineShared}
use Rattle.ir_machine.proofs.BuiltCode.{built-among}
use Rattle.ir_machine.proofs.Growth.{adds-little}
use Rattle.ir_machine.proofs.StepGrowth.{adds-none}
use Rattle.ir_machine.proofs.TurnSteps.{plain-here, plain-nowhere, plain-past, steps_within-at, steps_within-none, steps_within-nowhere}
use Rattle.ir_machine.proofs.turn.instructions.Goals as goal

pub instruction-requires-clause-here : goal.instruction-requires-clause-here
instruction-requires-clause-here c = rw c.loop-tried.invariant.func c.requires.here

pub instruction-requires-clause-found : goal.instruction-requires-clause-found
instruction-requires-clause-found c = rw (← c.place.ensures) (sym c.in-Some.ensures.found)

pub instruction-requires-clause-built : goal.instruction-requires-clause-built
instruction-requires-clause-built c =
    built-among c.args.insts.now c.place.result c.in-Some.mi.now c.requires.built (sym c.in-Some.ensures.found)

pub instruction-requires-clause-room : goal.instruction-requires-clause-room
instruction-requires-clause-room c = subst HasRoom (sym c.loop-tried.invariant.shared) c.requires.room

pub returns-in-Some-instruction-clause-step : goal.returns-in-Some-instruction-clause-step
returns-in-Some-instruction-clause-step c setting given has next goes =
    let so_far = c.loop-tried.invariant in
    let seen = c.loop-tried.run.seen in
    let insts = c.args.insts.now in
    let left = length insts - (c.loop-tried._tried + 1) in
    let count : length insts - c.loop-tried._tried ≡ suc left = omega (arith, c.loop-tried-test.true) in
    let there : slice_get insts seen.frame.place ≡ Some c.in-Some.mi.now = rw (← c.place.ensures) (sym c.in-Some.ensures.found) in
    let found : slice_get (code_at c.args.program.now.code seen.frame.func).insts seen.frame.place ≡ Some c.in-Some.mi.now = rw (so_far.func, ← c.requires.here) there in
    let at = steps_within-at setting given left seen c.args.program.now.code c.in-Some.mi.now has.has.code found in
    let whole = so_far.steps setting given has.has ∙ (ap (λ n. steps_within setting given n seen) count ∙ at) in
    let words : AreNext setting c.loop-tried.words seen.shared.drawn =
    subst (λ (w : Words). AreNext setting w seen.shared.drawn) (sym so_far.words) (subst (λ (shared : MachineShared). AreNext setting c.args.words.now shared.drawn) (sym so_far.shared) next) in
    subst (λ (o : MachineOutcome). IsOutcome o c.in-Some-instruction.progress c.instruction.new.run) (sym whole)
    (c.in-Some-instruction.ensures.step c.in-Some-instruction.progress refl setting given left has words (λ stuck. goes (whole ∙ stuck)))

pub returns-in-Some-instruction-clause-plain : goal.returns-in-Some-instruction-clause-plain
returns-in-Some-instruction-clause-plain c setting given has is =
    let so_far = c.loop-tried.invariant in
    let seen = c.loop-tried.run.seen in
    let insts = c.args.insts.now in
    let left = length insts - (c.loop-tried._tried + 1) in
    let count : length insts - c.loop-tried._tried ≡ suc left = omega (arith, c.loop-tried-test.true) in
    let there : slice_get insts seen.frame.place ≡ Some c.in-Some.mi.now = rw (← c.place.ensures) (sym c.in-Some.ensures.found) in
    let found : slice_get (code_at c.args.program.now.code seen.frame.func).insts seen.frame.place ≡ Some c.in-Some.mi.now = rw (so_far.func, ← c.requires.here) there in
    let at = steps_within-at setting given left seen c.args.program.now.code c.in-Some.mi.now has.code found in
    let whole = so_far.steps setting given has ∙ (ap (λ n. steps_within setting given n seen) count ∙ at) in
    let here = plain-here insts seen.frame.place c.in-Some.mi.now there (so_far.plain is) in
    subst (λ (o : MachineOutcome). IsPlainOutcome o c.in-Some-instruction.progress c.instruction.new.run) (sym whole)
    (c.in-Some-instruction.ensures.plain c.in-Some-instruction.progress refl setting given (steps_within setting given left) (drop (seen.frame.place + 1) insts) here)

pub returns-in-Some-instruction-clause-grows : goal.returns-in-Some-instruction-clause-grows
returns-in-Some-instruction-clause-grows c some =
    let so_far = c.loop-tried.invariant in
    subst (λ (w : Words). GrowsLittle w c.instruction.new.words c.args.run.now.seen.shared c.instruction.new.run.seen.shared) so_far.words
    (subst (λ (shared : MachineShared). GrowsLittle c.loop-tried.words c.instruction.new.words shared c.instruction.new.run.seen.shared) so_far.shared
    (c.in-Some-instruction.ensures.grows c.in-Some-instruction.progress refl some))

pub loop-tried-preserved : goal.loop-tried-preserved
loop-tried-preserved c =
    let so_far = c.loop-tried.invariant in
    let seen = c.loop-tried.run.seen in
    let insts = c.args.insts.now in
    let left = length insts - (c.loop-tried._tried + 1) in
    let count : length insts - c.loop-tried._tried ≡ suc left = omega (arith, c.loop-tried-test.true) in
    let there : slice_get insts seen.frame.place ≡ Some c.in-Some.mi.now = rw (← c.place.ensures) (sym c.in-Some.ensures.found) in
    let found : slice_get (code_at c.args.program.now.code seen.frame.func).insts seen.frame.place ≡ Some c.in-Some.mi.now = rw (so_far.func, ← c.requires.here) there in
    let is = c.in-None-instruction.ensures.passed refl in
    let next_place = ap (λ (v : RunState). v.seen.frame.place) is in
    let place = so_far.place in
    record {
      func = ap (λ (v : RunState). v.seen.frame.func) is ∙ so_far.func;
      task = ap (λ (v : RunState). v.seen.task) is ∙ so_far.task;
      shared = ap (λ (v : RunState). v.seen.shared) is ∙ so_far.shared;
      words = c.in-None-instruction.ensures.words refl ∙ so_far.words;
      place = omega (arith, next_place, place);
      steps = λ setting given has. so_far.steps setting given has
          ∙ (ap (λ n. steps_within setting given n seen) count
          ∙ (steps_within-at setting given left seen c.args.program.now.code c.in-Some.mi.now has.code found
          ∙ c.in-None-instruction.ensures.passes refl setting given (steps_within setting given left)));
      plain = λ start. subst (λ n. IsPlainFrom (drop n insts)) (sym next_place)
          (c.in-None-instruction.ensures.check refl (drop (seen.frame.place + 1) insts) (plain-here insts seen.frame.place c.in-Some.mi.now there (so_far.plain start)));
    }

pub returns-in-None-clause-step : goal.returns-in-None-clause-step
returns-in-None-clause-step c setting given has next goes =
    let so_far = c.loop-tried.invariant in
    let seen = c.loop-tried.run.seen in
    let insts = c.args.insts.now in
    let left = length insts - (c.loop-tried._tried + 1) in
    let count : length insts - c.loop-tried._tried ≡ suc left = omega (arith, c.loop-tried-test.true) in
    let there : slice_get insts seen.frame.place ≡ None = rw (← c.place.ensures) (sym c.in-None.ensures.found) in
    let none : slice_get (code_at c.args.program.now.code seen.frame.func).insts seen.frame.place ≡ None = rw (so_far.func, ← c.requires.here) there in
    absurd (goes (so_far.steps setting given has.has ∙ (ap (λ n. steps_within setting given n seen) count ∙ steps_within-nowhere setting given left seen c.args.program.now.code has.has.code none)))

pub returns-in-None-clause-plain : goal.returns-in-None-clause-plain
returns-in-None-clause-plain c setting given has is =
    let there : slice_get c.args.insts.now c.loop-tried.run.seen.frame.place ≡ None = rw (← c.place.ensures) (sym c.in-None.ensures.found) in
    absurd (plain-nowhere c.args.insts.now c.loop-tried.run.seen.frame.place there (c.loop-tried.invariant.plain is))

pub returns-in-None-clause-grows : goal.returns-in-None-clause-grows
returns-in-None-clause-grows c some =
    let so_far = c.loop-tried.invariant in
    subst (λ (shared : MachineShared). GrowsLittle c.args.words.now c.loop-tried.words c.args.run.now.seen.shared shared) (sym so_far.shared)
    (subst (λ (w : Words). GrowsLittle c.args.words.now w c.args.run.now.seen.shared c.args.run.now.seen.shared) (sym so_far.words)
    (adds-little c.args.words.now c.args.run.now.seen.shared c.args.run.now.seen.shared (adds-none c.args.run.now.seen.shared)))

pub returns-clause-step : goal.returns-clause-step
returns-clause-step c setting given has next goes =
    let none : length c.args.insts.now - c.loop-tried._tried ≡ 0 = omega (arith, c.loop-tried-test.false) in
    absurd (goes (c.loop-tried.invariant.steps setting given has.has ∙ steps_within-none setting given _ c.loop-tried.run.seen none))

pub returns-clause-plain : goal.returns-clause-plain
returns-clause-plain c setting given has is =
    let place = c.loop-tried.invariant.place in
    let past : length c.args.insts.now ≤ c.loop-tried.run.seen.frame.place = omega (arith, c.loop-tried-test.false, place) in
    absurd (plain-past c.args.insts.now c.loop-tried.run.seen.frame.place past (c.loop-tried.invariant.plain is))

pub returns-clause-grows : goal.returns-clause-grows
returns-clause-grows c some =
    let so_far = c.loop-tried.invariant in
    subst (λ (shared : MachineShared). GrowsLittle c.args.words.now c.loop-tried.words c.args.run.now.seen.shared shared) (sym so_far.shared)
    (subst (λ (w : Words). GrowsLittle c.args.words.now w c.args.run.now.seen.shared c.args.run.now.seen.shared) (sym so_far.words)
    (adds-little c.args.words.now c.args.run.now.seen.shared c.args.run.now.seen.shared (adds-none c.args.run.now.seen.shared)))
