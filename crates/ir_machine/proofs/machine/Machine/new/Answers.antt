use Rattle.std.proofs.Common.{◌≡◌, refl, ap, ◌∙◌, Err}
use Rattle.ir_tasks.specs.CallStacks.{fresh_frame}
use Rattle.ir_machine.specs.RunStates.{first_state, loaded_module}
use Rattle.ir_machine.proofs.StartedMachines.{IsLoaded, full-at-start, full-entered, is-ready, is-started}
use Rattle.ir_machine.proofs.machine.Machine.new.Goals as goal

pub returns-in_err-place-clause-full : goal.returns-in_err-place-clause-full
returns-in_err-place-clause-full c full is =
    let m = c.args.program.now in
    let options = c.args.options.now in
    let program = c.in_ok-instrumented.instrumented in
    let first = c.in_ok-run.run' in
    let loaded : IsLoaded m options c.args.code program first c.new-3.new.words = record {
      code = c.in_ok-instrumented.ensures.code;
      variables = c.in_ok-instrumented.ensures.variables;
      main = c.requires.main;
      state = c.in_ok-run.ensures.state ∙ ap (λ n. first_state (loaded_module m options) (fresh_frame m.main n 0 0)) c.registers_of-registers.ensures;
      words_are = c.in_ok-run.ensures.words;
    } in
    full-at-start m options c.args.code program first c.new-3.new.words loaded full
    (c.in_err-place.ensures.full full (ap Err (full-entered _ c.in_err-place.field-0.0 full is c.from_residual-in_err-place.ensures.1)))

pub invariant_of-result : goal.invariant_of-result
invariant_of-result c =
    let m = c.args.program.now in
    let options = c.args.options.now in
    let program = c.in_ok-instrumented.instrumented in
    let first = c.in_ok-run.run' in
    let loaded : IsLoaded m options c.args.code program first c.new-3.new.words = record {
      code = c.in_ok-instrumented.ensures.code;
      variables = c.in_ok-instrumented.ensures.variables;
      main = c.requires.main;
      state = c.in_ok-run.ensures.state ∙ ap (λ n. first_state (loaded_module m options) (fresh_frame m.main n 0 0)) c.registers_of-registers.ensures;
      words_are = c.in_ok-run.ensures.words;
    } in
    is-ready m options c.args.code program first c.new-3.new.words loaded c.enter_if.new.self c.go_to.new.self c.enter_if.new.words c.in_ok-place.place
    c.in_ok-place.ensures.shared c.in_ok-place.ensures.grows c.go_to.ensures c.requires.built c.requires.variables

pub returns-clause-started : goal.returns-clause-started
returns-clause-started c =
    let m = c.args.program.now in
    let options = c.args.options.now in
    let program = c.in_ok-instrumented.instrumented in
    let first = c.in_ok-run.run' in
    let loaded : IsLoaded m options c.args.code program first c.new-3.new.words = record {
      code = c.in_ok-instrumented.ensures.code;
      variables = c.in_ok-instrumented.ensures.variables;
      main = c.requires.main;
      state = c.in_ok-run.ensures.state ∙ ap (λ n. first_state (loaded_module m options) (fresh_frame m.main n 0 0)) c.registers_of-registers.ensures;
      words_are = c.in_ok-run.ensures.words;
    } in
    is-started m options c.args.code program first c.new-3.new.words loaded c.enter_if.new.self c.go_to.new.self c.enter_if.new.words c.in_ok-place.place
    c.in_ok-place.ensures.shared c.in_ok-place.ensures.grows c.go_to.ensures c.in_ok-place.ensures.entry
