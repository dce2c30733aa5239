use Rattle.std.proofs.Common.{ℕ, List, sym, subst}
use Rattle.ir_core.specs.declared.ir_module.Module.{Module}
use Rattle.global_tags.specs.Loading.{CanBeLoaded}
use Rattle.ir_machine.specs.Built.{IsBuiltCode}
use Rattle.ir_machine.specs.Runs.{run_of}
use Rattle.hw_run.specs.RunEnds.{IsGathered}
use Rattle.built_rows.specs.Laws.{CanBeRun}
use Rattle.built_rows.proofs.BuiltCode.{built-can-be-run}
use Rattle.hw_driver.proofs.ModuleRuns.{always_detects}
use Rattle.hw_driver.proofs.judging.judge_module.Goals as goal

pub run_gathered-requires-clause-built : goal.run_gathered-requires-clause-built
run_gathered-requires-clause-built c =
    let can : CanBeRun c.args.checked.now = built-can-be-run c.args.checked.now c.module.ensures.checked c.requires.declares c.requires.built in
    subst IsBuiltCode (sym c.in_ok-code.ensures) can.code

pub run_gathered-requires-clause-globals : goal.run_gathered-requires-clause-globals
run_gathered-requires-clause-globals c =
    let can : CanBeRun c.args.checked.now = built-can-be-run c.args.checked.now c.module.ensures.checked c.requires.declares c.requires.built in
    subst CanBeLoaded (sym c.module.ensures.value) can.globals

pub returns : goal.returns
returns c = record {
  options = c.in_ok-options.options;
  options_right = c.in_ok-options.ensures;
  decision = λ (input : List ℕ). subst (λ (m : Module). IsGathered m c.in_ok-options.options.steps (run_of m c.in_ok-options.options input) c.in_ok-gathered.gathered)
      c.module.ensures.value (c.in_ok-gathered.ensures input);
  detects = λ (input : List ℕ). always_detects c.args.checked.now c.in_ok-options.options input c.module.ensures.checked;
}
