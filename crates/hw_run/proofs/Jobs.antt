-- The whole job: the run from the start of the machine, and what it shows.
use Rattle.std.proofs.Common.{◌≡◌, ◌≢◌, ℕ, ◌<◌, ◌^◌, [], List, All, length, refl, ap, sym, ◌∙◌, subst, Result, Ok, Err, arith}
use Rattle.std.proofs.lemmas.Option.{slice_get_within}
use Rattle.std.specs.Prelude.{slice_get, IfOk}
use Rattle.hw_base.specs.declared.out_of_memory.OutOfMemory.{OutOfMemory}
use Rattle.std.specs.Int.{w32, cast_signed}
use Rattle.hw_base.specs.declared.endings.Full.{Full}
use Rattle.hw_base.specs.declared.endings.Status.TheVariants as status
use Rattle.hw_tags.specs.TaskRuns.{Next, Spent, Ended, IsStuck, run_from, after_report, after_step}
use Rattle.hw_tags.specs.Word.{word}
use Rattle.hw_tags.specs.declared.options.Options.{Options}
use Rattle.dbg_sites.specs.ChainTable.{ChainEntry, chain_of}
use Rattle.ir_core.specs.declared.ir_module.Function.{Function}
use Rattle.ir_core.specs.declared.ir_module.Module.{Module}
use Rattle.ir_core.specs.Runnable.{IsRunnable}
use Rattle.mi_code.specs.declared.code_functions.CodeFunction.{CodeFunction}
use Rattle.mi_code.specs.Instrumentation.{code_of_function, instrumented}
use Rattle.ir_machine.specs.MachineStates.{MachineState, IsFullAtStart, IsMachineOf, IsSettingOf, IsStarted, world_of}
use Rattle.ir_machine.specs.Runs.{machine_run, run_of, setting_of, step_in}
use Rattle.ir_machine.specs.Shown.{output_of}
use Rattle.ir_machine.specs.State.{MachineSetting, MachineShared, MachineWorld, MachineEnding, MachineRun, Exited, Trapped, Reported, IsFull}
use Rattle.ir_machine.proofs.CodeAt.{get-below, instrumented-get}
use Rattle.ir_machine.proofs.WorldPlaces.{machine_run-not_stuck}
use Rattle.hw_run.specs.declared.ends.Gathered.{Gathered}
use Rattle.hw_run.specs.declared.ends.RunEnd.{RunEnd}
use Rattle.hw_run.specs.declared.ends.RunEnd.TheVariants as run_end
use Rattle.hw_run.specs.declared.ends.StepsMade.{StepsMade}
use Rattle.hw_report.specs.ReportText.{report_lines}
use Rattle.hw_report.specs.Sites.{chain_lines}
use Rattle.hw_run.specs.Closing.{ended_line, trapped_line, full_line, end_text, status_of}
use Rattle.hw_run.specs.RunEnds.{IsRun, IsRunEnd, IsGathered, Shows, ShowsEnding}

-- `main` is a function of the code
pub main-below : (m : Module) (code : List CodeFunction) → IsRunnable m → code ≡ instrumented m → m.main < length code
main-below m code runnable same =
    let (f, found) = get-below m.functions m.main runnable.resolved.main_there in
    slice_get_within code m.main (code_of_function m m.main f) (ap (λ (c : List CodeFunction). slice_get c m.main) same ∙ instrumented-get m m.main f found)

-- what the job puts together from what the loop returned
pub record PutTogether (m : Module) (bound : ℕ) (made : StepsMade) (after : MachineState) (gathered : Gathered) : Type 0 where
  pub output : gathered.output ≡ made.output
  pub status : gathered.status ≡ status_of made.end
  pub text : gathered.text ≡ end_text m after.run.seen.shared.chains after.steps bound made.end

ending-shown : (m : Module) (bound : ℕ) (w : MachineWorld) (output : List ℕ) (ending : MachineEnding) (end : RunEnd) (step : ℕ) (shared : MachineShared) (gathered : Gathered)
    → IsRunEnd ending end → w.steps ≡ step → w.shared ≡ shared → gathered.output ≡ output → gathered.status ≡ status_of end
    → gathered.text ≡ end_text m shared.chains step bound end → ShowsEnding m w output ending gathered
ending-shown m bound w output (Exited n) (run_end.Exit value) step shared gathered is steps same bytes status text =
    record { output_is = bytes; status_is = status; text_is = text ∙ (ap (λ v. ended_line v step) is ∙ ap (ended_line (cast_signed w32 n)) (sym steps)) }
ending-shown m bound w output (Trapped trap task chain) (run_end.Trap t k number) step shared gathered (same_trap, same_task, same_chain) steps same bytes status text =
    let chains : shared.chains ≡ w.shared.chains = ap (λ (s : MachineShared). s.chains) (sym same) in
    let line : trapped_line t k step ≡ trapped_line trap task w.steps = cc in
    let lines : chain_lines m (chain_of shared.chains number) ≡ chain_lines m (chain_of w.shared.chains chain) =
    ap (λ (table : List ChainEntry). chain_lines m (chain_of table number)) chains ∙ ap (λ (n : ℕ). chain_lines m (chain_of w.shared.chains n)) same_chain in
    record { output_is = bytes; status_is = status; text_is = cc }
ending-shown m bound w output (Reported raw) (run_end.Mismatch found) step shared gathered is steps same bytes status text =
    record {
      output_is = bytes;
      status_is = status;
      text_is = text ∙ (ap (report_lines m shared.chains) is ∙ ap (λ (s : MachineShared). report_lines m s.chains raw) (sym same));
    }
ending-shown m bound w output (IsFull full) (run_end.Full found) step shared gathered is steps same bytes status text =
    record { output_is = bytes; status_is = status; text_is = text ∙ (ap (λ f. full_line f step) is ∙ ap (full_line full) (sym steps)) }
ending-shown m bound w output ending other step shared gathered is steps same bytes status text = absurd is

pub run-shown : (m : Module) (bound : ℕ) (run : MachineRun) (made : StepsMade) (after : MachineState) (gathered : Gathered)
    → run ≢ IsStuck → IsRun run made after → PutTogether m bound made after gathered → IsGathered m bound run gathered
run-shown m bound (Spent w pieces) made after gathered goes h put =
    record {
      output_is = put.output ∙ h.output;
      status_is = put.status ∙ ap status_of h.end;
      text_is = put.text ∙ ap (end_text m after.run.seen.shared.chains after.steps bound) h.end;
    }
run-shown m bound (Ended w pieces ending) made after gathered goes h put =
    ending-shown m bound w (output_of pieces) ending made.end after.steps after.run.seen.shared gathered h.end h.steps h.shared (put.output ∙ h.output) put.status put.text
run-shown m bound IsStuck made after gathered goes h put = goes refl

-- a report of nothing before a run shows nothing
gathered-start : (m : Module) (bound : ℕ) (run : MachineRun) (gathered : Gathered) → IsGathered m bound run gathered → IsGathered m bound (after_report [] run) gathered
gathered-start m bound (Spent w pieces) gathered h = h
gathered-start m bound (Ended w pieces ending) gathered h = h
gathered-start m bound IsStuck gathered h = h

-- ---- the run of a module

setting-is : (program : Module) (options : Options) (input : List ℕ) (code : List CodeFunction) → code ≡ instrumented program
    → IsSettingOf (setting_of program options input) program code options
setting-is program options input code same =
    record { program_is = refl; code_is = sym same; places_are = refl; ring_is = refl; words_are = λ k. refl }

-- from the machine that was started
pub job-started : (program : Module) (options : Options) (input : List ℕ) (code : List CodeFunction) (start : MachineState) (gathered : Gathered)
    → IsRunnable program → code ≡ instrumented program → IsStarted program code options start
    → ((setting : MachineSetting) (turns : ℕ → ℕ) → IsMachineOf setting start → run_from (step_in setting) [] turns options.steps (world_of start) ≢ IsStuck
    → IsGathered program options.steps (run_from (step_in setting) [] turns options.steps (world_of start)) gathered)
    → IsGathered program options.steps (run_of program options input) gathered
unfolding machine_run
job-started program options input code start gathered runnable same started shown =
    let setting = setting_of program options input in
    let turns = word options.turns in
    let go = run_from (step_in setting) [] turns options.steps in
    let is = setting-is program options input code same in
    let whole : run_of program options input ≡ after_report [] (go (world_of start)) = ap (after_step go) (started.world setting is) in
    let goes : go (world_of start) ≢ IsStuck =
    λ stuck. machine_run-not_stuck program runnable setting refl refl turns options.steps (whole ∙ ap (after_report []) stuck) in
    subst (λ (run : MachineRun). IsGathered program options.steps run gathered) (sym whole)
    (gathered-start program options.steps (go (world_of start)) gathered (shown setting turns (started.machine setting is) goes))

-- if there is no room for the variables of `main`
pub job-full : (program : Module) (options : Options) (input : List ℕ) (code : List CodeFunction) (full : Full) (gathered : Gathered)
    → code ≡ instrumented program → IsFullAtStart program code options full → Shows [] status.Full (full_line full 0) gathered
    → IsGathered program options.steps (run_of program options input) gathered
unfolding machine_run
job-full program options input code full gathered same is_full shows =
    let setting = setting_of program options input in
    let go = run_from (step_in setting) [] (word options.turns) options.steps in
    let whole = ap (after_step go) (is_full setting (setting-is program options input code same)) in
    subst (λ (run : MachineRun). IsGathered program options.steps run gathered) (sym whole) shows

pub shown-if : {P Q : Gathered → Type 0} (r : Result Gathered OutOfMemory) → IfOk r P → ((g : Gathered) → P g → Q g) → IfOk r Q
shown-if (Ok g) h f = f g h
shown-if (Err e) h f = tt

-- the variables of a module that can be run are small
pub small-variables : (m : Module) → IsRunnable m → All (λ (f : Function). All (λ size. size < 2 ^ 64) f.allocas) m.functions
small-variables m runnable k d within j e inside =
    let most = (runnable.functions k d within).variables j e inside in
    omega (arith, most)
