-- The machine before the first step: it is a machine of its setting, and can make a step; or there is no room for `main`.
use Rattle.std.proofs.Common.{◌≡◌, ℕ, ◌+◌, ◌<◌, ◌≤◌, ◌^◌, false, List, [], ◌∷◌, length, refl, sym, ap, ◌∙◌, subst, Result, Ok, Err, arith}
use Rattle.std.specs.Prelude.{All}
use Rattle.std.specs.Result.{IsErrAnd}
use Rattle.hw_base.specs.declared.endings.Full.{Full}
use Rattle.hw_tags.specs.Word.{word}
use Rattle.hw_tags.specs.Words.{coming}
use Rattle.hw_tags.specs.declared.options.Options.{Options}
use Rattle.hw_tags.specs.declared.words.Words.{Words}
use Rattle.global_tags.specs.GlobalPlaces.{global_words}
use Rattle.ir_core.specs.declared.ir_module.Function.{Function}
use Rattle.ir_core.specs.declared.ir_module.GlobalVar.{GlobalVar}
use Rattle.ir_core.specs.declared.ir_module.Module.{Module}
use Rattle.ir_tasks.specs.CallStacks.{fresh_frame}
use Rattle.ir_tasks.specs.Frames.{Frame, at_place}
use Rattle.mi_code.specs.declared.code_functions.CodeFunction.{CodeFunction}
use Rattle.ir_machine.specs.Built.{IsBuiltCode}
use Rattle.ir_machine.specs.CallSteps.{code_at, entry_of, variables_of}
use Rattle.ir_machine.specs.MachineStates.{MachineState, IsFullAtStart, IsMachineOf, IsReady, IsSettingOf, IsStarted}
use Rattle.ir_machine.specs.Programs.{HasProgram, sizes_at, start_error_of}
use Rattle.ir_machine.specs.declared.start_error.StartError.{StartError}
use Rattle.ir_machine.specs.declared.start_error.StartError.TheVariants as start
use Rattle.stack_tags.specs.declared.enter_error.EnterError.{EnterError}
use Rattle.stack_tags.specs.declared.enter_error.EnterError.TheVariants as enter
use Rattle.ir_machine.specs.RunStates.{RunState, AreNext, Grows, HasDrawn, first_state, loaded_module, with_frame}
use Rattle.ir_machine.specs.Start.{global_births}
use Rattle.ir_machine.specs.State.{MachineSetting, MachineSeen, MachineShared}
use Rattle.ir_machine.specs.declared.program.Program.{Program}
use Rattle.ir_machine.proofs.ProgramLemmas.{are-small, has-program}
use Rattle.ir_machine.proofs.StartLemmas.{full-start, started}
use Rattle.ir_machine.proofs.Growth.{next-words}

few-births : (globals : List GlobalVar) → global_births globals ≤ 1
few-births [] = omega arith
few-births (global ∷ globals) = omega arith

few-words : (globals : List GlobalVar) → global_words globals ≤ 1
few-words [] = omega arith
few-words (global ∷ globals) = omega arith

-- an error that says that there is no room comes of one
full-by : (error : EnterError) (full : Full) → start.Full full ≡ start_error_of error → error ≡ enter.Full full
full-by (enter.Full found) full same =
    let is : found ≡ full = cc in
    ap enter.Full is
full-by enter.OutOfMemory full same = absurd cc

pub full-entered : {A : Type 0} (r : Result A StartError) (error : EnterError) (full : Full) → r ≡ Err (start.Full full)
    → IsErrAnd r (λ (e : StartError). e ≡ start_error_of error) → error ≡ enter.Full full
full-entered {A = A} r error full is gives =
    full-by error full (subst (λ (x : Result A StartError). IsErrAnd x (λ (e : StartError). e ≡ start_error_of error)) is gives)

-- what is known before `main` is entered
pub record IsLoaded (m : Module) (options : Options) (functions : List CodeFunction) (program : Program) (first : RunState) (words : Words) : Type 0 where
  pub code : program.code ≡ functions
  pub variables : (func : ℕ) → variables_of m func ≡ sizes_at program func
  pub main : m.main < length functions
  pub state : first ≡ first_state (loaded_module m options) (fresh_frame m.main (code_at functions m.main).registers 0 0)
  pub words_are : (k : ℕ) → coming words k ≡ word options.tags (global_words m.globals + k)

module _ (m : Module) (options : Options) (functions : List CodeFunction) (program : Program) (first : RunState) (words : Words) (loaded : IsLoaded m options functions program first words) where
  shared-is : first.seen.shared ≡ loaded_module m options
  shared-is = ap (λ (v : RunState). v.seen.shared) loaded.state

  has : (setting : MachineSetting) → IsSettingOf setting m functions options → HasProgram setting program
  has setting is = has-program setting m functions options program is loaded.code loaded.variables

  next-is : (setting : MachineSetting) → IsSettingOf setting m functions options → AreNext setting words first.seen.shared.drawn
  next-is setting is k =
      loaded.words_are k
      ∙ (sym (is.words_are (global_words m.globals + k)) ∙ ap (λ (shared : MachineShared). setting.word (shared.drawn + k)) (sym shared-is))

  -- there is no room for the variables of `main`
  pub full-at-start : (full : Full)
      → ((setting : MachineSetting) → HasProgram setting program → AreNext setting words first.seen.shared.drawn → entry_of setting 0 m.main 0 first.seen.shared ≡ Err full)
      → IsFullAtStart m functions options full
  full-at-start full entry setting is =
      full-start setting m functions options is loaded.main full
      (ap (λ (shared : MachineShared). entry_of setting 0 m.main 0 shared) (sym shared-is) ∙ entry setting (has setting is) (next-is setting is))

  module _ (entered last : RunState) (next : Words) (place : ℕ) (same : entered ≡ record first { seen = record first.seen { shared = entered.seen.shared } }) (grows : Grows 0 1 1 words next first.seen.shared entered.seen.shared) (moved : last ≡ with_frame entered (at_place entered.seen.frame place)) where
    abbrev pub machine : MachineState
    machine = record { program = program; run = last; words = next; steps = 0; lost = false }

    last-shared : last.seen.shared ≡ entered.seen.shared
    last-shared = ap (λ (v : RunState). v.seen.shared) moved

    last-frame : last.seen.frame ≡ at_place (fresh_frame m.main (code_at functions m.main).registers 0 0) place
    last-frame =
        ap (λ (v : RunState). v.seen.frame) moved
        ∙ ap (λ (frame : Frame). at_place frame place) (ap (λ (v : RunState). v.seen.frame) same ∙ ap (λ (v : RunState). v.seen.frame) loaded.state)

    last-callers : last.seen.callers ≡ []
    last-callers =
        ap (λ (v : RunState). v.seen.callers) moved
        ∙ (ap (λ (v : RunState). v.seen.callers) same ∙ ap (λ (v : RunState). v.seen.callers) loaded.state)

    -- `main` is entered
    pub is-started
        : ((setting : MachineSetting) → HasProgram setting program → AreNext setting words first.seen.shared.drawn
        → entry_of setting 0 m.main 0 first.seen.shared ≡ Ok (record { shared = entered.seen.shared; place = place }))
        → IsStarted m functions options machine
    is-started entry =
        record {
          code = loaded.code;
          steps = refl;
          lost = refl;
          machine = λ setting is. record {
            program = has setting is;
            words = next-words setting 1 words next first.seen.shared.drawn last.seen.shared.drawn (next-is setting is)
                (subst (λ (shared : MachineShared). HasDrawn 1 words next first.seen.shared.drawn shared.drawn) (sym last-shared) grows.drawn);
          };
          world = λ setting is.
              started setting m functions options is loaded.main place machine
              (ap (λ (shared : MachineShared). entry_of setting 0 m.main 0 shared) (sym shared-is)
              ∙ (entry setting (has setting is) (next-is setting is) ∙ ap (λ (shared : MachineShared). Ok (record { shared = shared; place = place })) (sym last-shared)))
              last-frame last-callers refl;
        }

    -- and can make a step
    pub is-ready : IsBuiltCode functions → All (λ (f : Function). All (λ size. size < 2 ^ 64) f.allocas) m.functions → IsReady machine
    is-ready built small =
        let first_births = few-births m.globals in
        let first_words = few-words m.globals in
        let births_of : first.seen.shared.births ≡ global_births m.globals = ap (λ (shared : MachineShared). shared.births) shared-is in
        let drawn_of : first.seen.shared.drawn ≡ global_words m.globals = ap (λ (shared : MachineShared). shared.drawn) shared-is in
        let chains_of : length first.seen.shared.chains ≡ 0 = ap (λ (shared : MachineShared). length shared.chains) shared-is in
        let stacks_of : length first.seen.shared.stacks.tasks ≡ 1 = ap (λ (shared : MachineShared). length shared.stacks.tasks) shared-is in
        let rings_of : length first.seen.shared.heap.freed ≡ 1 = ap (λ (shared : MachineShared). length shared.heap.freed) shared-is in
        let chains = grows.chains in
        let births = grows.births in
        let drawn = grows.drawn.drawn in
        let few = grows.drawn.few in
        let stacks = grows.stacks_are in
        let rings = grows.rings_are in
        let last_births : last.seen.shared.births ≡ entered.seen.shared.births = ap (λ (shared : MachineShared). shared.births) last-shared in
        let last_drawn : last.seen.shared.drawn ≡ entered.seen.shared.drawn = ap (λ (shared : MachineShared). shared.drawn) last-shared in
        let last_chains : length last.seen.shared.chains ≡ length entered.seen.shared.chains = ap (λ (shared : MachineShared). length shared.chains) last-shared in
        let last_rings : length last.seen.shared.heap.freed ≡ length entered.seen.shared.heap.freed = ap (λ (shared : MachineShared). length shared.heap.freed) last-shared in
        let last_stacks : length last.seen.shared.stacks.tasks ≡ length entered.seen.shared.stacks.tasks = ap (λ (shared : MachineShared). length shared.stacks.tasks) last-shared in
        record {
          built = subst IsBuiltCode (sym loaded.code) built;
          small = are-small m program small loaded.variables;
          chains = λ e. omega (arith, last_chains, chains, chains_of);
          births = λ e. omega (arith, last_births, births, births_of, first_births);
          drawn = λ e. omega (arith, last_drawn, drawn, few, drawn_of, first_words);
          stack = λ e. omega (arith, last_stacks, stacks, stacks_of);
          ring = λ e. omega (arith, last_rings, rings, rings_of);
        }
