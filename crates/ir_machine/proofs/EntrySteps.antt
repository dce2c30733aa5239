-- The entry of a function: its variables get their memory and tags, or there is no room for them.
use Rattle.std.proofs.Common.{◌≡◌, ℕ, ◌+◌, true, false, List, refl, ap, sym, ◌∙◌, Result, Ok, Err, arith}
use Rattle.hw_base.specs.declared.endings.Full.{Full}
use Rattle.hw_tags.specs.Words.{coming}
use Rattle.hw_tags.specs.declared.words.Words.{Words}
use Rattle.stack_tags.specs.FrameSteps.{StacksAfter, entered}
use Rattle.ir_machine.specs.CallSteps.{after_variables, begins_with_entry, code_at, enter_step, entry_if, entry_of, variables_of, with_variables}
use Rattle.ir_machine.specs.Programs.{HasProgram, sizes_at}
use Rattle.ir_machine.specs.RunStates.{AreNext, GrowsLittle}
use Rattle.ir_machine.specs.State.{MachineSetting, MachineShared}
use Rattle.ir_machine.specs.declared.program.Program.{Program}

module _ (setting : MachineSetting) (program : Program) (words : Words) (func chain : ℕ) (shared : MachineShared) (has : HasProgram setting program) where
  -- a function without an entry has no variables to enter
  pub plain-entry : begins_with_entry (code_at program.code func).insts ≡ false → entry_of setting 0 func chain shared ≡ Ok (record { shared = shared; place = 0 })
  plain-entry none = rw (has.has.code, none) refl

  with-entry : begins_with_entry (code_at program.code func).insts ≡ true → entry_of setting 0 func chain shared ≡ enter_step setting 0 func chain shared
  with-entry some = rw (has.has.code, some) refl

  next-word : AreNext setting words shared.drawn → setting.word shared.drawn ≡ coming words 0
  next-word next =
      let more : shared.drawn ≡ shared.drawn + 0 = omega arith in
      ap setting.word more ∙ sym (next 0)

  step-by : (r : Result StacksAfter Full) → AreNext setting words shared.drawn
      → entered shared.stacks shared.memory 0 func (coming words 0) (sizes_at program func) shared.births chain ≡ r
      → enter_step setting 0 func chain shared ≡ after_variables shared r
  unfolding enter_step
  step-by r next is =
      ap (λ sizes. after_variables shared (entered shared.stacks shared.memory 0 func (setting.word shared.drawn) sizes shared.births chain)) (has.variables func)
      ∙ (ap (λ w. after_variables shared (entered shared.stacks shared.memory 0 func w (sizes_at program func) shared.births chain)) (next-word next)
      ∙ ap (after_variables shared) is)

  -- the variables of a function with an entry
  pub variables-entry : (after : StacksAfter) → begins_with_entry (code_at program.code func).insts ≡ true → AreNext setting words shared.drawn
      → entered shared.stacks shared.memory 0 func (coming words 0) (sizes_at program func) shared.births chain ≡ Ok after
      → entry_of setting 0 func chain shared ≡ Ok (record { shared = with_variables shared after; place = 1 })
  variables-entry after some next is = with-entry some ∙ step-by (Ok after) next is

  -- there is no room for them
  pub full-entry : (full : Full) → begins_with_entry (code_at program.code func).insts ≡ true → AreNext setting words shared.drawn
      → entered shared.stacks shared.memory 0 func (coming words 0) (sizes_at program func) shared.births chain ≡ Err full
      → entry_of setting 0 func chain shared ≡ Err full
  full-entry full some next is = with-entry some ∙ step-by (Err full) next is
