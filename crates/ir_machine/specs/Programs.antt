-- Code with the sizes in bytes of the variables of each of its functions, and why it can't be started. This project's choice.
use Rattle.std.specs.Prelude.{◌≡◌, ◌^◌, ◌<◌, ℕ, List, All, slice_get, unwrap_or}
use Rattle.stack_tags.specs.declared.enter_error.EnterError.{EnterError}
use Rattle.stack_tags.specs.declared.enter_error.EnterError.TheVariants as enter
use Rattle.ir_machine.specs.declared.program.Program.{Program}
use Rattle.ir_machine.specs.declared.start_error.StartError.{StartError}
use Rattle.ir_machine.specs.declared.start_error.StartError.TheVariants as start
use Rattle.ir_machine.specs.Built.{HasCode}
use Rattle.ir_machine.specs.CallSteps.{variables_of}
use Rattle.ir_machine.specs.State.{MachineSetting}

-- the sizes of the variables of a function
abbrev pub sizes_at : Program → ℕ → List ℕ
sizes_at program func = unwrap_or (slice_get program.variables.items func) program.none

-- each size is below 2 ^ 64
abbrev pub AreSmall : Program → Type 0
AreSmall program = (func : ℕ) → All (λ size. size < 2 ^ 64) (sizes_at program func)

-- the setting has this code, and its module has these variables
pub record HasProgram (setting : MachineSetting) (program : Program) : Type 0 where
  pub has : HasCode setting program.code
  pub variables : (func : ℕ) → variables_of setting.program func ≡ sizes_at program func

-- why a run can't start, if `main` can't be entered
abbrev pub start_error_of : EnterError → StartError
start_error_of (enter.Full full) = start.Full full
start_error_of enter.OutOfMemory = start.OutOfMemory
