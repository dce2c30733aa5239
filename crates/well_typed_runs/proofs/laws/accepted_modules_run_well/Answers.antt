use Rattle.well_typed_runs.proofs.Runs.{runs_are_never_stuck, without_calloc, states_are_good, registers_are_typed, last_registers_are_typed}
use Rattle.well_typed_runs.proofs.laws.accepted_modules_run_well.Goals as goal

pub returns : goal.returns
returns c = record { accepted = λ m h. record { runnable = h.runnable; types = h.types; flow = h.flow }; never_stuck = runs_are_never_stuck; without_calloc = without_calloc; states = states_are_good; registers = registers_are_typed; last_registers = last_registers_are_typed }
