-- Steps of the machine at the code of a source instruction.
use Rattle.std.proofs.Common.{◌≡◌, ℕ, zero, suc, ◌+◌, ◌<◌, length, Some, ap, arith}
use Rattle.hw_base.specs.declared.endings.Input.{Input}
use Rattle.hw_base.specs.declared.pointers.Site.{Site}
use Rattle.mi_code.specs.declared.code_functions.Mark.TheVariants.{Added, Source}
use Rattle.mi_code.specs.declared.operations.MiOp.{MiOp}
use Rattle.ir_machine.specs.CallSteps.{code_at, instruction_at}
use Rattle.ir_machine.specs.InstructionStep.{operation_step, instruction_step, steps_within, machine_step}
use Rattle.ir_machine.specs.State.{MachineSetting, MachineSeen, MachineOutcome}
use Rattle.ir_machine.specs.StepEnds.{advanced}
use Rattle.tag_story.proofs.StoryLists.{get-below}

-- a step of a source instruction, with any fuel that is left
pub source-within : (setting : MachineSetting) (given : Input) (fuel : ℕ) (s : MachineSeen) (site : Site) (op : MiOp) → 0 < fuel → instruction_at setting.code s.frame ≡ Some (record { mark = Source site; op = op }) → (next : MachineSeen → MachineOutcome) × (steps_within setting given fuel s ≡ operation_step setting given site next s op)
unfolding steps_within
source-within setting given zero s site op some at = absurd (omega arith)
source-within setting given (suc fuel) s site op some at =
    (steps_within setting given fuel, ap (instruction_step setting given (steps_within setting given fuel) s) at)

-- a step that begins at a source instruction
pub source-first : (setting : MachineSetting) (given : Input) (s : MachineSeen) (site : Site) (op : MiOp) → instruction_at setting.code s.frame ≡ Some (record { mark = Source site; op = op }) → (next : MachineSeen → MachineOutcome) × (machine_step setting given s ≡ operation_step setting given site next s op)
unfolding machine_step
source-first setting given s site op at =
    let below = get-below (code_at setting.code s.frame.func).insts s.frame.place _ at in
    source-within setting given (length (code_at setting.code s.frame.func).insts) s site op (omega (arith, below)) at

-- ---- an added instruction, and the source instruction after it

-- what goes on with the source instruction in the same step
abbrev pub GoesOnWith : MachineSetting → Input → Site → MiOp → (MachineSeen → MachineOutcome) → Type 0
GoesOnWith setting given site op go =
    (s : MachineSeen) → instruction_at setting.code s.frame ≡ Some (record { mark = Source site; op = op }) → (next : MachineSeen → MachineOutcome) × (go s ≡ operation_step setting given site next s op)

added-within : (setting : MachineSetting) (given : Input) (fuel : ℕ) (s : MachineSeen) (site : Site) (added op : MiOp) → 1 < fuel → instruction_at setting.code s.frame ≡ Some (record { mark = Added site; op = added })
    → (go : MachineSeen → MachineOutcome) × ((steps_within setting given fuel s ≡ operation_step setting given site go s added) × GoesOnWith setting given site op go)
unfolding steps_within
added-within setting given zero s site added op some at = absurd (omega (arith, some))
added-within setting given (suc fuel) s site added op some at =
    (steps_within setting given fuel, (ap (instruction_step setting given (steps_within setting given fuel) s) at, λ u there. source-within setting given fuel u site op (omega (arith, some)) there))

-- a step that begins at an added instruction, with a source instruction after it
pub added-first : (setting : MachineSetting) (given : Input) (s : MachineSeen) (site : Site) (added op : MiOp) → instruction_at setting.code s.frame ≡ Some (record { mark = Added site; op = added }) → instruction_at setting.code (advanced s).frame ≡ Some (record { mark = Source site; op = op })
    → (go : MachineSeen → MachineOutcome) × ((machine_step setting given s ≡ operation_step setting given site go s added) × GoesOnWith setting given site op go)
unfolding machine_step
added-first setting given s site added op at next =
    let below = get-below (code_at setting.code s.frame.func).insts (s.frame.place + 1) _ next in
    added-within setting given (length (code_at setting.code s.frame.func).insts) s site added op (omega (arith, below)) at
