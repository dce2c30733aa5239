-- The place after the entry of a function.
use Rattle.std.proofs.Common.{◌≡◌, ℕ, suc, Bool, true, false, List, [], ◌∷◌, ◌++◌, length, map, Option, Some, None, refl, sym, ◌∙◌, ap, subst}
use Rattle.std.specs.Prelude.{slice_get, Result, Ok, Err}
use Rattle.hw_base.specs.declared.endings.Full.{Full}
use Rattle.hw_base.specs.declared.pointers.Site.{Site}
use Rattle.ir_core.specs.declared.ir_module.Inst.{Inst}
use Rattle.ir_core.specs.declared.ir_module.Function.{Function}
use Rattle.ir_core.specs.declared.ir_module.Module.{Module}
use Rattle.ir_core.specs.Blocks.{block_holding}
use Rattle.mi_code.specs.declared.code_functions.CodeFunction.{CodeFunction}
use Rattle.mi_code.specs.declared.code_functions.Mi.{Mi}
use Rattle.mi_code.specs.declared.operations.MiOp.{MiOp}
use Rattle.mi_code.specs.SourceCode.{source_code}
use Rattle.mi_code.specs.TagChecks.{added_code, enter_code}
use Rattle.mi_code.specs.Instrumentation.{starts_of, entry_mi, added_mi, source_mi, code_of_instruction, code_from, code_of_function, instrumented}
use Rattle.stack_tags.specs.FrameSteps.{StacksAfter, entered}
use Rattle.ir_machine.specs.State.{MachineSetting, MachineShared}
use Rattle.ir_machine.specs.CallSteps.{AfterEntry, after_variables, begins_with_entry, code_at, code_by, enter_step, entry_if, entry_of, variables_of}
use Rattle.ir_machine.proofs.CodeAt.{instrumented-get}

-- the code of instructions has no entry
begins-in : (site : Site) (added : List MiOp) (o : Option MiOp) (rest : List Mi) → begins_with_entry rest ≡ false → begins_with_entry ((map (added_mi site) added ++ source_mi site o) ++ rest) ≡ false
begins-in site (op ∷ added) o rest h = refl
begins-in site [] (Some op) rest h = refl
begins-in site [] None rest h = h

begins-code_from : (m : Module) (f : Function) (func i : ℕ) (insts : List Inst) → begins_with_entry (code_from m f func i insts) ≡ false
unfolding code_from code_of_instruction
begins-code_from m f func i [] = refl
begins-code_from m f func i (inst ∷ insts) =
    let site : Site = record { func = func; inst = i } in
    begins-in site (added_code m f.allocas inst.op) (source_code m f (starts_of m f) (block_holding f.blocks i) inst.result inst.op) (code_from m f func (suc i) insts)
    (begins-code_from m f func (suc i) insts)

-- a function with variables has an entry
abbrev pub has_variables : List ℕ → Bool
has_variables [] = false
has_variables (size ∷ sizes) = true

begins-sizes : (m : Module) (f : Function) (func : ℕ) (insts : List Inst) (sizes : List ℕ) → begins_with_entry (map entry_mi (enter_code sizes) ++ code_from m f func 0 insts) ≡ has_variables sizes
begins-sizes m f func insts [] = begins-code_from m f func 0 insts
begins-sizes m f func insts (size ∷ sizes) = refl

pub begins-code : (m : Module) (f : Function) (func : ℕ) → begins_with_entry (code_of_function m func f).insts ≡ has_variables f.allocas
unfolding code_of_function
begins-code m f func = begins-sizes m f func f.insts f.allocas

-- a function's code in that of its module
pub code-there : (setting : MachineSetting) (m : Module) → setting.code ≡ instrumented m → (func : ℕ) (f : Function) → slice_get m.functions func ≡ Some f → code_at setting.code func ≡ code_of_function m func f
code-there setting m code func f there =
    ap (λ (c : List CodeFunction). code_at c func) code ∙ ap code_by (instrumented-get m func f there)

-- an entry that isn't refused goes to a place
abbrev pub EntersAt : ℕ → Result AfterEntry Full → Type 0
EntersAt place (Err full) = Unit {0}
EntersAt place (Ok after) = after.place ≡ place

enters-variables : (shared : MachineShared) (r : Result StacksAfter Full) → EntersAt 1 (after_variables shared r)
enters-variables shared (Ok after) = refl
enters-variables shared (Err full) = tt

enters-if : (setting : MachineSetting) (task func chain : ℕ) (shared : MachineShared) (sizes : List ℕ) → EntersAt (length (enter_code sizes)) (entry_if (has_variables sizes) setting task func chain shared)
unfolding enter_step
enters-if setting task func chain shared [] = refl
enters-if setting task func chain shared (size ∷ sizes) =
    enters-variables shared (entered shared.stacks shared.memory task func (setting.word shared.drawn) (variables_of setting.program func) shared.births chain)

-- the entry of a function goes to the place after it
pub enters-at : (setting : MachineSetting) (m : Module) → setting.code ≡ instrumented m → (task func chain : ℕ) (shared : MachineShared) (f : Function) → slice_get m.functions func ≡ Some f → EntersAt (length (enter_code f.allocas)) (entry_of setting task func chain shared)
enters-at setting m code task func chain shared f there =
    let begins : begins_with_entry (code_at setting.code func).insts ≡ has_variables f.allocas =
    ap (λ (c : CodeFunction). begins_with_entry c.insts) (code-there setting m code func f there) ∙ begins-code m f func in
    subst (λ (t : Bool). EntersAt (length (enter_code f.allocas)) (entry_if t setting task func chain shared)) (sym begins)
    (enters-if setting task func chain shared f.allocas)
