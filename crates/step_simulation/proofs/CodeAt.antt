-- The code at a frame: the machine instructions of the source instruction at which it is.
use Rattle.std.proofs.Common.{◌≡◌, ℕ, ◌+◌, List, slice_get, Some, ◌∙◌, ap}
use Rattle.ir_core.specs.declared.ir_module.Function.{Function}
use Rattle.ir_core.specs.declared.ir_module.Inst.{Inst}
use Rattle.ir_core.specs.declared.ir_module.Module.{Module}
use Rattle.mi_code.specs.declared.code_functions.CodeFunction.{CodeFunction}
use Rattle.mi_code.specs.declared.code_functions.Mi.{Mi}
use Rattle.mi_code.specs.Instrumentation.{place_of, code_of_instruction, code_of_function, instrumented}
use Rattle.ir_machine.specs.CallSteps.{code_by, code_at, instruction_at}
use Rattle.ir_tasks.specs.Frames.{Frame}
use Rattle.ir_machine.proofs.CodeAt.{code-get, instrumented-get}
use Rattle.simulation.proofs.ListParts.{get-append}

-- the code of a function of the module
pub code-at : (m : Module) (func : ℕ) (f : Function) → slice_get m.functions func ≡ Some f → code_at (instrumented m) func ≡ code_of_function m func f
code-at m func f h = ap code_by (instrumented-get m func f h)

-- the code of the instruction at which a frame is
abbrev pub own_code : Module → Function → (func i : ℕ) → Inst → List Mi
own_code m f func i inst = code_of_instruction m f (record { func = func; inst = i }) inst

-- machine instruction k of a source instruction is at its place
pub instruction-get : (m : Module) (f : Function) (func i k : ℕ) (inst : Inst) (mi : Mi) → slice_get f.insts i ≡ Some inst → slice_get (own_code m f func i inst) k ≡ Some mi → slice_get (code_of_function m func f).insts (place_of m f i + k) ≡ Some mi
instruction-get m f func i k inst mi here there =
    code-get m f func i k inst here ∙ get-append (own_code m f func i inst) _ k mi there

-- the machine's instruction at a frame
pub at-frame : (m : Module) (func : ℕ) (f : Function) (frame : Frame) (place : ℕ) (mi : Mi) → slice_get m.functions func ≡ Some f → frame.func ≡ func → frame.place ≡ place → slice_get (code_of_function m func f).insts place ≡ Some mi → instruction_at (instrumented m) frame ≡ Some mi
at-frame m func f frame place mi there own at found =
    ap (λ n. slice_get (code_at (instrumented m) n).insts frame.place) own
    ∙ ap (λ (c : CodeFunction). slice_get c.insts frame.place) (code-at m func f there)
    ∙ ap (slice_get (code_of_function m func f).insts) at
    ∙ found
