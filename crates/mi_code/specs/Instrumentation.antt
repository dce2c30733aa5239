-- The instrumented code of a module: the code of each function's instructions in order of the text, each with the tag work
-- that is added before it (Clang's HWASan design document, section "Compiler changes"). The form of the code is this
-- project's choice.
use Rattle.std.specs.Prelude.{ℕ, suc, ◌+◌, if◌then◌else◌, List, [], ◌∷◌, ◌++◌, length, map, take, Option, Some, None}
use Rattle.hw_base.specs.declared.pointers.Site.{Site}
use Rattle.ir_core.specs.declared.operations.Op.{Op}
use Rattle.ir_core.specs.declared.ir_module.Block.{Block}
use Rattle.ir_core.specs.declared.ir_module.Inst.{Inst}
use Rattle.ir_core.specs.declared.ir_module.Function.{Function}
use Rattle.ir_core.specs.declared.ir_module.Module.{Module}
use Rattle.mi_code.specs.declared.operations.MiOp.{MiOp}
use Rattle.mi_code.specs.declared.code_functions.CodeFunction.{CodeFunction}
use Rattle.mi_code.specs.declared.code_functions.Mark.TheVariants.{Entry, Added, Source}
use Rattle.mi_code.specs.declared.code_functions.Mi.{Mi}
use Rattle.ir_core.specs.Blocks.{block_holding}
use Rattle.ir_core.specs.Operations.{is_phi}
use Rattle.mi_code.specs.MachineOperands.{registers_of}
use Rattle.mi_code.specs.SourceCode.{source_code}
use Rattle.mi_code.specs.TagChecks.{added_code, enter_code}

-- how many machine instructions a source instruction has by itself: none for a phi, else one
abbrev pub own_length : Op → ℕ
own_length op = if is_phi op then 0 else 1

-- the machine instructions of an instruction of a function whose variables have these sizes
abbrev pub instruction_length : Module → List ℕ → Inst → ℕ
instruction_length m sizes inst = length (added_code m sizes inst.op) + own_length inst.op

-- the machine instructions of several
unfoldable pub code_length : Module → List ℕ → List Inst → ℕ
code_length m sizes [] = 0
code_length m sizes (inst ∷ insts) = instruction_length m sizes inst + code_length m sizes insts

-- the place in the code of the first machine instruction of instruction number i: after the entry and the code of the
-- instructions before it
abbrev pub place_of : Module → Function → ℕ → ℕ
place_of m f i = length (enter_code f.allocas) + code_length m f.allocas (take i f.insts)

-- the places where blocks begin
unfoldable pub later_starts : Module → Function → List Block → List ℕ
later_starts m f [] = []
later_starts m f (block ∷ blocks) = place_of m f block.first ∷ later_starts m f blocks

-- the entry block begins with the entry, and so at place 0
abbrev pub starts_by : Module → Function → List Block → List ℕ
starts_by m f [] = []
starts_by m f (entry ∷ blocks) = 0 ∷ later_starts m f blocks

abbrev pub starts_of : Module → Function → List ℕ
starts_of m f = starts_by m f f.blocks

abbrev pub entry_mi : MiOp → Mi
entry_mi op = record { mark = Entry; op = op }

abbrev pub added_mi : Site → MiOp → Mi
added_mi site op = record { mark = Added site; op = op }

abbrev pub source_mi : Site → Option MiOp → List Mi
source_mi site None = []
source_mi site (Some op) = record { mark = Source site; op = op } ∷ []

-- the code of an instruction at a site
unfoldable pub code_of_instruction : Module → Function → Site → Inst → List Mi
code_of_instruction m f site inst =
    map (added_mi site) (added_code m f.allocas inst.op)
    ++ source_mi site (source_code m f (starts_of m f) (block_holding f.blocks site.inst) inst.result inst.op)

-- the code of a function's instructions from number i on
unfoldable pub code_from : Module → Function → (func i : ℕ) → List Inst → List Mi
code_from m f func i [] = []
code_from m f func i (inst ∷ insts) =
    code_of_instruction m f (record { func = func; inst = i }) inst ++ code_from m f func (suc i) insts

-- the code of the function with a number
unfoldable pub code_of_function : Module → ℕ → Function → CodeFunction
code_of_function m func f =
    record {
      registers = registers_of f;
      params = f.params;
      insts = map entry_mi (enter_code f.allocas) ++ code_from m f func 0 f.insts;
      starts = starts_of m f;
    }

-- the code of functions, the first of which has a number
unfoldable pub functions_from : Module → ℕ → List Function → List CodeFunction
functions_from m func [] = []
functions_from m func (f ∷ fs) = code_of_function m func f ∷ functions_from m (suc func) fs

-- the instrumented code of a module
abbrev pub instrumented : Module → List CodeFunction
instrumented m = functions_from m 0 m.functions
