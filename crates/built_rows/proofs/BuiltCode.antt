-- The code of an accepted module in which nothing is unbuilt is code that the machine runs.
use Rattle.std.proofs.Common.{◌≡◌, ℕ, suc, true, false, List, [], ◌∷◌, ◌++◌, map, Option, Some, None, refl}
use Rattle.std.specs.List.{All}
use Rattle.std.specs.Option.{IfSome}
use Rattle.std.proofs.lemmas.List.Elements.{All-nil, All-cons, All-append, All-head, All-tail}
use Rattle.hw_base.specs.declared.pointers.Site.{Site}
use Rattle.ir_core.specs.declared.operations.Op.{Op}
use Rattle.ir_core.specs.declared.operations.Op.TheVariants as op
use Rattle.ir_core.specs.declared.ir_module.Function.{Function}
use Rattle.ir_core.specs.declared.ir_module.Inst.{Inst}
use Rattle.ir_core.specs.declared.ir_module.Module.{Module}
use Rattle.ir_core.specs.Blocks.{block_holding}
use Rattle.global_tags.proofs.LoadingLemmas.{loadable}
use Rattle.ir_machine.specs.Built.{HasReturns, IsBuilt, IsBuiltAdded, IsBuiltFunctionCode, IsBuiltOp, IsLeave}
use Rattle.mi_code.specs.declared.code_functions.CodeFunction.{CodeFunction}
use Rattle.mi_code.specs.declared.code_functions.Mi.{Mi}
use Rattle.mi_code.specs.declared.operations.MiOp.{MiOp}
use Rattle.mi_code.specs.declared.operations.MiOp.TheVariants.{Enter, Leave}
use Rattle.mi_code.specs.Instrumentation.{entry_mi, added_mi, source_mi, starts_of, code_of_instruction, code_from, code_of_function, functions_from}
use Rattle.mi_code.specs.SourceCode.{source_code}
use Rattle.mi_code.specs.TagChecks.{added_code, enter_code}
use Rattle.built_rows.specs.Laws.{BuiltCanBeRun}
use Rattle.built_rows.specs.Unbuilt.{is_built_row}
use Rattle.built_rows.proofs.AddedChecks.{added-built, checks-built, is_return}
use Rattle.built_rows.proofs.NoneUnbuilt.{functions-known, module-known}
use Rattle.built_rows.proofs.Operations.{IsKnown, IsKnownModule, operation-built}

abbrev AreBuilt : List Mi → Type 0
AreBuilt insts = All IsBuilt insts

source-built : (site : Site) (code : Option MiOp) → IfSome code IsBuiltOp → AreBuilt (source_mi site code)
source-built site None built = All-nil IsBuilt
source-built site (Some op) built = All-cons IsBuilt _ [] built (All-nil IsBuilt)

added-marked : (site : Site) (ops : List MiOp) → All IsBuiltAdded ops → AreBuilt (map (added_mi site) ops)
added-marked site [] built = All-nil IsBuilt
added-marked site (op ∷ ops) built =
    All-cons IsBuilt (added_mi site op) (map (added_mi site) ops) (All-head IsBuiltAdded op ops built) (added-marked site ops (All-tail IsBuiltAdded op ops built))

entry-built : (sizes : List ℕ) → AreBuilt (map entry_mi (enter_code sizes))
entry-built [] = All-nil IsBuilt
entry-built (size ∷ sizes) = All-cons IsBuilt (entry_mi Enter) [] refl (All-nil IsBuilt)

-- ---- returns

abbrev IsNoLeave : Mi → Type 0
IsNoLeave mi = IsLeave mi.op → ⊥

no-leave : (o : MiOp) → IsBuiltOp o → IsLeave o → ⊥
no-leave Leave built leave = built
no-leave o built leave = absurd leave

returns-append : (before after : List Mi) → All IsNoLeave before → HasReturns after → HasReturns (before ++ after)
returns-append [] after none has = has
returns-append (mi ∷ before) after none has =
    ((λ leave. absurd (All-head IsNoLeave mi before none leave)), returns-append before after (All-tail IsNoLeave mi before none) has)

checks-no-leave : (site : Site) (ops : List MiOp) → All IsBuiltOp ops → All IsNoLeave (map (added_mi site) ops)
checks-no-leave site [] built = All-nil IsNoLeave
checks-no-leave site (op ∷ ops) built =
    All-cons IsNoLeave (added_mi site op) (map (added_mi site) ops) (no-leave op (All-head IsBuiltOp op ops built))
    (checks-no-leave site ops (All-tail IsBuiltOp op ops built))

source-no-leave : (site : Site) (code : Option MiOp) → IfSome code IsBuiltOp → All IsNoLeave (source_mi site code)
source-no-leave site None built = All-nil IsNoLeave
source-no-leave site (Some op) built = All-cons IsNoLeave _ [] (no-leave op built) (All-nil IsNoLeave)

-- the code of an instruction that is no return ends no frame
other-returns : (m : Module) (sizes : List ℕ) (site : Site) (o : Op) (code : Option MiOp) (after : List Mi) → is_return o ≡ false → is_built_row m o ≡ true
    → IfSome code IsBuiltOp → HasReturns after → HasReturns ((map (added_mi site) (added_code m sizes o) ++ source_mi site code) ++ after)
other-returns m sizes site o code after other row built has =
    returns-append (map (added_mi site) (added_code m sizes o) ++ source_mi site code) after
    (All-append IsNoLeave (map (added_mi site) (added_code m sizes o)) (source_mi site code)
    (checks-no-leave site (added_code m sizes o) (checks-built m sizes o other row)) (source-no-leave site code built)) has

by-op : (m : Module) (f : Function) (sizes starts : List ℕ) (here : ℕ) (r : Option ℕ) (site : Site) (o : Op) (after : List Mi) → is_built_row m o ≡ true
    → IfSome (source_code m f starts here r o) IsBuiltOp → HasReturns after
    → HasReturns ((map (added_mi site) (added_code m sizes o) ++ source_mi site (source_code m f starts here r o)) ++ after)
by-op m f [] starts here r site (op.Ret value) after row built has = ((λ leave. absurd leave), has)
by-op m f (size ∷ sizes) starts here r site (op.Ret value) after row built has = ((λ leave. tt), ((λ leave. absurd leave), has))
by-op m f sizes starts here r site o after row built has = other-returns m sizes site o (source_code m f starts here r o) after refl row built has

-- ---- the code of instructions

instruction-built : (m : Module) (f : Function) (site : Site) (inst : Inst) → IsKnownModule m → IsKnown m f inst
    → AreBuilt (code_of_instruction m f site inst)
unfolding code_of_instruction
instruction-built m f site inst known is =
    All-append IsBuilt (map (added_mi site) (added_code m f.allocas inst.op))
    (source_mi site (source_code m f (starts_of m f) (block_holding f.blocks site.inst) inst.result inst.op))
    (added-marked site (added_code m f.allocas inst.op) (added-built m f.allocas inst.op is.row))
    (source-built site _ (operation-built m f (starts_of m f) (block_holding f.blocks site.inst) inst known is))

instruction-returns : (m : Module) (f : Function) (site : Site) (inst : Inst) (after : List Mi) → IsKnownModule m → IsKnown m f inst → HasReturns after
    → HasReturns (code_of_instruction m f site inst ++ after)
unfolding code_of_instruction
instruction-returns m f site inst after known is has =
    by-op m f f.allocas (starts_of m f) (block_holding f.blocks site.inst) inst.result site inst.op after is.row
    (operation-built m f (starts_of m f) (block_holding f.blocks site.inst) inst known is) has

instructions-built : (m : Module) (f : Function) (func i : ℕ) (insts : List Inst) → IsKnownModule m → All (IsKnown m f) insts
    → AreBuilt (code_from m f func i insts)
unfolding code_from
instructions-built m f func i [] known are = All-nil IsBuilt
instructions-built m f func i (inst ∷ insts) known are =
    All-append IsBuilt (code_of_instruction m f (record { func = func; inst = i }) inst) (code_from m f func (suc i) insts)
    (instruction-built m f (record { func = func; inst = i }) inst known (All-head (IsKnown m f) inst insts are))
    (instructions-built m f func (suc i) insts known (All-tail (IsKnown m f) inst insts are))

instructions-return : (m : Module) (f : Function) (func i : ℕ) (insts : List Inst) → IsKnownModule m → All (IsKnown m f) insts
    → HasReturns (code_from m f func i insts)
unfolding code_from
instructions-return m f func i [] known are = tt
instructions-return m f func i (inst ∷ insts) known are =
    instruction-returns m f (record { func = func; inst = i }) inst (code_from m f func (suc i) insts) known (All-head (IsKnown m f) inst insts are)
    (instructions-return m f func (suc i) insts known (All-tail (IsKnown m f) inst insts are))

entry-returns : (sizes : List ℕ) (after : List Mi) → HasReturns after → HasReturns (map entry_mi (enter_code sizes) ++ after)
entry-returns [] after has = has
entry-returns (size ∷ sizes) after has = ((λ leave. absurd leave), has)

function-built : (m : Module) (func : ℕ) (f : Function) → IsKnownModule m → All (IsKnown m f) f.insts → IsBuiltFunctionCode (code_of_function m func f)
unfolding code_of_function
function-built m func f known are =
    record {
      built = All-append IsBuilt (map entry_mi (enter_code f.allocas)) (code_from m f func 0 f.insts) (entry-built f.allocas) (instructions-built m f func 0 f.insts known are);
      returns = entry-returns f.allocas (code_from m f func 0 f.insts) (instructions-return m f func 0 f.insts known are);
    }

abbrev AreKnown : Module → Function → Type 0
AreKnown m f = All (IsKnown m f) f.insts

functions-built : (m : Module) (func : ℕ) (fs : List Function) → IsKnownModule m → All (AreKnown m) fs → All IsBuiltFunctionCode (functions_from m func fs)
unfolding functions_from
functions-built m func [] known are = All-nil IsBuiltFunctionCode
functions-built m func (f ∷ fs) known are =
    All-cons IsBuiltFunctionCode (code_of_function m func f) (functions_from m (suc func) fs)
    (function-built m func f known (All-head (AreKnown m) f fs are))
    (functions-built m (suc func) fs known (All-tail (AreKnown m) f fs are))

pub built-can-be-run : BuiltCanBeRun
built-can-be-run m checked there none =
    record {
      code = functions-built m 0 m.functions (module-known m checked there) (functions-known m checked none);
      globals = loadable m checked.runnable;
    }
