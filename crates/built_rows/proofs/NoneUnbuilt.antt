-- What holds if nothing in an accepted module is unbuilt.
use Rattle.std.proofs.Common.{◌≡◌, ◌<◌, ◌^◌, true, get_or, None, arith}
use Rattle.std.specs.List.{All}
use Rattle.ir_core.specs.declared.faults.Fault.TheVariants.{Unsupported}
use Rattle.ir_core.specs.declared.ir_module.Function.{Function}
use Rattle.ir_core.specs.declared.ir_module.Inst.{Inst}
use Rattle.ir_core.specs.declared.ir_module.Module.{Module}
use Rattle.ir_core.specs.ResolvedBodies.{IsResolvedFunction}
use Rattle.ir_core.specs.Runnable.{IsRunnableFunction}
use Rattle.ir_check_types.specs.Order.{first_among}
use Rattle.ir_check_types.specs.Rules.{declare_fault, operation_fault, instruction_fault, instructions_fault, function_fault}
use Rattle.ir_check_types.proofs.PassedRules.{none_second, none_among, holds, all_at}
use Rattle.ir_check_flow.specs.Checked.{IsChecked}
use Rattle.built_rows.specs.Unbuilt.{is_built_row, unbuilt_instruction, unbuilt_function, unbuilt}
use Rattle.built_rows.specs.Laws.{DeclaresAreThere}
use Rattle.built_rows.proofs.Operations.{IsKnown, IsKnownModule}

rows-built : (m : Module) (f : Function) → unbuilt_function m f ≡ None → All (λ (inst : Inst). is_built_row m inst.op ≡ true) f.insts
rows-built m f none k d within =
    let inst = get_or f.insts k d in
    holds (is_built_row m inst.op) Unsupported inst.place (none_among (unbuilt_instruction m) f.insts none k d within)

function-known : (m : Module) (f : Function) → IsResolvedFunction m f → function_fault m f ≡ None → IsRunnableFunction m f → unbuilt_function m f ≡ None
    → All (IsKnown m f) f.insts
function-known m f resolved types runnable none =
    let rows = rows-built m f none in
    let rules = none_among (instruction_fault m f) f.insts (none_second _ (instructions_fault m f f.insts) types) in
    λ k d within. record {
      resolved = resolved.instructions k d within;
      types = none_second _ (operation_fault m f (get_or f.insts k d).place (get_or f.insts k d).op) (rules k d within);
      runnable = runnable.instructions k d within;
      row = rows k d within;
    }

-- the instructions of each function are known
pub functions-known : (m : Module) → IsChecked m → unbuilt m ≡ None → All (λ (f : Function). All (IsKnown m f) f.insts) m.functions
functions-known m checked none k d within =
    let rest = none_second _ _ (none_second _ _ checked.types) in
    let rules = none_among (function_fault m) m.functions (none_second (first_among (declare_fault m) m.declares) (first_among (function_fault m) m.functions) rest) in
    let parts = none_among (unbuilt_function m) m.functions none in
    function-known m (get_or m.functions k d) (checked.runnable.resolved.functions k d within) (rules k d within) (checked.runnable.functions k d within) (parts k d within)

few-parameters : (m : Module) (f : Function) → IsResolvedFunction m f → f.params < 2 ^ 32
few-parameters m f resolved =
    let few = resolved.registers.few in
    let some = resolved.registers.parameters in
    omega (arith, few, some)

pub module-known : (m : Module) → IsChecked m → DeclaresAreThere m → IsKnownModule m
module-known m checked there =
    record {
      types = checked.runnable.resolved.outside.types;
      declares = there;
      few = λ func g at. few-parameters m g (all_at (IsResolvedFunction m) m.functions func g checked.runnable.resolved.functions at);
    }
