-- What is true of a module in which no type rule is broken.
use Rattle.std.specs.Prelude.{◌≡◌, None}
use Rattle.std.specs.List.{All}
use Rattle.ir_core.specs.declared.ir_module.Function.{Function}
use Rattle.ir_core.specs.declared.ir_module.Inst.{Inst}
use Rattle.ir_core.specs.declared.ir_module.Module.{Module}
use Rattle.ir_core.specs.ResolvedBodies.{IsResolved}
use Rattle.ir_core.specs.Runnable.{IsRunnableOp}
use Rattle.ir_check_types.specs.Rules.{type_fault}

-- each instruction is one that a run can take, if names are resolved and no type rule is broken
abbrev pub InstructionsCanBeRun : Type 0
InstructionsCanBeRun = (m : Module) → IsResolved m → type_fault m ≡ None → All (λ (f : Function). All (λ (inst : Inst). IsRunnableOp m inst.op) f.insts) m.functions
