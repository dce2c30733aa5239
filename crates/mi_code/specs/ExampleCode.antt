-- The code of a small module, for an example of the instrumentation.
use Rattle.std.specs.Prelude.{ℕ, List, [], ◌∷◌, Some, None}
use Rattle.hw_base.specs.declared.accesses.Access.TheVariants.{Write}
use Rattle.hw_base.specs.declared.pointers.Site.{Site}
use Rattle.ir_core.specs.declared.lib_functions.Lib.TheVariants.{Malloc}
use Rattle.mi_code.specs.declared.code_functions.CodeFunction.{CodeFunction}
use Rattle.mi_code.specs.declared.code_functions.Mark.TheVariants.{Added, Source}
use Rattle.mi_code.specs.declared.code_functions.Mi.{Mi}
use Rattle.mi_code.specs.declared.operands.IndexStep.TheVariants.{Scaled}
use Rattle.mi_code.specs.declared.operands.MiOperand.TheVariants.{Reg, Num}
use Rattle.mi_code.specs.declared.operands.Width.TheVariants.{Int}
use Rattle.mi_code.specs.declared.operations.MiOp.{MiOp}
use Rattle.mi_code.specs.declared.operations.MiOp.TheVariants as machine

-- instruction number i of function 0
abbrev pub site_in_main : ℕ → Site
site_in_main i = record { func = 0; inst = i }

abbrev pub source_at : ℕ → MiOp → Mi
source_at i op = record { mark = Source (site_in_main i); op = op }

abbrev pub added_at : ℕ → MiOp → Mi
added_at i op = record { mark = Added (site_in_main i); op = op }

-- the code of the module that writes one byte just past a block of 10 bytes: one check is added, before the store
abbrev pub code_with_one_check : List CodeFunction
code_with_one_check =
    record {
      registers = 4;
      params = 0;
      insts =
          source_at 0 (machine.CallLib Malloc (Some 0) (Num 10 ∷ []) None)
          ∷ source_at 1 (machine.Gep 2 (Reg 0) (Scaled (Num 10) 64 1 ∷ []))
          ∷ added_at 2 (machine.One (Reg 2) 1 Write)
          ∷ source_at 2 (machine.Store (Int 8) (Num 1) (Reg 2))
          ∷ source_at 3 (machine.Ret (Some (Num 0)))
          ∷ [];
      starts = 0 ∷ [];
    }
    ∷ []
