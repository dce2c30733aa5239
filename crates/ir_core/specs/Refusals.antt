-- The line that says why and where a text is refused. This project's choice.
use Rattle.std.specs.Prelude.{ℕ, List, ◌++◌, codes}
use Rattle.std.specs.Fmt.{decimal}
use Rattle.ir_core.specs.declared.refusals.Refusal.{Refusal}
use Rattle.ir_core.specs.Faults.{fault_number, fault_name}

-- refused: CODE NAME at LINE:COLUMN, with LF
abbrev pub refused_line : Refusal → List ℕ
refused_line r =
    codes "refused: " ++ decimal (fault_number r.fault) ++ codes " " ++ fault_name r.fault
    ++ codes " at " ++ decimal r.line ++ codes ":" ++ decimal r.column ++ codes "\n"
