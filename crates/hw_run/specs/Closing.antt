-- The closing text of a run. This project's choice.
use Rattle.std.specs.Prelude.{ℕ, ℤ, List, ◌++◌, codes}
use Rattle.std.specs.Fmt.{decimal, signed_decimal}
use Rattle.hw_base.specs.declared.endings.Full.{Full}
use Rattle.hw_base.specs.declared.endings.Space.{Space}
use Rattle.hw_base.specs.declared.endings.Space.TheVariants.{Heap, Stack}
use Rattle.hw_base.specs.declared.endings.Status.{Status}
use Rattle.hw_base.specs.declared.endings.Status.TheVariants as status
use Rattle.hw_base.specs.declared.endings.Trap.{Trap}
use Rattle.hw_base.specs.declared.endings.Trap.TheVariants.{DivZero, DivOverflow, Unreachable, ReadOnly, TooDeep, Abort}
use Rattle.dbg_sites.specs.ChainTable.{ChainEntry, chain_of}
use Rattle.ir_core.specs.declared.ir_module.Module.{Module}
use Rattle.hw_report.specs.ReportText.{report_lines}
use Rattle.hw_report.specs.Sites.{chain_lines}
use Rattle.hw_run.specs.declared.ends.RunEnd.{RunEnd}
use Rattle.hw_run.specs.declared.ends.RunEnd.TheVariants as run_end

-- ---- ends

-- the number of the step, at the end of a line
unfoldable pub step_text : (step : ℕ) → List ℕ
step_text step = codes ", step " ++ decimal step ++ codes "\n"

unfoldable pub exit_text : (value : ℤ) → List ℕ
exit_text value = codes "ended: exit " ++ signed_decimal value

-- the program exited with a signed value in this step
abbrev pub ended_line : (value : ℤ) (step : ℕ) → List ℕ
ended_line value step = exit_text value ++ step_text step

abbrev pub trap_word : Trap → List ℕ
trap_word DivZero = codes "div-zero"
trap_word DivOverflow = codes "div-overflow"
trap_word Unreachable = codes "unreachable"
trap_word ReadOnly = codes "read-only"
trap_word TooDeep = codes "too-deep"
trap_word Abort = codes "abort"

unfoldable pub trap_text : Trap → (task : ℕ) → List ℕ
trap_text trap task = codes "trapped: " ++ trap_word trap ++ codes " in task " ++ decimal task

-- a task trapped in this step
abbrev pub trapped_line : Trap → (task step : ℕ) → List ℕ
trapped_line trap task step = trap_text trap task ++ step_text step

-- all steps that the bound allows were made
unfoldable pub spent_line : (bound : ℕ) → List ℕ
spent_line bound = codes "spent: step " ++ decimal bound ++ codes "\n"

abbrev pub space_word : Space → List ℕ
space_word Heap = codes "heap"
space_word Stack = codes "stack"

unfoldable pub asked_text : Space → (asked : ℕ) → List ℕ
asked_text space asked = codes "full: " ++ space_word space ++ codes ", " ++ decimal asked ++ codes " asked"

unfoldable pub living_text : (living : ℕ) → List ℕ
living_text living = codes ", " ++ decimal living ++ codes " living"

-- there was no room in this step: the bytes that were asked for, and those that live
abbrev pub full_line : Full → (step : ℕ) → List ℕ
full_line full step = asked_text full.space full.asked ++ living_text full.living ++ step_text step

-- ---- the closing text by what the loop over the steps returned

abbrev pub end_text : Module → List ChainEntry → (step bound : ℕ) → RunEnd → List ℕ
end_text m chains step bound run_end.Spent = spent_line bound
end_text m chains step bound (run_end.Exit value) = ended_line value step
end_text m chains step bound (run_end.Trap trap task chain) = trapped_line trap task step ++ chain_lines m (chain_of chains chain)
end_text m chains step bound (run_end.Mismatch raw) = report_lines m chains raw
end_text m chains step bound (run_end.Full full) = full_line full step

abbrev pub status_of : RunEnd → Status
status_of run_end.Spent = status.Spent
status_of (run_end.Exit value) = status.Ended
status_of (run_end.Trap trap task chain) = status.Trapped
status_of (run_end.Mismatch raw) = status.Reported
status_of (run_end.Full full) = status.Full
