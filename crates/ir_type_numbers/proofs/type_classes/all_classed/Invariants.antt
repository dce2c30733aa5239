use Rattle.std.proofs.Common.{ℕ, ◌<◌, get_or}
use Rattle.ir_type_numbers.specs.Shapes.{IsClassed}
use Rattle.ir_type_numbers.proofs.type_classes.all_classed.Given as goal

abbrev pub invariant-loop-part : goal.invariant-loop-part
invariant-loop-part l = (k : ℕ) → k < l.part-index → IsClassed l.classes (get_or l.parts k 0)
