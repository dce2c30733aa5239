use Rattle.ir_type_numbers.specs.Shapes.{IsClassing, unclassed}
use Rattle.ir_type_numbers.specs.WordMap.{longer_in}
use Rattle.ir_type_numbers.proofs.type_classes.class_all.Given as goal

abbrev pub invariant-loop : goal.invariant-loop
invariant-loop l = IsClassing l.types l.fields l.named (longer_in l.words) l.classes

abbrev pub decreases-loop : goal.decreases-loop
decreases-loop l = unclassed l.classes
