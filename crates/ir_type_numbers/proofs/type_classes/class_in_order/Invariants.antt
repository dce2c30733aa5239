use Rattle.ir_type_numbers.specs.Shapes.{IsClassing}
use Rattle.ir_type_numbers.specs.WordMap.{longer_in}
use Rattle.ir_type_numbers.proofs.type_classes.class_in_order.Given as goal

abbrev pub invariant-loop-n : goal.invariant-loop-n
invariant-loop-n l = IsClassing l.types l.fields l.named (longer_in l.words) l.classes
