use Rattle.std.proofs.Common.{◌≡◌, ℕ, ◌<◌, ◌≤◌, IsTrue, IsFalse}
use Rattle.ir_type_numbers.specs.Shapes.{IsClassing, unclassed, IsClosedAt}
use Rattle.ir_type_numbers.specs.WordMap.{longer_in}
use Rattle.ir_type_numbers.proofs.type_classes.class_once.Given as goal

abbrev pub invariant-loop-n : goal.invariant-loop-n
invariant-loop-n l =
    IsClassing l.types l.fields l.named (longer_in l.words) l.classes
    × (unclassed l.classes ≤ unclassed l.initial.classes)
    × (IsTrue l.did → unclassed l.classes < unclassed l.initial.classes)
    × (IsFalse l.did → l.classes ≡ l.initial.classes)
    × (IsFalse l.did → (k : ℕ) → k < l.n → IsClosedAt l.types l.fields l.classes k)
