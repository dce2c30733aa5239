use Rattle.std.proofs.Common.{◌≡◌, ◌-◌, List, ◌++◌, map, drop, length, Some}
use Rattle.ir_type_numbers.specs.declared.letter.Letter.{Letter}
use Rattle.ir_type_numbers.specs.Shapes.{word_number, IsNumbering, Keeps, part_letter}
use Rattle.ir_type_numbers.specs.WordMap.{longer_in}
use Rattle.ir_type_numbers.proofs.type_classes.with_parts.Given as goal

abbrev pub invariant-loop-done : goal.invariant-loop-done
invariant-loop-done l =
    ((letters : List Letter) → word_number (longer_in l.initial.words) letters ≡ Some l.word
    → word_number (longer_in l.words) (map (part_letter l.classes) (drop (length l.parts - l.done) l.parts) ++ letters) ≡ Some l.number)
    × Keeps (longer_in l.initial.words) (longer_in l.words)
    × IsNumbering (longer_in l.words)
