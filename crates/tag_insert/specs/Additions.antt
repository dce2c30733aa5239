-- What is added before an instruction, as the code has it. This project's choice.
use Rattle.std.specs.Prelude.{List, [], ◌∷◌}
use Rattle.mi_code.specs.declared.operations.MiOp.{MiOp}
use Rattle.tag_insert.specs.declared.addition.Addition.{Addition}
use Rattle.tag_insert.specs.declared.addition.Addition.TheVariants.{Nothing, One, Two}

abbrev pub added_ops : Addition → List MiOp
added_ops Nothing = []
added_ops (One op) = op ∷ []
added_ops (Two first second) = first ∷ second ∷ []
