-- What is printed of a text that was read.
use Rattle.std.specs.Prelude.{ℕ, List, [], codes, ◌++◌, ◌∷◌, Result, Ok, Err}
use Rattle.ir_core.specs.declared.ir_module.Module.{Module}
use Rattle.ir_core.specs.declared.refusals.ReadError.{ReadError}
use Rattle.ir_core.specs.declared.refusals.ReadError.TheVariants.{Refused, OutOfMemory}
use Rattle.ir_core.specs.Refusals.{refused_line}

-- the line, with its LF; nothing where memory ran out
abbrev pub answer_line : Result Module ReadError → List ℕ
answer_line (Ok m) = codes "accepted" ++ 10 ∷ []
answer_line (Err (Refused refusal)) = refused_line refusal
answer_line (Err OutOfMemory) = []
