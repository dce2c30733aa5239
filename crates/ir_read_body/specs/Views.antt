-- How the grammar sees what readers of calls and blocks answer.
use Rattle.std.specs.Prelude.{List, [], ◌∷◌, ◌++◌, ◌≡◌, Option, None, Some, Result, Ok, Err}
use Rattle.std.specs.Global.{Vec}
use Rattle.ir_grammar.specs.declared.terminal.Terminal.{Terminal}
use Rattle.ir_grammar.specs.declared.terminal.Failure.{Failure}
use Rattle.ir_grammar.specs.declared.terminal.Failure.TheVariants.{OutOfMemory}
use Rattle.ir_grammar.specs.declared.spelled_bodies.TypedOperand.{TypedOperand}
use Rattle.ir_grammar.specs.declared.spelled_bodies.SpelledInstruction.{SpelledInstruction}
use Rattle.ir_grammar.specs.Reading.{Outcome, ◌>>=◌}
use Rattle.ir_grammar.specs.Spelled.{Store}
use Rattle.ir_grammar.specs.SpelledBodies.{kept_ones}

-- what is called, and its arguments
abbrev pub map_called : Option (Terminal × Vec TypedOperand) → Option (Terminal × List TypedOperand)
map_called None = None
map_called (Some v) = Some (v.0, v.1.items)

-- the instructions that are there among what is read, behind these
abbrev pub with_ones : List SpelledInstruction → Outcome Store (List (Option SpelledInstruction)) → Outcome Store (List SpelledInstruction)
with_ones front outcome = outcome >>= λ x. Ok (front ++ kept_ones x.0, x.1, x.2)

-- these instructions, and one more if it is there, unless memory ran out
abbrev pub AddsKept : List SpelledInstruction → Option SpelledInstruction → Result (Vec SpelledInstruction) Failure → Type 0
AddsKept found next (Ok all) = all.items ≡ found ++ kept_ones (next ∷ [])
AddsKept found next (Err e) = e ≡ OutOfMemory
