-- How the definitions see the words and a command of the code.
use Rattle.std.specs.Prelude.{ℕ, List, map, String, string_bytes}
use Rattle.std.specs.declared.alloc.Global.{Global}
use Rattle.hw_driver.specs.declared.command.Command.{Command}
use Rattle.hw_driver.specs.declared.command.Given as code
use Rattle.hw_driver.specs.Given.{tags_view}
use Rattle.hw_driver.specs.Line.{Given, Line}

abbrev pub given_view : code.Given → Given
given_view g = record { tags = tags_view g.tags; steps = g.steps; ring = g.ring; heap = g.heap }

abbrev pub line_view : Command → Line
line_view c = record { file = c.file.now; given = given_view c.given }

-- the words as bytes
abbrev pub texts : List (String Global) → List (List ℕ)
texts words = map string_bytes words
