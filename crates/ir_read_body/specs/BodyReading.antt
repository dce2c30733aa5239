-- What reading the body of a function answers.
use Rattle.std.specs.Prelude.{ℕ, List, [], drop, length, ◌-◌, Result, Ok}
use Rattle.ir_grammar.specs.declared.spelled_bodies.SpelledBlock.{SpelledBlock}
use Rattle.ir_grammar.specs.declared.terminal.Terminal.{Terminal}
use Rattle.ir_grammar.specs.declared.terminal.Flaw.{Flaw}
use Rattle.ir_grammar.specs.declared.terminal.Failure.{Failure}
use Rattle.ir_grammar.specs.BodyStore.{no_bodies}
use Rattle.ir_grammar.specs.Reading.{◌>>=◌}
use Rattle.ir_grammar.specs.Spelled.{Store, store_of}
use Rattle.ir_grammar.specs.Grammar.{Gives, read, nesting_limit}
use Rattle.ir_grammar.specs.Blocks.{function_body}
use Rattle.ir_read_body.specs.declared.body.Body.{Body}

-- nothing yet
abbrev pub nothing_read : Store
nothing_read = record { types = []; fields = []; constants = []; elements = []; indices = []; parameters = []; items = []; bodies = no_bodies }

-- a body: its blocks, the index of the token after it, and what it spells
abbrev pub ReadBody : Type 0
ReadBody = List SpelledBlock × ℕ × Store

-- the body that begins at this token, or its flaw
abbrev pub body_at : List Terminal → ℕ → Result ReadBody Flaw
body_at tokens at = read nesting_limit function_body (drop at tokens) nothing_read >>= λ x. Ok (x.0, length tokens - length x.1, x.2)

-- the body that begins at this token, or its flaw, unless memory ran out
abbrev pub ReadsBody : List Terminal → ℕ → Result Body Failure → Type 0
ReadsBody tokens at result = Gives (λ b. (b.raw.blocks.items, b.next, store_of b.raw.found)) result (body_at tokens at)
