-- What `lex` returns.
use Rattle.std.specs.Prelude.{ℕ, List, ◌≡◌, Result, Ok, Err}
use Rattle.ir_core.specs.Tokens.{Tokenised}
use Rattle.ir_core.specs.Tokenisation.{IsTokenisation, IsBadTokenAt}
use Rattle.ir_core.specs.declared.faults.Fault.TheVariants.{BadToken}
use Rattle.ir_core.specs.declared.refusals.ReadError.{ReadError}
use Rattle.ir_core.specs.declared.refusals.ReadError.TheVariants.{Refused, OutOfMemory}

-- the text's tokens beside the text, or the place of its bad token, unless memory ran out
abbrev pub Lexes : List ℕ → Result Tokenised ReadError → Type 0
Lexes text (Ok read) = (read.source ≡ text) × IsTokenisation text read.tokens
Lexes text (Err (Refused refusal)) = (refusal.fault ≡ BadToken) × IsBadTokenAt text (record { line = refusal.line; column = refusal.column })
Lexes text (Err OutOfMemory) = Unit {0}
