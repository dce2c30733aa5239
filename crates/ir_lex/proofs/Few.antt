-- A text has no more tokens than bytes.
use Rattle.std.proofs.Common.{ℕ, ◌+◌, ◌<◌, ◌≤◌, List, [], ◌∷◌, length, arith, Result, Ok, Err}
use Rattle.std.specs.Prelude.{IfOk}
use Rattle.ir_core.specs.Tokens.{Tokenised}
use Rattle.ir_core.specs.Tokenisation.{IsCut}
use Rattle.ir_core.specs.declared.token.Token.{Token}
use Rattle.ir_core.specs.declared.refusals.ReadError.{ReadError}
use Rattle.ir_lex.specs.Lexes.{Lexes}
use Rattle.ir_lex.proofs.Cuts.{token_some}

cut_few : (text : List ℕ) (from : ℕ) (ts : List Token) (to : ℕ) → IsCut text from ts to → from ≤ length text → length ts + from ≤ length text
cut_few text from [] to h inside = omega arith
cut_few text from (t ∷ ts) to h inside =
    let gap = (h.0).ordered in
    let some : t.from < t.to = token_some text t h.1 in
    let within = ((h.1).within).inside in
    let more : length ts + t.to ≤ length text = cut_few text t.to ts to h.2 within in
    omega arith

pub few_tokens : (text : List ℕ) (result : Result Tokenised ReadError) → Lexes text result → IfOk result (λ read. length read.tokens ≤ length text)
few_tokens text (Ok read) h = let c = cut_few text 0 read.tokens ((h.1).last) ((h.1).cut) (omega arith) in omega arith
few_tokens text (Err e) h = tt
