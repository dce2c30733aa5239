-- The lists that reading of function bodies adds to.
use Rattle.std.specs.Prelude.{List, []}
use Rattle.ir_grammar.specs.declared.spelled_bodies.TypedOperand.{TypedOperand}
use Rattle.ir_grammar.specs.declared.spelled_bodies.SpelledIncoming.{SpelledIncoming}
use Rattle.ir_grammar.specs.declared.spelled_bodies.SpelledCase.{SpelledCase}
use Rattle.ir_grammar.specs.declared.spelled_bodies.SpelledAttachment.{SpelledAttachment}
use Rattle.ir_grammar.specs.declared.spelled_bodies.SpelledInstruction.{SpelledInstruction}
use Rattle.ir_grammar.specs.declared.spelled_bodies.SpelledBlock.{SpelledBlock}

-- arguments of calls and indices, entries of phis, cases of switches, attachments, instructions, blocks
pub record BodyStore : Type 0 where
  pub operands : List TypedOperand
  pub incoming : List SpelledIncoming
  pub cases : List SpelledCase
  pub attachments : List SpelledAttachment
  pub instructions : List SpelledInstruction
  pub blocks : List SpelledBlock

-- nothing yet
abbrev pub no_bodies : BodyStore
no_bodies = record { operands = []; incoming = []; cases = []; attachments = []; instructions = []; blocks = [] }
