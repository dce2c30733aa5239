use Rattle.ir_read_top.proofs.Phases.{bad_text}
use Rattle.ir_read_top.proofs.reading.sentence_of.Goals as goal

pub returns-in-Err : goal.returns-in-Err
returns-in-Err c = bad_text c.args.text.now c.in-Err.error c.requires c.in-Err.ensures.lexes
