use Rattle.ir_lib.proofs.StringLemmas.{checked_string-ok}
use Rattle.ir_lib.proofs.laws.a_checked_string_is_read.Goals as goal

pub returns : goal.returns
returns c = checked_string-ok
