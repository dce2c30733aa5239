use Rattle.ir_meaning.proofs.ReadBack.{int_from-number_bytes, pointer_from-pointer_bytes}
use Rattle.ir_meaning.proofs.laws.what_was_written_is_read.Goals as goal

pub returns-clause-integer : goal.returns-clause-integer
returns-clause-integer c = int_from-number_bytes

pub returns-clause-pointer : goal.returns-clause-pointer
returns-clause-pointer c = pointer_from-pointer_bytes
