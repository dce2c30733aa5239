use Rattle.ir_lib.proofs.StringLemmas.{byte_order-same}
use Rattle.ir_lib.proofs.laws.bytes_equal_themselves.Goals as goal

pub returns : goal.returns
returns c = byte_order-same
