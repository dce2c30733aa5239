use Rattle.std.proofs.Common.{refl}
use Rattle.hw_base.specs.Bytes.{byte_order}
use Rattle.ir_lib.proofs.examples.bytes_compare_in_order.Goals as goal

pub returns-clause-less : goal.returns-clause-less
unfolding byte_order
returns-clause-less c = refl

pub returns-clause-greater : goal.returns-clause-greater
unfolding byte_order
returns-clause-greater c = refl
