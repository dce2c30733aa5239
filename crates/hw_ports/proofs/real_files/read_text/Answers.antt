use Rattle.std.proofs.Common.{arith}
use Rattle.hw_ports.proofs.TakenText.{taken_whole}
use Rattle.hw_ports.proofs.real_files.read_text.Goals as goal

pub returns-else-len-limit : goal.returns-else-len-limit
returns-else-len-limit g c =
    taken_whole (g.R.Read.remaining c.args.reader) c.args.limit c.take.result.limit c.args.into.now.items _ (omega arith) c.requires
    (rw c.take.ensures.inner at c.in_ok-read_to_end.ensures.bytes) (omega arith) (omega arith)
