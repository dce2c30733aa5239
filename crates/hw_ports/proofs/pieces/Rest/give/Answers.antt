use Rattle.std.proofs.Common.{sym, ◌∙◌}
use Rattle.hw_ports.proofs.FrontAndRest.{front_and_rest}
use Rattle.hw_ports.proofs.pieces.Rest.give.Goals as goal

pub returns-clause-bytes : goal.returns-clause-bytes
returns-clause-bytes c = sym c.self.view_is ∙ front_and_rest c.self.inside.bytes.items c.copy_front-count.new.into c.self.inside.at c.copy_front-count.result (rw c.deref.ensures.value at c.copy_front-count.ensures.bytes)
