use Rattle.std.proofs.Common.{◌≡◌}
use Rattle.std.specs.Prelude.{replicate, Err}
use Rattle.std.proofs.lemmas.List.{length-replicate}
use Rattle.tbi_memory.specs.declared.mem_fault.MemFault.{MemFault}
use Rattle.tbi_memory.proofs.SpaceLemmas.{written-some}
use Rattle.ir_lib.proofs.bytes.set.Goals as goal

pub returns-clause-err : goal.returns-clause-err
returns-clause-err c = λ (fault : MemFault) (is : c.fill.result ≡ Err fault). (
  written-some c.args.mem.now c.args.at c.args.n (replicate c.args.n c.args.b) fault (length-replicate c.args.n c.args.b) (c.fill.ensures.err fault is).0,
  (c.fill.ensures.err fault is).1,
)
