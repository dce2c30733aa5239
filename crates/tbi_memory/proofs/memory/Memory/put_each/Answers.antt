use Rattle.std.proofs.Common.{arith}
use Rattle.hw_base.specs.Bytes.{le_bytes}
use Rattle.tbi_memory.specs.AddressSpace.{with_bytes}
use Rattle.tbi_memory.proofs.StepLemmas.{with_bytes-more, with_bytes-done}
use Rattle.tbi_memory.proofs.memory.Memory.put_each.Goals as goal

pub loop-i-preserved : goal.loop-i-preserved
loop-i-preserved c =
    record {
      inside = omega arith;
      to_come = with_bytes-more c.loop-i.self c.set_byte.new.self (with_bytes c.args.self.now c.args.a (le_bytes c.args.n c.args.x)) c.args.a c.args.n c.loop-i.i c.loop-i.rest c.loop-i-test.true c.set_byte.ensures c.loop-i.invariant.to_come;
    }

pub returns : goal.returns
returns c = with_bytes-done c.loop-i.self (with_bytes c.args.self.now c.args.a (le_bytes c.args.n c.args.x)) c.args.a c.args.n c.loop-i.i c.loop-i.rest c.loop-i-test.false c.loop-i.invariant.to_come
