use Rattle.std.proofs.Common.{arith, replicate}
use Rattle.tbi_memory.specs.AddressSpace.{with_bytes}
use Rattle.tbi_memory.proofs.StepLemmas.{filled-more, filled-done}
use Rattle.tbi_memory.proofs.memory.Memory.fill_each.Goals as goal

pub loop-i-preserved : goal.loop-i-preserved
loop-i-preserved c =
    record {
      inside = omega arith;
      to_come = filled-more c.loop-i.self c.set_byte.new.self (with_bytes c.args.self.now c.args.a (replicate c.args.n c.args.b)) c.args.a c.args.n c.loop-i.i c.args.b c.loop-i-test.true c.set_byte.ensures c.loop-i.invariant.to_come;
    }

pub returns : goal.returns
returns c = filled-done c.loop-i.self (with_bytes c.args.self.now c.args.a (replicate c.args.n c.args.b)) c.args.a c.args.n c.loop-i.i c.args.b c.loop-i-test.false c.loop-i.invariant.to_come
