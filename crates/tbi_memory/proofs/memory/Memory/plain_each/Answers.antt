use Rattle.std.proofs.Common.{arith, replicate}
use Rattle.tbi_memory.specs.MemoryParts.{with_tags}
use Rattle.tbi_memory.proofs.StepLemmas.{with_tags-more, with_tags-done}
use Rattle.tbi_memory.proofs.memory.Memory.plain_each.Goals as goal

pub loop-i-preserved : goal.loop-i-preserved
loop-i-preserved c =
    record {
      inside = omega arith;
      to_come = with_tags-more c.loop-i.self c.set_tag.new.self (with_tags c.args.self.now c.args.first (replicate c.args.count c.args.tag)) c.args.first c.args.count c.loop-i.i c.args.tag c.loop-i-test.true c.set_tag.ensures c.loop-i.invariant.to_come;
    }

pub returns : goal.returns
returns c = with_tags-done c.loop-i.self (with_tags c.args.self.now c.args.first (replicate c.args.count c.args.tag)) c.args.first c.args.count c.loop-i.i c.args.tag c.loop-i-test.false c.loop-i.invariant.to_come
