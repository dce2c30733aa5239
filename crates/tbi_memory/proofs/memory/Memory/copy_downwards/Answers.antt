use Rattle.std.proofs.Common.{arith}
use Rattle.tbi_memory.specs.AddressSpace.{with_bytes}
use Rattle.tbi_memory.specs.MemoryParts.{bytes_or_zeros}
use Rattle.tbi_memory.proofs.MoveLemmas.{downwards-more, downwards-done}
use Rattle.tbi_memory.proofs.memory.Memory.copy_downwards.Goals as goal

pub loop-i-preserved : goal.loop-i-preserved
loop-i-preserved c =
    record {
      inside = omega arith;
      to_come = downwards-more c.loop-i.self c.set_byte.new.self (with_bytes c.args.self.now c.args.to (bytes_or_zeros c.args.self.now.bytes c.args.from c.args.n)) c.args.to c.args.from c.loop-i.i c.byte_or_zero-byte.result c.requires.higher c.loop-i-test.true c.byte_or_zero-byte.ensures c.set_byte.ensures c.loop-i.invariant.to_come;
    }

pub returns : goal.returns
returns c = downwards-done c.loop-i.self (with_bytes c.args.self.now c.args.to (bytes_or_zeros c.args.self.now.bytes c.args.from c.args.n)) c.args.to c.args.from c.loop-i.i c.loop-i-test.false c.loop-i.invariant.to_come
