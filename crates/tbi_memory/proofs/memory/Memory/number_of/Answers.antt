use Rattle.std.proofs.Common.{arith}
use Rattle.tbi_memory.proofs.RunLemmas.{number-none, number-more, below-none, below-more, below-most, below-all}
use Rattle.tbi_memory.proofs.memory.Memory.number_of.Goals as goal

pub loop-i-init : goal.loop-i-init
loop-i-init c =
    record {
      inside = omega arith;
      spelled = number-none c.args.self.now.bytes c.args.a c.args.n;
      below = below-none c.args.n;
    }

pub overflow_mul-value : goal.overflow_mul-value
overflow_mul-value c =
    omega (arith, below-most c.args.n c.loop-i.i c.loop-i.value 0 (omega arith) (omega arith) (omega arith) (omega arith) c.loop-i.invariant.below)

pub overflow_add-value : goal.overflow_add-value
overflow_add-value c =
    omega (arith, below-most c.args.n c.loop-i.i c.loop-i.value c.byte_or_zero.result (omega arith) (omega arith) (omega arith) (omega arith) c.loop-i.invariant.below)

pub loop-i-preserved : goal.loop-i-preserved
loop-i-preserved c =
    record {
      inside = omega arith;
      spelled = number-more c.args.self.now.bytes c.args.a c.args.n c.loop-i.i c.byte_or_zero.result c.loop-i.value (omega arith) (omega arith) c.byte_or_zero.ensures c.loop-i.invariant.spelled;
      below = below-more c.args.n c.loop-i.i c.loop-i.value c.byte_or_zero.result (omega arith) (omega arith) (omega arith) c.loop-i.invariant.below;
    }

pub returns-clause-below : goal.returns-clause-below
returns-clause-below c = below-all c.args.n c.loop-i.i c.loop-i.value (omega arith) c.loop-i.invariant.below
