use Rattle.std.proofs.Common.{arith, rules}
use Rattle.hw_region.proofs.NumberLemmas.{written_more, written_all}
use Rattle.hw_region.proofs.region.write_number.Goals as goal

pub loop-i-preserved : goal.loop-i-preserved
loop-i-preserved c =
    (search rules, search rules, written_more c.loop-i.bytes _ c.loop-i.i c.loop-i.rest c.args.v c.loop-i.invariant.1 (omega arith) c.loop-i.invariant.2)

pub returns : goal.returns
returns c = written_all c.loop-i.bytes _ c.loop-i.i c.loop-i.rest c.args.v c.loop-i.invariant.1 (omega arith) c.loop-i.invariant.2
