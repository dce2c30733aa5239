use Rattle.std.proofs.Common.{arith}
use Rattle.hw_holes.proofs.RangeLemmas.{joined-set-at}
use Rattle.hw_holes.proofs.ranges.put_joined.Goals as goal

pub returns-then-index-to-clause-items : goal.returns-then-index-to-clause-items
returns-then-index-to-clause-items c =
    joined-set-at c.args.ranges.now.items c.args.place c.args.from c.args.to c.index-then-index-to.result.now c.index.result.now
    (omega arith) c.index-then-index-to.ensures c.index.ensures c.if-index-to.true
