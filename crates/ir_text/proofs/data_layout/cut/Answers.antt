use Rattle.std.proofs.Common.{arith}
use Rattle.std.proofs.lemmas.List.{take_rest}
use Rattle.ir_text.proofs.Cuts.{cut_there, cut_nowhere}
use Rattle.ir_text.proofs.data_layout.cut.Goals as goal

pub returns-then-b-at : goal.returns-then-b-at
returns-then-b-at c =
    rw take_rest (cut_there c.args.at c.args.bytes.now c.loop-i.i c.loop-i-test.true c.loop-i.invariant c.if-b-at.true)

pub returns : goal.returns
returns c = cut_nowhere c.args.at c.args.bytes.now (λ k lt. c.loop-i.invariant k (omega arith))
