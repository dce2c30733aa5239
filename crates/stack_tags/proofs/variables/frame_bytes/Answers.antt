use Rattle.std.proofs.Common.{◌≡◌, ◌+◌, drop, arith}
use Rattle.hw_base.specs.AddressMap.{frame_size}
use Rattle.stack_tags.proofs.VariableLemmas.{bytes-more, bytes-done, frame_size-small, frame_size-count}
use Rattle.stack_tags.proofs.variables.frame_bytes.Goals as goal

bytes : (c : goal.After-rounded-sum) → (c.loop-k.sum + c.rounded-sum.result) + frame_size (drop (c.loop-k.k + 1) c.args.sizes.now) ≡ frame_size c.args.sizes.now
bytes c =
    rw c.rounded-sum.ensures.value (bytes-more c.args.sizes.now c.loop-k.k c.size_at.result c.loop-k.sum (frame_size c.args.sizes.now) c.size_at.ensures c.loop-k.invariant.to_come)

pub overflow_add-sum : goal.overflow_add-sum
overflow_add-sum c =
    let sum = bytes c in
    let small = frame_size-small c.args.sizes.now c.requires in
    let count = c.len-count.ensures in
    omega (arith, sum, small, count)

pub loop-k-preserved : goal.loop-k-preserved
loop-k-preserved c = record { inside = omega (arith, c.loop-k-test.true); to_come = bytes c }

pub returns-clause-value : goal.returns-clause-value
returns-clause-value c =
    let test = c.loop-k-test.false in
    let count = c.len-count.ensures in
    bytes-done c.args.sizes.now c.loop-k.k c.loop-k.sum (frame_size c.args.sizes.now) (omega (arith, test, count)) c.loop-k.invariant.to_come

pub returns-clause-count : goal.returns-clause-count
returns-clause-count c =
    let test = c.loop-k-test.false in
    let count = c.len-count.ensures in
    let value = bytes-done c.args.sizes.now c.loop-k.k c.loop-k.sum (frame_size c.args.sizes.now) (omega (arith, test, count)) c.loop-k.invariant.to_come in
    let least = frame_size-count c.args.sizes.now in
    omega (arith, value, least)
