use Rattle.std.proofs.Common.{sym, ◌∙◌, length, arith}
use Rattle.hw_base.specs.TaggedAddress.{address_of}
use Rattle.ir_lib.proofs.CompareLemmas.{compared-none, different, not-different, some-bytes, step-mapped, step-found, step-more}
use Rattle.ir_lib.proofs.bytes.order_of.Goals as goal

pub returns-then-is_ne : goal.returns-then-is_ne
returns-then-is_ne c =
    let ranges = c.args.mem.now.bytes in
    let first = c.loop-left.first in
    let second = c.loop-left.second in
    c.loop-left.invariant.to_come
    ∙ step-found ranges first second c.min-count.result c.loop-left.left c.run_from-xs.result.now c.run_from-ys.result.now c.order_of_runs-order.result
    (omega (arith, c.min-count.ensures)) (omega (arith, c.min-count.ensures, c.min.ensures)) (omega (arith, c.min-count.ensures, c.min.ensures))
    c.run_from-xs.ensures.bytes c.run_from-ys.ensures.bytes c.loop-left.invariant.first_is_mapped c.loop-left.invariant.second_is_mapped c.order_of_runs-order.ensures
    (different c.order_of_runs-order.result (sym c.is_ne.ensures ∙ c.if-is_ne.true))

pub loop-left-smaller : goal.loop-left-smaller
loop-left-smaller c =
    let ranges = c.args.mem.now.bytes in
    let some_first = some-bytes ranges (address_of c.loop-left.first) c.loop-left.left (length c.run_from-xs.result.now) c.run_from-xs.ensures.none c.loop-left.invariant.first_is_mapped c.loop-left-test.true in
    let some_second = some-bytes ranges (address_of c.loop-left.second) c.loop-left.left (length c.run_from-ys.result.now) c.run_from-ys.ensures.none c.loop-left.invariant.second_is_mapped c.loop-left-test.true in
    omega (arith, some_first, some_second, c.min-count.ensures, c.min.ensures)

pub loop-left-preserved : goal.loop-left-preserved
loop-left-preserved c =
    let ranges = c.args.mem.now.bytes in
    let first = c.loop-left.first in
    let second = c.loop-left.second in
    let k = c.min-count.result in
    let equal = not-different c.order_of_runs-order.result (sym c.is_ne.ensures ∙ c.if-is_ne.false) in
    record {
      first_is_mapped = step-mapped ranges first k c.loop-left.left c.run_from-xs.result.now (omega (arith, c.loop-left.auto.first-fits)) c.run_from-xs.ensures.below
          (omega (arith, c.min-count.ensures)) (omega (arith, c.min-count.ensures, c.min.ensures)) c.run_from-xs.ensures.bytes c.loop-left.invariant.first_is_mapped;
      second_is_mapped = step-mapped ranges second k c.loop-left.left c.run_from-ys.result.now (omega (arith, c.loop-left.auto.second-fits)) c.run_from-ys.ensures.below
          (omega (arith, c.min-count.ensures)) (omega (arith, c.min-count.ensures, c.min.ensures)) c.run_from-ys.ensures.bytes c.loop-left.invariant.second_is_mapped;
      to_come = c.loop-left.invariant.to_come
          ∙ step-more ranges first second k c.loop-left.left c.run_from-xs.result.now c.run_from-ys.result.now c.order_of_runs-order.result
          (omega (arith, c.min-count.ensures)) (omega (arith, c.min-count.ensures, c.min.ensures)) (omega (arith, c.min-count.ensures, c.min.ensures))
          c.run_from-xs.ensures.bytes c.run_from-ys.ensures.bytes c.loop-left.invariant.first_is_mapped c.loop-left.invariant.second_is_mapped c.order_of_runs-order.ensures
          (omega (arith, c.loop-left.auto.first-fits)) (omega (arith, c.loop-left.auto.second-fits)) c.run_from-xs.ensures.below c.run_from-ys.ensures.below equal;
    }

pub returns : goal.returns
returns c =
    c.loop-left.invariant.to_come
    ∙ compared-none c.args.mem.now.bytes (address_of c.loop-left.first) (address_of c.loop-left.second) c.loop-left.left c.loop-left-test.false
