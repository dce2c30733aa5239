use Rattle.std.proofs.Common.{arith, rules, length, slice_index_or, Fits, w8, ◌<◌, ◌+◌, ◌*◌, ◌^◌, ◌-◌}
use Rattle.hw_region.proofs.NumberLemmas.{spelled_none, below_none, spelled_more, below_more, below_128, below_bits}
use Rattle.hw_region.proofs.region.number_of.Goals as goal

pub loop-i-init : goal.loop-i-init
loop-i-init c = (search rules, spelled_none c.args.bytes.now, below_none (length c.args.bytes.now))

pub overflow_mul-value : goal.overflow_mul-value
overflow_mul-value c =
    let most : c.loop-i.value * 256 + 0 < 2 ^ 128 =
    below_128 (length c.args.bytes.now - (c.loop-i.i - 1)) (c.loop-i.value * 256 + 0) (omega arith)
    (below_more (length c.args.bytes.now) c.loop-i.i c.loop-i.value 0 (omega arith) (omega arith) (omega arith) c.loop-i.invariant.2) in
    omega (arith, most)

pub overflow_add-value : goal.overflow_add-value
overflow_add-value c =
    let byte : slice_index_or c.args.bytes.now (c.loop-i.i - 1) 0 < 256 = (let fits : Fits w8 (slice_index_or c.args.bytes.now (c.loop-i.i - 1) 0) = c.type_inv.bytes (c.loop-i.i - 1) in omega (arith, fits)) in
    let most : c.loop-i.value * 256 + slice_index_or c.args.bytes.now (c.loop-i.i - 1) 0 < 2 ^ 128 =
    below_128 (length c.args.bytes.now - (c.loop-i.i - 1)) _ (omega arith)
    (below_more (length c.args.bytes.now) c.loop-i.i c.loop-i.value (slice_index_or c.args.bytes.now (c.loop-i.i - 1) 0) (omega arith) (omega arith) byte c.loop-i.invariant.2) in
    omega (arith, most)

pub loop-i-preserved : goal.loop-i-preserved
loop-i-preserved c =
    let byte : slice_index_or c.args.bytes.now (c.loop-i.i - 1) 0 < 256 = (let fits : Fits w8 (slice_index_or c.args.bytes.now (c.loop-i.i - 1) 0) = c.type_inv.bytes (c.loop-i.i - 1) in omega (arith, fits)) in (
      search rules,
      spelled_more c.args.bytes.now c.loop-i.i c.loop-i.value (omega arith) (omega arith) c.loop-i.invariant.1,
      below_more (length c.args.bytes.now) c.loop-i.i c.loop-i.value (slice_index_or c.args.bytes.now (c.loop-i.i - 1) 0) (omega arith) (omega arith) byte c.loop-i.invariant.2,
    )

pub returns-clause-below : goal.returns-clause-below
returns-clause-below c = below_bits (length c.args.bytes.now) c.loop-i.i c.loop-i.value (omega arith) c.loop-i.invariant.2
