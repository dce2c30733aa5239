use Rattle.std.proofs.Common.{◌≡◌, get_or, sym, arith}
use Rattle.std.proofs.lemmas.Option.{slice_get-get_or, slice_get_within}
use Rattle.ir_core.specs.declared.ir_module.Block.{Block}
use Rattle.tag_insert.proofs.CodePlaces.{block_holding-at, end_before-more}
use Rattle.tag_insert.proofs.places.block_holding.Goals as goal

pub returns-then-i-block-clause-number : goal.returns-then-i-block-clause-number
returns-then-i-block-clause-number c =
    let zero_block : Block = record { first = 0; phis = 0; count = 0 } in
    let there = slice_get-get_or c.args.blocks.now c.loop-number.number zero_block c.loop-number-test.true in
    sym (block_holding-at c.args.blocks.now c.loop-number.number c.args.i c.loop-number.invariant.within c.loop-number.invariant.before
    (λ block found. let same : get_or c.args.blocks.now c.loop-number.number zero_block ≡ block = cc in rw (← same) c.if-i-block.true))

pub loop-number-preserved : goal.loop-number-preserved
loop-number-preserved c =
    let zero_block : Block = record { first = 0; phis = 0; count = 0 } in
    let there = slice_get-get_or c.args.blocks.now c.loop-number.number zero_block c.loop-number-test.true in
    record {
      within = omega arith;
      before = end_before-more c.args.blocks.now c.loop-number.number c.args.i (get_or c.args.blocks.now c.loop-number.number zero_block)
          c.loop-number.invariant.before there c.if-i-block.false;
    }

pub returns-clause-number : goal.returns-clause-number
returns-clause-number c =
    sym (block_holding-at c.args.blocks.now c.loop-number.number c.args.i c.loop-number.invariant.within c.loop-number.invariant.before
    (λ block found. let inside = slice_get_within c.args.blocks.now c.loop-number.number block found in absurd (omega arith)))
