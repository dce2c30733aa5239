use Rattle.std.proofs.Common.{sym, ◌∙◌, ap}
use Rattle.ir_grammar.specs.Grammar.{read, with_front}
use Rattle.ir_grammar.specs.Spelled.{store_of}
use Rattle.ir_grammar.specs.Blocks.{later_blocks}
use Rattle.ir_read_body.proofs.BlockLists.{later_blocks_more, later_blocks_take}
use Rattle.ir_read_body.proofs.blocks.blocks_behind.Goals as goal

pub loop-reader-smaller : goal.loop-reader-smaller
loop-reader-smaller c = later_blocks_take _ _ _ _ c.in_ok-next.ensures

pub loop-reader-preserved : goal.loop-reader-preserved
loop-reader-preserved c =
    (ap (λ v. with_front v (read c.args.levels later_blocks c.block.new.reader.rest.now (store_of c.block.new.reader.found))) c.in_ok-push.ensures.items
    ∙ sym (later_blocks_more _ c.loop-reader.all.items _ _ _ (sym c.starts_block.ensures ∙ c.loop-reader-test.true) c.in_ok-next.ensures))
    ∙ c.loop-reader.invariant
