use Rattle.std.proofs.Common.{sym, ◌∙◌, ap}
use Rattle.ir_grammar.specs.Grammar.{read}
use Rattle.ir_grammar.specs.Spelled.{store_of}
use Rattle.ir_grammar.specs.Blocks.{block_parts}
use Rattle.ir_read_body.specs.Views.{with_ones}
use Rattle.ir_read_body.proofs.PartLists.{parts_more, parts_take}
use Rattle.ir_read_body.proofs.blocks.block_parts.Goals as goal

pub loop-reader-smaller : goal.loop-reader-smaller
loop-reader-smaller c = parts_take _ _ _ _ _ c.in_ok-next.ensures

pub loop-reader-preserved : goal.loop-reader-preserved
loop-reader-preserved c =
    (ap (λ v. with_ones v (read c.args.levels (block_parts c.args.entry) c.block_part.new.reader.rest.now (store_of c.block_part.new.reader.found))) c.in_ok-all.ensures
    ∙ sym (parts_more _ _ c.loop-reader.all.items _ _ _ (sym c.starts_part.ensures ∙ c.loop-reader-test.true) c.in_ok-next.ensures))
    ∙ c.loop-reader.invariant
