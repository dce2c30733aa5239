use Rattle.std.proofs.Common.{◌≡◌, ◌-◌, ◌∙◌, ◌++◌, ap, subst, sym, None, arith}
use Rattle.std.specs.Prelude.{replicate}
use Rattle.std.specs.Vec.{vec_len}
use Rattle.tag_alloc.specs.HeapTables.{AreAt, blocks_of}
use Rattle.tag_alloc.proofs.TableLemmas.{AreAt-more, blocks_of-more, resized}
use Rattle.tag_alloc.proofs.block_table.grow.Goals as goal
use Rattle.tag_alloc.proofs.block_table.grow.Goals.{After-unwrap}

grown : (c : After-unwrap) → c.resize.new.self.items ≡ c.args.entries.now.items ++ replicate (c.min.result - vec_len c.args.entries.now) None
grown c = resized c.resize.result c.min.result (c.min.result - vec_len c.args.entries.now) c.args.entries.now.items c.resize.new.self.items c.resize.ensures.items (c.resize.ensures.succeeds (omega arith)) (omega arith)

pub returns-clause-blocks : goal.returns-clause-blocks
returns-clause-blocks c = ap blocks_of (grown c) ∙ blocks_of-more (c.min.result - vec_len c.args.entries.now) c.args.entries.now.items

pub returns-clause-places : goal.returns-clause-places
returns-clause-places c low a =
    subst (AreAt low) (sym (grown c)) (AreAt-more (c.min.result - vec_len c.args.entries.now) low c.args.entries.now.items a)
