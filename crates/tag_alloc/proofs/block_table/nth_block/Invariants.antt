use Rattle.std.proofs.Common.{◌≡◌, length}
use Rattle.std.specs.Prelude.{slice_get}
use Rattle.tag_alloc.specs.HeapTables.{blocks_of}
use Rattle.tag_alloc.proofs.block_table.nth_block.Given as goal

abbrev pub invariant-loop-rest : goal.invariant-loop-rest
invariant-loop-rest l = record {
  same : slice_get (blocks_of l.rest) l.left ≡ slice_get (blocks_of l.fn.entries) l.fn.i;
}

abbrev pub decreases-loop-rest : goal.decreases-loop-rest
decreases-loop-rest l = length l.rest
