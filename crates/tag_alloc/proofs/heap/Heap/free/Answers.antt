use Rattle.std.proofs.Common.{◌∙◌, ap}
use Rattle.tag_alloc.proofs.HeapLemmas.{ok_found, to_free-living}
use Rattle.tag_alloc.proofs.heap.Heap.free.Goals as goal

pub end_block-requires-clause-living : goal.end_block-requires-clause-living
end_block-requires-clause-living c =
    to_free-living c.args.self.now.state c.args.number c.in-Ok-Some.block c.to_free.result c.to_free.ensures (c.in-Ok-Some.is ∙ ap ok_found c.in-Ok-Some.field-0-is)
