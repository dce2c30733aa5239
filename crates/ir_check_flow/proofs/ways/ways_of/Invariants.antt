use Rattle.std.proofs.Common.{◌≡◌, map, take}
use Rattle.ir_check_flow.specs.Spreading.{lists_of}
use Rattle.ir_check_flow.specs.Ways.{block_targets}
use Rattle.ir_check_flow.proofs.ways.ways_of.Given as goal

abbrev pub invariant-loop-block : goal.invariant-loop-block
invariant-loop-block l = lists_of l.ways.items ≡ map (block_targets l.f.insts) (take l.block-index l.f.blocks)
