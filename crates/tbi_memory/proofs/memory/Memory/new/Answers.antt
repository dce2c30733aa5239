use Rattle.std.proofs.Common.{refl}
use Rattle.hw_base.specs.AddressMap.{program_map}
use Rattle.tbi_memory.proofs.StartLemmas.{space_of-zeros, zero_parts-in_order}
use Rattle.tbi_memory.proofs.memory.Memory.new.Goals as goal

pub invariant_of-result : goal.invariant_of-result
invariant_of-result c =
    zero_parts-in_order c.args.layout.now 16777216 c.in_ok-constants.constants c.in_ok-variables.variables c.in_ok-stacks.stacks c.in_ok-heap.heap
    c.in_ok-constants.ensures.zeros c.in_ok-variables.ensures.zeros c.in_ok-stacks.ensures.zeros c.in_ok-heap.ensures.zeros refl
    c.requires.constants_are_whole c.requires.variables_are_placed c.requires.variables_are_whole c.requires.heap_is_whole
    c.requires.constants_end c.requires.variables_end c.requires.heap_end

pub returns : goal.returns
unfolding program_map
returns c =
    record {
      start = space_of-zeros (program_map c.args.layout.now.heap) c.args.layout.now 16777216 c.in_ok-constants.constants c.in_ok-variables.variables c.in_ok-stacks.stacks c.in_ok-heap.heap
          c.in_ok-constants.ensures.zeros c.in_ok-variables.ensures.zeros c.in_ok-stacks.ensures.zeros c.in_ok-heap.ensures.zeros refl;
    }
