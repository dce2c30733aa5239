use Rattle.tag_alloc.proofs.HeapLemmas.{KeepAtMost-pushed}
use Rattle.tag_alloc.proofs.heap.Heap.add_task.Goals as goal

pub invariant_of-self : goal.invariant_of-self
invariant_of-self c =
    let h = c.self.inside in
    (c.self.invariant.0, KeepAtMost-pushed c.push.result h.ring c.in-Ok.ring h.rings.items c.push.new.self.items c.push.ensures.items c.in-Ok.ensures.size c.self.invariant.1, c.self.invariant.2)
