use Rattle.tag_alloc.proofs.HeapLemmas.{KeepAtMost-set, kept_of-set}
use Rattle.tag_alloc.proofs.heap.remember.Goals as goal

pub returns-clause-kept : goal.returns-clause-kept
returns-clause-kept c ring keep =
    kept_of-set ring c.args.task c.args.freed c.args.rings.now.items c.index_mut.result.now c.push.new.self c.requires c.index_mut.ensures.value c.push.ensures.kept keep

pub returns-clause-rings : goal.returns-clause-rings
returns-clause-rings c ring keep =
    KeepAtMost-set ring c.args.task c.args.rings.now.items c.index_mut.result.now c.push.new.self c.requires c.index_mut.ensures.value c.push.ensures.size keep
