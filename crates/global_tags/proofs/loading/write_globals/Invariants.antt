use Rattle.std.proofs.Common.{◌≡◌, drop}
use Rattle.global_tags.specs.GlobalBytes.{with_globals}
use Rattle.global_tags.proofs.loading.write_globals.Given as goal

abbrev pub invariant-loop-k : goal.invariant-loop-k
invariant-loop-k l =
    (l.descriptors ≡ l.fn.descriptors) × (l.globals ≡ l.fn.globals)
    × (with_globals l.descriptors l.mem (drop l.k l.descriptors) (drop l.k l.globals) ≡ with_globals l.descriptors l.fn.mem l.descriptors l.globals)
