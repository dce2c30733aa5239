use Rattle.std.proofs.Common.{◌≡◌, take}
use Rattle.global_tags.specs.Sums.{taken_by}
use Rattle.global_tags.proofs.places.taken_by.Given as goal

abbrev pub invariant-loop-global : goal.invariant-loop-global
invariant-loop-global l = l.taken ≡ taken_by l.layouts (take l.global-index l.globals)
