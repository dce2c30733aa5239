use Rattle.std.proofs.Common.{◌≡◌, ◌+◌, ap, arith}
use Rattle.rand_pcg.specs.Lcg.{Lcg}
use Rattle.hw_tags.specs.Word.{word, repeated, generated}
use Rattle.hw_tags.proofs.words.Source.new.Goals as goal

pub returns-in_ok-new-in-Cycle-clause-from_zero : goal.returns-in_ok-new-in-Cycle-clause-from_zero
unfolding word
returns-in_ok-new-in-Cycle-clause-from_zero c k =
    let start : c.in_ok-new-in-Cycle.field-0.at + k ≡ k = omega (arith, c.in_ok-new-in-Cycle.ensures.at) in
    rw (c.in-Cycle.is, c.in_ok-new-in-Cycle.ensures.list) (ap (repeated c.in-Cycle.list) start)

pub returns-in-Seed-clause-from_zero : goal.returns-in-Seed-clause-from_zero
unfolding word
returns-in-Seed-clause-from_zero c k = rw c.in-Seed.is (ap (λ (g : Lcg). generated g k) c.new-in-Seed.ensures)
