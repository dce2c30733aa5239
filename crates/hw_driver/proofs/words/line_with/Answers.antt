use Rattle.std.proofs.Common.{refl}
use Rattle.hw_driver.proofs.words.line_with.Goals as goal

pub invariant_of-result : goal.invariant_of-result
invariant_of-result c = record { in_range = c.in_ok-given.ensures.range c.in_ok-given.given refl }
