use Rattle.std.proofs.Common.{ℕ, replicate, ◌∙◌, ap, arith}
use Rattle.std.proofs.lemmas.List.{take-replicate}
use Rattle.hw_region.proofs.region.zeros.Goals as goal

pub returns : goal.returns
returns c =
    take-replicate c.min.result 64 0 (omega (arith, c.min.ensures)) ∙ ap (λ (n : ℕ). replicate {A = ℕ} n 0) c.min.ensures
