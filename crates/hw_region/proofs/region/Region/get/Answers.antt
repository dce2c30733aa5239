use Rattle.std.proofs.Common.{◌≡◌, ◌-◌, ◌*◌, ◌^◌, ◌≤◌, List, length, drop, ap, sym, ◌∙◌, ℕ, arith}
use Rattle.std.proofs.Math.Pow.{pow_mono}
use Rattle.hw_base.specs.Bytes.{le_number}
use Rattle.hw_region.proofs.ZeroLemmas.{number-past, length-zeros_after}
use Rattle.hw_region.specs.RegionBytes.{bytes_from, zeros_after}
use Rattle.hw_region.proofs.region.Region.get.Goals as goal

pub returns-else-end-kept-clause-number : goal.returns-else-end-kept-clause-number
returns-else-end-kept-clause-number c =
    let r = c.self.inside in
    let size : length (zeros_after r.bytes.items r.len) ≡ r.len = length-zeros_after r.bytes.items r.len c.self.invariant.0 in
    let seen : length (zeros_after r.bytes.items r.len) ≡ length c.args.self.now = ap (λ (bytes : List ℕ). length bytes) c.self.view_is in
    c.number_past.ensures.number
    ∙ ap (λ (bytes : List ℕ). le_number (drop c.args.at bytes)) c.as_slice-kept.ensures.value
    ∙ sym (number-past r.bytes.items c.args.at c.args.n r.len (omega arith) (omega (arith, size, seen)) c.self.invariant.0)
    ∙ ap (λ (bytes : List ℕ). le_number (bytes_from bytes c.args.at c.args.n)) c.self.view_is

pub returns-else-end-kept-clause-below : goal.returns-else-end-kept-clause-below
returns-else-end-kept-clause-below c =
    let most : 2 ^ (8 * (length c.as_slice-kept.result.now - c.args.at)) ≤ 2 ^ (8 * c.args.n) = pow_mono (omega arith) in
    omega (arith, most, c.number_past.ensures.below)
