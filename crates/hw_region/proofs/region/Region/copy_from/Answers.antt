use Rattle.std.proofs.Common.{◌-◌, ◌+◌, ◌≤◌, ℕ, List, length, replicate, ap, sym, ◌∙◌, arith}
use Rattle.hw_region.specs.RegionBytes.{with_bytes_at}
use Rattle.hw_region.proofs.RegionLemmas.{written_append}
use Rattle.hw_region.proofs.region.Region.copy_from.Goals as goal

pub returns-clause-bytes : goal.returns-clause-bytes
returns-clause-bytes c =
    let run = c.kept_run-run.result.now in
    let zeros : List ℕ = replicate (c.args.len - length run) 0 in
    let inside : c.args.to + length run ≤ length c.args.self.now = omega arith in
    c.fill.ensures.bytes
    ∙ ap (λ (bytes : List ℕ). with_bytes_at bytes c.put_run-end.result zeros) c.put_run-end.ensures.bytes
    ∙ written_append c.args.self.now run zeros c.args.to c.put_run-end.result inside c.put_run-end.ensures.end
    ∙ ap (λ (bytes : List ℕ). with_bytes_at c.args.self.now c.args.to bytes) (sym c.kept_run-run.ensures.bytes)
