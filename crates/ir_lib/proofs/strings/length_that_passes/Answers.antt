use Rattle.std.proofs.Common.{◌≡◌, ◌+◌, ◌≤◌, ℕ, sym, ◌∙◌, ap, Some, Ok, arith}
use Rattle.tbi_memory.specs.AddressSpace.{check}
use Rattle.ir_lib.proofs.AccessLemmas.{check-byte}
use Rattle.ir_lib.proofs.LengthLemmas.{passed-none, passes-each}
use Rattle.ir_lib.proofs.strings.length_that_passes.Goals as goal

pub returns-in-Ok-check : goal.returns-in-Ok-check
returns-in-Ok-check c = λ (len : ℕ) (is : Some c.in-Ok.len ≡ Some len).
    let m = c.args.mem.now in
    let at = c.args.at in
    let n = c.in-Ok.len in
    let same : n ≡ len = cc in
    let passes = passed-none (check m at (n + 1)) c.in-Ok-check.field-0 c.in-Ok-check.ensures in
    passes-each m n at c.ranges.at.fits c.in-Ok.ensures.inside (sym c.in-Ok.ensures.length)
    (λ (j : ℕ) (most : j ≤ n). check-byte m at (n + 1) j c.ranges.at.fits (omega (arith, c.in-Ok.ensures.inside)) (omega (arith, most)) passes)
    ∙ ap Ok same
