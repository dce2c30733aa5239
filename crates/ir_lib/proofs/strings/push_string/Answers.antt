use Rattle.std.proofs.Common.{◌≡◌, ℕ, List, ◌+◌, ◌++◌, length, length-append, take, ◌∙◌, ap, arith}
use Rattle.std.proofs.lemmas.List.{take-append-le}
use Rattle.ir_lib.specs.Strings.{string_at}
use Rattle.ir_lib.proofs.PushLemmas.{pushed, pushed-left, pushed-more, string-some}
use Rattle.ir_lib.proofs.strings.push_string.Goals as goal

pub loop-left-smaller : goal.loop-left-smaller
loop-left-smaller c =
    let some = string-some c.args.mem.now c.loop-left.place c.loop-left.left (length c.run_from-run.result.now) c.run_from-run.ensures.none c.loop-left.invariant.rest in
    omega (arith, some, c.min-count.ensures)

pub loop-left-preserved : goal.loop-left-preserved
loop-left-preserved c =
    let m = c.args.mem.now in
    let run = c.run_from-run.result.now in
    let place = c.loop-left.place in
    let k = c.min-count.result in
    let out : List ℕ = c.loop-left.out.items in
    let before = c.len-before.result in
    let added : c.extend_from_slice.new.self.items ≡ out ++ take k run = c.in-Ok.ensures.items in
    let longer : length (out ++ take k run) ≡ length out + length (take k run) = length-append out (take k run) in
    record {
      long = omega (arith, ap (λ (ys : List ℕ). length ys) added, longer, c.loop-left.invariant.long);
      kept = ap (take before) added ∙ take-append-le before out (take k run) c.loop-left.invariant.long ∙ c.loop-left.invariant.kept;
      rest = pushed-left m run place k c.loop-left.left (omega (arith, c.loop-left.auto.place-fits)) c.run_from-run.ensures.below (omega (arith, c.min-count.ensures)) (omega (arith, c.min-count.ensures)) c.run_from-run.ensures.bytes c.loop-left.invariant.rest;
      to_come = ap (pushed (string_at m (place + k))) added
          ∙ pushed-more m run place k c.loop-left.left (omega (arith, c.loop-left.auto.place-fits)) c.run_from-run.ensures.below (omega (arith, c.min-count.ensures)) (omega (arith, c.min-count.ensures)) c.run_from-run.ensures.bytes c.loop-left.invariant.rest out
          ∙ c.loop-left.invariant.to_come;
    }
