use Rattle.std.proofs.Common.{sym, ◌∙◌, ap, ◌+◌, ◌-◌, length, ℕ, arith}
use Rattle.std.specs.Prelude.{Err}
use Rattle.tbi_memory.specs.declared.mem_fault.MemFault.TheVariants.{Unmapped}
use Rattle.ir_lib.specs.Calls.{length_of}
use Rattle.ir_lib.specs.Strings.{string_at}
use Rattle.ir_lib.proofs.LengthLemmas.{longer, next-address_of, length-unmapped, length-found, length-run, no-zero, at-zero, is_empty-length, more-later}
use Rattle.ir_lib.proofs.strings.length.Goals as goal

pub returns-then-is_empty-clause-length : goal.returns-then-is_empty-clause-length
returns-then-is_empty-clause-length c =
    let m = c.args.mem.now in
    let place = c.loop-run.place in
    let empty = is_empty-length c.is_empty.result (length c.run_from-run.result.now) c.is_empty.ensures c.if-is_empty.true in
    ap (λ (a : ℕ). Err (Unmapped a)) c.address.ensures
    ∙ sym (c.loop-run.invariant.to_come ∙ ap (longer (place - c.args.at)) (length-unmapped m place (c.run_from-run.ensures.none empty)))

pub returns-in-Some-clause-length : goal.returns-in-Some-clause-length
returns-in-Some-clause-length c =
    let m = c.args.mem.now in
    let place = c.loop-run.place in
    let run = c.run_from-run.result.now in
    let (first, here) = c.in-Some.ensures in
    sym
    (c.loop-run.invariant.to_come
    ∙ ap (longer (place - c.args.at))
    (length-found m run place c.in-Some.i (omega (arith, c.loop-run.auto.place-fits)) c.run_from-run.ensures.below c.run_from-run.ensures.bytes first.high (at-zero run c.in-Some.i here)
    (no-zero run c.in-Some.i first.before)))

pub loop-run-preserved : goal.loop-run-preserved
loop-run-preserved c =
    let m = c.args.mem.now in
    let place = c.loop-run.place in
    let run = c.run_from-run.result.now in
    let moved = next-address_of place (length run) (omega (arith, c.loop-run.auto.place-fits)) c.run_from-run.ensures.below in
    record {
      from = omega arith;
      moved = omega (arith, moved, c.loop-run.invariant.moved, c.loop-run.invariant.from);
      to_come = more-later (length_of (string_at m c.args.at)) (length_of (string_at m place)) c.args.at place (length run) (length_of (string_at m (c.loop-run.place + length run))) c.loop-run.invariant.from c.loop-run.invariant.to_come
          (length-run m run place (omega (arith, c.loop-run.auto.place-fits)) c.run_from-run.ensures.below c.run_from-run.ensures.bytes (no-zero run (length run) c.in-None.ensures));
    }
