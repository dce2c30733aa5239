use Rattle.std.proofs.Common.{◌≡◌, sym, ◌∙◌, ap, ◌+◌, ◌-◌, length, get_or, ℕ, arith}
use Rattle.std.specs.Prelude.{Ok, Err}
use Rattle.hw_shadow.specs.declared.mismatch.Mismatch.TheVariants.{Unmapped}
use Rattle.tbi_memory.specs.AddressSpace.{check}
use Rattle.hw_base.specs.TaggedAddress.{address_of}
use Rattle.ir_lib.specs.Calls.{length_of}
use Rattle.ir_lib.specs.Strings.{checked_string}
use Rattle.ir_lib.proofs.LengthLemmas.{longer, read-first, checked-refused, checked-unmapped, checked-end, checked-more, is_empty-length, is_empty-some, passed-none, passed-some, more-later}
use Rattle.ir_lib.proofs.strings.check_each.Goals as goal

pub returns-in-Err : goal.returns-in-Err
returns-in-Err c =
    let m = c.args.mem.now in
    let place = c.loop-found.place in
    sym (c.loop-found.invariant.to_come ∙ ap (longer (place - c.args.at)) (checked-refused m place c.in-Err.found (passed-some (check m place 1) c.in-Err.found c.in-Err.ensures)))

pub returns-then-is_empty : goal.returns-then-is_empty
returns-then-is_empty c =
    let m = c.args.mem.now in
    let place = c.loop-found.place in
    let empty = is_empty-length c.is_empty.result (length c.run_from-run.result.now) c.is_empty.ensures c.if-is_empty.true in
    let passes = passed-none (check m place 1) c.in-Ok.field-0 c.in-Ok.ensures in
    ap (λ (a : ℕ). Err (record { at = place; found = Unmapped a })) c.address.ensures
    ∙ sym (c.loop-found.invariant.to_come ∙ ap (longer (place - c.args.at)) (checked-unmapped m place passes (c.run_from-run.ensures.none empty)))

pub returns-then-run-eq0 : goal.returns-then-run-eq0
returns-then-run-eq0 c =
    let m = c.args.mem.now in
    let place = c.loop-found.place in
    let run = c.run_from-run.result.now in
    let some = is_empty-some c.is_empty.result (length run) c.is_empty.ensures c.if-is_empty.false in
    let passes = passed-none (check m place 1) c.in-Ok.field-0 c.in-Ok.ensures in
    let count : place - c.args.at ≡ place - c.args.at + 0 = omega arith in
    ap Ok count
    ∙ sym
    (c.loop-found.invariant.to_come
    ∙ ap (longer (place - c.args.at)) (checked-end m place (get_or run 0 0) passes (read-first m.bytes (address_of place) run some c.run_from-run.ensures.bytes) c.if-run-eq0.true))

pub loop-found-preserved : goal.loop-found-preserved
loop-found-preserved c =
    let m = c.args.mem.now in
    let place = c.loop-found.place in
    let run = c.run_from-run.result.now in
    let some = is_empty-some c.is_empty.result (length run) c.is_empty.ensures c.if-is_empty.false in
    let passes = passed-none (check m place 1) c.in-Ok.field-0 c.in-Ok.ensures in
    record {
      from = omega arith;
      to_come = more-later (length_of (checked_string m c.args.at)) (length_of (checked_string m place)) c.args.at place 1 (length_of (checked_string m (place + 1))) c.loop-found.invariant.from c.loop-found.invariant.to_come
          (checked-more m place (get_or run 0 0) (omega (arith, c.loop-found.auto.place-fits)) (omega (arith, some, c.run_from-run.ensures.below)) passes (read-first m.bytes (address_of place) run some c.run_from-run.ensures.bytes) c.if-run-eq0.false);
    }
