use Rattle.std.proofs.Common.{ℕ, arith, slice_get}
use Rattle.std.proofs.lemmas.List.FromFn.{map-range_with_len_more}
use Rattle.ir_type_numbers.specs.Numbering.{module_type}
use Rattle.ir_type_numbers.proofs.numbering.module_types.Goals as goal

pub loop-own-preserved : goal.loop-own-preserved
loop-own-preserved c =
    let own = c.loop-own.own in
    let f = λ (n : ℕ). module_type c.args.numbers.now n (slice_get c.args.types.now n) in
    let more = map-range_with_len_more f 0 own own (omega arith) in
    let here = c.entry.ensures in
    let pushed = c.in_ok-push.ensures.items in
    cc
