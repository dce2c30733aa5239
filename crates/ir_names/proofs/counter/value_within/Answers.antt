use Rattle.std.proofs.Common.{◌<◌, arith}
use Rattle.std.specs.Str.Parse.{digits_value_after}
use Rattle.ir_names.proofs.Digits.{past_limit}
use Rattle.ir_names.proofs.counter.value_within.Goals as goal

pub returns-then-longer-from : goal.returns-then-longer-from
returns-then-longer-from c =
    let i = c.loop-rest.invariant in
    let past : c.args.limit < digits_value_after 10 c.loop-rest.value c.loop-rest.rest.now = past_limit c.loop-rest.value c.args.limit c.loop-rest.rest.now (omega arith) i.decimal (omega arith) in
    let same = i.same in
    omega arith
