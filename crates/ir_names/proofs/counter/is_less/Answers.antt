use Rattle.std.proofs.Common.{◌+◌, ◌-◌, ◌*◌, get_or, arith, sym, ◌∙◌}
use Rattle.ir_names.proofs.Digits.{step_less, step_more, step_same, rest_decimal, rest_lengths}
use Rattle.ir_names.proofs.counter.is_less.Goals as goal

pub returns-then-longer-taken : goal.returns-then-longer-taken
returns-then-longer-taken c =
    let i = c.loop-rest.invariant in
    sym (step_less c.loop-rest.above c.args.more c.loop-rest.rest.now c.loop-rest.others_rest.now (omega arith) i.same_length i.decimal i.decimal_others (omega arith)) ∙ i.same

pub returns-then-longer-taken-2 : goal.returns-then-longer-taken-2
returns-then-longer-taken-2 c =
    let i = c.loop-rest.invariant in
    sym (step_more c.loop-rest.above (c.loop-rest.above * 10 + (get_or c.loop-rest.rest.now 0 0 - 48) - (get_or c.loop-rest.others_rest.now 0 0 - 48)) c.args.more c.loop-rest.rest.now c.loop-rest.others_rest.now (omega arith) i.same_length i.decimal i.decimal_others (omega arith) (omega arith)) ∙ i.same

pub loop-rest-preserved : goal.loop-rest-preserved
loop-rest-preserved c =
    let i = c.loop-rest.invariant in
    record {
      within = omega arith;
      same_length = rest_lengths c.loop-rest.rest.now c.loop-rest.others_rest.now i.same_length;
      decimal = rest_decimal c.loop-rest.rest.now (omega arith) i.decimal;
      decimal_others = rest_decimal c.loop-rest.others_rest.now (omega arith) i.decimal_others;
      same = step_same c.loop-rest.above _ c.args.more c.loop-rest.rest.now c.loop-rest.others_rest.now (omega arith) i.same_length i.decimal i.decimal_others (omega arith) ∙ i.same;
    }
