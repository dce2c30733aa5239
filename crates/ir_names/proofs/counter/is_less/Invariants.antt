use Rattle.std.proofs.Common.{◌≡◌, ◌≤◌, ◌+◌, true, length, ltb}
use Rattle.std.specs.Str.Parse.{digits_value, digits_value_after}
use Rattle.ir_names.specs.Faults.{is_number}
use Rattle.ir_names.proofs.counter.is_less.Given as goal

abbrev pub invariant-loop-rest : goal.invariant-loop-rest
invariant-loop-rest l = record {
  within : l.above ≤ l.more;
  same_length : length l.rest ≡ length l.others_rest;
  decimal : is_number l.rest ≡ true;
  decimal_others : is_number l.others_rest ≡ true;
  same : ltb (digits_value_after 10 l.above l.rest) (digits_value 10 l.others_rest + l.more) ≡ ltb (digits_value_after 10 l.lead l.fn.digits) (digits_value 10 l.fn.others + l.more);
}

abbrev pub decreases-loop-rest : goal.decreases-loop-rest
decreases-loop-rest l = length l.rest
