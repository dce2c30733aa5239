use Rattle.std.proofs.Common.{◌≡◌, ◌≤◌, true, length}
use Rattle.std.specs.Str.Parse.{digits_value, digits_value_after}
use Rattle.ir_names.specs.Faults.{is_number}
use Rattle.ir_names.proofs.counter.value_within.Given as goal

abbrev pub invariant-loop-rest : goal.invariant-loop-rest
invariant-loop-rest l = record {
  within : l.value ≤ l.limit;
  decimal : is_number l.rest ≡ true;
  same : digits_value_after 10 l.value l.rest ≡ digits_value 10 l.fn.digits;
}

abbrev pub decreases-loop-rest : goal.decreases-loop-rest
decreases-loop-rest l = length l.rest
