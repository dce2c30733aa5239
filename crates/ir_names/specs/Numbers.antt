-- A counter as a number.
use Rattle.std.specs.Prelude.{ℕ, ◌+◌}
use Rattle.std.specs.Str.Parse.{digits_value}
use Rattle.ir_names.specs.declared.counter.Counter.{Counter}

-- the number of its digits, and so much more
abbrev pub counter_value : Counter → ℕ
counter_value counter = digits_value 10 counter.digits.now + counter.more
