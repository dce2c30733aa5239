use Rattle.std.proofs.Common.{◌≡◌, ◌≤◌, min, drop}
use Rattle.std.specs.Str.Parse.{digits_value_after}
use Rattle.ir_grammar.specs.KindOf.{greatest, number_of}
use Rattle.ir_grammar.proofs.kind_of.number_of.Given as goal

abbrev pub invariant-loop-digit : goal.invariant-loop-digit
invariant-loop-digit l = record {
  fits : l.number ≤ greatest;
  value : min (digits_value_after 10 l.number (drop l.digit-index l.digits)) greatest ≡ number_of l.digits;
}
