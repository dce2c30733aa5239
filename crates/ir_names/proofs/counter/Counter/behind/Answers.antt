use Rattle.std.proofs.Common.{ap, ◌+◌, ◌∙◌}
use Rattle.std.specs.Str.Parse.{digits_value}
use Rattle.ir_names.specs.Faults.{is_number}
use Rattle.ir_names.proofs.Digits.{significant_decimal, significant_value}
use Rattle.ir_names.proofs.counter.Counter.behind.Goals as goal

pub invariant_of-result : goal.invariant_of-result
invariant_of-result c = record { decimal = ap is_number c.significant.ensures ∙ significant_decimal c.args.digits.now c.requires }

pub returns-clause-value : goal.returns-clause-value
returns-clause-value c = ap (λ ds. digits_value 10 ds + 1) c.significant.ensures ∙ ap (λ n. n + 1) (significant_value c.args.digits.now)
