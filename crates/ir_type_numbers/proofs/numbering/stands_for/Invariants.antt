use Rattle.std.proofs.Common.{◌≡◌, map}
use Rattle.std.specs.List.{range_with_len}
use Rattle.ir_type_numbers.specs.Numbering.{led_to, far_leads, number_at}
use Rattle.ir_type_numbers.proofs.numbering.stands_for.Given as goal

abbrev pub invariant-loop-own : goal.invariant-loop-own
invariant-loop-own l = l.numbers.items ≡ map (λ n. led_to l.types n (number_at (far_leads l.leads) n)) (range_with_len 0 l.own)
