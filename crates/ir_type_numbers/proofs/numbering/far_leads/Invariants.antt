use Rattle.std.proofs.Common.{◌≡◌}
use Rattle.ir_type_numbers.specs.Numbering.{leads_within}
use Rattle.ir_type_numbers.proofs.numbering.far_leads.Given as goal

abbrev pub invariant-loop : goal.invariant-loop
invariant-loop l = l.far.items ≡ leads_within l.counter l.leads
