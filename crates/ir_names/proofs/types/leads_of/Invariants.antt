use Rattle.std.proofs.Common.{◌≡◌, ◌+◌, ◌++◌, length}
use Rattle.ir_names.specs.Meanings.{leads_from}
use Rattle.ir_names.proofs.types.leads_of.Given as goal

abbrev pub invariant-loop-rest : goal.invariant-loop-rest
invariant-loop-rest l = record {
  number : l.j + length l.rest ≡ length l.fn.types;
  leads : l.leads.items ++ leads_from l.source l.index l.items l.j l.rest ≡ leads_from l.source l.index l.items 0 l.fn.types;
}

abbrev pub decreases-loop-rest : goal.decreases-loop-rest
decreases-loop-rest l = length l.rest
