use Rattle.std.proofs.Common.{◌≡◌, length}
use Rattle.ir_body_names.specs.Counters.{is_less_behind, is_less}
use Rattle.ir_body_names.proofs.counters.is_less.Given as goal

abbrev pub invariant-loop-rest : goal.invariant-loop-rest
invariant-loop-rest l = is_less_behind l.before l.rest l.others_rest ≡ is_less l.fn.digits l.fn.others

abbrev pub decreases-loop-rest : goal.decreases-loop-rest
decreases-loop-rest l = length l.rest
