use Rattle.std.proofs.Common.{◌≡◌, ◌+◌, length}
use Rattle.stack_tags.specs.KeptFrames.{with_each, AreObjects}
use Rattle.stack_tags.proofs.variables.put_variables.Given as goal

-- the variables from here on are still to be born
abbrev pub invariant-loop-rest : goal.invariant-loop-rest
invariant-loop-rest l =
    record {
      within : l.k + length l.rest ≡ length l.variables;
      objects : AreObjects l.rest;
      to_come : with_each l.mem l.word l.k l.rest ≡ with_each l.fn.mem l.word 0 l.variables;
    }

abbrev pub decreases-loop-rest : goal.decreases-loop-rest
decreases-loop-rest l = length l.rest
