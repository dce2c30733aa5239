use Rattle.std.proofs.Common.{◌≡◌, Some, length}
use Rattle.hw_driver.specs.Line.{options_after, none_given}
use Rattle.hw_driver.specs.LineView.{given_view, texts}
use Rattle.hw_driver.specs.Given.{IsGiven}
use Rattle.hw_driver.proofs.words.options_of.Given as goal

abbrev pub invariant-loop-rest : goal.invariant-loop-rest
invariant-loop-rest l = record {
  same : options_after (texts l.rest) (Some (given_view l.given)) ≡ options_after (texts l.fn.words) (Some none_given);
  range : IsGiven l.given;
}

abbrev pub decreases-loop-rest : goal.decreases-loop-rest
decreases-loop-rest l = length l.rest
