-- What sending a text to a sink comes to.
use Rattle.std.specs.Prelude.{ℕ, List, OnOk, OnErr, Result}
use Rattle.hw_driver.specs.Answer.{SinkChange, TookAll, TookFront}

-- it took all of it, or a front of it before a fault
pub record Sends {T E : Type 0} (c : SinkChange) (result : Result T E) (text : List ℕ) : Type 0 where
  pub all : OnOk result (TookAll c text)
  pub front : OnErr result (TookFront c text)
