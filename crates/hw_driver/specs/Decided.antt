-- How the definitions see a decision of the code.
use Rattle.std.specs.Prelude.{ℕ, List}
use Rattle.hw_driver.specs.declared.decision.Text.{Text}
use Rattle.hw_driver.specs.declared.decision.Text.TheVariants.{Usage, FileFault, Memory, Own}
use Rattle.hw_driver.specs.declared.decision.Decision as code
use Rattle.hw_driver.specs.Closing.{usage_line, file_fault_line, memory_line}
use Rattle.hw_driver.specs.Answer.{Decision}

abbrev pub text_view : Text → List ℕ
text_view Usage = usage_line
text_view FileFault = file_fault_line
text_view Memory = memory_line
text_view (Own text) = text

abbrev pub decision_view : code.Decision → Decision
decision_view d = record { status = d.status; output = d.output; text = text_view d.text }
