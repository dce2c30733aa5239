use Rattle.ir_meaning.proofs.StringLaws.{string_at-ends}
use Rattle.ir_meaning.proofs.laws.scans_of_strings_end.Goals as goal

pub returns : goal.returns
returns c = string_at-ends
