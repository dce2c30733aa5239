use Rattle.ir_type_numbers.proofs.Leading.{name_of_no_type}
use Rattle.ir_type_numbers.proofs.laws.a_name_of_no_type_holds_itself.Goals as goal

pub returns : goal.returns
returns c = name_of_no_type
