use Rattle.mi_code.proofs.CodePlaces.{length-code_of_instruction, drop-code_of_function, starts_of_blocks}
use Rattle.mi_code.proofs.laws.each_instruction_has_its_place.Goals as goal

pub returns-clause-length : goal.returns-clause-length
returns-clause-length c = length-code_of_instruction

pub returns-clause-place : goal.returns-clause-place
returns-clause-place c = drop-code_of_function

pub returns-clause-starts : goal.returns-clause-starts
returns-clause-starts c = starts_of_blocks
