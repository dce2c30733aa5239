use Rattle.ir_functions.specs.Functions.{scope_of, all_instructions}
use Rattle.ir_functions.proofs.Resolved.{has_registers, has_variables}
use Rattle.ir_functions.proofs.laws.functions_have_registers_and_variables.Goals as goal

pub returns-clause-registers : goal.returns-clause-registers
returns-clause-registers c = λ names tables built m f h few. has_registers (scope_of names tables built f) m f (all_instructions names.bodies.instructions f.blocks) h few

pub returns-clause-variables : goal.returns-clause-variables
returns-clause-variables c = λ names tables built m f h types fields. has_variables (scope_of names tables built f) m f (all_instructions names.bodies.instructions f.blocks) h types fields
