use Rattle.std.proofs.Common.{refl}
use Rattle.ir_core.specs.Blocks.{block_holding}
use Rattle.ir_core.specs.IndexSteps.{inner_steps}
use Rattle.mi_code.specs.Instrumentation.{code_from, code_of_function, code_of_instruction, functions_from, later_starts}
use Rattle.mi_code.proofs.examples.an_example_of_instrumented_code.Goals as goal

pub returns : goal.returns
unfolding block_holding inner_steps code_from code_of_function code_of_instruction functions_from later_starts
returns c = refl
