use Rattle.std.proofs.Common.{Option, ap, sym, ◌∙◌}
use Rattle.std.specs.Prelude.{unwrap_or}
use Rattle.mi_code.specs.declared.operands.MiOperand.{MiOperand}
use Rattle.mi_code.specs.declared.operands.MiOperand.TheVariants.{Num}
use Rattle.ir_machine.proofs.ArgumentLemmas.{argument_at-get}
use Rattle.ir_machine.proofs.arithmetic.argument_at.Goals as goal

pub returns-in-Some : goal.returns-in-Some
returns-in-Some c = ap (λ (o : Option MiOperand). unwrap_or o (Num 0)) c.in-Some.ensures ∙ sym (argument_at-get c.args.args.now c.args.k)

pub returns-in-None : goal.returns-in-None
returns-in-None c = ap (λ (o : Option MiOperand). unwrap_or o (Num 0)) c.in-None.ensures ∙ sym (argument_at-get c.args.args.now c.args.k)
