use Rattle.std.proofs.Common.{[], None}
use Rattle.hw_base.specs.declared.endings.Input.TheVariants.{End}
use Rattle.ir_machine.specs.LibraryCalls.{library_step}
use Rattle.ir_machine.proofs.BuiltCode.{text-function}
use Rattle.ir_machine.proofs.Growth.{outcome-little}
use Rattle.ir_machine.proofs.StepGrowth.{library-adds, setting_with}
use Rattle.ir_machine.proofs.library.library.Goals as goal

pub returns-in_default : goal.returns-in_default
returns-in_default c =
    let seen = c.args.run.now.seen in
    let function = c.args.function in
    let setting = setting_with [] in
    let text = text-function function (λ is. c.in_default.not-Malloc is) (λ is. c.in_default.not-Calloc is) (λ is. c.in_default.not-Realloc is) (λ is. c.in_default.not-Free is) c.requires.built in
    record {
      step = λ setting given start next. c.text_function.ensures.step setting given start;
      grows = λ some. outcome-little c.args.words.now seen.shared (library_step setting End seen c.args.site function c.args.to c.args.args.now None) c.text_function.result c.text_function.new.run
          (c.text_function.ensures.step setting End None) some (library-adds setting End seen c.args.site function c.args.to c.args.args.now None text);
    }
