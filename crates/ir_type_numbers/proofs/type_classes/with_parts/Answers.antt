use Rattle.std.proofs.Common.{sym, ◌∙◌, ap, ℕ}
use Rattle.ir_type_numbers.specs.declared.letter.Letter.TheVariants.{Part}
use Rattle.ir_type_numbers.specs.WordMap.{longer_in}
use Rattle.ir_type_numbers.proofs.Words.{with_part}
use Rattle.ir_type_numbers.proofs.type_classes.with_parts.Goals as goal

pub loop-done-preserved : goal.loop-done-preserved
loop-done-preserved c =
    let kept = c.in_ok-number.ensures.kept in (
      λ letters h. with_part (longer_in c.loop-done.words) (longer_in c.longer.new.self) c.args.classes.now c.args.parts.now c.loop-done.done c.loop-done.number c.in_ok-number.number letters
          c.loop-done-test.true kept (c.loop-done.invariant.0 letters h)
          (ap (λ (class : ℕ). longer_in c.longer.new.self c.loop-done.number (Part class)) (sym c.class_at.ensures) ∙ c.in_ok-number.ensures.found),
      λ p n l h. kept p n l (c.loop-done.invariant.1 p n l h),
      c.in_ok-number.ensures.numbering,
    )
