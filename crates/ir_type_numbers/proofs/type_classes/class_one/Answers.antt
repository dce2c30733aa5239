use Rattle.std.proofs.Common.{◌≡◌, ◌<◌, Bool, Some, arith, sym, ◌∙◌, ap, subst}
use Rattle.std.proofs.lemmas.Grind.{common_steps}
use Rattle.ir_core.specs.Progress.{type_at}
use Rattle.ir_type_numbers.specs.Numbering.{number_at}
use Rattle.ir_type_numbers.specs.Shapes.{shape, shape_at, word_number}
use Rattle.ir_type_numbers.specs.WordMap.{longer_in}
use Rattle.ir_type_numbers.proofs.Classing.{classing_more, unclassed_less, class_positive}
use Rattle.ir_type_numbers.proofs.type_classes.class_one.Goals as goal

none : (c : goal.In_ok-classes) → number_at c.args.classes.now c.args.n ≡ 0
none c = sym c.class_at.ensures ∙ c.if-class_at-ne0.false

found : (c : goal.In_ok-classes) → word_number (longer_in c.class_of.new.words) (shape_at c.args.types.now c.args.fields.now c.args.named.now c.args.classes.now c.args.n) ≡ Some c.in_ok-classes.field-0
found c =
    ap (λ (mark : Bool). word_number (longer_in c.class_of.new.words) (shape c.args.fields.now c.args.classes.now mark c.args.n (type_at c.args.types.now c.args.n))) (sym c.is_named.ensures)
    ∙ c.in_ok-classes.ensures.found

pub returns-clause-classing : goal.returns-clause-classing
returns-clause-classing c =
    classing_more c.args.types.now c.args.fields.now c.args.named.now (longer_in c.args.words.now) (longer_in c.class_of.new.words) c.args.classes.now c.args.n c.in_ok-classes.field-0
    c.requires.classing c.requires.within (none c) (c.are_parts_classed.ensures.yes (grind (arith, common_steps))) (found c) c.in_ok-classes.ensures.kept c.in_ok-classes.ensures.numbering

pub returns-clause-fewer : goal.returns-clause-fewer
returns-clause-fewer c = λ _.
    unclassed_less c.args.classes.now c.args.n c.in_ok-classes.field-0 (subst (λ k. c.args.n < k) (sym c.requires.classing.same) c.requires.within) (none c)
    (class_positive c.args.types.now c.args.fields.now c.args.named.now (longer_in c.class_of.new.words) c.args.classes.now c.args.n c.in_ok-classes.field-0 c.in_ok-classes.ensures.numbering (found c))
