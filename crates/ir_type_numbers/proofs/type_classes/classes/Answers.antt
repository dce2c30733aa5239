use Rattle.std.proofs.Common.{◌≡◌, ◌≢◌, ℕ, ◌++◌, ◌↔◌, List, take, drop, length, arith, sym, subst}
use Rattle.std.proofs.lemmas.Grind.{common_steps}
use Rattle.ir_type_numbers.specs.Numbering.{number_at}
use Rattle.ir_type_numbers.specs.SameTypes.{HasLayout, IsSame}
use Rattle.ir_type_numbers.specs.Shapes.{IsClassing, IsClosed}
use Rattle.ir_type_numbers.specs.WordMap.{longer_in}
use Rattle.ir_type_numbers.proofs.Classing.{complete, has_layout, laid_out}
use Rattle.ir_type_numbers.proofs.Sameness.{same_exactly}
use Rattle.ir_type_numbers.proofs.type_classes.classes.Goals as goal

kept : (c : goal.After-drop-order-2) → take c.in_ok-classes.classes.len (c.class_all.new.classes ++ drop (length c.class_all.new.classes) c.in_ok-classes.classes.items) ≡ c.class_all.new.classes
kept c = grind (arith, common_steps)

classing : (c : goal.After-drop-order-2) → IsClassing c.args.types.now c.args.fields.now c.args.named.now (longer_in c.class_all.new.words) c.class_all.new.classes
classing c =
    subst (λ fields. IsClassing c.args.types.now fields c.args.named.now (longer_in c.class_all.new.words) c.class_all.new.classes) c.as_slice-fields.ensures
    (subst (λ types. IsClassing types c.as_slice-fields.result.now c.args.named.now (longer_in c.class_all.new.words) c.class_all.new.classes) c.as_slice-types.ensures c.in_ok-class_all.ensures.classing)

closed : (c : goal.After-drop-order-2) → IsClosed c.args.types.now c.args.fields.now c.class_all.new.classes
closed c =
    subst (λ fields. IsClosed c.args.types.now fields c.class_all.new.classes) c.as_slice-fields.ensures
    (subst (λ types. IsClosed types c.as_slice-fields.result.now c.class_all.new.classes) c.as_slice-types.ensures c.in_ok-class_all.ensures.closed)

pub returns-clause-some : goal.returns-clause-some
returns-clause-some c =
    subst (λ (classes : List ℕ). (a : ℕ) → number_at classes a ≢ 0 ↔ HasLayout c.args.types.now c.args.fields.now a) (sym (kept c))
    (λ a. (
      λ known. has_layout c.args.types.now c.args.fields.now c.args.named.now (longer_in c.class_all.new.words) c.class_all.new.classes a (classing c) known,
      λ h. complete c.args.types.now c.args.fields.now c.class_all.new.classes (closed c) (length c.args.types.now) a (laid_out c.args.types.now c.args.fields.now a h),
    ))

pub returns-clause-same : goal.returns-clause-same
returns-clause-same c =
    subst (λ (classes : List ℕ). (a b : ℕ) → HasLayout c.args.types.now c.args.fields.now a → HasLayout c.args.types.now c.args.fields.now b → (number_at classes a ≡ number_at classes b) ↔ IsSame c.args.types.now c.args.fields.now c.args.named.now a b) (sym (kept c))
    (same_exactly c.args.types.now c.args.fields.now c.args.named.now (longer_in c.class_all.new.words) c.class_all.new.classes (classing c) (closed c))
