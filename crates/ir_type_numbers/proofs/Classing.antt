-- Classes given one type at a time, and that all types with layouts get one.
use Rattle.std.proofs.Common.{◌≡◌, ℕ, ◌+◌, ◌-◌, ◌<◌, ◌≤◌, zero, suc, Bool, true, ◌==◌, cond, List, [], ◌∷◌, ◌++◌, map, set, length, get_or, Option, Some, All, arith, refl, sym, ◌∙◌, ap, inl, inr, subst}
use Rattle.std.proofs.lemmas.Bool.{cases_eq, cases_Bool, eqb-true}
use Rattle.std.proofs.lemmas.List.{get_or-set_same, get_or-set_other}
use Rattle.std.proofs.lemmas.List.Elements.{All-head, All-tail, All-weaker}
use Rattle.std.proofs.lemmas.List.Sums.{sum_by-set, count_by-le-length}
use Rattle.std.proofs.Math.ListN.{length-set}
use Rattle.ir_core.proofs.Capping.{layout_at-capped}
use Rattle.ir_core.proofs.Deepening.{IsLaid, is_loop-capped, parts_laid, laid_parts, deeper, deeper_to, nothing_at_first, length-within, laid_is_within, within_more}
use Rattle.ir_core.specs.Layout.{layout_at, layouts_within, exact_layouts, type_layout}
use Rattle.ir_core.specs.Progress.{is_loop, type_at}
use Rattle.ir_core.specs.declared.types.IrType.{IrType}
use Rattle.ir_core.specs.declared.types.TypeLayout.{TypeLayout}
use Rattle.ir_type_numbers.specs.declared.letter.Letter.{Letter}
use Rattle.ir_type_numbers.specs.Numbering.{number_at}
use Rattle.ir_type_numbers.specs.SameTypes.{is_named, HasLayout}
use Rattle.ir_core.specs.Holding.{held}
use Rattle.ir_type_numbers.specs.Shapes.{word_number, IsNumbering, Keeps, kind, part_letter, shape, shape_at, IsClassed, unclassed, IsClassing, IsClosed}
use Rattle.ir_type_numbers.proofs.Words.{word_kept, word_positive}

-- parts with the same classes
abbrev Same : List ℕ → List ℕ → ℕ → Type 0
Same a b n = number_at a n ≡ number_at b n

map_same : (a b : List ℕ) (ns : List ℕ) → All (Same a b) ns → map (part_letter a) ns ≡ map (part_letter b) ns
map_same a b [] all = refl
map_same a b (n ∷ ns) all =
    let here : number_at a n ≡ number_at b n = All-head (Same a b) n ns all in
    let rest : map (part_letter a) ns ≡ map (part_letter b) ns = map_same a b ns (All-tail (Same a b) n ns all) in
    cc

shape_same : (fields a b : List ℕ) (named : Bool) (own : ℕ) (t : IrType) → All (Same a b) (held fields t) → shape fields a named own t ≡ shape fields b named own t
shape_same fields a b named own t all = ap (λ letters. letters ++ kind named own t ∷ []) (map_same a b (held fields t) all)

-- no type has a class at first
pub classing_first : (types : List IrType) (fields : List ℕ) (named : List Bool) (longer : ℕ → Letter → Option ℕ) (classes : List ℕ) → length classes ≡ length types → ((n : ℕ) → number_at classes n ≡ 0) → IsNumbering longer → IsClassing types fields named longer classes
classing_first types fields named longer classes same none once = record {
  same = same;
  numbering = once;
  right = λ n known. absurd (known (none n));
  parts = λ n known. absurd (known (none n));
  deep = λ n known. absurd (known (none n));
}

-- a class that was given is not 0
pub class_positive : (types : List IrType) (fields : List ℕ) (named : List Bool) (longer : ℕ → Letter → Option ℕ) (classes : List ℕ) (n class : ℕ) → IsNumbering longer → word_number longer (shape_at types fields named classes n) ≡ Some class → 0 < class
class_positive types fields named longer classes n class once found =
    word_positive longer once (map (part_letter classes) (held fields (type_at types n))) (kind (is_named named n) n (type_at types n)) class found

-- one fewer is without a class
unclassed_set : (classes : List ℕ) (n class : ℕ) → n < length classes → number_at classes n ≡ 0 → 0 < class → unclassed (set classes n class) + 1 ≡ unclassed classes
unclassed_set classes n class h none more =
    let f : ℕ → ℕ = λ x. cond (x == 0) 1 0 in
    let e : unclassed (set classes n class) + f (get_or classes n 0) ≡ unclassed classes + f class = sum_by-set f classes n class 0 h in
    let old : f (get_or classes n 0) ≡ 1 = ap f none in
    let new : f class ≡ 0 = elim (cases_Bool (class == 0)) [
      | inl zero_is ↦ let no_class : class ≡ 0 = eqb-true class 0 zero_is in absurd (omega (arith, more, no_class))
      | inr other ↦ ap (λ b. cond b 1 0) other
    ] in
    omega (arith, e, old, new)

pub unclassed_less : (classes : List ℕ) (n class : ℕ) → n < length classes → number_at classes n ≡ 0 → 0 < class → unclassed (set classes n class) < unclassed classes
unclassed_less classes n class h none more = let e = unclassed_set classes n class h none more in omega (arith, e)

-- a type whose parts are laid out so many deep is so one deeper
laid_more : (types : List IrType) (fields : List ℕ) (k n : ℕ) → n < length types → All (IsLaid (layouts_within types fields k)) (held fields (type_at types n)) → IsLaid (layouts_within types fields (suc k)) n
laid_more types fields k n h all =
    let t : IrType = type_at types n in
    ap is_loop (within_more types fields k n h) ∙ laid_parts fields (layouts_within types fields k) t all

-- one more type gets its class
pub classing_more : (types : List IrType) (fields : List ℕ) (named : List Bool) (before after : ℕ → Letter → Option ℕ) (classes : List ℕ) (n class : ℕ)
    → IsClassing types fields named before classes → n < length types → number_at classes n ≡ 0 → All (IsClassed classes) (held fields (type_at types n))
    → word_number after (shape_at types fields named classes n) ≡ Some class → Keeps before after → IsNumbering after → IsClassing types fields named after (set classes n class)
classing_more types fields named before after classes n class was h none all found keep once =
    let new : List ℕ = set classes n class in
    let inside : n < length classes = subst (λ k. n < k) (sym was.same) h in
    let here : number_at new n ≡ class = get_or-set_same classes n class 0 inside in
    let same : (m : ℕ) → IsClassed classes m → number_at new m ≡ number_at classes m = λ m known.
    elim (cases_eq m n) [
      | inl e ↦ absurd (known (ap (number_at classes) e ∙ none))
      | inr ne ↦ get_or-set_other classes n m class 0 ne
    ] in
    let stays : (m : ℕ) → IsClassed classes m → IsClassed new m = λ m known z. known (sym (same m known) ∙ z) in
    let shapes : (m : ℕ) → All (IsClassed classes) (held fields (type_at types m)) → shape_at types fields named new m ≡ shape_at types fields named classes m = λ m known.
    shape_same fields new classes (is_named named m) m (type_at types m) (All-weaker (IsClassed classes) (Same new classes) same (held fields (type_at types m)) known) in
    let fewer : unclassed new + 1 ≡ unclassed classes = unclassed_set classes n class inside none (class_positive types fields named after classes n class once found) in
    let few : unclassed classes ≤ length classes = count_by-le-length (λ c. c == 0) classes in
    let long : length classes ≡ length types = was.same in
    let before_depth : ℕ = length types - unclassed classes in
    let depth : length types - unclassed new ≡ suc before_depth = omega (arith, fewer, few, long) in
    let at_n : word_number after (shape_at types fields named new n) ≡ Some (number_at new n) = ap (word_number after) (shapes n all) ∙ (found ∙ ap Some (sym here)) in
    record {
      same = length-set classes n class ∙ was.same;
      numbering = once;
      right = λ m known.
          elim (cases_eq m n) [
            | inl e ↦ subst (λ k. word_number after (shape_at types fields named new k) ≡ Some (number_at new k)) (sym e) at_n
            | inr ne ↦
                let other : number_at new m ≡ number_at classes m = get_or-set_other classes n m class 0 ne in
                let old : IsClassed classes m = λ z. known (other ∙ z) in
                ap (word_number after) (shapes m (was.parts m old)) ∙ (word_kept before after keep (shape_at types fields named classes m) (number_at classes m) (was.right m old) ∙ ap Some (sym other))
          ];
      parts = λ m known.
          elim (cases_eq m n) [
            | inl e ↦ All-weaker (IsClassed classes) (IsClassed new) stays (held fields (type_at types m)) (subst (λ k. All (IsClassed classes) (held fields (type_at types k))) (sym e) all)
            | inr ne ↦
                let other : number_at new m ≡ number_at classes m = get_or-set_other classes n m class 0 ne in
                let old : IsClassed classes m = λ z. known (other ∙ z) in
                All-weaker (IsClassed classes) (IsClassed new) stays (held fields (type_at types m)) (was.parts m old)
          ];
      deep = λ m known.
          subst (λ k. IsLaid (layouts_within types fields k) m) (sym depth)
          (elim (cases_eq m n) [
            | inl e ↦ subst (λ k. IsLaid (layouts_within types fields (suc before_depth)) k) (sym e) (laid_more types fields before_depth n h (All-weaker (IsClassed classes) (IsLaid (layouts_within types fields before_depth)) was.deep (held fields (type_at types n)) all))
            | inr ne ↦
                let other : number_at new m ≡ number_at classes m = get_or-set_other classes n m class 0 ne in
                let laid : IsLaid (layouts_within types fields before_depth) m = was.deep m (λ z. known (other ∙ z)) in
                ap is_loop (deeper types fields before_depth m laid) ∙ laid
          ]);
    }

-- a type that is laid out so many deep stands in the list, and its parts are laid out less deep
pub laid_within : (types : List IrType) (fields : List ℕ) (k n : ℕ) → IsLaid (layouts_within types fields (suc k)) n → (n < length types) × All (IsLaid (layouts_within types fields k)) (held fields (type_at types n))
laid_within types fields k n h =
    let inside : n < length types = subst (λ m. n < m) (length-within types fields (suc k)) (laid_is_within (layouts_within types fields (suc k)) n h) in
    let t : IrType = type_at types n in
    let e : layout_at (layouts_within types fields (suc k)) n ≡ type_layout fields (layouts_within types fields k) t = within_more types fields k n inside in
    (inside, parts_laid fields (layouts_within types fields k) t (sym (ap is_loop e) ∙ h))

pub nothing_laid : (types : List IrType) (fields : List ℕ) (n : ℕ) → IsLaid (layouts_within types fields zero) n → ⊥
nothing_laid types fields n h = let no : is_loop (layout_at (layouts_within types fields zero) n) ≡ true = ap is_loop (nothing_at_first types fields n) in cc

-- where no further type can get a class, all that are laid out at any depth have one
pub complete : (types : List IrType) (fields classes : List ℕ) → IsClosed types fields classes → (k n : ℕ) → IsLaid (layouts_within types fields k) n → IsClassed classes n
complete types fields classes closed zero n h = absurd (nothing_laid types fields n h)
complete types fields classes closed (suc k) n h =
    let below = laid_within types fields k n h in
    closed n below.0 (All-weaker (IsLaid (layouts_within types fields k)) (IsClassed classes) (λ m known. complete types fields classes closed k m known) (held fields (type_at types n)) below.1)

-- a type with a layout is laid out at some depth
pub laid_out : (types : List IrType) (fields : List ℕ) (n : ℕ) → HasLayout types fields n → IsLaid (layouts_within types fields (length types)) n
laid_out types fields n h =
    let exact : List TypeLayout = exact_layouts types fields in
    sym (is_loop-capped (layout_at exact n)) ∙ (ap is_loop (sym (layout_at-capped exact n)) ∙ h)

-- and only those with a layout have a class
pub has_layout : (types : List IrType) (fields : List ℕ) (named : List Bool) (longer : ℕ → Letter → Option ℕ) (classes : List ℕ) (n : ℕ) → IsClassing types fields named longer classes → IsClassed classes n → HasLayout types fields n
has_layout types fields named longer classes n c known =
    let exact : List TypeLayout = exact_layouts types fields in
    let most : length types - unclassed classes ≤ length types = omega arith in
    let laid : IsLaid exact n = ap is_loop (deeper_to types fields (length types - unclassed classes) n (length types) most (c.deep n known)) ∙ c.deep n known in
    ap is_loop (layout_at-capped exact n) ∙ (is_loop-capped (layout_at exact n) ∙ laid)
