use Rattle.std.proofs.Common.{◌≡◌, ◌∙◌, ap, sym, refl, subst, arith, ℕ, suc, ◌<◌, ◌++◌, List, [], ◌∷◌, false, All, Option, Some, None, length, get_or, map, take, drop, ◌-◌, ◌+◌, ◌≤◌}
use Rattle.std.specs.Prelude.{option_map}
use Rattle.std.proofs.lemmas.List.{append_assoc, drop_more, drop_all, append-nil, map-append, length-append, take_all}
use Rattle.std.proofs.Math.Seq.{get_or-append_seam}
use Rattle.ir_core.specs.declared.types.IrType.{IrType}
use Rattle.ir_core.specs.declared.types.IrType.TheVariants.{Void, Int, Ptr, Array, Struct, Opaque, Pair}
use Rattle.ir_core.specs.declared.operands.Operand.TheVariants.{Reg}
use Rattle.ir_core.specs.declared.operands.Placed.{Placed}
use Rattle.ir_core.specs.declared.ir_module.Module.{Module}
use Rattle.ir_core.specs.NumberTypes.{type_of}
use Rattle.ir_core.specs.IndexSteps.{AddressStep, inner_steps, index_steps, scaled_step, step_before}
use Rattle.mi_code.specs.declared.operands.IndexStep.{IndexStep}
use Rattle.mi_code.specs.AddressCode.{step_code, steps_code, indices_code}
use Rattle.tag_insert.specs.SmallSteps.{IsSmallStep, HasSmallSteps}
use Rattle.tag_insert.specs.InnerSteps.{inner_step, steps_after, IsInnerStep, IsWalked, GoesOnFrom}

-- the item that reads past the end of a list give
abbrev pub zero_placed : Placed
zero_placed = record { operand = Reg 0; ty = 0; fits = false; place = record { line = 0; column = 0 } }

-- the steps of indices, by the first of them
pub inner_steps-first :
    (m : Module) (type : IrType) (index : Placed) (rest : List Placed)
    → inner_steps m type (index ∷ rest) ≡ steps_after m (inner_step m type index) rest
unfolding inner_steps
inner_steps-first m Void index rest = refl
inner_steps-first m (Int width) index rest = refl
inner_steps-first m Ptr index rest = refl
inner_steps-first m (Array count item) index rest = refl
inner_steps-first m (Struct first count packed) index rest = refl
inner_steps-first m Opaque index rest = refl
inner_steps-first m (Pair width) index rest = refl

-- steps done and one more, before further ones
done-more :
    (done : List AddressStep) (step : AddressStep) (further : Option (List AddressStep))
    → option_map (λ more. done ++ more) (step_before step further) ≡ option_map (λ more. (done ++ step ∷ []) ++ more) further
done-more done step None = refl
done-more done step (Some more) = ap Some (sym (append_assoc done (step ∷ []) more))

-- what is left at an index of the list, by that index
steps-at :
    (m : Module) (type : IrType) (indices : List Placed) (i : ℕ) (d : Placed) → i < length indices
    → inner_steps m type (drop i indices) ≡ steps_after m (inner_step m type (get_or indices i d)) (drop (i + 1) indices)
steps-at m type indices i d lt =
    ap (inner_steps m type) (drop_more indices i d lt) ∙ inner_steps-first m type (get_or indices i d) (drop (i + 1) indices)

-- the walk goes on with the type that a step leads to
walks-by :
    (m : Module) (whole : Option (List AddressStep)) (done : List AddressStep) (first : Option (AddressStep × ℕ)) (rest : List Placed) (code : IndexStep) (inner : ℕ)
    → whole ≡ option_map (λ more. done ++ more) (steps_after m first rest) → IsInnerStep m first (Some (code, inner))
    → (step : AddressStep) × (code ≡ step_code m step) × GoesOnFrom m whole (done ++ step ∷ []) inner rest
walks-by m whole done None rest code inner before found = absurd found
walks-by m whole done (Some (step, ty)) rest code inner before (code-is, inner-is) = (
  step,
  code-is,
  before ∙ done-more done step (inner_steps m (type_of m ty) rest)
      ∙ ap (λ n. option_map (λ more. (done ++ step ∷ []) ++ more) (inner_steps m (type_of m n) rest)) (sym inner-is),
)

pub walks-on :
    (m : Module) (whole : Option (List AddressStep)) (done : List AddressStep) (ty : ℕ) (indices : List Placed) (i : ℕ) (d : Placed) (code : IndexStep) (inner : ℕ)
    → i < length indices → GoesOnFrom m whole done ty (drop i indices)
    → IsInnerStep m (inner_step m (type_of m ty) (get_or indices i d)) (Some (code, inner))
    → (step : AddressStep) × (code ≡ step_code m step) × GoesOnFrom m whole (done ++ step ∷ []) inner (drop (i + 1) indices)
walks-on m whole done ty indices i d code inner lt before found =
    walks-by m whole done (inner_step m (type_of m ty) (get_or indices i d)) (drop (i + 1) indices) code inner
    (before ∙ ap (option_map (λ more. done ++ more)) (steps-at m (type_of m ty) indices i d lt)) found

-- a step that is not small stands in no list of small steps
not-all :
    (done more : List AddressStep) (step : AddressStep) → (IsSmallStep step → ⊥) → All IsSmallStep (done ++ step ∷ more) → ⊥
not-all done more step large all =
    let inside : length done < length (done ++ step ∷ more) = omega (arith, length-append done (step ∷ more)) in
    large (subst IsSmallStep (get_or-append_seam done step more step) (all (length done) step inside))

stops-by :
    (m : Module) (whole : Option (List AddressStep)) (done : List AddressStep) (first : Option (AddressStep × ℕ)) (rest : List Placed)
    → whole ≡ option_map (λ more. done ++ more) (steps_after m first rest) → ((steps : List AddressStep) → whole ≡ Some steps → All IsSmallStep steps)
    → IsInnerStep m first None → whole ≡ None
stops-by m whole done None rest before small none = before
stops-by m whole done (Some (step, inner)) rest before small none =
    stops-after whole done step (inner_steps m (type_of m inner) rest) before small none
  where
    stops-after :
        (whole : Option (List AddressStep)) (done : List AddressStep) (step : AddressStep) (further : Option (List AddressStep))
        → whole ≡ option_map (λ more. done ++ more) (step_before step further)
        → ((steps : List AddressStep) → whole ≡ Some steps → All IsSmallStep steps) → (IsSmallStep step → ⊥) → whole ≡ None
    stops-after whole done step None before small large = before
    stops-after whole done step (Some more) before small large = absurd (not-all done more step large (small (done ++ step ∷ more) before))

-- where the code finds no step there are none
pub stops :
    (m : Module) (whole : Option (List AddressStep)) (done : List AddressStep) (ty : ℕ) (indices : List Placed) (i : ℕ) (d : Placed)
    → i < length indices → GoesOnFrom m whole done ty (drop i indices)
    → ((steps : List AddressStep) → whole ≡ Some steps → All IsSmallStep steps)
    → IsInnerStep m (inner_step m (type_of m ty) (get_or indices i d)) None → whole ≡ None
stops m whole done ty indices i d lt before small none =
    stops-by m whole done (inner_step m (type_of m ty) (get_or indices i d)) (drop (i + 1) indices)
    (before ∙ ap (option_map (λ more. done ++ more)) (steps-at m (type_of m ty) indices i d lt)) small none

-- what the code found once no index is left
pub walked :
    (m : Module) (whole : Option (List AddressStep)) (done : List AddressStep) (ty : ℕ) (indices : List Placed) (i : ℕ) (first : IndexStep) (steps : List IndexStep)
    → length indices ≤ i → GoesOnFrom m whole done ty (drop i indices) → steps ≡ first ∷ map (step_code m) done → IsWalked m first whole (Some steps)
unfolding inner_steps
walked m whole done ty indices i first steps past before same =
    let none-left = drop_all i indices past in
    let all : whole ≡ Some done =
    before ∙ ap (λ rest. option_map (λ more. done ++ more) (inner_steps m (type_of m ty) rest)) none-left ∙ ap Some (append-nil done) in
    subst (λ w. IsWalked m first w (Some steps)) (sym all) (ap Some same)

pub none-walked : (m : Module) (whole : Option (List AddressStep)) (first : IndexStep) → whole ≡ None → IsWalked m first whole None
none-walked m whole first none = subst (λ w. IsWalked m first w None) (sym none) refl

-- one more step behind those so far
pub one-more :
    (m : Module) (first : IndexStep) (done : List AddressStep) (step : AddressStep) (code : IndexStep) (steps more : List IndexStep)
    → steps ≡ first ∷ map (step_code m) done → code ≡ step_code m step → more ≡ steps ++ code ∷ []
    → more ≡ first ∷ map (step_code m) (done ++ step ∷ [])
one-more m first done step code steps more before code-is pushed =
    pushed ∙ ap (λ xs. xs ++ code ∷ []) before
    ∙ ap (λ xs. first ∷ xs) (ap (λ c. map (step_code m) done ++ c ∷ []) code-is ∙ sym (map-append (step_code m) done (step ∷ [])))

-- indices that are some have a first one
pub first-and-rest : (indices : List Placed) (d : Placed) → (length indices ≡ 0 → ⊥) → indices ≡ get_or indices 0 d ∷ take (length indices - 1) (drop 1 indices)
first-and-rest [] d some = absurd (some refl)
first-and-rest (index ∷ rest) d some = ap (λ more. index ∷ more) (sym (take_all (length (index ∷ rest) - 1) rest (omega arith)))

-- the steps of indices that are some, by the first one and the rest
steps-split :
    (m : Module) (ty : ℕ) (indices : List Placed) (d : Placed) → (length indices ≡ 0 → ⊥)
    → index_steps m ty indices
    ≡ step_before (scaled_step m (get_or indices 0 d) ty) (inner_steps m (type_of m ty) (take (length indices - 1) (drop 1 indices)))
steps-split m ty indices d some = ap (index_steps m ty) (first-and-rest indices d some)

-- small steps stay small without the first one
pub near-inner :
    (m : Module) (ty : ℕ) (indices : List Placed) → (length indices ≡ 0 → ⊥) → HasSmallSteps m ty indices → (more : List AddressStep)
    → inner_steps m (type_of m ty) (take (length indices - 1) (drop 1 indices)) ≡ Some more → All IsSmallStep more
near-inner m ty indices some small more found =
    let first = scaled_step m (get_or indices 0 zero_placed) ty in
    let all = small (first ∷ more) (steps-split m ty indices zero_placed some ∙ ap (step_before first) found) in
    λ k d lt. all (suc k) d (omega (arith, lt))

walked-steps :
    (m : Module) (step : AddressStep) (first : IndexStep) (further : Option (List AddressStep)) (steps : List IndexStep)
    → first ≡ step_code m step → IsWalked m first further (Some steps) → steps ≡ steps_code m (step_before step further)
walked-steps m step first None steps same found = search found
walked-steps m step first (Some more) steps same found = search (same, found)

walked-no-steps :
    (m : Module) (step : AddressStep) (first : IndexStep) (further : Option (List AddressStep))
    → IsWalked m first further None → [] ≡ steps_code m (step_before step further)
walked-no-steps m step first None found = refl
walked-no-steps m step first (Some more) found = search found

-- the code of all indices, where further steps were found
pub some-steps :
    (m : Module) (ty : ℕ) (indices : List Placed) (first : IndexStep) (steps : List IndexStep) → (length indices ≡ 0 → ⊥)
    → first ≡ step_code m (scaled_step m (get_or indices 0 zero_placed) ty)
    → IsWalked m first (inner_steps m (type_of m ty) (take (length indices - 1) (drop 1 indices))) (Some steps)
    → steps ≡ indices_code m ty indices
some-steps m ty indices first steps some same found =
    let step = scaled_step m (get_or indices 0 zero_placed) ty in
    let further = inner_steps m (type_of m ty) (take (length indices - 1) (drop 1 indices)) in
    walked-steps m step first further steps same found ∙ sym (ap (steps_code m) (steps-split m ty indices zero_placed some))

-- and where there are none
pub no-steps :
    (m : Module) (ty : ℕ) (indices : List Placed) (first : IndexStep) → (length indices ≡ 0 → ⊥)
    → IsWalked m first (inner_steps m (type_of m ty) (take (length indices - 1) (drop 1 indices))) None
    → [] ≡ indices_code m ty indices
no-steps m ty indices first some found =
    let step = scaled_step m (get_or indices 0 zero_placed) ty in
    let further = inner_steps m (type_of m ty) (take (length indices - 1) (drop 1 indices)) in
    walked-no-steps m step first further found ∙ sym (ap (steps_code m) (steps-split m ty indices zero_placed some))
