-- The faults of lists, from one element to the next.
use Rattle.std.proofs.Math.Seq.{take-suc, drop-cons}
use Rattle.std.proofs.Common.{arith, add-one, ◌≡◌, ℕ, ◌+◌, ◌<◌, List, [], ◌∷◌, ◌++◌, length, take, drop, get_or, slice_get, Option, ap, sym, ◌∙◌}
use Rattle.ir_core.specs.declared.types.IrType.{IrType}
use Rattle.ir_core.specs.declared.operands.Placed.{Placed}
use Rattle.ir_core.specs.declared.operands.Case.{Case}
use Rattle.ir_core.specs.declared.refusals.Refusal.{Refusal}
use Rattle.ir_core.specs.declared.ir_module.Function.{Function}
use Rattle.ir_core.specs.declared.ir_module.Module.{Module}
use Rattle.ir_check_types.specs.Order.{earlier}
use Rattle.ir_check_types.specs.Instructions.{step_fault, steps_fault, part_type, case_fault, cases_fault}
use Rattle.ir_check_types.specs.Calls.{argument_fault, arguments_fault}
use Rattle.ir_check_types.proofs.FirstOfSeveral.{earlier_assoc}

-- what is left of a list begins with its next element
next_of : {A : Type 0} (list : List A) (i : ℕ) (d : A) → i < length list → drop i list ≡ get_or list i d ∷ drop (i + 1) list
next_of list i d h = drop-cons list i d h ∙ ap (λ k. get_or list i d ∷ drop k list) (sym (add-one i))

-- what is before the next element, with this one
before_next : {A : Type 0} (list : List A) (i : ℕ) (d : A) → i < length list → take (i + 1) list ≡ take i list ++ get_or list i d ∷ []
before_next list i d h = ap (λ k. take k list) (add-one i) ∙ take-suc list i d h

pub steps_more : (m : Module) (f : Function) (type : IrType) (so_far : Option Refusal) (indices : List Placed) (i : ℕ) (d : Placed) (x : Option Refusal)
    → i < length indices → earlier so_far (steps_fault m f type (drop i indices)) ≡ x
    → earlier (earlier so_far (step_fault m f type (get_or indices i d))) (steps_fault m f (part_type m type (get_or indices i d)) (drop (i + 1) indices)) ≡ x
steps_more m f type so_far indices i d x h e =
    earlier_assoc so_far (step_fault m f type (get_or indices i d)) (steps_fault m f (part_type m type (get_or indices i d)) (drop (i + 1) indices))
    ∙ ap (λ list. earlier so_far (steps_fault m f type list)) (sym (next_of indices i d h)) ∙ e

pub arguments_more : (m : Module) (f : Function) (types : List ℕ) (from : ℕ) (so_far : Option Refusal) (args : List Placed) (i : ℕ) (d : Placed) (x : Option Refusal)
    → i < length args → earlier so_far (arguments_fault m f types (from + i) (drop i args)) ≡ x
    → earlier (earlier so_far (argument_fault m f (slice_get types (from + i)) (get_or args i d))) (arguments_fault m f types (from + (i + 1)) (drop (i + 1) args)) ≡ x
arguments_more m f types from so_far args i d x h e =
    let n : from + (i + 1) ≡ (from + i) + 1 = omega arith in
    ap (λ k. earlier (earlier so_far (argument_fault m f (slice_get types (from + i)) (get_or args i d))) (arguments_fault m f types k (drop (i + 1) args))) n
    ∙ earlier_assoc so_far (argument_fault m f (slice_get types (from + i)) (get_or args i d)) (arguments_fault m f types (from + i + 1) (drop (i + 1) args))
    ∙ ap (λ list. earlier so_far (arguments_fault m f types (from + i) list)) (sym (next_of args i d h)) ∙ e

pub cases_more : (m : Module) (f : Function) (type : IrType) (so_far : Option Refusal) (cases : List Case) (i : ℕ) (d : Case) (x : Option Refusal)
    → i < length cases → earlier so_far (cases_fault m f type (take i cases) (drop i cases)) ≡ x
    → earlier (earlier so_far (case_fault m f type (take i cases) (get_or cases i d))) (cases_fault m f type (take (i + 1) cases) (drop (i + 1) cases)) ≡ x
cases_more m f type so_far cases i d x h e =
    ap (λ list. earlier (earlier so_far (case_fault m f type (take i cases) (get_or cases i d))) (cases_fault m f type list (drop (i + 1) cases))) (before_next cases i d h)
    ∙ earlier_assoc so_far (case_fault m f type (take i cases) (get_or cases i d)) (cases_fault m f type (take i cases ++ get_or cases i d ∷ []) (drop (i + 1) cases))
    ∙ ap (λ list. earlier so_far (cases_fault m f type (take i cases) list)) (sym (next_of cases i d h)) ∙ e
