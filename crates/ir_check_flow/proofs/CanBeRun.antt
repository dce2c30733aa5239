-- Accepted modules have all that a run needs.
use Rattle.std.proofs.Common.{arith, ◌≡◌, ℕ, zero, suc, ◌+◌, ◌^◌, ◌<◌, ◌≤◌, min, List, [], ◌∷◌, length, map, get_or, slice_get, Bool, true, false, cond, nat_le, ◌&&◌, Option, Some, None, inr, refl, subst}
use Rattle.std.proofs.lemmas.Bool.Decides.{nat_tests}
use Rattle.std.specs.List.{All, fold, list_all}
use Rattle.hw_base.specs.AddressMap.{rounded_size}
use Rattle.hw_base.specs.declared.numbers.TheConstants.{MOST_GLOBALS, MOST_SIZE}
use Rattle.ir_core.specs.declared.types.TypeLayout.{TypeLayout}
use Rattle.ir_core.specs.declared.types.TypeLayout.TheVariants.{Known, NoSize, Loop}
use Rattle.ir_core.specs.declared.operands.PhiEntry.{PhiEntry}
use Rattle.ir_core.specs.declared.operations.Op.{Op}
use Rattle.ir_core.specs.declared.operations.Op.TheVariants as op
use Rattle.ir_core.specs.declared.faults.Fault.TheVariants.{BadType, TooLarge}
use Rattle.ir_core.specs.declared.faults.Limit.TheVariants.{MetaNodes, TypeSize}
use Rattle.ir_core.specs.declared.refusals.Refusal.{Refusal}
use Rattle.ir_core.specs.declared.ir_module.Function.{Function}
use Rattle.ir_core.specs.declared.ir_module.GlobalVar.{GlobalVar}
use Rattle.ir_core.specs.declared.ir_module.Module.{Module}
use Rattle.ir_core.specs.Layout.{layout_at, layout_size, capped, exact_layouts, has_size_of}
use Rattle.ir_core.specs.NumberTypes.{alloc_size}
use Rattle.ir_core.specs.Operations.{is_phi}
use Rattle.ir_core.specs.Runnable.{HasPhisFirst}
use Rattle.ir_check_types.specs.Order.{first_among}
use Rattle.ir_check_types.specs.Rules.{loop_fault, global_fault, start_of_text}
use Rattle.ir_check_types.proofs.PassedRules.{instructions_can_be_run, none_first, none_second, none_among, holds, both, get_at}
use Rattle.ir_check_flow.specs.Check.{IsFlowFault}
use Rattle.ir_check_flow.specs.Checked.{AcceptedCanBeRun}
use Rattle.ir_check_flow.specs.First.{IsFirstOf}
use Rattle.ir_check_flow.specs.Limits.{at_most, count_limit, function_limit, globals_limit, is_small, is_small_size, has_small_variables, has_small_types}
use Rattle.ir_check_flow.specs.declared.numbers.TheConstants.{MOST_NODES}
use Rattle.ir_check_flow.specs.Phis.{bad_phi}

-- ---- sizes of types

small_size : (size : ℕ) → nat_le (min size (2 ^ 40 + 1)) MOST_SIZE ≡ true → size ≤ MOST_SIZE
small_size size e = grind (arith, nat_tests)

small_layout : (layout : TypeLayout) → is_small (capped layout) ≡ true → layout_size layout ≤ MOST_SIZE
small_layout (Known size align) e = small_size size e
small_layout NoSize e = omega arith
small_layout Loop e = omega arith

small_at : (layouts : List TypeLayout) (n : ℕ) → list_all is_small (map capped layouts) ≡ true → layout_size (layout_at layouts n) ≤ MOST_SIZE
small_at [] n e = omega arith
small_at (layout ∷ layouts) zero e = small_layout layout (both (is_small (capped layout)) (list_all is_small (map capped layouts)) e).0
small_at (layout ∷ layouts) (suc n) e = small_at layouts n (both (is_small (capped layout)) (list_all is_small (map capped layouts)) e).1

-- ---- sizes of variables

small_variable : (size : ℕ) → is_small_size size ≡ true → size ≤ MOST_SIZE
small_variable size e = grind (arith, nat_tests)

all_true : {A : Type 0} (test : A → Bool) (xs : List A) → list_all test xs ≡ true → All (λ (x : A). test x ≡ true) xs
all_true test [] e k d within = absurd (omega arith)
all_true test (x ∷ xs) e zero d within = (both (test x) (list_all test xs) e).0
all_true test (x ∷ xs) e (suc k) d within = all_true test xs (both (test x) (list_all test xs) e).1 k d (omega arith)

-- ---- the sum of the sizes of global variables

under : (n : ℕ) → nat_le n MOST_GLOBALS ≡ true → n ≤ MOST_GLOBALS
under n e = grind (arith, nat_tests)

taken_if : (b : Bool) (x : Option Refusal) (r : Refusal) → cond b x (Some r) ≡ None → (b ≡ true) × (x ≡ None)
taken_if true x r e = (refl, e)
taken_if false x r e = cc

abbrev pub rounded_of : Module → GlobalVar → ℕ
rounded_of m g = rounded_size (alloc_size m g.ty)

sum_under : (m : Module) (total : ℕ) (globals : List GlobalVar) → total ≤ MOST_GLOBALS → globals_limit m total globals ≡ None
    → fold (λ (sum : ℕ) (g : GlobalVar). sum + rounded_of m g) total globals ≤ MOST_GLOBALS
sum_under m total [] h e = h
sum_under m total (g ∷ globals) h e =
    let two = taken_if (nat_le (total + rounded_of m g) MOST_GLOBALS) (globals_limit m (total + rounded_of m g) globals) _ e in
    sum_under m (total + rounded_of m g) globals (under (total + rounded_of m g) two.0) two.1

-- ---- phis

phi_or_not : (o : Op) → ((ty : ℕ) (entries : List PhiEntry) → o ≡ op.Phi ty entries → ⊥) → is_phi o ≡ false
phi_or_not (op.Phi ty entries) h = absurd (h ty entries refl)
phi_or_not other h = refl

phis_first : (m : Module) (f : Function) (n : ℕ) → IsFirstOf (IsFlowFault m) None → slice_get m.functions n ≡ Some f → All (HasPhisFirst f.insts) f.blocks
phis_first m f n flow there k d within i inst from to at =
    phi_or_not inst.op (λ ty entries is.
    flow _ (record {
      number = n;
      thing = f;
      there = there;
      refused = inr (bad_phi k i ty (get_or f.blocks k d) inst entries
          (record { at = get_at f.blocks k d within; from = omega arith; to = to; there = at }) is
          (λ good. let leading : i < (get_or f.blocks k d).first + (get_or f.blocks k d).phis = good.leading in absurd (omega arith)));
    }))

-- ---- modules

pub accepted_can_be_run : AcceptedCanBeRun
accepted_can_be_run m resolved types flow limits =
    let functions_none = none_second (count_limit m.functions) _ limits in
    let nodes_none = none_second (first_among function_limit m.functions) _ functions_none in
    let globals_none = none_second (at_most (length m.meta) MOST_NODES MetaNodes start_of_text) _ nodes_none in
    let room_none : globals_limit m 0 m.globals ≡ None = none_first (globals_limit m 0 m.globals) _ globals_none in
    let small : has_small_types m ≡ true = holds (has_small_types m) (TooLarge TypeSize) start_of_text (none_second (globals_limit m 0 m.globals) _ globals_none) in
    let two = both (list_all is_small m.layouts) (list_all has_small_variables m.functions) small in
    let layouts : list_all is_small (map capped (exact_layouts m.types m.fields)) ≡ true = subst (λ (l : List TypeLayout). list_all is_small l ≡ true) resolved.outside.layouts two.0 in
    let sizes = λ (n : ℕ). small_at (exact_layouts m.types m.fields) n layouts in
    let globals = none_among (global_fault m) m.globals (none_first (first_among (global_fault m) m.globals) _ (none_second (loop_fault m) _ types)) in
    let all_small = all_true has_small_variables m.functions two.1 in
    record {
      resolved = resolved;
      sizes = λ n there known. sizes n;
      globals = λ k d within.
          let g : GlobalVar = get_or m.globals k d in
          let ok = both g.fits (has_size_of m.types m.fields g.ty) (holds (g.fits && has_size_of m.types m.fields g.ty) BadType g.place (globals k d within)) in
          record { fits = ok.0; size = record { sized = ok.1; small = sizes g.ty } };
      room = sum_under m 0 m.globals (omega arith) room_none;
      functions = λ k d within.
          let f : Function = get_or m.functions k d in
          record {
            variables = λ i s there. small_variable (get_or f.allocas i s) (all_true is_small_size f.allocas (all_small k d within) i s there);
            phis_first = phis_first m f k flow (get_at m.functions k d within);
            instructions = instructions_can_be_run m resolved types k d within;
          };
    }
