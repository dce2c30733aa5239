-- Code is made of each accepted module: its registers, places and addresses are numbers that the code can hold.
use Rattle.std.proofs.Common.{◌≡◌, ◌∙◌, ap, sym, refl, arith, ℕ, zero, suc, ◌<◌, ◌≤◌, ◌^◌, List, [], ◌∷◌, length, get_or, true, nat_le, inl, inr, All, Option, Some, None, IfSome}
use Rattle.std.specs.List.{list_all}
use Rattle.std.proofs.lemmas.Option.{slice_get_cases}
use Rattle.std.proofs.lemmas.Bool.Decides.{nat_tests}
use Rattle.hw_base.specs.declared.numbers.TheConstants.{MOST_SIZE}
use Rattle.ir_core.specs.declared.faults.Limit.{Limit}
use Rattle.ir_core.specs.declared.faults.Limit.TheVariants.{Functions, Blocks, Instructions, MetaNodes, TypeSize}
use Rattle.ir_core.specs.declared.refusals.Place.{Place}
use Rattle.ir_core.specs.declared.faults.Fault.TheVariants.{TooLarge}
use Rattle.ir_core.specs.declared.types.TypeLayout.{TypeLayout}
use Rattle.ir_core.specs.declared.types.TypeLayout.TheVariants.{Known, NoSize, Loop}
use Rattle.ir_core.specs.Layout.{layout_at, layout_size}
use Rattle.ir_core.specs.declared.operands.Operand.{Operand}
use Rattle.ir_core.specs.declared.operands.Operand.TheVariants.{Reg, Int as Literal, Null, Global}
use Rattle.ir_core.specs.declared.operands.Placed.{Placed}
use Rattle.ir_core.specs.declared.operations.Op.{Op}
use Rattle.ir_core.specs.declared.operations.Op.TheVariants as op
use Rattle.ir_core.specs.declared.ir_module.Inst.{Inst}
use Rattle.ir_core.specs.declared.ir_module.Function.{Function}
use Rattle.ir_core.specs.declared.ir_module.Module.{Module}
use Rattle.ir_core.specs.ResolvedBodies.{IsResolvedOperand, IsResolvedPlaced, IsResolvedOp, IsResolvedFunction}
use Rattle.ir_check_types.specs.Order.{first_among, refusal_at}
use Rattle.ir_check_types.specs.Rules.{loop_fault, operation_fault, instruction_fault, instructions_fault, function_fault, name_fault, start_of_text}
use Rattle.ir_check_types.proofs.PassedRules.{none_first, none_second, none_among, holds, both, get_at}
use Rattle.ir_check_flow.specs.Checked.{IsChecked}
use Rattle.ir_check_flow.specs.Limits.{at_most, too_many_at, count_limit, function_limit, is_small, globals_limit, has_small_types, has_small_variables}
use Rattle.ir_check_flow.specs.declared.numbers.TheConstants.{MOST_FUNCTIONS, MOST_BLOCKS, MOST_INSTRUCTIONS, MOST_NODES}
use Rattle.tag_insert.specs.SmallRegisters.{IsSmallOperand, IsSmall, IsSmallOp, IsSmallInst}
use Rattle.tag_insert.specs.SmallSteps.{AreSmallSteps}
use Rattle.tag_insert.specs.Functions.{IsSmallFunction, IsSmallModule}
use Rattle.tag_insert.proofs.SmallFields.{HasSmallTypes, address-small}

-- ---- registers

small-operand : (m : Module) (f : Function) (operand : Operand) → length f.regs < 2 ^ 30 → IsResolvedOperand m f operand → IsSmallOperand operand
small-operand m f (Reg r) few there = omega (arith, few, there)
small-operand m f (Literal n) few there = tt
small-operand m f Null few there = tt
small-operand m f (Global index off) few there = tt

small-placed : (m : Module) (f : Function) (placed : Placed) → length f.regs < 2 ^ 30 → IsResolvedPlaced m f placed → IsSmall placed
small-placed m f placed few there = small-operand m f placed.operand few there.operand

small-all : (m : Module) (f : Function) (all : List Placed) → length f.regs < 2 ^ 30 → All (IsResolvedPlaced m f) all → All IsSmall all
small-all m f all few there k d lt = small-placed m f (get_or all k d) few (there k d lt)

small-if : (m : Module) (f : Function) (value : Option Placed) → length f.regs < 2 ^ 30 → IfSome value (IsResolvedPlaced m f) → IfSome value IsSmall
small-if m f None few there = tt
small-if m f (Some value) few there = small-placed m f value few there

small-op : (m : Module) (f : Function) (o : Op) → length f.regs < 2 ^ 30 → IsResolvedOp m f o → IsSmallOp o
small-op m f (op.Binary kind a b) few (one, two) = (small-placed m f a few one, small-placed m f b few two)
small-op m f (op.Icmp pred a b) few (one, two) = (small-placed m f a few one, small-placed m f b few two)
small-op m f (op.Cast kind a to) few (one, two) = small-placed m f a few one
small-op m f (op.Select cond a b) few (one, two, three) = (small-placed m f cond few one, small-placed m f a few two, small-placed m f b few three)
small-op m f (op.Freeze a) few one = small-placed m f a few one
small-op m f (op.Phi ty entries) few (one, two) = λ k d lt. small-placed m f (get_or entries k d).value few (two k d lt).value
small-op m f (op.Alloca index ty count) few there = tt
small-op m f (op.Load ty at align) few (one, two, three) = small-placed m f at few two
small-op m f (op.Store value at align) few (one, two, three) = (small-placed m f value few one, small-placed m f at few two)
small-op m f (op.Gep ty base indices) few (one, two, three) = (small-placed m f base few two, small-all m f indices few three)
small-op m f op.Fence few there = tt
small-op m f (op.Rmw kind at value align) few (one, two, three) = (small-placed m f at few one, small-placed m f value few two)
small-op m f (op.CmpXchg at expected new align) few (one, two, three, four) =
    (small-placed m f at few one, small-placed m f expected few two, small-placed m f new few three)
small-op m f (op.ExtractValue pair part) few one = small-placed m f pair few one
small-op m f (op.Call func result args) few (one, two, three) = small-all m f args few three
small-op m f (op.CallLib declare result args start) few (one, two, three, four) = small-all m f args few three
small-op m f (op.Br block) few there = tt
small-op m f (op.BrIf cond yes_block no_block) few (one, two, three) = small-placed m f cond few one
small-op m f (op.Switch on other cases) few (one, two, three) = small-placed m f on few one
small-op m f (op.Ret value) few there = small-if m f value few there
small-op m f op.Unreachable few there = tt

small-result : (r : Option ℕ) (most : ℕ) → most < 2 ^ 30 → ((n : ℕ) → r ≡ Some n → n < most) → IfSome r (λ n. n < 2 ^ 30)
small-result None most few there = tt
small-result (Some n) most few there = let less = there n refl in omega (arith, few, less)

small-inst : (m : Module) (f : Function) → IsResolvedFunction m f → All IsSmallInst f.insts
small-inst m f resolved k d lt =
    let inst = get_or f.insts k d in
    record {
      op = small-op m f inst.op resolved.registers.few (resolved.instructions k d lt);
      result = small-result inst.result (length f.regs) resolved.registers.few
          (λ n is. (resolved.registers.result k n inst (get_at f.insts k d lt) is).1);
    }

-- ---- addresses

small-steps : (m : Module) (f : Function) (inst : Inst) (o : Op) → HasSmallTypes m → operation_fault m f inst.place o ≡ None → AreSmallSteps m o
small-steps m f inst (op.Gep ty base indices) small none = address-small m f inst.place ty base indices small none
small-steps m f inst other small none = tt

small-addresses : (m : Module) (f : Function) → HasSmallTypes m → function_fault m f ≡ None → All (λ (inst : Inst). AreSmallSteps m inst.op) f.insts
small-addresses m f small none k d lt =
    let inst = get_or f.insts k d in
    let all = none_among (instruction_fault m f) f.insts (none_second _ (instructions_fault m f f.insts) none) in
    small-steps m f inst inst.op small (none_second (name_fault m inst) (operation_fault m f inst.place inst.op) (all k d lt))

-- ---- how many there are

under : (count most : ℕ) (limit : Limit) (place : Place) → at_most count most limit place ≡ None → count ≤ most
under count most limit place none = let test : nat_le count most ≡ true = holds (nat_le count most) (TooLarge limit) place none in grind (arith, nat_tests)

few-functions : (functions : List Function) → count_limit functions ≡ None → length functions ≤ MOST_FUNCTIONS
few-functions functions none =
    elim ((slice_get_cases functions MOST_FUNCTIONS).1) [
      | inl (f, inside, there, same) ↦ let some : Some (refusal_at (TooLarge Functions) f.place) ≡ None = sym (ap too_many_at there) ∙ none in cc
      | inr (few, past) ↦ few
    ]

-- ---- modules

small-function :
    (m : Module) (f : Function) → HasSmallTypes m → IsResolvedFunction m f → function_fault m f ≡ None → function_limit f ≡ None → IsSmallFunction m f
small-function m f small resolved none limit =
    let blocks = under (length f.blocks) MOST_BLOCKS Blocks f.place (none_first _ (at_most (length f.insts) MOST_INSTRUCTIONS Instructions f.place) limit) in
    let insts = under (length f.insts) MOST_INSTRUCTIONS Instructions f.place (none_second (at_most (length f.blocks) MOST_BLOCKS Blocks f.place) _ limit) in
    record {
      registers = resolved.registers.few;
      insts = small-inst m f resolved;
      steps = small-addresses m f small none;
      few = omega (arith, insts);
      blocks = omega (arith, blocks);
    }

small-layout : (layout : TypeLayout) → is_small layout ≡ true → layout_size layout ≤ MOST_SIZE
small-layout (Known size align) test = grind (arith, nat_tests)
small-layout NoSize test = omega arith
small-layout Loop test = omega arith

small-at : (layouts : List TypeLayout) → list_all is_small layouts ≡ true → (n : ℕ) → layout_size (layout_at layouts n) ≤ MOST_SIZE
small-at [] test n = omega arith
small-at (layout ∷ layouts) test zero = small-layout layout (both (is_small layout) (list_all is_small layouts) test).0
small-at (layout ∷ layouts) test (suc n) = small-at layouts (both (is_small layout) (list_all is_small layouts) test).1 n

small-types : (m : Module) → IsChecked m → HasSmallTypes m
small-types m checked =
    let after = none_second (first_among function_limit m.functions) _ (none_second (count_limit m.functions) _ checked.limits) in
    let last = none_second (globals_limit m 0 m.globals) _ (none_second (at_most (length m.meta) MOST_NODES MetaNodes start_of_text) _ after) in
    let test : has_small_types m ≡ true = holds (has_small_types m) (TooLarge TypeSize) start_of_text last in
    let layouts = (both (list_all is_small m.layouts) (list_all has_small_variables m.functions) test).0 in
    let outside = checked.runnable.resolved.outside in
    record { layouts = outside.layouts; types = outside.types; small = small-at m.layouts layouts }

pub accepted-is-small : (m : Module) → IsChecked m → IsSmallModule m
accepted-is-small m checked =
    let functions = few-functions m.functions (none_first (count_limit m.functions) _ checked.limits) in
    let limits = none_among function_limit m.functions (none_first (first_among function_limit m.functions) _ (none_second (count_limit m.functions) _ checked.limits)) in
    let typed = none_second _ (first_among (function_fault m) m.functions) (none_second _ _ (none_second (loop_fault m) _ checked.types)) in
    let types = none_among (function_fault m) m.functions typed in
    let small = small-types m checked in
    record {
      functions = λ k d lt.
          small-function m (get_or m.functions k d) small (checked.runnable.resolved.functions k d lt) (types k d lt) (limits k d lt);
      few = omega (arith, functions);
    }
