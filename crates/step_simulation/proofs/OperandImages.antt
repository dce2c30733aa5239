-- The machine's operand is the image of the source's value.
use Rattle.std.proofs.Common.{◌≡◌, ℕ, ◌<◌, List, length, map, slice_get, Option, Some, None, option_map, option_and_then, refl, sym, ◌∙◌, ap, subst, inl, inr, arith}
use Rattle.std.specs.Option.{option_flatten}
use Rattle.std.proofs.lemmas.Option.{slice_get-map, slice_get_cases}
use Rattle.hw_base.specs.declared.pointers.Base.TheVariants.{Null as NullBase, Object}
use Rattle.ir_core.specs.declared.types.IrType.{IrType}
use Rattle.ir_core.specs.declared.types.IrType.TheVariants.{Void, Int, Ptr, Array, Struct, Opaque, Pair}
use Rattle.ir_core.specs.declared.operands.Operand.{Operand}
use Rattle.ir_core.specs.declared.operands.Operand.TheVariants.{Reg, Int as Literal, Null, Global}
use Rattle.global_tags.specs.declared.descriptor.Descriptor.{Descriptor}
use Rattle.global_tags.specs.GlobalPlaces.{number_of as descriptor_number, global_number}
use Rattle.ir_meaning.specs.Values.{Value, Integer, Address, IntegerAndBit}
use Rattle.ir_meaning.specs.Operands.{of_kind, constant_value, value_by}
use Rattle.ir_machine.specs.Operands.{operand_number, second_part}
use Rattle.mi_code.specs.MachineOperands.{machine_operand}
use Rattle.tag_story.specs.Story.{Placed, StoryBirth, get_placed, placed_in, number_in, number_of, value_image}
use Rattle.simulation.specs.Parts.{IsBorn, IsKnownValue, HasRegisters}

-- a value of the kind of a type is that value
pub of_kind-same : (type : IrType) (u v : Value) → of_kind type u ≡ Some v → u ≡ v
of_kind-same Void u v h = absurd cc
of_kind-same (Int width) (Integer n) v h = cc
of_kind-same (Int width) (Address base off) v h = absurd cc
of_kind-same (Int width) (IntegerAndBit n bit) v h = absurd cc
of_kind-same Ptr (Integer n) v h = absurd cc
of_kind-same Ptr (Address base off) v h = cc
of_kind-same Ptr (IntegerAndBit n bit) v h = absurd cc
of_kind-same (Array count item) u v h = absurd cc
of_kind-same (Struct first count packed) u v h = absurd cc
of_kind-same Opaque u v h = absurd cc
of_kind-same (Pair width) (Integer n) v h = absurd cc
of_kind-same (Pair width) (Address base off) v h = absurd cc
of_kind-same (Pair width) (IntegerAndBit n bit) v h = cc

-- a register whose value is read holds it
pub register-holds : (type : IrType) (registers : List (Option Value)) (r : ℕ) (v : Value) → value_by type registers (Reg r) ≡ Some v → slice_get registers r ≡ Some (Some v)
register-holds type registers r v h = by_slot (slice_get registers r) refl h
  where
    by_slot : (slot : Option (Option Value)) → slice_get registers r ≡ slot → option_and_then (of_kind type) (option_flatten slot) ≡ Some v → slice_get registers r ≡ Some (Some v)
    by_slot None here e = absurd cc
    by_slot (Some None) here e = absurd cc
    by_slot (Some (Some u)) here e = here ∙ ap (λ w. Some (Some w)) (of_kind-same type u v e)

constant-image : (births : List StoryBirth) (type : IrType) (n : ℕ) (v : Value) → constant_value type n ≡ Some v → (n ≡ value_image births v) × IsKnownValue births v
constant-image births Void n v h = absurd cc
constant-image births (Int width) n v h = let is : Integer n ≡ v = cc in subst (λ w. (n ≡ value_image births w) × IsKnownValue births w) is (refl, tt)
constant-image births Ptr n v h = let is : Address NullBase n ≡ v = cc in subst (λ w. (n ≡ value_image births w) × IsKnownValue births w) is (refl, tt)
constant-image births (Array count item) n v h = absurd cc
constant-image births (Struct first count packed) n v h = absurd cc
constant-image births Opaque n v h = absurd cc
constant-image births (Pair width) n v h = let is : IntegerAndBit n 0 ≡ v = cc in subst (λ w. (n ≡ value_image births w) × IsKnownValue births w) is (refl, tt)

abbrev pub placed_descriptor : Descriptor → Placed
placed_descriptor d = record { at = d.at; size = d.size; tag = d.tag }

-- the globals of the machine are the first birth of the story
pub record AreGlobals (births : List StoryBirth) (globals : List Descriptor) : Type 0 where
  pub birth : StoryBirth
  pub there : slice_get births 0 ≡ Some birth
  pub objects : birth.objects ≡ map placed_descriptor globals

global-image : (births : List StoryBirth) (globals : List Descriptor) (index off : ℕ) → AreGlobals births globals → index < length globals → (global_number globals index off ≡ number_of births (Object (record { birth = 0; index = index })) off) × IsBorn births (record { birth = 0; index = index })
global-image births globals index off are below = by_descriptor (slice_get globals index) refl
  where
    placed : get_placed births (record { birth = 0; index = index }) ≡ option_map placed_descriptor (slice_get globals index)
    placed =
        ap (λ b. placed_in b index) are.there
        ∙ ap (λ objects. slice_get objects index) are.objects
        ∙ slice_get-map placed_descriptor globals index

    by_descriptor : (o : Option Descriptor) → slice_get globals index ≡ o → (descriptor_number (slice_get globals index) off ≡ number_of births (Object (record { birth = 0; index = index })) off) × IsBorn births (record { birth = 0; index = index })
    by_descriptor None here =
        elim (slice_get_cases globals index).1 [
          | inl some ↦ let found = some.2 in absurd cc
          | inr past ↦ let most = past.0 in absurd (omega arith)
        ]
    by_descriptor (Some d) here =
        let found : get_placed births (record { birth = 0; index = index }) ≡ Some (placed_descriptor d) = placed ∙ ap (option_map placed_descriptor) here in
        (ap (λ x. descriptor_number x off) here ∙ sym (ap (λ x. number_in x off) found), (placed_descriptor d, found))

-- an operand's global is there, with the others
abbrev pub IsOperandThere : List StoryBirth → List Descriptor → Operand → Type 0
IsOperandThere births globals (Reg r) = Unit {0}
IsOperandThere births globals (Literal n) = Unit {0}
IsOperandThere births globals Null = Unit {0}
IsOperandThere births globals (Global index off) = AreGlobals births globals × (index < length globals)

-- the number of an operand is the image of its value, which names an object that was born
pub operand-image : (births : List StoryBirth) (globals : List Descriptor) (type : IrType) (values : List (Option Value)) (numbers : List ℕ) (operand : Operand) (v : Value) → HasRegisters births values numbers → IsOperandThere births globals operand → value_by type values operand ≡ Some v → (operand_number globals numbers (machine_operand operand) ≡ value_image births v) × IsKnownValue births v
operand-image births globals type values numbers (Reg r) v has there h =
    let holds = register-holds type values r v h in
    (has.number r v holds, has.known r v holds)
operand-image births globals type values numbers (Literal n) v has there h = constant-image births type n v h
operand-image births globals type values numbers Null v has there h = constant-image births type 0 v h
operand-image births globals type values numbers (Global index off) v has there h =
    let is : Address (Object (record { birth = 0; index = index })) off ≡ v = of_kind-same type _ v h in
    subst (λ w. (global_number globals index off ≡ value_image births w) × IsKnownValue births w) is
    (global-image births globals index off there.0 there.1)

constant-bit : (type : IrType) (n m bit : ℕ) → constant_value type n ≡ Some (IntegerAndBit m bit) → 0 ≡ bit
constant-bit Void n m bit h = absurd cc
constant-bit (Int width) n m bit h = absurd cc
constant-bit Ptr n m bit h = absurd cc
constant-bit (Array count item) n m bit h = absurd cc
constant-bit (Struct first count packed) n m bit h = absurd cc
constant-bit Opaque n m bit h = absurd cc
constant-bit (Pair width) n m bit h = cc

-- the second part of a pair is its bit
pub second-image : (births : List StoryBirth) (type : IrType) (values : List (Option Value)) (numbers : List ℕ) (operand : Operand) (n bit : ℕ) → HasRegisters births values numbers → value_by type values operand ≡ Some (IntegerAndBit n bit) → second_part numbers (machine_operand operand) ≡ bit
second-image births type values numbers (Reg r) n bit has h = has.bit r (IntegerAndBit n bit) (register-holds type values r (IntegerAndBit n bit) h)
second-image births type values numbers (Literal k) n bit has h = constant-bit type k n bit h
second-image births type values numbers Null n bit has h = constant-bit type 0 n bit h
second-image births type values numbers (Global index off) n bit has h =
    let is : Address (Object (record { birth = 0; index = index })) off ≡ IntegerAndBit n bit = of_kind-same type _ _ h in
    absurd cc
