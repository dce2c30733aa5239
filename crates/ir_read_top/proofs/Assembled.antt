-- The types of a module, by other names for what they are made of.
use Rattle.std.proofs.Common.{◌≡◌, ℕ, List, ◌++◌, Option, Result, Ok, Err, ap, ◌∙◌, subst, sym}
use Rattle.std.specs.Prelude.{IfOk}
use Rattle.ir_core.specs.declared.token.Token.{Token}
use Rattle.ir_core.specs.declared.types.IrType.{IrType}
use Rattle.ir_core.specs.declared.lib_functions.Lib.{Lib}
use Rattle.ir_grammar.specs.declared.spelled.SpelledType.{SpelledType}
use Rattle.ir_grammar.specs.declared.spelled.SpelledItem.{SpelledItem}
use Rattle.ir_grammar.specs.declared.spelled_bodies.SpelledInstruction.{SpelledInstruction}
use Rattle.ir_grammar.specs.Spelled.{Store}
use Rattle.ir_type_numbers.specs.declared.numbering.NumberedTypes.{NumberedTypes}
use Rattle.ir_type_numbers.specs.Numbering.{module_types, module_fields}
use Rattle.ir_functions.specs.Given.{given_types}
use Rattle.ir_read_top.specs.declared.assembly.Outline.{Outline}
use Rattle.ir_read_top.specs.Module.{all_pairs}
use Rattle.ir_read_top.specs.Functions.{numbers_of}
use Rattle.ir_read_top.specs.Assembly.{IsAssembled, IsOutline}
use Rattle.ir_read_top.specs.Texts.{types_of, fields_of}

-- the types with pairs
pub types_from : {E : Type 0} (spelled : List SpelledType) (items : List SpelledItem) (libs : List (Option Lib)) (instructions : List SpelledInstruction) (fields : List ℕ) (given wanted : List IrType) (result : Result NumberedTypes E)
    → given ≡ wanted → IfOk result (λ n. n.types ≡ all_pairs spelled fields given items libs instructions ++ given_types) → IfOk result (λ n. n.fields ≡ fields)
    → IfOk result (λ n. n.types ≡ all_pairs spelled n.fields wanted items libs instructions ++ given_types)
types_from spelled items libs instructions fields given wanted (Err e) same types_are fields_are = tt
types_from spelled items libs instructions fields given wanted (Ok n) same types_are fields_are =
    types_are ∙ (ap (λ t. all_pairs spelled fields t items libs instructions ++ given_types) same ∙ ap (λ f. all_pairs spelled f wanted items libs instructions ++ given_types) (sym fields_are))

outline_is : (text : List ℕ) (tokens : List Token) (store : Store) (numbers : List ℕ) (types : List IrType) (fields : List ℕ) (libs : List (Option Lib)) (o : Outline)
    → numbers ≡ numbers_of text store → types ≡ types_of text store libs → fields ≡ fields_of text store
    → o.numbers.items ≡ numbers → IsAssembled text tokens store numbers types fields o.classes.items libs o.module → IsOutline text tokens store libs o
outline_is text tokens store numbers types fields libs o n t f same a = record {
  numbers = same ∙ n;
  assembled = subst (λ v. IsAssembled text tokens store v (types_of text store libs) (fields_of text store) o.classes.items libs o.module) n
      (subst (λ v. IsAssembled text tokens store numbers v (fields_of text store) o.classes.items libs o.module) t
      (subst (λ v. IsAssembled text tokens store numbers types v o.classes.items libs o.module) f a));
}

-- the outline of what was assembled, unless memory ran out
pub outline_from : {E : Type 0} (text : List ℕ) (tokens : List Token) (store : Store) (numbers : List ℕ) (types : List IrType) (fields : List ℕ) (libs : List (Option Lib)) (result : Result Outline E)
    → numbers ≡ numbers_of text store → types ≡ all_pairs store.types fields (module_types store.types numbers) store.items libs store.bodies.instructions ++ given_types → fields ≡ module_fields store.fields numbers
    → IfOk result (λ o. o.numbers.items ≡ numbers) → IfOk result (λ o. IsAssembled text tokens store numbers types fields o.classes.items libs o.module) → IfOk result (λ o. IsOutline text tokens store libs o)
outline_from text tokens store numbers types fields libs (Err e) n t f same a = tt
outline_from text tokens store numbers types fields libs (Ok o) n t f same a =
    let fields_are : fields ≡ fields_of text store = f ∙ ap (module_fields store.fields) n in
    let types_are : types ≡ types_of text store libs =
    t ∙ (ap (λ v. all_pairs store.types fields (module_types store.types v) store.items libs store.bodies.instructions ++ given_types) n
    ∙ ap (λ v. all_pairs store.types v (module_types store.types (numbers_of text store)) store.items libs store.bodies.instructions ++ given_types) fields_are) in
    outline_is text tokens store numbers types fields libs o n types_are fields_are same a
