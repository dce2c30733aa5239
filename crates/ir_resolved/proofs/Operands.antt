-- Operands whose names and types are there are those of a function whose names are resolved.
use Rattle.std.proofs.Common.{◌≡◌, ℕ, ◌<◌, ◌==◌, List, map, slice_get, length, Bool, true, false, Option, Some, None, IfSome, All, if◌then◌else◌, refl}
use Rattle.std.specs.Option.{option_map}
use Rattle.ir_core.specs.declared.refusals.Place.{Place}
use Rattle.ir_core.specs.declared.types.IrType.{IrType}
use Rattle.ir_core.specs.declared.types.IrType.TheVariants.{Int, Ptr, Pair}
use Rattle.ir_core.specs.declared.operands.Operand.{Operand}
use Rattle.ir_core.specs.declared.operands.Operand.TheVariants.{Reg, Int as Number, Null, Global}
use Rattle.ir_core.specs.declared.ir_module.Function.{Function}
use Rattle.ir_core.specs.declared.ir_module.Module.{Module}
use Rattle.ir_core.specs.ResolvedBodies.{IsType, IsResolvedPlaced, IsResolvedEntry, IsResolvedCase}
use Rattle.ir_grammar.specs.declared.spelled.SpelledConstant.{SpelledConstant}
use Rattle.ir_grammar.specs.declared.spelled.SpelledConstant.TheVariants as constants
use Rattle.ir_grammar.specs.declared.spelled_bodies.SpelledOperand.{SpelledOperand}
use Rattle.ir_grammar.specs.declared.spelled_bodies.SpelledOperand.TheVariants as operands
use Rattle.ir_grammar.specs.declared.spelled_bodies.TypedOperand.{TypedOperand}
use Rattle.ir_grammar.specs.declared.spelled_bodies.SpelledIncoming.{SpelledIncoming}
use Rattle.ir_grammar.specs.declared.spelled_bodies.SpelledCase.{SpelledCase}
use Rattle.ir_grammar.specs.Grammar.{nesting_limit}
use Rattle.ir_grammar.specs.SoundStore.{Counts, IsSoundTyped, IsSoundCount, IsSoundIncoming, IsSoundCase}
use Rattle.ir_read_items.specs.Rows.{Each}
use Rattle.ir_first_values.specs.Tables.{Tables, type_at, integer_in}
use Rattle.ir_first_values.specs.Addresses.{address_of, if_there}
use Rattle.ir_first_values.specs.FirstValues.{bool_in, operand_of}
use Rattle.ir_first_values.specs.Operands.{number_operand, integer_operand, address_operand, pair_operand, typed_operand, constant_operand}
use Rattle.ir_functions.specs.Scope.{Scope, type_number, placed_constant, placed, typed, typed_row, phi_entry, switch_case}
use Rattle.ir_resolved.specs.Grounds.{HasGrounds}
use Rattle.ir_resolved.proofs.Lists.{all_made}
use Rattle.ir_resolved.proofs.Leads.{OperandLeads, TypedLeads, CountLeads, ReturnedLeads, IncomingLeads, CaseLeads}

-- ---- a constant is no register

abbrev IsPlain : Option Operand → Type 0
IsPlain (Some (Reg r)) = ⊥
IsPlain other = Unit {0}

number_plain : (o : Option ℕ) → IsPlain (number_operand o)
number_plain None = tt
number_plain (Some n) = tt

integer_plain : (width : ℕ) (c : SpelledConstant) → IsPlain (integer_operand width c)
integer_plain width (constants.Integer i) = number_plain (integer_in width i)
integer_plain width (constants.Bool b) = number_plain (bool_in b width)
integer_plain width constants.Zero = tt
integer_plain width other = tt

null_plain : (b : Bool) (offset : ℕ) → IsPlain (Some (if b then Null else Number offset))
null_plain true offset = tt
null_plain false offset = tt

address_at_plain : (variable : Option ℕ) (offset : ℕ) → IsPlain (Some (operand_of variable offset))
address_at_plain (Some g) offset = tt
address_at_plain None offset = null_plain (offset == 0) offset

address_plain : (t : Tables) (constant : ℕ) → IsPlain (address_operand (address_of nesting_limit t constant))
address_plain t constant =
    elim (address_of nesting_limit t constant) as (λ a. IsPlain (address_operand a)) [ None ↦ tt | Some a ↦ address_at_plain a.variable a.offset ]

pair_plain : (c : SpelledConstant) → IsPlain (pair_operand c)
pair_plain constants.Zero = tt
pair_plain other = tt

typed_plain : (t : Tables) (constant : ℕ) (c : SpelledConstant) (ty : Option IrType) → IsPlain (typed_operand (address_of nesting_limit t constant) c ty)
typed_plain t constant c (Some (Int width)) = integer_plain width c
typed_plain t constant c (Some Ptr) = address_plain t constant
typed_plain t constant c (Some (Pair width)) = pair_plain c
typed_plain t constant c other = tt

there_plain : (t : Tables) (constant : ℕ) (ty : Option IrType) (o : Option SpelledConstant)
    → IsPlain (if_there o (λ (c : SpelledConstant). typed_operand (address_of nesting_limit t constant) c ty))
there_plain t constant ty None = tt
there_plain t constant ty (Some c) = typed_plain t constant c ty

constant_plain : (t : Tables) (ty constant : ℕ) → IsPlain (constant_operand t ty constant)
constant_plain t ty constant = there_plain t constant (type_at t ty) (slice_get t.constants constant)

-- ---- operands keep their type

constant-ty : (ty : ℕ) (place : Place) (o : Option Operand) → (placed_constant ty place o).ty ≡ ty
constant-ty ty place None = refl
constant-ty ty place (Some operand) = refl

placed-ty : (s : Scope) (ty : ℕ) (x : SpelledOperand) → (placed s ty x).ty ≡ ty
placed-ty s ty (operands.Register name) = refl
placed-ty s ty (operands.Constant first number) = constant-ty ty first.place (constant_operand s.tables ty number)

pub typed-ty : (s : Scope) (x : TypedOperand) → (typed s x).ty ≡ type_number s x.ty
typed-ty s x = placed-ty s (type_number s x.ty) x.value

-- ---- operands

constant_there : (m : Module) (fn : Function) (ty : ℕ) (place : Place) (o : Option Operand) → IsPlain o
    → ((index off : ℕ) → o ≡ Some (Global index off) → index < length m.globals) → IsType m ty → IsResolvedPlaced m fn (placed_constant ty place o)
constant_there m fn ty place None plain g h = record { operand = tt; type = h }
constant_there m fn ty place (Some (Reg r)) plain g h = absurd plain
constant_there m fn ty place (Some (Number n)) plain g h = record { operand = tt; type = h }
constant_there m fn ty place (Some Null) plain g h = record { operand = tt; type = h }
constant_there m fn ty place (Some (Global index off)) plain g h = record { operand = g index off refl; type = h }

module _ (s : Scope) (m : Module) (counts : Counts) (fn : Function) (g : HasGrounds s m counts) where
  pub placed_there : (ty : ℕ) (x : SpelledOperand) → IsType m ty → OperandLeads s fn x → IsResolvedPlaced m fn (placed s ty x)
  placed_there ty (operands.Register name) h u = record { operand = u; type = h }
  placed_there ty (operands.Constant first number) h u =
      constant_there m fn ty first.place (constant_operand s.tables ty number) (constant_plain s.tables ty number)
      (λ index off e. g.globals ty number index off e) h

  pub typed_there : (x : TypedOperand) → IsSoundTyped counts x → TypedLeads s fn x → IsResolvedPlaced m fn (typed s x)
  typed_there x h u = placed_there (type_number s x.ty) x.value (g.below x.ty h.0) u

  pub count_there : (o : Option TypedOperand) → IsSoundCount counts o → CountLeads s fn o → IfSome (option_map (typed s) o) (IsResolvedPlaced m fn)
  count_there None h u = tt
  count_there (Some x) h u = typed_there x h u

  pub returned_there : (ty : ℕ) (o : Option SpelledOperand) → IsType m ty → ReturnedLeads s fn o → IfSome (option_map (placed s ty) o) (IsResolvedPlaced m fn)
  returned_there ty None h u = tt
  returned_there ty (Some x) h u = placed_there ty x h u

  -- ---- rows

  pub row_there : (xs : List TypedOperand) → Each (IsSoundTyped counts) xs → Each (TypedLeads s fn) xs → All (IsResolvedPlaced m fn) (typed_row s xs)
  row_there xs h u = all_made (IsSoundTyped counts) (TypedLeads s fn) (IsResolvedPlaced m fn) (typed s) typed_there xs h u

  entry_there : (ty : ℕ) → IsType m ty → (x : SpelledIncoming) → IsSoundIncoming counts x → IncomingLeads s fn x → IsResolvedEntry m fn (phi_entry s ty x)
  entry_there ty t x h u = record { value = placed_there ty x.value t u.0; block = u.1 }

  pub entries_there : (ty : ℕ) (xs : List SpelledIncoming) → IsType m ty → Each (IsSoundIncoming counts) xs → Each (IncomingLeads s fn) xs
      → All (IsResolvedEntry m fn) (map (phi_entry s ty) xs)
  entries_there ty xs t h u = all_made (IsSoundIncoming counts) (IncomingLeads s fn) (IsResolvedEntry m fn) (phi_entry s ty) (entry_there ty t) xs h u

  case_there : (x : SpelledCase) → IsSoundCase counts x → CaseLeads s fn x → IsResolvedCase m fn (switch_case s x)
  case_there x h u = record { value = typed_there x.value h u.0; block = u.1 }

  pub cases_there : (xs : List SpelledCase) → Each (IsSoundCase counts) xs → Each (CaseLeads s fn) xs → All (IsResolvedCase m fn) (map (switch_case s) xs)
  cases_there xs h u = all_made (IsSoundCase counts) (CaseLeads s fn) (IsResolvedCase m fn) (switch_case s) case_there xs h u
