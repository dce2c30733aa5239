-- The types of values are there, also those that aren't spelled: their numbers are below how many types a module has.
use Rattle.std.proofs.Common.{◌≡◌, ℕ, ◌+◌, ◌<◌, ◌≤◌, ◌==◌, List, [], ◌∷◌, ◌++◌, map, length, get_or, Bool, true, false, Option, Some, None, All, if◌then◌else◌, arith, refl}
use Rattle.std.specs.Prelude.{nat_le}
use Rattle.std.proofs.lemmas.Bool.{leb-true}
use Rattle.std.proofs.lemmas.List.Elements.{All-nil, All-cons, All-append, All-map}
use Rattle.std.specs.List.{slice_get}
use Rattle.ir_core.specs.declared.types.IrType.{IrType}
use Rattle.ir_core.specs.declared.types.IrType.TheVariants.{Int}
use Rattle.ir_core.specs.declared.ir_module.Module.{Module}
use Rattle.ir_core.specs.ResolvedBodies.{IsType}
use Rattle.ir_grammar.specs.declared.spelled.SpelledParameter.{SpelledParameter}
use Rattle.ir_grammar.specs.declared.spelled_bodies.SpelledOperation.{SpelledOperation}
use Rattle.ir_grammar.specs.declared.spelled_bodies.SpelledOperation.TheVariants as operations
use Rattle.ir_grammar.specs.declared.spelled_bodies.SpelledInstruction.{SpelledInstruction}
use Rattle.ir_grammar.specs.SoundStore.{Counts, IsSoundOperation, IsSoundParameter}
use Rattle.ir_read_items.specs.Rows.{Each}
use Rattle.ir_functions.specs.Given.{is_given_width, void_number, integer_number, pair_number, pair_of, part_number, part_of}
use Rattle.ir_functions.specs.Scope.{Scope, spelled_types, type_number}
use Rattle.ir_functions.specs.Instructions.{token_bytes, pair_part, bit_type, pointer_type, pair_type, value_type, has_register}
use Rattle.ir_functions.specs.Functions.{register_types}
use Rattle.ir_resolved.specs.Grounds.{HasGrounds}

-- ---- pairs and their parts

pair_by : (b : Bool) (spelled width n : ℕ) → nat_le width 128 ≡ b → spelled + 258 ≤ n → (if b then pair_number spelled width else void_number spelled) < n
pair_by true spelled width n e h = let w = leb-true width 128 e in omega arith
pair_by false spelled width n e h = omega arith

pair_below : (spelled n : ℕ) (o : Option IrType) → spelled + 258 ≤ n → pair_of spelled o < n
pair_below spelled n (Some (Int width)) h = pair_by (is_given_width width) spelled width n refl h
pair_below spelled n other h = omega arith

part_number_below : (b : Bool) (spelled width n : ℕ) → width ≤ 128 → spelled + 258 ≤ n → (if b then integer_number spelled width else integer_number spelled 1) < n
part_number_below true spelled width n w h = omega arith
part_number_below false spelled width n w h = omega arith

part_by : (b : Bool) (spelled part width n : ℕ) → nat_le width 128 ≡ b → spelled + 258 ≤ n
    → (if b then part_number spelled part width else void_number spelled) < n
part_by true spelled part width n e h = part_number_below (part == 0) spelled width n (leb-true width 128 e) h
part_by false spelled part width n e h = omega arith

part_below : (spelled n : ℕ) (part : Option ℕ) (o : Option IrType) → spelled + 258 ≤ n → part_of spelled part o < n
part_below spelled n None o h = omega arith
part_below spelled n (Some part) (Some (Int width)) h = part_by (is_given_width width) spelled part width n refl h
part_below spelled n (Some part) other h = omega arith

module _ (s : Scope) (m : Module) (counts : Counts) (g : HasGrounds s m counts) where
  pub bit_there : IsType m (bit_type s)
  bit_there = let h = g.many in omega arith

  pub pointer_there : IsType m (pointer_type s)
  pointer_there = let h = g.many in omega arith

  void_there : IsType m (void_number (spelled_types s))
  void_there = let h = g.many in omega arith

  pub pair_there : (ty : ℕ) → IsType m (pair_type s ty)
  pair_there ty = pair_below (spelled_types s) (length m.types) (slice_get s.tables.types (type_number s ty)) g.many

  -- ---- values

  value_there : (o : SpelledOperation) → IsSoundOperation counts o → IsType m (value_type s o)
  value_there (operations.Binary a b) h = g.below a.ty h.0.0
  value_there (operations.Icmp p a b) h = bit_there
  value_there (operations.Cast a to) h = g.below to h.1
  value_there (operations.Freeze a) h = g.below a.ty h.0
  value_there (operations.Select condition a b) h = g.below a.ty h.1.0
  value_there (operations.Phi ty first count) h = g.below ty h.0
  value_there (operations.Alloca ty count stated) h = pointer_there
  value_there (operations.Load ty pointer stated) h = g.below ty h.0
  value_there (operations.Store value pointer stated) h = void_there
  value_there (operations.GetElementPtr of base first count) h = pointer_there
  value_there operations.Fence h = void_there
  value_there (operations.AtomicRmw operator pointer value stated) h = g.below value.ty h.1.0
  value_there (operations.CmpXchg pointer expected new stated) h = pair_there new.ty
  value_there (operations.ExtractValue of value part) h =
      part_below (spelled_types s) (length m.types) (pair_part (token_bytes s part)) (slice_get s.tables.types (type_number s of)) g.many
  value_there (operations.Call name result first count) h = g.below result h.0
  value_there (operations.Return ty value) h = void_there
  value_there (operations.Jump block) h = void_there
  value_there (operations.Branch condition yes_block no_block) h = void_there
  value_there (operations.Switch value other first count) h = void_there
  value_there operations.Unreachable h = void_there

  type_if : (b : Bool) (ty : ℕ) (tys : List ℕ) → IsType m ty → All (IsType m) tys → All (IsType m) (if b then ty ∷ tys else tys)
  type_if true ty tys h k = All-cons (IsType m) ty tys h k
  type_if false ty tys h k = k

  results_there : (is : List SpelledInstruction) → Each (λ (i : SpelledInstruction). IsSoundOperation counts i.operation) is → All (IsType m) (register_types s is)
  results_there [] h = All-nil (IsType m)
  results_there (i ∷ is) h =
      type_if (has_register s i) (value_type s i.operation) (register_types s is) (value_there i.operation h.0) (results_there is h.1)

  -- the types of parameters and results
  pub register_types_there : (ps : List SpelledParameter) (is : List SpelledInstruction) → All (IsSoundParameter counts) ps
      → Each (λ (i : SpelledInstruction). IsSoundOperation counts i.operation) is
      → All (IsType m) (map (λ (p : SpelledParameter). type_number s p.ty) ps ++ register_types s is)
  register_types_there ps is h k =
      All-append (IsType m) (map (λ (p : SpelledParameter). type_number s p.ty) ps) (register_types s is)
      (All-map (IsType m) (λ (p : SpelledParameter). type_number s p.ty) ps (λ i d inside. g.below (get_or ps i d).ty (h i d inside)))
      (results_there is k)
