-- A call whose names are there is one of a function whose names are resolved.
use Rattle.std.proofs.Common.{◌≡◌, ℕ, ◌<◌, List, take, drop, slice_get, length, Bool, true, false, Option, Some, None, IfSome, if◌then◌else◌, refl, subst}
use Rattle.ir_core.specs.declared.token.Token.{Token}
use Rattle.ir_core.specs.declared.operands.StartArg.{StartArg}
use Rattle.ir_core.specs.declared.ir_module.Declare.{Declare}
use Rattle.ir_core.specs.declared.ir_module.Function.{Function}
use Rattle.ir_core.specs.declared.ir_module.Module.{Module}
use Rattle.ir_core.specs.ResolvedBodies.{IsType, IsResolvedStart, IsResolvedOp}
use Rattle.ir_grammar.specs.declared.spelled.SpelledConstant.{SpelledConstant}
use Rattle.ir_grammar.specs.declared.spelled.SpelledConstant.TheVariants as constants
use Rattle.ir_grammar.specs.declared.spelled_bodies.SpelledOperand.{SpelledOperand}
use Rattle.ir_grammar.specs.declared.spelled_bodies.SpelledOperand.TheVariants as operands
use Rattle.ir_grammar.specs.declared.spelled_bodies.TypedOperand.{TypedOperand}
use Rattle.ir_grammar.specs.SoundStore.{Counts, IsSoundTyped}
use Rattle.ir_read_items.specs.Rows.{Each}
use Rattle.ir_names.specs.Keys.{global_key}
use Rattle.ir_functions.specs.Scope.{Scope, type_number}
use Rattle.ir_functions.specs.Instructions.{defined_function, declared_function, is_thread_start, named_function, start_at, start_operand, start_argument, start_of, arguments_beside, call_of}
use Rattle.ir_functions.proofs.Positions.{first_below}
use Rattle.ir_resolved.specs.Grounds.{HasGrounds}
use Rattle.ir_resolved.proofs.Lists.{each_append, each_take, each_drop, each_got}
use Rattle.ir_resolved.proofs.Leads.{TypedLeads}
use Rattle.ir_resolved.proofs.Operands.{row_there}

-- what holds of each argument holds of those beside the start function
each_beside : (P : TypedOperand → Type 0) (start : Option StartArg) (xs : List TypedOperand) → Each P xs → Each P (arguments_beside start xs)
each_beside P None xs h = h
each_beside P (Some start) xs h = each_append P (take 2 xs) (drop 3 xs) (each_take P 2 xs h) (each_drop P 3 xs h)

module _ (s : Scope) (m : Module) (counts : Counts) (fn : Function) (g : HasGrounds s m counts) where
  -- ---- functions

  defined_below : (name : Token) (k : ℕ) → defined_function s name ≡ Some k → k < length m.functions
  defined_below name k e = subst (λ n. k < n) g.functions (first_below (global_key s.names.source name) s.names.functions k e)

  declared_below : (name : Token) (k : ℕ) → declared_function s name ≡ Some k → k < length m.declares
  declared_below name k e = subst (λ n. k < n) g.declares (first_below (global_key s.names.source name) s.names.declares k e)

  -- ---- the start function

  named_below : (o : Option SpelledConstant) (k : ℕ) → named_function s o ≡ Some k → k < length m.functions
  named_below (Some (constants.Global name)) k e = defined_below name k e
  named_below other k e = absurd (let f : None ≡ Some k = e in cc)

  start_at_there : (ty : ℕ) (first : Token) (o : Option ℕ) → IsType m ty → ((k : ℕ) → o ≡ Some k → k < length m.functions)
      → IfSome (start_at ty first o) (IsResolvedStart m)
  start_at_there ty first None t below = tt
  start_at_there ty first (Some func) t below = record { func = below func refl; type = t }

  start_operand_there : (ty : ℕ) (x : SpelledOperand) → IsType m ty → IfSome (start_operand s ty x) (IsResolvedStart m)
  start_operand_there ty (operands.Register name) t = tt
  start_operand_there ty (operands.Constant first number) t =
      start_at_there ty first (named_function s (slice_get s.tables.constants number)) t (named_below (slice_get s.tables.constants number))

  start_argument_there : (o : Option TypedOperand) → IfSome o (IsSoundTyped counts) → IfSome (start_argument s o) (IsResolvedStart m)
  start_argument_there None h = tt
  start_argument_there (Some x) h = start_operand_there (type_number s x.ty) x.value (g.below x.ty h.0)

  start_if : (b : Bool) (o : Option StartArg) → IfSome o (IsResolvedStart m) → IfSome (if b then o else None) (IsResolvedStart m)
  start_if true o h = h
  start_if false o h = tt

  start_there : (d : Option Declare) (xs : List TypedOperand) → Each (IsSoundTyped counts) xs → IfSome (start_of s d xs) (IsResolvedStart m)
  start_there d xs h = start_if (is_thread_start d) (start_argument s (slice_get xs 2)) (start_argument_there (slice_get xs 2) (each_got (IsSoundTyped counts) xs 2 h))

  -- ---- calls

  call_by : (result : ℕ) (xs : List TypedOperand) (defined declared : Option ℕ) → IsType m result → Each (IsSoundTyped counts) xs
      → Each (TypedLeads s fn) xs
      → ((k : ℕ) → defined ≡ Some k → k < length m.functions) → ((k : ℕ) → declared ≡ Some k → k < length m.declares)
      → IsResolvedOp m fn (call_of s result xs defined declared)
  call_by result xs (Some func) declared t h u a b = (a func refl, t, row_there s m counts fn g xs h u)
  call_by result xs None None t h u a b = tt
  call_by result xs None (Some declare) t h u a b =
      let start : Option StartArg = start_of s (slice_get s.built.declares declare) xs in (
        b declare refl,
        t,
        row_there s m counts fn g (arguments_beside start xs) (each_beside (IsSoundTyped counts) start xs h)
            (each_beside (TypedLeads s fn) start xs u),
        start_there (slice_get s.built.declares declare) xs h,
      )

  pub call_there : (name : Token) (result : ℕ) (xs : List TypedOperand) → IsType m result → Each (IsSoundTyped counts) xs
      → Each (TypedLeads s fn) xs
      → IsResolvedOp m fn (call_of s result xs (defined_function s name) (declared_function s name))
  call_there name result xs t h u = call_by result xs (defined_function s name) (declared_function s name) t h u (defined_below name) (declared_below name)
