-- What an instruction does whose names are there, with its names resolved: each number in it names a thing that is there.
use Rattle.std.proofs.Common.{◌≡◌, ℕ, ◌<◌, List, take, drop, length, true, All, refl}
use Rattle.ir_core.specs.declared.token.Token.{Token}
use Rattle.ir_core.specs.declared.ir_module.Function.{Function}
use Rattle.ir_core.specs.declared.ir_module.Module.{Module}
use Rattle.ir_core.specs.NumberTypes.{type_of}
use Rattle.ir_core.specs.ResolvedBodies.{HasAlignment, HasAtomicAlignment, IsResolvedOp}
use Rattle.ir_grammar.specs.declared.spelled_bodies.SpelledOperation.{SpelledOperation}
use Rattle.ir_grammar.specs.declared.spelled_bodies.SpelledOperation.TheVariants as operations
use Rattle.ir_grammar.specs.SoundStore.{Counts, IsSoundTyped, IsSoundIncoming, IsSoundCase, IsSoundOperation}
use Rattle.ir_read_items.specs.Rows.{Each}
use Rattle.ir_functions.specs.Scope.{Scope, type_number, typed}
use Rattle.ir_functions.specs.Instructions.{alignment, atomic_alignment, operation, bit_type, pointer_type, pair_type}
use Rattle.ir_functions.specs.Functions.{is_variable}
use Rattle.ir_resolved.specs.Grounds.{HasGrounds}
use Rattle.ir_resolved.proofs.Lists.{each_all, each_take, each_drop}
use Rattle.ir_resolved.proofs.Leads.{OperationLeads}
use Rattle.ir_resolved.proofs.Types.{bit_there, pointer_there, pair_there}
use Rattle.ir_resolved.proofs.Operands.{placed_there, typed_there, count_there, returned_there, row_there, entries_there, cases_there}
use Rattle.ir_resolved.proofs.Calls.{call_there}

-- the alignment of an access to memory is one that its type can have
abbrev pub IsAligned : Scope → Module → SpelledOperation → Type 0
IsAligned s m (operations.Load ty pointer stated) = HasAlignment (type_of m (type_number s ty)) (alignment s (type_number s ty) stated)
IsAligned s m (operations.Store value pointer stated) = HasAlignment (type_of m (typed s value).ty) (alignment s (type_number s value.ty) stated)
IsAligned s m (operations.AtomicRmw operator pointer value stated) =
    HasAtomicAlignment (type_of m (typed s value).ty) (atomic_alignment s (type_number s value.ty) stated)
IsAligned s m (operations.CmpXchg pointer expected new stated) =
    HasAtomicAlignment (type_of m (typed s new).ty) (atomic_alignment s (type_number s new.ty) stated)
IsAligned s m other = Unit {0}

-- what holds of all of a list holds of a row in it
each_row : {A : Type 0} (P : A → Type 0) (xs : List A) (first count : ℕ) → All P xs → Each P (take count (drop first xs))
each_row P xs first count h = each_take P count (drop first xs) (each_drop P first xs (each_all P xs h))

module _ (s : Scope) (m : Module) (counts : Counts) (fn : Function) (g : HasGrounds s m counts) where
  -- the operands in a row that begins at this place
  operands_at : (first count : ℕ) → Each (IsSoundTyped counts) (take count (drop first s.names.bodies.operands))
  operands_at first count = each_row (IsSoundTyped counts) s.names.bodies.operands first count g.bodies.operands

  incoming_at : (first count : ℕ) → Each (IsSoundIncoming counts) (take count (drop first s.names.bodies.incoming))
  incoming_at first count = each_row (IsSoundIncoming counts) s.names.bodies.incoming first count g.bodies.incoming

  cases_at : (first count : ℕ) → Each (IsSoundCase counts) (take count (drop first s.names.bodies.cases))
  cases_at first count = each_row (IsSoundCase counts) s.names.bodies.cases first count g.bodies.cases

  pub operation_there : (v : ℕ) (word : Token) (o : SpelledOperation) → IsSoundOperation counts o → OperationLeads s fn o
      → IsAligned s m o → (is_variable o ≡ true → v < length fn.allocas) → IsResolvedOp m fn (operation s v word o)
  operation_there v word (operations.Binary a b) h u w x =
      (typed_there s m counts fn g a h.0 u.0, placed_there s m counts fn g (type_number s a.ty) b (g.below a.ty h.0.0) u.1)
  operation_there v word (operations.Icmp pred a b) h u w x =
      (typed_there s m counts fn g a h.0 u.0, placed_there s m counts fn g (type_number s a.ty) b (g.below a.ty h.0.0) u.1)
  operation_there v word (operations.Cast a to) h u w x = (typed_there s m counts fn g a h.0 u, g.below to h.1)
  operation_there v word (operations.Freeze a) h u w x = typed_there s m counts fn g a h u
  operation_there v word (operations.Select condition a b) h u w x = (
    placed_there s m counts fn g (bit_type s) condition (bit_there s m counts g) u.0,
    typed_there s m counts fn g a h.1 u.1,
    typed_there s m counts fn g b h.2 u.2,
  )
  operation_there v word (operations.Phi ty first count) h u w x =
      (g.below ty h.0, entries_there s m counts fn g (type_number s ty) (take count (drop first s.names.bodies.incoming)) (g.below ty h.0) (incoming_at first count) u)
  operation_there v word (operations.Alloca ty count stated) h u w x = (x refl, g.below ty h.0, count_there s m counts fn g count h.1 u)
  operation_there v word (operations.Load ty pointer stated) h u w x =
      (g.below ty h.0, placed_there s m counts fn g (pointer_type s) pointer (pointer_there s m counts g) u, w)
  operation_there v word (operations.Store value pointer stated) h u w x =
      (typed_there s m counts fn g value h.0 u.0, placed_there s m counts fn g (pointer_type s) pointer (pointer_there s m counts g) u.1, w)
  operation_there v word (operations.GetElementPtr of base first count) h u w x = (
    g.below of h.0,
    placed_there s m counts fn g (pointer_type s) base (pointer_there s m counts g) u.0,
    row_there s m counts fn g (take count (drop first s.names.bodies.operands)) (operands_at first count) u.1,
  )
  operation_there v word operations.Fence h u w x = tt
  operation_there v word (operations.AtomicRmw operator pointer value stated) h u w x =
      (placed_there s m counts fn g (pointer_type s) pointer (pointer_there s m counts g) u.0, typed_there s m counts fn g value h.1 u.1, w)
  operation_there v word (operations.CmpXchg pointer expected new stated) h u w x = (
    placed_there s m counts fn g (pointer_type s) pointer (pointer_there s m counts g) u.0,
    typed_there s m counts fn g expected h.1 u.1,
    typed_there s m counts fn g new h.2 u.2,
    w,
  )
  operation_there v word (operations.ExtractValue of value part) h u w x =
      placed_there s m counts fn g (pair_type s of) value (pair_there s m counts g of) u
  operation_there v word (operations.Call name result first count) h u w x =
      call_there s m counts fn g name (type_number s result) (take count (drop first s.names.bodies.operands)) (g.below result h.0) (operands_at first count) u
  operation_there v word (operations.Return ty value) h u w x = returned_there s m counts fn g (type_number s ty) value (g.below ty h.0) u
  operation_there v word (operations.Jump block) h u w x = u
  operation_there v word (operations.Branch condition yes_block no_block) h u w x =
      (placed_there s m counts fn g (bit_type s) condition (bit_there s m counts g) u.0, u.1, u.2)
  operation_there v word (operations.Switch value other first count) h u w x = (
    typed_there s m counts fn g value h.0 u.0,
    u.1,
    cases_there s m counts fn g (take count (drop first s.names.bodies.cases)) (cases_at first count) u.2,
  )
  operation_there v word operations.Unreachable h u w x = tt
