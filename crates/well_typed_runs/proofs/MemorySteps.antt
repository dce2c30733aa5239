-- Loads, stores and atomic instructions aren't stuck.
use Rattle.std.proofs.Common.{◌≡◌, ℕ, List, [], Option, Some, None, Bool, true, false, ◌==◌, if◌then◌else◌, ◌&&◌, refl, sym, ap, subst, inl}
use Rattle.std.specs.Prelude.{ok_or}
use Rattle.hw_base.specs.declared.accesses.Access.TheVariants.{Read, Write}
use Rattle.hw_base.specs.declared.accesses.Reason.TheVariants.{MixedBytes}
use Rattle.hw_base.specs.declared.operators.RmwOp.{RmwOp}
use Rattle.hw_base.specs.declared.pointers.Base.{Base}
use Rattle.ir_core.specs.declared.faults.Fault.TheVariants.{BadType}
use Rattle.ir_core.specs.declared.ir_module.Inst.{Inst}
use Rattle.ir_core.specs.declared.ir_module.Module.{Module}
use Rattle.ir_core.specs.declared.operands.Placed.{Placed}
use Rattle.ir_core.specs.declared.operations.Op.{Op}
use Rattle.ir_core.specs.declared.operations.Op.TheVariants as op
use Rattle.ir_core.specs.declared.types.IrType.{IrType}
use Rattle.ir_core.specs.declared.types.IrType.TheVariants.{Int, Ptr, Pair}
use Rattle.ir_core.specs.Layout.{int_store_size}
use Rattle.ir_core.specs.NumberTypes.{type_of}
use Rattle.ir_core.specs.Operations.{is_terminator, is_value_type, is_number_type, given_type, pair_of}
use Rattle.ir_core.specs.ResolvedBodies.{IsResolvedOp}
use Rattle.ir_core.specs.Runnable.{IsAtomic, IsRunnableOp}
use Rattle.ir_check_types.specs.Operands.{is_same, number_fault, typed_fault, is_typed}
use Rattle.ir_check_types.specs.Instructions.{number_type_fault, atomic_fault}
use Rattle.ir_check_types.specs.Rules.{operation_fault}
use Rattle.ir_check_types.proofs.PassedRules.{none_first, none_second, holds}
use Rattle.ir_meaning.specs.Births.{put_bytes, bytes_at}
use Rattle.ir_meaning.specs.BirthChanges.{wrote, OnlyGrow}
use Rattle.ir_meaning.specs.Encoding.{number_bytes, pointer_bytes, int_from, pointer_from}
use Rattle.ir_meaning.specs.InstructionStep.{value_of}
use Rattle.ir_meaning.specs.MemorySteps.{load_step, store_step, rmw_step, cmpxchg_step}
use Rattle.ir_meaning.specs.State.{SourceSeen, SourceOutcome, nothing_happened}
use Rattle.ir_meaning.specs.StepEnds.{gives, goes_on, stored, on_read}
use Rattle.ir_meaning.specs.Values.{Value, Integer, IntegerAndBit, SourceByte}
use Rattle.ir_meaning.proofs.BirthChangeLaws.{change-only_grows}
use Rattle.well_typed_runs.specs.KnownValues.{AreKnownBytes, HasValue}
use Rattle.well_typed_runs.specs.GoodWorlds.{IsGoodSeen, IsGoodOutcome}
use Rattle.well_typed_runs.proofs.Accesses.{access_good, read_integer_good}
use Rattle.well_typed_runs.proofs.Bytes.{read-known, pointer-has, number-known, pointer-known}
use Rattle.well_typed_runs.proofs.KnownBirths.{births_written, small_written}
use Rattle.well_typed_runs.proofs.Settings.{IsSetting}
use Rattle.well_typed_runs.proofs.GoingOn as on
use Rattle.well_typed_runs.proofs.Values.{both, integer_good, pointer_good, same_type}

module _ (m : Module) (s : SourceSeen) (good : IsGoodSeen m s) (setting : IsSetting m good.frame.f good.frame.at.inst) where
  abbrev here : Inst
  here = good.frame.at.inst

  abbrev is_good : SourceOutcome → Type 0
  is_good outcome = IsGoodOutcome m s outcome

  -- ---- after a write

  write_grows : (base : Base) (off : ℕ) (bytes : List SourceByte) → OnlyGrow s.shared.births (put_bytes s.shared.births base off bytes)
  write_grows base off bytes = change-only_grows s.shared.births (put_bytes s.shared.births base off bytes) [] (wrote s.shared.births base off bytes)

  pub goes_written : (base : Base) (off : ℕ) (bytes : List SourceByte) → is_terminator here.op ≡ false → is_value_type (given_type m here.op) ≡ false
      → AreKnownBytes s.shared.births bytes → IsGoodOutcome m s (goes_on (stored s base off bytes) nothing_happened)
  goes_written base off bytes plain none known =
      on.goes_under m s good setting (record s.shared { births = put_bytes s.shared.births base off bytes }) nothing_happened plain
      (births_written m s.shared.births base off bytes good.births known) (write_grows base off bytes) (λ without small. small_written s.shared.births base off bytes small) none

  -- an integer, or a pair, is the result after a write
  pub gives_written : (base : Base) (off : ℕ) (bytes : List SourceByte) (type : IrType) (value : Value) → is_terminator here.op ≡ false → given_type m here.op ≡ type
      → AreKnownBytes s.shared.births bytes → HasValue (put_bytes s.shared.births base off bytes) type (Some value) → is_value_type type ≡ true
      → IsGoodOutcome m s (gives (stored s base off bytes) here.result value)
  gives_written base off bytes type value plain given known has v =
      on.gives_under m s good setting (record s.shared { births = put_bytes s.shared.births base off bytes }) type value nothing_happened plain
      (births_written m s.shared.births base off bytes good.births known) (write_grows base off bytes) (λ without small. small_written s.shared.births base off bytes small) given v has.0 has.1

  -- ---- loads

  read_pointer : (found : Option Value) → ((v : Value) → found ≡ Some v → HasValue s.shared.births Ptr (Some v)) → is_terminator here.op ≡ false → given_type m here.op ≡ Ptr
      → IsGoodOutcome m s (on_read s (ok_or found MixedBytes) (λ value. gives s here.result value))
  unfolding on_read
  read_pointer None has plain given = inl refl
  read_pointer (Some v) has plain given =
      let known = has v refl in
      on.gives_good m s good setting Ptr v nothing_happened plain given refl known.0 known.1

  loaded : (type : IrType) (align : ℕ) (at : Option Value) → is_number_type type ≡ true → HasValue s.shared.births Ptr at → is_terminator here.op ≡ false
      → given_type m here.op ≡ type → IsGoodOutcome m s (load_step s here.result type align at)
  unfolding load_step
  loaded (Int width) align at v from plain given =
      pointer_good is_good s.shared.births at _ from (λ base off known.
      access_good m s Read base off (int_store_size width) align _ good.births known (λ fine.
      read_integer_good m s (int_from width (bytes_at s.shared.births base off (int_store_size width))) _ (λ n.
      on.gives_good m s good setting (Int width) (Integer n) nothing_happened plain given refl refl tt)))
  loaded Ptr align at v from plain given =
      pointer_good is_good s.shared.births at _ from (λ base off known.
      access_good m s Read base off 8 align _ good.births known (λ fine.
      read_pointer (pointer_from (bytes_at s.shared.births base off 8))
      (λ v e. pointer-has s.shared.births (bytes_at s.shared.births base off 8) v (read-known m s.shared.births base off 8 good.births) e) plain given))
  loaded other align at v from plain given = absurd cc

  pub load_good : (ty : ℕ) (at : Placed) (align : ℕ) → here.op ≡ op.Load ty at align → IsResolvedOp m good.frame.f (op.Load ty at align)
      → operation_fault m good.frame.f here.place (op.Load ty at align) ≡ None
      → IsGoodOutcome m s (load_step s here.result (type_of m ty) align (value_of m s at))
  load_good ty at align is resolved none =
      let number = holds (is_number_type (type_of m ty)) BadType here.place (none_first (number_type_fault m ty here.place) (typed_fault m good.frame.f Ptr at) none) in
      let from = on.typed_at m s good setting (op.Load ty at align) 0 at Ptr is refl resolved.1 (none_second (number_type_fault m ty here.place) (typed_fault m good.frame.f Ptr at) none) in
      loaded (type_of m ty) align (value_of m s at) number from (ap is_terminator is) (ap (λ (o : Op). given_type m o) is)

  -- ---- stores

  put : (type : IrType) (align : ℕ) (value at : Option Value) → is_number_type type ≡ true → HasValue s.shared.births type value → HasValue s.shared.births Ptr at
      → is_terminator here.op ≡ false → is_value_type (given_type m here.op) ≡ false → IsGoodOutcome m s (store_step s type align value at)
  unfolding store_step
  put (Int width) align value at v has from plain given =
      integer_good is_good s.shared.births width width value _ has (λ n. pointer_good is_good s.shared.births at _ from (λ base off known.
      access_good m s Write base off (int_store_size width) align _ good.births known (λ fine.
      goes_written base off (number_bytes (int_store_size width) n) plain given (number-known s.shared.births (int_store_size width) n))))
  put Ptr align value at v has from plain given =
      pointer_good is_good s.shared.births value _ has (λ stored_base stored_off kept. pointer_good is_good s.shared.births at _ from (λ base off known.
      access_good m s Write base off 8 align _ good.births known (λ fine.
      goes_written base off (pointer_bytes stored_base stored_off) plain given (pointer-known s.shared.births stored_base stored_off kept))))
  put other align value at v has from plain given = absurd cc

  pub store_good : (value at : Placed) (align : ℕ) → here.op ≡ op.Store value at align → IsResolvedOp m good.frame.f (op.Store value at align)
      → operation_fault m good.frame.f here.place (op.Store value at align) ≡ None
      → IsGoodOutcome m s (store_step s (type_of m value.ty) align (value_of m s value) (value_of m s at))
  store_good value at align is resolved none =
      let o : Op = op.Store value at align in
      let more = none_second (number_type_fault m value.ty here.place) _ none in
      let has = on.number_at m s good setting o 0 value is refl resolved.0 (none_first (number_fault m good.frame.f value) (typed_fault m good.frame.f Ptr at) more) in
      let from = on.typed_at m s good setting o 1 at Ptr is refl resolved.1 (none_second (number_fault m good.frame.f value) (typed_fault m good.frame.f Ptr at) more) in
      put (type_of m value.ty) align (value_of m s value) (value_of m s at) has.0 has.1 from (ap is_terminator is) (ap (λ (x : Op). is_value_type (given_type m x)) is)

  -- ---- atomic instructions

  changed : (kind : RmwOp) (type : IrType) (align : ℕ) (at value : Option Value) → IsAtomic type align → HasValue s.shared.births Ptr at → HasValue s.shared.births type value
      → is_terminator here.op ≡ false → given_type m here.op ≡ type → IsGoodOutcome m s (rmw_step s here.result kind type align at value)
  unfolding rmw_step
  changed kind (Int width) align at value atomic from has plain given =
      pointer_good is_good s.shared.births at _ from (λ base off known. integer_good is_good s.shared.births width width value _ has (λ operand.
      access_good m s Write base off (int_store_size width) align _ good.births known (λ fine.
      read_integer_good m s (int_from width (bytes_at s.shared.births base off (int_store_size width))) _ (λ old.
      gives_written base off (number_bytes (int_store_size width) _) (Int width) (Integer old) plain given (number-known s.shared.births (int_store_size width) _) (refl, tt) refl))))
  changed kind other align at value atomic from has plain given = absurd atomic

  pub rmw_good : (kind : RmwOp) (at value : Placed) (align : ℕ) → here.op ≡ op.Rmw kind at value align → IsResolvedOp m good.frame.f (op.Rmw kind at value align)
      → IsRunnableOp m (op.Rmw kind at value align) → operation_fault m good.frame.f here.place (op.Rmw kind at value align) ≡ None
      → IsGoodOutcome m s (rmw_step s here.result kind (type_of m value.ty) align (value_of m s at) (value_of m s value))
  rmw_good kind at value align is resolved atomic none =
      let o : Op = op.Rmw kind at value align in
      let more = none_second (atomic_fault (type_of m value.ty) here.place) _ none in
      let from = on.typed_at m s good setting o 0 at Ptr is refl resolved.0 (none_first (typed_fault m good.frame.f Ptr at) (number_fault m good.frame.f value) more) in
      let has = on.number_at m s good setting o 1 value is refl resolved.1 (none_second (typed_fault m good.frame.f Ptr at) (number_fault m good.frame.f value) more) in
      changed kind (type_of m value.ty) align (value_of m s at) (value_of m s value) atomic from has.1 (ap is_terminator is) (ap (λ (x : Op). given_type m x) is)

  exchanged : (type : IrType) (align : ℕ) (at expected new : Option Value) → IsAtomic type align → HasValue s.shared.births Ptr at → HasValue s.shared.births type expected
      → HasValue s.shared.births type new → is_terminator here.op ≡ false → given_type m here.op ≡ pair_of type → IsGoodOutcome m s (cmpxchg_step s here.result type align at expected new)
  unfolding cmpxchg_step
  exchanged (Int width) align at expected new atomic from has with_new plain given =
      pointer_good is_good s.shared.births at _ from (λ base off known. integer_good is_good s.shared.births width width expected _ has (λ wanted.
      integer_good is_good s.shared.births width width new _ with_new (λ replacement.
      access_good m s Write base off (int_store_size width) align _ good.births known (λ fine.
      read_integer_good m s (int_from width (bytes_at s.shared.births base off (int_store_size width))) _ (λ old.
      by_test (old == wanted) _ _
      (gives_written base off (number_bytes (int_store_size width) replacement) (Pair width) (IntegerAndBit old 1) plain given
      (number-known s.shared.births (int_store_size width) replacement) (refl, tt) refl)
      (on.gives_good m s good setting (Pair width) (IntegerAndBit old 0) nothing_happened plain given refl refl tt))))))
    where
      by_test : (test : Bool) (a b : SourceOutcome) → IsGoodOutcome m s a → IsGoodOutcome m s b → IsGoodOutcome m s (if test then a else b)
      by_test true a b h k = h
      by_test false a b h k = k
  exchanged other align at expected new atomic from has with_new plain given = absurd atomic

  pub cmpxchg_good : (at expected new : Placed) (align : ℕ) → here.op ≡ op.CmpXchg at expected new align → IsResolvedOp m good.frame.f (op.CmpXchg at expected new align)
      → IsRunnableOp m (op.CmpXchg at expected new align) → operation_fault m good.frame.f here.place (op.CmpXchg at expected new align) ≡ None
      → IsGoodOutcome m s (cmpxchg_step s here.result (type_of m new.ty) align (value_of m s at) (value_of m s expected) (value_of m s new))
  cmpxchg_good at expected new align is resolved atomic none =
      let o : Op = op.CmpXchg at expected new align in
      let more = none_second (atomic_fault (type_of m expected.ty) here.place) _ none in
      let rest = none_second (typed_fault m good.frame.f Ptr at) _ more in
      let last = none_second (number_fault m good.frame.f expected) (typed_fault m good.frame.f (type_of m expected.ty) new) rest in
      let from = on.typed_at m s good setting o 0 at Ptr is refl resolved.0 (none_first (typed_fault m good.frame.f Ptr at) _ more) in
      let has = on.number_at m s good setting o 1 expected is refl resolved.1 (none_first (number_fault m good.frame.f expected) _ rest) in
      let wanted = on.typed_at m s good setting o 2 new (type_of m expected.ty) is refl resolved.2 last in
      let two = both (is_number_type (type_of m expected.ty)) (is_same (type_of m new.ty) (type_of m expected.ty) && is_typed m good.frame.f new) (holds _ BadType new.place last) in
      let same = (both (is_same (type_of m new.ty) (type_of m expected.ty)) (is_typed m good.frame.f new) two.1).0 in
      let equal : type_of m new.ty ≡ type_of m expected.ty = same_type (type_of m new.ty) (type_of m expected.ty) (atomic_value (type_of m new.ty) align atomic) same in
      exchanged (type_of m new.ty) align (value_of m s at) (value_of m s expected) (value_of m s new) atomic from
      (subst (λ (t : IrType). HasValue s.shared.births t (value_of m s expected)) (sym equal) has.1)
      (subst (λ (t : IrType). HasValue s.shared.births t (value_of m s new)) (sym equal) wanted)
      (ap is_terminator is) (ap (λ (x : Op). given_type m x) is)
    where
      atomic_value : (type : IrType) (align : ℕ) → IsAtomic type align → is_value_type type ≡ true
      atomic_value (Int width) align h = refl
      atomic_value other align h = absurd h
