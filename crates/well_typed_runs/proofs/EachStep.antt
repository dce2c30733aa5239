-- No step of an accepted module is stuck, one line a kind of instruction and a declared function.
use Rattle.std.proofs.Common.{◌≡◌, ℕ, zero, suc, ◌+◌, ◌<◌, List, [], ◌∷◌, length, slice_get, Option, Some, None, true, false, ◌==◌, refl, ◌∙◌, ap, subst, arith, eqb-true, inl}
use Rattle.std.proofs.lemmas.List.{length-map}
use Rattle.hw_base.specs.declared.endings.Input.{Input}
use Rattle.ir_core.specs.declared.faults.Fault.TheVariants.{BadType}
use Rattle.ir_core.specs.declared.ir_module.Declare.{Declare}
use Rattle.ir_core.specs.declared.ir_module.Function.{Function}
use Rattle.ir_core.specs.declared.ir_module.Inst.{Inst}
use Rattle.ir_core.specs.declared.ir_module.Module.{Module}
use Rattle.ir_core.specs.declared.lib_functions.Lib.{Lib}
use Rattle.ir_core.specs.declared.lib_functions.Lib.TheVariants as lib
use Rattle.ir_core.specs.declared.operands.Placed.{Placed}
use Rattle.ir_core.specs.declared.operands.StartArg.{StartArg}
use Rattle.ir_core.specs.declared.operations.Op.{Op}
use Rattle.ir_core.specs.declared.operations.Op.TheVariants as op
use Rattle.ir_core.specs.declared.types.IrType.{IrType}
use Rattle.ir_core.specs.declared.types.IrType.TheVariants.{Int, Ptr}
use Rattle.ir_core.specs.NumberTypes.{type_of}
use Rattle.ir_core.specs.Operations.{is_phi, is_terminator, is_value_type, given_type}
use Rattle.ir_core.specs.ResolvedBodies.{IsResolvedOp}
use Rattle.ir_core.specs.Runnable.{IsRunnableOp, StartsAsItIs}
use Rattle.ir_check_types.specs.Operands.{is_same}
use Rattle.ir_check_types.specs.Calls.{result_type_fault, count_of_arguments_fault, null_fault, listed_fault, task_fault, started, declared_fault}
use Rattle.ir_check_types.specs.Rules.{are_types, has_parameters, operation_fault}
use Rattle.ir_check_types.specs.Signatures.{lib_result, lib_parameters, is_lifetime}
use Rattle.ir_check_types.proofs.PassedRules.{none_first, none_second, holds}
use Rattle.ir_meaning.specs.BranchSteps.{unreachable_step}
use Rattle.ir_meaning.specs.InstructionStep.{values_of, operation_step, source_step}
use Rattle.ir_meaning.specs.LibraryCalls.{nothing_step, library_step}
use Rattle.ir_meaning.specs.Operands.{argument, operand_value}
use Rattle.ir_meaning.specs.State.{SourceSeen, SourceOutcome, nothing_happened}
use Rattle.well_typed_runs.specs.KnownValues.{HasValue}
use Rattle.well_typed_runs.specs.GoodWorlds.{IsAccepted, IsGoodSeen, IsGoodOutcome, AreSmall}
use Rattle.well_typed_runs.proofs.AddressSteps as addresses
use Rattle.well_typed_runs.proofs.BlockSteps as blocks
use Rattle.well_typed_runs.proofs.BranchSteps as branches
use Rattle.well_typed_runs.proofs.CallSteps as calls
use Rattle.well_typed_runs.proofs.CreateSteps as creates
use Rattle.well_typed_runs.proofs.GoingOn as on
use Rattle.well_typed_runs.proofs.LibraryArguments as arguments
use Rattle.well_typed_runs.proofs.LibraryArguments.{declared_types, same_count, no_start}
use Rattle.well_typed_runs.proofs.LibrarySteps as library
use Rattle.well_typed_runs.proofs.MemorySteps as memory
use Rattle.well_typed_runs.proofs.ReturnSteps as returns
use Rattle.well_typed_runs.proofs.Settings.{IsSetting, setting_of, declare_typed}
use Rattle.well_typed_runs.proofs.ValueSteps as values
use Rattle.well_typed_runs.proofs.Values.{both, named_good}

module _ (m : Module) (next : Input) (s : SourceSeen) (accepted : IsAccepted m) (good : IsGoodSeen m s) (small : AreSmall s.shared.births)
    (setting : IsSetting m good.frame.f good.frame.at.inst) where
  abbrev here : Inst
  here = good.frame.at.inst

  abbrev f : Function
  f = good.frame.f

  abbrev is_good : SourceOutcome → Type 0
  is_good outcome = IsGoodOutcome m s outcome

  -- ---- declared functions

  record IsLibraryCall (declare ty : ℕ) (args : List Placed) (start : Option StartArg) (d : Declare) : Type 0 where
    is : here.op ≡ op.CallLib declare ty args start
    there : slice_get m.declares declare ≡ Some d
    resolved : IsResolvedOp m f (op.CallLib declare ty args start)
    result : is_same (type_of m ty) (type_of m d.result) ≡ true
    count : length args + started start ≡ length d.params
    listed : listed_fault m f d args start ≡ None
    task : task_fault m d.lib d args start ≡ None
    declared : is_same (type_of m d.result) (lib_result d.lib) ≡ true
    parameters : has_parameters m d ≡ true

  plain_call : (declare ty : ℕ) (args : List Placed) (start : Option StartArg) → here.op ≡ op.CallLib declare ty args start → is_terminator here.op ≡ false
  plain_call declare ty args start is = ap is_terminator is

  -- the types of a function by its name
  types_of : (declare ty : ℕ) (args : List Placed) (start : Option StartArg) (d : Declare) (l : Lib) → IsLibraryCall declare ty args start d → d.lib ≡ l → is_lifetime l ≡ false
      → are_types m d.params (lib_parameters l) ≡ true
  types_of declare ty args start d l h is no_lifetime =
      subst (λ (x : Lib). are_types m d.params (lib_parameters x) ≡ true) is (declared_types m d h.parameters (ap is_lifetime is ∙ no_lifetime))

  gives : (declare ty : ℕ) (args : List Placed) (start : Option StartArg) (d : Declare) (l : Lib) → IsLibraryCall declare ty args start d → d.lib ≡ l → is_value_type (lib_result l) ≡ true
      → given_type m here.op ≡ lib_result l
  gives declare ty args start d l h is v =
      arguments.lib_given m s good setting declare ty args start d (lib_result l) h.is h.result (subst (λ (x : Lib). is_same (type_of m d.result) (lib_result x) ≡ true) is h.declared) v

  gives_none : (declare ty : ℕ) (args : List Placed) (start : Option StartArg) (d : Declare) (l : Lib) → IsLibraryCall declare ty args start d → d.lib ≡ l → is_value_type (lib_result l) ≡ false
      → is_value_type (given_type m here.op) ≡ false
  gives_none declare ty args start d l h is v =
      arguments.lib_gives_none m s good setting declare ty args start d (lib_result l) h.is h.result (subst (λ (x : Lib). is_same (type_of m d.result) (lib_result x) ≡ true) is h.declared) v

  -- an argument, if there is no start function
  has : (declare ty : ℕ) (args : List Placed) (d : Declare) (l : Lib) → IsLibraryCall declare ty args None d → d.lib ≡ l → is_lifetime l ≡ false → (k : ℕ) (type : IrType)
      → slice_get (lib_parameters l) k ≡ Some type → HasValue s.shared.births type (argument (values_of m s args) k)
  has declare ty args d l h is no_lifetime k type at =
      arguments.argument_has m s good setting declare ty args d (lib_parameters l) k type h.is h.resolved (types_of declare ty args None d l h is no_lifetime) (counts (length args) (length d.params) h.count) h.listed at
    where
      counts : (a b : ℕ) → a + 0 ≡ b → a ≡ b
      counts a b e = omega arith

  values_count : (declare ty : ℕ) (args : List Placed) (d : Declare) (l : Lib) → IsLibraryCall declare ty args None d → d.lib ≡ l → is_lifetime l ≡ false
      → length (values_of m s args) ≡ length (lib_parameters l)
  values_count declare ty args d l h is no_lifetime =
      length-map args (operand_value m s.frame.registers) ∙ (counts (length args) (length d.params) h.count ∙ same_count m d.params (lib_parameters l) (types_of declare ty args None d l h is no_lifetime))
    where
      counts : (a b : ℕ) → a + 0 ≡ b → a ≡ b
      counts a b e = omega arith

  -- a call without a start function
  plain_good : (declare ty : ℕ) (args : List Placed) (d : Declare) → (h : IsLibraryCall declare ty args None d) → StartsAsItIs m d.lib None → (l : Lib) → d.lib ≡ l
      → IsGoodOutcome m s (library_step m next s here.result args (values_of m s args) None l)
  plain_good declare ty args d h starts lib.Malloc e =
      blocks.malloc_good m s good setting (plain_call declare ty args None h.is) (values_of m s args) (has declare ty args d lib.Malloc h e refl 0 (Int 64) refl) (gives declare ty args None d lib.Malloc h e refl)
  plain_good declare ty args d h starts lib.Calloc e =
      blocks.calloc_good m s good setting (plain_call declare ty args None h.is) (values_of m s args) (λ without. without declare d h.there e) (has declare ty args d lib.Calloc h e refl 0 (Int 64) refl)
      (has declare ty args d lib.Calloc h e refl 1 (Int 64) refl) (gives declare ty args None d lib.Calloc h e refl)
  plain_good declare ty args d h starts lib.Free e =
      blocks.free_good m s good setting (plain_call declare ty args None h.is) (values_of m s args) (has declare ty args d lib.Free h e refl 0 Ptr refl) (gives_none declare ty args None d lib.Free h e refl)
  plain_good declare ty args d h starts lib.Realloc e =
      blocks.realloc_good m s good setting (plain_call declare ty args None h.is) (values_of m s args) (has declare ty args d lib.Realloc h e refl 0 Ptr refl)
      (has declare ty args d lib.Realloc h e refl 1 (Int 64) refl) (gives declare ty args None d lib.Realloc h e refl)
  plain_good declare ty args d h starts lib.Memcpy e =
      library.copy_good m s good setting (plain_call declare ty args None h.is) (values_of m s args) (has declare ty args d lib.Memcpy h e refl 0 Ptr refl) (has declare ty args d lib.Memcpy h e refl 1 Ptr refl)
      (has declare ty args d lib.Memcpy h e refl 2 (Int 64) refl) (gives declare ty args None d lib.Memcpy h e refl)
  plain_good declare ty args d h starts lib.Memmove e =
      library.copy_good m s good setting (plain_call declare ty args None h.is) (values_of m s args) (has declare ty args d lib.Memmove h e refl 0 Ptr refl) (has declare ty args d lib.Memmove h e refl 1 Ptr refl)
      (has declare ty args d lib.Memmove h e refl 2 (Int 64) refl) (gives declare ty args None d lib.Memmove h e refl)
  plain_good declare ty args d h starts lib.Memset e =
      library.set_good m s good setting (plain_call declare ty args None h.is) (values_of m s args) (has declare ty args d lib.Memset h e refl 0 Ptr refl) (has declare ty args d lib.Memset h e refl 1 (Int 32) refl)
      (has declare ty args d lib.Memset h e refl 2 (Int 64) refl) (gives declare ty args None d lib.Memset h e refl)
  plain_good declare ty args d h starts lib.LlvmMemcpy e =
      library.copy_only_good m s good setting (plain_call declare ty args None h.is) (values_of m s args) (has declare ty args d lib.LlvmMemcpy h e refl 0 Ptr refl)
      (has declare ty args d lib.LlvmMemcpy h e refl 1 Ptr refl) (has declare ty args d lib.LlvmMemcpy h e refl 2 (Int 64) refl) (gives_none declare ty args None d lib.LlvmMemcpy h e refl)
  plain_good declare ty args d h starts lib.LlvmMemmove e =
      library.copy_only_good m s good setting (plain_call declare ty args None h.is) (values_of m s args) (has declare ty args d lib.LlvmMemmove h e refl 0 Ptr refl)
      (has declare ty args d lib.LlvmMemmove h e refl 1 Ptr refl) (has declare ty args d lib.LlvmMemmove h e refl 2 (Int 64) refl) (gives_none declare ty args None d lib.LlvmMemmove h e refl)
  plain_good declare ty args d h starts lib.LlvmMemset e =
      library.set_only_good m s good setting (plain_call declare ty args None h.is) (values_of m s args) (has declare ty args d lib.LlvmMemset h e refl 0 Ptr refl)
      (has declare ty args d lib.LlvmMemset h e refl 1 (Int 8) refl) (has declare ty args d lib.LlvmMemset h e refl 2 (Int 64) refl) (gives_none declare ty args None d lib.LlvmMemset h e refl)
  plain_good declare ty args d h starts lib.Memcmp e =
      library.memcmp_good m s good setting (plain_call declare ty args None h.is) (values_of m s args) (has declare ty args d lib.Memcmp h e refl 0 Ptr refl) (has declare ty args d lib.Memcmp h e refl 1 Ptr refl)
      (has declare ty args d lib.Memcmp h e refl 2 (Int 64) refl) (gives declare ty args None d lib.Memcmp h e refl)
  plain_good declare ty args d h starts lib.Strlen e =
      library.strlen_good m s good setting (plain_call declare ty args None h.is) (values_of m s args) small (has declare ty args d lib.Strlen h e refl 0 Ptr refl) (gives declare ty args None d lib.Strlen h e refl)
  plain_good declare ty args d h starts lib.Puts e =
      library.puts_good m s good setting (plain_call declare ty args None h.is) (values_of m s args) small (has declare ty args d lib.Puts h e refl 0 Ptr refl) (gives declare ty args None d lib.Puts h e refl)
  plain_good declare ty args d h starts lib.Putchar e =
      library.putchar_good m s good setting (plain_call declare ty args None h.is) (values_of m s args) (has declare ty args d lib.Putchar h e refl 0 (Int 32) refl) (gives declare ty args None d lib.Putchar h e refl)
  plain_good declare ty args d h starts lib.Getchar e =
      library.getchar_good m s good setting (plain_call declare ty args None h.is) next (values_of m s args) (gives declare ty args None d lib.Getchar h e refl)
  plain_good declare ty args d h starts lib.Exit e =
      library.exit_good m s good setting (plain_call declare ty args None h.is) (values_of m s args) (has declare ty args d lib.Exit h e refl 0 (Int 32) refl)
  plain_good declare ty args d h starts lib.Abort e = library.abort_good m s good setting (plain_call declare ty args None h.is) (values_of m s args)
  plain_good declare ty args d h starts lib.LlvmTrap e = library.abort_good m s good setting (plain_call declare ty args None h.is) (values_of m s args)
  plain_good declare ty args d h starts lib.PthreadCreate e = absurd (subst (λ (l : Lib). StartsAsItIs m l None) e starts)
  plain_good declare ty args d h starts lib.PthreadJoin e =
      library.join_good m s good setting (plain_call declare ty args None h.is) (values_of m s args) (has declare ty args d lib.PthreadJoin h e refl 0 (Int 64) refl) (gives declare ty args None d lib.PthreadJoin h e refl)
  plain_good declare ty args d h starts lib.MutexInit e =
      library.mutex_init_good m s good setting (plain_call declare ty args None h.is) (values_of m s args) (has declare ty args d lib.MutexInit h e refl 0 Ptr refl) (gives declare ty args None d lib.MutexInit h e refl)
  plain_good declare ty args d h starts lib.MutexLock e =
      library.mutex_lock_good m s good setting (plain_call declare ty args None h.is) (values_of m s args) (has declare ty args d lib.MutexLock h e refl 0 Ptr refl) (gives declare ty args None d lib.MutexLock h e refl)
  plain_good declare ty args d h starts lib.MutexUnlock e =
      library.mutex_unlock_good m s good setting (plain_call declare ty args None h.is) (values_of m s args) (has declare ty args d lib.MutexUnlock h e refl 0 Ptr refl)
      (gives declare ty args None d lib.MutexUnlock h e refl)
  plain_good declare ty args d h starts lib.MutexDestroy e =
      library.mutex_destroy_good m s good setting (plain_call declare ty args None h.is) (values_of m s args) (gives declare ty args None d lib.MutexDestroy h e refl)
  plain_good declare ty args d h starts lib.LifetimeStart e =
      library.lifetime_good m s good setting (plain_call declare ty args None h.is) (values_of m s args) args (gives_none declare ty args None d lib.LifetimeStart h e refl)
  plain_good declare ty args d h starts lib.LifetimeEnd e =
      library.lifetime_good m s good setting (plain_call declare ty args None h.is) (values_of m s args) args (gives_none declare ty args None d lib.LifetimeEnd h e refl)
  plain_good declare ty args d h starts lib.Assume e =
      library.nothing_good m s good setting (plain_call declare ty args None h.is) (values_of m s args) (gives_none declare ty args None d lib.Assume h e refl)
  plain_good declare ty args d h starts (lib.Bits kind width) e =
      library.bits_good m s good setting (plain_call declare ty args None h.is) kind width (values_of m s args) (values_count declare ty args d (lib.Bits kind width) h e refl)
      (λ k type at. has declare ty args d (lib.Bits kind width) h e refl k type at) (gives declare ty args None d (lib.Bits kind width) h e refl)
  plain_good declare ty args d h starts (lib.Overflow kind width) e =
      library.overflow_good m s good setting (plain_call declare ty args None h.is) kind width (values_of m s args) (has declare ty args d (lib.Overflow kind width) h e refl 0 (Int width) refl)
      (has declare ty args d (lib.Overflow kind width) h e refl 1 (Int width) refl) (gives declare ty args None d (lib.Overflow kind width) h e refl)

  -- a call with one: of `pthread_create`
  create_good : (declare ty : ℕ) (args : List Placed) (start : StartArg) (d : Declare) → (h : IsLibraryCall declare ty args (Some start) d) → StartsAsItIs m d.lib (Some start) → d.lib ≡ lib.PthreadCreate
      → IsGoodOutcome m s (library_step m next s here.result args (values_of m s args) (Some start) lib.PthreadCreate)
  create_good declare ty args start d h starts e =
      let types = types_of declare ty args (Some start) d lib.PthreadCreate h e refl in
      let four = same_count m d.params (lib_parameters lib.PthreadCreate) types in
      let three : length args ≡ 3 = counts (length args) (length d.params) h.count four in
      creates.create_good m s accepted good setting (plain_call declare ty args (Some start) h.is) (values_of m s args) (Some start)
      (subst (λ (l : Lib). StartsAsItIs m l (Some start)) e starts) h.resolved.3
      (arguments.early_has m s good setting declare ty args (Some start) d (lib_parameters lib.PthreadCreate) 0 Ptr h.is h.resolved types (omega arith) (omega arith)
      (none_first _ _ h.listed) refl)
      (arguments.late_has m s good setting declare ty args (Some start) d (lib_parameters lib.PthreadCreate) Ptr h.is h.resolved types (omega arith)
      (none_second _ _ h.listed) refl)
      (gives declare ty args (Some start) d lib.PthreadCreate h e refl)
    where
      counts : (a b : ℕ) → a + 1 ≡ b → b ≡ 4 → a ≡ 3
      counts a b e h = omega arith

  start_good : (declare ty : ℕ) (args : List Placed) (start : StartArg) (d : Declare) → (h : IsLibraryCall declare ty args (Some start) d) → StartsAsItIs m d.lib (Some start) → (l : Lib) → d.lib ≡ l
      → task_fault m l d args (Some start) ≡ None → IsGoodOutcome m s (library_step m next s here.result args (values_of m s args) (Some start) l)
  start_good declare ty args start d h starts lib.PthreadCreate e none = create_good declare ty args start d h starts e
  start_good declare ty args start d h starts other e none = let gone : Some start ≡ None = no_start (Some start) none in absurd cc

  call_lib_good : (declare ty : ℕ) (args : List Placed) (start : Option StartArg) → here.op ≡ op.CallLib declare ty args start → IsResolvedOp m f (op.CallLib declare ty args start)
      → IsRunnableOp m (op.CallLib declare ty args start) → operation_fault m f here.place (op.CallLib declare ty args start) ≡ None
      → IsGoodOutcome m s (operation_step m next f s here.result (op.CallLib declare ty args start))
  call_lib_good declare ty args start is resolved runs none =
      let (d, there) = found_at m.declares declare resolved.0 in
      let fault = subst (λ (o : Option Declare). declared_fault m f here.place o ty args start ≡ None) there none in
      let one = none_second (result_type_fault m here.place ty d.result) _ fault in
      let two = none_second (count_of_arguments_fault here.place (length args + started start) (length d.params)) _ one in
      let three = none_second (null_fault d.lib here.place args) _ two in
      let declared = both (is_same (type_of m d.result) (lib_result d.lib)) (has_parameters m d) (holds _ BadType d.place (declare_typed m declare d accepted there)) in
      let count : length args + started start ≡ length d.params =
      eqb-true (length args + started start) (length d.params)
      (holds (length args + started start == length d.params) BadType here.place (none_first (count_of_arguments_fault here.place (length args + started start) (length d.params)) _ one)) in
      let call : IsLibraryCall declare ty args start d = record {
        is = is;
        there = there;
        resolved = resolved;
        result = holds (is_same (type_of m ty) (type_of m d.result)) BadType here.place (none_first (result_type_fault m here.place ty d.result) _ fault);
        count = count;
        listed = none_first (listed_fault m f d args start) (task_fault m d.lib d args start) three;
        task = none_second (listed_fault m f d args start) (task_fault m d.lib d args start) three;
        declared = declared.0;
        parameters = declared.1;
      } in
      named_good is_good (slice_get m.declares declare) d _ there (by_start start d call (runs d there))
    where
      found_at : (declares : List Declare) (n : ℕ) → n < length declares → (d : Declare) × (slice_get declares n ≡ Some d)
      found_at [] n h = absurd (omega arith)
      found_at (d ∷ declares) zero h = (d, refl)
      found_at (d ∷ declares) (suc n) h = found_at declares n (omega arith)

      by_start : (start : Option StartArg) (d : Declare) → IsLibraryCall declare ty args start d → StartsAsItIs m d.lib start
          → IsGoodOutcome m s (library_step m next s here.result args (values_of m s args) start d.lib)
      by_start None d call starts = plain_good declare ty args d call starts d.lib refl
      by_start (Some begin) d call starts = start_good declare ty args begin d call starts d.lib refl call.task

  -- ---- instructions

  op_good : (o : Op) → here.op ≡ o → IsResolvedOp m f o → IsRunnableOp m o → operation_fault m f here.place o ≡ None → IsGoodOutcome m s (operation_step m next f s here.result o)
  unfolding nothing_step unreachable_step
  op_good (op.Binary kind a b) is resolved runs none = values.binary_good m s good setting kind a b is resolved none
  op_good (op.Icmp pred a b) is resolved runs none = values.icmp_good m s good setting pred a b is resolved none
  op_good (op.Cast kind a to) is resolved runs none = values.cast_good m s good setting kind a to is resolved none
  op_good (op.Select cond a b) is resolved runs none = values.select_good m s good setting cond a b is resolved none
  op_good (op.Freeze a) is resolved runs none = values.freeze_good m s good setting a is resolved none
  op_good (op.Phi ty entries) is resolved runs none = let no_phi = good.frame.at.no_phi in let phi : is_phi here.op ≡ true = ap is_phi is in absurd cc
  op_good (op.Alloca index ty count) is resolved runs none = addresses.alloca_good m s good setting index ty count is resolved
  op_good (op.Load ty at align) is resolved runs none = memory.load_good m s good setting ty at align is resolved none
  op_good (op.Store value at align) is resolved runs none = memory.store_good m s good setting value at align is resolved none
  op_good (op.Gep ty base indices) is resolved runs none = addresses.gep_good m s good setting ty base indices is resolved none
  op_good op.Fence is resolved runs none =
      on.goes_good m s good setting nothing_happened (ap is_terminator is) (ap (λ (o : Op). is_value_type (given_type m o)) is)
  op_good (op.Rmw kind at value align) is resolved runs none = memory.rmw_good m s good setting kind at value align is resolved runs none
  op_good (op.CmpXchg at expected new align) is resolved runs none = memory.cmpxchg_good m s good setting at expected new align is resolved runs none
  op_good (op.ExtractValue pair part) is resolved runs none = values.extract_good m s good setting pair part is resolved none
  op_good (op.Call func ty args) is resolved runs none = calls.call_good m s accepted good setting func ty args is resolved runs none
  op_good (op.CallLib declare ty args start) is resolved runs none = call_lib_good declare ty args start is resolved runs none
  op_good (op.Br block) is resolved runs none = branches.br_good m s accepted good setting block is resolved
  op_good (op.BrIf cond yes_block no_block) is resolved runs none = branches.br_if_good m s accepted good setting cond yes_block no_block is resolved none
  op_good (op.Switch on_value other cases) is resolved runs none = branches.switch_good m s accepted good setting on_value other cases is resolved none
  op_good (op.Ret value) is resolved runs none = returns.ret_good m s accepted good setting value is resolved none
  op_good op.Unreachable is resolved runs none = inl refl

  pub instruction_good : IsGoodOutcome m s (operation_step m next f s here.result here.op)
  instruction_good = op_good here.op refl setting.resolved setting.runs setting.typed

-- a step of a task
pub step_good : (m : Module) (next : Input) (s : SourceSeen) → IsAccepted m → IsGoodSeen m s → AreSmall s.shared.births → IsGoodOutcome m s (source_step m next s)
step_good m next s accepted good small =
    named_good (λ outcome. IsGoodOutcome m s outcome) (slice_get m.functions s.frame.func) good.frame.f _ good.frame.there
    (named_good (λ outcome. IsGoodOutcome m s outcome) (slice_get good.frame.f.insts s.frame.inst) good.frame.at.inst _ good.frame.at.inside.there
    (instruction_good m next s accepted good small (setting_of m s.shared.births s.frame accepted good.frame)))
