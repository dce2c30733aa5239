-- The machine follows each call of a library function.
use Rattle.std.proofs.Common.{◌≡◌, ◌≢◌, ℕ, zero, suc, ◌+◌, ◌*◌, ◌%◌, ◌^◌, ◌<◌, ◌==◌, Bool, true, false, if◌then◌else◌, List, [], ◌∷◌, ◌++◌, length, map, slice_get, Option, Some, None, All, refl, sym, ◌∙◌, ap, subst, arith}
use Rattle.hw_base.specs.declared.accesses.Access.TheVariants.{Read, Write}
use Rattle.hw_base.specs.declared.endings.Input.{Input}
use Rattle.hw_base.specs.declared.endings.Trap.TheVariants.{ReadOnly, Abort}
use Rattle.hw_base.specs.declared.numbers.TheConstants.{MUTEX_SIZE, TASK_NUMBER_SIZE}
use Rattle.hw_base.specs.declared.operators.BitOp.{BitOp}
use Rattle.hw_base.specs.declared.operators.OverOp.{OverOp}
use Rattle.hw_base.specs.declared.pointers.Base.{Base}
use Rattle.hw_tags.specs.TaskRuns.{Ends}
use Rattle.ir_core.specs.LibraryAccesses.{accesses_of}
use Rattle.ir_core.specs.ResolvedBodies.{IsResolvedPlaced}
use Rattle.ir_core.specs.Runnable.{StartsTask, StartsAsItIs}
use Rattle.ir_core.specs.declared.ir_module.Function.{Function}
use Rattle.ir_core.specs.declared.ir_module.Inst.{Inst}
use Rattle.ir_core.specs.declared.lib_functions.Lib.{Lib}
use Rattle.ir_core.specs.declared.lib_functions.Lib.TheVariants as lib
use Rattle.ir_core.specs.declared.operands.Placed.{Placed}
use Rattle.ir_core.specs.declared.operands.StartArg.{StartArg}
use Rattle.ir_machine.specs.BlockFunctions as machine_blocks
use Rattle.ir_machine.specs.ByteFunctions as machine_bytes
use Rattle.ir_machine.specs.InstructionStep as machine
use Rattle.ir_machine.specs.Operands.{number_in as machine_number, pointer_in, integer_in, argument_at}
use Rattle.ir_machine.specs.State.{MachineSetting, MachineSeen, MachineOutcome, Exited}
use Rattle.ir_machine.specs.StepEnds as ends
use Rattle.ir_machine.specs.StepEnds.{advanced}
use Rattle.ir_machine.specs.TaskFunctions as machine_tasks
use Rattle.ir_machine.specs.TextFunctions as machine_text
use Rattle.ir_meaning.specs.AccessRule.{Fine, WritesConstant, access_answer}
use Rattle.ir_meaning.specs.BlockFunctions as source_blocks
use Rattle.ir_meaning.specs.ByteFunctions as source_bytes
use Rattle.ir_meaning.specs.Births.{bytes_at}
use Rattle.ir_meaning.specs.Encoding.{data_numbers}
use Rattle.ir_meaning.specs.InstructionStep.{values_of}
use Rattle.ir_meaning.specs.LibraryCalls as source
use Rattle.ir_meaning.specs.LibraryCalls.{on_accesses, nothing_step, lifetime_step}
use Rattle.ir_meaning.specs.Operands.{argument, with_pointer, with_integer}
use Rattle.ir_meaning.specs.State.{SourceOutcome, nothing_happened, printing}
use Rattle.ir_meaning.specs.StepEnds as source_ends
use Rattle.ir_meaning.specs.TaskFunctions as source_tasks
use Rattle.ir_meaning.specs.TextFunctions as source_text
use Rattle.ir_meaning.specs.Values.{Value, Integer, Address}
use Rattle.mi_code.specs.LibraryCode.{library_call, start_function}
use Rattle.mi_code.specs.MachineOperands.{operands_of, argument as machine_argument, call_result}
use Rattle.mi_code.specs.TagChecks.{library_checks}
use Rattle.mi_code.specs.declared.operands.MiOperand.{MiOperand}
use Rattle.mi_code.specs.declared.operations.MiOp.{MiOp}
use Rattle.tag_story.specs.Story.{number_of}
use Rattle.tag_story.specs.Telling.{all_told}
use Rattle.tag_story.specs.ToldRun.{ToldSeen, source_seen}
use Rattle.step_simulation.proofs.ArithmeticFollows.{IsOperandOf, overflow-follows}
use Rattle.step_simulation.proofs.BlockFollows.{allocated-follows}
use Rattle.step_simulation.proofs.ByteCallsFollow.{copy-follows, copy-traps, set-follows, set-traps, memcmp-follows}
use Rattle.step_simulation.proofs.CheckedAccess.{advanced-like, read-writes-nothing, access-checked}
use Rattle.step_simulation.proofs.CreateFollows.{create-follows, create-traps}
use Rattle.step_simulation.proofs.FreeFollows.{free-follows}
use Rattle.step_simulation.proofs.LibraryChecks.{HasChecks, checks-before, no-checks, one-check, two-checks, counted-follows, freed-follows}
use Rattle.step_simulation.proofs.LibraryParts.{argument-same, argument-of, pointer-named, with_pointer-is, with_integer-is, prints-follows, gives_to-follows, bits-follows}
use Rattle.step_simulation.proofs.LoadFollows.{pointer-is}
use Rattle.step_simulation.proofs.PlainSteps.{FollowsIn, IsBeforeNext, own_site, goes_on-follows, traps-follows, integer-known}
use Rattle.ir_lib.specs.Strings.{string_at}
use Rattle.step_simulation.proofs.ResizeFollows.{resized-follows}
use Rattle.step_simulation.proofs.StringsFollow.{text-follows, strlen-follows, puts-follows}
use Rattle.step_simulation.proofs.WaitsFollow.{getchar-follows, joined-follows, init-follows, init-traps, lock-follows, lock-traps, unlock-follows, unlock-traps}
use Rattle.simulation.specs.Parts.{IsKnownBase}
use Rattle.step_simulation.specs.RegisterSteps.{IsAt}
use Rattle.simulation.specs.Relation.{IsSetting, SeenLike, SeenRelated}

module _ (setting : MachineSetting) (given : Input) (t : ToldSeen) (m : MachineSeen) (f : Function) (inst : Inst) (is : IsSetting setting) (at : IsAt setting.program t f inst) (related : SeenRelated setting t m) (args : List Placed) (resolved : All (IsResolvedPlaced setting.program f) args) (start : Option StartArg) where
  abbrev values : List (Option Value)
  values = values_of setting.program (source_seen t) args

  abbrev result : Option ℕ
  result = inst.result

  -- the call of a function has just its checks before it
  abbrev pub HasCall : Lib → Type 0
  HasCall function = HasChecks setting given t m f inst is at related (library_checks function args) (library_call f function result args start)

  -- it is followed
  abbrev pub IsCallFollowed : Lib → Type 0
  IsCallFollowed function = HasCall function → FollowsIn setting t m (source.library_step setting.program given (source_seen t) result args values start function) (machine.machine_step setting given m)

  -- ---- arguments

  -- an argument of the machine's call
  abbrev pub given_at : ℕ → MiOperand
  given_at k = argument_at (operands_of args) k

  pub arg : (k : ℕ) → IsOperandOf t m (given_at k) (argument values k)
  arg k = subst (λ x. IsOperandOf t m x (argument values k)) (sym (argument-same args k)) (argument-of setting t m f args k related.like resolved)

  pub pointer-arg : (k : ℕ) (base : Base) (off : ℕ) → argument values k ≡ Some (Address base off) → pointer_in m (given_at k) ≡ number_of t.shared.story.births base (off % 2 ^ 64)
  pointer-arg k base off named = pointer-is setting t m f is related.like (given_at k) base off (arg k (Address base off) named).0

  pub known-arg : (k : ℕ) (base : Base) (off : ℕ) → argument values k ≡ Some (Address base off) → IsKnownBase t.shared.story.births base
  known-arg k base off named = (arg k (Address base off) named).1

  pub integer-arg : (width k n : ℕ) → argument values k ≡ Some (Integer n) → integer_in m width (given_at k) ≡ n % 2 ^ width
  integer-arg width k n named = ap (λ i. i % 2 ^ width) (arg k (Integer n) named).0

  same-integer : (k n l : ℕ) → argument values k ≡ Some (Integer n) → argument values k ≡ Some (Integer l) → n ≡ l
  same-integer k n l h g = let one : Some (Integer n) ≡ Some (Integer l) = sym h ∙ g in cc

  same-base : (k : ℕ) (base other : Base) (off off_too : ℕ) → argument values k ≡ Some (Address base off) → argument values k ≡ Some (Address other off_too) → Address base off ≡ Address other off_too
  same-base k base other off off_too h g = let one : Some (Address base off) ≡ Some (Address other off_too) = sym h ∙ g in cc

  -- the state after one check, and after two
  abbrev pub after_one : SeenLike setting t (advanced m)
  after_one = advanced-like setting t m is related.like

  abbrev pub after_two : SeenLike setting t (advanced (advanced m))
  after_two = advanced-like setting t (advanced m) is after_one

  -- ---- blocks

  malloc : IsCallFollowed lib.Malloc
  unfolding on_accesses source_blocks.malloc_step
  malloc has =
      no-checks setting given t m f inst is at related _ has _ (λ next.
      integer-known setting t m 64 (argument values 0) (machine_number m (given_at 0)) _ _ (arg 0) (λ n same.
      subst (λ k. FollowsIn setting t m (source_blocks.allocated (source_seen t) result n) (machine_blocks.malloc_step setting m (own_site t) (call_result result) k)) same
      (allocated-follows setting t m f is related.like (checks-before setting given t m f inst is at related _ _ m has refl-place) result n)))
    where
      refl-place : m.frame.place ≡ m.frame.place + 0
      refl-place = let e : m.frame.place ≡ m.frame.place + 0 = omega arith in e

  calloc : IsCallFollowed lib.Calloc
  unfolding on_accesses source_blocks.calloc_step
  calloc has =
      no-checks setting given t m f inst is at related _ has _ (λ next.
      integer-known setting t m 64 (argument values 0) (machine_number m (given_at 0)) _ _ (arg 0) (λ n same.
      integer-known setting t m 64 (argument values 1) (machine_number m (given_at 1)) _ _ (arg 1) (λ l also.
      subst (λ k. FollowsIn setting t m (source_blocks.allocated (source_seen t) result (n * l)) (machine_blocks.malloc_step setting m (own_site t) (call_result result) k)) (ap (λ k. k * l) same ∙ ap (λ k. machine_number m (given_at 0) % 2 ^ 64 * k) also)
      (allocated-follows setting t m f is related.like (checks-before setting given t m f inst is at related _ _ m has (let e : m.frame.place ≡ m.frame.place + 0 = omega arith in e)) result (n * l)))))

  free : IsCallFollowed lib.Free
  unfolding on_accesses source_blocks.free_step
  free has =
      one-check setting given t m f inst is at related _ _ has _ (λ go next own.
      freed-follows setting t m f is related.like (machine_argument args 0) (argument values 0) go _ (argument-of setting t m f args 0 related.like resolved) (λ base off named fine.
      subst (λ r. FollowsIn setting t m (with_pointer (argument values 0) (λ b o. source_blocks.freed (source_seen t) b)) r) (sym own)
      (subst (λ outcome. FollowsIn setting t m outcome (machine_blocks.free_step setting (advanced m) (own_site t) (pointer_in m (given_at 0)))) (sym (with_pointer-is (argument values 0) base off (λ b o. source_blocks.freed (source_seen t) b) named))
      (free-follows setting t (advanced m) f is after_one (checks-before setting given t m f inst is at related _ _ (advanced m) has refl) base (off % 2 ^ 64) (pointer_in m (given_at 0)) (pointer-arg 0 base off named) fine))))

  -- ---- runs of bytes

  -- a copy, whether it has a result or not
  copy : (to : Option ℕ) (op : MiOp) → HasChecks setting given t m f inst is at related (library_checks lib.Memcpy args) op
      → ((next : MachineSeen → MachineOutcome) (s : MachineSeen) → machine.operation_step setting given (own_site t) next s op ≡ machine_bytes.copy_step s (own_site t) (call_result to) (pointer_in s (given_at 0)) (pointer_in s (given_at 1)) (integer_in s 64 (given_at 2)))
      → FollowsIn setting t m (on_accesses (source_seen t) values (accesses_of lib.Memcpy) (source_bytes.copy_step (source_seen t) to values)) (machine.machine_step setting given m)
  unfolding on_accesses source_bytes.copy_step
  copy to op has is_copy =
      two-checks setting given t m f inst is at related _ _ op has _ (λ go later next middle last.
      counted-follows setting t m f is related.like Read (λ same. absurd cc) (machine_argument args 1) (machine_argument args 2) (argument values 1) (argument values 2) go _ (argument-of setting t m f args 1 related.like resolved) (argument-of setting t m f args 2 related.like resolved)
      (λ from from_off size from_named size_named readable.
      subst (λ r. FollowsIn setting t m (with_pointer (argument values 0) (λ b o. with_integer 64 (argument values 2) (λ n. source_ends.on_access (source_seen t) Write b o n 1 (source_bytes.copy_step (source_seen t) to values)))) r) (sym middle)
      (counted-follows setting t (advanced m) f is after_one Write (λ same. absurd cc) (machine_argument args 0) (machine_argument args 2) (argument values 0) (argument values 2) later _ (argument-of setting t m f args 0 related.like resolved) (argument-of setting t m f args 2 related.like resolved)
      (λ base off size_too base_named size_too_named writable.
      let sizes = same-integer 2 size_too size size_too_named size_named in
      subst (λ r. FollowsIn setting t m (source_bytes.copy_step (source_seen t) to values) r) (sym (last ∙ is_copy next (advanced (advanced m))))
      (subst (λ outcome. FollowsIn setting t m outcome (machine_bytes.copy_step (advanced (advanced m)) (own_site t) (call_result to) (pointer_in m (given_at 0)) (pointer_in m (given_at 1)) (integer_in m 64 (given_at 2))))
      (sym (with_pointer-is (argument values 0) base off _ base_named ∙ with_pointer-is (argument values 1) from from_off _ from_named ∙ with_integer-is 64 (argument values 2) size _ size_named))
      (subst (λ n. FollowsIn setting t m (source_ends.gives (source_ends.stored (source_seen t) base (off % 2 ^ 64) (bytes_at t.shared.source.births from (from_off % 2 ^ 64) (size % 2 ^ 64))) to (Address base (off % 2 ^ 64))) (machine_bytes.copy_step (advanced (advanced m)) (own_site t) (call_result to) (pointer_in m (given_at 0)) (pointer_in m (given_at 1)) n)) (sym (integer-arg 64 2 size size_named))
      (copy-follows setting t (advanced (advanced m)) f is after_two (checks-before setting given t m f inst is at related _ _ (advanced (advanced m)) has (let e : m.frame.place + 1 + 1 ≡ m.frame.place + 2 = omega arith in e)) to base (off % 2 ^ 64) from (from_off % 2 ^ 64) (size % 2 ^ 64) (pointer_in m (given_at 0)) (pointer_in m (given_at 1)) (pointer-arg 0 base off base_named) (pointer-arg 1 from from_off from_named) (known-arg 0 base off base_named) readable
      (ap (λ n. access_answer t.shared.source.births Write base (off % 2 ^ 64) (n % 2 ^ 64) 1) (sym sizes) ∙ writable)))))
      (λ base off size_too base_named size_too_named constant.
      let sizes = same-integer 2 size_too size size_too_named size_named in
      subst (λ r. FollowsIn setting t m (source_ends.traps (source_seen t) ReadOnly) r) (sym (last ∙ is_copy next (advanced (advanced m))))
      (subst (λ n. FollowsIn setting t m (source_ends.traps (source_seen t) ReadOnly) (machine_bytes.copy_step (advanced (advanced m)) (own_site t) (call_result to) (pointer_in m (given_at 0)) (pointer_in m (given_at 1)) n)) (sym (integer-arg 64 2 size size_named))
      (copy-traps setting t (advanced (advanced m)) f is after_two (checks-before setting given t m f inst is at related _ _ (advanced (advanced m)) has (let e : m.frame.place + 1 + 1 ≡ m.frame.place + 2 = omega arith in e)) to base (off % 2 ^ 64) from (from_off % 2 ^ 64) (size % 2 ^ 64) (pointer_in m (given_at 0)) (pointer_in m (given_at 1)) (pointer-arg 0 base off base_named) (pointer-arg 1 from from_off from_named) readable
      (ap (λ n. access_answer t.shared.source.births Write base (off % 2 ^ 64) (n % 2 ^ 64) 1) (sym sizes) ∙ constant))))))
      (λ from from_off size from_named size_named constant. absurd (read-writes-nothing _ (from_off % 2 ^ 64) (size % 2 ^ 64) 1 constant)))

  -- a fill
  fill : (to : Option ℕ) (op : MiOp) → HasChecks setting given t m f inst is at related (library_checks lib.Memset args) op
      → ((next : MachineSeen → MachineOutcome) (s : MachineSeen) → machine.operation_step setting given (own_site t) next s op ≡ machine_bytes.set_step s (own_site t) (call_result to) (pointer_in s (given_at 0)) (integer_in s 32 (given_at 1)) (integer_in s 64 (given_at 2)))
      → FollowsIn setting t m (on_accesses (source_seen t) values (accesses_of lib.Memset) (source_bytes.set_step (source_seen t) to values)) (machine.machine_step setting given m)
  unfolding on_accesses source_bytes.set_step
  fill to op has is_fill =
      one-check setting given t m f inst is at related _ op has _ (λ go next own.
      counted-follows setting t m f is related.like Write (λ same. absurd cc) (machine_argument args 0) (machine_argument args 2) (argument values 0) (argument values 2) go _ (argument-of setting t m f args 0 related.like resolved) (argument-of setting t m f args 2 related.like resolved)
      (λ base off size base_named size_named writable.
      subst (λ r. FollowsIn setting t m (source_bytes.set_step (source_seen t) to values) r) (sym (own ∙ is_fill next (advanced m)))
      (subst (λ outcome. FollowsIn setting t m outcome (machine_bytes.set_step (advanced m) (own_site t) (call_result to) (pointer_in m (given_at 0)) (integer_in m 32 (given_at 1)) (integer_in m 64 (given_at 2)))) (sym (with_pointer-is (argument values 0) base off _ base_named))
      (integer-known setting t m 32 (argument values 1) (machine_number m (given_at 1)) _ _ (arg 1) (λ byte same.
      subst (λ outcome. FollowsIn setting t m outcome (machine_bytes.set_step (advanced m) (own_site t) (call_result to) (pointer_in m (given_at 0)) (integer_in m 32 (given_at 1)) (integer_in m 64 (given_at 2)))) (sym (with_integer-is 64 (argument values 2) size _ size_named))
      (subst (λ k. FollowsIn setting t m (source_ends.gives (source_ends.stored (source_seen t) base (off % 2 ^ 64) (Rattle.std.proofs.Common.replicate (size % 2 ^ 64) (Rattle.ir_meaning.specs.Values.Data (byte % 256)))) to (Address base (off % 2 ^ 64))) (machine_bytes.set_step (advanced m) (own_site t) (call_result to) (pointer_in m (given_at 0)) k (integer_in m 64 (given_at 2)))) same
      (subst (λ n. FollowsIn setting t m (source_ends.gives (source_ends.stored (source_seen t) base (off % 2 ^ 64) (Rattle.std.proofs.Common.replicate (size % 2 ^ 64) (Rattle.ir_meaning.specs.Values.Data (byte % 256)))) to (Address base (off % 2 ^ 64))) (machine_bytes.set_step (advanced m) (own_site t) (call_result to) (pointer_in m (given_at 0)) byte n)) (sym (integer-arg 64 2 size size_named))
      (set-follows setting t (advanced m) f is after_one (checks-before setting given t m f inst is at related _ _ (advanced m) has refl) to base (off % 2 ^ 64) (size % 2 ^ 64) byte (pointer_in m (given_at 0)) (pointer-arg 0 base off base_named) (known-arg 0 base off base_named) writable)))))))
      (λ base off size base_named size_named constant.
      subst (λ r. FollowsIn setting t m (source_ends.traps (source_seen t) ReadOnly) r) (sym (own ∙ is_fill next (advanced m)))
      (subst (λ n. FollowsIn setting t m (source_ends.traps (source_seen t) ReadOnly) (machine_bytes.set_step (advanced m) (own_site t) (call_result to) (pointer_in m (given_at 0)) (integer_in m 32 (given_at 1)) n)) (sym (integer-arg 64 2 size size_named))
      (set-traps setting t (advanced m) f is after_one (checks-before setting given t m f inst is at related _ _ (advanced m) has refl) to base (off % 2 ^ 64) (size % 2 ^ 64) (integer_in m 32 (given_at 1)) (pointer_in m (given_at 0)) (pointer-arg 0 base off base_named) constant))))

  memcmp : IsCallFollowed lib.Memcmp
  unfolding on_accesses source_bytes.memcmp_step
  memcmp has =
      two-checks setting given t m f inst is at related _ _ _ has _ (λ go later next middle last.
      counted-follows setting t m f is related.like Read (λ same. absurd cc) (machine_argument args 0) (machine_argument args 2) (argument values 0) (argument values 2) go _ (argument-of setting t m f args 0 related.like resolved) (argument-of setting t m f args 2 related.like resolved)
      (λ base off size base_named size_named readable.
      subst (λ r. FollowsIn setting t m (with_pointer (argument values 1) (λ b o. with_integer 64 (argument values 2) (λ n. source_ends.on_access (source_seen t) Read b o n 1 (source_bytes.memcmp_step (source_seen t) result values)))) r) (sym middle)
      (counted-follows setting t (advanced m) f is after_one Read (λ same. absurd cc) (machine_argument args 1) (machine_argument args 2) (argument values 1) (argument values 2) later _ (argument-of setting t m f args 1 related.like resolved) (argument-of setting t m f args 2 related.like resolved)
      (λ other other_off size_too other_named size_too_named also.
      let sizes = same-integer 2 size_too size size_too_named size_named in
      subst (λ r. FollowsIn setting t m (source_bytes.memcmp_step (source_seen t) result values) r) (sym last)
      (subst (λ outcome. FollowsIn setting t m outcome (machine_bytes.memcmp_step (advanced (advanced m)) (own_site t) (call_result result) (pointer_in m (given_at 0)) (pointer_in m (given_at 1)) (integer_in m 64 (given_at 2))))
      (sym (with_pointer-is (argument values 0) base off _ base_named ∙ with_pointer-is (argument values 1) other other_off _ other_named ∙ with_integer-is 64 (argument values 2) size _ size_named))
      (subst (λ n. FollowsIn setting t m (source_bytes.gives_order (source_seen t) result (data_numbers (bytes_at t.shared.source.births base (off % 2 ^ 64) (size % 2 ^ 64))) (data_numbers (bytes_at t.shared.source.births other (other_off % 2 ^ 64) (size % 2 ^ 64)))) (machine_bytes.memcmp_step (advanced (advanced m)) (own_site t) (call_result result) (pointer_in m (given_at 0)) (pointer_in m (given_at 1)) n)) (sym (integer-arg 64 2 size size_named))
      (memcmp-follows setting t (advanced (advanced m)) f is after_two (checks-before setting given t m f inst is at related _ _ (advanced (advanced m)) has (let e : m.frame.place + 1 + 1 ≡ m.frame.place + 2 = omega arith in e)) result base (off % 2 ^ 64) other (other_off % 2 ^ 64) (size % 2 ^ 64) (pointer_in m (given_at 0)) (pointer_in m (given_at 1)) (pointer-arg 0 base off base_named) (pointer-arg 1 other other_off other_named) readable
      (ap (λ n. access_answer t.shared.source.births Read other (other_off % 2 ^ 64) (n % 2 ^ 64) 1) (sym sizes) ∙ also)))))
      (λ other other_off size_too other_named size_too_named constant. absurd (read-writes-nothing _ (other_off % 2 ^ 64) (size_too % 2 ^ 64) 1 constant))))
      (λ base off size base_named size_named constant. absurd (read-writes-nothing _ (off % 2 ^ 64) (size % 2 ^ 64) 1 constant)))

  -- ---- text and ends

  abbrev own_before : (function : Lib) → HasCall function → library_checks function args ≡ [] → IsBeforeNext setting t m f
  own_before function has none = checks-before setting given t m f inst is at related _ _ m has (let zero_more : m.frame.place ≡ m.frame.place + 0 = omega arith in zero_more ∙ ap (λ checks. m.frame.place + length checks) (sym none))

  putchar : IsCallFollowed lib.Putchar
  unfolding on_accesses source_text.putchar_step machine_text.putchar_step
  putchar has =
      no-checks setting given t m f inst is at related _ has _ (λ next.
      integer-known setting t m 32 (argument values 0) (machine_number m (given_at 0)) _ _ (arg 0) (λ c same.
      subst (λ k. FollowsIn setting t m (source_ends.gives_with (source_seen t) result (Integer (c % 256)) (printing (c % 256 ∷ []))) (ends.prints m (call_result result) (k % 256) (k % 256 ∷ []))) same
      (prints-follows setting t m f related.like (own_before lib.Putchar has refl) result (Integer (c % 256)) (c % 256) (c % 256 ∷ []) tt tt refl)))

  getchar : IsCallFollowed lib.Getchar
  unfolding on_accesses
  getchar has =
      no-checks setting given t m f inst is at related _ has _ (λ next. getchar-follows setting t m f is related.like (own_before lib.Getchar has refl) result given)

  exit : IsCallFollowed lib.Exit
  unfolding on_accesses source_text.exit_step machine_text.exit_step all_told
  exit has =
      no-checks setting given t m f inst is at related _ has _ (λ next.
      integer-known setting t m 32 (argument values 0) (machine_number m (given_at 0)) _ _ (arg 0) (λ c same. (
        m.shared,
        m.frame ∷ m.callers,
        ap (λ k. Ends m.shared (m.frame ∷ m.callers) [] (Exited k)) (sym same),
      )))

  abort : IsCallFollowed lib.Abort
  unfolding on_accesses source_text.abort_step machine_text.abort_step
  abort has = no-checks setting given t m f inst is at related _ has (source_ends.traps (source_seen t) Abort) (λ next. traps-follows setting t m Abort related.like)

  llvm_trap : IsCallFollowed lib.LlvmTrap
  unfolding on_accesses source_text.abort_step machine_text.abort_step
  llvm_trap has = no-checks setting given t m f inst is at related _ has (source_ends.traps (source_seen t) Abort) (λ next. traps-follows setting t m Abort related.like)

  -- ---- joins and mutexes

  join : IsCallFollowed lib.PthreadJoin
  unfolding on_accesses source_tasks.join_step
  join has =
      no-checks setting given t m f inst is at related _ has _ (λ next.
      integer-known setting t m 64 (argument values 0) (machine_number m (given_at 0)) _ _ (arg 0) (λ n same.
      subst (λ k. FollowsIn setting t m (source_tasks.joined (source_seen t) result (slice_get t.finished n)) (machine_tasks.join_step m (call_result result) k)) same
      (joined-follows setting t m f is related.like (own_before lib.PthreadJoin has refl) result n)))

  -- a function on a mutex
  abbrev mutex_outcome : SourceOutcome → SourceOutcome
  mutex_outcome next = with_pointer (argument values 0) (λ base off. source_ends.on_access (source_seen t) Write base off MUTEX_SIZE MUTEX_SIZE next)

  mutex : (op : MiOp) → HasChecks setting given t m f inst is at related (library_checks lib.MutexInit args) op → (next : SourceOutcome)
      → ((base : Base) (off : ℕ) → argument values 0 ≡ Some (Address base off) → access_answer t.shared.source.births Write base (off % 2 ^ 64) MUTEX_SIZE MUTEX_SIZE ≡ Fine → (go : MachineSeen → MachineOutcome) → FollowsIn setting t m next (machine.operation_step setting given (own_site t) go (advanced m) op))
      → ((base : Base) (off : ℕ) → argument values 0 ≡ Some (Address base off) → access_answer t.shared.source.births Write base (off % 2 ^ 64) MUTEX_SIZE MUTEX_SIZE ≡ WritesConstant → (go : MachineSeen → MachineOutcome) → FollowsIn setting t m (source_ends.traps (source_seen t) ReadOnly) (machine.operation_step setting given (own_site t) go (advanced m) op))
      → FollowsIn setting t m (mutex_outcome next) (machine.machine_step setting given m)
  mutex op has next follows trapped =
      one-check setting given t m f inst is at related _ op has _ (λ go later own.
      pointer-named setting t m (argument values 0) (machine_number m (machine_argument args 0)) _ _ (argument-of setting t m f args 0 related.like resolved) (λ base off named known number.
      access-checked setting t m is related.like given Write (λ same. absurd cc) base (off % 2 ^ 64) MUTEX_SIZE MUTEX_SIZE (machine_argument args 0) go next (omega arith) (omega arith) refl (pointer-is setting t m f is related.like (machine_argument args 0) base off number)
      (λ fine. subst (λ r. FollowsIn setting t m next r) (sym own) (follows base off named fine later))
      (λ constant. subst (λ r. FollowsIn setting t m (source_ends.traps (source_seen t) ReadOnly) r) (sym own) (trapped base off named constant later))))

  mutex_init : IsCallFollowed lib.MutexInit
  unfolding on_accesses source_tasks.mutex_init_step
  mutex_init has =
      mutex _ has _
      (λ base off named fine go.
      subst (λ outcome. FollowsIn setting t m outcome (machine_tasks.mutex_init_step (advanced m) (own_site t) (call_result result) (pointer_in m (given_at 0)))) (sym (with_pointer-is (argument values 0) base off _ named))
      (init-follows setting t (advanced m) f is after_one (checks-before setting given t m f inst is at related _ _ (advanced m) has refl) result base (off % 2 ^ 64) (pointer_in m (given_at 0)) (pointer-arg 0 base off named) fine))
      (λ base off named constant go.
      init-traps setting t (advanced m) f is after_one (checks-before setting given t m f inst is at related _ _ (advanced m) has refl) result base (off % 2 ^ 64) (pointer_in m (given_at 0)) (pointer-arg 0 base off named) constant)

  mutex_lock : IsCallFollowed lib.MutexLock
  unfolding on_accesses source_tasks.mutex_lock_step
  mutex_lock has =
      mutex _ has _
      (λ base off named fine go.
      subst (λ outcome. FollowsIn setting t m outcome (machine_tasks.mutex_lock_step (advanced m) (own_site t) (call_result result) (pointer_in m (given_at 0)))) (sym (with_pointer-is (argument values 0) base off _ named))
      (lock-follows setting t (advanced m) f is after_one (checks-before setting given t m f inst is at related _ _ (advanced m) has refl) result base (off % 2 ^ 64) (pointer_in m (given_at 0)) (pointer-arg 0 base off named) fine))
      (λ base off named constant go.
      lock-traps setting t (advanced m) f is after_one (checks-before setting given t m f inst is at related _ _ (advanced m) has refl) result base (off % 2 ^ 64) (pointer_in m (given_at 0)) (pointer-arg 0 base off named) constant)

  mutex_unlock : IsCallFollowed lib.MutexUnlock
  unfolding on_accesses source_tasks.mutex_unlock_step
  mutex_unlock has =
      mutex _ has _
      (λ base off named fine go.
      subst (λ outcome. FollowsIn setting t m outcome (machine_tasks.mutex_unlock_step (advanced m) (own_site t) (call_result result) (pointer_in m (given_at 0)))) (sym (with_pointer-is (argument values 0) base off _ named))
      (unlock-follows setting t (advanced m) f is after_one (checks-before setting given t m f inst is at related _ _ (advanced m) has refl) result base (off % 2 ^ 64) (pointer_in m (given_at 0)) (pointer-arg 0 base off named) fine))
      (λ base off named constant go.
      unlock-traps setting t (advanced m) f is after_one (checks-before setting given t m f inst is at related _ _ (advanced m) has refl) result base (off % 2 ^ 64) (pointer_in m (given_at 0)) (pointer-arg 0 base off named) constant)

  mutex_destroy : IsCallFollowed lib.MutexDestroy
  unfolding on_accesses source_tasks.mutex_destroy_step
  mutex_destroy has = no-checks setting given t m f inst is at related _ has (source_ends.gives (source_seen t) result (Integer 0)) (λ next. gives_to-follows setting t m f related.like (own_before lib.MutexDestroy has refl) result (Integer 0) 0 tt tt refl)

  -- ---- what is an instruction of its own

  lifetime_start : IsCallFollowed lib.LifetimeStart
  unfolding on_accesses lifetime_step
  lifetime_start has = no-checks setting given t m f inst is at related _ has (source_ends.goes_on (source_seen t) nothing_happened) (λ next. goes_on-follows setting t m f related.like (own_before lib.LifetimeStart has refl))

  lifetime_end : IsCallFollowed lib.LifetimeEnd
  unfolding on_accesses lifetime_step
  lifetime_end has = no-checks setting given t m f inst is at related _ has (source_ends.goes_on (source_seen t) nothing_happened) (λ next. goes_on-follows setting t m f related.like (own_before lib.LifetimeEnd has refl))

  assume : IsCallFollowed lib.Assume
  unfolding on_accesses nothing_step
  assume has = no-checks setting given t m f inst is at related _ has (source_ends.goes_on (source_seen t) nothing_happened) (λ next. goes_on-follows setting t m f related.like (own_before lib.Assume has refl))

  overflow : (kind : OverOp) (width : ℕ) → IsCallFollowed (lib.Overflow kind width)
  unfolding on_accesses
  overflow kind width has =
      no-checks setting given t m f inst is at related _ has _ (λ next.
      overflow-follows setting t m f related.like (own_before (lib.Overflow kind width) has refl) result kind width values (machine_argument args 0) (machine_argument args 1) (argument-of setting t m f args 0 related.like resolved) (argument-of setting t m f args 1 related.like resolved))

  bits : (kind : BitOp) (width : ℕ) → IsCallFollowed (lib.Bits kind width)
  unfolding on_accesses
  bits kind width has =
      no-checks setting given t m f inst is at related _ has _ (λ next.
      bits-follows setting t m f related.like (own_before (lib.Bits kind width) has refl) result kind width args arg)

  -- ---- strings

  strlen : IsCallFollowed lib.Strlen
  unfolding on_accesses source_text.strlen_step source_text.on_whole
  strlen has =
      one-check setting given t m f inst is at related _ _ has _ (λ go next own.
      text-follows setting t m f is related.like (machine_argument args 0) (argument values 0) go _ (argument-of setting t m f args 0 related.like resolved) (λ base off ns named whole found.
      subst (λ r. FollowsIn setting t m (source_text.strlen_step (source_seen t) result values) r) (sym own)
      (subst (λ outcome. FollowsIn setting t m outcome (machine_text.strlen_step (advanced m) (own_site t) (call_result result) (pointer_in m (given_at 0))))
      (sym (with_pointer-is (argument values 0) base off _ named ∙ ap (λ answer. source_text.on_whole answer (λ ms. source_ends.gives (source_seen t) result (Integer (length ms)))) whole))
      (strlen-follows setting t (advanced m) f is after_one (checks-before setting given t m f inst is at related _ _ (advanced m) has refl) result (pointer_in m (given_at 0)) ns
      (ap (λ x. string_at m.shared.memory (pointer_in m x)) (argument-same args 0) ∙ found)))))

  puts : IsCallFollowed lib.Puts
  unfolding on_accesses source_text.puts_step source_text.on_whole
  puts has =
      one-check setting given t m f inst is at related _ _ has _ (λ go next own.
      text-follows setting t m f is related.like (machine_argument args 0) (argument values 0) go _ (argument-of setting t m f args 0 related.like resolved) (λ base off ns named whole found.
      subst (λ r. FollowsIn setting t m (source_text.puts_step (source_seen t) result values) r) (sym own)
      (subst (λ outcome. FollowsIn setting t m outcome (machine_text.puts_step (advanced m) (own_site t) (call_result result) (pointer_in m (given_at 0))))
      (sym (with_pointer-is (argument values 0) base off _ named ∙ ap (λ answer. source_text.on_whole answer (λ ms. source_ends.gives_with (source_seen t) result (Integer 0) (printing (ms ++ 10 ∷ [])))) whole))
      (puts-follows setting t (advanced m) f is after_one (checks-before setting given t m f inst is at related _ _ (advanced m) has refl) result (pointer_in m (given_at 0)) ns
      (ap (λ x. string_at m.shared.memory (pointer_in m x)) (argument-same args 0) ∙ found)))))

  realloc : IsCallFollowed lib.Realloc
  unfolding on_accesses source_blocks.realloc_step
  realloc has =
      one-check setting given t m f inst is at related _ _ has _ (λ go next own.
      freed-follows setting t m f is related.like (machine_argument args 0) (argument values 0) go _ (argument-of setting t m f args 0 related.like resolved) (λ base off named fine.
      subst (λ r. FollowsIn setting t m (source_blocks.realloc_step (source_seen t) result values) r) (sym own)
      (subst (λ outcome. FollowsIn setting t m outcome (machine_blocks.realloc_step setting (advanced m) (own_site t) (call_result result) (pointer_in m (given_at 0)) (integer_in m 64 (given_at 1)))) (sym (with_pointer-is (argument values 0) base off _ named))
      (integer-known setting t m 64 (argument values 1) (machine_number m (given_at 1)) _ _ (arg 1) (λ size same.
      subst (λ k. FollowsIn setting t m (source_blocks.resized (source_seen t) result base size) (machine_blocks.realloc_step setting (advanced m) (own_site t) (call_result result) (pointer_in m (given_at 0)) k)) same
      (resized-follows setting t (advanced m) f is after_one (checks-before setting given t m f inst is at related _ _ (advanced m) has refl) result base (off % 2 ^ 64) (pointer_in m (given_at 0)) size (pointer-arg 0 base off named) fine))))))

  -- ---- the start of a task

  -- the access of a call of `pthread_create`
  created : (begin : StartArg) → start ≡ Some begin → IsCallFollowed lib.PthreadCreate
  unfolding on_accesses
  created begin some has =
      one-check setting given t m f inst is at related _ _ has _ (λ go later own.
      pointer-named setting t m (argument values 0) (machine_number m (machine_argument args 0)) _ _ (argument-of setting t m f args 0 related.like resolved) (λ base off named known number.
      access-checked setting t m is related.like given Write (λ same. absurd cc) base (off % 2 ^ 64) TASK_NUMBER_SIZE TASK_NUMBER_SIZE (machine_argument args 0) go (source_tasks.create_step setting.program (source_seen t) result values start) (omega arith) (omega arith) refl (pointer-is setting t m f is related.like (machine_argument args 0) base off number)
      (λ fine.
      subst (λ r. FollowsIn setting t m (source_tasks.create_step setting.program (source_seen t) result values start) r) (sym own)
      (subst (λ from. FollowsIn setting t m (source_tasks.create_step setting.program (source_seen t) result values from) (machine_tasks.create_step setting (advanced m) (own_site t) (call_result result) (pointer_in m (given_at 0)) (start_function from) (machine_number m (given_at 2)))) (sym some)
      (create-follows setting t (advanced m) f is after_one (checks-before setting given t m f inst is at related _ _ (advanced m) has refl) result base (off % 2 ^ 64) (pointer_in m (given_at 0)) (pointer-arg 0 base off named) known begin values (machine_number m (given_at 2)) off named refl (arg 2) fine)))
      (λ constant.
      subst (λ r. FollowsIn setting t m (source_ends.traps (source_seen t) ReadOnly) r) (sym own)
      (subst (λ from. FollowsIn setting t m (source_ends.traps (source_seen t) ReadOnly) (machine_tasks.create_step setting (advanced m) (own_site t) (call_result result) (pointer_in m (given_at 0)) (start_function from) (machine_number m (given_at 2)))) (sym some)
      (create-traps setting t (advanced m) f is after_one (checks-before setting given t m f inst is at related _ _ (advanced m) has refl) result base (off % 2 ^ 64) (pointer_in m (given_at 0)) (pointer-arg 0 base off named) known begin (machine_number m (given_at 2)) constant)))))

  -- a call that names a function
  pthread_create : (from : Option StartArg) → start ≡ from → StartsTask setting.program from → IsCallFollowed lib.PthreadCreate
  pthread_create None same names = absurd names
  pthread_create (Some begin) same names = created begin same

  -- ---- by the function

  -- the call of each function
  pub each-library-followed : (function : Lib) → StartsAsItIs setting.program function start → IsCallFollowed function
  each-library-followed lib.Malloc names = malloc
  each-library-followed lib.Calloc names = calloc
  each-library-followed lib.Free names = free
  each-library-followed lib.Realloc names = realloc
  each-library-followed lib.Memcpy names = λ has. copy result _ has (λ next s. refl)
  each-library-followed lib.Memmove names = λ has. copy result _ has (λ next s. refl)
  each-library-followed lib.Memset names = λ has. fill result _ has (λ next s. refl)
  each-library-followed lib.LlvmMemcpy names = λ has. copy None _ has (λ next s. refl)
  each-library-followed lib.LlvmMemmove names = λ has. copy None _ has (λ next s. refl)
  each-library-followed lib.LlvmMemset names = λ has. fill None _ has (λ next s. refl)
  each-library-followed lib.Memcmp names = memcmp
  each-library-followed lib.Strlen names = strlen
  each-library-followed lib.Puts names = puts
  each-library-followed lib.Putchar names = putchar
  each-library-followed lib.Getchar names = getchar
  each-library-followed lib.Exit names = exit
  each-library-followed lib.Abort names = abort
  each-library-followed lib.LlvmTrap names = llvm_trap
  each-library-followed lib.PthreadCreate names = pthread_create start refl names
  each-library-followed lib.PthreadJoin names = join
  each-library-followed lib.MutexInit names = mutex_init
  each-library-followed lib.MutexLock names = mutex_lock
  each-library-followed lib.MutexUnlock names = mutex_unlock
  each-library-followed lib.MutexDestroy names = mutex_destroy
  each-library-followed lib.LifetimeStart names = lifetime_start
  each-library-followed lib.LifetimeEnd names = lifetime_end
  each-library-followed lib.Assume names = assume
  each-library-followed (lib.Bits kind width) names = bits kind width
  each-library-followed (lib.Overflow kind width) names = overflow kind width
