-- Calls of the other declared functions, but for `pthread_create`, aren't stuck.
use Rattle.std.proofs.Common.{◌≡◌, ◌≢◌, ℕ, zero, suc, ◌+◌, ◌*◌, ◌%◌, ◌^◌, List, [], ◌∷◌, ◌++◌, length, replicate, slice_get, Option, Some, None, Bool, true, false, ◌==◌, if◌then◌else◌, refl, sym, subst, arith, inl}
use Rattle.hw_base.specs.declared.accesses.Access.{Access}
use Rattle.hw_base.specs.declared.accesses.Access.TheVariants.{Read, Write}
use Rattle.hw_base.specs.declared.endings.Input.{Input}
use Rattle.hw_base.specs.declared.endings.Input.TheVariants.{Byte, End}
use Rattle.hw_base.specs.declared.numbers.TheConstants.{MUTEX_SIZE}
use Rattle.hw_base.specs.declared.operators.BitOp.{BitOp}
use Rattle.hw_base.specs.declared.operators.BitOp.TheVariants as bits
use Rattle.hw_base.specs.declared.operators.OverOp.{OverOp}
use Rattle.hw_base.specs.declared.pointers.Base.{Base}
use Rattle.hw_tags.specs.TaskRuns.{Stuck}
use Rattle.ir_core.specs.LibraryAccesses.{Counted, Fixed, Text}
use Rattle.ir_core.specs.declared.ir_module.Inst.{Inst}
use Rattle.ir_core.specs.declared.ir_module.Module.{Module}
use Rattle.ir_core.specs.declared.operands.Placed.{Placed}
use Rattle.ir_core.specs.declared.types.IrType.{IrType}
use Rattle.ir_core.specs.declared.types.IrType.TheVariants.{Int, Ptr, Pair}
use Rattle.ir_core.specs.Operations.{is_terminator, is_value_type, given_type}
use Rattle.ir_check_types.specs.Signatures.{bits_parameters}
use Rattle.ir_meaning.specs.ArithmeticSteps.{bits_step, overflow_step}
use Rattle.ir_meaning.specs.Births.{Birth, bytes_at, put_bytes}
use Rattle.ir_meaning.specs.BirthChanges.{OnlyGrow, wrote}
use Rattle.ir_meaning.specs.ByteFunctions.{copy_step, set_step, gives_order, memcmp_step}
use Rattle.ir_meaning.specs.Encoding.{number_bytes, int_from}
use Rattle.ir_meaning.specs.LibraryCalls.{on_string, on_library_access, on_accesses, nothing_step, lifetime_step}
use Rattle.ir_meaning.specs.Operands.{argument, with_pointer}
use Rattle.ir_meaning.specs.State.{SourceSeen, SourceOutcome, SourceShared, SourceReport, nothing_happened, printing}
use Rattle.ir_meaning.specs.StepEnds.{gives, gives_with, stored}
use Rattle.ir_meaning.specs.Strings.{StringAnswer, Whole, Refused, MeetsPiece, NotEnded, string_at}
use Rattle.ir_meaning.specs.TaskFunctions.{joined, join_step, mutex_init_step, mutex_lock_step, mutex_unlock_step, mutex_destroy_step, word_stored}
use Rattle.ir_meaning.specs.TextFunctions.{on_whole, strlen_step, puts_step, putchar_step, taken_if, getchar_step, exit_step, abort_step}
use Rattle.ir_meaning.specs.Values.{Value, Integer, Address, IntegerAndBit, Data, SourceByte}
use Rattle.ir_meaning.proofs.BirthChangeLaws.{change-only_grows}
use Rattle.well_typed_runs.specs.KnownValues.{IsKnownBase, IsKnownByte, AreKnownBytes, AreGoodBirths, HasValue}
use Rattle.well_typed_runs.specs.GoodWorlds.{IsGoodSeen, IsGoodOutcome, AreSmall}
use Rattle.well_typed_runs.proofs.Accesses.{access_good, answer_good, read_integer_good}
use Rattle.well_typed_runs.proofs.Bytes.{read-known, number-known}
use Rattle.well_typed_runs.proofs.KnownBirths.{base-grows}
use Rattle.well_typed_runs.proofs.MemorySteps as memory
use Rattle.well_typed_runs.proofs.GoingOn as on
use Rattle.well_typed_runs.proofs.Settings.{IsSetting}
use Rattle.well_typed_runs.proofs.Strings.{IsAnswered, string_answered, string_ends}
use Rattle.well_typed_runs.proofs.Values.{integer_good, pointer_good}

module _ (m : Module) (s : SourceSeen) (good : IsGoodSeen m s) (setting : IsSetting m good.frame.f good.frame.at.inst) (plain : is_terminator good.frame.at.inst.op ≡ false) where
  abbrev here : Inst
  here = good.frame.at.inst

  abbrev is_good : SourceOutcome → Type 0
  is_good outcome = IsGoodOutcome m s outcome

  abbrev there : List Birth
  there = s.shared.births

  -- ---- accesses of a call

  counted_good : (values : List (Option Value)) (access : Access) (pointer count : ℕ) (next : SourceOutcome) → HasValue there Ptr (argument values pointer)
      → HasValue there (Int 64) (argument values count) → IsGoodOutcome m s next → IsGoodOutcome m s (on_library_access s values (Counted access pointer count) next)
  counted_good values access pointer count next p n h =
      pointer_good is_good there (argument values pointer) _ p (λ base off known. integer_good is_good there 64 64 (argument values count) _ n (λ size.
      access_good m s access base off size 1 next good.births known (λ fine. h)))

  pub fixed_good : (values : List (Option Value)) (access : Access) (pointer size : ℕ) (next : SourceOutcome) → HasValue there Ptr (argument values pointer) → IsGoodOutcome m s next
      → IsGoodOutcome m s (on_library_access s values (Fixed access pointer size) next)
  fixed_good values access pointer size next p h =
      pointer_good is_good there (argument values pointer) _ p (λ base off known. access_good m s access base off size size next good.births known (λ fine. h))

  -- ---- results

  gives_int : (width n : ℕ) (report : SourceReport) → given_type m here.op ≡ Int width → IsGoodOutcome m s (gives_with s here.result (Integer n) report)
  gives_int width n report given = on.gives_good m s good setting (Int width) (Integer n) report plain given refl refl tt

  -- ---- runs of bytes

  replicate-known : (births : List Birth) (n byte : ℕ) → AreKnownBytes births (replicate n (Data byte))
  replicate-known births zero byte k b e = absurd cc
  replicate-known births (suc n) byte zero b e = let is : Data byte ≡ b = cc in subst (λ (x : SourceByte). IsKnownByte births x) is tt
  replicate-known births (suc n) byte (suc k) b e = replicate-known births n byte k b e

  write_grows : (base : Base) (off : ℕ) (bytes : List SourceByte) → OnlyGrow there (put_bytes there base off bytes)
  write_grows base off bytes = change-only_grows there (put_bytes there base off bytes) [] (wrote there base off bytes)

  -- bytes are written, and the destination is the result
  written_to : (base : Base) (off : ℕ) (bytes : List SourceByte) → IsKnownBase there base → AreKnownBytes there bytes → given_type m here.op ≡ Ptr
      → IsGoodOutcome m s (gives (stored s base off bytes) here.result (Address base off))
  written_to base off bytes known new given =
      memory.gives_written m s good setting base off bytes Ptr (Address base off) plain given new (refl, base-grows there (put_bytes there base off bytes) base (write_grows base off bytes) known) refl

  -- the same without a result
  only_written : (base : Base) (off : ℕ) (bytes : List SourceByte) (value : Value) → AreKnownBytes there bytes → is_value_type (given_type m here.op) ≡ false
      → IsGoodOutcome m s (gives (stored s base off bytes) None value)
  only_written base off bytes value new given = memory.goes_written m s good setting base off bytes plain given new

  -- `result` is that of the call, or none
  abbrev Moves : Option ℕ → Type 0
  Moves result = (base : Base) (off : ℕ) (bytes : List SourceByte) → IsKnownBase there base → AreKnownBytes there bytes → IsGoodOutcome m s (gives (stored s base off bytes) result (Address base off))

  copied : (result : Option ℕ) (values : List (Option Value)) → HasValue there Ptr (argument values 0) → HasValue there Ptr (argument values 1) → HasValue there (Int 64) (argument values 2)
      → Moves result → IsGoodOutcome m s (on_accesses s values (Counted Read 1 2 ∷ Counted Write 0 2 ∷ []) (copy_step s result values))
  unfolding on_accesses copy_step
  copied result values to from count moves =
      counted_good values Read 1 2 _ from count (counted_good values Write 0 2 _ to count
      (pointer_good is_good there (argument values 0) _ to (λ to_base to_off known. pointer_good is_good there (argument values 1) _ from (λ from_base from_off read.
      integer_good is_good there 64 64 (argument values 2) _ count (λ n. moves to_base to_off (bytes_at there from_base from_off n) known (read-known m there from_base from_off n good.births))))))

  pub copy_good : (values : List (Option Value)) → HasValue there Ptr (argument values 0) → HasValue there Ptr (argument values 1) → HasValue there (Int 64) (argument values 2)
      → given_type m here.op ≡ Ptr → IsGoodOutcome m s (on_accesses s values (Counted Read 1 2 ∷ Counted Write 0 2 ∷ []) (copy_step s here.result values))
  copy_good values to from count given = copied here.result values to from count (λ base off bytes known new. written_to base off bytes known new given)

  pub copy_only_good : (values : List (Option Value)) → HasValue there Ptr (argument values 0) → HasValue there Ptr (argument values 1) → HasValue there (Int 64) (argument values 2)
      → is_value_type (given_type m here.op) ≡ false → IsGoodOutcome m s (on_accesses s values (Counted Read 1 2 ∷ Counted Write 0 2 ∷ []) (copy_step s None values))
  copy_only_good values to from count given = copied None values to from count (λ base off bytes known new. only_written base off bytes (Address base off) new given)

  filled : (result : Option ℕ) (width : ℕ) (values : List (Option Value)) → HasValue there Ptr (argument values 0) → HasValue there (Int width) (argument values 1)
      → HasValue there (Int 64) (argument values 2) → Moves result → IsGoodOutcome m s (on_accesses s values (Counted Write 0 2 ∷ []) (set_step s result values))
  unfolding on_accesses set_step
  filled result width values to byte count moves =
      counted_good values Write 0 2 _ to count
      (pointer_good is_good there (argument values 0) _ to (λ to_base to_off known. integer_good is_good there 32 width (argument values 1) _ byte (λ b.
      integer_good is_good there 64 64 (argument values 2) _ count (λ n. moves to_base to_off (replicate n (Data (b % 256))) known (replicate-known there n (b % 256))))))

  pub set_good : (values : List (Option Value)) → HasValue there Ptr (argument values 0) → HasValue there (Int 32) (argument values 1) → HasValue there (Int 64) (argument values 2)
      → given_type m here.op ≡ Ptr → IsGoodOutcome m s (on_accesses s values (Counted Write 0 2 ∷ []) (set_step s here.result values))
  set_good values to byte count given = filled here.result 32 values to byte count (λ base off bytes known new. written_to base off bytes known new given)

  pub set_only_good : (values : List (Option Value)) → HasValue there Ptr (argument values 0) → HasValue there (Int 8) (argument values 1) → HasValue there (Int 64) (argument values 2)
      → is_value_type (given_type m here.op) ≡ false → IsGoodOutcome m s (on_accesses s values (Counted Write 0 2 ∷ []) (set_step s None values))
  set_only_good values to byte count given = filled None 8 values to byte count (λ base off bytes known new. only_written base off bytes (Address base off) new given)

  order_good : (xs ys : Option (List ℕ)) → given_type m here.op ≡ Int 32 → IsGoodOutcome m s (gives_order s here.result xs ys)
  order_good (Some xs) (Some ys) given = gives_int 32 _ nothing_happened given
  order_good (Some xs) None given = inl refl
  order_good None ys given = inl refl

  pub memcmp_good : (values : List (Option Value)) → HasValue there Ptr (argument values 0) → HasValue there Ptr (argument values 1) → HasValue there (Int 64) (argument values 2)
      → given_type m here.op ≡ Int 32 → IsGoodOutcome m s (on_accesses s values (Counted Read 0 2 ∷ Counted Read 1 2 ∷ []) (memcmp_step s here.result values))
  unfolding on_accesses memcmp_step
  memcmp_good values a b count given =
      counted_good values Read 0 2 _ a count (counted_good values Read 1 2 _ b count
      (pointer_good is_good there (argument values 0) _ a (λ a_base a_off known. pointer_good is_good there (argument values 1) _ b (λ b_base b_off read.
      integer_good is_good there 64 64 (argument values 2) _ count (λ n. order_good _ _ given)))))

  -- ---- strings

  -- on from a string that was found, and again in what the function does
  string_good : (base : Base) (off : ℕ) (found : StringAnswer) (go : List ℕ → SourceOutcome) → IsAnswered found → found ≢ NotEnded → ((ns : List ℕ) → IsGoodOutcome m s (go ns))
      → IsGoodOutcome m s (on_string s base found (on_whole found go))
  unfolding on_string on_whole
  string_good base off (Whole ns) go h ended k = k ns
  string_good base off (Refused at answer) go h ended k = answer_good m s Read base at 1 answer Stuck h.1 (λ fine. absurd (h.0 fine))
  string_good base off MeetsPiece go h ended k = inl refl
  string_good base off NotEnded go h ended k = absurd (ended refl)

  string_with : (small : AreSmall there) (found : Option Value) (go : List ℕ → SourceOutcome) → HasValue there Ptr found → ((ns : List ℕ) → IsGoodOutcome m s (go ns))
      → IsGoodOutcome m s (with_pointer found (λ base off. on_string s base (string_at there base off) (with_pointer found (λ b o. on_whole (string_at there b o) go))))
  unfolding with_pointer
  string_with small None go h k = absurd h
  string_with small (Some (Integer n)) go h k = let e = h.0 in absurd cc
  string_with small (Some (Address base off)) go h k =
      string_good base (off % 2 ^ 64) (string_at there base (off % 2 ^ 64)) go (string_answered m there base (off % 2 ^ 64) good.births h.1)
      (string_ends m there base (off % 2 ^ 64) good.births small) k
  string_with small (Some (IntegerAndBit n bit)) go h k = let e = h.0 in absurd cc

  pub strlen_good : (values : List (Option Value)) → AreSmall there → HasValue there Ptr (argument values 0) → given_type m here.op ≡ Int 64
      → IsGoodOutcome m s (on_accesses s values (Text 0 ∷ []) (strlen_step s here.result values))
  unfolding on_accesses strlen_step
  strlen_good values small h given = string_with small (argument values 0) (λ ns. gives s here.result (Integer (length ns))) h (λ ns. gives_int 64 (length ns) nothing_happened given)

  pub puts_good : (values : List (Option Value)) → AreSmall there → HasValue there Ptr (argument values 0) → given_type m here.op ≡ Int 32
      → IsGoodOutcome m s (on_accesses s values (Text 0 ∷ []) (puts_step s here.result values))
  unfolding on_accesses puts_step
  puts_good values small h given =
      string_with small (argument values 0) (λ ns. gives_with s here.result (Integer 0) (printing (ns ++ 10 ∷ []))) h (λ ns. gives_int 32 0 (printing (ns ++ 10 ∷ [])) given)

  -- ---- output, input and ends

  pub putchar_good : (values : List (Option Value)) → HasValue there (Int 32) (argument values 0) → given_type m here.op ≡ Int 32
      → IsGoodOutcome m s (on_accesses s values [] (putchar_step s here.result values))
  unfolding on_accesses putchar_step
  putchar_good values h given = integer_good is_good there 32 32 (argument values 0) _ h (λ c. gives_int 32 (c % 256) (printing (c % 256 ∷ [])) given)

  input_good : (shared : SourceShared) (n : ℕ) → shared.births ≡ there → given_type m here.op ≡ Int 32 → IsGoodOutcome m s (gives (record s { shared = shared }) here.result (Integer n))
  input_good shared n same given =
      on.gives_under m s good setting shared (Int 32) (Integer n) nothing_happened plain (subst (λ (b : List Birth). AreGoodBirths m b) (sym same) good.births)
      (subst (λ (b : List Birth). OnlyGrow there b) (sym same) (on.births-same m s good setting))
      (λ without small. subst (λ (b : List Birth). AreSmall b) (sym same) small) given refl refl tt

  pub getchar_good : (next : Input) (values : List (Option Value)) → given_type m here.op ≡ Int 32 → IsGoodOutcome m s (on_accesses s values [] (getchar_step next s here.result))
  unfolding on_accesses getchar_step
  getchar_good next values given = by_end s.shared.input.at_end next
    where
      by_end : (at_end : Bool) (next : Input) → IsGoodOutcome m s (taken_if at_end s here.result next)
      by_end true next = gives_int 32 _ nothing_happened given
      by_end false (Byte byte) = input_good (record s.shared { input = record s.shared.input { taken = s.shared.input.taken + 1 } }) byte refl given
      by_end false End = input_good (record s.shared { input = record s.shared.input { at_end = true } }) _ refl given

  pub exit_good : (values : List (Option Value)) → HasValue there (Int 32) (argument values 0) → IsGoodOutcome m s (on_accesses s values [] (exit_step s values))
  unfolding on_accesses exit_step
  exit_good values h = integer_good is_good there 32 32 (argument values 0) _ h (λ c. inl refl)

  pub abort_good : (values : List (Option Value)) → IsGoodOutcome m s (on_accesses s values [] (abort_step s))
  unfolding on_accesses abort_step
  abort_good values = inl refl

  pub nothing_good : (values : List (Option Value)) → is_value_type (given_type m here.op) ≡ false → IsGoodOutcome m s (on_accesses s values [] (nothing_step s))
  unfolding on_accesses nothing_step
  nothing_good values given = on.goes_good m s good setting nothing_happened plain given

  pub lifetime_good : (values : List (Option Value)) (args : List Placed) → is_value_type (given_type m here.op) ≡ false → IsGoodOutcome m s (on_accesses s values [] (lifetime_step s args))
  unfolding on_accesses lifetime_step
  lifetime_good values args given = on.goes_good m s good setting nothing_happened plain given

  -- ---- tasks and mutexes

  join_by : (answer : Option Bool) → given_type m here.op ≡ Int 32 → IsGoodOutcome m s (joined s here.result answer)
  join_by None given = gives_int 32 3 nothing_happened given
  join_by (Some false) given = tt
  join_by (Some true) given = gives_int 32 0 nothing_happened given

  pub join_good : (values : List (Option Value)) → HasValue there (Int 64) (argument values 0) → given_type m here.op ≡ Int 32
      → IsGoodOutcome m s (on_accesses s values [] (join_step s here.result values))
  unfolding on_accesses join_step
  join_good values h given = integer_good is_good there 64 64 (argument values 0) _ h (λ task. join_by (slice_get s.finished task) given)

  word_good : (base : Base) (off word n : ℕ) → given_type m here.op ≡ Int 32 → IsGoodOutcome m s (gives (word_stored s base off word) here.result (Integer n))
  word_good base off word n given =
      memory.gives_written m s good setting base off (number_bytes MUTEX_SIZE word) (Int 32) (Integer n) plain given (number-known there MUTEX_SIZE word) (refl, tt) refl

  pub mutex_init_good : (values : List (Option Value)) → HasValue there Ptr (argument values 0) → given_type m here.op ≡ Int 32
      → IsGoodOutcome m s (on_accesses s values (Fixed Write 0 MUTEX_SIZE ∷ []) (mutex_init_step s here.result values))
  unfolding on_accesses mutex_init_step
  mutex_init_good values h given =
      fixed_good values Write 0 MUTEX_SIZE _ h (pointer_good is_good there (argument values 0) _ h (λ base off known. word_good base off 0 0 given))

  by_test : (test : Bool) (a b : SourceOutcome) → IsGoodOutcome m s a → IsGoodOutcome m s b → IsGoodOutcome m s (if test then a else b)
  by_test true a b h k = h
  by_test false a b h k = k

  pub mutex_lock_good : (values : List (Option Value)) → HasValue there Ptr (argument values 0) → given_type m here.op ≡ Int 32
      → IsGoodOutcome m s (on_accesses s values (Fixed Write 0 MUTEX_SIZE ∷ []) (mutex_lock_step s here.result values))
  unfolding on_accesses mutex_lock_step
  mutex_lock_good values h given =
      fixed_good values Write 0 MUTEX_SIZE _ h (pointer_good is_good there (argument values 0) _ h (λ base off known.
      read_integer_good m s (int_from (8 * MUTEX_SIZE) (bytes_at there base off MUTEX_SIZE)) _ (λ word.
      by_test (word == 0) _ _ (word_good base off (s.task + 1) 0 given) tt)))

  pub mutex_unlock_good : (values : List (Option Value)) → HasValue there Ptr (argument values 0) → given_type m here.op ≡ Int 32
      → IsGoodOutcome m s (on_accesses s values (Fixed Write 0 MUTEX_SIZE ∷ []) (mutex_unlock_step s here.result values))
  unfolding on_accesses mutex_unlock_step
  mutex_unlock_good values h given =
      fixed_good values Write 0 MUTEX_SIZE _ h (pointer_good is_good there (argument values 0) _ h (λ base off known.
      read_integer_good m s (int_from (8 * MUTEX_SIZE) (bytes_at there base off MUTEX_SIZE)) _ (λ word.
      by_test (word == s.task + 1) _ _ (word_good base off 0 0 given) (gives_int 32 1 nothing_happened given))))

  pub mutex_destroy_good : (values : List (Option Value)) → given_type m here.op ≡ Int 32 → IsGoodOutcome m s (on_accesses s values [] (mutex_destroy_step s here.result))
  unfolding on_accesses mutex_destroy_step
  mutex_destroy_good values given = gives_int 32 0 nothing_happened given

  -- ---- intrinsics on bits and with overflow

  one_bits : (op : BitOp) (width a_width : ℕ) (values : List (Option Value)) → length values ≡ 1 → HasValue there (Int a_width) (argument values 0) → given_type m here.op ≡ Int width
      → IsGoodOutcome m s (bits_step s here.result op width values)
  unfolding bits_step
  one_bits op width a_width (a ∷ []) e h given = integer_good is_good there width a_width a _ h (λ x. gives_int width _ nothing_happened given)
  one_bits op width a_width [] e h given = absurd (omega arith)
  one_bits op width a_width (a ∷ b ∷ values) e h given = absurd (omega arith)

  two_bits : (op : BitOp) (width a_width b_width : ℕ) (values : List (Option Value)) → length values ≡ 2 → HasValue there (Int a_width) (argument values 0)
      → HasValue there (Int b_width) (argument values 1) → given_type m here.op ≡ Int width → IsGoodOutcome m s (bits_step s here.result op width values)
  unfolding bits_step
  two_bits op width a_width b_width (a ∷ b ∷ []) e h k given =
      integer_good is_good there width a_width a _ h (λ x. integer_good is_good there width b_width b _ k (λ y. gives_int width _ nothing_happened given))
  two_bits op width a_width b_width [] e h k given = absurd (omega arith)
  two_bits op width a_width b_width (a ∷ []) e h k given = absurd (omega arith)
  two_bits op width a_width b_width (a ∷ b ∷ c ∷ values) e h k given = absurd (omega arith)

  three_bits : (op : BitOp) (width : ℕ) (values : List (Option Value)) → length values ≡ 3 → HasValue there (Int width) (argument values 0) → HasValue there (Int width) (argument values 1)
      → HasValue there (Int width) (argument values 2) → given_type m here.op ≡ Int width → IsGoodOutcome m s (bits_step s here.result op width values)
  unfolding bits_step
  three_bits op width (a ∷ b ∷ c ∷ []) e h k l given =
      integer_good is_good there width width a _ h (λ x. integer_good is_good there width width b _ k (λ y. integer_good is_good there width width c _ l (λ z.
      gives_int width _ nothing_happened given)))
  three_bits op width [] e h k l given = absurd (omega arith)
  three_bits op width (a ∷ []) e h k l given = absurd (omega arith)
  three_bits op width (a ∷ b ∷ []) e h k l given = absurd (omega arith)
  three_bits op width (a ∷ b ∷ c ∷ d ∷ values) e h k l given = absurd (omega arith)

  pub bits_good : (op : BitOp) (width : ℕ) (values : List (Option Value)) → length values ≡ length (bits_parameters op width)
      → ((k : ℕ) (type : IrType) → slice_get (bits_parameters op width) k ≡ Some type → HasValue there type (argument values k)) → given_type m here.op ≡ Int width
      → IsGoodOutcome m s (on_accesses s values [] (bits_step s here.result op width values))
  unfolding on_accesses
  bits_good bits.BSwap width values e h given = one_bits bits.BSwap width width values e (h 0 (Int width) refl) given
  bits_good bits.CtPop width values e h given = one_bits bits.CtPop width width values e (h 0 (Int width) refl) given
  bits_good bits.CtLz width values e h given = two_bits bits.CtLz width width 1 values e (h 0 (Int width) refl) (h 1 (Int 1) refl) given
  bits_good bits.CtTz width values e h given = two_bits bits.CtTz width width 1 values e (h 0 (Int width) refl) (h 1 (Int 1) refl) given
  bits_good bits.FShl width values e h given = three_bits bits.FShl width values e (h 0 (Int width) refl) (h 1 (Int width) refl) (h 2 (Int width) refl) given
  bits_good bits.FShr width values e h given = three_bits bits.FShr width values e (h 0 (Int width) refl) (h 1 (Int width) refl) (h 2 (Int width) refl) given
  bits_good bits.SMin width values e h given = two_bits bits.SMin width width width values e (h 0 (Int width) refl) (h 1 (Int width) refl) given
  bits_good bits.SMax width values e h given = two_bits bits.SMax width width width values e (h 0 (Int width) refl) (h 1 (Int width) refl) given
  bits_good bits.UMin width values e h given = two_bits bits.UMin width width width values e (h 0 (Int width) refl) (h 1 (Int width) refl) given
  bits_good bits.UMax width values e h given = two_bits bits.UMax width width width values e (h 0 (Int width) refl) (h 1 (Int width) refl) given
  bits_good bits.Abs width values e h given = two_bits bits.Abs width width 1 values e (h 0 (Int width) refl) (h 1 (Int 1) refl) given
  bits_good bits.Expect width values e h given = two_bits bits.Expect width width width values e (h 0 (Int width) refl) (h 1 (Int width) refl) given

  pub overflow_good : (op : OverOp) (width : ℕ) (values : List (Option Value)) → HasValue there (Int width) (argument values 0) → HasValue there (Int width) (argument values 1)
      → given_type m here.op ≡ Pair width → IsGoodOutcome m s (on_accesses s values [] (overflow_step s here.result op width values))
  unfolding on_accesses overflow_step
  overflow_good op width values h k given =
      integer_good is_good there width width (argument values 0) _ h (λ x. integer_good is_good there width width (argument values 1) _ k (λ y.
      on.gives_good m s good setting (Pair width) (IntegerAndBit _ _) nothing_happened plain given refl refl tt))
