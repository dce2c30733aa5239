-- Each step but those of branches, calls and starts keeps the tables together.
use Rattle.std.proofs.Common.{◌≡◌, refl, ℕ, ◌+◌, ◌%◌, min, List, [], ◌∷◌, ◌++◌, length, Option, Some, None}
use Rattle.std.specs.Prelude.{slice_get, ◌==◌, if◌then◌else◌}
use Rattle.hw_base.specs.Bits.{minus_one}
use Rattle.hw_base.specs.Bytes.{le_bytes, le_number, byte_order, order_bits}
use Rattle.hw_base.specs.declared.accesses.Access.{Access}
use Rattle.hw_base.specs.declared.accesses.Access.TheVariants.{Read, Write}
use Rattle.hw_base.specs.declared.endings.Input.{Input}
use Rattle.hw_base.specs.declared.numbers.TheConstants.{MUTEX_SIZE}
use Rattle.hw_base.specs.declared.operators.BinOp.{BinOp}
use Rattle.hw_base.specs.declared.operators.BitOp.{BitOp}
use Rattle.hw_base.specs.declared.operators.CastOp.{CastOp}
use Rattle.hw_base.specs.declared.operators.OverOp.{OverOp}
use Rattle.hw_base.specs.declared.operators.Pred.{Pred}
use Rattle.hw_base.specs.declared.operators.RmwOp.{RmwOp}
use Rattle.hw_base.specs.declared.pointers.Site.{Site}
use Rattle.hw_tags.specs.TaskRuns.{Stays}
use Rattle.ir_arith.specs.Atomics.{rmw_result}
use Rattle.ir_arith.specs.Binary.{binary_result}
use Rattle.ir_core.specs.Layout.{int_store_size}
use Rattle.ir_lib.specs.Strings.{string_at}
use Rattle.mi_code.specs.declared.operands.IndexStep.{IndexStep}
use Rattle.mi_code.specs.declared.operands.MiOperand.{MiOperand}
use Rattle.mi_code.specs.declared.operands.Width.{Width}
use Rattle.tag_alloc.specs.declared.blocks.Block.{Block}
use Rattle.tag_alloc.specs.HeapBlocks.{free_mismatch, freed_block}
use Rattle.tag_alloc.specs.HeapSteps.{AfterBirth}
use Rattle.tbi_memory.specs.AddressSpace.{AddressSpace, read, written, write_fault, filled}
use Rattle.ir_machine.specs.State.{MachineSetting, MachineSeen, MachineOutcome}
use Rattle.ir_machine.specs.Operands.{integer_in, pointer_in, bits_in, bytes_in}
use Rattle.ir_machine.specs.StepEnds.{chain_at, chain_known, with_memory, goes_on, gives, gives_to, prints, with_read, with_write}
use Rattle.ir_machine.specs.AddressSteps.{alloca_step, gep_step}
use Rattle.ir_machine.specs.ArithmeticSteps.{binary_step, icmp_step, cast_step, bits_step, overflow_step, select_step, freeze_step, extract_step}
use Rattle.ir_machine.specs.BlockFunctions.{with_birth, block_freed, freed_if, moved_block, reallocated, malloc_step, free_step, realloc_step}
use Rattle.ir_machine.specs.ByteFunctions.{copy_step, set_step, memcmp_step}
use Rattle.ir_machine.specs.MemorySteps.{number_of_bytes, exchange, load_step, store_step, rmw_step, cmpxchg_step}
use Rattle.ir_machine.specs.TaskFunctions.{word_written, join_step, mutex_init_step, mutex_lock_step, mutex_unlock_step}
use Rattle.ir_machine.specs.TextFunctions.{on_input, strlen_step, puts_step, putchar_step, getchar_step, exit_step, abort_step}
use Rattle.ir_machine.proofs.KeptTables.{KeepsTables, IsTogether, AfterBirthHas, IsLiving, freed-living, known-kept, death-kept, gives_to-kept, prints-kept, if-kept, bytes-kept, writable-kept, memory-kept, arithmetic-kept, exchange-kept, birth-kept, free-kept, freed-kept, string-kept, input-kept, joined-kept}

module _ (tasks least : ℕ) where
  -- ---- numbers and addresses

  pub binary-kept : (s : MachineSeen) (site : Site) (op : BinOp) (width to : ℕ) (a b : MiOperand) → IsTogether tasks least s → KeepsTables tasks least (binary_step s site op width to a b)
  unfolding binary_step
  binary-kept s site op width to a b h = arithmetic-kept tasks least s site to (binary_result op width (integer_in s width a) (integer_in s width b)) h

  pub icmp-kept : (s : MachineSeen) (pred : Pred) (width : Width) (to : ℕ) (a b : MiOperand) → IsTogether tasks least s → KeepsTables tasks least (icmp_step s pred width to a b)
  unfolding icmp_step
  icmp-kept s pred width to a b h = h

  pub cast-kept : (s : MachineSeen) (op : CastOp) (from width to : ℕ) (a : MiOperand) → IsTogether tasks least s → KeepsTables tasks least (cast_step s op from width to a)
  unfolding cast_step
  cast-kept s op from width to a h = h

  pub bits-kept : (s : MachineSeen) (op : BitOp) (width to : ℕ) (args : List MiOperand) → IsTogether tasks least s → KeepsTables tasks least (bits_step s op width to args)
  unfolding bits_step
  bits-kept s op width to args h = h

  pub overflow-kept : (s : MachineSeen) (op : OverOp) (width to : ℕ) (a b : MiOperand) → IsTogether tasks least s → KeepsTables tasks least (overflow_step s op width to a b)
  unfolding overflow_step
  overflow-kept s op width to a b h = h

  pub select-kept : (s : MachineSeen) (to : ℕ) (cond a b : MiOperand) → IsTogether tasks least s → KeepsTables tasks least (select_step s to cond a b)
  unfolding select_step
  select-kept s to cond a b h = h

  pub freeze-kept : (s : MachineSeen) (to : ℕ) (a : MiOperand) → IsTogether tasks least s → KeepsTables tasks least (freeze_step s to a)
  unfolding freeze_step
  freeze-kept s to a h = h

  pub extract-kept : (s : MachineSeen) (to : ℕ) (pair : MiOperand) (part : ℕ) → IsTogether tasks least s → KeepsTables tasks least (extract_step s to pair part)
  unfolding extract_step
  extract-kept s to pair part h = h

  pub alloca-kept : (s : MachineSeen) (to variable : ℕ) → IsTogether tasks least s → KeepsTables tasks least (alloca_step s to variable)
  unfolding alloca_step
  alloca-kept s to variable h = h

  pub gep-kept : (s : MachineSeen) (to : ℕ) (base : MiOperand) (indices : List IndexStep) → IsTogether tasks least s → KeepsTables tasks least (gep_step s to base indices)
  unfolding gep_step
  gep-kept s to base indices h = h

  -- ---- memory

  pub load-kept : (s : MachineSeen) (site : Site) (width : Width) (to : ℕ) (at : MiOperand) → IsTogether tasks least s → KeepsTables tasks least (load_step s site width to at)
  unfolding load_step
  load-kept s site width to at h =
      bytes-kept tasks least s site Read (bytes_in width) (pointer_in s at) (read s.shared.memory (pointer_in s at) (bytes_in width))
      (λ (bytes : List ℕ). gives s to (number_of_bytes (bits_in width) bytes))
      (λ (bytes : List ℕ). h)

  -- go on with a write
  pub write-kept : (s : MachineSeen) (site : Site) (number : ℕ) (bytes : List ℕ) (go : MachineSeen → MachineOutcome) → ((memory : AddressSpace) → KeepsTables tasks least (go (with_memory s memory))) → KeepsTables tasks least (with_write s site number bytes go)
  write-kept s site number bytes go h = memory-kept tasks least s site (length bytes) number (written s.shared.memory number bytes) go h

  -- go on with a read
  pub read-kept : (s : MachineSeen) (site : Site) (access : Access) (size number : ℕ) (go : List ℕ → MachineOutcome) → ((bytes : List ℕ) → KeepsTables tasks least (go bytes)) → KeepsTables tasks least (with_read s site access size number go)
  read-kept s site access size number go h = bytes-kept tasks least s site access size number (read s.shared.memory number size) go h

  pub store-kept : (s : MachineSeen) (site : Site) (width : Width) (value at : MiOperand) → IsTogether tasks least s → KeepsTables tasks least (store_step s site width value at)
  unfolding store_step
  store-kept s site width value at h =
      write-kept s site (pointer_in s at) (le_bytes (bytes_in width) (integer_in s (bits_in width) value)) goes_on
      (λ (memory : AddressSpace). h)

  pub rmw-kept : (s : MachineSeen) (site : Site) (op : RmwOp) (width to : ℕ) (at value : MiOperand) → IsTogether tasks least s → KeepsTables tasks least (rmw_step s site op width to at value)
  unfolding rmw_step
  rmw-kept s site op width to at value h =
      read-kept s site Write (int_store_size width) (pointer_in s at)
      (λ (bytes : List ℕ). with_write s site (pointer_in s at) (le_bytes (int_store_size width) (rmw_result op width (number_of_bytes width bytes) (integer_in s width value))) (λ (s' : MachineSeen). gives s' to (number_of_bytes width bytes)))
      (λ (bytes : List ℕ).
      write-kept s site (pointer_in s at) (le_bytes (int_store_size width) (rmw_result op width (number_of_bytes width bytes) (integer_in s width value)))
      (λ (s' : MachineSeen). gives s' to (number_of_bytes width bytes))
      (λ (memory : AddressSpace). h))

  pub cmpxchg-kept : (s : MachineSeen) (site : Site) (width to : ℕ) (at expected new : MiOperand) → IsTogether tasks least s → KeepsTables tasks least (cmpxchg_step s site width to at expected new)
  unfolding cmpxchg_step
  cmpxchg-kept s site width to at expected new h =
      let go = λ (bytes : List ℕ). exchange s site (pointer_in s at) to (le_bytes (int_store_size width) (integer_in s width new)) (number_of_bytes width bytes) (number_of_bytes width bytes == integer_in s width expected) in
      writable-kept tasks least s site (int_store_size width) (pointer_in s at) (write_fault s.shared.memory (pointer_in s at) (int_store_size width))
      (with_read s site Write (int_store_size width) (pointer_in s at) go)
      (read-kept s site Write (int_store_size width) (pointer_in s at) go
      (λ (bytes : List ℕ). exchange-kept tasks least s site (pointer_in s at) to (le_bytes (int_store_size width) (integer_in s width new)) (number_of_bytes width bytes) (number_of_bytes width bytes == integer_in s width expected) h))

  -- ---- blocks

  pub malloc-kept : (setting : MachineSetting) (s : MachineSeen) (site : Site) (to : Option ℕ) (size : ℕ) → IsTogether tasks least s → KeepsTables tasks least (malloc_step setting s site to size)
  unfolding malloc_step
  malloc-kept setting s site to size h =
      let known = chain_known s site in
      birth-kept tasks least known (λ (after : MachineSeen) (number : ℕ). gives_to after to number) (setting.word s.shared.drawn) size s.shared.births (chain_at s site)
      (λ (born : AfterBirth) (has : AfterBirthHas s.shared.heap born) (together : IsTogether tasks least (with_birth known born)). gives_to-kept tasks least (with_birth known born) to born.number together)
      (known-kept tasks least s site h)

  pub free_step-kept : (setting : MachineSetting) (s : MachineSeen) (site : Site) (number : ℕ) → IsTogether tasks least s → KeepsTables tasks least (free_step setting s site number)
  unfolding free_step
  free_step-kept setting s site number h =
      free-kept tasks least s site number (freed_if setting s site (freed_block s.shared.heap number)) (free_mismatch s.shared.heap number)
      (freed-kept tasks least setting s site (freed_block s.shared.heap number) (freed-living s.shared.heap number) h)

  moved-kept : (setting : MachineSetting) (site : Site) (to : Option ℕ) (number size chain : ℕ) (old : Block) (s : MachineSeen) (new : ℕ) → IsLiving s.shared.heap old → IsTogether tasks least s → KeepsTables tasks least (moved_block setting site to number size chain old s new)
  moved-kept setting site to number size chain old s new living h =
      read-kept s site Read (min old.size size) number (λ (bytes : List ℕ). with_write s site new bytes (λ (after : MachineSeen). gives_to (block_freed setting after chain old) to new))
      (λ (bytes : List ℕ).
      write-kept s site new bytes (λ (after : MachineSeen). gives_to (block_freed setting after chain old) to new)
      (λ (memory : AddressSpace). gives_to-kept tasks least (block_freed setting (with_memory s memory) chain old) to new (death-kept tasks least setting (with_memory s memory) chain old living h)))

  reallocated-kept : (setting : MachineSetting) (s : MachineSeen) (site : Site) (to : Option ℕ) (number size : ℕ) (o : Option Block) → ((block : Block) → o ≡ Some block → IsLiving s.shared.heap block) → IsTogether tasks least s → KeepsTables tasks least (reallocated setting s site to number size o)
  reallocated-kept setting s site to number size None living h = malloc-kept setting s site to size h
  reallocated-kept setting s site to number size (Some old) living h =
      let known = chain_known s site in
      birth-kept tasks least known (moved_block setting site to number size (chain_at s site) old) (setting.word s.shared.drawn) size s.shared.births (chain_at s site)
      (λ (born : AfterBirth) (has : AfterBirthHas s.shared.heap born) (together : IsTogether tasks least (with_birth known born)). moved-kept setting site to number size (chain_at s site) old (with_birth known born) born.number (has.living old (living old refl)) together)
      (known-kept tasks least s site h)

  pub realloc-kept : (setting : MachineSetting) (s : MachineSeen) (site : Site) (to : Option ℕ) (number size : ℕ) → IsTogether tasks least s → KeepsTables tasks least (realloc_step setting s site to number size)
  unfolding realloc_step
  realloc-kept setting s site to number size h =
      free-kept tasks least s site number (reallocated setting s site to number size (freed_block s.shared.heap number)) (free_mismatch s.shared.heap number)
      (reallocated-kept setting s site to number size (freed_block s.shared.heap number) (freed-living s.shared.heap number) h)

  -- ---- bytes

  pub copy-kept : (s : MachineSeen) (site : Site) (to : Option ℕ) (target from n : ℕ) → IsTogether tasks least s → KeepsTables tasks least (copy_step s site to target from n)
  unfolding copy_step
  copy-kept s site to target from n h =
      read-kept s site Read n from (λ (bytes : List ℕ). with_write s site target bytes (λ (after : MachineSeen). gives_to after to target))
      (λ (bytes : List ℕ).
      write-kept s site target bytes (λ (after : MachineSeen). gives_to after to target)
      (λ (memory : AddressSpace). gives_to-kept tasks least (with_memory s memory) to target h))

  pub set-kept : (s : MachineSeen) (site : Site) (to : Option ℕ) (target byte n : ℕ) → IsTogether tasks least s → KeepsTables tasks least (set_step s site to target byte n)
  unfolding set_step
  set-kept s site to target byte n h =
      memory-kept tasks least s site n target (filled s.shared.memory target n (byte % 256)) (λ (after : MachineSeen). gives_to after to target)
      (λ (memory : AddressSpace). gives_to-kept tasks least (with_memory s memory) to target h)

  pub memcmp-kept : (s : MachineSeen) (site : Site) (to : Option ℕ) (a b n : ℕ) → IsTogether tasks least s → KeepsTables tasks least (memcmp_step s site to a b n)
  unfolding memcmp_step
  memcmp-kept s site to a b n h =
      read-kept s site Read n a (λ (first : List ℕ). with_read s site Read n b (λ (second : List ℕ). gives_to s to (order_bits (byte_order first second))))
      (λ (first : List ℕ).
      read-kept s site Read n b (λ (second : List ℕ). gives_to s to (order_bits (byte_order first second)))
      (λ (second : List ℕ). gives_to-kept tasks least s to (order_bits (byte_order first second)) h))

  -- ---- strings, input and output

  pub strlen-kept : (s : MachineSeen) (site : Site) (to : Option ℕ) (start : ℕ) → IsTogether tasks least s → KeepsTables tasks least (strlen_step s site to start)
  unfolding strlen_step
  strlen-kept s site to start h =
      string-kept tasks least s site start (λ (bytes : List ℕ). gives_to s to (length bytes)) (string_at s.shared.memory start)
      (λ (bytes : List ℕ). gives_to-kept tasks least s to (length bytes) h)

  pub puts-kept : (s : MachineSeen) (site : Site) (to : Option ℕ) (start : ℕ) → IsTogether tasks least s → KeepsTables tasks least (puts_step s site to start)
  unfolding puts_step
  puts-kept s site to start h =
      string-kept tasks least s site start (λ (bytes : List ℕ). prints s to 0 (bytes ++ 10 ∷ [])) (string_at s.shared.memory start)
      (λ (bytes : List ℕ). prints-kept tasks least s to 0 (bytes ++ 10 ∷ []) h)

  pub putchar-kept : (s : MachineSeen) (to : Option ℕ) (c : ℕ) → IsTogether tasks least s → KeepsTables tasks least (putchar_step s to c)
  unfolding putchar_step
  putchar-kept s to c h = prints-kept tasks least s to (c % 256) (c % 256 ∷ []) h

  pub getchar-kept : (s : MachineSeen) (to : Option ℕ) (given : Input) → IsTogether tasks least s → KeepsTables tasks least (getchar_step s to given)
  unfolding getchar_step
  getchar-kept s to given h =
      if-kept tasks least s.shared.input.at_end (gives_to s to minus_one) (on_input s to given) (gives_to-kept tasks least s to minus_one h) (input-kept tasks least s to given h)

  pub exit-kept : (s : MachineSeen) (value : ℕ) → KeepsTables tasks least (exit_step s value)
  unfolding exit_step
  exit-kept s value = tt

  pub abort-kept : (s : MachineSeen) (site : Site) → KeepsTables tasks least (abort_step s site)
  unfolding abort_step
  abort-kept s site = tt

  -- ---- tasks and mutexes

  pub join-kept : (s : MachineSeen) (to : Option ℕ) (other : ℕ) → IsTogether tasks least s → KeepsTables tasks least (join_step s to other)
  unfolding join_step
  join-kept s to other h = joined-kept tasks least s to (slice_get s.finished other) h

  word-kept : (s : MachineSeen) (site : Site) (to : Option ℕ) (at word : ℕ) → IsTogether tasks least s → KeepsTables tasks least (word_written s site to at word)
  word-kept s site to at word h =
      write-kept s site at (le_bytes MUTEX_SIZE word) (λ (after : MachineSeen). gives_to after to 0)
      (λ (memory : AddressSpace). gives_to-kept tasks least (with_memory s memory) to 0 h)

  pub mutex_init-kept : (s : MachineSeen) (site : Site) (to : Option ℕ) (at : ℕ) → IsTogether tasks least s → KeepsTables tasks least (mutex_init_step s site to at)
  unfolding mutex_init_step
  mutex_init-kept s site to at h = word-kept s site to at 0 h

  pub mutex_lock-kept : (s : MachineSeen) (site : Site) (to : Option ℕ) (at : ℕ) → IsTogether tasks least s → KeepsTables tasks least (mutex_lock_step s site to at)
  unfolding mutex_lock_step
  mutex_lock-kept s site to at h =
      let go = λ (bytes : List ℕ). if le_number bytes == 0 then word_written s site to at (s.task + 1) else Stays in
      writable-kept tasks least s site MUTEX_SIZE at (write_fault s.shared.memory at MUTEX_SIZE) (with_read s site Write MUTEX_SIZE at go)
      (read-kept s site Write MUTEX_SIZE at go
      (λ (bytes : List ℕ). if-kept tasks least (le_number bytes == 0) (word_written s site to at (s.task + 1)) Stays (word-kept s site to at (s.task + 1) h) tt))

  pub mutex_unlock-kept : (s : MachineSeen) (site : Site) (to : Option ℕ) (at : ℕ) → IsTogether tasks least s → KeepsTables tasks least (mutex_unlock_step s site to at)
  unfolding mutex_unlock_step
  mutex_unlock-kept s site to at h =
      let go = λ (bytes : List ℕ). if le_number bytes == s.task + 1 then word_written s site to at 0 else gives_to s to 1 in
      writable-kept tasks least s site MUTEX_SIZE at (write_fault s.shared.memory at MUTEX_SIZE) (with_read s site Write MUTEX_SIZE at go)
      (read-kept s site Write MUTEX_SIZE at go
      (λ (bytes : List ℕ). if-kept tasks least (le_number bytes == s.task + 1) (word_written s site to at 0) (gives_to s to 1) (word-kept s site to at 0 h) (gives_to-kept tasks least s to 1 h)))
