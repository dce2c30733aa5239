-- Entries, calls, returns, starts and branches keep the tables together, and so does every instruction.
use Rattle.std.proofs.Common.{◌≡◌, ℕ, zero, suc, ◌≤◌, Bool, true, false, List, [], ◌∷◌, length, map, Option, Some, None, refl, sym, ◌∙◌, ap, subst, arith}
use Rattle.std.specs.Prelude.{nat_le, nat_lt, if◌then◌else◌, unwrap_or, Result, Ok, Err}
use Rattle.std.proofs.lemmas.List.{length-append, length-set}
use Rattle.hw_base.specs.Bits.{is_set}
use Rattle.hw_base.specs.Bytes.{le_bytes}
use Rattle.hw_base.specs.declared.accesses.Access.{Access}
use Rattle.hw_base.specs.declared.endings.Full.{Full}
use Rattle.hw_base.specs.declared.endings.Input.{Input}
use Rattle.hw_base.specs.declared.endings.Trap.TheVariants.{TooDeep}
use Rattle.hw_base.specs.declared.numbers.TheConstants.{TASK_NUMBER_SIZE}
use Rattle.hw_base.specs.declared.pointers.Site.{Site}
use Rattle.hw_shadow.specs.declared.mismatch.Mismatch.{Mismatch}
use Rattle.hw_tags.specs.TaskRuns.{Goes, Starts}
use Rattle.dbg_sites.specs.ChainTable.{ChainEntry}
use Rattle.tag_alloc.specs.declared.blocks.FreeMismatch.{FreeMismatch}
use Rattle.tag_alloc.proofs.LivingSizeLemmas.{table-with_task}
use Rattle.tag_alloc.specs.HeapBlocks.{free_mismatch}
use Rattle.tbi_memory.specs.AddressSpace.{AddressSpace, check, write_fault}
use Rattle.stack_tags.specs.Frames.{LivingFrame, StacksState, frames_of}
use Rattle.stack_tags.specs.FrameSteps.{StacksAfter, after_entry, after_exit, entered, left, new_frame, with_frame}
use Rattle.stack_tags.proofs.FrameLemmas.{entered-ok}
use Rattle.stack_tags.proofs.LivingSizeLemmas.{stacks-entered, stacks-left, stacks-with_task}
use Rattle.ir_core.specs.declared.lib_functions.Lib.{Lib}
use Rattle.ir_core.specs.declared.lib_functions.Lib.TheVariants as lib
use Rattle.ir_lib.specs.Strings.{checked_string}
use Rattle.ir_lib.specs.declared.string_fault.StringFault.{StringFault}
use Rattle.mi_code.specs.declared.code_functions.Mark.{Mark}
use Rattle.mi_code.specs.declared.code_functions.Mark.TheVariants.{Entry, Added, Source}
use Rattle.mi_code.specs.declared.code_functions.Mi.{Mi}
use Rattle.mi_code.specs.declared.edges.Edge.{Edge}
use Rattle.mi_code.specs.declared.operands.MiOperand.{MiOperand}
use Rattle.mi_code.specs.declared.operations.MiOp.{MiOp}
use Rattle.mi_code.specs.declared.operations.MiOp.TheVariants as machine
use Rattle.ir_tasks.specs.Frames.{Frame, with_register}
use Rattle.ir_machine.specs.State.{MachineSetting, MachineShared, MachineSeen, MachineOutcome}
use Rattle.ir_machine.specs.ReachableWorlds.{FitTogether, AreNumbered}
use Rattle.ir_machine.specs.Operands.{integer_in, number_in, numbers_in, pointer_in}
use Rattle.ir_machine.specs.BranchSteps.{along, case_for, move_number, with_registers, br_step, br_if_step, switch_step, unreachable_step}
use Rattle.ir_machine.specs.CallSteps.{AfterEntry, after_variables, begins_with_entry, call_register, call_step, code_at, enter_step, entered_call, entry_if, entry_of, frame_for, frame_left, instruction_at, last_left, leave_step, on_entry, ret_step, returned_number, stacks_set, variables_of, with_returned}
use Rattle.ir_machine.specs.CheckSteps.{one_check, on_check, on_checked, on_free, one_step, sized_step, str_step, free_check_step}
use Rattle.ir_machine.specs.InstructionStep.{operation_step, marked_step, instruction_step, steps_within, machine_step}
use Rattle.ir_machine.specs.LibraryCalls.{library_step}
use Rattle.ir_machine.specs.StepEnds.{advanced, chain_at, chain_known, traps, with_memory, with_result}
use Rattle.ir_machine.specs.TaskFunctions.{create_step, on_start, started_if, with_task}
use Rattle.ir_machine.proofs.KeptTables.{KeepsTables, IsTogether, known-kept, chain-within, if-kept, writable-kept, gives_to-kept}
use Rattle.ir_machine.proofs.TableSteps.{binary-kept, icmp-kept, cast-kept, bits-kept, overflow-kept, select-kept, freeze-kept, extract-kept, alloca-kept, gep-kept, load-kept, store-kept, rmw-kept, cmpxchg-kept, malloc-kept, free_step-kept, realloc-kept, copy-kept, set-kept, memcmp-kept, strlen-kept, puts-kept, putchar-kept, getchar-kept, exit-kept, abort-kept, join-kept, mutex_init-kept, mutex_lock-kept, mutex_unlock-kept, write-kept}

-- ---- what stays in a frame

registers-chain : (frame : Frame) (moves : List (ℕ × ℕ)) → (with_registers frame moves).chain ≡ frame.chain
unfolding with_registers
registers-chain frame [] = refl
registers-chain frame (move ∷ moves) = registers-chain (with_register frame move.0 move.1) moves

returned-chain : (frame : Frame) (to value : Option ℕ) → (with_returned frame to value).chain ≡ frame.chain
returned-chain frame (Some to) (Some n) = refl
returned-chain frame (Some to) None = refl
returned-chain frame None value = refl

-- ---- stacks

entered-length : (stacks : StacksState) (space : AddressSpace) (task func word : ℕ) (sizes : List ℕ) (birth born : ℕ) (after : StacksAfter) → entered stacks space task func word sizes birth born ≡ Ok after → length after.stacks.tasks ≡ length stacks.tasks
unfolding after_entry
entered-length stacks space task func word sizes birth born after h =
    ap (λ (a : StacksAfter). length a.stacks.tasks) (entered-ok stacks space task func word sizes birth born after h)
    ∙ length-set stacks.tasks task (with_frame (frames_of stacks task) (new_frame stacks task func word sizes birth born))

exit-length : (stacks : StacksState) (space : AddressSpace) (task died : ℕ) (frames : List LivingFrame) → length (after_exit stacks space task died frames).stacks.tasks ≡ length stacks.tasks
exit-length stacks space task died [] = refl
exit-length stacks space task died (newest ∷ older) = length-set stacks.tasks task _

left-length : (stacks : StacksState) (space : AddressSpace) (task died : ℕ) → length (left stacks space task died).stacks.tasks ≡ length stacks.tasks
unfolding left
left-length stacks space task died = exit-length stacks space task died (frames_of stacks task).living

-- ---- entries

-- the tables fit together after an entry that isn't refused, and the chains are these
abbrev pub EntersTogether : (tasks : ℕ) → List ChainEntry → Result AfterEntry Full → Type 0
EntersTogether tasks chains (Err full) = Unit {0}
EntersTogether tasks chains (Ok after) =
    FitTogether after.shared.heap after.shared.stacks after.shared.chains tasks × (after.shared.chains ≡ chains)

variables-together : (tasks : ℕ) (shared : MachineShared) (task func word : ℕ) (sizes : List ℕ) (birth born : ℕ) (r : Result StacksAfter Full) → entered shared.stacks shared.memory task func word sizes birth born ≡ r → FitTogether shared.heap shared.stacks shared.chains tasks → EntersTogether tasks shared.chains (after_variables shared r)
variables-together tasks shared task func word sizes birth born (Err full) e fit = tt
variables-together tasks shared task func word sizes birth born (Ok after) e fit = (
  record {
    rings = fit.rings;
    blocks = fit.blocks;
    stacks_of = entered-length shared.stacks shared.memory task func word sizes birth born after e ∙ fit.stacks_of;
    follow = stacks-entered shared.stacks shared.memory task func word sizes birth born after fit.follow e;
    table = fit.table;
  },
  refl,
)

entry_if-together : (tasks : ℕ) (t : Bool) (setting : MachineSetting) (task func chain : ℕ) (shared : MachineShared) → FitTogether shared.heap shared.stacks shared.chains tasks → EntersTogether tasks shared.chains (entry_if t setting task func chain shared)
unfolding enter_step
entry_if-together tasks false setting task func chain shared fit = (fit, refl)
entry_if-together tasks true setting task func chain shared fit =
    variables-together tasks shared task func (setting.word shared.drawn) (variables_of setting.program func) shared.births chain
    (entered shared.stacks shared.memory task func (setting.word shared.drawn) (variables_of setting.program func) shared.births chain) refl fit

pub entry-together : (tasks : ℕ) (setting : MachineSetting) (task func chain : ℕ) (shared : MachineShared) → FitTogether shared.heap shared.stacks shared.chains tasks → EntersTogether tasks shared.chains (entry_of setting task func chain shared)
entry-together tasks setting task func chain shared fit =
    entry_if-together tasks (begins_with_entry (code_at setting.code func).insts) setting task func chain shared fit

-- one more task
task-together : (tasks : ℕ) (shared : MachineShared) → FitTogether shared.heap shared.stacks shared.chains tasks → FitTogether (with_task shared).heap (with_task shared).stacks (with_task shared).chains (suc tasks)
task-together tasks shared fit =
    let rings = length-append shared.heap.freed ([] ∷ []) in
    let stacks = length-append shared.stacks.tasks (record { living = []; ended = [] } ∷ []) in
    let r = fit.rings in
    let q = fit.stacks_of in
    record { rings = omega (arith, rings, r); blocks = table-with_task shared.heap fit.blocks; stacks_of = omega (arith, stacks, q); follow = stacks-with_task shared.stacks fit.follow; table = fit.table }

module _ (tasks least : ℕ) where
  -- ---- calls and returns

  on_entry-tables : (setting : MachineSetting) (s : MachineSeen) (func : ℕ) (numbers : List ℕ) (chain : ℕ) (r : Result AfterEntry Full) → EntersTogether tasks s.shared.chains r → IsTogether tasks least s → chain ≤ length s.shared.chains → KeepsTables tasks least (on_entry setting s func numbers chain r)
  on_entry-tables setting s func numbers chain (Err full) e h bound = tt
  on_entry-tables setting s func numbers chain (Ok after) e h bound =
      let same : s.shared.chains ≡ after.shared.chains = sym e.1 in
      let frame = frame_for setting.code func after.place numbers chain in (
        e.0,
        subst (λ (c : List ChainEntry). least ≤ length c) same h.1,
        subst (λ (c : List ChainEntry). AreNumbered c (frame ∷ s.frame ∷ s.callers)) same (bound, h.2),
      )

  call-tables : (setting : MachineSetting) (s : MachineSeen) (site : Site) (func : ℕ) (args : List MiOperand) → IsTogether tasks least s → KeepsTables tasks least (call_step setting s site func args)
  unfolding call_step
  call-tables setting s site func args h =
      let known = chain_known s site in
      let together = known-kept tasks least s site h in
      if-kept tasks least (nat_le setting.places.most_frames (suc (length s.callers))) (traps s site TooDeep)
      (entered_call setting known func (numbers_in s args) (chain_at s site)) tt
      (on_entry-tables setting known func (numbers_in s args) (chain_at s site) (entry_of setting s.task func (chain_at s site) known.shared)
      (entry-together tasks setting s.task func (chain_at s site) known.shared together.0) together (chain-within tasks least s site))

  last-tables : (task : ℕ) (shared : MachineShared) (n : ℕ) → FitTogether shared.heap shared.stacks shared.chains tasks → least ≤ length shared.chains → KeepsTables tasks least (last_left task shared n)
  last-tables zero shared n fit low = tt
  last-tables (suc task) shared n fit low = (fit, low)

  left-tables : (setting : MachineSetting) (s : MachineSeen) (callers : List Frame) (value : Option ℕ) → FitTogether s.shared.heap s.shared.stacks s.shared.chains tasks → least ≤ length s.shared.chains → AreNumbered s.shared.chains callers → KeepsTables tasks least (frame_left setting s callers value)
  left-tables setting s [] value fit low h = last-tables s.task s.shared (unwrap_or value 0) fit low
  left-tables setting s (caller ∷ callers) value fit low h =
      let register = call_register (instruction_at setting.code caller) in
      (fit, low, (subst (λ (n : ℕ). n ≤ length s.shared.chains) (sym (returned-chain caller register value)) h.0, h.1))

  ret-tables : (setting : MachineSetting) (s : MachineSeen) (value : Option MiOperand) → IsTogether tasks least s → KeepsTables tasks least (ret_step setting s value)
  unfolding ret_step
  ret-tables setting s value h = left-tables setting s s.callers (returned_number s value) h.0 h.1 h.2.1

  -- ---- branches

  along-tables : (s : MachineSeen) (edge : Edge) → IsTogether tasks least s → KeepsTables tasks least (Goes (along s edge) [])
  along-tables s edge h =
      (h.0, h.1, (subst (λ (n : ℕ). n ≤ length s.shared.chains) (sym (registers-chain s.frame (map (move_number s) edge.moves))) h.2.0, h.2.1))

  -- ---- starts

  starts-tables : (s : MachineSeen) (to : Option ℕ) (frame : Frame) → IsTogether (suc tasks) least s → frame.chain ≤ length s.shared.chains → KeepsTables tasks least (Starts (advanced (with_result s to 0)) [] frame)
  starts-tables s None frame h bound = (h, bound)
  starts-tables s (Some to) frame h bound = (h, bound)

  on_start-tables : (setting : MachineSetting) (s : MachineSeen) (site : Site) (to : Option ℕ) (at func argument chain : ℕ) (r : Result AfterEntry Full) → EntersTogether (suc tasks) s.shared.chains r → IsTogether tasks least s → chain ≤ length s.shared.chains → KeepsTables tasks least (on_start setting s site to at func argument chain r)
  on_start-tables setting s site to at func argument chain (Err full) e h bound = tt
  on_start-tables setting s site to at func argument chain (Ok after) e h bound =
      let same : s.shared.chains ≡ after.shared.chains = sym e.1 in
      let entered_state : MachineSeen = record s { shared = after.shared } in
      let frame = frame_for setting.code func after.place (argument ∷ []) chain in
      let together : IsTogether (suc tasks) least entered_state =
      (e.0, subst (λ (c : List ChainEntry). least ≤ length c) same h.1, subst (λ (c : List ChainEntry). AreNumbered c (s.frame ∷ s.callers)) same h.2) in
      write-kept tasks least entered_state site at (le_bytes TASK_NUMBER_SIZE (length s.finished)) (λ (s' : MachineSeen). Starts (advanced (with_result s' to 0)) [] frame)
      (λ (memory : AddressSpace). starts-tables (with_memory entered_state memory) to frame together (subst (λ (c : List ChainEntry). chain ≤ length c) same bound))

  started-tables : (setting : MachineSetting) (s : MachineSeen) (site : Site) (to : Option ℕ) (at func argument : ℕ) (t : Bool) → IsTogether tasks least s → KeepsTables tasks least (started_if t setting s site to at func argument)
  started-tables setting s site to at func argument false h = gives_to-kept tasks least s to 11 h
  started-tables setting s site to at func argument true h =
      let known = chain_known s site in
      let together = known-kept tasks least s site h in
      on_start-tables setting known site to at func argument (chain_at s site)
      (entry_of setting (length s.finished) func (chain_at s site) (with_task known.shared))
      (entry-together (suc tasks) setting (length s.finished) func (chain_at s site) (with_task known.shared) (task-together tasks known.shared together.0))
      together (chain-within tasks least s site)

  create-tables : (setting : MachineSetting) (s : MachineSeen) (site : Site) (to : Option ℕ) (at : ℕ) (start : Option ℕ) (argument : ℕ) → IsTogether tasks least s → KeepsTables tasks least (create_step setting s site to at start argument)
  unfolding create_step
  create-tables setting s site to at None argument h = tt
  create-tables setting s site to at (Some func) argument h =
      writable-kept tasks least s site TASK_NUMBER_SIZE at (write_fault s.shared.memory at TASK_NUMBER_SIZE)
      (started_if (nat_lt (length s.finished) setting.places.most_tasks) setting s site to at func argument)
      (started-tables setting s site to at func argument (nat_lt (length s.finished) setting.places.most_tasks) h)

  -- ---- added work

  check-tables : (s : MachineSeen) (site : Site) (access : Access) (size number : ℕ) (next : MachineSeen → MachineOutcome) (o : Option Mismatch) → KeepsTables tasks least (next (advanced s)) → KeepsTables tasks least (on_check s site access size number next o)
  check-tables s site access size number next None h = h
  check-tables s site access size number next (Some found) h = tt

  checked-tables : (s : MachineSeen) (site : Site) (next : MachineSeen → MachineOutcome) (r : Result (List ℕ) StringFault) → KeepsTables tasks least (next (advanced s)) → KeepsTables tasks least (on_checked s site next r)
  checked-tables s site next (Ok bytes) h = h
  checked-tables s site next (Err fault) h = tt

  free_check-tables : (s : MachineSeen) (site : Site) (number : ℕ) (go : MachineOutcome) (o : Option FreeMismatch) → KeepsTables tasks least go → KeepsTables tasks least (on_free s site number go o)
  free_check-tables s site number go None h = h
  free_check-tables s site number go (Some found) h = tt

  left-together : (s : MachineSeen) (site : Site) → IsTogether tasks least s → IsTogether tasks least (advanced (stacks_set (chain_known s site) (left s.shared.stacks s.shared.memory s.task (chain_at s site))))
  left-together s site h =
      let together = known-kept tasks least s site h in
      let fit = together.0 in (
        record {
          rings = fit.rings;
          blocks = fit.blocks;
          stacks_of = left-length s.shared.stacks s.shared.memory s.task (chain_at s site) ∙ fit.stacks_of;
          follow = stacks-left s.shared.stacks s.shared.memory s.task (chain_at s site) fit.follow;
          table = fit.table;
        },
        together.1,
        together.2,
      )

  -- ---- all instructions

  library-tables : (setting : MachineSetting) (given : Input) (s : MachineSeen) (site : Site) (function : Lib) (to : Option ℕ) (args : List MiOperand) (start : Option ℕ) → IsTogether tasks least s → KeepsTables tasks least (library_step setting given s site function to args start)
  library-tables setting given s site lib.Malloc to args start h = malloc-kept tasks least setting s site _ _ h
  library-tables setting given s site lib.Calloc to args start h = malloc-kept tasks least setting s site _ _ h
  library-tables setting given s site lib.Free to args start h = free_step-kept tasks least setting s site _ h
  library-tables setting given s site lib.Realloc to args start h = realloc-kept tasks least setting s site _ _ _ h
  library-tables setting given s site lib.Memcpy to args start h = copy-kept tasks least s site _ _ _ _ h
  library-tables setting given s site lib.Memmove to args start h = copy-kept tasks least s site _ _ _ _ h
  library-tables setting given s site lib.Memset to args start h = set-kept tasks least s site _ _ _ _ h
  library-tables setting given s site lib.LlvmMemcpy to args start h = copy-kept tasks least s site _ _ _ _ h
  library-tables setting given s site lib.LlvmMemmove to args start h = copy-kept tasks least s site _ _ _ _ h
  library-tables setting given s site lib.LlvmMemset to args start h = set-kept tasks least s site _ _ _ _ h
  library-tables setting given s site lib.Memcmp to args start h = memcmp-kept tasks least s site _ _ _ _ h
  library-tables setting given s site lib.Strlen to args start h = strlen-kept tasks least s site _ _ h
  library-tables setting given s site lib.Puts to args start h = puts-kept tasks least s site _ _ h
  library-tables setting given s site lib.Putchar to args start h = putchar-kept tasks least s _ _ h
  library-tables setting given s site lib.Getchar to args start h = getchar-kept tasks least s _ given h
  library-tables setting given s site lib.Exit to args start h = exit-kept tasks least s _
  library-tables setting given s site lib.Abort to args start h = abort-kept tasks least s site
  library-tables setting given s site lib.LlvmTrap to args start h = abort-kept tasks least s site
  library-tables setting given s site lib.PthreadCreate to args start h = create-tables setting s site _ _ start _ h
  library-tables setting given s site lib.PthreadJoin to args start h = join-kept tasks least s _ _ h
  library-tables setting given s site lib.MutexInit to args start h = mutex_init-kept tasks least s site _ _ h
  library-tables setting given s site lib.MutexLock to args start h = mutex_lock-kept tasks least s site _ _ h
  library-tables setting given s site lib.MutexUnlock to args start h = mutex_unlock-kept tasks least s site _ _ h
  library-tables setting given s site lib.MutexDestroy to args start h = gives_to-kept tasks least s _ 0 h
  library-tables setting given s site lib.LifetimeStart to args start h = h
  library-tables setting given s site lib.LifetimeEnd to args start h = h
  library-tables setting given s site lib.Assume to args start h = h
  library-tables setting given s site (lib.Bits op width) to args start h = h
  library-tables setting given s site (lib.Overflow op width) to args start h = h

  -- what comes next in the step keeps the tables
  abbrev GoesOnTogether : (MachineSeen → MachineOutcome) → Type 0
  GoesOnTogether next = (s : MachineSeen) → IsTogether tasks least s → KeepsTables tasks least (next s)

  operation-tables : (setting : MachineSetting) (given : Input) (site : Site) (next : MachineSeen → MachineOutcome) (s : MachineSeen) (op : MiOp) → GoesOnTogether next → IsTogether tasks least s → KeepsTables tasks least (operation_step setting given site next s op)
  unfolding leave_step one_step sized_step str_step free_check_step br_step br_if_step switch_step unreachable_step
  operation-tables setting given site next s machine.Enter more h = tt
  operation-tables setting given site next s machine.Leave more h = more _ (left-together s site h)
  operation-tables setting given site next s (machine.One at size access) more h = check-tables s site access size (pointer_in s at) next (one_check s.shared.memory (pointer_in s at) size) (more (advanced s) h)
  operation-tables setting given site next s (machine.Sized at size access) more h = check-tables s site access (integer_in s 64 size) (pointer_in s at) next (check s.shared.memory (pointer_in s at) (integer_in s 64 size)) (more (advanced s) h)
  operation-tables setting given site next s (machine.Str at) more h = checked-tables s site next (checked_string s.shared.memory (pointer_in s at)) (more (advanced s) h)
  operation-tables setting given site next s (machine.FreeCheck at) more h = free_check-tables s site (pointer_in s at) (next (advanced s)) (free_mismatch s.shared.heap (pointer_in s at)) (more (advanced s) h)
  operation-tables setting given site next s (machine.Binary op width to a b) more h = binary-kept tasks least s site op width to a b h
  operation-tables setting given site next s (machine.Icmp pred width to a b) more h = icmp-kept tasks least s pred width to a b h
  operation-tables setting given site next s (machine.Cast op from width to a) more h = cast-kept tasks least s op from width to a h
  operation-tables setting given site next s (machine.Bits op width to args) more h = bits-kept tasks least s op width to args h
  operation-tables setting given site next s (machine.Overflow op width to a b) more h = overflow-kept tasks least s op width to a b h
  operation-tables setting given site next s (machine.Select to cond a b) more h = select-kept tasks least s to cond a b h
  operation-tables setting given site next s (machine.Freeze to a) more h = freeze-kept tasks least s to a h
  operation-tables setting given site next s (machine.Alloca to variable) more h = alloca-kept tasks least s to variable h
  operation-tables setting given site next s (machine.Gep to base indices) more h = gep-kept tasks least s to base indices h
  operation-tables setting given site next s (machine.Load width to at) more h = load-kept tasks least s site width to at h
  operation-tables setting given site next s (machine.Store width value at) more h = store-kept tasks least s site width value at h
  operation-tables setting given site next s (machine.Rmw op width to at value) more h = rmw-kept tasks least s site op width to at value h
  operation-tables setting given site next s (machine.CmpXchg width to at expected new) more h = cmpxchg-kept tasks least s site width to at expected new h
  operation-tables setting given site next s (machine.Part to pair part) more h = extract-kept tasks least s to pair part h
  operation-tables setting given site next s machine.Nop more h = h
  operation-tables setting given site next s (machine.Jump edge) more h = along-tables s edge h
  operation-tables setting given site next s (machine.Branch cond first second) more h = along-tables s (if is_set (number_in s cond) then first else second) h
  operation-tables setting given site next s (machine.Switch width on other cases) more h = along-tables s (case_for (integer_in s width on) other cases) h
  operation-tables setting given site next s (machine.Call func to args) more h = call-tables setting s site func args h
  operation-tables setting given site next s (machine.CallLib function to args start) more h = library-tables setting given s site function to args start h
  operation-tables setting given site next s (machine.Ret value) more h = ret-tables setting s value h
  operation-tables setting given site next s machine.Unreachable more h = tt

  marked-tables : (setting : MachineSetting) (given : Input) (next : MachineSeen → MachineOutcome) (s : MachineSeen) (mark : Mark) (op : MiOp) → GoesOnTogether next → IsTogether tasks least s → KeepsTables tasks least (marked_step setting given next s mark op)
  marked-tables setting given next s Entry op more h = tt
  marked-tables setting given next s (Added site) op more h = operation-tables setting given site next s op more h
  marked-tables setting given next s (Source site) op more h = operation-tables setting given site next s op more h

  instruction-tables : (setting : MachineSetting) (given : Input) (next : MachineSeen → MachineOutcome) (s : MachineSeen) (o : Option Mi) → GoesOnTogether next → IsTogether tasks least s → KeepsTables tasks least (instruction_step setting given next s o)
  instruction-tables setting given next s None more h = tt
  instruction-tables setting given next s (Some mi) more h = marked-tables setting given next s mi.mark mi.op more h

  within-tables : (setting : MachineSetting) (given : Input) (fuel : ℕ) → GoesOnTogether (steps_within setting given fuel)
  unfolding steps_within
  within-tables setting given zero s h = tt
  within-tables setting given (suc fuel) s h =
      instruction-tables setting given (steps_within setting given fuel) s (instruction_at setting.code s.frame) (within-tables setting given fuel) h

  pub step-tables : (setting : MachineSetting) (given : Input) (s : MachineSeen) → IsTogether tasks least s → KeepsTables tasks least (machine_step setting given s)
  unfolding machine_step
  step-tables setting given s h = within-tables setting given (length (code_at setting.code s.frame.func).insts) s h
