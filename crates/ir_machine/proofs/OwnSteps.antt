-- Each source instruction of a module that can be run keeps the places of frames.
use Rattle.std.proofs.Common.{◌≡◌, ℕ, zero, suc, ◌+◌, ◌<◌, Bool, true, false, List, [], ◌∷◌, length, map, Option, Some, None, refl, ◌∙◌, ap, subst, arith, All}
use Rattle.std.specs.Prelude.{slice_get, nat_le, nat_lt, if◌then◌else◌, unwrap_or, IfSome, Result, Ok, Err}
use Rattle.hw_base.specs.Bytes.{le_bytes}
use Rattle.hw_base.specs.declared.endings.Full.{Full}
use Rattle.hw_base.specs.declared.endings.Input.{Input}
use Rattle.hw_base.specs.declared.endings.Trap.TheVariants.{TooDeep}
use Rattle.hw_base.specs.declared.numbers.TheConstants.{TASK_NUMBER_SIZE}
use Rattle.hw_base.specs.declared.pointers.Site.{Site}
use Rattle.hw_tags.specs.TaskRuns.{Goes, Starts}
use Rattle.tbi_memory.specs.AddressSpace.{AddressSpace, write_fault}
use Rattle.ir_core.specs.declared.lib_functions.Lib.{Lib}
use Rattle.ir_core.specs.declared.lib_functions.Lib.TheVariants as lib
use Rattle.ir_core.specs.declared.operands.Case.{Case}
use Rattle.ir_core.specs.declared.operands.Placed.{Placed}
use Rattle.ir_core.specs.declared.operands.StartArg.{StartArg}
use Rattle.ir_core.specs.declared.operations.Op.{Op}
use Rattle.ir_core.specs.declared.operations.Op.TheVariants as source
use Rattle.ir_core.specs.declared.ir_module.Declare.{Declare}
use Rattle.ir_core.specs.declared.ir_module.Inst.{Inst}
use Rattle.ir_core.specs.declared.ir_module.Function.{Function}
use Rattle.ir_core.specs.declared.ir_module.Module.{Module}
use Rattle.ir_core.specs.Operations.{is_phi, is_terminator}
use Rattle.ir_core.specs.ResolvedBodies.{IsResolvedCase, IsResolvedFunction, IsResolvedOp, IsResolvedStart, IsTarget}
use Rattle.ir_core.specs.Runnable.{IsRunnable, IsRunnableFunction, IsRunnableOp, StartsAsItIs}
use Rattle.mi_code.specs.declared.edges.Edge.{Edge}
use Rattle.mi_code.specs.declared.operands.MiOperand.{MiOperand}
use Rattle.mi_code.specs.declared.operations.MiOp.{MiOp}
use Rattle.mi_code.specs.EdgeMoves.{edge_to, case_edges}
use Rattle.mi_code.specs.LibraryCode.{library_call}
use Rattle.mi_code.specs.SourceCode.{source_code, returned}
use Rattle.mi_code.specs.TagChecks.{added_code, enter_code, lib_by, lib_of}
use Rattle.mi_code.specs.Instrumentation.{instrumented, place_of, starts_of}
use Rattle.ir_tasks.specs.Frames.{Frame, with_register}
use Rattle.ir_machine.specs.State.{MachineSetting, MachineShared, MachineSeen, MachineOutcome}
use Rattle.ir_machine.specs.ReachableWorlds.{IsAtInstruction, IsAtCall, is_call, AreCallers}
use Rattle.ir_machine.specs.Operands.{numbers_in}
use Rattle.ir_machine.specs.BranchSteps.{along, case_for, move_number, with_registers, br_step, br_if_step, switch_step, unreachable_step}
use Rattle.ir_machine.specs.CallSteps.{AfterEntry, call_register, call_step, entered_call, entry_of, frame_for, frame_left, instruction_at, last_left, on_entry, ret_step, returned_number, with_returned}
use Rattle.ir_machine.specs.InstructionStep.{operation_step}
use Rattle.ir_machine.specs.StepEnds.{advanced, chain_at, chain_known, traps, with_memory, with_result}
use Rattle.ir_machine.specs.TaskFunctions.{create_step, on_start, started_if, with_task}
use Rattle.ir_machine.proofs.BlockPlaces.{all-at, next-instruction, target-at, entry-at}
use Rattle.ir_machine.proofs.CodeAt.{get-below, place-code}
use Rattle.ir_machine.proofs.EntryPlaces.{EntersAt, enters-at}
use Rattle.ir_machine.proofs.KeptPlaces.{KeepsPlaces, MayGoOn, if-kept, writable-kept, gives_to-kept, goes-kept}
use Rattle.ir_machine.proofs.KeptSteps.{binary-kept, icmp-kept, cast-kept, bits-kept, overflow-kept, select-kept, freeze-kept, extract-kept, alloca-kept, gep-kept, load-kept, store-kept, rmw-kept, cmpxchg-kept, malloc-kept, free_step-kept, realloc-kept, copy-kept, set-kept, memcmp-kept, strlen-kept, puts-kept, putchar-kept, getchar-kept, exit-kept, abort-kept, join-kept, mutex_init-kept, mutex_lock-kept, mutex_unlock-kept, write-kept}

-- setting registers changes no function of a frame
pub registers-func : (frame : Frame) (moves : List (ℕ × ℕ)) → (with_registers frame moves).func ≡ frame.func
unfolding with_registers
registers-func frame [] = refl
registers-func frame (move ∷ moves) = registers-func (with_register frame move.0 move.1) moves

returned-func : (frame : Frame) (to value : Option ℕ) → (with_returned frame to value).func ≡ frame.func
returned-func frame (Some to) (Some n) = refl
returned-func frame (Some to) None = refl
returned-func frame None value = refl

returned-place : (frame : Frame) (to value : Option ℕ) → (with_returned frame to value).place ≡ frame.place
returned-place frame (Some to) (Some n) = refl
returned-place frame (Some to) None = refl
returned-place frame None value = refl

pub call-added : (m : Module) (sizes : List ℕ) (op : Op) → is_call op ≡ true → length (added_code m sizes op) ≡ 0
call-added m sizes (source.Call func result args) h = refl
call-added m sizes other h = absurd (cc)

call-goes_on : (op : Op) → is_call op ≡ true → is_terminator op ≡ false
call-goes_on (source.Call func result args) h = refl
call-goes_on other h = absurd (cc)

last-kept : (m : Module) (task : ℕ) (shared : MachineShared) (n : ℕ) → KeepsPlaces m task (last_left task shared n)
last-kept m zero shared n = tt
last-kept m (suc task) shared n = tt

starts-lib : (m : Module) (start : Option StartArg) (o : Option Declare) → ((d : Declare) → o ≡ Some d → StartsAsItIs m d.lib start) → StartsAsItIs m (lib_by o) start
starts-lib m start None h = tt
starts-lib m start (Some d) h = h d refl

module _ (m : Module) (runnable : IsRunnable m) where
  pub resolved-at : (func : ℕ) (f : Function) → slice_get m.functions func ≡ Some f → IsResolvedFunction m f
  resolved-at func f there = all-at (IsResolvedFunction m) m.functions func f runnable.resolved.functions there

  pub runnable-at : (func : ℕ) (f : Function) → slice_get m.functions func ≡ Some f → IsRunnableFunction m f
  runnable-at func f there = all-at (IsRunnableFunction m) m.functions func f runnable.functions there

  -- a frame that goes on after an instruction that isn't a terminator
  pub next-at : (frame : Frame) (f : Function) (i : ℕ) (inst : Inst) → slice_get m.functions frame.func ≡ Some f → slice_get f.insts i ≡ Some inst → is_phi inst.op ≡ false → is_terminator inst.op ≡ false → frame.place ≡ place_of m f i + length (added_code m f.allocas inst.op) → (next : Frame) → next.func ≡ frame.func → next.place ≡ frame.place + 1 → IsAtInstruction m next
  next-at frame f i inst func there phi last place next same after =
      let (other, found, no_phi) = next-instruction m f (resolved-at frame.func f func) (runnable-at frame.func f func) i inst there phi last in
      let code = place-code m f i inst there phi in (
        f,
        suc i,
        other,
        record {
          func = ap (slice_get m.functions) same ∙ func;
          there = found;
          not_phi = no_phi;
          place = omega (arith, place, after, code);
        },
      )

  -- a caller that goes on after its call
  caller-at : (frame : Frame) → IsAtCall m frame → (next : Frame) → next.func ≡ frame.func → next.place ≡ frame.place + 1 → IsAtInstruction m next
  caller-at frame (f, i, inst, at, call) next same after =
      let none = call-added m f.allocas inst.op call in
      let place = at.place in
      next-at frame f i inst at.func at.there at.not_phi (call-goes_on inst.op call) (omega (arith, place, none)) next same after

module _ (m : Module) (runnable : IsRunnable m) (setting : MachineSetting) (code : setting.code ≡ instrumented m) (task : ℕ) where
  -- ---- branches

  abbrev GoesAlong : MachineSeen → Edge → Type 0
  GoesAlong s edge = KeepsPlaces m task (Goes (along s edge) [])

  along-kept : (s : MachineSeen) (f : Function) → slice_get m.functions s.frame.func ≡ Some f → AreCallers m s.callers → (here block : ℕ) → IsTarget f block → GoesAlong s (edge_to f (starts_of m f) here block)
  along-kept s f there callers here block target =
      let edge = edge_to f (starts_of m f) here block in
      let func = registers-func s.frame (map (move_number s) edge.moves) in (
        target-at m f (resolved-at m runnable s.frame.func f there) (runnable-at m runnable s.frame.func f there) block target (along s edge).frame
            (ap (slice_get m.functions) func ∙ there) refl,
        callers,
      )

  edge-if : (s : MachineSeen) (t : Bool) (first second : Edge) → GoesAlong s first → GoesAlong s second → GoesAlong s (if t then first else second)
  edge-if s true first second h k = h
  edge-if s false first second h k = k

  cases-kept : (s : MachineSeen) (f : Function) → slice_get m.functions s.frame.func ≡ Some f → AreCallers m s.callers → (here n : ℕ) (other : Edge) (cases : List Case) → All (IsResolvedCase m f) cases → GoesAlong s other → GoesAlong s (case_for n other (case_edges f (starts_of m f) here cases))
  unfolding case_for case_edges
  cases-kept s f there callers here n other [] all h = h
  cases-kept s f there callers here n other (case ∷ cases) all h =
      edge-if s _ (edge_to f (starts_of m f) here case.block) (case_for n other (case_edges f (starts_of m f) here cases))
      (along-kept s f there callers here case.block (all 0 case (omega arith)).block)
      (cases-kept s f there callers here n other cases (λ (k : ℕ) (d : Case) (q : k < length cases). all (suc k) d (omega arith)) h)

  -- ---- calls and returns

  on_entry-kept : (s : MachineSeen) (func : ℕ) (numbers : List ℕ) (chain : ℕ) (f : Function) → slice_get m.functions func ≡ Some f → IsAtCall m s.frame → AreCallers m s.callers → (r : Result AfterEntry Full) → EntersAt (length (enter_code f.allocas)) r → KeepsPlaces m task (on_entry setting s func numbers chain r)
  on_entry-kept s func numbers chain f there call callers (Err full) h = tt
  on_entry-kept s func numbers chain f there call callers (Ok after) h =
      (entry-at m f (resolved-at m runnable func f there) (runnable-at m runnable func f there) (frame_for setting.code func after.place numbers chain) there h, (call, callers))

  call-kept : (s : MachineSeen) (site : Site) (func : ℕ) (args : List MiOperand) → func < length m.functions → IsAtCall m s.frame → AreCallers m s.callers → KeepsPlaces m task (call_step setting s site func args)
  unfolding call_step
  call-kept s site func args below call callers =
      let (f, there) = get-below m.functions func below in
      let known = chain_known s site in
      if-kept m task (nat_le setting.places.most_frames (suc (length s.callers))) (traps s site TooDeep)
      (entered_call setting known func (numbers_in s args) (chain_at s site)) tt
      (on_entry-kept known func (numbers_in s args) (chain_at s site) f there call callers (entry_of setting s.task func (chain_at s site) known.shared)
      (enters-at setting m code s.task func (chain_at s site) known.shared f there))

  left-kept : (s : MachineSeen) (callers : List Frame) (value : Option ℕ) → AreCallers m callers → s.task ≡ task → KeepsPlaces m task (frame_left setting s callers value)
  left-kept s [] value callers same = subst (λ (k : ℕ). KeepsPlaces m k (last_left s.task s.shared (unwrap_or value 0))) same (last-kept m s.task s.shared (unwrap_or value 0))
  left-kept s (caller ∷ rest) value (call, callers) same =
      let register = call_register (instruction_at setting.code caller) in
      (caller-at m runnable caller call _ (returned-func caller register value) (ap (λ (p : ℕ). p + 1) (returned-place caller register value)), callers)

  ret-kept : (s : MachineSeen) (value : Option MiOperand) → AreCallers m s.callers → s.task ≡ task → KeepsPlaces m task (ret_step setting s value)
  unfolding ret_step
  ret-kept s value callers same = left-kept s s.callers (returned_number s value) callers same

  -- ---- starts

  on_start-kept : (s : MachineSeen) (site : Site) (to : Option ℕ) (at func argument chain : ℕ) (f : Function) → slice_get m.functions func ≡ Some f → MayGoOn m s → (r : Result AfterEntry Full) → EntersAt (length (enter_code f.allocas)) r → KeepsPlaces m task (on_start setting s site to at func argument chain r)
  on_start-kept s site to at func argument chain f there may (Err full) h = tt
  on_start-kept s site to at func argument chain f there may (Ok after) h =
      let entered : MachineSeen = record s { shared = after.shared } in
      let frame = frame_for setting.code func after.place (argument ∷ []) chain in
      write-kept m task entered site at (le_bytes TASK_NUMBER_SIZE (length s.finished)) (λ (s' : MachineSeen). Starts (advanced (with_result s' to 0)) [] frame)
      (λ (memory : AddressSpace). (
        gives_to-kept m task (with_memory entered memory) to 0 may,
        entry-at m f (resolved-at m runnable func f there) (runnable-at m runnable func f there) frame there h,
      ))

  started-kept : (s : MachineSeen) (site : Site) (to : Option ℕ) (at func argument : ℕ) (f : Function) → slice_get m.functions func ≡ Some f → MayGoOn m s → (t : Bool) → KeepsPlaces m task (started_if t setting s site to at func argument)
  started-kept s site to at func argument f there may false = gives_to-kept m task s to 11 may
  started-kept s site to at func argument f there may true =
      let known = chain_known s site in
      on_start-kept known site to at func argument (chain_at s site) f there may
      (entry_of setting (length s.finished) func (chain_at s site) (with_task known.shared))
      (enters-at setting m code (length s.finished) func (chain_at s site) (with_task known.shared) f there)

  create-kept : (s : MachineSeen) (site : Site) (to : Option ℕ) (at func argument : ℕ) → func < length m.functions → MayGoOn m s → KeepsPlaces m task (create_step setting s site to at (Some func) argument)
  unfolding create_step
  create-kept s site to at func argument below may =
      let (f, there) = get-below m.functions func below in
      writable-kept m task s site TASK_NUMBER_SIZE at (write_fault s.shared.memory at TASK_NUMBER_SIZE)
      (started_if (nat_lt (length s.finished) setting.places.most_tasks) setting s site to at func argument)
      (started-kept s site to at func argument f there may (nat_lt (length s.finished) setting.places.most_tasks))

  -- ---- library functions

  library-kept : (given : Input) (site : Site) (s : MachineSeen) (f : Function) (function : Lib) (r : Option ℕ) (args : List Placed) (start : Option StartArg) → StartsAsItIs m function start → IfSome start (IsResolvedStart m) → MayGoOn m s → (next : MachineSeen → MachineOutcome) → KeepsPlaces m task (operation_step setting given site next s (library_call f function r args start))
  library-kept given site s f lib.Malloc r args start starts there may next = malloc-kept m task setting s site _ _ may
  library-kept given site s f lib.Calloc r args start starts there may next = malloc-kept m task setting s site _ _ may
  library-kept given site s f lib.Free r args start starts there may next = free_step-kept m task setting s site _ may
  library-kept given site s f lib.Realloc r args start starts there may next = realloc-kept m task setting s site _ _ _ may
  library-kept given site s f lib.Memcpy r args start starts there may next = copy-kept m task s site _ _ _ _ may
  library-kept given site s f lib.Memmove r args start starts there may next = copy-kept m task s site _ _ _ _ may
  library-kept given site s f lib.Memset r args start starts there may next = set-kept m task s site _ _ _ _ may
  library-kept given site s f lib.LlvmMemcpy r args start starts there may next = copy-kept m task s site _ _ _ _ may
  library-kept given site s f lib.LlvmMemmove r args start starts there may next = copy-kept m task s site _ _ _ _ may
  library-kept given site s f lib.LlvmMemset r args start starts there may next = set-kept m task s site _ _ _ _ may
  library-kept given site s f lib.Memcmp r args start starts there may next = memcmp-kept m task s site _ _ _ _ may
  library-kept given site s f lib.Strlen r args start starts there may next = strlen-kept m task s site _ _ may
  library-kept given site s f lib.Puts r args start starts there may next = puts-kept m task s site _ _ may
  library-kept given site s f lib.Putchar r args start starts there may next = putchar-kept m task s _ _ may
  library-kept given site s f lib.Getchar r args start starts there may next = getchar-kept m task s _ given may
  library-kept given site s f lib.Exit r args start starts there may next = exit-kept m task s _
  library-kept given site s f lib.Abort r args start starts there may next = abort-kept m task s site
  library-kept given site s f lib.LlvmTrap r args start starts there may next = abort-kept m task s site
  library-kept given site s f lib.PthreadCreate r args None starts there may next = absurd starts
  library-kept given site s f lib.PthreadCreate r args (Some start) starts there may next = create-kept s site _ _ start.func _ there.func may
  library-kept given site s f lib.PthreadJoin r args start starts there may next = join-kept m task s _ _ may
  library-kept given site s f lib.MutexInit r args start starts there may next = mutex_init-kept m task s site _ _ may
  library-kept given site s f lib.MutexLock r args start starts there may next = mutex_lock-kept m task s site _ _ may
  library-kept given site s f lib.MutexUnlock r args start starts there may next = mutex_unlock-kept m task s site _ _ may
  library-kept given site s f lib.MutexDestroy r args start starts there may next = gives_to-kept m task s _ 0 may
  library-kept given site s f lib.LifetimeStart r args start starts there may next = goes-kept m task s [] may
  library-kept given site s f lib.LifetimeEnd r args start starts there may next = goes-kept m task s [] may
  library-kept given site s f lib.Assume r args start starts there may next = goes-kept m task s [] may
  library-kept given site s f (lib.Bits op width) r args start starts there may next = bits-kept m task s op width _ _ may
  library-kept given site s f (lib.Overflow op width) r args start starts there may next = overflow-kept m task s op width _ _ _ may

  -- ---- all instructions

  -- the machine instruction of a source instruction keeps the places
  abbrev pub OwnKept : Input → Site → MachineSeen → Option MiOp → Type 0
  OwnKept given site s None = ⊥
  OwnKept given site s (Some op) = (next : MachineSeen → MachineOutcome) → KeepsPlaces m task (operation_step setting given site next s op)

  pub own-kept : (given : Input) (site : Site) (s : MachineSeen) (f : Function) (here : ℕ) (r : Option ℕ) (op : Op) → slice_get m.functions s.frame.func ≡ Some f → AreCallers m s.callers → s.task ≡ task → is_phi op ≡ false → IsResolvedOp m f op → IsRunnableOp m op → (is_terminator op ≡ false → MayGoOn m s) → (is_call op ≡ true → IsAtCall m s.frame) → OwnKept given site s (source_code m f (starts_of m f) here r op)
  unfolding br_step br_if_step switch_step unreachable_step
  own-kept given site s f here r (source.Binary op a b) there callers same phi resolved runs may call = λ (next : MachineSeen → MachineOutcome). binary-kept m task s site op _ _ _ _ (may refl)
  own-kept given site s f here r (source.Icmp pred a b) there callers same phi resolved runs may call = λ (next : MachineSeen → MachineOutcome). icmp-kept m task s pred _ _ _ _ (may refl)
  own-kept given site s f here r (source.Cast op a to) there callers same phi resolved runs may call = λ (next : MachineSeen → MachineOutcome). cast-kept m task s op _ _ _ _ (may refl)
  own-kept given site s f here r (source.Select cond a b) there callers same phi resolved runs may call = λ (next : MachineSeen → MachineOutcome). select-kept m task s _ _ _ _ (may refl)
  own-kept given site s f here r (source.Freeze a) there callers same phi resolved runs may call = λ (next : MachineSeen → MachineOutcome). freeze-kept m task s _ _ (may refl)
  own-kept given site s f here r (source.Phi ty entries) there callers same phi resolved runs may call = absurd (cc)
  own-kept given site s f here r (source.Alloca index ty count) there callers same phi resolved runs may call = λ (next : MachineSeen → MachineOutcome). alloca-kept m task s _ index (may refl)
  own-kept given site s f here r (source.Load ty at align) there callers same phi resolved runs may call = λ (next : MachineSeen → MachineOutcome). load-kept m task s site _ _ _ (may refl)
  own-kept given site s f here r (source.Store value at align) there callers same phi resolved runs may call = λ (next : MachineSeen → MachineOutcome). store-kept m task s site _ _ _ (may refl)
  own-kept given site s f here r (source.Gep ty base indices) there callers same phi resolved runs may call = λ (next : MachineSeen → MachineOutcome). gep-kept m task s _ _ _ (may refl)
  own-kept given site s f here r source.Fence there callers same phi resolved runs may call = λ (next : MachineSeen → MachineOutcome). goes-kept m task s [] (may refl)
  own-kept given site s f here r (source.Rmw op at value align) there callers same phi resolved runs may call = λ (next : MachineSeen → MachineOutcome). rmw-kept m task s site op _ _ _ _ (may refl)
  own-kept given site s f here r (source.CmpXchg at expected new align) there callers same phi resolved runs may call = λ (next : MachineSeen → MachineOutcome). cmpxchg-kept m task s site _ _ _ _ _ (may refl)
  own-kept given site s f here r (source.ExtractValue pair part) there callers same phi resolved runs may call = λ (next : MachineSeen → MachineOutcome). extract-kept m task s _ _ _ (may refl)
  own-kept given site s f here r (source.Call func result args) there callers same phi resolved runs may call = λ (next : MachineSeen → MachineOutcome). call-kept s site func _ resolved.0 (call refl) callers
  own-kept given site s f here r (source.CallLib declare result args start) there callers same phi resolved runs may call = library-kept given site s f (lib_of m declare) r args start (starts-lib m start (slice_get m.declares declare) runs) resolved.3 (may refl)
  own-kept given site s f here r (source.Br block) there callers same phi resolved runs may call = λ (next : MachineSeen → MachineOutcome). along-kept s f there callers here block resolved
  own-kept given site s f here r (source.BrIf cond first second) there callers same phi resolved runs may call = λ (next : MachineSeen → MachineOutcome). edge-if s _ (edge_to f (starts_of m f) here first) (edge_to f (starts_of m f) here second) (along-kept s f there callers here first resolved.1) (along-kept s f there callers here second resolved.2)
  own-kept given site s f here r (source.Switch on other cases) there callers same phi resolved runs may call = λ (next : MachineSeen → MachineOutcome). cases-kept s f there callers here _ (edge_to f (starts_of m f) here other) cases resolved.2 (along-kept s f there callers here other resolved.1)
  own-kept given site s f here r (source.Ret value) there callers same phi resolved runs may call = λ (next : MachineSeen → MachineOutcome). ret-kept s (returned value) callers same
  own-kept given site s f here r source.Unreachable there callers same phi resolved runs may call = λ (next : MachineSeen → MachineOutcome). tt
