-- What a step adds: one chain at most, and no birth and no word if it enters no frame with variables and has no blocks.
use Rattle.std.proofs.Common.{◌≡◌, ◌≢◌, ℕ, zero, suc, ◌+◌, ◌≤◌, Bool, true, false, List, [], ◌∷◌, ◌++◌, length, refl, ap, sym, ◌∙◌, subst, Option, Some, None, Result, Ok, Err, arith}
use Rattle.std.proofs.lemmas.List.{length_push}
use Rattle.hw_base.specs.declared.endings.Input.{Input}
use Rattle.hw_base.specs.declared.accesses.Access.{Access}
use Rattle.hw_base.specs.declared.accesses.Access.TheVariants.{Free, Read, Write}
use Rattle.hw_base.specs.declared.endings.Trap.{Trap}
use Rattle.hw_base.specs.declared.endings.Trap.TheVariants.{Abort, Unreachable, ReadOnly as ConstantWritten}
use Rattle.hw_base.specs.Bytes.{byte_order, order_bits}
use Rattle.hw_base.specs.declared.pointers.Site.{Site}
use Rattle.hw_shadow.specs.declared.mismatch.Mismatch.TheVariants.{Unmapped as NotMapped}
use Rattle.hw_shadow.specs.declared.mismatch.Mismatch.{Mismatch}
use Rattle.ir_machine.specs.CheckSteps.{free_check_step, on_check, on_checked, on_free, one_step, sized_step, str_step}
use Rattle.tag_alloc.specs.declared.blocks.FreeMismatch.{FreeMismatch}
use Rattle.tbi_memory.specs.AddressSpace.{AddressSpace}
use Rattle.tbi_memory.specs.declared.mem_fault.MemFault.{MemFault}
use Rattle.tbi_memory.specs.declared.mem_fault.MemFault.TheVariants.{Unmapped, ReadOnly}
use Rattle.hw_tags.specs.TaskRuns.{Goes, Stays, Starts, Finishes, Ends, Stuck}
use Rattle.ir_core.specs.declared.lib_functions.Lib.{Lib}
use Rattle.ir_core.specs.declared.lib_functions.Lib.TheVariants as lib
use Rattle.ir_lib.specs.declared.string_fault.StringFault.{StringFault}
use Rattle.dbg_sites.specs.ChainTable.{ChainEntry, pushed, numbered, entry_from}
use Rattle.mi_code.specs.declared.code_functions.CodeFunction.{CodeFunction}
use Rattle.mi_code.specs.declared.operands.MiOperand.{MiOperand}
use Rattle.mi_code.specs.declared.operations.MiOp.{MiOp}
use Rattle.mi_code.specs.declared.operations.MiOp.TheVariants as machine
use Rattle.ir_tasks.specs.Frames.{Frame}
use Rattle.ir_machine.specs.declared.progress.Progress.{Progress}
use Rattle.ir_machine.specs.declared.progress.Progress.TheVariants.{Ran, Printed, Returned, Ended, NoMemory}
use Rattle.ir_machine.specs.ArithmeticSteps.{binary_step, icmp_step, cast_step, bits_step, overflow_step, select_step, freeze_step, extract_step, gives_or_traps}
use Rattle.ir_machine.specs.ByteFunctions.{copy_step, memcmp_step, set_step}
use Rattle.ir_machine.specs.BranchSteps.{br_step, br_if_step, switch_step, unreachable_step}
use Rattle.ir_machine.specs.Built.{IsBuiltOp, IsOrdinary, IsOtherCheck, IsTextFunction, HasCode}
use Rattle.ir_machine.specs.CallSteps.{frame_left, last_left, ret_step}
use Rattle.ir_machine.specs.InstructionStep.{operation_step}
use Rattle.ir_machine.specs.LibraryCalls.{library_step}
use Rattle.ir_machine.specs.RunStates.{RunState, AddsChain, IsOutcome, IsPlainOutcome, left_at}
use Rattle.ir_machine.specs.State.{MachineSetting, MachineSeen, MachineOutcome, MachineShared}
use Rattle.ir_machine.specs.AddressSteps.{alloca_step, gep_step}
use Rattle.ir_machine.specs.MemorySteps.{load_step, number_of_bytes, store_step}
use Rattle.ir_machine.specs.Operands.{bits_in, bytes_in, int_argument, integer_in, long_argument, pointer_argument, pointer_in}
use Rattle.ir_machine.specs.declared.found.Found.{Found}
use Rattle.ir_machine.specs.declared.found.Found.TheVariants.{Block, Memory}
use Rattle.ir_machine.specs.StepEnds.{chain_known, gives, gives_to, goes_on, on_bytes, on_memory, prints, refused_at, report_at, traps, with_memory, with_read, with_write}
use Rattle.ir_machine.specs.TextFunctions.{abort_step, byte_number, exit_step, on_string, putchar_step, puts_step, strlen_step}
use Rattle.ir_machine.proofs.Outcomes.{from_plain}

length-pushed : (table : List ChainEntry) (rest : ℕ) (site : Site) → length (pushed table rest site).table ≤ length table + 1
unfolding pushed
length-pushed table rest site = by (entry_from table site rest 0)
  where
    by : (o : Option ℕ) → length (numbered table site rest o).table ≤ length table + 1
    by (Some place) = omega arith
    by None = let more = length_push table (record { site = site; rest = rest }) in omega arith

pub adds-none : (shared : MachineShared) → AddsChain shared shared
adds-none shared = record { chains = omega arith; births = refl; drawn = refl; stacks_are = refl; rings_are = refl }

pub adds-site : (s : MachineSeen) (site : Site) → AddsChain s.shared (chain_known s site).shared
adds-site s site = record { chains = length-pushed s.shared.chains s.frame.chain site; births = refl; drawn = refl; stacks_are = refl; rings_are = refl }

adds-memory : (s : MachineSeen) (memory : AddressSpace) → AddsChain s.shared (with_memory s memory).shared
adds-memory s memory = record { chains = omega arith; births = refl; drawn = refl; stacks_are = refl; rings_are = refl }

-- what the outcome has added to what was shared
pub AddsAt : MachineShared → MachineOutcome → Type 0
AddsAt before (Goes s report) = AddsChain before s.shared
AddsAt before Stays = Unit {0}
AddsAt before (Starts s report frame) = Unit {0}
AddsAt before (Finishes shared report) = Unit {0}
AddsAt before (Ends shared frames report ending) = AddsChain before shared
AddsAt before Stuck = Unit {0}

pub traps-add : (s : MachineSeen) (site : Site) (trap : Trap) → AddsAt s.shared (traps s site trap)
unfolding AddsAt
traps-add s site trap = adds-site s site

gives_or_traps-add : (s : MachineSeen) (site : Site) (to : ℕ) (r : Result ℕ Trap) → AddsAt s.shared (gives_or_traps s site to r)
unfolding AddsAt
gives_or_traps-add s site to (Ok n) = adds-none s.shared
gives_or_traps-add s site to (Err trap) = traps-add s site trap

last_left-add : (task : ℕ) (shared : MachineShared) (value : ℕ) → AddsAt shared (last_left task shared value)
unfolding AddsAt
last_left-add zero shared value = adds-none shared
last_left-add (suc task) shared value = tt

frame_left-add : (setting : MachineSetting) (s : MachineSeen) (callers : List Frame) (value : Option ℕ) → AddsAt s.shared (frame_left setting s callers value)
unfolding AddsAt
frame_left-add setting s [] value = last_left-add s.task s.shared _
frame_left-add setting s (caller ∷ callers) value = adds-none s.shared

pub ret-adds : (setting : MachineSetting) (s : MachineSeen) (value : Option MiOperand) → AddsAt s.shared (ret_step setting s value)
unfolding ret_step
ret-adds setting s value = frame_left-add setting s s.callers _

-- the outcome shares the same
pub KeepsAt : MachineShared → MachineOutcome → Type 0
KeepsAt before (Goes s report) = s.shared ≡ before
KeepsAt before Stays = Unit {0}
KeepsAt before (Starts s report frame) = Unit {0}
KeepsAt before (Finishes shared report) = Unit {0}
KeepsAt before (Ends shared frames report ending) = shared ≡ before
KeepsAt before Stuck = Unit {0}

last_left-keeps : (task : ℕ) (shared : MachineShared) (value : ℕ) → KeepsAt shared (last_left task shared value)
unfolding KeepsAt
last_left-keeps zero shared value = refl
last_left-keeps (suc task) shared value = tt

frame_left-keeps : (setting : MachineSetting) (s : MachineSeen) (callers : List Frame) (value : Option ℕ) → KeepsAt s.shared (frame_left setting s callers value)
unfolding KeepsAt
frame_left-keeps setting s [] value = last_left-keeps s.task s.shared _
frame_left-keeps setting s (caller ∷ callers) value = refl

pub ret-keeps : (setting : MachineSetting) (s : MachineSeen) (value : Option MiOperand) → KeepsAt s.shared (ret_step setting s value)
unfolding ret_step
ret-keeps setting s value = frame_left-keeps setting s s.callers _

pub report-adds : (s : MachineSeen) (site : Site) (access : Access) (size number : ℕ) (found : Found) → AddsAt s.shared (report_at s site access size number found)
unfolding AddsAt
report-adds s site access size number found = adds-site s site

pub refused-adds : (s : MachineSeen) (site : Site) (access : Access) (size number : ℕ) (fault : MemFault) → AddsAt s.shared (refused_at s site access size number fault)
refused-adds s site access size number (Unmapped address) = report-adds s site access size number (Memory (NotMapped address))
refused-adds s site access size number ReadOnly = traps-add s site ConstantWritten

-- ---- accesses of a step, by what comes after them

bytes-add : (s : MachineSeen) (site : Site) (access : Access) (size number : ℕ) (r : Result (List ℕ) MemFault) (go : List ℕ → MachineOutcome)
    → ((bytes : List ℕ) → AddsAt s.shared (go bytes)) → AddsAt s.shared (on_bytes s site access size number r go)
bytes-add s site access size number (Ok bytes) go adds = adds bytes
bytes-add s site access size number (Err fault) go adds = refused-adds s site access size number fault

memory-adds : (s : MachineSeen) (site : Site) (size number : ℕ) (r : Result AddressSpace MemFault) (go : MachineSeen → MachineOutcome)
    → ((memory : AddressSpace) → AddsAt s.shared (go (with_memory s memory))) → AddsAt s.shared (on_memory s site size number r go)
memory-adds s site size number (Ok memory) go adds = adds memory
memory-adds s site size number (Err fault) go adds = refused-adds s site Write size number fault

gives_to-adds : (before : MachineShared) (s : MachineSeen) (to : Option ℕ) (n : ℕ) → AddsChain before s.shared → AddsAt before (gives_to s to n)
unfolding AddsAt
gives_to-adds before s None n adds = adds
gives_to-adds before s (Some r) n adds = adds

prints-adds : (s : MachineSeen) (to : Option ℕ) (n : ℕ) (bytes : List ℕ) → AddsAt s.shared (prints s to n bytes)
unfolding AddsAt
prints-adds s None n bytes = adds-none s.shared
prints-adds s (Some r) n bytes = adds-none s.shared

string-adds : (s : MachineSeen) (site : Site) (start : ℕ) (go : List ℕ → MachineOutcome) (r : Result (List ℕ) MemFault) → ((bytes : List ℕ) → AddsAt s.shared (go bytes))
    → AddsAt s.shared (on_string s site start go r)
string-adds s site start go (Ok bytes) adds = adds bytes
string-adds s site start go (Err (Unmapped address)) adds = refused-adds s site Read 1 (byte_number start address) (Unmapped address)
string-adds s site start go (Err ReadOnly) adds = refused-adds s site Read 1 start ReadOnly

copy-adds : (s : MachineSeen) (site : Site) (to : Option ℕ) (target from n : ℕ) → AddsAt s.shared (copy_step s site to target from n)
unfolding copy_step
copy-adds s site to target from n =
    bytes-add s site Read n from _ (λ bytes. with_write s site target bytes (λ after. gives_to after to target))
    (λ bytes. memory-adds s site (length bytes) target _ (λ after. gives_to after to target)
    (λ memory. gives_to-adds s.shared (with_memory s memory) to target (adds-memory s memory)))

set-adds : (s : MachineSeen) (site : Site) (to : Option ℕ) (target byte n : ℕ) → AddsAt s.shared (set_step s site to target byte n)
unfolding set_step
set-adds s site to target byte n =
    memory-adds s site n target _ (λ after. gives_to after to target) (λ memory. gives_to-adds s.shared (with_memory s memory) to target (adds-memory s memory))

memcmp-adds : (s : MachineSeen) (site : Site) (to : Option ℕ) (a b n : ℕ) → AddsAt s.shared (memcmp_step s site to a b n)
unfolding memcmp_step
memcmp-adds s site to a b n =
    bytes-add s site Read n a _ (λ first. with_read s site Read n b (λ second. gives_to s to (order_bits (byte_order first second))))
    (λ first. bytes-add s site Read n b _ (λ second. gives_to s to (order_bits (byte_order first second)))
    (λ second. gives_to-adds s.shared s to (order_bits (byte_order first second)) (adds-none s.shared)))

pub library-adds : (setting : MachineSetting) (given : Input) (s : MachineSeen) (site : Site) (function : Lib) (to : Option ℕ) (args : List MiOperand) (start : Option ℕ)
    → IsTextFunction function → AddsAt s.shared (library_step setting given s site function to args start)
unfolding AddsAt putchar_step exit_step abort_step strlen_step puts_step
library-adds setting given s site lib.Putchar to args start h = by to
  where
    by : (to : Option ℕ) → AddsAt s.shared (library_step setting given s site lib.Putchar to args start)
    by None = adds-none s.shared
    by (Some r) = adds-none s.shared
library-adds setting given s site lib.Exit to args start h = adds-none s.shared
library-adds setting given s site lib.Abort to args start h = traps-add s site Abort
library-adds setting given s site lib.LlvmTrap to args start h = traps-add s site Abort
library-adds setting given s site lib.Strlen to args start h =
    string-adds s site (pointer_argument s args 0) (λ bytes. gives_to s to (length bytes)) _ (λ bytes. gives_to-adds s.shared s to (length bytes) (adds-none s.shared))
library-adds setting given s site lib.Puts to args start h =
    string-adds s site (pointer_argument s args 0) (λ bytes. prints s to 0 (bytes ++ 10 ∷ [])) _ (λ bytes. prints-adds s to 0 (bytes ++ 10 ∷ []))
library-adds setting given s site lib.Memcpy to args start h = copy-adds s site to (pointer_argument s args 0) (pointer_argument s args 1) (long_argument s args 2)
library-adds setting given s site lib.Memmove to args start h = copy-adds s site to (pointer_argument s args 0) (pointer_argument s args 1) (long_argument s args 2)
library-adds setting given s site lib.LlvmMemcpy to args start h = copy-adds s site None (pointer_argument s args 0) (pointer_argument s args 1) (long_argument s args 2)
library-adds setting given s site lib.LlvmMemmove to args start h = copy-adds s site None (pointer_argument s args 0) (pointer_argument s args 1) (long_argument s args 2)
library-adds setting given s site lib.Memset to args start h = set-adds s site to (pointer_argument s args 0) (int_argument s args 1) (long_argument s args 2)
library-adds setting given s site lib.LlvmMemset to args start h = set-adds s site None (pointer_argument s args 0) (int_argument s args 1) (long_argument s args 2)
library-adds setting given s site lib.Memcmp to args start h = memcmp-adds s site to (pointer_argument s args 0) (pointer_argument s args 1) (long_argument s args 2)
library-adds setting given s site other to args start h = absurd h

load-adds : (s : MachineSeen) (site : Site) (to width size number : ℕ) (r : Result (List ℕ) MemFault)
    → AddsAt s.shared (on_bytes s site Read size number r (λ bytes. gives s to (number_of_bytes width bytes)))
unfolding AddsAt
load-adds s site to width size number (Ok bytes) = adds-none s.shared
load-adds s site to width size number (Err fault) = refused-adds s site Read size number fault

store-adds : (s : MachineSeen) (site : Site) (size number : ℕ) (r : Result AddressSpace MemFault)
    → AddsAt s.shared (on_memory s site size number r goes_on)
unfolding AddsAt
store-adds s site size number (Ok memory) = adds-memory s memory
store-adds s site size number (Err fault) = refused-adds s site Write size number fault

check-adds : (s : MachineSeen) (site : Site) (access : Access) (size number : ℕ) (r : Option Mismatch)
    → AddsAt s.shared (on_check s site access size number (λ after. Stuck) r)
unfolding AddsAt
check-adds s site access size number None = tt
check-adds s site access size number (Some found) = report-adds s site access size number (Memory found)

free-adds : (s : MachineSeen) (site : Site) (number : ℕ) (r : Option FreeMismatch) → AddsAt s.shared (on_free s site number Stuck r)
unfolding AddsAt
free-adds s site number None = tt
free-adds s site number (Some found) = report-adds s site Free 0 number (Block found)

text-adds : (s : MachineSeen) (site : Site) (r : Result (List ℕ) StringFault) → AddsAt s.shared (on_checked s site (λ after. Stuck) r)
unfolding AddsAt
text-adds s site (Ok bytes) = tt
text-adds s site (Err fault) = report-adds s site Read 1 fault.at (Memory fault.found)

-- another check that fails
pub other_check-adds : (setting : MachineSetting) (given : Input) (site : Site) (s : MachineSeen) (op : MiOp) → IsOtherCheck op
    → AddsAt s.shared (operation_step setting given site (λ after. Stuck) s op)
unfolding sized_step str_step free_check_step
other_check-adds setting given site s (machine.Sized at size access) is = check-adds s site access (integer_in s 64 size) (pointer_in s at) _
other_check-adds setting given site s (machine.Str at) is = text-adds s site _
other_check-adds setting given site s (machine.FreeCheck at) is = free-adds s site (pointer_in s at) _
other_check-adds setting given site s other is = absurd is

-- a check that fails
pub one-adds : (s : MachineSeen) (site : Site) (at : MiOperand) (size : ℕ) (access : Access) → AddsAt s.shared (one_step s site at size access (λ after. Stuck))
unfolding one_step
one-adds s site at size access = check-adds s site access size (pointer_in s at) _

-- each ordinary instruction that the machine runs
pub operation-adds : (setting : MachineSetting) (given : Input) (site : Site) (next : MachineSeen → MachineOutcome) (s : MachineSeen) (op : MiOp)
    → IsBuiltOp op → IsOrdinary op → AddsAt s.shared (operation_step setting given site next s op)
unfolding AddsAt gep_step load_step store_step binary_step icmp_step cast_step bits_step overflow_step select_step freeze_step extract_step br_step br_if_step switch_step unreachable_step alloca_step
operation-adds setting given site next s (machine.Binary op width to a b) h ordinary = gives_or_traps-add s site to _
operation-adds setting given site next s (machine.Icmp pred width to a b) h ordinary = adds-none s.shared
operation-adds setting given site next s (machine.Cast op from width to a) h ordinary = adds-none s.shared
operation-adds setting given site next s (machine.Bits op width to args) h ordinary = adds-none s.shared
operation-adds setting given site next s (machine.Overflow op width to a b) h ordinary = adds-none s.shared
operation-adds setting given site next s (machine.Select to cond a b) h ordinary = adds-none s.shared
operation-adds setting given site next s (machine.Freeze to a) h ordinary = adds-none s.shared
operation-adds setting given site next s (machine.Part to pair part) h ordinary = adds-none s.shared
operation-adds setting given site next s machine.Nop h ordinary = adds-none s.shared
operation-adds setting given site next s (machine.Jump edge) h ordinary = adds-none s.shared
operation-adds setting given site next s (machine.Branch cond first second) h ordinary = adds-none s.shared
operation-adds setting given site next s (machine.Switch width on other cases) h ordinary = adds-none s.shared
operation-adds setting given site next s (machine.Ret value) h ordinary = ret-adds setting s value
operation-adds setting given site next s machine.Unreachable h ordinary = traps-add s site Unreachable
operation-adds setting given site next s (machine.Alloca to variable) h ordinary = adds-none s.shared
operation-adds setting given site next s (machine.Gep to base indices) h ordinary = adds-none s.shared
operation-adds setting given site next s (machine.Load width to at) h ordinary = load-adds s site to (bits_in width) (bytes_in width) (pointer_in s at) _
operation-adds setting given site next s (machine.Store width value at) h ordinary = store-adds s site _ (pointer_in s at) _
operation-adds setting given site next s (machine.Call func to args) h ordinary = absurd ordinary
operation-adds setting given site next s (machine.CallLib function to args start) h ordinary = absurd ordinary
operation-adds setting given site next s (machine.Sized at size access) h ordinary = absurd ordinary
operation-adds setting given site next s (machine.Str at) h ordinary = absurd ordinary
operation-adds setting given site next s (machine.FreeCheck at) h ordinary = absurd ordinary
operation-adds setting given site next s machine.Leave h ordinary = absurd ordinary
operation-adds setting given site next s (machine.One at size access) h ordinary = absurd ordinary
operation-adds setting given site next s other h ordinary = absurd h

-- some setting with this code
unfoldable pub setting_with : List CodeFunction → MachineSetting
setting_with code =
    record {
      places = record { globals_at = 0; stacks_at = 0; stack_length = 0; most_tasks = 1; most_frames = 4096; heap_at = 0; heap_length = 0 };
      program = record { types = []; fields = []; layouts = []; globals = []; declares = []; functions = []; main = 0; meta = [] };
      code = code;
      word = λ i. 0;
      ring = 1;
      input = [];
    }

pub setting_with-code : (code : List CodeFunction) → HasCode (setting_with code) code
unfolding setting_with
setting_with-code code = record { code = refl; most_frames = refl }

-- so has the state that the progress and the run are
pub outcome-adds : (before : MachineShared) (outcome : MachineOutcome) (progress : Progress) (v : RunState) → IsOutcome outcome progress v → progress ≢ NoMemory
    → AddsAt before outcome → AddsChain before v.seen.shared
unfolding AddsAt
outcome-adds before outcome Ran v h some adds = subst (AddsAt before) h adds
outcome-adds before outcome Printed v h some adds = subst (AddsAt before) h adds
outcome-adds before outcome Returned v h some adds = subst (AddsAt before) h adds
outcome-adds before outcome Ended v h some adds = subst (AddsAt before) h adds
outcome-adds before outcome NoMemory v h some adds = absurd (some refl)

pub outcome-keeps : (before : MachineShared) (outcome : MachineOutcome) (progress : Progress) (v : RunState) → IsOutcome outcome progress v → progress ≢ NoMemory
    → KeepsAt before outcome → v.seen.shared ≡ before
unfolding KeepsAt
outcome-keeps before outcome Ran v h some keeps = subst (KeepsAt before) h keeps
outcome-keeps before outcome Printed v h some keeps = subst (KeepsAt before) h keeps
outcome-keeps before outcome Returned v h some keeps = subst (KeepsAt before) h keeps
outcome-keeps before outcome Ended v h some keeps = subst (KeepsAt before) h keeps
outcome-keeps before outcome NoMemory v h some keeps = absurd (some refl)

pub goes_on-keeps : (s : MachineSeen) (progress : Progress) (v : RunState) → IsPlainOutcome (goes_on s) progress v → progress ≢ NoMemory → v.seen.shared ≡ s.shared
unfolding KeepsAt
goes_on-keeps s progress v is some = outcome-keeps s.shared (goes_on s) progress v (from_plain (goes_on s) progress v is) some refl

-- the end of a frame with variables
pub left-adds : (s : MachineSeen) (site : Site) (after : MachineShared) → after ≡ (left_at s site).shared → length after.stacks.tasks ≡ length s.shared.stacks.tasks
    → AddsChain s.shared after
left-adds s site after is stack =
    record {
      chains = subst (λ (shared : MachineShared). length shared.chains ≤ length s.shared.chains + 1) (sym is) (length-pushed s.shared.chains s.frame.chain site);
      births = ap (λ (shared : MachineShared). shared.births) is;
      drawn = ap (λ (shared : MachineShared). shared.drawn) is;
      stacks_are = stack;
      rings_are = ap (λ (shared : MachineShared). length shared.heap.freed) is;
    }
