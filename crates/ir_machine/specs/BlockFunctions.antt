-- The library functions on heap blocks (ISO C, "Memory management functions"). A birth or death has the call's site and the
-- frame's chain. A full heap ends the run. `realloc` is a birth, a copy and a death, in this order; that is this project's
-- choice.
use Rattle.std.specs.Prelude.{ℕ, ◌+◌, ◌*◌, min, Option, Some, None, Result, Ok, Err}
use Rattle.hw_base.specs.declared.accesses.Access.TheVariants.{Read}
use Rattle.hw_base.specs.declared.endings.Full.{Full}
use Rattle.hw_base.specs.declared.pointers.Site.{Site}
use Rattle.tag_alloc.specs.declared.blocks.Block.{Block}
use Rattle.tag_alloc.specs.HeapBlocks.{free_mismatch, freed_block}
use Rattle.tag_alloc.specs.HeapSteps.{AfterBirth, AfterDeath, allocated, after_death}
use Rattle.ir_machine.specs.State.{MachineSetting, MachineSeen, MachineOutcome, IsFull}
use Rattle.ir_machine.specs.StepEnds.{goes_on, gives_to, ends, chain_at, chain_known, with_read, with_write}
use Rattle.ir_machine.specs.CheckSteps.{on_free}

-- ---- births

-- the heap and memory after a birth, which draws a tag word
abbrev pub with_birth : MachineSeen → AfterBirth → MachineSeen
with_birth s born =
    record s {
      shared = record s.shared {
        heap = born.heap;
        memory = born.space;
        births = s.shared.births + 1;
        drawn = s.shared.drawn + 1;
      };
    }

-- go on with a new block and the number of its first byte, or end if the heap is full
abbrev pub on_birth : MachineSeen → (MachineSeen → ℕ → MachineOutcome) → Result AfterBirth Full → MachineOutcome
on_birth s go (Err full) = ends s (IsFull full)
on_birth s go (Ok born) = go (with_birth s born) born.number

-- go on with a new block of so many bytes
abbrev pub with_new_block : MachineSetting → MachineSeen → (size chain : ℕ) → (MachineSeen → ℕ → MachineOutcome) → MachineOutcome
with_new_block setting s size chain go =
    on_birth s go (allocated s.shared.heap s.shared.memory (setting.word s.shared.drawn) size s.shared.births chain)

unfoldable pub malloc_step : MachineSetting → MachineSeen → Site → Option ℕ → (size : ℕ) → MachineOutcome
malloc_step setting s site to size =
    with_new_block setting (chain_known s site) size (chain_at s site) (λ after number. gives_to after to number)

-- the size is the exact product
abbrev pub calloc_step : MachineSetting → MachineSeen → Site → Option ℕ → (count size : ℕ) → MachineOutcome
calloc_step setting s site to count size = malloc_step setting s site to (count * size)

-- ---- deaths

-- the heap and memory after a death, which draws a tag word
abbrev pub with_death : MachineSeen → AfterDeath → MachineSeen
with_death s died =
    record s { shared = record s.shared { heap = died.heap; memory = died.space; drawn = s.shared.drawn + 1 } }

abbrev pub block_freed : MachineSetting → MachineSeen → (chain : ℕ) → Block → MachineSeen
block_freed setting s chain block =
    with_death s (after_death s.shared.heap s.shared.memory (setting.word s.shared.drawn) s.task chain block)

-- `free` of null does nothing
abbrev pub freed_if : MachineSetting → MachineSeen → Site → Option Block → MachineOutcome
freed_if setting s site None = goes_on s
freed_if setting s site (Some block) = goes_on (block_freed setting (chain_known s site) (chain_at s site) block)

unfoldable pub free_step : MachineSetting → MachineSeen → Site → (number : ℕ) → MachineOutcome
free_step setting s site number =
    on_free s site number (freed_if setting s site (freed_block s.shared.heap number)) (free_mismatch s.shared.heap number)

-- the first bytes that both blocks have move to the new one, and the old one dies
abbrev pub moved_block : MachineSetting → Site → Option ℕ → (number size chain : ℕ) → Block → MachineSeen → (new : ℕ) → MachineOutcome
moved_block setting site to number size chain old s new =
    with_read s site Read (min old.size size) number (λ bytes.
    with_write s site new bytes (λ after. gives_to (block_freed setting after chain old) to new))

-- `realloc` of null is `malloc`
abbrev pub reallocated : MachineSetting → MachineSeen → Site → Option ℕ → (number size : ℕ) → Option Block → MachineOutcome
reallocated setting s site to number size None = malloc_step setting s site to size
reallocated setting s site to number size (Some old) =
    with_new_block setting (chain_known s site) size (chain_at s site) (moved_block setting site to number size (chain_at s site) old)

unfoldable pub realloc_step : MachineSetting → MachineSeen → Site → Option ℕ → (number size : ℕ) → MachineOutcome
realloc_step setting s site to number size =
    on_free s site number (reallocated setting s site to number size (freed_block s.shared.heap number)) (free_mismatch s.shared.heap number)
