-- What a step does with the frame that runs, and how it ends. An instruction that meets an address that isn't mapped ends the
-- run with a report on its access; only a run past a missed violation meets one. A write to a constant is a trap, also if it
-- would change no byte. This project's choice.
use Rattle.std.specs.Prelude.{ℕ, ◌+◌, Bool, List, [], ◌∷◌, length, Option, Some, None, Result, Ok, Err}
use Rattle.hw_base.specs.Bits.{bit_of}
use Rattle.hw_base.specs.declared.accesses.Access.{Access}
use Rattle.hw_base.specs.declared.accesses.Access.TheVariants.{Write}
use Rattle.hw_base.specs.declared.endings.Trap.{Trap}
use Rattle.hw_base.specs.declared.endings.Trap.TheVariants.{ReadOnly as ConstantWritten}
use Rattle.hw_base.specs.declared.pointers.Site.{Site}
use Rattle.hw_shadow.specs.declared.mismatch.Mismatch.TheVariants.{Unmapped as NotMapped}
use Rattle.hw_tags.specs.TaskRuns.{Goes, Ends}
use Rattle.tbi_memory.specs.AddressSpace.{AddressSpace, read, written, write_fault}
use Rattle.tbi_memory.specs.declared.mem_fault.MemFault.{MemFault}
use Rattle.tbi_memory.specs.declared.mem_fault.MemFault.TheVariants.{Unmapped, ReadOnly}
use Rattle.dbg_sites.specs.ChainTable.{Numbered, pushed}
use Rattle.ir_tasks.specs.Frames as frames
use Rattle.ir_machine.specs.declared.found.Found.{Found}
use Rattle.ir_machine.specs.declared.found.Found.TheVariants.{Memory}
use Rattle.ir_machine.specs.State.{MachineSeen, MachineOutcome, MachineEnding, Trapped, Reported}

-- ---- the frame that runs

-- it is at the next place
abbrev pub advanced : MachineSeen → MachineSeen
advanced s = record s { frame = frames.advanced s.frame }

-- one of its registers has a number
abbrev pub with_number : MachineSeen → (to n : ℕ) → MachineSeen
with_number s to n = record s { frame = frames.with_register s.frame to n }

-- the same, if there is a register
abbrev pub with_result : MachineSeen → Option ℕ → ℕ → MachineSeen
with_result s None n = s
with_result s (Some to) n = with_number s to n

-- ---- steps that end at the next instruction

-- nothing is printed
abbrev pub goes_on : MachineSeen → MachineOutcome
goes_on s = Goes (advanced s) []

-- a register has a number
abbrev pub gives : MachineSeen → (to n : ℕ) → MachineOutcome
gives s to n = goes_on (with_number s to n)

-- a pair goes to two registers
abbrev pub gives_pair : MachineSeen → (to n : ℕ) → Bool → MachineOutcome
gives_pair s to n flag = gives (with_number s to n) (to + 1) (bit_of flag)

-- the result of a call has a number
abbrev pub gives_to : MachineSeen → Option ℕ → ℕ → MachineOutcome
gives_to s to n = goes_on (with_result s to n)

-- the same, and bytes are printed
abbrev pub prints : MachineSeen → Option ℕ → ℕ → List ℕ → MachineOutcome
prints s to n bytes = Goes (advanced (with_result s to n)) bytes

-- ---- ends of the run

-- the run ends in this state, and nothing is printed
abbrev pub ends : MachineSeen → MachineEnding → MachineOutcome
ends s ending = Ends s.shared (s.frame ∷ s.callers) [] ending

-- the chain of a site of the frame that runs, in a table that has it
abbrev pub chain_of_site : MachineSeen → Site → Numbered
chain_of_site s site = pushed s.shared.chains s.frame.chain site

-- its number
abbrev pub chain_at : MachineSeen → Site → ℕ
chain_at s site = (chain_of_site s site).number

-- the table has that chain
abbrev pub chain_known : MachineSeen → Site → MachineSeen
chain_known s site = record s { shared = record s.shared { chains = (chain_of_site s site).table } }

-- the run ends with a trap
abbrev pub traps : MachineSeen → Site → Trap → MachineOutcome
traps s site trap = ends (chain_known s site) (Trapped trap s.task (chain_at s site))

-- a check of an access of so many bytes at a number fails
abbrev pub report_at : MachineSeen → Site → Access → (size number : ℕ) → Found → MachineOutcome
report_at s site access size number found =
    ends (chain_known s site)
    (Reported (record { access = access; size = size; number = number; task = s.task; step = s.step; chain = chain_at s site; found = found }))

-- ---- accesses of an instruction to memory

-- memory refuses an access
abbrev pub refused_at : MachineSeen → Site → Access → (size number : ℕ) → MemFault → MachineOutcome
refused_at s site access size number (Unmapped address) = report_at s site access size number (Memory (NotMapped address))
refused_at s site access size number ReadOnly = traps s site ConstantWritten

-- go on with the bytes that an access reads
abbrev pub on_bytes : MachineSeen → Site → Access → (size number : ℕ) → Result (List ℕ) MemFault → (List ℕ → MachineOutcome) → MachineOutcome
on_bytes s site access size number (Ok bytes) go = go bytes
on_bytes s site access size number (Err fault) go = refused_at s site access size number fault

-- go on with so many bytes at a number
abbrev pub with_read : MachineSeen → Site → Access → (size number : ℕ) → (List ℕ → MachineOutcome) → MachineOutcome
with_read s site access size number go = on_bytes s site access size number (read s.shared.memory number size) go

-- go on if nothing refuses a write
abbrev pub on_writable : MachineSeen → Site → (size number : ℕ) → Option MemFault → MachineOutcome → MachineOutcome
on_writable s site size number None go = go
on_writable s site size number (Some fault) go = refused_at s site Write size number fault

-- go on if so many bytes at a number are mapped and not constant
abbrev pub with_writable : MachineSeen → Site → (size number : ℕ) → MachineOutcome → MachineOutcome
with_writable s site size number go = on_writable s site size number (write_fault s.shared.memory number size) go

-- memory is this space
abbrev pub with_memory : MachineSeen → AddressSpace → MachineSeen
with_memory s memory = record s { shared = record s.shared { memory = memory } }

-- go on with memory after a write, or end if it is refused
abbrev pub on_memory : MachineSeen → Site → (size number : ℕ) → Result AddressSpace MemFault → (MachineSeen → MachineOutcome) → MachineOutcome
on_memory s site size number (Ok memory) go = go (with_memory s memory)
on_memory s site size number (Err fault) go = refused_at s site Write size number fault

-- go on after these bytes were written at a number
abbrev pub with_write : MachineSeen → Site → (number : ℕ) → List ℕ → (MachineSeen → MachineOutcome) → MachineOutcome
with_write s site number bytes go = on_memory s site (length bytes) number (written s.shared.memory number bytes) go
