-- The library functions on strings, input, output and the end of the program (ISO C, "String handling", "Input/output" and
-- "Communication with the environment"; LLVM Language Reference, "'llvm.trap' Intrinsic"). Input and output are bytes; at
-- the end of the input `getchar` gives -1, and no further byte is asked for.
use Rattle.std.specs.Prelude.{ℕ, ◌+◌, ◌-◌, ◌%◌, ◌^◌, if◌then◌else◌, true, List, [], ◌∷◌, ◌++◌, length, Option, Result, Ok, Err}
use Rattle.hw_base.specs.Bits.{minus_one}
use Rattle.hw_base.specs.TaggedAddress.{address_of}
use Rattle.hw_base.specs.declared.accesses.Access.TheVariants.{Read}
use Rattle.hw_base.specs.declared.endings.Input.{Input}
use Rattle.hw_base.specs.declared.endings.Input.TheVariants.{Byte, End}
use Rattle.hw_base.specs.declared.endings.Trap.TheVariants.{Abort}
use Rattle.hw_base.specs.declared.pointers.Site.{Site}
use Rattle.tbi_memory.specs.declared.mem_fault.MemFault.{MemFault}
use Rattle.tbi_memory.specs.declared.mem_fault.MemFault.TheVariants.{Unmapped, ReadOnly}
use Rattle.ir_lib.specs.Strings.{string_at}
use Rattle.ir_machine.specs.State.{MachineSeen, MachineOutcome, Exited}
use Rattle.ir_machine.specs.StepEnds.{gives_to, prints, ends, traps, refused_at}

-- ---- strings

-- the number of the byte of a string that is at an address
abbrev pub byte_number : (start address : ℕ) → ℕ
byte_number start address = (start + (address - address_of start)) % 2 ^ 64

-- a byte of a string isn't mapped
abbrev pub string_refused : MachineSeen → Site → (start : ℕ) → MemFault → MachineOutcome
string_refused s site start (Unmapped address) = refused_at s site Read 1 (byte_number start address) (Unmapped address)
string_refused s site start ReadOnly = refused_at s site Read 1 start ReadOnly

-- go on with the bytes of a string, without its 0
abbrev pub on_string : MachineSeen → Site → (start : ℕ) → (List ℕ → MachineOutcome) → Result (List ℕ) MemFault → MachineOutcome
on_string s site start go (Ok bytes) = go bytes
on_string s site start go (Err fault) = string_refused s site start fault

unfoldable pub strlen_step : MachineSeen → Site → Option ℕ → (start : ℕ) → MachineOutcome
strlen_step s site to start = on_string s site start (λ bytes. gives_to s to (length bytes)) (string_at s.shared.memory start)

-- the string and a line feed
unfoldable pub puts_step : MachineSeen → Site → Option ℕ → (start : ℕ) → MachineOutcome
puts_step s site to start = on_string s site start (λ bytes. prints s to 0 (bytes ++ 10 ∷ [])) (string_at s.shared.memory start)

-- ---- input and output

-- the low byte, which is the result
unfoldable pub putchar_step : MachineSeen → Option ℕ → (c : ℕ) → MachineOutcome
putchar_step s to c = prints s to (c % 256) (c % 256 ∷ [])

-- one more byte of the input is taken
abbrev pub with_taken : MachineSeen → MachineSeen
with_taken s = record s { shared = record s.shared { input = record s.shared.input { taken = s.shared.input.taken + 1 } } }

-- the end of the input was met
abbrev pub with_end_met : MachineSeen → MachineSeen
with_end_met s = record s { shared = record s.shared { input = record s.shared.input { at_end = true } } }

abbrev pub on_input : MachineSeen → Option ℕ → Input → MachineOutcome
on_input s to (Byte byte) = gives_to (with_taken s) to byte
on_input s to End = gives_to (with_end_met s) to minus_one

unfoldable pub getchar_step : MachineSeen → Option ℕ → Input → MachineOutcome
getchar_step s to given = if s.shared.input.at_end then gives_to s to minus_one else on_input s to given

-- ---- ends of the program

unfoldable pub exit_step : MachineSeen → (value : ℕ) → MachineOutcome
exit_step s value = ends s (Exited value)

-- `abort` and `llvm.trap`
unfoldable pub abort_step : MachineSeen → Site → MachineOutcome
abort_step s site = traps s site Abort
