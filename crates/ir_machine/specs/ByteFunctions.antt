-- The library functions on bytes of memory (ISO C, "String handling"; LLVM Language Reference, "Standard C/C++ Library
-- Intrinsics"). Bytes are copied as if all were read first.
use Rattle.std.specs.Prelude.{ℕ, ◌%◌, Option}
use Rattle.hw_base.specs.Bytes.{byte_order, order_bits}
use Rattle.hw_base.specs.declared.accesses.Access.TheVariants.{Read}
use Rattle.hw_base.specs.declared.pointers.Site.{Site}
use Rattle.tbi_memory.specs.AddressSpace.{filled}
use Rattle.ir_machine.specs.State.{MachineSeen, MachineOutcome}
use Rattle.ir_machine.specs.StepEnds.{gives_to, with_read, with_write, on_memory}

-- `memcpy`, `memmove` and their intrinsics: n bytes from one number to another, which is the result
unfoldable pub copy_step : MachineSeen → Site → Option ℕ → (target from n : ℕ) → MachineOutcome
copy_step s site to target from n =
    with_read s site Read n from (λ bytes. with_write s site target bytes (λ after. gives_to after to target))

-- `memset` and its intrinsic: the low byte n times
unfoldable pub set_step : MachineSeen → Site → Option ℕ → (target byte n : ℕ) → MachineOutcome
set_step s site to target byte n =
    on_memory s site n target (filled s.shared.memory target n (byte % 256)) (λ after. gives_to after to target)

-- `memcmp`: both ranges are read; the first different byte decides
unfoldable pub memcmp_step : MachineSeen → Site → Option ℕ → (a b n : ℕ) → MachineOutcome
memcmp_step s site to a b n =
    with_read s site Read n a (λ first. with_read s site Read n b (λ second. gives_to s to (order_bits (byte_order first second))))
