-- The steps on memory (LLVM Language Reference, "Memory Access and Addressing Operations"). Memory is bytes, little endian.
-- Every ordering of an atomic access is sequential here.
use Rattle.std.specs.Prelude.{ℕ, ◌%◌, ◌^◌, ◌==◌, Bool, true, false, List}
use Rattle.hw_base.specs.Bytes.{le_bytes, le_number}
use Rattle.hw_base.specs.declared.accesses.Access.TheVariants.{Read, Write}
use Rattle.hw_base.specs.declared.operators.RmwOp.{RmwOp}
use Rattle.hw_base.specs.declared.pointers.Site.{Site}
use Rattle.ir_arith.specs.Atomics.{rmw_result}
use Rattle.ir_core.specs.Layout.{int_store_size}
use Rattle.mi_code.specs.declared.operands.MiOperand.{MiOperand}
use Rattle.mi_code.specs.declared.operands.Width.{Width}
use Rattle.ir_machine.specs.State.{MachineSeen, MachineOutcome}
use Rattle.ir_machine.specs.Operands.{integer_in, pointer_in, bits_in, bytes_in}
use Rattle.ir_machine.specs.StepEnds.{goes_on, gives, gives_pair, with_read, with_writable, with_write}

-- the number of a width that bytes spell
abbrev pub number_of_bytes : (width : ℕ) → List ℕ → ℕ
number_of_bytes width bytes = le_number bytes % 2 ^ width

-- an integer that is read is taken modulo 2 ^ width
unfoldable pub load_step : MachineSeen → Site → Width → (to : ℕ) → MiOperand → MachineOutcome
load_step s site width to at =
    with_read s site Read (bytes_in width) (pointer_in s at) (λ bytes. gives s to (number_of_bytes (bits_in width) bytes))

unfoldable pub store_step : MachineSeen → Site → Width → (value at : MiOperand) → MachineOutcome
store_step s site width value at =
    with_write s site (pointer_in s at) (le_bytes (bytes_in width) (integer_in s (bits_in width) value)) goes_on

-- the old value is read and the new one stored in one step
unfoldable pub rmw_step : MachineSeen → Site → RmwOp → (width to : ℕ) → (at value : MiOperand) → MachineOutcome
rmw_step s site op width to at value =
    with_read s site Write (int_store_size width) (pointer_in s at) (λ bytes.
    let old = number_of_bytes width bytes in
    with_write s site (pointer_in s at) (le_bytes (int_store_size width) (rmw_result op width old (integer_in s width value))) (λ s'.
    gives s' to old))

-- a value is stored if the comparison holds, and the pair of the old value and its result goes to two registers
abbrev pub exchange : MachineSeen → Site → (at to : ℕ) → List ℕ → (old : ℕ) → Bool → MachineOutcome
exchange s site at to bytes old true = with_write s site at bytes (λ s'. gives_pair s' to old true)
exchange s site at to bytes old false = gives_pair s to old false

-- if the old value is the expected one, the new one is stored
unfoldable pub cmpxchg_step : MachineSeen → Site → (width to : ℕ) → (at expected new : MiOperand) → MachineOutcome
cmpxchg_step s site width to at expected new =
    with_writable s site (int_store_size width) (pointer_in s at)
    (with_read s site Write (int_store_size width) (pointer_in s at) (λ bytes.
    let old = number_of_bytes width bytes in
    exchange s site (pointer_in s at) to (le_bytes (int_store_size width) (integer_in s width new)) old (old == integer_in s width expected)))
