-- What the calls on memory return, by the bytes that they read (ISO C, "The memcmp function" and "The strlen function"; that
-- the result of a comparison is -1, 0 or 1 is this project's choice).
use Rattle.std.specs.Prelude.{ℕ, ℤ, pos, neg_ℤ, List, length, Result, Ok, Err}
use Rattle.std.specs.declared.cmp.Ordering.{Ordering}
use Rattle.std.specs.declared.cmp.Ordering.TheVariants.{Less, Equal, Greater}
use Rattle.hw_base.specs.Bytes.{byte_order}
use Rattle.tbi_memory.specs.declared.mem_fault.MemFault.{MemFault}

-- the result of a comparison
abbrev pub order_value : Ordering → ℤ
order_value Less = neg_ℤ (pos 1)
order_value Equal = pos 0
order_value Greater = pos 1

-- the comparison of the bytes of two reads, or why the first, or else the second, can't be read
abbrev pub compared : (first second : Result (List ℕ) MemFault) → Result ℤ MemFault
compared (Err fault) second = Err fault
compared (Ok bytes) (Err fault) = Err fault
compared (Ok bytes) (Ok others) = Ok (order_value (byte_order bytes others))

-- how many bytes were read or passed their check, or why they didn't
abbrev pub length_of : {E : Type 0} → Result (List ℕ) E → Result ℕ E
length_of (Ok bytes) = Ok (length bytes)
length_of (Err fault) = Err fault
