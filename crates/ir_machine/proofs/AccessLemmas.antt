-- Loads and stores, by what memory returns.
use Rattle.std.proofs.Common.{◌≡◌, ℕ, ◌*◌, ◌%◌, ◌^◌, ◌<◌, ◌≤◌, List, length, ap, sym, subst, ◌∙◌, refl, Some, Result, Ok, Err, arith}
use Rattle.std.proofs.Math.Nat.{pow-le-pow_right}
use Rattle.hw_base.proofs.ByteLaws.{length-le_bytes}
use Rattle.hw_base.specs.Bytes.{le_bytes, le_number}
use Rattle.hw_base.specs.declared.accesses.Access.TheVariants.{Read, Write}
use Rattle.hw_base.specs.declared.pointers.Site.{Site}
use Rattle.tbi_memory.specs.AddressSpace.{AddressSpace, write_fault, written}
use Rattle.tbi_memory.specs.MemoryParts.{number_read}
use Rattle.tbi_memory.specs.declared.mem_fault.MemFault.{MemFault}
use Rattle.ir_machine.specs.MemorySteps.{number_of_bytes}
use Rattle.ir_machine.specs.State.{MachineSeen}
use Rattle.ir_machine.specs.StepEnds.{gives, goes_on, on_bytes, on_memory, refused_at, with_write}

-- the number was read
pub read-gives : (s : MachineSeen) (site : Site) (to width size number : ℕ) (r : Result (List ℕ) MemFault) (n : ℕ) → number_read r ≡ Ok n
    → on_bytes s site Read size number r (λ bytes. gives s to (number_of_bytes width bytes)) ≡ gives s to (n % 2 ^ width)
read-gives s site to width size number (Ok bytes) n h = let e : le_number bytes ≡ n = cc in ap (λ (k : ℕ). gives s to (k % 2 ^ width)) e
read-gives s site to width size number (Err fault) n h = absurd (cc)

-- it couldn't be read
pub read-refused : (s : MachineSeen) (site : Site) (to width size number : ℕ) (r : Result (List ℕ) MemFault) (fault : MemFault) → number_read r ≡ Err fault
    → on_bytes s site Read size number r (λ bytes. gives s to (number_of_bytes width bytes)) ≡ refused_at s site Read size number fault
read-refused s site to width size number (Ok bytes) fault h = absurd (cc)
read-refused s site to width size number (Err found) fault h = let e : found ≡ fault = cc in ap (refused_at s site Read size number) e

-- a value fits in the bytes of its width
pub fits-bytes : (n bits bytes : ℕ) → n < 2 ^ bits → bits ≤ 8 * bytes → n < 2 ^ (8 * bytes)
fits-bytes n bits bytes below wide = let more : 2 ^ bits ≤ 2 ^ (8 * bytes) = pow-le-pow_right (omega arith) wide in omega (arith, below, more)

written-fault : (space : AddressSpace) (number : ℕ) (bytes : List ℕ) (fault : MemFault) → write_fault space number (length bytes) ≡ Some fault
    → written space number bytes ≡ Err fault
unfolding written
written-fault space number bytes fault h = rw (written, h) refl

-- it couldn't be written
pub write-refused : (s : MachineSeen) (site : Site) (number size n : ℕ) (fault : MemFault) → write_fault s.shared.memory number size ≡ Some fault
    → with_write s site number (le_bytes size n) goes_on ≡ refused_at s site Write size number fault
write-refused s site number size n fault refused =
    let bytes = le_bytes size n in
    let count : length bytes ≡ size = length-le_bytes size n in
    let here : write_fault s.shared.memory number (length bytes) ≡ Some fault = subst (λ k. write_fault s.shared.memory number k ≡ Some fault) (sym count) refused in
    ap (λ (r : Result AddressSpace MemFault). on_memory s site (length bytes) number r goes_on) (written-fault s.shared.memory number bytes fault here)
    ∙ ap (λ k. refused_at s site Write k number fault) count
