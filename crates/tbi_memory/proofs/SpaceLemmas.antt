-- Laws of the address space: what was written is read, and an object's birth stays inside its rounded size.
use Rattle.std.proofs.Common.{◌≡◌, ◌≢◌, ℕ, zero, suc, ◌+◌, ◌-◌, ◌/◌, ◌%◌, ◌<◌, ◌≤◌, Bool, true, false, ◌&&◌, List, length, Option, Some, None, refl, sym, ◌∙◌, ap, subst, arith, replicate}
use Rattle.std.specs.Prelude.{slice_get, nat_lt, if◌then◌else◌, ◌==◌, Result, Ok, Err}
use Rattle.std.proofs.lemmas.Bool.Decides.{nat_tests}
use Rattle.std.proofs.lemmas.List.{length-replicate}
use Rattle.std.proofs.lemmas.Option.{slice_get_within}
use Rattle.hw_base.specs.AddressMap.{rounded_size, granule_of}
use Rattle.hw_base.specs.TaggedAddress.{address_of}
use Rattle.hw_shadow.specs.ObjectTags.{object_tags}
use Rattle.hw_shadow.proofs.ObjectTagLemmas.{length-object_tags}
use Rattle.tbi_memory.specs.declared.mem_fault.MemFault.{MemFault}
use Rattle.tbi_memory.specs.MappedBytes.{Range, byte_at, set_byte, write}
use Rattle.tbi_memory.specs.AddressSpace.{AddressSpace, read, meets_constants, refused_write, write_fault, with_bytes, written}
use Rattle.tbi_memory.specs.ObjectMemory.{with_fresh_object}
use Rattle.tbi_memory.proofs.MappedBytesLemmas.{byte_at-set_other, write_below, write_above, write_inside, read_bytes-same, read_bytes-mapped}

-- a write that isn't refused
written_on : Option MemFault → AddressSpace → Result AddressSpace MemFault
written_on o space = elim o [ Some fault ↦ Err fault | None ↦ Ok space ]

written_on-ok : (o : Option MemFault) (space after : AddressSpace) → written_on o space ≡ Ok after → (o ≡ None) × (after ≡ space)
unfolding written_on
written_on-ok None space after h = (refl, cc)
written_on-ok (Some fault) space after h = cc

refused-none : (t : Bool) (r : Result (List ℕ) MemFault) → refused_write t r ≡ None → (old : List ℕ) × (r ≡ Ok old)
refused-none t (Ok old) h = (old, refl)
refused-none t (Err fault) h = cc

-- after a write that isn't refused, its bytes were mapped and are written
pub written-ok : (space after : AddressSpace) (number : ℕ) (bytes : List ℕ) → written space number bytes ≡ Ok after → (old : List ℕ) × (read space number (length bytes) ≡ Ok old) × (after ≡ with_bytes space (address_of number) bytes)
unfolding written written_on
written-ok space after number bytes h =
    let parts = written_on-ok (write_fault space number (length bytes)) (with_bytes space (address_of number) bytes) after h in
    let (old, mapped) = refused-none (meets_constants space (address_of number) (length bytes)) (read space number (length bytes)) parts.0 in
    (old, mapped, parts.1)

-- bytes that are mapped and not a constant's are written
pub written-by : (space : AddressSpace) (number : ℕ) (bytes old : List ℕ) → meets_constants space (address_of number) (length bytes) ≡ false
    → read space number (length bytes) ≡ Ok old → written space number bytes ≡ Ok (with_bytes space (address_of number) bytes)
unfolding written written_on
written-by space number bytes old apart mapped =
    ap (λ (t : Bool). written_on (refused_write t (read space number (length bytes))) (with_bytes space (address_of number) bytes)) apart
    ∙ ap (λ (r : Result (List ℕ) MemFault). written_on (refused_write false r) (with_bytes space (address_of number) bytes)) mapped

-- what isn't refused is written
pub written-none : (space : AddressSpace) (number n : ℕ) (bytes : List ℕ) → length bytes ≡ n → write_fault space number n ≡ None
    → written space number bytes ≡ Ok (with_bytes space (address_of number) bytes)
unfolding written written_on
written-none space number n bytes count none =
    ap (λ (o : Option MemFault). written_on o (with_bytes space (address_of number) bytes)) (ap (write_fault space number) count ∙ none)

-- and what is refused isn't
pub written-some : (space : AddressSpace) (number n : ℕ) (bytes : List ℕ) (fault : MemFault) → length bytes ≡ n → write_fault space number n ≡ Some fault
    → written space number bytes ≡ Err fault
unfolding written written_on
written-some space number n bytes fault count some =
    ap (λ (o : Option MemFault). written_on o (with_bytes space (address_of number) bytes)) (ap (write_fault space number) count ∙ some)

and-second : (s t u : Bool) → t ≡ false → (s && t && u) ≡ false
and-second true t u e = ap (λ (b : Bool). b && u) e
and-second false t u e = refl

-- bytes after the constants meet none
pub meets-none : (space : AddressSpace) (a n : ℕ) → space.constants_end ≤ a → meets_constants space a n ≡ false
meets-none space a n past =
    let test : nat_lt a space.constants_end ≡ false = grind (arith, nat_tests) in
    and-second (nat_lt 0 n) (nat_lt a space.constants_end) (nat_lt space.constants_at (a + n)) test

-- what was written is read
pub read-written : (space after : AddressSpace) (number : ℕ) (bytes : List ℕ) → written space number bytes ≡ Ok after → read after number (length bytes) ≡ Ok bytes
read-written space after number bytes h =
    let (old, mapped, same) = written-ok space after number bytes h in
    let there : read (with_bytes space (address_of number) bytes) number (length bytes) ≡ Ok bytes =
    read_bytes-same (write space.bytes (address_of number) bytes) (address_of number) bytes
    (λ (i v : ℕ) (e : slice_get bytes i ≡ Some v).
    let (was, here) = read_bytes-mapped space.bytes (address_of number) (length bytes) old mapped i (slice_get_within bytes i v e) in
    write_inside space.bytes (address_of number) bytes i was v here e) in
    subst (λ (s : AddressSpace). read s number (length bytes) ≡ Ok bytes) (sym same) there

-- the last byte of a short granule lies inside the rounded size
last_byte-other : (ranges : List Range) (place size tag b : ℕ) (t : Bool) → b ≢ place + rounded_size size - 1 → byte_at (if t then ranges else set_byte ranges (place + rounded_size size - 1) tag) b ≡ byte_at ranges b
last_byte-other ranges place size tag b true h = refl
last_byte-other ranges place size tag b false h = byte_at-set_other ranges (place + rounded_size size - 1) b tag h

rounded-least : (size : ℕ) → 1 ≤ rounded_size size
rounded-least zero = omega arith
rounded-least (suc n) = omega arith

pub fresh-bytes_below : (space : AddressSpace) (place size tag b : ℕ) → b < place → byte_at (with_fresh_object space place size tag).bytes b ≡ byte_at space.bytes b
fresh-bytes_below space place size tag b h =
    let some = rounded-least size in
    last_byte-other (write space.bytes place (replicate (rounded_size size) 0)) place size tag b (size % 16 == 0) (λ e. omega arith)
    ∙ write_below space.bytes place (replicate (rounded_size size) 0) b h

pub fresh-bytes_above : (space : AddressSpace) (place size tag b : ℕ) → place + rounded_size size ≤ b → byte_at (with_fresh_object space place size tag).bytes b ≡ byte_at space.bytes b
fresh-bytes_above space place size tag b h =
    let some = rounded-least size in
    last_byte-other (write space.bytes place (replicate (rounded_size size) 0)) place size tag b (size % 16 == 0) (λ e. omega arith)
    ∙ write_above space.bytes place (replicate (rounded_size size) 0) b (omega (arith, length-replicate {A = ℕ} (rounded_size size) 0))

pub fresh-tags_above : (space : AddressSpace) (place size tag g : ℕ) → granule_of place + rounded_size size / 16 ≤ g → byte_at (with_fresh_object space place size tag).shadow g ≡ byte_at space.shadow g
fresh-tags_above space place size tag g h = write_above space.shadow (granule_of place) (object_tags size tag) g (omega (arith, length-object_tags size tag))
