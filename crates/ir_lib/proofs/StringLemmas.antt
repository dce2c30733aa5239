-- Laws of strings and of the order of bytes.
use Rattle.std.proofs.Common.{◌≡◌, ℕ, zero, suc, Bool, true, false, List, [], ◌∷◌, Option, Some, None, refl, sym, ◌∙◌, ap, arith}
use Rattle.std.specs.Prelude.{nat_lt, ◌==◌, if◌then◌else◌, Result, Ok, Err}
use Rattle.std.specs.declared.cmp.Ordering.TheVariants.{Less, Equal, Greater}
use Rattle.std.proofs.lemmas.Bool.{cond-false}
use Rattle.std.proofs.lemmas.Bool.Decides.{nat_tests}
use Rattle.hw_base.specs.TaggedAddress.{address_of}
use Rattle.hw_shadow.specs.declared.mismatch.Mismatch.{Mismatch}
use Rattle.tbi_memory.specs.declared.mem_fault.MemFault.{MemFault}
use Rattle.tbi_memory.specs.declared.mem_fault.MemFault.TheVariants.{Unmapped}
use Rattle.tbi_memory.specs.MappedBytes.{byte_at, after_byte}
use Rattle.tbi_memory.specs.AddressSpace.{AddressSpace, check}
use Rattle.ir_lib.specs.declared.string_fault.StringFault.{StringFault}
use Rattle.hw_base.specs.Bytes.{byte_order}
use Rattle.ir_lib.specs.Strings.{next_byte, scan_bound, string_from, string_at, unmapped_at, after_checked, checked_from, checked_string}

pub byte_order-same : (bytes : List ℕ) → byte_order bytes bytes ≡ Equal
unfolding byte_order
byte_order-same [] = refl
byte_order-same (byte ∷ bytes) =
    let no : nat_lt byte byte ≡ false = grind (arith, nat_tests) in
    cond-false (nat_lt byte byte) Less (if nat_lt byte byte then Greater else byte_order bytes bytes) no
    ∙ (cond-false (nat_lt byte byte) Greater (byte_order bytes bytes) no ∙ byte_order-same bytes)

-- a byte of a string, by what is at its address
unfoldable pub string_on : Option ℕ → ℕ → Result (List ℕ) MemFault → Result (List ℕ) MemFault
string_on o address rest = elim o [ None ↦ Err (Unmapped address) | Some byte ↦ elim (byte == 0) [ true ↦ Ok [] | false ↦ after_byte byte rest ] ]

unfoldable pub checked_on : Option Mismatch → Option ℕ → ℕ → Result (List ℕ) StringFault → Result (List ℕ) StringFault
checked_on refused o number rest =
    elim refused [
      | Some found ↦ Err (record { at = number; found = found })
      | None ↦ elim o [ None ↦ Err (unmapped_at number) | Some byte ↦ elim (byte == 0) [ true ↦ Ok [] | false ↦ after_checked byte rest ] ]
    ]

pub string_from-suc : (space : AddressSpace) (steps number : ℕ) → string_from space (suc steps) number ≡ string_on (byte_at space.bytes (address_of number)) (address_of number) (string_from space steps (next_byte number))
unfolding string_from string_on
string_from-suc space steps number = refl

pub checked_from-suc : (space : AddressSpace) (steps number : ℕ) → checked_from space (suc steps) number ≡ checked_on (check space number 1) (byte_at space.bytes (address_of number)) number (checked_from space steps (next_byte number))
unfolding checked_from checked_on
checked_from-suc space steps number = refl

checked_from-zero : (space : AddressSpace) (number : ℕ) → checked_from space zero number ≡ Err (unmapped_at number)
unfolding checked_from
checked_from-zero space number = refl

unfoldable pub string_end : Bool → ℕ → Result (List ℕ) MemFault → Result (List ℕ) MemFault
string_end t byte rest = elim t [ true ↦ Ok [] | false ↦ after_byte byte rest ]

unfoldable pub checked_end : Bool → ℕ → Result (List ℕ) StringFault → Result (List ℕ) StringFault
checked_end t byte rest = elim t [ true ↦ Ok [] | false ↦ after_checked byte rest ]

end-ok : (t : Bool) (byte : ℕ) (bytes : List ℕ) (checked : Result (List ℕ) StringFault) (rest : Result (List ℕ) MemFault) → ((more : List ℕ) → checked ≡ Ok more → rest ≡ Ok more) → checked_end t byte checked ≡ Ok bytes → string_end t byte rest ≡ Ok bytes
unfolding string_end checked_end
end-ok true byte bytes checked rest same h = let e : [] ≡ bytes = cc in ap Ok e
end-ok false byte bytes (Ok more) rest same h = let e : byte ∷ more ≡ bytes = cc in ap (after_byte byte) (same more refl) ∙ ap Ok e
end-ok false byte bytes (Err fault) rest same h = absurd (cc)

on-ok : (refused : Option Mismatch) (o : Option ℕ) (number : ℕ) (bytes : List ℕ) (checked : Result (List ℕ) StringFault) (rest : Result (List ℕ) MemFault) → ((more : List ℕ) → checked ≡ Ok more → rest ≡ Ok more) → checked_on refused o number checked ≡ Ok bytes → string_on o (address_of number) rest ≡ Ok bytes
unfolding string_on checked_on string_end checked_end
on-ok (Some found) o number bytes checked rest same h = absurd (cc)
on-ok None None number bytes checked rest same h = absurd (cc)
on-ok None (Some byte) number bytes checked rest same h = end-ok (byte == 0) byte bytes checked rest same h

pub checked_from-ok : (space : AddressSpace) (steps number : ℕ) (bytes : List ℕ) → checked_from space steps number ≡ Ok bytes → string_from space steps number ≡ Ok bytes
checked_from-ok space zero number bytes h = absurd (let e = checked_from-zero space number in cc)
checked_from-ok space (suc steps) number bytes h =
    string_from-suc space steps number
    ∙ on-ok (check space number 1) (byte_at space.bytes (address_of number)) number bytes (checked_from space steps (next_byte number)) (string_from space steps (next_byte number))
    (λ (more : List ℕ) (e : checked_from space steps (next_byte number) ≡ Ok more). checked_from-ok space steps (next_byte number) more e)
    (sym (checked_from-suc space steps number) ∙ h)

pub checked_string-ok : (space : AddressSpace) (number : ℕ) (bytes : List ℕ) → checked_string space number ≡ Ok bytes → string_at space number ≡ Ok bytes
checked_string-ok space number bytes h = checked_from-ok space (scan_bound space number) number bytes h
