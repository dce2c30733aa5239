-- No scan of a string runs out of its steps.
use Rattle.std.proofs.Common.{◌≡◌, ℕ, zero, suc, ◌+◌, ◌-◌, ◌^◌, ◌<◌, ◌≤◌, Bool, true, false, List, [], ◌∷◌, length, Option, Some, None, refl, sym, ◌∙◌, ap, subst, inl, inr, arith}
use Rattle.std.specs.Prelude.{slice_get, nat_le, ◌==◌, if◌then◌else◌, ◌⊎◌, Result, Ok, Err}
use Rattle.std.specs.Option.{option_or}
use Rattle.std.proofs.lemmas.Bool.{cases_lt}
use Rattle.hw_base.specs.TaggedAddress.{address_of}
use Rattle.hw_shadow.specs.declared.mismatch.Mismatch.{Mismatch}
use Rattle.tbi_memory.specs.declared.mem_fault.MemFault.{MemFault}
use Rattle.tbi_memory.specs.declared.mem_fault.MemFault.TheVariants.{Unmapped}
use Rattle.tbi_memory.specs.MappedBytes.{Range, byte_at, after_byte}
use Rattle.tbi_memory.specs.AddressSpace.{AddressSpace, check}
use Rattle.ir_lib.specs.declared.string_fault.StringFault.{StringFault}
use Rattle.ir_lib.specs.Strings.{next_byte, mapped_end, scan_bound, string_from, string_at, after_checked, checked_from, checked_string}
use Rattle.ir_lib.proofs.StringLemmas.{string_on, string_from-suc, checked_on, checked_from-suc, string_end}

-- ---- nothing is mapped from the end on

get-past : (xs : List ℕ) (i : ℕ) → length xs ≤ i → slice_get xs i ≡ None
get-past [] i h = refl
get-past (x ∷ xs) zero h = absurd (omega arith)
get-past (x ∷ xs) (suc i) h = get-past xs i (omega arith)

byte_in-past : (r : Range) (a : ℕ) (t : Bool) → nat_le r.at a ≡ t → r.at + length r.bytes ≤ a → (if t then slice_get r.bytes (a - r.at) else None) ≡ None
byte_in-past r a false e h = refl
byte_in-past r a true e h = get-past r.bytes (a - r.at) (omega arith)

pub byte_at-past : (ranges : List Range) (a : ℕ) → mapped_end ranges ≤ a → byte_at ranges a ≡ None
unfolding byte_at
byte_at-past [] a h = refl
byte_at-past (r ∷ ranges) a h =
    ap (λ (o : Option ℕ). option_or o (byte_at ranges a)) (byte_in-past r a (nat_le r.at a) refl (omega arith))
    ∙ byte_at-past ranges a (omega arith)

-- what is mapped lies before the end
pub mapped-below : (ranges : List Range) (a byte : ℕ) → byte_at ranges a ≡ Some byte → a < mapped_end ranges
mapped-below ranges a byte h =
    elim (cases_lt a (mapped_end ranges)) [
      | inl below ↦ below
      | inr past ↦ absurd (let none = byte_at-past ranges a past in cc)
    ]

-- the address after a mapped one
next-address : (number end : ℕ) → end < 2 ^ 56 → address_of number < end → address_of (next_byte number) ≡ address_of number + 1
next-address number end small below = omega arith

-- the steps that are left after a mapped byte
fewer : (ranges : List Range) (number steps byte : ℕ) → mapped_end ranges < 2 ^ 56 → byte_at ranges (address_of number) ≡ Some byte → mapped_end ranges - address_of number ≤ suc steps → mapped_end ranges - address_of (next_byte number) ≤ steps
fewer ranges number steps byte small h enough =
    let below = mapped-below ranges (address_of number) byte h in
    let next = next-address number (mapped_end ranges) small below in
    rest (mapped_end ranges) (address_of number) (address_of (next_byte number)) steps next enough
  where
    rest : (end a b steps : ℕ) → b ≡ a + 1 → end - a ≤ suc steps → end - b ≤ steps
    rest end a b steps e enough = omega arith

none-mapped : (ranges : List Range) (number : ℕ) → mapped_end ranges - address_of number ≤ 0 → byte_at ranges (address_of number) ≡ None
none-mapped ranges number enough = byte_at-past ranges (address_of number) (past (mapped_end ranges) (address_of number) enough)
  where
    past : (end a : ℕ) → end - a ≤ 0 → end ≤ a
    past end a h = omega arith

-- ---- reads

-- a byte of a string, when what comes after it is the same
string_on-same : (o : Option ℕ) (a : ℕ) (rest other : Result (List ℕ) MemFault) → ((byte : ℕ) → o ≡ Some byte → rest ≡ other) → string_on o a rest ≡ string_on o a other
unfolding string_on
string_on-same None a rest other h = refl
string_on-same (Some byte) a rest other h = ap (λ (r : Result (List ℕ) MemFault). elim (byte == 0) [ true ↦ Ok [] | false ↦ after_byte byte r ]) (h byte refl)

string_on-none : (o : Option ℕ) (a : ℕ) (rest other : Result (List ℕ) MemFault) → o ≡ None → string_on o a rest ≡ string_on o a other
string_on-none o a rest other e = string_on-same o a rest other (λ (byte : ℕ) (h : o ≡ Some byte). absurd (cc))

string_from-more : (space : AddressSpace) (steps more number : ℕ) → mapped_end space.bytes < 2 ^ 56 → mapped_end space.bytes - address_of number ≤ steps → string_from space (suc (steps + more)) number ≡ string_from space (suc steps) number
string_from-more space zero more number small enough =
    string_from-suc space (zero + more) number
    ∙ (string_on-none (byte_at space.bytes (address_of number)) (address_of number) (string_from space (zero + more) (next_byte number)) (string_from space zero (next_byte number)) (none-mapped space.bytes number enough)
    ∙ sym (string_from-suc space zero number))
string_from-more space (suc steps) more number small enough =
    let same : suc steps + more ≡ suc (steps + more) = omega arith in
    ap (λ (k : ℕ). string_from space (suc k) number) same
    ∙ (string_from-suc space (suc (steps + more)) number
    ∙ (string_on-same (byte_at space.bytes (address_of number)) (address_of number) (string_from space (suc (steps + more)) (next_byte number)) (string_from space (suc steps) (next_byte number))
    (λ (byte : ℕ) (h : byte_at space.bytes (address_of number) ≡ Some byte). string_from-more space steps more (next_byte number) small (fewer space.bytes number steps byte small h enough))
    ∙ sym (string_from-suc space (suc steps) number)))

pub string_at-more : (space : AddressSpace) (number more : ℕ) → mapped_end space.bytes < 2 ^ 56 → string_from space (scan_bound space number + more) number ≡ string_at space number
unfolding scan_bound
string_at-more space number more small =
    let steps = mapped_end space.bytes - address_of number in
    let one : steps + 1 ≡ suc steps = omega arith in
    let all : steps + 1 + more ≡ suc (steps + more) = omega arith in
    ap (λ (k : ℕ). string_from space k number) all
    ∙ (string_from-more space steps more number small (omega arith)
    ∙ ap (λ (k : ℕ). string_from space k number) (sym one))

-- a scan that fails at a byte, or after it
after-failed : (byte : ℕ) (fault : MemFault) (rest : Result (List ℕ) MemFault) → after_byte byte rest ≡ Err fault → rest ≡ Err fault
after-failed byte fault (Ok bytes) h = cc
after-failed byte fault (Err other) h = h

end-failed : (t : Bool) (byte : ℕ) (fault : MemFault) (rest : Result (List ℕ) MemFault) → string_end t byte rest ≡ Err fault → rest ≡ Err fault
unfolding string_end
end-failed true byte fault rest h = cc
end-failed false byte fault rest h = after-failed byte fault rest h

on-failed : (o : Option ℕ) (a address : ℕ) (rest : Result (List ℕ) MemFault) → string_on o a rest ≡ Err (Unmapped address) → ((o ≡ None) × (a ≡ address)) ⊎ ((byte : ℕ) × (o ≡ Some byte) × (rest ≡ Err (Unmapped address)))
unfolding string_on string_end
on-failed None a address rest h = let same : Unmapped a ≡ Unmapped address = cc in inl (refl, cc)
on-failed (Some byte) a address rest h = inr (byte, refl, end-failed (byte == 0) byte (Unmapped address) rest h)

string_from-unmapped : (space : AddressSpace) (steps number address : ℕ) → mapped_end space.bytes < 2 ^ 56 → mapped_end space.bytes - address_of number ≤ steps → string_from space (suc steps) number ≡ Err (Unmapped address) → byte_at space.bytes address ≡ None
string_from-unmapped space zero number address small enough h =
    elim (on-failed (byte_at space.bytes (address_of number)) (address_of number) address (string_from space zero (next_byte number)) (sym (string_from-suc space zero number) ∙ h)) [
      | inl here ↦ subst (λ (a : ℕ). byte_at space.bytes a ≡ None) here.1 here.0
      | inr later ↦ absurd (let none = none-mapped space.bytes number enough in let some = later.1 in cc)
    ]
string_from-unmapped space (suc steps) number address small enough h =
    elim (on-failed (byte_at space.bytes (address_of number)) (address_of number) address (string_from space (suc steps) (next_byte number)) (sym (string_from-suc space (suc steps) number) ∙ h)) [
      | inl here ↦ subst (λ (a : ℕ). byte_at space.bytes a ≡ None) here.1 here.0
      | inr later ↦ string_from-unmapped space steps (next_byte number) address small (fewer space.bytes number steps later.0 small later.1 enough) later.2
    ]

pub string_at-unmapped : (space : AddressSpace) (number address : ℕ) → mapped_end space.bytes < 2 ^ 56 → string_at space number ≡ Err (Unmapped address) → byte_at space.bytes address ≡ None
unfolding scan_bound
string_at-unmapped space number address small h =
    let steps = mapped_end space.bytes - address_of number in
    let one : steps + 1 ≡ suc steps = omega arith in
    string_from-unmapped space steps number address small (omega arith) (ap (λ (k : ℕ). string_from space k number) (sym one) ∙ h)

-- ---- checks

checked_on-same : (refused : Option Mismatch) (o : Option ℕ) (number : ℕ) (rest other : Result (List ℕ) StringFault) → ((byte : ℕ) → o ≡ Some byte → rest ≡ other) → checked_on refused o number rest ≡ checked_on refused o number other
unfolding checked_on
checked_on-same (Some found) o number rest other h = refl
checked_on-same None None number rest other h = refl
checked_on-same None (Some byte) number rest other h = ap (λ (r : Result (List ℕ) StringFault). elim (byte == 0) [ true ↦ Ok [] | false ↦ after_checked byte r ]) (h byte refl)

checked_from-more : (space : AddressSpace) (steps more number : ℕ) → mapped_end space.bytes < 2 ^ 56 → mapped_end space.bytes - address_of number ≤ steps → checked_from space (suc (steps + more)) number ≡ checked_from space (suc steps) number
checked_from-more space zero more number small enough =
    checked_from-suc space (zero + more) number
    ∙ (checked_on-same (check space number 1) (byte_at space.bytes (address_of number)) number (checked_from space (zero + more) (next_byte number)) (checked_from space zero (next_byte number))
    (λ (byte : ℕ) (h : byte_at space.bytes (address_of number) ≡ Some byte). absurd (let none = none-mapped space.bytes number enough in cc))
    ∙ sym (checked_from-suc space zero number))
checked_from-more space (suc steps) more number small enough =
    let same : suc steps + more ≡ suc (steps + more) = omega arith in
    ap (λ (k : ℕ). checked_from space (suc k) number) same
    ∙ (checked_from-suc space (suc (steps + more)) number
    ∙ (checked_on-same (check space number 1) (byte_at space.bytes (address_of number)) number (checked_from space (suc (steps + more)) (next_byte number)) (checked_from space (suc steps) (next_byte number))
    (λ (byte : ℕ) (h : byte_at space.bytes (address_of number) ≡ Some byte). checked_from-more space steps more (next_byte number) small (fewer space.bytes number steps byte small h enough))
    ∙ sym (checked_from-suc space (suc steps) number)))

pub checked_string-more : (space : AddressSpace) (number more : ℕ) → mapped_end space.bytes < 2 ^ 56 → checked_from space (scan_bound space number + more) number ≡ checked_string space number
unfolding scan_bound
checked_string-more space number more small =
    let steps = mapped_end space.bytes - address_of number in
    let one : steps + 1 ≡ suc steps = omega arith in
    let all : steps + 1 + more ≡ suc (steps + more) = omega arith in
    ap (λ (k : ℕ). checked_from space k number) all
    ∙ (checked_from-more space steps more number small (omega arith)
    ∙ ap (λ (k : ℕ). checked_from space k number) (sym one))
