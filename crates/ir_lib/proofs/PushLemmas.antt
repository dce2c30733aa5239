-- The bytes of a string, added to a list run by run.
use Rattle.std.proofs.Common.{◌≡◌, ℕ, zero, suc, ◌+◌, ◌-◌, ◌^◌, ◌<◌, ◌≤◌, List, [], ◌∷◌, ◌++◌, length, take, None, sym, ◌∙◌, ap, refl, arith}
use Rattle.std.specs.Prelude.{Result, Ok, Err}
use Rattle.std.proofs.lemmas.List.{append-nil, append_assoc}
use Rattle.hw_base.specs.TaggedAddress.{address_of}
use Rattle.tbi_memory.specs.declared.mem_fault.MemFault.{MemFault}
use Rattle.tbi_memory.specs.MappedBytes.{byte_at, after_byte, read_bytes}
use Rattle.tbi_memory.specs.AddressSpace.{AddressSpace}
use Rattle.ir_lib.specs.Calls.{length_of}
use Rattle.ir_lib.specs.Strings.{string_at}
use Rattle.ir_lib.proofs.LengthLemmas.{length-more, length-unmapped, longer-ok, next-address_of, next-fits, other-byte, read-cons, string-more}

-- a list with the bytes of a string after it
abbrev pub pushed : Result (List ℕ) MemFault → List ℕ → Result (List ℕ) MemFault
pushed (Ok bytes) out = Ok (out ++ bytes)
pushed (Err fault) out = Err fault

-- bytes, and a string after them
abbrev after_all : List ℕ → Result (List ℕ) MemFault → Result (List ℕ) MemFault
after_all [] r = r
after_all (byte ∷ bytes) r = after_byte byte (after_all bytes r)

pushed-after_byte : (byte : ℕ) (r : Result (List ℕ) MemFault) (out : List ℕ) → pushed (after_byte byte r) out ≡ pushed r (out ++ byte ∷ [])
pushed-after_byte byte (Ok bytes) out = ap Ok (sym (append_assoc out (byte ∷ []) bytes))
pushed-after_byte byte (Err fault) out = refl

pushed-after_all : (bytes : List ℕ) (r : Result (List ℕ) MemFault) (out : List ℕ) → pushed (after_all bytes r) out ≡ pushed r (out ++ bytes)
pushed-after_all [] r out = ap (pushed r) (sym (append-nil out))
pushed-after_all (byte ∷ bytes) r out =
    pushed-after_byte byte (after_all bytes r) out
    ∙ pushed-after_all bytes r (out ++ byte ∷ [])
    ∙ ap (pushed r) (append_assoc out (byte ∷ []) bytes)

string-take : (space : AddressSpace) (run : List ℕ) (v k left : ℕ) → v < 2 ^ 64 → address_of v + length run < 2 ^ 56 → k ≤ length run → k ≤ left
    → read_bytes space.bytes (address_of v) (length run) ≡ Ok run → length_of (string_at space v) ≡ Ok left
    → (string_at space v ≡ after_all (take k run) (string_at space (v + k))) × (length_of (string_at space (v + k)) ≡ Ok (left - k))
string-take space run v zero left fits inside within most h whole =
    let same : v ≡ v + 0 = omega arith in
    let count : left ≡ left - 0 = omega arith in
    (ap (string_at space) same, ap (λ (p : ℕ). length_of (string_at space p)) (sym same) ∙ whole ∙ ap Ok count)
string-take space [] v (suc k) left fits inside within most h whole = absurd (omega (arith, within))
string-take space (b ∷ run) v (suc k) zero fits inside within most h whole = absurd (omega (arith, most))
string-take space (b ∷ run) v (suc k) (suc left) fits inside within most h whole =
    let (here, rest) = read-cons space.bytes (address_of v) b run h in
    let one : address_of v + 1 < 2 ^ 56 = omega (arith, inside) in
    let place : address_of (v + 1) ≡ address_of v + 1 = next-address_of v 1 fits one in
    let other = other-byte space v left b whole here in
    let fewer : length_of (string_at space (v + 1)) ≡ Ok left = longer-ok (length_of (string_at space (v + 1))) left (sym (length-more space v b fits one here other) ∙ whole) in
    let (later, count) = string-take space run (v + 1) k left (next-fits v 1 fits one) (omega (arith, place, inside)) (omega (arith, within)) (omega (arith, most))
    (ap (λ (a : ℕ). read_bytes space.bytes a (length run)) place ∙ rest) fewer in
    let end : v + 1 + k ≡ v + suc k = omega arith in
    let left_over : left - k ≡ suc left - suc k = omega arith in (
      string-more space v b fits one here other ∙ ap (after_byte b) later ∙ ap (λ (p : ℕ). after_byte b (after_all (take k run) (string_at space p))) end,
      ap (λ (p : ℕ). length_of (string_at space p)) (sym end) ∙ count ∙ ap Ok left_over,
    )

module _ (space : AddressSpace) (run : List ℕ) (v k left : ℕ) (fits : v < 2 ^ 64) (inside : address_of v + length run < 2 ^ 56) (within : k ≤ length run) (most : k ≤ left)
    (here : read_bytes space.bytes (address_of v) (length run) ≡ Ok run) (whole : length_of (string_at space v) ≡ Ok left) where
  pub pushed-left : length_of (string_at space (v + k)) ≡ Ok (left - k)
  pushed-left = (string-take space run v k left fits inside within most here whole).1

  pub pushed-more : (out : List ℕ) → pushed (string_at space (v + k)) (out ++ take k run) ≡ pushed (string_at space v) out
  pushed-more out =
      sym
      (ap (λ (r : Result (List ℕ) MemFault). pushed r out) (string-take space run v k left fits inside within most here whole).0
      ∙ pushed-after_all (take k run) (string_at space (v + k)) out)

-- a string is mapped
pub string-some : (space : AddressSpace) (v left count : ℕ) → (count ≡ 0 → byte_at space.bytes (address_of v) ≡ None) → length_of (string_at space v) ≡ Ok left → 0 < count
string-some space v left zero none whole = absurd (let e = length-unmapped space v (none refl) in cc)
string-some space v left (suc count) none whole = omega arith
