-- The length of a string, and of one that passes its check, byte by byte and run by run.
use Rattle.std.proofs.Common.{◌≡◌, ℕ, zero, suc, ◌+◌, ◌-◌, ◌^◌, ◌<◌, ◌≤◌, ◌≢◌, Bool, true, false, List, [], ◌∷◌, length, get_or, Option, Some, None, refl, sym, ◌∙◌, ap, subst, inl, inr, arith}
use Rattle.std.specs.Prelude.{◌==◌, Result, Ok, Err}
use Rattle.std.proofs.lemmas.Bool.{cases_eq}
use Rattle.std.proofs.lemmas.Bool.Decides.{nat_tests}
use Rattle.memchr.specs.Find.{Nowhere, Passes, is_byte}
use Rattle.hw_base.specs.TaggedAddress.{address_of}
use Rattle.hw_shadow.specs.declared.mismatch.Mismatch.{Mismatch}
use Rattle.tbi_memory.specs.declared.mem_fault.MemFault.{MemFault}
use Rattle.tbi_memory.specs.declared.mem_fault.MemFault.TheVariants.{Unmapped}
use Rattle.tbi_memory.specs.MappedBytes.{Range, byte_at, after_byte, read_bytes}
use Rattle.tbi_memory.specs.AddressSpace.{AddressSpace, check}
use Rattle.tbi_memory.specs.MemoryParts.{passed_unless}
use Rattle.tbi_memory.proofs.MappedBytesLemmas.{read_on, read_bytes-suc}
use Rattle.ir_lib.specs.declared.string_fault.StringFault.{StringFault}
use Rattle.ir_lib.specs.Calls.{length_of}
use Rattle.ir_lib.specs.Strings.{next_byte, mapped_end, scan_bound, string_from, string_at, unmapped_at, after_checked, checked_from, checked_string}
use Rattle.ir_lib.proofs.ScanLemmas.{mapped-below}
use Rattle.ir_lib.proofs.StringLemmas.{string_on, string_end, string_from-suc, checked_on, checked_end, checked_from-suc}

-- ---- lengths

-- a length with so many bytes before it
abbrev pub longer : {E : Type 0} → ℕ → Result ℕ E → Result ℕ E
longer k (Ok n) = Ok (k + n)
longer k (Err fault) = Err fault

pub longer-zero : {E : Type 0} → (r : Result ℕ E) → longer 0 r ≡ r
longer-zero (Ok n) = ap Ok (omega arith)
longer-zero (Err fault) = refl

pub longer-longer : {E : Type 0} → (j k : ℕ) (r : Result ℕ E) → longer j (longer k r) ≡ longer (j + k) r
longer-longer j k (Ok n) = ap Ok (omega arith)
longer-longer j k (Err fault) = refl

pub longer-ok : {E : Type 0} → (r : Result ℕ E) (n : ℕ) → longer 1 r ≡ Ok (suc n) → r ≡ Ok n
longer-ok (Ok m) n h = let e : 1 + m ≡ suc n = cc in ap Ok (omega (arith, e))
longer-ok (Err fault) n h = absurd (cc)

after_byte-length : (byte : ℕ) (r : Result (List ℕ) MemFault) → length_of (after_byte byte r) ≡ longer 1 (length_of r)
after_byte-length byte (Ok bytes) = let one : suc (length bytes) ≡ 1 + length bytes = omega arith in ap Ok one
after_byte-length byte (Err fault) = refl

after_checked-length : (byte : ℕ) (r : Result (List ℕ) StringFault) → length_of (after_checked byte r) ≡ longer 1 (length_of r)
after_checked-length byte (Ok bytes) = let one : suc (length bytes) ≡ 1 + length bytes = omega arith in ap Ok one
after_checked-length byte (Err fault) = refl

-- ---- numbers

-- the number of a byte further on, in the same space of addresses
pub next-fits : (v k : ℕ) → v < 2 ^ 64 → address_of v + k < 2 ^ 56 → v + k < 2 ^ 64
next-fits v k fits inside = omega arith

pub next-address_of : (v k : ℕ) → v < 2 ^ 64 → address_of v + k < 2 ^ 56 → address_of (v + k) ≡ address_of v + k
next-address_of v k fits inside = omega arith

next-number : (v : ℕ) → v < 2 ^ 64 → address_of v + 1 < 2 ^ 56 → next_byte v ≡ v + 1
next-number v fits inside = let more = next-fits v 1 fits inside in omega (arith, more)

-- the steps that are left after a mapped byte
scan-steps : (end a b : ℕ) → a < end → b ≡ a + 1 → end - a ≡ end - b + 1
scan-steps end a b below next = omega arith

-- ---- what is read

read_on-cons : (o : Option ℕ) (a b : ℕ) (rest : Result (List ℕ) MemFault) (bytes : List ℕ) → read_on o a rest ≡ Ok (b ∷ bytes) → (o ≡ Some b) × (rest ≡ Ok bytes)
unfolding read_on
read_on-cons None a b rest bytes h = absurd (cc)
read_on-cons (Some x) a b (Ok more) bytes h = let e : x ∷ more ≡ b ∷ bytes = cc in (cc, cc)
read_on-cons (Some x) a b (Err fault) bytes h = absurd (cc)

pub read-cons : (ranges : List Range) (a b : ℕ) (bytes : List ℕ) → read_bytes ranges a (suc (length bytes)) ≡ Ok (b ∷ bytes) → (byte_at ranges a ≡ Some b) × (read_bytes ranges (a + 1) (length bytes) ≡ Ok bytes)
read-cons ranges a b bytes h = read_on-cons (byte_at ranges a) a b (read_bytes ranges (a + 1) (length bytes)) bytes (sym (read_bytes-suc ranges a (length bytes)) ∙ h)

pub read-first : (ranges : List Range) (a : ℕ) (bytes : List ℕ) → 0 < length bytes → read_bytes ranges a (length bytes) ≡ Ok bytes → byte_at ranges a ≡ Some (get_or bytes 0 0)
read-first ranges a [] some h = absurd (omega (arith, some))
read-first ranges a (b ∷ bytes) some h = (read-cons ranges a b bytes h).0

-- ---- a string, byte by byte

string_on-some : (o : Option ℕ) (a b : ℕ) (rest : Result (List ℕ) MemFault) → o ≡ Some b → string_on o a rest ≡ string_end (b == 0) b rest
unfolding string_on string_end
string_on-some None a b rest h = absurd (cc)
string_on-some (Some x) a b rest h = let same : x ≡ b = cc in ap (λ (y : ℕ). string_end (y == 0) y rest) same

string_end-other : (b : ℕ) (rest : Result (List ℕ) MemFault) → b ≢ 0 → string_end (b == 0) b rest ≡ after_byte b rest
unfolding string_end
string_end-other b rest other = let e : (b == 0) ≡ false = grind (arith, nat_tests) in ap (λ (t : Bool). string_end t b rest) e

-- what comes after the byte at a number
string_rest : AddressSpace → ℕ → Result (List ℕ) MemFault
string_rest space v = string_from space (mapped_end space.bytes - address_of v) (next_byte v)

string_at-on : (space : AddressSpace) (v : ℕ) → string_at space v ≡ string_on (byte_at space.bytes (address_of v)) (address_of v) (string_rest space v)
unfolding scan_bound string_rest
string_at-on space v =
    let one : mapped_end space.bytes - address_of v + 1 ≡ suc (mapped_end space.bytes - address_of v) = omega arith in
    ap (λ (k : ℕ). string_from space k v) one ∙ string_from-suc space (mapped_end space.bytes - address_of v) v

string_rest-next : (space : AddressSpace) (v b : ℕ) → v < 2 ^ 64 → address_of v + 1 < 2 ^ 56 → byte_at space.bytes (address_of v) ≡ Some b → string_rest space v ≡ string_at space (v + 1)
unfolding scan_bound string_rest
string_rest-next space v b fits inside here =
    let below = mapped-below space.bytes (address_of v) b here in
    let steps : mapped_end space.bytes - address_of v ≡ mapped_end space.bytes - address_of (v + 1) + 1 = scan-steps (mapped_end space.bytes) (address_of v) (address_of (v + 1)) below (next-address_of v 1 fits inside) in
    ap (λ (k : ℕ). string_from space k (next_byte v)) steps
    ∙ ap (λ (n : ℕ). string_from space (mapped_end space.bytes - address_of (v + 1) + 1) n) (next-number v fits inside)

pub length-unmapped : (space : AddressSpace) (v : ℕ) → byte_at space.bytes (address_of v) ≡ None → length_of (string_at space v) ≡ Err (Unmapped (address_of v))
unfolding string_on
length-unmapped space v none = ap length_of (string_at-on space v ∙ ap (λ (o : Option ℕ). string_on o (address_of v) (string_rest space v)) none)

pub length-end : (space : AddressSpace) (v b : ℕ) → byte_at space.bytes (address_of v) ≡ Some b → b ≡ 0 → length_of (string_at space v) ≡ Ok 0
unfolding string_on
length-end space v b here end =
    ap length_of (string_at-on space v ∙ ap (λ (o : Option ℕ). string_on o (address_of v) (string_rest space v)) (here ∙ ap Some end))

pub string-more : (space : AddressSpace) (v b : ℕ) → v < 2 ^ 64 → address_of v + 1 < 2 ^ 56 → byte_at space.bytes (address_of v) ≡ Some b → b ≢ 0
    → string_at space v ≡ after_byte b (string_at space (v + 1))
string-more space v b fits inside here other =
    string_at-on space v
    ∙ string_on-some (byte_at space.bytes (address_of v)) (address_of v) b (string_rest space v) here
    ∙ string_end-other b (string_rest space v) other
    ∙ ap (after_byte b) (string_rest-next space v b fits inside here)

pub length-more : (space : AddressSpace) (v b : ℕ) → v < 2 ^ 64 → address_of v + 1 < 2 ^ 56 → byte_at space.bytes (address_of v) ≡ Some b → b ≢ 0
    → length_of (string_at space v) ≡ longer 1 (length_of (string_at space (v + 1)))
length-more space v b fits inside here other =
    ap length_of (string-more space v b fits inside here other) ∙ after_byte-length b (string_at space (v + 1))

-- ---- a string, run by run

pub length-run : (space : AddressSpace) (run : List ℕ) (v : ℕ) → v < 2 ^ 64 → address_of v + length run < 2 ^ 56 → read_bytes space.bytes (address_of v) (length run) ≡ Ok run
    → ((k : ℕ) → k < length run → get_or run k 0 ≢ 0)
    → length_of (string_at space v) ≡ longer (length run) (length_of (string_at space (v + length run)))
length-run space [] v fits inside h other =
    let same : v ≡ v + 0 = omega arith in
    ap (λ (p : ℕ). length_of (string_at space p)) same ∙ sym (longer-zero (length_of (string_at space (v + 0))))
length-run space (b ∷ run) v fits inside h other =
    let (here, rest) = read-cons space.bytes (address_of v) b run h in
    let one : address_of v + 1 < 2 ^ 56 = omega (arith, inside) in
    let place : address_of (v + 1) ≡ address_of v + 1 = next-address_of v 1 fits one in
    let later : length_of (string_at space (v + 1)) ≡ longer (length run) (length_of (string_at space (v + 1 + length run))) =
    length-run space run (v + 1) (next-fits v 1 fits one) (omega (arith, place, inside)) (ap (λ (a : ℕ). read_bytes space.bytes a (length run)) place ∙ rest)
    (λ (k : ℕ) (less : k < length run). other (suc k) (omega (arith, less))) in
    let end : v + 1 + length run ≡ v + suc (length run) = omega arith in
    let count : 1 + length run ≡ suc (length run) = omega arith in
    length-more space v b fits one here (other 0 (omega arith))
    ∙ ap (longer 1) later
    ∙ longer-longer 1 (length run) (length_of (string_at space (v + 1 + length run)))
    ∙ ap (λ (k : ℕ). longer k (length_of (string_at space (v + 1 + length run)))) count
    ∙ ap (λ (p : ℕ). longer (suc (length run)) (length_of (string_at space p))) end

pub length-found : (space : AddressSpace) (run : List ℕ) (v k : ℕ) → v < 2 ^ 64 → address_of v + length run < 2 ^ 56 → read_bytes space.bytes (address_of v) (length run) ≡ Ok run
    → k < length run → get_or run k 0 ≡ 0 → ((j : ℕ) → j < k → get_or run j 0 ≢ 0)
    → length_of (string_at space v) ≡ Ok k
length-found space [] v k fits inside h less end other = absurd (omega (arith, less))
length-found space (b ∷ run) v zero fits inside h less end other =
    length-end space v b (read-cons space.bytes (address_of v) b run h).0 end
length-found space (b ∷ run) v (suc k) fits inside h less end other =
    let (here, rest) = read-cons space.bytes (address_of v) b run h in
    let one : address_of v + 1 < 2 ^ 56 = omega (arith, inside) in
    let place : address_of (v + 1) ≡ address_of v + 1 = next-address_of v 1 fits one in
    let later : length_of (string_at space (v + 1)) ≡ Ok k =
    length-found space run (v + 1) k (next-fits v 1 fits one) (omega (arith, place, inside)) (ap (λ (a : ℕ). read_bytes space.bytes a (length run)) place ∙ rest) (omega (arith, less)) end
    (λ (j : ℕ) (below : j < k). other (suc j) (omega (arith, below))) in
    let count : 1 + k ≡ suc k = omega arith in
    length-more space v b fits one here (other 0 (omega arith)) ∙ ap (longer 1) later ∙ ap Ok count

-- what a search for a 0 says
is_zero : (x : ℕ) → (x == 0) ≡ true → x ≡ 0
is_zero x e = grind (arith, nat_tests)

zero-is : (x : ℕ) → x ≡ 0 → (x == 0) ≡ true
zero-is x e = grind (arith, nat_tests)

pub no-zero : (run : List ℕ) (n : ℕ) → Nowhere (Passes (is_byte 0) run) 0 n → (k : ℕ) → k < n → get_or run k 0 ≢ 0
no-zero run n nowhere k less e = nowhere k (omega arith) less (zero-is (get_or run k 0) e)

pub at-zero : (run : List ℕ) (k : ℕ) → Passes (is_byte 0) run k → get_or run k 0 ≡ 0
at-zero run k e = is_zero (get_or run k 0) e

-- ---- the check, byte by byte

checked_rest : AddressSpace → ℕ → Result (List ℕ) StringFault
checked_rest space v = checked_from space (mapped_end space.bytes - address_of v) (next_byte v)

checked_string-on : (space : AddressSpace) (v : ℕ) → checked_string space v ≡ checked_on (check space v 1) (byte_at space.bytes (address_of v)) v (checked_rest space v)
unfolding scan_bound checked_rest
checked_string-on space v =
    let one : mapped_end space.bytes - address_of v + 1 ≡ suc (mapped_end space.bytes - address_of v) = omega arith in
    ap (λ (k : ℕ). checked_from space k v) one ∙ checked_from-suc space (mapped_end space.bytes - address_of v) v

checked_rest-next : (space : AddressSpace) (v b : ℕ) → v < 2 ^ 64 → address_of v + 1 < 2 ^ 56 → byte_at space.bytes (address_of v) ≡ Some b → checked_rest space v ≡ checked_string space (v + 1)
unfolding scan_bound checked_rest
checked_rest-next space v b fits inside here =
    let below = mapped-below space.bytes (address_of v) b here in
    let steps : mapped_end space.bytes - address_of v ≡ mapped_end space.bytes - address_of (v + 1) + 1 = scan-steps (mapped_end space.bytes) (address_of v) (address_of (v + 1)) below (next-address_of v 1 fits inside) in
    ap (λ (k : ℕ). checked_from space k (next_byte v)) steps
    ∙ ap (λ (n : ℕ). checked_from space (mapped_end space.bytes - address_of (v + 1) + 1) n) (next-number v fits inside)

checked_on-by : (refused other : Option Mismatch) (o p : Option ℕ) (v : ℕ) (rest : Result (List ℕ) StringFault) → refused ≡ other → o ≡ p → checked_on refused o v rest ≡ checked_on other p v rest
checked_on-by refused other o p v rest e f = ap (λ (r : Option Mismatch). checked_on r o v rest) e ∙ ap (λ (q : Option ℕ). checked_on other q v rest) f

checked_on-other : (b v : ℕ) (rest : Result (List ℕ) StringFault) → b ≢ 0 → checked_on None (Some b) v rest ≡ after_checked b rest
unfolding checked_on checked_end
checked_on-other b v rest other = let e : (b == 0) ≡ false = grind (arith, nat_tests) in ap (λ (t : Bool). checked_end t b rest) e

pub checked-refused : (space : AddressSpace) (v : ℕ) (found : Mismatch) → check space v 1 ≡ Some found → length_of (checked_string space v) ≡ Err (record { at = v; found = found })
unfolding checked_on
checked-refused space v found e = ap length_of (checked_string-on space v ∙ checked_on-by (check space v 1) (Some found) (byte_at space.bytes (address_of v)) (byte_at space.bytes (address_of v)) v (checked_rest space v) e refl)

pub checked-unmapped : (space : AddressSpace) (v : ℕ) → check space v 1 ≡ None → byte_at space.bytes (address_of v) ≡ None → length_of (checked_string space v) ≡ Err (unmapped_at v)
unfolding checked_on
checked-unmapped space v e none = ap length_of (checked_string-on space v ∙ checked_on-by (check space v 1) None (byte_at space.bytes (address_of v)) None v (checked_rest space v) e none)

pub checked-end : (space : AddressSpace) (v b : ℕ) → check space v 1 ≡ None → byte_at space.bytes (address_of v) ≡ Some b → b ≡ 0 → length_of (checked_string space v) ≡ Ok 0
unfolding checked_on
checked-end space v b e here end =
    ap length_of (checked_string-on space v ∙ checked_on-by (check space v 1) None (byte_at space.bytes (address_of v)) (Some 0) v (checked_rest space v) e (here ∙ ap Some end))

pub checked-more : (space : AddressSpace) (v b : ℕ) → v < 2 ^ 64 → address_of v + 1 < 2 ^ 56 → check space v 1 ≡ None → byte_at space.bytes (address_of v) ≡ Some b → b ≢ 0
    → length_of (checked_string space v) ≡ longer 1 (length_of (checked_string space (v + 1)))
checked-more space v b fits inside e here other =
    ap length_of (checked_string-on space v
    ∙ checked_on-by (check space v 1) None (byte_at space.bytes (address_of v)) (Some b) v (checked_rest space v) e here
    ∙ checked_on-other b v (checked_rest space v) other)
    ∙ after_checked-length b (checked_rest space v)
    ∙ ap (λ (r : Result (List ℕ) StringFault). longer 1 (length_of r)) (checked_rest-next space v b fits inside here)

-- ---- a string each byte of which passes

string_on-none : (o : Option ℕ) (a : ℕ) (rest : Result (List ℕ) MemFault) → length_of (string_on o a rest) ≡ Ok 0 → o ≡ Some 0
unfolding string_on string_end
string_on-none None a rest h = absurd (cc)
string_on-none (Some b) a rest h =
    elim (cases_eq b 0) [
      | inl end ↦ ap Some end
      | inr other ↦ absurd (none rest (sym (after_byte-length b rest) ∙ ap length_of (sym (string_end-other b rest other)) ∙ h))
    ]
  where
    none : (r : Result (List ℕ) MemFault) → longer 1 (length_of r) ≡ Ok 0 → ⊥
    none (Ok bytes) e = let e' : 1 + length bytes ≡ 0 = cc in omega (arith, e')
    none (Err fault) e = cc

pub string_on-byte : (o : Option ℕ) (a n : ℕ) (rest : Result (List ℕ) MemFault) → length_of (string_on o a rest) ≡ Ok (suc n) → (b : ℕ) × (o ≡ Some b) × (b ≢ 0)
unfolding string_on string_end
string_on-byte None a n rest h = absurd (cc)
string_on-byte (Some b) a n rest h = (b, refl, λ (end : b ≡ 0). no end)
  where
    no : b ≡ 0 → ⊥
    no end =
        let nothing : Result ℕ MemFault = Ok 0 in
        let e : nothing ≡ Ok (suc n) = ap (λ (x : ℕ). length_of (string_end (x == 0) x rest)) (sym end) ∙ h in
        let e' : 0 ≡ suc n = cc in omega (arith, e')

-- the first byte of a string that has one
pub other-byte : (space : AddressSpace) (v n b : ℕ) → length_of (string_at space v) ≡ Ok (suc n) → byte_at space.bytes (address_of v) ≡ Some b → b ≢ 0
other-byte space v n b h here =
    let (x, there, other) = string_on-byte (byte_at space.bytes (address_of v)) (address_of v) n (string_rest space v) (ap length_of (sym (string_at-on space v)) ∙ h) in
    let same : x ≡ b = cc in
    subst (λ (y : ℕ). y ≢ 0) same other

pub passes-each : (space : AddressSpace) (n v : ℕ) → v < 2 ^ 64 → address_of v + n < 2 ^ 56 → length_of (string_at space v) ≡ Ok n → ((j : ℕ) → j ≤ n → check space (v + j) 1 ≡ None)
    → length_of (checked_string space v) ≡ Ok n
passes-each space zero v fits inside h each =
    let here = string_on-none (byte_at space.bytes (address_of v)) (address_of v) (string_rest space v) (ap length_of (sym (string_at-on space v)) ∙ h) in
    let same : v + 0 ≡ v = omega arith in
    checked-end space v 0 (subst (λ (p : ℕ). check space p 1 ≡ None) same (each 0 (omega arith))) here refl
passes-each space (suc n) v fits inside h each =
    let (b, here, other) = string_on-byte (byte_at space.bytes (address_of v)) (address_of v) n (string_rest space v) (ap length_of (sym (string_at-on space v)) ∙ h) in
    let one : address_of v + 1 < 2 ^ 56 = omega (arith, inside) in
    let place : address_of (v + 1) ≡ address_of v + 1 = next-address_of v 1 fits one in
    let same : v + 0 ≡ v = omega arith in
    let first : check space v 1 ≡ None = subst (λ (p : ℕ). check space p 1 ≡ None) same (each 0 (omega arith)) in
    let rest : length_of (string_at space (v + 1)) ≡ Ok n = longer-ok (length_of (string_at space (v + 1))) n (sym (length-more space v b fits one here other) ∙ h) in
    let later : length_of (checked_string space (v + 1)) ≡ Ok n =
    passes-each space n (v + 1) (next-fits v 1 fits one) (omega (arith, place, inside)) rest
    (λ (j : ℕ) (most : j ≤ n). let moved : v + suc j ≡ v + 1 + j = omega arith in subst (λ (p : ℕ). check space p 1 ≡ None) moved (each (suc j) (omega (arith, most)))) in
    let count : 1 + n ≡ suc n = omega arith in
    checked-more space v b fits one first here other ∙ ap (longer 1) later ∙ ap Ok count

-- ---- steps of the loops

pub is_empty-length : (t : Bool) (n : ℕ) → t ≡ (n == 0) → t ≡ true → n ≡ 0
is_empty-length t n e f = is_zero n (sym e ∙ f)

pub is_empty-some : (t : Bool) (n : ℕ) → t ≡ (n == 0) → t ≡ false → 0 < n
is_empty-some t zero e f = absurd (cc)
is_empty-some t (suc n) e f = omega arith

pub passed-none : (refused : Option Mismatch) (u : Unit {0}) → Ok u ≡ passed_unless refused → refused ≡ None
passed-none None u e = refl
passed-none (Some found) u e = absurd (cc)

pub passed-some : (refused : Option Mismatch) (found : Mismatch) → Err found ≡ passed_unless refused → refused ≡ Some found
passed-some None found e = absurd (cc)
passed-some (Some other) found e = let same : found ≡ other = cc in ap Some (sym same)

pub place-more : (at place k : ℕ) → at ≤ place → place - at + k ≡ place + k - at
place-more at place k from = omega arith

pub more-later : {E : Type 0} → (whole here : Result ℕ E) (at place k : ℕ) (later : Result ℕ E) → at ≤ place → whole ≡ longer (place - at) here → here ≡ longer k later → whole ≡ longer (place + k - at) later
more-later whole here at place k later from to_come step =
    to_come ∙ ap (longer (place - at)) step ∙ longer-longer (place - at) k later ∙ ap (λ (n : ℕ). longer n later) (place-more at place k from)
