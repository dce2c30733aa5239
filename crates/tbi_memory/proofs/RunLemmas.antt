-- Runs of bytes over the border of two ranges: how far memory is mapped, and what is read.
use Rattle.std.proofs.Common.{◌≡◌, ℕ, zero, suc, ◌+◌, ◌-◌, ◌*◌, ◌^◌, ◌<◌, ◌≤◌, Bool, true, false, ◌&&◌, List, [], ◌∷◌, length, Option, Some, None, is_some, refl, sym, ◌∙◌, ap, inl, inr, arith, pow-suc}
use Rattle.std.specs.Prelude.{◌⊎◌, nat_le, unwrap_or, is_ok, Result, Ok, Err}
use Rattle.std.specs.Option.{option_or}
use Rattle.std.proofs.lemmas.Bool.{cases_Bool, cases_lt, cases_eq, cond-true, cond-false}
use Rattle.std.proofs.lemmas.Bool.Decides.{nat_tests}
use Rattle.std.proofs.lemmas.Option.{slice_get-get_or}
use Rattle.std.proofs.Math.Pow.{pow_mono}
use Rattle.hw_base.proofs.ByteLaws.{pow-256}
use Rattle.hw_base.specs.Bytes.{le_number}
use Rattle.tbi_memory.specs.declared.mem_fault.MemFault.{MemFault}
use Rattle.tbi_memory.specs.declared.mem_fault.MemFault.TheVariants.{Unmapped}
use Rattle.tbi_memory.specs.MappedBytes.{Range, byte_in, byte_at, after_byte, read_bytes}
use Rattle.tbi_memory.specs.MemoryParts.{lie_in, past_range, bytes_or_zeros}
use Rattle.tbi_memory.proofs.MappedBytesLemmas.{read_on, read_bytes-suc, read_on-some}
use Rattle.tbi_memory.proofs.RangeLemmas.{BeginAfter, AreRising, lie_in-true, byte_at-cons, byte_in-past, byte_in-before, byte_in-inside}

-- the first address that isn't mapped, of ranges that follow each other
abbrev pub past_ranges : List Range → ℕ → ℕ
past_ranges [] address = address
past_ranges (range ∷ ranges) address = past_ranges ranges (past_range range address)

and-false : (s t : Bool) → (s && t) ≡ false → (s ≡ false) ⊎ (t ≡ false)
and-false true t e = inr e
and-false false t e = inl refl

lie_in-false : (r : Range) (a : ℕ) → lie_in r a 1 ≡ false → (a < r.at) ⊎ (r.at + length r.bytes ≤ a)
lie_in-false r a e =
    elim (and-false (nat_le r.at a) (nat_le (a + 1) (r.at + length r.bytes)) e) [
      | inl low ↦ inl (grind (arith, nat_tests))
      | inr high ↦ inr (grind (arith, nat_tests))
    ]

past_range-in : (r : Range) (a : ℕ) → lie_in r a 1 ≡ true → past_range r a ≡ r.at + length r.bytes
past_range-in r a e = cond-true (lie_in r a 1) (r.at + length r.bytes) a e

past_range-out : (r : Range) (a : ℕ) → lie_in r a 1 ≡ false → past_range r a ≡ a
past_range-out r a e = cond-false (lie_in r a 1) (r.at + length r.bytes) a e

past_range-not_below : (r : Range) (a : ℕ) → a ≤ past_range r a
past_range-not_below r a =
    elim (cases_Bool (lie_in r a 1)) [
      | inl inside ↦ let (low, high) = lie_in-true r a 1 inside in omega (arith, past_range-in r a inside, high)
      | inr outside ↦ omega (arith, past_range-out r a outside)
    ]

pub past_ranges-not_below : (ranges : List Range) (a : ℕ) → a ≤ past_ranges ranges a
past_ranges-not_below [] a = omega arith
past_ranges-not_below (r ∷ ranges) a = omega (arith, past_range-not_below r a, past_ranges-not_below ranges (past_range r a))

past_ranges-before : (ranges : List Range) (e a : ℕ) → BeginAfter e ranges → a < e → past_ranges ranges a ≡ a
past_ranges-before [] e a begins less = refl
past_ranges-before (r ∷ ranges) e a begins less =
    let outside : past_range r a ≡ a =
    elim (cases_Bool (lie_in r a 1)) [
      | inl inside ↦ let (low, high) = lie_in-true r a 1 inside in absurd (omega (arith, low, begins.0, less))
      | inr out ↦ past_range-out r a out
    ] in
    ap (past_ranges ranges) outside ∙ past_ranges-before ranges e a begins.1 less

or-second : (o p : Option ℕ) → is_some p ≡ true → is_some (option_or o p) ≡ true
or-second None p e = e
or-second (Some x) p e = refl

-- all before it is mapped
pub mapped_until : (ranges : List Range) (a x : ℕ) → a ≤ x → x < past_ranges ranges a → is_some (byte_at ranges x) ≡ true
mapped_until [] a x low high = absurd (omega (arith, low, high))
mapped_until (r ∷ ranges) a x low high =
    elim (cases_Bool (lie_in r a 1)) [
      | inl inside ↦
          let (from, to) = lie_in-true r a 1 inside in
          elim (cases_lt x (r.at + length r.bytes)) [
            | inl below ↦
                let here : byte_in r x ≡ Some _ = byte_in-inside r x (omega (arith, from, low)) ∙ slice_get-get_or r.bytes (x - r.at) 0 (omega (arith, from, low, below)) in
                ap is_some (byte_at-cons r ranges x ∙ ap (λ (o : Option ℕ). option_or o (byte_at ranges x)) here)
            | inr past ↦
                let rest : is_some (byte_at ranges x) ≡ true = mapped_until ranges (r.at + length r.bytes) x past (rw (past_range-in r a inside) at high) in
                ap is_some (byte_at-cons r ranges x) ∙ or-second (byte_in r x) (byte_at ranges x) rest
          ]
      | inr outside ↦
          let rest : is_some (byte_at ranges x) ≡ true = mapped_until ranges a x low (rw (past_range-out r a outside) at high) in
          ap is_some (byte_at-cons r ranges x) ∙ or-second (byte_in r x) (byte_at ranges x) rest
    ]

-- and it isn't
pub unmapped_there : (ranges : List Range) (a : ℕ) → AreRising ranges → byte_at ranges (past_ranges ranges a) ≡ None
unfolding byte_at
unmapped_there [] a rising = refl
unmapped_there (r ∷ ranges) a rising =
    let e : ℕ = past_ranges ranges (past_range r a) in
    let rest : byte_at ranges e ≡ None = unmapped_there ranges (past_range r a) rising.1 in
    let later : past_range r a ≤ e = past_ranges-not_below ranges (past_range r a) in
    let here : byte_in r e ≡ None =
    elim (cases_Bool (lie_in r a 1)) [
      | inl inside ↦ byte_in-past r e (omega (arith, later, past_range-in r a inside))
      | inr outside ↦
          elim (lie_in-false r a outside) [
            | inl before ↦
                let same : e ≡ a = ap (past_ranges ranges) (past_range-out r a outside) ∙ past_ranges-before ranges (r.at + length r.bytes) a rising.0 (omega (arith, before)) in
                byte_in-before r e (omega (arith, same, before))
            | inr past ↦ byte_in-past r e (omega (arith, later, past_range-out r a outside, past))
          ]
    ] in
    ap (λ (o : Option ℕ). option_or o (byte_at ranges e)) here ∙ rest

some_of : (o : Option ℕ) → is_some o ≡ true → o ≡ Some (unwrap_or o 0)
some_of None e = cc
some_of (Some x) e = refl

-- mapped bytes are read
pub read_bytes-mapped_all : (ranges : List Range) (a n : ℕ) → ((x : ℕ) → a ≤ x → x < a + n → is_some (byte_at ranges x) ≡ true) → read_bytes ranges a n ≡ Ok (bytes_or_zeros ranges a n)
unfolding read_bytes bytes_or_zeros
read_bytes-mapped_all ranges a zero all = refl
read_bytes-mapped_all ranges a (suc n) all =
    let here : byte_at ranges a ≡ Some (unwrap_or (byte_at ranges a) 0) = some_of (byte_at ranges a) (all a (omega arith) (omega arith)) in
    let rest : read_bytes ranges (a + 1) n ≡ Ok (bytes_or_zeros ranges (a + 1) n) = read_bytes-mapped_all ranges (a + 1) n (λ (x : ℕ) (low : a + 1 ≤ x) (high : x < a + 1 + n). all x (omega (arith, low)) (omega (arith, high))) in
    read_bytes-suc ranges a n
    ∙ read_on-some (byte_at ranges a) a (unwrap_or (byte_at ranges a) 0) (read_bytes ranges (a + 1) n) here
    ∙ ap (after_byte (unwrap_or (byte_at ranges a) 0)) rest

-- the first byte that isn't mapped is the fault
pub read_bytes-fault : (ranges : List Range) (a n e : ℕ) → a ≤ e → e < a + n → ((x : ℕ) → a ≤ x → x < e → is_some (byte_at ranges x) ≡ true) → byte_at ranges e ≡ None
    → read_bytes ranges a n ≡ Err (Unmapped e)
unfolding read_on
read_bytes-fault ranges a zero e low high all none = absurd (omega (arith, low, high))
read_bytes-fault ranges a (suc n) e low high all none =
    elim (cases_eq a e) [
      | inl same ↦
          read_bytes-suc ranges a n
          ∙ ap (λ (o : Option ℕ). read_on o a (read_bytes ranges (a + 1) n)) (ap (byte_at ranges) same ∙ none)
          ∙ ap (λ (k : ℕ). Err (Unmapped k)) same
      | inr other ↦
          let less : a < e = omega (arith, low, other) in
          let here : byte_at ranges a ≡ Some (unwrap_or (byte_at ranges a) 0) = some_of (byte_at ranges a) (all a (omega arith) less) in
          let rest : read_bytes ranges (a + 1) n ≡ Err (Unmapped e) = read_bytes-fault ranges (a + 1) n e (omega (arith, less)) (omega (arith, high)) (λ (x : ℕ) (from : a + 1 ≤ x) (to : x < e). all x (omega (arith, from)) to) none in
          read_bytes-suc ranges a n
          ∙ read_on-some (byte_at ranges a) a (unwrap_or (byte_at ranges a) 0) (read_bytes ranges (a + 1) n) here
          ∙ ap (after_byte (unwrap_or (byte_at ranges a) 0)) rest
    ]

-- a read, by how far memory is mapped
pub read_bytes-until : (ranges : List Range) (a n : ℕ) → n ≤ past_ranges ranges a - a → read_bytes ranges a n ≡ Ok (bytes_or_zeros ranges a n)
read_bytes-until ranges a n far =
    let low : a ≤ past_ranges ranges a = past_ranges-not_below ranges a in
    read_bytes-mapped_all ranges a n (λ (x : ℕ) (from : a ≤ x) (to : x < a + n). mapped_until ranges a x from (omega (arith, low, far, to)))

pub read_bytes-past : (ranges : List Range) (a n : ℕ) → AreRising ranges → past_ranges ranges a - a < n → read_bytes ranges a n ≡ Err (Unmapped (past_ranges ranges a))
read_bytes-past ranges a n rising near =
    let low : a ≤ past_ranges ranges a = past_ranges-not_below ranges a in
    read_bytes-fault ranges a n (past_ranges ranges a) low (omega (arith, low, near)) (mapped_until ranges a) (unmapped_there ranges a rising)

-- whether bytes are read
pub is_ok-by : (result : Result (List ℕ) MemFault) (n far until : ℕ) (bytes : List ℕ) → (n ≤ far → result ≡ Ok bytes) → (far < n → result ≡ Err (Unmapped until)) → nat_le n far ≡ is_ok result
is_ok-by result n far until bytes ok err =
    elim (cases_lt far n) [
      | inl past ↦
          let test : nat_le n far ≡ false = grind (arith, nat_tests) in
          test ∙ sym (ap is_ok (err past))
      | inr inside ↦
          let test : nat_le n far ≡ true = grind (arith, nat_tests) in
          test ∙ sym (ap is_ok (ok inside))
    ]

-- a number's bytes taken from the last one down
pub bytes_or_zeros-more : (ranges : List Range) (a n i byte : ℕ) → 0 < i → i ≤ n → byte ≡ unwrap_or (byte_at ranges (a + (i - 1))) 0
    → bytes_or_zeros ranges (a + (i - 1)) (n - (i - 1)) ≡ byte ∷ bytes_or_zeros ranges (a + i) (n - i)
unfolding bytes_or_zeros
bytes_or_zeros-more ranges a n i byte some inside e =
    let count : n - (i - 1) ≡ suc (n - i) = omega (arith, some, inside) in
    let next : a + (i - 1) + 1 ≡ a + i = omega (arith, some) in
    ap (bytes_or_zeros ranges (a + (i - 1))) count
    ∙ ap (λ (x : ℕ). x ∷ bytes_or_zeros ranges (a + (i - 1) + 1) (n - i)) (sym e)
    ∙ ap (λ (k : ℕ). byte ∷ bytes_or_zeros ranges k (n - i)) next

pub number-more : (ranges : List Range) (a n i byte value : ℕ) → 0 < i → i ≤ n → byte ≡ unwrap_or (byte_at ranges (a + (i - 1))) 0
    → value ≡ le_number (bytes_or_zeros ranges (a + i) (n - i)) → value * 256 + byte ≡ le_number (bytes_or_zeros ranges (a + (i - 1)) (n - (i - 1)))
unfolding le_number
number-more ranges a n i byte value some inside e so_far =
    let parts : le_number (bytes_or_zeros ranges (a + (i - 1)) (n - (i - 1))) ≡ byte + 256 * le_number (bytes_or_zeros ranges (a + i) (n - i)) = ap le_number (bytes_or_zeros-more ranges a n i byte some inside e) in
    omega (arith, parts, so_far)

pub number-none : (ranges : List Range) (a n : ℕ) → 0 ≡ le_number (bytes_or_zeros ranges (a + n) (n - n))
unfolding bytes_or_zeros le_number
number-none ranges a n = let none : 0 ≡ n - n = omega arith in ap (λ (k : ℕ). le_number (bytes_or_zeros ranges (a + n) k)) none

-- how large the number has become
pub below-none : (n : ℕ) → 0 < 256 ^ (n - n)
below-none n = let none : n - n ≡ 0 = omega arith in rw none (omega arith)

pub below-more : (n i value byte : ℕ) → 0 < i → i ≤ n → byte < 256 → value < 256 ^ (n - i) → value * 256 + byte < 256 ^ (n - (i - 1))
below-more n i value byte some inside small below =
    let next : n - (i - 1) ≡ suc (n - i) = omega (arith, some, inside) in
    let e : 256 ^ (n - (i - 1)) ≡ 256 ^ (n - i) * 256 = ap (λ (k : ℕ). 256 ^ k) next ∙ pow-suc 256 (n - i) in
    rw e (omega (arith, below, small))

pub below-most : (n i value byte : ℕ) → 0 < i → i ≤ n → n ≤ 16 → byte < 256 → value < 256 ^ (n - i) → value * 256 + byte < 2 ^ 128
below-most n i value byte some inside few small below =
    let more : value * 256 + byte < 256 ^ (n - (i - 1)) = below-more n i value byte some inside small below in
    let e : 256 ^ (n - (i - 1)) ≡ 2 ^ (8 * (n - (i - 1))) = pow-256 (n - (i - 1)) in
    let bits : 8 * (n - (i - 1)) ≤ 128 = omega (arith, few) in
    let most : 2 ^ (8 * (n - (i - 1))) ≤ 2 ^ 128 = pow_mono bits in
    omega (arith, e, most, more)

pub below-all : (n i value : ℕ) → i ≤ 0 → value < 256 ^ (n - i) → value < 2 ^ (8 * n)
below-all n i value first below =
    let all : n - i ≡ n = omega (arith, first) in
    let e : 256 ^ (n - i) ≡ 2 ^ (8 * n) = ap (λ (k : ℕ). 256 ^ k) all ∙ pow-256 n in
    omega (arith, e, below)
