-- Laws of mapped bytes: a write changes its own bytes alone, and maps nothing; what was written is read.
use Rattle.std.proofs.Common.{◌≡◌, ◌≢◌, ℕ, zero, suc, ◌+◌, ◌-◌, ◌<◌, ◌≤◌, Bool, true, false, List, [], ◌∷◌, length, Option, Some, None, is_some, refl, sym, ◌∙◌, ap, subst, inl, inr, arith}
use Rattle.std.specs.Prelude.{slice_get, slice_set, nat_le, if◌then◌else◌, option_map, Result, Ok, Err}
use Rattle.std.specs.Option.{option_or}
use Rattle.std.proofs.lemmas.Bool.{cases_Bool, cases_eq, cond-true, cond-false}
use Rattle.std.proofs.lemmas.Bool.Decides.{nat_tests}
use Rattle.tbi_memory.specs.declared.mem_fault.MemFault.{MemFault}
use Rattle.tbi_memory.specs.declared.mem_fault.MemFault.TheVariants.{Unmapped}
use Rattle.tbi_memory.specs.MappedBytes.{Range, byte_in, byte_at, set_byte, write, after_byte, read_bytes}
use Rattle.tbi_memory.proofs.ListLemmas.{slice_get-set_at, slice_get-set_other}

-- a range after a write of one byte, by whether the range begins at the address or below it
byte_in-set_other : (r : Range) (a b v : ℕ) (t : Bool) → nat_le r.at a ≡ t → b ≢ a → byte_in (if t then record r { bytes = slice_set r.bytes (a - r.at) v } else r) b ≡ byte_in r b
byte_in-set_other r a b v false e h = refl
byte_in-set_other r a b v true e h =
    elim (cases_Bool (nat_le r.at b)) [
      | inl q ↦
          let low : r.at ≤ a = grind (arith, nat_tests) in
          let lower : r.at ≤ b = grind (arith, nat_tests) in
          let apart : b - r.at ≢ a - r.at = λ s. h (omega arith) in
          cond-true (nat_le r.at b) (slice_get (slice_set r.bytes (a - r.at) v) (b - r.at)) None q
          ∙ (slice_get-set_other r.bytes (a - r.at) (b - r.at) v apart ∙ sym (cond-true (nat_le r.at b) (slice_get r.bytes (b - r.at)) None q))
      | inr q ↦
          cond-false (nat_le r.at b) (slice_get (slice_set r.bytes (a - r.at) v) (b - r.at)) None q
          ∙ sym (cond-false (nat_le r.at b) (slice_get r.bytes (b - r.at)) None q)
    ]

byte_in-set_at : (r : Range) (a v : ℕ) (t : Bool) → nat_le r.at a ≡ t → byte_in (if t then record r { bytes = slice_set r.bytes (a - r.at) v } else r) a ≡ option_map (λ _old. v) (byte_in r a)
byte_in-set_at r a v false e =
    cond-false (nat_le r.at a) (slice_get r.bytes (a - r.at)) None e
    ∙ sym (ap (option_map (λ _old. v)) (cond-false (nat_le r.at a) (slice_get r.bytes (a - r.at)) None e))
byte_in-set_at r a v true e =
    cond-true (nat_le r.at a) (slice_get (slice_set r.bytes (a - r.at) v) (a - r.at)) None e
    ∙ (slice_get-set_at r.bytes (a - r.at) v
    ∙ sym (ap (option_map (λ _old. v)) (cond-true (nat_le r.at a) (slice_get r.bytes (a - r.at)) None e)))

or-map : {A B : Type 0} (f : A → B) (o p : Option A) → option_or (option_map f o) (option_map f p) ≡ option_map f (option_or o p)
or-map f None p = refl
or-map f (Some x) p = refl

-- the byte at another address stays
pub byte_at-set_other : (ranges : List Range) (a b v : ℕ) → b ≢ a → byte_at (set_byte ranges a v) b ≡ byte_at ranges b
unfolding byte_at
byte_at-set_other [] a b v h = refl
byte_at-set_other (r ∷ ranges) a b v h =
    ap (λ (o : Option ℕ). option_or o (byte_at (set_byte ranges a v) b)) (byte_in-set_other r a b v (nat_le r.at a) refl h)
    ∙ ap (option_or (byte_in r b)) (byte_at-set_other ranges a b v h)

-- the byte that was set is at its address, if that is mapped
pub byte_at-set_at : (ranges : List Range) (a v : ℕ) → byte_at (set_byte ranges a v) a ≡ option_map (λ _old. v) (byte_at ranges a)
unfolding byte_at
byte_at-set_at [] a v = refl
byte_at-set_at (r ∷ ranges) a v =
    ap (λ (o : Option ℕ). option_or o (byte_at (set_byte ranges a v) a)) (byte_in-set_at r a v (nat_le r.at a) refl)
    ∙ (ap (option_or (option_map (λ _old. v) (byte_in r a))) (byte_at-set_at ranges a v)
    ∙ or-map (λ _old. v) (byte_in r a) (byte_at ranges a))

pub byte_at-set_same : (ranges : List Range) (a old v : ℕ) → byte_at ranges a ≡ Some old → byte_at (set_byte ranges a v) a ≡ Some v
byte_at-set_same ranges a old v h = byte_at-set_at ranges a v ∙ ap (option_map (λ _old. v)) h

is_some-map : (f : ℕ → ℕ) (o : Option ℕ) → is_some (option_map f o) ≡ is_some o
is_some-map f None = refl
is_some-map f (Some x) = refl

pub byte_at-set_some : (ranges : List Range) (a b v : ℕ) → is_some (byte_at (set_byte ranges a v) b) ≡ is_some (byte_at ranges b)
byte_at-set_some ranges a b v =
    elim (cases_eq b a) [
      | inl same ↦
          subst (λ (c : ℕ). is_some (byte_at (set_byte ranges a v) c) ≡ is_some (byte_at ranges c)) (sym same)
          (ap is_some (byte_at-set_at ranges a v) ∙ is_some-map (λ _old. v) (byte_at ranges a))
      | inr other ↦ ap is_some (byte_at-set_other ranges a b v other)
    ]

-- below a write nothing changes
pub write_below : (ranges : List Range) (a : ℕ) (bytes : List ℕ) (b : ℕ) → b < a → byte_at (write ranges a bytes) b ≡ byte_at ranges b
unfolding write
write_below ranges a [] b h = refl
write_below ranges a (v ∷ bytes) b h =
    write_below (set_byte ranges a v) (a + 1) bytes b (omega arith)
    ∙ byte_at-set_other ranges a b v (λ e. omega arith)

-- above a write nothing changes
pub write_above : (ranges : List Range) (a : ℕ) (bytes : List ℕ) (b : ℕ) → a + length bytes ≤ b → byte_at (write ranges a bytes) b ≡ byte_at ranges b
unfolding write
write_above ranges a [] b h = refl
write_above ranges a (v ∷ bytes) b h =
    write_above (set_byte ranges a v) (a + 1) bytes b (omega arith)
    ∙ byte_at-set_other ranges a b v (λ e. omega arith)

-- a byte that was written is there, if it was mapped
pub write_inside : (ranges : List Range) (a : ℕ) (bytes : List ℕ) (i old v : ℕ) → byte_at ranges (a + i) ≡ Some old → slice_get bytes i ≡ Some v → byte_at (write ranges a bytes) (a + i) ≡ Some v
unfolding write
write_inside ranges a [] i old v h e = cc
write_inside ranges a (w ∷ bytes) zero old v h e =
    let same : a + 0 ≡ a = omega arith in
    let here : byte_at ranges a ≡ Some old = subst (λ (b : ℕ). byte_at ranges b ≡ Some old) same h in
    write_below (set_byte ranges a w) (a + 1) bytes (a + 0) (omega arith)
    ∙ (ap (byte_at (set_byte ranges a w)) same ∙ (byte_at-set_same ranges a old w here ∙ e))
write_inside ranges a (w ∷ bytes) (suc i) old v h e =
    let same : a + 1 + i ≡ a + suc i = omega arith in
    let there : byte_at ranges (a + 1 + i) ≡ Some old = subst (λ (b : ℕ). byte_at ranges b ≡ Some old) (sym same) h in
    subst (λ (b : ℕ). byte_at (write (set_byte ranges a w) (a + 1) bytes) b ≡ Some v) same
    (write_inside (set_byte ranges a w) (a + 1) bytes i old v (byte_at-set_other ranges a (a + 1 + i) w (λ s. omega arith) ∙ there) e)

-- a write maps nothing and unmaps nothing
pub write_some : (ranges : List Range) (a : ℕ) (bytes : List ℕ) (b : ℕ) → is_some (byte_at (write ranges a bytes) b) ≡ is_some (byte_at ranges b)
unfolding write
write_some ranges a [] b = refl
write_some ranges a (v ∷ bytes) b = write_some (set_byte ranges a v) (a + 1) bytes b ∙ byte_at-set_some ranges a b v

-- the read of one byte and those after it, by what is at the address
unfoldable pub read_on : Option ℕ → ℕ → Result (List ℕ) MemFault → Result (List ℕ) MemFault
read_on o a rest = elim o [ None ↦ Err (Unmapped a) | Some byte ↦ after_byte byte rest ]

pub read_bytes-suc : (ranges : List Range) (a count : ℕ) → read_bytes ranges a (suc count) ≡ read_on (byte_at ranges a) a (read_bytes ranges (a + 1) count)
unfolding read_bytes read_on
read_bytes-suc ranges a count = refl

pub read_on-some : (o : Option ℕ) (a byte : ℕ) (rest : Result (List ℕ) MemFault) → o ≡ Some byte → read_on o a rest ≡ after_byte byte rest
unfolding read_on
read_on-some None a byte rest h = cc
read_on-some (Some other) a byte rest h = let same : other ≡ byte = cc in ap (λ (b : ℕ). after_byte b rest) same

read_on-ok : (o : Option ℕ) (a : ℕ) (rest : Result (List ℕ) MemFault) (bytes : List ℕ) → read_on o a rest ≡ Ok bytes → (byte : ℕ) × (more : List ℕ) × (o ≡ Some byte) × (rest ≡ Ok more)
unfolding read_on
read_on-ok None a rest bytes h = cc
read_on-ok (Some byte) a (Ok more) bytes h = (byte, more, refl, refl)
read_on-ok (Some byte) a (Err fault) bytes h = cc

-- where these bytes are, they are read
pub read_bytes-same : (ranges : List Range) (a : ℕ) (bytes : List ℕ) → ((i v : ℕ) → slice_get bytes i ≡ Some v → byte_at ranges (a + i) ≡ Some v) → read_bytes ranges a (length bytes) ≡ Ok bytes
unfolding read_bytes
read_bytes-same ranges a [] h = refl
read_bytes-same ranges a (v ∷ bytes) h =
    let same : a + 0 ≡ a = omega arith in
    let here : byte_at ranges a ≡ Some v = subst (λ (b : ℕ). byte_at ranges b ≡ Some v) same (h 0 v refl) in
    let rest = read_bytes-same ranges (a + 1) bytes (λ (i w : ℕ) (e : slice_get bytes i ≡ Some w). let moved : a + suc i ≡ a + 1 + i = omega arith in subst (λ (b : ℕ). byte_at ranges b ≡ Some w) moved (h (suc i) w e)) in
    read_bytes-suc ranges a (length bytes)
    ∙ (read_on-some (byte_at ranges a) a v (read_bytes ranges (a + 1) (length bytes)) here ∙ ap (after_byte v) rest)

-- bytes that are read are mapped
pub read_bytes-mapped : (ranges : List Range) (a count : ℕ) (bytes : List ℕ) → read_bytes ranges a count ≡ Ok bytes → (i : ℕ) → i < count → (old : ℕ) × (byte_at ranges (a + i) ≡ Some old)
read_bytes-mapped ranges a zero bytes h i below = absurd (omega arith)
read_bytes-mapped ranges a (suc count) bytes h zero below =
    let (byte, more, here, rest) = read_on-ok (byte_at ranges a) a (read_bytes ranges (a + 1) count) bytes (sym (read_bytes-suc ranges a count) ∙ h) in
    let same : a ≡ a + 0 = omega arith in
    (byte, subst (λ (b : ℕ). byte_at ranges b ≡ Some byte) same here)
read_bytes-mapped ranges a (suc count) bytes h (suc i) below =
    let (byte, more, here, rest) = read_on-ok (byte_at ranges a) a (read_bytes ranges (a + 1) count) bytes (sym (read_bytes-suc ranges a count) ∙ h) in
    let (old, there) = read_bytes-mapped ranges (a + 1) count more rest i (omega arith) in
    let same : a + 1 + i ≡ a + suc i = omega arith in
    (old, subst (λ (b : ℕ). byte_at ranges b ≡ Some old) same there)
