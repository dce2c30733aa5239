-- A run of bytes inside one range, among ranges that don't overlap: it is read and written in that range alone.
use Rattle.std.proofs.Common.{◌≡◌, ℕ, suc, ◌+◌, ◌-◌, ◌<◌, ◌≤◌, Bool, true, false, ◌&&◌, List, [], ◌∷◌, ◌++◌, length, get_or, take, drop, Option, Some, None, refl, sym, ◌∙◌, ap, arith, length-set, length-drop, append_assoc}
use Rattle.std.specs.Prelude.{slice_get, slice_set, nat_le, Ok}
use Rattle.std.specs.Option.{option_or}
use Rattle.std.proofs.lemmas.Bool.{cond-true, cond-false}
use Rattle.std.proofs.lemmas.Bool.Decides.{nat_tests}
use Rattle.std.proofs.lemmas.List.{append-nil, drop-set-lt, get_or-take, get_or-drop, length-take-le, set_past, take-append-drop, take_more_set}
use Rattle.std.proofs.lemmas.Option.{slice_get-get_or, slice_get_past, slice_get_within, get_or_from_slice_get}
use Rattle.hw_region.specs.RegionBytes.{bytes_from, with_bytes_at}
use Rattle.tbi_memory.specs.MappedBytes.{Range, byte_in, byte_at, set_in, set_byte, write, read_bytes}
use Rattle.tbi_memory.specs.MemoryParts.{lie_in}
use Rattle.tbi_memory.proofs.MappedBytesLemmas.{read_bytes-same}

-- each range ends at an address or before it
abbrev pub EndBefore : ℕ → List Range → Type 0
EndBefore a [] = Unit {0}
EndBefore a (r ∷ ranges) = (r.at + length r.bytes ≤ a) × EndBefore a ranges

-- each range begins at an address or after it
abbrev pub BeginAfter : ℕ → List Range → Type 0
BeginAfter a [] = Unit {0}
BeginAfter a (r ∷ ranges) = (a ≤ r.at) × BeginAfter a ranges

-- the ranges follow each other
abbrev pub AreRising : List Range → Type 0
AreRising [] = Unit {0}
AreRising (r ∷ ranges) = BeginAfter (r.at + length r.bytes) ranges × AreRising ranges

pub and-parts : (s t : Bool) → (s && t) ≡ true → (s ≡ true) × (t ≡ true)
and-parts true t e = (refl, e)
and-parts false t e = cc

pub lie_in-true : (r : Range) (a n : ℕ) → lie_in r a n ≡ true → (r.at ≤ a) × (a + n ≤ r.at + length r.bytes)
lie_in-true r a n e =
    let parts = and-parts (nat_le r.at a) (nat_le (a + n) (r.at + length r.bytes)) e in
    let first : nat_le r.at a ≡ true = parts.0 in
    let second : nat_le (a + n) (r.at + length r.bytes) ≡ true = parts.1 in
    (grind (arith, nat_tests), grind (arith, nat_tests))

pub byte_in-past : (r : Range) (a : ℕ) → r.at + length r.bytes ≤ a → byte_in r a ≡ None
byte_in-past r a past =
    let low : nat_le r.at a ≡ true = grind (arith, nat_tests) in
    cond-true (nat_le r.at a) (slice_get r.bytes (a - r.at)) None low ∙ slice_get_past r.bytes (a - r.at) (omega (arith, past))

pub byte_in-before : (r : Range) (a : ℕ) → a < r.at → byte_in r a ≡ None
byte_in-before r a before =
    let high : nat_le r.at a ≡ false = grind (arith, nat_tests) in
    cond-false (nat_le r.at a) (slice_get r.bytes (a - r.at)) None high

pub byte_in-inside : (r : Range) (a : ℕ) → r.at ≤ a → byte_in r a ≡ slice_get r.bytes (a - r.at)
byte_in-inside r a low =
    let test : nat_le r.at a ≡ true = grind (arith, nat_tests) in
    cond-true (nat_le r.at a) (slice_get r.bytes (a - r.at)) None test

or-none : (o : Option ℕ) → option_or o None ≡ o
or-none None = refl
or-none (Some x) = refl

-- ranges that end before an address don't have it
byte_at-after : (before rest : List Range) (e a : ℕ) → EndBefore e before → e ≤ a → byte_at (before ++ rest) a ≡ byte_at rest a
unfolding byte_at
byte_at-after [] rest e a ends past = refl
byte_at-after (r ∷ before) rest e a ends past =
    ap (λ (o : Option ℕ). option_or o (byte_at (before ++ rest) a)) (byte_in-past r a (omega (arith, ends.0, past)))
    ∙ byte_at-after before rest e a ends.1 past

-- nor do those that begin after it
byte_at-before : (after : List Range) (e a : ℕ) → BeginAfter e after → a < e → byte_at after a ≡ None
unfolding byte_at
byte_at-before [] e a begins less = refl
byte_at-before (r ∷ after) e a begins less =
    ap (λ (o : Option ℕ). option_or o (byte_at after a)) (byte_in-before r a (omega (arith, begins.0, less)))
    ∙ byte_at-before after e a begins.1 less

pub byte_at-cons : (r : Range) (ranges : List Range) (a : ℕ) → byte_at (r ∷ ranges) a ≡ option_or (byte_in r a) (byte_at ranges a)
unfolding byte_at
byte_at-cons r ranges a = refl

-- the byte of the range that is between them
pub byte_at-only : (before : List Range) (r : Range) (after : List Range) (e a : ℕ) → EndBefore e before → e ≤ a → BeginAfter (suc a) after
    → byte_at (before ++ r ∷ after) a ≡ byte_in r a
byte_at-only before r after e a ends past begins =
    byte_at-after before (r ∷ after) e a ends past
    ∙ byte_at-cons r after a
    ∙ ap (option_or (byte_in r a)) (byte_at-before after (suc a) a begins (omega arith))
    ∙ or-none (byte_in r a)

-- the byte of a range that has the address
pub byte_at-inside : (before : List Range) (r : Range) (after : List Range) (e a byte : ℕ) → EndBefore e before → e ≤ a → byte_in r a ≡ Some byte
    → byte_at (before ++ r ∷ after) a ≡ Some byte
byte_at-inside before r after e a byte ends past here =
    byte_at-after before (r ∷ after) e a ends past
    ∙ byte_at-cons r after a
    ∙ ap (λ (o : Option ℕ). option_or o (byte_at after a)) here

-- a byte of a run
run_byte : (bytes : List ℕ) (at n i v : ℕ) → at + n ≤ length bytes → slice_get (bytes_from bytes at n) i ≡ Some v → (i < n) × (slice_get bytes (at + i) ≡ Some v)
run_byte bytes at n i v inside e =
    let count : length (bytes_from bytes at n) ≡ n = length-take-le n (drop at bytes) (omega (arith, inside, length-drop at bytes)) in
    let within : i < length (bytes_from bytes at n) = slice_get_within (bytes_from bytes at n) i v e in
    let below : i < n = omega (arith, count, within) in
    let here : get_or (bytes_from bytes at n) i 0 ≡ v = get_or_from_slice_get (bytes_from bytes at n) i v 0 e in
    let there : get_or bytes (at + i) 0 ≡ v = sym (get_or-take n (drop at bytes) i 0 below ∙ get_or-drop at bytes i 0) ∙ here in
    (below, slice_get-get_or bytes (at + i) 0 (omega (arith, inside, below)) ∙ ap Some there)

-- A run inside a range is read there.
pub read_bytes-inside : (before : List Range) (r : Range) (after : List Range) (a n : ℕ) → EndBefore r.at before → lie_in r a n ≡ true
    → read_bytes (before ++ r ∷ after) a n ≡ Ok (bytes_from r.bytes (a - r.at) n)
read_bytes-inside before r after a n ends inside =
    let (low, high) = lie_in-true r a n inside in
    let fits : a - r.at + n ≤ length r.bytes = omega (arith, low, high) in
    let run : List ℕ = bytes_from r.bytes (a - r.at) n in
    let count : length run ≡ n = length-take-le n (drop (a - r.at) r.bytes) (omega (arith, fits, length-drop (a - r.at) r.bytes)) in
    let there : read_bytes (before ++ r ∷ after) a (length run) ≡ Ok run =
    read_bytes-same (before ++ r ∷ after) a run
    (λ (i v : ℕ) (e : slice_get run i ≡ Some v).
    let (below, found) = run_byte r.bytes (a - r.at) n i v fits e in
    let place : a + i - r.at ≡ a - r.at + i = omega (arith, low) in
    let here : byte_in r (a + i) ≡ Some v = byte_in-inside r (a + i) (omega (arith, low)) ∙ ap (slice_get r.bytes) place ∙ found in
    byte_at-inside before r after r.at (a + i) v ends (omega (arith, low)) here) in
    ap (read_bytes (before ++ r ∷ after) a) (sym count) ∙ there

-- a byte is set in the range that has it, and in no other
set_in-past : (r : Range) (a v : ℕ) → r.at + length r.bytes ≤ a → set_in r a v ≡ r
set_in-past r a v past =
    let low : nat_le r.at a ≡ true = grind (arith, nat_tests) in
    cond-true (nat_le r.at a) (record r { bytes = slice_set r.bytes (a - r.at) v }) r low
    ∙ ap (λ (ys : List ℕ). record r { bytes = ys }) (set_past r.bytes (a - r.at) v (omega (arith, past)))

pub set_in-before : (r : Range) (a v : ℕ) → a < r.at → set_in r a v ≡ r
set_in-before r a v before =
    let high : nat_le r.at a ≡ false = grind (arith, nat_tests) in
    cond-false (nat_le r.at a) (record r { bytes = slice_set r.bytes (a - r.at) v }) r high

pub set_in-inside : (r : Range) (a v : ℕ) → r.at ≤ a → set_in r a v ≡ record r { bytes = slice_set r.bytes (a - r.at) v }
set_in-inside r a v low =
    let test : nat_le r.at a ≡ true = grind (arith, nat_tests) in
    cond-true (nat_le r.at a) (record r { bytes = slice_set r.bytes (a - r.at) v }) r test

set_byte-before : (after : List Range) (e a v : ℕ) → BeginAfter e after → a < e → set_byte after a v ≡ after
set_byte-before [] e a v begins less = refl
set_byte-before (r ∷ after) e a v begins less =
    ap (λ (s : Range). s ∷ set_byte after a v) (set_in-before r a v (omega (arith, begins.0, less)))
    ∙ ap (λ (ss : List Range). r ∷ ss) (set_byte-before after e a v begins.1 less)

pub set_byte-inside : (before : List Range) (r : Range) (after : List Range) (e a v : ℕ) → EndBefore e before → e ≤ a → r.at ≤ a → BeginAfter (suc a) after
    → set_byte (before ++ r ∷ after) a v ≡ before ++ record r { bytes = slice_set r.bytes (a - r.at) v } ∷ after
set_byte-inside [] r after e a v ends past low begins =
    ap (λ (s : Range). s ∷ set_byte after a v) (set_in-inside r a v low)
    ∙ ap (λ (ss : List Range). record r { bytes = slice_set r.bytes (a - r.at) v } ∷ ss) (set_byte-before after (suc a) a v begins (omega arith))
set_byte-inside (s ∷ before) r after e a v ends past low begins =
    ap (λ (t : Range). t ∷ set_byte (before ++ r ∷ after) a v) (set_in-past s a v (omega (arith, ends.0, past)))
    ∙ ap (λ (ss : List Range). s ∷ ss) (set_byte-inside before r after e a v ends.1 past low begins)

-- bytes from a place on, the first of them by itself
with_bytes_at-none : (bytes : List ℕ) (at : ℕ) → with_bytes_at bytes at [] ≡ bytes
with_bytes_at-none bytes at =
    let same : at + 0 ≡ at = omega arith in
    ap (λ (ys : List ℕ). ys ++ drop (at + 0) bytes) (append-nil (take at bytes))
    ∙ ap (λ (k : ℕ). take at bytes ++ drop k bytes) same
    ∙ take-append-drop at bytes

with_bytes_at-more : (bytes others : List ℕ) (at next v : ℕ) → at < length bytes → next ≡ at + 1
    → with_bytes_at (slice_set bytes at v) next others ≡ with_bytes_at bytes at (v ∷ others)
with_bytes_at-more bytes others at next v inside e =
    let front : take next (slice_set bytes at v) ≡ take at bytes ++ v ∷ [] = ap (λ (k : ℕ). take k (slice_set bytes at v)) e ∙ take_more_set bytes at v inside in
    let rest : drop (next + length others) (slice_set bytes at v) ≡ drop (next + length others) bytes = drop-set-lt (next + length others) bytes at v (omega (arith, e)) in
    let count : next + length others ≡ at + suc (length others) = omega (arith, e) in
    ap (λ (ys : List ℕ). ys ++ others ++ drop (next + length others) (slice_set bytes at v)) front
    ∙ ap (λ (ys : List ℕ). take at bytes ++ v ∷ [] ++ others ++ ys) (rest ∙ ap (λ (k : ℕ). drop k bytes) count)
    ∙ ap (λ (ys : List ℕ). ys ++ drop (at + suc (length others)) bytes) (append_assoc (take at bytes) (v ∷ []) others)

BeginAfter-le : (after : List Range) (d e : ℕ) → d ≤ e → BeginAfter e after → BeginAfter d after
BeginAfter-le [] d e less begins = begins
BeginAfter-le (r ∷ after) d e less begins = (omega (arith, less, begins.0), BeginAfter-le after d e less begins.1)

pub write-cons : (ranges : List Range) (a v : ℕ) (bytes : List ℕ) → write ranges a (v ∷ bytes) ≡ write (set_byte ranges a v) (a + 1) bytes
unfolding write
write-cons ranges a v bytes = refl

pub write-nil : (ranges : List Range) (a : ℕ) → write ranges a [] ≡ ranges
unfolding write
write-nil ranges a = refl

-- A run inside a range is written there.
pub write-inside : (before : List Range) (r : Range) (after : List Range) (a : ℕ) (bytes : List ℕ) → EndBefore r.at before → BeginAfter (r.at + length r.bytes) after
    → r.at ≤ a → a + length bytes ≤ r.at + length r.bytes
    → write (before ++ r ∷ after) a bytes ≡ before ++ record r { bytes = with_bytes_at r.bytes (a - r.at) bytes } ∷ after
write-inside before r after a [] ends begins low high =
    write-nil (before ++ r ∷ after) a ∙ ap (λ (ys : List ℕ). before ++ record r { bytes = ys } ∷ after) (sym (with_bytes_at-none r.bytes (a - r.at)))
write-inside before r after a (v ∷ bytes) ends begins low high =
    let first : set_byte (before ++ r ∷ after) a v ≡ before ++ record r { bytes = slice_set r.bytes (a - r.at) v } ∷ after =
    set_byte-inside before r after r.at a v ends low low (BeginAfter-le after (suc a) (r.at + length r.bytes) (omega (arith, high)) begins) in
    let count : length (slice_set r.bytes (a - r.at) v) ≡ length r.bytes = length-set r.bytes (a - r.at) v in
    let next : Range = record r { bytes = slice_set r.bytes (a - r.at) v } in
    let rest = write-inside before next after (a + 1) bytes ends (BeginAfter-le after (r.at + length (slice_set r.bytes (a - r.at) v)) (r.at + length r.bytes) (omega (arith, count)) begins) (omega (arith, low)) (omega (arith, count, high)) in
    write-cons (before ++ r ∷ after) a v bytes
    ∙ ap (λ (ss : List Range). write ss (a + 1) bytes) first
    ∙ rest
    ∙ ap (λ (ys : List ℕ). before ++ record r { bytes = ys } ∷ after) (with_bytes_at-more r.bytes bytes (a - r.at) (a + 1 - r.at) v (omega (arith, low, high)) (omega (arith, low)))

-- a byte that is written by itself
pub set_in-one : (r : Range) (a v : ℕ) → r.at ≤ a → a - r.at < length r.bytes → record r { bytes = with_bytes_at r.bytes (a - r.at) (v ∷ []) } ≡ set_in r a v
set_in-one r a v low inside =
    let set : with_bytes_at r.bytes (a - r.at) (v ∷ []) ≡ slice_set r.bytes (a - r.at) v =
    sym (with_bytes_at-more r.bytes [] (a - r.at) (a - r.at + 1) v inside refl) ∙ with_bytes_at-none (slice_set r.bytes (a - r.at) v) (a - r.at + 1) in
    ap (λ (ys : List ℕ). record r { bytes = ys }) set ∙ sym (set_in-inside r a v low)

-- past a range nothing is set
pub set_in-outside : (r : Range) (a v : ℕ) → r.at + length r.bytes ≤ a → set_in r a v ≡ r
set_in-outside = set_in-past
