-- Runs of bytes that are copied: inside a part, between two parts, or byte by byte from either end.
use Rattle.std.proofs.Common.{◌≡◌, ◌≢◌, ℕ, zero, suc, ◌+◌, ◌-◌, ◌<◌, ◌≤◌, true, List, [], ◌∷◌, ◌++◌, length, Some, None, is_some, refl, sym, ◌∙◌, ap, inl, inr, arith}
use Rattle.std.specs.Prelude.{slice_set, unwrap_or, Result, Ok, Err}
use Rattle.std.proofs.lemmas.Bool.{cases_lt}
use Rattle.std.proofs.lemmas.List.{set_comm}
use Rattle.hw_base.specs.TaggedAddress.{address_of}
use Rattle.hw_region.specs.RegionBytes.{bytes_from, with_bytes_at}
use Rattle.tbi_memory.specs.declared.mapped_part.MappedPart.{MappedPart}
use Rattle.tbi_memory.specs.declared.mem_fault.MemFault.{MemFault}
use Rattle.tbi_memory.specs.AddressSpace.{AddressSpace, read, write_fault, with_bytes, written, moved}
use Rattle.tbi_memory.specs.MappedBytes.{Range, byte_at, set_in, set_byte, write, read_bytes}
use Rattle.tbi_memory.specs.MemoryParts.{AreInOrder, bytes_of, space_of, lie_in, bytes_or_zeros}
use Rattle.tbi_memory.proofs.MappedBytesLemmas.{byte_at-set_other, read_bytes-mapped}
use Rattle.tbi_memory.proofs.PartLemmas.{read-heap, read-stacks, read-variables, read-constants, write-heap, write-stacks, write-variables}
use Rattle.tbi_memory.proofs.RangeLemmas.{set_in-before, set_in-inside, write-cons, write-nil}
use Rattle.tbi_memory.proofs.RunLemmas.{read_bytes-mapped_all}
use Rattle.tbi_memory.proofs.SpaceLemmas.{written-none, written-some}
use Rattle.tbi_memory.proofs.StepLemmas.{write-append}

pub length-bytes_or_zeros : (ranges : List Range) (a n : ℕ) → length (bytes_or_zeros ranges a n) ≡ n
unfolding bytes_or_zeros
length-bytes_or_zeros ranges a zero = refl
length-bytes_or_zeros ranges a (suc n) = ap suc (length-bytes_or_zeros ranges (a + 1) n)

-- bytes that are read
pub bytes_or_zeros-read : (ranges : List Range) (a n : ℕ) (bytes : List ℕ) → read_bytes ranges a n ≡ Ok bytes → bytes ≡ bytes_or_zeros ranges a n
bytes_or_zeros-read ranges a n bytes h =
    let all : read_bytes ranges a n ≡ Ok (bytes_or_zeros ranges a n) =
    read_bytes-mapped_all ranges a n (λ (x : ℕ) (low : a ≤ x) (high : x < a + n).
    let (old, here) = read_bytes-mapped ranges a n bytes h (x - a) (omega (arith, low, high)) in
    let place : a + (x - a) ≡ x = omega (arith, low) in
    ap is_some (ap (byte_at ranges) (sym place) ∙ here)) in
    cc

-- a byte that isn't among them is set
bytes_or_zeros-set_other : (ranges : List Range) (b v a n : ℕ) → ((x : ℕ) → a ≤ x → x < a + n → x ≢ b) → bytes_or_zeros (set_byte ranges b v) a n ≡ bytes_or_zeros ranges a n
unfolding bytes_or_zeros
bytes_or_zeros-set_other ranges b v a zero other = refl
bytes_or_zeros-set_other ranges b v a (suc n) other =
    ap (λ (o : ℕ). o ∷ bytes_or_zeros (set_byte ranges b v) (a + 1) n) (ap (λ o. unwrap_or o 0) (byte_at-set_other ranges b a v (other a (omega arith) (omega arith))))
    ∙ ap (λ (ys : List ℕ). unwrap_or (byte_at ranges a) 0 ∷ ys)
    (bytes_or_zeros-set_other ranges b v (a + 1) n (λ (x : ℕ) (low : a + 1 ≤ x) (high : x < a + 1 + n). other x (omega (arith, low)) (omega (arith, high))))

-- the last of them by itself
bytes_or_zeros-last : (ranges : List Range) (a n : ℕ) → bytes_or_zeros ranges a (suc n) ≡ bytes_or_zeros ranges a n ++ unwrap_or (byte_at ranges (a + n)) 0 ∷ []
unfolding bytes_or_zeros
bytes_or_zeros-last ranges a zero = let same : a ≡ a + 0 = omega arith in ap (λ (k : ℕ). unwrap_or (byte_at ranges k) 0 ∷ []) same
bytes_or_zeros-last ranges a (suc n) =
    let same : a + 1 + n ≡ a + suc n = omega arith in
    ap (λ (ys : List ℕ). unwrap_or (byte_at ranges a) 0 ∷ ys) (bytes_or_zeros-last ranges (a + 1) n)
    ∙ ap (λ (k : ℕ). unwrap_or (byte_at ranges a) 0 ∷ (bytes_or_zeros ranges (a + 1) n ++ unwrap_or (byte_at ranges k) 0 ∷ [])) same

-- two bytes are set in either order
set_in-at : (r : Range) (a v : ℕ) → (set_in r a v).at ≡ r.at
set_in-at r a v =
    elim (cases_lt a r.at) [
      | inl before ↦ ap (λ (s : Range). s.at) (set_in-before r a v before)
      | inr low ↦ ap (λ (s : Range). s.at) (set_in-inside r a v low)
    ]

set_in-before_both : (r : Range) (a b v w : ℕ) → a < r.at → set_in (set_in r a v) b w ≡ set_in (set_in r b w) a v
set_in-before_both r a b v w before =
    ap (λ (s : Range). set_in s b w) (set_in-before r a v before)
    ∙ sym (set_in-before (set_in r b w) a v (omega (arith, before, set_in-at r b w)))

set_in-both : (r : Range) (a b v w : ℕ) → r.at ≤ a → r.at ≤ b → set_in (set_in r a v) b w ≡ record r { bytes = slice_set (slice_set r.bytes (a - r.at) v) (b - r.at) w }
set_in-both r a b v w low lower =
    ap (λ (s : Range). set_in s b w) (set_in-inside r a v low)
    ∙ set_in-inside (record r { bytes = slice_set r.bytes (a - r.at) v }) b w lower

set_in-swap : (r : Range) (a b v w : ℕ) → a ≢ b → set_in (set_in r a v) b w ≡ set_in (set_in r b w) a v
set_in-swap r a b v w other =
    elim (cases_lt a r.at) [
      | inl before ↦ set_in-before_both r a b v w before
      | inr low ↦
          elim (cases_lt b r.at) [
            | inl before ↦ sym (set_in-before_both r b a w v before)
            | inr lower ↦
                let apart : a - r.at ≢ b - r.at = λ s. other (omega (arith, low, lower, s)) in
                set_in-both r a b v w low lower
                ∙ ap (λ (ys : List ℕ). record r { bytes = ys }) (set_comm r.bytes (a - r.at) (b - r.at) v w apart)
                ∙ sym (set_in-both r b a w v lower low)
          ]
    ]

set_byte-swap : (ranges : List Range) (a b v w : ℕ) → a ≢ b → set_byte (set_byte ranges a v) b w ≡ set_byte (set_byte ranges b w) a v
set_byte-swap [] a b v w other = refl
set_byte-swap (r ∷ ranges) a b v w other =
    ap (λ (s : Range). s ∷ set_byte (set_byte ranges a v) b w) (set_in-swap r a b v w other)
    ∙ ap (λ (ss : List Range). set_in (set_in r b w) a v ∷ ss) (set_byte-swap ranges a b v w other)

write-set_after : (ranges : List Range) (b v a : ℕ) (bytes : List ℕ) → a + length bytes ≤ b → write (set_byte ranges b v) a bytes ≡ set_byte (write ranges a bytes) b v
unfolding write
write-set_after ranges b v a [] after = refl
write-set_after ranges b v a (w ∷ bytes) after =
    ap (λ (rs : List Range). write rs (a + 1) bytes) (set_byte-swap ranges b a v w (λ same. omega (arith, after, same)))
    ∙ write-set_after (set_byte ranges a w) b v (a + 1) bytes (omega (arith, after))

-- a byte of a copy to lower addresses more
pub upwards-more : (space after goal : AddressSpace) (to from n i b : ℕ) → to ≤ from → i < n → b ≡ unwrap_or (byte_at space.bytes (from + i)) 0
    → after ≡ record space { bytes = set_byte space.bytes (to + i) b }
    → with_bytes space (to + i) (bytes_or_zeros space.bytes (from + i) (n - i)) ≡ goal
    → with_bytes after (to + (i + 1)) (bytes_or_zeros after.bytes (from + (i + 1)) (n - (i + 1))) ≡ goal
unfolding bytes_or_zeros
upwards-more space after goal to from n i b lower inside seen set e =
    let left : n - i ≡ suc (n - (i + 1)) = omega (arith, inside) in
    let next : to + (i + 1) ≡ to + i + 1 = omega arith in
    let next_from : from + i + 1 ≡ from + (i + 1) = omega arith in
    let others : List ℕ = bytes_or_zeros space.bytes (from + (i + 1)) (n - (i + 1)) in
    let rest : bytes_or_zeros (set_byte space.bytes (to + i) b) (from + (i + 1)) (n - (i + 1)) ≡ others =
    bytes_or_zeros-set_other space.bytes (to + i) b (from + (i + 1)) (n - (i + 1))
    (λ (x : ℕ) (low : from + (i + 1) ≤ x) (high : x < from + (i + 1) + (n - (i + 1))) (same : x ≡ to + i). omega (arith, lower, low, same)) in
    let all : bytes_or_zeros space.bytes (from + i) (n - i) ≡ b ∷ others =
    ap (bytes_or_zeros space.bytes (from + i)) left
    ∙ ap (λ (x : ℕ). x ∷ bytes_or_zeros space.bytes (from + i + 1) (n - (i + 1))) (sym seen)
    ∙ ap (λ (k : ℕ). b ∷ bytes_or_zeros space.bytes k (n - (i + 1))) next_from in
    ap (λ (s : AddressSpace). with_bytes s (to + (i + 1)) (bytes_or_zeros s.bytes (from + (i + 1)) (n - (i + 1)))) set
    ∙ ap (λ (ys : List ℕ). record space { bytes = write (set_byte space.bytes (to + i) b) (to + (i + 1)) ys }) rest
    ∙ ap (λ (k : ℕ). record space { bytes = write (set_byte space.bytes (to + i) b) k others }) next
    ∙ ap (λ (rs : List Range). record space { bytes = rs }) (sym (write-cons space.bytes (to + i) b others))
    ∙ ap (with_bytes space (to + i)) (sym all)
    ∙ e

pub upwards-done : (space goal : AddressSpace) (to from n i : ℕ) → n ≤ i → with_bytes space (to + i) (bytes_or_zeros space.bytes (from + i) (n - i)) ≡ goal → space ≡ goal
unfolding bytes_or_zeros
upwards-done space goal to from n i done e =
    let none : 0 ≡ n - i = omega (arith, done) in
    ap (λ (rs : List Range). record space { bytes = rs }) (sym (write-nil space.bytes (to + i)))
    ∙ ap (λ (k : ℕ). with_bytes space (to + i) (bytes_or_zeros space.bytes (from + i) k)) none
    ∙ e

-- a byte of a copy to higher addresses more
pub downwards-more : (space after goal : AddressSpace) (to from i b : ℕ) → from < to → 0 < i → b ≡ unwrap_or (byte_at space.bytes (from + (i - 1))) 0
    → after ≡ record space { bytes = set_byte space.bytes (to + (i - 1)) b }
    → with_bytes space to (bytes_or_zeros space.bytes from i) ≡ goal
    → with_bytes after to (bytes_or_zeros after.bytes from (i - 1)) ≡ goal
downwards-more space after goal to from i b higher some seen set e =
    let last : i ≡ suc (i - 1) = omega (arith, some) in
    let others : List ℕ = bytes_or_zeros space.bytes from (i - 1) in
    let count : length others ≡ i - 1 = length-bytes_or_zeros space.bytes from (i - 1) in
    let rest : bytes_or_zeros (set_byte space.bytes (to + (i - 1)) b) from (i - 1) ≡ others =
    bytes_or_zeros-set_other space.bytes (to + (i - 1)) b from (i - 1)
    (λ (x : ℕ) (low : from ≤ x) (high : x < from + (i - 1)) (same : x ≡ to + (i - 1)). omega (arith, higher, high, same)) in
    let all : bytes_or_zeros space.bytes from i ≡ others ++ b ∷ [] =
    ap (bytes_or_zeros space.bytes from) last
    ∙ bytes_or_zeros-last space.bytes from (i - 1)
    ∙ ap (λ (x : ℕ). others ++ x ∷ []) (sym seen) in
    let both : set_byte (write space.bytes to others) (to + (i - 1)) b ≡ write space.bytes to (others ++ b ∷ []) =
    sym (write-nil (set_byte (write space.bytes to others) (to + (i - 1)) b) (to + (i - 1) + 1))
    ∙ sym (write-cons (write space.bytes to others) (to + (i - 1)) b [])
    ∙ ap (λ (k : ℕ). write (write space.bytes to others) (to + k) (b ∷ [])) (sym count)
    ∙ sym (write-append space.bytes to others (b ∷ [])) in
    ap (λ (s : AddressSpace). with_bytes s to (bytes_or_zeros s.bytes from (i - 1))) set
    ∙ ap (λ (ys : List ℕ). record space { bytes = write (set_byte space.bytes (to + (i - 1)) b) to ys }) rest
    ∙ ap (λ (rs : List Range). record space { bytes = rs }) (write-set_after space.bytes (to + (i - 1)) b to others (omega (arith, count)) ∙ both)
    ∙ ap (with_bytes space to) (sym all)
    ∙ e

pub downwards-done : (space goal : AddressSpace) (to from i : ℕ) → i ≤ 0 → with_bytes space to (bytes_or_zeros space.bytes from i) ≡ goal → space ≡ goal
unfolding bytes_or_zeros
downwards-done space goal to from i done e =
    let none : 0 ≡ i = omega (arith, done) in
    ap (λ (rs : List Range). record space { bytes = rs }) (sym (write-nil space.bytes to))
    ∙ ap (λ (k : ℕ). with_bytes space to (bytes_or_zeros space.bytes from k)) none
    ∙ e

-- a move, by what is read and what is refused
moved_on : Result (List ℕ) MemFault → AddressSpace → ℕ → Result AddressSpace MemFault
moved_on bytes space to = elim bytes [ Err fault ↦ Err fault | Ok bytes ↦ written space to bytes ]

moved-read : (space : AddressSpace) (to from n : ℕ) (bytes : List ℕ) → read space from n ≡ Ok bytes → moved space to from n ≡ written space to bytes
unfolding moved moved_on
moved-read space to from n bytes e = ap (λ (r : Result (List ℕ) MemFault). moved_on r space to) e

pub moved-unread : (space : AddressSpace) (to from n : ℕ) (fault : MemFault) → read space from n ≡ Err fault → moved space to from n ≡ Err fault
unfolding moved moved_on
moved-unread space to from n fault e = ap (λ (r : Result (List ℕ) MemFault). moved_on r space to) e

pub moved-refused : (space : AddressSpace) (to from n : ℕ) (bytes : List ℕ) (fault : MemFault) → read space from n ≡ Ok bytes → length bytes ≡ n
    → write_fault space to n ≡ Some fault → moved space to from n ≡ Err fault
moved-refused space to from n bytes fault e count some = moved-read space to from n bytes e ∙ written-some space to n bytes fault count some

pub moved-ok : (space : AddressSpace) (to from n : ℕ) (bytes : List ℕ) → read space from n ≡ Ok bytes → length bytes ≡ n
    → write_fault space to n ≡ None → moved space to from n ≡ Ok (with_bytes space (address_of to) bytes)
moved-ok space to from n bytes e count none = moved-read space to from n bytes e ∙ written-none space to n bytes count none

module _ (c v s h : MappedPart) (order : AreInOrder c v s h) where
  -- a run in a part
  pub run-heap : (a n : ℕ) → lie_in (bytes_of h) a n ≡ true → bytes_from h.bytes (a - h.at) n ≡ bytes_or_zeros (space_of c v s h).bytes a n
  run-heap a n inside = bytes_or_zeros-read (space_of c v s h).bytes a n (bytes_from h.bytes (a - h.at) n) (read-heap c v s h order a n inside)

  pub run-stacks : (a n : ℕ) → lie_in (bytes_of s) a n ≡ true → bytes_from s.bytes (a - s.at) n ≡ bytes_or_zeros (space_of c v s h).bytes a n
  run-stacks a n inside = bytes_or_zeros-read (space_of c v s h).bytes a n (bytes_from s.bytes (a - s.at) n) (read-stacks c v s h order a n inside)

  pub run-variables : (a n : ℕ) → lie_in (bytes_of v) a n ≡ true → bytes_from v.bytes (a - v.at) n ≡ bytes_or_zeros (space_of c v s h).bytes a n
  run-variables a n inside = bytes_or_zeros-read (space_of c v s h).bytes a n (bytes_from v.bytes (a - v.at) n) (read-variables c v s h order a n inside)

  pub run-constants : (a n : ℕ) → lie_in (bytes_of c) a n ≡ true → bytes_from c.bytes (a - c.at) n ≡ bytes_or_zeros (space_of c v s h).bytes a n
  run-constants a n inside = bytes_or_zeros-read (space_of c v s h).bytes a n (bytes_from c.bytes (a - c.at) n) (read-constants c v s h order a n inside)

  -- is copied into a part
  pub copied-heap : (to from n : ℕ) (run after : List ℕ) → lie_in (bytes_of h) to n ≡ true → run ≡ bytes_or_zeros (space_of c v s h).bytes from n
      → after ≡ with_bytes_at h.bytes (to - h.at) run → space_of c v s (record h { bytes = after }) ≡ with_bytes (space_of c v s h) to (bytes_or_zeros (space_of c v s h).bytes from n)
  copied-heap to from n run after inside seen e =
      let bytes : List ℕ = bytes_or_zeros (space_of c v s h).bytes from n in
      ap (λ (ys : List ℕ). space_of c v s (record h { bytes = ys })) (e ∙ ap (with_bytes_at h.bytes (to - h.at)) seen)
      ∙ sym (ap (λ (rs : List Range). record (space_of c v s h) { bytes = rs }) (write-heap c v s h order to n bytes inside (length-bytes_or_zeros (space_of c v s h).bytes from n)))

  pub copied-stacks : (to from n : ℕ) (run after : List ℕ) → lie_in (bytes_of s) to n ≡ true → run ≡ bytes_or_zeros (space_of c v s h).bytes from n
      → after ≡ with_bytes_at s.bytes (to - s.at) run → space_of c v (record s { bytes = after }) h ≡ with_bytes (space_of c v s h) to (bytes_or_zeros (space_of c v s h).bytes from n)
  copied-stacks to from n run after inside seen e =
      let bytes : List ℕ = bytes_or_zeros (space_of c v s h).bytes from n in
      ap (λ (ys : List ℕ). space_of c v (record s { bytes = ys }) h) (e ∙ ap (with_bytes_at s.bytes (to - s.at)) seen)
      ∙ sym (ap (λ (rs : List Range). record (space_of c v s h) { bytes = rs }) (write-stacks c v s h order to n bytes inside (length-bytes_or_zeros (space_of c v s h).bytes from n)))

  pub copied-variables : (to from n : ℕ) (run after : List ℕ) → lie_in (bytes_of v) to n ≡ true → run ≡ bytes_or_zeros (space_of c v s h).bytes from n
      → after ≡ with_bytes_at v.bytes (to - v.at) run → space_of c (record v { bytes = after }) s h ≡ with_bytes (space_of c v s h) to (bytes_or_zeros (space_of c v s h).bytes from n)
  copied-variables to from n run after inside seen e =
      let bytes : List ℕ = bytes_or_zeros (space_of c v s h).bytes from n in
      ap (λ (ys : List ℕ). space_of c (record v { bytes = ys }) s h) (e ∙ ap (with_bytes_at v.bytes (to - v.at)) seen)
      ∙ sym (ap (λ (rs : List Range). record (space_of c v s h) { bytes = rs }) (write-variables c v s h order to n bytes inside (length-bytes_or_zeros (space_of c v s h).bytes from n)))
