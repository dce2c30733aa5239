-- One byte, granule or tag at a time: what is still to be written or tested after it.
use Rattle.std.proofs.Common.{◌≡◌, ℕ, zero, suc, ◌+◌, ◌-◌, ◌/◌, ◌%◌, ◌<◌, ◌≤◌, Bool, true, false, List, [], ◌∷◌, ◌++◌, length, get_or, drop, replicate, Option, Some, None, refl, sym, ◌∙◌, ap, subst, arith}
use Rattle.std.specs.Prelude.{max, ◌||◌, ◌==◌, ◌&&◌}
use Rattle.std.proofs.lemmas.Bool.Decides.{nat_tests}
use Rattle.std.specs.List.{list_all}
use Rattle.std.proofs.lemmas.List.{get_or-take, get_or-drop, length-take-le, length-drop, length-replicate}
use Rattle.std.proofs.lemmas.Option.{slice_get-get_or}
use Rattle.hw_region.specs.RegionBytes.{bytes_from}
use Rattle.hw_base.specs.AddressMap.{granule_of, rounded_size}
use Rattle.hw_base.specs.Bytes.{le_bytes}
use Rattle.hw_base.specs.TaggedAddress.{address_of, pointer_tag}
use Rattle.hw_shadow.specs.declared.mismatch.Mismatch.{Mismatch}
use Rattle.hw_shadow.specs.ObjectTags.{short_granule, object_tags}
use Rattle.hw_shadow.specs.TagRule.{end_in_granule, granule_agrees, mismatch_in, first_mismatch, granules_touched}
use Rattle.hw_shadow.proofs.TagRuleLemmas.{passes-refusing_of}
use Rattle.tbi_memory.specs.AddressSpace.{AddressSpace, check, last_byte, with_bytes}
use Rattle.tbi_memory.specs.MappedBytes.{Range, byte_in, byte_at, set_byte, write}
use Rattle.tbi_memory.specs.MemoryParts.{lie_in, all_tagged, with_tags}
use Rattle.tbi_memory.proofs.RangeLemmas.{EndBefore, and-parts, lie_in-true, byte_in-inside, byte_at-inside, write-cons, write-nil}

-- a byte of a number more
pub with_bytes-more : (space after goal : AddressSpace) (a n i rest : ℕ) → i < n → after ≡ record space { bytes = set_byte space.bytes (a + i) (rest % 256) }
    → with_bytes space (a + i) (le_bytes (n - i) rest) ≡ goal → with_bytes after (a + (i + 1)) (le_bytes (n - (i + 1)) (rest / 256)) ≡ goal
unfolding le_bytes
with_bytes-more space after goal a n i rest inside set e =
    let count : suc (n - (i + 1)) ≡ n - i = omega (arith, inside) in
    let next : a + (i + 1) ≡ a + i + 1 = omega arith in
    let others : List ℕ = le_bytes (n - (i + 1)) (rest / 256) in
    ap (λ (s : AddressSpace). with_bytes s (a + (i + 1)) others) set
    ∙ ap (λ (k : ℕ). record space { bytes = write (set_byte space.bytes (a + i) (rest % 256)) k others }) next
    ∙ ap (λ (rs : List Range). record space { bytes = rs }) (sym (write-cons space.bytes (a + i) (rest % 256) others))
    ∙ ap (λ (k : ℕ). with_bytes space (a + i) (le_bytes k rest)) count
    ∙ e

pub with_bytes-done : (space goal : AddressSpace) (a n i rest : ℕ) → n ≤ i → with_bytes space (a + i) (le_bytes (n - i) rest) ≡ goal → space ≡ goal
unfolding le_bytes
with_bytes-done space goal a n i rest done e =
    let none : 0 ≡ n - i = omega (arith, done) in
    ap (λ (rs : List Range). record space { bytes = rs }) (sym (write-nil space.bytes (a + i)))
    ∙ ap (λ (k : ℕ). with_bytes space (a + i) (le_bytes k rest)) none
    ∙ e

-- a byte of a run of one byte more
pub filled-more : (space after goal : AddressSpace) (a n i b : ℕ) → i < n → after ≡ record space { bytes = set_byte space.bytes (a + i) b }
    → with_bytes space (a + i) (replicate (n - i) b) ≡ goal → with_bytes after (a + (i + 1)) (replicate (n - (i + 1)) b) ≡ goal
filled-more space after goal a n i b inside set e =
    let left : suc (n - (i + 1)) ≡ n - i = omega (arith, inside) in
    let next : a + (i + 1) ≡ a + i + 1 = omega arith in
    let others : List ℕ = replicate (n - (i + 1)) b in
    ap (λ (s : AddressSpace). with_bytes s (a + (i + 1)) others) set
    ∙ ap (λ (k : ℕ). record space { bytes = write (set_byte space.bytes (a + i) b) k others }) next
    ∙ ap (λ (rs : List Range). record space { bytes = rs }) (sym (write-cons space.bytes (a + i) b others))
    ∙ ap (λ (k : ℕ). with_bytes space (a + i) (replicate k b)) left
    ∙ e

pub filled-done : (space goal : AddressSpace) (a n i b : ℕ) → n ≤ i → with_bytes space (a + i) (replicate (n - i) b) ≡ goal → space ≡ goal
filled-done space goal a n i b done e =
    let none : 0 ≡ n - i = omega (arith, done) in
    ap (λ (rs : List Range). record space { bytes = rs }) (sym (write-nil space.bytes (a + i)))
    ∙ ap (λ (k : ℕ). with_bytes space (a + i) (replicate k b)) none
    ∙ e

-- a granule more
pub with_tags-more : (space after goal : AddressSpace) (first count i tag : ℕ) → i < count → after ≡ record space { shadow = set_byte space.shadow (first + i) tag }
    → with_tags space (first + i) (replicate (count - i) tag) ≡ goal → with_tags after (first + (i + 1)) (replicate (count - (i + 1)) tag) ≡ goal
with_tags-more space after goal first count i tag inside set e =
    let left : suc (count - (i + 1)) ≡ count - i = omega (arith, inside) in
    let next : first + (i + 1) ≡ first + i + 1 = omega arith in
    let others : List ℕ = replicate (count - (i + 1)) tag in
    ap (λ (s : AddressSpace). with_tags s (first + (i + 1)) others) set
    ∙ ap (λ (k : ℕ). record space { shadow = write (set_byte space.shadow (first + i) tag) k others }) next
    ∙ ap (λ (rs : List Range). record space { shadow = rs }) (sym (write-cons space.shadow (first + i) tag others))
    ∙ ap (λ (k : ℕ). with_tags space (first + i) (replicate k tag)) left
    ∙ e

pub with_tags-done : (space goal : AddressSpace) (first count i tag : ℕ) → count ≤ i → with_tags space (first + i) (replicate (count - i) tag) ≡ goal → space ≡ goal
with_tags-done space goal first count i tag done e =
    let none : 0 ≡ count - i = omega (arith, done) in
    ap (λ (rs : List Range). record space { shadow = rs }) (sym (write-nil space.shadow (first + i)))
    ∙ ap (λ (k : ℕ). with_tags space (first + i) (replicate k tag)) none
    ∙ e

pub write-append : (ranges : List Range) (a : ℕ) (xs ys : List ℕ) → write ranges a (xs ++ ys) ≡ write (write ranges a xs) (a + length xs) ys
unfolding write
write-append ranges a [] ys = let same : a ≡ a + 0 = omega arith in ap (λ (k : ℕ). write ranges k ys) same
write-append ranges a (x ∷ xs) ys =
    let same : a + 1 + length xs ≡ a + suc (length xs) = omega arith in
    write-append (set_byte ranges a x) (a + 1) xs ys
    ∙ ap (λ (k : ℕ). write (write (set_byte ranges a x) (a + 1) xs) k ys) same

-- an object's whole granules, and then its short one
pub with_tags-short : (space plain after : AddressSpace) (first size tag : ℕ) → short_granule size ≡ size % 16 ∷ []
    → plain ≡ with_tags space first (replicate (size / 16) tag) → after ≡ record plain { shadow = set_byte plain.shadow (first + size / 16) (size % 16) }
    → after ≡ with_tags space first (object_tags size tag)
with_tags-short space plain after first size tag short whole e =
    let count : length (replicate (size / 16) tag) ≡ size / 16 = length-replicate {A = ℕ} (size / 16) tag in
    let set : set_byte (write space.shadow first (replicate (size / 16) tag)) (first + size / 16) (size % 16) ≡ write space.shadow first (object_tags size tag) =
    sym (write-nil (set_byte (write space.shadow first (replicate (size / 16) tag)) (first + size / 16) (size % 16)) (first + size / 16 + 1))
    ∙ sym (write-cons (write space.shadow first (replicate (size / 16) tag)) (first + size / 16) (size % 16) [])
    ∙ ap (λ (k : ℕ). write (write space.shadow first (replicate (size / 16) tag)) (first + k) (size % 16 ∷ [])) (sym count)
    ∙ sym (write-append space.shadow first (replicate (size / 16) tag) (size % 16 ∷ []))
    ∙ ap (λ (ys : List ℕ). write space.shadow first (replicate (size / 16) tag ++ ys)) (sym short) in
    e
    ∙ ap (λ (s : AddressSpace). record s { shadow = set_byte s.shadow (first + size / 16) (size % 16) }) whole
    ∙ ap (λ (rs : List Range). record space { shadow = rs }) set

-- how many granules an object has
pub rounded-count : (size : ℕ) → (max size 1 + 15) / 16 ≡ rounded_size size / 16
rounded-count zero = refl
rounded-count (suc n) = omega arith

-- a granule that agrees, and one that doesn't
pub first_mismatch-more : (tag : ℕ → Option ℕ) (last : ℕ → ℕ) (number size left granule : ℕ) (goal : Option Mismatch) → 0 < left
    → None ≡ mismatch_in number size granule (tag granule) (last granule) → first_mismatch tag last number size left granule ≡ goal
    → first_mismatch tag last number size (left - 1) (granule + 1) ≡ goal
unfolding first_mismatch
first_mismatch-more tag last number size zero granule goal some agrees e = absurd (omega (arith, some))
first_mismatch-more tag last number size (suc left) granule goal some agrees e =
    let same : suc left - 1 ≡ left = omega arith in
    ap (λ (k : ℕ). first_mismatch tag last number size k (granule + 1)) same
    ∙ ap (λ (o : Option Mismatch). elim o [ None ↦ first_mismatch tag last number size left (granule + 1) | Some found ↦ Some found ]) agrees
    ∙ e

pub first_mismatch-found : (tag : ℕ → Option ℕ) (last : ℕ → ℕ) (number size left granule : ℕ) (found : Mismatch) (goal : Option Mismatch) → 0 < left
    → Some found ≡ mismatch_in number size granule (tag granule) (last granule) → first_mismatch tag last number size left granule ≡ goal → Some found ≡ goal
unfolding first_mismatch
first_mismatch-found tag last number size zero granule found goal some here e = absurd (omega (arith, some))
first_mismatch-found tag last number size (suc left) granule found goal some here e =
    ap (λ (o : Option Mismatch). elim o [ None ↦ first_mismatch tag last number size left (granule + 1) | Some found ↦ Some found ]) here ∙ e

pub first_mismatch-done : (tag : ℕ → Option ℕ) (last : ℕ → ℕ) (number size left granule : ℕ) (goal : Option Mismatch) → left ≤ 0
    → first_mismatch tag last number size left granule ≡ goal → None ≡ goal
unfolding first_mismatch
first_mismatch-done tag last number size zero granule goal none e = e
first_mismatch-done tag last number size (suc left) granule goal none e = absurd (omega (arith, none))

or-first : (s t : Bool) → s ≡ true → (s || t) ≡ true
or-first true t e = refl
or-first false t e = cc

-- the pointer's own tag agrees
same_tag-agrees : (pointer memory end last : ℕ) (o : Option ℕ) → o ≡ Some memory → memory ≡ pointer → granule_agrees pointer end o last ≡ true
same_tag-agrees pointer memory end last None e same = cc
same_tag-agrees pointer memory end last (Some other) e same =
    let equal : other ≡ memory = cc in
    let test : (pointer == other) ≡ true = grind (arith, nat_tests) in
    or-first (pointer == other) _ test

-- an access of one granule with the pointer's tag passes
pub check-one : (space : AddressSpace) (number size memory : ℕ) → 0 < size → size ≤ 16 - address_of number % 16
    → byte_at space.shadow (granule_of (address_of number)) ≡ Some memory → memory ≡ pointer_tag number → check space number size ≡ None
check-one space number size memory some inside here same =
    passes-refusing_of (byte_at space.shadow) (last_byte space.bytes) number size
    (λ (address : ℕ) (low : address_of number ≤ address) (high : address < address_of number + size).
    let granule : granule_of (address_of number) ≡ granule_of address = omega (arith, low, high, inside) in
    let there : byte_at space.shadow (granule_of address) ≡ Some memory = subst (λ (g : ℕ). byte_at space.shadow g ≡ Some memory) granule here in
    same_tag-agrees (pointer_tag number) memory (end_in_granule (address_of number) size (granule_of address)) (last_byte space.bytes (granule_of address)) (byte_at space.shadow (granule_of address)) there same)

-- each of a list that passes
list_all-get : (test : ℕ → Bool) (xs : List ℕ) (i : ℕ) → list_all test xs ≡ true → i < length xs → test (get_or xs i 0) ≡ true
list_all-get test [] i all below = absurd (omega (arith, below))
list_all-get test (x ∷ xs) zero all below = (and-parts (test x) (list_all test xs) all).0
list_all-get test (x ∷ xs) (suc i) all below = list_all-get test xs i (and-parts (test x) (list_all test xs) all).1 (omega (arith, below))

-- a granule of a run with one tag
all_tagged-at : (r : Range) (first count tag g : ℕ) → all_tagged r first count tag ≡ true → first ≤ g → g < first + count → byte_in r g ≡ Some tag
all_tagged-at r first count tag g all low high =
    let parts = and-parts (lie_in r first count) (list_all (λ t. t == tag) (bytes_from r.bytes (first - r.at) count)) all in
    let (from, to) = lie_in-true r first count parts.0 in
    let run : List ℕ = bytes_from r.bytes (first - r.at) count in
    let n : length run ≡ count = length-take-le count (drop (first - r.at) r.bytes) (omega (arith, from, to, length-drop (first - r.at) r.bytes)) in
    let test : (get_or run (g - first) 0 == tag) ≡ true = list_all-get (λ t. t == tag) run (g - first) parts.1 (omega (arith, n, low, high)) in
    let equal : get_or run (g - first) 0 ≡ tag = grind (arith, nat_tests) in
    let place : first - r.at + (g - first) ≡ g - r.at = omega (arith, from, low) in
    let here : get_or r.bytes (g - r.at) 0 ≡ tag =
    ap (λ (k : ℕ). get_or r.bytes k 0) (sym place)
    ∙ sym (get_or-take count (drop (first - r.at) r.bytes) (g - first) 0 (omega (arith, low, high)) ∙ get_or-drop (first - r.at) r.bytes (g - first) 0)
    ∙ equal in
    byte_in-inside r g (omega (arith, from, low))
    ∙ slice_get-get_or r.bytes (g - r.at) 0 (omega (arith, from, to, low, high))
    ∙ ap Some here

pub all_tagged-in : (r : Range) (first count tag : ℕ) (t : Bool) → lie_in r first count ≡ true
    → t ≡ list_all (λ u. u == tag) (bytes_from r.bytes (first - r.at) count) → t ≡ all_tagged r first count tag
all_tagged-in r first count tag t inside e = e ∙ sym (ap (λ (b : Bool). b && list_all (λ u. u == tag) (bytes_from r.bytes (first - r.at) count)) inside)

pub all_tagged-out : (r : Range) (first count tag : ℕ) → lie_in r first count ≡ false → false ≡ all_tagged r first count tag
all_tagged-out r first count tag outside = sym (ap (λ (b : Bool). b && list_all (λ u. u == tag) (bytes_from r.bytes (first - r.at) count)) outside)

touched-below : (from size address : ℕ) → from ≤ address → address < from + size → granule_of address < granule_of from + granules_touched from size
touched-below from zero address low high = absurd (omega (arith, low, high))
touched-below from (suc n) address low high = omega (arith, low, high)

-- an access passes whose granules lie in one part and have the pointer's tag
pub check-tagged : (space : AddressSpace) (before : List Range) (r : Range) (after : List Range) (number size tag : ℕ) → space.shadow ≡ before ++ r ∷ after
    → EndBefore r.at before → all_tagged r (granule_of (address_of number)) (granules_touched (address_of number) size) tag ≡ true → tag ≡ pointer_tag number
    → check space number size ≡ None
check-tagged space before r after number size tag parts ends all same =
    passes-refusing_of (byte_at space.shadow) (last_byte space.bytes) number size
    (λ (address : ℕ) (low : address_of number ≤ address) (high : address < address_of number + size).
    let g : ℕ = granule_of address in
    let first : ℕ = granule_of (address_of number) in
    let count : ℕ = granules_touched (address_of number) size in
    let rise : first ≤ g = omega (arith, low) in
    let inside : lie_in r first count ≡ true = (and-parts (lie_in r first count) (list_all (λ t. t == tag) (bytes_from r.bytes (first - r.at) count)) all).0 in
    let from : r.at ≤ first = (lie_in-true r first count inside).0 in
    let here : byte_in r g ≡ Some tag = all_tagged-at r first count tag g all rise (touched-below (address_of number) size address low high) in
    let there : byte_at space.shadow g ≡ Some tag = ap (λ (rs : List Range). byte_at rs g) parts ∙ byte_at-inside before r after r.at g tag ends (omega (arith, from, rise)) here in
    same_tag-agrees (pointer_tag number) tag (end_in_granule (address_of number) size g) (last_byte space.bytes g) (byte_at space.shadow g) there same)
