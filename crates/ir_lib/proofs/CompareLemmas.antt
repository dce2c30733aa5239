-- The order of bytes that are read run by run.
use Rattle.std.proofs.Common.{◌≡◌, ℕ, zero, suc, ◌+◌, ◌-◌, ◌^◌, ◌<◌, ◌≤◌, ◌≢◌, Bool, true, false, List, [], ◌∷◌, ◌++◌, length, take, Option, Some, None, refl, sym, ◌∙◌, ap, subst, inl, inr, arith}
use Rattle.std.specs.Prelude.{◌==◌, nat_lt, if◌then◌else◌, Result, Ok, Err}
use Rattle.std.specs.Cmp.Lexicographic.{slice_cmp}
use Rattle.std.specs.Ordering.{is_ne, nat_cmp, ordering_then}
use Rattle.std.specs.Result.{result_err}
use Rattle.std.specs.declared.cmp.Ordering.{Ordering}
use Rattle.std.specs.declared.cmp.Ordering.TheVariants.{Less, Equal, Greater}
use Rattle.std.proofs.lemmas.Bool.{cases_lt, cases_eq}
use Rattle.std.proofs.lemmas.Bool.Decides.{nat_tests}
use Rattle.hw_base.specs.Bytes.{byte_order}
use Rattle.hw_base.specs.TaggedAddress.{address_of}
use Rattle.tbi_memory.specs.declared.mem_fault.MemFault.{MemFault}
use Rattle.tbi_memory.specs.MappedBytes.{Range, byte_at, after_byte, read_bytes}
use Rattle.tbi_memory.proofs.MappedBytesLemmas.{read_on, read_bytes-suc, read_on-some}
use Rattle.tbi_memory.proofs.MoveLemmas.{bytes_or_zeros-read, length-bytes_or_zeros}
use Rattle.ir_lib.specs.Calls.{compared, order_value}
use Rattle.ir_lib.proofs.LengthLemmas.{next-address_of, read-cons}

-- ---- the order of bytes

decided : (t u : Bool) (whole front rest : Ordering) → whole ≡ ordering_then front rest
    → (if t then Less else (if u then Greater else whole)) ≡ ordering_then (if t then Less else (if u then Greater else front)) rest
decided true u whole front rest e = refl
decided false true whole front rest e = refl
decided false false whole front rest e = e

byte_order-append : (xs ys more others : List ℕ) → length xs ≡ length ys → byte_order (xs ++ more) (ys ++ others) ≡ ordering_then (byte_order xs ys) (byte_order more others)
unfolding byte_order
byte_order-append [] [] more others same = refl
byte_order-append [] (y ∷ ys) more others same = absurd (omega (arith, same))
byte_order-append (x ∷ xs) [] more others same = absurd (omega (arith, same))
byte_order-append (x ∷ xs) (y ∷ ys) more others same =
    decided (nat_lt x y) (nat_lt y x) (byte_order (xs ++ more) (ys ++ others)) (byte_order xs ys) (byte_order more others) (byte_order-append xs ys more others (omega (arith, same)))

first_pair : (x y : ℕ) (rest : Ordering) → ordering_then (nat_cmp x y) rest ≡ (if nat_lt x y then Less else (if nat_lt y x then Greater else rest))
first_pair x y rest =
    elim (cases_lt x y) [
      | inl less ↦ let t : nat_lt x y ≡ true = grind (arith, nat_tests) in by_tests (nat_lt x y) (nat_lt y x) (x == y) t
      | inr low ↦
          let t : nat_lt x y ≡ false = grind (arith, nat_tests) in
          elim (cases_eq x y) [
            | inl same ↦
                let u : nat_lt y x ≡ false = grind (arith, nat_tests) in
                let e : (x == y) ≡ true = grind (arith, nat_tests) in
                by_equal (nat_lt x y) (nat_lt y x) (x == y) t u e
            | inr other ↦
                let more : y < x = omega (arith, low, other) in
                let u : nat_lt y x ≡ true = grind (arith, nat_tests) in
                let e : (x == y) ≡ false = grind (arith, nat_tests) in
                by_greater (nat_lt x y) (nat_lt y x) (x == y) t u e
          ]
    ]
  where
    by_tests : (t u e : Bool) → t ≡ true → ordering_then (if t then Less else (if e then Equal else Greater)) rest ≡ (if t then Less else (if u then Greater else rest))
    by_tests true u e h = refl
    by_tests false u e h = absurd (cc)

    by_equal : (t u e : Bool) → t ≡ false → u ≡ false → e ≡ true → ordering_then (if t then Less else (if e then Equal else Greater)) rest ≡ (if t then Less else (if u then Greater else rest))
    by_equal false false true h i j = refl
    by_equal true u e h i j = absurd (cc)
    by_equal false true e h i j = absurd (cc)
    by_equal false false false h i j = absurd (cc)

    by_greater : (t u e : Bool) → t ≡ false → u ≡ true → e ≡ false → ordering_then (if t then Less else (if e then Equal else Greater)) rest ≡ (if t then Less else (if u then Greater else rest))
    by_greater false true false h i j = refl
    by_greater true u e h i j = absurd (cc)
    by_greater false false e h i j = absurd (cc)
    by_greater false true true h i j = absurd (cc)

pub slice_cmp-bytes : (xs ys : List ℕ) → length xs ≡ length ys → slice_cmp nat_cmp xs ys ≡ byte_order xs ys
unfolding byte_order
slice_cmp-bytes [] [] same = refl
slice_cmp-bytes [] (y ∷ ys) same = absurd (omega (arith, same))
slice_cmp-bytes (x ∷ xs) [] same = absurd (omega (arith, same))
slice_cmp-bytes (x ∷ xs) (y ∷ ys) same =
    ap (ordering_then (nat_cmp x y)) (slice_cmp-bytes xs ys (omega (arith, same))) ∙ first_pair x y (byte_order xs ys)

-- ---- reads in two parts

read_on-parts : (o : Option ℕ) (a : ℕ) (rest : Result (List ℕ) MemFault) (bytes : List ℕ) → read_on o a rest ≡ Ok bytes → (b : ℕ) × (more : List ℕ) × (o ≡ Some b) × (rest ≡ Ok more) × (bytes ≡ b ∷ more)
unfolding read_on
read_on-parts None a rest bytes h = absurd (cc)
read_on-parts (Some b) a (Ok more) bytes h = (b, more, refl, refl, cc)
read_on-parts (Some b) a (Err fault) bytes h = absurd (cc)

read-suc : (ranges : List Range) (a n : ℕ) (bytes : List ℕ) → read_bytes ranges a (suc n) ≡ Ok bytes → (b : ℕ) × (more : List ℕ) × (byte_at ranges a ≡ Some b) × (read_bytes ranges (a + 1) n ≡ Ok more) × (bytes ≡ b ∷ more)
read-suc ranges a n bytes h = read_on-parts (byte_at ranges a) a (read_bytes ranges (a + 1) n) bytes (sym (read_bytes-suc ranges a n) ∙ h)

read-none : (ranges : List Range) (a : ℕ) (bytes : List ℕ) → read_bytes ranges a 0 ≡ Ok bytes → bytes ≡ []
unfolding read_bytes
read-none ranges a bytes h = cc

pub read-parts : (ranges : List Range) (a k m : ℕ) (xs all : List ℕ) → read_bytes ranges a k ≡ Ok xs → read_bytes ranges a (k + m) ≡ Ok all → (more : List ℕ) × (read_bytes ranges (a + k) m ≡ Ok more) × (all ≡ xs ++ more)
read-parts ranges a zero m xs all first whole =
    let empty : xs ≡ [] = read-none ranges a xs first in
    let count : 0 + m ≡ m = omega arith in
    let place : a ≡ a + 0 = omega arith in
    let rest : read_bytes ranges (a + 0) m ≡ Ok all = subst (λ (b : ℕ). read_bytes ranges b m ≡ Ok all) place (subst (λ (n : ℕ). read_bytes ranges a n ≡ Ok all) count whole) in
    (all, rest, ap (λ (ys : List ℕ). ys ++ all) (sym empty))
read-parts ranges a (suc k) m xs all first whole =
    let count : suc k + m ≡ suc (k + m) = omega arith in
    let (x, later, here, rest, parts) = read-suc ranges a k xs first in
    let (y, others, there, most, whole_parts) = read-suc ranges a (k + m) all (subst (λ (n : ℕ). read_bytes ranges a n ≡ Ok all) count whole) in
    let same : y ≡ x = cc in
    let (more, end, split) = read-parts ranges (a + 1) k m later others rest most in
    let place : a + 1 + k ≡ a + suc k = omega arith in (
      more,
      subst (λ (b : ℕ). read_bytes ranges b m ≡ Ok more) place end,
      whole_parts ∙ ap (λ (ys : List ℕ). y ∷ ys) split ∙ ap (λ (z : ℕ). z ∷ (later ++ more)) same ∙ ap (λ (ys : List ℕ). ys ++ more) (sym parts),
    )

pub read-take : (ranges : List Range) (a : ℕ) (run : List ℕ) (k : ℕ) → read_bytes ranges a (length run) ≡ Ok run → k ≤ length run → read_bytes ranges a k ≡ Ok (take k run)
unfolding read_bytes
read-take ranges a run zero h most = refl
read-take ranges a [] (suc k) h most = absurd (omega (arith, most))
read-take ranges a (x ∷ run) (suc k) h most =
    let (here, rest) = read-cons ranges a x run h in
    read_bytes-suc ranges a k
    ∙ read_on-some (byte_at ranges a) a x (read_bytes ranges (a + 1) k) here
    ∙ ap (after_byte x) (read-take ranges (a + 1) run k rest (omega (arith, most)))

read-length : (ranges : List Range) (a n : ℕ) (bytes : List ℕ) → read_bytes ranges a n ≡ Ok bytes → length bytes ≡ n
read-length ranges a n bytes h = ap (λ (ys : List ℕ). length ys) (bytes_or_zeros-read ranges a n bytes h) ∙ length-bytes_or_zeros ranges a n

-- ---- comparisons

unfaulted : (r : Result (List ℕ) MemFault) → result_err r ≡ None → (bytes : List ℕ) × (r ≡ Ok bytes)
unfaulted (Ok bytes) e = (bytes, refl)
unfaulted (Err fault) e = absurd (cc)

-- the first byte of a run that is mapped
pub mapped-first : (ranges : List Range) (a n : ℕ) → result_err (read_bytes ranges a n) ≡ None → 0 < n → byte_at ranges a ≢ None
mapped-first ranges a zero none some e = omega (arith, some)
mapped-first ranges a (suc n) none some e =
    let (bytes, is) = unfaulted (read_bytes ranges a (suc n)) none in
    let (b, more, here, rest, parts) = read-suc ranges a n bytes is in cc

module _ (ranges : List Range) (k left : ℕ) (most : k ≤ left) where
  split : k + (left - k) ≡ left
  split = omega arith

  rest : (a : ℕ) (xs : List ℕ) → read_bytes ranges a k ≡ Ok xs → result_err (read_bytes ranges a left) ≡ None
      → (more : List ℕ) × (read_bytes ranges (a + k) (left - k) ≡ Ok more) × (read_bytes ranges a left ≡ Ok (xs ++ more))
  rest a xs first none =
      let (all, is) = unfaulted (read_bytes ranges a left) none in
      let (more, end, parts) = read-parts ranges a k (left - k) xs all first (ap (read_bytes ranges a) split ∙ is) in
      (more, end, is ∙ ap Ok parts)

  pub rest-mapped : (a : ℕ) (xs : List ℕ) → read_bytes ranges a k ≡ Ok xs → result_err (read_bytes ranges a left) ≡ None → result_err (read_bytes ranges (a + k) (left - k)) ≡ None
  rest-mapped a xs first none = let (more, end, whole) = rest a xs first none in ap result_err end

  by_parts : (a b : ℕ) (xs ys : List ℕ) → read_bytes ranges a k ≡ Ok xs → read_bytes ranges b k ≡ Ok ys → result_err (read_bytes ranges a left) ≡ None → result_err (read_bytes ranges b left) ≡ None
      → (more others : List ℕ) × (read_bytes ranges (a + k) (left - k) ≡ Ok more) × (read_bytes ranges (b + k) (left - k) ≡ Ok others)
      × (compared (read_bytes ranges a left) (read_bytes ranges b left) ≡ Ok (order_value (ordering_then (byte_order xs ys) (byte_order more others))))
  by_parts a b xs ys first second none nothing =
      let (more, end, whole) = rest a xs first none in
      let (others, stop, full) = rest b ys second nothing in
      let same : length xs ≡ length ys = read-length ranges a k xs first ∙ sym (read-length ranges b k ys second) in (
        more,
        others,
        end,
        stop,
        ap (λ (q : Result (List ℕ) MemFault). compared q (read_bytes ranges b left)) whole
            ∙ ap (compared (Ok (xs ++ more))) full
            ∙ ap (λ (o : Ordering). Ok (order_value o)) (byte_order-append xs ys more others same),
      )

  pub compared-more : (a b : ℕ) (xs ys : List ℕ) → read_bytes ranges a k ≡ Ok xs → read_bytes ranges b k ≡ Ok ys → result_err (read_bytes ranges a left) ≡ None → result_err (read_bytes ranges b left) ≡ None
      → byte_order xs ys ≡ Equal
      → compared (read_bytes ranges a left) (read_bytes ranges b left) ≡ compared (read_bytes ranges (a + k) (left - k)) (read_bytes ranges (b + k) (left - k))
  compared-more a b xs ys first second none nothing equal =
      let (more, others, end, stop, whole) = by_parts a b xs ys first second none nothing in
      whole
      ∙ ap (λ (o : Ordering). Ok (order_value (ordering_then o (byte_order more others)))) equal
      ∙ sym (ap (λ (q : Result (List ℕ) MemFault). compared q (read_bytes ranges (b + k) (left - k))) end ∙ ap (compared (Ok more)) stop)

  pub compared-found : (a b : ℕ) (xs ys : List ℕ) (order : Ordering) → read_bytes ranges a k ≡ Ok xs → read_bytes ranges b k ≡ Ok ys → result_err (read_bytes ranges a left) ≡ None → result_err (read_bytes ranges b left) ≡ None
      → order ≡ byte_order xs ys → order ≢ Equal
      → compared (read_bytes ranges a left) (read_bytes ranges b left) ≡ Ok (order_value order)
  compared-found a b xs ys order first second none nothing is other =
      let (more, others, end, stop, whole) = by_parts a b xs ys first second none nothing in
      whole ∙ ap (λ (o : Ordering). Ok (order_value o)) (ap (λ (o : Ordering). ordering_then o (byte_order more others)) (sym is) ∙ first_decides order (byte_order more others) other)
    where
      first_decides : (o p : Ordering) → o ≢ Equal → ordering_then o p ≡ o
      first_decides Less p h = refl
      first_decides Equal p h = absurd (h refl)
      first_decides Greater p h = refl

pub compared-none : (ranges : List Range) (a b n : ℕ) → n ≤ 0 → compared (read_bytes ranges a n) (read_bytes ranges b n) ≡ Ok (order_value Equal)
unfolding read_bytes byte_order
compared-none ranges a b zero none = refl
compared-none ranges a b (suc n) none = absurd (omega (arith, none))

-- ---- a step: as many bytes as both runs have

-- a run has a byte where memory is mapped
pub some-bytes : (ranges : List Range) (a n count : ℕ) → (count ≡ 0 → byte_at ranges a ≡ None) → result_err (read_bytes ranges a n) ≡ None → 0 < n → 0 < count
some-bytes ranges a n zero none mapped some = absurd (mapped-first ranges a n mapped some (none refl))
some-bytes ranges a n (suc count) none mapped some = omega arith

pub different : (order : Ordering) → is_ne order ≡ true → order ≢ Equal
different Less t e = cc
different Equal t e = cc
different Greater t e = cc

pub not-different : (order : Ordering) → is_ne order ≡ false → order ≡ Equal
not-different Less t = absurd (cc)
not-different Equal t = refl
not-different Greater t = absurd (cc)

pub step-mapped : (ranges : List Range) (v k left : ℕ) (run : List ℕ) → v < 2 ^ 64 → address_of v + length run < 2 ^ 56 → k ≤ left → k ≤ length run
    → read_bytes ranges (address_of v) (length run) ≡ Ok run → result_err (read_bytes ranges (address_of v) left) ≡ None
    → result_err (read_bytes ranges (address_of (v + k)) (left - k)) ≡ None
step-mapped ranges v k left run fits inside most within here none =
    ap (λ (a : ℕ). result_err (read_bytes ranges a (left - k))) (next-address_of v k fits (omega (arith, inside, within)))
    ∙ rest-mapped ranges k left most (address_of v) (take k run) (read-take ranges (address_of v) run k here within) none

module _ (ranges : List Range) (v w k left : ℕ) (run others : List ℕ) (order : Ordering) (most : k ≤ left) (within : k ≤ length run) (inner : k ≤ length others)
    (here : read_bytes ranges (address_of v) (length run) ≡ Ok run) (there : read_bytes ranges (address_of w) (length others) ≡ Ok others)
    (none : result_err (read_bytes ranges (address_of v) left) ≡ None) (nothing : result_err (read_bytes ranges (address_of w) left) ≡ None)
    (is : order ≡ byte_order (take k run) (take k others)) where
  pub step-found : order ≢ Equal → compared (read_bytes ranges (address_of v) left) (read_bytes ranges (address_of w) left) ≡ Ok (order_value order)
  step-found other =
      compared-found ranges k left most (address_of v) (address_of w) (take k run) (take k others) order
      (read-take ranges (address_of v) run k here within) (read-take ranges (address_of w) others k there inner) none nothing is other

  pub step-more : v < 2 ^ 64 → w < 2 ^ 64 → address_of v + length run < 2 ^ 56 → address_of w + length others < 2 ^ 56 → order ≡ Equal
      → compared (read_bytes ranges (address_of v) left) (read_bytes ranges (address_of w) left)
      ≡ compared (read_bytes ranges (address_of (v + k)) (left - k)) (read_bytes ranges (address_of (w + k)) (left - k))
  step-more fits fit inside in_space equal =
      compared-more ranges k left most (address_of v) (address_of w) (take k run) (take k others)
      (read-take ranges (address_of v) run k here within) (read-take ranges (address_of w) others k there inner) none nothing (sym is ∙ equal)
      ∙ ap (λ (a : ℕ). compared (read_bytes ranges a (left - k)) (read_bytes ranges (address_of w + k) (left - k))) (sym (next-address_of v k fits (omega (arith, inside, within))))
      ∙ ap (λ (a : ℕ). compared (read_bytes ranges (address_of (v + k)) (left - k)) (read_bytes ranges a (left - k))) (sym (next-address_of w k fit (omega (arith, in_space, inner))))
