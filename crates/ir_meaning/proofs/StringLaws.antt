-- The scan of a string ends: at the latest the access to the byte after its object is refused.
use Rattle.std.proofs.Common.{◌≡◌, ◌≢◌, ℕ, zero, suc, ◌+◌, ◌%◌, ◌^◌, ◌<◌, Bool, true, false, List, [], ◌∷◌, length, take, drop, Option, Some, None, refl, sym, ◌∙◌, ap, arith, nat_le, ◌==◌, if◌then◌else◌}
use Rattle.std.proofs.Math.Nat.{mod-eq_of_lt}
use Rattle.std.proofs.lemmas.Bool.Decides.{nat_tests}
use Rattle.hw_base.specs.declared.accesses.Access.TheVariants.{Read}
use Rattle.hw_base.specs.declared.pointers.Base.{Base}
use Rattle.hw_base.specs.declared.pointers.Base.TheVariants.{Null, Object}
use Rattle.hw_base.specs.declared.pointers.Obj.{Obj}
use Rattle.ir_meaning.specs.Values.{SourceByte, Data, Piece}
use Rattle.ir_meaning.specs.Births.{Birth, Region, Globals, Stack, Heap, SourceObject, get_object, region_of, bytes_in, size_in, bytes_at, is_living}
use Rattle.ir_meaning.specs.BirthChanges.{HaveTheirBytes}
use Rattle.ir_meaning.specs.AccessRule.{AccessAnswer, Fine, Violates, WritesConstant, IsOutside, NoAnswer, access_rule, access_answer, accessed_in, dead_answer, bytes_answer}
use Rattle.ir_meaning.specs.Strings.{StringAnswer, Whole, Refused, MeetsPiece, NotEnded, byte_before, by_byte, by_access, string_from, string_at, base_size}

-- a read that is fine is inside a living object
pub record IsInside (births : List Birth) (base : Base) (off : ℕ) : Type 0 where
  pub o : Obj
  pub x : SourceObject
  pub based : base ≡ Object o
  pub there : get_object births o ≡ Some x
  pub alive : is_living x.life ≡ true
  pub below : off < x.size

dead-not_fine : (region : Region) → dead_answer region ≡ Fine → ⊥
dead-not_fine Globals e = absurd cc
dead-not_fine (Stack func) e = absurd cc
dead-not_fine Heap e = absurd cc

fine-test : (test : Bool) (answer other : AccessAnswer) → (other ≡ Fine → ⊥) → (if test then answer else other) ≡ Fine → (test ≡ true) × (answer ≡ Fine)
fine-test true found other refused e = (refl, e)
fine-test false found other refused e = absurd (refused e)

pub read-inside : (births : List Birth) (base : Base) (off : ℕ) → access_answer births Read base off 1 1 ≡ Fine → IsInside births base off
unfolding access_rule
read-inside births Null off e =
    let (aligned, fine) = fine-test (off % 1 == 0) _ _ (λ h. absurd cc) e in
    absurd cc
read-inside births (Object o) off e = by_object (get_object births o) refl e
  where
    by_object : (found : Option SourceObject) → get_object births o ≡ found → bytes_answer Read (accessed_in (region_of births o) found) off 1 1 ≡ Fine → IsInside births (Object o) off
    by_object None here h =
        let (aligned, fine) = fine-test (off % 1 == 0) _ _ (λ k. absurd cc) h in
        absurd cc
    by_object (Some x) here h =
        let (aligned, fine) = fine-test (off % 1 == 0) _ _ (λ k. absurd cc) h in
        let (alive, inside) = fine-test (is_living x.life) _ _ (dead-not_fine (region_of births o)) fine in
        let (within, last) = fine-test (nat_le (off + 1) x.size) _ _ (λ k. absurd cc) inside in
        record { o = o; x = x; based = refl; there = here; alive = alive; below = grind (arith, nat_tests) }

-- there is a byte at an offset below the length
take-drop-some : {X : Type 0} (xs : List X) (i : ℕ) → i < length xs → take 1 (drop i xs) ≡ [] → ⊥
take-drop-some [] i h e = omega arith
take-drop-some (x ∷ xs) zero h e = absurd cc
take-drop-some (x ∷ xs) (suc i) h e = take-drop-some xs i (omega arith) e

not_ended-access : (off : ℕ) (answer : AccessAnswer) (found : StringAnswer) → (answer ≡ Fine → found ≢ NotEnded) → by_access off answer found ≢ NotEnded
not_ended-access off Fine found h e = h refl e
not_ended-access off (Violates kind) found h e = absurd cc
not_ended-access off WritesConstant found h e = absurd cc
not_ended-access off (IsOutside reason) found h e = absurd cc
not_ended-access off NoAnswer found h e = absurd cc

not_ended-before : (n : ℕ) (found : StringAnswer) → found ≢ NotEnded → byte_before n found ≢ NotEnded
not_ended-before n (Whole ns) h e = absurd cc
not_ended-before n (Refused off refusal) h e = absurd cc
not_ended-before n MeetsPiece h e = absurd cc
not_ended-before n NotEnded h e = h refl

not_ended-byte : (bytes : List SourceByte) (later : StringAnswer) → (bytes ≡ [] → ⊥) → later ≢ NotEnded → by_byte bytes later ≢ NotEnded
not_ended-byte [] later some h e = some refl
not_ended-byte (Data zero ∷ bytes) later some h e = absurd cc
not_ended-byte (Data (suc n) ∷ bytes) later some h e = not_ended-before (suc n) later h e
not_ended-byte (Piece o off j ∷ bytes) later some h e = absurd cc

length-alive : (alive : Bool) (n size : ℕ) → n ≡ (if alive then size else 0) → alive ≡ true → n ≡ size
length-alive true n size e h = e
length-alive false n size e h = absurd cc

bytes-some : (births : List Birth) (base : Base) (off : ℕ) → HaveTheirBytes births → IsInside births base off → bytes_at births base off 1 ≡ [] → ⊥
bytes-some births base off have h e =
    let is : bytes_at births base off 1 ≡ take 1 (drop off h.x.bytes) = ap (λ b. bytes_at births b off 1) h.based ∙ ap (λ found. take 1 (drop off (bytes_in found))) h.there in
    let many : length h.x.bytes ≡ h.x.size = length-alive (is_living h.x.life) (length h.x.bytes) h.x.size (have h.o h.x h.there) h.alive in
    let below = h.below in
    take-drop-some h.x.bytes off (omega arith) (sym is ∙ e)

size-inside : (births : List Birth) (base : Base) (off : ℕ) (h : IsInside births base off) → base_size births base ≡ h.x.size
size-inside births base off h = ap (base_size births) h.based ∙ ap size_in h.there

-- with one try more than there are bytes left, and one at least, the tries don't run out
string_from-ends : (tries : ℕ) (births : List Birth) (base : Base) (off : ℕ) → HaveTheirBytes births → base_size births base < 2 ^ 64 → base_size births base < off + tries → 0 < tries → string_from tries births base off ≢ NotEnded
unfolding string_from
string_from-ends zero births base off have small enough some = λ e. omega arith
string_from-ends (suc tries) births base off have small enough some =
    not_ended-access off (access_answer births Read base off 1 1) _ (λ fine.
    let inside = read-inside births base off fine in
    let size : base_size births base ≡ inside.x.size = size-inside births base off inside in
    let below = inside.below in
    let next : (off + 1) % 2 ^ 64 ≡ off + 1 = mod-eq_of_lt (omega arith) in
    not_ended-byte (bytes_at births base off 1) (string_from tries births base ((off + 1) % 2 ^ 64))
    (bytes-some births base off have inside)
    (string_from-ends tries births base ((off + 1) % 2 ^ 64) have small (rw next (omega arith)) (omega arith)))

-- the scan of a string ends
pub string_at-ends : (births : List Birth) (base : Base) (off : ℕ) → HaveTheirBytes births → base_size births base < 2 ^ 64 → string_at births base off ≢ NotEnded
string_at-ends births base off have small = string_from-ends (suc (base_size births base)) births base off have small (omega arith) (omega arith)
