-- The eight bytes of a pointer are those of its number.
use Rattle.std.proofs.Common.{◌≡◌, ℕ, zero, suc, ◌+◌, ◌*◌, ◌/◌, ◌%◌, ◌^◌, ◌<◌, ◌==◌, ◌&&◌, Bool, true, false, if◌then◌else◌, List, [], ◌∷◌, length, map, Option, Some, None, option_map, refl, sym, ◌∙◌, ap, subst, arith}
use Rattle.std.proofs.lemmas.Bool.{eqb-true}
use Rattle.hw_base.proofs.ByteLaws.{le_number-le_bytes}
use Rattle.hw_base.specs.Bytes.{byte_of, le_bytes, le_number}
use Rattle.hw_base.specs.declared.pointers.Base.TheVariants.{Null, Object}
use Rattle.hw_base.specs.declared.pointers.Obj.{Obj}
use Rattle.ir_meaning.specs.Encoding.{data_numbers, are_pieces, same_object, pointer_from}
use Rattle.ir_meaning.specs.Values.{Value, Address, SourceByte, Data, Piece}
use Rattle.tag_story.specs.Story.{Placed, StoryBirth, get_placed, number_in, number_of, value_image, byte_image}
use Rattle.simulation.proofs.Sizes.{both, same-placed}
use Rattle.step_simulation.proofs.LoadFollows.{data-images}
use Rattle.step_simulation.proofs.RegisterImages.{IsSingle}
use Rattle.simulation.specs.Parts.{IsKnownValue}
use Rattle.simulation.specs.Writes.{AreKnown}

-- what the machine reads is the image of a value that names an object that was born
pub record IsReadAs (births : List StoryBirth) (bytes : List SourceByte) (v : Value) : Type 0 where
  pub image : le_number (map (byte_image births) bytes) % 2 ^ 64 ≡ value_image births v
  pub known : IsKnownValue births v
  pub one : IsSingle v

-- ---- numbers

pub numbers-below : (births : List StoryBirth) (bytes : List SourceByte) (ns : List ℕ) → AreKnown births bytes → data_numbers bytes ≡ Some ns → le_number (map (byte_image births) bytes) < 256 ^ length bytes
unfolding data_numbers le_number
numbers-below births [] ns known h = omega arith
numbers-below births (Data n ∷ bytes) ns known h =
    by_rest (data_numbers bytes) refl (λ rest e. numbers-below births bytes rest (λ i byte there. known (suc i) byte there) e) h
  where
    by_rest : (o : Option (List ℕ)) → data_numbers bytes ≡ o → ((rest : List ℕ) → data_numbers bytes ≡ Some rest → le_number (map (byte_image births) bytes) < 256 ^ length bytes) → Rattle.ir_meaning.specs.Encoding.number_before n o ≡ Some ns → n + 256 * le_number (map (byte_image births) bytes) < 256 ^ suc (length bytes)
    by_rest None here later e = absurd cc
    by_rest (Some rest) here later e = let below = later rest here in let small : n < 256 = known 0 (Data n) refl in omega (arith, below, small)
numbers-below births (Piece o off j ∷ bytes) ns known h = absurd cc

-- ---- pieces

-- a number without its low bytes
shifted : ℕ → ℕ → ℕ
shifted zero n = n
shifted (suc j) n = shifted j (n / 256)

byte-shifted : (j n : ℕ) → byte_of n j ≡ shifted j n % 256
unfolding byte_of shifted
byte-shifted zero n = refl
byte-shifted (suc j) n = byte-shifted j (n / 256)

next-shifted : (j n : ℕ) → shifted (suc j) n ≡ shifted j n / 256
unfolding shifted
next-shifted zero n = refl
next-shifted (suc j) n = next-shifted j (n / 256)

-- a piece of this pointer
record IsPieceOf (births : List StoryBirth) (o : Obj) (off j : ℕ) (q : Obj) (at i : ℕ) (bytes : List SourceByte) : Type 0 where
  placed : get_placed births q ≡ get_placed births o
  offset : off ≡ at
  number : j ≡ i
  rest : are_pieces o off (j + 1) bytes ≡ true

piece-of : (births : List StoryBirth) (o : Obj) (off j : ℕ) (q : Obj) (at i : ℕ) (bytes : List SourceByte) → are_pieces o off j (Piece q at i ∷ bytes) ≡ true → IsPieceOf births o off j q at i bytes
unfolding are_pieces
piece-of births o off j q at i bytes h =
    let first = both (same_object o q) ((off == at) && ((j == i) && are_pieces o off (j + 1) bytes)) h in
    let second = both (off == at) ((j == i) && are_pieces o off (j + 1) bytes) first.1 in
    let third = both (j == i) (are_pieces o off (j + 1) bytes) second.1 in
    record { placed = same-placed births o q first.0; offset = eqb-true off at second.0; number = eqb-true j i third.0; rest = third.1 }

data-is-no-piece : (o : Obj) (off j n : ℕ) (bytes : List SourceByte) → are_pieces o off j (Data n ∷ bytes) ≡ true → ⊥
unfolding are_pieces
data-is-no-piece o off j n bytes h = absurd cc

pieces-images : (births : List StoryBirth) (o : Obj) (off j : ℕ) (bytes : List SourceByte) → are_pieces o off j bytes ≡ true → map (byte_image births) bytes ≡ le_bytes (length bytes) (shifted j (number_of births (Object o) off))
unfolding le_bytes
pieces-images births o off j [] h = refl
pieces-images births o off j (Data n ∷ bytes) h = absurd (data-is-no-piece o off j n bytes h)
pieces-images births o off j (Piece q at i ∷ bytes) h =
    let is = piece-of births o off j q at i bytes h in
    let next : j + 1 ≡ suc j = omega arith in
    ap (λ n. n ∷ map (byte_image births) bytes) (ap (λ p. byte_of (number_in p at) i) is.placed ∙ ap (λ n. byte_of (number_in (get_placed births o) n) i) (sym is.offset) ∙ ap (byte_of (number_of births (Object o) off)) (sym is.number) ∙ byte-shifted j (number_of births (Object o) off))
    ∙ ap (λ ns. shifted j (number_of births (Object o) off) % 256 ∷ ns)
    (pieces-images births o off (j + 1) bytes is.rest
    ∙ ap (λ k. le_bytes (length bytes) (shifted k (number_of births (Object o) off))) next
    ∙ ap (le_bytes (length bytes)) (next-shifted j (number_of births (Object o) off)))

object-below : (p : Option Placed) (off : ℕ) → number_in p off < 2 ^ 64
object-below None off = let small : off % 2 ^ 64 < 2 ^ 64 = omega arith in small
object-below (Some placed) off = let small : (placed.tag * 2 ^ 56 + (placed.at + off)) % 2 ^ 64 < 2 ^ 64 = omega arith in small

-- ---- pointers

pieces-read : (births : List StoryBirth) (o : Obj) (off j : ℕ) (bytes : List SourceByte) → length (Piece o off j ∷ bytes) ≡ 8 → AreKnown births (Piece o off j ∷ bytes) → are_pieces o off 0 (Piece o off j ∷ bytes) ≡ true → IsReadAs births (Piece o off j ∷ bytes) (Address (Object o) off)
unfolding shifted
pieces-read births o off j bytes eight known h =
    let below = object-below (get_placed births o) off in
    let whole : le_number (map (byte_image births) (Piece o off j ∷ bytes)) ≡ number_of births (Object o) off =
    ap le_number (pieces-images births o off 0 (Piece o off j ∷ bytes) h ∙ ap (λ n. le_bytes n (number_of births (Object o) off)) eight) ∙ le_number-le_bytes 8 (number_of births (Object o) off) below in
    record {
      image = ap (λ n. n % 2 ^ 64) whole ∙ (let same : number_of births (Object o) off % 2 ^ 64 ≡ number_of births (Object o) off = omega (arith, below) in same);
      known = known 0 (Piece o off j) refl;
      one = tt;
    }

numbers-read : (births : List StoryBirth) (bytes : List SourceByte) (ns : List ℕ) → length bytes ≡ 8 → AreKnown births bytes → data_numbers bytes ≡ Some ns → IsReadAs births bytes (Address Null (le_number ns))
numbers-read births bytes ns eight known h =
    let below = numbers-below births bytes ns known h in
    let power : 256 ^ length bytes ≡ 2 ^ 64 = ap (λ n. 256 ^ n) eight in
    let same = ap le_number (data-images births bytes ns h) in
    record {
      image = (let small : le_number (map (byte_image births) bytes) % 2 ^ 64 ≡ le_number (map (byte_image births) bytes) = omega (arith, below, power) in small) ∙ same;
      known = tt;
      one = tt;
    }

pub pointer-read : (births : List StoryBirth) (bytes : List SourceByte) (v : Value) → length bytes ≡ 8 → AreKnown births bytes → pointer_from bytes ≡ Some v → IsReadAs births bytes v
unfolding pointer_from
pointer-read births [] v eight known h = absurd cc
pointer-read births (Data n ∷ bytes) v eight known h = by_numbers (data_numbers (Data n ∷ bytes)) refl h
  where
    by_numbers : (o : Option (List ℕ)) → data_numbers (Data n ∷ bytes) ≡ o → option_map (λ ns. Address Null (le_number ns)) o ≡ Some v → IsReadAs births (Data n ∷ bytes) v
    by_numbers None here e = absurd cc
    by_numbers (Some ns) here e = let is : Address Null (le_number ns) ≡ v = cc in subst (IsReadAs births (Data n ∷ bytes)) is (numbers-read births (Data n ∷ bytes) ns eight known here)
pointer-read births (Piece o off j ∷ bytes) v eight known h = by_test (are_pieces o off 0 (Piece o off j ∷ bytes)) refl h
  where
    by_test : (bit : Bool) → are_pieces o off 0 (Piece o off j ∷ bytes) ≡ bit → (if bit then Some (Address (Object o) off) else None) ≡ Some v → IsReadAs births (Piece o off j ∷ bytes) v
    by_test true here e = let is : Address (Object o) off ≡ v = cc in subst (IsReadAs births (Piece o off j ∷ bytes)) is (pieces-read births o off j bytes eight known here)
    by_test false here e = absurd cc
