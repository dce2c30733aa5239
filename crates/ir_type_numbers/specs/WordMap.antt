-- How words and their numbers are kept: one entry a word, under the number of the word that is a letter shorter and its
-- last letter. The numbers go from 1 on, in the order in which the words came.
use Rattle.std.specs.Prelude.{ℕ, ◌≡◌, ◌<◌, ◌≤◌, Bool, true, false, ◌==◌, ◌&&◌, List, Option, Some}
use Rattle.std.specs.Map.{lookup}
use Rattle.ir_type_numbers.specs.declared.letter.Letter.{Letter}
use Rattle.ir_type_numbers.specs.declared.letter.Letter.TheVariants.{Own, Void, Ptr, Int, Pair, Array, Struct, Part}

-- the same truth value
abbrev pub same_flag : Bool → Bool → Bool
same_flag true true = true
same_flag true false = false
same_flag false true = false
same_flag false false = true

-- the same letter
abbrev pub same_letter : Letter → Letter → Bool
same_letter (Own a) (Own b) = a == b
same_letter Void Void = true
same_letter Ptr Ptr = true
same_letter (Int a) (Int b) = a == b
same_letter (Pair a) (Pair b) = a == b
same_letter (Array a) (Array b) = a == b
same_letter (Struct a) (Struct b) = same_flag a b
same_letter (Part a) (Part b) = a == b
same_letter _ _ = false

-- the same key
abbrev pub same_key : ℕ × Letter → ℕ × Letter → Bool
same_key a b = (a.0 == b.0) && same_letter a.1 b.1

-- the number of the word that is a letter longer, by the number of a word, as far as it has one
abbrev pub longer_in : List ((ℕ × Letter) × ℕ) → ℕ → Letter → Option ℕ
longer_in entries word letter = lookup (same_key (word, letter)) entries

-- no number stands twice, and each is from 1 to the count
pub record IsWordMap (entries : List ((ℕ × Letter) × ℕ)) (count : ℕ) : Type 0 where
  pub once : (p q n : ℕ) (l k : Letter) → longer_in entries p l ≡ Some n → longer_in entries q k ≡ Some n → (p ≡ q) × (l ≡ k)
  pub counted : (p n : ℕ) (l : Letter) → longer_in entries p l ≡ Some n → (0 < n) × (n ≤ count)
