-- The shapes of types, as words: one letter for the kind of type, and before it one for each part, the part's class. Equal
-- words have one number, which is the class.
use Rattle.std.specs.Prelude.{ℕ, ◌-◌, ◌≡◌, ◌≢◌, ◌<◌, Bool, true, false, ◌==◌, List, [], ◌∷◌, ◌++◌, map, length, count_by, Option, Some, None, All}
use Rattle.ir_core.specs.declared.types.IrType.{IrType}
use Rattle.ir_core.specs.declared.types.IrType.TheVariants as types
use Rattle.ir_core.specs.Holding.{held}
use Rattle.ir_core.specs.Layout.{layout_at, layouts_within}
use Rattle.ir_core.specs.Progress.{is_loop, type_at}
use Rattle.ir_type_numbers.specs.declared.letter.Letter.{Letter}
use Rattle.ir_type_numbers.specs.declared.letter.Letter.TheVariants.{Own, Void, Ptr, Int, Pair, Array, Struct, Part}
use Rattle.ir_type_numbers.specs.Numbering.{number_at}
use Rattle.ir_type_numbers.specs.SameTypes.{is_named}

-- the number of the word that is a letter longer, by the number of a word, as far as there is one
abbrev pub longer_by : (ℕ → Letter → Option ℕ) → Letter → Option ℕ → Option ℕ
longer_by longer letter None = None
longer_by longer letter (Some word) = longer word letter

-- the number of a word, its last letter first: that of the empty word is 0
abbrev pub word_number : (ℕ → Letter → Option ℕ) → List Letter → Option ℕ
word_number longer [] = Some 0
word_number longer (letter ∷ word) = longer_by longer letter (word_number longer word)

-- no two words have one number, and only the empty word has 0
pub record IsNumbering (longer : ℕ → Letter → Option ℕ) : Type 0 where
  pub once : (p q n : ℕ) (l k : Letter) → longer p l ≡ Some n → longer q k ≡ Some n → (p ≡ q) × (l ≡ k)
  pub positive : (p n : ℕ) (l : Letter) → longer p l ≡ Some n → 0 < n

-- all words keep their numbers
abbrev pub Keeps : (ℕ → Letter → Option ℕ) → (ℕ → Letter → Option ℕ) → Type 0
Keeps before after = (p n : ℕ) (l : Letter) → before p l ≡ Some n → after p l ≡ Some n

-- the letter of a struct without its fields: a named one has a letter of its own
abbrev pub struct_kind : Bool → ℕ → Bool → Letter
struct_kind true own packed = Own own
struct_kind false own packed = Struct packed

-- the letter of a type without its parts. An opaque type has one of its own too
abbrev pub kind : Bool → ℕ → IrType → Letter
kind named own types.Void = Void
kind named own types.Ptr = Ptr
kind named own (types.Int width) = Int width
kind named own (types.Pair width) = Pair width
kind named own (types.Array count item) = Array count
kind named own (types.Struct first count packed) = struct_kind named own packed
kind named own types.Opaque = Own own

-- the letter of a part: its class
abbrev pub part_letter : List ℕ → ℕ → Letter
part_letter classes part = Part (number_at classes part)

-- a type's shape by the classes of its parts
abbrev pub shape : List ℕ → List ℕ → Bool → ℕ → IrType → List Letter
shape fields classes named own type = map (part_letter classes) (held fields type) ++ kind named own type ∷ []

-- the shape of the type with a number
abbrev pub shape_at : List IrType → List ℕ → List Bool → List ℕ → ℕ → List Letter
shape_at types fields named classes n = shape fields classes (is_named named n) n (type_at types n)

-- the type with the number has a class; 0 stands for none
abbrev pub IsClassed : List ℕ → ℕ → Type 0
IsClassed classes n = number_at classes n ≢ 0

-- how many types have none
abbrev pub unclassed : List ℕ → ℕ
unclassed classes = count_by (λ class. class == 0) classes

-- each class is the number of its type's shape, and the type's parts have classes too. Each type with a class holds types
-- at most as many deep as there are types with classes
pub record IsClassing (types : List IrType) (fields : List ℕ) (named : List Bool) (longer : ℕ → Letter → Option ℕ) (classes : List ℕ) : Type 0 where
  pub same : length classes ≡ length types
  pub numbering : IsNumbering longer
  pub right : (n : ℕ) → IsClassed classes n → word_number longer (shape_at types fields named classes n) ≡ Some (number_at classes n)
  pub parts : (n : ℕ) → IsClassed classes n → All (IsClassed classes) (held fields (type_at types n))
  pub deep : (n : ℕ) → IsClassed classes n → is_loop (layout_at (layouts_within types fields (length types - unclassed classes)) n) ≡ false

-- a type whose parts have classes has one
abbrev pub IsClosedAt : List IrType → List ℕ → List ℕ → ℕ → Type 0
IsClosedAt types fields classes n = All (IsClassed classes) (held fields (type_at types n)) → IsClassed classes n

-- no further type can get a class
abbrev pub IsClosed : List IrType → List ℕ → List ℕ → Type 0
IsClosed types fields classes = (n : ℕ) → n < length types → IsClosedAt types fields classes n
