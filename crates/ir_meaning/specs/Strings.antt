-- Strings in memory (the C standard, "String handling conventions"): the bytes from a pointer on up to the first byte 0.
-- They are read one by one, the access first and then the byte. That no string is read over a piece of a pointer is this
-- project's choice.
use Rattle.std.specs.Prelude.{ℕ, zero, suc, ◌+◌, ◌%◌, ◌^◌, List, [], ◌∷◌}
use Rattle.hw_base.specs.declared.accesses.Access.TheVariants.{Read}
use Rattle.hw_base.specs.declared.pointers.Base.{Base}
use Rattle.hw_base.specs.declared.pointers.Base.TheVariants.{Null, Object}
use Rattle.ir_meaning.specs.Values.{SourceByte, Data, Piece}
use Rattle.ir_meaning.specs.Births.{Birth, get_object, size_in, bytes_at}
use Rattle.ir_meaning.specs.AccessRule.{AccessAnswer, Fine, Violates, WritesConstant, IsOutside, NoAnswer, access_answer}

-- A string with its bytes; or the first byte that can't be read: the access rule refuses the one at this offset, or it is a
-- piece of a pointer. `NotEnded` says that the tries ran out.
pub data StringAnswer : Type 0 where
  Whole : List ℕ → StringAnswer
  Refused : (off : ℕ) → AccessAnswer → StringAnswer
  MeetsPiece : StringAnswer
  NotEnded : StringAnswer

-- one more byte before a string
abbrev pub byte_before : ℕ → StringAnswer → StringAnswer
byte_before n (Whole ns) = Whole (n ∷ ns)
byte_before n (Refused off refusal) = Refused off refusal
byte_before n MeetsPiece = MeetsPiece
byte_before n NotEnded = NotEnded

-- by the byte at a place, and the string after it
abbrev pub by_byte : List SourceByte → StringAnswer → StringAnswer
by_byte [] later = NotEnded
by_byte (Data zero ∷ bytes) later = Whole []
by_byte (Data (suc n) ∷ bytes) later = byte_before (suc n) later
by_byte (Piece o off j ∷ bytes) later = MeetsPiece

-- the string from a byte on, if the access to the byte is fine
abbrev pub by_access : (off : ℕ) → AccessAnswer → StringAnswer → StringAnswer
by_access off Fine found = found
by_access off (Violates kind) found = Refused off (Violates kind)
by_access off WritesConstant found = Refused off WritesConstant
by_access off (IsOutside reason) found = Refused off (IsOutside reason)
by_access off NoAnswer found = Refused off NoAnswer

-- the string at a pointer, of which so many bytes are tried at most
unfoldable pub string_from : (tries : ℕ) → List Birth → Base → (off : ℕ) → StringAnswer
string_from zero births base off = NotEnded
string_from (suc tries) births base off =
    by_access off (access_answer births Read base off 1 1)
    (by_byte (bytes_at births base off 1) (string_from tries births base ((off + 1) % 2 ^ 64)))

abbrev pub base_size : List Birth → Base → ℕ
base_size births Null = 0
base_size births (Object o) = size_in (get_object births o)

-- The string at a pointer: one byte more than its object has is tried at most.
abbrev pub string_at : List Birth → Base → (off : ℕ) → StringAnswer
string_at births base off = string_from (suc (base_size births base)) births base off
