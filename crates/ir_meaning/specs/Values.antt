-- Values and bytes of memory of the source program. A pointer is a base, which is null or an object, and an offset; it has
-- no address. So a byte of memory that is part of a stored pointer is a piece of that pointer and no number (LLVM Language
-- Reference, "Pointer Aliasing Rules", where a pointer value is based on an object; the pieces are this project's choice).
use Rattle.std.specs.Prelude.{ℕ}
use Rattle.hw_base.specs.declared.pointers.Base.{Base}
use Rattle.hw_base.specs.declared.pointers.Obj.{Obj}

-- An integer, as its bits without sign, below 2 ^ width for the width that its type has. A pointer, as its base and an offset in bytes
-- below 2 ^ 64. Or an integer and a bit, which `cmpxchg` and the intrinsics with overflow give.
pub data Value : Type 0 where
  Integer : ℕ → Value
  Address : Base → ℕ → Value
  IntegerAndBit : ℕ → ℕ → Value

-- A number from 0 to 255. Or byte j, 0 to 7, of the pointer with this offset into this object. A pointer based on null has
-- no pieces.
pub data SourceByte : Type 0 where
  Data : ℕ → SourceByte
  Piece : Obj → ℕ → ℕ → SourceByte
