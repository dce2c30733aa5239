-- Values that are of types, and pointers that lead to objects which were born. A byte of a pointer leads where the pointer does.
use Rattle.std.specs.Prelude.{◌≡◌, ℕ, ◌<◌, List, length, slice_get, true, Option, Some, None}
use Rattle.hw_base.specs.declared.pointers.Base.{Base}
use Rattle.hw_base.specs.declared.pointers.Base.TheVariants.{Null, Object}
use Rattle.hw_base.specs.declared.pointers.Obj.{Obj}
use Rattle.ir_core.specs.declared.types.IrType.{IrType}
use Rattle.ir_core.specs.declared.ir_module.Module.{Module}
use Rattle.ir_meaning.specs.Births.{Birth, Globals, SourceObject, get_object, is_living, region_of}
use Rattle.ir_meaning.specs.BirthChanges.{HaveTheirBytes}
use Rattle.ir_meaning.specs.Operands.{of_kind}
use Rattle.ir_meaning.specs.Values.{Value, Integer, Address, IntegerAndBit, SourceByte, Data, Piece}

-- a value is of a type: an integer, a pointer, or a pair, as the type says
abbrev pub IsOfType : IrType → Value → Type 0
IsOfType type value = of_kind type value ≡ Some value

-- ---- pointers

-- an object was born
abbrev pub IsBorn : List Birth → Obj → Type 0
IsBorn births o = (x : SourceObject) × (get_object births o ≡ Some x)

abbrev pub IsKnownBase : List Birth → Base → Type 0
IsKnownBase births Null = Unit {0}
IsKnownBase births (Object o) = IsBorn births o

abbrev pub IsKnownValue : List Birth → Value → Type 0
IsKnownValue births (Integer n) = Unit {0}
IsKnownValue births (Address base off) = IsKnownBase births base
IsKnownValue births (IntegerAndBit n bit) = Unit {0}

abbrev pub IsKnownByte : List Birth → SourceByte → Type 0
IsKnownByte births (Data n) = Unit {0}
IsKnownByte births (Piece o off j) = IsBorn births o

abbrev pub AreKnownBytes : List Birth → List SourceByte → Type 0
AreKnownBytes births bytes = (k : ℕ) (byte : SourceByte) → slice_get bytes k ≡ Some byte → IsKnownByte births byte

-- ---- births

-- The global variables were born and live, all pointers in memory lead to what was born, and each object has its bytes.
pub record AreGoodBirths (m : Module) (births : List Birth) : Type 0 where
  pub globals : (index : ℕ) → index < length m.globals → IsBorn births (record { birth = 0; index = index })
  pub living : (o : Obj) (x : SourceObject) → get_object births o ≡ Some x → region_of births o ≡ Globals → is_living x.life ≡ true
  pub bytes : (o : Obj) (x : SourceObject) → get_object births o ≡ Some x → AreKnownBytes births x.bytes
  pub sizes : HaveTheirBytes births

-- the value of an operand is there, of its type, and known
abbrev pub HasValue : List Birth → IrType → Option Value → Type 0
HasValue births type None = ⊥
HasValue births type (Some value) = IsOfType type value × IsKnownValue births value
