-- The room that types take in memory: sizes and alignments in bytes (LLVM Language Reference, "Data Layout"; the
-- alignments are those that Clang uses for 64-bit Arm). A type holds the item of its array, or its fields; a pointer
-- holds nothing.
use Rattle.std.specs.Prelude.{ℕ, zero, suc, ◌+◌, ◌-◌, ◌*◌, ◌/◌, ◌%◌, ◌^◌, ◌<◌, min, max, Bool, true, false, nat_le, if◌then◌else◌, List, [], ◌∷◌, map, take, drop, length, fold, slice_get, slice_index, slice_index_or, ◌≡◌, Some, Option}
use Rattle.ir_core.specs.declared.types.IrType.{IrType}
use Rattle.ir_core.specs.declared.types.IrType.TheVariants.{Void, Int, Ptr, Array, Struct, Opaque, Pair}
use Rattle.ir_core.specs.declared.types.TypeLayout.{TypeLayout}
use Rattle.ir_core.specs.declared.types.TypeLayout.TheVariants.{Known, NoSize, Loop}

-- 2^40 + 1: what stands for every size above 2^40
abbrev pub size_cap : ℕ
size_cap = 2 ^ 40 + 1

-- how many bytes lie between an offset and the next multiple of an alignment
abbrev pub padding : ℕ → ℕ → ℕ
padding at align = (align - at % align) % align

-- the next multiple of an alignment
abbrev pub align_up : ℕ → ℕ → ℕ
align_up at align = at + padding at align

-- the bytes of an integer: an eighth of its bits, rounded up
abbrev pub int_store_size : ℕ → ℕ
int_store_size width = (width + 7) / 8

-- the alignment of an integer: 1, 2, 4, 8 or 16 for a width up to 8, 16, 32, 64 or above
abbrev pub int_align : ℕ → ℕ
int_align width =
    if nat_le width 8 then 1 else (if nat_le width 16 then 2 else (if nat_le width 32 then 4 else (if nat_le width 64 then 8 else 16)))

-- an integer takes its bytes rounded up to its alignment
abbrev pub int_layout : ℕ → TypeLayout
int_layout width = Known (align_up (int_store_size width) (int_align width)) (int_align width)

-- an array takes its items one after the other
abbrev pub array_layout : ℕ → TypeLayout → TypeLayout
array_layout count (Known size align) = Known (count * size) align
array_layout count NoSize = NoSize
array_layout count Loop = Loop

-- in a packed struct every alignment counts as 1
abbrev pub field_align : Bool → ℕ → ℕ
field_align packed align = if packed then 1 else align

-- where a field begins, by the end of the field before it
abbrev pub field_start : Bool → ℕ → ℕ → ℕ
field_start packed at align = align_up at (field_align packed align)

-- one more field behind those of a struct so far: it begins at the next multiple of its alignment, and the greatest
-- alignment counts. A field that holds itself decides, and then one without a size
abbrev pub with_field : Bool → TypeLayout → TypeLayout → TypeLayout
with_field packed (Known at most) (Known size align) = Known (field_start packed at align + size) (max most (field_align packed align))
with_field packed (Known at most) NoSize = NoSize
with_field packed (Known at most) Loop = Loop
with_field packed NoSize (Known size align) = NoSize
with_field packed NoSize NoSize = NoSize
with_field packed NoSize Loop = Loop
with_field packed Loop field = Loop

-- the fields of a struct one after the other, by their layouts: nothing, at alignment 1, to begin with
abbrev pub fields_layout : Bool → List TypeLayout → TypeLayout
fields_layout packed fields = fold (with_field packed) (Known 0 1) fields

-- its size rounded up to its alignment
abbrev pub rounded : TypeLayout → TypeLayout
rounded (Known size align) = Known (align_up size align) align
rounded NoSize = NoSize
rounded Loop = Loop

-- a struct takes its fields, and is rounded up
abbrev pub struct_layout : Bool → List TypeLayout → TypeLayout
struct_layout packed fields = rounded (fields_layout packed fields)

-- the layout at a number in a list. A number past the end names no type, and nothing is laid out there
abbrev pub layout_at : List TypeLayout → ℕ → TypeLayout
layout_at layouts n = slice_index_or layouts n Loop

-- the numbers of a struct's field types
abbrev pub field_types : List ℕ → ℕ → ℕ → List ℕ
field_types fields first count = take count (drop first fields)

-- the layout of a type, by those of the types that it holds
abbrev pub type_layout : List ℕ → List TypeLayout → IrType → TypeLayout
type_layout fields layouts Void = NoSize
type_layout fields layouts (Int width) = int_layout width
type_layout fields layouts Ptr = Known 8 8
type_layout fields layouts (Array count item) = array_layout count (layout_at layouts item)
type_layout fields layouts (Struct first count packed) = struct_layout packed (map (layout_at layouts) (field_types fields first count))
type_layout fields layouts Opaque = NoSize
type_layout fields layouts (Pair width) = struct_layout false (int_layout width ∷ int_layout 1 ∷ [])

-- the layouts of the types that hold types at most so many deep, and Loop for all others
abbrev pub layouts_within : List IrType → List ℕ → ℕ → List TypeLayout
layouts_within types fields zero = map (λ _. Loop) types
layouts_within types fields (suc depth) = map (type_layout fields (layouts_within types fields depth)) types

-- the layouts of all types, exactly. A type that holds types more levels deep than there are types holds, on the way,
-- one of them twice: it holds itself, or a type that does
abbrev pub exact_layouts : List IrType → List ℕ → List TypeLayout
exact_layouts types fields = layouts_within types fields (length types)

-- a size above 2^40 counts as 2^40 + 1
abbrev pub capped : TypeLayout → TypeLayout
capped (Known size align) = Known (min size size_cap) align
capped NoSize = NoSize
capped Loop = Loop

-- one layout a type, as it is kept
abbrev pub layouts_of : List IrType → List ℕ → List TypeLayout
layouts_of types fields = map capped (exact_layouts types fields)

-- the bytes that a layout says, 0 where it says none
abbrev pub layout_size : TypeLayout → ℕ
layout_size (Known size align) = size
layout_size NoSize = 0
layout_size Loop = 0

-- the alignment that a layout says, 1 where it says none
abbrev pub layout_align : TypeLayout → ℕ
layout_align (Known size align) = align
layout_align NoSize = 1
layout_align Loop = 1

-- the layout says a size
abbrev pub is_known : TypeLayout → Bool
is_known (Known size align) = true
is_known NoSize = false
is_known Loop = false

-- the type has a size
abbrev pub has_size_of : List IrType → List ℕ → ℕ → Bool
has_size_of types fields n = is_known (layout_at (exact_layouts types fields) n)

-- the alloc size of a type with a size
abbrev pub alloc_size_of : List IrType → List ℕ → ℕ → ℕ
alloc_size_of types fields n = layout_size (layout_at (exact_layouts types fields) n)

-- the store size: what a load or store of an integer touches, and for every other type the alloc size
abbrev pub store_size_by : Option IrType → ℕ → ℕ
store_size_by (Some (Int width)) alloc_size = int_store_size width
store_size_by other alloc_size = alloc_size

-- the store size of a type with a size
abbrev pub store_size_of : List IrType → List ℕ → ℕ → ℕ
store_size_of types fields n = store_size_by (slice_get types n) (alloc_size_of types fields n)

-- where field number k of a struct begins, by the layouts of its fields
abbrev pub offset_in : Bool → List TypeLayout → ℕ → ℕ
offset_in packed fields k = field_start packed (layout_size (fields_layout packed (take k fields))) (layout_align (layout_at fields k))

-- where a field of a type begins, if it is a struct
abbrev pub field_offset_by : List ℕ → List TypeLayout → Option IrType → ℕ → ℕ
field_offset_by fields layouts (Some (Struct first count packed)) k = offset_in packed (map (layout_at layouts) (field_types fields first count)) k
field_offset_by fields layouts other k = 0

-- where field number k of a struct type begins
abbrev pub field_offset_of : List IrType → List ℕ → ℕ → ℕ → ℕ
field_offset_of types fields n k = field_offset_by fields (exact_layouts types fields) (slice_get types n) k

-- the type is a struct that has a field number k
abbrev pub IsField : List ℕ → Option IrType → ℕ → Type 0
IsField fields (Some (Struct first count packed)) k = k < length (field_types fields first count)
IsField fields other k = ⊥

-- the offsets of all fields of a type, if it is a struct, in order
abbrev pub AreFieldOffsets : List IrType → List ℕ → ℕ → List ℕ → Type 0
AreFieldOffsets types fields n offsets =
    (k : ℕ) → IsField fields (slice_get types n) k → (k < length offsets) × (slice_index offsets k ≡ field_offset_of types fields n k)
