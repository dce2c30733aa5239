-- From types as they are spelled to the types of a module, by numbers. Every spelled type has a number, and an entry in
-- the module's list of types under that number. A name is another word for the type that it leads to, by however many
-- names (LLVM Language Reference, "Type System"). For each spelled type a list of leads has a number: for a name that of
-- the type in its definition, for any other type its own.
use Rattle.std.specs.Prelude.{◌≡◌, ℕ, zero, suc, ◌^◌, ◌<◌, Bool, true, false, if◌then◌else◌, List, map, length, slice_get, slice_index_or, Option, Some, None}
use Rattle.std.specs.List.{range_with_len}
use Rattle.ir_core.specs.declared.types.IrType.{IrType}
use Rattle.ir_core.specs.declared.types.IrType.TheVariants.{Void, Int, Ptr, Array, Struct, Opaque}
use Rattle.ir_grammar.specs.declared.spelled.SpelledType.{SpelledType}
use Rattle.ir_grammar.specs.declared.spelled.SpelledType.TheVariants as spelled

-- the number at a place in a list, 0 past its end
abbrev pub number_at : List ℕ → ℕ → ℕ
number_at numbers place = slice_index_or numbers place 0

-- where two steps lead, by where one leads
abbrev pub twice : List ℕ → List ℕ
twice leads = map (number_at leads) leads

-- where 2^k steps lead
unfoldable pub leads_within : ℕ → List ℕ → List ℕ
leads_within zero leads = leads
leads_within (suc k) leads = twice (leads_within k leads)

-- 2^32 steps, more than there are types, end at a type that is no name, or else in a ring of names
abbrev pub far_leads : List ℕ → List ℕ
far_leads leads = leads_within 32 leads

-- there is a type, and it is no name
abbrev pub is_no_name : Option SpelledType → Bool
is_no_name None = false
is_no_name (Some (spelled.Named name)) = false
is_no_name (Some spelled.Void) = true
is_no_name (Some spelled.Ptr) = true
is_no_name (Some (spelled.Int width)) = true
is_no_name (Some spelled.Opaque) = true
is_no_name (Some spelled.Metadata) = true
is_no_name (Some (spelled.Array count item)) = true
is_no_name (Some (spelled.Struct first count packed)) = true

-- the number that a type leads to, if a type stands there that is no name, and else the type's own
abbrev pub led_to : List SpelledType → ℕ → ℕ → ℕ
led_to types own end = if is_no_name (slice_get types end) then end else own

-- the number of the type that each spelled type stands for: a type that is no name for itself, a name for the type that
-- it leads to, and a name that leads to names for ever for itself
abbrev pub stands_for : List SpelledType → List ℕ → List ℕ
stands_for types leads = map (λ n. led_to types n (number_at (far_leads leads) n)) (range_with_len 0 (length types))

-- the module's type for the spelled type with a number, by what all types stand for. `metadata` is kept as an opaque
-- type. A name is an array of one item, the type that it stands for, and is laid out like it; one that stands for itself
-- holds itself
abbrev pub module_type : List ℕ → ℕ → Option SpelledType → IrType
module_type numbers own None = Opaque
module_type numbers own (Some (spelled.Named name)) = Array 1 (number_at numbers own)
module_type numbers own (Some spelled.Void) = Void
module_type numbers own (Some spelled.Ptr) = Ptr
module_type numbers own (Some (spelled.Int width)) = Int width
module_type numbers own (Some spelled.Opaque) = Opaque
module_type numbers own (Some spelled.Metadata) = Opaque
module_type numbers own (Some (spelled.Array count item)) = Array count (number_at numbers item)
module_type numbers own (Some (spelled.Struct first count packed)) = Struct first count packed

-- the module's types: one entry a spelled type, in order
abbrev pub module_types : List SpelledType → List ℕ → List IrType
module_types types numbers = map (λ n. module_type numbers n (slice_get types n)) (range_with_len 0 (length types))

-- the module's fields: each the number of what its type stands for
abbrev pub module_fields : List ℕ → List ℕ → List ℕ
module_fields fields numbers = map (number_at numbers) fields

-- a type's numbers fit those of a module's types: the width and the places of fields 32 bits, the count of items 64
abbrev pub FitsModule : SpelledType → Type 0
FitsModule spelled.Void = Unit {0}
FitsModule spelled.Ptr = Unit {0}
FitsModule (spelled.Int width) = width < 2 ^ 32
FitsModule spelled.Opaque = Unit {0}
FitsModule spelled.Metadata = Unit {0}
FitsModule (spelled.Named name) = Unit {0}
FitsModule (spelled.Array count item) = count < 2 ^ 64
FitsModule (spelled.Struct first count packed) = (first < 2 ^ 32) × (count < 2 ^ 32)

-- each type leads to a type, and one that is no name to itself
pub record IsLeading (types : List SpelledType) (leads : List ℕ) : Type 0 where
  pub same : length leads ≡ length types
  pub inside : (n : ℕ) → n < length types → number_at leads n < length types
  pub own : (n : ℕ) → is_no_name (slice_get types n) ≡ true → number_at leads n ≡ n
