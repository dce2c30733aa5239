-- The module that a text spells, part by part, without its functions.
use Rattle.std.specs.Prelude.{ℕ, ◌==◌, ◌≡◌, List, [], ◌∷◌, ◌++◌, map, take, drop, length, slice_get, slice_set, replicate, Bool, true, false, if◌then◌else◌, Option, Some, None}
use Rattle.ir_core.specs.declared.types.IrType.{IrType}
use Rattle.ir_core.specs.declared.types.IrType.TheVariants.{Int, Pair}
use Rattle.ir_core.specs.declared.lib_functions.Lib.{Lib}
use Rattle.ir_core.specs.declared.lib_functions.Lib.TheVariants.{Overflow}
use Rattle.ir_core.specs.declared.ir_module.Declare.{Declare}
use Rattle.ir_core.specs.Tokens.{bytes_of}
use Rattle.ir_core.specs.Externals.{IsExternal}
use Rattle.ir_text.specs.Names.{global_name}
use Rattle.ir_grammar.specs.declared.spelled.SpelledType.{SpelledType}
use Rattle.ir_grammar.specs.declared.spelled.SpelledType.TheVariants as spelled
use Rattle.ir_grammar.specs.declared.spelled.SpelledParameter.{SpelledParameter}
use Rattle.ir_grammar.specs.declared.spelled.SpelledItem.{SpelledItem}
use Rattle.ir_grammar.specs.declared.spelled.SpelledItem.TheVariants as items
use Rattle.ir_grammar.specs.declared.spelled_bodies.SpelledInstruction.{SpelledInstruction}
use Rattle.ir_grammar.specs.declared.spelled_bodies.SpelledOperation.{SpelledOperation}
use Rattle.ir_grammar.specs.declared.spelled_bodies.SpelledOperation.TheVariants as operations
use Rattle.ir_type_numbers.specs.Numbering.{number_at}

-- ---- the functions that declares name

-- the function of the outside that an item declares, if it declares one
abbrev pub IsLibOf : List ℕ → SpelledItem → Option Lib → Type 0
IsLibOf source (items.Declare name ty first count) lib = IsExternal (global_name (bytes_of source name)) lib
IsLibOf source other lib = lib ≡ None

-- the same for each of some items
abbrev pub AreLibsOf : List ℕ → List SpelledItem → List (Option Lib) → Type 0
AreLibsOf source [] [] = Unit {0}
AreLibsOf source [] (lib ∷ libs) = ⊥
AreLibsOf source (item ∷ rest) [] = ⊥
AreLibsOf source (item ∷ rest) (lib ∷ libs) = IsLibOf source item lib × AreLibsOf source rest libs

-- ---- types

-- the type that an item defines is marked
abbrev pub mark : List Bool → SpelledItem → List Bool
mark marks (items.Type name ty) = slice_set marks ty true
mark marks other = marks

-- the types that items define are marked
abbrev pub marked : List Bool → List SpelledItem → List Bool
marked marks [] = marks
marked marks (item ∷ rest) = marked (mark marks item) rest

-- one mark a spelled type: it is the body of a named type
abbrev pub named_marks : List SpelledItem → List SpelledType → List Bool
named_marks defined types = marked (replicate (length types) false) defined

-- the width of the first of an integer and an i1
abbrev pub pair_width : Option IrType → Option IrType → Option ℕ
pair_width (Some (Int width)) (Some (Int bit)) = if bit == 1 then Some width else None
pair_width first second = None

-- the same, of the types with two numbers
abbrev pub pair_by : List IrType → List ℕ → Option ℕ
pair_by types [] = None
pair_by types (a ∷ []) = None
pair_by types (a ∷ b ∷ []) = pair_width (slice_get types a) (slice_get types b)
pair_by types (a ∷ b ∷ c ∷ more) = None

-- the width of the integer in a literal, unpacked struct of an integer and an i1, by the types of its fields
abbrev pub pair_of : List IrType → List ℕ → Option SpelledType → Option ℕ
pair_of types fields (Some (spelled.Struct first count packed)) = if packed then None else pair_by types (take count (drop first fields))
pair_of types fields other = None

-- the type with this number becomes a pair, if there is a width
abbrev pub set_pair : List IrType → ℕ → Option ℕ → List IrType
set_pair types n None = types
set_pair types n (Some width) = slice_set types n (Pair width)

-- the result of a declared intrinsic with overflow, if it is spelled as such a struct, is a pair
abbrev pub with_pair : List SpelledType → List ℕ → List IrType → SpelledItem → Option Lib → List IrType
with_pair spelled fields types (items.Declare name ty first count) (Some (Overflow op width)) = set_pair types ty (pair_of types fields (slice_get spelled ty))
with_pair spelled fields types item lib = types

-- the results of all declared intrinsics with overflow
abbrev pub with_pairs : List SpelledType → List ℕ → List IrType → List SpelledItem → List (Option Lib) → List IrType
with_pairs spelled fields types [] libs = types
with_pairs spelled fields types (item ∷ rest) [] = types
with_pairs spelled fields types (item ∷ rest) (lib ∷ libs) = with_pairs spelled fields (with_pair spelled fields types item lib) rest libs

-- the result of a call, if it is spelled as such a struct, is a pair: no other function than such an intrinsic returns one
abbrev pub with_call : List SpelledType → List ℕ → List IrType → SpelledOperation → List IrType
with_call spelled fields types (operations.Call name result first count) = set_pair types result (pair_of types fields (slice_get spelled result))
with_call spelled fields types other = types

-- the results of all calls
abbrev pub with_calls : List SpelledType → List ℕ → List IrType → List SpelledInstruction → List IrType
with_calls spelled fields types [] = types
with_calls spelled fields types (i ∷ rest) = with_calls spelled fields (with_call spelled fields types i.operation) rest

-- the results of declares and of calls
abbrev pub all_pairs : List SpelledType → List ℕ → List IrType → List SpelledItem → List (Option Lib) → List SpelledInstruction → List IrType
all_pairs spelled fields types items libs instructions = with_calls spelled fields (with_pairs spelled fields types items libs) instructions

-- ---- declares

-- the types of parameters, by number
abbrev pub parameter_types : List ℕ → List SpelledParameter → List ℕ
parameter_types numbers parameters = map (λ p. number_at numbers p.ty) parameters

-- the declare of an item, if it declares a function of the outside
abbrev pub declare_of : List ℕ → List SpelledParameter → SpelledItem → Option Lib → List Declare
declare_of numbers parameters (items.Declare name ty first count) (Some lib) =
    record { lib = lib; result = number_at numbers ty; params = parameter_types numbers (take count (drop first parameters)); place = name.place } ∷ []
declare_of numbers parameters item lib = []

-- the declares of functions of the outside, in order of the text
abbrev pub declares_of : List ℕ → List SpelledParameter → List SpelledItem → List (Option Lib) → List Declare
declares_of numbers parameters [] libs = []
declares_of numbers parameters (item ∷ rest) [] = []
declares_of numbers parameters (item ∷ rest) (lib ∷ libs) = declare_of numbers parameters item lib ++ declares_of numbers parameters rest libs
