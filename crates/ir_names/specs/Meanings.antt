-- What the names of types and of global variables stand for (LLVM Language Reference, "Structure Type", "Global Variables").
use Rattle.std.specs.Prelude.{ℕ, List, [], ◌∷◌, map, ◌+◌, slice_index_or, Option, None, Some}
use Rattle.ir_grammar.specs.declared.spelled.SpelledType.{SpelledType}
use Rattle.ir_grammar.specs.declared.spelled.SpelledType.TheVariants.{Named}
use Rattle.ir_grammar.specs.declared.spelled.SpelledConstant.{SpelledConstant}
use Rattle.ir_grammar.specs.declared.spelled.SpelledConstant.TheVariants.{Global as GlobalName}
use Rattle.ir_grammar.specs.declared.spelled.SpelledItem.{SpelledItem}
use Rattle.ir_grammar.specs.declared.spelled.SpelledItem.TheVariants.{«Type» as TypeItem, Global}
use Rattle.ir_grammar.specs.Spelled.{Store}
use Rattle.ir_names.specs.Keys.{type_key, global_key, item_keys, first_with, meant}

-- the type that an item defines, or this one where it defines none
abbrev pub type_or : ℕ → Option SpelledItem → ℕ
type_or j (Some (TypeItem name ty)) = ty
type_or j other = j

-- the number of the type that stands for type j: that in the definition of its name, or itself where it is no name
abbrev pub lead : List ℕ → List (List ℕ) → List SpelledItem → ℕ → SpelledType → ℕ
lead source keys items j (Named token) = type_or j (meant keys items (type_key source token))
lead source keys items j other = j

-- the same for types from number j on
abbrev pub leads_from : List ℕ → List (List ℕ) → List SpelledItem → ℕ → List SpelledType → List ℕ
leads_from source keys items j [] = []
leads_from source keys items j (ty ∷ rest) = lead source keys items j ty ∷ leads_from source keys items (j + 1) rest

-- one number a spelled type: of the type that stands for it
abbrev pub leads_of : List ℕ → List SpelledItem → Store → List ℕ
leads_of source items store = leads_from source (item_keys source items) items 0 store.types

-- one an item: the global variables are numbered from this number on in order of the text, other items have none
abbrev pub numbered : ℕ → List SpelledItem → List (Option ℕ)
numbered n [] = []
numbered n (Global name constant ty value ∷ rest) = Some n ∷ numbered (n + 1) rest
numbered n (other ∷ rest) = None ∷ numbered n rest

-- the number at a place, or none
abbrev pub number_at : List (Option ℕ) → Option ℕ → Option ℕ
number_at numbers None = None
number_at numbers (Some i) = slice_index_or numbers i None

-- the number of the variable that a constant names, or none
abbrev pub variable : List ℕ → List (List ℕ) → List (Option ℕ) → SpelledConstant → Option ℕ
variable source keys numbers (GlobalName token) = number_at numbers (first_with (global_key source token) keys)
variable source keys numbers other = None

-- one a constant: the number of the variable that it names
abbrev pub variables_of : List ℕ → List SpelledItem → Store → List (Option ℕ)
variables_of source items store = map (variable source (item_keys source items) (numbered 0 items)) store.constants
