-- The functions that a text defines, what the names in their bodies are resolved against, and which of them is `main` (LLVM
-- Language Reference, "Functions"). That a program begins at `i32 @main()` or `i32 @main(i32, ptr)` is that of C.
use Rattle.std.specs.Prelude.{ℕ, ◌+◌, ◌<◌, ◌^◌, ◌==◌, ◌&&◌, Bool, true, false, List, [], ◌∷◌, ◌++◌, map, take, drop, length, slice_get, codes, Option, Some}
use Rattle.std.specs.List.{position_from}
use Rattle.std.specs.Str.{bytes_eq}
use Rattle.ir_core.specs.declared.token.Token.{Token}
use Rattle.ir_core.specs.declared.meta.Node.{Node}
use Rattle.ir_core.specs.declared.lib_functions.Lib.{Lib}
use Rattle.ir_core.specs.Tokens.{bytes_of}
use Rattle.ir_text.specs.Names.{global_name}
use Rattle.ir_grammar.specs.declared.spelled.SpelledType.{SpelledType}
use Rattle.ir_grammar.specs.declared.spelled.SpelledType.TheVariants as spelled
use Rattle.ir_grammar.specs.declared.spelled.SpelledParameter.{SpelledParameter}
use Rattle.ir_grammar.specs.declared.spelled.SpelledItem.{SpelledItem}
use Rattle.ir_grammar.specs.declared.spelled.SpelledItem.TheVariants as items
use Rattle.ir_grammar.specs.Spelled.{Store}
use Rattle.ir_grammar.specs.DebugNodes.{kept_nodes}
use Rattle.dbg_sites.specs.Read.{node_numbers}
use Rattle.ir_names.specs.declared.fault.NameFault.{NameFault}
use Rattle.ir_names.specs.Keys.{global_key}
use Rattle.ir_names.specs.Faults.{name_faults}
use Rattle.ir_names.specs.Meanings.{leads_of}
use Rattle.ir_type_numbers.specs.Numbering.{number_at, stands_for}
use Rattle.ir_body_names.specs.BodyFaults.{Surroundings, definitions_of, body_faults}
use Rattle.ir_functions.specs.Functions.{Spelled, all_instructions}

-- what each spelled type stands for
abbrev pub numbers_of : List ℕ → Store → List ℕ
numbers_of text store = stands_for store.types (leads_of text store.items store)

-- ---- functions as they are spelled

-- the function that an item defines, if it defines one
abbrev pub spelled_in : Store → SpelledItem → List Spelled
spelled_in store (items.Define name result first count entry blocks) = record {
  name = name;
  result = result;
  parameters = take count (drop first store.parameters);
  blocks = take blocks (drop entry store.bodies.blocks);
} ∷ []
spelled_in store other = []

-- those that items define, in order of the text
abbrev pub spelled_functions : Store → List SpelledItem → List Spelled
spelled_functions store [] = []
spelled_functions store (item ∷ rest) = spelled_in store item ++ spelled_functions store rest

-- those of a whole text
abbrev pub functions_in : Store → List Spelled
functions_in store = spelled_functions store store.items

-- ---- names

-- the keys of the names of functions
abbrev pub function_keys : List ℕ → List Spelled → List (List ℕ)
function_keys source functions = map (λ (f : Spelled). global_key source f.name) functions

-- the key of the name of the function of the outside that an item declares, if it declares one
abbrev pub declare_key : List ℕ → SpelledItem → Option Lib → List (List ℕ)
declare_key source (items.Declare name ty first count) (Some lib) = global_key source name ∷ []
declare_key source item lib = []

-- the same of items, in order of the text
abbrev pub declare_keys : List ℕ → List SpelledItem → List (Option Lib) → List (List ℕ)
declare_keys source [] libs = []
declare_keys source (item ∷ rest) [] = []
declare_keys source (item ∷ rest) (lib ∷ libs) = declare_key source item lib ++ declare_keys source rest libs

-- what the names in bodies are resolved against
abbrev pub surroundings : List ℕ → List Token → Store → List (Option Lib) → Surroundings
surroundings text tokens store libs = record {
  source = text;
  types = store.types;
  numbers = numbers_of text store;
  bodies = store.bodies;
  functions = function_keys text (functions_in store);
  declares = declare_keys text store.items libs;
  nodes = node_numbers text tokens;
  kinds = map (λ (n : Node). n.kind) (kept_nodes text tokens);
}

-- the faults of names in the bodies of functions
abbrev pub function_faults : Surroundings → List Spelled → List NameFault
function_faults names [] = []
function_faults names (f ∷ rest) = body_faults names f.parameters f.blocks ++ function_faults names rest

-- all faults of names in a text, outside bodies and in them
abbrev pub all_faults : List ℕ → List Token → Store → List (Option Lib) → List NameFault
all_faults text tokens store libs = name_faults text store.items store ++ function_faults (surroundings text tokens store libs) (functions_in store)

-- a function has few enough definitions and instructions to number them
pub record IsShort (names : Surroundings) (f : Spelled) : Type 0 where
  pub few : length (definitions_of names f.parameters f.blocks) < 2 ^ 32
  pub short : length f.parameters + length (all_instructions names.bodies.instructions f.blocks) < 2 ^ 32

-- ---- main

-- `i32`, and `ptr`
abbrev pub is_i32 : Option SpelledType → Bool
is_i32 (Some (spelled.Int width)) = width == 32
is_i32 other = false

abbrev pub is_ptr : Option SpelledType → Bool
is_ptr (Some spelled.Ptr) = true
is_ptr other = false

-- the spelled type that a spelled type stands for
abbrev pub type_behind : List SpelledType → List ℕ → ℕ → Option SpelledType
type_behind types numbers ty = slice_get types (number_at numbers ty)

-- no parameters, or an `i32` and a `ptr`
abbrev pub are_of_main : List SpelledType → List ℕ → List SpelledParameter → Bool
are_of_main types numbers [] = true
are_of_main types numbers (a ∷ []) = false
are_of_main types numbers (a ∷ b ∷ []) = is_i32 (type_behind types numbers a.ty) && is_ptr (type_behind types numbers b.ty)
are_of_main types numbers (a ∷ b ∷ c ∷ more) = false

-- the function is the one at which a run begins
abbrev pub is_main : List ℕ → List SpelledType → List ℕ → Spelled → Bool
is_main source types numbers f =
    bytes_eq (global_name (bytes_of source f.name)) (codes "main")
    && (is_i32 (type_behind types numbers f.result) && are_of_main types numbers f.parameters)

-- its number among the functions of a text
abbrev pub main_of : List ℕ → Store → Option ℕ
main_of text store = position_from (is_main text store.types (numbers_of text store)) 0 (functions_in store)
