-- How the functions of a module are put together: the keys of names, the functions, and the module with them.
use Rattle.std.specs.Prelude.{ℕ, ◌≡◌, ◌+◌, ◌<◌, ◌≤◌, ◌^◌, ◌⊎◌, List, map, length, Option, Some, None, Result, Ok, Err}
use Rattle.std.specs.Option.{option_map}
use Rattle.std.specs.List.{position_from}
use Rattle.ir_core.specs.declared.token.Token.{Token}
use Rattle.ir_core.specs.declared.meta.Node.{Node}
use Rattle.ir_core.specs.declared.refusals.Refusal.{Refusal}
use Rattle.ir_core.specs.declared.refusals.ReadError.{ReadError}
use Rattle.ir_core.specs.declared.refusals.ReadError.TheVariants.{Refused, OutOfMemory}
use Rattle.ir_core.specs.declared.faults.Fault.TheVariants.{NoMain}
use Rattle.ir_core.specs.declared.lib_functions.Lib.{Lib}
use Rattle.ir_core.specs.declared.ir_module.Function.{Function}
use Rattle.ir_core.specs.declared.ir_module.Module.{Module}
use Rattle.ir_core.specs.Scopes.{scopes_fault}
use Rattle.ir_core.specs.Tokenisation.{place_after}
use Rattle.ir_grammar.specs.Spelled.{Store}
use Rattle.dbg_sites.specs.Cycles.{refused_at}
use Rattle.dbg_sites.specs.Read.{node_numbers, numbers_in}
use Rattle.ir_names.specs.declared.fault.NameFault.{NameFault}
use Rattle.ir_names.specs.First.{first_beside}
use Rattle.ir_names.specs.Places.{keys_in}
use Rattle.ir_first_values.specs.Tables.{Tables}
use Rattle.ir_body_names.specs.BodyFaults.{Surroundings}
use Rattle.ir_functions.specs.Functions.{Spelled, function_of}
use Rattle.ir_read_top.specs.declared.bodies.Keys.{Keys}
use Rattle.ir_read_top.specs.declared.bodies.Functions.{Functions}
use Rattle.ir_read_top.specs.Functions.{function_keys, declare_keys, function_faults, is_main}
use Rattle.ir_read_top.specs.Texts.{refusal_at}

-- these are the keys of the names that bodies may use from outside
pub record AreKeys (text : List ℕ) (tokens : List Token) (store : Store) (libs : List (Option Lib)) (m : Module) (functions : List Spelled) (keys : Keys) : Type 0 where
  pub functions_are : keys_in keys.functions.items ≡ function_keys text functions
  pub declares_are : keys_in keys.declares.items ≡ declare_keys text store.items libs
  pub nodes_are : numbers_in keys.nodes.items ≡ node_numbers text tokens
  pub kinds_are : keys.kinds.items ≡ map (λ (n : Node). n.kind) m.meta
  pub few : length keys.nodes.items ≤ length tokens

-- what bodies are resolved against, by these keys
abbrev pub surroundings_by : List ℕ → Store → (numbers : List ℕ) → Keys → Surroundings
surroundings_by text store numbers keys = record {
  source = text;
  types = store.types;
  numbers = numbers;
  bodies = store.bodies;
  functions = keys_in keys.functions.items;
  declares = keys_in keys.declares.items;
  nodes = numbers_in keys.nodes.items;
  kinds = keys.kinds.items;
}

-- there are few enough of all of these to number them
pub record AreFew (names : Surroundings) : Type 0 where
  pub types : length names.types + 300 < 2 ^ 32
  pub functions : length names.functions < 2 ^ 32
  pub declares : length names.declares < 2 ^ 32
  pub nodes : length names.nodes < 2 ^ 32

-- functions with their names resolved, in a module that has none yet
abbrev pub functions_made : Surroundings → Tables → Module → List Spelled → List Function
functions_made names tables m functions = map (function_of names tables m) functions

-- the number of `main` among functions
abbrev pub main_among : List ℕ → Store → (numbers : List ℕ) → List Spelled → Option ℕ
main_among text store numbers functions = position_from (is_main text store.types numbers) 0 functions

-- no name has a fault, and these are the functions and the number of `main`
pub record AreFunctions (text : List ℕ) (store : Store) (names : Surroundings) (tables : Tables) (m : Module) (functions : List Spelled) (first : Option NameFault) (made : Functions) : Type 0 where
  pub faultless : first_beside first (function_faults names functions) ≡ None
  pub main : main_among text store tables.numbers functions ≡ Some made.main
  pub list : made.list ≡ functions_made names tables m functions

-- the refusal of the first fault of a name, beside the first outside bodies, or else that there is no `main`
abbrev pub RefusesFunctions : List ℕ → Store → Surroundings → (numbers : List ℕ) → List Spelled → Option NameFault → Refusal → Type 0
RefusesFunctions text store names numbers functions first refusal =
    ((f : NameFault) × (first_beside first (function_faults names functions) ≡ Some f) × (refusal ≡ refusal_at f.fault f.at.place))
    ⊎ ((first_beside first (function_faults names functions) ≡ None) × (main_among text store numbers functions ≡ None) × (refusal ≡ refusal_at NoMain (place_after text)))

-- the functions, or the refusal, unless memory ran out
abbrev pub GivesFunctions : List ℕ → Store → Surroundings → Tables → Module → List Spelled → Option NameFault → Result Functions ReadError → Type 0
GivesFunctions text store names tables m functions first (Ok made) = AreFunctions text store names tables m functions first made
GivesFunctions text store names tables m functions first (Err (Refused refusal)) = RefusesFunctions text store names tables.numbers functions first refusal
GivesFunctions text store names tables m functions first (Err OutOfMemory) = Unit {0}

-- the module with its functions
abbrev pub completed : Module → Functions → Module
completed m made = record m { functions = made.list; main = made.main }

-- the module with its functions, or the refusal of a chain of scopes that never ends; it takes no memory
abbrev pub Completes : Module → Functions → Result Module ReadError → Type 0
Completes m made (Ok whole) = (whole ≡ completed m made) × (scopes_fault whole ≡ None)
Completes m made (Err (Refused refusal)) = option_map refused_at (scopes_fault (completed m made)) ≡ Some refusal
Completes m made (Err OutOfMemory) = ⊥
