-- The faults of names in a module, but for those of registers, blocks and callees (LLVM Language Reference, "Identifiers",
-- "Module Structure"). That the list of constructors is refused, and a function's name in a constant that no task starts
-- with, is this project's choice.
use Rattle.std.specs.Prelude.{ℕ, List, [], ◌∷◌, ◌++◌, map, take, drop, Bool, false, true, not, ◌+◌, nat_lt, if◌then◌else◌, slice_index_or, Option, None, Some}
use Rattle.std.specs.Option.{is_some}
use Rattle.std.specs.List.{list_all, flat_map}
use Rattle.std.specs.Char.{is_ascii_digit}
use Rattle.std.specs.Str.Parse.{digits_value}
use Rattle.ir_core.specs.declared.faults.Fault.{Fault}
use Rattle.ir_core.specs.declared.faults.Fault.TheVariants.{Unsupported, Unknown, Twice}
use Rattle.ir_core.specs.declared.token.Token.{Token}
use Rattle.ir_core.specs.Tokens.{bytes_of}
use Rattle.ir_text.specs.Names.{name_key, is_constructor_list}
use Rattle.ir_grammar.specs.declared.spelled.SpelledType.{SpelledType}
use Rattle.ir_grammar.specs.declared.spelled.SpelledType.TheVariants.{Named}
use Rattle.ir_grammar.specs.declared.spelled.SpelledConstant.{SpelledConstant}
use Rattle.ir_grammar.specs.declared.spelled.SpelledConstant.TheVariants.{Local, Global as GlobalName}
use Rattle.ir_grammar.specs.declared.spelled.SpelledParameter.{SpelledParameter}
use Rattle.ir_grammar.specs.declared.spelled.SpelledItem.{SpelledItem}
use Rattle.ir_grammar.specs.declared.spelled.SpelledItem.TheVariants.{Skipped, «Type» as TypeItem, Global, Used, Declare, Define, Node, NodeList}
use Rattle.ir_grammar.specs.Spelled.{Store}
use Rattle.ir_names.specs.declared.fault.NameFault.{NameFault}
use Rattle.ir_names.specs.Keys.{behind_sigil, type_key, global_key, item_key, item_keys, first_with, meant}
use Rattle.ir_names.specs.Starts.{start_marks}

-- this fault at this token
abbrev pub fault_at : Fault → Token → List NameFault
fault_at fault token = record { fault = fault; at = token } ∷ []

-- this fault at this token, if so
abbrev pub fault_if : Bool → Fault → Token → List NameFault
fault_if true fault token = fault_at fault token
fault_if false fault token = []

-- the number is there, and below this one
abbrev pub is_below : Option ℕ → ℕ → Bool
is_below None i = false
is_below (Some first) i = nat_lt first i

-- a key with number i stands at a lower number too
abbrev pub is_repeated : List (List ℕ) → ℕ → List ℕ → Bool
is_repeated keys i key = is_below (first_with key keys) i

-- the token of the name that an item defines
abbrev pub item_name : SpelledItem → Option Token
item_name Skipped = None
item_name (TypeItem name ty) = Some name
item_name (Global name constant ty value) = Some name
item_name Used = None
item_name (Declare name result first count) = Some name
item_name (Define name result first count entry blocks) = Some name
item_name (Node number) = Some number
item_name (NodeList name) = Some name

-- the item is a global variable or a function by the name of the list of constructors
abbrev pub is_constructors : List ℕ → SpelledItem → Bool
is_constructors source (Global name constant ty value) = is_constructor_list (bytes_of source name)
is_constructors source (Declare name result first count) = is_constructor_list (bytes_of source name)
is_constructors source (Define name result first count entry blocks) = is_constructor_list (bytes_of source name)
is_constructors source other = false

-- the faults at an item's own name: an earlier item has it, or nothing may have it
abbrev pub definition_faults : List ℕ → List (List ℕ) → ℕ → SpelledItem → Option Token → List NameFault
definition_faults source keys i item None = []
definition_faults source keys i item (Some name) =
    fault_if (is_constructors source item) Unsupported name ++ fault_if (is_repeated keys i (item_key source item)) Twice name

-- the faults at items' own names, from the item with this number on
abbrev pub definitions_faults : List ℕ → List (List ℕ) → ℕ → List SpelledItem → List NameFault
definitions_faults source keys i [] = []
definitions_faults source keys i (item ∷ rest) =
    definition_faults source keys i item (item_name item) ++ definitions_faults source keys (i + 1) rest

-- a name is written as a number
abbrev pub is_number : List ℕ → Bool
is_number text = list_all is_ascii_digit text

-- the key of a parameter's name, empty where it has none
abbrev pub parameter_key : List ℕ → Option Token → List ℕ
parameter_key source None = []
parameter_key source (Some name) = name_key (behind_sigil source name)

-- the counter behind a name: behind a number it is one more than the number
abbrev pub count_behind_name : ℕ → List ℕ → ℕ
count_behind_name count text = if is_number text then digits_value 10 text + 1 else count

-- the counter behind a parameter: without a name a parameter takes the next number
abbrev pub count_behind : List ℕ → ℕ → Option Token → ℕ
count_behind source count None = count + 1
count_behind source count (Some name) = count_behind_name count (behind_sigil source name)

-- a parameter's name is taken: a number below the counter, or a name that an earlier parameter has
abbrev pub is_taken : List (List ℕ) → ℕ → ℕ → List ℕ → Bool
is_taken keys i count text = if is_number text then nat_lt (digits_value 10 text) count else is_repeated keys i (name_key text)

-- the fault at a parameter's name
abbrev pub parameter_faults : List ℕ → List (List ℕ) → ℕ → ℕ → Option Token → List NameFault
parameter_faults source keys i count None = []
parameter_faults source keys i count (Some name) = fault_if (is_taken keys i count (behind_sigil source name)) Twice name

-- the faults at parameters' names, from the one with this number on, by the counter
abbrev pub parameters_faults : List ℕ → List (List ℕ) → ℕ → ℕ → List SpelledParameter → List NameFault
parameters_faults source keys i count [] = []
parameters_faults source keys i count (p ∷ rest) =
    parameter_faults source keys i count p.name ++ parameters_faults source keys (i + 1) (count_behind source count p.name) rest

-- the keys of parameters' names
abbrev pub parameter_keys : List ℕ → List SpelledParameter → List (List ℕ)
parameter_keys source parameters = map (λ p. parameter_key source p.name) parameters

-- the faults at the names of a function's parameters
abbrev pub parameter_list_faults : List ℕ → List SpelledParameter → List NameFault
parameter_list_faults source parameters = parameters_faults source (parameter_keys source parameters) 0 0 parameters

-- the faults at the names of a declare's parameters; those of a definition share a set with what its body names
abbrev pub declare_faults : List ℕ → List SpelledParameter → SpelledItem → List NameFault
declare_faults source parameters (Declare name result first count) = parameter_list_faults source (take count (drop first parameters))
declare_faults source parameters other = []

-- the fault at a type: no item defines its name
abbrev pub type_faults : List ℕ → List (List ℕ) → List SpelledItem → SpelledType → List NameFault
type_faults source keys items (Named token) = fault_if (not (is_some (meant keys items (type_key source token)))) Unknown token
type_faults source keys items other = []

-- the fault at a global's name that means this item, where functions may or may not be named: it isn't there, or it is a
-- function that may not
abbrev pub meaning_faults : Token → (may : Bool) → Option SpelledItem → List NameFault
meaning_faults token may None = fault_at Unknown token
meaning_faults token may (Some (Declare name result first count)) = fault_if (not may) Unsupported token
meaning_faults token may (Some (Define name result first count entry blocks)) = fault_if (not may) Unsupported token
meaning_faults token may (Some other) = []

-- the faults at a constant, which may or may not name a function: it is a local, or a global's name that can't stand there
abbrev pub constant_faults : List ℕ → List (List ℕ) → List SpelledItem → (may : Bool) → SpelledConstant → List NameFault
constant_faults source keys items may (Local token) = fault_at Unknown token
constant_faults source keys items may (GlobalName token) =
    fault_if (is_constructor_list (bytes_of source token)) Unsupported token ++ meaning_faults token may (meant keys items (global_key source token))
constant_faults source keys items may other = []

-- the faults at constants, from the one with this number on, by the marks of those that may name a function
abbrev pub constants_faults : List ℕ → List (List ℕ) → List SpelledItem → (marks : List Bool) → ℕ → List SpelledConstant → List NameFault
constants_faults source keys items marks i [] = []
constants_faults source keys items marks i (constant ∷ rest) =
    constant_faults source keys items (slice_index_or marks i false) constant ++ constants_faults source keys items marks (i + 1) rest

-- all faults of names, by the keys of the items
abbrev pub faults_by : List ℕ → List (List ℕ) → List SpelledItem → Store → List NameFault
faults_by source keys items store =
    definitions_faults source keys 0 items
    ++ flat_map (declare_faults source store.parameters) items
    ++ flat_map (type_faults source keys items) store.types
    ++ constants_faults source keys items (start_marks source keys items store) 0 store.constants

-- all faults of names
abbrev pub name_faults : List ℕ → List SpelledItem → Store → List NameFault
name_faults source items store = faults_by source (item_keys source items) items store
