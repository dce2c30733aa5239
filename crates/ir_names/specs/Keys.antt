-- Which names of a module are one name, and what a name means: types, global variables with functions, metadata nodes and
-- named lists of metadata are a set of names each (LLVM Language Reference, "Identifiers", "Module Structure").
use Rattle.std.specs.Prelude.{ℕ, List, [], ◌∷◌, drop, map, slice_get, Option, None, Some}
use Rattle.std.specs.List.{position_from}
use Rattle.std.specs.Str.{bytes_eq}
use Rattle.ir_core.specs.declared.token.Token.{Token}
use Rattle.ir_core.specs.Tokens.{bytes_of}
use Rattle.ir_text.specs.TokenText.{number_behind_bang}
use Rattle.ir_text.specs.Names.{name_key}
use Rattle.ir_grammar.specs.declared.spelled.SpelledItem.{SpelledItem}
use Rattle.ir_grammar.specs.declared.spelled.SpelledItem.TheVariants.{Skipped, «Type» as TypeItem, Global, Used, Declare, Define, Node, NodeList}

-- the text behind a token's sigil, `%` or `@`
abbrev pub behind_sigil : List ℕ → Token → List ℕ
behind_sigil source token = drop 1 (bytes_of source token)

-- the key of a type's name: `%`, for the set of names, and the key in it
abbrev pub type_key : List ℕ → Token → List ℕ
type_key source token = 37 ∷ name_key (behind_sigil source token)

-- the key of a global variable's or a function's name, which share one set: `@`, and the key in it
abbrev pub global_key : List ℕ → Token → List ℕ
global_key source token = 64 ∷ name_key (behind_sigil source token)

-- the key of a metadata node's number: `#`, and the digits without zeros in front
abbrev pub node_key : List ℕ → Token → List ℕ
node_key source token = 35 ∷ number_behind_bang (bytes_of source token)

-- the key of the name of a list of metadata: `!`, and the name as it is written
abbrev pub list_key : List ℕ → Token → List ℕ
list_key source token = 33 ∷ bytes_of source token

-- the key of the name that an item defines, empty where it defines none
abbrev pub item_key : List ℕ → SpelledItem → List ℕ
item_key source Skipped = []
item_key source (TypeItem name ty) = type_key source name
item_key source (Global name constant ty value) = global_key source name
item_key source Used = []
item_key source (Declare name result first count) = global_key source name
item_key source (Define name result first count entry blocks) = global_key source name
item_key source (Node number) = node_key source number
item_key source (NodeList name) = list_key source name

-- the keys of items, one an item
abbrev pub item_keys : List ℕ → List SpelledItem → List (List ℕ)
item_keys source items = map (item_key source) items

-- the number of the first with this key, or none
abbrev pub first_with : List ℕ → List (List ℕ) → Option ℕ
first_with key keys = position_from (bytes_eq key) 0 keys

-- the item with this number, or none
abbrev pub item_at : List SpelledItem → Option ℕ → Option SpelledItem
item_at items None = None
item_at items (Some i) = slice_get items i

-- the item that is meant by a key: the first that has it
abbrev pub meant : List (List ℕ) → List SpelledItem → List ℕ → Option SpelledItem
meant keys items key = item_at items (first_with key keys)
