-- The metadata nodes that are kept, and what they say (LLVM Language Reference, "Metadata", "DILocation", "DISubprogram",
-- "DIFile"). Which nodes are kept, which of their fields count, and that what isn't well formed counts as missing are this
-- project's choices.
use Rattle.std.specs.Prelude.{ℕ, List, [], ◌∷◌, ◌++◌, map, length, slice_get, ◌≡◌, ◌<◌, ◌==◌, Bool, true, false, ◌&&◌, if◌then◌else◌, Option, Some, None, is_some, IfSome, codes}
use Rattle.std.specs.List.{position_from}
use Rattle.std.specs.Option.{option_map, option_and_then, option_map_or, option_to_list}
use Rattle.std.specs.Str.{bytes_eq}
use Rattle.ir_core.specs.declared.token.Token.{Token}
use Rattle.ir_core.specs.declared.token.TokenKind.{TokenKind}
use Rattle.ir_core.specs.declared.token.TokenKind.TheVariants.{Word, Integer, MetaName, MetaNumber, Text}
use Rattle.ir_core.specs.declared.meta.Node.{Node}
use Rattle.ir_core.specs.declared.meta.NodeKind.{NodeKind}
use Rattle.ir_core.specs.declared.meta.NodeKind.TheVariants.{Location, Subprogram, File, Other}
use Rattle.ir_text.specs.TokenText.{number_behind_bang, line_or_column, string_bytes_of}
use Rattle.ir_grammar.specs.DebugFields.{Lexeme, lexemes, Field, is_the, depth_behind, inside, fields, first_field, only_token}

-- it is a word
abbrev pub is_word_kind : TokenKind → Bool
is_word_kind Word = true
is_word_kind _ = false

-- it is an integer
abbrev pub is_integer_kind : TokenKind → Bool
is_integer_kind Integer = true
is_integer_kind _ = false

-- it is a metadata name, as `!DIFile`
abbrev pub is_meta_name_kind : TokenKind → Bool
is_meta_name_kind MetaName = true
is_meta_name_kind _ = false

-- it is a metadata number, as `!7`
abbrev pub is_meta_number_kind : TokenKind → Bool
is_meta_number_kind MetaNumber = true
is_meta_number_kind _ = false

-- it is a string
abbrev pub is_text_kind : TokenKind → Bool
is_text_kind Text = true
is_text_kind _ = false

-- a node by its definition: its number without the zeros in front, its kind and its fields
pub record Definition : Type 0 where
  pub number : List ℕ
  pub kind : NodeKind
  pub fields : List Field

-- the kind of a node with this name
abbrev pub kind_named : List ℕ → NodeKind
kind_named name = if bytes_eq name (codes "!DILocation") then Location else (if bytes_eq name (codes "!DISubprogram") then Subprogram else (if bytes_eq name (codes "!DIFile") then File else Other))

-- locations, subprograms and files are kept, and every other named node with a `scope:`
abbrev pub is_kept : NodeKind → List Field → Bool
is_kept Location fs = true
is_kept Subprogram fs = true
is_kept File fs = true
is_kept Other fs = is_some (first_field (codes "scope") fs)

-- the definition, where its node is kept
abbrev pub if_kept : Definition → Option Definition
if_kept d = if is_kept d.kind d.fields then Some d else None

-- the kept node `!Name( .. )` at the front
abbrev pub named_node : List ℕ → List Lexeme → Option Definition
named_node number [] = None
named_node number (name ∷ []) = None
named_node number (name ∷ bracket ∷ rest) = if is_meta_name_kind name.kind && is_the 40 bracket then if_kept (record { number = number; kind = kind_named name.bytes; fields = fields 0 (inside rest) }) else None

-- it is the word `distinct`
abbrev pub is_distinct : Lexeme → Bool
is_distinct l = is_word_kind l.kind && bytes_eq l.bytes (codes "distinct")

-- these tokens without a `distinct` at the front
abbrev pub behind_distinct : List Lexeme → List Lexeme
behind_distinct [] = []
behind_distinct (l ∷ rest) = if is_distinct l then rest else l ∷ rest

-- the kept node that is defined at the front, by `!N = !Name( .. )` or `!N = distinct !Name( .. )`
abbrev pub definition_at : List Lexeme → Option Definition
definition_at [] = None
definition_at (l ∷ []) = None
definition_at (l ∷ equals ∷ rest) = if is_meta_number_kind l.kind && is_the 61 equals then named_node (number_behind_bang l.bytes) (behind_distinct rest) else None

-- the kept nodes in order of the text. A definition stands outside all brackets: what stands in a function's body, in an
-- attachment or inside another node defines nothing
abbrev pub definitions : ℕ → List Lexeme → List Definition
definitions depth [] = []
definitions depth (l ∷ rest) = (if depth == 0 then option_to_list (definition_at (l ∷ rest)) else []) ++ definitions (depth_behind l depth) rest

-- it has this number
abbrev pub has_number : List ℕ → Definition → Bool
has_number number d = bytes_eq number d.number

-- the place of the first kept node with this number
abbrev pub place_of : List Definition → List ℕ → Option ℕ
place_of kept number = position_from (has_number number) 0 kept

-- the one token of the first field of this name
abbrev pub field_token : List Field → List ℕ → Option Lexeme
field_token fs name = option_and_then only_token (first_field name fs)

-- the line or column that a token writes, 0 for any but an integer
abbrev pub line_of : Lexeme → ℕ
line_of l = if is_integer_kind l.kind then line_or_column l.bytes else 0

-- a field that is a line or column, 0 where it is missing
abbrev pub line_field : List Field → List ℕ → ℕ
line_field fs name = option_map_or line_of (field_token fs name) 0

-- the kept node that a token names
abbrev pub node_named : List Definition → Lexeme → Option ℕ
node_named kept l = if is_meta_number_kind l.kind then place_of kept (number_behind_bang l.bytes) else None

-- a field that names a kept node
abbrev pub node_field : List Definition → List Field → List ℕ → Option ℕ
node_field kept fs name = option_and_then (node_named kept) (field_token fs name)

-- it is a location
abbrev pub is_location_kind : NodeKind → Bool
is_location_kind Location = true
is_location_kind _ = false

-- the kept node with this place is a location
abbrev pub is_location_at : List Definition → ℕ → Bool
is_location_at kept k = option_map_or (λ d. is_location_kind d.kind) (slice_get kept k) false

-- this place, where a location stands there
abbrev pub if_location : List Definition → ℕ → Option ℕ
if_location kept k = if is_location_at kept k then Some k else None

-- a field that names a location
abbrev pub location_field : List Definition → List Field → List ℕ → Option ℕ
location_field kept fs name = option_and_then (if_location kept) (node_field kept fs name)

-- the bytes that a token writes, none for any but a string
abbrev pub text_of : Lexeme → List ℕ
text_of l = if is_text_kind l.kind then string_bytes_of l.bytes else []

-- a field that is a string, no bytes where it is missing
abbrev pub text_field : List Field → List ℕ → List ℕ
text_field fs name = option_map_or text_of (field_token fs name) []

-- a location has a line, a column, a scope and the place where it is inlined
abbrev pub location_node : List Definition → List Field → Node
location_node kept fs = record { kind = Location; line = line_field fs (codes "line"); column = line_field fs (codes "column"); scope = node_field kept fs (codes "scope"); inlined = location_field kept fs (codes "inlinedAt"); file = None; name = [] }

-- a subprogram has a name and a file
abbrev pub subprogram_node : List Definition → List Field → Node
subprogram_node kept fs = record { kind = Subprogram; line = 0; column = 0; scope = None; inlined = None; file = node_field kept fs (codes "file"); name = text_field fs (codes "name") }

-- a file has a file name
abbrev pub file_node : List Field → Node
file_node fs = record { kind = File; line = 0; column = 0; scope = None; inlined = None; file = None; name = text_field fs (codes "filename") }

-- any other node has a scope and a file
abbrev pub other_node : List Definition → List Field → Node
other_node kept fs = record { kind = Other; line = 0; column = 0; scope = node_field kept fs (codes "scope"); inlined = None; file = node_field kept fs (codes "file"); name = [] }

-- what a node says, by its kind
abbrev pub node_as : NodeKind → List Definition → List Field → Node
node_as Location kept fs = location_node kept fs
node_as Subprogram kept fs = subprogram_node kept fs
node_as File kept fs = file_node fs
node_as Other kept fs = other_node kept fs

-- what a definition says among the kept ones
abbrev pub node_of : List Definition → Definition → Node
node_of kept d = node_as d.kind kept d.fields

-- what the kept nodes say, in order of the text; a node's number is its place here
abbrev pub kept_nodes : List ℕ → List Token → List Node
kept_nodes source tokens = let kept = definitions 0 (lexemes source tokens) in map (node_of kept) kept

-- the node with this number is there
abbrev pub IsThere : List Node → ℕ → Type 0
IsThere nodes k = k < length nodes

-- the node with this number is there, and is a location
abbrev pub IsLocationThere : List Node → ℕ → Type 0
IsLocationThere nodes k = option_map (λ n. n.kind) (slice_get nodes k) ≡ Some Location

-- each number in a node names a node that is there, and where it is inlined a location
pub record IsResolved (nodes : List Node) (node : Node) : Type 0 where
  pub scope : IfSome node.scope (IsThere nodes)
  pub inlined : IfSome node.inlined (IsLocationThere nodes)
  pub file : IfSome node.file (IsThere nodes)
