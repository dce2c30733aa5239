-- What the reader of metadata holds, as the definitions of nodes see it.
use Rattle.std.specs.Prelude.{ℕ, List, map, ◌≡◌, Bool, Option, Some, None, Vec}
use Rattle.std.specs.declared.alloc.Global.{Global}
use Rattle.std.specs.List.{position_from}
use Rattle.std.specs.Ordering.{nat_cmp}
use Rattle.std.specs.Cmp.Lexicographic.{slice_cmp}
use Rattle.std.specs.Str.{bytes_eq}
use Rattle.std.specs.BTreeMap.{BTreeMap, get_by}
use denote.Ref.{Bor}
use Rattle.ir_core.specs.declared.token.Token.{Token}
use Rattle.ir_grammar.specs.DebugFields.{Lexeme, lexemes, before, is_comma, inside, Field, fields}
use Rattle.ir_grammar.specs.DebugNodes.{Definition, definitions}
use Rattle.dbg_sites.specs.declared.definitions.KeptNode.{KeptNode}

-- the fields of a node, from the tokens after its bracket on
abbrev pub fields_in : List ℕ → List Token → List Field
fields_in source tokens = fields 0 (inside (lexemes source tokens))

-- the value of a field, from the tokens after its label on
abbrev pub value_in : List ℕ → List Token → List Lexeme
value_in source tokens = before is_comma 0 (inside (lexemes source tokens))

-- the definition that a kept node stands for
abbrev pub definition_of : List ℕ → KeptNode → Definition
definition_of source node = record { number = node.number.now; kind = node.kind; fields = fields_in source node.fields.now }

-- the definitions that kept nodes stand for
abbrev pub definitions_of : List ℕ → List KeptNode → List Definition
definitions_of source nodes = map (definition_of source) nodes

-- it has this number
abbrev pub is_numbered : List ℕ → KeptNode → Bool
is_numbered number node = bytes_eq number node.number.now

-- the first place, if there is one, else the second
abbrev pub place_or : Option ℕ → Option ℕ → Option ℕ
place_or None other = other
place_or (Some place) other = Some place

-- the place that the map has for a number
abbrev pub place_in : BTreeMap (Bor (List ℕ)) ℕ → List ℕ → Option ℕ
place_in places q = get_by (λ k. slice_cmp nat_cmp q k.now) places

-- the map gives for each number the place of the first node with it
abbrev pub IsIndex : BTreeMap (Bor (List ℕ)) ℕ → List KeptNode → Type 0
IsIndex places nodes = (q : List ℕ) → place_in places q ≡ position_from (is_numbered q) 0 nodes

-- the numbers of the nodes that a text keeps, without the zeros in front, in order of the text
abbrev pub node_numbers : List ℕ → List Token → List (List ℕ)
node_numbers source tokens = map (λ d. d.number) (definitions 0 (lexemes source tokens))

-- numbers as the program keeps them
abbrev pub numbers_in : List (Vec ℕ Global) → List (List ℕ)
numbers_in numbers = map (λ number. number.items) numbers
