-- The faults of names in the body of a function (LLVM Language Reference, "Identifiers", "Functions", "'call' Instruction",
-- "DILocation"). Which functions can be called without being defined is this project's choice.
use Rattle.std.specs.Prelude.{ℕ, ◌+◌, ◌==◌, ◌&&◌, ◌||◌, not, Bool, true, false, if◌then◌else◌, List, [], ◌∷◌, ◌++◌, length, slice_get, Option, None, Some, is_some}
use Rattle.std.specs.List.{flat_map}
use Rattle.ir_core.specs.declared.faults.Fault.TheVariants.{Unknown, Twice}
use Rattle.ir_core.specs.declared.token.Token.{Token}
use Rattle.ir_core.specs.declared.meta.NodeKind.{NodeKind}
use Rattle.ir_core.specs.Tokens.{bytes_of}
use Rattle.ir_text.specs.TokenText.{number_behind_bang}
use Rattle.ir_text.specs.Names.{name_key}
use Rattle.ir_grammar.specs.declared.spelled.SpelledType.{SpelledType}
use Rattle.ir_grammar.specs.declared.spelled.SpelledParameter.{SpelledParameter}
use Rattle.ir_grammar.specs.declared.spelled_bodies.SpelledBlock.{SpelledBlock}
use Rattle.ir_grammar.specs.BodyStore.{BodyStore}
use Rattle.ir_grammar.specs.DebugNodes.{is_meta_number_kind, is_location_kind}
use Rattle.ir_names.specs.declared.fault.NameFault.{NameFault}
use Rattle.ir_names.specs.Keys.{behind_sigil, global_key, first_with}
use Rattle.ir_names.specs.Faults.{fault_if, is_number, is_repeated}
use Rattle.ir_body_names.specs.declared.definitions.Definition.{Definition}
use Rattle.ir_body_names.specs.declared.uses.Use.{Use}
use Rattle.ir_body_names.specs.declared.uses.Use.TheVariants.{Register, Target, Origin, Location, Callee}
use Rattle.ir_body_names.specs.Counters.{low_digits, is_less}
use Rattle.ir_body_names.specs.Definitions.{is_void, definitions, written, counter_after, definition_keys}
use Rattle.ir_body_names.specs.Uses.{uses}

-- What bodies are resolved against: the text, the spelled types and what each stands for, what bodies spell, the keys of the
-- defined functions and of the declared ones that can be called, in order of the text, and the numbers and kinds of the
-- metadata nodes that are kept.
pub record Surroundings : Type 0 where
  pub source : List ℕ
  pub types : List SpelledType
  pub numbers : List ℕ
  pub bodies : BodyStore
  pub functions : List (List ℕ)
  pub declares : List (List ℕ)
  pub nodes : List (List ℕ)
  pub kinds : List NodeKind

-- ---- definitions

-- a name is taken: a number below the counter, or a name that an earlier definition has
abbrev pub is_taken : (keys : List (List ℕ)) → ℕ → (counter text : List ℕ) → Bool
is_taken keys i counter text = if is_number text then is_less (low_digits text) counter else is_repeated keys i (name_key text)

-- the fault at the name of a definition
abbrev pub definition_faults : List ℕ → (keys : List (List ℕ)) → ℕ → (counter : List ℕ) → Bool → Option Token → List NameFault
definition_faults source keys i counter is_block None = []
definition_faults source keys i counter is_block (Some name) = fault_if (is_taken keys i counter (written source is_block name)) Twice name

-- the faults at the names of definitions, from the one with this number on, by the counter
abbrev pub definitions_faults : List ℕ → (keys : List (List ℕ)) → ℕ → (counter : List ℕ) → List Definition → List NameFault
definitions_faults source keys i counter [] = []
definitions_faults source keys i counter (d ∷ rest) =
    definition_faults source keys i counter d.is_block d.name
    ++ definitions_faults source keys (i + 1) (counter_after source counter d.is_block d.name) rest

-- ---- uses

-- a definition is a register, or a block
abbrev pub is_register : Option Definition → Bool
is_register None = false
is_register (Some d) = not d.is_block

abbrev pub is_block : Option Definition → Bool
is_block None = false
is_block (Some d) = d.is_block

-- the definition that a place has
abbrev pub definition_at : List Definition → Option ℕ → Option Definition
definition_at defined None = None
definition_at defined (Some place) = slice_get defined place

-- the place is this one
abbrev pub is_place : ℕ → Option ℕ → Bool
is_place entry None = false
is_place entry (Some place) = place == entry

-- a node is a location
abbrev pub is_location : Option NodeKind → Bool
is_location None = false
is_location (Some kind) = is_location_kind kind

abbrev pub is_location_at : List NodeKind → Option ℕ → Bool
is_location_at kinds None = false
is_location_at kinds (Some node) = is_location (slice_get kinds node)

-- the number of the node that a token names
abbrev pub node_place : List ℕ → List (List ℕ) → Token → Option ℕ
node_place source nodes token = if is_meta_number_kind token.kind then first_with (number_behind_bang (bytes_of source token)) nodes else None

-- the place of the definition that a local names
abbrev pub local_place : List ℕ → (keys : List (List ℕ)) → Token → Option ℕ
local_place source keys token = first_with (name_key (behind_sigil source token)) keys

-- a function by this name can be called: one that is defined, or else a declared one
abbrev pub is_callable : Surroundings → Token → Bool
is_callable t name = is_some (first_with (global_key t.source name) t.functions) || is_some (first_with (global_key t.source name) t.declares)

-- what a name is used for is there. The entry block, which is defined at the place `entry`, is the target of no branch.
abbrev pub is_there : Surroundings → (keys : List (List ℕ)) → List Definition → (entry : ℕ) → Use → Bool
is_there t keys defined entry (Register name) = is_register (definition_at defined (local_place t.source keys name))
is_there t keys defined entry (Target name) =
    is_block (definition_at defined (local_place t.source keys name)) && not (is_place entry (local_place t.source keys name))
is_there t keys defined entry (Origin name) = is_block (definition_at defined (local_place t.source keys name))
is_there t keys defined entry (Location node) = is_location_at t.kinds (node_place t.source t.nodes node)
is_there t keys defined entry (Callee name) = is_callable t name

abbrev pub used_token : Use → Token
used_token (Register name) = name
used_token (Target name) = name
used_token (Origin name) = name
used_token (Location node) = node
used_token (Callee name) = name

-- the fault at a use
abbrev pub use_faults : Surroundings → (keys : List (List ℕ)) → List Definition → (entry : ℕ) → Use → List NameFault
use_faults t keys defined entry u = fault_if (not (is_there t keys defined entry u)) Unknown (used_token u)

-- ---- functions

-- all that a function defines
abbrev pub definitions_of : Surroundings → List SpelledParameter → List SpelledBlock → List Definition
definitions_of t parameters blocks = definitions (is_void t.types t.numbers) t.bodies.instructions parameters blocks

-- all faults of names in a function, by what it defines
abbrev pub faults_by : Surroundings → List Definition → (entry : ℕ) → List Use → List NameFault
faults_by t defined entry used =
    definitions_faults t.source (definition_keys t.source defined) 0 [] defined
    ++ flat_map (use_faults t (definition_keys t.source defined) defined entry) used

-- all faults of names in a function with these parameters and blocks
abbrev pub body_faults : Surroundings → List SpelledParameter → List SpelledBlock → List NameFault
body_faults t parameters blocks = faults_by t (definitions_of t parameters blocks) (length parameters) (uses t.source t.bodies blocks)
