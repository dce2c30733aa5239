-- What a text is read into, or the fault for which it is refused. A text goes through phases: its length, its tokens, the
-- grammar, names with the search for `main`, chains of scopes. The first phase with a fault decides. This project's choice.
use Rattle.std.specs.Prelude.{ℕ, ◌-◌, ◌^◌, ◌<◌, ◌≤◌, ◌≡◌, List, [], ◌++◌, map, length, slice_get, All, Option, Some, None, Result, Ok, Err}
use Rattle.std.specs.Option.{option_map_or}
use Rattle.hw_base.specs.declared.numbers.TheConstants.{MOST_TEXT}
use Rattle.ir_core.specs.declared.token.Token.{Token}
use Rattle.ir_core.specs.declared.refusals.Place.{Place}
use Rattle.ir_core.specs.declared.refusals.Refusal.{Refusal}
use Rattle.ir_core.specs.declared.refusals.ReadError.{ReadError}
use Rattle.ir_core.specs.declared.refusals.ReadError.TheVariants.{Refused, OutOfMemory}
use Rattle.ir_core.specs.declared.faults.Fault.{Fault}
use Rattle.ir_core.specs.declared.faults.Fault.TheVariants.{BadToken, NoMain, MetaCycle, TooLarge}
use Rattle.ir_core.specs.declared.faults.Limit.TheVariants.{Text}
use Rattle.ir_core.specs.declared.types.IrType.{IrType}
use Rattle.ir_core.specs.declared.lib_functions.Lib.{Lib}
use Rattle.ir_core.specs.declared.ir_module.Module.{Module}
use Rattle.ir_core.specs.Tokenisation.{IsTokenisation, IsBadTokenAt, place_after}
use Rattle.ir_core.specs.Layout.{layouts_of}
use Rattle.ir_core.specs.Scopes.{scopes_fault}
use Rattle.ir_grammar.specs.declared.terminal.Terminal.{Terminal}
use Rattle.ir_grammar.specs.declared.terminal.Failure.{Failure}
use Rattle.ir_grammar.specs.declared.terminal.Failure.TheVariants as failures
use Rattle.ir_grammar.specs.declared.reader.Spellings.{Spellings}
use Rattle.ir_grammar.specs.Spelled.{Store, store_of}
use Rattle.ir_grammar.specs.SoundStore.{IsInRange, IsSoundStore, size_of}
use Rattle.std.specs.Global.{Vec}
use Rattle.ir_grammar.specs.KindOf.{text_of}
use Rattle.ir_grammar.specs.Grammar.{nesting_limit}
use Rattle.ir_grammar.specs.DebugNodes.{kept_nodes}
use Rattle.ir_read_items.specs.ItemReading.{spelled}
use Rattle.ir_read_items.specs.ItemLaws.{IsModule}
use Rattle.ir_names.specs.declared.fault.NameFault.{NameFault}
use Rattle.ir_names.specs.First.{first_fault}
use Rattle.ir_type_numbers.specs.Numbering.{module_types, module_fields}
use Rattle.ir_functions.specs.Given.{given_types}
use Rattle.ir_functions.specs.Functions.{function_of}
use Rattle.ir_read_top.specs.Module.{AreLibsOf, named_marks, all_pairs, declares_of}
use Rattle.ir_read_top.specs.Functions.{numbers_of, functions_in, surroundings, all_faults, main_of}
use Rattle.ir_read_top.specs.Globals.{AreClasses, tables, globals_of}

-- a text's tokens as the grammar sees them, with its end after them
abbrev pub sentence : List ℕ → List Token → List Terminal
sentence text tokens = text_of text tokens (place_after text)

-- the fault at a place
abbrev pub refusal_at : Fault → Place → Refusal
refusal_at fault place = record { fault = fault; line = place.line; column = place.column }

-- the place of the token from which on there are so many
abbrev pub place_with : Place → List Terminal → ℕ → Place
place_with end tokens left = option_map_or (λ (t : Terminal). t.token.place) (slice_get tokens (length tokens - left)) end

-- the error for a flaw of these tokens
abbrev pub flaw_error : Place → List Terminal → Failure → ReadError
flaw_error end tokens (failures.Flawed flaw) = Refused (refusal_at flaw.fault (place_with end tokens flaw.left))
flaw_error end tokens failures.OutOfMemory = OutOfMemory

-- the types and the fields of the module that a text spells, by the functions of the outside that it declares
abbrev pub fields_of : List ℕ → Store → List ℕ
fields_of text store = module_fields store.fields (numbers_of text store)

abbrev pub types_of : List ℕ → Store → List (Option Lib) → List IrType
types_of text store libs =
    all_pairs store.types (fields_of text store) (module_types store.types (numbers_of text store)) store.items libs store.bodies.instructions ++ given_types

-- a module before it has functions
abbrev pub without_functions : Module → Module
without_functions m = record m { functions = []; main = 0 }

-- the module that a text spells, but for which function is its `main`, by what was read of it
pub record IsModuleOf (text : List ℕ) (tokens : List Token) (store : Store) (libs : List (Option Lib)) (m : Module) : Type 0 where
  pub fields : m.fields ≡ fields_of text store
  pub types : m.types ≡ types_of text store libs
  pub layouts : m.layouts ≡ layouts_of m.types m.fields
  -- which types are one
  pub classes : List ℕ
  pub classes_right : AreClasses m.types m.fields (named_marks store.items store.types) classes
  pub globals : m.globals ≡ globals_of (tables text store (numbers_of text store) classes m) store.items
  pub declares : m.declares ≡ declares_of (numbers_of text store) store.parameters store.items libs
  pub functions : m.functions
      ≡ map (function_of (surroundings text tokens store libs) (tables text store (numbers_of text store) classes m) (without_functions m)) (functions_in store)
  pub meta : m.meta ≡ kept_nodes text tokens

-- the text isn't too long, these are its tokens, and this is what they spell, with the functions of the outside that the items
-- declare
pub record IsSpelled (text : List ℕ) (tokens : List Token) (store : Store) (libs : List (Option Lib)) : Type 0 where
  pub short : length text ≤ MOST_TEXT
  pub cut : IsTokenisation text tokens
  pub derived : IsModule nesting_limit (sentence text tokens) store
  pub libs_right : AreLibsOf text store.items libs

-- the text is accepted, and this is its module
pub record IsAccepted (text : List ℕ) (m : Module) : Type 0 where
  pub tokens : List Token
  pub store : Store
  pub libs : List (Option Lib)
  pub read : IsSpelled text tokens store libs
  pub named : first_fault (all_faults text tokens store libs) ≡ None
  pub spelled : IsModuleOf text tokens store libs m
  pub main : main_of text store ≡ Some m.main
  pub scopes : scopes_fault m ≡ None

-- the text is refused so
pub data IsFaultOf (text : List ℕ) : Refusal → Type 0 where
  -- it is too long
  too_long : MOST_TEXT < length text → IsFaultOf text (refusal_at (TooLarge Text) (record { line = 1; column = 1 }))
  -- no token can be read here
  bad_token : (place : Place) → length text ≤ MOST_TEXT → IsBadTokenAt text place → IsFaultOf text (refusal_at BadToken place)
  -- no module goes on with the token here
  flawed : (tokens : List Token) (fault : Fault) (left : ℕ) → length text ≤ MOST_TEXT → IsTokenisation text tokens
      → spelled (sentence text tokens) ≡ Err (record { fault = fault; left = left })
      → IsFaultOf text (refusal_at fault (place_with (place_after text) (sentence text tokens) left))
  -- the first fault of a name, outside bodies or in one, is here
  misnamed : (tokens : List Token) (store : Store) (libs : List (Option Lib)) (f : NameFault) → IsSpelled text tokens store libs
      → first_fault (all_faults text tokens store libs) ≡ Some f
      → IsFaultOf text (refusal_at f.fault f.at.place)
  -- no function is its `main`
  without_main : (tokens : List Token) (store : Store) (libs : List (Option Lib)) → IsSpelled text tokens store libs
      → first_fault (all_faults text tokens store libs) ≡ None → main_of text store ≡ None
      → IsFaultOf text (refusal_at NoMain (place_after text))
  -- from the debug location here a chain of scopes or of inlined calls never ends
  cyclic : (tokens : List Token) (store : Store) (libs : List (Option Lib)) (m : Module) (place : Place) → IsSpelled text tokens store libs
      → first_fault (all_faults text tokens store libs) ≡ None → IsModuleOf text tokens store libs m → main_of text store ≡ Some m.main
      → scopes_fault m ≡ Some place
      → IsFaultOf text (refusal_at MetaCycle place)

-- what reading a text returns: its module, or its fault, unless memory ran out
abbrev pub ReadsText : List ℕ → Result Module ReadError → Type 0
ReadsText text (Ok m) = IsAccepted text m
ReadsText text (Err (Refused refusal)) = IsFaultOf text refusal
ReadsText text (Err OutOfMemory) = Unit {0}

-- this is what the text's tokens spell, and there is little of it
pub record IsGathered (text : List ℕ) (tokens : List Token) (store : Store) : Type 0 where
  pub derived : IsModule nesting_limit (sentence text tokens) store
  pub sound : IsSoundStore store
  pub small : size_of store < 2 ^ 28

-- this is what the text spells
pub record IsRead (text : List ℕ) (store : Store) : Type 0 where
  pub tokens : List Token
  pub cut : IsTokenisation text tokens
  pub gathered : IsGathered text tokens store

-- what the grammar returns of a text: what it spells, or its fault, unless memory ran out
abbrev pub Gathers : List ℕ → Result Spellings ReadError → Type 0
Gathers text (Ok found) = IsRead text (store_of found)
Gathers text (Err error) = ReadsText text (Err error)

-- these are the text's tokens as the grammar sees them
pub record IsSentence (text : List ℕ) (terminals : List Terminal) : Type 0 where
  pub tokens : List Token
  pub cut : IsTokenisation text tokens
  pub few : length tokens ≤ length text
  pub whole : terminals ≡ sentence text tokens
  pub ranged : All IsInRange terminals

-- what the lexer and the kinds of tokens return of a text: its tokens, or its fault, unless memory ran out
abbrev pub Cuts : List ℕ → Result (Vec Terminal) ReadError → Type 0
Cuts text (Ok found) = IsSentence text found.items
Cuts text (Err error) = ReadsText text (Err error)
