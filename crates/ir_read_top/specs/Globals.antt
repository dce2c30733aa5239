-- The global variables of a module, and when two of its types are one for their first values.
use Rattle.std.specs.Prelude.{ℕ, ◌≡◌, ◌≢◌, ◌↔◌, List, [], ◌∷◌, ◌++◌, length, Bool, unwrap_or, is_some}
use Rattle.ir_core.specs.declared.types.IrType.{IrType}
use Rattle.ir_core.specs.declared.ir_module.GlobalVar.{GlobalVar}
use Rattle.ir_core.specs.declared.ir_module.Module.{Module}
use Rattle.ir_core.specs.Tokens.{bytes_of}
use Rattle.ir_text.specs.Names.{global_name}
use Rattle.ir_grammar.specs.declared.spelled.SpelledItem.{SpelledItem}
use Rattle.ir_grammar.specs.declared.spelled.SpelledItem.TheVariants as items
use Rattle.ir_grammar.specs.Grammar.{nesting_limit}
use Rattle.ir_grammar.specs.Spelled.{Store}
use Rattle.ir_names.specs.Meanings.{variables_of}
use Rattle.ir_type_numbers.specs.Numbering.{number_at}
use Rattle.ir_type_numbers.specs.SameTypes.{IsSame, HasLayout}
use Rattle.ir_first_values.specs.Tables.{Tables}
use Rattle.ir_first_values.specs.FirstValues.{first_value}

-- these are classes of the types: two types that don't hold themselves are one exactly if their classes are equal, and a type that
-- holds itself has class 0, which no other type has
pub record AreClasses (types : List IrType) (fields : List ℕ) (named : List Bool) (classes : List ℕ) : Type 0 where
  pub each : length classes ≡ length types
  pub some : (a : ℕ) → (number_at classes a ≢ 0) ↔ HasLayout types fields a
  pub same : (a b : ℕ) → HasLayout types fields a → HasLayout types fields b → (number_at classes a ≡ number_at classes b) ↔ IsSame types fields named a b

-- what first values are made from
abbrev pub tables : List ℕ → Store → List ℕ → List ℕ → Module → Tables
tables text store numbers classes m = record {
  types = m.types;
  fields = m.fields;
  source = text;
  constants = store.constants;
  elements = store.elements;
  indices = store.indices;
  numbers = numbers;
  classes = classes;
  variables = variables_of text store.items store;
}

-- the variable that an item defines, by what first values are made from
abbrev pub global_of : Tables → SpelledItem → List GlobalVar
global_of t (items.Global name constant ty value) =
    record {
      name = global_name (bytes_of t.source name);
      ty = number_at t.numbers ty;
      constant = constant;
      fits = is_some (first_value nesting_limit t (number_at t.numbers ty) value 0);
      init = unwrap_or (first_value nesting_limit t (number_at t.numbers ty) value 0) [];
      place = name.place;
    } ∷ []
global_of t other = []

-- the global variables in order of the text
abbrev pub globals_of : Tables → List SpelledItem → List GlobalVar
globals_of t [] = []
globals_of t (item ∷ rest) = global_of t item ++ globals_of t rest
