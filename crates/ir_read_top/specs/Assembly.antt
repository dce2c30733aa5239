-- How a module is put together: its types and declares first, then its global variables, and its functions last.
use Rattle.std.specs.Prelude.{ℕ, ◌≡◌, List, [], Option}
use Rattle.ir_core.specs.declared.token.Token.{Token}
use Rattle.ir_core.specs.declared.types.IrType.{IrType}
use Rattle.ir_core.specs.declared.lib_functions.Lib.{Lib}
use Rattle.ir_core.specs.declared.ir_module.Module.{Module}
use Rattle.ir_core.specs.Layout.{layouts_of}
use Rattle.ir_grammar.specs.Spelled.{Store}
use Rattle.ir_grammar.specs.DebugNodes.{kept_nodes}
use Rattle.ir_read_top.specs.declared.assembly.Outline.{Outline}
use Rattle.ir_read_top.specs.Module.{named_marks, declares_of}
use Rattle.ir_read_top.specs.Globals.{AreClasses, tables, globals_of}
use Rattle.ir_read_top.specs.Functions.{numbers_of}
use Rattle.ir_read_top.specs.Texts.{types_of, fields_of}

-- a module is another one with its global variables, and what functions are made from is kept
pub record HasVariables (text : List ℕ) (store : Store) (numbers : List ℕ) (before : Module) (o : Outline) : Type 0 where
  pub numbers_are : o.numbers.items ≡ numbers
  pub classes_right : AreClasses before.types before.fields (named_marks store.items store.types) o.classes.items
  pub same : o.module ≡ record before { globals = globals_of (tables text store numbers o.classes.items before) store.items }

-- a module has these types, and all else that a text spells, but no functions
pub record IsAssembled (text : List ℕ) (tokens : List Token) (store : Store) (numbers : List ℕ) (types : List IrType) (fields classes : List ℕ) (libs : List (Option Lib)) (m : Module) : Type 0 where
  pub types_are : m.types ≡ types
  pub fields_are : m.fields ≡ fields
  pub layouts : m.layouts ≡ layouts_of m.types m.fields
  pub classes_right : AreClasses m.types m.fields (named_marks store.items store.types) classes
  pub globals : m.globals ≡ globals_of (tables text store numbers classes m) store.items
  pub declares : m.declares ≡ declares_of numbers store.parameters store.items libs
  pub functions : m.functions ≡ []
  pub main : m.main ≡ 0
  pub meta : m.meta ≡ kept_nodes text tokens

-- all that a text spells but its functions, with what functions are made from
pub record IsOutline (text : List ℕ) (tokens : List Token) (store : Store) (libs : List (Option Lib)) (o : Outline) : Type 0 where
  pub numbers : o.numbers.items ≡ numbers_of text store
  pub assembled : IsAssembled text tokens store (numbers_of text store) (types_of text store libs) (fields_of text store) o.classes.items libs o.module
