-- Which items define names of which set, and which are global variables.
use Rattle.std.specs.Prelude.{List, Bool, true, false}
use Rattle.std.specs.List.{filter}
use Rattle.ir_grammar.specs.declared.spelled.SpelledItem.{SpelledItem}
use Rattle.ir_grammar.specs.declared.spelled.SpelledItem.TheVariants.{«Type» as TypeItem, Global, Declare, Define}

-- the item defines a type
abbrev pub DefinesType : SpelledItem → Type 0
DefinesType (TypeItem name ty) = Unit {0}
DefinesType other = ⊥

-- the item defines a global variable, or declares or defines a function
abbrev pub DefinesGlobal : SpelledItem → Type 0
DefinesGlobal (Global name constant ty value) = Unit {0}
DefinesGlobal (Declare name result first count) = Unit {0}
DefinesGlobal (Define name result first count entry blocks) = Unit {0}
DefinesGlobal other = ⊥

-- the item is a global variable
abbrev pub is_variable : SpelledItem → Bool
is_variable (Global name constant ty value) = true
is_variable other = false

-- the global variables among items
abbrev pub variables_in : List SpelledItem → List SpelledItem
variables_in items = filter is_variable items
