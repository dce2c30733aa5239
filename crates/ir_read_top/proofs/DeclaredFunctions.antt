-- The functions of the outside that an accepted text declares are there, since their names mean them.
use Rattle.std.proofs.Common.{ℕ, List, [], ◌∷◌, Option, Some, None, Result, Ok, Err, All, sym, subst}
use Rattle.std.specs.Prelude.{IfOk}
use Rattle.std.proofs.lemmas.List.Elements.{All-nil, All-cons, All-append}
use Rattle.ir_core.specs.declared.lib_functions.Lib.{Lib}
use Rattle.ir_core.specs.declared.refusals.ReadError.{ReadError}
use Rattle.ir_core.specs.declared.ir_module.Declare.{Declare}
use Rattle.ir_core.specs.declared.ir_module.Module.{Module}
use Rattle.ir_core.specs.Externals.{IsThere}
use Rattle.ir_grammar.specs.declared.spelled.SpelledItem.{SpelledItem}
use Rattle.ir_grammar.specs.declared.spelled.SpelledItem.TheVariants as items
use Rattle.ir_grammar.specs.declared.spelled.SpelledParameter.{SpelledParameter}
use Rattle.ir_read_top.specs.Module.{IsLibOf, AreLibsOf, declare_of, declares_of}
use Rattle.ir_read_top.specs.Functions.{numbers_of}
use Rattle.ir_read_top.specs.Texts.{IsAccepted, ReadsText}

abbrev HasKnown : Declare → Type 0
HasKnown d = IsThere d.lib

abbrev HaveKnown : List Declare → Type 0
HaveKnown declares = All HasKnown declares

known_by : (text : List ℕ) (numbers : List ℕ) (parameters : List SpelledParameter) (item : SpelledItem) (lib : Option Lib) → IsLibOf text item lib
    → HaveKnown (declare_of numbers parameters item lib)
known_by text numbers parameters (items.Declare name ty first count) None h = All-nil HasKnown
known_by text numbers parameters (items.Declare name ty first count) (Some lib) h = All-cons HasKnown _ [] h.0 (All-nil HasKnown)
known_by text numbers parameters other lib h = All-nil HasKnown

all_known : (text : List ℕ) (numbers : List ℕ) (parameters : List SpelledParameter) (rest : List SpelledItem) (libs : List (Option Lib)) → AreLibsOf text rest libs
    → HaveKnown (declares_of numbers parameters rest libs)
all_known text numbers parameters [] libs h = All-nil HasKnown
all_known text numbers parameters (item ∷ rest) [] h = All-nil HasKnown
all_known text numbers parameters (item ∷ rest) (lib ∷ libs) h =
    All-append HasKnown (declare_of numbers parameters item lib) (declares_of numbers parameters rest libs)
    (known_by text numbers parameters item lib h.0)
    (all_known text numbers parameters rest libs h.1)

pub known_module : (text : List ℕ) (m : Module) → IsAccepted text m → All (λ (d : Declare). IsThere d.lib) m.declares
known_module text m a =
    subst HaveKnown (sym a.spelled.declares) (all_known text (numbers_of text a.store) a.store.parameters a.store.items a.libs a.read.libs_right)

-- the same of what reading a text answers
pub known_answer : (text : List ℕ) (answer : Result Module ReadError) → ReadsText text answer → IfOk answer (λ (m : Module). All (λ (d : Declare). IsThere d.lib) m.declares)
known_answer text (Ok m) h = known_module text m h
known_answer text (Err error) h = tt
