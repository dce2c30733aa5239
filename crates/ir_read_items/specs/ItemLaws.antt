-- The laws that tie what a text spells to what the grammar derives.
use Rattle.std.specs.Prelude.{ℕ, List, [], ◌∷◌, ◌++◌, suc, length, ◌≡◌, Ok, Err}
use Rattle.ir_core.specs.declared.token.Token.{Token}
use Rattle.ir_core.specs.declared.refusals.Place.{Place}
use Rattle.ir_core.specs.declared.faults.Fault.TheVariants.{Unsupported, TooLarge}
use Rattle.ir_core.specs.declared.faults.Limit.TheVariants.{Nesting}
use Rattle.ir_grammar.specs.declared.terminal.Terminal.{Terminal}
use Rattle.ir_grammar.specs.declared.terminal.Flaw.{Flaw}
use Rattle.ir_grammar.specs.Rules.{nothing, Derives}
use Rattle.ir_grammar.specs.Prefixes.{Begins}
use Rattle.ir_grammar.specs.Forms.{StandsListed}
use Rattle.ir_grammar.specs.Names.{shared}
use Rattle.ir_grammar.specs.Spelled.{Store}
use Rattle.ir_grammar.specs.KindOf.{text_of}
use Rattle.ir_grammar.specs.Grammar.{production, nesting_limit}
use Rattle.ir_read_items.specs.Items.{module_rule}
use Rattle.ir_read_body.specs.BodyReading.{nothing_read}
use Rattle.ir_read_items.specs.ItemReading.{spelled}

-- the tokens are a module, with at most this many brackets around one another, and this is what it spells
abbrev pub IsModule : ℕ → List Terminal → Store → Type 0
IsModule levels tokens store = Derives shared production levels nothing module_rule tokens nothing_read tt store

-- a text that is read is a module of the grammar, and spells what the grammar says
abbrev pub SpelledIsModule : Type 0
SpelledIsModule = (source : List ℕ) (tokens : List Token) (end : Place) (store : Store)
    → spelled (text_of source tokens end) ≡ Ok store → IsModule nesting_limit (text_of source tokens end) store

-- each module of the grammar is read
abbrev pub ModuleIsSpelled : Type 0
ModuleIsSpelled = (tokens : List Terminal) (store : Store) → IsModule nesting_limit tokens store → spelled tokens ≡ Ok store

-- the tokens before a fault begin a module
abbrev pub BeforeFaultBegins : Type 0
BeforeFaultBegins = (tokens : List Terminal) (e : Flaw) → spelled tokens ≡ Err e
    → (front : List Terminal) × (rest : List Terminal) × (tokens ≡ front ++ rest) × (length rest ≡ e.left) × Begins shared production nothing module_rule front nothing_read

-- a fault of Nesting is at a bracket that goes on, in a module of more levels
abbrev pub NestingGoesOn : Type 0
NestingGoesOn = (front : List Terminal) (token : Terminal) (rest : List Terminal) (e : Flaw)
    → spelled (front ++ token ∷ rest) ≡ Err e → e.left ≡ suc (length rest) → e.fault ≡ TooLarge Nesting
    → Begins shared production nothing module_rule (front ++ token ∷ []) nothing_read

-- with the token at any fault there is no module of at most so many levels
abbrev pub TooFewLevels : Type 0
TooFewLevels = (front : List Terminal) (token : Terminal) (rest : List Terminal) (e : Flaw)
    → spelled (front ++ token ∷ rest) ≡ Err e → e.left ≡ suc (length rest) → (more : List Terminal) (store : Store) → IsModule nesting_limit (front ++ token ∷ more) store → ⊥

-- with the token at a fault they begin none, of any depth; a fault of Nesting aside
abbrev pub FaultEnds : Type 0
FaultEnds = (front : List Terminal) (token : Terminal) (rest : List Terminal) (e : Flaw)
    → spelled (front ++ token ∷ rest) ≡ Err e → e.left ≡ suc (length rest) → (e.fault ≡ TooLarge Nesting → ⊥)
    → Begins shared production nothing module_rule (front ++ token ∷ []) nothing_read → ⊥

-- a text with a fault is no module of any depth; a fault of Nesting aside
abbrev pub FaultIsNoModule : Type 0
FaultIsNoModule = (tokens : List Terminal) (e : Flaw) → spelled tokens ≡ Err e → (e.fault ≡ TooLarge Nesting → ⊥)
    → (levels : ℕ) (store : Store) → IsModule levels tokens store → ⊥

-- a fault that is Unsupported is at a form that isn't taken there
abbrev pub UnsupportedIsListed : Type 0
UnsupportedIsListed = (tokens : List Terminal) (e : Flaw) → spelled tokens ≡ Err e → e.fault ≡ Unsupported
    → (front : List Terminal) × (token : Terminal) × (rest : List Terminal) × (tokens ≡ front ++ token ∷ rest) × (e.left ≡ suc (length rest)) × StandsListed shared production nothing module_rule front nothing_read token

-- a fault at a form that isn't taken there is Unsupported, one of nesting aside
abbrev pub ListedIsUnsupported : Type 0
ListedIsUnsupported = (front : List Terminal) (token : Terminal) (rest : List Terminal) (e : Flaw)
    → spelled (front ++ token ∷ rest) ≡ Err e → e.left ≡ suc (length rest) → (e.fault ≡ TooLarge Nesting → ⊥)
    → StandsListed shared production nothing module_rule front nothing_read token → e.fault ≡ Unsupported
