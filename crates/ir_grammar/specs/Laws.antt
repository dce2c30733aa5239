-- The laws that tie reading by a shared rule to what the grammar derives.
use Rattle.std.specs.Prelude.{ℕ, suc, List, [], ◌∷◌, ◌++◌, length, ◌≡◌, true, false, Ok, Err}
use Rattle.ir_core.specs.declared.faults.Fault.TheVariants.{BadSyntax, Unsupported, TooLarge}
use Rattle.ir_core.specs.declared.faults.Limit.TheVariants.{Nesting}
use Rattle.ir_grammar.specs.declared.terminal.Terminal.{Terminal}
use Rattle.ir_grammar.specs.declared.terminal.Flaw.{Flaw}
use Rattle.ir_grammar.specs.Rules.{Sort, Value, Derives}
use Rattle.ir_grammar.specs.Reading.{starts, first}
use Rattle.ir_grammar.specs.Conditions.{ends, has, goes_on, is_clear}
use Rattle.ir_grammar.specs.Prefixes.{Begins}
use Rattle.ir_grammar.specs.Forms.{StandsListed}
use Rattle.ir_grammar.specs.Spelled.{Store}
use Rattle.ir_grammar.specs.Names.{Base, shared, Production}
use Rattle.ir_grammar.specs.Grammar.{production, read}

-- what is read is the longest front that is derived: the tokens are a derivation, with this value and store, and the rest
abbrev pub ReadIsDerived : Type 0
ReadIsDerived = (levels : ℕ) (s : Sort Base) (a : Production s) (ts : List Terminal) (st : Store) (x : Value shared s × List Terminal × Store)
    → read levels a ts st ≡ Ok x → (front : List Terminal) × (ts ≡ front ++ x.1) × Derives shared production levels s a front st x.0 x.2

-- what is derived is read, where the tokens behind it don't go on with it
abbrev pub DerivedIsRead : Type 0
DerivedIsRead = (levels : ℕ) (s : Sort Base) (a : Production s) (front rest : List Terminal) (st : Store) (x : Value shared s) (end : Store)
    → is_clear shared production s a ≡ true → Derives shared production levels s a front st x end → starts (ends a) rest ≡ false
    → read levels a (front ++ rest) st ≡ Ok (x, rest, end)

-- the tokens before a fault begin a derivation
abbrev pub BeforeFaultBegins : Type 0
BeforeFaultBegins = (levels : ℕ) (s : Sort Base) (a : Production s) (ts : List Terminal) (st : Store) (e : Flaw)
    → goes_on a ≡ true → has true a ≡ true → read levels a ts st ≡ Err e
    → (front : List Terminal) × (rest : List Terminal) × (ts ≡ front ++ rest) × (length rest ≡ e.left) × Begins shared production s a front st

-- a fault of Nesting is at a token that goes on, in a derivation of more levels
abbrev pub NestingGoesOn : Type 0
NestingGoesOn = (levels : ℕ) (s : Sort Base) (a : Production s) (front : List Terminal) (token : Terminal) (rest : List Terminal) (st : Store) (e : Flaw)
    → goes_on a ≡ true → has true a ≡ true → read levels a (front ++ token ∷ rest) st ≡ Err e → e.left ≡ suc (length rest) → e.fault ≡ TooLarge Nesting
    → Begins shared production s a (front ++ token ∷ []) st

-- with the token at any fault there is no derivation of at most these levels
abbrev pub TooFewLevels : Type 0
TooFewLevels = (levels : ℕ) (s : Sort Base) (a : Production s) (front : List Terminal) (token : Terminal) (rest : List Terminal) (st : Store) (e : Flaw)
    → is_clear shared production s a ≡ true → goes_on a ≡ true → read levels a (front ++ token ∷ rest) st ≡ Err e → e.left ≡ suc (length rest)
    → (more : List Terminal) (x : Value shared s) (end : Store) → Derives shared production levels s a (front ++ token ∷ more) st x end → ⊥

-- with the token at a fault they begin none, of any depth; a fault of Nesting aside
abbrev pub FaultEnds : Type 0
FaultEnds = (levels : ℕ) (s : Sort Base) (a : Production s) (front : List Terminal) (token : Terminal) (rest : List Terminal) (st : Store) (e : Flaw)
    → is_clear shared production s a ≡ true → goes_on a ≡ true → read levels a (front ++ token ∷ rest) st ≡ Err e → e.left ≡ suc (length rest)
    → (e.fault ≡ TooLarge Nesting → ⊥) → Begins shared production s a (front ++ token ∷ []) st → ⊥

-- tokens with a fault, be it at their end, are no derivation of any depth; a fault of Nesting aside
abbrev pub FaultIsNoWhole : Type 0
FaultIsNoWhole = (levels : ℕ) (s : Sort Base) (a : Production s) (ts : List Terminal) (st : Store) (e : Flaw)
    → is_clear shared production s a ≡ true → read levels a ts st ≡ Err e → (e.fault ≡ TooLarge Nesting → ⊥)
    → (depth : ℕ) (x : Value shared s) (end : Store) → Derives shared production depth s a ts st x end → ⊥

-- a fault that is Unsupported is at a form that isn't taken there
abbrev pub UnsupportedIsListed : Type 0
UnsupportedIsListed = (levels : ℕ) (s : Sort Base) (a : Production s) (ts : List Terminal) (st : Store) (e : Flaw)
    → read levels a ts st ≡ Err e → e.fault ≡ Unsupported
    → (front : List Terminal) × (token : Terminal) × (rest : List Terminal) × (ts ≡ front ++ token ∷ rest) × (e.left ≡ suc (length rest)) × StandsListed shared production s a front st token

-- a fault at a form that isn't taken there is Unsupported, one of nesting aside
abbrev pub ListedIsUnsupported : Type 0
ListedIsUnsupported = (levels : ℕ) (s : Sort Base) (a : Production s) (front : List Terminal) (token : Terminal) (rest : List Terminal) (st : Store) (e : Flaw)
    → is_clear shared production s a ≡ true → goes_on a ≡ true → read levels a (front ++ token ∷ rest) st ≡ Err e → e.left ≡ suc (length rest)
    → (e.fault ≡ TooLarge Nesting → ⊥) → StandsListed shared production s a front st token → e.fault ≡ Unsupported

-- at the first token a rule gives no BadSyntax if it is read at that token's kind
abbrev pub FirstIsNotBad : Type 0
FirstIsNotBad = (levels : ℕ) (s : Sort Base) (a : Production s) (token : Terminal) (rest : List Terminal) (st : Store) (e : Flaw)
    → is_clear shared production s a ≡ true → goes_on a ≡ true → starts (first a) (token ∷ rest) ≡ true
    → read levels a (token ∷ rest) st ≡ Err e → e.left ≡ suc (length rest) → e.fault ≡ BadSyntax → ⊥
