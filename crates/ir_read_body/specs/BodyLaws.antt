-- The laws that tie what a body spells to what the grammar derives.
use Rattle.std.specs.Prelude.{ℕ, List, [], ◌∷◌, ◌++◌, suc, length, ◌≡◌, Ok, Err}
use Rattle.ir_core.specs.declared.faults.Fault.TheVariants.{Unsupported, TooLarge}
use Rattle.ir_core.specs.declared.faults.Limit.TheVariants.{Nesting}
use Rattle.ir_grammar.specs.declared.spelled_bodies.SpelledBlock.{SpelledBlock}
use Rattle.ir_grammar.specs.declared.terminal.Terminal.{Terminal}
use Rattle.ir_grammar.specs.declared.terminal.Flaw.{Flaw}
use Rattle.ir_grammar.specs.Rules.{base, list, Derives}
use Rattle.ir_grammar.specs.Prefixes.{Begins}
use Rattle.ir_grammar.specs.Forms.{StandsListed}
use Rattle.ir_grammar.specs.Names.{block, shared}
use Rattle.ir_grammar.specs.Spelled.{Store}
use Rattle.ir_grammar.specs.Grammar.{production, read, nesting_limit}
use Rattle.ir_grammar.specs.Blocks.{function_body}

-- the tokens are a body, with at most this many brackets around one another; these are its blocks, and it takes the store
-- from the one to the other
abbrev pub IsBody : (levels : ℕ) → List Terminal → (before : Store) → List SpelledBlock → (after : Store) → Type 0
IsBody levels tokens before blocks after = Derives shared production levels (list (base block)) function_body tokens before blocks after

-- what is read is a body of the grammar, and nothing more
abbrev pub ReadIsBody : Type 0
ReadIsBody = (tokens : List Terminal) (store : Store) (x : List SpelledBlock × List Terminal × Store) → read nesting_limit function_body tokens store ≡ Ok x
    → (front : List Terminal) × (tokens ≡ front ++ x.1) × IsBody nesting_limit front store x.0 x.2

-- each body of the grammar is read, whatever follows it
abbrev pub BodyIsRead : Type 0
BodyIsRead = (front rest : List Terminal) (before : Store) (blocks : List SpelledBlock) (after : Store) → IsBody nesting_limit front before blocks after
    → read nesting_limit function_body (front ++ rest) before ≡ Ok (blocks, rest, after)

-- the tokens before a fault begin a body
abbrev pub BeforeFaultBegins : Type 0
BeforeFaultBegins = (tokens : List Terminal) (store : Store) (e : Flaw) → read nesting_limit function_body tokens store ≡ Err e
    → (front : List Terminal) × (rest : List Terminal) × (tokens ≡ front ++ rest) × (length rest ≡ e.left) × Begins shared production (list (base block)) function_body front store

-- a fault of Nesting is at a bracket that goes on, in a body of more levels
abbrev pub NestingGoesOn : Type 0
NestingGoesOn = (front : List Terminal) (token : Terminal) (rest : List Terminal) (store : Store) (e : Flaw)
    → read nesting_limit function_body (front ++ token ∷ rest) store ≡ Err e → e.left ≡ suc (length rest) → e.fault ≡ TooLarge Nesting
    → Begins shared production (list (base block)) function_body (front ++ token ∷ []) store

-- with the token at any fault there is no body of at most so many levels
abbrev pub TooFewLevels : Type 0
TooFewLevels = (front : List Terminal) (token : Terminal) (rest : List Terminal) (store : Store) (e : Flaw)
    → read nesting_limit function_body (front ++ token ∷ rest) store ≡ Err e → e.left ≡ suc (length rest)
    → (more : List Terminal) (blocks : List SpelledBlock) (after : Store) → IsBody nesting_limit (front ++ token ∷ more) store blocks after → ⊥

-- with the token at a fault they begin none, of any depth; a fault of Nesting aside
abbrev pub FaultEnds : Type 0
FaultEnds = (front : List Terminal) (token : Terminal) (rest : List Terminal) (store : Store) (e : Flaw)
    → read nesting_limit function_body (front ++ token ∷ rest) store ≡ Err e → e.left ≡ suc (length rest) → (e.fault ≡ TooLarge Nesting → ⊥)
    → Begins shared production (list (base block)) function_body (front ++ token ∷ []) store → ⊥

-- tokens with a fault are no body of any depth; a fault of Nesting aside
abbrev pub FaultIsNoBody : Type 0
FaultIsNoBody = (tokens : List Terminal) (store : Store) (e : Flaw) → read nesting_limit function_body tokens store ≡ Err e → (e.fault ≡ TooLarge Nesting → ⊥)
    → (levels : ℕ) (blocks : List SpelledBlock) (after : Store) → IsBody levels tokens store blocks after → ⊥

-- a fault that is Unsupported is at a form that isn't taken there
abbrev pub UnsupportedIsListed : Type 0
UnsupportedIsListed = (tokens : List Terminal) (store : Store) (e : Flaw) → read nesting_limit function_body tokens store ≡ Err e → e.fault ≡ Unsupported
    → (front : List Terminal) × (token : Terminal) × (rest : List Terminal) × (tokens ≡ front ++ token ∷ rest) × (e.left ≡ suc (length rest)) × StandsListed shared production (list (base block)) function_body front store token

-- a fault at a form that isn't taken there is Unsupported, one of nesting aside
abbrev pub ListedIsUnsupported : Type 0
ListedIsUnsupported = (front : List Terminal) (token : Terminal) (rest : List Terminal) (store : Store) (e : Flaw)
    → read nesting_limit function_body (front ++ token ∷ rest) store ≡ Err e → e.left ≡ suc (length rest) → (e.fault ≡ TooLarge Nesting → ⊥)
    → StandsListed shared production (list (base block)) function_body front store token → e.fault ≡ Unsupported
