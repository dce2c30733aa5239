-- The grammar of the shared productions: each name's rule, and reading by it.
use Rattle.std.specs.Prelude.{ℕ, zero, suc, List, ◌++◌, ◌≡◌, Result, Ok, Err}
use Rattle.hw_base.specs.declared.numbers.TheConstants.{MOST_NESTING}
use Rattle.ir_grammar.specs.declared.terminal.Failure.{Failure}
use Rattle.ir_grammar.specs.declared.terminal.Failure.TheVariants as failures
use Rattle.ir_grammar.specs.declared.terminal.Flaw.{Flaw}
use Rattle.ir_grammar.specs.declared.reader.Reader.{Reader}
use Rattle.ir_grammar.specs.Rules.{Sort, Value}
use Rattle.ir_grammar.specs.Reading.{Outcome, ◌>>=◌, Reading, read_in, inside, too_deep}
use Rattle.ir_grammar.specs.Spelled.{Store, store_of}
use Rattle.ir_grammar.specs.Names.{Base, Name, array_inside, types_inside, elements_inside, address_inside, parameters_inside, any_inside, incoming_inside, pair_inside, arguments_inside, cases_inside, scope_inside, blocks_inside, sort_of, shared, Production}
use Rattle.ir_grammar.specs.Skipped.{any_run}
use Rattle.ir_grammar.specs.Types.{array_rule, types_rule}
use Rattle.ir_grammar.specs.Constants.{elements_rule, address_rule}
use Rattle.ir_grammar.specs.Parameters.{parameters_rule}
use Rattle.ir_grammar.specs.Operands.{scope_rule}
use Rattle.ir_grammar.specs.Instructions.{incoming_rule, pair_rule}
use Rattle.ir_grammar.specs.Calls.{arguments_rule}
use Rattle.ir_grammar.specs.Terminators.{cases_rule}
use Rattle.ir_grammar.specs.Blocks.{blocks_rule}

-- the rule of each name
abbrev pub production : (n : Name) → Production (sort_of n)
production (array_inside c) = array_rule c
production (types_inside c) = types_rule c
production elements_inside = elements_rule
production address_inside = address_rule
production (parameters_inside c) = parameters_rule c
production any_inside = any_run
production incoming_inside = incoming_rule
production pair_inside = pair_rule
production arguments_inside = arguments_rule
production cases_inside = cases_rule
production scope_inside = scope_rule
production blocks_inside = blocks_rule

-- how many brackets may stand around one another. This project's choice
abbrev pub nesting_limit : ℕ
nesting_limit = MOST_NESTING

-- reading by a rule, where so many levels may still be opened
abbrev pub read : {s : Sort Base} → ℕ → Production s → Reading Store (Value shared s)
read levels rule ts store = read_in (inside shared production levels) rule ts store

-- what is read, with these items before it
abbrev pub with_front : {Store A : Type 0} → List A → Outcome Store (List A) → Outcome Store (List A)
with_front front outcome = outcome >>= λ x. Ok (front ++ x.0, x.1, x.2)

-- one level fewer, behind a bracket with so many tokens from it on
abbrev pub deeper : ℕ → ℕ → Result ℕ Flaw
deeper zero at = Err (too_deep at)
deeper (suc levels) at = Ok levels

-- a failure is the flaw of this reading, or want of memory
abbrev pub Fails : {Y : Type 0} → Failure → Result Y Flaw → Type 0
Fails failures.OutOfMemory read = Unit {0}
Fails (failures.Flawed flaw) read = read ≡ Err flaw

-- what a call answered, seen by view, is the outcome of this reading, unless memory ran out
abbrev pub Gives : {X Y : Type 0} → (X → Y) → Result X Failure → Result Y Flaw → Type 0
Gives view (Ok x) read = read ≡ Ok (view x)
Gives view (Err e) read = Fails e read

-- what a method of a reader answered, seen by view, and what the reader then is, are the reading of this rule, unless
-- memory ran out
abbrev pub Reads : {X : Type 0} {s : Sort Base} → (X → Value shared s) → Result X Failure → Reader → Reader → ℕ → Production s → Type 0
Reads view result old new levels rule =
    Gives (λ x. (view x, new.rest.now, store_of new.found)) result (read levels rule old.rest.now (store_of old.found))
