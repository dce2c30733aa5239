-- What a step's outcome does to births, and that going on from operands and accesses does nothing else.
use Rattle.std.proofs.Common.{ℕ, List, [], ◌∷◌, Option, Some, None, Bool, true, false, if◌then◌else◌}
use Rattle.std.specs.Prelude.{Result, Ok, Err}
use Rattle.hw_base.specs.declared.accesses.Access.{Access}
use Rattle.hw_base.specs.declared.accesses.Reason.{Reason}
use Rattle.hw_base.specs.declared.pointers.Base.{Base}
use Rattle.hw_tags.specs.TaskRuns.{Goes, Stays, Starts, Finishes, Ends, Stuck}
use Rattle.ir_core.specs.declared.ir_module.Function.{Function}
use Rattle.ir_core.specs.LibraryAccesses.{LibraryAccess, Counted, Fixed, Text, Freed}
use Rattle.ir_meaning.specs.Values.{Value, Integer, Address, IntegerAndBit}
use Rattle.ir_meaning.specs.Births.{Birth}
use Rattle.ir_meaning.specs.BirthChanges.{BirthsChange, same}
use Rattle.ir_meaning.specs.AccessRule.{AccessAnswer, Fine, Violates, WritesConstant, IsOutside, NoAnswer}
use Rattle.ir_meaning.specs.State.{SourceSeen, SourceOutcome, SourceShared, SourceReport}
use Rattle.ir_meaning.specs.Operands.{with_named, with_integer, with_pointer, with_pair}
use Rattle.ir_meaning.specs.StepEnds.{on_answer, on_read, on_integer}
use Rattle.ir_meaning.specs.Strings.{StringAnswer, Whole, Refused, MeetsPiece, NotEnded}
use Rattle.ir_meaning.specs.CallSteps.{on_arguments}
use Rattle.ir_meaning.specs.LibraryCalls.{on_string, on_library_access, on_accesses}

-- births change to those after the step as it reports
abbrev pub ChangesTo : List Birth → SourceShared → SourceReport → Type 0
ChangesTo births shared report = BirthsChange births shared.births report.news

abbrev pub Changes : List Birth → SourceOutcome → Type 0
Changes births (Goes s report) = ChangesTo births s.shared report
Changes births Stays = Unit {0}
Changes births (Starts s report frame) = ChangesTo births s.shared report
Changes births (Finishes shared report) = ChangesTo births shared report
Changes births (Ends shared frames report ending) = ChangesTo births shared report
Changes births Stuck = Unit {0}

pub with_named-changes : {X : Type 0} (births : List Birth) (o : Option X) (go : X → SourceOutcome) → ((x : X) → Changes births (go x)) → Changes births (with_named o go)
unfolding with_named
with_named-changes births None go h = tt
with_named-changes births (Some x) go h = h x

pub with_integer-changes : (births : List Birth) (width : ℕ) (o : Option Value) (go : ℕ → SourceOutcome) → ((n : ℕ) → Changes births (go n)) → Changes births (with_integer width o go)
unfolding with_integer
with_integer-changes births width None go h = tt
with_integer-changes births width (Some (Integer n)) go h = h _
with_integer-changes births width (Some (Address base off)) go h = tt
with_integer-changes births width (Some (IntegerAndBit n bit)) go h = tt

pub with_pointer-changes : (births : List Birth) (o : Option Value) (go : Base → ℕ → SourceOutcome) → ((base : Base) (off : ℕ) → Changes births (go base off)) → Changes births (with_pointer o go)
unfolding with_pointer
with_pointer-changes births None go h = tt
with_pointer-changes births (Some (Integer n)) go h = tt
with_pointer-changes births (Some (Address base off)) go h = h base _
with_pointer-changes births (Some (IntegerAndBit n bit)) go h = tt

pub with_pair-changes : (births : List Birth) (o : Option Value) (go : ℕ → ℕ → SourceOutcome) → ((n bit : ℕ) → Changes births (go n bit)) → Changes births (with_pair o go)
unfolding with_pair
with_pair-changes births None go h = tt
with_pair-changes births (Some (Integer n)) go h = tt
with_pair-changes births (Some (Address base off)) go h = tt
with_pair-changes births (Some (IntegerAndBit n bit)) go h = h n bit

pub if-changes : (births : List Birth) (test : Bool) (a b : SourceOutcome) → Changes births a → Changes births b → Changes births (if test then a else b)
if-changes births true a b h k = h
if-changes births false a b h k = k

pub on_arguments-changes : (births : List Birth) (f : Function) (arguments : List Value) (next : SourceOutcome) → Changes births next → Changes births (on_arguments f arguments next)
unfolding on_arguments
on_arguments-changes births f arguments next h = if-changes births _ next Stuck h tt

-- ---- accesses

pub on_answer-changes : (s : SourceSeen) (access : Access) (base : Base) (off size : ℕ) (answer : AccessAnswer) (next : SourceOutcome) → Changes s.shared.births next → Changes s.shared.births (on_answer s access base off size answer next)
unfolding on_answer
on_answer-changes s access base off size Fine next h = h
on_answer-changes s access base off size (Violates kind) next h = same s.shared.births
on_answer-changes s access base off size WritesConstant next h = same s.shared.births
on_answer-changes s access base off size (IsOutside reason) next h = same s.shared.births
on_answer-changes s access base off size NoAnswer next h = tt

pub on_read-changes : (s : SourceSeen) (r : Result Value Reason) (go : Value → SourceOutcome) → ((v : Value) → Changes s.shared.births (go v)) → Changes s.shared.births (on_read s r go)
unfolding on_read
on_read-changes s (Ok v) go h = h v
on_read-changes s (Err reason) go h = same s.shared.births

pub on_integer-changes : (s : SourceSeen) (o : Option ℕ) (go : ℕ → SourceOutcome) → ((n : ℕ) → Changes s.shared.births (go n)) → Changes s.shared.births (on_integer s o go)
unfolding on_integer
on_integer-changes s None go h = same s.shared.births
on_integer-changes s (Some n) go h = h n

on_string-changes : (s : SourceSeen) (base : Base) (found : StringAnswer) (next : SourceOutcome) → Changes s.shared.births next → Changes s.shared.births (on_string s base found next)
unfolding on_string
on_string-changes s base (Whole ns) next h = h
on_string-changes s base (Refused off answer) next h = on_answer-changes s _ base off 1 answer Stuck tt
on_string-changes s base MeetsPiece next h = same s.shared.births
on_string-changes s base NotEnded next h = tt

on_library_access-changes : (s : SourceSeen) (values : List (Option Value)) (access : LibraryAccess) (next : SourceOutcome) → Changes s.shared.births next → Changes s.shared.births (on_library_access s values access next)
on_library_access-changes s values (Counted access pointer count) next h =
    with_pointer-changes s.shared.births _ _ (λ base off. with_integer-changes s.shared.births 64 _ _ (λ size.
    on_answer-changes s access base off size _ next h))
on_library_access-changes s values (Fixed access pointer size) next h =
    with_pointer-changes s.shared.births _ _ (λ base off. on_answer-changes s access base off size _ next h)
on_library_access-changes s values (Text pointer) next h =
    with_pointer-changes s.shared.births _ _ (λ base off. on_string-changes s base _ next h)
on_library_access-changes s values (Freed pointer) next h =
    with_pointer-changes s.shared.births _ _ (λ base off. on_answer-changes s _ base off 0 _ next h)

pub on_accesses-changes : (s : SourceSeen) (values : List (Option Value)) (accesses : List LibraryAccess) (next : SourceOutcome) → Changes s.shared.births next → Changes s.shared.births (on_accesses s values accesses next)
unfolding on_accesses
on_accesses-changes s values [] next h = h
on_accesses-changes s values (access ∷ accesses) next h =
    on_library_access-changes s values access _ (on_accesses-changes s values accesses next h)
