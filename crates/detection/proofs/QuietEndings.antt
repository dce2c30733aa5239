-- What a step prints in which the source meets a violation or leaves the profile: nothing more on from operands and accesses.
use Rattle.std.proofs.Common.{◌≡◌, ℕ, List, [], ◌∷◌, Option, Some, None, Bool, true, false, if◌then◌else◌, refl}
use Rattle.std.specs.Prelude.{Result, Ok, Err}
use Rattle.hw_base.specs.declared.accesses.Access.{Access}
use Rattle.hw_base.specs.declared.accesses.Reason.{Reason}
use Rattle.hw_base.specs.declared.pointers.Base.{Base}
use Rattle.hw_tags.specs.TaskRuns.{Goes, Stays, Starts, Finishes, Ends, Stuck}
use Rattle.ir_core.specs.declared.ir_module.Function.{Function}
use Rattle.ir_core.specs.LibraryAccesses.{LibraryAccess, Counted, Fixed, Text, Freed}
use Rattle.ir_meaning.specs.Values.{Value, Integer, Address, IntegerAndBit}
use Rattle.ir_meaning.specs.AccessRule.{AccessAnswer, Fine, Violates, WritesConstant, IsOutside, NoAnswer}
use Rattle.ir_meaning.specs.State.{SourceSeen, SourceOutcome, Exited, Trapped, Violated, Outside}
use Rattle.ir_meaning.specs.Operands.{with_named, with_integer, with_pointer, with_pair}
use Rattle.ir_meaning.specs.StepEnds.{on_answer, on_read, on_integer}
use Rattle.ir_meaning.specs.Strings.{StringAnswer, Whole, Refused, MeetsPiece, NotEnded}
use Rattle.ir_meaning.specs.CallSteps.{on_arguments}
use Rattle.ir_meaning.specs.LibraryCalls.{on_string, on_library_access, on_accesses}

-- what a step printed in which the source met a violation or left the profile
abbrev pub printed_at_fault : SourceOutcome → List ℕ
printed_at_fault (Goes s report) = []
printed_at_fault Stays = []
printed_at_fault (Starts s report frame) = []
printed_at_fault (Finishes shared report) = []
printed_at_fault (Ends shared frames report (Exited n)) = []
printed_at_fault (Ends shared frames report (Trapped trap task chain)) = []
printed_at_fault (Ends shared frames report (Violated v)) = report.printed
printed_at_fault (Ends shared frames report (Outside reason task chain)) = report.printed
printed_at_fault Stuck = []

abbrev pub IsQuiet : SourceOutcome → Type 0
IsQuiet o = printed_at_fault o ≡ []

-- ---- on from operands and accesses

pub with_named-quiet : {X : Type 0} (o : Option X) (go : X → SourceOutcome) → ((x : X) → IsQuiet (go x)) → IsQuiet (with_named o go)
unfolding with_named
with_named-quiet None go h = refl
with_named-quiet (Some x) go h = h x

pub with_integer-quiet : (width : ℕ) (o : Option Value) (go : ℕ → SourceOutcome) → ((n : ℕ) → IsQuiet (go n)) → IsQuiet (with_integer width o go)
unfolding with_integer
with_integer-quiet width None go h = refl
with_integer-quiet width (Some (Integer n)) go h = h _
with_integer-quiet width (Some (Address base off)) go h = refl
with_integer-quiet width (Some (IntegerAndBit n bit)) go h = refl

pub with_pointer-quiet : (o : Option Value) (go : Base → ℕ → SourceOutcome) → ((base : Base) (off : ℕ) → IsQuiet (go base off)) → IsQuiet (with_pointer o go)
unfolding with_pointer
with_pointer-quiet None go h = refl
with_pointer-quiet (Some (Integer n)) go h = refl
with_pointer-quiet (Some (Address base off)) go h = h base _
with_pointer-quiet (Some (IntegerAndBit n bit)) go h = refl

pub with_pair-quiet : (o : Option Value) (go : ℕ → ℕ → SourceOutcome) → ((n bit : ℕ) → IsQuiet (go n bit)) → IsQuiet (with_pair o go)
unfolding with_pair
with_pair-quiet None go h = refl
with_pair-quiet (Some (Integer n)) go h = refl
with_pair-quiet (Some (Address base off)) go h = refl
with_pair-quiet (Some (IntegerAndBit n bit)) go h = h n bit

pub if-quiet : (test : Bool) (a b : SourceOutcome) → IsQuiet a → IsQuiet b → IsQuiet (if test then a else b)
if-quiet true a b h k = h
if-quiet false a b h k = k

pub on_arguments-quiet : (f : Function) (arguments : List Value) (next : SourceOutcome) → IsQuiet next → IsQuiet (on_arguments f arguments next)
unfolding on_arguments
on_arguments-quiet f arguments next h = if-quiet _ next Stuck h refl

-- ---- accesses

pub on_answer-quiet : (s : SourceSeen) (access : Access) (base : Base) (off size : ℕ) (answer : AccessAnswer) (next : SourceOutcome) → IsQuiet next → IsQuiet (on_answer s access base off size answer next)
unfolding on_answer
on_answer-quiet s access base off size Fine next h = h
on_answer-quiet s access base off size (Violates kind) next h = refl
on_answer-quiet s access base off size WritesConstant next h = refl
on_answer-quiet s access base off size (IsOutside reason) next h = refl
on_answer-quiet s access base off size NoAnswer next h = refl

pub on_read-quiet : (s : SourceSeen) (r : Result Value Reason) (go : Value → SourceOutcome) → ((v : Value) → IsQuiet (go v)) → IsQuiet (on_read s r go)
unfolding on_read
on_read-quiet s (Ok v) go h = h v
on_read-quiet s (Err reason) go h = refl

pub on_integer-quiet : (s : SourceSeen) (o : Option ℕ) (go : ℕ → SourceOutcome) → ((n : ℕ) → IsQuiet (go n)) → IsQuiet (on_integer s o go)
unfolding on_integer
on_integer-quiet s None go h = refl
on_integer-quiet s (Some n) go h = h n

pub on_string-quiet : (s : SourceSeen) (base : Base) (found : StringAnswer) (next : SourceOutcome) → IsQuiet next → IsQuiet (on_string s base found next)
unfolding on_string
on_string-quiet s base (Whole ns) next h = h
on_string-quiet s base (Refused off answer) next h = on_answer-quiet s _ base off 1 answer Stuck refl
on_string-quiet s base MeetsPiece next h = refl
on_string-quiet s base NotEnded next h = refl

pub on_library_access-quiet : (s : SourceSeen) (values : List (Option Value)) (access : LibraryAccess) (next : SourceOutcome) → IsQuiet next → IsQuiet (on_library_access s values access next)
on_library_access-quiet s values (Counted access pointer count) next h =
    with_pointer-quiet _ _ (λ base off. with_integer-quiet 64 _ _ (λ size.
    on_answer-quiet s access base off size _ next h))
on_library_access-quiet s values (Fixed access pointer size) next h =
    with_pointer-quiet _ _ (λ base off. on_answer-quiet s access base off size _ next h)
on_library_access-quiet s values (Text pointer) next h =
    with_pointer-quiet _ _ (λ base off. on_string-quiet s base _ next h)
on_library_access-quiet s values (Freed pointer) next h =
    with_pointer-quiet _ _ (λ base off. on_answer-quiet s _ base off 0 _ next h)

pub on_accesses-quiet : (s : SourceSeen) (values : List (Option Value)) (accesses : List LibraryAccess) (next : SourceOutcome) → IsQuiet next → IsQuiet (on_accesses s values accesses next)
unfolding on_accesses
on_accesses-quiet s values [] next h = h
on_accesses-quiet s values (access ∷ accesses) next h =
    on_library_access-quiet s values access _ (on_accesses-quiet s values accesses next h)
