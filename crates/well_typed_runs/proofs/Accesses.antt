-- The access rule answers every access through a pointer to what was born, and steps go on from it.
use Rattle.std.proofs.Common.{◌≡◌, ◌≢◌, ℕ, zero, suc, ◌+◌, ◌%◌, List, Option, Some, None, Bool, true, false, cond, nat_le, ◌==◌, refl, sym, subst, inl}
use Rattle.std.specs.Prelude.{Result, Ok, Err}
use Rattle.hw_base.specs.declared.accesses.Access.{Access}
use Rattle.hw_base.specs.declared.accesses.Access.TheVariants.{Read, Write, Free}
use Rattle.hw_base.specs.declared.accesses.Reason.{Reason}
use Rattle.hw_base.specs.declared.pointers.Base.{Base}
use Rattle.hw_base.specs.declared.pointers.Base.TheVariants.{Null, Object}
use Rattle.ir_core.specs.declared.ir_module.Module.{Module}
use Rattle.ir_meaning.specs.AccessRule.{AccessAnswer, Fine, Violates, WritesConstant, IsOutside, NoAnswer, Accessed, AccessBase, OnNull, OnObject, OnNothing, access_rule, access_answer, accessed, accessed_in, base_answer, object_answer, living_answer, inside_answer, dead_answer, bytes_answer, free_answer, start_free}
use Rattle.ir_meaning.specs.Births.{Birth, Region, Globals, Stack, Heap, SourceObject, region_of}
use Rattle.ir_meaning.specs.State.{SourceSeen, SourceOutcome}
use Rattle.ir_meaning.specs.StepEnds.{on_answer, on_access, on_read, on_integer}
use Rattle.ir_meaning.specs.Values.{Value}
use Rattle.well_typed_runs.specs.GoodWorlds.{IsGoodOutcome}
use Rattle.well_typed_runs.specs.KnownValues.{IsKnownBase, AreGoodBirths}

-- ---- what the rule looks at

-- null, or an object that was born; a global variable lives
abbrev pub IsKnownAccess : AccessBase → Type 0
IsKnownAccess OnNull = Unit {0}
IsKnownAccess (OnObject x) = x.region ≡ Globals → x.living ≡ true
IsKnownAccess OnNothing = ⊥

pub known_access : (m : Module) (births : List Birth) (base : Base) → AreGoodBirths m births → IsKnownBase births base → IsKnownAccess (accessed births base)
known_access m births Null good known = tt
known_access m births (Object o) good (x, there) =
    subst (λ (found : Option SourceObject). IsKnownAccess (accessed_in (region_of births o) found)) (sym there) (λ region. good.living o x there region)

-- ---- the rule

if_other : {A : Type 0} (P : A → Type 0) (test : Bool) (a b : A) → (test ≡ true → P a) → (test ≡ false → P b) → P (cond test a b)
if_other P true a b h k = h refl
if_other P false a b h k = k refl

Answers : AccessAnswer → Type 0
Answers answer = answer ≢ NoAnswer

inside_answers : (access : Access) (constant : Bool) → Answers (inside_answer access constant)
unfolding Answers
inside_answers Read true e = absurd cc
inside_answers Read false e = absurd cc
inside_answers Write true e = absurd cc
inside_answers Write false e = absurd cc
inside_answers Free true e = absurd cc
inside_answers Free false e = absurd cc

living_answers : (access : Access) (x : Accessed) (off count : ℕ) → Answers (living_answer access x off count)
unfolding Answers
living_answers access x off count =
    if_other Answers (nat_le (off + count) x.size) (inside_answer access x.constant) _ (λ e. inside_answers access x.constant) (λ e h. absurd cc)

dead_answers : (region : Region) → (region ≡ Globals → ⊥) → Answers (dead_answer region)
unfolding Answers
dead_answers Globals h = absurd (h refl)
dead_answers (Stack func) h = λ e. absurd cc
dead_answers Heap h = λ e. absurd cc

object_answers : (access : Access) (x : Accessed) (off count : ℕ) → (x.region ≡ Globals → x.living ≡ true) → Answers (object_answer access x off count)
object_answers access x off count known =
    if_other Answers x.living (living_answer access x off count) (dead_answer x.region) (λ e. living_answers access x off count)
    (λ dead. dead_answers x.region (λ global. let alive = known global in absurd cc))

base_answers : (access : Access) (base : AccessBase) (off count : ℕ) → IsKnownAccess base → Answers (base_answer access base off count)
unfolding Answers
base_answers access OnNull off count known = λ e. absurd cc
base_answers access (OnObject x) off count known = object_answers access x off count known
base_answers access OnNothing off count known = absurd known

bytes_answers : (access : Access) (base : AccessBase) (off count align : ℕ) → IsKnownAccess base → Answers (bytes_answer access base off count align)
unfolding Answers
bytes_answers access base off zero align known = λ e. absurd cc
bytes_answers access base off (suc count) align known =
    if_other Answers (off % align == 0) (base_answer access base off (suc count)) _ (λ e. base_answers access base off (suc count) known) (λ e h. absurd cc)

start_answers : (region : Region) (living : Bool) → Answers (start_free region living)
unfolding Answers
start_answers Globals living e = absurd cc
start_answers (Stack func) living e = absurd cc
start_answers Heap true e = absurd cc
start_answers Heap false e = absurd cc

free_answers : (base : AccessBase) (off : ℕ) → IsKnownAccess base → Answers (free_answer base off)
unfolding Answers
free_answers OnNull off known = if_other Answers (off == 0) Fine _ (λ e h. absurd cc) (λ e h. absurd cc)
free_answers (OnObject x) off known = if_other Answers (off == 0) (start_free x.region x.living) _ (λ e. start_answers x.region x.living) (λ e h. absurd cc)
free_answers OnNothing off known = absurd known

pub rule_answers : (access : Access) (base : AccessBase) (off count align : ℕ) → IsKnownAccess base → access_rule access base off count align ≢ NoAnswer
unfolding access_rule Answers
rule_answers Read base off count align known = bytes_answers Read base off count align known
rule_answers Write base off count align known = bytes_answers Write base off count align known
rule_answers Free base off count align known = free_answers base off known

-- ---- on from accesses

pub answer_good : (m : Module) (s : SourceSeen) (access : Access) (base : Base) (off size : ℕ) (answer : AccessAnswer) (next : SourceOutcome) → answer ≢ NoAnswer
    → (answer ≡ Fine → IsGoodOutcome m s next) → IsGoodOutcome m s (on_answer s access base off size answer next)
unfolding on_answer
answer_good m s access base off size Fine next h k = k refl
answer_good m s access base off size (Violates kind) next h k = inl refl
answer_good m s access base off size WritesConstant next h k = inl refl
answer_good m s access base off size (IsOutside reason) next h k = inl refl
answer_good m s access base off size NoAnswer next h k = absurd (h refl)

pub access_good : (m : Module) (s : SourceSeen) (access : Access) (base : Base) (off size align : ℕ) (next : SourceOutcome) → AreGoodBirths m s.shared.births
    → IsKnownBase s.shared.births base → (access_answer s.shared.births access base off size align ≡ Fine → IsGoodOutcome m s next)
    → IsGoodOutcome m s (on_access s access base off size align next)
access_good m s access base off size align next good known k =
    answer_good m s access base off size (access_answer s.shared.births access base off size align) next
    (rule_answers access (accessed s.shared.births base) off size align (known_access m s.shared.births base good known)) k

pub read_good : (m : Module) (s : SourceSeen) (r : Result Value Reason) (go : Value → SourceOutcome) → ((value : Value) → r ≡ Ok value → IsGoodOutcome m s (go value))
    → IsGoodOutcome m s (on_read s r go)
unfolding on_read
read_good m s (Ok value) go h = h value refl
read_good m s (Err reason) go h = inl refl

pub read_integer_good : (m : Module) (s : SourceSeen) (found : Option ℕ) (go : ℕ → SourceOutcome) → ((n : ℕ) → IsGoodOutcome m s (go n))
    → IsGoodOutcome m s (on_integer s found go)
unfolding on_integer
read_integer_good m s None go h = inl refl
read_integer_good m s (Some n) go h = h n
