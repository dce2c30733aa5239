-- What a step does with its frame, how it ends, and how it goes on from an access. A step takes the accesses that it makes in
-- order, and the first that isn't fine ends it. This project's choice.
use Rattle.std.specs.Prelude.{ℕ, ◌+◌, List, ◌∷◌, slice_set, Option, Some, None, Result, Ok, Err}
use Rattle.hw_base.specs.declared.accesses.Access.{Access}
use Rattle.hw_base.specs.declared.accesses.Kind.{Kind}
use Rattle.hw_base.specs.declared.accesses.Reason.{Reason}
use Rattle.hw_base.specs.declared.accesses.Reason.TheVariants.{IntegerOverPieces}
use Rattle.hw_base.specs.declared.endings.Trap.{Trap}
use Rattle.hw_base.specs.declared.endings.Trap.TheVariants.{ReadOnly}
use Rattle.hw_base.specs.declared.pointers.Base.{Base}
use Rattle.hw_base.specs.declared.pointers.Site.{Site}
use Rattle.hw_tags.specs.TaskRuns.{Goes, Ends, Stuck}
use Rattle.ir_meaning.specs.Values.{Value, SourceByte}
use Rattle.ir_meaning.specs.Births.{put_bytes}
use Rattle.ir_meaning.specs.AccessRule.{AccessAnswer, Fine, Violates, WritesConstant, IsOutside, NoAnswer, access_answer}
use Rattle.ir_meaning.specs.State.{SourceFrame, SourceReport, Violation, SourceEnding, Trapped, Violated, Outside, SourceSeen, SourceOutcome, nothing_happened}

-- ---- the place of a step

-- the site of the instruction
abbrev pub site_of : SourceSeen → Site
site_of s = record { func = s.frame.func; inst = s.frame.inst }

-- its chain: that site, then the frame's chain
abbrev pub chain_of : SourceSeen → List Site
chain_of s = site_of s ∷ s.frame.chain

-- ---- what a step does with its frame

-- registers after a result, if there is a register for it
abbrev pub with_result : List (Option Value) → Option ℕ → Value → List (Option Value)
with_result registers None value = registers
with_result registers (Some r) value = slice_set registers r (Some value)

-- a frame at its next instruction
abbrev pub next_instruction : SourceFrame → SourceFrame
next_instruction frame = record frame { inst = frame.inst + 1 }

-- the state at the next instruction
abbrev pub advanced : SourceSeen → SourceSeen
advanced s = record s { frame = next_instruction s.frame }

-- the state with a result
abbrev pub assigned : SourceSeen → Option ℕ → Value → SourceSeen
assigned s result value = record s { frame = record s.frame { registers = with_result s.frame.registers result value } }

-- the state after bytes were written through a pointer
abbrev pub stored : SourceSeen → Base → (off : ℕ) → List SourceByte → SourceSeen
stored s base off bytes = record s { shared = record s.shared { births = put_bytes s.shared.births base off bytes } }

-- ---- ends of steps

-- to the next instruction, with a report
abbrev pub goes_on : SourceSeen → SourceReport → SourceOutcome
goes_on s report = Goes (advanced s) report

-- the same, with a result
abbrev pub gives_with : SourceSeen → Option ℕ → Value → SourceReport → SourceOutcome
gives_with s result value report = goes_on (assigned s result value) report

-- the same, when nothing else happened
abbrev pub gives : SourceSeen → Option ℕ → Value → SourceOutcome
gives s result value = gives_with s result value nothing_happened

-- the run ends, and nothing happened in its last step
abbrev pub ends : SourceSeen → SourceEnding → SourceOutcome
ends s ending = Ends s.shared (s.frame ∷ s.callers) nothing_happened ending

abbrev pub traps : SourceSeen → Trap → SourceOutcome
traps s trap = ends s (Trapped trap s.task (chain_of s))

abbrev pub goes_outside : SourceSeen → Reason → SourceOutcome
goes_outside s reason = ends s (Outside reason s.task (chain_of s))

abbrev pub violation_of : SourceSeen → Kind → Access → Base → (off size : ℕ) → Violation
violation_of s kind access base off size =
    record { kind = kind; pointer = record { base = base; off = off }; size = size; access = access; task = s.task; chain = chain_of s }

-- ---- on from accesses and bytes

-- on from an access that is fine
unfoldable pub on_answer : SourceSeen → Access → Base → (off size : ℕ) → AccessAnswer → SourceOutcome → SourceOutcome
on_answer s access base off size Fine next = next
on_answer s access base off size (Violates kind) next = ends s (Violated (violation_of s kind access base off size))
on_answer s access base off size WritesConstant next = traps s ReadOnly
on_answer s access base off size (IsOutside reason) next = goes_outside s reason
on_answer s access base off size NoAnswer next = Stuck

-- an access of so many bytes at an alignment, and on from it
abbrev pub on_access : SourceSeen → Access → Base → (off size align : ℕ) → SourceOutcome → SourceOutcome
on_access s access base off size align next =
    on_answer s access base off size (access_answer s.shared.births access base off size align) next

-- on from a value that was read, or outside the profile
unfoldable pub on_read : SourceSeen → Result Value Reason → (Value → SourceOutcome) → SourceOutcome
on_read s (Ok value) go = go value
on_read s (Err reason) go = goes_outside s reason

-- on from an integer that was read, or outside the profile over a piece of a pointer
unfoldable pub on_integer : SourceSeen → Option ℕ → (ℕ → SourceOutcome) → SourceOutcome
on_integer s None go = goes_outside s IntegerOverPieces
on_integer s (Some n) go = go n
