-- Which of several refusals is reported: the one whose place is first in the text, at one place the one with the lower code,
-- and among limits the one that comes first in their list. This project's choice.
use Rattle.std.specs.Prelude.{ℕ, ◌+◌, ◌*◌, List, fold, Bool, true, false, ◌&&◌, ◌||◌, ◌==◌, nat_lt, if◌then◌else◌, Option, None, Some}
use Rattle.ir_core.specs.declared.faults.Limit.{Limit}
use Rattle.ir_core.specs.declared.faults.Limit.TheVariants.{Text, Nesting, Functions, Blocks, Instructions, MetaNodes, Globals, TypeSize}
use Rattle.ir_core.specs.declared.faults.Fault.{Fault}
use Rattle.ir_core.specs.declared.faults.Fault.TheVariants.{TooLarge}
use Rattle.ir_core.specs.declared.refusals.Place.{Place}
use Rattle.ir_core.specs.declared.refusals.Refusal.{Refusal}
use Rattle.ir_core.specs.Faults.{fault_number}

-- the refusal for a fault at a place
abbrev pub refusal_at : Fault → Place → Refusal
refusal_at fault place = record { fault = fault; line = place.line; column = place.column }

-- the place of a limit in the list of limits
abbrev pub limit_rank : Limit → ℕ
limit_rank Text = 0
limit_rank Nesting = 1
limit_rank Functions = 2
limit_rank Blocks = 3
limit_rank Instructions = 4
limit_rank MetaNodes = 5
limit_rank Globals = 6
limit_rank TypeSize = 7

-- the order of faults at one place
abbrev pub fault_rank : Fault → ℕ
fault_rank (TooLarge limit) = 80 + limit_rank limit
fault_rank other = 8 * fault_number other

-- one refusal is reported before another
abbrev pub is_before : Refusal → Refusal → Bool
is_before a b =
    nat_lt a.line b.line
    || a.line == b.line && (nat_lt a.column b.column || a.column == b.column && nat_lt (fault_rank a.fault) (fault_rank b.fault))

-- the one of two that is reported first
abbrev pub first_of_two : Refusal → Refusal → Refusal
first_of_two a b = if is_before b a then b else a

-- the first of two, if there is one
abbrev pub earlier : Option Refusal → Option Refusal → Option Refusal
earlier None b = b
earlier (Some a) None = Some a
earlier (Some a) (Some b) = Some (first_of_two a b)

-- the first of what each of some things is refused for
abbrev pub first_among : {A : Type 0} → (A → Option Refusal) → List A → Option Refusal
first_among {A} fault things = fold (λ (so_far : Option Refusal) (thing : A). earlier so_far (fault thing)) None things

-- the refusal for a fault at a place, unless a rule holds
abbrev pub unless : Bool → Fault → Place → Option Refusal
unless true fault place = None
unless false fault place = Some (refusal_at fault place)
