-- The limits on what a module has: its functions, their blocks and instructions, its metadata nodes, the bytes of its variables and
-- those of a type. Which of several that are exceeded is reported is decided as for other refusals: the first place, and at one
-- place the limit that comes first in their list. All of this is this project's choice.
use Rattle.std.specs.Prelude.{ℕ, ◌+◌, List, [], ◌∷◌, length, slice_get, Bool, true, ◌&&◌, nat_le, if◌then◌else◌, Option, None, Some}
use Rattle.std.specs.List.{list_all}
use Rattle.hw_base.specs.AddressMap.{rounded_size}
use Rattle.hw_base.specs.declared.numbers.TheConstants.{MOST_GLOBALS, MOST_SIZE}
use Rattle.ir_core.specs.declared.faults.Limit.{Limit}
use Rattle.ir_core.specs.declared.faults.Limit.TheVariants.{Functions, Blocks, Instructions, MetaNodes, Globals, TypeSize}
use Rattle.ir_core.specs.declared.faults.Fault.TheVariants.{TooLarge}
use Rattle.ir_core.specs.declared.types.TypeLayout.{TypeLayout}
use Rattle.ir_core.specs.declared.types.TypeLayout.TheVariants.{Known, NoSize, Loop}
use Rattle.ir_core.specs.declared.refusals.Place.{Place}
use Rattle.ir_core.specs.declared.refusals.Refusal.{Refusal}
use Rattle.ir_core.specs.declared.ir_module.Function.{Function}
use Rattle.ir_core.specs.declared.ir_module.GlobalVar.{GlobalVar}
use Rattle.ir_core.specs.declared.ir_module.Module.{Module}
use Rattle.ir_core.specs.NumberTypes.{alloc_size}
use Rattle.ir_check_types.specs.Order.{earlier, first_among, refusal_at, unless}
use Rattle.ir_check_types.specs.Rules.{start_of_text}
use Rattle.ir_check_flow.specs.declared.numbers.TheConstants.{MOST_FUNCTIONS, MOST_BLOCKS, MOST_INSTRUCTIONS, MOST_NODES}

-- at most so many, or the limit is exceeded here
abbrev pub at_most : (count most : ℕ) → Limit → Place → Option Refusal
at_most count most limit place = unless (nat_le count most) (TooLarge limit) place

-- ---- functions

-- too many functions: at the name of the first one too many
abbrev pub too_many_at : Option Function → Option Refusal
too_many_at None = None
too_many_at (Some f) = Some (refusal_at (TooLarge Functions) f.place)

abbrev pub count_limit : List Function → Option Refusal
count_limit functions = too_many_at (slice_get functions MOST_FUNCTIONS)

-- too many blocks or instructions of a function: at its name
abbrev pub function_limit : Function → Option Refusal
function_limit f =
    earlier (at_most (length f.blocks) MOST_BLOCKS Blocks f.place) (at_most (length f.insts) MOST_INSTRUCTIONS Instructions f.place)

-- ---- variables and types, by sizes in bytes

-- The variables after those whose rounded sizes have this sum: at the name of the first one with which the sum is above the bound.
abbrev pub globals_limit : Module → (total : ℕ) → List GlobalVar → Option Refusal
globals_limit m total [] = None
globals_limit m total (g ∷ globals) =
    if nat_le (total + rounded_size (alloc_size m g.ty)) MOST_GLOBALS
    then globals_limit m (total + rounded_size (alloc_size m g.ty)) globals
    else Some (refusal_at (TooLarge Globals) g.place)

-- a type has no size, or one that isn't too large
abbrev pub is_small : TypeLayout → Bool
is_small (Known size align) = nat_le size MOST_SIZE
is_small NoSize = true
is_small Loop = true

-- the variables of a function's frames aren't too large
abbrev pub is_small_size : (size : ℕ) → Bool
is_small_size size = nat_le size MOST_SIZE

abbrev pub has_small_variables : Function → Bool
has_small_variables f = list_all is_small_size f.allocas

abbrev pub has_small_types : Module → Bool
has_small_types m = list_all is_small m.layouts && list_all has_small_variables m.functions

-- ---- modules

-- the first limit that a module exceeds; that of nodes and that of a type are at the start of the text
abbrev pub limit_fault : Module → Option Refusal
limit_fault m =
    earlier (count_limit m.functions)
    (earlier (first_among function_limit m.functions)
    (earlier (at_most (length m.meta) MOST_NODES MetaNodes start_of_text)
    (earlier (globals_limit m 0 m.globals) (unless (has_small_types m) (TooLarge TypeSize) start_of_text))))
