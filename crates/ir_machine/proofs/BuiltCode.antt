-- What is known of code that the machine runs, by its functions and places.
use Rattle.std.proofs.Common.{◌≡◌, ℕ, zero, suc, ◌+◌, List, [], ◌∷◌, refl, subst, Option, Some, None, arith}
use Rattle.std.specs.Option.{ForSome}
use Rattle.std.specs.Prelude.{All, slice_get}
use Rattle.std.proofs.lemmas.Option.{slice_get_within, get_or_from_slice_get}
use Rattle.ir_core.specs.declared.lib_functions.Lib.{Lib}
use Rattle.ir_core.specs.declared.lib_functions.Lib.TheVariants as lib
use Rattle.mi_code.specs.declared.code_functions.CodeFunction.{CodeFunction}
use Rattle.mi_code.specs.declared.code_functions.Mi.{Mi}
use Rattle.ir_machine.specs.Built.{BeginsWithReturn, HasReturns, IsBuilt, IsBuiltCode, IsBuiltFunction, IsBuiltFunctionCode, IsByteFunction, IsLeave, IsReturn, IsTextFunction}
use Rattle.ir_machine.specs.CallSteps.{code_at, no_code}

pub built-among : (insts : List Mi) (place : ℕ) (mi : Mi) → All IsBuilt insts → slice_get insts place ≡ Some mi → IsBuilt mi
built-among insts place mi h found =
    subst IsBuilt (get_or_from_slice_get insts place mi mi found) (h place mi (slice_get_within insts place mi found))

-- the code of each function; one that isn't there has no instruction
pub built-function : (code : List CodeFunction) (func : ℕ) → IsBuiltCode code → IsBuiltFunctionCode (code_at code func)
built-function code func h = by (slice_get code func) refl
  where
    by : (o : Option CodeFunction) → slice_get code func ≡ o → IsBuiltFunctionCode (code_at code func)
    by None none = rw none (record { built = λ k d lt. absurd (omega arith); returns = tt })
    by (Some f) found =
        rw found (subst IsBuiltFunctionCode (get_or_from_slice_get code func f f found) (h func f (slice_get_within code func f found)))

-- each instruction of such code is one that the machine runs
pub built-at : (code : List CodeFunction) (func place : ℕ) (mi : Mi) → IsBuiltCode code → slice_get (code_at code func).insts place ≡ Some mi → IsBuilt mi
built-at code func place mi h found = built-among (code_at code func).insts place mi (built-function code func h).built found

return-first : (insts : List Mi) (next : Mi) → BeginsWithReturn insts → slice_get insts 0 ≡ Some next → IsReturn next.op
return-first [] next begins found = absurd cc
return-first (mi ∷ insts) next begins found =
    let same : mi ≡ next = cc in
    subst (λ (m : Mi). IsReturn m.op) same begins

-- after the end of a frame with variables comes a return
return-after : (insts : List Mi) (place : ℕ) (mi next : Mi) → HasReturns insts → slice_get insts place ≡ Some mi → IsLeave mi.op
    → slice_get insts (suc place) ≡ Some next → IsReturn next.op
return-after [] place mi next has found leave after = absurd cc
return-after (first ∷ insts) zero mi next has found leave after =
    let same : mi ≡ first = cc in
    return-first insts next (has.0 (subst (λ (m : Mi). IsLeave m.op) same leave)) after
return-after (first ∷ insts) (suc place) mi next has found leave after = return-after insts place mi next has.1 found leave after

pub returns-after : (insts : List Mi) (place : ℕ) (mi : Mi) → HasReturns insts → slice_get insts place ≡ Some mi → IsLeave mi.op
    → ForSome (slice_get insts (place + 1)) (λ (next : Mi). IsReturn next.op)
returns-after insts place mi has found leave next after =
    let more : place + 1 ≡ suc place = omega arith in
    return-after insts place mi next has found leave (subst (λ n. slice_get insts n ≡ Some next) more after)

-- a library function on runs of bytes
pub byte-function : (function : Lib) → (function ≡ lib.Strlen → ⊥) → (function ≡ lib.Puts → ⊥) → (function ≡ lib.Putchar → ⊥) → (function ≡ lib.Exit → ⊥)
    → (function ≡ lib.Abort → ⊥) → (function ≡ lib.LlvmTrap → ⊥) → IsTextFunction function → IsByteFunction function
byte-function lib.Strlen no_strlen no_puts no_putchar no_exit no_abort no_trap built = absurd (no_strlen refl)
byte-function lib.Puts no_strlen no_puts no_putchar no_exit no_abort no_trap built = absurd (no_puts refl)
byte-function lib.Putchar no_strlen no_puts no_putchar no_exit no_abort no_trap built = absurd (no_putchar refl)
byte-function lib.Exit no_strlen no_puts no_putchar no_exit no_abort no_trap built = absurd (no_exit refl)
byte-function lib.Abort no_strlen no_puts no_putchar no_exit no_abort no_trap built = absurd (no_abort refl)
byte-function lib.LlvmTrap no_strlen no_puts no_putchar no_exit no_abort no_trap built = absurd (no_trap refl)
byte-function other no_strlen no_puts no_putchar no_exit no_abort no_trap built = built

-- a library function that the machine runs and that has no blocks
pub text-function : (function : Lib) → (function ≡ lib.Malloc → ⊥) → (function ≡ lib.Calloc → ⊥) → (function ≡ lib.Realloc → ⊥) → (function ≡ lib.Free → ⊥)
    → IsBuiltFunction function → IsTextFunction function
text-function lib.Malloc no_malloc no_calloc no_realloc no_free built = absurd (no_malloc refl)
text-function lib.Calloc no_malloc no_calloc no_realloc no_free built = absurd (no_calloc refl)
text-function lib.Realloc no_malloc no_calloc no_realloc no_free built = absurd (no_realloc refl)
text-function lib.Free no_malloc no_calloc no_realloc no_free built = absurd (no_free refl)
text-function other no_malloc no_calloc no_realloc no_free built = built
