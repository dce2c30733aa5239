-- What the calls that make a first value answer.
use Rattle.std.specs.Prelude.{List, [], ◌++◌, ◌≡◌, true, false, Option, Some, None, Result, Ok, Err}
use Rattle.ir_core.specs.declared.operands.Part.{Part}
use Rattle.ir_first_values.specs.declared.no_value.NoValue.{NoValue}
use Rattle.ir_first_values.specs.declared.no_value.NoValue.TheVariants.{RuleBroken, OutOfMemory}
use Rattle.ir_first_values.specs.declared.first_values.FirstValue.{FirstValue}

-- pieces after those that were there
abbrev pub behind : List Part → Option (List Part) → Option (List Part)
behind old (Some parts) = Some (old ++ parts)
behind old None = None

-- the pieces of this value were put after those that were there, or there is no value, unless memory ran out
abbrev pub Puts : {X : Type 0} → Result X NoValue → List Part → List Part → Option (List Part) → Type 0
Puts (Ok x) old new value = behind old value ≡ Some new
Puts (Err RuleBroken) old new value = value ≡ None
Puts (Err OutOfMemory) old new value = Unit {0}

-- the pieces, or that a rule is broken
abbrev pub IsFirstValue : FirstValue → Option (List Part) → Type 0
IsFirstValue v (Some parts) = (v.fits ≡ true) × (v.init ≡ parts)
IsFirstValue v None = (v.fits ≡ false) × (v.init ≡ [])
