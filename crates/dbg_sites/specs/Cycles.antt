-- What the check of chains of metadata nodes answers.
use Rattle.std.specs.Prelude.{◌≡◌, Option, Some, None, Result, Ok, Err}
use Rattle.std.specs.Option.{option_map}
use Rattle.ir_core.specs.declared.faults.Fault.TheVariants.{MetaCycle}
use Rattle.ir_core.specs.declared.refusals.Place.{Place}
use Rattle.ir_core.specs.declared.refusals.Refusal.{Refusal}

-- the refusal of a chain that never ends, at the debug location where it begins
abbrev pub refused_at : Place → Refusal
refused_at place = record { fault = MetaCycle; line = place.line; column = place.column }

-- nothing is refused if there is no fault, and else the fault's place is
abbrev pub IsScopesAnswer : {A : Type 0} → Option Place → Result A Refusal → Type 0
IsScopesAnswer fault (Ok x) = fault ≡ None
IsScopesAnswer fault (Err refusal) = option_map refused_at fault ≡ Some refusal
