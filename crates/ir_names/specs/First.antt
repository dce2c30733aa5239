-- Which of several faults is told: the one whose token begins first in the text, and at one place the one with the lower
-- code. This project's choice.
use Rattle.std.specs.Prelude.{List, fold, Bool, ◌&&◌, ◌||◌, ◌==◌, nat_lt, if◌then◌else◌, Option, None, Some}
use Rattle.ir_core.specs.Faults.{fault_number}
use Rattle.ir_names.specs.declared.fault.NameFault.{NameFault}

-- a fault comes before another: its token begins earlier, or at the same place and its code is lower
abbrev pub is_before : NameFault → NameFault → Bool
is_before f g = nat_lt f.at.from g.at.from || f.at.from == g.at.from && nat_lt (fault_number f.fault) (fault_number g.fault)

-- the first so far, or one more fault where that comes before it
abbrev pub earlier : Option NameFault → NameFault → Option NameFault
earlier None fault = Some fault
earlier (Some first) fault = Some (if is_before fault first then fault else first)

-- the first of these faults, beside the first so far
abbrev pub first_beside : Option NameFault → List NameFault → Option NameFault
first_beside first faults = fold earlier first faults

-- the first of these faults, or none where there is none
abbrev pub first_fault : List NameFault → Option NameFault
first_fault faults = first_beside None faults
