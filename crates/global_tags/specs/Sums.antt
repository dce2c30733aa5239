-- The bytes that globals take, counted one by one.
use Rattle.std.specs.Prelude.{ℕ, ◌+◌, Bool, if◌then◌else◌, List}
use Rattle.ir_core.specs.declared.ir_module.GlobalVar.{GlobalVar}
use Rattle.ir_core.specs.declared.types.TypeLayout.{TypeLayout}
use Rattle.global_tags.specs.declared.places.Taken.{Taken}
use Rattle.global_tags.specs.GlobalPlaces.{constants_size, variables_size}

-- what some globals take
abbrev pub taken_by : List TypeLayout → List GlobalVar → Taken
taken_by layouts globals = record { constants = constants_size layouts globals; variables = variables_size layouts globals }

-- the same with one more, whose rounded size this is
abbrev pub with_one : Taken → (size : ℕ) → (constant : Bool) → Taken
with_one taken size constant =
    record {
      constants = taken.constants + (if constant then size else 0);
      variables = taken.variables + (if constant then 0 else size);
    }
