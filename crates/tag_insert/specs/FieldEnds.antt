-- Where the fields of a struct so far end, as the code keeps it. This project's choice.
use Rattle.std.specs.Prelude.{ℕ, ◌≡◌, Option, Some, None}
use Rattle.ir_core.specs.declared.types.TypeLayout.{TypeLayout}
use Rattle.ir_core.specs.declared.types.TypeLayout.TheVariants.{Known, NoSize, Loop}

-- the end of fields with this layout, or none if one of them has no size
abbrev pub IsEnd : TypeLayout → Option ℕ → Type 0
IsEnd (Known size align) end = end ≡ Some size
IsEnd NoSize end = end ≡ None
IsEnd Loop end = end ≡ None
