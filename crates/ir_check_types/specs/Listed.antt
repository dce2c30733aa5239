-- The types of a few parameters as a list.
use Rattle.std.specs.Prelude.{List, take}
use Rattle.ir_core.specs.declared.types.IrType.{IrType}
use Rattle.ir_check_types.specs.declared.parameters.Parameters.{Parameters}

abbrev pub listed : Parameters → List IrType
listed p = take p.count p.types
