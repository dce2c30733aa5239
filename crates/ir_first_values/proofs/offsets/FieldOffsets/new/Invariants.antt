use Rattle.std.proofs.Common.{◌≡◌, length}
use Rattle.ir_first_values.specs.Offsets.{AreOffsetsFrom}
use Rattle.ir_first_values.proofs.offsets.FieldOffsets.new.Given as goal

abbrev pub invariant-loop-ty : goal.invariant-loop-ty
invariant-loop-ty l = (length l.starts.items ≡ l.ty) × AreOffsetsFrom l.module.types l.module.fields l.starts.items l.offsets.items
