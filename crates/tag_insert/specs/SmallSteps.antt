-- Addresses whose steps are numbers of 64 bits.
use Rattle.std.specs.Prelude.{ℕ, ◌≡◌, ◌<◌, ◌^◌, List, All, Some}
use Rattle.ir_core.specs.declared.operands.Placed.{Placed}
use Rattle.ir_core.specs.declared.operations.Op.{Op}
use Rattle.ir_core.specs.declared.operations.Op.TheVariants as op
use Rattle.ir_core.specs.declared.ir_module.Module.{Module}
use Rattle.ir_core.specs.IndexSteps.{AddressStep, Scaled, Offset, index_steps}

abbrev pub IsSmallStep : AddressStep → Type 0
IsSmallStep (Scaled index size) = Unit {0}
IsSmallStep (Offset off) = off < 2 ^ 64

-- the offsets of fields on the way are below 2^64
abbrev pub HasSmallSteps : Module → (ty : ℕ) → List Placed → Type 0
HasSmallSteps m ty indices = (steps : List AddressStep) → index_steps m ty indices ≡ Some steps → All IsSmallStep steps

abbrev pub AreSmallSteps : Module → Op → Type 0
AreSmallSteps m (op.Gep ty base indices) = HasSmallSteps m ty indices
AreSmallSteps m other = Unit {0}
