-- The steps that make a pointer: variables of the frame and address computations (LLVM Language Reference, "'alloca'
-- Instruction" and "'getelementptr' Instruction").
use Rattle.std.specs.Prelude.{ℕ, ◌+◌, ◌*◌, ◌%◌, ◌^◌, List, [], ◌∷◌, Option, Some, None}
use Rattle.hw_base.specs.declared.pointers.Base.TheVariants.{Object}
use Rattle.ir_core.specs.declared.operands.Placed.{Placed}
use Rattle.ir_core.specs.declared.ir_module.Module.{Module}
use Rattle.ir_core.specs.IndexSteps.{AddressStep, Scaled, Offset, index_steps}
use Rattle.ir_core.specs.NumberTypes.{type_of, bits_of}
use Rattle.ir_arith.specs.TwosComplement.{signed_of, unsigned_of}
use Rattle.ir_meaning.specs.Values.{Value, Integer, Address, IntegerAndBit}
use Rattle.ir_meaning.specs.State.{SourceSeen, SourceOutcome}
use Rattle.ir_meaning.specs.Operands.{operand_value, with_named, with_pointer}
use Rattle.ir_meaning.specs.StepEnds.{gives}

-- the start of variable k of the frame
unfoldable pub alloca_step : SourceSeen → Option ℕ → (k : ℕ) → SourceOutcome
alloca_step s result k = with_named s.frame.birth (λ birth. gives s result (Address (Object (record { birth = birth; index = k })) 0))

-- ---- address computations

-- a number of a width, read as signed, in 64 bits
abbrev pub index_in_64_bits : (width n : ℕ) → ℕ
index_in_64_bits width n = unsigned_of 64 (signed_of width (n % 2 ^ width))

-- what an index adds: its value times a size
abbrev pub scaled_by : (width size : ℕ) → Option Value → Option ℕ
scaled_by width size None = None
scaled_by width size (Some (Integer n)) = Some (index_in_64_bits width n * size)
scaled_by width size (Some (Address base off)) = None
scaled_by width size (Some (IntegerAndBit n bit)) = None

-- what a step of an address computation adds, or none if the operand isn't an integer
abbrev pub step_bytes : Module → List (Option Value) → AddressStep → Option ℕ
step_bytes program registers (Scaled index size) =
    scaled_by (bits_of (type_of program index.ty)) size (operand_value program registers index)
step_bytes program registers (Offset n) = Some n

-- one more sum
abbrev pub added : Option ℕ → Option ℕ → Option ℕ
added (Some n) (Some m) = Some (n + m)
added n m = None

-- what all steps add
unfoldable pub steps_bytes : Module → List (Option Value) → List AddressStep → Option ℕ
steps_bytes program registers [] = Some 0
steps_bytes program registers (step ∷ steps) = added (step_bytes program registers step) (steps_bytes program registers steps)

-- the same base, and the offset with all indices, modulo 2 ^ 64
unfoldable pub gep_step : Module → SourceSeen → Option ℕ → (ty : ℕ) → Option Value → List Placed → SourceOutcome
gep_step program s result ty base indices =
    with_pointer base (λ b off.
    with_named (index_steps program ty indices) (λ steps.
    with_named (steps_bytes program s.frame.registers steps) (λ bytes.
    gives s result (Address b ((off + bytes) % 2 ^ 64)))))
