-- Functions whose code is made: their registers, places and addresses are numbers that the code can hold.
use Rattle.std.specs.Prelude.{ℕ, ◌+◌, ◌<◌, ◌≤◌, ◌^◌, List, All, length, slice_get, slice_index, Some, ◌≡◌}
use Rattle.ir_core.specs.declared.ir_module.Block.{Block}
use Rattle.ir_core.specs.declared.ir_module.Function.{Function}
use Rattle.ir_core.specs.declared.ir_module.Module.{Module}
use Rattle.mi_code.specs.Instrumentation.{place_of}
use Rattle.tag_insert.specs.SmallRegisters.{IsSmallInst}
use Rattle.tag_insert.specs.SmallSteps.{AreSmallSteps}

pub record IsSmallFunction (m : Module) (f : Function) : Type 0 where
  pub registers : length f.regs < 2 ^ 30
  pub insts : All IsSmallInst f.insts
  pub steps : All (λ inst. AreSmallSteps m inst.op) f.insts
  pub few : length f.insts < 2 ^ 28
  pub blocks : length f.blocks < 2 ^ 32

pub record IsSmallModule (m : Module) : Type 0 where
  pub functions : All (IsSmallFunction m) m.functions
  pub few : length m.functions < 2 ^ 32

-- the blocks before a number end at or before instruction i
abbrev pub EndBefore : List Block → (number i : ℕ) → Type 0
EndBefore blocks number i = (k : ℕ) (block : Block) → k < number → slice_get blocks k ≡ Some block → block.first + block.count ≤ i

-- the places in the code of so many instructions
pub record ArePlaces (m : Module) (f : Function) (count : ℕ) (places : List ℕ) : Type 0 where
  pub count_is : length places ≡ count
  pub each : (k : ℕ) → k < count → slice_index places k ≡ place_of m f k
