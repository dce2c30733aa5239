-- Frames of a run that are as they should be: each is at an instruction of its function to which a path leads; each register that
-- holds a value holds one of its type; and one that holds none is defined neither on that path nor before in the block.
use Rattle.std.specs.Prelude.{◌≡◌, ℕ, ◌<◌, ◌≤◌, false, List, [], ◌∷◌, length, slice_get, slice_index, Option, Some, None}
use Rattle.ir_core.specs.declared.ir_module.Block.{Block}
use Rattle.ir_core.specs.declared.ir_module.Inst.{Inst}
use Rattle.ir_core.specs.declared.ir_module.Function.{Function}
use Rattle.ir_core.specs.declared.ir_module.Module.{Module}
use Rattle.ir_core.specs.declared.operations.Op.{Op}
use Rattle.ir_core.specs.declared.operations.Op.TheVariants as op
use Rattle.ir_core.specs.NumberTypes.{type_of}
use Rattle.ir_core.specs.Operations.{is_phi}
use Rattle.ir_check_flow.specs.Flow.{IsIn, NoneDefines, IsNotBefore}
use Rattle.ir_check_flow.specs.Ways.{ways_of, IsPath}
use Rattle.ir_meaning.specs.Births.{Birth, Globals}
use Rattle.ir_meaning.specs.State.{SourceFrame}
use Rattle.ir_meaning.specs.Values.{Value}
use Rattle.well_typed_runs.specs.KnownValues.{IsOfType, IsKnownValue, IsBorn}

-- ---- where a frame is

-- a frame at instruction i: in a block to which a path leads over other blocks; it isn't at a phi
pub record IsAt (f : Function) (i : ℕ) : Type 0 where
  pub b : ℕ
  pub block : Block
  pub inst : Inst
  pub before : List ℕ
  pub path : IsPath (ways_of f) b before
  pub inside : IsIn f b i block inst
  pub no_phi : is_phi inst.op ≡ false

-- ---- registers

-- a register that holds no value: it is no parameter, and nothing on the way to instruction i of a block defines it
pub record IsUnset (f : Function) (before : List ℕ) (block : Block) (i r : ℕ) : Type 0 where
  pub later : f.params ≤ r
  pub none : NoneDefines f r before
  pub not_before : IsNotBefore f r block i

pub record AreGoodRegisters (m : Module) (births : List Birth) (f : Function) (before : List ℕ) (block : Block) (i : ℕ) (registers : List (Option Value)) : Type 0 where
  pub count : length registers ≡ length f.regs
  pub typed : (r : ℕ) (value : Value) → slice_get registers r ≡ Some (Some value) → IsOfType (type_of m (slice_index f.regs r)) value
  pub known : (r : ℕ) (value : Value) → slice_get registers r ≡ Some (Some value) → IsKnownValue births value
  pub unset : (r : ℕ) → slice_get registers r ≡ Some None → IsUnset f before block i r

-- ---- frames

-- a birth that isn't that of the global variables
abbrev pub IsOfNoGlobals : List Birth → (n : ℕ) → Type 0
IsOfNoGlobals births n = (birth : Birth) × (slice_get births n ≡ Some birth) × (birth.region ≡ Globals → ⊥)

-- the variables of a frame were born, if it has any
abbrev pub HasVariables : List Birth → (sizes : List ℕ) → (birth : Option ℕ) → Type 0
HasVariables births sizes None = sizes ≡ []
HasVariables births sizes (Some n) =
    ((k : ℕ) → k < length sizes → IsBorn births (record { birth = n; index = k })) × IsOfNoGlobals births n

pub record IsGoodFrame (m : Module) (births : List Birth) (frame : SourceFrame) : Type 0 where
  pub f : Function
  pub there : slice_get m.functions frame.func ≡ Some f
  pub at : IsAt f frame.inst
  pub registers : AreGoodRegisters m births f at.before at.block frame.inst frame.registers
  pub variables : HasVariables births f.allocas frame.birth

-- the operation calls the function with this number
abbrev pub Calls : (func : ℕ) → Op → Type 0
Calls func (op.Call callee result args) = callee ≡ func
Calls func other = ⊥

-- a caller is at a call of the function
pub record IsGoodCaller (m : Module) (births : List Birth) (func : ℕ) (caller : SourceFrame) : Type 0 where
  pub frame : IsGoodFrame m births caller
  pub calls : Calls func frame.at.inst.op

-- the callers of a frame of a function, newest first; task 0 began with `main`
abbrev pub AreGoodCallers : Module → List Birth → (task func : ℕ) → List SourceFrame → Type 0
AreGoodCallers m births task func [] = task ≡ 0 → func ≡ m.main
AreGoodCallers m births task func (caller ∷ callers) = IsGoodCaller m births func caller × AreGoodCallers m births task caller.func callers

-- the frames of a task; task 0 isn't finished
abbrev pub IsGoodTask : Module → List Birth → (task : ℕ) → List SourceFrame → Type 0
IsGoodTask m births task [] = task ≡ 0 → ⊥
IsGoodTask m births task (frame ∷ callers) = IsGoodFrame m births frame × AreGoodCallers m births task frame.func callers
