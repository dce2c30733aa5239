-- Registers that hold values of their types, in the frames of a state.
use Rattle.std.specs.Prelude.{◌≡◌, ℕ, List, slice_get, slice_index, Some}
use Rattle.ir_core.specs.declared.ir_module.Function.{Function}
use Rattle.ir_core.specs.declared.ir_module.Module.{Module}
use Rattle.ir_core.specs.NumberTypes.{type_of}
use Rattle.ir_meaning.specs.State.{SourceFrame, SourceWorld}
use Rattle.ir_meaning.specs.Values.{Value}
use Rattle.well_typed_runs.specs.KnownValues.{IsOfType}

-- each register of a frame that holds a value holds one of its type
abbrev pub AreTyped : Module → SourceFrame → Type 0
AreTyped m frame =
    (f : Function) (r : ℕ) (value : Value) → slice_get m.functions frame.func ≡ Some f → slice_get frame.registers r ≡ Some (Some value)
    → IsOfType (type_of m (slice_index f.regs r)) value

-- the same of several frames, and of those of all tasks
abbrev pub FramesAreTyped : Module → List SourceFrame → Type 0
FramesAreTyped m frames = (depth : ℕ) (frame : SourceFrame) → slice_get frames depth ≡ Some frame → AreTyped m frame

abbrev pub TasksAreTyped : Module → SourceWorld → Type 0
TasksAreTyped m w = (task : ℕ) (frames : List SourceFrame) → slice_get w.tasks task ≡ Some frames → FramesAreTyped m frames
