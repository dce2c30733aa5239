-- The frames of a task as they lie in memory: the registers of all frames are one list, the oldest frame's first, and each
-- frame knows where its own begin. This project's choice.
use Rattle.std.specs.Prelude.{ℕ, ◌+◌, ◌^◌, ◌<◌, List, All, [], ◌∷◌, drop, take, reverse, replicate}
use Rattle.ir_tasks.specs.Frames.{Frame}
use Rattle.ir_tasks.specs.declared.activation.Activation.{Activation}

-- the frames of an unfinished task: the one that runs, and those of its callers, newest first
pub record Calls : Type 0 where
  pub frame : Frame
  pub callers : List Frame

-- an activation whose registers are these
abbrev pub frame_of : List ℕ → Activation → Frame
frame_of registers activation =
    record { func = activation.func; registers = registers; place = activation.place; chain = activation.chain }

-- the frames of activations, newest first: each has the registers from its base on that no newer one has
unfoldable pub frames_of : List ℕ → List Activation → List Frame
frames_of registers [] = []
frames_of registers (activation ∷ older) =
    frame_of (drop activation.base registers) activation ∷ frames_of (take activation.base registers) older

-- the frames of a task, by its registers, its newest activation, and the others, the oldest first
abbrev pub calls_of : List ℕ → Activation → List Activation → Calls
calls_of registers newest older =
    record {
      frame = frame_of (drop newest.base registers) newest;
      callers = frames_of (take newest.base registers) (reverse older);
    }

-- a frame of which nothing was set yet
abbrev pub fresh_frame : (func registers place chain : ℕ) → Frame
fresh_frame func registers place chain =
    record { func = func; registers = replicate registers 0; place = place; chain = chain }

-- a task after a call: the new frame runs
abbrev pub called : Calls → Frame → Calls
called calls frame = record { frame = frame; callers = calls.frame ∷ calls.callers }

-- the callers' code goes on after the calls where they are
abbrev pub AreAtCalls : List Activation → Type 0
AreAtCalls older = All (λ activation. activation.place + 1 < 2 ^ 64) older
