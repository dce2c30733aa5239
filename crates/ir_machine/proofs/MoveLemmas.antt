-- Moves beside the numbers that they read.
use Rattle.std.proofs.Common.{◌≡◌, ℕ, List, [], ◌∷◌, map, refl, ap}
use Rattle.mi_code.specs.declared.edges.Move.{Move}
use Rattle.mi_code.specs.declared.edges.Edge.{Edge}
use Rattle.hw_tags.specs.TaskRuns.{Goes}
use Rattle.ir_tasks.specs.Frames.{at_place}
use Rattle.ir_machine.specs.Operands.{number_in}
use Rattle.ir_machine.specs.BranchSteps.{br_step, with_registers}
use Rattle.ir_machine.specs.RunStates.{RunState, moves_with, with_frame}

pub moves_with-map : (f : Move → ℕ) (moves : List Move) → moves_with moves (map f moves) ≡ map (λ (m : Move). (m.to, f m)) moves
moves_with-map f [] = refl
moves_with-map f (move ∷ moves) = ap (λ rest. (move.to, f move) ∷ rest) (moves_with-map f moves)

-- an edge: its moves are read, written and the frame goes to its place
pub jumped : (v written gone : RunState) (edge : Edge) (read set : List Move) (numbers values : List ℕ)
    → read ≡ edge.moves → set ≡ edge.moves → numbers ≡ map (λ (m : Move). number_in v.seen m.value) read → values ≡ numbers
    → written ≡ with_frame v (with_registers v.seen.frame (moves_with set values))
    → gone ≡ with_frame written (at_place written.seen.frame edge.place)
    → br_step v.seen edge ≡ Goes gone.seen []
unfolding br_step
jumped v written gone edge read set numbers values r s n w wrote went =
    rw (went, wrote, w, n, r, s, moves_with-map (λ (m : Move). number_in v.seen m.value) edge.moves) refl
