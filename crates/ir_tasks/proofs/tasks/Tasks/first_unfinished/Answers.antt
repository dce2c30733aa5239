use Rattle.std.proofs.Common.{◌≡◌, map, length, List, ap, sym, ◌∙◌, arith, refl}
use Rattle.std.specs.Prelude.{slice_get}
use Rattle.std.proofs.lemmas.List.{length-map}
use Rattle.hw_tags.specs.TaskRuns.{is_finished, finished_of}
use Rattle.hw_tags.specs.Turn.{unfinished_of}
use Rattle.ir_tasks.specs.Frames.{Frame}
use Rattle.ir_tasks.specs.TaskStates.{task_frames}
use Rattle.ir_tasks.proofs.TurnLemmas.{found}
use Rattle.ir_tasks.proofs.UnfinishedCounts.{unfinished_from-few}
use Rattle.ir_tasks.proofs.tasks.Tasks.first_unfinished.Goals as goal

pub index-requires : goal.index-requires
index-requires c =
    let s = c.self.inside in
    let few = unfinished_from-few 0 (finished_of c.args.self.now) in
    let bits = length-map c.args.self.now is_finished in
    let frames = length-map s.tasks.items task_frames in
    let seen : length (map task_frames s.tasks.items) ≡ length c.args.self.now = ap (λ (tasks : List (List Frame)). length tasks) c.self.view_is in
    omega (arith, few, bits, frames, seen, s.tasks.ok.0)

pub returns-else-is_finished : goal.returns-else-is_finished
returns-else-is_finished c =
    let s = c.self.inside in
    let few = unfinished_from-few 0 (finished_of c.args.self.now) in
    let bits = length-map c.args.self.now is_finished in
    let frames = length-map s.tasks.items task_frames in
    let seen : length (map task_frames s.tasks.items) ≡ length c.args.self.now = ap (λ (tasks : List (List Frame)). length tasks) c.self.view_is in
    sym (ap (λ (tasks : List (List Frame)). slice_get (unfinished_of (finished_of tasks)) 0) c.self.view_is)
    ∙ found s.tasks.items 0 c.index.result.now (omega (arith, few, bits, frames, seen)) c.index.ensures 0 0 refl (sym c.is_finished.ensures ∙ c.if-is_finished.false) refl
