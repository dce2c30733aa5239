-- A run step by step: what is right for the rest of a run is right for the whole, with the bytes of the steps before it.
use Rattle.std.proofs.Common.{◌≡◌, ℕ, suc, ◌+◌, ◌-◌, ◌<◌, ◌≤◌, List, [], ◌∷◌, ◌++◌, length, take, refl, ap, sym, ◌∙◌, subst, append_assoc, Option, Some, None, Ok, arith}
use Rattle.std.proofs.lemmas.List.{append-nil, take_all}
use Rattle.hw_tags.specs.TaskRuns.{Goes, Stays, Starts, Finishes, Ends, Stuck, Next, Last, NoStep, Spent, Ended, IsStuck, lifted, task_step, counted, next_task, seen, world_step, run_from, after_report, after_step}
use Rattle.ir_tasks.specs.Frames.{Frame}
use Rattle.ir_machine.specs.declared.stepped.Stepped.{Stepped}
use Rattle.ir_machine.specs.declared.stepped.Stepped.TheVariants as stepped
use Rattle.ir_machine.specs.MachineStates.{MachineState, IsEnd, IsStep, world_of}
use Rattle.ir_machine.specs.Shown.{output_of}
use Rattle.ir_machine.specs.State.{MachineSeen, MachineOutcome, MachineWorld, MachineWorldStep, MachineEnding, MachineRun, Exited, Trapped, Reported, IsFull}
use Rattle.hw_run.specs.declared.ends.RunEnd.{RunEnd}
use Rattle.hw_run.specs.declared.ends.RunEnd.TheVariants as run_end
use Rattle.hw_run.specs.RunEnds.{IsRun, IsRunEnd}

-- what the rest of a run may return, the whole may return with these bytes before
abbrev pub IsContinued : (whole rest : MachineRun) → (before : List ℕ) → Type 0
IsContinued whole rest before =
    (later : List ℕ) (end : RunEnd) (m : MachineState) → IsRun rest (record { output = later; end = end }) m
    → IsRun whole (record { output = before ++ later; end = end }) m

pub whole-run : (whole : MachineRun) → IsContinued whole whole []
whole-run whole later end m h = h

pub reported-before : (run : MachineRun) (printed later : List ℕ) (end : RunEnd) (m : MachineState) → IsRun run (record { output = later; end = end }) m
    → IsRun (after_report printed run) (record { output = printed ++ later; end = end }) m
reported-before (Spent w pieces) printed later end m h = record { end = h.end; output = ap (λ bytes. printed ++ bytes) h.output; world = h.world }
reported-before (Ended w pieces ending) printed later end m h =
    record { end = h.end; output = ap (λ bytes. printed ++ bytes) h.output; steps = h.steps; shared = h.shared }
reported-before IsStuck printed later end m h = tt

no-end-goes-on : (ending : MachineEnding) → IsEnd ending stepped.Ran → ⊥
no-end-goes-on (Exited n) h = h
no-end-goes-on (Trapped trap task chain) h = h
no-end-goes-on (Reported raw) h = h
no-end-goes-on (IsFull full) h = h

no-end-writes : (ending : MachineEnding) (count : ℕ) → IsEnd ending (stepped.Wrote count) → ⊥
no-end-writes (Exited n) count h = h
no-end-writes (Trapped trap task chain) count h = h
no-end-writes (Reported raw) count h = h
no-end-writes (IsFull full) count h = h

-- a step after which the run goes on, and that printed nothing
ran-on : (go : MachineWorld → MachineRun) (step : MachineWorldStep) (whole : MachineRun) (before : List ℕ) (after : MachineState)
    → IsStep step (Ok stepped.Ran) after → IsContinued whole (after_step go step) before → IsContinued whole (go (world_of after)) before
ran-on go (Next w printed) whole before after (same, nothing) h later end m rest =
    h later end m
    (subst (λ (v : MachineWorld). IsRun (after_report printed (go v)) (record { output = later; end = end }) m) (sym same)
    (subst (λ (bytes : List ℕ). IsRun (after_report bytes (go (world_of after))) (record { output = later; end = end }) m) (sym nothing)
    (reported-before (go (world_of after)) [] later end m rest)))
ran-on go (Last w printed ending) whole before after (shared, nothing, ended) h later end m rest = absurd (no-end-goes-on ending ended)
ran-on go NoStep whole before after u h later end m rest = h later end m tt

-- a step after which the run goes on, with the bytes that it printed
wrote-on : (go : MachineWorld → MachineRun) (step : MachineWorldStep) (whole : MachineRun) (before : List ℕ) (after : MachineState) (count : ℕ)
    → IsStep step (Ok (stepped.Wrote count)) after → IsContinued whole (after_step go step) before
    → IsContinued whole (go (world_of after)) (before ++ take count after.run.printed)
wrote-on go (Next w printed) whole before after count (same, bytes, number) h later end m rest =
    let piece = take count after.run.printed in
    let all : length after.run.printed ≤ count = omega arith in
    let is : piece ≡ printed = take_all count after.run.printed all ∙ sym bytes in
    subst (λ (output : List ℕ). IsRun whole (record { output = output; end = end }) m) (sym (append_assoc before piece later))
    (h (piece ++ later) end m
    (subst (λ (v : MachineWorld). IsRun (after_report printed (go v)) (record { output = piece ++ later; end = end }) m) (sym same)
    (subst (λ (some : List ℕ). IsRun (after_report some (go (world_of after))) (record { output = piece ++ later; end = end }) m) is
    (reported-before (go (world_of after)) piece later end m rest))))
wrote-on go (Last w printed ending) whole before after count (shared, nothing, ended) h later end m rest = absurd (no-end-writes ending count ended)
wrote-on go NoStep whole before after count u h later end m rest =
    let piece = take count after.run.printed in
    subst (λ (output : List ℕ). IsRun whole (record { output = output; end = end }) m) (sym (append_assoc before piece later)) (h (piece ++ later) end m tt)

-- ---- ends

-- how the loop says a step's end
abbrev pub end_of : Stepped → RunEnd
end_of (stepped.Exit value) = run_end.Exit value
end_of (stepped.Trap trap task chain) = run_end.Trap trap task chain
end_of (stepped.Mismatch raw) = run_end.Mismatch raw
end_of (stepped.Full full) = run_end.Full full
end_of other = run_end.Spent

abbrev pub EndsLoop : Stepped → Type 0
EndsLoop stepped.Ran = ⊥
EndsLoop (stepped.Wrote count) = ⊥
EndsLoop other = Unit {0}

same-end : (ending : MachineEnding) (found : Stepped) → IsEnd ending found → IsRunEnd ending (end_of found)
same-end (Exited n) (stepped.Exit value) h = h
same-end (Trapped trap task chain) (stepped.Trap t k number) h = h
same-end (Reported raw) (stepped.Mismatch found) h = h
same-end (IsFull full) (stepped.Full found) h = h
same-end ending other h = absurd h

-- the world in which a run ends counts this step
abbrev CountsLast : MachineWorldStep → ℕ → Type 0
CountsLast (Next w report) n = Unit {0}
CountsLast (Last w report ending) n = w.steps ≡ n
CountsLast NoStep n = Unit {0}

lifted-counts : (w : MachineWorld) (k : ℕ) (outcome : MachineOutcome) → CountsLast (lifted w k [] outcome) w.steps
lifted-counts w k (Goes s report) = tt
lifted-counts w k Stays = tt
lifted-counts w k (Starts s report frame) = tt
lifted-counts w k (Finishes shared report) = tt
lifted-counts w k (Ends shared frames report ending) = refl
lifted-counts w k Stuck = tt

task-counts : (step : MachineSeen → MachineOutcome) (w : MachineWorld) (k : ℕ) (frames : Option (List Frame)) → CountsLast (task_step step [] w k frames) w.steps
task-counts step w k None = tt
task-counts step w k (Some []) = tt
task-counts step w k (Some (frame ∷ callers)) = lifted-counts w k (step (seen w k frame callers))

step-counts : (step : MachineSeen → MachineOutcome) (turns : ℕ → ℕ) (w : MachineWorld) → CountsLast (world_step step [] turns w) (w.steps + 1)
unfolding world_step
step-counts step turns w = task-counts step (counted w) (next_task turns w) _

ended-at : (go : MachineWorld → MachineRun) (step : MachineWorldStep) (whole : MachineRun) (before : List ℕ) (found : Stepped) (after : MachineState)
    → EndsLoop found → CountsLast step after.steps → IsStep step (Ok found) after → IsContinued whole (after_step go step) before
    → IsRun whole (record { output = before; end = end_of found }) after
ended-at go (Next w printed) whole before stepped.WantsInput after ends count goes h = absurd goes
ended-at go (Next w printed) whole before (stepped.Exit value) after ends count goes h = absurd goes
ended-at go (Next w printed) whole before (stepped.Trap trap task chain) after ends count goes h = absurd goes
ended-at go (Next w printed) whole before (stepped.Mismatch raw) after ends count goes h = absurd goes
ended-at go (Next w printed) whole before (stepped.Full full) after ends count goes h = absurd goes
ended-at go (Next w printed) whole before other after ends count goes h = absurd ends
ended-at go (Last w printed ending) whole before found after ends count (shared, nothing, ended) h =
    subst (λ (output : List ℕ). IsRun whole (record { output = output; end = end_of found }) after) (append-nil before)
    (h [] (end_of found) after
    (record { end = same-end ending found ended; output = ap (λ (bytes : List ℕ). output_of (bytes ∷ [])) (sym nothing); steps = count; shared = shared }))
ended-at go NoStep whole before found after ends count u h =
    subst (λ (output : List ℕ). IsRun whole (record { output = output; end = end_of found }) after) (append-nil before) (h [] (end_of found) after tt)

-- ---- the steps of a run

module _ (step : MachineSeen → MachineOutcome) (turns : ℕ → ℕ) (left : ℕ) (more : 0 < left) (whole : MachineRun) (before : List ℕ) (old after : MachineState) (so_far : IsContinued whole (run_from step [] turns left (world_of old)) before) where
  here : IsContinued whole (after_step (run_from step [] turns (left - 1)) (world_step step [] turns (world_of old))) before
  unfolding run_from
  here =
      let count : left ≡ suc (left - 1) = omega arith in
      subst (λ (n : ℕ). IsContinued whole (run_from step [] turns n (world_of old)) before) count so_far

  pub run-ran : (found : Stepped) → found ≡ stepped.Ran → IsStep (world_step step [] turns (world_of old)) (Ok found) after
      → IsContinued whole (run_from step [] turns (left - 1) (world_of after)) before
  run-ran found is made =
      ran-on (run_from step [] turns (left - 1)) (world_step step [] turns (world_of old)) whole before after
      (subst (λ (f : Stepped). IsStep (world_step step [] turns (world_of old)) (Ok f) after) is made) here

  pub run-wrote : (found : Stepped) (count : ℕ) → found ≡ stepped.Wrote count → IsStep (world_step step [] turns (world_of old)) (Ok found) after
      → IsContinued whole (run_from step [] turns (left - 1) (world_of after)) (before ++ take count after.run.printed)
  run-wrote found count is made =
      wrote-on (run_from step [] turns (left - 1)) (world_step step [] turns (world_of old)) whole before after count
      (subst (λ (f : Stepped). IsStep (world_step step [] turns (world_of old)) (Ok f) after) is made) here

  pub run-ended : (found stop : Stepped) (end : RunEnd) → found ≡ stop → EndsLoop stop → end ≡ end_of stop → after.steps ≡ old.steps + 1
      → IsStep (world_step step [] turns (world_of old)) (Ok found) after → IsRun whole (record { output = before; end = end }) after
  run-ended found stop end is ends end_is count made =
      subst (λ (e : RunEnd). IsRun whole (record { output = before; end = e }) after) (sym end_is)
      (ended-at (run_from step [] turns (left - 1)) (world_step step [] turns (world_of old)) whole before stop after ends
      (subst (λ (n : ℕ). CountsLast (world_step step [] turns (world_of old)) n) (sym count) (step-counts step turns (world_of old)))
      (subst (λ (f : Stepped). IsStep (world_step step [] turns (world_of old)) (Ok f) after) is made) here)

-- after the last step that the bound allows
pub run-spent : (step : MachineSeen → MachineOutcome) (turns : ℕ → ℕ) (whole : MachineRun) (before : List ℕ) (m : MachineState)
    → IsContinued whole (run_from step [] turns 0 (world_of m)) before → IsRun whole (record { output = before; end = run_end.Spent }) m
unfolding run_from
run-spent step turns whole before m so_far =
    subst (λ (output : List ℕ). IsRun whole (record { output = output; end = run_end.Spent }) m) (append-nil before)
    (so_far [] run_end.Spent m (record { end = refl; output = refl; world = refl }))
