-- Until the story is full each object has its place, so it is small, and the run of an accepted module isn't stuck.
use Rattle.std.proofs.Common.{◌≡◌, ◌≢◌, ℕ, ◌+◌, ◌-◌, List, refl, sym, ◌∙◌, ap, subst, arith}
use Rattle.hw_tags.proofs.RunLaws.{run_from-add, after_report-resumed}
use Rattle.hw_tags.specs.TaskRuns.{Next, Last, NoStep, Spent, Ended, IsStuck, after_step, run_from, resumed}
use Rattle.ir_check_flow.specs.Checked.{IsChecked}
use Rattle.ir_core.specs.declared.ir_module.Module.{Module}
use Rattle.ir_machine.specs.Runs.{machine_run}
use Rattle.ir_machine.specs.State.{MachineSetting, MachineShared}
use Rattle.ir_meaning.specs.State.{SourceReport, SourceEnding, SourceWorld, nothing_happened}
use Rattle.tag_story.specs.Story.{StorySetting}
use Rattle.tag_story.specs.ToldRun.{ToldShared, ToldWorld, ToldWorldStep, ToldRunOutcome, AsSource, IsFull, told_step, told_run_from, told_start, told_run}
use Rattle.simulation.proofs.ObjectPlaces.{placed-as}
use Rattle.simulation.proofs.Sizes.{size-rounded}
use Rattle.simulation.specs.Relation.{IsSetting, SharedRelated, story_setting}
use Rattle.well_typed_runs.proofs.Runs.{runs_are_never_stuck, registers_are_typed, last_registers_are_typed}
use Rattle.well_typed_runs.specs.GoodWorlds.{AreSmall, IsAccepted}
use Rattle.well_typed_runs.specs.Laws.{StaysSmall}
use Rattle.well_typed_runs.specs.Typed.{TasksAreTyped}
use Rattle.detection.proofs.StartFollows.{whole-run-follows}
use Rattle.detection.proofs.StartRelated.{start-related}
use Rattle.detection.proofs.StoryRuns.{told-run-source}
use Rattle.detection.specs.Detection.{HasRoomAlways, IsRunOfSource, source_world, source_run_in, told_run_of}
use Rattle.detection.specs.FollowingRuns.{FollowsRun}

-- a module that passed all checks is accepted
pub checked-accepted : (m : Module) → IsChecked m → IsAccepted m
checked-accepted m checked = record { runnable = checked.runnable; types = checked.types; flow = checked.flow }

-- objects that have places are small
all-small : (setting : MachineSetting) (t : ToldShared) (m : MachineShared) → IsSetting setting → SharedRelated setting t m → AreSmall t.source.births
all-small setting t m is related o x found =
    let place = placed-as setting t.source.births t.story o x is related.laid related.told found in
    let below = place.below in
    let rounded = size-rounded place.placed.size in
    let size = place.size in
    omega (arith, below, rounded, size)

-- a run with its story of more steps goes on from one of fewer
told-resumed : (e : StorySetting) (input : List ℕ) (turns : ℕ → ℕ) (n more : ℕ) → told_run e input turns (n + more) ≡ resumed (told_step e input) nothing_happened turns more (told_run e input turns n)
unfolding told_run
told-resumed e input turns n more = from_start (told_start e)
  where
    from_start : (start : ToldWorldStep) → after_step (told_run_from e input turns (n + more)) start ≡ resumed (told_step e input) nothing_happened turns more (after_step (told_run_from e input turns n) start)
    from_start (Next t report) =
        ap (Rattle.hw_tags.specs.TaskRuns.after_report report) (run_from-add (told_step e input) nothing_happened turns n more t)
        ∙ after_report-resumed (told_step e input) nothing_happened turns more report (told_run_from e input turns n t)
    from_start (Last t report ending) = refl
    from_start NoStep = refl

module _ (setting : MachineSetting) (turns : ℕ → ℕ) (is : IsSetting setting) where
  pub small-until : (bound : ℕ) (t : ToldWorld) (reports : List SourceReport) → told_run_of setting turns bound ≡ Spent t reports → AreSmall t.shared.source.births
  small-until bound t reports h =
      let (m, own, related) = subst (λ o. FollowsRun setting o (machine_run setting turns bound)) h (whole-run-follows setting is (start-related setting is) turns bound) in
      all-small setting t.shared m.shared is related.shared

  as-source : (bound : ℕ) → IsRunOfSource (told_run_of setting turns bound) (source_run_in setting turns bound)
  as-source bound = told-run-source (story_setting setting) setting.input turns bound

  -- while there is room, all objects of the source's run are small
  stays-small : (bound : ℕ) → HasRoomAlways (told_run_of setting turns bound) → StaysSmall setting.program setting.input turns bound
  stays-small bound room n w reports below spent = by_told (told_run_of setting turns n) refl (as-source n)
    where
      whole : n + (bound - n) ≡ bound
      whole = omega (arith, below)

      goes-on : (o : ToldRunOutcome) → told_run_of setting turns n ≡ o → told_run_of setting turns bound ≡ resumed (told_step (story_setting setting) setting.input) nothing_happened turns (bound - n) o
      goes-on o h =
          ap (told_run_of setting turns) (sym whole)
          ∙ told-resumed (story_setting setting) setting.input turns n (bound - n)
          ∙ ap (resumed (told_step (story_setting setting) setting.input) nothing_happened turns (bound - n)) h

      by_told : (o : ToldRunOutcome) → told_run_of setting turns n ≡ o → IsRunOfSource o (source_run_in setting turns n) → AreSmall w.shared.births
      by_told (Spent t earlier) h same =
          let one : Spent w reports ≡ Spent (source_world t) earlier = sym spent ∙ same in
          let world : w ≡ source_world t = cc in
          subst (λ (v : SourceWorld). AreSmall v.shared.births) (sym world) (small-until n t earlier h)
      by_told (Ended t earlier (AsSource ending)) h same = let wrong : Spent w reports ≡ Ended (source_world t) earlier ending = sym spent ∙ same in absurd cc
      by_told (Ended t earlier (IsFull full)) h same = absurd (subst HasRoomAlways (goes-on (Ended t earlier (IsFull full)) h) room)
      by_told IsStuck h same = let wrong : Spent w reports ≡ IsStuck = sym spent ∙ same in absurd cc

  module _ (accepted : IsAccepted setting.program) where
    pub source-never-stuck : (bound : ℕ) → HasRoomAlways (told_run_of setting turns bound) → source_run_in setting turns bound ≢ IsStuck
    source-never-stuck bound room = runs_are_never_stuck setting.program setting.input turns bound accepted (stays-small bound room)

    pub told-never-stuck : (bound : ℕ) → told_run_of setting turns bound ≢ IsStuck
    told-never-stuck bound stuck =
        source-never-stuck bound (subst HasRoomAlways (sym stuck) tt) (subst (λ o. IsRunOfSource o (source_run_in setting turns bound)) stuck (as-source bound))

    pub typed-until : (bound : ℕ) (t : ToldWorld) (reports : List SourceReport) → told_run_of setting turns bound ≡ Spent t reports → TasksAreTyped setting.program (source_world t)
    typed-until bound t reports h =
        registers_are_typed setting.program setting.input turns bound (source_world t) reports accepted (stays-small bound (subst HasRoomAlways (sym h) tt))
        (subst (λ o. IsRunOfSource o (source_run_in setting turns bound)) h (as-source bound))

    pub typed-at-end : (bound : ℕ) (t : ToldWorld) (reports : List SourceReport) (ending : SourceEnding) → told_run_of setting turns bound ≡ Ended t reports (AsSource ending) → TasksAreTyped setting.program (source_world t)
    typed-at-end bound t reports ending h =
        last_registers_are_typed setting.program setting.input turns bound (source_world t) reports ending accepted (stays-small bound (subst HasRoomAlways (sym h) tt))
        (subst (λ o. IsRunOfSource o (source_run_in setting turns bound)) h (as-source bound))
