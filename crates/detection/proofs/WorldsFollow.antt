-- The machine follows each step of the run, and the whole run from related worlds.
use Rattle.std.proofs.Common.{◌≡◌, ◌≢◌, ◌⊎◌, inl, inr, ℕ, zero, suc, ◌+◌, ◌≤◌, true, false, List, [], ◌∷◌, ◌++◌, length, map, slice_get, slice_set, Option, Some, None, option_map, refl, sym, ◌∙◌, ap, subst, arith, Result, Ok, Err}
use Rattle.std.proofs.lemmas.Bool.{cases_eq}
use Rattle.std.proofs.lemmas.List.{length-map, length-set, length-append}
use Rattle.hw_tags.specs.InputState.{next_input}
use Rattle.hw_tags.specs.TaskRuns.{Goes, Stays, Starts, Finishes, Ends, Stuck, Next, Last, NoStep, Spent, Ended, IsStuck, finished_of, unfinished, seen, kept, with_started, lifted, task_step, counted, next_task, world_step, after_step, after_report, run_from}
use Rattle.hw_tags.specs.Turn.{unfinished_of, chosen_task, turn_words}
use Rattle.dbg_sites.specs.ChainTable.{ChainEntry}
use Rattle.ir_machine.specs.InstructionStep.{machine_step}
use Rattle.ir_machine.specs.Runs.{step_in}
use Rattle.ir_machine.specs.State.{MachineSetting, MachineShared, MachineOutcome, MachineWorld, MachineEnding, MachineWorldStep, MachineRun}
use Rattle.hw_base.specs.declared.endings.Full.{Full}
use Rattle.ir_meaning.specs.Runs.{step_under}
use Rattle.ir_meaning.specs.State.{SourceFrame, SourceShared, SourceReport, SourceEnding, SourceOutcome, Exited, Trapped, Violated, Outside, nothing_happened}
use Rattle.ir_tasks.specs.Frames.{Frame}
use Rattle.tag_story.proofs.StoryLists.{pushed-cases, get-below}
use Rattle.tag_story.specs.Judging.{judged}
use Rattle.tag_story.specs.Story.{StorySetting, Story, StoryBirth, OpenFrame}
use Rattle.tag_story.specs.ToldRun.{ToldShared, ToldSeen, ToldEnding, AsSource, IsFull, ToldWorld, ToldOutcome, ToldWorldStep, ToldRunOutcome, told_step, source_seen, with_story, if_told, story_after, told_outcome}
use Rattle.tag_story.specs.declared.judgement.Judgement.{Judgement}
use Rattle.tag_story.specs.declared.judgement.Judgement.TheVariants.{Passes, Refused}
use Rattle.tbi_memory.proofs.ListLemmas.{slice_get-set_at, slice_get-set_other}
use Rattle.step_simulation.proofs.EachStep.{every-step-followed}
use Rattle.step_simulation.proofs.LibraryParts.{frames-stay}
use Rattle.simulation.proofs.TablesKept.{each-map}
use Rattle.step_simulation.specs.Following.{KeepsOthers, KeepsOlder, Follows, FollowsEnding, FollowsJudged}
use Rattle.detection.proofs.QuietEndings.{IsQuiet}
use Rattle.detection.proofs.QuietFaults.{source_step-quiet}
use Rattle.detection.specs.FollowingRuns.{printed_in, machine_printed, PrintsBefore, EndsJudged, EndsAs, FollowsWorldStep, FollowsRun}
use Rattle.simulation.specs.Parts.{AreEach, AreStarted}
use Rattle.simulation.specs.Relation.{IsSetting, HasTables, SharedRelated, FramesRelated, OwnsFrames, SeenRelated, WorldRelated, story_setting}

-- ---- steps that print nothing

-- nothing is printed at an end by a violation or outside the profile
abbrev PrintsNothingAt : ToldEnding → List ℕ → Type 0
PrintsNothingAt (AsSource (Exited n)) printed = Unit {0}
PrintsNothingAt (AsSource (Trapped trap task chain)) printed = Unit {0}
PrintsNothingAt (AsSource (Violated v)) printed = printed ≡ []
PrintsNothingAt (AsSource (Outside reason task chain)) printed = printed ≡ []
PrintsNothingAt (IsFull full) printed = Unit {0}

abbrev IsQuietTold : ToldOutcome → Type 0
IsQuietTold (Goes t report) = Unit {0}
IsQuietTold Stays = Unit {0}
IsQuietTold (Starts t report frame) = Unit {0}
IsQuietTold (Finishes t report) = Unit {0}
IsQuietTold (Ends t frames report ending) = PrintsNothingAt ending report.printed
IsQuietTold Stuck = Unit {0}

ending-quiet : (shared : SourceShared) (frames : List SourceFrame) (report : SourceReport) (ending : SourceEnding) → IsQuiet (Ends shared frames report ending) → PrintsNothingAt (AsSource ending) report.printed
ending-quiet shared frames report (Exited n) h = tt
ending-quiet shared frames report (Trapped trap task chain) h = tt
ending-quiet shared frames report (Violated v) h = h
ending-quiet shared frames report (Outside reason task chain) h = h

told-quiet : (e : StorySetting) (s : ToldSeen) (o : SourceOutcome) → IsQuiet o → IsQuietTold (told_outcome e s o)
told-quiet e s (Goes next report) h = by_story (story_after e s report)
  where
    by_story : (r : Result Story Full) → IsQuietTold (if_told s r (λ w. Goes (with_story next w) report))
    by_story (Ok w) = tt
    by_story (Err full) = tt
told-quiet e s Stays h = tt
told-quiet e s (Starts next report frame) h = by_story (story_after e s report)
  where
    by_story : (r : Result Story Full) → IsQuietTold (if_told s r (λ w. Starts (with_story next w) report frame))
    by_story (Ok w) = tt
    by_story (Err full) = tt
told-quiet e s (Finishes shared report) h = by_story (story_after e s report)
  where
    by_story : (r : Result Story Full) → IsQuietTold (if_told s r (λ w. Finishes (record { source = shared; story = w }) report))
    by_story (Ok w) = tt
    by_story (Err full) = tt
told-quiet e s (Ends shared frames report ending) h = by_story (story_after e s report)
  where
    by_story : (r : Result Story Full) → IsQuietTold (if_told s r (λ w. Ends (record { source = shared; story = w }) frames report (AsSource ending)))
    by_story (Ok w) = ending-quiet shared frames report ending h
    by_story (Err full) = tt
told-quiet e s Stuck h = tt

-- ---- lists item by item

each-at : {X Y : Type 0} (R : X → Y → Type 0) (xs : List X) (ys : List Y) → AreEach R xs ys → (k : ℕ) (x : X) → slice_get xs k ≡ Some x → (y : Y) × (slice_get ys k ≡ Some y) × R x y
each-at R [] [] h k x e = absurd cc
each-at R [] (y ∷ ys) h k x e = absurd h
each-at R (z ∷ xs) [] h k x e = absurd h
each-at R (z ∷ xs) (y ∷ ys) h zero x e = (y, refl, subst (λ u. R u y) (let same : z ≡ x = cc in same) h.0)
each-at R (z ∷ xs) (y ∷ ys) h (suc k) x e = each-at R xs ys h.1 k x e

each-set : {X Y : Type 0} (R : X → Y → Type 0) (xs : List X) (ys : List Y) (k : ℕ) (x : X) (y : Y) → AreEach R xs ys → R x y → AreEach R (slice_set xs k x) (slice_set ys k y)
each-set R [] [] k x y h new = tt
each-set R [] (w ∷ ys) k x y h new = absurd h
each-set R (z ∷ xs) [] k x y h new = absurd h
each-set R (z ∷ xs) (w ∷ ys) zero x y h new = (new, h.1)
each-set R (z ∷ xs) (w ∷ ys) (suc k) x y h new = (h.0, each-set R xs ys k x y h.1 new)

each-push : {X Y : Type 0} (R : X → Y → Type 0) (xs : List X) (ys : List Y) (x : X) (y : Y) → AreEach R xs ys → R x y → AreEach R (xs ++ x ∷ []) (ys ++ y ∷ [])
each-push R [] [] x y h new = (new, tt)
each-push R [] (w ∷ ys) x y h new = absurd h
each-push R (z ∷ xs) [] x y h new = absurd h
each-push R (z ∷ xs) (w ∷ ys) x y h new = (h.0, each-push R xs ys x y h.1 new)

-- an item of a list in which one was set
set-there : {X : Type 0} (o : Option X) (new x : X) → option_map (λ _old. new) o ≡ Some x → new ≡ x
set-there None new x h = absurd cc
set-there (Some old) new x h = cc

set-cases : {X : Type 0} (xs : List X) (k j : ℕ) (new x : X) → slice_get (slice_set xs k new) j ≡ Some x → ((j ≡ k) × (new ≡ x)) ⊎ ((j ≢ k) × (slice_get xs j ≡ Some x))
set-cases xs k j new x h =
    elim (cases_eq j k) [
      | inl same ↦
          let at : slice_get (slice_set xs k new) k ≡ Some x = subst (λ (n : ℕ). slice_get (slice_set xs k new) n ≡ Some x) same h in
          inl (same, set-there (slice_get xs k) new x (sym (slice_get-set_at xs k new) ∙ at))
      | inr other ↦ inr (other, sym (slice_get-set_other xs k j new other) ∙ h)
    ]

-- ---- tasks

finished-same : (setting : MachineSetting) (births : List StoryBirth) (table : List ChainEntry) (ts : List (List SourceFrame)) (ms : List (List Frame)) → AreEach (FramesRelated setting births table) ts ms → finished_of ms ≡ finished_of ts
finished-same setting births table [] [] h = refl
finished-same setting births table [] (m ∷ ms) h = absurd h
finished-same setting births table (t ∷ ts) [] h = absurd h
finished-same setting births table ([] ∷ ts) ([] ∷ ms) h = ap (λ xs. true ∷ xs) (finished-same setting births table ts ms h.1)
finished-same setting births table ([] ∷ ts) ((g ∷ gs) ∷ ms) h = absurd h.0
finished-same setting births table ((f ∷ fs) ∷ ts) ([] ∷ ms) h = absurd h.0
finished-same setting births table ((f ∷ fs) ∷ ts) ((g ∷ gs) ∷ ms) h = ap (λ xs. false ∷ xs) (finished-same setting births table ts ms h.1)

module _ (setting : MachineSetting) (is : IsSetting setting) (t : ToldWorld) (m : MachineWorld) (related : WorldRelated setting t m) where
  same-finished : finished_of m.tasks ≡ finished_of t.tasks
  same-finished = finished-same setting t.shared.story.births m.shared.chains t.tasks m.tasks related.tasks

  -- what the chosen task sees
  seen-related : (k : ℕ) (f : SourceFrame) (fs : List SourceFrame) (g : Frame) (gs : List Frame) → slice_get t.tasks k ≡ Some (f ∷ fs) → FramesRelated setting t.shared.story.births m.shared.chains (f ∷ fs) (g ∷ gs)
      → SeenRelated setting (seen (counted t) k f fs) (seen (counted m) k g gs)
  seen-related k f fs g gs there frames =
      let many : length (finished_of t.tasks) ≡ length t.tasks = length-map _ _ in
      record {
        like = record {
          shared = related.shared;
          task = refl;
          frame = frames.0.like;
          callers = frames.1;
          owned = related.owned k (f ∷ fs) there;
          finished = same-finished;
          step = ap (λ n. n + 1) related.steps;
          there = let below = get-below t.tasks k (f ∷ fs) there in omega (arith, many, below);
          few = let few = related.few in omega (arith, many, few);
          tables = subst (λ n. HasTables n m.shared) (sym many) related.tables;
          started = subst (λ n. AreStarted n t.shared.story) (sym many) related.started;
        };
        place = frames.0.place;
      }

  -- a step of task k, which keeps the others
  module _ (k : ℕ) (told : ToldShared) (machine : MachineShared) (fs : List SourceFrame) (gs : List Frame) (shared : SharedRelated setting told machine) (others : KeepsOlder k (length t.tasks) m.shared.chains t.shared.story machine.chains told.story) (frames : FramesRelated setting told.story.births machine.chains fs gs) (owned : OwnsFrames k fs told.story) where
    moved : AreEach (FramesRelated setting told.story.births machine.chains) (slice_set t.tasks k fs) (slice_set m.tasks k gs)
    moved =
        each-set (FramesRelated setting told.story.births machine.chains) t.tasks m.tasks k fs gs
        (each-map (FramesRelated setting t.shared.story.births m.shared.chains) (FramesRelated setting told.story.births machine.chains) t.tasks m.tasks
        (λ xs ys. frames-stay setting t.shared.story.births told.story.births m.shared.chains machine.chains xs ys others.places others.chains) related.tasks)
        frames

    still-owned : (task : ℕ) (xs : List SourceFrame) → slice_get (slice_set t.tasks k fs) task ≡ Some xs → OwnsFrames task xs told.story
    still-owned task xs h =
        elim (set-cases t.tasks k task fs xs h) [
          | inl own ↦ subst (λ ys. OwnsFrames task ys told.story) own.1 (subst (λ n. OwnsFrames n fs told.story) (sym own.0) owned)
          | inr other ↦ related.owned task xs other.1 ∙ ap (map (λ (o : OpenFrame). o.birth)) (sym (others.frames task other.0 (get-below t.tasks task xs other.1)))
        ]

    kept-related : HasTables (length t.tasks) machine → AreStarted (length t.tasks) told.story → WorldRelated setting (kept (counted t) k told fs) (kept (counted m) k machine gs)
    kept-related tables started =
        let many : length (slice_set t.tasks k fs) ≡ length t.tasks = length-set t.tasks k fs in
        record {
          shared = shared;
          tasks = moved;
          owned = still-owned;
          few = let few = related.few in omega (arith, many, few);
          tables = subst (λ n. HasTables n machine) (sym many) tables;
          started = subst (λ n. AreStarted n told.story) (sym many) started;
          steps = ap (λ n. n + 1) related.steps;
          turns = ap (λ n. n + turn_words (unfinished m)) related.turns ∙ ap (λ finished. t.turns + turn_words (unfinished_of finished)) same-finished;
        }

    -- the same, and one more task starts
    started-related : (frame : SourceFrame) (new : Frame) → FramesRelated setting told.story.births machine.chains (frame ∷ []) (new ∷ []) → OwnsFrames (length t.tasks) (frame ∷ []) told.story → length t.tasks + 1 ≤ setting.places.most_tasks
        → HasTables (length t.tasks + 1) machine → AreStarted (length t.tasks + 1) told.story → WorldRelated setting (with_started (kept (counted t) k told fs) frame) (with_started (kept (counted m) k machine gs) new)
    started-related frame new own births few tables started =
        let set : length (slice_set t.tasks k fs) ≡ length t.tasks = length-set t.tasks k fs in
        let pushed : length (slice_set t.tasks k fs ++ (frame ∷ []) ∷ []) ≡ length (slice_set t.tasks k fs) + 1 = length-append _ _ in
        let many : length (slice_set t.tasks k fs ++ (frame ∷ []) ∷ []) ≡ length t.tasks + 1 = omega (arith, set, pushed) in
        record {
          shared = shared;
          tasks = each-push (FramesRelated setting told.story.births machine.chains) (slice_set t.tasks k fs) (slice_set m.tasks k gs) (frame ∷ []) (new ∷ []) moved own;
          owned = λ task xs h. elim (pushed-cases (slice_set t.tasks k fs) (frame ∷ []) task xs h) [
            | inl old ↦ still-owned task xs old
            | inr last ↦ subst (λ ys. OwnsFrames task ys told.story) (sym last.1) (subst (λ n. OwnsFrames n (frame ∷ []) told.story) (sym (last.0 ∙ set)) births)
          ];
          few = omega (arith, many, few);
          tables = subst (λ n. HasTables n machine) (sym many) tables;
          started = subst (λ n. AreStarted n told.story) (sym many) started;
          steps = ap (λ n. n + 1) related.steps;
          turns = ap (λ n. n + turn_words (unfinished m)) related.turns ∙ ap (λ finished. t.turns + turn_words (unfinished_of finished)) same-finished;
        }

  older : (k : ℕ) (told : ToldShared) (machine : MachineShared) → KeepsOthers k m.shared.chains t.shared.story machine.chains told.story → KeepsOlder k (length t.tasks) m.shared.chains t.shared.story machine.chains told.story
  older k told machine others = record { chains = others.chains; places = others.places; frames = λ task apart below. others.frames task apart }

  many-finished : length (finished_of t.tasks) ≡ length t.tasks
  many-finished = length-map _ _

  same-step : m.steps + 1 ≡ t.steps + 1
  same-step = ap (λ n. n + 1) related.steps

  judged-lifted : (k : ℕ) (judgement : Judgement) (told : ToldShared) (frames : List SourceFrame) (v : Rattle.ir_meaning.specs.State.Violation) (printed : List ℕ) (r : MachineOutcome) → printed ≡ [] → FollowsJudged setting judgement told v (counted t).steps printed r
      → EndsJudged setting judgement (kept (counted t) k told frames) v (λ n e. lifted (counted m) k [] r ≡ Last n printed e) (printed ≡ [])
  judged-lifted k (Passes coincidence) told frames v printed r nothing h = nothing
  judged-lifted k (Refused refused) told frames v printed r nothing h = let (shared, gone, raw, same, reports) = h in (kept (counted m) k shared gone, raw, ap (lifted (counted m) k []) same, reports, same-step)

  ending-lifted : (k : ℕ) (told : ToldShared) (frames : List SourceFrame) (printed : List ℕ) (ending : ToldEnding) (r : MachineOutcome) → PrintsNothingAt ending printed → FollowsEnding setting told (counted t).steps printed ending r
      → EndsAs setting (kept (counted t) k told frames) ending (λ n e. lifted (counted m) k [] r ≡ Last n printed e) (printed ≡ [])
  ending-lifted k told frames printed (AsSource (Exited n)) r nothing h = let (shared, gone, same) = h in (kept (counted m) k shared gone, ap (lifted (counted m) k []) same, same-step)
  ending-lifted k told frames printed (AsSource (Trapped trap task chain)) r nothing h = let (shared, gone, number, same, known) = h in (kept (counted m) k shared gone, number, ap (lifted (counted m) k []) same, known, same-step)
  ending-lifted k told frames printed (AsSource (Violated v)) r nothing h = judged-lifted k (judged (story_setting setting) told.story told.source.births v) told frames v printed r nothing h
  ending-lifted k told frames printed (AsSource (Outside reason task chain)) r nothing h = nothing
  ending-lifted k told frames printed (IsFull full) r nothing h = let (shared, gone, same) = h in (kept (counted m) k shared gone, ap (lifted (counted m) k []) same, same-step)

  counted-related : WorldRelated setting (counted t) (counted m)
  counted-related =
      record {
        shared = related.shared;
        tasks = related.tasks;
        owned = related.owned;
        few = related.few;
        tables = related.tables;
        started = related.started;
        steps = ap (λ n. n + 1) related.steps;
        turns = ap (λ n. n + turn_words (unfinished m)) related.turns ∙ ap (λ finished. t.turns + turn_words (unfinished_of finished)) same-finished;
      }

  lifted-follows : (k : ℕ) (f : SourceFrame) (fs : List SourceFrame) (g : Frame) (gs : List Frame) → (o : ToldOutcome) (r : MachineOutcome) → IsQuietTold o → Follows setting (seen (counted t) k f fs) m.shared o r
      → FollowsWorldStep setting (lifted (counted t) k nothing_happened o) (lifted (counted m) k [] r)
  lifted-follows k f fs g gs (Goes next report) r quiet h =
      let (n, same, seen_then, others) = h in (
        kept (counted m) k n.shared (n.frame ∷ n.callers),
        ap (lifted (counted m) k []) same,
        kept-related k next.shared n.shared (next.frame ∷ next.callers) (n.frame ∷ n.callers) seen_then.like.shared (older k next.shared n.shared others) (record { like = seen_then.like.frame; place = seen_then.place }, seen_then.like.callers) seen_then.like.owned
            (subst (λ count. HasTables count n.shared) many-finished seen_then.like.tables) (subst (λ count. AreStarted count next.shared.story) many-finished seen_then.like.started),
      )
  lifted-follows k f fs g gs Stays r quiet h = (counted m, ap (lifted (counted m) k []) h, counted-related)
  lifted-follows k f fs g gs (Starts next report frame) r quiet h =
      let (n, new, same, seen_then, own, births, others) = h in
      let many : length (finished_of t.tasks ++ false ∷ []) ≡ length t.tasks + 1 = length-append _ _ ∙ ap (λ count. count + 1) many-finished in (
        with_started (kept (counted m) k n.shared (n.frame ∷ n.callers)) new,
        ap (lifted (counted m) k []) same,
        started-related k next.shared n.shared (next.frame ∷ next.callers) (n.frame ∷ n.callers) seen_then.like.shared (subst (λ count. KeepsOlder k count m.shared.chains t.shared.story n.shared.chains next.shared.story) many-finished others) (record { like = seen_then.like.frame; place = seen_then.place }, seen_then.like.callers) seen_then.like.owned
            frame new (own, tt) (subst (λ count. OwnsFrames count (frame ∷ []) next.shared.story) many-finished births) (let few = seen_then.like.few in omega (arith, many, few))
            (subst (λ count. HasTables count n.shared) many seen_then.like.tables) (subst (λ count. AreStarted count next.shared.story) many seen_then.like.started),
      )
  lifted-follows k f fs g gs (Finishes shared report) r quiet h =
      let (n, same, shared_then, tables, started, owned, others) = h in (
        kept (counted m) k n [],
        ap (lifted (counted m) k []) same,
        kept-related k shared n [] [] shared_then (older k shared n others) tt owned
            (subst (λ count. HasTables count n) many-finished tables) (subst (λ count. AreStarted count shared.story) many-finished started),
      )
  lifted-follows k f fs g gs (Ends shared frames report ending) r quiet h = ending-lifted k shared frames report.printed ending r quiet h
  lifted-follows k f fs g gs Stuck r quiet h = tt

  -- a step of the run
  module _ (turns : ℕ → ℕ) where
    same-task : next_task turns m ≡ next_task turns t
    same-task = ap (λ finished. chosen_task (unfinished_of finished) (turns m.turns)) same-finished ∙ ap (λ n. chosen_task (unfinished t) (turns n)) related.turns

    abbrev told : ToldSeen → ToldOutcome
    told = told_step (story_setting setting) setting.input

    task-follows : (k : ℕ) (o : Option (List SourceFrame)) → slice_get t.tasks k ≡ o → FollowsWorldStep setting (task_step told nothing_happened (counted t) k o) (task_step (step_in setting) [] (counted m) k (slice_get m.tasks k))
    task-follows k None there = tt
    task-follows k (Some []) there = tt
    task-follows k (Some (f ∷ fs)) there =
        let (gs, here, frames) = each-at (FramesRelated setting t.shared.story.births m.shared.chains) t.tasks m.tasks related.tasks k (f ∷ fs) there in
        subst (λ o. FollowsWorldStep setting (lifted (counted t) k nothing_happened (told (seen (counted t) k f fs))) (task_step (step_in setting) [] (counted m) k o)) (sym here) (by_frames gs frames)
      where
        by_frames : (gs : List Frame) → FramesRelated setting t.shared.story.births m.shared.chains (f ∷ fs) gs
            → FollowsWorldStep setting (lifted (counted t) k nothing_happened (told (seen (counted t) k f fs))) (task_step (step_in setting) [] (counted m) k (Some gs))
        by_frames [] frames = absurd frames
        by_frames (g ∷ gs) frames =
            lifted-follows k f fs g gs (told (seen (counted t) k f fs)) (step_in setting (seen (counted m) k g gs))
            (told-quiet (story_setting setting) (seen (counted t) k f fs) (step_under setting.program setting.input (source_seen (seen (counted t) k f fs))) (source_step-quiet setting.program (next_input setting.input t.shared.source.input) (source_seen (seen (counted t) k f fs))))
            (subst (λ given. Follows setting (seen (counted t) k f fs) m.shared (told (seen (counted t) k f fs)) (machine_step setting (next_input setting.input given) (seen (counted m) k g gs))) (sym related.shared.input)
            (every-step-followed setting (seen (counted t) k f fs) (seen (counted m) k g gs) is (seen-related k f fs g gs there frames) setting.input))

    pub world-step-follows : FollowsWorldStep setting (world_step told nothing_happened turns t) (world_step (step_in setting) [] turns m)
    unfolding world_step
    world-step-follows =
        subst (λ k. FollowsWorldStep setting (world_step told nothing_happened turns t) (task_step (step_in setting) [] (counted m) k (slice_get m.tasks k))) (sym same-task)
        (task-follows (next_task turns t) (slice_get t.tasks (next_task turns t)) refl)

-- ---- runs

ends-map : (setting : MachineSetting) (t : ToldWorld) (ending : ToldEnding) (P Q : MachineWorld → MachineEnding → Type 0) (A B : Type 0) → ((m : MachineWorld) (e : MachineEnding) → P m e → Q m e) → (A → B) → EndsAs setting t ending P A → EndsAs setting t ending Q B
ends-map setting t (AsSource (Exited n)) P Q A B go on h = let (m, is, same) = h in (m, go m _ is, same)
ends-map setting t (AsSource (Trapped trap task chain)) P Q A B go on h = let (m, number, is, known, same) = h in (m, number, go m _ is, known, same)
ends-map setting t (AsSource (Violated v)) P Q A B go on h = by_judgement (judged (story_setting setting) t.shared.story t.shared.source.births v) h
  where
    by_judgement : (judgement : Judgement) → EndsJudged setting judgement t v P A → EndsJudged setting judgement t v Q B
    by_judgement (Passes coincidence) is = on is
    by_judgement (Refused refused) is = let (m, raw, own, reports, same) = is in (m, raw, go m _ own, reports, same)
ends-map setting t (AsSource (Outside reason task chain)) P Q A B go on h = on h
ends-map setting t (IsFull full) P Q A B go on h = let (m, is, same) = h in (m, go m _ is, same)

-- what a run prints after one more step
printed-after : (printed : List ℕ) (r : MachineRun) → r ≢ IsStuck → machine_printed (after_report printed r) ≡ printed ∷ machine_printed r
printed-after printed (Spent m all) goes = refl
printed-after printed (Ended m all ending) goes = refl
printed-after printed IsStuck goes = absurd (goes refl)

before-after : (report : SourceReport) (reports : List SourceReport) (r : MachineRun) → (r ≢ IsStuck → PrintsBefore reports r) → after_report report.printed r ≢ IsStuck → PrintsBefore (report ∷ reports) (after_report report.printed r)
before-after report reports r before goes =
    let going : r ≢ IsStuck = λ stuck. goes (ap (after_report report.printed) stuck) in
    let rest = before going in
    record {
      earlier = report ∷ rest.earlier;
      last = rest.last;
      all = ap (λ xs. report ∷ xs) rest.all;
      nothing = rest.nothing;
      more = rest.more;
      printed = printed-after report.printed r going ∙ ap (λ xs. report.printed ∷ xs) rest.printed;
    }

-- one more report before the others
after-report-follows : (setting : MachineSetting) (report : SourceReport) (o : ToldRunOutcome) (r : MachineRun) → FollowsRun setting o r → FollowsRun setting (after_report report o) (after_report report.printed r)
after-report-follows setting report (Spent t reports) r h = let (m, same, related) = h in (m, ap (after_report report.printed) same, related)
after-report-follows setting report (Ended t reports ending) r h =
    ends-map setting t ending (λ m e. r ≡ Ended m (printed_in reports) e) (λ m e. after_report report.printed r ≡ Ended m (printed_in (report ∷ reports)) e) (r ≢ IsStuck → PrintsBefore reports r) (after_report report.printed r ≢ IsStuck → PrintsBefore (report ∷ reports) (after_report report.printed r))
    (λ m e same. ap (after_report report.printed) same) (before-after report reports r) h
after-report-follows setting report IsStuck r h = tt

module _ (setting : MachineSetting) (is : IsSetting setting) (turns : ℕ → ℕ) where
  -- on from a step, if the rest is followed
  pub after-step-follows : (go : ToldWorld → ToldRunOutcome) (on : MachineWorld → MachineRun) → ((t : ToldWorld) (m : MachineWorld) → WorldRelated setting t m → FollowsRun setting (go t) (on m))
      → (o : ToldWorldStep) (r : MachineWorldStep) → FollowsWorldStep setting o r → FollowsRun setting (after_step go o) (after_step on r)
  after-step-follows go on follows (Next t report) r h =
      let (m, same, related) = h in
      subst (λ step. FollowsRun setting (after_report report (go t)) (after_step on step)) (sym same) (after-report-follows setting report (go t) (on m) (follows t m related))
  after-step-follows go on follows (Last t report ending) r h =
      ends-map setting t ending (λ m e. r ≡ Last m report.printed e) (λ m e. after_step on r ≡ Ended m (printed_in (report ∷ [])) e) (report.printed ≡ []) (after_step on r ≢ IsStuck → PrintsBefore (report ∷ []) (after_step on r))
      (λ m e same. ap (after_step on) same) (λ none goes. record { earlier = []; last = report; all = refl; nothing = none; more = machine_printed (after_step on r); printed = refl }) h
  after-step-follows go on follows NoStep r h = tt

  pub run-follows : (bound : ℕ) (t : ToldWorld) (m : MachineWorld) → WorldRelated setting t m → FollowsRun setting (run_from (told_step (story_setting setting) setting.input) nothing_happened turns bound t) (run_from (step_in setting) [] turns bound m)
  unfolding run_from
  run-follows zero t m related = (m, refl, related)
  run-follows (suc bound) t m related =
      after-step-follows (run_from (told_step (story_setting setting) setting.input) nothing_happened turns bound) (run_from (step_in setting) [] turns bound) (run-follows bound)
      (world_step (told_step (story_setting setting) setting.input) nothing_happened turns t) (world_step (step_in setting) [] turns m) (world-step-follows setting is t m related turns)
