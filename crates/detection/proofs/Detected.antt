-- The detection theorem, and what follows for runs of the source alone.
use Rattle.std.proofs.Common.{◌≡◌, ◌≢◌, ℕ, List, [], ◌∷◌, ◌++◌, refl, sym, ◌∙◌, ap, subst}
use Rattle.std.proofs.lemmas.List.{append-nil, append_assoc, map-append}
use Rattle.std.specs.List.{flat_map}
use Rattle.hw_tags.specs.TaskRuns.{Spent, Ended, IsStuck}
use Rattle.ir_machine.proofs.WorldPlaces.{machine_run-not_stuck}
use Rattle.ir_machine.specs.Runs.{machine_run}
use Rattle.ir_machine.specs.Shown.{output_of}
use Rattle.ir_machine.specs.State.{MachineSetting, MachineWorld, MachineRun, Reported}
use Rattle.ir_machine.specs.declared.found.Raw.{Raw}
use Rattle.ir_meaning.specs.Runs.{printed_by}
use Rattle.ir_meaning.specs.State.{SourceReport, SourceRun, Violation, Exited, Trapped, Violated, Outside}
use Rattle.tag_story.specs.ToldRun.{ToldWorld, ToldRunOutcome, AsSource, IsFull}
use Rattle.tag_story.specs.declared.judgement.Judgement.{Judgement}
use Rattle.tag_story.specs.declared.judgement.Judgement.TheVariants.{Passes, Refused}
use Rattle.detection.proofs.SameRuns.{tags-alone, still-room}
use Rattle.detection.proofs.StartFollows.{whole-run-follows}
use Rattle.detection.proofs.StartRelated.{start-related}
use Rattle.detection.proofs.StoryRuns.{told-run-source}
use Rattle.detection.specs.Detection.{told_run_of, source_run_in, judgement_at, IsRunOfSource, Detects, MeetsFault, HasRoomAlways, machine_output, PrintsFirst, SameButTags, told_output, with_words}
use Rattle.detection.specs.FollowingRuns.{printed_in, machine_printed, PrintsBefore, EndsJudged, FollowsRun}
use Rattle.simulation.specs.Relation.{IsSetting, story_setting}

-- ---- any run that is followed

output_of-append : (xs ys : List (List ℕ)) → output_of (xs ++ ys) ≡ output_of xs ++ output_of ys
output_of-append [] ys = refl
output_of-append (x ∷ xs) ys = ap (λ zs. x ++ zs) (output_of-append xs ys) ∙ sym (append_assoc x (output_of xs) (output_of ys))

-- what a run of the source printed, by what each step printed
source-output : (reports : List SourceReport) → output_of (printed_in reports) ≡ flat_map (λ (report : SourceReport). report.printed) reports
source-output [] = refl
source-output (report ∷ reports) = ap (λ xs. report.printed ++ xs) (source-output reports)

-- the machine printed what the source did
all-output : (reports : List SourceReport) (r : MachineRun) → machine_printed r ≡ printed_in reports → machine_output r ≡ flat_map (λ (report : SourceReport). report.printed) reports
all-output reports r h = ap output_of h ∙ source-output reports

prints-all : (output : List ℕ) (r : MachineRun) → machine_output r ≡ output → PrintsFirst output r
prints-all output r h = ([], h ∙ sym (append-nil output))

-- or it first printed what the source did, whose last step printed nothing
prints-before : (reports : List SourceReport) (r : MachineRun) → PrintsBefore reports r → PrintsFirst (flat_map (λ (report : SourceReport). report.printed) reports) r
prints-before reports r h =
    let last : output_of (h.last.printed ∷ []) ≡ [] = append-nil h.last.printed ∙ h.nothing in
    let all : output_of (printed_in reports) ≡ output_of (printed_in h.earlier) =
    ap (λ xs. output_of (printed_in xs)) h.all
    ∙ ap output_of (map-append (λ (report : SourceReport). report.printed) h.earlier (h.last ∷ []))
    ∙ output_of-append (printed_in h.earlier) (h.last.printed ∷ [])
    ∙ ap (λ xs. output_of (printed_in h.earlier) ++ xs) last
    ∙ append-nil (output_of (printed_in h.earlier)) in
    (output_of h.more, ap output_of h.printed ∙ output_of-append (printed_in h.earlier) h.more ∙ ap (λ xs. xs ++ output_of h.more) (sym all ∙ source-output reports))

told-before : (reports : List SourceReport) (r : MachineRun) → PrintsBefore reports r → PrintsFirst (output_of (printed_in reports)) r
told-before reports r h = subst (λ output. PrintsFirst output r) (sym (source-output reports)) (prints-before reports r h)

module _ (setting : MachineSetting) (r : MachineRun) (going : r ≢ IsStuck) where
  judged-until : (judgement : Judgement) (t : ToldWorld) (reports : List SourceReport) (v : Violation) → EndsJudged setting judgement t v (λ m e. r ≡ Ended m (printed_in reports) e) (r ≢ IsStuck → PrintsBefore reports r) → PrintsFirst (flat_map (λ (report : SourceReport). report.printed) reports) r
  judged-until (Passes coincidence) t reports v h = prints-before reports r (h going)
  judged-until (Refused refused) t reports v h = let (m, raw, same, is, steps) = h in prints-all _ r (all-output reports r (ap machine_printed same))

  told-judged : (judgement : Judgement) (t : ToldWorld) (reports : List SourceReport) (v : Violation) → EndsJudged setting judgement t v (λ m e. r ≡ Ended m (printed_in reports) e) (r ≢ IsStuck → PrintsBefore reports r) → PrintsFirst (output_of (printed_in reports)) r
  told-judged (Passes coincidence) t reports v h = told-before reports r (h going)
  told-judged (Refused refused) t reports v h = let (m, raw, same, is, steps) = h in prints-all _ r (ap machine_output same)

  -- what the machine prints first, also where the story is full
  told-until : (o : ToldRunOutcome) → FollowsRun setting o r → PrintsFirst (told_output o) r
  told-until (Spent t reports) h = let (m, own, related) = h in prints-all _ r (ap machine_output own)
  told-until (Ended t reports (AsSource (Exited n))) h = let (m, own, steps) = h in prints-all _ r (ap machine_output own)
  told-until (Ended t reports (AsSource (Trapped trap task chain))) h = let (m, number, own, known, steps) = h in prints-all _ r (ap machine_output own)
  told-until (Ended t reports (AsSource (Violated v))) h = told-judged (judgement_at setting t v) t reports v h
  told-until (Ended t reports (AsSource (Outside reason task chain))) h = told-before reports r (h going)
  told-until (Ended t reports (IsFull full)) h = let (m, own, steps) = h in prints-all _ r (ap machine_output own)
  told-until IsStuck h = (machine_output r, refl)

  -- what the machine prints first
  run-until : (o : ToldRunOutcome) (run : SourceRun) → FollowsRun setting o r → IsRunOfSource o run → HasRoomAlways o → PrintsFirst (printed_by run) r
  run-until (Spent t reports) run h same room =
      let (m, own, related) = h in
      subst (λ x. PrintsFirst (printed_by x) r) (sym same) (prints-all _ r (all-output reports r (ap machine_printed own)))
  run-until (Ended t reports (AsSource (Exited n))) run h same room =
      let (m, own, steps) = h in
      subst (λ x. PrintsFirst (printed_by x) r) (sym same) (prints-all _ r (all-output reports r (ap machine_printed own)))
  run-until (Ended t reports (AsSource (Trapped trap task chain))) run h same room =
      let (m, number, own, known, steps) = h in
      subst (λ x. PrintsFirst (printed_by x) r) (sym same) (prints-all _ r (all-output reports r (ap machine_printed own)))
  run-until (Ended t reports (AsSource (Violated v))) run h same room =
      subst (λ x. PrintsFirst (printed_by x) r) (sym same) (judged-until (judgement_at setting t v) t reports v h)
  run-until (Ended t reports (AsSource (Outside reason task chain))) run h same room =
      subst (λ x. PrintsFirst (printed_by x) r) (sym same) (prints-before reports r (h going))
  run-until (Ended t reports (IsFull full)) run h same room = absurd room
  run-until IsStuck run h same room = subst (λ x. PrintsFirst (printed_by x) r) (sym same) (machine_output r, refl)

  -- and all that it prints, if the source meets no fault
  run-clean : (o : ToldRunOutcome) (run : SourceRun) → FollowsRun setting o r → IsRunOfSource o run → HasRoomAlways o → (MeetsFault run → ⊥) → machine_output r ≡ printed_by run
  run-clean (Spent t reports) run h same room clean = let (m, own, related) = h in all-output reports r (ap machine_printed own) ∙ sym (ap printed_by same)
  run-clean (Ended t reports (AsSource (Exited n))) run h same room clean = let (m, own, steps) = h in all-output reports r (ap machine_printed own) ∙ sym (ap printed_by same)
  run-clean (Ended t reports (AsSource (Trapped trap task chain))) run h same room clean = let (m, number, own, known, steps) = h in all-output reports r (ap machine_printed own) ∙ sym (ap printed_by same)
  run-clean (Ended t reports (AsSource (Violated v))) run h same room clean = absurd (clean (subst MeetsFault (sym same) tt))
  run-clean (Ended t reports (AsSource (Outside reason task chain))) run h same room clean = absurd (clean (subst MeetsFault (sym same) tt))
  run-clean (Ended t reports (IsFull full)) run h same room clean = absurd room
  run-clean IsStuck run h same room clean = absurd (clean (subst MeetsFault (sym same) tt))

  -- a report comes of a fault
  run-fault : (o : ToldRunOutcome) (run : SourceRun) (last : MachineWorld) (printed : List (List ℕ)) (raw : Raw) → FollowsRun setting o r → IsRunOfSource o run → r ≡ Ended last printed (Reported raw) → MeetsFault run
  run-fault (Spent t reports) run last printed raw h same report = let (m, own, related) = h in let wrong : Spent m (printed_in reports) ≡ Ended last printed (Reported raw) = sym own ∙ report in absurd cc
  run-fault (Ended t reports (AsSource (Exited n))) run last printed raw h same report = let (m, own, steps) = h in let wrong = sym own ∙ report in absurd cc
  run-fault (Ended t reports (AsSource (Trapped trap task chain))) run last printed raw h same report = let (m, number, own, known, steps) = h in let wrong = sym own ∙ report in absurd cc
  run-fault (Ended t reports (AsSource (Violated v))) run last printed raw h same report = subst MeetsFault (sym same) tt
  run-fault (Ended t reports (AsSource (Outside reason task chain))) run last printed raw h same report = subst MeetsFault (sym same) tt
  run-fault (Ended t reports (IsFull full)) run last printed raw h same report = let (m, own, steps) = h in let wrong = sym own ∙ report in absurd cc
  run-fault IsStuck run last printed raw h same report = subst MeetsFault (sym same) tt

-- ---- runs from the start

module _ (setting : MachineSetting) (turns : ℕ → ℕ) (bound : ℕ) (is : IsSetting setting) where
  follows : FollowsRun setting (told_run_of setting turns bound) (machine_run setting turns bound)
  follows = whole-run-follows setting is (start-related setting is) turns bound

  as-source : IsRunOfSource (told_run_of setting turns bound) (source_run_in setting turns bound)
  as-source = told-run-source (story_setting setting) setting.input turns bound

  not-stuck : machine_run setting turns bound ≢ IsStuck
  not-stuck = machine_run-not_stuck setting.program is.runnable setting is.code refl turns bound

  abbrev IsFollowing : ToldRunOutcome → Type 0
  IsFollowing o = FollowsRun setting o (machine_run setting turns bound)

  abbrev IsJudgedAs : ToldWorld → List SourceReport → Violation → Judgement → Type 0
  IsJudgedAs t reports v judgement = EndsJudged setting judgement t v (λ m e. machine_run setting turns bound ≡ Ended m (printed_in reports) e) (machine_run setting turns bound ≢ IsStuck → PrintsBefore reports (machine_run setting turns bound))

  pub detected : Detects setting turns bound
  detected =
      record {
        source = as-source;
        goes_on = λ t reports h. let (m, own, related) = subst IsFollowing h follows in (m, own, related.steps);
        exits = λ t reports n h. subst IsFollowing h follows;
        traps = λ t reports trap task chain h. subst IsFollowing h follows;
        reported = λ t reports v refused h judgement. subst (IsJudgedAs t reports v) judgement (subst IsFollowing h follows);
        missed = λ t reports v coincidence h judgement. let goes = subst (IsJudgedAs t reports v) judgement (subst IsFollowing h follows) in goes not-stuck;
        full = λ t reports full h. subst IsFollowing h follows;
        outside = λ t reports reason task chain h. let goes = subst IsFollowing h follows in goes not-stuck;
      }

  pub prints-told : PrintsFirst (told_output (told_run_of setting turns bound)) (machine_run setting turns bound)
  prints-told = told-until setting (machine_run setting turns bound) not-stuck (told_run_of setting turns bound) follows

  pub prints-until : HasRoomAlways (told_run_of setting turns bound) → PrintsFirst (printed_by (source_run_in setting turns bound)) (machine_run setting turns bound)
  prints-until room = run-until setting (machine_run setting turns bound) not-stuck (told_run_of setting turns bound) (source_run_in setting turns bound) follows as-source room

  pub prints-clean : HasRoomAlways (told_run_of setting turns bound) → (MeetsFault (source_run_in setting turns bound) → ⊥) → machine_output (machine_run setting turns bound) ≡ printed_by (source_run_in setting turns bound)
  prints-clean room clean = run-clean setting (machine_run setting turns bound) not-stuck (told_run_of setting turns bound) (source_run_in setting turns bound) follows as-source room clean

  pub fault-met : (m : MachineWorld) (printed : List (List ℕ)) (raw : Raw) → machine_run setting turns bound ≡ Ended m printed (Reported raw) → MeetsFault (source_run_in setting turns bound)
  fault-met m printed raw report = run-fault setting (machine_run setting turns bound) not-stuck (told_run_of setting turns bound) (source_run_in setting turns bound) m printed raw follows as-source report

-- a setting with other tag words is one
pub with_words-is : (setting : MachineSetting) (word : ℕ → ℕ) → IsSetting setting → IsSetting (with_words setting word)
with_words-is setting word is =
    record {
      runnable = is.runnable;
      code = is.code;
      room = record {
        globals_aligned = is.room.globals_aligned;
        stacks_aligned = is.room.stacks_aligned;
        stack_aligned = is.room.stack_aligned;
        heap_aligned = is.room.heap_aligned;
        globals_below = is.room.globals_below;
        stacks_below = is.room.stacks_below;
        heap_below = is.room.heap_below;
      };
      below = is.below;
      whole = is.whole;
      frames = is.frames;
      tasks = is.tasks;
    }

-- under other tag words there is room as well
pub room-still : (setting : MachineSetting) (word : ℕ → ℕ) (turns : ℕ → ℕ) (bound : ℕ) → HasRoomAlways (told_run_of setting turns bound) → HasRoomAlways (told_run_of (with_words setting word) turns bound)
room-still setting word turns bound room =
    still-room (told_run_of setting turns bound) (told_run_of (with_words setting word) turns bound) (tags-alone (story_setting setting) word setting.input turns bound) room

-- the source prints the same under other tag words, until its story is full
same-told : (o r : ToldRunOutcome) → SameButTags o r → told_output r ≡ told_output o
same-told (Spent t reports) r h = let (u, same, source) = h in ap told_output same
same-told (Ended t reports ending) r h = let (u, same, source) = h in ap told_output same
same-told IsStuck r h = ap told_output h

pub prints-told-others : (setting : MachineSetting) (word : ℕ → ℕ) (turns : ℕ → ℕ) (bound : ℕ) → IsSetting setting → PrintsFirst (told_output (told_run_of setting turns bound)) (machine_run (with_words setting word) turns bound)
prints-told-others setting word turns bound is =
    subst (λ output. PrintsFirst output (machine_run (with_words setting word) turns bound))
    (same-told (told_run_of setting turns bound) (told_run_of (with_words setting word) turns bound) (tags-alone (story_setting setting) word setting.input turns bound))
    (prints-told (with_words setting word) turns bound (with_words-is setting word is))
