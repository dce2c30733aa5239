-- Laws of runs under bounds.
use Rattle.std.proofs.Common.{◌≡◌, ℕ, zero, suc, ◌+◌, List, [], ◌∷◌, refl, sym, ◌∙◌, ap, zero-add, suc-add}
use Rattle.hw_tags.specs.TaskRuns.{World, Seen, Outcome, WorldStep, Next, Last, NoStep, Run, Spent, Ended, IsStuck, world_step, after_report, after_step, run_from, after_reports, resumed}

after_reports-none : {S F H E : Type 0} → (run : Run S F H E) → after_reports [] run ≡ run
after_reports-none (Spent w reports) = refl
after_reports-none (Ended w reports ending) = refl
after_reports-none IsStuck = refl

after_reports-one : {S F H E : Type 0} → (report : H) (reports : List H) (run : Run S F H E) → after_reports (report ∷ reports) run ≡ after_report report (after_reports reports run)
after_reports-one report reports (Spent w later) = refl
after_reports-one report reports (Ended w later ending) = refl
after_reports-one report reports IsStuck = refl

-- going on after one more report is going on before it
pub after_report-resumed : {S F H E : Type 0} → (step : Seen S F → Outcome S F H E) (nothing : H) (turns : ℕ → ℕ) (m : ℕ) (report : H) (run : Run S F H E) → after_report report (resumed step nothing turns m run) ≡ resumed step nothing turns m (after_report report run)
after_report-resumed step nothing turns m report (Spent w reports) = sym (after_reports-one report reports (run_from step nothing turns m w))
after_report-resumed step nothing turns m report (Ended w reports ending) = refl
after_report-resumed step nothing turns m report IsStuck = refl

-- a run of n + m steps is a run of m steps after one of n
pub run_from-add : {S F H E : Type 0} → (step : Seen S F → Outcome S F H E) (nothing : H) (turns : ℕ → ℕ) (n m : ℕ) (w : World S F) → run_from step nothing turns (n + m) w ≡ resumed step nothing turns m (run_from step nothing turns n w)
unfolding run_from
run_from-add step nothing turns zero m w =
    ap (λ k. run_from step nothing turns k w) (zero-add m) ∙ sym (after_reports-none (run_from step nothing turns m w))
run_from-add {S = S} {F = F} {H = H} {E = E} step nothing turns (suc n) m w =
    ap (λ k. run_from step nothing turns k w) (suc-add n m) ∙ by_step (world_step step nothing turns w) (λ v. run_from-add step nothing turns n m v)
  where
    by_step : (r : WorldStep S F H E) → ((v : World S F) → run_from step nothing turns (n + m) v ≡ resumed step nothing turns m (run_from step nothing turns n v)) → after_step (run_from step nothing turns (n + m)) r ≡ resumed step nothing turns m (after_step (run_from step nothing turns n) r)
    by_step (Next v report) rest = ap (after_report report) (rest v) ∙ after_report-resumed step nothing turns m report (run_from step nothing turns n v)
    by_step (Last v report ending) rest = refl
    by_step NoStep rest = refl

-- a run that ended stays so under a greater bound
pub run_from-ended : {S F H E : Type 0} → (step : Seen S F → Outcome S F H E) (nothing : H) (turns : ℕ → ℕ) (n m : ℕ) (w last : World S F) (reports : List H) (ending : E) → run_from step nothing turns n w ≡ Ended last reports ending → run_from step nothing turns (n + m) w ≡ Ended last reports ending
run_from-ended step nothing turns n m w last reports ending e = run_from-add step nothing turns n m w ∙ ap (resumed step nothing turns m) e
