-- The cause of each answer, and that no fault is passed over.
use Rattle.std.proofs.Common.{◌≡◌, ℕ, ◌+◌, ◌<◌, true, cond, List, [], ◌∷◌, ◌++◌, Some, None, refl, sym, ◌∙◌, ap, subst, inl, inr, arith}
use Rattle.std.specs.Prelude.{Option}
use Rattle.std.specs.Str.{bytes_eq}
use Rattle.std.proofs.lemmas.List.Sums.{sum_by-append}
use Rattle.std.proofs.lemmas.Slice.Eq.{bytes_eq-Decides}
use Rattle.hw_base.specs.declared.endings.Status.{Status}
use Rattle.hw_base.specs.declared.endings.Status.TheVariants as status
use Rattle.hw_base.specs.declared.endings.Status.TheVariants.{WriteFault}
use Rattle.hw_driver.specs.Line.{Line}
use Rattle.hw_driver.specs.Answer.{Decision, FileRead, FilesChange, JudgesText, file_read, file_failed, memory_failed, Decides, SinkChange, Delivers, delivered, out_failed, err_failed, Answers}
use Rattle.hw_driver.specs.Promises.{times, FileRose, HasRead, HasRun, HasItsCause, IsFileOrWriteFault, AnswersRises}
use Rattle.hw_driver.proofs.RunStatuses.{IsRunStatus, runs_status}

-- bytes are equal to themselves
bytes_eq-self : (bs : List ℕ) → bytes_eq bs bs ≡ true
bytes_eq-self bs = (bytes_eq-Decides bs bs).1 refl

-- a name at the end counts once more
pub times-push : (name : List ℕ) (names : List (List ℕ)) → times name (names ++ name ∷ []) ≡ times name names + 1
times-push name names =
    sum_by-append (λ other. cond (bytes_eq other name) 1 0) names (name ∷ []) ∙ ap (λ b. times name names + (0 + cond b 1 0)) (bytes_eq-self name)

-- how a run ended is the cause of its status
run_cause : (words : Option Line) (files : FilesChange) (out err : SinkChange) (s : Status) → IsRunStatus s → HasRun words files s → HasItsCause words files out err s
run_cause words files out err status.Ended h r = r
run_cause words files out err status.Reported h r = r
run_cause words files out err status.BadWords h r = absurd h
run_cause words files out err status.Refused h r = absurd h
run_cause words files out err status.FileFault h r = absurd h
run_cause words files out err status.ReadFault h r = absurd h
run_cause words files out err status.WriteFault h r = absurd h
run_cause words files out err status.Memory h r = absurd h
run_cause words files out err status.Trapped h r = r
run_cause words files out err status.Spent h r = r
run_cause words files out err status.Full h r = r
run_cause words files out err status.Missed h r = absurd h
run_cause words files out err status.Outside h r = absurd h

text_cause : (words : Option Line) (files : FilesChange) (out err : SinkChange) (l : Line) (read : FileRead) (d : Decision)
    → HasRead words files l read → JudgesText l read d → HasItsCause words files out err d.status
text_cause words files out err l read d has (inl r) =
    run_cause words files out err d.status (runs_status l read d r) (record { command = l; read = read; has_read = has; decision = d; runs = r; ending = refl })
text_cause words files out err l read d has (inr r) =
    subst (λ (x : Decision). HasItsCause words files out err x.status) (sym r.decision)
    (record { command = l; read = read; has_read = has; decision = d; refuses = r })

decision_cause : (words : Option Line) (files : FilesChange) (out err : SinkChange) (d : Decision)
    → Decides files words d → HasItsCause words files out err d.status
decision_cause None files out err d decided = subst (λ (x : Decision). HasItsCause None files out err x.status) (sym decided.2) refl
decision_cause (Some l) files out err d (file_read j) = text_cause (Some l) files out err l j.read d (record { line = refl; read_as = j.reads_as }) j.text
decision_cause (Some l) files out err d (file_failed once grown is) =
    subst (λ (x : Decision). HasItsCause (Some l) files out err x.status) (sym is) (rw (grown, times-push l.file files.failed_before) (omega arith))
decision_cause (Some l) files out err d (memory_failed reads same is) = subst (λ (x : Decision). HasItsCause (Some l) files out err x.status) (sym is) tt

delivery_cause : (words : Option Line) (files : FilesChange) (result : Status) (out err : SinkChange) (d : Decision)
    → Decides files words d → Delivers d result out err → HasItsCause words files out err result
delivery_cause words files result out err d decided (delivered is o e) =
    subst (HasItsCause words files out err) (sym is) (decision_cause words files out err d decided)
delivery_cause words files result out err d decided (out_failed is o e) = subst (HasItsCause words files out err) (sym is) (inl o.rose)
delivery_cause words files result out err d decided (err_failed is o e) = subst (HasItsCause words files out err) (sym is) (inr e.rose)

-- each answer has its cause
pub Answers-cause : (words : Option Line) (files : FilesChange) (result : Status) (out err : SinkChange)
    → Answers words files result out err → HasItsCause words files out err result
Answers-cause words files result out err a = delivery_cause words files result out err a.decision a.decided a.delivered

out_rise : (d : Decision) (result : Status) (out err : SinkChange) → Delivers d result out err → out.faults_before < out.faults_after → result ≡ WriteFault
out_rise d result out err (delivered is o e) rose = absurd (omega (arith, o.quiet))
out_rise d result out err (out_failed is o e) rose = is
out_rise d result out err (err_failed is o e) rose = is

err_rise : (d : Decision) (result : Status) (out err : SinkChange) → Delivers d result out err → err.faults_before < err.faults_after → result ≡ WriteFault
err_rise d result out err (delivered is o e) rose = absurd (omega (arith, e.quiet))
err_rise d result out err (out_failed is o e) rose = is
err_rise d result out err (err_failed is o e) rose = is

-- without a failed read of the file its count stays
pub unrisen : (name : List ℕ) (old new : List (List ℕ)) → new ≡ old → times name old < times name new → ⊥
unrisen name old new same rose = let less : times name old < times name old = rw same at rose in omega (arith, less)

file_rise_of : (words : Option Line) (files : FilesChange) (d : Decision)
    → Decides files words d → FileRose words files → IsFileOrWriteFault d.status
file_rise_of None files d decided rose = absurd rose
file_rise_of (Some l) files d (file_read j) rose = absurd (unrisen l.file files.failed_before files.failed_after j.no_fault rose)
file_rise_of (Some l) files d (file_failed once grown is) rose = subst (λ (x : Decision). IsFileOrWriteFault x.status) (sym is) tt
file_rise_of (Some l) files d (memory_failed reads same is) rose = absurd (unrisen l.file files.failed_before files.failed_after same rose)

file_rise : (words : Option Line) (files : FilesChange) (result : Status) (out err : SinkChange) (d : Decision)
    → Decides files words d → Delivers d result out err → FileRose words files → IsFileOrWriteFault result
file_rise words files result out err d decided (delivered is o e) rose = subst IsFileOrWriteFault (sym is) (file_rise_of words files d decided rose)
file_rise words files result out err d decided (out_failed is o e) rose = subst IsFileOrWriteFault (sym is) tt
file_rise words files result out err d decided (err_failed is o e) rose = subst IsFileOrWriteFault (sym is) tt

-- no fault is passed over
pub Answers-rises : (words : Option Line) (files : FilesChange) (result : Status) (out err : SinkChange)
    → Answers words files result out err → AnswersRises words files out err result
Answers-rises words files result out err a = record {
  out_rose = out_rise a.decision result out err a.delivered;
  err_rose = err_rise a.decision result out err a.delivered;
  file_rose = file_rise words files result out err a.decision a.decided a.delivered;
}
