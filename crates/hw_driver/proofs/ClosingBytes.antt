-- What the sinks took where a fault came or memory ran out.
use Rattle.std.proofs.Common.{◌≡◌, ℕ, ◌<◌, List, [], length, Some, None, refl, sym, ◌∙◌, ap, subst, inl, inr, arith, length-append, append-nil}
use Rattle.std.specs.Prelude.{Option, ◌⊎◌}
use Rattle.hw_base.specs.declared.endings.Status.{Status}
use Rattle.hw_base.specs.declared.endings.Status.TheVariants.{FileFault, WriteFault, Memory}
use Rattle.hw_ports.specs.Content.{Bytes}
use Rattle.hw_driver.specs.Line.{Line}
use Rattle.hw_driver.specs.Closing.{file_fault_line, write_fault_line, memory_line}
use Rattle.hw_driver.specs.Answer.{Decision, FileRead, FilesChange, read_of, JudgesText, Judges, file_read, file_failed, memory_failed, Decides, SinkChange, TookAll, TookFront, Delivers, delivered, out_failed, err_failed, Answers, bad_words_decision, file_fault_decision, memory_decision}
use Rattle.hw_driver.specs.Promises.{FileRose, TookSome, TookPart, TookJudged, Closes}
use Rattle.hw_driver.proofs.Causes.{unrisen}
use Rattle.hw_driver.proofs.Exactness.{bad_words_decided, command_judged, read_told}
use Rattle.hw_driver.proofs.RunStatuses.{IsRunStatus, runs_status}

-- no front of nothing is short of it
not_short : (c : SinkChange) → TookFront c [] → ⊥
not_short c t = let none = ap length t.whole in omega (arith, t.more, simp length-append at none)

-- a decision without output leaves `out` alone, and `err` took its text or a front of it
pub silent : (d e : Decision) (result : Status) (out err : SinkChange) → d ≡ e → e.output ≡ [] → Delivers d result out err → TookAll out [] × TookSome err e.text
silent d e result out err is none del = go (subst (λ (x : Decision). Delivers x result out err) is del)
  where
    go : Delivers e result out err → TookAll out [] × TookSome err e.text
    go (delivered same o t) = (subst (TookAll out) none o, inl t)
    go (out_failed same o t) = absurd (not_short out (subst (TookFront out) none o))
    go (err_failed same o t) = (subst (TookAll out) none o, inr t)

-- how a text can't be judged
text_no_memory : (l : Line) (read : FileRead) (d : Decision) → JudgesText l read d → d.status ≡ Memory → ⊥
text_no_memory l read d (inl r) is = subst IsRunStatus is (runs_status l read d r)
text_no_memory l read d (inr r) is = let e = ap (λ (x : Decision). x.status) (sym r.decision) ∙ is in cc

text_no_file_fault : (l : Line) (read : FileRead) (d : Decision) → JudgesText l read d → d.status ≡ FileFault → ⊥
text_no_file_fault l read d (inl r) is = subst IsRunStatus is (runs_status l read d r)
text_no_file_fault l read d (inr r) is = let e = ap (λ (x : Decision). x.status) (sym r.decision) ∙ is in cc

memory_decided : (words : Option Line) (files : FilesChange) (d : Decision) → Decides files words d → d.status ≡ Memory → d ≡ memory_decision
memory_decided None files d decided is = let e = ap (λ (x : Decision). x.status) (sym decided.2) ∙ is in cc
memory_decided (Some l) files d (file_read j) is = absurd (text_no_memory l j.read d j.text is)
memory_decided (Some l) files d (file_failed once grown known) is = let e = ap (λ (x : Decision). x.status) (sym known) ∙ is in cc
memory_decided (Some l) files d (memory_failed reads same known) is = known

file_fault_decided : (words : Option Line) (files : FilesChange) (d : Decision) → Decides files words d → d.status ≡ FileFault → d ≡ file_fault_decision
file_fault_decided None files d decided is = let e = ap (λ (x : Decision). x.status) (sym decided.2) ∙ is in cc
file_fault_decided (Some l) files d (file_read j) is = absurd (text_no_file_fault l j.read d j.text is)
file_fault_decided (Some l) files d (file_failed once grown known) is = known
file_fault_decided (Some l) files d (memory_failed reads same known) is = let e = ap (λ (x : Decision). x.status) (sym known) ∙ is in cc

rise_decided : (words : Option Line) (files : FilesChange) (d : Decision) → Decides files words d → FileRose words files → d ≡ file_fault_decision
rise_decided None files d decided rose = absurd rose
rise_decided (Some l) files d (file_read j) rose = absurd (unrisen l.file files.failed_before files.failed_after j.no_fault rose)
rise_decided (Some l) files d (file_failed once grown known) rose = known
rise_decided (Some l) files d (memory_failed reads same known) rose = absurd (unrisen l.file files.failed_before files.failed_after same rose)

-- a delivery that ended with a status other than WriteFault was whole
whole : (d : Decision) (result : Status) (out err : SinkChange) → (result ≡ WriteFault → ⊥) → Delivers d result out err → (result ≡ d.status) × TookAll out d.output × TookAll err d.text
whole d result out err not_so (delivered is o e) = (is, o, e)
whole d result out err not_so (out_failed is o e) = absurd (not_so is)
whole d result out err not_so (err_failed is o e) = absurd (not_so is)

memory_closes : (words : Option Line) (files : FilesChange) (result : Status) (out err : SinkChange) (d : Decision)
    → Decides files words d → Delivers d result out err → result ≡ Memory → TookAll out [] × TookAll err memory_line
memory_closes words files result out err d decided del is =
    let w = whole d result out err (λ (fault : result ≡ WriteFault). wrong fault) del in
    let known = memory_decided words files d decided (sym w.0 ∙ is) in
    (subst (λ (x : Decision). TookAll out x.output) known w.1, subst (λ (x : Decision). TookAll err x.text) known w.2)
  where
    wrong : result ≡ WriteFault → ⊥
    wrong fault = let e = sym is ∙ fault in cc

file_fault_closes : (words : Option Line) (files : FilesChange) (result : Status) (out err : SinkChange) (d : Decision)
    → Decides files words d → Delivers d result out err → result ≡ FileFault → TookAll out [] × TookAll err file_fault_line
file_fault_closes words files result out err d decided del is =
    let w = whole d result out err (λ (fault : result ≡ WriteFault). wrong fault) del in
    let known = file_fault_decided words files d decided (sym w.0 ∙ is) in
    (subst (λ (x : Decision). TookAll out x.output) known w.1, subst (λ (x : Decision). TookAll err x.text) known w.2)
  where
    wrong : result ≡ WriteFault → ⊥
    wrong fault = let e = sym is ∙ fault in cc

out_rise_closes : (d : Decision) (result : Status) (out err : SinkChange) → Delivers d result out err → out.faults_before < out.faults_after → TookSome err write_fault_line
out_rise_closes d result out err (delivered is o e) rise = absurd (omega (arith, o.quiet))
out_rise_closes d result out err (out_failed is o told) rise = told
out_rise_closes d result out err (err_failed is o e) rise = absurd (omega (arith, o.quiet))

-- `out` has a front of what was decided on
part : (d : Decision) (result : Status) (out err : SinkChange) → Delivers d result out err → TookPart out d.output
part d result out err (delivered is o e) = record { front = d.output; rest = []; whole = sym (append-nil d.output); taken = o.taken }
part d result out err (out_failed is o e) = record { front = o.front; rest = o.rest; whole = o.whole; taken = o.taken }
part d result out err (err_failed is o e) = record { front = d.output; rest = []; whole = sym (append-nil d.output); taken = o.taken }

judged_part : (files : FilesChange) (result : Status) (out err : SinkChange) (l : Line) (bytes : List ℕ) (d : Decision)
    → files.content l.file ≡ Bytes bytes → Judges files l d → Delivers d result out err → TookAll out [] ⊎ TookJudged l (read_of bytes) out
judged_part files result out err l bytes d told (file_read j) del = inr (record {
  decision = d;
  judged = subst (λ (x : FileRead). JudgesText l x d) (read_told files.content l.file bytes j.read told j.reads_as) j.text;
  part = part d result out err del;
})
judged_part files result out err l bytes d told (file_failed once grown is) del = inl (silent d file_fault_decision result out err is refl del).0
judged_part files result out err l bytes d told (memory_failed reads same is) del = inl (silent d memory_decision result out err is refl del).0

pub Answers-closes : (words : Option Line) (files : FilesChange) (result : Status) (out err : SinkChange)
    → Answers words files result out err → Closes words files out err result
Answers-closes words files result out err a = record {
  memory = memory_closes words files result out err a.decision a.decided a.delivered;
  file_fault = file_fault_closes words files result out err a.decision a.decided a.delivered;
  out_rose = out_rise_closes a.decision result out err a.delivered;
  file_rose = λ rise. silent a.decision file_fault_decision result out err (rise_decided words files a.decision a.decided rise) refl a.delivered;
  no_line = λ none. silent a.decision bad_words_decision result out err (bad_words_decided words files a.decision none a.decided) refl a.delivered;
  judged = λ l bytes some told. judged_part files result out err l bytes a.decision told
      (command_judged words files a.decision l some a.decided) a.delivered;
}
