-- Without a fault and with enough memory, the answer is that of the words and the text.
use Rattle.std.proofs.Common.{◌≡◌, ℕ, List, Some, None, ◌∙◌, ap, subst, inl, inr, arith}
use Rattle.std.specs.Prelude.{Option}
use Rattle.hw_base.specs.declared.endings.Status.{Status}
use Rattle.hw_base.specs.declared.endings.Status.TheVariants.{Memory}
use Rattle.hw_ports.specs.Content.{Content, Bytes}
use Rattle.hw_driver.specs.Line.{Line}
use Rattle.hw_driver.specs.Answer.{Decision, FileRead, FilesChange, OneReadFailed, ReadsAs, read_of, JudgesText, JudgesFile, Judges, file_read, file_failed, memory_failed, Decides, SinkChange, Delivers, delivered, out_failed, err_failed, Answers, bad_words_decision}
use Rattle.hw_driver.specs.Promises.{FileRose, HadNoFault, Shows, ShowsJudged, ShowsModule, run_shown, refusal_shown, IsExact}
use Rattle.hw_driver.proofs.Causes.{times-push}
use Rattle.hw_driver.proofs.OneDecision.{one_decision}

-- without a fault the decision is delivered whole
shown : (words : Option Line) (files : FilesChange) (d : Decision) (result : Status) (out err : SinkChange) → Delivers d result out err → HadNoFault words files out err result → Shows d result out err
shown words files d result out err (delivered is o e) h = record { status = is; output = o.taken; text = e.taken }
shown words files d result out err (out_failed is o e) h = absurd (h.no_out_fault o.rose)
shown words files d result out err (err_failed is o e) h = absurd (h.no_err_fault e.rose)

-- words that are no command are answered as such
pub bad_words_decided : (words : Option Line) (files : FilesChange) (d : Decision) → words ≡ None → Decides files words d → d ≡ bad_words_decision
bad_words_decided None files d none decided = decided.2
bad_words_decided (Some l) files d none decided = cc

-- a command is judged
pub command_judged : (words : Option Line) (files : FilesChange) (d : Decision) (l : Line) → words ≡ Some l → Decides files words d → Judges files l d
command_judged None files d l some decided = cc
command_judged (Some k) files d l some decided = let same : k ≡ l = cc in subst (λ (x : Line). Judges files x d) same decided

-- a rise of the count, where the read of the file failed
pub rose : (l : Line) (files : FilesChange) → OneReadFailed files l.file → FileRose (Some l) files
rose l files grown = rw (grown, times-push l.file files.failed_before) (omega arith)

-- without a failed read and with enough memory, the file was read
was_read : (files : FilesChange) (l : Line) (d : Decision) → (FileRose (Some l) files → ⊥) → (d.status ≡ Memory → ⊥) → Judges files l d → JudgesFile files l d
was_read files l d no_rise held (file_read j) = j
was_read files l d no_rise held (file_failed once grown is) = absurd (no_rise (rose l files grown))
was_read files l d no_rise held (memory_failed reads same is) = absurd (held (ap (λ (x : Decision). x.status) is))

-- an observable text is read as it is
pub read_told : (content : List ℕ → Content) (file bytes : List ℕ) (read : FileRead) → content file ≡ Bytes bytes → ReadsAs (content file) read → read ≡ read_of bytes
read_told content file bytes read told reads = rw told at reads

-- a command whose text is observable: the file was read, and the text is that one
told_text : (words : Option Line) (files : FilesChange) (result : Status) (out err : SinkChange) (d : Decision) (l : Line) (bytes : List ℕ)
    → words ≡ Some l → files.content l.file ≡ Bytes bytes → HadNoFault words files out err result → result ≡ d.status → Decides files words d → JudgesText l (read_of bytes) d
told_text words files result out err d l bytes some told h is decided =
    let no_rise : FileRose (Some l) files → ⊥ = rw some at h.no_file_fault in
    let j = was_read files l d no_rise (λ full. h.memory_held (is ∙ full)) (command_judged words files d l some decided) in
    subst (λ (x : FileRead). JudgesText l x d) (read_told files.content l.file bytes j.read told j.reads_as) j.text

pub Answers-exact : (words : Option Line) (files : FilesChange) (result : Status) (out err : SinkChange)
    → Answers words files result out err → HadNoFault words files out err result → IsExact words files result out err
Answers-exact words files result out err a h =
    let all = shown words files a.decision result out err a.delivered h in
    record {
      bad_words = λ none. subst (λ (x : Decision). Shows x result out err) (bad_words_decided words files a.decision none a.decided) all;
      judged = λ l bytes some told. record {
        decision = a.decision;
        judged = told_text words files result out err a.decision l bytes some told h all.status a.decided;
        only = λ other judged. one_decision l (read_of bytes) other a.decision judged (told_text words files result out err a.decision l bytes some told h all.status a.decided);
        shows = all;
      };
    }

-- a text comes to the run of its module, or is refused
pub judged-module : (l : Line) (read : FileRead) (result : Status) (out err : SinkChange) → ShowsJudged l read result out err → ShowsModule l read result out err
judged-module l read result out err s = by_judgement s.decision s.judged s.shows
  where
    by_judgement : (d : Decision) → JudgesText l read d → Shows d result out err → ShowsModule l read result out err
    by_judgement d (inl r) h = run_shown d r h
    by_judgement d (inr r) h = refusal_shown d r h
