-- What was read.
use Rattle.std.proofs.Common.{◌≡◌, ℕ, ◌+◌, List, [], ◌∷◌, ◌++◌, length, Some, None, refl, sym, ◌∙◌, ap, inl, inr, arith, length-append}
use Rattle.std.specs.Prelude.{Option, ◌⊎◌}
use Rattle.hw_base.specs.declared.endings.Status.{Status}
use Rattle.hw_base.specs.declared.endings.Status.TheVariants.{WriteFault, Memory}
use Rattle.hw_driver.specs.Line.{Line}
use Rattle.hw_driver.specs.Closing.{memory_line}
use Rattle.hw_driver.specs.Answer.{Decision, FilesChange, ReadsNothing, ReadsOnce, Judges, file_read, file_failed, memory_failed, Decides, SinkChange, TookAll, Delivers, delivered, out_failed, err_failed, Answers, memory_decision}
use Rattle.hw_driver.specs.Promises.{TookSome, ReadsItsFile}
use Rattle.hw_driver.proofs.Exactness.{command_judged}
use Rattle.hw_driver.proofs.ClosingBytes.{silent}

-- no list is itself with a name after it
not_longer : (names : List (List ℕ)) (name : List ℕ) → names ≡ names ++ name ∷ [] → ⊥
not_longer names name e = let size : length names ≡ length names + 1 = ap length e ∙ length-append names (name ∷ []) in omega arith

-- a file that wasn't read, since memory ran out
pub record Unread (files : FilesChange) (d : Decision) : Type 0 where
  pub nothing : ReadsNothing files
  pub memory : d ≡ memory_decision

judged_reads : (files : FilesChange) (l : Line) (d : Decision) → Judges files l d → Unread files d ⊎ ReadsOnce files l.file
judged_reads files l d (file_read j) = inr j.once
judged_reads files l d (file_failed once grown is) = inr once
judged_reads files l d (memory_failed (inl nothing) same is) = inl (record { nothing = nothing; memory = is })
judged_reads files l d (memory_failed (inr once) same is) = inr once

no_line_reads : (words : Option Line) (files : FilesChange) (d : Decision) → words ≡ None → Decides files words d → ReadsNothing files
no_line_reads None files d none decided = decided.0
no_line_reads (Some l) files d none decided = cc

at_most : (files : FilesChange) (l : Line) (d : Decision) → Unread files d ⊎ ReadsOnce files l.file → ReadsNothing files ⊎ ReadsOnce files l.file
at_most files l d (inl unread) = inl unread.nothing
at_most files l d (inr once) = inr once

-- how a delivery of the decision that memory ran out ends
memory_status : (d : Decision) (result : Status) (out err : SinkChange) → d ≡ memory_decision → Delivers d result out err → (result ≡ Memory → ⊥) → (result ≡ WriteFault → ⊥) → ⊥
memory_status d result out err memory (delivered is o e) held quiet = held (is ∙ ap (λ (x : Decision). x.status) memory)
memory_status d result out err memory (out_failed is o e) held quiet = quiet is
memory_status d result out err memory (err_failed is o e) held quiet = quiet is

read_once : (files : FilesChange) (l : Line) (d : Decision) (result : Status) (out err : SinkChange) → Unread files d ⊎ ReadsOnce files l.file → Delivers d result out err
    → (result ≡ Memory → ⊥) → (result ≡ WriteFault → ⊥) → ReadsOnce files l.file
read_once files l d result out err (inl unread) del held quiet = absurd (memory_status d result out err unread.memory del held quiet)
read_once files l d result out err (inr once) del held quiet = once

unread_silent : (files : FilesChange) (l : Line) (d : Decision) (result : Status) (out err : SinkChange) → Unread files d ⊎ ReadsOnce files l.file → Delivers d result out err
    → ReadsNothing files → TookAll out [] × TookSome err memory_line
unread_silent files l d result out err (inl unread) del nothing = silent d memory_decision result out err unread.memory refl del
unread_silent files l d result out err (inr once) del nothing = absurd (not_longer files.reads_before l.file (sym nothing ∙ once))

pub Answers-reads : (words : Option Line) (files : FilesChange) (result : Status) (out err : SinkChange) → Answers words files result out err → ReadsItsFile words files out err result
Answers-reads words files result out err a =
    let reads : (l : Line) → words ≡ Some l → Unread files a.decision ⊎ ReadsOnce files l.file =
    λ l some. judged_reads files l a.decision (command_judged words files a.decision l some a.decided) in
    record {
      no_line = λ none. no_line_reads words files a.decision none a.decided;
      at_most_once = λ l some. at_most files l a.decision (reads l some);
      once = λ l some held quiet. read_once files l a.decision result out err (reads l some) a.delivered held quiet;
      unread = λ l some nothing. unread_silent files l a.decision result out err (reads l some) a.delivered nothing;
    }
