-- What a caller may rely on, sentence by sentence.
use Rattle.std.specs.Prelude.{◌≡◌, ◌⊎◌, ℕ, ◌<◌, List, [], ◌++◌, Option, Some, None, ⊤, count_by}
use Rattle.std.specs.Str.{bytes_eq}
use Rattle.std.specs.Io.KnownBytes.{Appends}
use Rattle.hw_base.specs.declared.endings.Status.{Status}
use Rattle.hw_base.specs.declared.endings.Status.TheVariants.{Ended, Reported, BadWords, Refused, FileFault, WriteFault, Memory, Trapped, Spent, Full}
use Rattle.hw_ports.specs.Causes.{Rose}
use Rattle.hw_ports.specs.Content.{Bytes}
use Rattle.hw_driver.specs.Line.{Line}
use Rattle.hw_driver.specs.Closing.{usage_line, file_fault_line, write_fault_line, memory_line}
use Rattle.hw_driver.specs.Answer.{Decision, FileRead, FilesChange, ReadsNothing, ReadsOnce, ReadsAs, RunsModule, Refuses, JudgesText, SinkChange, TookAll, TookFront, read_of, bad_words_decision}

-- how often a name is among these
abbrev pub times : List ℕ → List (List ℕ) → ℕ
times name names = count_by (λ other. bytes_eq other name) names

-- The count of the files rose: that of the FILE word of an accepted line. Failed reads of other names count for nothing.
abbrev pub FileRose : Option Line → FilesChange → Type 0
FileRose None files = ⊥
FileRose (Some l) files = times l.file files.failed_before < times l.file files.failed_after

-- an accepted line, whose file may be read so
pub record HasRead (words : Option Line) (files : FilesChange) (l : Line) (read : FileRead) : Type 0 where
  pub line : words ≡ Some l
  pub read_as : ReadsAs (files.content l.file) read

-- the cause of a refusal: the line is a command, and the text has a fault or a part that the machine doesn't run
pub record HasBadText (words : Option Line) (files : FilesChange) : Type 0 where
  pub command : Line
  pub read : FileRead
  pub has_read : HasRead words files command read
  pub decision : Decision
  pub refuses : Refuses read decision

-- the cause of how a run ended: the line is a command, and the text comes to a run with this status
pub record HasRun (words : Option Line) (files : FilesChange) (status : Status) : Type 0 where
  pub command : Line
  pub read : FileRead
  pub has_read : HasRead words files command read
  pub decision : Decision
  pub runs : RunsModule command read decision
  pub ending : decision.status ≡ status

-- The cause of each answer.
abbrev pub HasItsCause : Option Line → FilesChange → SinkChange → SinkChange → Status → Type 0
HasItsCause words files out err Ended = HasRun words files Ended
HasItsCause words files out err Reported = HasRun words files Reported
HasItsCause words files out err Trapped = HasRun words files Trapped
HasItsCause words files out err Spent = HasRun words files Spent
HasItsCause words files out err Full = HasRun words files Full
HasItsCause words files out err BadWords = words ≡ None
HasItsCause words files out err Refused = HasBadText words files
HasItsCause words files out err FileFault = FileRose words files
HasItsCause words files out err WriteFault = Rose out.faults_before out.faults_after ⊎ Rose err.faults_before err.faults_after
HasItsCause words files out err Memory = ⊤
HasItsCause words files out err other = ⊥

-- a fault of reading a file, or of writing, was answered
abbrev pub IsFileOrWriteFault : Status → Type 0
IsFileOrWriteFault FileFault = ⊤
IsFileOrWriteFault WriteFault = ⊤
IsFileOrWriteFault other = ⊥

-- Raised counts are answered, those of the sinks first.
pub record AnswersRises (words : Option Line) (files : FilesChange) (out err : SinkChange) (result : Status) : Type 0 where
  pub out_rose : out.faults_before < out.faults_after → result ≡ WriteFault
  pub err_rose : err.faults_before < err.faults_after → result ≡ WriteFault
  pub file_rose : FileRose words files → IsFileOrWriteFault result

-- No count of faults rose, and memory held.
pub record HadNoFault (words : Option Line) (files : FilesChange) (out err : SinkChange) (result : Status) : Type 0 where
  pub no_out_fault : Rose out.faults_before out.faults_after → ⊥
  pub no_err_fault : Rose err.faults_before err.faults_after → ⊥
  pub no_file_fault : FileRose words files → ⊥
  pub memory_held : result ≡ Memory → ⊥

-- just this decision was delivered
pub record Shows (d : Decision) (result : Status) (out err : SinkChange) : Type 0 where
  pub status : result ≡ d.status
  pub output : Appends out.taken_before out.taken_after d.output
  pub text : Appends err.taken_before err.taken_after d.text

-- a text is judged in the one way in which it can be, and just that is delivered
pub record ShowsJudged (l : Line) (read : FileRead) (result : Status) (out err : SinkChange) : Type 0 where
  pub decision : Decision
  pub judged : JudgesText l read decision
  pub only : (other : Decision) → JudgesText l read other → other ≡ decision
  pub shows : Shows decision result out err

-- Without a fault and with enough memory, the answer is that of the words and the text.
pub record IsExact (words : Option Line) (files : FilesChange) (result : Status) (out err : SinkChange) : Type 0 where
  pub bad_words : words ≡ None → Shows bad_words_decision result out err
  pub judged : (l : Line) (bytes : List ℕ) → words ≡ Some l → files.content l.file ≡ Bytes bytes → ShowsJudged l (read_of bytes) result out err

-- What is shown of a text: the run of its module, of which the detection theorem holds for every input, or its refusal.
pub data ShowsModule (l : Line) (read : FileRead) (result : Status) (out err : SinkChange) : Type 0 where
  run_shown : (d : Decision) → RunsModule l read d → Shows d result out err → ShowsModule l read result out err
  refusal_shown : (d : Decision) → Refuses read d → Shows d result out err → ShowsModule l read result out err

-- the sink took all of a text, or a front of it before a fault
abbrev pub TookSome : SinkChange → List ℕ → Type 0
TookSome c text = TookAll c text ⊎ TookFront c text

-- the sink took a front of a text, or all of it
pub record TookPart (c : SinkChange) (text : List ℕ) : Type 0 where
  pub front : List ℕ
  pub rest : List ℕ
  pub whole : text ≡ front ++ rest
  pub taken : Appends c.taken_before c.taken_after front

-- The file of an accepted line is read once, and no other file is. It may be unread only when memory runs out: then `out` took
-- nothing, and `err` the line that says so, or a front of it.
pub record ReadsItsFile (words : Option Line) (files : FilesChange) (out err : SinkChange) (result : Status) : Type 0 where
  pub no_line : words ≡ None → ReadsNothing files
  pub at_most_once : (l : Line) → words ≡ Some l → ReadsNothing files ⊎ ReadsOnce files l.file
  pub once : (l : Line) → words ≡ Some l → (result ≡ Memory → ⊥) → (result ≡ WriteFault → ⊥) → ReadsOnce files l.file
  pub unread : (l : Line) → words ≡ Some l → ReadsNothing files → TookAll out [] × TookSome err memory_line

-- a text is judged, and `out` took a front of the output, or all of it
pub record TookJudged (l : Line) (read : FileRead) (out : SinkChange) : Type 0 where
  pub decision : Decision
  pub judged : JudgesText l read decision
  pub part : TookPart out decision.output

-- With a fault or without memory, the closing line says so as far as `err` takes it, and `out` has no more than a front of the
-- output of the run of the text, of one that is refused nothing.
pub record Closes (words : Option Line) (files : FilesChange) (out err : SinkChange) (result : Status) : Type 0 where
  pub memory : result ≡ Memory → TookAll out [] × TookAll err memory_line
  pub file_fault : result ≡ FileFault → TookAll out [] × TookAll err file_fault_line
  pub out_rose : out.faults_before < out.faults_after → TookSome err write_fault_line
  pub file_rose : FileRose words files → TookAll out [] × TookSome err file_fault_line
  pub no_line : words ≡ None → TookAll out [] × TookSome err usage_line
  pub judged : (l : Line) (bytes : List ℕ) → words ≡ Some l → files.content l.file ≡ Bytes bytes
      → TookAll out [] ⊎ TookJudged l (read_of bytes) out
