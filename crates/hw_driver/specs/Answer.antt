-- What the program decides on by the words and the file, and how it delivers that.
use Rattle.std.specs.Prelude.{◌≡◌, ◌⊎◌, ℕ, ◌<◌, ◌≤◌, nat_le, List, [], ◌∷◌, ◌++◌, length, Option, Some, None, ⊤, if◌then◌else◌}
use Rattle.std.specs.Io.KnownBytes.{Appends}
use Rattle.hw_base.specs.declared.numbers.TheConstants.{MOST_TEXT}
use Rattle.hw_base.specs.declared.endings.Status.{Status}
use Rattle.hw_base.specs.declared.endings.Status.TheVariants.{BadWords, Refused, FileFault, WriteFault, Memory}
use Rattle.hw_ports.specs.declared.ports.FileText.{FileText}
use Rattle.hw_ports.specs.declared.ports.FileText.TheVariants as file_text
use Rattle.hw_ports.specs.Causes.{Rose}
use Rattle.hw_ports.specs.Content.{Content, Unobservable, Absent, Bytes}
use Rattle.hw_tags.specs.Word.{word}
use Rattle.hw_tags.specs.declared.options.Options.{Options}
use Rattle.hw_tags.specs.declared.words_spec.WordsSpec.{WordsSpec}
use Rattle.hw_tags.specs.declared.words_spec.WordsSpec.TheVariants.{Seed}
use Rattle.ir_core.specs.declared.faults.Fault.TheVariants.{TooLarge}
use Rattle.ir_core.specs.declared.faults.Limit.TheVariants.{Text}
use Rattle.ir_core.specs.declared.ir_module.Module.{Module}
use Rattle.ir_core.specs.declared.refusals.Refusal.{Refusal}
use Rattle.ir_core.specs.Refusals.{refused_line}
use Rattle.ir_accept.specs.Accepted.{IsAcceptedAs, IsFaulty}
use Rattle.built_rows.specs.Unbuilt.{unbuilt}
use Rattle.ir_machine.specs.Runs.{run_of, setting_of}
use Rattle.accepted_detection.specs.AcceptedRuns.{DetectsAlways}
use Rattle.hw_run.specs.RunEnds.{IsGathered}
use Rattle.hw_run.specs.declared.ends.Gathered.{Gathered}
use Rattle.hw_driver.specs.declared.options.TheConstants.{STEPS, HEAP, RING}
use Rattle.hw_driver.specs.Line.{Line}
use Rattle.hw_driver.specs.Closing.{usage_line, file_fault_line, write_fault_line, memory_line}

-- a status, what is written to `out`, and the closing text
pub record Decision : Type 0 where
  pub status : Status
  pub output : List ℕ
  pub text : List ℕ

-- the bytes of a file of at most `MOST_TEXT` bytes, or word that it is longer
pub data FileRead : Type 0 where
  Whole : List ℕ → FileRead
  TooLong : FileRead

-- a text that was read, by what the read returned
abbrev pub seen : FileText → List ℕ → FileRead
seen file_text.Whole text = Whole text
seen file_text.Longer text = TooLong

-- how a file of these bytes is read
abbrev pub read_of : List ℕ → FileRead
read_of bytes = if nat_le (length bytes) MOST_TEXT then Whole bytes else TooLong

-- a file with this content may be read so
abbrev pub ReadsAs : Content → FileRead → Type 0
ReadsAs Unobservable read = ⊤
ReadsAs Absent read = ⊥
ReadsAs (Bytes bytes) read = read ≡ read_of bytes

-- ---- options

-- the tag words: those that are given, or else those of seed 1
abbrev pub tag_words : Option WordsSpec → WordsSpec
tag_words None = Seed 1
tag_words (Some words) = words

-- the bound on the steps, by default the constant
abbrev pub steps_or : Option ℕ → ℕ
steps_or None = STEPS
steps_or (Some steps) = steps

abbrev pub bound_under : Line → ℕ
bound_under l = steps_or l.given.steps

-- how many ended frames and freed blocks a task remembers, by default the constant
abbrev pub ring_or : Option ℕ → ℕ
ring_or None = RING
ring_or (Some ring) = ring

-- the size of the heap in bytes, by default the constant
abbrev pub heap_or : Option ℕ → ℕ
heap_or None = HEAP
heap_or (Some heap) = heap

-- the options of a run under a command
pub record IsOptionsOf (l : Line) (options : Options) : Type 0 where
  pub tags : options.tags ≡ tag_words l.given.tags
  pub turns : options.turns ≡ Seed 1
  pub steps : options.steps ≡ bound_under l
  pub heap : options.heap ≡ heap_or l.given.heap
  pub ring : options.ring ≡ ring_or l.given.ring

-- ---- decisions

abbrev pub bad_words_decision : Decision
bad_words_decision = record { status = BadWords; output = []; text = usage_line }

abbrev pub file_fault_decision : Decision
file_fault_decision = record { status = FileFault; output = []; text = file_fault_line }

abbrev pub memory_decision : Decision
memory_decision = record { status = Memory; output = []; text = memory_line }

abbrev pub refused_decision : Refusal → Decision
refused_decision refusal = record { status = Refused; output = []; text = refused_line refusal }

-- a text of more than the most bytes
abbrev pub too_long : Refusal
too_long = record { fault = TooLarge Text; line = 1; column = 1 }

-- ---- texts

-- the text is accepted, this is its module, and the machine runs all of it
abbrev pub IsRun : FileRead → Module → Type 0
IsRun (Whole text) m = IsAcceptedAs text m × (unbuilt m ≡ None)
IsRun TooLong m = ⊥

-- the text has a fault, or a part that the machine doesn't run
abbrev pub IsRefused : FileRead → Refusal → Type 0
IsRefused (Whole text) refusal = IsFaulty text refusal ⊎ ((m : Module) × IsAcceptedAs text m × (unbuilt m ≡ Some refusal))
IsRefused TooLong refusal = refusal ≡ too_long

abbrev pub gathered_of : Decision → Gathered
gathered_of d = record { output = d.output; status = d.status; text = d.text }

-- A module comes to its run under the options of the command, whatever the input is; and the detection theorem holds of that run,
-- whatever the input is.
pub record IsRunOf (l : Line) (m : Module) (d : Decision) : Type 0 where
  pub options : Options
  pub options_right : IsOptionsOf l options
  pub decision : (input : List ℕ) → IsGathered m options.steps (run_of m options input) (gathered_of d)
  pub detects : (input : List ℕ) → DetectsAlways (setting_of m options input) (word options.turns) options.steps

-- what an accepted module comes to: its run, or the refusal of a part that the machine doesn't run
abbrev pub JudgesModule : Line → Module → Decision → Type 0
JudgesModule l m d = ((unbuilt m ≡ None) × IsRunOf l m d) ⊎ ((refusal : Refusal) × (unbuilt m ≡ Some refusal) × (d ≡ refused_decision refusal))

-- a text that is accepted comes to the run of its module
pub record RunsModule (l : Line) (read : FileRead) (d : Decision) : Type 0 where
  pub m : Module
  pub accepted : IsRun read m
  pub run : IsRunOf l m d

-- a text is refused
pub record Refuses (read : FileRead) (d : Decision) : Type 0 where
  pub refusal : Refusal
  pub refused : IsRefused read refusal
  pub decision : d ≡ refused_decision refusal

-- What a command and a text that was read come to.
abbrev pub JudgesText : Line → FileRead → Decision → Type 0
JudgesText l read d = RunsModule l read d ⊎ Refuses read d

-- what a call did to the files: what is under each name, and the names of the reads and of the failed reads, before and after
pub record FilesChange : Type 0 where
  pub content : List ℕ → Content
  pub reads_before : List (List ℕ)
  pub reads_after : List (List ℕ)
  pub failed_before : List (List ℕ)
  pub failed_after : List (List ℕ)

abbrev pub files_change : {F : Type 0} → (F → List ℕ → Content) → (reads failed : F → List (List ℕ)) → F → F → FilesChange
files_change content reads failed before after = record {
  content = content before;
  reads_before = reads before;
  reads_after = reads after;
  failed_before = failed before;
  failed_after = failed after;
}

-- no file was read
abbrev pub ReadsNothing : FilesChange → Type 0
ReadsNothing files = files.reads_after ≡ files.reads_before

-- the file of this name was read once, and no other
abbrev pub ReadsOnce : FilesChange → List ℕ → Type 0
ReadsOnce files name = files.reads_after ≡ files.reads_before ++ name ∷ []

-- no read failed
abbrev pub NoReadFailed : FilesChange → Type 0
NoReadFailed files = files.failed_after ≡ files.failed_before

-- one read failed, that of this name
abbrev pub OneReadFailed : FilesChange → List ℕ → Type 0
OneReadFailed files name = files.failed_after ≡ files.failed_before ++ name ∷ []

-- What a command and a file that was read come to.
pub record JudgesFile (files : FilesChange) (l : Line) (d : Decision) : Type 0 where
  pub read : FileRead
  pub reads_as : ReadsAs (files.content l.file) read
  pub text : JudgesText l read d
  pub once : ReadsOnce files l.file
  pub no_fault : NoReadFailed files

-- What a command comes to. When memory runs out the file may be unread.
pub data Judges (files : FilesChange) (l : Line) (d : Decision) : Type 0 where
  file_read : JudgesFile files l d → Judges files l d
  file_failed : ReadsOnce files l.file → OneReadFailed files l.file → d ≡ file_fault_decision → Judges files l d
  memory_failed : ReadsNothing files ⊎ ReadsOnce files l.file → NoReadFailed files → d ≡ memory_decision → Judges files l d

-- What the words come to: words that are no command are answered by the usage line.
abbrev pub Decides : FilesChange → Option Line → Decision → Type 0
Decides files None d = ReadsNothing files × NoReadFailed files × (d ≡ bad_words_decision)
Decides files (Some l) d = Judges files l d

-- what a call did to a sink: the bytes that it took, if they are observable, and its count of faults
pub record SinkChange : Type 0 where
  pub taken_before : Option (List ℕ)
  pub taken_after : Option (List ℕ)
  pub faults_before : ℕ
  pub faults_after : ℕ

abbrev pub sink_change : {S : Type 0} → (S → Option (List ℕ)) → (S → ℕ) → S → S → SinkChange
sink_change taken faults before after =
    record { taken_before = taken before; taken_after = taken after; faults_before = faults before; faults_after = faults after }

-- the sink took this text, and no fault came
pub record TookAll (c : SinkChange) (text : List ℕ) : Type 0 where
  pub taken : Appends c.taken_before c.taken_after text
  pub quiet : c.faults_after ≡ c.faults_before

-- the sink took a front of this text but not all, and then a fault came
pub record TookFront (c : SinkChange) (text : List ℕ) : Type 0 where
  pub front : List ℕ
  pub rest : List ℕ
  pub whole : text ≡ front ++ rest
  pub more : 0 < length rest
  pub taken : Appends c.taken_before c.taken_after front
  pub later : c.faults_before ≤ c.faults_after
  pub rose : Rose c.faults_before c.faults_after

-- How a decision is delivered: the output goes to `out`, then the closing text to `err`. A fault of `out` is reported on `err`;
-- after a fault nothing more is written to that port.
pub data Delivers (d : Decision) (result : Status) (out err : SinkChange) : Type 0 where
  delivered : result ≡ d.status → TookAll out d.output → TookAll err d.text → Delivers d result out err
  out_failed : result ≡ WriteFault → TookFront out d.output → (TookAll err write_fault_line ⊎ TookFront err write_fault_line) → Delivers d result out err
  err_failed : result ≡ WriteFault → TookAll out d.output → TookFront err d.text → Delivers d result out err

-- The whole answer: a decision, and its delivery.
pub record Answers (words : Option Line) (files : FilesChange) (result : Status) (out err : SinkChange) : Type 0 where
  pub decision : Decision
  pub decided : Decides files words decision
  pub delivered : Delivers decision result out err
