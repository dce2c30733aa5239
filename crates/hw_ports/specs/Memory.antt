-- Ports over memory: what they hold, and what a call does.
use Rattle.std.specs.Prelude.{ℕ, ◌-◌, min, List, ◌++◌, length, take, drop, if◌then◌else◌, ◌==◌, ◌||◌, Bool, IsTrue, Some, None, is_none, find}
use Rattle.std.specs.Str.{bytes_eq}
use Rattle.std.specs.declared.option.Option.{Option}
use Rattle.hw_ports.specs.Calls.{is_listed, one_more}
use Rattle.hw_ports.specs.Content.{Content, Absent, Bytes}
use Rattle.hw_ports.specs.declared.stored_file.StoredFile.{StoredFile}

-- input that never fails: the bytes that are left, and the most bytes of a read
pub record PiecesState : Type 0 where
  pub left : List ℕ
  pub piece : ℕ

-- input: the bytes that are left, the most bytes of a read, the reads that fail, and how many reads and faults there were
pub record SourceState : Type 0 where
  pub left : List ℕ
  pub piece : ℕ
  pub failing : List ℕ
  pub calls : ℕ
  pub faults : ℕ

-- the next read is listed
abbrev pub SourceFails : SourceState → Type 0
SourceFails s = IsTrue (is_listed s.failing (one_more s.calls))

-- how many bytes the next read into so much room gives, if it doesn't fail
abbrev pub source_count : SourceState → ℕ → ℕ
source_count s room = min room (min s.piece (length s.left))

-- what is there after a read into so much room; a read into none is no read
abbrev pub source_after : SourceState → ℕ → SourceState
source_after s room =
    if room == 0 then s
    else (if is_listed s.failing (one_more s.calls) then record s { calls = one_more s.calls; faults = one_more s.faults }
    else record s { calls = one_more s.calls; left = drop (source_count s room) s.left })

-- output: the bytes that were taken, how many there is room for, the most bytes of a write, the writes that fail, and
-- how many writes and faults there were
pub record SinkState : Type 0 where
  pub taken : List ℕ
  pub room : ℕ
  pub piece : ℕ
  pub failing : List ℕ
  pub calls : ℕ
  pub faults : ℕ

-- the room is used up, or the next write is listed
abbrev pub sink_fails : SinkState → Bool
sink_fails s = (s.room - length s.taken == 0) || is_listed s.failing (one_more s.calls)

abbrev pub SinkFails : SinkState → Type 0
SinkFails s = IsTrue (sink_fails s)

-- how many bytes of a piece of so many the next write takes, if it doesn't fail
abbrev pub sink_count : SinkState → ℕ → ℕ
sink_count s size = min size (min (s.room - length s.taken) s.piece)

-- what is there after a write of a piece; a write of an empty one is no write
abbrev pub sink_after : SinkState → List ℕ → SinkState
sink_after s bytes =
    if length bytes == 0 then s
    else (if sink_fails s then record s { calls = one_more s.calls; faults = one_more s.faults }
    else record s { calls = one_more s.calls; taken = s.taken ++ take (sink_count s (length bytes)) bytes })

-- the first file of a name
abbrev pub first_of : List StoredFile → List ℕ → Option StoredFile
first_of files name = find (λ file. bytes_eq file.name name) files

-- what is under a name: the text of the first file of that name
abbrev pub content_of : Option StoredFile → Content
content_of None = Absent
content_of (Some file) = Bytes file.text

abbrev pub content_in : List StoredFile → List ℕ → Content
content_in files name = content_of (first_of files name)

-- files by their names: the names that were read, those whose reads failed, the reads that fail, and how many reads there were
pub record FilesState : Type 0 where
  pub files : List StoredFile
  pub reads : List (List ℕ)
  pub failed : List (List ℕ)
  pub failing : List ℕ
  pub calls : ℕ

-- nothing is under the name, or the next read is listed
abbrev pub FileFails : FilesState → List ℕ → Type 0
FileFails f name = IsTrue (is_listed f.failing (one_more f.calls) || is_none (first_of f.files name))
