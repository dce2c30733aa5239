-- What is under a file's name, and what a read of it gives.
use Rattle.std.specs.Prelude.{◌≡◌, ◌⊎◌, ℕ, ◌<◌, ◌≤◌, List, [], ◌∷◌, ◌++◌, length, Result, Ok, Err, ⊤}
use Rattle.hw_ports.specs.declared.ports.FileText.{FileText}
use Rattle.hw_ports.specs.declared.ports.FileText.TheVariants.{Whole, Longer}
use Rattle.hw_ports.specs.declared.ports.FileError.{FileError}
use Rattle.hw_ports.specs.declared.ports.FileError.TheVariants.{Failed, OutOfMemory}

-- what is under a name
pub data Content : Type 0 where
  Unobservable : Content
  Absent : Content
  Bytes : List ℕ → Content

-- What a read of at most `limit` bytes gives of bytes when it doesn't fail: all of them, or word that there are more.
abbrev pub GivesText : List ℕ → ℕ → FileText → List ℕ → Type 0
GivesText bytes limit Whole into = (into ≡ bytes) × (length bytes ≤ limit)
GivesText bytes limit Longer into = limit < length bytes

-- What a read of a name gives: it fails when there is nothing under it.
abbrev pub Reads : Content → ℕ → Result FileText FileError → List ℕ → Type 0
Reads Unobservable limit result into = ⊤
Reads Absent limit (Ok text) into = ⊥
Reads Absent limit (Err error) into = ⊤
Reads (Bytes bytes) limit (Ok text) into = GivesText bytes limit text into
Reads (Bytes bytes) limit (Err error) into = ⊤

-- A read adds its name to the names of reads, once. One that ends because memory ran out may add none: then nothing was read.
abbrev pub AddsRead : {T : Type 0} → Result T FileError → List (List ℕ) → List (List ℕ) → List ℕ → Type 0
AddsRead (Ok text) old new name = new ≡ old ++ name ∷ []
AddsRead (Err Failed) old new name = new ≡ old ++ name ∷ []
AddsRead (Err OutOfMemory) old new name = (new ≡ old) ⊎ (new ≡ old ++ name ∷ [])

-- the names of failed reads after a read
abbrev pub failed_after : {T : Type 0} → Result T FileError → List (List ℕ) → List ℕ → List (List ℕ)
failed_after (Ok text) names name = names
failed_after (Err Failed) names name = names ++ name ∷ []
failed_after (Err OutOfMemory) names name = names
