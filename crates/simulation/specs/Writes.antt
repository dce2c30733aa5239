-- Both sides after bytes were written: the source's objects, and the machine's memory.
use Rattle.std.specs.Prelude.{◌≡◌, ℕ, List, slice_get, Some}
use Rattle.hw_base.specs.declared.pointers.Base.{Base}
use Rattle.ir_machine.specs.State.{MachineShared}
use Rattle.ir_meaning.specs.Births.{put_bytes}
use Rattle.ir_meaning.specs.Values.{SourceByte}
use Rattle.tag_story.specs.Story.{StoryBirth}
use Rattle.tag_story.specs.ToldRun.{ToldShared}
use Rattle.tbi_memory.specs.AddressSpace.{with_bytes}
use Rattle.simulation.specs.Parts.{IsKnownByte}

-- all bytes are known: each piece is one of a pointer into an object that was born
abbrev pub AreKnown : List StoryBirth → List SourceByte → Type 0
AreKnown births bytes = (i : ℕ) (byte : SourceByte) → slice_get bytes i ≡ Some byte → IsKnownByte births byte

-- the source after bytes were written
abbrev pub put_told : ToldShared → Base → (off : ℕ) → List SourceByte → ToldShared
put_told t base off bytes = record t { source = record t.source { births = put_bytes t.source.births base off bytes } }

-- the machine after numbers were written
abbrev pub put_memory : MachineShared → (address : ℕ) → List ℕ → MachineShared
put_memory m address numbers = record m { memory = with_bytes m.memory address numbers }
