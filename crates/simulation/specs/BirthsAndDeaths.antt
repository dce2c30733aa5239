-- Both sides after a birth or a death: what all tasks share in the source with its story, and in the machine.
use Rattle.std.specs.Prelude.{◌≡◌, ℕ, ◌+◌, List, [], ◌∷◌, ◌++◌, Result, Ok, Err}
use Rattle.dbg_sites.specs.ChainTable.{ChainEntry}
use Rattle.hw_base.specs.declared.endings.Full.{Full}
use Rattle.hw_base.specs.declared.pointers.Site.{Site}
use Rattle.ir_meaning.specs.Births.{Region, fresh_birth, after_death}
use Rattle.stack_tags.specs.FrameSteps.{StacksAfter}
use Rattle.tag_alloc.specs.HeapSteps.{AfterBirth, AfterDeath}
use Rattle.tag_story.specs.Story.{Story}
use Rattle.tag_story.specs.ToldRun.{ToldShared}
use Rattle.ir_machine.specs.State.{MachineShared}
use Rattle.simulation.specs.Parts.{IsChain}

-- chains keep their numbers
abbrev pub ChainsStay : (table after : List ChainEntry) → Type 0
ChainsStay table after = (number : ℕ) (chain : List Site) → IsChain table number chain → IsChain after number chain

-- ---- the source with its story

abbrev pub told_born : ToldShared → Region → (task : ℕ) → List Site → (sizes : List ℕ) → Story → ToldShared
told_born t region task chain sizes story =
    record { source = record t.source { births = t.source.births ++ fresh_birth region task chain sizes ∷ [] }; story = story }

abbrev pub told_died : ToldShared → (number task : ℕ) → List Site → Story → ToldShared
told_died t number task chain story =
    record { source = record t.source { births = after_death t.source.births number task chain }; story = story }

-- ---- the machine

abbrev pub block_born : MachineShared → AfterBirth → MachineShared
block_born m after = record m { heap = after.heap; memory = after.space; births = m.births + 1; drawn = m.drawn + 1 }

abbrev pub block_died : MachineShared → AfterDeath → MachineShared
block_died m after = record m { heap = after.heap; memory = after.space; drawn = m.drawn + 1 }

abbrev pub frame_left : MachineShared → StacksAfter → MachineShared
frame_left m after = record m { memory = after.space; stacks = after.stacks }

-- ---- births

-- both sides go on and are related so, or both are full with the same numbers
abbrev pub AreBorn : {After : Type 0} → (Story → After → Type 0) → Result Story Full → Result After Full → Type 0
AreBorn Related (Ok story) (Ok after) = Related story after
AreBorn Related (Ok story) (Err full) = ⊥
AreBorn Related (Err full) (Ok after) = ⊥
AreBorn Related (Err full) (Err other) = other ≡ full
