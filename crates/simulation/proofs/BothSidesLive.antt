-- Births and deaths keep the relation, by the machine's own tables.
use Rattle.std.proofs.Common.{◌≡◌, ℕ, ◌+◌, ◌-◌, ◌<◌, ◌≤◌, Bool, true, false, nat_le, if◌then◌else◌, List, [], ◌∷◌, slice_get, slice_set, unwrap_or, Option, Some, None, Result, Ok, Err, refl, sym, ◌∙◌, ap, subst}
use Rattle.std.proofs.lemmas.Bool.{leb-true}
use Rattle.dbg_sites.specs.ChainTable.{ChainEntry, IsChainTable}
use Rattle.hw_base.specs.AddressMap.{frame_size}
use Rattle.hw_base.specs.declared.endings.Full.{Full}
use Rattle.hw_base.specs.declared.endings.Space.TheVariants.{Heap as HeapSpace, Stack as StackSpace}
use Rattle.hw_base.specs.declared.pointers.Site.{Site}
use Rattle.hw_tags.specs.Tag.{heap_tag_of}
use Rattle.ir_machine.specs.CallSteps.{with_variables}
use Rattle.ir_machine.specs.State.{MachineSetting, MachineShared}
use Rattle.ir_meaning.specs.Births.{Region, Heap, Stack}
use Rattle.ir_meaning.specs.State.{Born, Died}
use Rattle.stack_tags.specs.FrameSteps as frames
use Rattle.stack_tags.specs.FrameSteps.{StacksAfter, entered, left}
use Rattle.stack_tags.specs.Frames as stacks
use Rattle.stack_tags.specs.Frames.{LivingFrame, TaskFrames}
use Rattle.tag_alloc.specs.HeapBlocks as heap
use Rattle.tag_alloc.specs.HeapSteps as steps
use Rattle.tag_alloc.specs.HeapSteps.{AfterBirth, allocated}
use Rattle.tag_alloc.specs.declared.blocks.Block.{Block}
use Rattle.tag_story.specs.Story.{StorySetting, Story, OpenFrame}
use Rattle.tag_story.specs.Telling as telling
use Rattle.tag_story.specs.Telling.{told, block_by, place_of_block, stack_size, lowest}
use Rattle.tag_story.specs.ToldRun.{ToldShared}
use Rattle.simulation.proofs.BlockBorn as births
use Rattle.simulation.proofs.BlockBorn.{block-born}
use Rattle.simulation.proofs.BlockFreed.{block-freed}
use Rattle.simulation.proofs.BlockSpans.{place-same}
use Rattle.simulation.proofs.FrameEntered.{top-same, living-same, frame-entered}
use Rattle.simulation.proofs.FrameLeft as leaving
use Rattle.simulation.proofs.FrameLeft.{frame-left}
use Rattle.simulation.specs.BirthsAndDeaths.{ChainsStay, told_born, told_died, block_born, block_died, frame_left, AreBorn}
use Rattle.simulation.specs.Parts.{IsChain, AreEach, IsFrameOf, frames_of_task}
use Rattle.simulation.specs.Relation.{IsSetting, SharedRelated, story_setting}

module _ (setting : MachineSetting) (t : ToldShared) (m : MachineShared) (is : IsSetting setting) (related : SharedRelated setting t m) (task : ℕ) (chain : List Site) (number : ℕ)
    (known : IsChain m.chains number chain) where
  abbrev table : List ChainEntry
  table = m.chains

  chains : ChainsStay m.chains table
  chains other sites h = h

  is_table : IsChainTable table
  is_table = related.table

  abbrev e : StorySetting
  e = story_setting setting

  -- ---- a block is born

  abbrev BlocksRelated : (size : ℕ) → Story → AfterBirth → Type 0
  BlocksRelated size story after = SharedRelated setting (told_born t Heap task chain (size ∷ []) story) (block_born m after)

  abbrev machine_block : (size at : ℕ) → Block
  machine_block size at = steps.new_block (setting.word m.drawn) at size m.births number

  same-block : (size at : ℕ) → machine_block size at ≡ record { at = at; size = size; tag = heap_tag_of (setting.word t.story.drawn); birth = Rattle.std.specs.Prelude.length t.story.births; born = number }
  same-block size at =
      ap (λ n. steps.new_block (setting.word n) at size m.births number) related.drawn ∙ ap (λ n. steps.new_block (setting.word t.story.drawn) at size n number) related.births

  some-block : (size at : ℕ) → place_of_block e t.story size ≡ Some at → BlocksRelated size (telling.block_at e t.story task at size chain) (steps.after_birth m.heap m.memory (machine_block size at))
  unfolding steps.after_birth
  some-block size at place =
      subst (λ (block : Block). SharedRelated setting (births.told_after setting t m is related task size at chain table number chains is_table known place) (births.machine_after setting t m is related task size at chain table number chains is_table known place block m.drawn)) (sym (same-block size at))
      (block-born setting t m is related task size at chain table number chains is_table known place)

  by-place : (size : ℕ) (o : Option ℕ) → place_of_block e t.story size ≡ o
      → AreBorn (BlocksRelated size) (block_by e t.story task size chain o) (elim o [ None ↦ Err (heap.heap_full m.heap size) | Some place ↦ Ok (steps.after_birth m.heap m.memory (machine_block size place)) ])
  by-place size None place = ap (λ n. record { space = HeapSpace; asked = size; living = n }) related.heap.size
  by-place size (Some at) place = some-block size at place

  pub block-birth : (size birth : ℕ) → AreBorn (BlocksRelated size) (told e t.story (Born birth Heap task chain (size ∷ []))) (allocated m.heap m.memory (setting.word m.drawn) size m.births number)
  unfolding told allocated
  block-birth size birth =
      subst (λ (o : Option ℕ). AreBorn (BlocksRelated size) (block_by e t.story task size chain (place_of_block e t.story size)) (elim o [ None ↦ Err (heap.heap_full m.heap size) | Some place ↦ Ok (steps.after_birth m.heap m.memory (machine_block size place)) ]))
      (sym (place-same setting t.story m.chains m.heap size related.heap)) (by-place size (place_of_block e t.story size) refl)

  -- ---- a block dies

  pub block-death : (i : ℕ) (block : Block) → slice_get m.heap.living i ≡ Some block
      → (story : Story) × (told e t.story (Died block.birth task chain) ≡ Ok story) × SharedRelated setting (told_died t block.birth task chain story) (block_died m (steps.after_death m.heap m.memory (setting.word m.drawn) task number block))
  unfolding told steps.after_death
  block-death i block listed =
      let (birth, own) = related.heap.blocks.from i block listed in (
        telling.block_freed e t.story block.birth task chain (record { at = block.at; size = block.size; tag = block.tag }),
        ap (λ b. Ok (telling.death_told e t.story block.birth task chain b)) own.there
            ∙ ap (λ (r : Region). Ok (telling.death_by e t.story block.birth task chain r birth.objects)) own.region
            ∙ ap (λ xs. Ok (telling.freed_by e t.story block.birth task chain xs)) own.objects,
        subst (λ n. SharedRelated setting (told_died t block.birth task chain (telling.block_freed e t.story block.birth task chain (record { at = block.at; size = block.size; tag = block.tag }))) (block_died m (steps.after_death m.heap m.memory (setting.word n) task number block))) (sym related.drawn)
            (block-freed setting t m is related task chain table number chains is_table known block birth own i listed),
      )

  -- ---- a frame is entered

  module _ (own : TaskFrames) (there : slice_get m.stacks.tasks task ≡ Some own) (few : task < setting.places.most_tasks) (func : ℕ) (sizes : List ℕ) where
    abbrev StacksRelated : Story → StacksAfter → Type 0
    StacksRelated story after = SharedRelated setting (told_born t (Stack func) task chain sizes story) (with_variables m after)

    abbrev low : ℕ
    low = lowest e t.story task - frame_size sizes

    abbrev machine_newest : LivingFrame
    machine_newest = frames.new_frame m.stacks task func (setting.word m.drawn) sizes m.births number

    abbrev story_newest : LivingFrame
    story_newest = record { frame = record { func = func; low = low; word = setting.word t.story.drawn; birth = Rattle.std.specs.Prelude.length t.story.births; born = number; died = None }; sizes = sizes }

    same-newest : machine_newest ≡ story_newest
    same-newest =
        ap (λ top. record { frame = record { func = func; low = top - frame_size sizes; word = setting.word m.drawn; birth = m.births; born = number; died = None }; sizes = sizes }) (top-same setting t.story m.chains m.stacks task own related.stacks there)
        ∙ ap (λ drawn. record { frame = record { func = func; low = low; word = setting.word drawn; birth = m.births; born = number; died = None }; sizes = sizes }) related.drawn
        ∙ ap (λ births. record { frame = record { func = func; low = low; word = setting.word t.story.drawn; birth = births; born = number; died = None }; sizes = sizes }) related.births

    some-frame : stack_size e t.story task + frame_size sizes ≤ setting.places.stack_length → StacksRelated (telling.frame_at e t.story func task low chain sizes) (frames.after_entry m.stacks m.memory task machine_newest)
    unfolding frames.after_entry
    some-frame fits =
        subst (λ (newest : LivingFrame). StacksRelated (telling.frame_at e t.story func task low chain sizes) (frames.after_entry m.stacks m.memory task newest)) (sym same-newest)
        (frame-entered setting t m is related func task chain sizes table number chains is_table known own there few fits)

    abbrev told_frame : Bool → Result Story Full
    told_frame bit = if bit then Ok (telling.frame_at e t.story func task low chain sizes) else Err (record { space = StackSpace; asked = frame_size sizes; living = stack_size e t.story task })

    abbrev machine_frame : Bool → Result StacksAfter Full
    machine_frame bit = elim bit [ true ↦ Ok (frames.after_entry m.stacks m.memory task machine_newest) | false ↦ Err (stacks.stack_full m.stacks task sizes) ]

    living-is : stacks.living_size m.stacks task ≡ stack_size e t.story task
    living-is = living-same setting t.story m.chains m.stacks task own related.stacks there

    by-room : (bit : Bool) → nat_le (stack_size e t.story task + frame_size sizes) setting.places.stack_length ≡ bit → AreBorn StacksRelated (told_frame bit) (machine_frame bit)
    by-room true test = some-frame (leb-true _ _ test)
    by-room false test = ap (λ n. record { space = StackSpace; asked = frame_size sizes; living = n }) living-is

    pub frame-birth : (birth : ℕ) → AreBorn StacksRelated (told e t.story (Born birth (Stack func) task chain sizes)) (entered m.stacks m.memory task func (setting.word m.drawn) sizes m.births number)
    unfolding told entered
    frame-birth birth =
        subst (λ bit. AreBorn StacksRelated (told_frame (nat_le (stack_size e t.story task + frame_size sizes) setting.places.stack_length)) (machine_frame bit))
        (sym (ap (λ living. nat_le (living + frame_size sizes) m.stacks.stack_length) living-is ∙ ap (nat_le (stack_size e t.story task + frame_size sizes)) related.stacks.stack_length))
        (by-room (nat_le (stack_size e t.story task + frame_size sizes) setting.places.stack_length) refl)

  -- ---- a frame is left

  module _ (own : TaskFrames) (there : slice_get m.stacks.tasks task ≡ Some own) (newest : LivingFrame) (older : List LivingFrame) (living : own.living ≡ newest ∷ older) where
    abbrev IsLeft : Type 0
    IsLeft = (story : Story) × (told e t.story (Died newest.frame.birth task chain) ≡ Ok story) × SharedRelated setting (told_died t newest.frame.birth task chain story) (frame_left m (left m.stacks m.memory task number))

    by-open : (opened : List OpenFrame) → frames_of_task task t.story.frames ≡ opened → AreEach (IsFrameOf m.chains t.story.births) (newest ∷ older) opened → IsLeft
    unfolding told left
    by-open [] are each = absurd each
    by-open (first ∷ rest) are each =
        let frame = each.0 in
        let others = each.1 in
        let story = telling.frame_ended t.story first.birth task chain in
        let told_is = ap (λ b. Ok (telling.death_told e t.story first.birth task chain b)) frame.there ∙ ap (λ (r : Region). Ok (telling.death_by e t.story first.birth task chain r frame.story.objects)) frame.region in
        let after = leaving.machine_after setting t m is related task chain table number chains is_table known own there newest older living first rest are frame others in
        let machine_is : after ≡ frame_left m (frames.after_exit m.stacks m.memory task number (stacks.frames_of m.stacks task).living) = left-is in
        let ends = subst (λ machine. SharedRelated setting (told_died t first.birth task chain story) machine) machine_is (frame-left setting t m is related task chain table number chains is_table known own there newest older living first rest are frame others) in
        subst (λ n. (story : Story) × (told e t.story (Died n task chain) ≡ Ok story) × SharedRelated setting (told_died t n task chain story) (frame_left m (left m.stacks m.memory task number))) (sym frame.birth) (story, told_is, ends)
      where
        after_with : List Rattle.stack_tags.specs.declared.frame_record.FrameRecord.FrameRecord → StacksAfter
        after_with ended =
            record {
              stacks = record m.stacks { tasks = slice_set m.stacks.tasks task (frames.without_newest m.stacks.ring number newest older ended) };
              space = Rattle.tbi_memory.specs.ObjectMemory.tag_plain m.memory newest.frame.low (frame_size newest.sizes) 0;
            }

        left-is : frame_left m (after_with own.ended) ≡ frame_left m (frames.after_exit m.stacks m.memory task number (stacks.frames_of m.stacks task).living)
        left-is =
            let is_living = ap (λ (o : Option TaskFrames). (unwrap_or o stacks.no_frames).living) there ∙ living in
            let first = ap (frames.after_exit m.stacks m.memory task number) is_living in
            let second = ap (λ (o : Option TaskFrames). after_with (unwrap_or o stacks.no_frames).ended) there in
            ap (frame_left m) (sym (first ∙ second))

    pub frame-death : IsLeft
    frame-death =
        by-open (frames_of_task task t.story.frames) refl
        (subst (λ xs. AreEach (IsFrameOf m.chains t.story.births) xs (frames_of_task task t.story.frames)) living (related.stacks.living task own there))
