-- The end of a frame with variables keeps the relation.
use Rattle.std.proofs.Common.{◌≡◌, ◌≢◌, ℕ, suc, ◌+◌, ◌*◌, ◌%◌, ◌<◌, ◌≤◌, ◌==◌, Bool, true, false, not, if◌then◌else◌, List, [], ◌∷◌, map, take, replicate, slice_get, slice_set, Some, option_map, ◌⊎◌, inl, inr, refl, sym, ◌∙◌, ap, subst, arith}
use Rattle.std.proofs.lemmas.Bool.{cases_eq, cases_lt}
use Rattle.std.proofs.lemmas.Bool.Decides.{nat_tests}
use Rattle.dbg_sites.specs.ChainTable.{ChainEntry, IsChainTable}
use Rattle.hw_base.specs.AddressMap.{rounded_size, frame_size, granule_of}
use Rattle.hw_base.specs.declared.pointers.Site.{Site}
use Rattle.ir_machine.specs.State.{MachineSetting, MachineShared}
use Rattle.ir_meaning.specs.Births.{Region, Globals, Stack, Heap, Dead, is_living, changed_at, after_death}
use Rattle.stack_tags.specs.FrameSteps.{without_newest}
use Rattle.stack_tags.specs.Frames.{LivingFrame, TaskFrames}
use Rattle.stack_tags.specs.declared.frame_record.FrameRecord.{FrameRecord}
use Rattle.tag_alloc.specs.declared.blocks.Freed.{Freed}
use Rattle.tag_story.proofs.BirthPlaces.{variables-laid, frame_size-aligned, stack-inside}
use Rattle.tag_story.proofs.Owners.{covers-in}
use Rattle.tag_story.proofs.StoryLaws.{frame-died}
use Rattle.tag_story.proofs.StoryLists.{changed-cases, filter-get}
use Rattle.tag_story.specs.Story.{Placed, StoryBirth, OpenFrame, FreedBlock, EndedFrame}
use Rattle.tag_story.specs.StoryFacts.{IsLaidOut, IsObject, IsInRegion}
use Rattle.tag_story.specs.StoryTags.{covers, freed_tag}
use Rattle.tag_story.specs.Telling.{ended, frame_ended, variables_from}
use Rattle.tag_story.specs.ToldRun.{ToldShared}
use Rattle.tbi_memory.proofs.ListLemmas.{slice_get-set_at, slice_get-set_other}
use Rattle.tbi_memory.specs.MappedBytes.{Range, byte_at, write}
use Rattle.tbi_memory.specs.ObjectMemory.{tag_plain}
use Rattle.simulation.proofs.BirthOwners.{CoverNot, OneCovers}
use Rattle.simulation.proofs.BirthRelated.{ObjectsRelated}
use Rattle.simulation.proofs.BlockBorn.{objects-of}
use Rattle.simulation.proofs.BlockFreed.{plain-inside, plain-outside}
use Rattle.simulation.proofs.DeathRelated.{length-changed, tag-before, death-related}
use Rattle.simulation.proofs.FrameLists.{filter-first, filter-out, filter-once, is_other, own-left, others-left, variables-sizes, variables-cover}
use Rattle.simulation.proofs.MappedRegions.{stack-mapped}
use Rattle.simulation.proofs.TablesKept.{StayBut, each-map, each-map_in, each-take, take-again, changed-other, changed-here, block-kept, freed-kept, frame-kept, ended-kept}
use Rattle.simulation.specs.BirthsAndDeaths.{ChainsStay}
use Rattle.simulation.specs.Parts.{IsChain, HasBlocks, IsFreedOf, AreInHeap, freed_by_task, AreEach, IsFrameOf, frames_of_task, IsEndedOf, ended_by_task}
use Rattle.simulation.specs.Relation.{IsSetting, SharedRelated, story_setting}

-- below the heap no granule was ever freed
freed-none : (from end : ℕ) (freed : List FreedBlock) (g : ℕ) → AreInHeap from end freed → 16 * g < from → freed_tag freed g ≡ 0
unfolding freed_tag
freed-none from end [] g inside below = refl
freed-none from end (x ∷ xs) g inside below =
    by_test (covers x.block g) refl (freed-none from end xs g (λ i y h. inside (suc i) y h) below)
  where
    by_test : (bit : Bool) → covers x.block g ≡ bit → freed_tag xs g ≡ 0 → (if bit then x.free_tag else freed_tag xs g) ≡ 0
    by_test false none later = later
    by_test true over later =
        let bounds = covers-in x.block g over in
        let low = bounds.0 in
        let own = (inside 0 x refl).1 in
        absurd (omega (arith, low, own, below))

module _ (setting : MachineSetting) (t : ToldShared) (m : MachineShared) (is : IsSetting setting) (related : SharedRelated setting t m) (task : ℕ) (chain : List Site) (table : List ChainEntry) (number : ℕ) (chains : ChainsStay m.chains table) (is_table : IsChainTable table) (died : IsChain table number chain)
    (task_frames : TaskFrames) (there : slice_get m.stacks.tasks task ≡ Some task_frames) (newest : LivingFrame) (older : List LivingFrame) (are_living : task_frames.living ≡ newest ∷ older) (open_frame : OpenFrame) (rest : List OpenFrame) (are_open : frames_of_task task t.story.frames ≡ open_frame ∷ rest)
    (own : IsFrameOf m.chains t.story.births newest open_frame) (others : AreEach (IsFrameOf m.chains t.story.births) older rest) where
  abbrev birth : StoryBirth
  birth = own.story

  -- both sides after the end
  abbrev pub told_after : ToldShared
  told_after =
      record {
        source = record t.source { births = after_death t.source.births open_frame.birth task chain };
        story = frame_ended t.story open_frame.birth task chain;
      }

  abbrev pub machine_after : MachineShared
  machine_after =
      record m {
        memory = tag_plain m.memory newest.frame.low (frame_size newest.sizes) 0;
        stacks = record m.stacks { tasks = slice_set m.stacks.tasks task (without_newest m.stacks.ring number newest older task_frames.ended) };
        chains = table;
      }

  laid : IsLaidOut (story_setting setting) told_after.story
  laid = frame-died (story_setting setting) t.story open_frame.birth task chain related.laid

  low-aligned : newest.frame.low % 16 ≡ 0
  low-aligned =
      let its = filter-get (λ (x : OpenFrame). x.task == task) t.story.frames 0 open_frame (ap (λ xs. slice_get xs 0) are_open) in
      ap (λ n. n % 16) own.low ∙ related.laid.lows_aligned its.j open_frame its.there

  variable-there : (k : ℕ) (x : Placed) → slice_get birth.objects k ≡ Some x → slice_get (variables_from newest.frame.word 0 newest.frame.low newest.sizes) k ≡ Some x
  variable-there k x h = ap (λ xs. slice_get xs k) (sym own.objects) ∙ h

  variable-object : (k : ℕ) (x : Placed) → slice_get birth.objects k ≡ Some x → IsObject t.story.births open_frame.birth k birth x
  variable-object k x h = record { there = own.there; object = h }

  variable-region : (k : ℕ) (x : Placed) → slice_get birth.objects k ≡ Some x → IsInRegion (story_setting setting) (Stack newest.frame.func) birth.task x
  variable-region k x h = subst (λ (r : Region). IsInRegion (story_setting setting) r birth.task x) own.region (related.laid.inside open_frame.birth k birth x (variable-object k x h))

  variable-inside : (k : ℕ) (x : Placed) → slice_get birth.objects k ≡ Some x → (newest.frame.low ≤ x.at) × (x.at + rounded_size x.size ≤ newest.frame.low + frame_size newest.sizes)
  variable-inside k x h = (variables-laid newest.frame.word 0 newest.frame.low newest.sizes low-aligned).inside k x (variable-there k x h)

  abbrev shadow : List Range
  shadow = write m.memory.shadow (granule_of newest.frame.low) (replicate (granule_of (frame_size newest.sizes)) 0)

  covered : (g : ℕ) → OneCovers birth.objects g → byte_at shadow g ≡ Some (freed_tag t.story.freed g)
  covered g one =
      let bounds = covers-in one.x g one.over in
      let inside = variable-inside one.k one.x one.there in
      let low = bounds.0 in
      let high = bounds.1 in
      let from = inside.0 in
      let to = inside.1 in
      let region = variable-region one.k one.x one.there in
      let top = region.2 in
      let stacks_end = stack-inside (story_setting setting) birth.task region.0 in
      let heap = is.room.stacks_below in
      plain-inside m.memory.shadow newest.frame.low (frame_size newest.sizes) 0 g low-aligned (frame_size-aligned newest.sizes) (omega (arith, low, from)) (omega (arith, high, to))
      (tag-before setting t.story m.memory.shadow open_frame.birth birth g related.laid related.tags own.there own.alive one)
      ∙ ap (λ n. Some n) (sym (freed-none setting.places.heap_at (setting.places.heap_at + setting.places.heap_length) t.story.freed g related.freed (omega (arith, high, top, stacks_end, heap))))

  uncovered : (g : ℕ) → CoverNot birth.objects g → (byte_at shadow g ≡ byte_at m.memory.shadow g) × (freed_tag t.story.freed g ≡ freed_tag t.story.freed g)
  uncovered g none = (plain-outside m.memory.shadow newest.frame.low (frame_size newest.sizes) 0 g low-aligned (frame_size-aligned newest.sizes) (by_order (cases_lt (16 * g) newest.frame.low) (cases_lt (16 * g) (newest.frame.low + frame_size newest.sizes))), refl)
    where
      by_order : (16 * g < newest.frame.low) ⊎ (newest.frame.low ≤ 16 * g) → (16 * g < newest.frame.low + frame_size newest.sizes) ⊎ (newest.frame.low + frame_size newest.sizes ≤ 16 * g) → (16 * g < newest.frame.low) ⊎ (newest.frame.low + frame_size newest.sizes ≤ 16 * g)
      by_order (inl below) other = inl below
      by_order (inr low) (inr above) = inr above
      by_order (inr low) (inl high) =
          let one = variables-cover newest.frame.word 0 newest.frame.low g newest.sizes low high in
          let wrong : true ≡ false = sym one.over ∙ none one.k one.x (ap (λ xs. slice_get xs one.k) own.objects ∙ one.there) in
          absurd cc

  objects : ObjectsRelated setting told_after.source.births told_after.story (tag_plain m.memory newest.frame.low (frame_size newest.sizes) 0) m.globals
  objects =
      death-related setting t.source.births t.story m.memory m.globals related.laid (objects-of setting t m related) open_frame.birth task chain birth own.there own.alive (λ wrong. let both : Stack newest.frame.func ≡ Globals = sym own.region ∙ wrong in absurd cc) shadow told_after.story refl
      (λ k x h. stack-mapped (story_setting setting) newest.frame.func birth.task x (variable-region k x h))
      covered uncovered

  -- ---- the tables

  abbrev births_after : List StoryBirth
  births_after = changed_at (ended task chain) t.story.births open_frame.birth

  stay : StayBut open_frame.birth t.story.births births_after
  stay n b other h = changed-other (ended task chain) t.story.births open_frame.birth n b other h

  same-birth : (n : ℕ) (b : StoryBirth) → slice_get t.story.births n ≡ Some b → n ≡ open_frame.birth → b ≡ birth
  same-birth n b h same = let one : Some b ≡ Some birth = sym h ∙ ap (slice_get t.story.births) same ∙ own.there in cc

  dead-other : (n : ℕ) (b : StoryBirth) (other : ℕ) (c : List Site) → slice_get t.story.births n ≡ Some b → b.life ≡ Dead other c → n ≢ open_frame.birth
  dead-other n b other c h dead same =
      let wrong : false ≡ true = ap is_living (sym dead) ∙ ap (λ (d : StoryBirth). is_living d.life) (same-birth n b h same) ∙ own.alive in
      absurd cc

  heap-other : (n : ℕ) (b : StoryBirth) → slice_get t.story.births n ≡ Some b → b.region ≡ Heap → n ≢ open_frame.birth
  heap-other n b h region same =
      let wrong : Heap ≡ Stack newest.frame.func = sym region ∙ ap (λ (d : StoryBirth). d.region) (same-birth n b h same) ∙ own.region in
      absurd cc

  blocks : HasBlocks table births_after m.heap.living
  blocks =
      record {
        from = λ i block h.
            let (b, of) = related.heap.blocks.from i block h in
            (b, block-kept m.chains table t.story.births births_after open_frame.birth chains stay block b (heap-other block.birth b of.there of.region) of);
        to = λ n b here region alive.
            let (old, before, kind) = changed-cases (ended task chain) t.story.births open_frame.birth n b here in
            elim kind [
              | inl other ↦ related.heap.blocks.to n old before (ap (λ (c : StoryBirth). c.region) (sym other.0) ∙ region) (ap (λ (c : StoryBirth). is_living c.life) (sym other.0) ∙ alive)
              | inr dead ↦ let wrong : false ≡ true = ap (λ (c : StoryBirth). is_living c.life) (sym dead.0) ∙ alive in absurd cc
            ];
      }

  freed-each : (records : List Freed) (freed : List FreedBlock) → AreEach (IsFreedOf m.chains t.story.births) records freed → AreEach (IsFreedOf table births_after) records freed
  freed-each records freed each =
      each-map (IsFreedOf m.chains t.story.births) (IsFreedOf table births_after) records freed
      (λ f x of. freed-kept m.chains table t.story.births births_after open_frame.birth chains stay f x (dead-other x.birth of.story x.task of.chain of.there of.dead) of) each

  ended-each : (records : List FrameRecord) (gone : List EndedFrame) → AreEach (IsEndedOf m.chains t.story.births) records gone → AreEach (IsEndedOf table births_after) records gone
  ended-each records gone each =
      each-map (IsEndedOf m.chains t.story.births) (IsEndedOf table births_after) records gone
      (λ f x of. ended-kept m.chains table t.story.births births_after open_frame.birth chains stay f x (dead-other x.birth of.story x.task of.chain of.there of.dead) of) each

  -- frames of other births stay
  frames-each : (living : List LivingFrame) (frames : List OpenFrame) → ((i : ℕ) (f : OpenFrame) → slice_get frames i ≡ Some f → f.birth ≢ open_frame.birth) → AreEach (IsFrameOf m.chains t.story.births) living frames → AreEach (IsFrameOf table births_after) living frames
  frames-each living frames other each =
      each-map_in (IsFrameOf m.chains t.story.births) (IsFrameOf table births_after) living frames
      (λ f x i h of. frame-kept m.chains table t.story.births births_after open_frame.birth chains stay f x (other i x h) of) each

  -- a frame that is left after a filter is of another birth
  passes-other : (f : OpenFrame) → is_other open_frame.birth f ≡ true → f.birth ≢ open_frame.birth
  passes-other f passes same =
      let equal : (f.birth == open_frame.birth) ≡ true = grind (arith, nat_tests) in
      let wrong : false ≡ true = ap not (sym equal) ∙ passes in
      absurd cc

  left-other : (other i : ℕ) (f : OpenFrame) → slice_get (frames_of_task other told_after.story.frames) i ≡ Some f → f.birth ≢ open_frame.birth
  left-other other i f h =
      let its = filter-get (λ (x : OpenFrame). x.task == other) told_after.story.frames i f h in
      let left = filter-get (is_other open_frame.birth) t.story.frames its.j f its.there in
      passes-other f left.passes

  pub own-frames : frames_of_task task told_after.story.frames ≡ rest
  own-frames = own-left task t.story.frames open_frame rest related.opened.once are_open

  pub other-frames : (other : ℕ) → other ≢ task → frames_of_task other told_after.story.frames ≡ frames_of_task other t.story.frames
  other-frames other apart = others-left task other t.story.frames open_frame rest related.opened.once are_open apart

  -- ---- the frame as the task remembers it

  abbrev new_record : FrameRecord
  new_record = record newest.frame { died = Some number }

  abbrev new_ended : EndedFrame
  new_ended = record { birth = open_frame.birth; task = task }

  new-ended : IsEndedOf table births_after new_record new_ended
  new-ended =
      record {
        birth = own.birth;
        story = ended task chain birth;
        there = changed-here (ended task chain) t.story.births open_frame.birth birth own.there;
        region = own.region;
        objects = own.objects ∙ ap (variables_from newest.frame.word 0 newest.frame.low) (sym (ap (map (λ (y : Placed). y.size)) own.objects ∙ variables-sizes newest.frame.word 0 newest.frame.low newest.sizes));
        chain = chain;
        dead = refl;
        number = number;
        died_at = refl;
        born = chains newest.frame.born birth.born own.born;
        died = died;
      }

  ended-own : ended_by_task task told_after.story.ended ≡ new_ended ∷ ended_by_task task t.story.ended
  ended-own = filter-first (λ (x : EndedFrame). x.task == task) new_ended t.story.ended (let same : (task == task) ≡ true = grind (arith, nat_tests) in same)

  ended-other : (other : ℕ) → other ≢ task → ended_by_task other told_after.story.ended ≡ ended_by_task other t.story.ended
  ended-other other apart = filter-out (λ (x : EndedFrame). x.task == other) new_ended t.story.ended (let differ : (task == other) ≡ false = grind (arith, nat_tests) in differ)

  abbrev AreFramesOf : (other : ℕ) → TaskFrames → Type 0
  AreFramesOf other frames = AreEach (IsFrameOf table births_after) frames.living (frames_of_task other told_after.story.frames) × AreEach (IsEndedOf table births_after) frames.ended (take setting.ring (ended_by_task other told_after.story.ended))

  frames-here : AreFramesOf task (without_newest m.stacks.ring number newest older task_frames.ended)
  frames-here = (
    subst (AreEach (IsFrameOf table births_after) older) (sym own-frames) (frames-each older rest (λ i f h. left-other task i f (ap (λ xs. slice_get xs i) own-frames ∙ h)) others),
    subst (λ n. AreEach (IsEndedOf table births_after) (take n (new_record ∷ task_frames.ended)) (take setting.ring (ended_by_task task told_after.story.ended))) (sym related.stacks.ring)
        (subst (λ xs. AreEach (IsEndedOf table births_after) (take setting.ring (new_record ∷ task_frames.ended)) (take setting.ring xs)) (sym ended-own)
        (subst (AreEach (IsEndedOf table births_after) (take setting.ring (new_record ∷ task_frames.ended))) (take-again setting.ring new_ended (ended_by_task task t.story.ended))
        (each-take (IsEndedOf table births_after) setting.ring (new_record ∷ task_frames.ended) (new_ended ∷ take setting.ring (ended_by_task task t.story.ended))
        (new-ended, ended-each task_frames.ended (take setting.ring (ended_by_task task t.story.ended)) (related.stacks.ended task task_frames there))))),
  )

  frames-after : (other : ℕ) (frames : TaskFrames) → slice_get machine_after.stacks.tasks other ≡ Some frames → AreFramesOf other frames
  frames-after other frames h =
      elim (cases_eq other task) [
        | inl same ↦
            let one : option_map (λ _old. without_newest m.stacks.ring number newest older task_frames.ended) (slice_get m.stacks.tasks task) ≡ Some frames = sym (slice_get-set_at m.stacks.tasks task (without_newest m.stacks.ring number newest older task_frames.ended)) ∙ ap (slice_get machine_after.stacks.tasks) (sym same) ∙ h in
            let two : Some (without_newest m.stacks.ring number newest older task_frames.ended) ≡ Some frames = sym (ap (option_map (λ _old. without_newest m.stacks.ring number newest older task_frames.ended)) there) ∙ one in
            let is_frames : without_newest m.stacks.ring number newest older task_frames.ended ≡ frames = cc in
            subst (λ n. AreFramesOf n frames) (sym same) (subst (AreFramesOf task) is_frames frames-here)
        | inr apart ↦
            let before : slice_get m.stacks.tasks other ≡ Some frames = sym (slice_get-set_other m.stacks.tasks task other (without_newest m.stacks.ring number newest older task_frames.ended) apart) ∙ h in (
              subst (AreEach (IsFrameOf table births_after) frames.living) (sym (other-frames other apart)) (frames-each frames.living (frames_of_task other t.story.frames) (λ i f k. left-other other i f (ap (λ xs. slice_get xs i) (other-frames other apart) ∙ k)) (related.stacks.living other frames before)),
              subst (λ xs. AreEach (IsEndedOf table births_after) frames.ended (take setting.ring xs)) (sym (ended-other other apart)) (ended-each frames.ended (take setting.ring (ended_by_task other t.story.ended)) (related.stacks.ended other frames before)),
            )
      ]

  pub frame-left : SharedRelated setting told_after machine_after
  frame-left =
      record {
        laid = laid;
        told = objects.told;
        their_bytes = objects.their_bytes;
        known = objects.known;
        table = is_table;
        tags = objects.tags;
        bytes = objects.bytes;
        mapped = objects.mapped;
        ends = related.ends;
        constants_at = related.constants_at;
        constants_end = related.constants_end;
        descriptors = related.descriptors;
        constants = objects.constants;
        globals = objects.globals;
        heap = record {
          from = related.heap.from;
          end = related.heap.end;
          blocks = blocks;
          size = related.heap.size;
          ring = related.heap.ring;
          freed = λ other records h. freed-each records (take setting.ring (freed_by_task other t.story.freed)) (related.heap.freed other records h);
        };
        freed = related.freed;
        stacks = record {
          from = related.stacks.from;
          stack_length = related.stacks.stack_length;
          ring = related.stacks.ring;
          living = λ other frames h. (frames-after other frames h).0;
          ended = λ other frames h. (frames-after other frames h).1;
        };
        opened = record {
          below = λ i f h.
              let left = filter-get (is_other open_frame.birth) t.story.frames i f h in
              let below = related.opened.below left.j f left.there in
              let same = length-changed (ended task chain) t.story.births open_frame.birth in
              omega (arith, below, same);
          once = filter-once (is_other open_frame.birth) t.story.frames related.opened.once;
        };
        births = related.births ∙ sym (length-changed (ended task chain) t.story.births open_frame.birth);
        drawn = related.drawn;
        input = related.input;
      }
