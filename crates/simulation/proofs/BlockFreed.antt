-- The death of a heap block keeps the relation.
use Rattle.std.proofs.Common.{◌≡◌, ◌≢◌, ℕ, zero, suc, ◌+◌, ◌-◌, ◌*◌, ◌%◌, ◌<◌, ◌≤◌, ◌==◌, Bool, true, false, if◌then◌else◌, List, [], ◌∷◌, take, replicate, slice_get, Option, Some, None, option_map, unwrap_or, is_some, ◌⊎◌, inl, inr, refl, sym, ◌∙◌, ap, subst, arith}
use Rattle.std.proofs.lemmas.Bool.{cases_eq, cases_lt}
use Rattle.std.proofs.lemmas.Bool.Decides.{nat_tests}
use Rattle.std.proofs.lemmas.List.{length-replicate}
use Rattle.dbg_sites.specs.ChainTable.{ChainEntry, IsChainTable}
use Rattle.hw_base.specs.AddressMap.{rounded_size, granule_of}
use Rattle.hw_base.specs.declared.pointers.Site.{Site}
use Rattle.hw_tags.specs.Tag.{free_tag_of}
use Rattle.ir_machine.specs.State.{MachineSetting, MachineShared}
use Rattle.ir_meaning.specs.Births.{Region, Globals, Stack, Heap, Dead, is_living, changed_at, after_death}
use Rattle.stack_tags.specs.Frames.{LivingFrame}
use Rattle.tag_alloc.proofs.HeapBlockLemmas.{without_block-dead, without_block-stays}
use Rattle.tag_alloc.specs.HeapBlocks as heap
use Rattle.tag_alloc.specs.HeapBlocks.{without_block}
use Rattle.tag_alloc.specs.HeapSteps.{remembered}
use Rattle.tag_alloc.specs.declared.blocks.Block.{Block}
use Rattle.tag_alloc.specs.declared.blocks.Freed.{Freed}
use Rattle.tag_story.proofs.BirthPlaces.{rounded-some}
use Rattle.tag_story.proofs.Owners.{covers-in, covers-true}
use Rattle.tag_story.proofs.StoryLaws.{block-died}
use Rattle.tag_story.proofs.StoryLists.{changed-cases}
use Rattle.tag_story.specs.Story.{Placed, StoryBirth, OpenFrame, FreedBlock, EndedFrame}
use Rattle.tag_story.specs.StoryFacts.{IsLaidOut, IsObject, AreApart}
use Rattle.tag_story.specs.StoryTags.{covers, freed_tag}
use Rattle.tag_story.specs.Telling.{ended, block_freed}
use Rattle.tag_story.specs.ToldRun.{ToldShared}
use Rattle.tbi_memory.proofs.ListLemmas.{slice_get-set_at, slice_get-set_other}
use Rattle.tbi_memory.proofs.MappedBytesLemmas.{write_below, write_above, write_inside}
use Rattle.tbi_memory.specs.MappedBytes.{Range, byte_at, write}
use Rattle.tbi_memory.specs.ObjectMemory.{tag_plain}
use Rattle.simulation.proofs.BirthOwners.{CoverNot, OneCovers}
use Rattle.simulation.proofs.BirthRelated.{ObjectsRelated}
use Rattle.simulation.proofs.BlockBorn.{objects-of}
use Rattle.simulation.proofs.DeathRelated.{length-changed, tag-before, death-related}
use Rattle.simulation.proofs.FreshMemory.{some-byte, get-replicated}
use Rattle.simulation.proofs.MappedRegions.{heap-mapped}
use Rattle.simulation.proofs.TablesKept.{StayBut, each-map, each-take, take-again, changed-other, block-kept, freed-kept, frame-kept, ended-kept}
use Rattle.simulation.specs.BirthsAndDeaths.{ChainsStay}
use Rattle.simulation.specs.Parts.{IsChain, IsBlockOf, HasBlocks, IsFreedOf, AreInHeap, freed_by_task, AreEach, IsFrameOf, frames_of_task, IsEndedOf, ended_by_task}
use Rattle.simulation.specs.Relation.{IsSetting, HeapRelated, SharedRelated, story_setting}

-- ---- what a plain tag does

-- one tag in all granules of a range
module _ (shadow : List Range) (at size tag g : ℕ) (aligned : at % 16 ≡ 0) (whole : size % 16 ≡ 0) where
  abbrev pub plain : List Range
  plain = write shadow (granule_of at) (replicate (granule_of size) tag)

  pub plain-inside : at ≤ 16 * g → 16 * g < at + size → is_some (byte_at shadow g) ≡ true → byte_at plain g ≡ Some tag
  plain-inside low high mapped =
      let same : granule_of at + (g - granule_of at) ≡ g = omega (arith, aligned, low) in
      let (old, there) = some-byte (byte_at shadow g) mapped in
      ap (byte_at plain) (sym same)
      ∙ write_inside shadow (granule_of at) (replicate (granule_of size) tag) (g - granule_of at) old tag (ap (byte_at shadow) same ∙ there)
      (get-replicated (granule_of size) (g - granule_of at) tag (omega (arith, aligned, whole, low, high)))

  pub plain-outside : (16 * g < at) ⊎ (at + size ≤ 16 * g) → byte_at plain g ≡ byte_at shadow g
  plain-outside (inl below) = write_below shadow (granule_of at) (replicate (granule_of size) tag) g (omega (arith, below, aligned))
  plain-outside (inr above) =
      let count = length-replicate {A = ℕ} (granule_of size) tag in
      write_above shadow (granule_of at) (replicate (granule_of size) tag) g (omega (arith, above, aligned, whole, count))

  -- what isn't covered by an object is outside its rounded size
  pub not-covered : (x : Placed) → x.at ≡ at → rounded_size x.size ≡ size → covers x g ≡ false → (16 * g < at) ⊎ (at + size ≤ 16 * g)
  not-covered x from many none = by_order (cases_lt (16 * g) at) (cases_lt (16 * g) (at + size))
    where
      by_order : (16 * g < at) ⊎ (at ≤ 16 * g) → (16 * g < at + size) ⊎ (at + size ≤ 16 * g) → (16 * g < at) ⊎ (at + size ≤ 16 * g)
      by_order (inl below) other = inl below
      by_order (inr low) (inr above) = inr above
      by_order (inr low) (inl high) =
          let over = covers-true x g (omega (arith, low, from)) (omega (arith, high, from, many)) in
          let wrong : true ≡ false = sym over ∙ none in
          absurd cc

-- the only item of a list of one
pub only-item : {X : Type 0} (x y : X) (k : ℕ) → slice_get (x ∷ []) k ≡ Some y → (k ≡ 0) × (x ≡ y)
only-item x y zero h = (refl, cc)
only-item x y (suc k) h = absurd cc

-- ---- the death

module _ (setting : MachineSetting) (t : ToldShared) (m : MachineShared) (is : IsSetting setting) (related : SharedRelated setting t m) (task : ℕ) (chain : List Site) (table : List ChainEntry) (number : ℕ) (chains : ChainsStay m.chains table) (is_table : IsChainTable table) (died : IsChain table number chain)
    (block : Block) (birth : StoryBirth) (own : IsBlockOf m.chains t.story.births block birth) (place : ℕ) (listed : slice_get m.heap.living place ≡ Some block) where
  abbrev old_placed : Placed
  old_placed = record { at = block.at; size = block.size; tag = block.tag }

  abbrev new_tag : ℕ
  new_tag = free_tag_of (setting.word t.story.drawn) block.tag

  -- both sides after the death
  abbrev pub told_after : ToldShared
  told_after =
      record {
        source = record t.source { births = after_death t.source.births block.birth task chain };
        story = block_freed (story_setting setting) t.story block.birth task chain old_placed;
      }

  abbrev pub machine_after : (word drawn : ℕ) → MachineShared
  machine_after word drawn =
      record m {
        heap = record m.heap {
          living = without_block block.at m.heap.living;
          living_size = m.heap.living_size - rounded_size block.size;
          freed = remembered m.heap task (record { block = block; died = number });
        };
        memory = tag_plain m.memory block.at (rounded_size block.size) (free_tag_of word block.tag);
        chains = table;
        drawn = drawn + 1;
      }

  object : IsObject t.story.births block.birth 0 birth old_placed
  object = record { there = own.there; object = ap (λ xs. slice_get xs 0) own.objects }

  aligned : block.at % 16 ≡ 0
  aligned = related.laid.aligned block.birth 0 birth old_placed object

  inside : Rattle.tag_story.specs.StoryFacts.IsInRegion (story_setting setting) Heap birth.task old_placed
  inside = subst (λ (r : Region). Rattle.tag_story.specs.StoryFacts.IsInRegion (story_setting setting) r birth.task old_placed) own.region (related.laid.inside block.birth 0 birth old_placed object)

  laid : IsLaidOut (story_setting setting) told_after.story
  laid = block-died (story_setting setting) t.story block.birth task chain old_placed related.laid

  -- the objects of the birth are the block alone
  one-object : (k : ℕ) (x : Placed) → slice_get birth.objects k ≡ Some x → old_placed ≡ x
  one-object k x h = (only-item old_placed x k (ap (λ xs. slice_get xs k) (sym own.objects) ∙ h)).1

  abbrev shadow : List Range
  shadow = write m.memory.shadow (granule_of block.at) (replicate (granule_of (rounded_size block.size)) new_tag)

  covered : (g : ℕ) → OneCovers birth.objects g → byte_at shadow g ≡ Some (freed_tag told_after.story.freed g)
  unfolding freed_tag
  covered g one =
      let same = one-object one.k one.x one.there in
      let over : covers old_placed g ≡ true = ap (λ (x : Placed). covers x g) same ∙ one.over in
      let bounds = covers-in old_placed g over in
      plain-inside m.memory.shadow block.at (rounded_size block.size) new_tag g aligned (rounded-some block.size).1 bounds.0 bounds.1
      (tag-before setting t.story m.memory.shadow block.birth birth g related.laid related.tags own.there own.alive one)
      ∙ ap (λ (bit : Bool). Some (if bit then new_tag else freed_tag t.story.freed g)) (sym over)

  uncovered : (g : ℕ) → CoverNot birth.objects g → (byte_at shadow g ≡ byte_at m.memory.shadow g) × (freed_tag told_after.story.freed g ≡ freed_tag t.story.freed g)
  unfolding freed_tag
  uncovered g none =
      let not_over = none 0 old_placed object.object in (
        plain-outside m.memory.shadow block.at (rounded_size block.size) new_tag g aligned (rounded-some block.size).1
            (not-covered m.memory.shadow block.at (rounded_size block.size) new_tag g aligned (rounded-some block.size).1 old_placed refl refl not_over),
        ap (λ (bit : Bool). if bit then new_tag else freed_tag t.story.freed g) not_over,
      )

  objects : ObjectsRelated setting told_after.source.births told_after.story (tag_plain m.memory block.at (rounded_size block.size) new_tag) m.globals
  objects =
      death-related setting t.source.births t.story m.memory m.globals related.laid (objects-of setting t m related) block.birth task chain birth own.there own.alive (λ wrong. let both : Heap ≡ Globals = sym own.region ∙ wrong in absurd cc) shadow told_after.story refl
      (λ k x h. subst (λ (y : Placed). Rattle.simulation.proofs.BirthRelated.IsInMap (story_setting setting) y) (one-object k x h) (heap-mapped (story_setting setting) birth.task old_placed inside))
      covered uncovered

  -- ---- the tables

  abbrev births_after : List StoryBirth
  births_after = changed_at (ended task chain) t.story.births block.birth

  stay : StayBut block.birth t.story.births births_after
  stay n b other h = changed-other (ended task chain) t.story.births block.birth n b other h

  same-birth : (n : ℕ) (b : StoryBirth) → slice_get t.story.births n ≡ Some b → n ≡ block.birth → b ≡ birth
  same-birth n b h same = let one : Some b ≡ Some birth = sym h ∙ ap (slice_get t.story.births) same ∙ own.there in cc

  -- what is dead, and what is a frame, is another birth
  dead-other : (n : ℕ) (b : StoryBirth) (other : ℕ) (c : List Site) → slice_get t.story.births n ≡ Some b → b.life ≡ Dead other c → n ≢ block.birth
  dead-other n b other c h dead same =
      let wrong : false ≡ true = ap is_living (sym dead) ∙ ap (λ (d : StoryBirth). is_living d.life) (same-birth n b h same) ∙ own.alive in
      absurd cc

  frame-other : (n : ℕ) (b : StoryBirth) (func : ℕ) → slice_get t.story.births n ≡ Some b → b.region ≡ Stack func → n ≢ block.birth
  frame-other n b func h region same =
      let wrong : Stack func ≡ Heap = sym region ∙ ap (λ (d : StoryBirth). d.region) (same-birth n b h same) ∙ own.region in
      absurd cc

  -- another living block begins elsewhere
  elsewhere : (other : Block) (b : StoryBirth) → IsBlockOf m.chains t.story.births other b → other.birth ≢ block.birth → other.at ≢ block.at
  elsewhere other b of apart_births same =
      elim (related.laid.apart other.birth 0 block.birth 0 b birth (record { at = other.at; size = other.size; tag = other.tag }) old_placed (record { there = of.there; object = ap (λ xs. slice_get xs 0) of.objects }) object of.alive own.alive) [
        | inl apart ↦ by_apart apart
        | inr both ↦ apart_births both.0
      ]
    where
      by_apart : AreApart (record { at = other.at; size = other.size; tag = other.tag }) old_placed → ⊥
      by_apart (inl before) = let some = (rounded-some other.size).0 in omega (arith, before, same, some)
      by_apart (inr after) = let some = (rounded-some block.size).0 in omega (arith, after, same, some)

  blocks : HasBlocks table births_after (without_block block.at m.heap.living)
  blocks =
      record {
        from = λ i other h.
            let (apart, old) = without_block-dead block.at other m.heap.living i h in
            let (b, of) = related.heap.blocks.from old.0 other old.1 in
            (b, block-kept m.chains table t.story.births births_after block.birth chains stay other b (λ same. apart (same-at other b of same)) of);
        to = λ n b there region alive.
            let (old, before, kind) = changed-cases (ended task chain) t.story.births block.birth n b there in
            elim kind [
              | inl other ↦
                  let (i, found, here, same) = related.heap.blocks.to n old before (ap (λ (c : StoryBirth). c.region) (sym other.0) ∙ region) (ap (λ (c : StoryBirth). is_living c.life) (sym other.0) ∙ alive) in
                  let (b2, of) = related.heap.blocks.from i found here in
                  let (j, later) = without_block-stays block.at found m.heap.living i here (elsewhere found b2 of (λ e. other.1 (sym same ∙ e))) in
                  (j, found, later, same)
              | inr dead ↦ let wrong : false ≡ true = ap (λ (c : StoryBirth). is_living c.life) (sym dead.0) ∙ alive in absurd cc
            ];
      }
    where
      same-at : (other : Block) (b : StoryBirth) → IsBlockOf m.chains t.story.births other b → other.birth ≡ block.birth → other.at ≡ block.at
      same-at other b of same =
          let one = same-birth other.birth b of.there same in
          let objects : record { at = other.at; size = other.size; tag = other.tag } ∷ [] ≡ old_placed ∷ [] = sym of.objects ∙ ap (λ (c : StoryBirth). c.objects) one ∙ own.objects in
          ap (λ (xs : List Placed). elim xs [ [] ↦ 0 | x ∷ rest ↦ x.at ]) objects

  freed-each : (records : List Freed) (freed : List FreedBlock) → AreEach (IsFreedOf m.chains t.story.births) records freed → AreEach (IsFreedOf table births_after) records freed
  freed-each records freed each =
      each-map (IsFreedOf m.chains t.story.births) (IsFreedOf table births_after) records freed
      (λ f x of. freed-kept m.chains table t.story.births births_after block.birth chains stay f x (dead-other x.birth of.story x.task of.chain of.there of.dead) of) each

  frames-each : (living : List LivingFrame) (frames : List OpenFrame) → AreEach (IsFrameOf m.chains t.story.births) living frames → AreEach (IsFrameOf table births_after) living frames
  frames-each living frames each =
      each-map (IsFrameOf m.chains t.story.births) (IsFrameOf table births_after) living frames
      (λ f x of. frame-kept m.chains table t.story.births births_after block.birth chains stay f x (frame-other x.birth of.story f.frame.func of.there of.region) of) each

  ended-each : (records : List Rattle.stack_tags.specs.declared.frame_record.FrameRecord.FrameRecord) (gone : List EndedFrame) → AreEach (IsEndedOf m.chains t.story.births) records gone → AreEach (IsEndedOf table births_after) records gone
  ended-each records gone each =
      each-map (IsEndedOf m.chains t.story.births) (IsEndedOf table births_after) records gone
      (λ f x of. ended-kept m.chains table t.story.births births_after block.birth chains stay f x (dead-other x.birth of.story x.task of.chain of.there of.dead) of) each

  -- the block that was freed, as the task remembers it
  abbrev new_freed : Freed
  new_freed = record { block = block; died = number }

  abbrev new_freed_told : FreedBlock
  new_freed_told = record { birth = block.birth; task = task; block = old_placed; free_tag = new_tag }

  new-freed : IsFreedOf table births_after new_freed new_freed_told
  new-freed =
      record {
        birth = refl;
        block = refl;
        story = ended task chain birth;
        there = Rattle.simulation.proofs.TablesKept.changed-here (ended task chain) t.story.births block.birth birth own.there;
        chain = chain;
        dead = refl;
        born = chains block.born birth.born own.born;
        died = died;
      }

  freed-here : (old : Option (List Freed)) → slice_get m.heap.freed task ≡ old → (records : List Freed) → option_map (λ _old. take m.heap.ring (new_freed ∷ unwrap_or old [])) old ≡ Some records
      → AreEach (IsFreedOf table births_after) records (take setting.ring (new_freed_told ∷ freed_by_task task t.story.freed))
  freed-here None here records h = absurd cc
  freed-here (Some old) here records h =
      let is_records : take m.heap.ring (new_freed ∷ old) ≡ records = cc in
      subst (λ rs. AreEach (IsFreedOf table births_after) rs (take setting.ring (new_freed_told ∷ freed_by_task task t.story.freed))) (ap (λ n. take n (new_freed ∷ old)) (sym related.heap.ring) ∙ is_records)
      (subst (AreEach (IsFreedOf table births_after) (take setting.ring (new_freed ∷ old))) (take-again setting.ring new_freed_told (freed_by_task task t.story.freed))
      (each-take (IsFreedOf table births_after) setting.ring (new_freed ∷ old) (new_freed_told ∷ take setting.ring (freed_by_task task t.story.freed))
      (new-freed, freed-each old (take setting.ring (freed_by_task task t.story.freed)) (related.heap.freed task old here))))

  -- the freed blocks of a task in the story after the death
  freed-own : freed_by_task task told_after.story.freed ≡ new_freed_told ∷ freed_by_task task t.story.freed
  freed-own = let same : (task == task) ≡ true = grind (arith, nat_tests) in rw same refl

  freed-other : (other : ℕ) → other ≢ task → freed_by_task other told_after.story.freed ≡ freed_by_task other t.story.freed
  freed-other other apart = let differ : (task == other) ≡ false = grind (arith, nat_tests) in rw differ refl

  heap-kept : HeapRelated setting told_after.story table (machine_after (setting.word t.story.drawn) m.drawn).heap
  heap-kept =
      record {
        from = related.heap.from;
        end = related.heap.end;
        blocks = blocks;
        size = ap (λ n. n - rounded_size block.size) related.heap.size;
        ring = related.heap.ring;
        freed = λ other records h. elim (cases_eq other task) [
          | inl same ↦
              subst (λ n. AreEach (IsFreedOf table births_after) records (take setting.ring (freed_by_task n told_after.story.freed))) (sym same)
              (subst (λ xs. AreEach (IsFreedOf table births_after) records (take setting.ring xs)) (sym freed-own)
              (freed-here (slice_get m.heap.freed task) refl records
              (sym (slice_get-set_at m.heap.freed task (take m.heap.ring (new_freed ∷ heap.freed_by m.heap task))) ∙ ap (slice_get (remembered m.heap task new_freed)) (sym same) ∙ h)))
          | inr apart ↦
              subst (λ xs. AreEach (IsFreedOf table births_after) records (take setting.ring xs)) (sym (freed-other other apart))
              (freed-each records (take setting.ring (freed_by_task other t.story.freed))
              (related.heap.freed other records (sym (slice_get-set_other m.heap.freed task other (take m.heap.ring (new_freed ∷ heap.freed_by m.heap task)) apart) ∙ h)))
        ];
      }

  in-heap : AreInHeap setting.places.heap_at (setting.places.heap_at + setting.places.heap_length) told_after.story.freed
  in-heap zero x h =
      let same : new_freed_told ≡ x = cc in
      subst (λ (y : FreedBlock). (y.block.at % 16 ≡ 0) × (setting.places.heap_at ≤ y.block.at) × (y.block.at + rounded_size y.block.size ≤ setting.places.heap_at + setting.places.heap_length)) same (aligned, inside.0, inside.1)
  in-heap (suc i) x h = related.freed i x h

  pub block-freed : SharedRelated setting told_after (machine_after (setting.word t.story.drawn) m.drawn)
  block-freed =
      record {
        laid = laid;
        told = objects.told;
        their_bytes = objects.their_bytes;
        known = objects.known;
        table = is_table;
        tags = objects.tags;
        bytes = objects.bytes;
        mapped = objects.mapped;
        ends = related.ends;
        constants_at = related.constants_at;
        constants_end = related.constants_end;
        descriptors = related.descriptors;
        constants = objects.constants;
        globals = objects.globals;
        heap = heap-kept;
        freed = in-heap;
        stacks = record {
          from = related.stacks.from;
          stack_length = related.stacks.stack_length;
          ring = related.stacks.ring;
          living = λ other frames h. frames-each frames.living (frames_of_task other t.story.frames) (related.stacks.living other frames h);
          ended = λ other frames h. ended-each frames.ended (take setting.ring (ended_by_task other t.story.ended)) (related.stacks.ended other frames h);
        };
        opened = record {
          below = λ i f h. let below = related.opened.below i f h in let same = length-changed (ended task chain) t.story.births block.birth in omega (arith, below, same);
          once = related.opened.once;
        };
        births = related.births ∙ sym (length-changed (ended task chain) t.story.births block.birth);
        drawn = ap (λ n. n + 1) related.drawn;
        input = related.input;
      }
