-- The birth of a heap block keeps the relation.
use Rattle.std.proofs.Common.{◌≡◌, ◌≢◌, ℕ, ◌+◌, ◌^◌, ◌<◌, List, [], ◌∷◌, ◌++◌, length, slice_get, Some, inl, inr, refl, sym, ap, subst, arith}
use Rattle.std.proofs.lemmas.List.{length-append}
use Rattle.dbg_sites.specs.ChainTable.{ChainEntry, IsChainTable}
use Rattle.hw_base.specs.AddressMap.{rounded_size}
use Rattle.hw_base.specs.declared.pointers.Site.{Site}
use Rattle.hw_tags.specs.Tag.{heap_tag_of}
use Rattle.ir_machine.specs.State.{MachineSetting, MachineShared}
use Rattle.ir_meaning.proofs.BirthChangeLaws.{slice_get-pushed}
use Rattle.ir_meaning.specs.Births.{Heap, fresh_birth}
use Rattle.stack_tags.specs.Frames.{LivingFrame}
use Rattle.stack_tags.specs.declared.frame_record.FrameRecord.{FrameRecord}
use Rattle.tag_alloc.proofs.HeapBlockLemmas.{with_block-born, with_block-stays, with_block-no_other}
use Rattle.tag_alloc.specs.HeapBlocks.{with_block}
use Rattle.tag_alloc.specs.declared.blocks.Block.{Block}
use Rattle.tag_alloc.specs.declared.blocks.Freed.{Freed}
use Rattle.tag_story.proofs.BirthPlaces.{block-place}
use Rattle.tag_story.proofs.StoryLaws.{born-laid, block-new}
use Rattle.tag_story.proofs.StoryLists.{pushed-cases, get-below}
use Rattle.tag_story.specs.Story.{Placed, StoryBirth, OpenFrame, FreedBlock, EndedFrame}
use Rattle.tag_story.specs.StoryFacts.{IsLaidOut}
use Rattle.tag_story.specs.Telling.{place_of_block, block_at}
use Rattle.tag_story.specs.ToldRun.{ToldShared}
use Rattle.tbi_memory.specs.ObjectMemory.{with_fresh_object}
use Rattle.simulation.proofs.BirthLists.{told_birth, new-there}
use Rattle.simulation.proofs.BirthRelated.{ObjectsRelated, birth-related}
use Rattle.simulation.proofs.FreshMemory.{with_all_fresh}
use Rattle.simulation.proofs.MappedEnds.{fresh-ends}
use Rattle.simulation.proofs.MappedRegions.{heap-mapped, heap-past}
use Rattle.simulation.proofs.TablesKept.{StayBut, each-map, block-kept, freed-kept, frame-kept, ended-kept}
use Rattle.simulation.specs.BirthsAndDeaths.{ChainsStay}
use Rattle.simulation.specs.Parts.{IsChain, IsBlockOf, HasBlocks, IsFreedOf, AreEach, IsFrameOf, AreOpen, IsEndedOf}
use Rattle.simulation.specs.Relation.{IsSetting, HeapRelated, StacksRelated, SharedRelated, story_setting}

-- ---- what any birth leaves

-- the part of the relation that speaks of objects and memory
pub objects-of : (setting : MachineSetting) (t : ToldShared) (m : MachineShared) → SharedRelated setting t m → ObjectsRelated setting t.source.births t.story m.memory m.globals
objects-of setting t m related =
    record {
      told = related.told;
      their_bytes = related.their_bytes;
      known = related.known;
      tags = related.tags;
      bytes = related.bytes;
      mapped = related.mapped;
      constants = related.constants;
      globals = related.globals;
    }

module _ (table table_after : List ChainEntry) (births : List StoryBirth) (new : StoryBirth) (chains : ChainsStay table table_after) where
  pub pushed-but : (number : ℕ) → StayBut number births (births ++ new ∷ [])
  pushed-but number n birth other h = slice_get-pushed births (new ∷ []) n birth h

  below-other : (n : ℕ) (birth : StoryBirth) → slice_get births n ≡ Some birth → n ≢ length births
  below-other n birth h same = let below = get-below births n birth h in omega (arith, below, same)

  pub block-pushed : (block : Block) (birth : StoryBirth) → IsBlockOf table births block birth → IsBlockOf table_after (births ++ new ∷ []) block birth
  block-pushed block birth is = block-kept table table_after births (births ++ new ∷ []) (length births) chains (pushed-but (length births)) block birth (below-other block.birth birth is.there) is

  pub freed-pushed : (records : List Freed) (freed : List FreedBlock) → AreEach (IsFreedOf table births) records freed → AreEach (IsFreedOf table_after (births ++ new ∷ [])) records freed
  freed-pushed records freed each =
      each-map (IsFreedOf table births) (IsFreedOf table_after (births ++ new ∷ [])) records freed
      (λ f x is. freed-kept table table_after births (births ++ new ∷ []) (length births) chains (pushed-but (length births)) f x (below-other x.birth is.story is.there) is) each

  pub frames-pushed : (living : List LivingFrame) (frames : List OpenFrame) → AreEach (IsFrameOf table births) living frames → AreEach (IsFrameOf table_after (births ++ new ∷ [])) living frames
  frames-pushed living frames each =
      each-map (IsFrameOf table births) (IsFrameOf table_after (births ++ new ∷ [])) living frames
      (λ f x is. frame-kept table table_after births (births ++ new ∷ []) (length births) chains (pushed-but (length births)) f x (below-other x.birth is.story is.there) is) each

  pub ended-pushed : (records : List FrameRecord) (ended : List EndedFrame) → AreEach (IsEndedOf table births) records ended → AreEach (IsEndedOf table_after (births ++ new ∷ [])) records ended
  ended-pushed records ended each =
      each-map (IsEndedOf table births) (IsEndedOf table_after (births ++ new ∷ [])) records ended
      (λ f x is. ended-kept table table_after births (births ++ new ∷ []) (length births) chains (pushed-but (length births)) f x (below-other x.birth is.story is.there) is) each

  pub open-pushed : (frames : List OpenFrame) → AreOpen births frames → AreOpen (births ++ new ∷ []) frames
  open-pushed frames opened =
      record {
        below = λ i f h. let below = opened.below i f h in let more = length-append births (new ∷ []) in omega (arith, below, more);
        once = opened.once;
      }

-- ---- a block

module _ (setting : MachineSetting) (t : ToldShared) (m : MachineShared) (is : IsSetting setting) (related : SharedRelated setting t m) (task size at : ℕ) (chain : List Site) (table : List ChainEntry) (number : ℕ) (chains : ChainsStay m.chains table) (is_table : IsChainTable table) (born : IsChain table number chain) (place : place_of_block (story_setting setting) t.story size ≡ Some at) where
  abbrev block_tag : ℕ
  block_tag = heap_tag_of (setting.word t.story.drawn)

  -- the block in the story, and in the machine's table
  abbrev new_placed : Placed
  new_placed = record { at = at; size = size; tag = block_tag }

  abbrev new_birth : StoryBirth
  new_birth = told_birth Heap task chain (new_placed ∷ [])

  abbrev new_block : Block
  new_block = record { at = at; size = size; tag = block_tag; birth = length t.story.births; born = number }

  -- both sides after the birth
  abbrev pub told_after : ToldShared
  told_after =
      record {
        source = record t.source { births = t.source.births ++ fresh_birth Heap task chain (size ∷ []) ∷ [] };
        story = block_at (story_setting setting) t.story task at size chain;
      }

  abbrev pub machine_after : Block → ℕ → MachineShared
  machine_after block drawn =
      record m {
        heap = record m.heap { living = with_block block m.heap.living; living_size = m.heap.living_size + rounded_size block.size };
        memory = with_fresh_object m.memory block.at block.size block.tag;
        chains = table;
        births = m.births + 1;
        drawn = drawn + 1;
      }

  laid : IsLaidOut (story_setting setting) told_after.story
  laid =
      born-laid (story_setting setting) t.story Heap task chain (new_placed ∷ []) t.story.frames (t.story.heap_size + rounded_size size) related.laid
      (block-new (story_setting setting) t.story task at size (setting.word t.story.drawn) is.room related.laid (block-place (story_setting setting) t.story size at place))

  one-object : (k : ℕ) (x : Placed) → slice_get (new_placed ∷ []) k ≡ Some x → Rattle.tag_story.specs.StoryFacts.IsInRegion (story_setting setting) Heap task x
  one-object k x h = laid.inside (length t.story.births) k new_birth x (record { there = new-there t.story.births new_birth; object = h })

  objects : ObjectsRelated setting told_after.source.births told_after.story (with_fresh_object m.memory at size block_tag) m.globals
  objects =
      subst (λ space. ObjectsRelated setting told_after.source.births told_after.story space m.globals) (Rattle.simulation.proofs.FreshMemory.one-fresh m.memory new_placed)
      (birth-related setting t.source.births t.story m.memory m.globals is related.laid (objects-of setting t m related) Heap task chain (size ∷ []) (new_placed ∷ []) t.story.frames (t.story.heap_size + rounded_size size) laid refl
      (λ k x h. heap-mapped (story_setting setting) task x (one-object k x h))
      (λ k x h. let past = heap-past (story_setting setting) task x is.room (one-object k x h) in let end = related.constants_end in omega (arith, past, end))
      (ap (λ space. Rattle.tbi_memory.specs.AddressSpace.AddressSpace.constants_at space) (Rattle.simulation.proofs.FreshMemory.one-fresh m.memory new_placed), ap (λ space. Rattle.tbi_memory.specs.AddressSpace.AddressSpace.constants_end space) (Rattle.simulation.proofs.FreshMemory.one-fresh m.memory new_placed)))

  blocks : HasBlocks table told_after.story.births (with_block new_block m.heap.living)
  blocks =
      record {
        from = λ i block h. elim (with_block-no_other new_block block m.heap.living i h) [
          | inl same ↦ (
            new_birth,
            subst (λ (b : Block). IsBlockOf table told_after.story.births b new_birth) (sym same)
                (record { there = new-there t.story.births new_birth; region = refl; alive = refl; objects = refl; born = born }),
          )
          | inr old ↦
              let (birth, of) = related.heap.blocks.from old.0 block old.1 in
              (birth, block-pushed m.chains table t.story.births new_birth chains block birth of)
        ];
        to = λ n birth there region alive. elim (pushed-cases t.story.births new_birth n birth there) [
          | inl old ↦
              let (i, block, here, same) = related.heap.blocks.to n birth old region alive in
              let (j, later) = with_block-stays new_block block m.heap.living i here in
              (j, block, later, same)
          | inr new ↦ let (i, here) = with_block-born new_block m.heap.living in (i, new_block, here, sym new.0)
        ];
      }

  heap-kept : HeapRelated setting told_after.story table (machine_after new_block m.drawn).heap
  heap-kept =
      record {
        from = related.heap.from;
        end = related.heap.end;
        blocks = blocks;
        size = ap (λ n. n + rounded_size size) related.heap.size;
        ring = related.heap.ring;
        freed = λ other records h. freed-pushed m.chains table t.story.births new_birth chains records _ (related.heap.freed other records h);
      }

  stacks-kept : StacksRelated setting told_after.story table m.stacks
  stacks-kept =
      record {
        from = related.stacks.from;
        stack_length = related.stacks.stack_length;
        ring = related.stacks.ring;
        living = λ other frames h. frames-pushed m.chains table t.story.births new_birth chains frames.living _ (related.stacks.living other frames h);
        ended = λ other frames h. ended-pushed m.chains table t.story.births new_birth chains frames.ended _ (related.stacks.ended other frames h);
      }

  pub block-born : SharedRelated setting told_after (machine_after new_block m.drawn)
  block-born =
      record {
        laid = laid;
        told = objects.told;
        their_bytes = objects.their_bytes;
        known = objects.known;
        table = is_table;
        tags = objects.tags;
        bytes = objects.bytes;
        mapped = objects.mapped;
        ends = subst (λ n. n < 2 ^ 56) (sym (fresh-ends m.memory new_placed)) related.ends;
        constants_at = related.constants_at;
        constants_end = related.constants_end;
        descriptors = related.descriptors;
        constants = objects.constants;
        globals = objects.globals;
        heap = heap-kept;
        freed = related.freed;
        stacks = stacks-kept;
        opened = open-pushed m.chains table t.story.births new_birth chains t.story.frames related.opened;
        births = let more = length-append t.story.births (new_birth ∷ []) in let before = related.births in omega (arith, more, before);
        drawn = ap (λ n. n + 1) related.drawn;
        input = related.input;
      }
