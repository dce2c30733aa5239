-- A run starts in related states: memory has the globals, and nothing else was born.
use Rattle.std.proofs.Common.{◌≡◌, ℕ, zero, suc, ◌^◌, ◌<◌, List, [], ◌∷◌, length, map, slice_get, Some, refl, sym, ◌∙◌, ap, subst}
use Rattle.global_tags.specs.GlobalPlaces.{global_words}
use Rattle.global_tags.specs.declared.descriptor.Descriptor.{Descriptor}
use Rattle.hw_tags.specs.InputState.{no_input_taken}
use Rattle.ir_core.specs.declared.ir_module.GlobalVar.{GlobalVar}
use Rattle.ir_machine.specs.Start as machine
use Rattle.ir_machine.specs.Start.{shared_at_start}
use Rattle.ir_machine.specs.State.{MachineSetting, MachineShared}
use Rattle.ir_machine.specs.TaskFunctions.{with_task}
use Rattle.ir_meaning.specs.Births.{Globals, Heap, Birth}
use Rattle.ir_meaning.specs.Start.{global_object, global_births}
use Rattle.stack_tags.specs.Frames as stacks
use Rattle.tag_alloc.specs.HeapBlocks as blocks
use Rattle.tag_story.proofs.GlobalPlacesTold.{placed-is}
use Rattle.tag_story.proofs.ToldLaws.{no_story-laid}
use Rattle.tag_story.specs.Story.{StorySetting, Placed, StoryBirth, Story, no_story}
use Rattle.tag_story.specs.StoryFacts.{IsLaidOut}
use Rattle.tag_story.specs.StoryTags.{tag_by, memory_tag}
use Rattle.tag_story.specs.ToldRun.{ToldShared}
use Rattle.tbi_memory.specs.AddressSpace.{AddressSpace}
use Rattle.tbi_memory.specs.MappedBytes.{byte_at}
use Rattle.simulation.proofs.BirthOwners.{from-pushed}
use Rattle.simulation.proofs.BirthRelated.{ObjectsRelated}
use Rattle.detection.proofs.GlobalsAtStart as globals
use Rattle.detection.proofs.GlobalsAtStart.{laid, each-tag, mapped, objects-related}
use Rattle.detection.proofs.LoadedGlobals.{globals-ends, globals-constants}
use Rattle.detection.proofs.StartMemory.{start-ends}
use Rattle.step_simulation.proofs.TaskStarted.{task-related}
use Rattle.detection.specs.FollowingRuns.{told_at_start, story_at}
use Rattle.simulation.specs.Relation.{IsSetting, HasGlobals, SharedRelated, story_setting}

module _ (setting : MachineSetting) (is : IsSetting setting) where
  abbrev e : StorySetting
  e = story_setting setting

  abbrev variables : List GlobalVar
  variables = setting.program.globals

  -- the globals on both sides, and memory without and with them
  abbrev descriptors : List Descriptor
  descriptors = globals.descriptors setting is

  abbrev placed : List Placed
  placed = globals.placed setting is

  abbrev told_globals : StoryBirth
  told_globals = globals.told_globals setting is

  abbrev source_globals : Birth
  source_globals = globals.source_globals setting is

  abbrev empty_space : AddressSpace
  empty_space = globals.empty_space setting is

  abbrev space : AddressSpace
  space = globals.space setting is

  -- ---- nothing else was born

  -- the story and the machine's tables at the start, for the births that there are
  abbrev story_of : List StoryBirth → ℕ → Story
  story_of births drawn = record { births = births; frames = []; heap_size = 0; freed = []; ended = []; drawn = drawn }

  abbrev machine_of : (births drawn : ℕ) → MachineShared
  machine_of births drawn =
      record {
        memory = space;
        globals = descriptors;
        heap = blocks.heap_at_start setting.places setting.ring;
        stacks = stacks.stacks_at_start setting.places setting.ring;
        chains = [];
        births = births;
        drawn = drawn;
        input = no_input_taken;
      }

  abbrev told_of : List Birth → List StoryBirth → ℕ → ToldShared
  told_of sources births drawn = record { source = record { births = sources; input = no_input_taken }; story = story_of births drawn }

  tables-related : (sources : List Birth) (births : List StoryBirth) (drawn : ℕ) → IsLaidOut e (story_of births drawn) → ObjectsRelated setting sources (story_of births drawn) space descriptors
      → ((n : ℕ) (birth : StoryBirth) → slice_get births n ≡ Some birth → birth.region ≡ Heap → ⊥)
      → SharedRelated setting (told_of sources births drawn) (with_task (machine_of (length births) drawn))
  tables-related sources births drawn laid_out objects no_block =
      task-related setting (told_of sources births drawn) (machine_of (length births) drawn) 0
      (record {
        laid = laid_out;
        told = objects.told;
        their_bytes = objects.their_bytes;
        known = objects.known;
        table = record { earlier = λ i entry h. absurd cc; once = λ i j entry h k. absurd cc };
        tags = objects.tags;
        bytes = objects.bytes;
        mapped = objects.mapped;
        ends = subst (λ n. n < 2 ^ 56) (sym (globals-ends descriptors empty_space descriptors variables)) (start-ends setting is);
        constants_at = (globals-constants descriptors empty_space descriptors variables).0;
        constants_end = (globals-constants descriptors empty_space descriptors variables).1;
        descriptors = refl;
        constants = objects.constants;
        globals = objects.globals;
        heap = record {
          from = refl;
          end = refl;
          blocks = record { from = λ i block h. absurd cc; to = λ n birth h region alive. absurd (no_block n birth h region) };
          size = refl;
          ring = refl;
          freed = λ task records h. absurd cc;
        };
        freed = λ i x h. absurd cc;
        stacks = record {
          from = refl;
          stack_length = refl;
          ring = refl;
          living = λ task frames h. absurd cc;
          ended = λ task frames h. absurd cc;
        };
        opened = record { below = λ i frame h. absurd cc; once = λ i j x y h k same. absurd cc };
        births = refl;
        drawn = refl;
        input = refl;
      })
      (record { rings = refl; stacks = refl })
      (record { freed = λ i x h. absurd cc; ended = λ i x h. absurd cc; frames = λ i x h. absurd cc })

  not-heap : (n : ℕ) (birth : StoryBirth) → slice_get (told_globals ∷ []) n ≡ Some birth → birth.region ≡ Heap → ⊥
  not-heap zero birth h region = let same : told_globals ≡ birth = cc in let wrong : Globals ≡ Heap = ap (λ (b : StoryBirth). b.region) same ∙ region in absurd cc
  not-heap (suc n) birth h region = absurd cc

  some-globals : SharedRelated setting (told_of (source_globals ∷ []) (told_globals ∷ []) 1) (with_task (machine_of 1 1))
  some-globals = tables-related (source_globals ∷ []) (told_globals ∷ []) 1 (laid setting is) (objects-related setting is) not-heap

  -- a module without globals
  module _ (empty : variables ≡ []) where
    no-placed : (k : ℕ) (x : Placed) → slice_get placed k ≡ Some x → ⊥
    no-placed k x h =
        let (g, there, same) = placed-is e (setting.word 0) k x h in
        let none : slice_get {X = GlobalVar} [] k ≡ Some g = ap (λ gs. slice_get gs k) (sym empty) ∙ there in
        absurd cc

    empty-tag : (g : ℕ) → byte_at space.shadow g ≡ memory_tag e no_story g
    empty-tag g =
        each-tag setting is g ∙ ap (tag_by e [] g) (from-pushed 0 [] told_globals g (λ k x h. absurd (no-placed k x h)))

    empty-objects : ObjectsRelated setting [] no_story space descriptors
    empty-objects =
        record {
          told = record { count = refl; each = λ n birth story h k. absurd cc };
          their_bytes = λ o x h. absurd cc;
          known = λ o x i byte h k. absurd cc;
          tags = empty-tag;
          bytes = record { byte = λ o x p i b h k l. absurd cc; last = λ o x p h k alive some. absurd cc };
          mapped = mapped setting is;
          constants = λ o x p h k. absurd cc;
          globals = subst (λ gs. HasGlobals gs [] descriptors) (sym empty) tt;
        }

    no-globals : SharedRelated setting (told_of [] [] 0) (with_task (machine_of 0 0))
    no-globals = tables-related [] [] 0 (no_story-laid e) empty-objects (λ n birth h region. absurd cc)

  -- ---- the start

  abbrev IsRelatedFor : List GlobalVar → Type 0
  IsRelatedFor gs =
      SharedRelated setting (record { source = record { births = global_births setting.program gs; input = no_input_taken }; story = story_at setting gs })
      (with_task (machine_of (machine.global_births gs) (global_words gs)))

  related-for : (gs : List GlobalVar) → variables ≡ gs → IsRelatedFor gs
  related-for [] same = no-globals same
  related-for (g ∷ gs) same =
      subst (λ xs. SharedRelated setting (told_of (record { region = Globals; task = 0; born = []; objects = map (global_object setting.program) xs } ∷ []) (told_globals ∷ []) 1) (with_task (machine_of 1 1))) same some-globals

  pub start-related : SharedRelated setting (told_at_start setting) (shared_at_start setting)
  start-related = related-for variables refl
