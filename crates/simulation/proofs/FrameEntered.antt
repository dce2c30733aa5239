-- The entry of a frame with variables keeps the relation.
use Rattle.std.proofs.Common.{◌≡◌, ◌≢◌, ℕ, zero, suc, ◌+◌, ◌-◌, ◌*◌, ◌^◌, ◌<◌, ◌≤◌, ◌==◌, true, false, List, [], ◌∷◌, ◌++◌, length, take, slice_get, slice_set, Option, Some, None, option_map, unwrap_or, inl, inr, refl, sym, ◌∙◌, ap, subst, arith}
use Rattle.std.proofs.lemmas.Bool.{cases_eq}
use Rattle.std.proofs.lemmas.Bool.Decides.{nat_tests}
use Rattle.std.proofs.lemmas.List.{length-append}
use Rattle.dbg_sites.specs.ChainTable.{ChainEntry, IsChainTable}
use Rattle.hw_base.specs.AddressMap.{frame_size}
use Rattle.hw_base.specs.declared.pointers.Site.{Site}
use Rattle.ir_machine.specs.State.{MachineSetting, MachineShared}
use Rattle.ir_meaning.specs.Births.{Stack, Heap, fresh_birth}
use Rattle.stack_tags.specs.FrameSteps.{with_variables, with_frame}
use Rattle.stack_tags.specs.Frames as stacks
use Rattle.stack_tags.specs.Frames.{LivingFrame, TaskFrames}
use Rattle.tag_story.proofs.StoryLaws.{born-laid, frame-new}
use Rattle.tag_story.proofs.StoryLists.{pushed-cases}
use Rattle.tag_story.specs.Story.{Placed, StoryBirth, OpenFrame, Story}
use Rattle.tag_story.specs.StoryFacts.{IsLaidOut, IsInRegion}
use Rattle.tag_story.specs.Telling.{lowest, stack_size, stack_end, variables_from, frame_at}
use Rattle.tag_story.specs.ToldRun.{ToldShared}
use Rattle.tbi_memory.proofs.ListLemmas.{slice_get-set_at, slice_get-set_other}
use Rattle.tbi_memory.specs.AddressSpace.{AddressSpace}
use Rattle.simulation.proofs.BirthLists.{told_birth, new-there}
use Rattle.simulation.proofs.BirthRelated.{ObjectsRelated, birth-related}
use Rattle.simulation.proofs.BlockBorn.{objects-of, block-pushed, freed-pushed, frames-pushed, ended-pushed, open-pushed}
use Rattle.simulation.proofs.FrameLists.{lowest-same, filter-first, filter-out, variables-sizes}
use Rattle.simulation.proofs.FreshMemory.{with_all_fresh, variables-fresh}
use Rattle.ir_lib.specs.Strings.{mapped_end}
use Rattle.simulation.proofs.MappedEnds.{all-ends}
use Rattle.simulation.proofs.MappedRegions.{stack-mapped, stack-past}
use Rattle.simulation.specs.BirthsAndDeaths.{ChainsStay}
use Rattle.simulation.specs.Parts.{IsChain, HasBlocks, AreEach, IsFrameOf, AreOpen, frames_of_task, IsEndedOf, ended_by_task}
use Rattle.simulation.specs.Relation.{IsSetting, StacksRelated, SharedRelated, story_setting}

-- ---- places

-- both sides find the lowest address of a task's frames
pub stacks-end : (setting : MachineSetting) (w : Story) (table : List ChainEntry) (m : stacks.StacksState) (task : ℕ) → StacksRelated setting w table m → stacks.stack_end m task ≡ stack_end setting.places task
stacks-end setting w table m task related = ap (λ from. from + (task + 1) * m.stack_length) related.from ∙ ap (λ n. setting.places.stacks_at + (task + 1) * n) related.stack_length

pub top-same : (setting : MachineSetting) (w : Story) (table : List ChainEntry) (m : stacks.StacksState) (task : ℕ) (frames : TaskFrames) → StacksRelated setting w table m → slice_get m.tasks task ≡ Some frames → stacks.top_of_stack m task ≡ lowest (story_setting setting) w task
top-same setting w table m task frames related there =
    ap (λ (o : Option TaskFrames). stacks.top_above (stacks.stack_end m task) (unwrap_or o stacks.no_frames).living) there
    ∙ ap (λ end. stacks.top_above end frames.living) (stacks-end setting w table m task related)
    ∙ lowest-same table w.births task (stack_end setting.places task) frames.living w.frames (related.living task frames there)

pub living-same : (setting : MachineSetting) (w : Story) (table : List ChainEntry) (m : stacks.StacksState) (task : ℕ) (frames : TaskFrames) → StacksRelated setting w table m → slice_get m.tasks task ≡ Some frames → stacks.living_size m task ≡ stack_size (story_setting setting) w task
living-same setting w table m task frames related there =
    ap (λ end. end - stacks.top_of_stack m task) (stacks-end setting w table m task related)
    ∙ ap (λ low. stack_end setting.places task - low) (top-same setting w table m task frames related there)

all-constants : (space : AddressSpace) (objects : List Placed) → ((with_all_fresh space objects).constants_at ≡ space.constants_at) × ((with_all_fresh space objects).constants_end ≡ space.constants_end)
unfolding with_all_fresh
all-constants space [] = (refl, refl)
all-constants space (x ∷ xs) = all-constants (Rattle.tbi_memory.specs.ObjectMemory.with_fresh_object space x.at x.size x.tag) xs

-- ---- the entry

module _ (setting : MachineSetting) (t : ToldShared) (m : MachineShared) (is : IsSetting setting) (related : SharedRelated setting t m) (func task : ℕ) (chain : List Site) (sizes : List ℕ) (table : List ChainEntry) (number : ℕ) (chains : ChainsStay m.chains table) (is_table : IsChainTable table) (born : IsChain table number chain)
    (task_frames : TaskFrames) (there : slice_get m.stacks.tasks task ≡ Some task_frames) (few : task < setting.places.most_tasks) (fits : stack_size (story_setting setting) t.story task + frame_size sizes ≤ setting.places.stack_length) where
  abbrev word : ℕ
  word = setting.word t.story.drawn

  abbrev low : ℕ
  low = lowest (story_setting setting) t.story task - frame_size sizes

  abbrev variables : List Placed
  variables = variables_from word 0 low sizes

  abbrev new_birth : StoryBirth
  new_birth = told_birth (Stack func) task chain variables

  abbrev new_open : OpenFrame
  new_open = record { birth = length t.story.births; task = task; low = low }

  abbrev new_living : LivingFrame
  new_living = record { frame = record { func = func; low = low; word = word; birth = length t.story.births; born = number; died = None }; sizes = sizes }

  -- both sides after the entry
  abbrev pub told_after : ToldShared
  told_after =
      record {
        source = record t.source { births = t.source.births ++ fresh_birth (Stack func) task chain sizes ∷ [] };
        story = frame_at (story_setting setting) t.story func task low chain sizes;
      }

  abbrev pub machine_after : MachineShared
  machine_after =
      record m {
        memory = with_variables m.memory word 0 low sizes;
        stacks = record m.stacks { tasks = slice_set m.stacks.tasks task (with_frame (stacks.frames_of m.stacks task) new_living) };
        chains = table;
        births = m.births + 1;
        drawn = m.drawn + 1;
      }

  laid : IsLaidOut (story_setting setting) told_after.story
  laid =
      born-laid (story_setting setting) t.story (Stack func) task chain variables (new_open ∷ t.story.frames) t.story.heap_size related.laid
      (frame-new (story_setting setting) t.story func task word sizes is.room related.laid few fits)

  variable-inside : (k : ℕ) (x : Placed) → slice_get variables k ≡ Some x → IsInRegion (story_setting setting) (Stack func) task x
  variable-inside k x h = laid.inside (length t.story.births) k new_birth x (record { there = new-there t.story.births new_birth; object = h })

  objects : ObjectsRelated setting told_after.source.births told_after.story (with_variables m.memory word 0 low sizes) m.globals
  objects =
      subst (λ space. ObjectsRelated setting told_after.source.births told_after.story space m.globals) (sym (variables-fresh m.memory word 0 low sizes))
      (birth-related setting t.source.births t.story m.memory m.globals is related.laid (objects-of setting t m related) (Stack func) task chain sizes variables (new_open ∷ t.story.frames) t.story.heap_size laid (variables-sizes word 0 low sizes)
      (λ k x h. stack-mapped (story_setting setting) func task x (variable-inside k x h))
      (λ k x h. let past = stack-past (story_setting setting) func task x is.room (variable-inside k x h) in let end = related.constants_end in omega (arith, past, end))
      (all-constants m.memory variables))

  blocks : HasBlocks table told_after.story.births m.heap.living
  blocks =
      record {
        from = λ i block h. let (birth, of) = related.heap.blocks.from i block h in (birth, block-pushed m.chains table t.story.births new_birth chains block birth of);
        to = λ n birth here region alive. elim (pushed-cases t.story.births new_birth n birth here) [
          | inl old ↦ related.heap.blocks.to n birth old region alive
          | inr new ↦ let wrong : Stack func ≡ Heap = ap (λ (b : StoryBirth). b.region) (sym new.1) ∙ region in absurd cc
        ];
      }

  -- ---- frames

  new-frame : IsFrameOf table told_after.story.births new_living new_open
  new-frame =
      record {
        birth = refl;
        low = refl;
        story = new_birth;
        there = new-there t.story.births new_birth;
        region = refl;
        alive = refl;
        objects = refl;
        born = born;
      }

  pub own-frames : frames_of_task task told_after.story.frames ≡ new_open ∷ frames_of_task task t.story.frames
  own-frames = filter-first (λ (x : OpenFrame). x.task == task) new_open t.story.frames (let same : (task == task) ≡ true = grind (arith, nat_tests) in same)

  pub other-frames : (other : ℕ) → other ≢ task → frames_of_task other told_after.story.frames ≡ frames_of_task other t.story.frames
  other-frames other apart = filter-out (λ (x : OpenFrame). x.task == other) new_open t.story.frames (let differ : (task == other) ≡ false = grind (arith, nat_tests) in differ)

  -- a task's frames after the entry: those of the task that entered, with one more, or those of another one
  abbrev AreFramesOf : (other : ℕ) → TaskFrames → Type 0
  AreFramesOf other frames = AreEach (IsFrameOf table told_after.story.births) frames.living (frames_of_task other told_after.story.frames) × AreEach (IsEndedOf table told_after.story.births) frames.ended (take setting.ring (ended_by_task other t.story.ended))

  frames-here : (frames : TaskFrames) → with_frame task_frames new_living ≡ frames → AreFramesOf task frames
  frames-here frames same = subst (AreFramesOf task) same (
    subst (AreEach (IsFrameOf table told_after.story.births) (new_living ∷ task_frames.living)) (sym own-frames) (new-frame, frames-pushed m.chains table t.story.births new_birth chains task_frames.living (frames_of_task task t.story.frames) (related.stacks.living task task_frames there)),
    ended-pushed m.chains table t.story.births new_birth chains task_frames.ended _ (related.stacks.ended task task_frames there),
  )

  frames-after : (other : ℕ) (frames : TaskFrames) → slice_get machine_after.stacks.tasks other ≡ Some frames → AreFramesOf other frames
  frames-after other frames h =
      elim (cases_eq other task) [
        | inl same ↦
            let one : option_map (λ _old. with_frame (stacks.frames_of m.stacks task) new_living) (slice_get m.stacks.tasks task) ≡ Some frames = sym (slice_get-set_at m.stacks.tasks task (with_frame (stacks.frames_of m.stacks task) new_living)) ∙ ap (slice_get machine_after.stacks.tasks) (sym same) ∙ h in
            let two : Some (with_frame task_frames new_living) ≡ Some frames = sym (ap (λ (o : Option TaskFrames). option_map (λ _old. with_frame (unwrap_or o stacks.no_frames) new_living) o) there) ∙ one in
            subst (λ n. AreFramesOf n frames) (sym same) (frames-here frames (let is_frames : with_frame task_frames new_living ≡ frames = cc in is_frames))
        | inr apart ↦
            let before : slice_get m.stacks.tasks other ≡ Some frames = sym (slice_get-set_other m.stacks.tasks task other (with_frame (stacks.frames_of m.stacks task) new_living) apart) ∙ h in (
              subst (AreEach (IsFrameOf table told_after.story.births) frames.living) (sym (other-frames other apart)) (frames-pushed m.chains table t.story.births new_birth chains frames.living (frames_of_task other t.story.frames) (related.stacks.living other frames before)),
              ended-pushed m.chains table t.story.births new_birth chains frames.ended _ (related.stacks.ended other frames before),
            )
      ]

  opened : AreOpen told_after.story.births told_after.story.frames
  opened =
      record {
        below = below_at;
        once = once_at;
      }
    where
      before : AreOpen told_after.story.births t.story.frames
      before = open-pushed m.chains table t.story.births new_birth chains t.story.frames related.opened

      below_at : (i : ℕ) (f : OpenFrame) → slice_get (new_open ∷ t.story.frames) i ≡ Some f → f.birth < length told_after.story.births
      below_at zero f h = let same : new_open ≡ f = cc in let birth = ap (λ (x : OpenFrame). x.birth) same in let more = length-append t.story.births (new_birth ∷ []) in omega (arith, birth, more)
      below_at (suc i) f h = before.below i f h

      not_new : (i : ℕ) (f : OpenFrame) → slice_get t.story.frames i ≡ Some f → f.birth ≡ length t.story.births → ⊥
      not_new i f h e = let below = related.opened.below i f h in omega (arith, below, e)

      once_at : (i j : ℕ) (f g : OpenFrame) → slice_get (new_open ∷ t.story.frames) i ≡ Some f → slice_get (new_open ∷ t.story.frames) j ≡ Some g → f.birth ≡ g.birth → i ≡ j
      once_at zero zero f g h k e = refl
      once_at zero (suc j) f g h k e = let same : new_open ≡ f = cc in absurd (not_new j g k (sym e ∙ ap (λ (x : OpenFrame). x.birth) (sym same)))
      once_at (suc i) zero f g h k e = let same : new_open ≡ g = cc in absurd (not_new i f h (e ∙ ap (λ (x : OpenFrame). x.birth) (sym same)))
      once_at (suc i) (suc j) f g h k e = ap suc (related.opened.once i j f g h k e)

  pub frame-entered : SharedRelated setting told_after machine_after
  frame-entered =
      record {
        laid = laid;
        told = objects.told;
        their_bytes = objects.their_bytes;
        known = objects.known;
        table = is_table;
        tags = objects.tags;
        bytes = objects.bytes;
        mapped = objects.mapped;
        ends = subst (λ n. n < 2 ^ 56) (sym (ap (λ (s : AddressSpace). mapped_end s.bytes) (variables-fresh m.memory word 0 low sizes) ∙ all-ends m.memory variables)) related.ends;
        constants_at = let same = variables-fresh m.memory word 0 low sizes in ap (λ (s : AddressSpace). s.constants_at) same ∙ (all-constants m.memory variables).0 ∙ related.constants_at;
        constants_end = let same = variables-fresh m.memory word 0 low sizes in ap (λ (s : AddressSpace). s.constants_end) same ∙ (all-constants m.memory variables).1 ∙ related.constants_end;
        descriptors = related.descriptors;
        constants = objects.constants;
        globals = objects.globals;
        heap = record {
          from = related.heap.from;
          end = related.heap.end;
          blocks = blocks;
          size = related.heap.size;
          ring = related.heap.ring;
          freed = λ other records h. freed-pushed m.chains table t.story.births new_birth chains records _ (related.heap.freed other records h);
        };
        freed = related.freed;
        stacks = record {
          from = related.stacks.from;
          stack_length = related.stacks.stack_length;
          ring = related.stacks.ring;
          living = λ other frames h. (frames-after other frames h).0;
          ended = λ other frames h. (frames-after other frames h).1;
        };
        opened = opened;
        births = let more = length-append t.story.births (new_birth ∷ []) in let before = related.births in omega (arith, more, before);
        drawn = ap (λ n. n + 1) related.drawn;
        input = related.input;
      }
