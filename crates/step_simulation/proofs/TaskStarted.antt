-- A new task has a stack and a ring of its own, both empty, and enters its function.
use Rattle.std.proofs.Common.{◌≡◌, ◌≢◌, ℕ, zero, suc, ◌+◌, ◌-◌, ◌<◌, ◌≤◌, ◌==◌, Bool, true, false, nat_le, if◌then◌else◌, List, [], ◌∷◌, length, map, take, slice_get, slice_set, Option, Some, None, Result, Ok, Err, inl, inr, refl, sym, ◌∙◌, ap, subst, arith}
use Rattle.std.specs.List.{filter}
use Rattle.std.proofs.lemmas.Bool.{leb-true}
use Rattle.std.proofs.lemmas.Bool.Decides.{nat_tests}
use Rattle.std.proofs.lemmas.List.{length-set, length-map, length-append}
use Rattle.hw_base.specs.AddressMap.{frame_size}
use Rattle.hw_base.specs.declared.endings.Full.{Full}
use Rattle.hw_base.specs.declared.endings.Space.TheVariants.{Stack as StackSpace}
use Rattle.hw_base.specs.declared.pointers.Site.{Site}
use Rattle.ir_core.specs.declared.ir_module.Function.{Function}
use Rattle.ir_machine.proofs.CodeAt.{get-below}
use Rattle.ir_machine.proofs.EntryPlaces.{has_variables, begins-code, code-there}
use Rattle.ir_machine.specs.CallSteps as machine
use Rattle.ir_machine.specs.CallSteps.{code_at, begins_with_entry, AfterEntry, frame_for}
use Rattle.ir_machine.specs.State.{MachineSetting, MachineShared}
use Rattle.ir_machine.specs.TaskFunctions.{with_task}
use Rattle.ir_meaning.specs.Births.{Stack, Living}
use Rattle.ir_meaning.specs.CallSteps as source
use Rattle.ir_meaning.specs.CallSteps.{entry_frame}
use Rattle.ir_meaning.specs.State.{SourceFrame}
use Rattle.ir_meaning.specs.Values.{Value}
use Rattle.mi_code.specs.TagChecks.{enter_code}
use Rattle.mi_code.specs.declared.code_functions.CodeFunction.{CodeFunction}
use Rattle.stack_tags.specs.FrameSteps as frames
use Rattle.stack_tags.specs.Frames as stacks
use Rattle.stack_tags.specs.Frames.{LivingFrame, TaskFrames}
use Rattle.tag_story.proofs.StoryLists.{pushed-cases}
use Rattle.tag_story.specs.Story.{StorySetting, StoryBirth, OpenFrame, EndedFrame, FreedBlock, Story, Placed, placed_in}
use Rattle.tag_story.specs.Telling as telling
use Rattle.tag_story.specs.Telling.{told, all_told, on_told, lowest, stack_size, variables_from}
use Rattle.tag_story.specs.ToldRun.{ToldShared}
use Rattle.simulation.proofs.BirthLists.{new-there}
use Rattle.step_simulation.proofs.CallFollows.{new-frame}
use Rattle.step_simulation.proofs.EntryRegisters.{IsArgument}
use Rattle.simulation.proofs.FrameEntered.{top-same, living-same, frame-entered, own-frames, other-frames}
use Rattle.simulation.proofs.FrameLists.{filter-out, variables-sizes}
use Rattle.simulation.proofs.Images.{stays-born, value-stays, known-stays}
use Rattle.simulation.proofs.TablesKept.{each-map}
use Rattle.simulation.specs.Images.{Stays}
use Rattle.simulation.specs.Parts.{IsChain, IsFreedOf, freed_by_task, AreEach, IsFrameOf, frames_of_task, IsEndedOf, ended_by_task, AreStarted}
use Rattle.simulation.specs.Relation.{IsSetting, HasTables, SharedRelated, HasVariables, FrameRelated, OwnsFrames, story_setting}

-- ---- the new task's tables

filter-none : {X : Type 0} (p : X → Bool) (xs : List X) → ((i : ℕ) (x : X) → slice_get xs i ≡ Some x → p x ≡ false) → filter p xs ≡ []
filter-none p [] each = refl
filter-none p (x ∷ xs) each = filter-out p x xs (each 0 x refl) ∙ filter-none p xs (λ i y h. each (suc i) y h)

differs : (a n : ℕ) → a < n → (a == n) ≡ false
differs a n h = grind (arith, nat_tests)

module _ (w : Story) (tasks : ℕ) (started : AreStarted tasks w) where
  pub no-freed : freed_by_task tasks w.freed ≡ []
  no-freed = filter-none (λ (x : FreedBlock). x.task == tasks) w.freed (λ i x h. differs x.task tasks (started.freed i x h))

  pub no-frames : frames_of_task tasks w.frames ≡ []
  no-frames = filter-none (λ (x : OpenFrame). x.task == tasks) w.frames (λ i x h. differs x.task tasks (started.frames i x h))

  pub no-ended : ended_by_task tasks w.ended ≡ []
  no-ended = filter-none (λ (x : EndedFrame). x.task == tasks) w.ended (λ i x h. differs x.task tasks (started.ended i x h))

take-nothing : {X : Type 0} (n : ℕ) → take {A = X} n [] ≡ []
take-nothing zero = refl
take-nothing (suc n) = refl

pub task-related : (setting : MachineSetting) (t : ToldShared) (m : MachineShared) (tasks : ℕ) → SharedRelated setting t m → HasTables tasks m → AreStarted tasks t.story → SharedRelated setting t (with_task m)
task-related setting t m tasks related tables started =
    record {
      laid = related.laid;
      told = related.told;
      their_bytes = related.their_bytes;
      known = related.known;
      table = related.table;
      tags = related.tags;
      bytes = related.bytes;
      mapped = related.mapped;
      ends = related.ends;
      constants_at = related.constants_at;
      constants_end = related.constants_end;
      descriptors = related.descriptors;
      constants = related.constants;
      globals = related.globals;
      heap = record {
        from = related.heap.from;
        end = related.heap.end;
        blocks = related.heap.blocks;
        size = related.heap.size;
        ring = related.heap.ring;
        freed = λ task records h. elim (pushed-cases m.heap.freed [] task records h) [
          | inl old ↦ related.heap.freed task records old
          | inr new ↦
              subst (λ rs. AreEach (IsFreedOf m.chains t.story.births) rs (take setting.ring (freed_by_task task t.story.freed))) (sym new.1)
              (subst (λ xs. AreEach (IsFreedOf m.chains t.story.births) [] xs) (sym (ap (λ n. take setting.ring (freed_by_task n t.story.freed)) (new.0 ∙ tables.rings) ∙ ap (take setting.ring) (no-freed t.story tasks started) ∙ take-nothing setting.ring)) tt)
        ];
      };
      freed = related.freed;
      stacks = record {
        from = related.stacks.from;
        stack_length = related.stacks.stack_length;
        ring = related.stacks.ring;
        living = λ task frames h. elim (pushed-cases m.stacks.tasks stacks.no_frames task frames h) [
          | inl old ↦ related.stacks.living task frames old
          | inr new ↦
              subst (λ (fs : TaskFrames). AreEach (IsFrameOf m.chains t.story.births) fs.living (frames_of_task task t.story.frames)) (sym new.1)
              (subst (λ xs. AreEach (IsFrameOf m.chains t.story.births) [] xs) (sym (ap (λ n. frames_of_task n t.story.frames) (new.0 ∙ tables.stacks) ∙ no-frames t.story tasks started)) tt)
        ];
        ended = λ task frames h. elim (pushed-cases m.stacks.tasks stacks.no_frames task frames h) [
          | inl old ↦ related.stacks.ended task frames old
          | inr new ↦
              subst (λ (fs : TaskFrames). AreEach (IsEndedOf m.chains t.story.births) fs.ended (take setting.ring (ended_by_task task t.story.ended))) (sym new.1)
              (subst (λ xs. AreEach (IsEndedOf m.chains t.story.births) [] xs) (sym (ap (λ n. take setting.ring (ended_by_task n t.story.ended)) (new.0 ∙ tables.stacks) ∙ ap (take setting.ring) (no-ended t.story tasks started) ∙ take-nothing setting.ring)) tt)
        ];
      };
      opened = related.opened;
      births = related.births;
      drawn = related.drawn;
      input = related.input;
    }

pub task-tables : (m : MachineShared) (tasks : ℕ) → HasTables tasks m → HasTables (tasks + 1) (with_task m)
task-tables m tasks tables =
    record {
      rings = let count = length-append m.heap.freed ([] ∷ []) in let rings = tables.rings in omega (arith, count, rings);
      stacks = let count = length-append m.stacks.tasks (stacks.no_frames ∷ []) in let own = tables.stacks in omega (arith, count, own);
    }

-- ---- its entry

-- both sides after a task has entered a function
pub record HasEntered (setting : MachineSetting) (t : ToldShared) (m : MachineShared) (task tasks : ℕ) (births : List Rattle.ir_meaning.specs.Births.Birth) (story : Story) (birth : Option ℕ) (entered_frame : Rattle.ir_tasks.specs.Frames.Frame) (source_frame : SourceFrame) (after : MachineShared) : Type 0 where
  pub related : SharedRelated setting (record { source = record t.source { births = births }; story = story }) after
  pub frame : FrameRelated setting story.births after.chains source_frame entered_frame
  pub places : Stays t.story.births story.births
  pub same_chains : after.chains ≡ m.chains
  pub owned : OwnsFrames task (source_frame ∷ []) story
  pub frames : (other : ℕ) → other ≢ task → frames_of_task other story.frames ≡ frames_of_task other t.story.frames
  pub tables : HasTables tasks after
  pub started : AreStarted tasks story

-- what the story and the machine say of an entry: both go on, or both are full
pub data Enters (setting : MachineSetting) (t : ToldShared) (m : MachineShared) (func task tasks : ℕ) (g : Function) (values : List Value) (numbers : List ℕ) (chain : List Site) (number : ℕ) (entry : source.Entry) : Result Story Full → Result AfterEntry Full → Type 0 where
  goes : (story : Story) (after : AfterEntry) → HasEntered setting t m task tasks entry.births story entry.birth (frame_for setting.code func after.place numbers number) (entry_frame g func values entry.birth chain) after.shared → Enters setting t m func task tasks g values numbers chain number entry (Ok story) (Ok after)
  full : (why : Full) → Enters setting t m func task tasks g values numbers chain number entry (Err why) (Err why)

-- a task without frames enters a function, with a chain that the table knows
module _ (setting : MachineSetting) (t : ToldShared) (m : MachineShared) (is : IsSetting setting) (related : SharedRelated setting t m) (func task tasks : ℕ) (below : task < tasks) (few_tasks : task < setting.places.most_tasks) (tables : HasTables tasks m) (started : AreStarted tasks t.story) (none : frames_of_task task t.story.frames ≡ []) (g : Function) (there : slice_get setting.program.functions func ≡ Some g)
    (values : List Value) (numbers : List ℕ) (few : length values ≤ length g.regs) (each : AreEach (IsArgument t.story.births) values numbers) (chain : List Site) (number : ℕ) (known : IsChain m.chains number chain) where
  abbrev e : StorySetting
  e = story_setting setting

  task-there : (frames : TaskFrames) × (slice_get m.stacks.tasks task ≡ Some frames)
  task-there = let many = tables.stacks in get-below m.stacks.tasks task (omega (arith, many, below))

  plain-entered : g.allocas ≡ [] → HasEntered setting t m task tasks t.source.births t.story None (frame_for setting.code func 0 numbers number) (entry_frame g func values None chain) m
  plain-entered no_variables =
      record {
        related = related;
        frame =
            subst (λ place. FrameRelated setting t.story.births m.chains (entry_frame g func values None chain) (frame_for setting.code func place numbers number)) (ap (λ sizes. length (enter_code sizes)) no_variables)
            (new-frame setting t.story.births m.chains func g values numbers None chain number is there few each (subst (λ sizes. HasVariables t.story.births sizes None) (sym no_variables) tt) known);
        places = λ o x h. h;
        same_chains = refl;
        owned = ap (map (λ (o : OpenFrame). o.birth)) (sym none);
        frames = λ other apart. refl;
        tables = tables;
        started = started;
      }

  module _ (size : ℕ) (sizes : List ℕ) (are : g.allocas ≡ size ∷ sizes) where
    abbrev low : ℕ
    low = lowest e t.story task - frame_size (size ∷ sizes)

    abbrev variables : List Placed
    variables = variables_from (setting.word t.story.drawn) 0 low (size ∷ sizes)

    abbrev new_birth : StoryBirth
    new_birth = record { region = Stack func; task = task; born = chain; life = Living; objects = variables }

    abbrev machine_entered : LivingFrame → MachineShared
    machine_entered newest =
        record m {
          memory = frames.with_variables m.memory newest.frame.word 0 newest.frame.low newest.sizes;
          stacks = record m.stacks { tasks = slice_set m.stacks.tasks task (frames.with_frame (stacks.frames_of m.stacks task) newest) };
          births = m.births + 1;
          drawn = m.drawn + 1;
        }

    abbrev machine_newest : LivingFrame
    machine_newest = frames.new_frame m.stacks task func (setting.word m.drawn) (size ∷ sizes) m.births number

    abbrev story_newest : LivingFrame
    story_newest = record { frame = record { func = func; low = low; word = setting.word t.story.drawn; birth = length t.story.births; born = number; died = None }; sizes = size ∷ sizes }

    same-newest : machine_newest ≡ story_newest
    same-newest =
        ap (λ top. record { frame = record { func = func; low = top - frame_size (size ∷ sizes); word = setting.word m.drawn; birth = m.births; born = number; died = None }; sizes = size ∷ sizes }) (top-same setting t.story m.chains m.stacks task task-there.0 related.stacks task-there.1)
        ∙ ap (λ drawn. record { frame = record { func = func; low = low; word = setting.word drawn; birth = m.births; born = number; died = None }; sizes = size ∷ sizes }) related.drawn
        ∙ ap (λ births. record { frame = record { func = func; low = low; word = setting.word t.story.drawn; birth = births; born = number; died = None }; sizes = size ∷ sizes }) related.births

    abbrev story_after : Story
    story_after = telling.frame_at e t.story func task low chain (size ∷ sizes)

    birth-is : length t.source.births ≡ length t.story.births
    birth-is = sym related.told.count

    variables-born : HasVariables story_after.births g.allocas (Some (length t.source.births))
    variables-born =
        subst (λ all. HasVariables story_after.births all (Some (length t.source.births))) (sym are) (λ k within.
        let many : length (map (λ (x : Placed). x.size) variables) ≡ length (size ∷ sizes) = ap length (variables-sizes (setting.word t.story.drawn) 0 low (size ∷ sizes)) in
        let mapped : length (map (λ (x : Placed). x.size) variables) ≡ length variables = length-map _ _ in
        let (x, object) = get-below variables k (omega (arith, many, mapped, within)) in
        (x, ap (λ n. placed_in (slice_get story_after.births n) k) birth-is ∙ ap (λ b. placed_in b k) (new-there t.story.births new_birth) ∙ object))

    some-entered : stack_size e t.story task + frame_size (size ∷ sizes) ≤ setting.places.stack_length
        → HasEntered setting t m task tasks (source.entry_of t.source.births func task chain (size ∷ sizes)).births story_after (Some (length t.source.births)) (frame_for setting.code func 1 numbers number) (entry_frame g func values (Some (length t.source.births)) chain) (machine_entered machine_newest)
    some-entered fits =
        let stays = stays-born t.story.births (new_birth ∷ []) in
        let moved = each-map (IsArgument t.story.births) (IsArgument story_after.births) values numbers (λ v n h. record { image = h.image ∙ sym (value-stays t.story.births story_after.births v stays h.known); known = known-stays t.story.births story_after.births v stays h.known; one = h.one }) each in
        let own = own-frames setting t m is related func task chain (size ∷ sizes) m.chains number (λ k c h. h) related.table known task-there.0 task-there.1 few_tasks fits in
        record {
          related = subst (λ (newest : LivingFrame). SharedRelated setting (record { source = record t.source { births = (source.entry_of t.source.births func task chain (size ∷ sizes)).births }; story = story_after }) (machine_entered newest)) (sym same-newest)
              (frame-entered setting t m is related func task chain (size ∷ sizes) m.chains number (λ k c h. h) related.table known task-there.0 task-there.1 few_tasks fits);
          frame =
              subst (λ place. FrameRelated setting story_after.births m.chains (entry_frame g func values (Some (length t.source.births)) chain) (frame_for setting.code func place numbers number)) (ap (λ all. length (enter_code all)) are)
              (new-frame setting story_after.births m.chains func g values numbers (Some (length t.source.births)) chain number is there few moved variables-born known);
          places = stays;
          same_chains = refl;
          owned = ap (λ n. n ∷ []) birth-is ∙ sym (ap (map (λ (o : OpenFrame). o.birth)) (own ∙ ap (λ xs. record { birth = length t.story.births; task = task; low = low } ∷ xs) none));
          frames = λ other apart. other-frames setting t m is related func task chain (size ∷ sizes) m.chains number (λ k c h. h) related.table known task-there.0 task-there.1 few_tasks fits other apart;
          tables = record { rings = tables.rings; stacks = length-set m.stacks.tasks task _ ∙ tables.stacks };
          started = record { freed = started.freed; ended = started.ended; frames = frames_at };
        }
      where
        frames_at : (i : ℕ) (x : OpenFrame) → slice_get story_after.frames i ≡ Some x → x.task < tasks
        frames_at zero x h = subst (λ n. n < tasks) (ap (λ (o : Option OpenFrame). elim o [ None ↦ 0 | Some y ↦ y.task ]) h) below
        frames_at (suc i) x h = started.frames i x h

    abbrev story_entry : Bool → Result Story Full
    story_entry bit = if bit then Ok story_after else Err (record { space = StackSpace; asked = frame_size (size ∷ sizes); living = stack_size e t.story task })

    abbrev machine_entry : Bool → Result AfterEntry Full
    machine_entry bit = if bit then Ok (record { shared = machine_entered machine_newest; place = 1 }) else Err (record { space = StackSpace; asked = frame_size (size ∷ sizes); living = stacks.living_size m.stacks task })

    living-is : stacks.living_size m.stacks task ≡ stack_size e t.story task
    living-is = living-same setting t.story m.chains m.stacks task task-there.0 related.stacks task-there.1

    entry-is : machine.entry_of setting task func number m ≡ machine_entry (nat_le (stack_size e t.story task + frame_size (size ∷ sizes)) setting.places.stack_length)
    unfolding machine.enter_step frames.entered frames.after_entry
    entry-is =
        ap (λ bit. machine.entry_if bit setting task func number m) (ap (λ (c : CodeFunction). begins_with_entry c.insts) (code-there setting setting.program is.code func g there) ∙ begins-code setting.program g func ∙ ap has_variables are)
        ∙ ap (λ all. machine.after_variables m (frames.entered m.stacks m.memory task func (setting.word m.drawn) all m.births number)) (ap machine.variables_by there ∙ are)
        ∙ ap (λ (bit : Bool). machine.after_variables m (elim bit [ true ↦ Ok (frames.after_entry m.stacks m.memory task machine_newest) | false ↦ Err (stacks.stack_full m.stacks task (size ∷ sizes)) ]))
        (ap (λ living. nat_le (living + frame_size (size ∷ sizes)) m.stacks.stack_length) living-is ∙ ap (nat_le (stack_size e t.story task + frame_size (size ∷ sizes))) related.stacks.stack_length)
        ∙ by_bit (nat_le (stack_size e t.story task + frame_size (size ∷ sizes)) setting.places.stack_length)
      where
        by_bit : (bit : Bool) → machine.after_variables m (elim bit [ true ↦ Ok (frames.after_entry m.stacks m.memory task machine_newest) | false ↦ Err (stacks.stack_full m.stacks task (size ∷ sizes)) ]) ≡ machine_entry bit
        by_bit true = refl
        by_bit false = refl

    by-room : (bit : Bool) → nat_le (stack_size e t.story task + frame_size (size ∷ sizes)) setting.places.stack_length ≡ bit → Enters setting t m func task tasks g values numbers chain number (source.entry_of t.source.births func task chain (size ∷ sizes)) (story_entry bit) (machine_entry bit)
    by-room true test = goes story_after (record { shared = machine_entered machine_newest; place = 1 }) (some-entered (leb-true _ _ test))
    by-room false test =
        subst (λ n. Enters setting t m func task tasks g values numbers chain number (source.entry_of t.source.births func task chain (size ∷ sizes)) (story_entry false) (Err (record { space = StackSpace; asked = frame_size (size ∷ sizes); living = n }))) (sym living-is)
        (full (record { space = StackSpace; asked = frame_size (size ∷ sizes); living = stack_size e t.story task }))

  -- the entry of the function
  entered-by : (all : List ℕ) → g.allocas ≡ all → Enters setting t m func task tasks g values numbers chain number (source.entry_of t.source.births func task chain all) (all_told e t.story (source.entry_of t.source.births func task chain all).news) (machine.entry_of setting task func number m)
  unfolding all_told told
  entered-by [] no_variables =
      subst (λ (r : Result AfterEntry Full). Enters setting t m func task tasks g values numbers chain number (record { births = t.source.births; birth = None; news = [] }) (Ok t.story) r)
      (sym (ap (λ bit. machine.entry_if bit setting task func number m) (ap (λ (c : CodeFunction). begins_with_entry c.insts) (code-there setting setting.program is.code func g there) ∙ begins-code setting.program g func ∙ ap has_variables no_variables)))
      (goes t.story (record { shared = m; place = 0 }) (plain-entered no_variables))
  entered-by (size ∷ sizes) are =
      subst (λ (r : Result AfterEntry Full). Enters setting t m func task tasks g values numbers chain number (source.entry_of t.source.births func task chain (size ∷ sizes)) (on_told (story_entry size sizes are (nat_le (stack_size e t.story task + frame_size (size ∷ sizes)) setting.places.stack_length)) (λ v. Ok v)) r) (sym (entry-is size sizes are))
      (subst (λ (r : Result Story Full). Enters setting t m func task tasks g values numbers chain number (source.entry_of t.source.births func task chain (size ∷ sizes)) r (machine_entry size sizes are (nat_le (stack_size e t.story task + frame_size (size ∷ sizes)) setting.places.stack_length))) (sym (on-ok (story_entry size sizes are (nat_le (stack_size e t.story task + frame_size (size ∷ sizes)) setting.places.stack_length))))
      (by-room size sizes are (nat_le (stack_size e t.story task + frame_size (size ∷ sizes)) setting.places.stack_length) refl))
    where
      on-ok : (r : Result Story Full) → on_told r (λ v. Ok v) ≡ r
      on-ok (Ok w) = refl
      on-ok (Err why) = refl

  pub task-entered : Enters setting t m func task tasks g values numbers chain number (source.entry_of t.source.births func task chain g.allocas) (all_told e t.story (source.entry_of t.source.births func task chain g.allocas).news) (machine.entry_of setting task func number m)
  task-entered = entered-by g.allocas refl
