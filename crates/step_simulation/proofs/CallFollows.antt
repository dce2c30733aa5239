-- The machine follows each call of a defined function: its frame is entered, the stack is full, or the calls are too deep.
use Rattle.std.proofs.Common.{◌≡◌, ◌≢◌, ℕ, zero, suc, ◌+◌, ◌-◌, ◌*◌, ◌<◌, ◌≤◌, ◌==◌, Bool, true, false, nat_le, if◌then◌else◌, List, [], ◌∷◌, ◌++◌, length, map, slice_get, slice_set, Option, Some, None, Result, Ok, Err, refl, sym, ◌∙◌, ap, subst, arith}
use Rattle.std.proofs.lemmas.Bool.{leb-true, eqb-true}
use Rattle.std.proofs.lemmas.List.{length-set, length-map}
use Rattle.dbg_sites.specs.ChainTable.{ChainEntry, IsChainTable}
use Rattle.hw_base.specs.AddressMap.{frame_size}
use Rattle.hw_base.specs.declared.endings.Full.{Full}
use Rattle.hw_base.specs.declared.endings.Space.TheVariants.{Stack as StackSpace}
use Rattle.hw_base.specs.declared.endings.Trap.TheVariants.{TooDeep}
use Rattle.hw_base.specs.declared.numbers.TheConstants.{MOST_FRAMES}
use Rattle.hw_base.specs.declared.pointers.Site.{Site}
use Rattle.hw_tags.specs.TaskRuns.{Goes, Ends}
use Rattle.ir_core.specs.ResolvedBodies.{IsResolvedFunction, IsResolvedOp}
use Rattle.ir_core.specs.declared.ir_module.Function.{Function}
use Rattle.ir_core.specs.declared.ir_module.Inst.{Inst}
use Rattle.ir_core.specs.declared.operands.Placed.{Placed as PlacedOperand}
use Rattle.ir_core.specs.declared.operations.Op.TheVariants as op
use Rattle.ir_machine.proofs.BlockPlaces.{all-at}
use Rattle.ir_machine.proofs.CodeAt.{get-below, place-zero}
use Rattle.ir_machine.proofs.EntryPlaces.{has_variables, begins-code, code-there}
use Rattle.ir_machine.specs.CallSteps as machine
use Rattle.ir_machine.specs.CallSteps.{code_at, begins_with_entry, AfterEntry, frame_for}
use Rattle.ir_machine.specs.Operands.{numbers_in}
use Rattle.ir_machine.specs.State.{MachineSetting, MachineShared, MachineSeen, MachineOutcome, IsFull}
use Rattle.ir_machine.specs.StepEnds.{chain_at, chain_known, traps}
use Rattle.ir_meaning.specs.Births.{Stack}
use Rattle.ir_meaning.specs.CallSteps as source
use Rattle.ir_meaning.specs.CallSteps.{entry_frame, on_arguments}
use Rattle.ir_meaning.specs.InstructionStep.{values_of}
use Rattle.ir_meaning.specs.Operands.{all_single}
use Rattle.ir_meaning.specs.State.{SourceFrame, telling}
use Rattle.ir_meaning.specs.StepEnds as StepEnds
use Rattle.ir_meaning.specs.Values.{Value}
use Rattle.mi_code.specs.Instrumentation.{place_of, code_of_function}
use Rattle.mi_code.specs.TagChecks.{enter_code}
use Rattle.mi_code.specs.MachineOperands.{operands_of}
use Rattle.mi_code.specs.declared.code_functions.CodeFunction.{CodeFunction}
use Rattle.stack_tags.specs.FrameSteps as frames
use Rattle.stack_tags.specs.Frames as stacks
use Rattle.stack_tags.specs.Frames.{LivingFrame, TaskFrames}
use Rattle.tag_story.specs.Story.{StoryBirth, OpenFrame, Story, Placed, placed_in}
use Rattle.tag_story.specs.Telling as telling
use Rattle.tag_story.specs.Telling.{told, all_told, on_told, lowest, stack_size}
use Rattle.tag_story.specs.ToldRun.{ToldShared, ToldSeen, ToldOutcome, source_seen, with_story, if_told}
use Rattle.simulation.proofs.BirthLists.{new-there}
use Rattle.step_simulation.proofs.BlockFollows.{site-chain, site-stay, site-table}
use Rattle.step_simulation.proofs.EntryRegisters.{IsArgument, arguments-given, entry-count, entry-registers}
use Rattle.simulation.proofs.FrameEntered.{top-same, living-same, frame-entered, own-frames, other-frames}
use Rattle.simulation.proofs.FrameLists.{variables-sizes}
use Rattle.simulation.proofs.Images.{stays-born}
use Rattle.step_simulation.proofs.LibraryParts.{caller-stays, callers-stay}
use Rattle.step_simulation.proofs.NewestFrame.{task-frames}
use Rattle.step_simulation.proofs.PlainSteps.{FollowsIn, own_site, same-function, traps-follows, named-follows}
use Rattle.simulation.proofs.TablesKept.{StayBut, each-map, each-length, block-kept, freed-kept, frame-kept, ended-kept}
use Rattle.simulation.specs.BirthsAndDeaths.{ChainsStay}
use Rattle.step_simulation.specs.Following.{Follows}
use Rattle.simulation.specs.Images.{Stays}
use Rattle.simulation.specs.Parts.{IsChain, IsBorn, IsBlockOf, IsFreedOf, AreEach, IsFrameOf, IsEndedOf, AreStarted, frames_of_task}
use Rattle.step_simulation.specs.RegisterSteps.{IsAt}
use Rattle.simulation.specs.Relation.{IsSetting, HasTables, SharedRelated, HasVariables, FrameRelated, CallerRelated, OwnsFrames, SeenLike, SeenRelated, story_setting}
use Rattle.tag_story.proofs.StoryLists.{get-below as below-get}

-- ---- a chain that gets a number

-- both sides stay related when the table of chains grows
pub chains-known : (setting : MachineSetting) (t : ToldShared) (m : MachineShared) (table : List ChainEntry) → SharedRelated setting t m → ChainsStay m.chains table → IsChainTable table → SharedRelated setting t (record m { chains = table })
chains-known setting t m table related chains is_table =
    record {
      laid = related.laid;
      told = related.told;
      their_bytes = related.their_bytes;
      known = related.known;
      table = is_table;
      tags = related.tags;
      bytes = related.bytes;
      mapped = related.mapped;
      ends = related.ends;
      constants_at = related.constants_at;
      constants_end = related.constants_end;
      descriptors = related.descriptors;
      constants = related.constants;
      globals = related.globals;
      heap = record {
        from = related.heap.from;
        end = related.heap.end;
        blocks = record {
          from = λ i block h.
              let (birth, of) = related.heap.blocks.from i block h in
              (birth, block-kept m.chains table t.story.births t.story.births (length t.story.births) chains same block birth (not-new block.birth birth of.there) of);
          to = related.heap.blocks.to;
        };
        size = related.heap.size;
        ring = related.heap.ring;
        freed = λ task records h.
            each-map (IsFreedOf m.chains t.story.births) (IsFreedOf table t.story.births) records _
            (λ f x of. freed-kept m.chains table t.story.births t.story.births (length t.story.births) chains same f x (not-new x.birth of.story of.there) of) (related.heap.freed task records h);
      };
      freed = related.freed;
      stacks = record {
        from = related.stacks.from;
        stack_length = related.stacks.stack_length;
        ring = related.stacks.ring;
        living = λ task frames h.
            each-map (IsFrameOf m.chains t.story.births) (IsFrameOf table t.story.births) frames.living _
            (λ f x of. frame-kept m.chains table t.story.births t.story.births (length t.story.births) chains same f x (not-new x.birth of.story of.there) of) (related.stacks.living task frames h);
        ended = λ task frames h.
            each-map (IsEndedOf m.chains t.story.births) (IsEndedOf table t.story.births) frames.ended _
            (λ f x of. ended-kept m.chains table t.story.births t.story.births (length t.story.births) chains same f x (not-new x.birth of.story of.there) of) (related.stacks.ended task frames h);
      };
      opened = related.opened;
      births = related.births;
      drawn = related.drawn;
      input = related.input;
    }
  where
    same : StayBut (length t.story.births) t.story.births t.story.births
    same n birth other h = h

    not-new : (n : ℕ) (birth : StoryBirth) → slice_get t.story.births n ≡ Some birth → n ≢ length t.story.births
    not-new n birth h is = let below = below-get t.story.births n birth h in omega (arith, below, is)

-- ---- the new frame

-- a function's new frame, at the code after its entry
pub new-frame : (setting : MachineSetting) (births : List StoryBirth) (table : List ChainEntry) (func : ℕ) (g : Function) (values : List Value) (numbers : List ℕ) (birth : Option ℕ) (chain : List Site) (number : ℕ) → IsSetting setting → slice_get setting.program.functions func ≡ Some g → length values ≤ length g.regs
    → AreEach (IsArgument births) values numbers → HasVariables births g.allocas birth → IsChain table number chain
    → FrameRelated setting births table (entry_frame g func values birth chain) (frame_for setting.code func (length (enter_code g.allocas)) numbers number)
unfolding code_of_function
new-frame setting births table func g values numbers birth chain number is there few each variables known =
    record {
      like = record {
        func = refl;
        sized = λ h k. entry-count (length g.regs) values few ∙ ap (λ (x : Function). length x.regs) (same-function setting.program func g h there k);
        variables = λ h k. subst (λ (x : Function). HasVariables births x.allocas birth) (same-function setting.program func g h there k) variables;
        registers =
            subst (λ n. Rattle.simulation.specs.Parts.HasRegisters births (source.entry_registers (length g.regs) values) (machine.with_arguments (Rattle.std.proofs.Common.replicate n 0) 0 numbers)) (sym code)
            (entry-registers births (length g.regs) values numbers few each);
        chain = known;
      };
      place = λ h k. sym (place-zero setting.program g) ∙ ap (λ (x : Function). place_of setting.program x 0) (same-function setting.program func g h there k);
    }
  where
    code : (code_at setting.code func).registers ≡ 2 * length g.regs
    code = ap (λ (c : CodeFunction). c.registers) (code-there setting setting.program is.code func g there)

-- ---- the entry in a step

module _ (setting : MachineSetting) (t : ToldSeen) (m : MachineSeen) (is : IsSetting setting) (like : SeenLike setting t m) where
  abbrev chain : List Site
  chain = own_site t ∷ t.frame.chain

  -- the machine with the chain of the step's site
  abbrev known : MachineSeen
  known = chain_known m (own_site t)

  known-shared : SharedRelated setting t.shared known.shared
  known-shared = chains-known setting t.shared m.shared known.shared.chains like.shared (site-stay setting t m like) (site-table setting t m like)

  -- the state in which the new frame runs, over what all tasks share after the entry
  called : (shared : ToldShared) (machine_shared : MachineShared) (frame : SourceFrame) (new : Rattle.ir_tasks.specs.Frames.Frame) → SharedRelated setting shared machine_shared → Stays t.shared.story.births shared.story.births → ChainsStay m.shared.chains machine_shared.chains
      → FrameRelated setting shared.story.births machine_shared.chains frame new → CallerRelated setting t.shared.story.births m.shared.chains t.frame m.frame → OwnsFrames t.task (frame ∷ t.frame ∷ t.callers) shared.story → HasTables (length t.finished) machine_shared → AreStarted (length t.finished) shared.story
      → SeenRelated setting (record t { shared = shared; frame = frame; callers = t.frame ∷ t.callers }) (record m { shared = machine_shared; frame = new; callers = m.frame ∷ m.callers })
  called shared machine_shared frame new related stays chains here caller owned tables started =
      record {
        like = record {
          shared = related;
          task = like.task;
          frame = here.like;
          callers = (caller-stays setting t.shared.story.births shared.story.births m.shared.chains machine_shared.chains t.frame m.frame stays chains caller, callers-stay setting t.shared.story.births shared.story.births m.shared.chains machine_shared.chains t.callers m.callers stays chains like.callers);
          owned = owned;
          finished = like.finished;
          step = like.step;
          there = like.there;
          few = like.few;
          tables = tables;
          started = started;
        };
        place = here.place;
      }

  module _ (func : ℕ) (g : Function) (there : slice_get setting.program.functions func ≡ Some g) (caller : CallerRelated setting t.shared.story.births m.shared.chains t.frame m.frame) (values : List Value) (numbers : List ℕ) (few : length values ≤ length g.regs) (each : AreEach (IsArgument t.shared.story.births) values numbers) where
    -- what comes of the entry in the source, by what the story says
    abbrev entered_told : source.Entry → Result Story Full → ToldOutcome
    entered_told entry r =
        if_told t r (λ w. Goes
        (with_story (record (source_seen t) { shared = record t.shared.source { births = entry.births }; frame = entry_frame g func values entry.birth chain; callers = t.frame ∷ t.callers }) w)
        (telling entry.news))

    -- and in the machine, by what its entry gives
    abbrev entered_machine : Result AfterEntry Full → MachineOutcome
    entered_machine r = machine.on_entry setting known func numbers (chain_at m (own_site t)) r

    -- a function without variables
    plain-entered : g.allocas ≡ [] → Follows setting t m.shared (entered_told (record { births = t.shared.source.births; birth = None; news = [] }) (Ok t.shared.story)) (entered_machine (Ok (record { shared = known.shared; place = 0 })))
    plain-entered none =
        let variables : HasVariables t.shared.story.births g.allocas None = subst (λ sizes. HasVariables t.shared.story.births sizes None) (sym none) tt in
        let new = new-frame setting t.shared.story.births known.shared.chains func g values numbers None chain (chain_at m (own_site t)) is there few each variables (site-chain setting t m like) in
        let here = subst (λ place. FrameRelated setting t.shared.story.births known.shared.chains (entry_frame g func values None chain) (frame_for setting.code func place numbers (chain_at m (own_site t)))) (ap (λ sizes. length (enter_code sizes)) none) new in (
          record known { frame = frame_for setting.code func 0 numbers (chain_at m (own_site t)); callers = m.frame ∷ m.callers },
          refl,
          called t.shared known.shared (entry_frame g func values None chain) (frame_for setting.code func 0 numbers (chain_at m (own_site t))) known-shared (λ o x h. h) (site-stay setting t m like) here caller like.owned (record { rings = like.tables.rings; stacks = like.tables.stacks }) like.started,
          record { chains = site-stay setting t m like; places = λ o x h. h; frames = λ task other. refl },
        )

    -- a function with variables
    module _ (size : ℕ) (sizes : List ℕ) (are : g.allocas ≡ size ∷ sizes) where
      abbrev number : ℕ
      number = chain_at m (own_site t)

      abbrev e : Rattle.tag_story.specs.Story.StorySetting
      e = story_setting setting

      few-tasks : t.task < setting.places.most_tasks
      few-tasks = let own = like.there in let most = like.few in omega (arith, own, most)

      -- the machine after the entry of a frame
      abbrev machine_entered : (task : ℕ) → LivingFrame → MachineShared
      machine_entered task newest =
          record known.shared {
            memory = frames.with_variables m.shared.memory newest.frame.word 0 newest.frame.low newest.sizes;
            stacks = record m.shared.stacks { tasks = slice_set m.shared.stacks.tasks task (frames.with_frame (stacks.frames_of m.shared.stacks task) newest) };
            births = m.shared.births + 1;
            drawn = m.shared.drawn + 1;
          }

      -- the frame in its table
      abbrev machine_newest : LivingFrame
      machine_newest = frames.new_frame m.shared.stacks m.task func (setting.word m.shared.drawn) (size ∷ sizes) m.shared.births number

      abbrev story_newest : LivingFrame
      story_newest =
          record {
            frame = record { func = func; low = lowest e t.shared.story t.task - frame_size (size ∷ sizes); word = setting.word t.shared.story.drawn; birth = length t.shared.story.births; born = number; died = None };
            sizes = size ∷ sizes;
          }

      same-newest : machine_newest ≡ story_newest
      same-newest =
          let (task_frames, there_too) = task-frames setting t m like in
          ap (λ task. frames.new_frame m.shared.stacks task func (setting.word m.shared.drawn) (size ∷ sizes) m.shared.births number) like.task
          ∙ ap (λ top. record { frame = record { func = func; low = top - frame_size (size ∷ sizes); word = setting.word m.shared.drawn; birth = m.shared.births; born = number; died = None }; sizes = size ∷ sizes }) (top-same setting t.shared.story m.shared.chains m.shared.stacks t.task task_frames like.shared.stacks there_too)
          ∙ ap (λ drawn. record { frame = record { func = func; low = lowest e t.shared.story t.task - frame_size (size ∷ sizes); word = setting.word drawn; birth = m.shared.births; born = number; died = None }; sizes = size ∷ sizes }) like.shared.drawn
          ∙ ap (λ births. record { frame = record { func = func; low = lowest e t.shared.story t.task - frame_size (size ∷ sizes); word = setting.word t.shared.story.drawn; birth = births; born = number; died = None }; sizes = size ∷ sizes }) like.shared.births

      -- the source after the entry
      abbrev told_shared : ToldShared
      told_shared =
          record {
            source = record t.shared.source { births = (source.entry_of t.shared.source.births func t.task chain (size ∷ sizes)).births };
            story = telling.frame_at e t.shared.story func t.task (lowest e t.shared.story t.task - frame_size (size ∷ sizes)) chain (size ∷ sizes);
          }

      module _ (fits : stack_size e t.shared.story t.task + frame_size (size ∷ sizes) ≤ setting.places.stack_length) where
        entered-shared : SharedRelated setting told_shared (machine_entered m.task machine_newest)
        entered-shared =
            let (task_frames, there_too) = task-frames setting t m like in
            subst (λ (newest : LivingFrame). SharedRelated setting told_shared (machine_entered m.task newest)) (sym same-newest)
            (subst (λ task. SharedRelated setting told_shared (machine_entered task story_newest)) (sym like.task)
            (frame-entered setting t.shared m.shared is like.shared func t.task chain (size ∷ sizes) known.shared.chains number (site-stay setting t m like) (site-table setting t m like) (site-chain setting t m like) task_frames there_too few-tasks fits))

        own-opened : frames_of_task t.task told_shared.story.frames ≡ record { birth = length t.shared.story.births; task = t.task; low = lowest e t.shared.story t.task - frame_size (size ∷ sizes) } ∷ frames_of_task t.task t.shared.story.frames
        own-opened =
            let (task_frames, there_too) = task-frames setting t m like in
            own-frames setting t.shared m.shared is like.shared func t.task chain (size ∷ sizes) known.shared.chains number (site-stay setting t m like) (site-table setting t m like) (site-chain setting t m like) task_frames there_too few-tasks fits

        -- the new frame's birth is the source's next one
        birth-is : length t.shared.source.births ≡ length t.shared.story.births
        birth-is = sym like.shared.told.count

        variables-born : HasVariables told_shared.story.births g.allocas (Some (length t.shared.source.births))
        variables-born =
            subst (λ all. HasVariables told_shared.story.births all (Some (length t.shared.source.births))) (sym are) (λ k below.
            let variables = Rattle.tag_story.specs.Telling.variables_from (setting.word t.shared.story.drawn) 0 (lowest e t.shared.story t.task - frame_size (size ∷ sizes)) (size ∷ sizes) in
            let many : length (map (λ (x : Placed). x.size) variables) ≡ length (size ∷ sizes) = ap length (variables-sizes (setting.word t.shared.story.drawn) 0 (lowest e t.shared.story t.task - frame_size (size ∷ sizes)) (size ∷ sizes)) in
            let mapped : length (map (λ (x : Placed). x.size) variables) ≡ length variables = length-map _ _ in
            let (x, object) = get-below variables k (omega (arith, many, mapped, below)) in (
              x,
              ap (λ n. placed_in (slice_get told_shared.story.births n) k) birth-is
                  ∙ ap (λ b. placed_in b k) (new-there t.shared.story.births (record { region = Stack func; task = t.task; born = chain; life = Rattle.ir_meaning.specs.Births.Living; objects = variables }))
                  ∙ object,
            ))

        owned : OwnsFrames t.task (entry_frame g func values (Some (length t.shared.source.births)) chain ∷ t.frame ∷ t.callers) told_shared.story
        owned =
            ap (λ births. length t.shared.source.births ∷ births) like.owned
            ∙ ap (λ n. n ∷ map (λ (o : OpenFrame). o.birth) (frames_of_task t.task t.shared.story.frames)) birth-is
            ∙ sym (ap (map (λ (o : OpenFrame). o.birth)) own-opened)

        entered-started : AreStarted (length t.finished) told_shared.story
        entered-started = record { freed = like.started.freed; ended = like.started.ended; frames = frames_at }
          where
            frames_at : (i : ℕ) (x : OpenFrame) → slice_get told_shared.story.frames i ≡ Some x → x.task < length t.finished
            frames_at zero x h = subst (λ n. n < length t.finished) (ap (λ (o : Option OpenFrame). elim o [ None ↦ 0 | Some y ↦ y.task ]) h) like.there
            frames_at (suc i) x h = like.started.frames i x h

        some-entered : Follows setting t m.shared (entered_told (source.entry_of t.shared.source.births func t.task chain (size ∷ sizes)) (Ok told_shared.story)) (entered_machine (Ok (record { shared = machine_entered m.task machine_newest; place = 1 })))
        some-entered =
            let stays = stays-born t.shared.story.births (record { region = Stack func; task = t.task; born = chain; life = Rattle.ir_meaning.specs.Births.Living; objects = Rattle.tag_story.specs.Telling.variables_from (setting.word t.shared.story.drawn) 0 (lowest e t.shared.story t.task - frame_size (size ∷ sizes)) (size ∷ sizes) } ∷ []) in
            let moved = each-map (IsArgument t.shared.story.births) (IsArgument told_shared.story.births) values numbers (λ v n h. record { image = h.image ∙ sym (Rattle.simulation.proofs.Images.value-stays t.shared.story.births told_shared.story.births v stays h.known); known = Rattle.simulation.proofs.Images.known-stays t.shared.story.births told_shared.story.births v stays h.known; one = h.one }) each in
            let new = new-frame setting told_shared.story.births known.shared.chains func g values numbers (Some (length t.shared.source.births)) chain number is there few moved variables-born (site-chain setting t m like) in
            let here = subst (λ place. FrameRelated setting told_shared.story.births known.shared.chains (entry_frame g func values (Some (length t.shared.source.births)) chain) (frame_for setting.code func place numbers number)) (ap (λ all. length (enter_code all)) are) new in
            let (task_frames, there_too) = task-frames setting t m like in (
              record known { shared = machine_entered m.task machine_newest; frame = frame_for setting.code func 1 numbers number; callers = m.frame ∷ m.callers },
              refl,
              called told_shared (machine_entered m.task machine_newest) (entry_frame g func values (Some (length t.shared.source.births)) chain) (frame_for setting.code func 1 numbers number) entered-shared stays (site-stay setting t m like) here caller owned
                  (record { rings = like.tables.rings; stacks = length-set m.shared.stacks.tasks m.task _ ∙ like.tables.stacks }) entered-started,
              record {
                chains = site-stay setting t m like;
                places = stays;
                frames = λ other apart. other-frames setting t.shared m.shared is like.shared func t.task chain (size ∷ sizes) known.shared.chains number (site-stay setting t m like) (site-table setting t m like) (site-chain setting t m like) task_frames there_too few-tasks fits other apart;
              },
            )

      -- what the story and the machine say, by whether there is room
      abbrev story_entry : Bool → Result Story Full
      story_entry bit = if bit then Ok told_shared.story else Err (record { space = StackSpace; asked = frame_size (size ∷ sizes); living = stack_size e t.shared.story t.task })

      abbrev machine_entry : Bool → Result AfterEntry Full
      machine_entry bit = if bit then Ok (record { shared = machine_entered m.task machine_newest; place = 1 }) else Err (record { space = StackSpace; asked = frame_size (size ∷ sizes); living = stacks.living_size m.shared.stacks m.task })

      living-is : stacks.living_size m.shared.stacks m.task ≡ stack_size e t.shared.story t.task
      living-is =
          let (task_frames, there_too) = task-frames setting t m like in
          ap (stacks.living_size m.shared.stacks) like.task ∙ living-same setting t.shared.story m.shared.chains m.shared.stacks t.task task_frames like.shared.stacks there_too

      entry-is : machine.entry_of setting m.task func number known.shared ≡ machine_entry (nat_le (stack_size e t.shared.story t.task + frame_size (size ∷ sizes)) setting.places.stack_length)
      unfolding machine.enter_step frames.entered frames.after_entry
      entry-is =
          ap (λ bit. machine.entry_if bit setting m.task func number known.shared) (ap (λ (c : CodeFunction). begins_with_entry c.insts) (code-there setting setting.program is.code func g there) ∙ begins-code setting.program g func ∙ ap has_variables are)
          ∙ ap (λ all. machine.after_variables known.shared (frames.entered m.shared.stacks m.shared.memory m.task func (setting.word m.shared.drawn) all m.shared.births number)) (ap machine.variables_by there ∙ are)
          ∙ ap (λ (bit : Bool). machine.after_variables known.shared (elim bit [ true ↦ Ok (frames.after_entry m.shared.stacks m.shared.memory m.task machine_newest) | false ↦ Err (stacks.stack_full m.shared.stacks m.task (size ∷ sizes)) ]))
          (ap (λ living. nat_le (living + frame_size (size ∷ sizes)) m.shared.stacks.stack_length) living-is ∙ ap (nat_le (stack_size e t.shared.story t.task + frame_size (size ∷ sizes))) like.shared.stacks.stack_length)
          ∙ by_bit (nat_le (stack_size e t.shared.story t.task + frame_size (size ∷ sizes)) setting.places.stack_length)
        where
          by_bit : (bit : Bool) → machine.after_variables known.shared (elim bit [ true ↦ Ok (frames.after_entry m.shared.stacks m.shared.memory m.task machine_newest) | false ↦ Err (stacks.stack_full m.shared.stacks m.task (size ∷ sizes)) ]) ≡ machine_entry bit
          by_bit true = refl
          by_bit false = refl

      by-room : (bit : Bool) → nat_le (stack_size e t.shared.story t.task + frame_size (size ∷ sizes)) setting.places.stack_length ≡ bit → Follows setting t m.shared (entered_told (source.entry_of t.shared.source.births func t.task chain (size ∷ sizes)) (story_entry bit)) (entered_machine (machine_entry bit))
      by-room true test = some-entered (leb-true _ _ test)
      by-room false test = (known.shared, m.frame ∷ m.callers, ap (λ n. Ends known.shared (m.frame ∷ m.callers) [] (IsFull (record { space = StackSpace; asked = frame_size (size ∷ sizes); living = n }))) living-is)

    -- the entry by the function's variables
    entered-by : (all : List ℕ) → g.allocas ≡ all → Follows setting t m.shared (entered_told (source.entry_of t.shared.source.births func t.task chain all) (all_told (story_setting setting) t.shared.story (source.entry_of t.shared.source.births func t.task chain all).news)) (entered_machine (machine.entry_of setting m.task func (chain_at m (own_site t)) known.shared))
    unfolding all_told told
    entered-by [] none =
        subst (λ (r : Result AfterEntry Full). Follows setting t m.shared (entered_told (record { births = t.shared.source.births; birth = None; news = [] }) (Ok t.shared.story)) (entered_machine r))
        (sym (ap (λ bit. machine.entry_if bit setting m.task func (chain_at m (own_site t)) known.shared) (ap (λ (c : CodeFunction). begins_with_entry c.insts) (code-there setting setting.program is.code func g there) ∙ begins-code setting.program g func ∙ ap has_variables none)))
        (plain-entered none)
    entered-by (size ∷ sizes) are =
        subst (λ (r : Result AfterEntry Full). Follows setting t m.shared (entered_told (source.entry_of t.shared.source.births func t.task chain (size ∷ sizes)) (on_told (story_entry size sizes are (nat_le (stack_size (story_setting setting) t.shared.story t.task + frame_size (size ∷ sizes)) setting.places.stack_length)) (λ v. Ok v))) (entered_machine r)) (sym (entry-is size sizes are))
        (subst (λ (r : Result Story Full). Follows setting t m.shared (entered_told (source.entry_of t.shared.source.births func t.task chain (size ∷ sizes)) r) (entered_machine (machine_entry size sizes are (nat_le (stack_size (story_setting setting) t.shared.story t.task + frame_size (size ∷ sizes)) setting.places.stack_length)))) (sym (on-ok (story_entry size sizes are (nat_le (stack_size (story_setting setting) t.shared.story t.task + frame_size (size ∷ sizes)) setting.places.stack_length))))
        (by-room size sizes are (nat_le (stack_size (story_setting setting) t.shared.story t.task + frame_size (size ∷ sizes)) setting.places.stack_length) refl))
      where
        on-ok : (r : Result Story Full) → on_told r (λ v. Ok v) ≡ r
        on-ok (Ok w) = refl
        on-ok (Err full) = refl

-- ---- the step

pub each-call-followed : (setting : MachineSetting) (t : ToldSeen) (m : MachineSeen) (f : Function) (inst : Inst) (func result : ℕ) (args : List PlacedOperand) → IsSetting setting → IsAt setting.program t f inst → inst.op ≡ op.Call func result args → IsResolvedOp setting.program f (op.Call func result args) → SeenRelated setting t m
    → FollowsIn setting t m (source.call_step setting.program (source_seen t) func (values_of setting.program (source_seen t) args)) (machine.call_step setting m (own_site t) func (operands_of args))
unfolding source.call_step machine.call_step on_arguments
each-call-followed setting t m f inst func result args is at same resolved related =
    named-follows setting t m (slice_get setting.program.functions func) _ _ (λ g there.
    named-follows setting t m (all_single (values_of setting.program (source_seen t) args)) _ _ (λ values are.
    by_count g there values (arguments-given setting t m f args values related.like resolved.2 are) (length values == g.params) refl))
  where
    caller : CallerRelated setting t.shared.story.births m.shared.chains t.frame m.frame
    caller = record { frame = record { like = related.like.frame; place = related.place }; at_call = record { function = f; inst = inst; func = func; result = result; args = args; there = at.function; instruction = at.instruction; call = same } }

    depth : suc (length m.callers) ≡ length t.callers + 1
    depth = let count = each-length _ t.callers m.callers related.like.callers in omega (arith, count)

    by_depth : (g : Function) → slice_get setting.program.functions func ≡ Some g → (values : List Value) → length values ≤ length g.regs → AreEach (IsArgument t.shared.story.births) values (numbers_in m (operands_of args)) → (bit : Bool)
        → FollowsIn setting t m (if bit then StepEnds.traps (source_seen t) TooDeep else source.entered (source_seen t) g func values (source.entry_of t.shared.source.births func t.task (own_site t ∷ t.frame.chain) g.allocas))
        (if bit then traps m (own_site t) TooDeep else machine.entered_call setting (chain_known m (own_site t)) func (numbers_in m (operands_of args)) (chain_at m (own_site t)))
    by_depth g there values few each true = traps-follows setting t m TooDeep related.like
    by_depth g there values few each false = entered-by setting t m is related.like func g there caller values (numbers_in m (operands_of args)) few each g.allocas refl

    by_count : (g : Function) → slice_get setting.program.functions func ≡ Some g → (values : List Value) → AreEach (IsArgument t.shared.story.births) values (numbers_in m (operands_of args)) → (bit : Bool) → (length values == g.params) ≡ bit
        → FollowsIn setting t m (if bit then (if nat_le MOST_FRAMES (length t.callers + 1) then StepEnds.traps (source_seen t) TooDeep else source.entered (source_seen t) g func values (source.entry_of t.shared.source.births func t.task (own_site t ∷ t.frame.chain) g.allocas)) else Rattle.hw_tags.specs.TaskRuns.Stuck)
        (if nat_le setting.places.most_frames (suc (length m.callers)) then traps m (own_site t) TooDeep else machine.entered_call setting (chain_known m (own_site t)) func (numbers_in m (operands_of args)) (chain_at m (own_site t)))
    by_count g there values each false test = tt
    by_count g there values each true test =
        let params = eqb-true (length values) g.params test in
        let has = (all-at (IsResolvedFunction setting.program) setting.program.functions func g is.runnable.resolved.functions there).registers in
        let room = has.parameters in
        subst (λ (bit : Bool). FollowsIn setting t m (if nat_le MOST_FRAMES (length t.callers + 1) then StepEnds.traps (source_seen t) TooDeep else source.entered (source_seen t) g func values (source.entry_of t.shared.source.births func t.task (own_site t ∷ t.frame.chain) g.allocas))
        (if bit then traps m (own_site t) TooDeep else machine.entered_call setting (chain_known m (own_site t)) func (numbers_in m (operands_of args)) (chain_at m (own_site t))))
        (sym (ap (λ most. nat_le most (suc (length m.callers))) is.frames ∙ ap (nat_le MOST_FRAMES) depth))
        (by_depth g there values (omega (arith, params, room)) each (nat_le MOST_FRAMES (length t.callers + 1)))
