-- The machine follows `pthread_create`, after its check: the new task enters its function, or the stack is full, or no more tasks start.
use Rattle.std.proofs.Common.{◌≡◌, ◌≢◌, ℕ, zero, suc, ◌+◌, ◌*◌, ◌%◌, ◌^◌, ◌<◌, ◌≤◌, ◌==◌, Bool, true, false, nat_le, nat_lt, if◌then◌else◌, List, [], ◌∷◌, ◌++◌, length, map, slice_get, slice_set, Option, Some, None, Result, Ok, Err, refl, sym, ◌∙◌, ap, subst, arith}
use Rattle.std.proofs.lemmas.Bool.{eqb-true, ltb-true, ltb-false, lt-leb, le-leb}
use Rattle.std.proofs.lemmas.List.{length-set, length-map, length-append}
use Rattle.hw_base.proofs.ByteLaws.{length-le_bytes}
use Rattle.hw_base.specs.Bytes.{le_bytes}
use Rattle.hw_base.specs.TaggedAddress.{address_of}
use Rattle.hw_base.specs.declared.accesses.Access.TheVariants.{Write}
use Rattle.hw_base.specs.declared.endings.Full.{Full}
use Rattle.hw_base.specs.declared.endings.Trap.TheVariants.{ReadOnly}
use Rattle.hw_base.specs.declared.numbers.TheConstants.{MOST_TASKS, TASK_NUMBER_SIZE}
use Rattle.hw_base.specs.declared.pointers.Base.{Base}
use Rattle.hw_base.specs.declared.pointers.Base.TheVariants.{Null, Object}
use Rattle.hw_base.specs.declared.pointers.Site.{Site}
use Rattle.hw_tags.specs.TaskRuns.{Starts, Ends}
use Rattle.ir_core.specs.ResolvedBodies.{IsResolvedFunction}
use Rattle.ir_core.specs.declared.ir_module.Function.{Function}
use Rattle.ir_core.specs.declared.operands.StartArg.{StartArg}
use Rattle.ir_machine.proofs.BlockPlaces.{all-at}
use Rattle.ir_machine.specs.CallSteps.{AfterEntry, frame_for, entry_of}
use Rattle.ir_machine.specs.State.{MachineSetting, MachineShared, MachineSeen, MachineOutcome, IsFull}
use Rattle.ir_machine.specs.StepEnds.{advanced, chain_at, chain_known, with_result, on_memory, with_writable}
use Rattle.ir_machine.specs.TaskFunctions as machine
use Rattle.ir_machine.specs.TaskFunctions.{with_task}
use Rattle.ir_meaning.proofs.BirthChangeLaws.{slice_get-pushed}
use Rattle.ir_meaning.specs.AccessRule.{Fine, WritesConstant, OnNothing, access_rule, accessed_in, bytes_answer, access_answer}
use Rattle.ir_meaning.specs.Births.{Birth, object_in, region_in}
use Rattle.ir_meaning.specs.CallSteps as calls
use Rattle.ir_meaning.specs.CallSteps.{entry_frame, on_arguments}
use Rattle.ir_meaning.specs.Operands.{with_named, with_value}
use Rattle.ir_meaning.specs.Encoding.{number_bytes}
use Rattle.ir_meaning.specs.State.{telling}
use Rattle.ir_meaning.specs.StepEnds.{gives, traps}
use Rattle.ir_meaning.specs.TaskFunctions as source
use Rattle.ir_meaning.specs.Values.{Value, Integer, Address}
use Rattle.mi_code.specs.MachineOperands.{call_result}
use Rattle.tag_story.specs.Story.{Story, OpenFrame, number_of}
use Rattle.tag_story.specs.Telling.{all_told}
use Rattle.tag_story.specs.ToldRun.{ToldSeen, ToldOutcome, source_seen, with_story, if_told}
use Rattle.tbi_memory.specs.AddressSpace.{written, with_bytes}
use Rattle.step_simulation.proofs.BlockFollows.{site-chain, site-stay, site-table}
use Rattle.step_simulation.proofs.CallFollows.{chains-known}
use Rattle.step_simulation.proofs.EntryRegisters.{IsArgument}
use Rattle.simulation.proofs.FinePasses.{fine-nothing}
use Rattle.simulation.proofs.Images.{number-stays, registers-stay}
use Rattle.step_simulation.proofs.LibraryParts.{variables-stay, callers-stay, gives_to-follows, with_pointer-is}
use Rattle.step_simulation.proofs.PlainSteps.{FollowsIn, IsBeforeNext, IsNumberOf, own_site, moved-related, named-follows, value-follows}
use Rattle.step_simulation.proofs.RegisterImages.{register-set}
use Rattle.simulation.specs.BirthsAndDeaths.{ChainsStay}
use Rattle.step_simulation.proofs.TaskStarted.{no-frames, task-related, task-tables, HasEntered, Enters, goes, full, task-entered}
use Rattle.simulation.proofs.WriteAllowed.{fine-written}
use Rattle.step_simulation.proofs.WritesFollow.{data-known, data-image, told_stored, numbers_stored, stored-like, fine-asked, constant-asked}
use Rattle.simulation.specs.Checks.{lies_inside}
use Rattle.step_simulation.specs.Following.{KeepsOlder, Follows, told_with_task, machine_with_task}
use Rattle.simulation.specs.Parts.{IsKnownBase, AreEach, AreStarted, frames_of_task}
use Rattle.simulation.specs.Relation.{IsSetting, HasTables, SharedRelated, SeenLike, story_setting}

-- ---- an access after a birth

-- an access that is fine stays so when a birth comes
pub fine-pushed : (births more : List Birth) (base : Base) (off n align : ℕ) → access_answer births Write base off (suc n) align ≡ Fine → access_answer (births ++ more) Write base off (suc n) align ≡ Fine
unfolding access_rule
fine-pushed births more Null off n align fine = fine
fine-pushed births more (Object o) off n align fine = by_birth (slice_get births o.birth) refl fine
  where
    by_birth : (b : Option Birth) → slice_get births o.birth ≡ b → bytes_answer Write (accessed_in (region_in (slice_get births o.birth)) (object_in (slice_get births o.birth) o.index)) off (suc n) align ≡ Fine
        → bytes_answer Write (accessed_in (region_in (slice_get (births ++ more) o.birth)) (object_in (slice_get (births ++ more) o.birth) o.index)) off (suc n) align ≡ Fine
    by_birth None here h = absurd (fine-nothing Write OnNothing off n align (Rattle.std.proofs.Common.inl refl) (ap lies_inside (ap (λ b. bytes_answer Write (accessed_in (region_in b) (object_in b o.index)) off (suc n) align) (sym here) ∙ h)))
    by_birth (Some birth) here h =
        let same = slice_get-pushed births more o.birth birth here in
        ap (λ b. bytes_answer Write (accessed_in (region_in b) (object_in b o.index)) off (suc n) align) (same ∙ sym here) ∙ h

entry-fine : (births : List Birth) (func task : ℕ) (chain : List Site) (sizes : List ℕ) (base : Base) (off n align : ℕ) → access_answer births Write base off (suc n) align ≡ Fine → access_answer (calls.entry_of births func task chain sizes).births Write base off (suc n) align ≡ Fine
entry-fine births func task chain [] base off n align fine = fine
entry-fine births func task chain (size ∷ sizes) base off n align fine = fine-pushed births _ base off n align fine

module _ (setting : MachineSetting) (t : ToldSeen) (m : MachineSeen) (f : Function) (is : IsSetting setting) (like : SeenLike setting t m) (before : IsBeforeNext setting t m f) (base : Base) (off at : ℕ) (pointer : at ≡ number_of t.shared.story.births base off) (known_base : IsKnownBase t.shared.story.births base) (fine : access_answer t.shared.source.births Write base off TASK_NUMBER_SIZE TASK_NUMBER_SIZE ≡ Fine)
    (func : ℕ) (g : Function) (there : slice_get setting.program.functions func ≡ Some g) (value : Value) (argument : ℕ) (given : IsArgument t.shared.story.births value argument) (few : length (value ∷ []) ≤ length g.regs) (room : length t.finished < setting.places.most_tasks) where
  abbrev tasks : ℕ
  tasks = length t.finished

  abbrev chain : List Site
  chain = own_site t ∷ t.frame.chain

  -- what all tasks of the machine share, with the new task's tables
  abbrev opened : MachineShared
  opened = with_task (chain_known m (own_site t)).shared

  known-related : SharedRelated setting t.shared (chain_known m (own_site t)).shared
  known-related = chains-known setting t.shared m.shared (chain_known m (own_site t)).shared.chains like.shared (site-stay setting t m like) (site-table setting t m like)

  opened-related : SharedRelated setting t.shared opened
  opened-related = task-related setting t.shared (chain_known m (own_site t)).shared tasks known-related (record { rings = like.tables.rings; stacks = like.tables.stacks }) like.started

  opened-tables : HasTables (tasks + 1) opened
  opened-tables = task-tables (chain_known m (own_site t)).shared tasks (record { rings = like.tables.rings; stacks = like.tables.stacks })

  opened-started : AreStarted (tasks + 1) t.shared.story
  opened-started =
      record {
        freed = λ i x h. let below = like.started.freed i x h in omega (arith, below);
        ended = λ i x h. let below = like.started.ended i x h in omega (arith, below);
        frames = λ i x h. let below = like.started.frames i x h in omega (arith, below);
      }

  -- what comes of the start in the source, and in the machine
  abbrev entry : calls.Entry
  entry = calls.entry_of t.shared.source.births func tasks chain g.allocas

  abbrev start_told : Option ℕ → Result Story Full → ToldOutcome
  start_told result r = if_told t r (λ w. Starts (with_story (source.with_number (source_seen t) result base off entry) w) (telling entry.news) (entry_frame g func (value ∷ []) entry.birth chain))

  abbrev start_machine : Option ℕ → (number : ℕ) → Result AfterEntry Full → MachineOutcome
  start_machine result n r =
      elim r [
        | Err why ↦ Ends (chain_known m (own_site t)).shared (m.frame ∷ m.callers) [] (IsFull why)
        | Ok after ↦ Rattle.ir_machine.specs.StepEnds.with_write (record (chain_known m (own_site t)) { shared = after.shared }) (own_site t) at (le_bytes TASK_NUMBER_SIZE n) (λ s. Starts (advanced (with_result s (call_result result) 0)) [] (frame_for setting.code func after.place (argument ∷ []) (chain_at m (own_site t))))
      ]

  module _ (story : Story) (after : AfterEntry) (has : HasEntered setting t.shared opened tasks (tasks + 1) entry.births story entry.birth (frame_for setting.code func after.place (argument ∷ []) (chain_at m (own_site t))) (entry_frame g func (value ∷ []) entry.birth chain) after.shared) where
    abbrev told_then : ToldSeen
    told_then = record t { shared = record { source = record t.shared.source { births = entry.births }; story = story } }

    abbrev machine_then : MachineSeen
    machine_then = record (chain_known m (own_site t)) { shared = after.shared }

    chains-then : ChainsStay m.shared.chains after.shared.chains
    chains-then number c h = subst (λ table. Rattle.simulation.specs.Parts.IsChain table number c) (sym has.same_chains) (site-stay setting t m like number c h)

    count-more : length (t.finished ++ false ∷ []) ≡ tasks + 1
    count-more = length-append t.finished (false ∷ [])

    own-apart : t.task ≢ tasks
    own-apart same = let below = like.there in omega (arith, below, same)

    -- the acting task, once the new one is there
    like-then : SeenLike setting (told_with_task told_then) (machine_with_task machine_then)
    like-then =
        record {
          shared = has.related;
          task = like.task;
          frame = record {
            func = like.frame.func;
            sized = like.frame.sized;
            variables = λ h k. variables-stay t.shared.story.births story.births h.allocas t.frame.birth has.places (like.frame.variables h k);
            registers = registers-stay t.shared.story.births story.births t.frame.registers m.frame.registers has.places like.frame.registers;
            chain = chains-then m.frame.chain t.frame.chain like.frame.chain;
          };
          callers = callers-stay setting t.shared.story.births story.births m.shared.chains after.shared.chains t.callers m.callers has.places chains-then like.callers;
          owned = like.owned ∙ ap (map (λ (o : OpenFrame). o.birth)) (sym (has.frames t.task own-apart));
          finished = ap (λ xs. xs ++ false ∷ []) like.finished;
          step = like.step;
          there = let own = like.there in let count = count-more in omega (arith, own, count);
          few = let count = count-more in omega (arith, count, room);
          tables = subst (λ n. HasTables n after.shared) (sym count-more) has.tables;
          started = subst (λ n. AreStarted n story) (sym count-more) has.started;
        }

    abbrev bytes : List Rattle.ir_meaning.specs.Values.SourceByte
    bytes = number_bytes TASK_NUMBER_SIZE tasks

    abbrev numbers : List ℕ
    numbers = le_bytes TASK_NUMBER_SIZE tasks

    writable : access_answer entry.births Write base off TASK_NUMBER_SIZE TASK_NUMBER_SIZE ≡ Fine
    writable = entry-fine t.shared.source.births func tasks chain g.allocas base off 7 TASK_NUMBER_SIZE fine

    pointer-then : at ≡ number_of story.births base off
    pointer-then = pointer ∙ sym (number-stays t.shared.story.births story.births base off has.places known_base)

    written-is : written after.shared.memory at numbers ≡ Ok (with_bytes after.shared.memory (address_of at) numbers)
    written-is =
        ap (λ a. written after.shared.memory a numbers) pointer-then
        ∙ fine-written setting told_then.shared after.shared is has.related base off TASK_NUMBER_SIZE numbers (ap (λ n. access_answer entry.births Write base off n TASK_NUMBER_SIZE) (length-le_bytes TASK_NUMBER_SIZE tasks) ∙ writable)
        ∙ ap (λ a. Ok (with_bytes after.shared.memory (address_of a) numbers)) (sym pointer-then)

    stored-then : SeenLike setting (told_stored (told_with_task told_then) base off bytes) (numbers_stored (machine_with_task machine_then) at numbers)
    stored-then =
        subst (λ a. SeenLike setting (told_stored (told_with_task told_then) base off bytes) (numbers_stored (machine_with_task machine_then) a numbers)) (sym pointer-then)
        (subst (λ ns. SeenLike setting (told_stored (told_with_task told_then) base off bytes) (numbers_stored (machine_with_task machine_then) (number_of story.births base off) ns)) (data-image story.births numbers)
        (stored-like setting (told_with_task told_then) (machine_with_task machine_then) is like-then base off TASK_NUMBER_SIZE bytes
        (ap (λ n. access_answer entry.births Write base off n TASK_NUMBER_SIZE) (length-map _ _ ∙ length-le_bytes TASK_NUMBER_SIZE tasks) ∙ writable)
        (data-known story.births TASK_NUMBER_SIZE tasks)))

    others-then : KeepsOlder t.task tasks m.shared.chains t.shared.story after.shared.chains story
    others-then = record { chains = chains-then; places = has.places; frames = λ other apart below. has.frames other (λ same. omega (arith, below, same)) }

    abbrev stored_told : ToldSeen
    stored_told = told_stored (told_with_task told_then) base off bytes

    abbrev stored_machine : MachineSeen
    stored_machine = numbers_stored (machine_with_task machine_then) at numbers

    abbrev go : Option ℕ → MachineSeen → MachineOutcome
    go result s = Starts (advanced (with_result s (call_result result) 0)) [] (frame_for setting.code func after.place (argument ∷ []) (chain_at m (own_site t)))

    written-goes : (result : Option ℕ) → start_machine result tasks (Ok after) ≡ go result (numbers_stored machine_then at numbers)
    written-goes result = ap (λ r. on_memory machine_then (own_site t) (length numbers) at r (go result)) written-is

    goes-by : (result : Option ℕ) → Follows setting t m.shared (start_told result (Ok story)) (start_machine result tasks (Ok after))
    goes-by None = (
      advanced (numbers_stored machine_then at numbers),
      frame_for setting.code func after.place (argument ∷ []) (chain_at m (own_site t)),
      written-goes None,
      moved-related setting stored_told stored_machine f t.frame.registers m.frame.registers stored-then before refl stored-then.frame.registers,
      has.frame,
      has.owned,
      others-then,
    )
    goes-by (Some r) = (
      advanced (with_result (numbers_stored machine_then at numbers) (call_result (Some r)) 0),
      frame_for setting.code func after.place (argument ∷ []) (chain_at m (own_site t)),
      written-goes (Some r),
      moved-related setting stored_told stored_machine f (slice_set t.frame.registers r (Some (Integer 0))) (slice_set m.frame.registers (2 * r) 0) stored-then before (length-set t.frame.registers r (Some (Integer 0)))
          (register-set story.births t.frame.registers m.frame.registers r (Integer 0) 0 stored-then.frame.registers tt tt refl),
      has.frame,
      has.owned,
      others-then,
    )

  create-by : (result : Option ℕ) (r : Result Story Full) (q : Result AfterEntry Full) → Enters setting t.shared opened func tasks (tasks + 1) g (value ∷ []) (argument ∷ []) chain (chain_at m (own_site t)) entry r q → Follows setting t m.shared (start_told result r) (start_machine result tasks q)
  create-by result _ _ (goes story after has) = goes-by story after has result
  create-by result _ _ (full why) = ((chain_known m (own_site t)).shared, m.frame ∷ m.callers, refl)

  -- the entry of the new task's function
  enters : Enters setting t.shared opened func tasks (tasks + 1) g (value ∷ []) (argument ∷ []) chain (chain_at m (own_site t)) entry (all_told (story_setting setting) t.shared.story entry.news) (entry_of setting tasks func (chain_at m (own_site t)) opened)
  enters =
      task-entered setting t.shared opened is opened-related func tasks (tasks + 1) (omega arith) room opened-tables opened-started (no-frames t.shared.story tasks like.started)
      g there (value ∷ []) (argument ∷ []) few (given, tt) chain (chain_at m (own_site t)) (site-chain setting t m like)

  on-start-is : (result : Option ℕ) (r : Result AfterEntry Full) → start_machine result (length m.finished) r ≡ machine.on_start setting (chain_known m (own_site t)) (own_site t) (call_result result) at func argument (chain_at m (own_site t)) r
  on-start-is result (Ok after) = refl
  on-start-is result (Err why) = refl

  pub start-follows : (result : Option ℕ) → Follows setting t m.shared (start_told result (all_told (story_setting setting) t.shared.story entry.news)) (machine.started_if true setting m (own_site t) (call_result result) at func argument)
  start-follows result =
      subst (λ q. Follows setting t m.shared (start_told result (all_told (story_setting setting) t.shared.story entry.news)) q) (on-start-is result (entry_of setting (length m.finished) func (chain_at m (own_site t)) opened))
      (subst (λ n. Follows setting t m.shared (start_told result (all_told (story_setting setting) t.shared.story entry.news)) (start_machine result n (entry_of setting n func (chain_at m (own_site t)) opened))) (sym (ap length like.finished))
      (create-by result _ _ enters))

module _ (setting : MachineSetting) (t : ToldSeen) (m : MachineSeen) (f : Function) (is : IsSetting setting) (like : SeenLike setting t m) (before : IsBeforeNext setting t m f) (result : Option ℕ) (base : Base) (off at : ℕ) (pointer : at ≡ number_of t.shared.story.births base off) (known_base : IsKnownBase t.shared.story.births base) (fine : access_answer t.shared.source.births Write base off TASK_NUMBER_SIZE TASK_NUMBER_SIZE ≡ Fine)
    (func : ℕ) (g : Function) (there : slice_get setting.program.functions func ≡ Some g) (value : Value) (argument : ℕ) (given : IsArgument t.shared.story.births value argument) (few : length (value ∷ []) ≤ length g.regs) where
  count-same : length m.finished ≡ length t.finished
  count-same = ap length like.finished

  -- both start the task, or both have the result 11
  by-room : (bit : Bool) → nat_lt (length t.finished) setting.places.most_tasks ≡ bit → FollowsIn setting t m (source.started (source_seen t) result base off g func value) (machine.started_if bit setting m (own_site t) (call_result result) at func argument)
  by-room true test =
      let room = ltb-true (length t.finished) setting.places.most_tasks test in
      subst (λ (bit : Bool). FollowsIn setting t m (if bit then gives (source_seen t) result (Integer 11) else source.starts_with (source_seen t) result base off g func value (calls.entry_of t.shared.source.births func (length t.finished) (own_site t ∷ t.frame.chain) g.allocas)) (machine.started_if true setting m (own_site t) (call_result result) at func argument))
      (sym (lt-leb MOST_TASKS (length t.finished) (let same = is.tasks in omega (arith, room, same))))
      (start-follows setting t m f is like before base off at pointer known_base fine func g there value argument given few room result)
  by-room false test =
      let full = ltb-false (length t.finished) setting.places.most_tasks test in
      subst (λ (bit : Bool). FollowsIn setting t m (if bit then gives (source_seen t) result (Integer 11) else source.starts_with (source_seen t) result base off g func value (calls.entry_of t.shared.source.births func (length t.finished) (own_site t ∷ t.frame.chain) g.allocas)) (machine.started_if false setting m (own_site t) (call_result result) at func argument))
      (sym (le-leb MOST_TASKS (length t.finished) (let same = is.tasks in omega (arith, full, same))))
      (gives_to-follows setting t m f like before result (Integer 11) 11 tt tt refl)

  pub created-follows : FollowsIn setting t m (source.started (source_seen t) result base off g func value) (with_writable m (own_site t) TASK_NUMBER_SIZE at (machine.started_if (nat_lt (length m.finished) setting.places.most_tasks) setting m (own_site t) (call_result result) at func argument))
  created-follows =
      fine-asked setting t m is like base off TASK_NUMBER_SIZE TASK_NUMBER_SIZE at _ _ pointer fine
      (subst (λ n. FollowsIn setting t m (source.started (source_seen t) result base off g func value) (machine.started_if (nat_lt n setting.places.most_tasks) setting m (own_site t) (call_result result) at func argument)) (sym count-same)
      (by-room (nat_lt (length t.finished) setting.places.most_tasks) refl))

-- ---- the call

-- the call, after its check
module _ (setting : MachineSetting) (t : ToldSeen) (m : MachineSeen) (f : Function) (is : IsSetting setting) (like : SeenLike setting t m) (before : IsBeforeNext setting t m f) (result : Option ℕ) (base : Base) (off at : ℕ) (pointer : at ≡ number_of t.shared.story.births base off) (known_base : IsKnownBase t.shared.story.births base) (begin : StartArg) where
  pub create-follows : (values : List (Option Value)) (argument : ℕ) (byte : ℕ) → Rattle.ir_meaning.specs.Operands.argument values 0 ≡ Some (Address base byte) → off ≡ byte % 2 ^ 64 → IsNumberOf t.shared.story.births argument (Rattle.ir_meaning.specs.Operands.argument values 2)
      → access_answer t.shared.source.births Write base off TASK_NUMBER_SIZE TASK_NUMBER_SIZE ≡ Fine
      → FollowsIn setting t m (source.create_step setting.program (source_seen t) result values (Some begin)) (machine.create_step setting m (own_site t) (call_result result) at (Some begin.func) argument)
  unfolding source.create_step machine.create_step on_arguments with_named
  create-follows values argument byte named offset given fine =
      named-follows setting t m (slice_get setting.program.functions begin.func) _ _ (λ g there.
      subst (λ outcome. FollowsIn setting t m outcome (machine.create_step setting m (own_site t) (call_result result) at (Some begin.func) argument))
      (sym (with_pointer-is (Rattle.ir_meaning.specs.Operands.argument values 0) base byte _ named))
      (subst (λ n. FollowsIn setting t m (with_value (Rattle.ir_meaning.specs.Operands.argument values 2) (λ value. on_arguments g (value ∷ []) (source.started (source_seen t) result base n g begin.func value))) (machine.create_step setting m (own_site t) (call_result result) at (Some begin.func) argument)) offset
      (value-follows setting t m (Rattle.ir_meaning.specs.Operands.argument values 2) argument _ _ given (λ value one known image.
      by_count g there value (record { image = image; known = known; one = one }) (length (value ∷ []) == g.params) refl))))
    where
      by_count : (g : Function) → slice_get setting.program.functions begin.func ≡ Some g → (value : Value) → IsArgument t.shared.story.births value argument → (bit : Bool) → (length (value ∷ []) == g.params) ≡ bit
          → FollowsIn setting t m (if bit then source.started (source_seen t) result base off g begin.func value else Rattle.hw_tags.specs.TaskRuns.Stuck) (with_writable m (own_site t) TASK_NUMBER_SIZE at (machine.started_if (nat_lt (length m.finished) setting.places.most_tasks) setting m (own_site t) (call_result result) at begin.func argument))
      by_count g there value own false test = tt
      by_count g there value own true test =
          let params = eqb-true (length (value ∷ [])) g.params test in
          let room = (all-at (IsResolvedFunction setting.program) setting.program.functions begin.func g is.runnable.resolved.functions there).registers.parameters in
          created-follows setting t m f is like before result base off at pointer known_base fine begin.func g there value argument own (omega (arith, params, room))

  pub create-traps : (argument : ℕ) → access_answer t.shared.source.births Write base off TASK_NUMBER_SIZE TASK_NUMBER_SIZE ≡ WritesConstant
      → FollowsIn setting t m (traps (source_seen t) ReadOnly) (machine.create_step setting m (own_site t) (call_result result) at (Some begin.func) argument)
  unfolding machine.create_step
  create-traps argument constant = constant-asked setting t m is like base off TASK_NUMBER_SIZE TASK_NUMBER_SIZE at _ pointer constant
