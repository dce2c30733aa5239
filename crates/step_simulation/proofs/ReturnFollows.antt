-- The machine follows each return: the frame's variables die, and its caller goes on, or its task finishes, or the run ends.
use Rattle.std.proofs.Common.{◌≡◌, ℕ, zero, suc, ◌+◌, ◌%◌, ◌^◌, ◌<◌, List, [], ◌∷◌, ◌++◌, length, map, slice_get, slice_set, Option, Some, None, unwrap_or, Result, Ok, refl, sym, ◌∙◌, ap, subst, arith}
use Rattle.std.specs.Prelude.{IfSome, option_and_then, option_map}
use Rattle.std.specs.List.{filter_map}
use Rattle.std.proofs.lemmas.List.{length-set}
use Rattle.hw_base.specs.declared.endings.Full.{Full}
use Rattle.hw_base.specs.declared.endings.Input.{Input}
use Rattle.hw_base.specs.declared.pointers.Site.{Site}
use Rattle.hw_tags.specs.TaskRuns.{Goes, Finishes, Ends}
use Rattle.ir_core.specs.ResolvedBodies.{IsResolvedPlaced}
use Rattle.ir_core.specs.declared.ir_module.Function.{Function}
use Rattle.ir_core.specs.declared.ir_module.Inst.{Inst}
use Rattle.ir_core.specs.declared.operands.Placed.{Placed as PlacedOperand}
use Rattle.ir_machine.proofs.CodeAt.{place-next}
use Rattle.ir_machine.specs.CallSteps as machine
use Rattle.ir_machine.specs.CallSteps.{instruction_at}
use Rattle.ir_machine.specs.InstructionStep.{machine_step}
use Rattle.ir_machine.specs.CallSteps.{code_at}
use Rattle.ir_machine.specs.State.{MachineSetting, MachineShared, MachineSeen, MachineOutcome, Exited}
use Rattle.ir_machine.specs.StepEnds.{advanced, chain_at, chain_known}
use Rattle.ir_meaning.specs.Births.{Region, after_death}
use Rattle.ir_meaning.specs.CallSteps as source
use Rattle.ir_meaning.specs.InstructionStep.{value_of}
use Rattle.ir_meaning.specs.Operands.{optional_value, with_named, with_integer}
use Rattle.ir_meaning.specs.State.{SourceFrame, SourceShared, SourceOutcome, Exited as SourceExited, telling}
use Rattle.ir_meaning.specs.StepEnds.{next_instruction}
use Rattle.ir_meaning.specs.Values.{Value, Integer, Address, IntegerAndBit}
use Rattle.ir_tasks.specs.Frames as frames
use Rattle.ir_tasks.specs.Frames.{Frame}
use Rattle.mi_code.specs.Instrumentation.{place_of, code_of_instruction}
use Rattle.mi_code.specs.MachineOperands.{operand_of, operands_of, call_result}
use Rattle.mi_code.specs.SourceCode.{returned}
use Rattle.mi_code.specs.TagChecks.{leave_code}
use Rattle.mi_code.specs.declared.code_functions.Mi.{Mi}
use Rattle.mi_code.specs.declared.code_functions.Mark.TheVariants.{Added, Source}
use Rattle.mi_code.specs.declared.operations.MiOp.TheVariants.{Leave, Call, Ret}
use Rattle.stack_tags.specs.FrameSteps.{StacksAfter, left, without_newest, after_exit}
use Rattle.stack_tags.specs.declared.frame_record.FrameRecord.{FrameRecord}
use Rattle.hw_base.specs.AddressMap.{frame_size}
use Rattle.tbi_memory.specs.ObjectMemory.{tag_plain}
use Rattle.stack_tags.specs.Frames as stacks
use Rattle.stack_tags.specs.Frames.{LivingFrame, TaskFrames}
use Rattle.tag_story.specs.Story.{Story, StoryBirth, OpenFrame, EndedFrame}
use Rattle.tag_story.proofs.StoryLists.{filter-get}
use Rattle.tag_story.specs.Telling as telling_of
use Rattle.tag_story.specs.Telling.{told, all_told}
use Rattle.tag_story.specs.ToldRun.{ToldShared, ToldSeen, ToldOutcome, source_seen, if_told, told_outcome}
use Rattle.dbg_sites.specs.ChainTable.{ChainEntry}
use Rattle.step_simulation.proofs.ArithmeticFollows.{IsOperandOf}
use Rattle.step_simulation.proofs.BlockFollows.{site-chain, site-stay, site-table}
use Rattle.step_simulation.proofs.CodeAt.{instruction-get, at-frame}
use Rattle.step_simulation.proofs.EntryRegisters.{IsArgument}
use Rattle.simulation.proofs.FrameLeft as leaving
use Rattle.simulation.proofs.FrameLeft.{frame-left}
use Rattle.simulation.proofs.Images.{stays-died, value-stays, known-stays}
use Rattle.step_simulation.proofs.LibraryChecks.{HasChecks, no-checks}
use Rattle.step_simulation.proofs.LibraryParts.{ahead-next, added-ahead, source-ahead, code-ahead, fuel-ahead, callers-stay, caller-stays}
use Rattle.step_simulation.proofs.NewestFrame.{HasNewest, with-birth, newest-frame}
use Rattle.step_simulation.proofs.OperandsThere.{operand-of}
use Rattle.step_simulation.proofs.PlainSteps.{FollowsIn, own_site, same-function}
use Rattle.step_simulation.proofs.RegisterImages.{register-set}
use Rattle.simulation.specs.BirthsAndDeaths.{ChainsStay}
use Rattle.step_simulation.specs.Following.{KeepsOthers, Follows}
use Rattle.simulation.specs.Images.{Stays}
use Rattle.simulation.specs.Parts.{AreStarted}
use Rattle.step_simulation.specs.RegisterSteps.{IsAt}
use Rattle.simulation.specs.Relation.{IsSetting, HasTables, SharedRelated, HasVariables, FrameRelated, IsAtCall, CallerRelated, CallersRelated, OwnsFrames, SeenLike, SeenRelated, story_setting}

-- ---- the returned value

-- both sides return nothing, or a value and its image
abbrev pub IsReturned : List StoryBirth → Option Value → Option ℕ → Type 0
IsReturned births None None = Unit {0}
IsReturned births None (Some n) = ⊥
IsReturned births (Some v) None = ⊥
IsReturned births (Some v) (Some n) = IsArgument births v n

returned-stays : (before after : List StoryBirth) (value : Option Value) (number : Option ℕ) → Stays before after → IsReturned before value number → IsReturned after value number
returned-stays before after None None stays h = tt
returned-stays before after None (Some n) stays h = h
returned-stays before after (Some v) None stays h = h
returned-stays before after (Some v) (Some n) stays h =
    record { image = h.image ∙ sym (value-stays before after v stays h.known); known = known-stays before after v stays h.known; one = h.one }

pub returned-follows : (setting : MachineSetting) (t : ToldSeen) (m : MachineSeen) (f : Function) (value : Option PlacedOperand) (go : Option Value → SourceOutcome) (r : MachineOutcome) → SeenLike setting t m → IfSome value (IsResolvedPlaced setting.program f)
    → ((v : Option Value) → IsReturned t.shared.story.births v (machine.returned_number m (returned value)) → FollowsIn setting t m (go v) r)
    → FollowsIn setting t m (with_named (option_and_then source.returned_value (optional_value setting.program t.frame.registers value)) go) r
unfolding with_named
returned-follows setting t m f None go r like resolved follows = follows None tt
returned-follows setting t m f (Some placed) go r like resolved follows = by_value (value_of setting.program (source_seen t) placed) refl (operand-of setting t m f placed like resolved)
  where
    by_value : (o : Option Value) → value_of setting.program (source_seen t) placed ≡ o → IsOperandOf t m (operand_of placed) (value_of setting.program (source_seen t) placed) → FollowsIn setting t m (with_named (option_and_then source.returned_value (option_map (λ v. Some v) o)) go) r
    by_value None here is = tt
    by_value (Some (Integer n)) here is = let image = is (Integer n) here in follows (Some (Integer n)) (record { image = image.0; known = image.1; one = tt })
    by_value (Some (Address base off)) here is = let image = is (Address base off) here in follows (Some (Address base off)) (record { image = image.0; known = image.1; one = tt })
    by_value (Some (IntegerAndBit n bit)) here is = tt

-- ---- the caller

-- the machine's instruction at a frame that called another one
call-there : (setting : MachineSetting) (births : List StoryBirth) (table : List ChainEntry) (caller : SourceFrame) (mc : Frame) (is : IsSetting setting) (related : CallerRelated setting births table caller mc) → machine.call_register (instruction_at setting.code mc) ≡ call_result related.at_call.inst.result
unfolding code_of_instruction
call-there setting births table caller mc is related =
    let call = related.at_call in
    let site : Site = record { func = caller.func; inst = caller.inst } in
    let mi : Mi = record { mark = Source site; op = Call call.func (call_result call.inst.result) (operands_of call.args) } in
    let more : place_of setting.program call.function caller.inst ≡ place_of setting.program call.function caller.inst + 0 = omega arith in
    let code : code_of_instruction setting.program call.function site call.inst ≡ mi ∷ [] = ap (λ o. map (Rattle.mi_code.specs.Instrumentation.added_mi site) (Rattle.mi_code.specs.TagChecks.added_code setting.program call.function.allocas o) ++ Rattle.mi_code.specs.Instrumentation.source_mi site (Rattle.mi_code.specs.SourceCode.source_code setting.program call.function (Rattle.mi_code.specs.Instrumentation.starts_of setting.program call.function) (Rattle.ir_core.specs.Blocks.block_holding call.function.blocks caller.inst) call.inst.result o)) call.call in
    ap machine.call_register
    (ap (λ code. instruction_at code mc) is.code
    ∙ at-frame setting.program caller.func call.function mc (place_of setting.program call.function caller.inst + 0) mi call.there related.frame.like.func (related.frame.place call.function call.there ∙ more)
    (instruction-get setting.program call.function caller.func caller.inst 0 call.inst mi call.instruction (ap (λ xs. slice_get xs 0) code)))

source-result : (setting : MachineSetting) (caller : SourceFrame) (call : IsAtCall setting.program caller) → source.call_result setting.program caller ≡ call.inst.result
source-result setting caller call =
    ap (λ o. source.result_of (source.instruction_in o caller.inst)) call.there ∙ ap source.result_of call.instruction

-- the caller goes on after its call, with the value
caller-returned : (setting : MachineSetting) (births : List StoryBirth) (table : List ChainEntry) (caller : SourceFrame) (mc : Frame) (value : Option Value) (number : Option ℕ) → IsSetting setting → CallerRelated setting births table caller mc → IsReturned births value number
    → FrameRelated setting births table (next_instruction (source.with_returned caller (source.call_result setting.program caller) value)) (machine.returned_to setting.code mc number)
caller-returned setting births table caller mc value number is related same =
    subst (λ o. FrameRelated setting births table (next_instruction (source.with_returned caller o value)) (machine.returned_to setting.code mc number)) (sym (source-result setting caller related.at_call))
    (subst (λ o. FrameRelated setting births table (next_instruction (source.with_returned caller related.at_call.inst.result value)) (frames.advanced (machine.with_returned mc o number))) (sym (call-there setting births table caller mc is related))
    (by_result related.at_call.inst.result value number same))
  where
    next-place : (g : Function) → slice_get setting.program.functions caller.func ≡ Some g → mc.place + 1 ≡ place_of setting.program g (caller.inst + 1)
    next-place g there =
        let call = related.at_call in
        let one = same-function setting.program caller.func call.function g call.there there in
        let here = related.frame.place call.function call.there in
        let next = place-next setting.program call.function caller.inst call.inst call.instruction in
        let long : Rattle.mi_code.specs.Instrumentation.instruction_length setting.program call.function.allocas call.inst ≡ 1 = ap (λ o. length (Rattle.mi_code.specs.TagChecks.added_code setting.program call.function.allocas o) + Rattle.mi_code.specs.Instrumentation.own_length o) call.call in
        let after : caller.inst + 1 ≡ suc caller.inst = omega arith in
        let whole = ap (place_of setting.program call.function) after in
        let own : mc.place + 1 ≡ place_of setting.program call.function (caller.inst + 1) = omega (arith, here, next, long, whole) in
        own ∙ ap (λ (h : Function). place_of setting.program h (caller.inst + 1)) one

    plain : FrameRelated setting births table (next_instruction caller) (frames.advanced mc)
    plain =
        record {
          like = record { func = related.frame.like.func; sized = related.frame.like.sized; variables = related.frame.like.variables; registers = related.frame.like.registers; chain = related.frame.like.chain };
          place = next-place;
        }

    by_result : (result : Option ℕ) (value : Option Value) (number : Option ℕ) → IsReturned births value number → FrameRelated setting births table (next_instruction (source.with_returned caller result value)) (frames.advanced (machine.with_returned mc (call_result result) number))
    by_result None None None same = plain
    by_result None None (Some n) same = absurd same
    by_result None (Some v) None same = absurd same
    by_result None (Some v) (Some n) same = plain
    by_result (Some r) None None same = plain
    by_result (Some r) None (Some n) same = absurd same
    by_result (Some r) (Some v) None same = absurd same
    by_result (Some r) (Some v) (Some n) same =
        record {
          like = record {
            func = related.frame.like.func;
            sized = λ g there. length-set caller.registers r (Some v) ∙ related.frame.like.sized g there;
            variables = related.frame.like.variables;
            registers = register-set births caller.registers mc.registers r v n related.frame.like.registers same.known same.one same.image;
            chain = related.frame.like.chain;
          };
          place = next-place;
        }

-- ---- births of frames

without-birth : (f : SourceFrame) (fs : List SourceFrame) → f.birth ≡ None → filter_map (λ (g : SourceFrame). g.birth) (f ∷ fs) ≡ filter_map (λ (g : SourceFrame). g.birth) fs
without-birth f fs h = rw h refl

same-births : (f g : SourceFrame) (fs : List SourceFrame) (o : Option ℕ) → f.birth ≡ o → g.birth ≡ o → filter_map (λ (h : SourceFrame). h.birth) (f ∷ fs) ≡ filter_map (λ (h : SourceFrame). h.birth) (g ∷ fs)
same-births f g fs None a b = without-birth f fs a ∙ sym (without-birth g fs b)
same-births f g fs (Some n) a b = with-birth f fs n a ∙ sym (with-birth g fs n b)

-- ---- the frame that ends

-- both sides after the end of the frame that runs, before its caller goes on
pub record HasLeft (setting : MachineSetting) (t : ToldSeen) (m : MachineSeen) (birth : Option ℕ) : Type 0 where
  pub shared : ToldShared
  pub machine : MachineShared
  pub ended : source.frame_ended (source_seen t) birth ≡ shared.source
  pub story : all_told (story_setting setting) t.shared.story (source.death_news (source_seen t) birth) ≡ Ok shared.story
  pub related : SharedRelated setting shared machine
  pub stays : Stays t.shared.story.births shared.story.births
  pub chains : ChainsStay m.shared.chains machine.chains
  pub owned : OwnsFrames t.task t.callers shared.story
  pub others : KeepsOthers t.task m.shared.chains t.shared.story machine.chains shared.story
  pub tables : HasTables (length t.finished) machine
  pub started : AreStarted (length t.finished) shared.story

module _ (setting : MachineSetting) (t : ToldSeen) (m : MachineSeen) (is : IsSetting setting) (like : SeenLike setting t m) where
  -- a frame without variables
  pub plain-left : t.frame.birth ≡ None → (has : HasLeft setting t m None) × (has.machine ≡ m.shared)
  unfolding all_told
  plain-left none = (
    record {
      shared = t.shared;
      machine = m.shared;
      ended = refl;
      story = refl;
      related = like.shared;
      stays = λ o x h. h;
      chains = λ number chain h. h;
      owned = sym (without-birth t.frame t.callers none) ∙ like.owned;
      others = record { chains = λ number chain h. h; places = λ o x h. h; frames = λ task other. refl };
      tables = like.tables;
      started = like.started;
    },
    refl,
  )

  -- what all tasks of the machine share after it left the newest frame
  abbrev machine_left : (task : ℕ) → MachineShared
  machine_left task =
      record m.shared {
        chains = (chain_known m (own_site t)).shared.chains;
        stacks = (left m.shared.stacks m.shared.memory task (chain_at m (own_site t))).stacks;
        memory = (left m.shared.stacks m.shared.memory task (chain_at m (own_site t))).space;
      }

  -- the stacks and memory after the newest frame was left
  abbrev after_with : LivingFrame → List LivingFrame → List FrameRecord → StacksAfter
  after_with newest older ended =
      record {
        stacks = record m.shared.stacks { tasks = slice_set m.shared.stacks.tasks t.task (without_newest m.shared.stacks.ring (chain_at m (own_site t)) newest older ended) };
        space = tag_plain m.shared.memory newest.frame.low (frame_size newest.sizes) 0;
      }

  pub some-left : (birth : ℕ) → t.frame.birth ≡ Some birth → (has : HasLeft setting t m (Some birth)) × (has.machine ≡ machine_left m.task)
  unfolding all_told told left
  some-left birth h =
      let new = newest-frame setting t m birth like h in
      let chain = own_site t ∷ t.frame.chain in
      let table = (chain_known m (own_site t)).shared.chains in
      let number = chain_at m (own_site t) in
      let after = leaving.machine_after setting t.shared m.shared is like.shared t.task chain table number (site-stay setting t m like) (site-table setting t m like) (site-chain setting t m like) new.frames new.there new.newest new.older new.living new.open_frame new.rest new.opened new.own new.others in
      let is_left : after ≡ machine_left m.task = left-is new ∙ ap machine_left (sym like.task) in
      let related = frame-left setting t.shared m.shared is like.shared t.task chain table number (site-stay setting t m like) (site-table setting t m like) (site-chain setting t m like) new.frames new.there new.newest new.older new.living new.open_frame new.rest new.opened new.own new.others in
      let shared : ToldShared = record { source = record t.shared.source { births = after_death t.shared.source.births new.open_frame.birth t.task chain }; story = telling_of.frame_ended t.shared.story new.open_frame.birth t.task chain } in (
        record {
          shared = shared;
          machine = after;
          ended = ap (λ n. record t.shared.source { births = after_death t.shared.source.births n t.task chain }) (sym new.birth_is);
          story = ap (λ n. Ok (telling_of.death_told (story_setting setting) t.shared.story n t.task chain (slice_get t.shared.story.births n))) (sym new.birth_is)
              ∙ ap (λ b. Ok (telling_of.death_told (story_setting setting) t.shared.story new.open_frame.birth t.task chain b)) new.own.there
              ∙ ap (λ (r : Region). Ok (telling_of.death_by (story_setting setting) t.shared.story new.open_frame.birth t.task chain r new.own.story.objects)) new.own.region;
          related = related;
          stays = stays-died t.shared.story.births new.open_frame.birth t.task chain;
          chains = site-stay setting t m like;
          owned = new.owned ∙ ap (map (λ (o : OpenFrame). o.birth)) (sym (leaving.own-frames setting t.shared m.shared is like.shared t.task chain table number (site-stay setting t m like) (site-table setting t m like) (site-chain setting t m like) new.frames new.there new.newest new.older new.living new.open_frame new.rest new.opened new.own new.others));
          others = record {
            chains = site-stay setting t m like;
            places = stays-died t.shared.story.births new.open_frame.birth t.task chain;
            frames = λ other apart. leaving.other-frames setting t.shared m.shared is like.shared t.task chain table number (site-stay setting t m like) (site-table setting t m like) (site-chain setting t m like) new.frames new.there new.newest new.older new.living new.open_frame new.rest new.opened new.own new.others other apart;
          };
          tables = record { rings = like.tables.rings; stacks = length-set m.shared.stacks.tasks t.task _ ∙ like.tables.stacks };
          started = left-started new.open_frame.birth;
        },
        is_left,
      )
    where
      left-started : (n : ℕ) → AreStarted (length t.finished) (telling_of.frame_ended t.shared.story n t.task (own_site t ∷ t.frame.chain))
      left-started n =
          record {
            freed = like.started.freed;
            ended = λ i x h. ended_at i x h;
            frames = λ i x h. let was = filter-get (Rattle.simulation.proofs.FrameLists.is_other n) t.shared.story.frames i x h in like.started.frames was.j x was.there;
          }
        where
          ended_at : (i : ℕ) (x : EndedFrame) → slice_get (record { birth = n; task = t.task } ∷ t.shared.story.ended) i ≡ Some x → x.task < length t.finished
          ended_at zero x h = subst (λ k. k < length t.finished) (ap (λ (o : Option EndedFrame). elim o [ None ↦ 0 | Some y ↦ y.task ]) h) like.there
          ended_at (suc i) x h = like.started.ended i x h

      left-is : (new : HasNewest t m birth)
          → leaving.machine_after setting t.shared m.shared is like.shared t.task (own_site t ∷ t.frame.chain) (chain_known m (own_site t)).shared.chains (chain_at m (own_site t)) (site-stay setting t m like) (site-table setting t m like) (site-chain setting t m like) new.frames new.there new.newest new.older new.living new.open_frame new.rest new.opened new.own new.others
          ≡ machine_left t.task
      left-is new =
          let died = chain_at m (own_site t) in
          let living = ap (λ (o : Option TaskFrames). (unwrap_or o stacks.no_frames).living) new.there ∙ new.living in
          let first = ap (after_exit m.shared.stacks m.shared.memory t.task died) living in
          let second = ap (λ (o : Option TaskFrames). after_with new.newest new.older (unwrap_or o stacks.no_frames).ended) new.there in
          ap (λ (a : StacksAfter). record m.shared { chains = (chain_known m (own_site t)).shared.chains; stacks = a.stacks; memory = a.space }) (sym (first ∙ second))

-- ---- after the frame has ended

module _ (setting : MachineSetting) (t : ToldSeen) (m : MachineSeen) (is : IsSetting setting) (like : SeenLike setting t m) (birth : Option ℕ) (has : HasLeft setting t m birth) where
  -- the return of the task's last frame in the source, by the birth of the frame that ends and what all tasks share then
  abbrev last_by : Option ℕ → (shared : SourceShared) → Option Value → (task : ℕ) → SourceOutcome
  last_by o shared value zero = with_integer 32 value (λ n. Ends shared [] (telling (source.death_news (source_seen t) o)) (SourceExited n))
  last_by o shared value (suc task) = Finishes shared (telling (source.death_news (source_seen t) o))

  -- a return to the callers
  abbrev return_by : Option ℕ → (shared : SourceShared) → Option Value → List SourceFrame → SourceOutcome
  return_by o shared value [] = last_by o shared value t.task
  return_by o shared value (caller ∷ callers) =
      Goes
      (record (source_seen t) { shared = shared; frame = next_instruction (source.with_returned caller (source.call_result setting.program caller) value); callers = callers })
      (telling (source.death_news (source_seen t) o))

  -- on with the story after the death
  told-goes : (outcome : ToldOutcome) (go : Story → ToldOutcome) (r : MachineOutcome) → Follows setting t m.shared (go has.shared.story) r → Follows setting t m.shared (if_told t (all_told (story_setting setting) t.shared.story (source.death_news (source_seen t) birth)) go) r
  told-goes outcome go r follows = subst (λ (s : Result Story Full). Follows setting t m.shared (if_told t s go) r) (sym has.story) follows

  exits : (value : Option Value) (number : Option ℕ) → IsReturned t.shared.story.births value number → Follows setting t m.shared (told_outcome (story_setting setting) t (last_by birth has.shared.source value zero)) (machine.last_left zero has.machine (unwrap_or number 0))
  unfolding with_integer
  exits None number same = tt
  exits (Some (Address base off)) number same = tt
  exits (Some (IntegerAndBit n bit)) number same = tt
  exits (Some (Integer n)) None same = absurd same
  exits (Some (Integer n)) (Some k) same =
      told-goes (told_outcome (story_setting setting) t (last_by birth has.shared.source (Some (Integer n)) zero)) _ _
      (has.machine, [], ap (λ i. Ends has.machine [] [] (Exited (i % 2 ^ 32))) same.image)

  finishes : (value : Option Value) (task : ℕ) (number : ℕ) → t.callers ≡ [] → Follows setting t m.shared (told_outcome (story_setting setting) t (last_by birth has.shared.source value (suc task))) (machine.last_left (suc task) has.machine number)
  finishes value task number none =
      told-goes (told_outcome (story_setting setting) t (last_by birth has.shared.source value (suc task))) _ _ (
        has.machine,
        refl,
        has.related,
        has.tables,
        has.started,
        ap (filter_map (λ (f : SourceFrame). f.birth)) (sym none) ∙ has.owned,
        has.others,
      )

  last-follows : (value : Option Value) (number : Option ℕ) (task : ℕ) → t.callers ≡ [] → IsReturned t.shared.story.births value number → Follows setting t m.shared (told_outcome (story_setting setting) t (last_by birth has.shared.source value task)) (machine.last_left task has.machine (unwrap_or number 0))
  last-follows value number zero none same = exits value number same
  last-follows value number (suc task) none same = finishes value task (unwrap_or number 0) none

  caller-birth : (caller : SourceFrame) (result : Option ℕ) (value : Option Value) → (source.with_returned caller result value).birth ≡ caller.birth
  caller-birth caller result None = refl
  caller-birth caller result (Some v) = refl

  goes-on : (value : Option Value) (number : Option ℕ) (caller : SourceFrame) (callers : List SourceFrame) (mc : Frame) (mcs : List Frame) → t.callers ≡ caller ∷ callers → IsReturned t.shared.story.births value number
      → CallerRelated setting t.shared.story.births m.shared.chains caller mc → CallersRelated setting t.shared.story.births m.shared.chains callers mcs
      → Follows setting t m.shared (told_outcome (story_setting setting) t (return_by birth has.shared.source value (caller ∷ callers))) (Goes (record m { shared = has.machine; frame = machine.returned_to setting.code mc number; callers = mcs }) [])
  goes-on value number caller callers mc mcs are same own others =
      told-goes (told_outcome (story_setting setting) t (return_by birth has.shared.source value (caller ∷ callers))) _ _
      (let moved = caller-stays setting t.shared.story.births has.shared.story.births m.shared.chains has.machine.chains caller mc has.stays has.chains own in
      let frame = caller-returned setting has.shared.story.births has.machine.chains caller mc value number is moved (returned-stays t.shared.story.births has.shared.story.births value number has.stays same) in (
        record m { shared = has.machine; frame = machine.returned_to setting.code mc number; callers = mcs },
        refl,
        record {
          like = record {
            shared = has.related;
            task = like.task;
            frame = frame.like;
            callers = callers-stay setting t.shared.story.births has.shared.story.births m.shared.chains has.machine.chains callers mcs has.stays has.chains others;
            owned = owned;
            finished = like.finished;
            step = like.step;
            there = like.there;
            few = like.few;
            tables = has.tables;
            started = has.started;
          };
          place = frame.place;
        },
        has.others,
      ))
    where
      -- the caller's birth is as it was
      owned : OwnsFrames t.task (next_instruction (source.with_returned caller (source.call_result setting.program caller) value) ∷ callers) has.shared.story
      owned =
          same-births (next_instruction (source.with_returned caller (source.call_result setting.program caller) value)) caller callers caller.birth (caller-birth caller (source.call_result setting.program caller) value) refl
          ∙ ap (filter_map (λ (f : SourceFrame). f.birth)) (sym are)
          ∙ has.owned

  by-callers : (value : Option Value) (number : Option ℕ) (cs : List SourceFrame) (ms : List Frame) → t.callers ≡ cs → IsReturned t.shared.story.births value number → CallersRelated setting t.shared.story.births m.shared.chains cs ms
      → Follows setting t m.shared (told_outcome (story_setting setting) t (return_by birth has.shared.source value cs)) (machine.frame_left setting (record m { shared = has.machine }) ms number)
  by-callers value number [] [] are same each = subst (λ task. Follows setting t m.shared (told_outcome (story_setting setting) t (last_by birth has.shared.source value t.task)) (machine.last_left task has.machine (unwrap_or number 0))) (sym like.task) (last-follows value number t.task are same)
  by-callers value number [] (mc ∷ mcs) are same each = absurd each
  by-callers value number (caller ∷ callers) [] are same each = absurd each
  by-callers value number (caller ∷ callers) (mc ∷ mcs) are same each = goes-on value number caller callers mc mcs are same each.0 each.1

  last-same : (value : Option Value) (task : ℕ) → source.last_return (source_seen t) value task ≡ last_by t.frame.birth (source.frame_ended (source_seen t) t.frame.birth) value task
  last-same value zero = refl
  last-same value (suc task) = refl

  returns-same : (value : Option Value) (cs : List SourceFrame) → source.returns_to setting.program (source_seen t) value cs ≡ return_by t.frame.birth (source.frame_ended (source_seen t) t.frame.birth) value cs
  returns-same value [] = last-same value t.task
  returns-same value (caller ∷ callers) = refl

  -- the source's return, after the end of its frame
  pub return-follows : t.frame.birth ≡ birth → (value : Option Value) (number : Option ℕ) → IsReturned t.shared.story.births value number
      → FollowsIn setting t m (source.returns_to setting.program (source_seen t) value t.callers) (machine.frame_left setting (record m { shared = has.machine }) m.callers number)
  return-follows own value number same =
      subst (λ outcome. FollowsIn setting t m outcome (machine.frame_left setting (record m { shared = has.machine }) m.callers number))
      (sym (returns-same value t.callers ∙ ap (λ o. return_by o (source.frame_ended (source_seen t) o) value t.callers) own ∙ ap (λ (shared : SourceShared). return_by birth shared value t.callers) has.ended))
      (by-callers value number t.callers m.callers refl same like.callers)

-- ---- the step

module _ (setting : MachineSetting) (given : Input) (t : ToldSeen) (m : MachineSeen) (f : Function) (inst : Inst) (is : IsSetting setting) (at : IsAt setting.program t f inst) (related : SeenRelated setting t m) (value : Option PlacedOperand) (resolved : IfSome value (IsResolvedPlaced setting.program f)) where
  abbrev ret_outcome : SourceOutcome
  ret_outcome = source.ret_step setting.program (source_seen t) (optional_value setting.program t.frame.registers value)

  -- the return's machine instruction, with the end of the frame before it, if the function has variables
  ret-plain : t.frame.birth ≡ None → HasChecks setting given t m f inst is at related [] (Ret (returned value)) → FollowsIn setting t m ret_outcome (machine_step setting given m)
  unfolding source.ret_step machine.ret_step
  ret-plain none has =
      no-checks setting given t m f inst is at related _ has _ (λ next.
      returned-follows setting t m f value _ _ related.like resolved (λ v same.
      let (has_left, machine_is) = plain-left setting t m is related.like none in
      subst (λ (shared : MachineShared). FollowsIn setting t m (source.returns_to setting.program (source_seen t) v t.callers) (machine.frame_left setting (record m { shared = shared }) m.callers (machine.returned_number m (returned value)))) machine_is
      (return-follows setting t m is related.like None has_left none v (machine.returned_number m (returned value)) same)))

  ret-some : (birth : ℕ) → t.frame.birth ≡ Some birth → HasChecks setting given t m f inst is at related (Leave ∷ []) (Ret (returned value)) → FollowsIn setting t m ret_outcome (machine_step setting given m)
  unfolding machine_step source.ret_step machine.ret_step machine.leave_step
  ret-some birth some has =
      let ahead = code-ahead setting t m f inst (record { mark = Added (own_site t); op = Leave } ∷ record { mark = Source (own_site t); op = Ret (returned value) } ∷ []) is at related has.code in
      let fuel = fuel-ahead setting m (record { mark = Added (own_site t); op = Leave } ∷ []) (record { mark = Source (own_site t); op = Ret (returned value) }) ahead in
      let (left_fuel, enough, step) = added-ahead setting given (length (code_at setting.code m.frame.func).insts) m (own_site t) Leave (record { mark = Source (own_site t); op = Ret (returned value) } ∷ []) ahead (omega (arith, fuel)) in
      let after = advanced (machine.stacks_set (chain_known m (own_site t)) (left m.shared.stacks m.shared.memory m.task (chain_at m (own_site t)))) in
      let (next, last) = source-ahead setting given left_fuel after (own_site t) (Ret (returned value)) [] (ahead-next setting m (record { mark = Added (own_site t); op = Leave }) (record { mark = Source (own_site t); op = Ret (returned value) } ∷ []) ahead) (omega (arith, enough)) in
      let (has_left, machine_is) = some-left setting t m is related.like birth some in
      subst (λ r. FollowsIn setting t m ret_outcome r) (sym (step ∙ last))
      (returned-follows setting t m f value _ _ related.like resolved (λ v same.
      subst (λ (shared : MachineShared). FollowsIn setting t m (source.returns_to setting.program (source_seen t) v t.callers) (machine.frame_left setting (record m { shared = shared; frame = Rattle.ir_tasks.specs.Frames.advanced m.frame }) m.callers (machine.returned_number m (returned value)))) machine_is
      (return-follows setting t m is related.like (Some birth) has_left some v (machine.returned_number m (returned value)) same)))

  abbrev HasReturn : List ℕ → Type 0
  HasReturn sizes = HasChecks setting given t m f inst is at related (leave_code sizes) (Ret (returned value))

  -- by the function's variables, and so by whether its frame has a birth
  ret-by : (sizes : List ℕ) (birth : Option ℕ) → t.frame.birth ≡ birth → HasVariables t.shared.story.births sizes birth → HasReturn sizes → FollowsIn setting t m ret_outcome (machine_step setting given m)
  ret-by [] None own variables has = ret-plain own has
  ret-by [] (Some birth) own variables has = absurd variables
  ret-by (size ∷ sizes) None own variables has = absurd variables
  ret-by (size ∷ sizes) (Some birth) own variables has = ret-some birth own has

  pub each-return-followed : HasReturn f.allocas → FollowsIn setting t m ret_outcome (machine_step setting given m)
  each-return-followed has = ret-by f.allocas t.frame.birth refl (related.like.frame.variables f at.function) has
