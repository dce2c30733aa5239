-- The newest frame with variables of a task in the machine's table and in the story: it is that of the frame that runs, if that one
-- has variables.
use Rattle.std.proofs.Common.{◌≡◌, ℕ, ◌+◌, ◌<◌, List, [], ◌∷◌, length, map, take, slice_get, Option, Some, None, option_map, unwrap_or, refl, sym, ◌∙◌, ap, subst, arith}
use Rattle.std.specs.List.{filter_map}
use Rattle.hw_base.specs.AddressMap.{frame_size}
use Rattle.hw_base.specs.TaggedAddress.{tagged_address}
use Rattle.hw_base.specs.declared.pointers.Base.TheVariants.{Object}
use Rattle.hw_tags.specs.Tag.{frame_tag_of}
use Rattle.ir_core.specs.declared.ir_module.Function.{Function}
use Rattle.ir_machine.proofs.CodeAt.{get-below}
use Rattle.ir_machine.specs.AddressSteps as machine
use Rattle.ir_machine.specs.State.{MachineSetting, MachineSeen}
use Rattle.ir_meaning.specs.AddressSteps as source
use Rattle.ir_meaning.specs.Operands.{with_named}
use Rattle.ir_meaning.specs.State.{SourceFrame}
use Rattle.ir_meaning.specs.StepEnds.{gives}
use Rattle.ir_meaning.specs.Values.{Address}
use Rattle.mi_code.specs.MachineOperands.{result_register}
use Rattle.stack_tags.specs.Frames as stacks
use Rattle.stack_tags.specs.Frames.{LivingFrame, TaskFrames, variable_of, variable_number}
use Rattle.tag_story.specs.Story.{Placed, StoryBirth, OpenFrame, get_placed, number_in, number_of}
use Rattle.tag_story.specs.ToldRun.{ToldSeen, source_seen}
use Rattle.simulation.proofs.BirthLists.{placed-in}
use Rattle.simulation.proofs.FrameLists.{variable-at}
use Rattle.step_simulation.proofs.PlainSteps.{FollowsIn, IsBeforeNext, gives-follows}
use Rattle.simulation.specs.Parts.{IsBorn, AreEach, IsFrameOf, frames_of_task}
use Rattle.simulation.specs.Relation.{HasVariables, SeenLike}

-- ---- the newest frame

-- both sides' newest frame of the task, and those that are older
pub record HasNewest (t : ToldSeen) (m : MachineSeen) (birth : ℕ) : Type 0 where
  pub frames : TaskFrames
  pub there : slice_get m.shared.stacks.tasks t.task ≡ Some frames
  pub newest : LivingFrame
  pub older : List LivingFrame
  pub living : frames.living ≡ newest ∷ older
  pub open_frame : OpenFrame
  pub rest : List OpenFrame
  pub opened : frames_of_task t.task t.shared.story.frames ≡ open_frame ∷ rest
  pub own : IsFrameOf m.shared.chains t.shared.story.births newest open_frame
  pub others : AreEach (IsFrameOf m.shared.chains t.shared.story.births) older rest
  pub birth_is : open_frame.birth ≡ birth
  pub owned : filter_map (λ (f : SourceFrame). f.birth) t.callers ≡ map (λ (o : OpenFrame). o.birth) rest

-- the frames of a task are in the table
pub task-frames : (setting : MachineSetting) (t : ToldSeen) (m : MachineSeen) → SeenLike setting t m → (frames : TaskFrames) × (slice_get m.shared.stacks.tasks t.task ≡ Some frames)
task-frames setting t m like = let many = like.tables.stacks in let there = like.there in get-below m.shared.stacks.tasks t.task (omega (arith, many, there))

pub with-birth : (f : SourceFrame) (frames : List SourceFrame) (birth : ℕ) → f.birth ≡ Some birth → filter_map (λ (g : SourceFrame). g.birth) (f ∷ frames) ≡ birth ∷ filter_map (λ (g : SourceFrame). g.birth) frames
with-birth f frames birth h = rw h refl

pub newest-frame : (setting : MachineSetting) (t : ToldSeen) (m : MachineSeen) (birth : ℕ) → SeenLike setting t m → t.frame.birth ≡ Some birth → HasNewest t m birth
newest-frame setting t m birth like h =
    let (frames, there) = task-frames setting t m like in
    by_open frames there (frames_of_task t.task t.shared.story.frames) refl frames.living refl (like.shared.stacks.living t.task frames there)
  where
    owned : birth ∷ filter_map (λ (f : SourceFrame). f.birth) t.callers ≡ map (λ (o : OpenFrame). o.birth) (frames_of_task t.task t.shared.story.frames)
    owned = sym (with-birth t.frame t.callers birth h) ∙ like.owned

    by_open : (frames : TaskFrames) → slice_get m.shared.stacks.tasks t.task ≡ Some frames → (opened : List OpenFrame) → frames_of_task t.task t.shared.story.frames ≡ opened → (living : List LivingFrame) → frames.living ≡ living → AreEach (IsFrameOf m.shared.chains t.shared.story.births) frames.living (frames_of_task t.task t.shared.story.frames) → HasNewest t m birth
    by_open frames there [] are living is each = let none : birth ∷ filter_map (λ (f : SourceFrame). f.birth) t.callers ≡ [] = owned ∙ ap (map (λ (o : OpenFrame). o.birth)) are in absurd cc
    by_open frames there (first ∷ rest) are [] is each = absurd (subst (λ ys. AreEach (IsFrameOf m.shared.chains t.shared.story.births) [] ys) are (subst (λ xs. AreEach (IsFrameOf m.shared.chains t.shared.story.births) xs (frames_of_task t.task t.shared.story.frames)) is each))
    by_open frames there (first ∷ rest) are (newest ∷ older) is each =
        let both = subst (λ ys. AreEach (IsFrameOf m.shared.chains t.shared.story.births) (newest ∷ older) ys) are (subst (λ xs. AreEach (IsFrameOf m.shared.chains t.shared.story.births) xs (frames_of_task t.task t.shared.story.frames)) is each) in
        let births : birth ∷ filter_map (λ (f : SourceFrame). f.birth) t.callers ≡ first.birth ∷ map (λ (o : OpenFrame). o.birth) rest = owned ∙ ap (map (λ (o : OpenFrame). o.birth)) are in
        record {
          frames = frames;
          there = there;
          newest = newest;
          older = older;
          living = is;
          open_frame = first;
          rest = rest;
          opened = are;
          own = both.0;
          others = both.1;
          birth_is = (let same : first.birth ≡ birth = cc in same);
          owned = (let same : filter_map (λ (f : SourceFrame). f.birth) t.callers ≡ map (λ (o : OpenFrame). o.birth) rest = cc in same);
        }

-- ---- variables

module _ (setting : MachineSetting) (t : ToldSeen) (m : MachineSeen) (f : Function) (like : SeenLike setting t m) (before : IsBeforeNext setting t m f) where
  -- the number of a variable of the frame that runs
  variable-same : (birth k : ℕ) (x : Placed) → HasNewest t m birth → get_placed t.shared.story.births (record { birth = birth; index = k }) ≡ Some x → variable_number m.shared.stacks m.task k ≡ number_of t.shared.story.births (Object (record { birth = birth; index = k })) 0
  variable-same birth k x has there =
      let place = placed-in t.shared.story.births (record { birth = birth; index = k }) x there in
      let same_story : Some has.own.story ≡ Some place.birth = sym has.own.there ∙ ap (slice_get t.shared.story.births) has.birth_is ∙ place.there in
      let one : has.own.story ≡ place.birth = cc in
      let object : slice_get (Rattle.tag_story.specs.Telling.variables_from has.newest.frame.word 0 has.newest.frame.low has.newest.sizes) k ≡ Some x = ap (λ xs. slice_get xs k) (sym has.own.objects) ∙ ap (λ (b : StoryBirth). slice_get b.objects k) one ∙ place.object in
      let (at, tag) = variable-at has.newest.frame.word 0 has.newest.frame.low k has.newest.sizes x object in
      let zero_more : x.at ≡ x.at + 0 = omega arith in
      let first : 0 + k ≡ k = omega arith in
      ap (λ task. variable_number m.shared.stacks task k) like.task
      ∙ ap (λ (o : Option TaskFrames). unwrap_or (option_map (λ newest. variable_of newest k) (slice_get (unwrap_or o stacks.no_frames).living 0)) 0) has.there
      ∙ ap (λ (living : List LivingFrame). unwrap_or (option_map (λ newest. variable_of newest k) (slice_get living 0)) 0) has.living
      ∙ ap (λ n. tagged_address n (has.newest.frame.low + frame_size (take k has.newest.sizes))) (ap (frame_tag_of has.newest.frame.word) (sym first) ∙ sym tag)
      ∙ ap (tagged_address x.tag) (sym at ∙ zero_more)
      ∙ ap (λ p. number_in p 0) (sym there)

  variable-known : (birth k : ℕ) → t.frame.birth ≡ Some birth → k < length f.allocas → IsBorn t.shared.story.births (record { birth = birth; index = k })
  variable-known birth k h below = by_sizes f.allocas below (subst (HasVariables t.shared.story.births f.allocas) h (like.frame.variables f before.0))
    where
      by_sizes : (sizes : List ℕ) → k < length sizes → HasVariables t.shared.story.births sizes (Some birth) → IsBorn t.shared.story.births (record { birth = birth; index = k })
      by_sizes [] few has = absurd has
      by_sizes (size ∷ sizes) few has = has k few

  pub alloca-follows : (result : Option ℕ) (k : ℕ) → k < length f.allocas → FollowsIn setting t m (source.alloca_step (source_seen t) result k) (machine.alloca_step m (result_register f result) k)
  unfolding source.alloca_step machine.alloca_step with_named
  alloca-follows result k below = by_birth t.frame.birth refl
    where
      by_birth : (o : Option ℕ) → t.frame.birth ≡ o → FollowsIn setting t m (with_named o (λ birth. gives (source_seen t) result (Address (Object (record { birth = birth; index = k })) 0))) (Rattle.ir_machine.specs.StepEnds.gives m (result_register f result) (variable_number m.shared.stacks m.task k))
      by_birth None h = tt
      by_birth (Some birth) h =
          let known = variable-known birth k h below in
          gives-follows setting t m f result (Address (Object (record { birth = birth; index = k })) 0) (variable_number m.shared.stacks m.task k) like before known tt
          (variable-same birth k known.0 (newest-frame setting t m birth like h) known.1)
