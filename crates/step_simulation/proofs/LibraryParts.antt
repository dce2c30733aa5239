-- What the calls of library functions have in common: their code with its checks, their arguments, and their results.
use Rattle.std.proofs.Common.{◌≡◌, ℕ, zero, suc, ◌+◌, ◌*◌, ◌%◌, ◌^◌, ◌<◌, ◌≤◌, List, [], ◌∷◌, ◌++◌, length, map, slice_get, slice_set, Option, Some, None, All, refl, sym, ◌∙◌, ap, arith}
use Rattle.std.proofs.lemmas.List.{length-set}
use Rattle.hw_base.specs.declared.endings.Input.{Input}
use Rattle.hw_base.specs.declared.operators.BitOp.{BitOp}
use Rattle.std.proofs.Math.Nat.{zero-mod}
use Rattle.hw_base.specs.declared.pointers.Base.{Base}
use Rattle.hw_base.specs.declared.pointers.Site.{Site}
use Rattle.ir_core.specs.ResolvedBodies.{IsResolvedPlaced}
use Rattle.ir_core.specs.declared.ir_module.Function.{Function}
use Rattle.ir_core.specs.declared.ir_module.Inst.{Inst}
use Rattle.ir_core.specs.declared.operands.Placed.{Placed}
use Rattle.ir_machine.specs.CallSteps.{code_at, instruction_at}
use Rattle.ir_machine.specs.InstructionStep.{operation_step, instruction_step, steps_within}
use Rattle.ir_machine.specs.Operands.{number_in as machine_number, argument_at}
use Rattle.ir_machine.specs.State.{MachineSetting, MachineShared, MachineSeen, MachineOutcome}
use Rattle.ir_machine.specs.StepEnds as machine
use Rattle.ir_machine.specs.StepEnds.{advanced}
use Rattle.ir_arith.specs.BitIntrinsics.{bits_result}
use Rattle.ir_machine.specs.ArithmeticSteps as machine_bits
use Rattle.ir_meaning.specs.ArithmeticSteps as source_bits
use Rattle.ir_meaning.specs.InstructionStep.{values_of}
use Rattle.ir_meaning.specs.Operands.{argument, with_pointer, with_integer}
use Rattle.ir_meaning.specs.State.{SourceOutcome, printing}
use Rattle.ir_meaning.specs.StepEnds as source
use Rattle.ir_meaning.specs.Values.{Value, Integer, Address, IntegerAndBit}
use Rattle.ir_tasks.specs.Frames.{Frame}
use Rattle.mi_code.specs.Instrumentation.{place_of, code_of_instruction, code_of_function}
use Rattle.mi_code.specs.MachineOperands.{operand_of, operands_of, argument as machine_argument, call_result, result_register}
use Rattle.mi_code.specs.declared.code_functions.Mark.TheVariants.{Added, Source}
use Rattle.mi_code.specs.declared.code_functions.Mi.{Mi}
use Rattle.mi_code.specs.declared.operations.MiOp.{MiOp}
use Rattle.tag_story.proofs.StoryLists.{get-below}
use Rattle.tag_story.specs.Story.{Story, StoryBirth, number_of, value_image}
use Rattle.dbg_sites.specs.ChainTable.{ChainEntry}
use Rattle.tag_story.specs.Telling.{all_told}
use Rattle.tag_story.specs.ToldRun.{ToldSeen, ToldShared, source_seen}
use Rattle.step_simulation.proofs.ArithmeticFollows.{IsOperandOf}
use Rattle.step_simulation.proofs.CodeAt.{code-at, instruction-get}
use Rattle.simulation.proofs.Images.{born-stays, registers-stay}
use Rattle.step_simulation.proofs.OperandsThere.{operand-of}
use Rattle.step_simulation.proofs.PlainSteps.{FollowsIn, IsBeforeNext, IsNumberOf, own_site, others-kept, moved-related, gives-follows, integer-known}
use Rattle.step_simulation.proofs.RegisterImages.{IsSingle, register-set}
use Rattle.simulation.proofs.TablesKept.{each-map}
use Rattle.simulation.specs.BirthsAndDeaths.{ChainsStay}
use Rattle.simulation.specs.Images.{Stays}
use Rattle.simulation.specs.Parts.{IsKnownValue, IsKnownBase, frames_of_task, AreStarted}
use Rattle.step_simulation.specs.RegisterSteps.{IsAt}
use Rattle.simulation.specs.Relation.{IsSetting, HasTables, SharedRelated, HasVariables, FrameRelated, CallerRelated, CallersRelated, FramesRelated, SeenLike, SeenRelated}
use Rattle.ir_meaning.specs.State.{SourceFrame}

-- ---- code

-- these machine instructions come next
abbrev pub IsAhead : MachineSetting → MachineSeen → List Mi → Type 0
IsAhead setting s ahead = (k : ℕ) (mi : Mi) → slice_get ahead k ≡ Some mi → slice_get (code_at setting.code s.frame.func).insts (s.frame.place + k) ≡ Some mi

pub ahead-next : (setting : MachineSetting) (s : MachineSeen) (mi : Mi) (rest : List Mi) → IsAhead setting s (mi ∷ rest) → IsAhead setting (advanced s) rest
ahead-next setting s mi rest ahead k next h =
    let same : s.frame.place + 1 + k ≡ s.frame.place + suc k = omega arith in
    ap (slice_get (code_at setting.code s.frame.func).insts) same ∙ ahead (suc k) next h

ahead-here : (setting : MachineSetting) (s : MachineSeen) (mi : Mi) (rest : List Mi) → IsAhead setting s (mi ∷ rest) → instruction_at setting.code s.frame ≡ Some mi
ahead-here setting s mi rest ahead =
    let same : s.frame.place ≡ s.frame.place + 0 = omega arith in
    ap (slice_get (code_at setting.code s.frame.func).insts) same ∙ ahead 0 mi refl

-- the next instruction with enough fuel
module _ (setting : MachineSetting) (given : Input) where
  pub added-ahead : (fuel : ℕ) (s : MachineSeen) (site : Site) (op : MiOp) (rest : List Mi) → IsAhead setting s (record { mark = Added site; op = op } ∷ rest) → suc (length rest) ≤ fuel
      → (left : ℕ) × (length rest ≤ left) × (steps_within setting given fuel s ≡ operation_step setting given site (steps_within setting given left) s op)
  unfolding steps_within
  added-ahead zero s site op rest ahead enough = absurd (omega (arith, enough))
  added-ahead (suc left) s site op rest ahead enough = (left, omega (arith, enough), ap (instruction_step setting given (steps_within setting given left) s) (ahead-here setting s _ rest ahead))

  pub source-ahead : (fuel : ℕ) (s : MachineSeen) (site : Site) (op : MiOp) (rest : List Mi) → IsAhead setting s (record { mark = Source site; op = op } ∷ rest) → 1 ≤ fuel
      → (next : MachineSeen → MachineOutcome) × (steps_within setting given fuel s ≡ operation_step setting given site next s op)
  unfolding steps_within
  source-ahead zero s site op rest ahead enough = absurd (omega (arith, enough))
  source-ahead (suc left) s site op rest ahead enough = (steps_within setting given left, ap (instruction_step setting given (steps_within setting given left) s) (ahead-here setting s _ rest ahead))

-- the code of the source's instruction is ahead
pub code-ahead : (setting : MachineSetting) (t : ToldSeen) (m : MachineSeen) (f : Function) (inst : Inst) (ahead : List Mi) → IsSetting setting → IsAt setting.program t f inst → SeenRelated setting t m → code_of_instruction setting.program f (own_site t) inst ≡ ahead → IsAhead setting m ahead
code-ahead setting t m f inst ahead is at related code k mi h =
    ap (λ c. slice_get (code_at c m.frame.func).insts (m.frame.place + k)) is.code
    ∙ ap (λ n. slice_get (code_at (Rattle.mi_code.specs.Instrumentation.instrumented setting.program) n).insts (m.frame.place + k)) related.like.frame.func
    ∙ ap (λ (c : Rattle.mi_code.specs.declared.code_functions.CodeFunction.CodeFunction). slice_get c.insts (m.frame.place + k)) (code-at setting.program t.frame.func f at.function)
    ∙ ap (λ n. slice_get (code_of_function setting.program t.frame.func f).insts (n + k)) (related.place f at.function)
    ∙ instruction-get setting.program f t.frame.func t.frame.inst k inst mi at.instruction (ap (λ xs. slice_get xs k) code ∙ h)

-- a step of a task has fuel enough for its code
pub fuel-ahead : (setting : MachineSetting) (s : MachineSeen) (ahead : List Mi) (last : Mi) → IsAhead setting s (ahead ++ last ∷ []) → length ahead < length (code_at setting.code s.frame.func).insts
fuel-ahead setting s ahead last all =
    let there = all (length ahead) last (Rattle.dbg_sites.proofs.ChainLemmas.slice_get-push_new ahead last) in
    let below = get-below (code_at setting.code s.frame.func).insts (s.frame.place + length ahead) last there in
    omega (arith, below)

-- ---- arguments

-- a call's argument in both codes
pub argument-same : (args : List Placed) (k : ℕ) → argument_at (operands_of args) k ≡ machine_argument args k
argument-same [] k = refl
argument-same (arg ∷ args) zero = refl
argument-same (arg ∷ args) (suc k) = argument-same args k

pub argument-of : (setting : MachineSetting) (t : ToldSeen) (m : MachineSeen) (f : Function) (args : List Placed) (k : ℕ) → SeenLike setting t m → All (IsResolvedPlaced setting.program f) args → IsOperandOf t m (machine_argument args k) (argument (values_of setting.program (source_seen t) args) k)
argument-of setting t m f [] k like all = λ v h. absurd cc
argument-of setting t m f (arg ∷ args) zero like all = operand-of setting t m f arg like (all 0 arg (omega arith))
argument-of setting t m f (arg ∷ args) (suc k) like all = argument-of setting t m f args k like (λ j d q. all (suc j) d (omega (arith, q)))

-- on from a pointer that is named
pub pointer-named : (setting : MachineSetting) (t : ToldSeen) (m : MachineSeen) (o : Option Value) (number : ℕ) (go : Base → ℕ → SourceOutcome) (r : MachineOutcome) → IsNumberOf t.shared.story.births number o
    → ((base : Base) (off : ℕ) → o ≡ Some (Address base off) → IsKnownBase t.shared.story.births base → number ≡ number_of t.shared.story.births base off → FollowsIn setting t m (go base (off % 2 ^ 64)) r) → FollowsIn setting t m (with_pointer o go) r
unfolding with_pointer
pointer-named setting t m None number go r is follows = tt
pointer-named setting t m (Some (Integer n)) number go r is follows = tt
pointer-named setting t m (Some (Address base off)) number go r is follows = let image = is (Address base off) refl in follows base off refl image.1 image.0
pointer-named setting t m (Some (IntegerAndBit n bit)) number go r is follows = tt

-- on from an integer that is named
pub integer-named : (setting : MachineSetting) (t : ToldSeen) (m : MachineSeen) (width : ℕ) (o : Option Value) (number : ℕ) (go : ℕ → SourceOutcome) (r : MachineOutcome) → IsNumberOf t.shared.story.births number o
    → ((n : ℕ) → o ≡ Some (Integer n) → number ≡ n → FollowsIn setting t m (go (n % 2 ^ width)) r) → FollowsIn setting t m (with_integer width o go) r
unfolding with_integer
integer-named setting t m width None number go r is follows = tt
integer-named setting t m width (Some (Integer n)) number go r is follows = follows n refl (is (Integer n) refl).0
integer-named setting t m width (Some (Address base off)) number go r is follows = tt
integer-named setting t m width (Some (IntegerAndBit n bit)) number go r is follows = tt

-- what is named goes on
pub with_pointer-is : (o : Option Value) (base : Base) (off : ℕ) (go : Base → ℕ → SourceOutcome) → o ≡ Some (Address base off) → with_pointer o go ≡ go base (off % 2 ^ 64)
unfolding with_pointer
with_pointer-is o base off go h = ap (λ v. with_pointer v go) h

pub with_integer-is : (width : ℕ) (o : Option Value) (n : ℕ) (go : ℕ → SourceOutcome) → o ≡ Some (Integer n) → with_integer width o go ≡ go (n % 2 ^ width)
unfolding with_integer
with_integer-is width o n go h = ap (λ v. with_integer width v go) h

-- ---- results

module _ (setting : MachineSetting) (t : ToldSeen) (m : MachineSeen) (f : Function) (like : SeenLike setting t m) (before : IsBeforeNext setting t m f) where
  -- a call with a result, which prints
  pub prints-follows : (result : Option ℕ) (v : Value) (n : ℕ) (bytes : List ℕ) → IsKnownValue t.shared.story.births v → IsSingle v → n ≡ value_image t.shared.story.births v
      → FollowsIn setting t m (source.gives_with (source_seen t) result v (printing bytes)) (machine.prints m (call_result result) n bytes)
  unfolding all_told
  prints-follows None v n bytes known one image = (
    advanced m,
    refl,
    moved-related setting t m f t.frame.registers m.frame.registers like before refl like.frame.registers,
    others-kept t m.shared,
  )
  prints-follows (Some r) v n bytes known one image = (
    advanced (machine.with_number m (2 * r) n),
    refl,
    moved-related setting t m f (slice_set t.frame.registers r (Some v)) (slice_set m.frame.registers (2 * r) n) like before (length-set t.frame.registers r (Some v))
        (register-set t.shared.story.births t.frame.registers m.frame.registers r v n like.frame.registers known one image),
    others-kept t m.shared,
  )

  -- a call with a result
  pub gives_to-follows : (result : Option ℕ) (v : Value) (n : ℕ) → IsKnownValue t.shared.story.births v → IsSingle v → n ≡ value_image t.shared.story.births v → FollowsIn setting t m (source.gives (source_seen t) result v) (machine.gives_to m (call_result result) n)
  gives_to-follows result v n known one image = prints-follows result v n [] known one image

-- ---- intrinsics on bits

module _ (setting : MachineSetting) (t : ToldSeen) (m : MachineSeen) (f : Function) (like : SeenLike setting t m) (before : IsBeforeNext setting t m f) (result : Option ℕ) (kind : BitOp) (width : ℕ) where
  bits-given : (x y z k l n : ℕ) → k ≡ x → l ≡ y → n ≡ z → FollowsIn setting t m (source.gives (source_seen t) result (Integer (bits_result kind width x y z))) (machine.gives m (result_register f result) (bits_result kind width k l n))
  bits-given x y z k l n first second third =
      gives-follows setting t m f result (Integer (bits_result kind width x y z)) (bits_result kind width k l n) like before tt tt
      (ap (λ i. bits_result kind width i l n) first ∙ ap (λ i. bits_result kind width x i n) second ∙ ap (bits_result kind width x y) third)

  -- an argument that a call lacks is 0
  lacking : 0 % 2 ^ width ≡ 0
  lacking = zero-mod (2 ^ width)

  pub bits-follows : (args : List Placed) → ((k : ℕ) → IsOperandOf t m (argument_at (operands_of args) k) (argument (values_of setting.program (source_seen t) args) k))
      → FollowsIn setting t m (source_bits.bits_step (source_seen t) result kind width (values_of setting.program (source_seen t) args)) (machine_bits.bits_step m kind width (result_register f result) (operands_of args))
  unfolding source_bits.bits_step machine_bits.bits_step
  bits-follows [] are = tt
  bits-follows (a ∷ []) are =
      integer-known setting t m width _ (machine_number m (operand_of a)) _ _ (are 0) (λ x first. bits-given x 0 0 _ _ _ (sym first) lacking lacking)
  bits-follows (a ∷ b ∷ []) are =
      integer-known setting t m width _ (machine_number m (operand_of a)) _ _ (are 0) (λ x first.
      integer-known setting t m width _ (machine_number m (operand_of b)) _ _ (are 1) (λ y second. bits-given x y 0 _ _ _ (sym first) (sym second) lacking))
  bits-follows (a ∷ b ∷ c ∷ []) are =
      integer-known setting t m width _ (machine_number m (operand_of a)) _ _ (are 0) (λ x first.
      integer-known setting t m width _ (machine_number m (operand_of b)) _ _ (are 1) (λ y second.
      integer-known setting t m width _ (machine_number m (operand_of c)) _ _ (are 2) (λ z third. bits-given x y z _ _ _ (sym first) (sym second) (sym third))))
  bits-follows (a ∷ b ∷ c ∷ d ∷ args) are = tt

-- ---- what all tasks share changes

-- variables stay
pub variables-stay : (before after : List StoryBirth) (sizes : List ℕ) (birth : Option ℕ) → Stays before after → HasVariables before sizes birth → HasVariables after sizes birth
variables-stay before after [] None stays has = tt
variables-stay before after [] (Some birth) stays has = has
variables-stay before after (size ∷ sizes) None stays has = has
variables-stay before after (size ∷ sizes) (Some birth) stays has = λ k below. born-stays before after (record { birth = birth; index = k }) stays (has k below)

-- frames stay related while places and chains stay
pub frame-stays : (setting : MachineSetting) (before after : List StoryBirth) (table later : List ChainEntry) (f : SourceFrame) (m : Frame) → Stays before after → ChainsStay table later → FrameRelated setting before table f m → FrameRelated setting after later f m
frame-stays setting before after table later f m stays chains related =
    record {
      like = record {
        func = related.like.func;
        sized = related.like.sized;
        variables = λ g h. variables-stay before after g.allocas f.birth stays (related.like.variables g h);
        registers = registers-stay before after f.registers m.registers stays related.like.registers;
        chain = chains m.chain f.chain related.like.chain;
      };
      place = related.place;
    }

pub caller-stays : (setting : MachineSetting) (before after : List StoryBirth) (table later : List ChainEntry) (f : SourceFrame) (m : Frame) → Stays before after → ChainsStay table later → CallerRelated setting before table f m → CallerRelated setting after later f m
caller-stays setting before after table later f m stays chains related = record { frame = frame-stays setting before after table later f m stays chains related.frame; at_call = related.at_call }

pub callers-stay : (setting : MachineSetting) (before after : List StoryBirth) (table later : List ChainEntry) (frames : List SourceFrame) (machine : List Frame) → Stays before after → ChainsStay table later
    → CallersRelated setting before table frames machine → CallersRelated setting after later frames machine
callers-stay setting before after table later frames machine stays chains each =
    each-map (CallerRelated setting before table) (CallerRelated setting after later) frames machine (λ f m is. caller-stays setting before after table later f m stays chains is) each

pub frames-stay : (setting : MachineSetting) (before after : List StoryBirth) (table later : List ChainEntry) (frames : List SourceFrame) (machine : List Frame) → Stays before after → ChainsStay table later
    → FramesRelated setting before table frames machine → FramesRelated setting after later frames machine
frames-stay setting before after table later [] [] stays chains related = tt
frames-stay setting before after table later [] (m ∷ machine) stays chains related = related
frames-stay setting before after table later (f ∷ frames) [] stays chains related = related
frames-stay setting before after table later (f ∷ frames) (m ∷ machine) stays chains related =
    (frame-stays setting before after table later f m stays chains related.0, callers-stay setting before after table later frames machine stays chains related.1)

-- a task sees the new shared part as it saw the old one
pub shared-like : (setting : MachineSetting) (t : ToldSeen) (m : MachineSeen) (shared : ToldShared) (machine : MachineShared) → SeenLike setting t m → SharedRelated setting shared machine → Stays t.shared.story.births shared.story.births → ChainsStay m.shared.chains machine.chains
    → frames_of_task t.task shared.story.frames ≡ frames_of_task t.task t.shared.story.frames → HasTables (length t.finished) machine → AreStarted (length t.finished) shared.story
    → SeenLike setting (record t { shared = shared }) (record m { shared = machine })
shared-like setting t m shared machine like related stays chains own tables started =
    record {
      shared = related;
      task = like.task;
      frame = record {
        func = like.frame.func;
        sized = like.frame.sized;
        variables = λ g h. variables-stay t.shared.story.births shared.story.births g.allocas t.frame.birth stays (like.frame.variables g h);
        registers = registers-stay t.shared.story.births shared.story.births t.frame.registers m.frame.registers stays like.frame.registers;
        chain = chains m.frame.chain t.frame.chain like.frame.chain;
      };
      callers = callers-stay setting t.shared.story.births shared.story.births m.shared.chains machine.chains t.callers m.callers stays chains like.callers;
      owned = like.owned ∙ ap (map (λ (o : Rattle.tag_story.specs.Story.OpenFrame). o.birth)) (sym own);
      finished = like.finished;
      step = like.step;
      there = like.there;
      few = like.few;
      tables = tables;
      started = started;
    }
