-- The checks that are added before a call of a library function: each reports its access as the story says, or the machine goes on.
use Rattle.std.proofs.Common.{◌≡◌, ◌≢◌, ℕ, suc, ◌+◌, ◌%◌, ◌^◌, ◌==◌, Bool, true, false, if◌then◌else◌, List, [], ◌∷◌, ◌++◌, length, map, Option, Some, None, option_map, refl, sym, ◌∙◌, ap, subst, arith}
use Rattle.hw_base.specs.declared.accesses.Access.{Access}
use Rattle.hw_base.specs.declared.accesses.Access.TheVariants.{Free}
use Rattle.hw_base.specs.declared.endings.Input.{Input}
use Rattle.hw_base.specs.declared.endings.Trap.TheVariants.{ReadOnly}
use Rattle.hw_base.specs.declared.pointers.Base.{Base}
use Rattle.ir_core.specs.declared.ir_module.Function.{Function}
use Rattle.ir_core.specs.declared.ir_module.Inst.{Inst}
use Rattle.ir_machine.proofs.CodeAt.{place-next}
use Rattle.ir_machine.specs.CallSteps.{code_at}
use Rattle.ir_machine.specs.CheckSteps.{on_check, on_free, sized_step, free_check_step}
use Rattle.ir_machine.specs.InstructionStep as machine
use Rattle.ir_machine.specs.InstructionStep.{machine_step}
use Rattle.ir_machine.specs.Operands.{number_in as machine_number, pointer_in}
use Rattle.ir_machine.specs.State.{MachineSetting, MachineSeen, MachineOutcome}
use Rattle.ir_machine.specs.StepEnds.{advanced, chain_known}
use Rattle.ir_machine.specs.declared.found.Found.TheVariants.{Block as OfBlock}
use Rattle.ir_meaning.specs.AccessRule.{AccessAnswer, Fine, Violates, WritesConstant, IsOutside, NoAnswer, AccessBase, OnNull, OnObject, OnNothing, start_free, free_answer, access_rule, accessed, access_answer}
use Rattle.ir_meaning.specs.Births.{Region, Globals, Stack, Heap}
use Rattle.ir_meaning.specs.Operands.{with_pointer, with_integer}
use Rattle.ir_meaning.specs.State.{SourceOutcome, Violation}
use Rattle.ir_meaning.specs.StepEnds.{traps, on_answer, on_access, violation_of}
use Rattle.ir_meaning.specs.Values.{Value, Integer, Address}
use Rattle.mi_code.specs.Instrumentation.{place_of, instruction_length, code_of_instruction}
use Rattle.mi_code.specs.declared.code_functions.Mark.TheVariants.{Added, Source}
use Rattle.mi_code.specs.declared.operands.MiOperand.{MiOperand}
use Rattle.mi_code.specs.declared.operations.MiOp.{MiOp}
use Rattle.tag_alloc.specs.HeapBlocks.{free_mismatch}
use Rattle.tag_alloc.specs.declared.blocks.FreeMismatch.{FreeMismatch}
use Rattle.tag_story.specs.Judging.{judged, free_judged}
use Rattle.tag_story.specs.Story.{number_of, pointer_number}
use Rattle.tag_story.specs.Telling.{all_told}
use Rattle.tag_story.specs.ToldRun.{ToldSeen, source_seen}
use Rattle.tag_story.specs.declared.judgement.Judgement.{Judgement}
use Rattle.tag_story.specs.declared.judgement.Judgement.TheVariants.{Passes, Refused}
use Rattle.tbi_memory.specs.AddressSpace.{check}
use Rattle.step_simulation.proofs.ArithmeticFollows.{IsOperandOf}
use Rattle.simulation.proofs.ChainsRelated.{chains-related}
use Rattle.step_simulation.proofs.BlockFollows.{site-chain, site-stay, site-table}
use Rattle.step_simulation.proofs.CheckedAccess.{found-follows}
use Rattle.step_simulation.proofs.FreeFollows.{fine-frees}
use Rattle.simulation.proofs.FreesAgree.{frees-judged}
use Rattle.step_simulation.proofs.LibraryParts.{ahead-next, added-ahead, source-ahead, code-ahead, fuel-ahead, pointer-named, integer-named}
use Rattle.step_simulation.proofs.LoadFollows.{pointer-is}
use Rattle.step_simulation.proofs.PlainSteps.{FollowsIn, IsBeforeNext, own_site}
use Rattle.simulation.specs.Checks.{FindsJudged, refusing_found}
use Rattle.step_simulation.specs.Following.{FollowsJudged}
use Rattle.step_simulation.specs.RegisterSteps.{IsAt}
use Rattle.simulation.specs.Relation.{IsSetting, SeenLike, SeenRelated}

-- ---- accesses with a size that an argument says

module _ (setting : MachineSetting) (t : ToldSeen) (m : MachineSeen) (f : Function) (is : IsSetting setting) (like : SeenLike setting t m) where
  -- a pointer and a size, as the arguments name them
  abbrev pub IsGiven : Option Value → Option Value → (Base → (off size : ℕ) → Type 0) → Type 0
  IsGiven pointer count goes = (base : Base) (off size : ℕ) → pointer ≡ Some (Address base off) → count ≡ Some (Integer size) → goes base off size

  pub counted-follows : (access : Access) → access ≢ Free → (x y : MiOperand) (pointer count : Option Value) (go : MachineSeen → MachineOutcome) (next : SourceOutcome) → IsOperandOf t m x pointer → IsOperandOf t m y count
      → IsGiven pointer count (λ base off size. access_answer t.shared.source.births access base (off % 2 ^ 64) (size % 2 ^ 64) 1 ≡ Fine → FollowsIn setting t m next (go (advanced m)))
      → IsGiven pointer count (λ base off size. access_answer t.shared.source.births access base (off % 2 ^ 64) (size % 2 ^ 64) 1 ≡ WritesConstant → FollowsIn setting t m (traps (source_seen t) ReadOnly) (go (advanced m)))
      → FollowsIn setting t m (with_pointer pointer (λ base off. with_integer 64 count (λ size. on_access (source_seen t) access base off size 1 next))) (sized_step m (own_site t) x y access go)
  unfolding sized_step
  counted-follows access other x y pointer count go next is_pointer is_count follows trapped =
      pointer-named setting t m pointer (machine_number m x) _ _ is_pointer (λ base off named known number.
      integer-named setting t m 64 count (machine_number m y) _ _ is_count (λ size counted same.
      subst (λ n. FollowsIn setting t m (on_access (source_seen t) access base (off % 2 ^ 64) (size % 2 ^ 64) 1 next) (on_check m (own_site t) access (n % 2 ^ 64) (pointer_in m x) go (check m.shared.memory (pointer_in m x) (n % 2 ^ 64)))) (sym same)
      (found-follows setting t m is like access base (off % 2 ^ 64) (size % 2 ^ 64) 1 (pointer_in m x) go next other (pointer-is setting t m f is like x base off number)
      (follows base off size named counted) (trapped base off size named counted)
      (access_answer t.shared.source.births access base (off % 2 ^ 64) (size % 2 ^ 64) 1) refl)))

  -- ---- frees

  free-reported : (v : Violation) (number : ℕ) (next : MachineOutcome) (found : Option FreeMismatch) (judgement : Judgement) → number ≡ pointer_number t.shared.story v.pointer → v.task ≡ t.task → v.size ≡ 0 → v.access ≡ Free → v.chain ≡ own_site t ∷ t.frame.chain → FindsJudged judgement (option_map OfBlock found)
      → FollowsJudged setting judgement t.shared v t.step [] (on_free m (own_site t) number next found)
  free-reported v number next found (Passes coincidence) same task size access chain h = tt
  free-reported v number next None (Refused refused) same task size access chain h = let none = h.1.0 in absurd cc
  free-reported v number next (Some mismatch) (Refused refused) same task size access chain h =
      let one : OfBlock mismatch ≡ h.0 = let found = h.1.0 in cc in (
        (chain_known m (own_site t)).shared,
        m.frame ∷ m.callers,
        _,
        refl,
        record {
          access = sym access;
          size = sym size;
          number = same;
          task = like.task ∙ sym task;
          step_is = like.step;
          chain = record { there = (site-chain setting t m like).there; sites = (site-chain setting t m like).sites ∙ sym chain };
          found = ap refusing_found one ∙ h.1.1;
          related = chains-related setting t.shared m.shared (chain_known m (own_site t)).shared.chains (site-stay setting t m like) (site-table setting t m like) like.shared;
        },
      )

  -- no free writes to a constant
  free-writes-nothing : (base : AccessBase) (off : ℕ) → free_answer base off ≡ WritesConstant → ⊥
  free-writes-nothing OnNull off h = by_test (off == 0) h
    where
      by_test : (bit : Bool) → (if bit then Fine else Violates Rattle.hw_base.specs.declared.accesses.Kind.TheVariants.BadFree) ≡ WritesConstant → ⊥
      by_test true e = absurd cc
      by_test false e = absurd cc
  free-writes-nothing (OnObject x) off h = by_test (off == 0) h
    where
      by_region : (r : Region) (living : Bool) → start_free r living ≡ WritesConstant → ⊥
      by_region Globals living e = absurd cc
      by_region (Stack func) living e = absurd cc
      by_region Heap true e = absurd cc
      by_region Heap false e = absurd cc

      by_test : (bit : Bool) → (if bit then start_free x.region x.living else Violates Rattle.hw_base.specs.declared.accesses.Kind.TheVariants.BadFree) ≡ WritesConstant → ⊥
      by_test true e = by_region x.region x.living e
      by_test false e = absurd cc
  free-writes-nothing OnNothing off h = absurd cc

  free-answered : (base : Base) (off number : ℕ) (go : MachineOutcome) (next : SourceOutcome) → number ≡ number_of t.shared.story.births base off
      → (access_answer t.shared.source.births Free base off 0 1 ≡ Fine → FollowsIn setting t m next go)
      → (answer : AccessAnswer) → access_answer t.shared.source.births Free base off 0 1 ≡ answer → FollowsIn setting t m (on_answer (source_seen t) Free base off 0 answer next) (on_free m (own_site t) number go (free_mismatch m.shared.heap number))
  unfolding on_answer all_told judged access_rule
  free-answered base off number go next pointer follows Fine here =
      subst (λ (o : Option FreeMismatch). FollowsIn setting t m next (on_free m (own_site t) number go o)) (sym (ap (free_mismatch m.shared.heap) pointer ∙ fine-frees setting t.shared m.shared is like.shared base off here)) (follows here)
  free-answered base off number go next pointer follows (Violates kind) here =
      free-reported (violation_of (source_seen t) kind Free base off 0) number go (free_mismatch m.shared.heap number) (free_judged t.shared.story (number_of t.shared.story.births base off)) pointer refl refl refl refl
      (subst (λ n. FindsJudged (free_judged t.shared.story n) (option_map OfBlock (free_mismatch m.shared.heap number))) pointer (frees-judged setting t.shared m.shared like.shared number))
  free-answered base off number go next pointer follows WritesConstant here = absurd (free-writes-nothing (accessed t.shared.source.births base) off here)
  free-answered base off number go next pointer follows (IsOutside reason) here = tt
  free-answered base off number go next pointer follows NoAnswer here = tt

  pub freed-follows : (x : MiOperand) (pointer : Option Value) (go : MachineSeen → MachineOutcome) (next : SourceOutcome) → IsOperandOf t m x pointer
      → ((base : Base) (off : ℕ) → pointer ≡ Some (Address base off) → access_answer t.shared.source.births Free base (off % 2 ^ 64) 0 1 ≡ Fine → FollowsIn setting t m next (go (advanced m)))
      → FollowsIn setting t m (with_pointer pointer (λ base off. on_access (source_seen t) Free base off 0 1 next)) (free_check_step m (own_site t) (pointer_in m x) go)
  unfolding free_check_step
  freed-follows x pointer go next is_pointer follows =
      pointer-named setting t m pointer (machine_number m x) _ _ is_pointer (λ base off named known number.
      free-answered base (off % 2 ^ 64) (pointer_in m x) (go (advanced m)) next (pointer-is setting t m f is like x base off number) (follows base off named)
      (access_answer t.shared.source.births Free base (off % 2 ^ 64) 0 1) refl)

-- ---- code with checks

module _ (setting : MachineSetting) (given : Input) (t : ToldSeen) (m : MachineSeen) (f : Function) (inst : Inst) (is : IsSetting setting) (at : IsAt setting.program t f inst) (related : SeenRelated setting t m) where
  abbrev added : MiOp → Rattle.mi_code.specs.declared.code_functions.Mi.Mi
  added op = record { mark = Added (own_site t); op = op }

  abbrev own : MiOp → Rattle.mi_code.specs.declared.code_functions.Mi.Mi
  own op = record { mark = Source (own_site t); op = op }

  -- the instruction's code is these checks and this operation
  pub record HasChecks (checks : List MiOp) (op : MiOp) : Type 0 where
    pub code : code_of_instruction setting.program f (own_site t) inst ≡ map added checks ++ own op ∷ []
    pub many : instruction_length setting.program f.allocas inst ≡ length checks + 1

  -- a state of the machine after so many checks is before the next instruction
  pub checks-before : (checks : List MiOp) (op : MiOp) (s : MachineSeen) → HasChecks checks op → s.frame.place ≡ m.frame.place + length checks → IsBeforeNext setting t s f
  checks-before checks op s has place =
      (at.function, let here = related.place f at.function in let next = place-next setting.program f t.frame.inst inst at.instruction in let many = has.many in let after : t.frame.inst + 1 ≡ suc t.frame.inst = omega arith in let same = ap (place_of setting.program f) after in omega (arith, here, next, many, same, place))

  pub no-checks : (op : MiOp) → HasChecks [] op → (outcome : SourceOutcome)
      → ((next : MachineSeen → MachineOutcome) → FollowsIn setting t m outcome (machine.operation_step setting given (own_site t) next m op))
      → FollowsIn setting t m outcome (machine_step setting given m)
  unfolding machine_step
  no-checks op has outcome follows =
      let ahead = code-ahead setting t m f inst (own op ∷ []) is at related has.code in
      let fuel = fuel-ahead setting m [] (own op) ahead in
      let (next, step) = source-ahead setting given (length (code_at setting.code m.frame.func).insts) m (own_site t) op [] ahead (omega (arith, fuel)) in
      subst (λ r. FollowsIn setting t m outcome r) (sym step) (follows next)

  pub one-check : (first op : MiOp) → HasChecks (first ∷ []) op → (outcome : SourceOutcome)
      → ((go next : MachineSeen → MachineOutcome) → go (advanced m) ≡ machine.operation_step setting given (own_site t) next (advanced m) op → FollowsIn setting t m outcome (machine.operation_step setting given (own_site t) go m first))
      → FollowsIn setting t m outcome (machine_step setting given m)
  unfolding machine_step
  one-check first op has outcome follows =
      let ahead = code-ahead setting t m f inst (added first ∷ own op ∷ []) is at related has.code in
      let fuel = fuel-ahead setting m (added first ∷ []) (own op) ahead in
      let (left, enough, step) = added-ahead setting given (length (code_at setting.code m.frame.func).insts) m (own_site t) first (own op ∷ []) ahead (omega (arith, fuel)) in
      let (next, last) = source-ahead setting given left (advanced m) (own_site t) op [] (ahead-next setting m (added first) (own op ∷ []) ahead) (omega (arith, enough)) in
      subst (λ r. FollowsIn setting t m outcome r) (sym step) (follows (machine.steps_within setting given left) next last)

  pub two-checks : (first second op : MiOp) → HasChecks (first ∷ second ∷ []) op → (outcome : SourceOutcome)
      → ((go later next : MachineSeen → MachineOutcome) → go (advanced m) ≡ machine.operation_step setting given (own_site t) later (advanced m) second → later (advanced (advanced m)) ≡ machine.operation_step setting given (own_site t) next (advanced (advanced m)) op
      → FollowsIn setting t m outcome (machine.operation_step setting given (own_site t) go m first))
      → FollowsIn setting t m outcome (machine_step setting given m)
  unfolding machine_step
  two-checks first second op has outcome follows =
      let ahead = code-ahead setting t m f inst (added first ∷ added second ∷ own op ∷ []) is at related has.code in
      let fuel = fuel-ahead setting m (added first ∷ added second ∷ []) (own op) ahead in
      let (left, enough, step) = added-ahead setting given (length (code_at setting.code m.frame.func).insts) m (own_site t) first (added second ∷ own op ∷ []) ahead (omega (arith, fuel)) in
      let next_ahead = ahead-next setting m (added first) (added second ∷ own op ∷ []) ahead in
      let (rest, few, middle) = added-ahead setting given left (advanced m) (own_site t) second (own op ∷ []) next_ahead (omega (arith, enough)) in
      let (next, last) = source-ahead setting given rest (advanced (advanced m)) (own_site t) op [] (ahead-next setting (advanced m) (added second) (own op ∷ []) next_ahead) (omega (arith, few)) in
      subst (λ r. FollowsIn setting t m outcome r) (sym step) (follows (machine.steps_within setting given left) (machine.steps_within setting given rest) next middle last)
