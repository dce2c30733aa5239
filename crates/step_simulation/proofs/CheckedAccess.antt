-- An access with the check that is added before it: it is reported as the story says, or the machine goes on to the access.
use Rattle.std.proofs.Common.{◌≡◌, ◌≢◌, ℕ, zero, suc, ◌+◌, ◌%◌, ◌^◌, ◌<◌, ◌≤◌, ◌==◌, Bool, true, false, nat_le, if◌then◌else◌, List, [], Option, Some, None, option_map, ◌⊎◌, inl, inr, refl, sym, ◌∙◌, ap, subst, arith}
use Rattle.std.proofs.lemmas.Bool.Decides.{eqb_tells}
use Rattle.hw_base.specs.TaggedAddress.{address_of}
use Rattle.hw_base.specs.declared.accesses.Access.{Access}
use Rattle.hw_base.specs.declared.accesses.Access.TheVariants.{Read, Write, Free}
use Rattle.hw_base.specs.declared.accesses.Reason.TheVariants.{Misaligned}
use Rattle.hw_base.specs.declared.endings.Input.{Input}
use Rattle.hw_base.specs.declared.endings.Trap.TheVariants.{ReadOnly}
use Rattle.hw_base.specs.declared.pointers.Base.{Base}
use Rattle.hw_shadow.specs.declared.mismatch.Mismatch.{Mismatch}
use Rattle.ir_core.specs.ResolvedBodies.{is_alignment}
use Rattle.ir_machine.specs.CheckSteps.{on_check}
use Rattle.ir_machine.specs.InstructionStep as machine
use Rattle.ir_machine.specs.Operands.{pointer_in}
use Rattle.ir_machine.specs.State.{MachineSetting, MachineSeen, MachineOutcome}
use Rattle.ir_machine.specs.StepEnds.{advanced}
use Rattle.ir_machine.specs.declared.found.Found.TheVariants.{Memory}
use Rattle.ir_meaning.specs.AccessRule.{AccessAnswer, Fine, Violates, WritesConstant, IsOutside, NoAnswer, AccessBase, OnNull, OnObject, OnNothing, Accessed, overflow_kind, dead_answer, inside_answer, living_answer, base_answer, access_rule, accessed, access_answer}
use Rattle.ir_meaning.specs.Births.{Birth, Region, Globals, Stack, Heap}
use Rattle.ir_meaning.specs.State.{SourceOutcome}
use Rattle.ir_meaning.specs.StepEnds.{traps, on_answer, on_access, violation_of}
use Rattle.mi_code.specs.TagChecks.{check_of}
use Rattle.mi_code.specs.declared.operands.MiOperand.{MiOperand}
use Rattle.tag_story.specs.Judging.{judged, judged_as, access_judged, refusing}
use Rattle.tag_story.specs.Story.{StorySetting, Story, number_of}
use Rattle.tag_story.specs.Telling.{all_told}
use Rattle.tag_story.specs.ToldRun.{ToldSeen, source_seen}
use Rattle.tbi_memory.specs.AddressSpace.{check}
use Rattle.step_simulation.proofs.CheckFollows.{address-offset, aligned-room, check-step, by-judgement}
use Rattle.simulation.proofs.ChecksAgree.{checks-same, checks-judged}
use Rattle.simulation.proofs.FinePasses.{fine-passes}
use Rattle.step_simulation.proofs.PlainSteps.{FollowsIn, own_site}
use Rattle.simulation.proofs.SameMismatches.{shown}
use Rattle.simulation.specs.Checks.{FindsJudged, lies_inside}
use Rattle.step_simulation.specs.Following.{FollowsJudged}
use Rattle.simulation.specs.Relation.{IsSetting, SeenLike, story_setting}

-- ---- what the rule says

-- an access that isn't aligned as stated is outside the profile
aligned-or-outside : (access : Access) (base : AccessBase) (off n align : ℕ) → access ≢ Free → 1 ≤ n → (off % align ≡ 0) ⊎ (access_rule access base off n align ≡ IsOutside Misaligned)
unfolding access_rule
aligned-or-outside access base off zero align other some = absurd (omega (arith, some))
aligned-or-outside Read base off (suc k) align other some =
    elim (eqb_tells (off % align) 0) [
      | inl holds ↦ inl holds.1
      | inr fails ↦ inr (ap (λ bit. if bit then base_answer Read base off (suc k) else IsOutside Misaligned) fails.0)
    ]
aligned-or-outside Write base off (suc k) align other some =
    elim (eqb_tells (off % align) 0) [
      | inl holds ↦ inl holds.1
      | inr fails ↦ inr (ap (λ bit. if bit then base_answer Write base off (suc k) else IsOutside Misaligned) fails.0)
    ]
aligned-or-outside Free base off (suc k) align other some = absurd (other refl)

-- no read writes to a constant
pub read-writes-nothing : (base : AccessBase) (off n align : ℕ) → access_rule Read base off n align ≡ WritesConstant → ⊥
unfolding access_rule
read-writes-nothing base off zero align h = absurd cc
read-writes-nothing base off (suc k) align h = by_align (off % align == 0) h
  where
    is_dead : (r : Region) → dead_answer r ≡ WritesConstant → ⊥
    is_dead Globals e = absurd cc
    is_dead (Stack func) e = absurd cc
    is_dead Heap e = absurd cc

    by_size : (y : Accessed) (fits : Bool) → (if fits then inside_answer Read y.constant else Violates (overflow_kind y.region)) ≡ WritesConstant → ⊥
    by_size y true e = absurd cc
    by_size y false e = absurd cc

    by_life : (y : Accessed) (living : Bool) → (if living then living_answer Read y off (suc k) else dead_answer y.region) ≡ WritesConstant → ⊥
    by_life y true e = by_size y (nat_le (off + suc k) y.size) e
    by_life y false e = is_dead y.region e

    by_base : (b : AccessBase) → base_answer Read b off (suc k) ≡ WritesConstant → ⊥
    by_base OnNull e = absurd cc
    by_base (OnObject y) e = by_life y y.living e
    by_base OnNothing e = absurd cc

    by_align : (bit : Bool) → (if bit then base_answer Read base off (suc k) else IsOutside Misaligned) ≡ WritesConstant → ⊥
    by_align true e = by_base base e
    by_align false e = absurd cc

judged-access : (access : Access) (e : StorySetting) (w : Story) (objects : List Birth) (number size : ℕ) → access ≢ Free → judged_as access e w objects number size ≡ access_judged e w objects number size
judged-access Read e w objects number size other = refl
judged-access Write e w objects number size other = refl
judged-access Free e w objects number size other = absurd (other refl)

-- nothing refuses an access if what is shown of it is nothing
shown-none : (found : Option Mismatch) → shown found ≡ None → found ≡ None
shown-none None h = refl
shown-none (Some mismatch) h = absurd cc

module _ (setting : MachineSetting) (t : ToldSeen) (m : MachineSeen) (is : IsSetting setting) (like : SeenLike setting t m) where
  -- after a check the machine is as it was, at the next place
  pub advanced-like : SeenLike setting t (advanced m)
  advanced-like =
      record {
        shared = like.shared;
        task = like.task;
        frame = record { func = like.frame.func; sized = like.frame.sized; variables = like.frame.variables; registers = like.frame.registers; chain = like.frame.chain };
        callers = like.callers;
        owned = like.owned;
        finished = like.finished;
        step = like.step;
        there = like.there;
        few = like.few;
        tables = like.tables;
        started = like.started;
      }

  -- a check passes what lies inside a living object
  pub inside-unchecked : (access : Access) (base : Base) (off n align number : ℕ) → access ≢ Free → number ≡ number_of t.shared.story.births base off → lies_inside (access_answer t.shared.source.births access base off n align) ≡ true → check m.shared.memory number n ≡ None
  inside-unchecked access base off n align number other pointer lies =
      let passes = fine-passes setting t.shared.source.births t.shared.story is like.shared.laid like.shared.told access base off n align other lies in
      shown-none (check m.shared.memory number n) (checks-same setting t.shared m.shared like.shared number n ∙ ap shown (ap (λ p. refusing (story_setting setting) t.shared.story t.shared.source.births p n) pointer ∙ passes))

  -- what the check of an access ends in, by what the rule says of the access
  pub found-follows : (access : Access) (base : Base) (off n align number : ℕ) (go : MachineSeen → MachineOutcome) (next : SourceOutcome) → access ≢ Free → number ≡ number_of t.shared.story.births base off
      → (access_answer t.shared.source.births access base off n align ≡ Fine → FollowsIn setting t m next (go (advanced m)))
      → (access_answer t.shared.source.births access base off n align ≡ WritesConstant → FollowsIn setting t m (traps (source_seen t) ReadOnly) (go (advanced m)))
      → (answer : AccessAnswer) → access_answer t.shared.source.births access base off n align ≡ answer → FollowsIn setting t m (on_answer (source_seen t) access base off n answer next) (on_check m (own_site t) access n number go (check m.shared.memory number n))
  unfolding on_answer all_told judged
  found-follows access base off n align number go next other pointer follows trapped Fine here =
      subst (λ found. FollowsIn setting t m next (on_check m (own_site t) access n number go found)) (sym (inside-unchecked access base off n align number other pointer (ap lies_inside here))) (follows here)
  found-follows access base off n align number go next other pointer follows trapped (Violates kind) here =
      subst (λ judgement. FollowsJudged setting judgement t.shared (violation_of (source_seen t) kind access base off n) t.step [] (on_check m (own_site t) access n number go (check m.shared.memory number n)))
      (sym (judged-access access (story_setting setting) t.shared.story t.shared.source.births (number_of t.shared.story.births base off) n other))
      (by-judgement setting t m like (violation_of (source_seen t) kind access base off n) n number go (check m.shared.memory number n) (access_judged (story_setting setting) t.shared.story t.shared.source.births (number_of t.shared.story.births base off) n) pointer refl refl refl
      (subst (λ p. FindsJudged (access_judged (story_setting setting) t.shared.story t.shared.source.births p n) (option_map Memory (check m.shared.memory number n))) pointer (checks-judged setting t.shared m.shared like.shared number n)))
  found-follows access base off n align number go next other pointer follows trapped WritesConstant here =
      subst (λ found. FollowsIn setting t m (traps (source_seen t) ReadOnly) (on_check m (own_site t) access n number go found)) (sym (inside-unchecked access base off n align number other pointer (ap lies_inside here))) (trapped here)
  found-follows access base off n align number go next other pointer follows trapped (IsOutside reason) here = tt
  found-follows access base off n align number go next other pointer follows trapped NoAnswer here = tt

  -- an access to a type through a pointer
  pub access-checked : (given : Input) (access : Access) → access ≢ Free → (base : Base) (off n align : ℕ) (x : MiOperand) (go : MachineSeen → MachineOutcome) (next : SourceOutcome) → 1 ≤ n → n < 2 ^ 64 → is_alignment align ≡ true → pointer_in m x ≡ number_of t.shared.story.births base off
      → (access_answer t.shared.source.births access base off n align ≡ Fine → FollowsIn setting t m next (go (advanced m)))
      → (access_answer t.shared.source.births access base off n align ≡ WritesConstant → FollowsIn setting t m (traps (source_seen t) ReadOnly) (go (advanced m)))
      → FollowsIn setting t m (on_access (source_seen t) access base off n align next) (machine.operation_step setting given (own_site t) go m (check_of n align x access))
  unfolding on_answer all_told
  access-checked given access other base off n align x go next some small aligned pointer follows trapped =
      elim (aligned-or-outside access (accessed t.shared.source.births base) off n align other some) [
        | inl multiple ↦
            let offset = address-offset t.shared.story.births base off (λ k j birth placed object. like.shared.laid.aligned k j birth placed object) in
            let room = aligned-room align off aligned multiple in
            let same = ap (λ p. address_of p % 16) pointer in
            subst (λ r. FollowsIn setting t m (on_access (source_seen t) access base off n align next) r)
            (sym (check-step setting given (own_site t) go m n align x access some small (omega (arith, offset, room, same))))
            (found-follows access base off n align (pointer_in m x) go next other pointer follows trapped (access_answer t.shared.source.births access base off n align) refl)
        | inr outside ↦ subst (λ answer. FollowsIn setting t m (on_answer (source_seen t) access base off n answer next) (machine.operation_step setting given (own_site t) go m (check_of n align x access))) (sym outside) tt
      ]
