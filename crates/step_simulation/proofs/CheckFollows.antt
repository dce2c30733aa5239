-- The check that is added before an access to a type: it finds what the story says, also when it looks at one granule alone.
use Rattle.std.proofs.Common.{◌≡◌, ℕ, zero, suc, ◌+◌, ◌%◌, ◌^◌, ◌<◌, ◌≤◌, ◌==◌, ◌&&◌, ◌||◌, Bool, true, false, nat_le, if◌then◌else◌, List, [], ◌∷◌, slice_get, Option, Some, None, option_map, refl, sym, ◌∙◌, ap, arith}
use Rattle.std.proofs.lemmas.Bool.{leb-true, eqb-true}
use Rattle.hw_base.specs.AddressMap.{granule_of}
use Rattle.hw_base.specs.TaggedAddress.{address_of, tagged_address}
use Rattle.hw_base.specs.declared.accesses.Access.{Access}
use Rattle.hw_base.specs.declared.endings.Input.{Input}
use Rattle.hw_base.specs.declared.pointers.Base.{Base}
use Rattle.hw_base.specs.declared.pointers.Base.TheVariants.{Null, Object}
use Rattle.hw_base.specs.declared.pointers.Site.{Site}
use Rattle.hw_shadow.specs.TagRule.{granules_touched, mismatch_in, first_mismatch}
use Rattle.hw_shadow.specs.declared.mismatch.Mismatch.{Mismatch}
use Rattle.dbg_sites.proofs.ChainLemmas.{pushed-front, pushed-within, pushed-table}
use Rattle.ir_core.specs.ResolvedBodies.{is_alignment}
use Rattle.ir_machine.specs.CheckSteps.{one_check, on_check, one_step, sized_step}
use Rattle.ir_machine.specs.InstructionStep.{operation_step}
use Rattle.ir_machine.specs.Operands.{pointer_in}
use Rattle.ir_machine.specs.State.{MachineSetting, MachineSeen, MachineOutcome}
use Rattle.ir_machine.specs.StepEnds.{chain_at, chain_known}
use Rattle.ir_machine.specs.declared.found.Found.TheVariants.{Memory}
use Rattle.ir_meaning.specs.State.{Violation}
use Rattle.mi_code.specs.TagChecks.{is_one_size, check_of}
use Rattle.mi_code.specs.declared.operands.MiOperand.{MiOperand}
use Rattle.mi_code.specs.declared.operands.MiOperand.TheVariants.{Num}
use Rattle.mi_code.specs.declared.operations.MiOp.TheVariants.{One, Sized}
use Rattle.tag_story.specs.Judging.{refusing_by}
use Rattle.tag_story.specs.Story.{Placed, StoryBirth, placed_in, number_in, number_of, pointer_number}
use Rattle.tag_story.specs.StoryFacts.{IsObject}
use Rattle.tag_story.specs.ToldRun.{ToldSeen}
use Rattle.tag_story.specs.declared.judgement.Judgement.{Judgement}
use Rattle.tag_story.specs.declared.judgement.Judgement.TheVariants.{Passes, Refused}
use Rattle.tag_story.specs.declared.judgement.Refusing.{Refusing}
use Rattle.tbi_memory.specs.AddressSpace.{AddressSpace, check, last_byte}
use Rattle.tbi_memory.specs.MappedBytes.{byte_at}
use Rattle.simulation.proofs.ChainsRelated.{chains-related}
use Rattle.simulation.proofs.Sizes.{both}
use Rattle.simulation.proofs.TablesKept.{pushed-stay}
use Rattle.step_simulation.proofs.PlainSteps.{own_site}
use Rattle.simulation.specs.Checks.{FindsJudged, refusing_found}
use Rattle.step_simulation.specs.Following.{FollowsJudged, IsReportOf}
use Rattle.simulation.specs.Relation.{SeenLike}

-- ---- accesses in one granule

-- an access in one granule is checked by that granule alone
one-granule : (found : Option Mismatch) (tag : ℕ → Option ℕ) (last : ℕ → ℕ) (number size granule count : ℕ) → mismatch_in number size granule (tag granule) (last granule) ≡ found → count ≡ 1 → first_mismatch tag last number size count granule ≡ found
unfolding first_mismatch
one-granule found tag last number size granule zero here one = absurd (omega (arith, one))
one-granule found tag last number size granule (suc zero) here one = ap (λ o. elim o [ None ↦ None | Some one ↦ Some one ]) here ∙ by_found found
  where
    by_found : (o : Option Mismatch) → elim o [ None ↦ None | Some one ↦ Some one ] ≡ o
    by_found None = refl
    by_found (Some mismatch) = refl
one-granule found tag last number size granule (suc (suc n)) here one = absurd (omega (arith, one))

touched-one : (address size : ℕ) → 1 ≤ size → address % 16 + size ≤ 16 → granules_touched address size ≡ 1
touched-one address zero some within = absurd (omega (arith, some))
touched-one address (suc n) some within = omega (arith, within)

pub one-check : (memory : AddressSpace) (number size : ℕ) → 1 ≤ size → address_of number % 16 + size ≤ 16 → check memory number size ≡ one_check memory number size
one-check memory number size some within =
    one-granule (one_check memory number size) (byte_at memory.shadow) (last_byte memory.bytes) number size (granule_of (address_of number)) (granules_touched (address_of number) size) refl (touched-one (address_of number) size some within)

-- ---- alignment

-- an offset that is a multiple of an alignment leaves room for it in a granule
pub aligned-room : (align off : ℕ) → is_alignment align ≡ true → off % align ≡ 0 → off % 16 + align ≤ 16
aligned-room align off is none = by_one (align == 1) refl is
  where
    by_sixteen : (bit : Bool) → (align == 16) ≡ bit → bit ≡ true → off % 16 + align ≤ 16
    by_sixteen true test h = let same = eqb-true align 16 test in let zero_off : off % 16 ≡ 0 = ap (λ a. off % a) (sym same) ∙ none in omega (arith, same, zero_off)
    by_sixteen false test h = absurd cc

    by_eight : (bit : Bool) → (align == 8) ≡ bit → (bit || align == 16) ≡ true → off % 16 + align ≤ 16
    by_eight true test h = let same = eqb-true align 8 test in let zero_off : off % 8 ≡ 0 = ap (λ a. off % a) (sym same) ∙ none in omega (arith, same, zero_off)
    by_eight false test h = by_sixteen (align == 16) refl h

    by_four : (bit : Bool) → (align == 4) ≡ bit → (bit || align == 8 || align == 16) ≡ true → off % 16 + align ≤ 16
    by_four true test h = let same = eqb-true align 4 test in let zero_off : off % 4 ≡ 0 = ap (λ a. off % a) (sym same) ∙ none in omega (arith, same, zero_off)
    by_four false test h = by_eight (align == 8) refl h

    by_two : (bit : Bool) → (align == 2) ≡ bit → (bit || align == 4 || align == 8 || align == 16) ≡ true → off % 16 + align ≤ 16
    by_two true test h = let same = eqb-true align 2 test in let zero_off : off % 2 ≡ 0 = ap (λ a. off % a) (sym same) ∙ none in omega (arith, same, zero_off)
    by_two false test h = by_four (align == 4) refl h

    by_one : (bit : Bool) → (align == 1) ≡ bit → (bit || align == 2 || align == 4 || align == 8 || align == 16) ≡ true → off % 16 + align ≤ 16
    by_one true test h = let same = eqb-true align 1 test in omega (arith, same)
    by_one false test h = by_two (align == 2) refl h

-- objects begin at granules, so that a pointer's address is in its granule where its offset is
pub address-offset : (births : List StoryBirth) (base : Base) (off : ℕ) → ((n k : ℕ) (birth : StoryBirth) (x : Placed) → IsObject births n k birth x → x.at % 16 ≡ 0) → address_of (number_of births base off) % 16 ≡ off % 16
address-offset births Null off aligned = omega arith
address-offset births (Object o) off aligned = by_birth (slice_get births o.birth) refl
  where
    placed-offset : (placed : Placed) → placed.at % 16 ≡ 0 → address_of (tagged_address placed.tag (placed.at + off)) % 16 ≡ off % 16
    placed-offset placed at = omega (arith, at)

    by_object : (birth : StoryBirth) → slice_get births o.birth ≡ Some birth → (p : Option Placed) → slice_get birth.objects o.index ≡ p → address_of (number_in p off) % 16 ≡ off % 16
    by_object birth there None object = omega arith
    by_object birth there (Some placed) object = placed-offset placed (aligned o.birth o.index birth placed (record { there = there; object = object }))

    by_birth : (b : Option StoryBirth) → slice_get births o.birth ≡ b → address_of (number_of births (Object o) off) % 16 ≡ off % 16
    by_birth None there = ap (λ b. address_of (number_in (placed_in b o.index) off) % 16) there ∙ omega arith
    by_birth (Some birth) there = ap (λ b. address_of (number_in (placed_in b o.index) off) % 16) there ∙ by_object birth there (slice_get birth.objects o.index) refl

-- the check of an access that is aligned as stated finds what the check of all its granules does
check-found : (bit : Bool) (memory : AddressSpace) (number n align : ℕ) → (is_one_size n && nat_le n align) ≡ bit → 1 ≤ n → n < 2 ^ 64 → address_of number % 16 + align ≤ 16 → check memory number n ≡ (if bit then one_check memory number n else check memory number (n % 2 ^ 64))
check-found true memory number n align test some small room =
    let inside = leb-true n align (both (is_one_size n) (nat_le n align) test).1 in
    one-check memory number n some (omega (arith, inside, room))
check-found false memory number n align test some small room = ap (check memory number) (let same : n ≡ n % 2 ^ 64 = omega (arith, small) in same)

module _ (setting : MachineSetting) (given : Input) (site : Site) (next : MachineSeen → MachineOutcome) (m : MachineSeen) where
  check-by : (bit : Bool) (n : ℕ) (x : MiOperand) (access : Access) → operation_step setting given site next m (if bit then One x n access else Sized x (Num n) access) ≡ on_check m site access (if bit then n else n % 2 ^ 64) (pointer_in m x) next (if bit then one_check m.shared.memory (pointer_in m x) n else check m.shared.memory (pointer_in m x) (n % 2 ^ 64))
  unfolding one_step sized_step
  check-by true n x access = refl
  check-by false n x access = refl

  size-same : (bit : Bool) (n : ℕ) → n < 2 ^ 64 → (if bit then n else n % 2 ^ 64) ≡ n
  size-same true n small = refl
  size-same false n small = omega (arith, small)

  -- the check that is added before an access
  pub check-step : (n align : ℕ) (x : MiOperand) (access : Access) → 1 ≤ n → n < 2 ^ 64 → address_of (pointer_in m x) % 16 + align ≤ 16 → operation_step setting given site next m (check_of n align x access) ≡ on_check m site access n (pointer_in m x) next (check m.shared.memory (pointer_in m x) n)
  check-step n align x access some small room =
      check-by (is_one_size n && nat_le n align) n x access
      ∙ ap (λ size. on_check m site access size (pointer_in m x) next (if is_one_size n && nat_le n align then one_check m.shared.memory (pointer_in m x) n else check m.shared.memory (pointer_in m x) (n % 2 ^ 64))) (size-same (is_one_size n && nat_le n align) n small)
      ∙ ap (on_check m site access n (pointer_in m x) next) (sym (check-found (is_one_size n && nat_le n align) m.shared.memory (pointer_in m x) n align refl some small room))

-- ---- violations

module _ (setting : MachineSetting) (t : ToldSeen) (m : MachineSeen) (like : SeenLike setting t m) where
  pub reported : (v : Violation) (n number : ℕ) (mismatch : Mismatch) (refused : Refusing) → number ≡ pointer_number t.shared.story v.pointer → v.task ≡ t.task → v.size ≡ n → v.chain ≡ own_site t ∷ t.frame.chain → refusing_by mismatch ≡ refused
      → IsReportOf setting t.shared (chain_known m (own_site t)).shared v t.step refused (record { access = v.access; size = n; number = number; task = m.task; step = m.step; chain = chain_at m (own_site t); found = Memory mismatch })
  reported v n number mismatch refused is task size chain found =
      record {
        access = refl;
        size = sym size;
        number = is;
        task = like.task ∙ sym task;
        step_is = like.step;
        chain = record {
          there = pushed-within m.shared.chains m.frame.chain (own_site t);
          sites = pushed-front m.shared.chains m.frame.chain (own_site t) like.shared.table like.frame.chain.there ∙ ap (λ c. own_site t ∷ c) like.frame.chain.sites ∙ sym chain;
        };
        found = found;
        related = chains-related setting t.shared m.shared (chain_known m (own_site t)).shared.chains (pushed-stay m.shared.chains m.frame.chain (own_site t) like.shared.table) (pushed-table m.shared.chains m.frame.chain (own_site t) like.shared.table like.frame.chain.there) like.shared;
      }

  pub by-judgement : (v : Violation) (n number : ℕ) (next : MachineSeen → MachineOutcome) (found : Option Mismatch) (judgement : Judgement) → number ≡ pointer_number t.shared.story v.pointer → v.task ≡ t.task → v.size ≡ n → v.chain ≡ own_site t ∷ t.frame.chain → FindsJudged judgement (option_map Memory found)
      → FollowsJudged setting judgement t.shared v t.step [] (on_check m (own_site t) v.access n number next found)
  by-judgement v n number next found (Passes coincidence) is task size chain h = tt
  by-judgement v n number next None (Refused refused) is task size chain h = let none = h.1.0 in absurd cc
  by-judgement v n number next (Some mismatch) (Refused refused) is task size chain h =
      let same : Memory mismatch ≡ h.0 = let one = h.1.0 in cc in (
        (chain_known m (own_site t)).shared,
        m.frame ∷ m.callers,
        _,
        refl,
        reported v n number mismatch refused is task size chain (ap refusing_found same ∙ h.1.1),
      )
