-- The machine follows the death of a block by a free that the access rule finds fine.
use Rattle.std.proofs.Common.{◌≡◌, ◌≢◌, ℕ, zero, suc, ◌+◌, ◌<◌, ◌==◌, Bool, true, false, if◌then◌else◌, List, [], ◌∷◌, length, slice_get, Option, Some, None, option_map, Ok, inl, inr, refl, sym, ◌∙◌, ap, subst, arith}
use Rattle.std.proofs.lemmas.Bool.{eqb-true}
use Rattle.std.proofs.lemmas.Bool.Decides.{eqb_tells}
use Rattle.std.proofs.lemmas.List.{length-set}
use Rattle.dbg_sites.specs.ChainTable.{ChainEntry, IsChainTable}
use Rattle.hw_base.specs.TaggedAddress.{address_of, tagged_address}
use Rattle.hw_base.specs.declared.accesses.Access.TheVariants.{Free}
use Rattle.hw_base.specs.declared.pointers.Base.{Base}
use Rattle.hw_base.specs.declared.pointers.Base.TheVariants.{Null, Object}
use Rattle.hw_base.specs.declared.pointers.Obj.{Obj}
use Rattle.hw_base.specs.declared.pointers.Site.{Site}
use Rattle.hw_tags.specs.TaskRuns.{Goes}
use Rattle.ir_core.specs.declared.ir_module.Function.{Function}
use Rattle.ir_machine.specs.BlockFunctions as machine
use Rattle.ir_machine.specs.CheckSteps.{on_free}
use Rattle.ir_machine.specs.State.{MachineSetting, MachineShared, MachineSeen}
use Rattle.ir_machine.specs.StepEnds.{chain_at, chain_known, goes_on}
use Rattle.ir_machine.specs.declared.found.Found.TheVariants.{Block as OfBlock}
use Rattle.ir_meaning.specs.AccessRule.{Fine, free_answer, access_rule, accessed_in, access_answer}
use Rattle.ir_meaning.specs.Births.{Region, Heap, SourceObject, is_living, get_object, region_of, after_death}
use Rattle.ir_meaning.specs.BlockFunctions as source
use Rattle.ir_meaning.specs.State.{telling, nothing_happened}
use Rattle.ir_meaning.specs.StepEnds as StepEnds
use Rattle.tag_alloc.specs.HeapBlocks as heap
use Rattle.tag_alloc.specs.HeapBlocks.{free_mismatch, freed_block}
use Rattle.tag_alloc.specs.HeapSteps as steps
use Rattle.tag_alloc.specs.declared.blocks.Block.{Block}
use Rattle.tag_story.proofs.BirthPlaces.{rounded-some}
use Rattle.tag_story.specs.Story.{Placed, StoryBirth, FreedBlock, Story, number_in, number_of}
use Rattle.tag_story.specs.Telling as telling
use Rattle.tag_story.specs.Telling.{told, all_told, on_told}
use Rattle.tag_story.specs.ToldRun.{ToldShared, ToldSeen, ToldOutcome, source_seen, with_story, if_told}
use Rattle.step_simulation.proofs.BlockFollows.{site-chain, site-stay, site-table}
use Rattle.simulation.proofs.BlockFreed.{block-freed}
use Rattle.simulation.proofs.FineFrees.{fine-zero, fine-passed, region-told}
use Rattle.simulation.proofs.FreesAgree.{BeginsAt, find-some, find-none, begins-block, frees-judged}
use Rattle.simulation.proofs.Images.{stays-died}
use Rattle.step_simulation.proofs.LibraryParts.{shared-like}
use Rattle.simulation.proofs.ObjectPlaces.{IsPlacedAs, placed-as, placed-there}
use Rattle.step_simulation.proofs.PlainSteps.{FollowsIn, IsBeforeNext, own_site, others-on, goes_on-follows}
use Rattle.simulation.specs.BirthsAndDeaths.{ChainsStay}
use Rattle.simulation.specs.Checks.{FindsJudged}
use Rattle.step_simulation.specs.Following.{KeepsOthers, Follows}
use Rattle.simulation.specs.Parts.{IsChain, IsBlockOf}
use Rattle.simulation.specs.Relation.{IsSetting, SharedRelated, SeenLike, story_setting}

-- ---- the block that a fine free ends

-- a block of the table, which is this birth
pub record IsOwnBlock (m : MachineShared) (births : List StoryBirth) (o : Obj) (number : ℕ) : Type 0 where
  pub block : Block
  pub place : ℕ
  pub listed : slice_get m.heap.living place ≡ Some block
  pub story : StoryBirth
  pub own : IsBlockOf m.chains births block story
  pub birth : block.birth ≡ o.birth
  pub index : o.index ≡ 0
  pub found : freed_block m.heap number ≡ Some block

module _ (setting : MachineSetting) (t : ToldShared) (m : MachineShared) (is : IsSetting setting) (related : SharedRelated setting t m) where
  -- nothing refuses a fine free
  pub fine-frees : (base : Base) (off : ℕ) → access_answer t.source.births Free base off 0 1 ≡ Fine → free_mismatch m.heap (number_of t.story.births base off) ≡ None
  fine-frees base off fine =
      let (coincidence, passed) = fine-passed setting t.source.births t.story is related.laid related.told base off 0 1 fine in
      none-of (free_mismatch m.heap (number_of t.story.births base off))
      (subst (λ judgement. FindsJudged judgement (option_map OfBlock (free_mismatch m.heap (number_of t.story.births base off)))) passed (frees-judged setting t m related (number_of t.story.births base off)))
    where
      none-of : (o : Option Rattle.tag_alloc.specs.declared.blocks.FreeMismatch.FreeMismatch) → option_map OfBlock o ≡ None → o ≡ None
      none-of None h = refl
      none-of (Some x) h = absurd cc

  -- a free of null that is fine is that of the number 0
  pub fine-null : (off : ℕ) → access_answer t.source.births Free Null off 0 1 ≡ Fine → off ≡ 0
  unfolding access_rule
  fine-null off fine = by_test (off == 0) refl fine
    where
      by_test : (bit : Bool) → (off == 0) ≡ bit → (if bit then Fine else Rattle.ir_meaning.specs.AccessRule.Violates Rattle.hw_base.specs.declared.accesses.Kind.TheVariants.BadFree) ≡ Fine → off ≡ 0
      by_test true test h = eqb-true off 0 test
      by_test false test h = absurd cc

  own-block : (o : Obj) (x : SourceObject) → get_object t.source.births o ≡ Some x → region_of t.source.births o ≡ Heap → is_living x.life ≡ true → IsOwnBlock m t.story.births o (number_of t.story.births (Object o) 0)
  own-block o x found heap_region alive = by_block (heap.block_at m.heap place.placed.at) refl
    where
      place : IsPlacedAs t.story o x
      place = placed-as setting t.source.births t.story o x is related.laid related.told found

      begins : BeginsAt t.story.births place.placed.at o.birth o.index place.birth place.placed
      begins =
          record {
            there = place.object.there;
            heap = sym (region-told setting t.source.births t.story is related.laid related.told o place.birth place.object.there) ∙ heap_region;
            alive = ap is_living (sym place.life) ∙ alive;
            object = place.object.object;
            at = refl;
          }

      number : number_of t.story.births (Object o) 0 ≡ tagged_address place.placed.tag (place.placed.at + 0)
      number = ap (λ p. number_in p 0) (placed-there t.story o x place)

      -- the number isn't 0, and its address is the object's place
      some-number : (number_of t.story.births (Object o) 0 == 0) ≡ false
      some-number =
          let tag = place.tag in
          let some = place.some_tag in
          let high = place.below in
          let not_zero : tagged_address place.placed.tag (place.placed.at + 0) ≢ 0 = λ null. omega (arith, null, some, tag, high) in
          elim (eqb_tells (number_of t.story.births (Object o) 0) 0) [ inl holds ↦ absurd (not_zero (sym number ∙ holds.1)) | inr fails ↦ fails.0 ]

      address : address_of (number_of t.story.births (Object o) 0) ≡ place.placed.at
      address =
          let tag = place.tag in
          let high = place.below in
          ap address_of number ∙ (let is : address_of (tagged_address place.placed.tag (place.placed.at + 0)) ≡ place.placed.at = omega (arith, tag, high) in is)

      freed-is : (b : Option Block) → heap.block_at m.heap place.placed.at ≡ b → freed_block m.heap (number_of t.story.births (Object o) 0) ≡ b
      freed-is b here = ap (λ bit. if bit then None else heap.block_at m.heap (address_of (number_of t.story.births (Object o) 0))) some-number ∙ ap (heap.block_at m.heap) address ∙ here

      by_block : (b : Option Block) → heap.block_at m.heap place.placed.at ≡ b → IsOwnBlock m t.story.births o (number_of t.story.births (Object o) 0)
      by_block None here =
          let listed = begins-block setting t m related place.placed.at o.birth o.index place.birth place.placed begins in
          absurd (find-none m.heap.living place.placed.at here listed.0 listed.1.0 listed.1.1.0 listed.1.1.1)
      by_block (Some block) here =
          let (i, facts) = find-some m.heap.living place.placed.at block here in
          let (story, own) = related.heap.blocks.from i block facts.0 in
          let same = same-birth block story own facts.1 in
          record { block = block; place = i; listed = facts.0; story = story; own = own; birth = sym same.0; index = same.1; found = freed-is (Some block) here }
        where
          same-birth : (block : Block) (story : StoryBirth) → IsBlockOf m.chains t.story.births block story → block.at ≡ place.placed.at → (o.birth ≡ block.birth) × (o.index ≡ 0)
          same-birth block story own at =
              elim (related.laid.apart o.birth o.index block.birth 0 place.birth story place.placed (record { at = block.at; size = block.size; tag = block.tag }) place.object (record { there = own.there; object = ap (λ xs. slice_get xs 0) own.objects }) begins.alive own.alive) [
                | inl apart ↦ elim apart [
                  | inl first ↦ let some = (rounded-some place.placed.size).0 in absurd (omega (arith, first, at, some))
                  | inr second ↦ let some = (rounded-some block.size).0 in absurd (omega (arith, second, at, some))
                ]
                | inr both ↦ both
              ]

  -- the block of a fine free through an object
  pub fine-block : (o : Obj) (off : ℕ) → access_answer t.source.births Free (Object o) off 0 1 ≡ Fine → IsOwnBlock m t.story.births o (number_of t.story.births (Object o) off)
  unfolding access_rule
  fine-block o off fine = by_object (get_object t.source.births o) refl fine
    where
      by_object : (found : Option SourceObject) → get_object t.source.births o ≡ found → free_answer (accessed_in (region_of t.source.births o) found) off ≡ Fine → IsOwnBlock m t.story.births o (number_of t.story.births (Object o) off)
      by_object None there h = absurd cc
      by_object (Some x) there h =
          let zero_off = fine-zero (region_of t.source.births o) (is_living x.life) (off == 0) h in
          subst (λ n. IsOwnBlock m t.story.births o (number_of t.story.births (Object o) n)) (sym (eqb-true off 0 zero_off.0))
          (own-block o x there zero_off.1.0 zero_off.1.1)

  -- the object of a fine free lives, and is freed at its start
  pub fine-start : (o : Obj) (off : ℕ) → access_answer t.source.births Free (Object o) off 0 1 ≡ Fine → (x : SourceObject) × (get_object t.source.births o ≡ Some x) × (is_living x.life ≡ true) × (off ≡ 0)
  unfolding access_rule
  fine-start o off fine = by_object (get_object t.source.births o) refl fine
    where
      by_object : (found : Option SourceObject) → get_object t.source.births o ≡ found → free_answer (accessed_in (region_of t.source.births o) found) off ≡ Fine → (x : SourceObject) × (get_object t.source.births o ≡ Some x) × (is_living x.life ≡ true) × (off ≡ 0)
      by_object None there h = absurd cc
      by_object (Some x) there h =
          let zero_off = fine-zero (region_of t.source.births o) (is_living x.life) (off == 0) h in
          (x, there, zero_off.1.1, eqb-true off 0 zero_off.0)

-- ---- the death in a step

-- the chain is that of the step's site, in a table in which all other chains keep their numbers
module _ (setting : MachineSetting) (t : ToldSeen) (m : MachineSeen) (is : IsSetting setting) (like : SeenLike setting t m) (table : List ChainEntry) (number : ℕ) (chains : ChainsStay m.shared.chains table) (is_table : IsChainTable table) (known : IsChain table number (own_site t ∷ t.frame.chain))
    (block : Block) (story : StoryBirth) (own : IsBlockOf m.shared.chains t.shared.story.births block story) (place : ℕ) (listed : slice_get m.shared.heap.living place ≡ Some block) where
  abbrev chain : List Site
  chain = own_site t ∷ t.frame.chain

  abbrev placed : Placed
  placed = record { at = block.at; size = block.size; tag = block.tag }

  -- both sides after the death
  abbrev pub told_freed : ToldSeen
  told_freed =
      record t {
        shared = record {
          source = record t.shared.source { births = after_death t.shared.source.births block.birth t.task chain };
          story = telling.block_freed (story_setting setting) t.shared.story block.birth t.task chain placed;
        };
      }

  abbrev pub machine_freed : (task word : ℕ) → MachineSeen
  machine_freed task word =
      record m {
        shared = record m.shared {
          chains = table;
          heap = (steps.after_death m.shared.heap m.shared.memory word task number block).heap;
          memory = (steps.after_death m.shared.heap m.shared.memory word task number block).space;
          drawn = m.shared.drawn + 1;
        };
      }

  freed-shared : SharedRelated setting told_freed.shared (machine_freed m.task (setting.word m.shared.drawn)).shared
  unfolding steps.after_death
  freed-shared =
      subst (λ k. SharedRelated setting told_freed.shared (machine_freed k (setting.word m.shared.drawn)).shared) (sym like.task)
      (subst (λ n. SharedRelated setting told_freed.shared (machine_freed t.task (setting.word n)).shared) (sym like.shared.drawn)
      (block-freed setting t.shared m.shared is like.shared t.task chain table number chains is_table known block story own place listed))

  pub freed-like : SeenLike setting told_freed (machine_freed m.task (setting.word m.shared.drawn))
  unfolding steps.after_death
  freed-like =
      shared-like setting t m told_freed.shared (machine_freed m.task (setting.word m.shared.drawn)).shared like freed-shared (stays-died t.shared.story.births block.birth t.task chain) chains refl
      (record { rings = length-set m.shared.heap.freed m.task _ ∙ like.tables.rings; stacks = like.tables.stacks })
      (record { freed = freed-started; ended = like.started.ended; frames = like.started.frames })
    where
      freed-started : (i : ℕ) (x : FreedBlock) → slice_get told_freed.shared.story.freed i ≡ Some x → x.task < length t.finished
      freed-started zero x h = let same = first-freed x h in subst (λ n. n < length t.finished) same like.there
        where
          first-freed : (x : FreedBlock) → slice_get told_freed.shared.story.freed 0 ≡ Some x → t.task ≡ x.task
          first-freed x h = ap (λ (o : Option FreedBlock). elim o [ None ↦ 0 | Some y ↦ y.task ]) h
      freed-started (suc i) x h = like.started.freed i x h

  pub freed-others : KeepsOthers t.task m.shared.chains t.shared.story table told_freed.shared.story
  freed-others = record { chains = chains; places = stays-died t.shared.story.births block.birth t.task chain; frames = λ task other. refl }

  -- what the story says of the death
  pub freed-told : telling.death_told (story_setting setting) t.shared.story block.birth t.task chain (slice_get t.shared.story.births block.birth) ≡ told_freed.shared.story
  freed-told =
      ap (telling.death_told (story_setting setting) t.shared.story block.birth t.task chain) own.there
      ∙ ap (λ (r : Region). telling.death_by (story_setting setting) t.shared.story block.birth t.task chain r story.objects) own.region
      ∙ ap (telling.freed_by (story_setting setting) t.shared.story block.birth t.task chain) own.objects

-- ---- free

module _ (setting : MachineSetting) (t : ToldSeen) (m : MachineSeen) (f : Function) (is : IsSetting setting) (like : SeenLike setting t m) (before : IsBeforeNext setting t m f) where
  -- the death of a birth in the source
  abbrev death_in : ℕ → ToldOutcome
  death_in n =
      if_told t (on_told (Ok (telling.death_told (story_setting setting) t.shared.story n t.task (own_site t ∷ t.frame.chain) (slice_get t.shared.story.births n))) (λ v. Ok v))
      (λ w. Goes (with_story (StepEnds.advanced (source.with_births (source_seen t) (after_death t.shared.source.births n t.task (own_site t ∷ t.frame.chain)))) w) (telling (source.death_of (source_seen t) n ∷ [])))

  block-dies : (o : Obj) (number : ℕ) (own : IsOwnBlock m.shared t.shared.story.births o number) → Follows setting t m.shared (death_in own.block.birth) (goes_on (machine.block_freed setting (chain_known m (own_site t)) (chain_at m (own_site t)) own.block))
  unfolding all_told
  block-dies o number own =
      let after = told_freed setting t m is like (chain_known m (own_site t)).shared.chains (chain_at m (own_site t)) (site-stay setting t m like) (site-table setting t m like) (site-chain setting t m like) own.block own.story own.own own.place own.listed in
      let state = machine_freed setting t m is like (chain_known m (own_site t)).shared.chains (chain_at m (own_site t)) (site-stay setting t m like) (site-table setting t m like) (site-chain setting t m like) own.block own.story own.own own.place own.listed m.task (setting.word m.shared.drawn) in
      let went = goes_on-follows setting after state f (freed-like setting t m is like (chain_known m (own_site t)).shared.chains (chain_at m (own_site t)) (site-stay setting t m like) (site-table setting t m like) (site-chain setting t m like) own.block own.story own.own own.place own.listed) before in
      subst (λ (w : Story). Follows setting t m.shared (Goes (with_story (StepEnds.advanced (source.with_births (source_seen t) (after_death t.shared.source.births own.block.birth t.task (own_site t ∷ t.frame.chain)))) w) (telling (source.death_of (source_seen t) own.block.birth ∷ []))) (goes_on (machine.block_freed setting (chain_known m (own_site t)) (chain_at m (own_site t)) own.block)))
      (sym (freed-told setting t m is like (chain_known m (own_site t)).shared.chains (chain_at m (own_site t)) (site-stay setting t m like) (site-table setting t m like) (site-chain setting t m like) own.block own.story own.own own.place own.listed)) (
        went.0,
        went.1,
        went.2,
        others-on t.task m.shared.chains state.shared.chains went.0.shared.chains t.shared.story after.shared.story after.shared.story
            (freed-others setting t m is like (chain_known m (own_site t)).shared.chains (chain_at m (own_site t)) (site-stay setting t m like) (site-table setting t m like) (site-chain setting t m like) own.block own.story own.own own.place own.listed) went.3,
      )

  -- a fine free, after its check
  pub free-follows : (base : Base) (off number : ℕ) → number ≡ number_of t.shared.story.births base off → access_answer t.shared.source.births Free base off 0 1 ≡ Fine → FollowsIn setting t m (source.freed (source_seen t) base) (machine.free_step setting m (own_site t) number)
  unfolding all_told told machine.free_step
  free-follows base off number pointer fine =
      subst (λ n. FollowsIn setting t m (source.freed (source_seen t) base) (on_free m (own_site t) n (machine.freed_if setting m (own_site t) (freed_block m.shared.heap n)) (free_mismatch m.shared.heap n))) (sym pointer)
      (subst (λ o. FollowsIn setting t m (source.freed (source_seen t) base) (on_free m (own_site t) (number_of t.shared.story.births base off) (machine.freed_if setting m (own_site t) (freed_block m.shared.heap (number_of t.shared.story.births base off))) o)) (sym (fine-frees setting t.shared m.shared is like.shared base off fine))
      (by_base base fine))
    where
      by_base : (b : Base) → access_answer t.shared.source.births Free b off 0 1 ≡ Fine → FollowsIn setting t m (source.freed (source_seen t) b) (machine.freed_if setting m (own_site t) (freed_block m.shared.heap (number_of t.shared.story.births b off)))
      by_base Null h =
          subst (λ n. FollowsIn setting t m (StepEnds.goes_on (source_seen t) nothing_happened) (machine.freed_if setting m (own_site t) (freed_block m.shared.heap n))) (sym (fine-null setting t.shared m.shared is like.shared off h))
          (goes_on-follows setting t m f like before)
      by_base (Object o) h =
          let own = fine-block setting t.shared m.shared is like.shared o off h in
          subst (λ b. Follows setting t m.shared (death_in o.birth) (machine.freed_if setting m (own_site t) b)) (sym own.found)
          (subst (λ n. Follows setting t m.shared (death_in n) (goes_on (machine.block_freed setting (chain_known m (own_site t)) (chain_at m (own_site t)) own.block))) own.birth
          (block-dies o (number_of t.shared.story.births (Object o) off) own))
