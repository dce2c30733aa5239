-- The machine follows births and deaths of blocks in a step: the new block, or a full heap, and the block that a free ends.
use Rattle.std.proofs.Common.{◌≡◌, ℕ, ◌+◌, List, [], ◌∷◌, ◌++◌, length, slice_get, Option, Some, None, Result, Ok, Err, refl, sym, ◌∙◌, ap, subst, arith}
use Rattle.dbg_sites.proofs.ChainLemmas.{pushed-front, pushed-within, pushed-table}
use Rattle.hw_base.specs.TaggedAddress.{tagged_address}
use Rattle.hw_base.specs.declared.pointers.Base.TheVariants.{Object}
use Rattle.hw_base.specs.declared.pointers.Site.{Site}
use Rattle.hw_tags.specs.Tag.{heap_tag_of}
use Rattle.hw_base.specs.declared.endings.Full.{Full}
use Rattle.hw_base.specs.declared.endings.Space.TheVariants.{Heap as HeapSpace}
use Rattle.hw_tags.specs.TaskRuns.{Goes, Ends}
use Rattle.ir_core.specs.declared.ir_module.Function.{Function}
use Rattle.ir_machine.specs.BlockFunctions as machine
use Rattle.ir_machine.specs.State.{MachineSetting, MachineSeen, MachineOutcome, IsFull}
use Rattle.ir_machine.specs.StepEnds.{chain_at, chain_known, gives_to}
use Rattle.ir_meaning.specs.Births.{Birth, Region, Heap, SourceObject, is_living, get_object, region_of, fresh_birth, after_death}
use Rattle.ir_meaning.specs.BlockFunctions as source
use Rattle.ir_meaning.specs.BlockFunctions.{block_of}
use Rattle.ir_meaning.specs.State.{telling}
use Rattle.ir_meaning.specs.StepEnds as StepEnds
use Rattle.mi_code.specs.MachineOperands.{call_result}
use Rattle.tag_alloc.specs.HeapBlocks as heap
use Rattle.tag_alloc.specs.HeapBlocks.{free_mismatch, mismatch_with, freed_block, block_number}
use Rattle.tag_alloc.specs.HeapSteps as steps
use Rattle.tag_alloc.specs.declared.blocks.Block.{Block}
use Rattle.tag_story.specs.Story.{Story, placed_in, get_placed, number_in, number_of}
use Rattle.tag_story.specs.Telling as telling
use Rattle.tag_story.specs.Telling.{told, all_told, on_told, block_by, place_of_block}
use Rattle.tag_story.specs.ToldRun.{ToldSeen, ToldOutcome, source_seen, with_story, if_told}
use Rattle.simulation.proofs.BirthLists.{new-there}
use Rattle.simulation.proofs.BlockBorn.{block-born}
use Rattle.simulation.proofs.BlockSpans.{place-same}
use Rattle.simulation.proofs.Images.{stays-born}
use Rattle.step_simulation.proofs.LibraryParts.{shared-like, gives_to-follows}
use Rattle.step_simulation.proofs.PlainSteps.{FollowsIn, IsBeforeNext, own_site, others-on}
use Rattle.simulation.proofs.TablesKept.{pushed-stay}
use Rattle.simulation.specs.BirthsAndDeaths.{ChainsStay}
use Rattle.step_simulation.specs.Following.{KeepsOthersOf, Follows}
use Rattle.simulation.specs.Parts.{IsChain, IsBorn}
use Rattle.simulation.specs.Relation.{IsSetting, SharedRelated, SeenLike, story_setting}

-- ---- chains of the step

module _ (setting : MachineSetting) (t : ToldSeen) (m : MachineSeen) (like : SeenLike setting t m) where
  -- the chain of the source's instruction, as the machine numbers it
  pub site-chain : IsChain (chain_known m (own_site t)).shared.chains (chain_at m (own_site t)) (own_site t ∷ t.frame.chain)
  site-chain =
      record {
        there = pushed-within m.shared.chains m.frame.chain (own_site t);
        sites = pushed-front m.shared.chains m.frame.chain (own_site t) like.shared.table like.frame.chain.there ∙ ap (λ chain. own_site t ∷ chain) like.frame.chain.sites;
      }

  pub site-stay : ChainsStay m.shared.chains (chain_known m (own_site t)).shared.chains
  site-stay = pushed-stay m.shared.chains m.frame.chain (own_site t) like.shared.table

  pub site-table : Rattle.dbg_sites.specs.ChainTable.IsChainTable (chain_known m (own_site t)).shared.chains
  site-table = pushed-table m.shared.chains m.frame.chain (own_site t) like.shared.table like.frame.chain.there

-- ---- births

module _ (setting : MachineSetting) (t : ToldSeen) (m : MachineSeen) (is : IsSetting setting) (like : SeenLike setting t m) (size at : ℕ) (place : place_of_block (story_setting setting) t.shared.story size ≡ Some at) where
  abbrev chain : List Site
  chain = own_site t ∷ t.frame.chain

  -- the machine's new block
  abbrev pub new_block : Block
  new_block = steps.new_block (setting.word m.shared.drawn) at size m.shared.births (chain_at m (own_site t))

  -- both sides after the birth
  abbrev pub told_born : ToldSeen
  told_born =
      record t {
        shared = record {
          source = record t.shared.source { births = t.shared.source.births ++ fresh_birth Heap t.task chain (size ∷ []) ∷ [] };
          story = telling.block_at (story_setting setting) t.shared.story t.task at size chain;
        };
      }

  abbrev pub machine_born : MachineSeen
  machine_born = machine.with_birth (chain_known m (own_site t)) (steps.after_birth m.shared.heap m.shared.memory new_block)

  same-block : new_block ≡ record { at = at; size = size; tag = heap_tag_of (setting.word t.shared.story.drawn); birth = length t.shared.story.births; born = chain_at m (own_site t) }
  same-block =
      ap (λ n. steps.new_block (setting.word n) at size m.shared.births (chain_at m (own_site t))) like.shared.drawn
      ∙ ap (λ n. steps.new_block (setting.word t.shared.story.drawn) at size n (chain_at m (own_site t))) like.shared.births

  born-shared : SharedRelated setting told_born.shared machine_born.shared
  unfolding steps.after_birth
  born-shared =
      subst (λ (block : Block). SharedRelated setting told_born.shared (Rattle.simulation.proofs.BlockBorn.machine_after setting t.shared m.shared is like.shared t.task size at chain (chain_known m (own_site t)).shared.chains (chain_at m (own_site t)) (site-stay setting t m like) (site-table setting t m like) (site-chain setting t m like) place block m.shared.drawn)) (sym same-block)
      (block-born setting t.shared m.shared is like.shared t.task size at chain (chain_known m (own_site t)).shared.chains (chain_at m (own_site t)) (site-stay setting t m like) (site-table setting t m like) (site-chain setting t m like) place)

  pub born-like : SeenLike setting told_born machine_born
  unfolding steps.after_birth
  born-like =
      shared-like setting t m told_born.shared machine_born.shared like born-shared (stays-born t.shared.story.births _) (site-stay setting t m like) refl
      (record { rings = like.tables.rings; stacks = like.tables.stacks }) (record { freed = like.started.freed; ended = like.started.ended; frames = like.started.frames })

  pub born-others : KeepsOthersOf t m.shared told_born.shared.story machine_born.shared
  born-others = record { chains = site-stay setting t m like; places = stays-born t.shared.story.births _; frames = λ task other. refl }

  -- the place of the new block
  pub born-placed : get_placed told_born.shared.story.births (block_of (length t.shared.source.births)) ≡ Some (record { at = at; size = size; tag = heap_tag_of (setting.word t.shared.story.drawn) })
  born-placed =
      ap (λ n. placed_in (slice_get told_born.shared.story.births n) 0) (sym like.shared.told.count)
      ∙ ap (λ b. placed_in b 0) (new-there t.shared.story.births (record { region = Heap; task = t.task; born = chain; life = Rattle.ir_meaning.specs.Births.Living; objects = record { at = at; size = size; tag = heap_tag_of (setting.word t.shared.story.drawn) } ∷ [] }))

  pub born-known : IsBorn told_born.shared.story.births (block_of (length t.shared.source.births))
  born-known = (record { at = at; size = size; tag = heap_tag_of (setting.word t.shared.story.drawn) }, born-placed)

  pub born-number : block_number new_block ≡ number_of told_born.shared.story.births (Object (block_of (length t.shared.source.births))) 0
  born-number =
      let more : at ≡ at + 0 = omega arith in
      ap block_number same-block ∙ ap (tagged_address (heap_tag_of (setting.word t.shared.story.drawn))) more ∙ ap (λ p. number_in p 0) (sym born-placed)

module _ (setting : MachineSetting) (t : ToldSeen) (m : MachineSeen) (f : Function) (is : IsSetting setting) (like : SeenLike setting t m) (before : IsBeforeNext setting t m f) (result : Option ℕ) where
  -- the news of a new block, with what the story says
  pub born-told : (size : ℕ) (o : Option ℕ) → place_of_block (story_setting setting) t.shared.story size ≡ o → telling.block_told (story_setting setting) t.shared.story t.task (own_site t ∷ t.frame.chain) (size ∷ []) ≡ block_by (story_setting setting) t.shared.story t.task size (own_site t ∷ t.frame.chain) o
  born-told size o h = ap (block_by (story_setting setting) t.shared.story t.task size (own_site t ∷ t.frame.chain)) h

  -- the machine's new block, or none
  pub born-machine : (size : ℕ) (o : Option ℕ) → place_of_block (story_setting setting) t.shared.story size ≡ o
      → steps.allocated m.shared.heap m.shared.memory (setting.word m.shared.drawn) size m.shared.births (chain_at m (own_site t))
      ≡ elim o [ None ↦ Err (heap.heap_full m.shared.heap size) | Some place ↦ Ok (steps.after_birth m.shared.heap m.shared.memory (steps.new_block (setting.word m.shared.drawn) place size m.shared.births (chain_at m (own_site t)))) ]
  unfolding steps.allocated
  born-machine size o h =
      ap (λ (place : Option ℕ). elim place [ None ↦ Err (heap.heap_full m.shared.heap size) | Some place ↦ Ok (steps.after_birth m.shared.heap m.shared.memory (steps.new_block (setting.word m.shared.drawn) place size m.shared.births (chain_at m (own_site t)))) ])
      (place-same setting t.shared.story m.shared.chains m.shared.heap size like.shared.heap ∙ h)

  -- what comes of the birth in the source, by what the story says
  abbrev allocated_told : (size : ℕ) → Result Story Full → ToldOutcome
  allocated_told size r =
      if_told t (on_told r (λ v. Ok v)) (λ w. Goes
      (with_story (StepEnds.advanced (StepEnds.assigned (source.with_births (source_seen t) (source.births_with (source_seen t) size)) result (source.block_pointer (length t.shared.source.births)))) w)
      (telling (source.block_news (source_seen t) size ∷ [])))

  -- and in the machine, by what the table says
  abbrev allocated_machine : Result steps.AfterBirth Full → MachineOutcome
  allocated_machine r = machine.on_birth (chain_known m (own_site t)) (λ after number. gives_to after (call_result result) number) r

  allocated-full : (size : ℕ) → Follows setting t m.shared (allocated_told size (block_by (story_setting setting) t.shared.story t.task size (own_site t ∷ t.frame.chain) None)) (allocated_machine (Err (heap.heap_full m.shared.heap size)))
  allocated-full size = (
    (chain_known m (own_site t)).shared,
    m.frame ∷ m.callers,
    ap (λ n. Ends (chain_known m (own_site t)).shared (m.frame ∷ m.callers) [] (IsFull (record { space = HeapSpace; asked = size; living = n }))) like.shared.heap.size,
  )

  allocated-some : (size at : ℕ) (place : place_of_block (story_setting setting) t.shared.story size ≡ Some at) → Follows setting t m.shared (allocated_told size (block_by (story_setting setting) t.shared.story t.task size (own_site t ∷ t.frame.chain) (Some at)))
      (allocated_machine (Ok (steps.after_birth m.shared.heap m.shared.memory (new_block setting t m is like size at place))))
  unfolding steps.after_birth all_told
  allocated-some size at place =
      let born = told_born setting t m is like size at place in
      let state = machine_born setting t m is like size at place in
      let went = gives_to-follows setting born state f (born-like setting t m is like size at place) before result (source.block_pointer (length t.shared.source.births)) (block_number (new_block setting t m is like size at place)) (born-known setting t m is like size at place) tt (born-number setting t m is like size at place) in
      (went.0, went.1, went.2, others-on t.task m.shared.chains state.shared.chains went.0.shared.chains t.shared.story born.shared.story born.shared.story (born-others setting t m is like size at place) went.3)

  pub allocated-follows : (size : ℕ) → FollowsIn setting t m (source.allocated (source_seen t) result size) (machine.malloc_step setting m (own_site t) (call_result result) size)
  unfolding all_told told machine.malloc_step
  allocated-follows size = by_place (place_of_block (story_setting setting) t.shared.story size) refl
    where
      by_place : (o : Option ℕ) → place_of_block (story_setting setting) t.shared.story size ≡ o → Follows setting t m.shared (allocated_told size (telling.block_told (story_setting setting) t.shared.story t.task (own_site t ∷ t.frame.chain) (size ∷ []))) (allocated_machine (steps.allocated m.shared.heap m.shared.memory (setting.word m.shared.drawn) size m.shared.births (chain_at m (own_site t))))
      by_place None h =
          subst (λ (r : Result Story Full). Follows setting t m.shared (allocated_told size r) (allocated_machine (steps.allocated m.shared.heap m.shared.memory (setting.word m.shared.drawn) size m.shared.births (chain_at m (own_site t))))) (sym (born-told size None h))
          (subst (λ (r : Result steps.AfterBirth Full). Follows setting t m.shared (allocated_told size (block_by (story_setting setting) t.shared.story t.task size (own_site t ∷ t.frame.chain) None)) (allocated_machine r)) (sym (born-machine size None h))
          (allocated-full size))
      by_place (Some at) h =
          subst (λ (r : Result Story Full). Follows setting t m.shared (allocated_told size r) (allocated_machine (steps.allocated m.shared.heap m.shared.memory (setting.word m.shared.drawn) size m.shared.births (chain_at m (own_site t))))) (sym (born-told size (Some at) h))
          (subst (λ (r : Result steps.AfterBirth Full). Follows setting t m.shared (allocated_told size (block_by (story_setting setting) t.shared.story t.task size (own_site t ∷ t.frame.chain) (Some at))) (allocated_machine r)) (sym (born-machine size (Some at) h))
          (allocated-some size at h))
