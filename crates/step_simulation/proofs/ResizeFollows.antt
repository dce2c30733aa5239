-- The machine follows `realloc`: a new block is born, the bytes that both have move to it, and the old one dies.
use Rattle.std.proofs.Common.{◌≡◌, ℕ, zero, suc, ◌+◌, ◌<◌, ◌≤◌, Bool, true, false, nat_le, if◌then◌else◌, List, [], ◌∷◌, length, map, take, drop, min, slice_get, Option, Some, None, Result, Ok, refl, sym, ◌∙◌, ap, subst, arith}
use Rattle.std.proofs.Common.{◌⊎◌, inl, inr}
use Rattle.std.proofs.Math.Nat.{min-le_left}
use Rattle.std.proofs.lemmas.Bool.{le-leb, cases_lt}
use Rattle.dbg_sites.proofs.ChainLemmas.{slice_get-push_new}
use Rattle.hw_base.specs.declared.accesses.Access.{Access}
use Rattle.hw_base.specs.declared.accesses.Access.TheVariants.{Read, Write, Free}
use Rattle.hw_base.specs.declared.endings.Full.{Full}
use Rattle.hw_base.specs.declared.endings.Space.TheVariants.{Heap as HeapSpace}
use Rattle.hw_base.specs.declared.pointers.Base.{Base}
use Rattle.hw_base.specs.declared.pointers.Base.TheVariants.{Null, Object}
use Rattle.hw_base.specs.declared.pointers.Obj.{Obj}
use Rattle.hw_base.specs.declared.pointers.Site.{Site}
use Rattle.hw_tags.specs.TaskRuns.{Goes, Ends}
use Rattle.ir_core.specs.declared.ir_module.Function.{Function}
use Rattle.ir_machine.specs.BlockFunctions as machine
use Rattle.ir_machine.specs.CheckSteps.{on_free}
use Rattle.ir_machine.specs.State.{MachineSetting, MachineSeen, IsFull}
use Rattle.ir_machine.specs.StepEnds.{chain_at, chain_known, on_bytes, on_memory, with_write, gives_to}
use Rattle.ir_meaning.proofs.BirthChangeLaws.{slice_get-pushed}
use Rattle.ir_meaning.specs.AccessRule.{Fine, access_rule, accessed_in, inside_answer, bytes_answer, access_answer}
use Rattle.ir_meaning.specs.Births.{Birth, Region, SourceObject, is_living, object_in, get_object, region_of, bytes_in, bytes_at, fresh_object, put_bytes, after_death}
use Rattle.ir_meaning.specs.BlockFunctions as source
use Rattle.ir_meaning.specs.BlockFunctions.{block_of}
use Rattle.ir_meaning.specs.State.{telling}
use Rattle.ir_meaning.specs.StepEnds as StepEnds
use Rattle.ir_meaning.specs.Values.{SourceByte}
use Rattle.mi_code.specs.MachineOperands.{call_result}
use Rattle.tag_alloc.proofs.HeapBlockLemmas.{with_block-stays}
use Rattle.tag_alloc.specs.HeapBlocks as heap
use Rattle.tag_alloc.specs.HeapBlocks.{freed_block, free_mismatch, block_number}
use Rattle.tag_alloc.specs.HeapSteps as steps
use Rattle.tag_story.specs.Story.{Placed, StoryBirth, Story, byte_image, number_of}
use Rattle.tag_story.specs.Telling as telling_of
use Rattle.tag_story.specs.Telling.{told, all_told, on_told, block_by, place_of_block}
use Rattle.tag_story.specs.ToldRun.{ToldSeen, ToldOutcome, source_seen, with_story, if_told}
use Rattle.simulation.proofs.BlockBorn.{block-pushed}
use Rattle.step_simulation.proofs.BlockFollows.{site-chain, site-stay, new_block, told_born, machine_born, born-like, born-others, born-known, born-number, born-told, born-machine, allocated-follows}
use Rattle.step_simulation.proofs.FreeFollows.{IsOwnBlock, fine-frees, fine-null, fine-block, fine-start, told_freed, machine_freed, freed-like, freed-others, freed-told}
use Rattle.simulation.proofs.Images.{born-stays, number-stays, stays-born, stays-died}
use Rattle.step_simulation.proofs.LibraryParts.{gives_to-follows}
use Rattle.simulation.proofs.ObjectPlaces.{placed-as, placed-there}
use Rattle.step_simulation.proofs.PlainSteps.{FollowsIn, IsBeforeNext, own_site, others-on}
use Rattle.step_simulation.proofs.PointerLoads.{bytes-known}
use Rattle.step_simulation.proofs.WritesFollow.{told_stored, numbers_stored, stored-like}
use Rattle.simulation.proofs.ReadImages.{fine-read}
use Rattle.simulation.proofs.WriteAllowed.{fine-written}
use Rattle.tbi_memory.specs.AddressSpace.{read, written, with_bytes}
use Rattle.hw_base.specs.TaggedAddress.{address_of}
use Rattle.std.proofs.lemmas.List.{length-map}
use Rattle.step_simulation.specs.Following.{Follows}
use Rattle.simulation.specs.Parts.{IsChain, IsBorn, IsBlockOf}
use Rattle.simulation.specs.Relation.{IsSetting, SeenLike, story_setting}

-- ---- accesses within a living object

living-answer : (access : Access) (region : Region) (x : SourceObject) (count : ℕ) → is_living x.life ≡ true → count ≤ x.size → inside_answer access x.constant ≡ Fine → bytes_answer access (accessed_in region (Some x)) 0 count 1 ≡ Fine
living-answer access region x zero alive fits inside = refl
living-answer access region x (suc n) alive fits inside =
    ap (λ (bit : Bool). if bit then (if nat_le (0 + suc n) x.size then inside_answer access x.constant else Rattle.ir_meaning.specs.AccessRule.Violates (Rattle.ir_meaning.specs.AccessRule.overflow_kind region)) else Rattle.ir_meaning.specs.AccessRule.dead_answer region) alive
    ∙ ap (λ (bit : Bool). if bit then inside_answer access x.constant else Rattle.ir_meaning.specs.AccessRule.Violates (Rattle.ir_meaning.specs.AccessRule.overflow_kind region)) (le-leb (0 + suc n) x.size (omega (arith, fits)))
    ∙ inside

-- a read of the first bytes of a living object is fine
read-fine : (births : List Birth) (o : Obj) (x : SourceObject) (count : ℕ) → get_object births o ≡ Some x → is_living x.life ≡ true → count ≤ x.size → access_answer births Read (Object o) 0 count 1 ≡ Fine
unfolding access_rule
read-fine births o x count there alive fits = ap (λ found. bytes_answer Read (accessed_in (region_of births o) found) 0 count 1) there ∙ living-answer Read (region_of births o) x count alive fits refl

-- and so is a write, if it isn't a constant
write-fine : (births : List Birth) (o : Obj) (x : SourceObject) (count : ℕ) → get_object births o ≡ Some x → is_living x.life ≡ true → x.constant ≡ false → count ≤ x.size → access_answer births Write (Object o) 0 count 1 ≡ Fine
unfolding access_rule
write-fine births o x count there alive variable fits = ap (λ found. bytes_answer Write (accessed_in (region_of births o) found) 0 count 1) there ∙ living-answer Write (region_of births o) x count alive fits (ap (inside_answer Write) variable)

take-past : {X : Type 0} (k : ℕ) (ys : List X) → length ys ≤ k → take k ys ≡ ys
take-past zero [] h = refl
take-past zero (y ∷ ys) h = absurd (omega (arith, h))
take-past (suc k) [] h = refl
take-past (suc k) (y ∷ ys) h = ap (λ zs. y ∷ zs) (take-past k ys (omega (arith, h)))

-- the bytes that a list and a size have both
take-min : {X : Type 0} (n size : ℕ) (xs : List X) → length xs ≡ n → take (min n size) xs ≡ take size xs
take-min n size xs same = by_order (cases_lt size n)
  where
    by_order : (size < n) ⊎ (n ≤ size) → take (min n size) xs ≡ take size xs
    by_order (inl less) = let least : min n size ≡ size = omega arith in ap (λ k. take k xs) least
    by_order (inr more) = let least : min n size ≡ n = omega arith in ap (λ k. take k xs) least ∙ take-past n xs (omega (arith, same)) ∙ sym (take-past size xs (omega (arith, same, more)))

take-short : {X : Type 0} (size : ℕ) (xs : List X) → length (take size xs) ≤ size
take-short zero xs = omega arith
take-short (suc n) [] = omega arith
take-short (suc n) (x ∷ xs) = let rest = take-short n xs in omega (arith, rest)

-- ---- the resize

module _ (setting : MachineSetting) (t : ToldSeen) (m : MachineSeen) (f : Function) (is : IsSetting setting) (like : SeenLike setting t m) (before : IsBeforeNext setting t m f) (result : Option ℕ) (o : Obj) (off number size : ℕ) (pointer : number ≡ number_of t.shared.story.births (Object o) off) (x : SourceObject) (found : get_object t.shared.source.births o ≡ Some x) (alive : is_living x.life ≡ true) (zero_off : off ≡ 0)
    (own : IsOwnBlock m.shared t.shared.story.births o (number_of t.shared.story.births (Object o) off)) where
  abbrev chain : List Site
  chain = own_site t ∷ t.frame.chain

  abbrev new : Obj
  new = block_of (length t.shared.source.births)

  -- the size that the machine knows of the old block
  size-same : own.block.size ≡ x.size
  size-same =
      let place = placed-as setting t.shared.source.births t.shared.story o x is like.shared.laid like.shared.told found in
      let one : Some own.story ≡ Some place.birth = sym own.own.there ∙ ap (slice_get t.shared.story.births) own.birth ∙ place.object.there in
      let same : own.story ≡ place.birth = cc in
      let object : slice_get (record { at = own.block.at; size = own.block.size; tag = own.block.tag } ∷ []) 0 ≡ Some place.placed = ap (λ xs. slice_get xs 0) (sym own.own.objects) ∙ ap (λ (b : StoryBirth). slice_get b.objects 0) same ∙ ap (slice_get place.birth.objects) (sym own.index) ∙ place.object.object in
      ap (λ (p : Option Placed). elim p [ None ↦ 0 | Some q ↦ q.size ]) object ∙ place.size

  abbrev count : ℕ
  count = min own.block.size size

  abbrev moved : List SourceByte
  moved = take size x.bytes

  bytes-count : length x.bytes ≡ x.size
  bytes-count = like.shared.their_bytes o x found ∙ ap (λ bit. if bit then x.size else 0) alive

  module _ (at : ℕ) (place : place_of_block (story_setting setting) t.shared.story size ≡ Some at) where
    abbrev born : ToldSeen
    born = told_born setting t m is like size at place

    abbrev machine_then : MachineSeen
    machine_then = machine_born setting t m is like size at place

    abbrev new_number : ℕ
    new_number = block_number (new_block setting t m is like size at place)

    like_born : SeenLike setting born machine_then
    like_born = born-like setting t m is like size at place

    -- the old object, and the new one
    old-there : get_object born.shared.source.births o ≡ Some x
    old-there = by_birth (slice_get t.shared.source.births o.birth) refl found
      where
        by_birth : (b : Option Birth) → slice_get t.shared.source.births o.birth ≡ b → object_in b o.index ≡ Some x → get_object born.shared.source.births o ≡ Some x
        by_birth None here h = absurd cc
        by_birth (Some birth) here h = ap (λ b. object_in b o.index) (slice_get-pushed t.shared.source.births _ o.birth birth here) ∙ h

    new-object : get_object born.shared.source.births new ≡ Some (fresh_object size)
    new-object = ap (λ b. object_in b 0) (slice_get-push_new t.shared.source.births _)

    -- the bytes that move
    moved-bytes : bytes_at born.shared.source.births (Object o) 0 count ≡ moved
    moved-bytes = ap (λ b. take count (drop 0 (bytes_in b))) old-there ∙ take-min own.block.size size x.bytes (bytes-count ∙ sym size-same)

    readable : access_answer born.shared.source.births Read (Object o) 0 count 1 ≡ Fine
    readable = read-fine born.shared.source.births o x count old-there alive (let same = size-same in let least = min-le_left own.block.size size in omega (arith, same, least))

    writable : access_answer born.shared.source.births Write (Object new) 0 (length moved) 1 ≡ Fine
    writable = write-fine born.shared.source.births new (fresh_object size) (length moved) new-object refl refl (take-short size x.bytes)

    number-then : number ≡ number_of born.shared.story.births (Object o) 0
    number-then =
        pointer
        ∙ ap (number_of t.shared.story.births (Object o)) zero_off
        ∙ sym (number-stays t.shared.story.births born.shared.story.births (Object o) 0 (stays-born t.shared.story.births _) (let p = placed-as setting t.shared.source.births t.shared.story o x is like.shared.laid like.shared.told found in (p.placed, placed-there t.shared.story o x p)))

    abbrev numbers : List ℕ
    numbers = map (byte_image born.shared.story.births) (bytes_at born.shared.source.births (Object o) 0 count)

    -- both sides after the bytes have moved
    abbrev stored : ToldSeen
    stored = told_stored born (Object new) 0 (bytes_at born.shared.source.births (Object o) 0 count)

    abbrev machine_stored : MachineSeen
    machine_stored = numbers_stored machine_then new_number numbers

    -- the old block in the machine's table now
    own-now : IsBlockOf machine_stored.shared.chains stored.shared.story.births own.block own.story
    own-now = block-pushed m.shared.chains machine_stored.shared.chains t.shared.story.births _ (site-stay setting t m like) own.block own.story own.own

    listed-now : (j : ℕ) × (slice_get machine_stored.shared.heap.living j ≡ Some own.block)
    unfolding steps.after_birth
    listed-now = with_block-stays (new_block setting t m is like size at place) own.block m.shared.heap.living own.place own.listed

    -- what comes of the resize in the source, by the birth that dies and what the story says
    abbrev resized_told : ℕ → List SourceByte → Result Story Full → ToldOutcome
    resized_told n bytes r =
        if_told t r (λ w. Goes
        (with_story (StepEnds.advanced (StepEnds.assigned (source.with_births (source_seen t) (after_death (put_bytes (source.births_with (source_seen t) size) (Object new) 0 bytes) n t.task chain)) result (source.block_pointer (length t.shared.source.births)))) w)
        (telling (source.block_news (source_seen t) size ∷ source.death_of (source_seen t) n ∷ [])))

    module _ (like_stored : SeenLike setting stored machine_stored) where
      abbrev known_now : IsChain machine_stored.shared.chains (chain_at m (own_site t)) chain
      known_now = site-chain setting t m like

      abbrev freed : ToldSeen
      freed = told_freed setting stored machine_stored is like_stored machine_stored.shared.chains (chain_at m (own_site t)) (λ k c h. h) like_stored.shared.table known_now own.block own.story own-now listed-now.0 listed-now.1

      abbrev machine_then_freed : MachineSeen
      machine_then_freed = machine_freed setting stored machine_stored is like_stored machine_stored.shared.chains (chain_at m (own_site t)) (λ k c h. h) like_stored.shared.table known_now own.block own.story own-now listed-now.0 listed-now.1 machine_stored.task (setting.word machine_stored.shared.drawn)

      like_freed : SeenLike setting freed machine_then_freed
      like_freed = freed-like setting stored machine_stored is like_stored machine_stored.shared.chains (chain_at m (own_site t)) (λ k c h. h) like_stored.shared.table known_now own.block own.story own-now listed-now.0 listed-now.1

      new-known : IsBorn freed.shared.story.births new
      new-known = born-stays born.shared.story.births freed.shared.story.births new (stays-died born.shared.story.births own.block.birth t.task chain) (born-known setting t m is like size at place)

      new-number : new_number ≡ number_of freed.shared.story.births (Object new) 0
      new-number =
          born-number setting t m is like size at place
          ∙ sym (number-stays born.shared.story.births freed.shared.story.births (Object new) 0 (stays-died born.shared.story.births own.block.birth t.task chain) (born-known setting t m is like size at place))

      resized-goes : Follows setting t m.shared (resized_told own.block.birth (bytes_at born.shared.source.births (Object o) 0 count) (Ok freed.shared.story)) (gives_to (machine.block_freed setting machine_stored (chain_at m (own_site t)) own.block) (call_result result) new_number)
      unfolding all_told
      resized-goes =
          let went = gives_to-follows setting freed machine_then_freed f like_freed before result (source.block_pointer (length t.shared.source.births)) new_number new-known tt new-number in (
            went.0,
            went.1,
            went.2,
            others-on t.task m.shared.chains machine_then.shared.chains went.0.shared.chains t.shared.story born.shared.story freed.shared.story (born-others setting t m is like size at place)
                (others-on t.task machine_then.shared.chains machine_then_freed.shared.chains went.0.shared.chains born.shared.story freed.shared.story freed.shared.story
                (freed-others setting stored machine_stored is like_stored machine_stored.shared.chains (chain_at m (own_site t)) (λ k c h. h) like_stored.shared.table known_now own.block own.story own-now listed-now.0 listed-now.1) went.3),
          )

    -- ---- the machine's read and write

    read-is : read machine_then.shared.memory number count ≡ Ok numbers
    read-is = ap (λ a. read machine_then.shared.memory a count) number-then ∙ fine-read setting born.shared machine_then.shared is like_born.shared Read (Object o) 0 count 1 (λ same. absurd cc) readable

    moved-answer : access_answer born.shared.source.births Write (Object new) 0 (length (bytes_at born.shared.source.births (Object o) 0 count)) 1 ≡ Fine
    moved-answer = ap (λ bytes. access_answer born.shared.source.births Write (Object new) 0 (length bytes) 1) moved-bytes ∙ writable

    written-is : written machine_then.shared.memory new_number numbers ≡ Ok (with_bytes machine_then.shared.memory (address_of new_number) numbers)
    written-is =
        let mapped : length numbers ≡ length (bytes_at born.shared.source.births (Object o) 0 count) = length-map _ _ in
        let answer = ap (λ n. access_answer born.shared.source.births Write (Object new) 0 n 1) mapped ∙ moved-answer in
        ap (λ a. written machine_then.shared.memory a numbers) (born-number setting t m is like size at place)
        ∙ fine-written setting born.shared machine_then.shared is like_born.shared (Object new) 0 1 numbers answer
        ∙ ap (λ a. Ok (with_bytes machine_then.shared.memory (address_of a) numbers)) (sym (born-number setting t m is like size at place))

    stored-related : SeenLike setting stored machine_stored
    stored-related =
        subst (λ a. SeenLike setting stored (numbers_stored machine_then a numbers)) (sym (born-number setting t m is like size at place))
        (stored-like setting born machine_then is like_born (Object new) 0 1 (bytes_at born.shared.source.births (Object o) 0 count) moved-answer (bytes-known setting born.shared machine_then.shared like_born.shared (Object o) 0 count))

    -- the story of both news
    story-is : all_told (story_setting setting) t.shared.story (source.block_news (source_seen t) size ∷ source.death_of (source_seen t) own.block.birth ∷ []) ≡ Ok (freed stored-related).shared.story
    unfolding all_told told
    story-is =
        ap (λ (r : Result Story Full). on_told r (λ v. on_told (Ok (telling_of.death_told (story_setting setting) v own.block.birth t.task chain (slice_get v.births own.block.birth))) (λ w. Ok w))) (born-told setting t m f is like before result size (Some at) place)
        ∙ ap (λ (w : Story). Ok w) (freed-told setting stored machine_stored is stored-related machine_stored.shared.chains (chain_at m (own_site t)) (λ k c h. h) stored-related.shared.table (known_now stored-related) own.block own.story own-now listed-now.0 listed-now.1)

    -- the source's bytes, and the birth that dies, as it names them
    resized-some : Follows setting t m.shared (resized_told o.birth (take size (bytes_in (get_object t.shared.source.births o))) (all_told (story_setting setting) t.shared.story (source.block_news (source_seen t) size ∷ source.death_of (source_seen t) o.birth ∷ [])))
        (machine.moved_block setting (own_site t) (call_result result) number size (chain_at m (own_site t)) own.block machine_then new_number)
    resized-some =
        subst (λ n. Follows setting t m.shared (resized_told n (take size (bytes_in (get_object t.shared.source.births o))) (all_told (story_setting setting) t.shared.story (source.block_news (source_seen t) size ∷ source.death_of (source_seen t) n ∷ []))) (machine.moved_block setting (own_site t) (call_result result) number size (chain_at m (own_site t)) own.block machine_then new_number)) own.birth
        (subst (λ bytes. Follows setting t m.shared (resized_told own.block.birth bytes (all_told (story_setting setting) t.shared.story (source.block_news (source_seen t) size ∷ source.death_of (source_seen t) own.block.birth ∷ []))) (machine.moved_block setting (own_site t) (call_result result) number size (chain_at m (own_site t)) own.block machine_then new_number)) (moved-bytes ∙ ap (λ b. take size (bytes_in b)) (sym found))
        (subst (λ (r : Result Story Full). Follows setting t m.shared (resized_told own.block.birth (bytes_at born.shared.source.births (Object o) 0 count) r) (machine.moved_block setting (own_site t) (call_result result) number size (chain_at m (own_site t)) own.block machine_then new_number)) (sym story-is)
        (subst (λ r. Follows setting t m.shared (resized_told own.block.birth (bytes_at born.shared.source.births (Object o) 0 count) (Ok (freed stored-related).shared.story)) (on_bytes machine_then (own_site t) Read count number r (λ bytes. with_write machine_then (own_site t) new_number bytes (λ after. gives_to (machine.block_freed setting after (chain_at m (own_site t)) own.block) (call_result result) new_number)))) (sym read-is)
        (subst (λ r. Follows setting t m.shared (resized_told own.block.birth (bytes_at born.shared.source.births (Object o) 0 count) (Ok (freed stored-related).shared.story)) (on_memory machine_then (own_site t) (length numbers) new_number r (λ after. gives_to (machine.block_freed setting after (chain_at m (own_site t)) own.block) (call_result result) new_number))) (sym written-is)
        (resized-goes stored-related)))))

  -- the source after the resize, with its story
  abbrev resized_state : Story → ToldOutcome
  resized_state w = Goes (with_story (StepEnds.advanced (StepEnds.assigned (source.with_births (source_seen t) (source.births_resized (source_seen t) o size)) result (source.block_pointer (length t.shared.source.births)))) w) (telling (source.block_news (source_seen t) size ∷ source.death_of (source_seen t) o.birth ∷ []))

  -- the machine's new block, or a full heap
  resized-by : (p : Option ℕ) → place_of_block (story_setting setting) t.shared.story size ≡ p → FollowsIn setting t m (source.resized (source_seen t) result (Object o) size) (machine.on_birth (chain_known m (own_site t)) (machine.moved_block setting (own_site t) (call_result result) number size (chain_at m (own_site t)) own.block) (steps.allocated m.shared.heap m.shared.memory (setting.word m.shared.drawn) size m.shared.births (chain_at m (own_site t))))
  unfolding all_told told steps.after_birth
  resized-by None h =
      subst (λ (r : Result steps.AfterBirth Full). FollowsIn setting t m (source.resized (source_seen t) result (Object o) size) (machine.on_birth (chain_known m (own_site t)) (machine.moved_block setting (own_site t) (call_result result) number size (chain_at m (own_site t)) own.block) r)) (sym (born-machine setting t m f is like before result size None h))
      (subst (λ (r : Result Story Full). Follows setting t m.shared (if_told t (on_told r (λ v. on_told (Ok (telling_of.death_told (story_setting setting) v o.birth t.task chain (slice_get v.births o.birth))) (λ w. Ok w))) resized_state) (Ends (chain_known m (own_site t)).shared (m.frame ∷ m.callers) [] (IsFull (heap.heap_full m.shared.heap size)))) (sym (born-told setting t m f is like before result size None h))
      ((chain_known m (own_site t)).shared, m.frame ∷ m.callers, ap (λ n. Ends (chain_known m (own_site t)).shared (m.frame ∷ m.callers) [] (IsFull (record { space = HeapSpace; asked = size; living = n }))) like.shared.heap.size))
  resized-by (Some at) h =
      subst (λ (r : Result steps.AfterBirth Full). FollowsIn setting t m (source.resized (source_seen t) result (Object o) size) (machine.on_birth (chain_known m (own_site t)) (machine.moved_block setting (own_site t) (call_result result) number size (chain_at m (own_site t)) own.block) r)) (sym (born-machine setting t m f is like before result size (Some at) h))
      (resized-some at h)

-- ---- the step

module _ (setting : MachineSetting) (t : ToldSeen) (m : MachineSeen) (f : Function) (is : IsSetting setting) (like : SeenLike setting t m) (before : IsBeforeNext setting t m f) (result : Option ℕ) where
  -- a fine `realloc`, after its check
  pub resized-follows : (base : Base) (off number size : ℕ) → number ≡ number_of t.shared.story.births base off → access_answer t.shared.source.births Free base off 0 1 ≡ Fine → FollowsIn setting t m (source.resized (source_seen t) result base size) (machine.realloc_step setting m (own_site t) (call_result result) number size)
  unfolding machine.realloc_step
  resized-follows base off number size pointer fine =
      subst (λ o. FollowsIn setting t m (source.resized (source_seen t) result base size) (on_free m (own_site t) number (machine.reallocated setting m (own_site t) (call_result result) number size (freed_block m.shared.heap number)) o)) (sym (ap (free_mismatch m.shared.heap) pointer ∙ fine-frees setting t.shared m.shared is like.shared base off fine))
      (by_base base pointer fine)
    where
      by_base : (b : Base) → number ≡ number_of t.shared.story.births b off → access_answer t.shared.source.births Free b off 0 1 ≡ Fine → FollowsIn setting t m (source.resized (source_seen t) result b size) (machine.reallocated setting m (own_site t) (call_result result) number size (freed_block m.shared.heap number))
      by_base Null same h =
          subst (λ n. FollowsIn setting t m (source.allocated (source_seen t) result size) (machine.reallocated setting m (own_site t) (call_result result) n size (freed_block m.shared.heap n))) (sym (same ∙ fine-null setting t.shared m.shared is like.shared off h))
          (allocated-follows setting t m f is like before result size)
      by_base (Object o) same h =
          let own = fine-block setting t.shared m.shared is like.shared o off h in
          let (x, found, alive, zero_off) = fine-start setting t.shared m.shared is like.shared o off h in
          subst (λ b. FollowsIn setting t m (source.resized (source_seen t) result (Object o) size) (machine.reallocated setting m (own_site t) (call_result result) number size b)) (sym (ap (freed_block m.shared.heap) same ∙ own.found))
          (resized-by setting t m f is like before result o off number size same x found alive zero_off own (place_of_block (story_setting setting) t.shared.story size) refl)
