-- The check of a free finds what the story says: the living block that begins at the number's address, and its tag.
use Rattle.std.proofs.Common.{◌≡◌, ◌≢◌, ℕ, zero, suc, ◌/◌, ◌==◌, Bool, true, false, if◌then◌else◌, List, [], ◌∷◌, slice_get, find, cond, Option, Some, None, option_map, ◌⊎◌, refl, sym, ◌∙◌, ap, subst, inl, inr, arith}
use Rattle.std.proofs.lemmas.Bool.{eqb-true, eq-eqb}
use Rattle.hw_base.specs.TaggedAddress.{address_of, pointer_tag}
use Rattle.ir_machine.specs.State.{MachineSetting, MachineShared}
use Rattle.ir_machine.specs.declared.found.Found.TheVariants.{Block as OfBlock}
use Rattle.ir_meaning.specs.Births.{Region, Globals, Stack, Heap, is_living}
use Rattle.tag_alloc.specs.HeapBlocks.{block_at, mismatch_with, free_mismatch}
use Rattle.tag_alloc.specs.declared.blocks.Block.{Block}
use Rattle.tag_story.proofs.Owners.{one-owner, covers-true}
use Rattle.tag_story.proofs.BirthPlaces.{rounded-some}
use Rattle.tag_story.specs.Judging.{tag_among, tag_in_birth, block_tag_at, free_judged_by, free_judged}
use Rattle.tag_story.specs.StoryTags.{covers}
use Rattle.tag_story.specs.declared.judgement.Coincidence.TheVariants.{BlockTag, NullNumber}
use Rattle.tag_story.specs.declared.judgement.Judgement.TheVariants.{Passes, Refused}
use Rattle.tag_story.specs.declared.judgement.Refusing.TheVariants.{Block as BlockOf}
use Rattle.tag_story.specs.Story.{StorySetting, Story, Placed, StoryBirth}
use Rattle.tag_story.specs.StoryFacts.{IsLaidOut, IsObject}
use Rattle.tag_story.specs.ToldRun.{ToldShared}
use Rattle.simulation.specs.Checks.{FindsJudged}
use Rattle.simulation.specs.Relation.{SharedRelated, story_setting}

-- ---- the block that the story has at an address

-- an object of a living block, which begins at an address
pub record BeginsAt (births : List StoryBirth) (address n k : ℕ) (birth : StoryBirth) (x : Placed) : Type 0 where
  pub there : slice_get births n ≡ Some birth
  pub heap : birth.region ≡ Heap
  pub alive : is_living birth.life ≡ true
  pub object : slice_get birth.objects k ≡ Some x
  pub at : x.at ≡ address

-- some such object has this tag
pub record HasBlockTag (births : List StoryBirth) (address tag : ℕ) : Type 0 where
  pub n : ℕ
  pub k : ℕ
  pub birth : StoryBirth
  pub x : Placed
  pub begins : BeginsAt births address n k birth x
  pub tagged : x.tag ≡ tag

record IsAmong (objects : List Placed) (address tag : ℕ) : Type 0 where
  k : ℕ
  x : Placed
  object : slice_get objects k ≡ Some x
  at : x.at ≡ address
  tagged : x.tag ≡ tag

among-some : (objects : List Placed) (address : ℕ) (otherwise : Option ℕ) (tag : ℕ) → tag_among objects address otherwise ≡ Some tag → IsAmong objects address tag ⊎ (otherwise ≡ Some tag)
among-some [] address otherwise tag h = inr h
among-some (x ∷ xs) address otherwise tag h = by_test (x.at == address) refl h (among-some xs address otherwise tag)
  where
    by_test : (bit : Bool) → (x.at == address) ≡ bit → (if bit then Some x.tag else tag_among xs address otherwise) ≡ Some tag → (tag_among xs address otherwise ≡ Some tag → IsAmong xs address tag ⊎ (otherwise ≡ Some tag)) → IsAmong (x ∷ xs) address tag ⊎ (otherwise ≡ Some tag)
    by_test true here e later = inl (record { k = 0; x = x; object = refl; at = eqb-true x.at address here; tagged = let is : x.tag ≡ tag = cc in is })
    by_test false other e later =
        elim (later e) [
          | inl among ↦ inl (record { k = suc among.k; x = among.x; object = among.object; at = among.at; tagged = among.tagged })
          | inr rest ↦ inr rest
        ]

among-none : (objects : List Placed) (address : ℕ) (otherwise : Option ℕ) → tag_among objects address otherwise ≡ None → ((k : ℕ) (x : Placed) → slice_get objects k ≡ Some x → x.at ≢ address) × (otherwise ≡ None)
among-none [] address otherwise h = ((λ k x e same. absurd cc), h)
among-none (y ∷ ys) address otherwise h = by_test (y.at == address) refl h (among-none ys address otherwise)
  where
    by_test : (bit : Bool) → (y.at == address) ≡ bit → (if bit then Some y.tag else tag_among ys address otherwise) ≡ None
        → (tag_among ys address otherwise ≡ None → ((k : ℕ) (x : Placed) → slice_get ys k ≡ Some x → x.at ≢ address) × (otherwise ≡ None))
        → ((k : ℕ) (x : Placed) → slice_get (y ∷ ys) k ≡ Some x → x.at ≢ address) × (otherwise ≡ None)
    by_test true here e later = absurd cc
    by_test false other e later = (by_place, (later e).1)
      where
        by_place : (k : ℕ) (x : Placed) → slice_get (y ∷ ys) k ≡ Some x → x.at ≢ address
        by_place zero x there same =
            let is : y ≡ x = cc in
            let wrong : true ≡ false = sym (eq-eqb y.at address (ap (λ (z : Placed). z.at) is ∙ same)) ∙ other in
            absurd cc
        by_place (suc k) x there same = (later e).0 k x there same

later-tag : (birth : StoryBirth) (births : List StoryBirth) (address tag : ℕ) → HasBlockTag births address tag → HasBlockTag (birth ∷ births) address tag
later-tag birth births address tag has =
    record {
      n = suc has.n;
      k = has.k;
      birth = has.birth;
      x = has.x;
      tagged = has.tagged;
      begins = record { there = has.begins.there; heap = has.begins.heap; alive = has.begins.alive; object = has.begins.object; at = has.begins.at };
    }

pub tag-some : (births : List StoryBirth) (address tag : ℕ) → block_tag_at births address ≡ Some tag → HasBlockTag births address tag
unfolding block_tag_at
tag-some [] address tag h = absurd cc
tag-some (birth ∷ births) address tag h = by_region birth.region refl h (tag-some births address tag)
  where
    by_life : (bit : Bool) → is_living birth.life ≡ bit → birth.region ≡ Heap → (if bit then tag_among birth.objects address (block_tag_at births address) else block_tag_at births address) ≡ Some tag → (block_tag_at births address ≡ Some tag → HasBlockTag births address tag) → HasBlockTag (birth ∷ births) address tag
    by_life false dead heap e later = later-tag birth births address tag (later e)
    by_life true alive heap e later =
        elim (among-some birth.objects address (block_tag_at births address) tag e) [
          | inl among ↦ record {
            n = 0;
            k = among.k;
            birth = birth;
            x = among.x;
            tagged = among.tagged;
            begins = record { there = refl; heap = heap; alive = alive; object = among.object; at = among.at };
          }
          | inr rest ↦ later-tag birth births address tag (later rest)
        ]

    by_region : (region : Region) → birth.region ≡ region → tag_in_birth region birth.life birth.objects address (block_tag_at births address) ≡ Some tag → (block_tag_at births address ≡ Some tag → HasBlockTag births address tag) → HasBlockTag (birth ∷ births) address tag
    by_region Globals is e later = later-tag birth births address tag (later e)
    by_region (Stack func) is e later = later-tag birth births address tag (later e)
    by_region Heap is e later = by_life (is_living birth.life) refl is e later

-- no living block of the story begins at an address
abbrev pub NoneBegins : List StoryBirth → (address : ℕ) → Type 0
NoneBegins births address = (n k : ℕ) (birth : StoryBirth) (x : Placed) → BeginsAt births address n k birth x → ⊥

first-none : (birth : StoryBirth) (births : List StoryBirth) (address : ℕ) → (birth.region ≡ Heap → is_living birth.life ≡ true → (k : ℕ) (x : Placed) → slice_get birth.objects k ≡ Some x → x.at ≢ address) → NoneBegins births address → NoneBegins (birth ∷ births) address
first-none birth births address first later zero k other x begins =
    let there = begins.there in
    let is : birth ≡ other = cc in
    first (ap (λ (b : StoryBirth). b.region) is ∙ begins.heap) (ap (λ (b : StoryBirth). is_living b.life) is ∙ begins.alive) k x (ap (λ (b : StoryBirth). slice_get b.objects k) is ∙ begins.object) begins.at
first-none birth births address first later (suc n) k other x begins =
    later n k other x (record { there = begins.there; heap = begins.heap; alive = begins.alive; object = begins.object; at = begins.at })

pub tag-none : (births : List StoryBirth) (address : ℕ) → block_tag_at births address ≡ None → NoneBegins births address
unfolding block_tag_at
tag-none [] address h = λ n k birth x begins. let there = begins.there in absurd cc
tag-none (birth ∷ births) address h = by_region birth.region refl h (tag-none births address)
  where
    by_life : (bit : Bool) → is_living birth.life ≡ bit → (if bit then tag_among birth.objects address (block_tag_at births address) else block_tag_at births address) ≡ None → (block_tag_at births address ≡ None → NoneBegins births address) → NoneBegins (birth ∷ births) address
    by_life false dead e later = first-none birth births address (λ heap alive. absurd (let wrong : true ≡ false = sym alive ∙ dead in cc)) (later e)
    by_life true alive e later =
        let none = among-none birth.objects address (block_tag_at births address) e in
        first-none birth births address (λ heap living. none.0) (later none.1)

    by_region : (region : Region) → birth.region ≡ region → tag_in_birth region birth.life birth.objects address (block_tag_at births address) ≡ None → (block_tag_at births address ≡ None → NoneBegins births address) → NoneBegins (birth ∷ births) address
    by_region Globals is e later = first-none birth births address (λ heap alive. absurd (let wrong : Globals ≡ Heap = sym is ∙ heap in cc)) (later e)
    by_region (Stack func) is e later = first-none birth births address (λ heap alive. absurd (let wrong : Stack func ≡ Heap = sym is ∙ heap in cc)) (later e)
    by_region Heap is e later = by_life (is_living birth.life) refl e later

-- ---- the block that the machine has at an address

pub find-some : (blocks : List Block) (address : ℕ) (block : Block) → find (λ block. block.at == address) blocks ≡ Some block → (i : ℕ) × ((slice_get blocks i ≡ Some block) × (block.at ≡ address))
find-some [] address block h = absurd cc
find-some (first ∷ blocks) address block h = by_test (first.at == address) refl h (find-some blocks address block)
  where
    by_test : (bit : Bool) → (first.at == address) ≡ bit → cond bit (Some first) (find (λ block. block.at == address) blocks) ≡ Some block
        → (find (λ block. block.at == address) blocks ≡ Some block → (i : ℕ) × ((slice_get blocks i ≡ Some block) × (block.at ≡ address)))
        → (i : ℕ) × ((slice_get (first ∷ blocks) i ≡ Some block) × (block.at ≡ address))
    by_test true here e later =
        let is : first ≡ block = cc in
        (0, (ap (λ b. Some b) is, ap (λ (b : Block). b.at) (sym is) ∙ eqb-true first.at address here))
    by_test false other e later = let found = later e in (suc found.0, found.1)

pub find-none : (blocks : List Block) (address : ℕ) → find (λ block. block.at == address) blocks ≡ None → (i : ℕ) (block : Block) → slice_get blocks i ≡ Some block → block.at ≢ address
find-none [] address h i block there same = absurd cc
find-none (first ∷ blocks) address h i block there same = by_test (first.at == address) refl h i there (find-none blocks address)
  where
    by_test : (bit : Bool) → (first.at == address) ≡ bit → cond bit (Some first) (find (λ block. block.at == address) blocks) ≡ None → (j : ℕ) → slice_get (first ∷ blocks) j ≡ Some block
        → (find (λ block. block.at == address) blocks ≡ None → (k : ℕ) (b : Block) → slice_get blocks k ≡ Some b → b.at ≢ address) → ⊥
    by_test true here e j at later = absurd cc
    by_test false other e zero at later =
        let is : first ≡ block = cc in
        let wrong : true ≡ false = sym (eq-eqb first.at address (ap (λ (b : Block). b.at) is ∙ same)) ∙ other in
        absurd cc
    by_test false other e (suc j) at later = later e j block at same

-- living blocks that begin at one address have one tag
pub one-tag : (e : StorySetting) (w : Story) (laid : IsLaidOut e w) (address n k j l : ℕ) (birth other : StoryBirth) (x y : Placed) → BeginsAt w.births address n k birth x → BeginsAt w.births address j l other y → x.tag ≡ y.tag
one-tag e w laid address n k j l birth other x y first second =
    let object : IsObject w.births n k birth x = record { there = first.there; object = first.object } in
    let also : IsObject w.births j l other y = record { there = second.there; object = second.object } in
    let same = one-owner e w (x.at / 16) n k j l birth other x y laid object also first.alive second.alive (over n k birth x object (x.at / 16) refl) (over j l other y also (x.at / 16) (ap (λ a. a / 16) (first.at ∙ sym second.at))) in
    let births : Some birth ≡ Some other = sym first.there ∙ ap (slice_get w.births) same.0 ∙ second.there in
    let one : birth ≡ other = cc in
    let placed : Some x ≡ Some y = sym first.object ∙ ap (λ (b : StoryBirth). slice_get b.objects k) one ∙ ap (slice_get other.objects) same.1 ∙ second.object in
    let equal : x ≡ y = cc in
    ap (λ (p : Placed). p.tag) equal
  where
    over : (a b : ℕ) (c : StoryBirth) (z : Placed) → IsObject w.births a b c z → (granule : ℕ) → granule ≡ z.at / 16 → covers z granule ≡ true
    over a b c z is granule here =
        let aligned = laid.aligned a b c z is in
        let some = (rounded-some z.size).0 in
        covers-true z granule (omega (arith, here, aligned)) (omega (arith, here, aligned, some))

module _ (setting : MachineSetting) (t : ToldShared) (m : MachineShared) (related : SharedRelated setting t m) where
  -- the block's object begins where the block does
  pub block-begins : (address i : ℕ) (block : Block) → slice_get m.heap.living i ≡ Some block → block.at ≡ address → (birth : StoryBirth) × (BeginsAt t.story.births address block.birth 0 birth (record { at = block.at; size = block.size; tag = block.tag }))
  block-begins address i block there at =
      let (birth, is) = related.heap.blocks.from i block there in
      (birth, record { there = is.there; heap = is.region; alive = is.alive; object = ap (λ xs. slice_get xs 0) is.objects; at = at })

  -- the only object of a block
  pub only-object : (objects : List Placed) (placed x : Placed) (k : ℕ) → objects ≡ placed ∷ [] → slice_get objects k ≡ Some x → placed ≡ x
  only-object objects placed x k is there = by_place k (ap (λ xs. slice_get xs k) (sym is) ∙ there)
    where
      by_place : (j : ℕ) → slice_get (placed ∷ []) j ≡ Some x → placed ≡ x
      by_place zero e = cc
      by_place (suc j) e = absurd cc

  -- an object of a living block of the story is in the machine's table
  pub begins-block : (address n k : ℕ) (birth : StoryBirth) (x : Placed) → BeginsAt t.story.births address n k birth x → (i : ℕ) × ((block : Block) × ((slice_get m.heap.living i ≡ Some block) × (block.at ≡ address)))
  begins-block address n k birth x begins =
      let (i, block, there, number) = related.heap.blocks.to n birth begins.there begins.heap begins.alive in
      let (told, is) = related.heap.blocks.from i block there in
      let same : Some told ≡ Some birth = sym is.there ∙ ap (slice_get t.story.births) number ∙ begins.there in
      let one : told ≡ birth = cc in
      let object = only-object birth.objects (record { at = block.at; size = block.size; tag = block.tag }) x k (ap (λ (b : StoryBirth). b.objects) (sym one) ∙ is.objects) begins.object in
      (i, (block, (there, ap (λ (p : Placed). p.at) object ∙ begins.at)))

  -- the block that begins at an address has the tag that the story says
  tags-same : (address : ℕ) (block : Option Block) (tag : Option ℕ) → block_at m.heap address ≡ block → block_tag_at t.story.births address ≡ tag → option_map (λ (b : Block). b.tag) block ≡ tag
  tags-same address None None here told = refl
  tags-same address None (Some tag) here told =
      let has = tag-some t.story.births address tag told in
      let found = begins-block address has.n has.k has.birth has.x has.begins in
      absurd (find-none m.heap.living address here found.0 found.1.0 found.1.1.0 found.1.1.1)
  tags-same address (Some block) None here told =
      let found = find-some m.heap.living address block here in
      let begins = block-begins address found.0 block found.1.0 found.1.1 in
      absurd (tag-none t.story.births address told block.birth 0 begins.0 _ begins.1)
  tags-same address (Some block) (Some tag) here told =
      let found = find-some m.heap.living address block here in
      let begins = block-begins address found.0 block found.1.0 found.1.1 in
      let has = tag-some t.story.births address tag told in
      ap (λ n. Some n) (one-tag (story_setting setting) t.story related.laid address block.birth 0 has.n has.k begins.0 has.birth _ has.x begins.1 has.begins ∙ has.tagged)

  -- ---- frees

  finds-by : (pointer : ℕ) (block : Option Block) (tag : Option ℕ) → option_map (λ (b : Block). b.tag) block ≡ tag → FindsJudged (free_judged_by pointer tag) (option_map OfBlock (mismatch_with pointer block))
  finds-by pointer None None same = (OfBlock (record { pointer = pointer; block = None }), (refl, refl))
  finds-by pointer None (Some tag) same = absurd cc
  finds-by pointer (Some block) None same = absurd cc
  finds-by pointer (Some block) (Some tag) same =
      let is : block.tag ≡ tag = cc in
      subst (λ n. FindsJudged (free_judged_by pointer (Some n)) (option_map OfBlock (mismatch_with pointer (Some block)))) is (by_test (block.tag == pointer))
    where
      by_test : (bit : Bool) → FindsJudged (if bit then Passes (BlockTag block.tag) else Refused (BlockOf (Some block.tag))) (option_map OfBlock (if bit then None else Some (record { pointer = pointer; block = Some block.tag })))
      by_test true = refl
      by_test false = (OfBlock (record { pointer = pointer; block = Some block.tag }), (refl, refl))

  pub frees-judged : (number : ℕ) → FindsJudged (free_judged t.story number) (option_map OfBlock (free_mismatch m.heap number))
  frees-judged number = by_null (number == 0)
    where
      by_null : (null : Bool) → FindsJudged (if null then Passes NullNumber else free_judged_by (pointer_tag number) (block_tag_at t.story.births (address_of number))) (option_map OfBlock (if null then None else mismatch_with (pointer_tag number) (block_at m.heap (address_of number))))
      by_null true = refl
      by_null false =
          finds-by (pointer_tag number) (block_at m.heap (address_of number)) (block_tag_at t.story.births (address_of number))
          (tags-same (address_of number) (block_at m.heap (address_of number)) (block_tag_at t.story.births (address_of number)) refl refl)
