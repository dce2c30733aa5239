-- The checks of the machine find what the story says refuses an access.
use Rattle.std.proofs.Common.{◌≡◌, ℕ, zero, suc, ◌+◌, ◌-◌, ◌*◌, ◌%◌, ◌<◌, ◌≤◌, Bool, true, false, nat_le, if◌then◌else◌, List, [], ◌∷◌, length, slice_get, unwrap_or, Option, Some, None, option_map, refl, sym, ◌∙◌, ap, inl, inr, arith}
use Rattle.std.proofs.lemmas.Bool.{leb-true}
use Rattle.std.proofs.lemmas.Bool.Decides.{leb_tells}
use Rattle.std.proofs.lemmas.Option.{slice_get_within}
use Rattle.hw_base.specs.AddressMap.{rounded_size, granule_of}
use Rattle.hw_base.specs.TaggedAddress.{address_of}
use Rattle.hw_shadow.specs.ObjectTags.{tag_in}
use Rattle.hw_shadow.specs.TagRule.{is_short_size, granules_touched}
use Rattle.hw_shadow.specs.declared.mismatch.Mismatch.{Mismatch}
use Rattle.ir_machine.proofs.CodeAt.{get-below}
use Rattle.ir_machine.specs.State.{MachineSetting, MachineShared}
use Rattle.ir_machine.specs.declared.found.Found.TheVariants.{Memory}
use Rattle.ir_meaning.specs.Births.{SourceObject, is_living, get_object, object_in, bytes_in}
use Rattle.tag_story.proofs.Owners.{covers-in}
use Rattle.tag_story.specs.Judging.{refusing, judged_by, access_judged}
use Rattle.tag_story.specs.Story.{Placed, StoryBirth, FreedBlock, placed_in, get_placed, byte_image}
use Rattle.tag_story.specs.StoryTags.{Owner, owner_of, freed_tag, is_mapped, ground_tag, owned_tag, tag_by, memory_tag, is_full, image_at, last_by}
use Rattle.tag_story.specs.StoryTags as story
use Rattle.tag_story.specs.ToldRun.{ToldShared}
use Rattle.tbi_memory.specs.AddressSpace.{check}
use Rattle.tbi_memory.specs.AddressSpace as memory
use Rattle.tbi_memory.specs.MappedBytes.{byte_at}
use Rattle.simulation.proofs.Sizes.{both, if-some}
use Rattle.simulation.proofs.ObjectPlaces.{same-item}
use Rattle.simulation.proofs.OwnedGranules.{IsOwner, owner-is}
use Rattle.simulation.proofs.SameMismatches.{shown, first-same}
use Rattle.simulation.specs.Checks.{FindsJudged}
use Rattle.simulation.specs.Relation.{SharedRelated, story_setting}

-- ---- tags that can't be short ones

freed-large : (freed : List FreedBlock) (granule : ℕ) → ((i : ℕ) (x : FreedBlock) → slice_get freed i ≡ Some x → 16 ≤ x.free_tag) → 1 ≤ freed_tag freed granule → 16 ≤ freed_tag freed granule
unfolding freed_tag
freed-large [] granule large some = absurd (omega arith)
freed-large (x ∷ xs) granule large some = by_test (story.covers x.block granule) some (freed-large xs granule (λ i y h. large (suc i) y h))
  where
    by_test : (bit : Bool) → 1 ≤ (if bit then x.free_tag else freed_tag xs granule) → (1 ≤ freed_tag xs granule → 16 ≤ freed_tag xs granule) → 16 ≤ (if bit then x.free_tag else freed_tag xs granule)
    by_test true h later = large 0 x refl
    by_test false h later = later h

short-between : (memory : ℕ) → is_short_size memory ≡ true → (1 ≤ memory) × (memory ≤ 15)
short-between memory h = let tests = both (nat_le 1 memory) (nat_le memory 15) h in (leb-true 1 memory tests.0, leb-true memory 15 tests.1)

-- the tag of a granule that isn't wholly inside its object is the number of the object's bytes in it
pub short-tag : (size tag k memory : ℕ) → (16 * k + 16 ≤ size → ⊥) → tag_in size tag k ≡ memory → memory ≡ size % 16
short-tag size tag k memory partial is =
    elim (leb_tells (16 * k + 16) size) [
      | inl holds ↦ absurd (partial holds.1)
      | inr fails ↦ sym is ∙ ap (λ bit. if bit then tag else size % 16) fails.0
    ]

-- the end of the rounded size of an object whose last granule is a short one
short-end : (at size granule : ℕ) → at % 16 ≡ 0 → at ≤ 16 * granule → 16 * granule < at + rounded_size size → (16 * granule + 16 ≤ at + size → ⊥) → 0 < size % 16 → at + rounded_size size - 1 ≡ 16 * granule + 15
short-end at zero granule aligned low high partial some = absurd (omega (arith, some))
short-end at (suc n) granule aligned low high partial some =
    elim (leb_tells (16 * granule + 16) (at + suc n)) [
      | inl holds ↦ absurd (partial holds.1)
      | inr fails ↦ let below = fails.1 in omega (arith, aligned, low, high, below, some)
    ]

module _ (setting : MachineSetting) (t : ToldShared) (m : MachineShared) (related : SharedRelated setting t m) where
  -- the source's object that owns a granule
  record HasObject (owner : Owner) (birth : StoryBirth) : Type 0 where
    x : SourceObject
    found : get_object t.source.births owner.o ≡ Some x
    size : owner.placed.size ≡ x.size
    life : x.life ≡ birth.life

  object-of : (granule : ℕ) (owner : Owner) (is : IsOwner t.story.births granule owner) → HasObject owner is.birth
  object-of granule owner is =
      let count = related.told.count in
      let within = slice_get_within t.story.births owner.o.birth is.birth is.object.there in
      let (birth, there) = get-below t.source.births owner.o.birth (omega (arith, count, within)) in
      let same = related.told.each owner.o.birth birth is.birth there is.object.there in
      let (x, (at, size)) = same-item (λ (y : Placed). y.size) (λ (y : SourceObject). y.size) is.birth.objects birth.objects owner.o.index owner.placed (sym same.sizes) is.object.object in
      record { x = x; found = ap (λ b. object_in b owner.o.index) there ∙ at; size = sym size; life = same.lives owner.o.index x at }

  placed-at : (granule : ℕ) (owner : Owner) (is : IsOwner t.story.births granule owner) → get_placed t.story.births owner.o ≡ Some owner.placed
  placed-at granule owner is = ap (λ b. placed_in b owner.o.index) is.object.there ∙ is.object.object

  -- ---- last bytes

  abbrev machine_last : ℕ → ℕ
  machine_last granule = memory.last_byte m.memory.bytes granule

  is-byte : (granule byte : ℕ) → byte_at m.memory.bytes (16 * granule + 15) ≡ Some byte → machine_last granule ≡ byte
  is-byte granule byte h = ap (λ o. unwrap_or o 0) h

  full-same : (granule : ℕ) (owner : Owner) (is : IsOwner t.story.births granule owner) → HasObject owner is.birth → 16 * granule + 16 ≤ owner.placed.at + owner.placed.size
      → machine_last granule ≡ image_at t.story.births (slice_get (bytes_in (get_object t.source.births owner.o)) (16 * granule + 15 - owner.placed.at))
  full-same granule owner is has full =
      let low = (covers-in owner.placed granule is.over).0 in
      let size = has.size in
      let count : length has.x.bytes ≡ has.x.size = related.their_bytes owner.o has.x has.found ∙ ap (λ bit. if bit then has.x.size else 0) (ap is_living has.life ∙ is.alive) in
      let (byte, there) = get-below has.x.bytes (16 * granule + 15 - owner.placed.at) (omega (arith, low, full, size, count)) in
      let here = related.bytes.byte owner.o has.x owner.placed (16 * granule + 15 - owner.placed.at) byte has.found (placed-at granule owner is) there in
      let same : owner.placed.at + (16 * granule + 15 - owner.placed.at) ≡ 16 * granule + 15 = omega (arith, low) in
      is-byte granule (byte_image t.story.births byte) (ap (byte_at m.memory.bytes) (sym same) ∙ here)
      ∙ sym (ap (λ o. image_at t.story.births (slice_get (bytes_in o) (16 * granule + 15 - owner.placed.at))) has.found ∙ ap (image_at t.story.births) there)

  tag-same : (granule memory : ℕ) (owner : Owner) (is : IsOwner t.story.births granule owner) → HasObject owner is.birth → (16 * granule + 16 ≤ owner.placed.at + owner.placed.size → ⊥) → owned_tag owner.placed granule ≡ memory → 1 ≤ memory
      → machine_last granule ≡ owner.placed.tag
  tag-same granule memory owner is has partial tagged some =
      let inside = covers-in owner.placed granule is.over in
      let low = inside.0 in
      let aligned = related.laid.aligned owner.o.birth owner.o.index is.birth owner.placed is.object in
      let tag = short-tag owner.placed.size owner.placed.tag (granule - granule_of owner.placed.at) memory (λ h. partial (omega (arith, h, aligned, low))) tagged in
      let short : 0 < owner.placed.size % 16 = omega (arith, tag, some) in
      let end = short-end owner.placed.at owner.placed.size granule aligned low inside.1 partial short in
      is-byte granule owner.placed.tag
      (ap (byte_at m.memory.bytes) (sym end)
      ∙ related.bytes.last owner.o has.x owner.placed has.found (placed-at granule owner is) (ap is_living has.life ∙ is.alive) short)

  owned-same : (granule memory : ℕ) (owner : Owner) → IsOwner t.story.births granule owner → owned_tag owner.placed granule ≡ memory → 1 ≤ memory → machine_last granule ≡ last_by t.story.births t.source.births granule (Some owner)
  owned-same granule memory owner is tagged some =
      let has = object-of granule owner is in
      elim (leb_tells (16 * granule + 16) (owner.placed.at + owner.placed.size)) [
        | inl holds ↦
            full-same granule owner is has holds.1
            ∙ sym (ap (λ bit. if bit then image_at t.story.births (slice_get (bytes_in (get_object t.source.births owner.o)) (16 * granule + 15 - owner.placed.at)) else owner.placed.tag) holds.0)
        | inr fails ↦
            let below = fails.1 in
            tag-same granule memory owner is has (λ h. omega (arith, below, h)) tagged some
            ∙ sym (ap (λ bit. if bit then image_at t.story.births (slice_get (bytes_in (get_object t.source.births owner.o)) (16 * granule + 15 - owner.placed.at)) else owner.placed.tag) fails.0)
      ]

  last-same : (granule memory : ℕ) → memory_tag (story_setting setting) t.story granule ≡ Some memory → is_short_size memory ≡ true → machine_last granule ≡ story.last_byte t.story t.source.births granule
  last-same granule memory tagged short = by_owner (owner_of t.story.births granule) refl tagged
    where
      between : (1 ≤ memory) × (memory ≤ 15)
      between = short-between memory short

      by_owner : (owner : Option Owner) → owner_of t.story.births granule ≡ owner → tag_by (story_setting setting) t.story.freed granule owner ≡ Some memory → machine_last granule ≡ last_by t.story.births t.source.births granule (owner_of t.story.births granule)
      by_owner None here h =
          let some = (if-some (is_mapped (story_setting setting) granule) (freed_tag t.story.freed granule) memory h).1 in
          let low = between.0 in
          let high = between.1 in
          let large = freed-large t.story.freed granule (λ i x e. (related.laid.freed_tags i x e).0) (omega (arith, some, low)) in
          absurd (omega (arith, some, high, large))
      by_owner (Some owner) here h =
          owned-same granule memory owner (owner-is t.story.births granule owner here) (let is : owned_tag owner.placed granule ≡ memory = cc in is) between.0
          ∙ sym (ap (last_by t.story.births t.source.births granule) here)

  -- ---- checks

  pub checks-same : (number size : ℕ) → shown (check m.memory number size) ≡ shown (refusing (story_setting setting) t.story t.source.births number size)
  checks-same number size =
      first-same (byte_at m.memory.shadow) (memory_tag (story_setting setting) t.story) (memory.last_byte m.memory.bytes) (story.last_byte t.story t.source.births) related.tags last-same
      number size (granules_touched (address_of number) size) (granule_of (address_of number))

  judged-same : (number size : ℕ) (found refused : Option Mismatch) → shown found ≡ shown refused → FindsJudged (judged_by (story_setting setting) t.story t.source.births number size refused) (option_map Memory found)
  judged-same number size None None same = refl
  judged-same number size (Some found) None same = absurd cc
  judged-same number size None (Some refused) same = absurd cc
  judged-same number size (Some found) (Some refused) same = (Memory found, (refl, let is = same in cc))

  pub checks-judged : (number size : ℕ) → FindsJudged (access_judged (story_setting setting) t.story t.source.births number size) (option_map Memory (check m.memory number size))
  checks-judged number size = judged-same number size (check m.memory number size) (refusing (story_setting setting) t.story t.source.births number size) (checks-same number size)
