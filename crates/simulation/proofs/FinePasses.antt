-- The tag rule passes each access that the access rule finds fine: an access within a living object touches only granules that
-- the object owns.
use Rattle.std.proofs.Common.{◌≡◌, ◌≢◌, ℕ, zero, suc, ◌+◌, ◌-◌, ◌*◌, ◌%◌, ◌^◌, ◌<◌, ◌≤◌, ◌==◌, ◌&&◌, ◌||◌, Bool, true, false, leb, nat_le, if◌then◌else◌, List, [], ◌∷◌, slice_get, Option, Some, None, ◌⊎◌, refl, sym, ◌∙◌, ap, subst, inl, inr, arith}
use Rattle.std.proofs.lemmas.Bool.{leb-true, le-leb, eq-eqb}
use Rattle.std.proofs.lemmas.Bool.Decides.{leb_tells}
use Rattle.hw_base.specs.AddressMap.{rounded_size, granule_of}
use Rattle.hw_base.specs.TaggedAddress.{address_of, pointer_tag, tagged_address}
use Rattle.hw_base.specs.declared.pointers.Obj.{Obj}
use Rattle.hw_shadow.specs.ObjectTags.{tag_in}
use Rattle.hw_shadow.specs.TagRule.{is_short_size, tags_agree, end_in_granule, granule_agrees, PassesTagRule}
use Rattle.hw_base.specs.declared.pointers.Base.TheVariants.{Null, Object}
use Rattle.hw_shadow.proofs.TagRuleLemmas.{passes-refusing_of}
use Rattle.ir_machine.specs.State.{MachineSetting}
use Rattle.hw_base.specs.declared.accesses.Access.{Access}
use Rattle.hw_base.specs.declared.accesses.Access.TheVariants.{Read, Write, Free}
use Rattle.hw_base.specs.declared.accesses.Kind.{Kind}
use Rattle.hw_base.specs.declared.accesses.Kind.TheVariants.{NoObject}
use Rattle.hw_base.specs.declared.accesses.Reason.TheVariants.{Misaligned}
use Rattle.hw_base.specs.declared.pointers.Base.{Base}
use Rattle.ir_meaning.specs.AccessRule.{Violates, IsOutside, NoAnswer, AccessBase, OnNull, OnNothing, overflow_kind, dead_answer, inside_answer, living_answer, base_answer, bytes_answer, access_rule, accessed_in, accessed, access_answer}
use Rattle.ir_meaning.specs.Births.{Region, Globals, Stack, Heap, Birth, SourceObject, is_living, get_object, bytes_in, region_of}
use Rattle.tag_story.specs.Judging.{refusing}
use Rattle.tag_story.proofs.Owners.{covers-true, one-owner}
use Rattle.tag_story.specs.Story.{StorySetting, Story, Placed, StoryBirth, number_in, number_of}
use Rattle.tag_story.specs.StoryFacts.{IsLaidOut, IsObject}
use Rattle.tag_story.specs.StoryTags.{Owner, covers, owner_in, owner_from, owner_of, owned_tag, tag_by, memory_tag, image_at, last_by, last_byte}
use Rattle.simulation.proofs.ChecksAgree.{short-tag}
use Rattle.simulation.proofs.Sizes.{size-rounded}
use Rattle.simulation.proofs.ObjectPlaces.{IsPlacedAs, placed-as, placed-there}
use Rattle.simulation.specs.Relation.{IsSetting, story_setting}
use Rattle.simulation.specs.Checks.{lies_inside}
use Rattle.simulation.specs.Parts.{AreTold}
use Rattle.simulation.proofs.OwnedGranules.{IsOwner, owner-is}

-- ---- the owner of a granule that a living object covers

-- an object that covers a granule is found among the objects of a birth, unless an earlier one is
in-there : (n k at : ℕ) (objects : List Placed) (granule : ℕ) (otherwise : Option Owner) (x : Placed) → slice_get objects at ≡ Some x → covers x granule ≡ true → (owner : Owner) × (owner_in n k objects granule otherwise ≡ Some owner)
unfolding owner_in
in-there n k at [] granule otherwise x there over = absurd cc
in-there n k at (y ∷ ys) granule otherwise x there over = by_test (covers y granule) refl at there (λ i e. in-there n (k + 1) i ys granule otherwise x e over)
  where
    by_test : (bit : Bool) → covers y granule ≡ bit → (i : ℕ) → slice_get (y ∷ ys) i ≡ Some x
        → ((j : ℕ) → slice_get ys j ≡ Some x → (owner : Owner) × (owner_in n (k + 1) ys granule otherwise ≡ Some owner))
        → (owner : Owner) × ((if bit then Some (record { o = record { birth = n; index = k }; placed = y }) else owner_in n (k + 1) ys granule otherwise) ≡ Some owner)
    by_test true first i e later = (record { o = record { birth = n; index = k }; placed = y }, refl)
    by_test false first zero e later =
        let same : y ≡ x = cc in
        let wrong : true ≡ false = sym over ∙ ap (λ (z : Placed). covers z granule) (sym same) ∙ first in
        absurd cc
    by_test false first (suc i) e later = later i e

in-otherwise : (n k : ℕ) (objects : List Placed) (granule : ℕ) (otherwise : Option Owner) → ((owner : Owner) × (otherwise ≡ Some owner)) → (owner : Owner) × (owner_in n k objects granule otherwise ≡ Some owner)
unfolding owner_in
in-otherwise n k [] granule otherwise h = h
in-otherwise n k (y ∷ ys) granule otherwise h = by_test (covers y granule) (in-otherwise n (k + 1) ys granule otherwise h)
  where
    by_test : (bit : Bool) → ((owner : Owner) × (owner_in n (k + 1) ys granule otherwise ≡ Some owner)) → (owner : Owner) × ((if bit then Some (record { o = record { birth = n; index = k }; placed = y }) else owner_in n (k + 1) ys granule otherwise) ≡ Some owner)
    by_test true later = (record { o = record { birth = n; index = k }; placed = y }, refl)
    by_test false later = later

from-there : (n at k : ℕ) (births : List StoryBirth) (granule : ℕ) (birth : StoryBirth) (x : Placed) → slice_get births at ≡ Some birth → is_living birth.life ≡ true → slice_get birth.objects k ≡ Some x → covers x granule ≡ true → (owner : Owner) × (owner_from n births granule ≡ Some owner)
unfolding owner_from
from-there n at k [] granule birth x there alive object over = absurd cc
from-there n zero k (first ∷ births) granule birth x there alive object over =
    let same : first ≡ birth = cc in
    let living : is_living first.life ≡ true = ap (λ (b : StoryBirth). is_living b.life) same ∙ alive in
    subst (λ bit. (owner : Owner) × ((if bit then owner_in n 0 first.objects granule (owner_from (n + 1) births granule) else owner_from (n + 1) births granule) ≡ Some owner)) (sym living)
    (in-there n 0 k first.objects granule (owner_from (n + 1) births granule) x (ap (λ (b : StoryBirth). slice_get b.objects k) same ∙ object) over)
from-there n (suc at) k (first ∷ births) granule birth x there alive object over = by_life (is_living first.life) (from-there (n + 1) at k births granule birth x there alive object over)
  where
    by_life : (bit : Bool) → ((owner : Owner) × (owner_from (n + 1) births granule ≡ Some owner)) → (owner : Owner) × ((if bit then owner_in n 0 first.objects granule (owner_from (n + 1) births granule) else owner_from (n + 1) births granule) ≡ Some owner)
    by_life true later = in-otherwise n 0 first.objects granule (owner_from (n + 1) births granule) later
    by_life false later = later

-- the owner of a granule that a living object covers is that object
pub owned : (e : StorySetting) (w : Story) (granule n k : ℕ) (birth : StoryBirth) (x : Placed) → IsLaidOut e w → IsObject w.births n k birth x → is_living birth.life ≡ true → covers x granule ≡ true → (owner : Owner) × ((owner_of w.births granule ≡ Some owner) × (owner.placed ≡ x))
owned e w granule n k birth x laid object alive over =
    let found = from-there 0 n k w.births granule birth x object.there alive object.object over in
    (found.0, (found.1, by_owner found.0 (owner-is w.births granule found.0 found.1)))
  where
    by_owner : (owner : Owner) → IsOwner w.births granule owner → owner.placed ≡ x
    by_owner owner is =
        let same = one-owner e w granule owner.o.birth owner.o.index n k is.birth birth owner.placed x laid is.object object is.alive alive is.over over in
        let births : Some is.birth ≡ Some birth = sym is.object.there ∙ ap (slice_get w.births) same.0 ∙ object.there in
        let one : is.birth ≡ birth = cc in
        let objects : Some owner.placed ≡ Some x = sym is.object.object ∙ ap (λ (b : StoryBirth). slice_get b.objects owner.o.index) one ∙ ap (slice_get birth.objects) same.1 ∙ object.object in
        cc

-- ---- one granule

-- the end of a short granule
short-bytes : (at size granule : ℕ) → at % 16 ≡ 0 → at ≤ 16 * granule → 16 * granule < at + size → (16 * granule + 16 ≤ at + size → ⊥) → 16 * granule + size % 16 ≡ at + size
short-bytes at size granule aligned low high partial =
    elim (leb_tells (16 * granule + 16) (at + size)) [
      | inl holds ↦ absurd (partial holds.1)
      | inr fails ↦ let below = fails.1 in omega (arith, aligned, low, high, below)
    ]

-- the tags agree in a short granule, up to its end
short-agrees : (tag memory end last : ℕ) → 1 ≤ memory → memory ≤ 15 → end ≤ memory → tag ≡ last → tags_agree tag memory end last ≡ true
short-agrees tag memory end last some few inside same = by_tag (tag == memory)
  where
    passes : (is_short_size memory && nat_le end memory && (tag == last)) ≡ true
    passes =
        ap (λ bit. (bit && nat_le memory 15) && nat_le end memory && (tag == last)) (le-leb 1 memory some)
        ∙ ap (λ bit. bit && nat_le end memory && (tag == last)) (le-leb memory 15 few)
        ∙ ap (λ bit. bit && (tag == last)) (le-leb end memory inside)
        ∙ eq-eqb tag last same

    by_tag : (bit : Bool) → (bit || (is_short_size memory && nat_le end memory && (tag == last))) ≡ true
    by_tag true = refl
    by_tag false = passes

full-tag : (size tag k : ℕ) → 16 * k + 16 ≤ size → tag_in size tag k ≡ tag
full-tag size tag k whole = ap (λ bit. if bit then tag else size % 16) (le-leb (16 * k + 16) size whole)

module _ (setting : MachineSetting) (objects : List Birth) (w : Story) (laid : IsLaidOut (story_setting setting) w) (o : Obj) (x : SourceObject) (place : IsPlacedAs w o x) (alive : is_living place.birth.life ≡ true) where
  -- the number of a pointer into the object has its address and tag
  number-there : (off : ℕ) → number_of w.births (Object o) off ≡ tagged_address place.placed.tag (place.placed.at + off)
  number-there off = ap (λ p. number_in p off) (placed-there w o x place)

  address-is : (off : ℕ) → place.placed.at + off < 2 ^ 56 → address_of (tagged_address place.placed.tag (place.placed.at + off)) ≡ place.placed.at + off
  address-is off below = let tag = place.tag in omega (arith, tag, below)

  tag-is : (off : ℕ) → place.placed.at + off < 2 ^ 56 → pointer_tag (tagged_address place.placed.tag (place.placed.at + off)) ≡ place.placed.tag
  tag-is off below = let tag = place.tag in omega (arith, tag, below)

  -- a granule with a byte of the object
  granule-agrees : (off count g : ℕ) → off + count ≤ place.placed.size → place.placed.at ≤ 16 * g → 16 * g < place.placed.at + off + count → granule_agrees place.placed.tag (end_in_granule (place.placed.at + off) count g) (memory_tag (story_setting setting) w g) (last_byte w objects g) ≡ true
  granule-agrees off count g inside low high =
      let rounded = size-rounded place.placed.size in
      let over = covers-true place.placed g low (omega (arith, high, inside, rounded)) in
      let (owner, (found, is)) = owned (story_setting setting) w g o.birth o.index place.birth place.placed laid place.object alive over in
      ap (λ tag. granule_agrees place.placed.tag (end_in_granule (place.placed.at + off) count g) tag (last_byte w objects g)) (ap (tag_by (story_setting setting) w.freed g) found ∙ ap (λ (p : Placed). Some (owned_tag p g)) is)
      ∙ by_end owner (ap (last_by w.births objects g) found) is (leb_tells (16 * g + 16) (place.placed.at + place.placed.size))
    where
      aligned : place.placed.at % 16 ≡ 0
      aligned = laid.aligned o.birth o.index place.birth place.placed place.object

      by_end : (owner : Owner) → last_byte w objects g ≡ last_by w.births objects g (Some owner) → owner.placed ≡ place.placed
          → ((leb (16 * g + 16) (place.placed.at + place.placed.size) ≡ true) × (16 * g + 16 ≤ place.placed.at + place.placed.size)) ⊎ ((leb (16 * g + 16) (place.placed.at + place.placed.size) ≡ false) × (place.placed.at + place.placed.size < 16 * g + 16))
          → tags_agree place.placed.tag (owned_tag place.placed g) (end_in_granule (place.placed.at + off) count g) (last_byte w objects g) ≡ true
      by_end owner last is (inl whole) =
          let full = whole.1 in
          let tag = full-tag place.placed.size place.placed.tag (g - granule_of place.placed.at) (omega (arith, full, aligned, low)) in
          ap (λ bit. bit || (is_short_size (owned_tag place.placed g) && nat_le (end_in_granule (place.placed.at + off) count g) (owned_tag place.placed g) && (place.placed.tag == last_byte w objects g)))
          (eq-eqb place.placed.tag (owned_tag place.placed g) (sym tag))
      by_end owner last is (inr part) =
          let below = part.1 in
          let tag : owned_tag place.placed g ≡ place.placed.size % 16 = short-tag place.placed.size place.placed.tag (g - granule_of place.placed.at) (owned_tag place.placed g) (λ h. omega (arith, h, below, aligned, low)) refl in
          let end = short-bytes place.placed.at place.placed.size g aligned low (omega (arith, high, inside)) (λ h. omega (arith, h, below)) in
          short-agrees place.placed.tag (owned_tag place.placed g) (end_in_granule (place.placed.at + off) count g) (last_byte w objects g)
          (omega (arith, tag, end, high, inside)) (omega (arith, tag)) (omega (arith, tag, end, high, inside))
          (sym (last
          ∙ ap (λ (p : Placed). if nat_le (16 * g + 16) (p.at + p.size) then image_at w.births (slice_get (bytes_in (get_object objects owner.o)) (16 * g + 15 - p.at)) else p.tag) is
          ∙ ap (λ bit. if bit then image_at w.births (slice_get (bytes_in (get_object objects owner.o)) (16 * g + 15 - place.placed.at)) else place.placed.tag) part.0))

  pub inside-passes : (off count : ℕ) → off + count ≤ place.placed.size → refusing (story_setting setting) w objects (number_of w.births (Object o) off) count ≡ None
  inside-passes off count inside =
      ap (λ number. refusing (story_setting setting) w objects number count) (number-there off)
      ∙ passes-refusing_of (memory_tag (story_setting setting) w) (last_byte w objects) (tagged_address place.placed.tag (place.placed.at + off)) count passes
    where
      rounded : place.placed.size ≤ rounded_size place.placed.size
      rounded = size-rounded place.placed.size

      below : place.placed.at + off < 2 ^ 56
      below = let size = rounded in let high = place.below in omega (arith, size, high, inside)

      aligned : place.placed.at % 16 ≡ 0
      aligned = laid.aligned o.birth o.index place.birth place.placed place.object

      passes : PassesTagRule (memory_tag (story_setting setting) w) (last_byte w objects) (tagged_address place.placed.tag (place.placed.at + off)) count
      passes address from to =
          let is = address-is off below in
          ap (λ tag. granule_agrees tag (end_in_granule (address_of (tagged_address place.placed.tag (place.placed.at + off))) count (granule_of address)) (memory_tag (story_setting setting) w (granule_of address)) (last_byte w objects (granule_of address))) (tag-is off below)
          ∙ ap (λ n. granule_agrees place.placed.tag (end_in_granule n count (granule_of address)) (memory_tag (story_setting setting) w (granule_of address)) (last_byte w objects (granule_of address))) is
          ∙ granule-agrees off count (granule_of address) inside (omega (arith, is, from, aligned)) (omega (arith, is, to))

-- ---- fine accesses

-- an access to some bytes of an object that is fine or writes to a constant lies within the object, which lives
pub fine-object : (access : Access) (region : Region) (x : SourceObject) (off n align : ℕ) → lies_inside (bytes_answer access (accessed_in region (Some x)) off (suc n) align) ≡ true → (is_living x.life ≡ true) × (off + suc n ≤ x.size)
fine-object access region x off n align h = by_align (off % align == 0) h
  where
    is_dead : (r : Region) → lies_inside (dead_answer r) ≡ true → ⊥
    is_dead Globals e = absurd cc
    is_dead (Stack func) e = absurd cc
    is_dead Heap e = absurd cc

    by_size : (fits : Bool) → nat_le (off + suc n) x.size ≡ fits → lies_inside (if fits then inside_answer access x.constant else Violates (overflow_kind region)) ≡ true → off + suc n ≤ x.size
    by_size true test e = leb-true (off + suc n) x.size test
    by_size false test e = absurd cc

    by_life : (living : Bool) → is_living x.life ≡ living → lies_inside (if living then living_answer access (record { region = region; size = x.size; constant = x.constant; living = is_living x.life }) off (suc n) else dead_answer region) ≡ true → (is_living x.life ≡ true) × (off + suc n ≤ x.size)
    by_life true alive e = (alive, by_size (nat_le (off + suc n) x.size) refl e)
    by_life false dead e = absurd (is_dead region e)

    by_align : (aligned : Bool) → lies_inside (if aligned then base_answer access (accessed_in region (Some x)) off (suc n) else IsOutside Misaligned) ≡ true → (is_living x.life ≡ true) × (off + suc n ≤ x.size)
    by_align true e = by_life (is_living x.life) refl e
    by_align false e = absurd cc

-- an access through a pointer to nothing is never fine
pub fine-nothing : (access : Access) (base : AccessBase) (off n align : ℕ) → base_answer access base off (suc n) ≡ NoAnswer ⊎ ((kind : Kind) × (base_answer access base off (suc n) ≡ Violates kind)) → lies_inside (bytes_answer access base off (suc n) align) ≡ true → ⊥
fine-nothing access base off n align none h = by_align (off % align == 0) h none
  where
    by_align : (aligned : Bool) → lies_inside (if aligned then base_answer access base off (suc n) else IsOutside Misaligned) ≡ true → base_answer access base off (suc n) ≡ NoAnswer ⊎ ((kind : Kind) × (base_answer access base off (suc n) ≡ Violates kind)) → ⊥
    by_align true e (inl nothing) = let wrong : false ≡ true = ap lies_inside (sym nothing) ∙ e in absurd cc
    by_align true e (inr (kind, violates)) = let wrong : false ≡ true = ap lies_inside (sym violates) ∙ e in absurd cc
    by_align false e some = absurd cc

module _ (setting : MachineSetting) (objects : List Birth) (w : Story) (is : IsSetting setting) (laid : IsLaidOut (story_setting setting) w) (told : AreTold objects w.births) where
  no-bytes : (number : ℕ) → refusing (story_setting setting) w objects number 0 ≡ None
  no-bytes number = passes-refusing_of (memory_tag (story_setting setting) w) (last_byte w objects) number 0 (λ address from to. absurd (omega (arith, from, to)))

  object-passes : (access : Access) (region : Region) (o : Obj) (found : Option SourceObject) (off n align : ℕ) → get_object objects o ≡ found → lies_inside (bytes_answer access (accessed_in region found) off (suc n) align) ≡ true → refusing (story_setting setting) w objects (number_of w.births (Object o) off) (suc n) ≡ None
  object-passes access region o None off n align there h = absurd (fine-nothing access OnNothing off n align (inl refl) h)
  object-passes access region o (Some x) off n align there h =
      let fine = fine-object access region x off n align h in
      let place = placed-as setting objects w o x is laid told there in
      inside-passes setting objects w laid o x place (ap is_living (sym place.life) ∙ fine.0) off (suc n)
      (subst (λ size. off + suc n ≤ size) (sym place.size) fine.1)

  bytes-pass : (access : Access) (base : Base) (off count align : ℕ) → lies_inside (bytes_answer access (accessed objects base) off count align) ≡ true → refusing (story_setting setting) w objects (number_of w.births base off) count ≡ None
  bytes-pass access base off zero align h = no-bytes (number_of w.births base off)
  bytes-pass access Null off (suc n) align h = absurd (fine-nothing access OnNull off n align (inr (NoObject, refl)) h)
  bytes-pass access (Object o) off (suc n) align h = object-passes access (region_of objects o) o (get_object objects o) off n align refl h

  -- a read or write within a living object passes the tag rule
  pub fine-passes : (access : Access) (base : Base) (off count align : ℕ) → access ≢ Free → lies_inside (access_answer objects access base off count align) ≡ true → refusing (story_setting setting) w objects (number_of w.births base off) count ≡ None
  unfolding access_rule
  fine-passes Read base off count align other h = bytes-pass Read base off count align h
  fine-passes Write base off count align other h = bytes-pass Write base off count align h
  fine-passes Free base off count align other h = absurd (other refl)
