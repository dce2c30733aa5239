-- The free rule passes each free that the access rule finds fine: of null, and of a living block at its start.
use Rattle.std.proofs.Common.{◌≡◌, ◌≢◌, ℕ, ◌+◌, ◌==◌, Bool, true, false, if◌then◌else◌, List, slice_get, Option, Some, None, refl, sym, ◌∙◌, ap, subst, inl, inr, arith}
use Rattle.std.proofs.lemmas.Bool.{eqb-true, eq-eqb}
use Rattle.std.proofs.lemmas.Bool.Decides.{eqb_tells}
use Rattle.std.proofs.lemmas.Option.{slice_get_within}
use Rattle.hw_base.specs.TaggedAddress.{address_of, pointer_tag, tagged_address}
use Rattle.hw_base.specs.declared.accesses.Access.TheVariants.{Free}
use Rattle.hw_base.specs.declared.accesses.Kind.TheVariants.{BadFree}
use Rattle.hw_base.specs.declared.pointers.Base.{Base}
use Rattle.hw_base.specs.declared.pointers.Base.TheVariants.{Null, Object}
use Rattle.hw_base.specs.declared.pointers.Obj.{Obj}
use Rattle.ir_machine.proofs.CodeAt.{get-below}
use Rattle.ir_machine.specs.State.{MachineSetting}
use Rattle.ir_meaning.specs.AccessRule.{Fine, Violates, start_free, free_answer, access_rule, accessed_in, access_answer}
use Rattle.ir_meaning.specs.Births.{Region, Globals, Stack, Heap, Birth, SourceObject, is_living, get_object, region_in, region_of}
use Rattle.tag_story.specs.Judging.{block_tag_at, free_judged_by, free_judged}
use Rattle.tag_story.specs.Story.{Story, Placed, StoryBirth, number_in, number_of}
use Rattle.tag_story.specs.StoryFacts.{IsLaidOut}
use Rattle.tag_story.specs.declared.judgement.Coincidence.TheVariants.{BlockTag, NullNumber}
use Rattle.tag_story.specs.declared.judgement.Judgement.TheVariants.{Passes, Refused}
use Rattle.tag_story.specs.declared.judgement.Refusing.TheVariants.{Block as BlockOf}
use Rattle.simulation.proofs.FreesAgree.{BeginsAt, tag-some, tag-none, one-tag}
use Rattle.simulation.proofs.ObjectPlaces.{placed-as, placed-there}
use Rattle.simulation.specs.Checks.{IsPassed}
use Rattle.simulation.specs.Parts.{AreTold}
use Rattle.simulation.specs.Relation.{IsSetting, story_setting}

-- a fine free of an object is that of a living block at its start
fine-start : (region : Region) (living : Bool) → start_free region living ≡ Fine → (region ≡ Heap) × (living ≡ true)
fine-start Globals living h = absurd cc
fine-start (Stack func) living h = absurd cc
fine-start Heap true h = (refl, refl)
fine-start Heap false h = absurd cc

pub fine-zero : (region : Region) (living zero_off : Bool) → (if zero_off then start_free region living else Violates BadFree) ≡ Fine → (zero_off ≡ true) × ((region ≡ Heap) × (living ≡ true))
fine-zero region living true h = (refl, fine-start region living h)
fine-zero region living false h = absurd cc

null-passed : (w : Story) (number : ℕ) → number ≡ 0 → IsPassed (free_judged w number)
null-passed w number is =
    (NullNumber, ap (λ bit. if bit then Passes NullNumber else free_judged_by (pointer_tag number) (block_tag_at w.births (address_of number))) (eq-eqb number 0 is))

fine-null : (w : Story) (off : ℕ) (zero_off : Bool) → (off == 0) ≡ zero_off → (if zero_off then Fine else Violates BadFree) ≡ Fine → IsPassed (free_judged w off)
fine-null w off true test h = null-passed w off (eqb-true off 0 test)
fine-null w off false test h = absurd cc

module _ (setting : MachineSetting) (objects : List Birth) (w : Story) (is : IsSetting setting) (laid : IsLaidOut (story_setting setting) w) (told : AreTold objects w.births) where
  pub region-told : (o : Obj) (birth : StoryBirth) → slice_get w.births o.birth ≡ Some birth → region_of objects o ≡ birth.region
  region-told o birth there =
      let count = told.count in
      let within = slice_get_within w.births o.birth birth there in
      let (own, found) = get-below objects o.birth (omega (arith, count, within)) in
      ap region_in found ∙ sym (told.each o.birth own birth found there).region

  -- the number of a block's start passes
  tag-passed : (number tag : ℕ) → number ≢ 0 → pointer_tag number ≡ tag → block_tag_at w.births (address_of number) ≡ Some tag → IsPassed (free_judged w number)
  tag-passed number tag some pointer block =
      elim (eqb_tells number 0) [
        | inl holds ↦ absurd (some holds.1)
        | inr fails ↦ (
          BlockTag tag,
          ap (λ bit. if bit then Passes NullNumber else free_judged_by (pointer_tag number) (block_tag_at w.births (address_of number))) fails.0
              ∙ ap (free_judged_by (pointer_tag number)) block
              ∙ ap (λ bit. if bit then Passes (BlockTag tag) else Refused (BlockOf (Some tag))) (eq-eqb tag (pointer_tag number) (sym pointer)),
        )
      ]

  start-tag : (address n k : ℕ) (birth : StoryBirth) (x : Placed) → BeginsAt w.births address n k birth x → (tag : Option ℕ) → block_tag_at w.births address ≡ tag → block_tag_at w.births address ≡ Some x.tag
  start-tag address n k birth x begins None here = absurd (tag-none w.births address here n k birth x begins)
  start-tag address n k birth x begins (Some tag) here =
      let has = tag-some w.births address tag here in
      here ∙ ap (λ t. Some t) (sym (one-tag (story_setting setting) w laid address n k has.n has.k birth has.birth x has.x begins has.begins ∙ has.tagged))

  block-passed : (o : Obj) (x : SourceObject) → get_object objects o ≡ Some x → region_of objects o ≡ Heap → is_living x.life ≡ true → IsPassed (free_judged w (number_of w.births (Object o) 0))
  block-passed o x found heap alive =
      let place = placed-as setting objects w o x is laid told found in
      let tag = place.tag in
      let some = place.some_tag in
      let high = place.below in
      let number = ap (λ p. number_in p 0) (placed-there w o x place) in
      let address : address_of (tagged_address place.placed.tag (place.placed.at + 0)) ≡ place.placed.at = omega (arith, tag, high) in
      let pointer : pointer_tag (tagged_address place.placed.tag (place.placed.at + 0)) ≡ place.placed.tag = omega (arith, tag, high) in
      let begins : BeginsAt w.births place.placed.at o.birth o.index place.birth place.placed = record {
        there = place.object.there;
        heap = sym (region-told o place.birth place.object.there) ∙ heap;
        alive = ap is_living (sym place.life) ∙ alive;
        object = place.object.object;
        at = refl;
      } in
      subst (λ n. IsPassed (free_judged w n)) (sym number)
      (tag-passed (tagged_address place.placed.tag (place.placed.at + 0)) place.placed.tag (λ null. omega (arith, null, some, tag, high)) pointer
      (ap (block_tag_at w.births) address ∙ start-tag place.placed.at o.birth o.index place.birth place.placed begins (block_tag_at w.births place.placed.at) refl))

  object-passed : (o : Obj) (off : ℕ) (found : Option SourceObject) → get_object objects o ≡ found → free_answer (accessed_in (region_of objects o) found) off ≡ Fine → IsPassed (free_judged w (number_of w.births (Object o) off))
  object-passed o off None there h = absurd cc
  object-passed o off (Some x) there h =
      let fine = fine-zero (region_of objects o) (is_living x.life) (off == 0) h in
      subst (λ n. IsPassed (free_judged w (number_of w.births (Object o) n))) (sym (eqb-true off 0 fine.0))
      (block-passed o x there fine.1.0 fine.1.1)

  pub fine-passed : (base : Base) (off count align : ℕ) → access_answer objects Free base off count align ≡ Fine → IsPassed (free_judged w (number_of w.births base off))
  unfolding access_rule
  fine-passed Null off count align h = fine-null w off (off == 0) refl h
  fine-passed (Object o) off count align h = object-passed o off (get_object objects o) refl h
