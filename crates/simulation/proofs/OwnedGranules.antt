-- The owner of a granule is a living object of the source, and memory's last byte there is the one that the story says, where
-- the tag could be the size of a short granule.
use Rattle.std.proofs.Common.{◌≡◌, ℕ, suc, ◌+◌, Bool, true, false, if◌then◌else◌, List, [], ◌∷◌, slice_get, Option, Some, ◌⊎◌, inl, inr, refl, sym, ◌∙◌, ap, subst, arith}
use Rattle.ir_meaning.specs.Births.{is_living}
use Rattle.tag_story.specs.Story.{Placed, StoryBirth}
use Rattle.tag_story.specs.StoryFacts.{IsObject}
use Rattle.tag_story.specs.StoryTags.{Owner, covers, owner_in, owner_from, owner_of}

-- ---- who owns a granule

-- the owner of a granule: a living object that covers it
pub record IsOwner (births : List StoryBirth) (granule : ℕ) (owner : Owner) : Type 0 where
  pub birth : StoryBirth
  pub object : IsObject births owner.o.birth owner.o.index birth owner.placed
  pub alive : is_living birth.life ≡ true
  pub over : covers owner.placed granule ≡ true

-- it was found among the objects of a birth
record IsFoundIn (n k : ℕ) (objects : List Placed) (granule : ℕ) (owner : Owner) : Type 0 where
  at : ℕ
  there : slice_get objects at ≡ Some owner.placed
  birth : owner.o.birth ≡ n
  index : owner.o.index ≡ k + at
  over : covers owner.placed granule ≡ true

in-some : (n k : ℕ) (objects : List Placed) (granule : ℕ) (otherwise : Option Owner) (owner : Owner) → owner_in n k objects granule otherwise ≡ Some owner → IsFoundIn n k objects granule owner ⊎ (otherwise ≡ Some owner)
unfolding owner_in
in-some n k [] granule otherwise owner h = inr h
in-some n k (x ∷ xs) granule otherwise owner h = by_test (covers x granule) refl h (λ e. in-some n (k + 1) xs granule otherwise owner e)
  where
    by_test : (bit : Bool) → covers x granule ≡ bit → (if bit then Some (record { o = record { birth = n; index = k }; placed = x }) else owner_in n (k + 1) xs granule otherwise) ≡ Some owner
        → (owner_in n (k + 1) xs granule otherwise ≡ Some owner → IsFoundIn n (k + 1) xs granule owner ⊎ (otherwise ≡ Some owner)) → IsFoundIn n k (x ∷ xs) granule owner ⊎ (otherwise ≡ Some owner)
    by_test true over e later =
        let is : record { o = record { birth = n; index = k }; placed = x } ≡ owner = cc in
        inl (subst (λ (o : Owner). IsFoundIn n k (x ∷ xs) granule o) is (record { at = 0; there = refl; birth = refl; index = omega arith; over = over }))
    by_test false over e later =
        elim (later e) [
          | inl found ↦
              let index = found.index in
              inl (record { at = suc found.at; there = found.there; birth = found.birth; index = omega (arith, index); over = found.over })
          | inr rest ↦ inr rest
        ]

-- it was found among births
record IsFoundFrom (n : ℕ) (births : List StoryBirth) (granule : ℕ) (owner : Owner) : Type 0 where
  at : ℕ
  birth : StoryBirth
  there : slice_get births at ≡ Some birth
  alive : is_living birth.life ≡ true
  number : owner.o.birth ≡ n + at
  object : slice_get birth.objects owner.o.index ≡ Some owner.placed
  over : covers owner.placed granule ≡ true

later-found : (n : ℕ) (birth : StoryBirth) (births : List StoryBirth) (granule : ℕ) (owner : Owner) → IsFoundFrom (n + 1) births granule owner → IsFoundFrom n (birth ∷ births) granule owner
later-found n birth births granule owner found =
    let number = found.number in
    record { at = suc found.at; birth = found.birth; there = found.there; alive = found.alive; number = omega (arith, number); object = found.object; over = found.over }

from-some : (n : ℕ) (births : List StoryBirth) (granule : ℕ) (owner : Owner) → owner_from n births granule ≡ Some owner → IsFoundFrom n births granule owner
unfolding owner_from
from-some n [] granule owner h = absurd cc
from-some n (birth ∷ births) granule owner h = by_life (is_living birth.life) refl h (λ e. from-some (n + 1) births granule owner e)
  where
    by_life : (bit : Bool) → is_living birth.life ≡ bit → (if bit then owner_in n 0 birth.objects granule (owner_from (n + 1) births granule) else owner_from (n + 1) births granule) ≡ Some owner
        → (owner_from (n + 1) births granule ≡ Some owner → IsFoundFrom (n + 1) births granule owner) → IsFoundFrom n (birth ∷ births) granule owner
    by_life false dead e later = later-found n birth births granule owner (later e)
    by_life true alive e later =
        elim (in-some n 0 birth.objects granule (owner_from (n + 1) births granule) owner e) [
          | inl found ↦
              let number = found.birth in
              let index = found.index in
              let same : found.at ≡ owner.o.index = omega (arith, index) in
              record { at = 0; birth = birth; there = refl; alive = alive; number = omega (arith, number); object = ap (slice_get birth.objects) (sym same) ∙ found.there; over = found.over }
          | inr rest ↦ later-found n birth births granule owner (later rest)
        ]

pub owner-is : (births : List StoryBirth) (granule : ℕ) (owner : Owner) → owner_of births granule ≡ Some owner → IsOwner births granule owner
owner-is births granule owner h =
    let found = from-some 0 births granule owner h in
    let number = found.number in
    let same : found.at ≡ owner.o.birth = omega (arith, number) in
    record {
      birth = found.birth;
      object = record { there = ap (slice_get births) (sym same) ∙ found.there; object = found.object };
      alive = found.alive;
      over = found.over;
    }
