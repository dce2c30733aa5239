-- A granule belongs to one living object at most.
use Rattle.std.proofs.Common.{◌≡◌, ℕ, ◌+◌, ◌*◌, ◌<◌, ◌≤◌, true, inl, inr, arith}
use Rattle.std.proofs.lemmas.Bool.Decides.{nat_tests}
use Rattle.hw_base.specs.AddressMap.{rounded_size}
use Rattle.ir_meaning.specs.Births.{is_living}
use Rattle.tag_story.specs.Story.{StorySetting, Story, StoryBirth, Placed}
use Rattle.tag_story.specs.StoryTags.{covers}
use Rattle.tag_story.specs.StoryFacts.{IsObject, IsLaidOut, AreApart}

-- the granule of an object is in its rounded size
pub covers-in : (x : Placed) (g : ℕ) → covers x g ≡ true → (x.at ≤ 16 * g) × (16 * g < x.at + rounded_size x.size)
covers-in x g h = (grind (arith, nat_tests), grind (arith, nat_tests))

pub covers-true : (x : Placed) (g : ℕ) → x.at ≤ 16 * g → 16 * g < x.at + rounded_size x.size → covers x g ≡ true
covers-true x g h k = grind (arith, nat_tests)

-- two objects that are apart share no granule
pub apart-share-none : (x y : Placed) (g : ℕ) → AreApart x y → covers x g ≡ true → covers y g ≡ true → ⊥
apart-share-none x y g (inl h) a b = let p = covers-in x g a in let q = covers-in y g b in let p0 = p.0 in let p1 = p.1 in let q0 = q.0 in let q1 = q.1 in omega (arith, h, p0, p1, q0, q1)
apart-share-none x y g (inr h) a b = let p = covers-in x g a in let q = covers-in y g b in let p0 = p.0 in let p1 = p.1 in let q0 = q.0 in let q1 = q.1 in omega (arith, h, p0, p1, q0, q1)

pub one-owner : (e : StorySetting) (w : Story) (g n k m j : ℕ) (b c : StoryBirth) (x y : Placed) → IsLaidOut e w → IsObject w.births n k b x → IsObject w.births m j c y → is_living b.life ≡ true → is_living c.life ≡ true → covers x g ≡ true → covers y g ≡ true → (n ≡ m) × (k ≡ j)
one-owner e w g n k m j b c x y laid h i alive living over also =
    elim (laid.apart n k m j b c x y h i alive living) [ inl apart ↦ absurd (apart-share-none x y g apart over also) | inr same ↦ same ]
