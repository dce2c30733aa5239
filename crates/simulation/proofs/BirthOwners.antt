-- The owners of granules after a birth: the new objects own what they cover, and all other granules have the owners that they
-- had.
use Rattle.std.proofs.Common.{◌≡◌, ℕ, zero, suc, ◌+◌, Bool, true, false, if◌then◌else◌, List, [], ◌∷◌, ◌++◌, slice_get, Option, Some, None, ◌⊎◌, inl, inr, refl, sym, ◌∙◌, ap}
use Rattle.ir_meaning.specs.Births.{is_living}
use Rattle.tag_story.specs.Story.{Placed, StoryBirth}
use Rattle.tag_story.specs.StoryTags.{Owner, covers, owner_in, owner_from}

-- none of the objects covers a granule
abbrev pub CoverNot : List Placed → (granule : ℕ) → Type 0
CoverNot objects g = (k : ℕ) (x : Placed) → slice_get objects k ≡ Some x → covers x g ≡ false

-- one of them does
pub record OneCovers (objects : List Placed) (granule : ℕ) : Type 0 where
  pub k : ℕ
  pub x : Placed
  pub there : slice_get objects k ≡ Some x
  pub over : covers x granule ≡ true

pub one-or-none : (objects : List Placed) (g : ℕ) → OneCovers objects g ⊎ CoverNot objects g
one-or-none [] g = inr (λ k x h. absurd cc)
one-or-none (y ∷ ys) g = by_test (covers y g) refl (one-or-none ys g)
  where
    by_place : covers y g ≡ false → CoverNot ys g → CoverNot (y ∷ ys) g
    by_place here later zero x h = let same : y ≡ x = cc in ap (λ (z : Placed). covers z g) (sym same) ∙ here
    by_place here later (suc k) x h = later k x h

    by_test : (bit : Bool) → covers y g ≡ bit → OneCovers ys g ⊎ CoverNot ys g → OneCovers (y ∷ ys) g ⊎ CoverNot (y ∷ ys) g
    by_test true here later = inl (record { k = 0; x = y; there = refl; over = here })
    by_test false here (inl one) = inl (record { k = suc one.k; x = one.x; there = one.there; over = one.over })
    by_test false here (inr none) = inr (by_place here none)

-- a birth none of whose objects covers a granule doesn't own it
pub in-not : (n k : ℕ) (objects : List Placed) (g : ℕ) (otherwise : Option Owner) → CoverNot objects g → owner_in n k objects g otherwise ≡ otherwise
unfolding owner_in
in-not n k [] g otherwise none = refl
in-not n k (x ∷ xs) g otherwise none =
    ap (λ (bit : Bool). if bit then Some (record { o = record { birth = n; index = k }; placed = x }) else owner_in n (k + 1) xs g otherwise) (none 0 x refl)
    ∙ in-not n (k + 1) xs g otherwise (λ j y h. none (suc j) y h)

pub from-pushed : (n : ℕ) (births : List StoryBirth) (new : StoryBirth) (g : ℕ) → CoverNot new.objects g → owner_from n (births ++ new ∷ []) g ≡ owner_from n births g
unfolding owner_from
from-pushed n [] new g none = by_life (is_living new.life)
  where
    by_life : (bit : Bool) → (if bit then owner_in n 0 new.objects g None else None) ≡ None
    by_life true = in-not n 0 new.objects g None none
    by_life false = refl
from-pushed n (birth ∷ births) new g none =
    ap (λ (later : Option Owner). if is_living birth.life then owner_in n 0 birth.objects g later else later) (from-pushed (n + 1) births new g none)
