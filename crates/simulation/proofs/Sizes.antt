-- Rounded sizes, tests of which both hold, and objects that are the same.
use Rattle.std.proofs.Common.{◌≡◌, ℕ, zero, suc, ◌%◌, ◌<◌, ◌≤◌, ◌==◌, ◌&&◌, Bool, true, false, if◌then◌else◌, List, slice_get, Some, None, refl, sym, ◌∙◌, ap, arith}
use Rattle.std.proofs.lemmas.Bool.{eqb-true}
use Rattle.hw_base.specs.AddressMap.{rounded_size}
use Rattle.hw_base.specs.declared.pointers.Obj.{Obj}
use Rattle.ir_meaning.specs.Encoding.{same_object}
use Rattle.tag_story.specs.Story.{StoryBirth, get_placed, placed_in}

-- a short granule ends after its object
pub short-rounded : (size : ℕ) → 0 < size % 16 → size < rounded_size size
short-rounded zero h = absurd (omega (arith, h))
short-rounded (suc n) h = omega (arith, h)

pub size-rounded : (size : ℕ) → size ≤ rounded_size size
size-rounded zero = omega arith
size-rounded (suc n) = omega arith

-- both tests of a conjunction hold
pub both : (a b : Bool) → (a && b) ≡ true → (a ≡ true) × (b ≡ true)
both true true h = (refl, refl)
both true false h = absurd cc
both false b h = absurd cc

-- what a test lets through
pub if-some : {X : Type 0} (bit : Bool) (x y : X) → (if bit then Some x else None) ≡ Some y → (bit ≡ true) × (x ≡ y)
if-some true x y h = (refl, let same : x ≡ y = cc in same)
if-some false x y h = absurd cc

-- the same object has the same place
pub same-placed : (births : List StoryBirth) (o p : Obj) → same_object o p ≡ true → get_placed births p ≡ get_placed births o
same-placed births o p h =
    let tests = both (o.birth == p.birth) (o.index == p.index) h in
    let birth = eqb-true o.birth p.birth tests.0 in
    let index = eqb-true o.index p.index tests.1 in
    ap (λ n. placed_in (slice_get births n) p.index) (sym birth) ∙ ap (λ n. placed_in (slice_get births o.birth) n) (sym index)
