-- A block has the least place, and the heap is full if there is none.
use Rattle.std.proofs.Common.{◌≡◌, ℕ, ◌+◌, List, [], ◌∷◌, ◌++◌, length, slice_get, Option, Some, None, refl, sym, subst}
use Rattle.std.specs.Prelude.{Ok, Err}
use Rattle.hw_base.specs.AddressMap.{rounded_size}
use Rattle.hw_base.specs.declared.endings.Full.{Full}
use Rattle.hw_base.specs.declared.endings.Space.TheVariants.{Heap as HeapSpace}
use Rattle.hw_base.specs.declared.pointers.Site.{Site}
use Rattle.hw_tags.proofs.LeastPlaceLemmas.{least_fit-some, least_fit-none}
use Rattle.hw_tags.specs.LeastPlace.{IsLeastPlace, IsPlace}
use Rattle.hw_tags.specs.Tag.{heap_tag_of}
use Rattle.ir_meaning.specs.Births.{Heap, Living}
use Rattle.ir_meaning.specs.State.{Born}
use Rattle.tag_story.proofs.BirthPlaces.{rounded-some}
use Rattle.tag_story.specs.Story.{StorySetting, Placed, StoryBirth, Story}
use Rattle.tag_story.specs.StoryFacts.{IsObject}
use Rattle.tag_story.specs.Telling.{living_spans, place_of_block, block_at, block_by, told}

-- the last of a list
get-last : {X : Type 0} (xs : List X) (new : X) → slice_get (xs ++ new ∷ []) (length xs) ≡ Some new
get-last [] new = refl
get-last (x ∷ xs) new = get-last xs new

module _ (e : StorySetting) (w : Story) (task size : ℕ) (chain : List Site) where
  abbrev HasPlace : Story → Type 0
  HasPlace v =
      (birth : StoryBirth) × (x : Placed) × IsObject v.births (length w.births) 0 birth x × (x.size ≡ size)
      × IsLeastPlace (living_spans w.births) (rounded_size size) e.places.heap_at (e.places.heap_at + e.places.heap_length) x.at

  by-place : (v : Story) (place : Option ℕ) → place_of_block e w size ≡ place → block_by e w task size chain place ≡ Ok v → HasPlace v
  by-place v None found is = absurd cc
  by-place v (Some at) found is =
      let same : block_at e w task at size chain ≡ v = cc in
      subst HasPlace same (
        record { region = Heap; task = task; born = chain; life = Living; objects = record { at = at; size = size; tag = heap_tag_of (e.word w.drawn) } ∷ [] },
        record { at = at; size = size; tag = heap_tag_of (e.word w.drawn) },
        record { there = get-last w.births _; object = refl },
        refl,
        least_fit-some (living_spans w.births) (rounded_size size) e.places.heap_at (e.places.heap_at + e.places.heap_length) at (rounded-some size).0 found,
      )

  abbrev IsFullHeap : Full → Type 0
  IsFullHeap full =
      (full ≡ record { space = HeapSpace; asked = size; living = w.heap_size })
      × ((address : ℕ) → IsPlace (living_spans w.births) (rounded_size size) e.places.heap_at (e.places.heap_at + e.places.heap_length) address → ⊥)

  by-none : (full : Full) (place : Option ℕ) → place_of_block e w size ≡ place → block_by e w task size chain place ≡ Err full → IsFullHeap full
  by-none full None found is =
      let same : record { space = HeapSpace; asked = size; living = w.heap_size } ≡ full = cc in
      (sym same, least_fit-none (living_spans w.births) (rounded_size size) e.places.heap_at (e.places.heap_at + e.places.heap_length) (rounded-some size).0 found)
  by-none full (Some at) found is = absurd cc

pub least-place : (e : StorySetting) (w v : Story) (number task size : ℕ) (chain : List Site) → told e w (Born number Heap task chain (size ∷ [])) ≡ Ok v → HasPlace e w task size chain v
unfolding told
least-place e w v number task size chain is = by-place e w task size chain v (place_of_block e w size) refl is

pub no-place : (e : StorySetting) (w : Story) (number task size : ℕ) (chain : List Site) (full : Full) → told e w (Born number Heap task chain (size ∷ [])) ≡ Err full → IsFullHeap e w task size chain full
unfolding told
no-place e w number task size chain full is = by-none e w task size chain full (place_of_block e w size) refl is
