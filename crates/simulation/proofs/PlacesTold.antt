-- A story that goes on moves no object and changes no tag.
use Rattle.std.proofs.Common.{◌≡◌, ℕ, ◌+◌, ◌-◌, Bool, true, false, if◌then◌else◌, nat_le, List, [], ◌∷◌, slice_get, Option, Some, None, Result, Ok, Err, refl, subst}
use Rattle.hw_base.specs.AddressMap.{frame_size}
use Rattle.hw_base.specs.declared.pointers.Site.{Site}
use Rattle.hw_base.specs.declared.endings.Full.{Full}
use Rattle.hw_base.specs.declared.endings.Space.TheVariants.{Stack as StackSpace}
use Rattle.ir_meaning.specs.Births.{Region, Globals, Stack, Heap}
use Rattle.ir_meaning.specs.State.{News, Born, Died}
use Rattle.tag_story.specs.Story.{StorySetting, Story, StoryBirth, Placed}
use Rattle.tag_story.specs.Telling as telling
use Rattle.tag_story.specs.Telling.{told, all_told, on_told}
use Rattle.simulation.specs.Images.{Stays}
use Rattle.simulation.proofs.Images.{stays-born, stays-died, stays-on}

stays : (births : List StoryBirth) → Stays births births
stays births o x h = h

-- what a story has in common with one that comes of it
abbrev StaysIn : Story → Result Story Full → Type 0
StaysIn w r = (v : Story) → r ≡ Ok v → Stays w.births v.births

ok-stays : (w u : Story) → Stays w.births u.births → StaysIn w (Ok u)
ok-stays w u kept v h = let same : u ≡ v = cc in subst (λ (x : Story). Stays w.births x.births) same kept

frame-stays : (e : StorySetting) (w : Story) (func task : ℕ) (chain : List Site) (sizes : List ℕ) (room : Bool) → StaysIn w (if room then Ok (telling.frame_at e w func task (telling.lowest e w task - frame_size sizes) chain sizes) else Err (record { space = StackSpace; asked = frame_size sizes; living = telling.stack_size e w task }))
frame-stays e w func task chain sizes true v h = ok-stays w _ (stays-born w.births _) v h
frame-stays e w func task chain sizes false v h = absurd cc

block-stays : (e : StorySetting) (w : Story) (task size : ℕ) (chain : List Site) (at : Option ℕ) → StaysIn w (telling.block_by e w task size chain at)
block-stays e w task size chain None v h = absurd cc
block-stays e w task size chain (Some at) v h = ok-stays w _ (stays-born w.births _) v h

blocks-stay : (e : StorySetting) (w : Story) (task : ℕ) (chain : List Site) (sizes : List ℕ) → StaysIn w (telling.block_told e w task chain sizes)
blocks-stay e w task chain [] v h = ok-stays w w (stays w.births) v h
blocks-stay e w task chain (size ∷ sizes) v h = block-stays e w task size chain (telling.place_of_block e w size) v h

birth-stays : (e : StorySetting) (w : Story) (region : Region) (task : ℕ) (chain : List Site) (sizes : List ℕ) → StaysIn w (telling.birth_told e w region task chain sizes)
birth-stays e w Globals task chain sizes v h = ok-stays w _ (stays-born w.births _) v h
birth-stays e w (Stack func) task chain sizes v h = frame-stays e w func task chain sizes (nat_le (telling.stack_size e w task + frame_size sizes) e.places.stack_length) v h
birth-stays e w Heap task chain sizes v h = blocks-stay e w task chain sizes v h

freed-stays : (e : StorySetting) (w : Story) (number task : ℕ) (chain : List Site) (blocks : List Placed) → Stays w.births (telling.freed_by e w number task chain blocks).births
freed-stays e w number task chain [] = stays w.births
freed-stays e w number task chain (block ∷ blocks) = stays-died w.births number task chain

region-stays : (e : StorySetting) (w : Story) (number task : ℕ) (chain : List Site) (region : Region) (objects : List Placed) → Stays w.births (telling.death_by e w number task chain region objects).births
region-stays e w number task chain Globals objects = stays w.births
region-stays e w number task chain (Stack func) objects = stays-died w.births number task chain
region-stays e w number task chain Heap objects = freed-stays e w number task chain objects

death-stays : (e : StorySetting) (w : Story) (number task : ℕ) (chain : List Site) (birth : Option StoryBirth) → Stays w.births (telling.death_told e w number task chain birth).births
death-stays e w number task chain None = stays w.births
death-stays e w number task chain (Some birth) = region-stays e w number task chain birth.region birth.objects

-- one birth or death
pub told-stays : (e : StorySetting) (w v : Story) (news : News) → told e w news ≡ Ok v → Stays w.births v.births
unfolding told
told-stays e w v (Born number region task chain sizes) h = birth-stays e w region task chain sizes v h
told-stays e w v (Died number task chain) h = ok-stays w _ (death-stays e w number task chain (slice_get w.births number)) v h

-- several
pub all-told-stays : (e : StorySetting) (w v : Story) (news : List News) → all_told e w news ≡ Ok v → Stays w.births v.births
unfolding all_told
all-told-stays e w v [] h = ok-stays w w (stays w.births) v h
all-told-stays e w v (one ∷ later) h = by_first (told e w one) refl h (λ u rest. all-told-stays e u v later rest)
  where
    by_first : (r : Result Story Full) → told e w one ≡ r → on_told r (λ u. all_told e u later) ≡ Ok v → ((u : Story) → all_told e u later ≡ Ok v → Stays u.births v.births) → Stays w.births v.births
    by_first (Ok u) first rest go = stays-on w.births u.births v.births (told-stays e w u one first) (go u rest)
    by_first (Err full) first rest go = absurd cc
