-- What holds of every story, after any births and deaths.
use Rattle.std.proofs.Common.{◌≡◌, ℕ, ◌+◌, ◌-◌, ◌<◌, ◌≤◌, Bool, true, false, nat_le, List, [], ◌∷◌, ◌++◌, slice_get, Option, Some, None, refl, subst, arith}
use Rattle.std.specs.Prelude.{Result, Ok, Err, if◌then◌else◌}
use Rattle.std.proofs.lemmas.Bool.Decides.{nat_tests}
use Rattle.hw_base.specs.AddressMap.{frame_size}
use Rattle.hw_base.specs.declared.endings.Full.{Full}
use Rattle.hw_base.specs.declared.pointers.Site.{Site}
use Rattle.ir_meaning.specs.Births.{Region, Globals, Stack, Heap}
use Rattle.ir_meaning.specs.State.{News, Born, Died}
use Rattle.tag_story.specs.Story.{StorySetting, Placed, StoryBirth, Story, no_story}
use Rattle.tag_story.specs.Telling.{globals_told, lowest, stack_size, frame_at, block_at, block_by, block_told, place_of_block, freed_by, death_by, death_told, birth_told, told, on_told, all_told}
use Rattle.tag_story.specs.StoryFacts.{HasRoom, IsNextNews, AreNextNews, IsLaidOut}
use Rattle.tag_story.proofs.BirthPlaces.{block-place}
use Rattle.tag_story.proofs.StoryLaws.{born-laid, block-new, frame-new, frame-died, block-died}
use Rattle.tag_story.proofs.GlobalPlacesTold.{placed_globals, globals-new}

-- ---- births

globals-laid : (e : StorySetting) (w v : Story) → HasRoom e → IsLaidOut e w → w.births ≡ [] → globals_told e w ≡ v → IsLaidOut e v
globals-laid e w v room laid first same =
    subst (IsLaidOut e) same (born-laid e w Globals 0 [] (placed_globals e (e.word w.drawn)) w.frames w.heap_size laid (globals-new e w (e.word w.drawn) room laid first))

frame-laid-by : (t : Bool) (e : StorySetting) (w v : Story) (func task : ℕ) (chain : List Site) (sizes : List ℕ) (full : Full) → nat_le (stack_size e w task + frame_size sizes) e.places.stack_length ≡ t → HasRoom e → IsLaidOut e w → task < e.places.most_tasks → (if t then Ok (frame_at e w func task (lowest e w task - frame_size sizes) chain sizes) else Err full) ≡ Ok v → IsLaidOut e v
frame-laid-by true e w v func task chain sizes full test room laid there is =
    let same : frame_at e w func task (lowest e w task - frame_size sizes) chain sizes ≡ v = cc in
    let fits : stack_size e w task + frame_size sizes ≤ e.places.stack_length = grind (arith, nat_tests) in
    subst (IsLaidOut e) same
    (born-laid e w (Stack func) task chain _ _ w.heap_size laid (frame-new e w func task (e.word w.drawn) sizes room laid there fits))
frame-laid-by false e w v func task chain sizes full test room laid there is = absurd cc

block-laid-by : (e : StorySetting) (w v : Story) (task size : ℕ) (chain : List Site) (place : Option ℕ) → place_of_block e w size ≡ place → HasRoom e → IsLaidOut e w → block_by e w task size chain place ≡ Ok v → IsLaidOut e v
block-laid-by e w v task size chain None found room laid is = absurd cc
block-laid-by e w v task size chain (Some at) found room laid is =
    let same : block_at e w task at size chain ≡ v = cc in
    subst (IsLaidOut e) same
    (born-laid e w Heap task chain _ w.frames _ laid (block-new e w task at size (e.word w.drawn) room laid (block-place e w size at found)))

block-laid : (e : StorySetting) (w v : Story) (task : ℕ) (chain : List Site) (sizes : List ℕ) → HasRoom e → IsLaidOut e w → block_told e w task chain sizes ≡ Ok v → IsLaidOut e v
block-laid e w v task chain [] room laid is = let same : w ≡ v = cc in subst (IsLaidOut e) same laid
block-laid e w v task chain (size ∷ sizes) room laid is = block-laid-by e w v task size chain (place_of_block e w size) refl room laid is

birth-laid : (e : StorySetting) (w v : Story) (number : ℕ) (region : Region) (task : ℕ) (chain : List Site) (sizes : List ℕ) → HasRoom e → IsLaidOut e w → IsNextNews e w (Born number region task chain sizes) → birth_told e w region task chain sizes ≡ Ok v → IsLaidOut e v
birth-laid e w v number Globals task chain sizes room laid next is = let same : globals_told e w ≡ v = cc in globals-laid e w v room laid next same
birth-laid e w v number (Stack func) task chain sizes room laid next is = frame-laid-by (nat_le (stack_size e w task + frame_size sizes) e.places.stack_length) e w v func task chain sizes _ refl room laid next is
birth-laid e w v number Heap task chain sizes room laid next is = block-laid e w v task chain sizes room laid is

-- ---- deaths

freed-laid : (e : StorySetting) (w : Story) (number task : ℕ) (chain : List Site) (objects : List Placed) → IsLaidOut e w → IsLaidOut e (freed_by e w number task chain objects)
freed-laid e w number task chain [] laid = laid
freed-laid e w number task chain (block ∷ blocks) laid = block-died e w number task chain block laid

death-laid-by : (e : StorySetting) (w : Story) (number task : ℕ) (chain : List Site) (region : Region) (objects : List Placed) → IsLaidOut e w → IsLaidOut e (death_by e w number task chain region objects)
death-laid-by e w number task chain Globals objects laid = laid
death-laid-by e w number task chain (Stack func) objects laid = frame-died e w number task chain laid
death-laid-by e w number task chain Heap objects laid = freed-laid e w number task chain objects laid

death-laid : (e : StorySetting) (w : Story) (number task : ℕ) (chain : List Site) (birth : Option StoryBirth) → IsLaidOut e w → IsLaidOut e (death_told e w number task chain birth)
death-laid e w number task chain None laid = laid
death-laid e w number task chain (Some birth) laid = death-laid-by e w number task chain birth.region birth.objects laid

-- ---- any news

-- one birth or death keeps what holds of every story
pub told-laid : (e : StorySetting) (w v : Story) (news : News) → HasRoom e → IsLaidOut e w → IsNextNews e w news → told e w news ≡ Ok v → IsLaidOut e v
unfolding told
told-laid e w v (Born number region task chain sizes) room laid next is = birth-laid e w v number region task chain sizes room laid next is
told-laid e w v (Died number task chain) room laid next is =
    let same : death_told e w number task chain (slice_get w.births number) ≡ v = cc in
    subst (IsLaidOut e) same (death-laid e w number task chain (slice_get w.births number) laid)

-- and so do births and deaths in order
pub all-laid : (e : StorySetting) (w v : Story) (news : List News) → HasRoom e → IsLaidOut e w → AreNextNews e w news → all_told e w news ≡ Ok v → IsLaidOut e v
unfolding all_told
all-laid e w v [] room laid next is = let same : w ≡ v = cc in subst (IsLaidOut e) same laid
all-laid e w v (news ∷ later) room laid next is = by_told (told e w news) refl (λ u there. all-laid e u v later room (told-laid e w u news room laid next.0 there) (next.1 u there)) is
  where
    by_told : (r : Result Story Full) → told e w news ≡ r → ((u : Story) → told e w news ≡ Ok u → all_told e u later ≡ Ok v → IsLaidOut e v) → on_told r (λ u. all_told e u later) ≡ Ok v → IsLaidOut e v
    by_told (Ok u) there rest h = rest u there h
    by_told (Err full) there rest h = absurd cc

-- the story before anything is born
pub no_story-laid : (e : StorySetting) → IsLaidOut e no_story
no_story-laid e =
    record {
      aligned = λ n k b x h. let there : slice_get {X = StoryBirth} [] n ≡ Some b = h.there in absurd cc;
      inside = λ n k b x h. let there : slice_get {X = StoryBirth} [] n ≡ Some b = h.there in absurd cc;
      tagged = λ n k b x h. let there : slice_get {X = StoryBirth} [] n ≡ Some b = h.there in absurd cc;
      apart = λ n k m j b c x y h g alive living. let there : slice_get {X = StoryBirth} [] n ≡ Some b = h.there in absurd cc;
      listed = λ n k b x h alive. let there : slice_get {X = StoryBirth} [] n ≡ Some b = h.there in absurd cc;
      upwards = tt;
      lows_aligned = λ i f h. absurd cc;
      lows_inside = λ i f h. absurd cc;
      freed_tags = λ i x h. absurd cc;
    }

-- the story of a longer list goes on from the one of its beginning
pub all_told-append : (e : StorySetting) (w : Story) (first second : List News) → all_told e w (first ++ second) ≡ on_told (all_told e w first) (λ v. all_told e v second)
unfolding all_told
all_told-append e w [] second = refl
all_told-append e w (news ∷ first) second = by_result (told e w news) (λ v. all_told-append e v first second)
  where
    by_result : (r : Result Story Full) → ((v : Story) → all_told e v (first ++ second) ≡ on_told (all_told e v first) (λ u. all_told e u second)) → on_told r (λ v. all_told e v (first ++ second)) ≡ on_told (on_told r (λ v. all_told e v first)) (λ u. all_told e u second)
    by_result (Ok v) later = later v
    by_result (Err full) later = refl
