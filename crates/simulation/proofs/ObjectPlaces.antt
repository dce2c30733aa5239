-- The place that the story gives an object of the source: its tag, and that it lies below 2 ^ 56.
use Rattle.std.proofs.Common.{◌≡◌, ℕ, ◌+◌, ◌^◌, ◌<◌, ◌≤◌, List, map, slice_get, Option, Some, None, option_map, refl, sym, ◌∙◌, ap, arith}
use Rattle.std.proofs.lemmas.Option.{slice_get-map, slice_get_within}
use Rattle.hw_base.specs.AddressMap.{rounded_size}
use Rattle.hw_base.specs.declared.pointers.Obj.{Obj}
use Rattle.ir_meaning.specs.Births.{Region, Globals, Stack, Heap, Birth, SourceObject, object_in, get_object}
use Rattle.ir_machine.proofs.CodeAt.{get-below}
use Rattle.ir_machine.specs.State.{MachineSetting}
use Rattle.tag_story.proofs.BirthPlaces.{stack-inside}
use Rattle.tag_story.specs.Story.{StorySetting, Placed, StoryBirth, Story, get_placed, placed_in}
use Rattle.tag_story.specs.StoryFacts.{HasRoom, HasTag, IsInRegion, IsLaidOut, IsObject}
use Rattle.simulation.specs.Parts.{AreTold}
use Rattle.simulation.specs.Relation.{IsSetting, story_setting}

-- the place of an object that was born
pub record IsPlacedAs (w : Story) (o : Obj) (x : SourceObject) : Type 0 where
  pub birth : StoryBirth
  pub placed : Placed
  pub object : IsObject w.births o.birth o.index birth placed
  pub size : placed.size ≡ x.size
  pub life : x.life ≡ birth.life
  pub some_tag : 1 ≤ placed.tag
  pub tag : placed.tag < 256
  pub below : placed.at + rounded_size placed.size < 2 ^ 56

some-tag : (region : Region) (x : Placed) → HasTag region x → (1 ≤ x.tag) × (x.tag < 256)
some-tag Globals x h = let low = h.0 in (omega (arith, low), h.1)
some-tag (Stack func) x h = h
some-tag Heap x h = h

inside-below : (e : StorySetting) (region : Region) (task : ℕ) (x : Placed) → HasRoom e → e.places.heap_at + e.places.heap_length < 2 ^ 56 → IsInRegion e region task x → x.at + rounded_size x.size < 2 ^ 56
inside-below e Globals task x room below h =
    let high = h.1 in
    let globals = room.globals_below in
    let stacks = room.stacks_below in
    omega (arith, high, globals, stacks, below)
inside-below e (Stack func) task x room below h =
    let high = h.2 in
    let own = stack-inside e task h.0 in
    let stacks = room.stacks_below in
    omega (arith, high, own, stacks, below)
inside-below e Heap task x room below h = let high = h.1 in omega (arith, high, below)

-- the item of a list that has the same numbers as another
pub same-item : {X Y : Type 0} (f : X → ℕ) (g : Y → ℕ) (xs : List X) (ys : List Y) (k : ℕ) (x : X) → map g ys ≡ map f xs → slice_get xs k ≡ Some x → (y : Y) × ((slice_get ys k ≡ Some y) × (g y ≡ f x))
same-item {X} {Y} f g xs ys k x same there = by_item (slice_get ys k) refl
  where
    numbers : option_map g (slice_get ys k) ≡ Some (f x)
    numbers = sym (slice_get-map g ys k) ∙ ap (λ ns. slice_get ns k) same ∙ slice_get-map f xs k ∙ ap (option_map f) there

    by_item : (o : Option Y) → slice_get ys k ≡ o → (y : Y) × ((slice_get ys k ≡ Some y) × (g y ≡ f x))
    by_item None h = let none : option_map g None ≡ Some (f x) = ap (option_map g) (sym h) ∙ numbers in absurd cc
    by_item (Some y) h = let one : Some (g y) ≡ Some (f x) = ap (option_map g) (sym h) ∙ numbers in (y, (h, let is : g y ≡ f x = cc in is))

pub placed-as : (setting : MachineSetting) (births : List Birth) (w : Story) (o : Obj) (x : SourceObject) → IsSetting setting → IsLaidOut (story_setting setting) w → AreTold births w.births → get_object births o ≡ Some x → IsPlacedAs w o x
placed-as setting births w o x is laid told found = by_birth (slice_get births o.birth) refl found
  where
    by_birth : (b : Option Birth) → slice_get births o.birth ≡ b → object_in b o.index ≡ Some x → IsPlacedAs w o x
    by_birth None here h = absurd cc
    by_birth (Some birth) here h =
        let count = told.count in
        let within = slice_get_within births o.birth birth here in
        let (story, there) = get-below w.births o.birth (omega (arith, count, within)) in
        let same = told.each o.birth birth story here there in
        let (placed, (at, size)) = same-item (λ (y : SourceObject). y.size) (λ (y : Placed). y.size) birth.objects story.objects o.index x same.sizes h in
        let object : IsObject w.births o.birth o.index story placed = record { there = there; object = at } in
        let tags = some-tag story.region placed (laid.tagged o.birth o.index story placed object) in
        record {
          birth = story;
          placed = placed;
          object = object;
          size = size;
          life = same.lives o.index x h;
          some_tag = tags.0;
          tag = tags.1;
          below = inside-below (story_setting setting) story.region story.task placed is.room is.below (laid.inside o.birth o.index story placed object);
        }

-- its place among those of the story
pub placed-there : (w : Story) (o : Obj) (x : SourceObject) (is : IsPlacedAs w o x) → get_placed w.births o ≡ Some is.placed
placed-there w o x is = ap (λ b. placed_in b o.index) is.object.there ∙ is.object.object
