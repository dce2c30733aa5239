-- Tag words change tags alone: under other words a story has the same births at the same places, and is full at the same birth.
use Rattle.std.proofs.Common.{◌≡◌, ℕ, zero, suc, ◌+◌, ◌-◌, Bool, true, false, nat_le, if◌then◌else◌, List, [], ◌∷◌, ◌++◌, map, slice_get, Option, Some, None, Result, Ok, Err, refl, sym, ◌∙◌, ap, subst}
use Rattle.std.specs.List.{enumerate_from}
use Rattle.global_tags.specs.GlobalPlaces.{descriptor_of}
use Rattle.hw_base.specs.AddressMap.{rounded_size, frame_size}
use Rattle.hw_base.specs.declared.endings.Full.{Full}
use Rattle.hw_base.specs.declared.pointers.Site.{Site}
use Rattle.hw_tags.specs.LeastPlace.{Span, least_fit}
use Rattle.ir_core.specs.declared.ir_module.GlobalVar.{GlobalVar}
use Rattle.ir_meaning.specs.Births.{Region, Globals, Stack, Heap, Living, is_living, changed_at}
use Rattle.ir_meaning.specs.State.{News, Born, Died}
use Rattle.tag_story.specs.Story.{StorySetting, Placed, StoryBirth, FreedBlock, EndedFrame, Story}
use Rattle.tag_story.specs.Telling.{global_placed, globals_told, lowest, stack_size, variables_from, frame_at, frame_told, span_of, block_spans, living_spans, place_of_block, block_at, block_by, block_told, ended, freed_by, death_by, death_told, birth_told, told, on_told, all_told}
use Rattle.simulation.proofs.TablesKept.{each-length}
use Rattle.simulation.specs.Parts.{AreEach}

-- ---- stories with the same places

-- the place and size of an object, without its tag
abbrev pub bare : Placed → Span
bare x = record { at = x.at; size = x.size }

pub record SameBirth (b c : StoryBirth) : Type 0 where
  pub region : c.region ≡ b.region
  pub life : c.life ≡ b.life
  pub objects : map bare c.objects ≡ map bare b.objects

-- a story with other births, and with other memories of what died
abbrev pub restated : Story → List StoryBirth → List FreedBlock → List EndedFrame → ℕ → Story
restated w births freed gone drawn = record w { births = births; freed = freed; ended = gone; drawn = drawn }

-- it has the same places
pub record IsRestated (w v : Story) : Type 0 where
  pub births : List StoryBirth
  pub freed : List FreedBlock
  pub gone : List EndedFrame
  pub drawn : ℕ
  pub is : v ≡ restated w births freed gone drawn
  pub same : AreEach SameBirth w.births births

abbrev pub SameResult : Result Story Full → Result Story Full → Type 0
SameResult (Ok w) q = (v : Story) × (q ≡ Ok v) × IsRestated w v
SameResult (Err full) q = q ≡ Err full

-- ---- lists

each-pushed : {X Y : Type 0} (R : X → Y → Type 0) (xs : List X) (ys : List Y) (x : X) (y : Y) → AreEach R xs ys → R x y → AreEach R (xs ++ x ∷ []) (ys ++ y ∷ [])
each-pushed R [] [] x y h new = (new, tt)
each-pushed R [] (w ∷ ys) x y h new = absurd h
each-pushed R (z ∷ xs) [] x y h new = absurd h
each-pushed R (z ∷ xs) (w ∷ ys) x y h new = (h.0, each-pushed R xs ys x y h.1 new)

each-changed : {X : Type 0} (R : X → X → Type 0) (f : X → X) (xs ys : List X) (k : ℕ) → ((x y : X) → R x y → R (f x) (f y)) → AreEach R xs ys → AreEach R (changed_at f xs k) (changed_at f ys k)
unfolding changed_at
each-changed R f [] [] k go h = tt
each-changed R f [] (y ∷ ys) k go h = absurd h
each-changed R f (x ∷ xs) [] k go h = absurd h
each-changed R f (x ∷ xs) (y ∷ ys) zero go h = (go x y h.0, h.1)
each-changed R f (x ∷ xs) (y ∷ ys) (suc k) go h = (h.0, each-changed R f xs ys k go h.1)

-- both lists have an item at a place, or none
abbrev SameItem : {X : Type 0} → (X → X → Type 0) → Option X → Option X → Type 0
SameItem R None None = Unit {0}
SameItem R None (Some y) = ⊥
SameItem R (Some x) None = ⊥
SameItem R (Some x) (Some y) = R x y

each-get : {X : Type 0} (R : X → X → Type 0) (xs ys : List X) (k : ℕ) → AreEach R xs ys → SameItem R (slice_get xs k) (slice_get ys k)
each-get R [] [] k h = tt
each-get R [] (y ∷ ys) k h = absurd h
each-get R (x ∷ xs) [] k h = absurd h
each-get R (x ∷ xs) (y ∷ ys) zero h = h.0
each-get R (x ∷ xs) (y ∷ ys) (suc k) h = each-get R xs ys k h.1

-- ---- spans

abbrev widened : Span → Span
widened span = record { at = span.at; size = rounded_size span.size }

spans-bare : (objects : List Placed) → map span_of objects ≡ map widened (map bare objects)
spans-bare [] = refl
spans-bare (x ∷ objects) = ap (λ spans. span_of x ∷ spans) (spans-bare objects)

same-spans : (b c : StoryBirth) → SameBirth b c → block_spans c.region c.life c.objects ≡ block_spans b.region b.life b.objects
same-spans b c same =
    ap (λ region. block_spans region c.life c.objects) same.region
    ∙ ap (λ life. block_spans b.region life c.objects) same.life
    ∙ by_region b.region
  where
    objects : map span_of c.objects ≡ map span_of b.objects
    objects = spans-bare c.objects ∙ ap (map widened) same.objects ∙ sym (spans-bare b.objects)

    by_region : (region : Region) → block_spans region b.life c.objects ≡ block_spans region b.life b.objects
    by_region Globals = refl
    by_region (Stack func) = refl
    by_region Heap = ap (λ spans. if is_living b.life then spans else []) objects

all-spans : (births others : List StoryBirth) → AreEach SameBirth births others → living_spans others ≡ living_spans births
all-spans [] [] h = refl
all-spans [] (c ∷ others) h = absurd h
all-spans (b ∷ births) [] h = absurd h
all-spans (b ∷ births) (c ∷ others) h =
    ap (λ spans. spans ++ living_spans others) (same-spans b c h.0)
    ∙ ap (λ spans. block_spans b.region b.life b.objects ++ spans) (all-spans births others h.1)

-- ---- births

module _ (e : StorySetting) (other : ℕ → ℕ) where
  -- the same setting with other words
  abbrev pub changed : StorySetting
  changed = record e { word = other }

  same-globals : (word words n : ℕ) (gs : List GlobalVar) → map bare (map global_placed (map (λ numbered. descriptor_of e.places e.program.layouts e.program.globals words numbered.0 numbered.1) (enumerate_from n gs))) ≡ map bare (map global_placed (map (λ numbered. descriptor_of e.places e.program.layouts e.program.globals word numbered.0 numbered.1) (enumerate_from n gs)))
  same-globals word words n [] = refl
  same-globals word words n (g ∷ gs) =
      ap (λ spans. bare (global_placed (descriptor_of e.places e.program.layouts e.program.globals word n g)) ∷ spans) (same-globals word words (n + 1) gs)

  same-variables : (word words k j at : ℕ) (sizes : List ℕ) → map bare (variables_from words j at sizes) ≡ map bare (variables_from word k at sizes)
  unfolding variables_from
  same-variables word words k j at [] = refl
  same-variables word words k j at (size ∷ sizes) = ap (λ spans. record { at = at; size = size } ∷ spans) (same-variables word words (k + 1) (j + 1) (at + rounded_size size) sizes)

  module _ (w : Story) (births : List StoryBirth) (freed : List FreedBlock) (gone : List EndedFrame) (drawn : ℕ) (same : AreEach SameBirth w.births births) where
    abbrev v : Story
    v = restated w births freed gone drawn

    new-same : (region : Region) (task : ℕ) (chain : List Site) (objects others : List Placed) → map bare others ≡ map bare objects → AreEach SameBirth (w.births ++ record { region = region; task = task; born = chain; life = Living; objects = objects } ∷ []) (births ++ record { region = region; task = task; born = chain; life = Living; objects = others } ∷ [])
    new-same region task chain objects others h = each-pushed SameBirth w.births births _ _ same (record { region = refl; life = refl; objects = h })

    globals-same : SameResult (Ok (globals_told e w)) (Ok (globals_told changed v))
    globals-same =
        (globals_told changed v, refl, record { births = _; freed = freed; gone = gone; drawn = drawn + 1; is = refl; same = new-same Globals 0 [] _ _ (same-globals (e.word w.drawn) (other drawn) 0 e.program.globals) })

    frame-same : (func task : ℕ) (chain : List Site) (sizes : List ℕ) → SameResult (frame_told e w func task chain sizes) (frame_told changed v func task chain sizes)
    frame-same func task chain sizes = by_test (nat_le (stack_size e w task + frame_size sizes) e.places.stack_length)
      where
        low : ℕ
        low = lowest e w task - frame_size sizes

        by_test : (bit : Bool) → SameResult (if bit then Ok (frame_at e w func task (lowest e w task - frame_size sizes) chain sizes) else Err (record { space = Rattle.hw_base.specs.declared.endings.Space.TheVariants.Stack; asked = frame_size sizes; living = stack_size e w task })) (if bit then Ok (frame_at changed v func task (lowest e w task - frame_size sizes) chain sizes) else Err (record { space = Rattle.hw_base.specs.declared.endings.Space.TheVariants.Stack; asked = frame_size sizes; living = stack_size e w task }))
        by_test true = (
          frame_at changed v func task (lowest e w task - frame_size sizes) chain sizes,
          refl,
          record {
            births = births ++ record { region = Stack func; task = task; born = chain; life = Living; objects = variables_from (other drawn) 0 (lowest e w task - frame_size sizes) sizes } ∷ [];
            freed = freed;
            gone = gone;
            drawn = drawn + 1;
            is = ap (λ n. record (frame_at changed v func task (lowest e w task - frame_size sizes) chain sizes) { frames = record { birth = n; task = task; low = lowest e w task - frame_size sizes } ∷ w.frames }) (sym (each-length SameBirth w.births births same));
            same = new-same (Stack func) task chain _ _ (same-variables (e.word w.drawn) (other drawn) 0 0 (lowest e w task - frame_size sizes) sizes);
          },
        )
        by_test false = refl

    block-same : (task : ℕ) (chain : List Site) (sizes : List ℕ) → SameResult (block_told e w task chain sizes) (block_told changed v task chain sizes)
    block-same task chain [] = (v, refl, record { births = births; freed = freed; gone = gone; drawn = drawn; is = refl; same = same })
    block-same task chain (size ∷ sizes) =
        subst (λ spans. SameResult (block_by e w task size chain (place_of_block e w size)) (block_by changed v task size chain (least_fit spans (rounded_size size) e.places.heap_at (e.places.heap_at + e.places.heap_length)))) (sym (all-spans w.births births same))
        (by_place (place_of_block e w size))
      where
        by_place : (place : Option ℕ) → SameResult (block_by e w task size chain place) (block_by changed v task size chain place)
        by_place None = refl
        by_place (Some at) =
            (block_at changed v task at size chain, refl, record { births = _; freed = freed; gone = gone; drawn = drawn + 1; is = refl; same = new-same Heap task chain _ _ refl })

    born-same : (region : Region) (task : ℕ) (chain : List Site) (sizes : List ℕ) → SameResult (birth_told e w region task chain sizes) (birth_told changed v region task chain sizes)
    born-same Globals task chain sizes = globals-same
    born-same (Stack func) task chain sizes = frame-same func task chain sizes
    born-same Heap task chain sizes = block-same task chain sizes

    -- ---- deaths

    unchanged : IsRestated w v
    unchanged = record { births = births; freed = freed; gone = gone; drawn = drawn; is = refl; same = same }

    ended-same : (number task : ℕ) (chain : List Site) → AreEach SameBirth (changed_at (ended task chain) w.births number) (changed_at (ended task chain) births number)
    ended-same number task chain = each-changed SameBirth (ended task chain) w.births births number (λ b c h. record { region = h.region; life = refl; objects = h.objects }) same

    freed-same : (number task : ℕ) (chain : List Site) (objects others : List Placed) → map bare others ≡ map bare objects → IsRestated (freed_by e w number task chain objects) (freed_by changed v number task chain others)
    freed-same number task chain [] [] h = unchanged
    freed-same number task chain [] (y ∷ others) h = absurd cc
    freed-same number task chain (x ∷ objects) [] h = absurd cc
    freed-same number task chain (x ∷ objects) (y ∷ others) h =
        let size : y.size ≡ x.size = ap (λ (span : Span). span.size) (let first : bare y ≡ bare x = cc in first) in
        record {
          births = changed_at (ended task chain) births number;
          freed = _;
          gone = gone;
          drawn = drawn + 1;
          is = ap (λ n. record (freed_by changed v number task chain (y ∷ others)) { heap_size = w.heap_size - rounded_size n }) size;
          same = ended-same number task chain;
        }

    died-same : (number task : ℕ) (chain : List Site) (b c : Option StoryBirth) → SameItem SameBirth b c → IsRestated (death_told e w number task chain b) (death_told changed v number task chain c)
    died-same number task chain None None h = unchanged
    died-same number task chain None (Some c) h = absurd h
    died-same number task chain (Some b) None h = absurd h
    died-same number task chain (Some b) (Some c) h =
        subst (λ region. IsRestated (death_by e w number task chain b.region b.objects) (death_by changed v number task chain region c.objects)) (sym h.region) (by_region b.region)
      where
        by_region : (region : Region) → IsRestated (death_by e w number task chain region b.objects) (death_by changed v number task chain region c.objects)
        by_region Globals = unchanged
        by_region (Stack func) = record { births = changed_at (ended task chain) births number; freed = freed; gone = _; drawn = drawn; is = refl; same = ended-same number task chain }
        by_region Heap = freed-same number task chain b.objects c.objects h.objects

    news-same : (news : News) → SameResult (told e w news) (told changed v news)
    unfolding told
    news-same (Born number region task chain sizes) = born-same region task chain sizes
    news-same (Died number task chain) =
        (death_told changed v number task chain (slice_get births number), refl, died-same number task chain (slice_get w.births number) (slice_get births number) (each-get SameBirth w.births births number same))

  -- ---- any news

  pub told-same : (w v : Story) (news : List News) → IsRestated w v → SameResult (all_told e w news) (all_told changed v news)
  unfolding all_told
  told-same w v [] h = (v, refl, h)
  told-same w v (news ∷ later) h =
      subst (λ u. SameResult (on_told (told e w news) (λ x. all_told e x later)) (on_told (told changed u news) (λ x. all_told changed x later))) (sym h.is)
      (by_result (told e w news) (told changed (restated w h.births h.freed h.gone h.drawn) news) (news-same w h.births h.freed h.gone h.drawn h.same news) (λ x y is. told-same x y later is))
    where
      by_result : (r q : Result Story Full) → SameResult r q → ((x y : Story) → IsRestated x y → SameResult (all_told e x later) (all_told changed y later)) → SameResult (on_told r (λ x. all_told e x later)) (on_told q (λ x. all_told changed x later))
      by_result (Ok x) q (y, same, is) go = subst (λ p. SameResult (all_told e x later) (on_told p (λ z. all_told changed z later))) (sym same) (go x y is)
      by_result (Err full) q same go = ap (λ p. on_told p (λ z. all_told changed z later)) same
