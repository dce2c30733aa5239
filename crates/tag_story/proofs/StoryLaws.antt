-- Each birth and each death keeps what holds of every story.
use Rattle.std.proofs.Common.{◌≡◌, ℕ, zero, suc, ◌+◌, ◌-◌, ◌*◌, ◌%◌, ◌<◌, ◌≤◌, Bool, true, false, not, ◌==◌, List, [], ◌∷◌, ◌++◌, length, slice_get, Some, ◌⊎◌, inl, inr, refl, sym, ◌∙◌, ap, subst, arith}
use Rattle.std.specs.List.{filter}
use Rattle.std.proofs.lemmas.Bool.{cases_eq, cases_lt}
use Rattle.std.proofs.lemmas.Bool.Decides.{nat_tests}
use Rattle.hw_base.specs.AddressMap.{rounded_size, frame_size}
use Rattle.hw_base.specs.declared.pointers.Site.{Site}
use Rattle.hw_tags.specs.Tag.{heap_tag_of, free_tag_of}
use Rattle.hw_tags.proofs.TagLemmas.{heap_tag_of_lowest, heap_tag_of_highest, free_tag_of_lowest, free_tag_of_highest, free_tag_of_not_old}
use Rattle.ir_meaning.specs.Births.{Region, Globals, Stack, Heap, Living, is_living, changed_at}
use Rattle.tag_story.specs.Story.{StorySetting, Placed, StoryBirth, OpenFrame, FreedBlock, EndedFrame, Story}
use Rattle.tag_story.specs.Telling.{with_birth, variables_from, lowest, stack_end, stack_size, ended, frame_ended, block_freed}
use Rattle.tag_story.specs.StoryFacts.{HasRoom, IsInRegion, HasTag, IsObject, AreApart, AreUpwards, IsListed, IsListedIn, IsLaidOut}
use Rattle.tag_story.proofs.StoryLists.{pushed-cases, changed-cases, filter-get, get-filter}
use Rattle.tag_story.proofs.BirthPlaces.{aligned-sum, aligned-product, frame_size-aligned, stack-inside, stacks-apart, stack-length, AreVariables, variables-laid, lowest-below, lowest-is, IsBlockPlace}

-- ---- one more birth

-- what has to hold of what is born: of the new objects by themselves, beside the living ones, and of the frames' list
pub record AreNew (e : StorySetting) (w : Story) (region : Region) (task : ℕ) (objects : List Placed) (frames : List OpenFrame) : Type 0 where
  pub aligned : (k : ℕ) (x : Placed) → slice_get objects k ≡ Some x → x.at % 16 ≡ 0
  pub inside : (k : ℕ) (x : Placed) → slice_get objects k ≡ Some x → IsInRegion e region task x
  pub tagged : (k : ℕ) (x : Placed) → slice_get objects k ≡ Some x → HasTag region x
  pub inner : (k j : ℕ) (x y : Placed) → slice_get objects k ≡ Some x → slice_get objects j ≡ Some y → AreApart x y ⊎ (k ≡ j)
  pub outer : (k m j : ℕ) (c : StoryBirth) (x y : Placed) → slice_get objects k ≡ Some x → IsObject w.births m j c y → is_living c.life ≡ true → AreApart x y
  pub listed : (k : ℕ) (x : Placed) → slice_get objects k ≡ Some x → IsListedIn region frames (length w.births) task x
  pub kept : (n t : ℕ) (x : Placed) → IsListed w.frames n t x → IsListed frames n t x
  pub upwards : AreUpwards frames
  pub lows_aligned : (i : ℕ) (f : OpenFrame) → slice_get frames i ≡ Some f → f.low % 16 ≡ 0
  pub lows_inside : (i : ℕ) (f : OpenFrame) → slice_get frames i ≡ Some f
      → (e.places.stacks_at + f.task * e.places.stack_length ≤ f.low) × (f.low ≤ stack_end e.places f.task)

apart-turned : (x y : Placed) → AreApart x y → AreApart y x
apart-turned x y (inl h) = inr h
apart-turned x y (inr h) = inl h

listed-kept : (region : Region) (before after : List OpenFrame) (n task : ℕ) (x : Placed) → ((m t : ℕ) (y : Placed) → IsListed before m t y → IsListed after m t y) → IsListedIn region before n task x → IsListedIn region after n task x
listed-kept Globals before after n task x kept h = tt
listed-kept (Stack func) before after n task x kept h = kept n task x h
listed-kept Heap before after n task x kept h = tt

-- an object of a list of births with one more is an old one, or one of the new birth
object-cases : (births : List StoryBirth) (new : StoryBirth) (n k : ℕ) (b : StoryBirth) (x : Placed) → IsObject (births ++ new ∷ []) n k b x → IsObject births n k b x ⊎ ((n ≡ length births) × (b ≡ new) × (slice_get new.objects k ≡ Some x))
object-cases births new n k b x h =
    elim (pushed-cases births new n b h.there) [
      | inl old ↦ inl (record { there = old; object = h.object })
      | inr last ↦ inr (last.0, last.1, subst (λ (c : StoryBirth). slice_get c.objects k ≡ Some x) last.1 h.object)
    ]

pub born-laid : (e : StorySetting) (w : Story) (region : Region) (task : ℕ) (chain : List Site) (objects : List Placed) (frames : List OpenFrame) (heap_size : ℕ) → IsLaidOut e w → AreNew e w region task objects frames → IsLaidOut e (record (with_birth w region task chain objects) { frames = frames; heap_size = heap_size })
born-laid e w region task chain objects frames heap_size laid new =
    record {
      aligned = λ n k b x h. elim (cases n k b x h) [ inl old ↦ laid.aligned n k b x old | inr last ↦ new.aligned k x last.2 ];
      inside = λ n k b x h. elim (cases n k b x h) [
        | inl old ↦ laid.inside n k b x old
        | inr last ↦ subst (λ (c : StoryBirth). IsInRegion e c.region c.task x) (sym last.1) (new.inside k x last.2)
      ];
      tagged = λ n k b x h. elim (cases n k b x h) [
        | inl old ↦ laid.tagged n k b x old
        | inr last ↦ subst (λ (c : StoryBirth). HasTag c.region x) (sym last.1) (new.tagged k x last.2)
      ];
      apart = apart_at;
      listed = λ n k b x h alive. elim (cases n k b x h) [
        | inl old ↦ listed-kept b.region w.frames frames n b.task x new.kept (laid.listed n k b x old alive)
        | inr last ↦
            let at_end : IsListedIn region frames (length w.births) task x = new.listed k x last.2 in
            let numbered : IsListedIn region frames n task x = subst (λ m. IsListedIn region frames m task x) (sym last.0) at_end in
            subst (λ (c : StoryBirth). IsListedIn c.region frames n c.task x) (sym last.1) numbered
      ];
      upwards = new.upwards;
      lows_aligned = new.lows_aligned;
      lows_inside = new.lows_inside;
      freed_tags = laid.freed_tags;
    }
  where
    birth : StoryBirth
    birth = record { region = region; task = task; born = chain; life = Living; objects = objects }

    cases : (n k : ℕ) (b : StoryBirth) (x : Placed) → IsObject (w.births ++ birth ∷ []) n k b x → IsObject w.births n k b x ⊎ ((n ≡ length w.births) × (b ≡ birth) × (slice_get objects k ≡ Some x))
    cases n k b x h = object-cases w.births birth n k b x h

    apart_at : (n k m j : ℕ) (b c : StoryBirth) (x y : Placed) → IsObject (w.births ++ birth ∷ []) n k b x → IsObject (w.births ++ birth ∷ []) m j c y → is_living b.life ≡ true → is_living c.life ≡ true → AreApart x y ⊎ ((n ≡ m) × (k ≡ j))
    apart_at n k m j b c x y h g alive living =
        elim (cases n k b x h) [
          | inl old ↦ elim (cases m j c y g) [
            | inl other ↦ laid.apart n k m j b c x y old other alive living
            | inr last ↦ inl (apart-turned y x (new.outer j n k b y x last.2 old alive))
          ]
          | inr first ↦ elim (cases m j c y g) [
            | inl other ↦ inl (new.outer k m j c x y first.2 other living)
            | inr last ↦ elim (new.inner k j x y first.2 last.2) [ inl h ↦ inl h | inr same ↦ inr (first.0 ∙ sym last.0, same) ]
          ]
        ]

-- ---- blocks

in-stack-below : (e : StorySetting) (func task : ℕ) (y : Placed) → HasRoom e → IsInRegion e (Stack func) task y → y.at + rounded_size y.size ≤ e.places.heap_at
in-stack-below e func task y room h =
    let below = room.stacks_below in
    let inside = stack-inside e task h.0 in
    let end = h.2 in
    omega (arith, below, inside, end)

-- an object that isn't in the heap is below it
below-heap : (e : StorySetting) (w : Story) (m j : ℕ) (c : StoryBirth) (y : Placed) (region : Region) → HasRoom e → c.region ≡ region → (region ≡ Heap → ⊥) → IsInRegion e region c.task y → y.at + rounded_size y.size ≤ e.places.heap_at
below-heap e w m j c y Globals room is other h =
    let stacks = room.stacks_below in
    let globals = room.globals_below in
    let end = h.1 in
    omega (arith, stacks, globals, end)
below-heap e w m j c y (Stack func) room is other h = in-stack-below e func c.task y room h
below-heap e w m j c y Heap room is other h = absurd (other refl)

one-item : {X : Type 0} (x y : X) (k : ℕ) → slice_get (x ∷ []) k ≡ Some y → (k ≡ 0) × (x ≡ y)
one-item x y zero e = (refl, cc)
one-item x y (suc k) e = absurd cc

pub block-new : (e : StorySetting) (w : Story) (task at size word : ℕ) → HasRoom e → IsLaidOut e w → IsBlockPlace e w size at → AreNew e w Heap task (record { at = at; size = size; tag = heap_tag_of word } ∷ []) w.frames
block-new e w task at size word room laid place =
    record {
      aligned = λ k x h. of_one k x h (λ y. y.at % 16 ≡ 0) aligned_at;
      inside = λ k x h. of_one k x h (IsInRegion e Heap task) (place.low, place.high);
      tagged = λ k x h. of_one k x h (HasTag Heap) (heap_tag_of_lowest word, tag_below);
      inner = λ k j x y h g. let first = (one-item block x k h).0 in let second = (one-item block y j g).0 in inr (first ∙ sym second);
      outer = outer_at;
      listed = λ k x h. tt;
      kept = λ n t x h. h;
      upwards = laid.upwards;
      lows_aligned = laid.lows_aligned;
      lows_inside = laid.lows_inside;
    }
  where
    block : Placed
    block = record { at = at; size = size; tag = heap_tag_of word }

    of_one : (k : ℕ) (x : Placed) → slice_get (block ∷ []) k ≡ Some x → (C : Placed → Type 0) → C block → C x
    of_one k x h C holds = subst C (one-item block x k h).1 holds

    tag_below : heap_tag_of word < 256
    tag_below = let most = heap_tag_of_highest word in omega (arith, most)

    aligned_at : at % 16 ≡ 0
    aligned_at = let steps = place.in_steps in let start = room.heap_aligned in let low = place.low in omega (arith, steps, start, low)

    by_region : (m j : ℕ) (c : StoryBirth) (y : Placed) (region : Region) → c.region ≡ region → IsObject w.births m j c y → is_living c.life ≡ true → AreApart block y
    by_region m j c y Globals is g living =
        let below = below-heap e w m j c y Globals room is (λ k. absurd cc) (subst (λ r. IsInRegion e r c.task y) is (laid.inside m j c y g)) in
        let low = place.low in inr (omega (arith, below, low))
    by_region m j c y (Stack func) is g living =
        let below = below-heap e w m j c y (Stack func) room is (λ k. absurd cc) (subst (λ r. IsInRegion e r c.task y) is (laid.inside m j c y g)) in
        let low = place.low in inr (omega (arith, below, low))
    by_region m j c y Heap is g living = place.apart m j c y g is living

    outer_at : (k m j : ℕ) (c : StoryBirth) (x y : Placed) → slice_get (block ∷ []) k ≡ Some x → IsObject w.births m j c y → is_living c.life ≡ true → AreApart x y
    outer_at k m j c x y h g living = of_one k x h (λ z. AreApart z y) (by_region m j c y c.region refl g living)

-- ---- frames

pub frame-new : (e : StorySetting) (w : Story) (func task word : ℕ) (sizes : List ℕ) → HasRoom e → IsLaidOut e w → task < e.places.most_tasks → stack_size e w task + frame_size sizes ≤ e.places.stack_length → AreNew e w (Stack func) task (variables_from word 0 (lowest e w task - frame_size sizes) sizes) (record { birth = length w.births; task = task; low = lowest e w task - frame_size sizes } ∷ w.frames)
frame-new e w func task word sizes room laid there fits =
    record {
      aligned = vars.aligned;
      inside = λ k x h. let inside = vars.inside k x h in let a = inside.0 in let b = inside.1 in (there, omega (arith, a, low_high), omega (arith, b, low_end, top));
      tagged = vars.tagged;
      inner = vars.apart;
      outer = outer_at;
      listed = λ k x h. record { i = 0; frame = new; there = refl; birth = refl; task = refl; low = (vars.inside k x h).0 };
      kept = λ n t x h. record { i = suc h.i; frame = h.frame; there = h.there; birth = h.birth; task = h.task; low = h.low };
      upwards = (λ i g h same. let below = lowest-below task end w.frames i g laid.upwards h same in omega (arith, below, low_end), laid.upwards);
      lows_aligned = aligned_at;
      lows_inside = inside_at;
    }
  where
    end : ℕ
    end = stack_end e.places task

    low : ℕ
    low = lowest e w task - frame_size sizes

    new : OpenFrame
    new = record { birth = length w.births; task = task; low = low }

    length_is : end ≡ e.places.stacks_at + task * e.places.stack_length + e.places.stack_length
    length_is = stack-length e task

    top : lowest e w task ≤ end
    top = elim (lowest-is task end w.frames) [
      | inl is ↦ omega (arith, is)
      | inr some ↦
          let inside = (laid.lows_inside some.0 some.1 some.2).1 in
          let own : stack_end e.places some.1.task ≡ end = ap (stack_end e.places) some.3 in
          let is = some.4 in
          omega (arith, inside, own, is)
    ]

    start_aligned : e.places.stacks_at % 16 ≡ 0
    start_aligned = room.stacks_aligned

    end_aligned : end % 16 ≡ 0
    end_aligned = aligned-sum e.places.stacks_at ((task + 1) * e.places.stack_length) room.stacks_aligned (aligned-product (task + 1) e.places.stack_length room.stack_aligned)

    lowest_aligned : lowest e w task % 16 ≡ 0
    lowest_aligned = elim (lowest-is task end w.frames) [
      | inl is ↦ ap (λ n. n % 16) is ∙ end_aligned
      | inr some ↦ ap (λ n. n % 16) some.4 ∙ laid.lows_aligned some.0 some.1 some.2
    ]

    size_aligned : frame_size sizes % 16 ≡ 0
    size_aligned = frame_size-aligned sizes

    low_high : e.places.stacks_at + task * e.places.stack_length ≤ low
    low_high = omega (arith, fits, length_is, top)

    low_end : low + frame_size sizes ≡ lowest e w task
    low_end = omega (arith, fits, length_is, top)

    low_aligned : low % 16 ≡ 0
    low_aligned = omega (arith, low_end, lowest_aligned, size_aligned)

    vars : AreVariables low (low + frame_size sizes) (variables_from word 0 low sizes)
    vars = variables-laid word 0 low sizes low_aligned

    aligned_at : (i : ℕ) (f : OpenFrame) → slice_get (new ∷ w.frames) i ≡ Some f → f.low % 16 ≡ 0
    aligned_at zero f h = let is : new ≡ f = cc in subst (λ (g : OpenFrame). g.low % 16 ≡ 0) is low_aligned
    aligned_at (suc i) f h = laid.lows_aligned i f h

    inside_at : (i : ℕ) (f : OpenFrame) → slice_get (new ∷ w.frames) i ≡ Some f → (e.places.stacks_at + f.task * e.places.stack_length ≤ f.low) × (f.low ≤ stack_end e.places f.task)
    inside_at zero f h = let is : new ≡ f = cc in subst (λ (g : OpenFrame). (e.places.stacks_at + g.task * e.places.stack_length ≤ g.low) × (g.low ≤ stack_end e.places g.task)) is (low_high, omega (arith, low_end, top))
    inside_at (suc i) f h = laid.lows_inside i f h

    in_frame : (k : ℕ) (x : Placed) → slice_get (variables_from word 0 low sizes) k ≡ Some x → (low ≤ x.at) × (x.at + rounded_size x.size ≤ lowest e w task)
    in_frame k x h = let inside = vars.inside k x h in let b = inside.1 in (inside.0, omega (arith, b, low_end))

    by_task : (m j : ℕ) (c : StoryBirth) (x y : Placed) → (low ≤ x.at) × (x.at + rounded_size x.size ≤ lowest e w task) → IsInRegion e (Stack 0) c.task y → IsListed w.frames m c.task y → AreApart x y
    by_task m j c x y within inside is_listed =
        let begins = within.0 in
        let ends = within.1 in
        let from = inside.1 in
        let to = inside.2 in
        elim (cases_eq c.task task) [
          | inl same ↦
              let below = lowest-below task end w.frames is_listed.i is_listed.frame laid.upwards is_listed.there (is_listed.task ∙ same) in
              let at = is_listed.low in
              inl (omega (arith, ends, below, at))
          | inr other ↦ elim (cases_lt task c.task) [
            | inl before ↦ let between = stacks-apart e task c.task before in inl (omega (arith, ends, top, between, from))
            | inr after ↦
                let strictly : c.task < task = omega (arith, after, other) in
                let between = stacks-apart e c.task task strictly in
                inr (omega (arith, to, between, low_high, begins))
          ]
        ]

    by_region : (m j : ℕ) (c : StoryBirth) (x y : Placed) (region : Region) → c.region ≡ region → (low ≤ x.at) × (x.at + rounded_size x.size ≤ lowest e w task) → IsInRegion e region c.task y → IsListedIn region w.frames m c.task y → AreApart x y
    by_region m j c x y Globals is within inside is_listed =
        let globals = room.globals_below in
        let to = inside.1 in
        let begins = within.0 in
        inr (omega (arith, to, globals, low_high, begins))
    by_region m j c x y (Stack f) is within inside is_listed = by_task m j c x y within inside is_listed
    by_region m j c x y Heap is within inside is_listed =
        let stacks = room.stacks_below in
        let own = stack-inside e task there in
        let from = inside.0 in
        let ends = within.1 in
        inl (omega (arith, ends, top, own, stacks, from))

    outer_at : (k m j : ℕ) (c : StoryBirth) (x y : Placed) → slice_get (variables_from word 0 low sizes) k ≡ Some x → IsObject w.births m j c y → is_living c.life ≡ true → AreApart x y
    outer_at k m j c x y h g living = by_region m j c x y c.region refl (in_frame k x h) (laid.inside m j c y g) (laid.listed m j c y g living)

-- ---- deaths

-- an object after a death was there before, with the same birth but for its life; what lives is of another birth
died-cases : (births : List StoryBirth) (number task : ℕ) (chain : List Site) (n k : ℕ) (b : StoryBirth) (x : Placed) → IsObject (changed_at (ended task chain) births number) n k b x → (c : StoryBirth) × IsObject births n k c x × (b.region ≡ c.region) × (b.task ≡ c.task) × (is_living b.life ≡ true → (is_living c.life ≡ true) × (n ≡ number → ⊥))
died-cases births number task chain n k b x h =
    let (old, there, kind) = changed-cases (ended task chain) births number n b h.there in
    elim kind [
      | inl other ↦ (
        old,
        record { there = there; object = subst (λ (c : StoryBirth). slice_get c.objects k ≡ Some x) other.0 h.object },
        ap (λ (c : StoryBirth). c.region) other.0,
        ap (λ (c : StoryBirth). c.task) other.0,
        λ alive. (subst (λ (c : StoryBirth). is_living c.life ≡ true) other.0 alive, other.1),
      )
      | inr here ↦ (
        old,
        record { there = there; object = subst (λ (c : StoryBirth). slice_get c.objects k ≡ Some x) here.0 h.object },
        ap (λ (c : StoryBirth). c.region) here.0,
        ap (λ (c : StoryBirth). c.task) here.0,
        λ alive. let dead : is_living b.life ≡ false = ap (λ (c : StoryBirth). is_living c.life) here.0 in absurd cc,
      )
    ]

upwards-filtered : (p : OpenFrame → Bool) (frames : List OpenFrame) → AreUpwards frames → AreUpwards (filter p frames)
upwards-filtered p [] up = tt
upwards-filtered p (f ∷ frames) up = by_test (p f) refl (upwards-filtered p frames up.1)
  where
    by_test : (t : Bool) → p f ≡ t → AreUpwards (filter p frames) → AreUpwards (filter p (f ∷ frames))
    by_test true is later =
        let kept : filter p (f ∷ frames) ≡ f ∷ filter p frames = rw is refl in
        subst AreUpwards (sym kept) ((λ i g h same. let old = filter-get p frames i g h in up.0 old.j g old.there same), later)
    by_test false is later =
        let kept : filter p (f ∷ frames) ≡ filter p frames = rw is refl in
        subst AreUpwards (sym kept) later

-- a story after a death: the births have one that is dead, the frames are filtered, and the freed blocks are these
died-laid : (e : StorySetting) (w : Story) (number task : ℕ) (chain : List Site) (p : OpenFrame → Bool) (heap_size : ℕ) (freed : List FreedBlock) (ended_frames : List EndedFrame) (drawn : ℕ) → IsLaidOut e w → ((f : OpenFrame) → (f.birth ≡ number → ⊥) → p f ≡ true) → ((i : ℕ) (x : FreedBlock) → slice_get freed i ≡ Some x → (16 ≤ x.free_tag) × (x.free_tag < 256) × (x.free_tag ≡ x.block.tag → ⊥)) → IsLaidOut e (record { births = changed_at (ended task chain) w.births number; frames = filter p w.frames; heap_size = heap_size; freed = freed; ended = ended_frames; drawn = drawn })
died-laid e w number task chain p heap_size freed ended_frames drawn laid passes tags =
    record {
      aligned = λ n k b x h. let (c, old, region, own, life) = cases n k b x h in laid.aligned n k c x old;
      inside = λ n k b x h.
          let (c, old, region, own, life) = cases n k b x h in
          let before : IsInRegion e b.region c.task x = subst (λ r. IsInRegion e r c.task x) (sym region) (laid.inside n k c x old) in
          subst (λ t. IsInRegion e b.region t x) (sym own) before;
      tagged = λ n k b x h. let (c, old, region, own, life) = cases n k b x h in subst (λ r. HasTag r x) (sym region) (laid.tagged n k c x old);
      apart = λ n k m j b c x y h g alive living.
          let (b0, old, r, t, life) = cases n k b x h in
          let (c0, other, s, u, lives) = cases m j c y g in
          laid.apart n k m j b0 c0 x y old other (life alive).0 (lives living).0;
      listed = λ n k b x h alive.
          let (c, old, region, own, life) = cases n k b x h in
          let lives = life alive in
          let before : IsListedIn c.region w.frames n c.task x = laid.listed n k c x old lives.0 in
          let here : IsListedIn b.region w.frames n b.task x = subst (λ t. IsListedIn b.region w.frames n t x) (sym own) (subst (λ r. IsListedIn r w.frames n c.task x) (sym region) before) in
          listed_after b.region n b.task x lives.1 here;
      upwards = upwards-filtered p w.frames laid.upwards;
      lows_aligned = λ i f h. let old = filter-get p w.frames i f h in laid.lows_aligned old.j f old.there;
      lows_inside = λ i f h. let old = filter-get p w.frames i f h in laid.lows_inside old.j f old.there;
      freed_tags = tags;
    }
  where
    cases : (n k : ℕ) (b : StoryBirth) (x : Placed) → IsObject (changed_at (ended task chain) w.births number) n k b x → (c : StoryBirth) × IsObject w.births n k c x × (b.region ≡ c.region) × (b.task ≡ c.task) × (is_living b.life ≡ true → (is_living c.life ≡ true) × (n ≡ number → ⊥))
    cases n k b x h = died-cases w.births number task chain n k b x h

    listed_after : (region : Region) (n t : ℕ) (x : Placed) → (n ≡ number → ⊥) → IsListedIn region w.frames n t x → IsListedIn region (filter p w.frames) n t x
    listed_after Globals n t x other h = tt
    listed_after (Stack func) n t x other h =
        let (i, there) = get-filter p w.frames h.i h.frame h.there (passes h.frame (λ same. other (sym h.birth ∙ same))) in
        record { i = i; frame = h.frame; there = there; birth = h.birth; task = h.task; low = h.low }
    listed_after Heap n t x other h = tt

not-equal : (a b : ℕ) → (a ≡ b → ⊥) → not (a == b) ≡ true
not-equal a b h = grind (arith, nat_tests)

all-kept : (frames : List OpenFrame) → filter (λ (f : OpenFrame). true) frames ≡ frames
all-kept [] = refl
all-kept (f ∷ frames) = ap (λ fs. f ∷ fs) (all-kept frames)

pub frame-died : (e : StorySetting) (w : Story) (number task : ℕ) (chain : List Site) → IsLaidOut e w → IsLaidOut e (frame_ended w number task chain)
frame-died e w number task chain laid =
    died-laid e w number task chain (λ (f : OpenFrame). not (f.birth == number)) w.heap_size w.freed (record { birth = number; task = task } ∷ w.ended) w.drawn laid
    (λ f other. not-equal f.birth number other) laid.freed_tags

pub block-died : (e : StorySetting) (w : Story) (number task : ℕ) (chain : List Site) (block : Placed) → IsLaidOut e w → IsLaidOut e (block_freed e w number task chain block)
block-died e w number task chain block laid =
    subst (λ frames. IsLaidOut e (record (block_freed e w number task chain block) { frames = frames })) (all-kept w.frames)
    (died-laid e w number task chain (λ (f : OpenFrame). true) (w.heap_size - rounded_size block.size) (new ∷ w.freed) w.ended (w.drawn + 1) laid (λ f other. refl) tags)
  where
    new : FreedBlock
    new = record { birth = number; task = task; block = block; free_tag = free_tag_of (e.word w.drawn) block.tag }

    tags : (i : ℕ) (x : FreedBlock) → slice_get (new ∷ w.freed) i ≡ Some x → (16 ≤ x.free_tag) × (x.free_tag < 256) × (x.free_tag ≡ x.block.tag → ⊥)
    tags zero x h =
        let is : new ≡ x = cc in
        let most = free_tag_of_highest (e.word w.drawn) block.tag in
        subst (λ (y : FreedBlock). (16 ≤ y.free_tag) × (y.free_tag < 256) × (y.free_tag ≡ y.block.tag → ⊥)) is
        (free_tag_of_lowest (e.word w.drawn) block.tag, omega (arith, most), free_tag_of_not_old (e.word w.drawn) block.tag)
    tags (suc i) x h = laid.freed_tags i x h
