-- The living frames of a task in the story: the newest one, and those of other tasks.
use Rattle.std.proofs.Common.{◌≡◌, ◌≢◌, ℕ, zero, suc, ◌+◌, ◌*◌, ◌<◌, ◌≤◌, ◌==◌, Bool, true, false, not, if◌then◌else◌, List, [], ◌∷◌, map, take, slice_get, Some, ◌⊎◌, inl, inr, refl, sym, ◌∙◌, ap, subst, arith}
use Rattle.std.specs.List.{filter}
use Rattle.std.proofs.lemmas.Bool.{cases_lt, eqb-true}
use Rattle.std.proofs.lemmas.Bool.Decides.{nat_tests}
use Rattle.dbg_sites.specs.ChainTable.{ChainEntry}
use Rattle.hw_base.specs.AddressMap.{rounded_size, frame_size}
use Rattle.stack_tags.specs.Frames.{LivingFrame, top_above}
use Rattle.tag_story.proofs.Owners.{covers-true}
use Rattle.tag_story.proofs.StoryLists.{filter-get}
use Rattle.tag_story.specs.Story.{Placed, StoryBirth, OpenFrame}
use Rattle.tag_story.specs.Telling.{lowest_from, variables_from}
use Rattle.simulation.proofs.BirthOwners.{OneCovers}
use Rattle.simulation.specs.Parts.{AreEach, IsFrameOf, frames_of_task}
use Rattle.stack_tags.proofs.FrameLemmas.{frame_size-cons}
use Rattle.hw_tags.specs.Tag.{frame_tag_of}

-- ---- the lowest frame

abbrev first_low : ℕ → List OpenFrame → ℕ
first_low end [] = end
first_low end (frame ∷ frames) = frame.low

lowest-first : (task end : ℕ) (frames : List OpenFrame) → lowest_from task end frames ≡ first_low end (frames_of_task task frames)
lowest-first task end [] = refl
lowest-first task end (frame ∷ frames) = by_test (frame.task == task) refl (lowest-first task end frames)
  where
    by_test : (bit : Bool) → (frame.task == task) ≡ bit → lowest_from task end frames ≡ first_low end (frames_of_task task frames) → (if bit then frame.low else lowest_from task end frames) ≡ first_low end (frames_of_task task (frame ∷ frames))
    by_test true is later = let kept : frames_of_task task (frame ∷ frames) ≡ frame ∷ frames_of_task task frames = rw is refl in ap (first_low end) (sym kept)
    by_test false is later = let kept : frames_of_task task (frame ∷ frames) ≡ frames_of_task task frames = rw is refl in later ∙ ap (first_low end) (sym kept)

first-same : (table : List ChainEntry) (births : List StoryBirth) (end : ℕ) (living : List LivingFrame) (frames : List OpenFrame) → AreEach (IsFrameOf table births) living frames → top_above end living ≡ first_low end frames
first-same table births end [] [] each = refl
first-same table births end [] (frame ∷ frames) each = absurd each
first-same table births end (newest ∷ living) [] each = absurd each
first-same table births end (newest ∷ living) (frame ∷ frames) each = each.0.low

-- the machine's newest frame is where the story's lowest is
pub lowest-same : (table : List ChainEntry) (births : List StoryBirth) (task end : ℕ) (living : List LivingFrame) (frames : List OpenFrame) → AreEach (IsFrameOf table births) living (frames_of_task task frames) → top_above end living ≡ lowest_from task end frames
lowest-same table births task end living frames each = first-same table births end living (frames_of_task task frames) each ∙ sym (lowest-first task end frames)

-- ---- filters

-- an item that passes comes first
pub filter-first : {X : Type 0} (p : X → Bool) (x : X) (xs : List X) → p x ≡ true → filter p (x ∷ xs) ≡ x ∷ filter p xs
filter-first p x xs passes = rw passes refl

-- one that doesn't is left out
pub filter-out : {X : Type 0} (p : X → Bool) (x : X) (xs : List X) → p x ≡ false → filter p (x ∷ xs) ≡ filter p xs
filter-out p x xs fails = rw fails refl

filter-both : {X : Type 0} (p q : X → Bool) (xs : List X) → filter p (filter q xs) ≡ filter q (filter p xs)
filter-both p q [] = refl
filter-both p q (x ∷ xs) = by_tests (p x) (q x) refl refl (filter-both p q xs)
  where
    by_tests : (s t : Bool) → p x ≡ s → q x ≡ t → filter p (filter q xs) ≡ filter q (filter p xs) → filter p (filter q (x ∷ xs)) ≡ filter q (filter p (x ∷ xs))
    by_tests true true a b later = ap (filter p) (filter-first q x xs b) ∙ filter-first p x (filter q xs) a ∙ ap (λ ys. x ∷ ys) later ∙ sym (filter-first q x (filter p xs) b) ∙ ap (filter q) (sym (filter-first p x xs a))
    by_tests true false a b later = ap (filter p) (filter-out q x xs b) ∙ later ∙ sym (filter-out q x (filter p xs) b) ∙ ap (filter q) (sym (filter-first p x xs a))
    by_tests false true a b later = ap (filter p) (filter-first q x xs b) ∙ filter-out p x (filter q xs) a ∙ later ∙ ap (filter q) (sym (filter-out p x xs a))
    by_tests false false a b later = ap (filter p) (filter-out q x xs b) ∙ later ∙ ap (filter q) (sym (filter-out p x xs a))

filter-all : {X : Type 0} (p : X → Bool) (xs : List X) → ((i : ℕ) (x : X) → slice_get xs i ≡ Some x → p x ≡ true) → filter p xs ≡ xs
filter-all p [] each = refl
filter-all p (x ∷ xs) each = filter-first p x xs (each 0 x refl) ∙ ap (λ ys. x ∷ ys) (filter-all p xs (λ i y h. each (suc i) y h))

-- ---- births of frames

-- no two frames have one birth
abbrev pub AreOnce : List OpenFrame → Type 0
AreOnce frames = (i j : ℕ) (f g : OpenFrame) → slice_get frames i ≡ Some f → slice_get frames j ≡ Some g → f.birth ≡ g.birth → i ≡ j

pub filter-once : (p : OpenFrame → Bool) (frames : List OpenFrame) → AreOnce frames → AreOnce (filter p frames)
filter-once p [] once = once
filter-once p (x ∷ xs) once = by_test (p x) refl (filter-once p xs (λ i j f g h k e. let same = once (suc i) (suc j) f g h k e in omega (arith, same)))
  where
    not_later : (j : ℕ) (g : OpenFrame) → slice_get (filter p xs) j ≡ Some g → x.birth ≡ g.birth → ⊥
    not_later j g h e = let was = filter-get p xs j g h in let same = once 0 (suc was.j) x g refl was.there e in omega (arith, same)

    first-once : AreOnce (filter p xs) → AreOnce (x ∷ filter p xs)
    first-once later zero zero f g h k e = refl
    first-once later zero (suc j) f g h k e = let same : x ≡ f = cc in absurd (not_later j g k (ap (λ (y : OpenFrame). y.birth) same ∙ e))
    first-once later (suc i) zero f g h k e = let same : x ≡ g = cc in absurd (not_later i f h (ap (λ (y : OpenFrame). y.birth) same ∙ sym e))
    first-once later (suc i) (suc j) f g h k e = ap suc (later i j f g h k e)

    by_test : (bit : Bool) → p x ≡ bit → AreOnce (filter p xs) → AreOnce (filter p (x ∷ xs))
    by_test true is later = subst AreOnce (sym (filter-first p x xs is)) (first-once later)
    by_test false is later = subst AreOnce (sym (filter-out p x xs is)) later

-- a frame is of another birth
abbrev pub is_other : (number : ℕ) → OpenFrame → Bool
is_other number frame = not (frame.birth == number)

pub other-passes : (number : ℕ) (frame : OpenFrame) → frame.birth ≢ number → is_other number frame ≡ true
other-passes number frame other = let differ : (frame.birth == number) ≡ false = grind (arith, nat_tests) in ap not differ

-- the newest frame of a task goes, and its older ones stay
pub own-left : (task : ℕ) (frames : List OpenFrame) (f : OpenFrame) (rest : List OpenFrame) → AreOnce frames → frames_of_task task frames ≡ f ∷ rest → frames_of_task task (filter (is_other f.birth) frames) ≡ rest
own-left task frames f rest once own =
    filter-both (λ (x : OpenFrame). x.task == task) (is_other f.birth) frames
    ∙ ap (filter (is_other f.birth)) own
    ∙ filter-out (is_other f.birth) f rest (let same : (f.birth == f.birth) ≡ true = grind (arith, nat_tests) in ap not same)
    ∙ filter-all (is_other f.birth) rest (λ i g h. other-passes f.birth g (λ e. let same = inner 0 (suc i) f g refl h (sym e) in omega (arith, same)))
  where
    inner : AreOnce (f ∷ rest)
    inner = subst AreOnce own (filter-once (λ (x : OpenFrame). x.task == task) frames once)

-- those of other tasks stay
pub others-left : (task other : ℕ) (frames : List OpenFrame) (f : OpenFrame) (rest : List OpenFrame) → AreOnce frames → frames_of_task task frames ≡ f ∷ rest → other ≢ task → frames_of_task other (filter (is_other f.birth) frames) ≡ frames_of_task other frames
others-left task other frames f rest once own apart =
    filter-both (λ (x : OpenFrame). x.task == other) (is_other f.birth) frames
    ∙ filter-all (is_other f.birth) (frames_of_task other frames) (λ i g h. other-passes f.birth g (differs i g h))
  where
    differs : (i : ℕ) (g : OpenFrame) → slice_get (frames_of_task other frames) i ≡ Some g → g.birth ≢ f.birth
    differs i g h e =
        let its = filter-get (λ (x : OpenFrame). x.task == other) frames i g h in
        let mine = filter-get (λ (x : OpenFrame). x.task == task) frames 0 f (ap (λ xs. slice_get xs 0) own) in
        let place = once its.j mine.j g f its.there mine.there e in
        let one : Some g ≡ Some f = sym its.there ∙ ap (slice_get frames) place ∙ mine.there in
        let same : g ≡ f = cc in
        let a = eqb-true g.task other its.passes in
        let b = eqb-true f.task task mine.passes in
        apart (sym a ∙ ap (λ (x : OpenFrame). x.task) same ∙ b)

-- ---- variables

pub variables-sizes : (word k at : ℕ) (sizes : List ℕ) → map (λ (x : Placed). x.size) (variables_from word k at sizes) ≡ sizes
unfolding variables_from
variables-sizes word k at [] = refl
variables-sizes word k at (size ∷ sizes) = ap (λ ns. size ∷ ns) (variables-sizes word (k + 1) (at + rounded_size size) sizes)

-- each granule of a frame is covered by one of its variables
pub variables-cover : (word k at g : ℕ) (sizes : List ℕ) → at ≤ 16 * g → 16 * g < at + frame_size sizes → OneCovers (variables_from word k at sizes) g
unfolding variables_from
variables-cover word k at g [] low high = absurd (omega (arith, low, high))
variables-cover word k at g (size ∷ sizes) low high =
    by_order (cases_lt (16 * g) (at + rounded_size size)) (λ past few. variables-cover word (k + 1) (at + rounded_size size) g sizes past few)
  where
    by_order : (16 * g < at + rounded_size size) ⊎ (at + rounded_size size ≤ 16 * g) → (at + rounded_size size ≤ 16 * g → 16 * g < at + rounded_size size + frame_size sizes → OneCovers (variables_from word (k + 1) (at + rounded_size size) sizes) g) → OneCovers (variables_from word k at (size ∷ sizes)) g
    by_order (inl inside) rest = record { k = 0; x = record { at = at; size = size; tag = frame_tag_of word k }; there = refl; over = covers-true (record { at = at; size = size; tag = frame_tag_of word k }) g low inside }
    by_order (inr past) rest =
        let sum = frame_size-cons size sizes in
        let later = rest past (omega (arith, high, sum)) in
        record { k = suc later.k; x = later.x; there = later.there; over = later.over }

-- variable k of a frame
pub variable-at : (word n at k : ℕ) (sizes : List ℕ) (x : Placed) → slice_get (variables_from word n at sizes) k ≡ Some x → (x.at ≡ at + frame_size (take k sizes)) × (x.tag ≡ frame_tag_of word (n + k))
unfolding variables_from
variable-at word n at k [] x h = absurd cc
variable-at word n at zero (size ∷ sizes) x h =
    let same : record { at = at; size = size; tag = frame_tag_of word n } ≡ x = cc in
    let zero_more : at ≡ at + 0 = omega arith in
    let first : n ≡ n + 0 = omega arith in
    (ap (λ (y : Placed). y.at) (sym same) ∙ zero_more, ap (λ (y : Placed). y.tag) (sym same) ∙ ap (frame_tag_of word) first)
variable-at word n at (suc k) (size ∷ sizes) x h =
    let (place, tag) = variable-at word (n + 1) (at + rounded_size size) k sizes x h in
    let sum = frame_size-cons size (take k sizes) in
    let next : n + 1 + k ≡ n + suc k = omega arith in
    (omega (arith, place, sum), tag ∙ ap (frame_tag_of word) next)
