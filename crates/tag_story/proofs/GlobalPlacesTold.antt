-- The places that globals have in the story.
use Rattle.std.proofs.Common.{◌≡◌, ℕ, ◌+◌, ◌%◌, ◌<◌, ◌≤◌, Bool, true, false, List, [], map, slice_get, Option, Some, None, option_map, ◌⊎◌, inl, inr, refl, ◌∙◌, ap, subst, arith, take}
use Rattle.std.proofs.lemmas.Bool.{cases_eq, cases_lt, cond-true, cond-false}
use Rattle.std.proofs.lemmas.Option.{slice_get-map}
use Rattle.hw_tags.proofs.TagLemmas.{global_tag_of_lowest, global_tag_of_highest}
use Rattle.ir_core.specs.declared.ir_module.GlobalVar.{GlobalVar}
use Rattle.global_tags.specs.GlobalPlaces.{constants_size, variables_size, variables_at, place_of_global, descriptor_of, descriptors_of}
use Rattle.global_tags.proofs.GlobalLemmas.{get-descriptors, get-descriptors-none, constants-within, variables-within, constants-between, variables-between, place-aligned}
use Rattle.ir_meaning.specs.Births.{Globals}
use Rattle.tag_story.specs.Story.{StorySetting, Placed, StoryBirth, Story}
use Rattle.tag_story.specs.Telling.{global_placed}
use Rattle.tag_story.specs.StoryFacts.{HasRoom, IsInRegion, HasTag, AreApart, IsLaidOut}
use Rattle.tag_story.proofs.StoryLaws.{AreNew}

-- the placed globals of a setting, for a tag word
abbrev pub placed_globals : StorySetting → (word : ℕ) → List Placed
placed_globals e word = map global_placed (descriptors_of e.places e.program.layouts e.program.globals word)

-- global k, where it is placed
abbrev pub placed_global : StorySetting → (word k : ℕ) → GlobalVar → Placed
placed_global e word k g = global_placed (descriptor_of e.places e.program.layouts e.program.globals word k g)

-- a placed global is a global of the module
pub placed-is : (e : StorySetting) (word k : ℕ) (x : Placed) → slice_get (placed_globals e word) k ≡ Some x → (g : GlobalVar) × (slice_get e.program.globals k ≡ Some g) × (placed_global e word k g ≡ x)
placed-is e word k x h = by_global (slice_get e.program.globals k) refl
  where
    mapped : slice_get (placed_globals e word) k ≡ option_map global_placed (slice_get (descriptors_of e.places e.program.layouts e.program.globals word) k)
    mapped = slice_get-map global_placed (descriptors_of e.places e.program.layouts e.program.globals word) k

    by_global : (o : Option GlobalVar) → slice_get e.program.globals k ≡ o → (g : GlobalVar) × (slice_get e.program.globals k ≡ Some g) × (placed_global e word k g ≡ x)
    by_global None here =
        let none : slice_get (placed_globals e word) k ≡ None = mapped ∙ ap (option_map global_placed) (get-descriptors-none e.places e.program.layouts e.program.globals word k here) in
        absurd cc
    by_global (Some g) here =
        let some : slice_get (placed_globals e word) k ≡ Some (placed_global e word k g) = mapped ∙ ap (option_map global_placed) (get-descriptors e.places e.program.layouts e.program.globals word k g here) in
        (g, here, cc)

-- where a global is, by whether it is a constant
constant-at : (e : StorySetting) (word k : ℕ) (g : GlobalVar) → g.constant ≡ true → (placed_global e word k g).at ≡ place_of_global e.places e.program.layouts e.program.globals k g
constant-at e word k g c = refl

constant-from : (e : StorySetting) (k : ℕ) (g : GlobalVar) → g.constant ≡ true → e.places.globals_at ≤ place_of_global e.places e.program.layouts e.program.globals k g
constant-from e k g c =
    let is = cond-true g.constant (e.places.globals_at + constants_size e.program.layouts (take k e.program.globals)) (variables_at e.places e.program.layouts e.program.globals + variables_size e.program.layouts (take k e.program.globals)) c in
    omega (arith, is)

variable-from : (e : StorySetting) (k : ℕ) (g : GlobalVar) → g.constant ≡ false → variables_at e.places e.program.layouts e.program.globals ≤ place_of_global e.places e.program.layouts e.program.globals k g
variable-from e k g c =
    let is = cond-false g.constant (e.places.globals_at + constants_size e.program.layouts (take k e.program.globals)) (variables_at e.places e.program.layouts e.program.globals + variables_size e.program.layouts (take k e.program.globals)) c in
    omega (arith, is)

-- the constants end at or before the variables
constants-first : (e : StorySetting) → e.places.globals_at + constants_size e.program.layouts e.program.globals ≤ variables_at e.places e.program.layouts e.program.globals
constants-first e = omega arith

global-inside : (e : StorySetting) (word k : ℕ) (g : GlobalVar) (t : Bool) → g.constant ≡ t → slice_get e.program.globals k ≡ Some g → IsInRegion e Globals 0 (placed_global e word k g)
global-inside e word k g true c h =
    let from = constant-from e k g c in
    let to = constants-within e.places e.program.layouts e.program.globals k g h c in
    let first = constants-first e in
    (from, omega (arith, to, first))
global-inside e word k g false c h =
    let from = variable-from e k g c in
    let to = variables-within e.places e.program.layouts e.program.globals k g h c in
    let first = constants-first e in
    (omega (arith, from, first), to)

globals-apart : (e : StorySetting) (word k j : ℕ) (g h : GlobalVar) (s t : Bool) → g.constant ≡ s → h.constant ≡ t → slice_get e.program.globals k ≡ Some g → slice_get e.program.globals j ≡ Some h → k < j → AreApart (placed_global e word k g) (placed_global e word j h)
globals-apart e word k j g h true true c d at to below = inl (constants-between e.places e.program.layouts e.program.globals k j g h below at c d)
globals-apart e word k j g h true false c d at to below =
    let ends = constants-within e.places e.program.layouts e.program.globals k g at c in
    let first = constants-first e in
    let from = variable-from e j h d in
    inl (omega (arith, ends, first, from))
globals-apart e word k j g h false true c d at to below =
    let ends = constants-within e.places e.program.layouts e.program.globals j h to d in
    let first = constants-first e in
    let from = variable-from e k g c in
    inr (omega (arith, ends, first, from))
globals-apart e word k j g h false false c d at to below = inl (variables-between e.places e.program.layouts e.program.globals k j g h below at c d)

turned : (x y : Placed) → AreApart x y → AreApart y x
turned x y (inl h) = inr h
turned x y (inr h) = inl h

-- the globals are born first, so that nothing is beside them
pub globals-new : (e : StorySetting) (w : Story) (word : ℕ) → HasRoom e → IsLaidOut e w → w.births ≡ [] → AreNew e w Globals 0 (placed_globals e word) w.frames
globals-new e w word room laid first =
    record {
      aligned = λ k x h. let (g, there, is) = placed-is e word k x h in
          subst (λ (y : Placed). y.at % 16 ≡ 0) is (place-aligned e.places e.program.layouts e.program.globals k g room.globals_aligned);
      inside = λ k x h. let (g, there, is) = placed-is e word k x h in
          subst (IsInRegion e Globals 0) is (global-inside e word k g g.constant refl there);
      tagged = λ k x h. let (g, there, is) = placed-is e word k x h in
          let most = global_tag_of_highest word k in
          subst (HasTag Globals) is (global_tag_of_lowest word k, omega (arith, most));
      inner = inner_at;
      outer = λ k m j c x y h old living. let none : slice_get {X = StoryBirth} [] m ≡ Some c = subst (λ (births : List StoryBirth). slice_get births m ≡ Some c) first old.there in absurd cc;
      listed = λ k x h. tt;
      kept = λ n t x h. h;
      upwards = laid.upwards;
      lows_aligned = laid.lows_aligned;
      lows_inside = laid.lows_inside;
    }
  where
    inner_at : (k j : ℕ) (x y : Placed) → slice_get (placed_globals e word) k ≡ Some x → slice_get (placed_globals e word) j ≡ Some y → AreApart x y ⊎ (k ≡ j)
    inner_at k j x y h f =
        let (g, there, is) = placed-is e word k x h in
        let (d, found, also) = placed-is e word j y f in
        elim (cases_eq k j) [
          | inl same ↦ inr same
          | inr other ↦ elim (cases_lt k j) [
            | inl before ↦ inl (subst (λ z. AreApart z y) is (subst (λ z. AreApart (placed_global e word k g) z) also (globals-apart e word k j g d g.constant d.constant refl refl there found before)))
            | inr after ↦ inl (subst (λ z. AreApart z y) is (subst (λ z. AreApart (placed_global e word k g) z) also (turned (placed_global e word j d) (placed_global e word k g) (globals-apart e word j k d g d.constant g.constant refl refl found there (omega arith)))))
          ]
        ]
