-- Globals put into memory one by one, and the descriptors of them.
use Rattle.std.proofs.Common.{length, get_or, sym, ◌≡◌, ℕ, zero, suc, ◌+◌, ◌<◌, ◌≤◌, ◌++◌, Bool, true, false, List, [], ◌∷◌, Some, None, refl, ◌∙◌, ap, arith, take, drop, map}
use Rattle.std.specs.Prelude.{slice_get, sum_by, if◌then◌else◌}
use Rattle.std.specs.List.{enumerate_from}
use Rattle.std.proofs.lemmas.List.{take_all, drop_more, at_drop_more, length-map}
use Rattle.std.proofs.lemmas.List.FromFn.{length-enumerate_from}
use Rattle.std.proofs.lemmas.Option.{slice_get_within, get_or_from_slice_get}
use Rattle.hw_base.specs.AddressMap.{AddressMap, rounded_size, program_map}
use Rattle.hw_base.specs.Bytes.{le_bytes}
use Rattle.hw_base.specs.declared.numbers.TheConstants.{GLOBALS_AT, MOST_GLOBALS, PAGE, STACKS_AT}
use Rattle.ir_core.specs.declared.ir_module.GlobalVar.{GlobalVar}
use Rattle.ir_core.specs.declared.operands.Part.{Part}
use Rattle.ir_core.specs.declared.types.TypeLayout.{TypeLayout}
use Rattle.ir_core.specs.Layout.{align_up}
use Rattle.ir_core.specs.Runnable.{IsRunnable}
use Rattle.ir_core.specs.declared.ir_module.Module.{Module}
use Rattle.hw_tags.specs.Tag.{global_tag_of}
use Rattle.global_tags.specs.declared.places.Taken.{Taken}
use Rattle.global_tags.specs.Sums.{taken_by}
use Rattle.tbi_memory.specs.AddressSpace.{AddressSpace, with_bytes}
use Rattle.global_tags.specs.declared.descriptor.Descriptor.{Descriptor}
use Rattle.global_tags.specs.GlobalBytes.{piece_number, with_pieces, with_global, with_globals}
use Rattle.global_tags.specs.GlobalPlaces.{global_size, constants_size, variables_size, variables_at, place_of_global, descriptor_of, descriptors_of}
use Rattle.global_tags.specs.Loading.{IsPlaced, CanBeLoaded}
use Rattle.global_tags.proofs.GlobalLemmas.{both-sizes, has-room, page-after, place-aligned, variables-before}

-- ---- descriptors

-- the descriptors of the first globals
abbrev pub described_until : List TypeLayout → List GlobalVar → (word k : ℕ) → List Descriptor
described_until layouts globals word k =
    map (λ (numbered : ℕ × GlobalVar). descriptor_of (program_map 0) layouts globals word numbered.0 numbered.1) (enumerate_from 0 (take k globals))

map-enumerate-more : {A B : Type 0} (f : ℕ × A → B) (xs : List A) (from k : ℕ) (x : A) → slice_get xs k ≡ Some x
    → map f (enumerate_from from (take (suc k) xs)) ≡ map f (enumerate_from from (take k xs)) ++ f (from + k, x) ∷ []
map-enumerate-more f [] from k x h = absurd (cc)
map-enumerate-more f (y ∷ ys) from zero x h =
    let same : y ≡ x = cc in
    let e : from ≡ from + 0 = omega arith in
    ap (λ z. f (from, z) ∷ []) same ∙ ap (λ (n : ℕ). f (n, x) ∷ []) e
map-enumerate-more f (y ∷ ys) from (suc k) x h =
    let e : from + 1 + k ≡ from + suc k = omega arith in
    ap (λ zs. f (from, y) ∷ zs)
    (map-enumerate-more f ys (from + 1) k x h ∙ ap (λ (n : ℕ). map f (enumerate_from (from + 1) (take k ys)) ++ f (n, x) ∷ []) e)

-- one more descriptor
pub described-more : (layouts : List TypeLayout) (globals : List GlobalVar) (word k : ℕ) (global : GlobalVar) → slice_get globals k ≡ Some global
    → described_until layouts globals word (k + 1) ≡ described_until layouts globals word k ++ descriptor_of (program_map 0) layouts globals word k global ∷ []
described-more layouts globals word k global h =
    let n : k + 1 ≡ suc k = omega arith in
    ap (λ (i : ℕ). described_until layouts globals word i) n
    ∙ (map-enumerate-more (λ (numbered : ℕ × GlobalVar). descriptor_of (program_map 0) layouts globals word numbered.0 numbered.1) globals 0 k global h
    ∙ (let e : 0 + k ≡ k = omega arith in
    ap (λ (n : ℕ). described_until layouts globals word k ++ descriptor_of (program_map 0) layouts globals word n global ∷ []) e))

-- the descriptors of all globals; no place of a global depends on the heap's length
pub described-all : (layouts : List TypeLayout) (globals : List GlobalVar) (word k heap : ℕ) → length globals ≤ k
    → described_until layouts globals word k ≡ descriptors_of (program_map heap) layouts globals word
unfolding program_map
described-all layouts globals word k heap all =
    ap (λ gs. map (λ (numbered : ℕ × GlobalVar). descriptor_of (program_map heap) layouts globals word numbered.0 numbered.1) (enumerate_from 0 gs)) (take_all k globals all)

-- ---- places

-- what was taken leaves the variables room below the stacks
pub near-variables : (layouts : List TypeLayout) (globals : List GlobalVar) (k : ℕ) (global : GlobalVar)
    → sum_by (λ (g : GlobalVar). rounded_size (global_size layouts g)) globals ≤ MOST_GLOBALS → slice_get globals k ≡ Some global
    → align_up (GLOBALS_AT + constants_size layouts globals) PAGE + variables_size layouts (take k globals) ≤ STACKS_AT
near-variables layouts globals k global room h =
    let b = both-sizes layouts globals in
    let s = variables-before layouts globals k global h in
    let p = page-after (constants_size layouts globals) (variables_size layouts globals) (omega (arith, b, room)) in
    omega (arith, s, p)

below-choice : (t : Bool) (a b most : ℕ) → a < most → b < most → (if t then a else b) < most
below-choice true a b most h k = h
below-choice false a b most h k = k

pub placed-global : (layouts : List TypeLayout) (globals : List GlobalVar) (word k : ℕ) (global : GlobalVar)
    → sum_by (λ (g : GlobalVar). rounded_size (global_size layouts g)) globals ≤ MOST_GLOBALS → slice_get globals k ≡ Some global
    → IsPlaced (descriptor_of (program_map 0) layouts globals word k global)
unfolding program_map
placed-global layouts globals word k global room h =
    let before = has-room layouts globals k global room h in
    let near = near-variables layouts globals k global room h in
    record {
      aligned = place-aligned (program_map 0) layouts globals k global refl;
      place = below-choice global.constant (GLOBALS_AT + constants_size layouts (take k globals)) (variables_at (program_map 0) layouts globals + variables_size layouts (take k globals)) 1099511627776 (omega (arith, before)) (omega (arith, near));
    }

-- a size that a global has leaves room for it
pub small-global : (size : ℕ) → rounded_size size ≤ MOST_GLOBALS → size ≤ MOST_GLOBALS
small-global zero h = omega arith
small-global (suc n) h = omega (arith, h)

-- ---- bytes

-- one more piece
pub one-more-piece : (descriptors : List Descriptor) (space next : AddressSpace) (place n : ℕ) (piece : Part) (pieces : List Part)
    → n ≡ piece_number descriptors piece.value → next ≡ with_bytes space (place + piece.at) (le_bytes piece.size n)
    → with_pieces descriptors next place pieces ≡ with_pieces descriptors space place (piece ∷ pieces)
unfolding with_pieces
one-more-piece descriptors space next place n piece pieces number is =
    ap (λ (s : AddressSpace). with_pieces descriptors s place pieces) (is ∙ ap (λ (m : ℕ). with_bytes space (place + piece.at) (le_bytes piece.size m)) number)

pub no-more-pieces : (descriptors : List Descriptor) (space : AddressSpace) (place : ℕ) → with_pieces descriptors space place [] ≡ space
unfolding with_pieces
no-more-pieces descriptors space place = refl

-- one more global
pub one-more-global : (descriptors : List Descriptor) (space next : AddressSpace) (first : Descriptor) (rest : List Descriptor) (global : GlobalVar) (globals : List GlobalVar)
    → next ≡ with_global descriptors space first global
    → with_globals descriptors next rest globals ≡ with_globals descriptors space (first ∷ rest) (global ∷ globals)
unfolding with_globals
one-more-global descriptors space next first rest global globals is = ap (λ (s : AddressSpace). with_globals descriptors s rest globals) is

pub no-descriptors : (descriptors : List Descriptor) (space : AddressSpace) (globals : List GlobalVar) → with_globals descriptors space [] globals ≡ space
unfolding with_globals
no-descriptors descriptors space globals = refl

pub no-globals : (descriptors : List Descriptor) (space : AddressSpace) (rest : List Descriptor) → with_globals descriptors space rest [] ≡ space
unfolding with_globals
no-globals descriptors space [] = refl
no-globals descriptors space (first ∷ rest) = refl

drop-at : {A : Type 0} (xs : List A) (k : ℕ) (x : A) → slice_get xs k ≡ Some x → drop k xs ≡ x ∷ drop (k + 1) xs
drop-at xs k x h = drop_more xs k x (slice_get_within xs k x h) ∙ ap (λ y. y ∷ drop (k + 1) xs) (get_or_from_slice_get xs k x x h)

pub drop-none : {A : Type 0} (xs : List A) (k : ℕ) → slice_get xs k ≡ None → drop k xs ≡ []
drop-none [] zero h = refl
drop-none [] (suc k) h = refl
drop-none (y ∷ ys) zero h = absurd (cc)
drop-none (y ∷ ys) (suc k) h = drop-none ys k h

-- the pieces that are left, after one more of them
pub pieces-on : (descriptors : List Descriptor) (space next : AddressSpace) (place n : ℕ) (pieces : List Part) (i : ℕ) (d : Part) → i < length pieces
    → n ≡ piece_number descriptors (get_or pieces i d).value → next ≡ with_bytes space (place + (get_or pieces i d).at) (le_bytes (get_or pieces i d).size n)
    → with_pieces descriptors next place (drop (i + 1) pieces) ≡ with_pieces descriptors space place (drop i pieces)
pieces-on descriptors space next place n pieces i d below number is =
    one-more-piece descriptors space next place n (get_or pieces i d) (drop (i + 1) pieces) number is
    ∙ sym (at_drop_more (with_pieces descriptors space place) pieces i d below)

-- the globals that are left, after one more of them
pub globals-on : (descriptors : List Descriptor) (space next : AddressSpace) (beside : List Descriptor) (globals : List GlobalVar) (k : ℕ) (first : Descriptor) (global : GlobalVar)
    → slice_get beside k ≡ Some first → slice_get globals k ≡ Some global → next ≡ with_global descriptors space first global
    → with_globals descriptors next (drop (k + 1) beside) (drop (k + 1) globals) ≡ with_globals descriptors space (drop k beside) (drop k globals)
globals-on descriptors space next beside globals k first global here there is =
    one-more-global descriptors space next first (drop (k + 1) beside) global (drop (k + 1) globals) is
    ∙ (ap (λ ds. with_globals descriptors space ds (global ∷ drop (k + 1) globals)) (sym (drop-at beside k first here))
    ∙ ap (λ gs. with_globals descriptors space (drop k beside) gs) (sym (drop-at globals k global there)))

-- ---- what the loop over globals makes

pub place-here : (layouts : List TypeLayout) (globals : List GlobalVar) (k : ℕ) (global : GlobalVar) (taken : Taken) (first : ℕ)
    → taken ≡ taken_by layouts (take k globals) → first ≡ align_up (GLOBALS_AT + constants_size layouts globals) PAGE
    → (if global.constant then GLOBALS_AT + taken.constants else first + taken.variables) ≡ place_of_global (program_map 0) layouts globals k global
unfolding program_map
place-here layouts globals k global taken first taken_is first_is =
    ap (λ (t : Taken). if global.constant then GLOBALS_AT + t.constants else first + t.variables) taken_is
    ∙ ap (λ (n : ℕ). if global.constant then GLOBALS_AT + constants_size layouts (take k globals) else n + variables_size layouts (take k globals)) first_is

pub descriptor-here : (layouts : List TypeLayout) (globals : List GlobalVar) (word k : ℕ) (global : GlobalVar) (at size tag : ℕ)
    → at ≡ place_of_global (program_map 0) layouts globals k global → size ≡ global_size layouts global → tag ≡ global_tag_of word k
    → record { at = at; size = size; tag = tag; constant = global.constant } ≡ descriptor_of (program_map 0) layouts globals word k global
descriptor-here layouts globals word k global at size tag at_is size_is tag_is =
    let made : (at size tag : ℕ) → Descriptor = λ a s t. record { at = a; size = s; tag = t; constant = global.constant } in
    ap (λ (a : ℕ). made a size tag) at_is
    ∙ (ap (λ (s : ℕ). made (place_of_global (program_map 0) layouts globals k global) s tag) size_is
    ∙ ap (λ (t : ℕ). made (place_of_global (program_map 0) layouts globals k global) (global_size layouts global) t) tag_is)

pub sum-below : (first place taken size most : ℕ) → first ≡ place → taken ≡ size → place + size ≤ most → first + taken ≤ most
sum-below first place taken size most e d h = omega arith

pub length-descriptors : (places : AddressMap) (layouts : List TypeLayout) (globals : List GlobalVar) (word : ℕ) → length (descriptors_of places layouts globals word) ≡ length globals
length-descriptors places layouts globals word =
    length-map (enumerate_from 0 globals) (λ (numbered : ℕ × GlobalVar). descriptor_of places layouts globals word numbered.0 numbered.1) ∙ length-enumerate_from 0 globals

-- ---- modules that are accepted

-- the globals of a module that can run can be loaded
pub loadable : (m : Module) → IsRunnable m → CanBeLoaded m
loadable m runnable =
    record {
      room = runnable.room;
      pieces = λ k g below i p within.
          let global = runnable.globals k g below in
          let part = (runnable.resolved.outside.globals k g below).init global.fits global.size i p within in
          let small = global.size.small in
          let inside = part.inside in
          (omega (arith, inside, small), part.piece);
    }
