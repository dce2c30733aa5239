-- Laws of the places of globals.
use Rattle.std.proofs.Common.{length, get_or, sym, ◌≡◌, ℕ, zero, suc, ◌+◌, ◌*◌, ◌%◌, ◌<◌, ◌≤◌, Bool, true, false, List, [], ◌∷◌, Some, None, refl, ◌∙◌, ap, arith, take}
use Rattle.std.specs.Prelude.{slice_get, sum_by, if◌then◌else◌, option_map}
use Rattle.std.specs.List.{enumerate_from}
use Rattle.std.proofs.lemmas.Bool.{cond-true, cond-false}
use Rattle.std.proofs.lemmas.Option.{slice_get-map}
use Rattle.std.proofs.lemmas.List.Sums.{sum_by-cons}
use Rattle.hw_base.specs.AddressMap.{AddressMap, rounded_size}
use Rattle.hw_base.specs.declared.numbers.TheConstants.{GLOBALS_AT, MOST_GLOBALS, PAGE, STACKS_AT}
use Rattle.ir_core.specs.declared.ir_module.GlobalVar.{GlobalVar}
use Rattle.ir_core.specs.declared.types.TypeLayout.{TypeLayout}
use Rattle.ir_core.specs.Layout.{align_up}
use Rattle.global_tags.specs.Sums.{taken_by, with_one}
use Rattle.global_tags.specs.GlobalPlaces.{global_size, constants_size, variables_size, variables_at, place_of_global, descriptor_of, descriptors_of}

get-enumerate : {A : Type 0} (xs : List A) (from k : ℕ) (x : A) → slice_get xs k ≡ Some x → slice_get (enumerate_from from xs) k ≡ Some (from + k, x)
get-enumerate [] from k x h = absurd (cc)
get-enumerate (y ∷ ys) from zero x h = let same : y ≡ x = cc in let e : from ≡ from + 0 = omega arith in ap (λ z. Some (from, z)) same ∙ ap (λ (n : ℕ). Some (n, x)) e
get-enumerate (y ∷ ys) from (suc k) x h = let e : from + 1 + k ≡ from + suc k = omega arith in get-enumerate ys (from + 1) k x h ∙ ap (λ (n : ℕ). Some (n, x)) e

pub get-descriptors : (places : AddressMap) (layouts : List TypeLayout) (globals : List GlobalVar) (word k : ℕ) (global : GlobalVar) → slice_get globals k ≡ Some global → slice_get (descriptors_of places layouts globals word) k ≡ Some (descriptor_of places layouts globals word k global)
get-descriptors places layouts globals word k global h =
    slice_get-map (λ (numbered : ℕ × GlobalVar). descriptor_of places layouts globals word numbered.0 numbered.1) (enumerate_from 0 globals) k
    ∙ (ap (option_map (λ (numbered : ℕ × GlobalVar). descriptor_of places layouts globals word numbered.0 numbered.1)) (get-enumerate globals 0 k global h)
    ∙ (let e : 0 + k ≡ k = omega arith in ap (λ (n : ℕ). Some (descriptor_of places layouts globals word n global)) e))

-- what is at a place, and before it, is no more than all
sum-before : {A : Type 0} (f : A → ℕ) (xs : List A) (k : ℕ) (x : A) → slice_get xs k ≡ Some x → sum_by f (take k xs) + f x ≤ sum_by f xs
sum-before f [] k x h = absurd (cc)
sum-before f (y ∷ ys) zero x h = let same : f y ≡ f x = ap f (cc) in let e = sum_by-cons f y ys in omega arith
sum-before f (y ∷ ys) (suc k) x h = let e = sum_by-cons f y ys in let d = sum_by-cons f y (take k ys) in let r = sum-before f ys k x h in omega arith

within : (place from before all taken size : ℕ) → place ≡ from + before → before + taken ≤ all → taken ≡ size → place + size ≤ from + all
within place from before all taken size e s f = omega arith

pub constants-within : (places : AddressMap) (layouts : List TypeLayout) (globals : List GlobalVar) (k : ℕ) (global : GlobalVar) → slice_get globals k ≡ Some global → global.constant ≡ true → place_of_global places layouts globals k global + rounded_size (global_size layouts global) ≤ places.globals_at + constants_size layouts globals
unfolding constants_size
constants-within places layouts globals k global h c =
    let size : ℕ = rounded_size (global_size layouts global) in
    let e : place_of_global places layouts globals k global ≡ places.globals_at + constants_size layouts (take k globals) =
    cond-true global.constant (places.globals_at + constants_size layouts (take k globals)) (variables_at places layouts globals + variables_size layouts (take k globals)) c in
    let s = sum-before (λ (g : GlobalVar). if g.constant then rounded_size (global_size layouts g) else 0) globals k global h in
    let f : (if global.constant then size else 0) ≡ size = cond-true global.constant size 0 c in
    within (place_of_global places layouts globals k global) places.globals_at (constants_size layouts (take k globals)) (constants_size layouts globals) (if global.constant then size else 0) size e s f

pub variables-within : (places : AddressMap) (layouts : List TypeLayout) (globals : List GlobalVar) (k : ℕ) (global : GlobalVar) → slice_get globals k ≡ Some global → global.constant ≡ false → place_of_global places layouts globals k global + rounded_size (global_size layouts global) ≤ variables_at places layouts globals + variables_size layouts globals
unfolding variables_size
variables-within places layouts globals k global h c =
    let size : ℕ = rounded_size (global_size layouts global) in
    let e : place_of_global places layouts globals k global ≡ variables_at places layouts globals + variables_size layouts (take k globals) =
    cond-false global.constant (places.globals_at + constants_size layouts (take k globals)) (variables_at places layouts globals + variables_size layouts (take k globals)) c in
    let s = sum-before (λ (g : GlobalVar). if g.constant then 0 else rounded_size (global_size layouts g)) globals k global h in
    let f : (if global.constant then 0 else size) ≡ size = cond-false global.constant 0 size c in
    within (place_of_global places layouts globals k global) (variables_at places layouts globals) (variables_size layouts (take k globals)) (variables_size layouts globals) (if global.constant then 0 else size) size e s f

-- what is at an earlier place, and before it, is no more than what is before a later place
sum-between : {A : Type 0} (f : A → ℕ) (xs : List A) (k j : ℕ) (x : A) → k < j → slice_get xs k ≡ Some x → sum_by f (take k xs) + f x ≤ sum_by f (take j xs)
sum-between f [] k j x below h = absurd (cc)
sum-between f (y ∷ ys) k zero x below h = omega arith
sum-between f (y ∷ ys) zero (suc j) x below h = let same : f y ≡ f x = ap f (cc) in let e = sum_by-cons f y (take j ys) in omega arith
sum-between f (y ∷ ys) (suc k) (suc j) x below h =
    let e = sum_by-cons f y (take j ys) in
    let d = sum_by-cons f y (take k ys) in
    let r = sum-between f ys k j x (omega arith) h in
    omega arith

-- the place of a global that isn't the last ends at or before that of a later one of its kind
pub constants-between : (places : AddressMap) (layouts : List TypeLayout) (globals : List GlobalVar) (k j : ℕ) (global other : GlobalVar) → k < j → slice_get globals k ≡ Some global → global.constant ≡ true → other.constant ≡ true → place_of_global places layouts globals k global + rounded_size (global_size layouts global) ≤ place_of_global places layouts globals j other
unfolding constants_size
constants-between places layouts globals k j global other below h c d =
    let size : ℕ = rounded_size (global_size layouts global) in
    let first : place_of_global places layouts globals k global ≡ places.globals_at + constants_size layouts (take k globals) =
    cond-true global.constant (places.globals_at + constants_size layouts (take k globals)) (variables_at places layouts globals + variables_size layouts (take k globals)) c in
    let second : place_of_global places layouts globals j other ≡ places.globals_at + constants_size layouts (take j globals) =
    cond-true other.constant (places.globals_at + constants_size layouts (take j globals)) (variables_at places layouts globals + variables_size layouts (take j globals)) d in
    let s = sum-between (λ (g : GlobalVar). if g.constant then rounded_size (global_size layouts g) else 0) globals k j global below h in
    let f : (if global.constant then size else 0) ≡ size = cond-true global.constant size 0 c in
    let t = within (place_of_global places layouts globals k global) places.globals_at (constants_size layouts (take k globals)) (constants_size layouts (take j globals)) (if global.constant then size else 0) size first s f in
    omega (arith, t, second)

pub variables-between : (places : AddressMap) (layouts : List TypeLayout) (globals : List GlobalVar) (k j : ℕ) (global other : GlobalVar) → k < j → slice_get globals k ≡ Some global → global.constant ≡ false → other.constant ≡ false → place_of_global places layouts globals k global + rounded_size (global_size layouts global) ≤ place_of_global places layouts globals j other
unfolding variables_size
variables-between places layouts globals k j global other below h c d =
    let size : ℕ = rounded_size (global_size layouts global) in
    let first : place_of_global places layouts globals k global ≡ variables_at places layouts globals + variables_size layouts (take k globals) =
    cond-false global.constant (places.globals_at + constants_size layouts (take k globals)) (variables_at places layouts globals + variables_size layouts (take k globals)) c in
    let second : place_of_global places layouts globals j other ≡ variables_at places layouts globals + variables_size layouts (take j globals) =
    cond-false other.constant (places.globals_at + constants_size layouts (take j globals)) (variables_at places layouts globals + variables_size layouts (take j globals)) d in
    let s = sum-between (λ (g : GlobalVar). if g.constant then 0 else rounded_size (global_size layouts g)) globals k j global below h in
    let f : (if global.constant then 0 else size) ≡ size = cond-false global.constant 0 size c in
    let t = within (place_of_global places layouts globals k global) (variables_at places layouts globals) (variables_size layouts (take k globals)) (variables_size layouts (take j globals)) (if global.constant then 0 else size) size first s f in
    omega (arith, t, second)

get-enumerate-none : {A : Type 0} (xs : List A) (from k : ℕ) → slice_get xs k ≡ None → slice_get (enumerate_from from xs) k ≡ None
get-enumerate-none [] from k h = refl
get-enumerate-none (y ∷ ys) from zero h = absurd (cc)
get-enumerate-none (y ∷ ys) from (suc k) h = get-enumerate-none ys (from + 1) k h

-- there is no descriptor if there is no global
pub get-descriptors-none : (places : AddressMap) (layouts : List TypeLayout) (globals : List GlobalVar) (word k : ℕ) → slice_get globals k ≡ None → slice_get (descriptors_of places layouts globals word) k ≡ None
get-descriptors-none places layouts globals word k h =
    slice_get-map (λ (numbered : ℕ × GlobalVar). descriptor_of places layouts globals word numbered.0 numbered.1) (enumerate_from 0 globals) k
    ∙ ap (option_map (λ (numbered : ℕ × GlobalVar). descriptor_of places layouts globals word numbered.0 numbered.1)) (get-enumerate-none globals 0 k h)

rounded-aligned : (size : ℕ) → rounded_size size % 16 ≡ 0
rounded-aligned zero = refl
rounded-aligned (suc n) = omega arith

sum-aligned : {A : Type 0} (f : A → ℕ) (xs : List A) → ((x : A) → f x % 16 ≡ 0) → sum_by f xs % 16 ≡ 0
sum-aligned f [] each = refl
sum-aligned f (x ∷ xs) each =
    let e = sum_by-cons f x xs in
    let first = each x in
    let rest = sum-aligned f xs each in
    omega (arith, e, first, rest)

chosen-aligned : (t : Bool) (a b : ℕ) → a % 16 ≡ 0 → b % 16 ≡ 0 → (if t then a else b) % 16 ≡ 0
chosen-aligned true a b h k = h
chosen-aligned false a b h k = k

pub constants_size-aligned : (layouts : List TypeLayout) (globals : List GlobalVar) → constants_size layouts globals % 16 ≡ 0
unfolding constants_size
constants_size-aligned layouts globals =
    sum-aligned (λ (g : GlobalVar). if g.constant then rounded_size (global_size layouts g) else 0) globals
    (λ g. chosen-aligned g.constant (rounded_size (global_size layouts g)) 0 (rounded-aligned (global_size layouts g)) refl)

pub variables_size-aligned : (layouts : List TypeLayout) (globals : List GlobalVar) → variables_size layouts globals % 16 ≡ 0
unfolding variables_size
variables_size-aligned layouts globals =
    sum-aligned (λ (g : GlobalVar). if g.constant then 0 else rounded_size (global_size layouts g)) globals
    (λ g. chosen-aligned g.constant 0 (rounded_size (global_size layouts g)) refl (rounded-aligned (global_size layouts g)))

pub variables_at-aligned : (places : AddressMap) (layouts : List TypeLayout) (globals : List GlobalVar) → variables_at places layouts globals % 16 ≡ 0
variables_at-aligned places layouts globals = omega arith

-- the place of each global is a multiple of 16
pub place-aligned : (places : AddressMap) (layouts : List TypeLayout) (globals : List GlobalVar) (k : ℕ) (global : GlobalVar) → places.globals_at % 16 ≡ 0 → place_of_global places layouts globals k global % 16 ≡ 0
place-aligned places layouts globals k global start =
    let constants = constants_size-aligned layouts (take k globals) in
    let variables = variables_size-aligned layouts (take k globals) in
    let page = variables_at-aligned places layouts globals in
    chosen-aligned global.constant (places.globals_at + constants_size layouts (take k globals)) (variables_at places layouts globals + variables_size layouts (take k globals)) (omega (arith, start, constants)) (omega (arith, page, variables))

-- ---- sums, one global after the other

pub constants_size-cons : (layouts : List TypeLayout) (global : GlobalVar) (globals : List GlobalVar) → constants_size layouts (global ∷ globals) ≡ (if global.constant then rounded_size (global_size layouts global) else 0) + constants_size layouts globals
unfolding constants_size
constants_size-cons layouts global globals = sum_by-cons (λ (g : GlobalVar). if g.constant then rounded_size (global_size layouts g) else 0) global globals

pub variables_size-cons : (layouts : List TypeLayout) (global : GlobalVar) (globals : List GlobalVar) → variables_size layouts (global ∷ globals) ≡ (if global.constant then 0 else rounded_size (global_size layouts global)) + variables_size layouts globals
unfolding variables_size
variables_size-cons layouts global globals = sum_by-cons (λ (g : GlobalVar). if g.constant then 0 else rounded_size (global_size layouts g)) global globals

pub constants_size-nil : (layouts : List TypeLayout) → constants_size layouts [] ≡ 0
unfolding constants_size
constants_size-nil layouts = refl

pub variables_size-nil : (layouts : List TypeLayout) → variables_size layouts [] ≡ 0
unfolding variables_size
variables_size-nil layouts = refl

chosen-sum : (t : Bool) (size : ℕ) → (if t then size else 0) + (if t then 0 else size) ≡ size
chosen-sum true size = omega arith
chosen-sum false size = omega arith

-- an item that a loop looks at
pub item-there : {A : Type 0} (xs : List A) (i : ℕ) (x : A) → i < length xs → x ≡ get_or xs i x → slice_get xs i ≡ Some x
item-there [] i x below same = absurd (omega arith)
item-there (y ∷ ys) zero x below same = ap Some (sym same)
item-there (y ∷ ys) (suc i) x below same = item-there ys i x (omega arith) same

sum-take-more : {A : Type 0} (f : A → ℕ) (xs : List A) (k : ℕ) (x : A) → slice_get xs k ≡ Some x → sum_by f (take (suc k) xs) ≡ sum_by f (take k xs) + f x
sum-take-more f [] k x h = absurd (cc)
sum-take-more f (y ∷ ys) zero x h = let same : f y ≡ f x = ap f (cc) in let e = sum_by-cons f y [] in omega (arith, e, same)
sum-take-more f (y ∷ ys) (suc k) x h =
    let e = sum_by-cons f y (take (suc k) ys) in
    let d = sum_by-cons f y (take k ys) in
    let r = sum-take-more f ys k x h in
    omega (arith, e, d, r)

pub constants-take-more : (layouts : List TypeLayout) (globals : List GlobalVar) (k : ℕ) (global : GlobalVar) → slice_get globals k ≡ Some global → constants_size layouts (take (suc k) globals) ≡ constants_size layouts (take k globals) + (if global.constant then rounded_size (global_size layouts global) else 0)
unfolding constants_size
constants-take-more layouts globals k global h = sum-take-more (λ (g : GlobalVar). if g.constant then rounded_size (global_size layouts g) else 0) globals k global h

pub variables-take-more : (layouts : List TypeLayout) (globals : List GlobalVar) (k : ℕ) (global : GlobalVar) → slice_get globals k ≡ Some global → variables_size layouts (take (suc k) globals) ≡ variables_size layouts (take k globals) + (if global.constant then 0 else rounded_size (global_size layouts global))
unfolding variables_size
variables-take-more layouts globals k global h = sum-take-more (λ (g : GlobalVar). if g.constant then 0 else rounded_size (global_size layouts g)) globals k global h

pub none-taken : (layouts : List TypeLayout) → record { constants = 0; variables = 0 } ≡ taken_by layouts []
unfolding constants_size variables_size
none-taken layouts = refl

pub one-more-taken : (layouts : List TypeLayout) (globals : List GlobalVar) (k : ℕ) (global : GlobalVar) → slice_get globals k ≡ Some global → with_one (taken_by layouts (take k globals)) (rounded_size (global_size layouts global)) global.constant ≡ taken_by layouts (take (k + 1) globals)
one-more-taken layouts globals k global h =
    let e = constants-take-more layouts globals k global h in
    let d = variables-take-more layouts globals k global h in
    let n : suc k ≡ k + 1 = omega arith in
    let same : with_one (taken_by layouts (take k globals)) (rounded_size (global_size layouts global)) global.constant ≡ taken_by layouts (take (suc k) globals) = cc in
    same ∙ ap (λ (i : ℕ). taken_by layouts (take i globals)) n

pub both-sizes : (layouts : List TypeLayout) (globals : List GlobalVar) → constants_size layouts globals + variables_size layouts globals ≡ sum_by (λ (g : GlobalVar). rounded_size (global_size layouts g)) globals
both-sizes layouts [] = let e = constants_size-nil layouts in let d = variables_size-nil layouts in omega (arith, e, d)
both-sizes layouts (global ∷ globals) =
    let e = constants_size-cons layouts global globals in
    let d = variables_size-cons layouts global globals in
    let s = sum_by-cons (λ (g : GlobalVar). rounded_size (global_size layouts g)) global globals in
    let c = chosen-sum global.constant (rounded_size (global_size layouts global)) in
    let r = both-sizes layouts globals in
    omega (arith, e, d, s, c, r)

-- a global and those before it have room
pub has-room : (layouts : List TypeLayout) (globals : List GlobalVar) (k : ℕ) (global : GlobalVar) → sum_by (λ (g : GlobalVar). rounded_size (global_size layouts g)) globals ≤ MOST_GLOBALS → slice_get globals k ≡ Some global → constants_size layouts (take k globals) + variables_size layouts (take k globals) + rounded_size (global_size layouts global) ≤ MOST_GLOBALS
has-room layouts globals k global room h =
    let b = both-sizes layouts (take k globals) in
    let s = sum-before (λ (g : GlobalVar). rounded_size (global_size layouts g)) globals k global h in
    omega (arith, b, s, room)

-- ---- what is mapped

size-one : (size : ℕ) → 16 ≤ rounded_size size
size-one zero = omega arith
size-one (suc n) = omega arith

-- there are few globals, since each takes a granule at least
pub few-globals : (layouts : List TypeLayout) (globals : List GlobalVar) → 16 * length globals ≤ sum_by (λ (g : GlobalVar). rounded_size (global_size layouts g)) globals
few-globals layouts [] = omega arith
few-globals layouts (global ∷ globals) =
    let s = sum_by-cons (λ (g : GlobalVar). rounded_size (global_size layouts g)) global globals in
    let one = size-one (global_size layouts global) in
    let r = few-globals layouts globals in
    omega (arith, s, one, r)

pub page-after : (constants variables : ℕ) → constants + variables ≤ MOST_GLOBALS → align_up (GLOBALS_AT + constants) PAGE + variables ≤ STACKS_AT
page-after constants variables h = omega (arith, h)

pub variables-before : (layouts : List TypeLayout) (globals : List GlobalVar) (k : ℕ) (global : GlobalVar) → slice_get globals k ≡ Some global → variables_size layouts (take k globals) ≤ variables_size layouts globals
unfolding variables_size
variables-before layouts globals k global h =
    let s = sum-before (λ (g : GlobalVar). if g.constant then 0 else rounded_size (global_size layouts g)) globals k global h in
    omega (arith, s)
