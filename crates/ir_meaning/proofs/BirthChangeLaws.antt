-- What births, deaths and writes do to births.
use Rattle.std.proofs.Common.{◌≡◌, ℕ, zero, suc, ◌+◌, true, false, List, [], ◌∷◌, ◌++◌, length, map, slice_get, slice_set, Option, Some, None, option_map, ◌⊎◌, inl, inr, refl, sym, ◌∙◌, ap, subst, if◌then◌else◌}
use Rattle.std.proofs.lemmas.List.{length-set, length-replicate, map-append}
use Rattle.std.proofs.lemmas.Option.{slice_get-map}
use Rattle.hw_base.specs.declared.pointers.Base.{Base}
use Rattle.hw_base.specs.declared.pointers.Base.TheVariants.{Null, Object}
use Rattle.hw_base.specs.declared.pointers.Site.{Site}
use Rattle.ir_meaning.specs.Values.{SourceByte, Data}
use Rattle.ir_meaning.specs.Births.{Region, Dead, is_living, SourceObject, Birth, get_object, object_in, changed_at, fresh_object, fresh_birth, ended_object, ended_birth, written_from, written_object, written_birth, put_bytes}
use Rattle.ir_meaning.specs.State.{News}
use Rattle.ir_meaning.specs.BirthChanges.{BirthsChange, same, wrote, bore, died, both, KeepsDead, IsSameBirth, OnlyGrow, HasItsBytes, HaveTheirBytes, bare_object, bare_birth, bare, with_news, after_news}

-- ---- lists

-- an item is as before, or changed
pub slice_get-changed_at : {X : Type 0} (f : X → X) (xs : List X) (i j : ℕ) (x : X) → slice_get xs j ≡ Some x → (slice_get (changed_at f xs i) j ≡ Some x) ⊎ (slice_get (changed_at f xs i) j ≡ Some (f x))
unfolding changed_at
slice_get-changed_at f [] i j x e = inl e
slice_get-changed_at f (y ∷ ys) zero zero x e = inr (ap (option_map f) e)
slice_get-changed_at f (y ∷ ys) zero (suc j) x e = inl e
slice_get-changed_at f (y ∷ ys) (suc i) zero x e = inl e
slice_get-changed_at f (y ∷ ys) (suc i) (suc j) x e = slice_get-changed_at f ys i j x e

-- an item of a changed list was there before: it is as it was, or changed
pub changed_at-get : {X : Type 0} (f : X → X) (xs : List X) (i j : ℕ) (y : X) → slice_get (changed_at f xs i) j ≡ Some y → (x : X) × (slice_get xs j ≡ Some x) × ((y ≡ x) ⊎ (y ≡ f x))
unfolding changed_at
changed_at-get f [] i j y e = absurd cc
changed_at-get f (x ∷ xs) zero zero y e = (x, refl, inr cc)
changed_at-get f (x ∷ xs) zero (suc j) y e = (y, e, inl refl)
changed_at-get f (x ∷ xs) (suc i) zero y e = (y, e, inl refl)
changed_at-get f (x ∷ xs) (suc i) (suc j) y e = changed_at-get f xs i j y e

pub slice_get-pushed : {X : Type 0} (xs ys : List X) (i : ℕ) (x : X) → slice_get xs i ≡ Some x → slice_get (xs ++ ys) i ≡ Some x
slice_get-pushed [] ys i x e = absurd cc
slice_get-pushed (z ∷ xs) ys zero x e = e
slice_get-pushed (z ∷ xs) ys (suc i) x e = slice_get-pushed xs ys i x e

-- an item of a list with one more is an old one or the new one
pub pushed-get : {X : Type 0} (xs : List X) (new : X) (i : ℕ) (x : X) → slice_get (xs ++ new ∷ []) i ≡ Some x → (slice_get xs i ≡ Some x) ⊎ (x ≡ new)
pushed-get [] new zero x e = inr cc
pushed-get [] new (suc i) x e = absurd cc
pushed-get (z ∷ xs) new zero x e = inl e
pushed-get (z ∷ xs) new (suc i) x e = pushed-get xs new i x e

-- what a map doesn't see isn't seen in a changed list
pub map-changed_at : {X Y : Type 0} (g : X → Y) (f : X → X) (xs : List X) (i : ℕ) → ((x : X) → g (f x) ≡ g x) → map g (changed_at f xs i) ≡ map g xs
unfolding changed_at
map-changed_at g f [] i unseen = refl
map-changed_at g f (x ∷ xs) zero unseen = ap (λ y. y ∷ map g xs) (unseen x)
map-changed_at g f (x ∷ xs) (suc i) unseen = ap (λ ys. g x ∷ ys) (map-changed_at g f xs i unseen)

-- a map goes into a change
pub map-changed_at_by : {X Y : Type 0} (g : X → Y) (f : X → X) (h : Y → Y) (xs : List X) (i : ℕ) → ((x : X) → g (f x) ≡ h (g x)) → map g (changed_at f xs i) ≡ changed_at h (map g xs) i
unfolding changed_at
map-changed_at_by g f h [] i seen = refl
map-changed_at_by g f h (x ∷ xs) zero seen = ap (λ y. y ∷ map g xs) (seen x)
map-changed_at_by g f h (x ∷ xs) (suc i) seen = ap (λ ys. g x ∷ ys) (map-changed_at_by g f h xs i seen)

changed_at-same : {X : Type 0} (f : X → X) (xs : List X) (i : ℕ) → ((x : X) → f x ≡ x) → changed_at f xs i ≡ xs
unfolding changed_at
changed_at-same f [] i nothing = refl
changed_at-same f (x ∷ xs) zero nothing = ap (λ y. y ∷ xs) (nothing x)
changed_at-same f (x ∷ xs) (suc i) nothing = ap (λ ys. x ∷ ys) (changed_at-same f xs i nothing)

map-equal : {X Y : Type 0} (g h : X → Y) (xs : List X) → ((x : X) → g x ≡ h x) → map g xs ≡ map h xs
map-equal g h [] equal = refl
map-equal g h (x ∷ xs) equal = ap (λ y. y ∷ map g xs) (equal x) ∙ ap (λ ys. h x ∷ ys) (map-equal g h xs equal)

map-map : {X Y Z : Type 0} (g : Y → Z) (f : X → Y) (xs : List X) → map g (map f xs) ≡ map (λ x. g (f x)) xs
map-map g f [] = refl
map-map g f (x ∷ xs) = ap (λ zs. g (f x) ∷ zs) (map-map g f xs)

-- ---- objects

pub length-written_from : (bytes : List SourceByte) (off : ℕ) (new : List SourceByte) → length (written_from bytes off new) ≡ length bytes
unfolding written_from
length-written_from bytes off [] = refl
length-written_from bytes off (byte ∷ new) = length-written_from (slice_set bytes off byte) (off + 1) new ∙ length-set bytes off byte

ended-dead : (task : ℕ) (chain : List Site) (x : SourceObject) → is_living x.life ≡ false → ended_object task chain x ≡ x
ended-dead task chain x dead = rw dead refl

written-dead : (off : ℕ) (bytes : List SourceByte) (x : SourceObject) → is_living x.life ≡ false → written_object off bytes x ≡ x
written-dead off bytes x dead = rw dead refl

-- a fact about what an object becomes, by whether it lives
by_life : (C : SourceObject → Type 0) (x alive : SourceObject) → C alive → C x → C (if is_living x.life then alive else x)
by_life C x alive h k = elim (is_living x.life) as (λ b. C (if b then alive else x)) [ true ↦ h | false ↦ k ]

ended-size : (task : ℕ) (chain : List Site) (x : SourceObject) → (ended_object task chain x).size ≡ x.size
ended-size task chain x = by_life (λ y. y.size ≡ x.size) x _ refl refl

ended-constant : (task : ℕ) (chain : List Site) (x : SourceObject) → (ended_object task chain x).constant ≡ x.constant
ended-constant task chain x = by_life (λ y. y.constant ≡ x.constant) x _ refl refl

ended-bytes : (task : ℕ) (chain : List Site) (x : SourceObject) → HasItsBytes x → HasItsBytes (ended_object task chain x)
ended-bytes task chain x has = by_life HasItsBytes x _ refl has

ended-bare : (task : ℕ) (chain : List Site) (x : SourceObject) → bare_object (ended_object task chain x) ≡ ended_object task chain (bare_object x)
ended-bare task chain x =
    elim (is_living x.life) as (λ b. bare_object (if b then record x { life = Dead task chain; bytes = [] } else x) ≡ (if b then record x { life = Dead task chain; bytes = [] } else record x { bytes = [] })) [ true ↦ refl | false ↦ refl ]

written-size : (off : ℕ) (bytes : List SourceByte) (x : SourceObject) → (written_object off bytes x).size ≡ x.size
written-size off bytes x = by_life (λ y. y.size ≡ x.size) x _ refl refl

written-constant : (off : ℕ) (bytes : List SourceByte) (x : SourceObject) → (written_object off bytes x).constant ≡ x.constant
written-constant off bytes x = by_life (λ y. y.constant ≡ x.constant) x _ refl refl

written-bare : (off : ℕ) (bytes : List SourceByte) (x : SourceObject) → bare_object (written_object off bytes x) ≡ bare_object x
written-bare off bytes x = by_life (λ y. bare_object y ≡ bare_object x) x _ refl refl

written-bytes : (off : ℕ) (bytes : List SourceByte) (x : SourceObject) → HasItsBytes x → HasItsBytes (written_object off bytes x)
written-bytes off bytes x has = by_life HasItsBytes x _ (length-written_from x.bytes off bytes ∙ has) has

-- ---- dead objects stay

-- a change of a birth that keeps its dead objects
IsKeeping : (Birth → Birth) → Type 0
IsKeeping f = (birth : Birth) (k : ℕ) (x : SourceObject) → slice_get birth.objects k ≡ Some x → is_living x.life ≡ false → slice_get (f birth).objects k ≡ Some x

changed-keeps : (f : Birth → Birth) (births : List Birth) (n : ℕ) → IsKeeping f → KeepsDead births (changed_at f births n)
unfolding IsKeeping
changed-keeps f births n keeping o x e dead = by_birth (slice_get births o.birth) refl e
  where
    by_birth : (b : Option Birth) → slice_get births o.birth ≡ b → object_in b o.index ≡ Some x → get_object (changed_at f births n) o ≡ Some x
    by_birth None here found = absurd cc
    by_birth (Some birth) here found =
        elim (slice_get-changed_at f births n o.birth birth here) [
          | inl unchanged ↦ ap (λ b. object_in b o.index) unchanged ∙ found
          | inr changed ↦ ap (λ b. object_in b o.index) changed ∙ keeping birth o.index x found dead
        ]

ended_birth-keeping : (task : ℕ) (chain : List Site) → IsKeeping (ended_birth task chain)
unfolding IsKeeping
ended_birth-keeping task chain birth k x e dead =
    slice_get-map (ended_object task chain) birth.objects k
    ∙ ap (option_map (ended_object task chain)) e
    ∙ ap (λ y. Some y) (ended-dead task chain x dead)

written_birth-keeping : (index off : ℕ) (bytes : List SourceByte) → IsKeeping (written_birth index off bytes)
unfolding IsKeeping
written_birth-keeping index off bytes birth k x e dead =
    elim (slice_get-changed_at (written_object off bytes) birth.objects index k x e) [
      | inl unchanged ↦ unchanged
      | inr changed ↦ changed ∙ ap (λ y. Some y) (written-dead off bytes x dead)
    ]

written-keeps : (births : List Birth) (base : Base) (off : ℕ) (bytes : List SourceByte) → KeepsDead births (put_bytes births base off bytes)
written-keeps births Null off bytes o x e dead = e
written-keeps births (Object p) off bytes o x e dead = changed-keeps (written_birth p.index off bytes) births p.birth (written_birth-keeping p.index off bytes) o x e dead

pushed-keeps : (births : List Birth) (birth : Birth) → KeepsDead births (births ++ birth ∷ [])
pushed-keeps births birth o x e dead = by_birth (slice_get births o.birth) refl e
  where
    by_birth : (b : Option Birth) → slice_get births o.birth ≡ b → object_in b o.index ≡ Some x → get_object (births ++ birth ∷ []) o ≡ Some x
    by_birth None here found = absurd cc
    by_birth (Some old) here found = ap (λ b. object_in b o.index) (slice_get-pushed births (birth ∷ []) o.birth old here) ∙ found

-- what is dead stays as it is
pub change-keeps_dead : (before after : List Birth) (news : List News) → BirthsChange before after news → KeepsDead before after
change-keeps_dead before after news (same births) o x e dead = e
change-keeps_dead before after news (wrote births base off bytes) o x e dead = written-keeps births base off bytes o x e dead
change-keeps_dead before after news (bore births region task chain sizes) o x e dead = pushed-keeps births (fresh_birth region task chain sizes) o x e dead
change-keeps_dead before after news (died births number task chain) o x e dead = changed-keeps (ended_birth task chain) births number (ended_birth-keeping task chain) o x e dead
change-keeps_dead before after news (both a b c first second one two) o x e dead =
    change-keeps_dead b c second two o x (change-keeps_dead a b first one o x e dead) dead

-- ---- births only grow

IsSame-refl : (birth : Birth) → IsSameBirth birth birth
IsSame-refl birth = record { region = refl; task = refl; born = refl; sizes = refl; constants = refl }

IsSame-trans : (a b c : Birth) → IsSameBirth a b → IsSameBirth b c → IsSameBirth a c
IsSame-trans a b c h k =
    record {
      region = k.region ∙ h.region;
      task = k.task ∙ h.task;
      born = k.born ∙ h.born;
      sizes = k.sizes ∙ h.sizes;
      constants = k.constants ∙ h.constants;
    }

ended-same : (task : ℕ) (chain : List Site) (birth : Birth) → IsSameBirth birth (ended_birth task chain birth)
ended-same task chain birth =
    record {
      region = refl;
      task = refl;
      born = refl;
      sizes = map-map (λ (x : SourceObject). x.size) (ended_object task chain) birth.objects ∙ map-equal _ _ birth.objects (ended-size task chain);
      constants = map-map (λ (x : SourceObject). x.constant) (ended_object task chain) birth.objects ∙ map-equal _ _ birth.objects (ended-constant task chain);
    }

written-same : (index off : ℕ) (bytes : List SourceByte) (birth : Birth) → IsSameBirth birth (written_birth index off bytes birth)
written-same index off bytes birth =
    record {
      region = refl;
      task = refl;
      born = refl;
      sizes = map-changed_at (λ (x : SourceObject). x.size) (written_object off bytes) birth.objects index (written-size off bytes);
      constants = map-changed_at (λ (x : SourceObject). x.constant) (written_object off bytes) birth.objects index (written-constant off bytes);
    }

changed-grows : (f : Birth → Birth) (births : List Birth) (n : ℕ) → ((birth : Birth) → IsSameBirth birth (f birth)) → OnlyGrow births (changed_at f births n)
changed-grows f births n stays number birth e =
    elim (slice_get-changed_at f births n number birth e) [
      | inl unchanged ↦ (birth, unchanged, IsSame-refl birth)
      | inr changed ↦ (f birth, changed, stays birth)
    ]

written-grows : (births : List Birth) (base : Base) (off : ℕ) (bytes : List SourceByte) → OnlyGrow births (put_bytes births base off bytes)
written-grows births Null off bytes number birth e = (birth, e, IsSame-refl birth)
written-grows births (Object o) off bytes number birth e = changed-grows (written_birth o.index off bytes) births o.birth (written-same o.index off bytes) number birth e

-- births only grow
pub change-only_grows : (before after : List Birth) (news : List News) → BirthsChange before after news → OnlyGrow before after
change-only_grows before after news (same births) number birth e = (birth, e, IsSame-refl birth)
change-only_grows before after news (wrote births base off bytes) number birth e = written-grows births base off bytes number birth e
change-only_grows before after news (bore births region task chain sizes) number birth e =
    (birth, slice_get-pushed births (fresh_birth region task chain sizes ∷ []) number birth e, IsSame-refl birth)
change-only_grows before after news (died births n task chain) number birth e = changed-grows (ended_birth task chain) births n (ended-same task chain) number birth e
change-only_grows before after news (both a b c first second one two) number birth e =
    let (mid, there, like) = change-only_grows a b first one number birth e in
    let (last, found, alike) = change-only_grows b c second two number mid there in
    (last, found, IsSame-trans birth mid last like alike)

-- ---- bytes

-- the objects of a birth have their bytes
BirthHas : Birth → Type 0
BirthHas birth = (k : ℕ) (x : SourceObject) → slice_get birth.objects k ≡ Some x → HasItsBytes x

all_have : (births : List Birth) → HaveTheirBytes births → (n : ℕ) (birth : Birth) → slice_get births n ≡ Some birth → BirthHas birth
unfolding BirthHas
all_have births have n birth here k x e = have (record { birth = n; index = k }) x (ap (λ b. object_in b k) here ∙ e)

have_all : (births : List Birth) → ((n : ℕ) (birth : Birth) → slice_get births n ≡ Some birth → BirthHas birth) → HaveTheirBytes births
unfolding BirthHas
have_all births each o x e = by_birth (slice_get births o.birth) refl e
  where
    by_birth : (b : Option Birth) → slice_get births o.birth ≡ b → object_in b o.index ≡ Some x → HasItsBytes x
    by_birth None here found = absurd cc
    by_birth (Some birth) here found = each o.birth birth here o.index x found

changed-have : (f : Birth → Birth) (births : List Birth) (n : ℕ) → ((birth : Birth) → BirthHas birth → BirthHas (f birth)) → HaveTheirBytes births → HaveTheirBytes (changed_at f births n)
changed-have f births n keeps have =
    have_all (changed_at f births n) (λ number birth here.
    let (old, there, kind) = changed_at-get f births n number birth here in
    elim kind [
      | inl unchanged ↦ subst BirthHas (sym unchanged) (all_have births have number old there)
      | inr changed ↦ subst BirthHas (sym changed) (keeps old (all_have births have number old there))
    ])

ended-have : (task : ℕ) (chain : List Site) (birth : Birth) → BirthHas birth → BirthHas (ended_birth task chain birth)
unfolding BirthHas
ended-have task chain birth has k x e = by_object (slice_get birth.objects k) refl
  where
    by_object : (o : Option SourceObject) → slice_get birth.objects k ≡ o → HasItsBytes x
    by_object None here =
        let none : slice_get (map (ended_object task chain) birth.objects) k ≡ None = slice_get-map (ended_object task chain) birth.objects k ∙ ap (option_map (ended_object task chain)) here in
        absurd cc
    by_object (Some y) here =
        let found : slice_get (map (ended_object task chain) birth.objects) k ≡ Some (ended_object task chain y) = slice_get-map (ended_object task chain) birth.objects k ∙ ap (option_map (ended_object task chain)) here in
        let is : ended_object task chain y ≡ x = cc in
        subst HasItsBytes is (ended-bytes task chain y (has k y here))

written-have : (index off : ℕ) (bytes : List SourceByte) (birth : Birth) → BirthHas birth → BirthHas (written_birth index off bytes birth)
unfolding BirthHas
written-have index off bytes birth has k x e =
    let (old, there, kind) = changed_at-get (written_object off bytes) birth.objects index k x e in
    elim kind [
      | inl unchanged ↦ subst HasItsBytes (sym unchanged) (has k old there)
      | inr changed ↦ subst HasItsBytes (sym changed) (written-bytes off bytes old (has k old there))
    ]

put-have : (births : List Birth) (base : Base) (off : ℕ) (bytes : List SourceByte) → HaveTheirBytes births → HaveTheirBytes (put_bytes births base off bytes)
put-have births Null off bytes have = have
put-have births (Object o) off bytes have = changed-have (written_birth o.index off bytes) births o.birth (written-have o.index off bytes) have

fresh-has : (sizes : List ℕ) (k : ℕ) (x : SourceObject) → slice_get (map fresh_object sizes) k ≡ Some x → HasItsBytes x
fresh-has [] k x e = absurd cc
fresh-has (size ∷ sizes) zero x e = let is : fresh_object size ≡ x = cc in subst HasItsBytes is (length-replicate size (Data 0))
fresh-has (size ∷ sizes) (suc k) x e = fresh-has sizes k x e

fresh_birth-has : (region : Region) (task : ℕ) (chain : List Site) (sizes : List ℕ) → BirthHas (fresh_birth region task chain sizes)
unfolding BirthHas
fresh_birth-has region task chain sizes k x e = fresh-has sizes k x e

pushed-have : (births : List Birth) (birth : Birth) → BirthHas birth → HaveTheirBytes births → HaveTheirBytes (births ++ birth ∷ [])
pushed-have births birth has have =
    have_all (births ++ birth ∷ []) (λ n b here.
    elim (pushed-get births birth n b here) [
      | inl old ↦ all_have births have n b old
      | inr new ↦ subst BirthHas (sym new) has
    ])

-- a living object has as many bytes as its size, and a dead one has none
pub change-has_bytes : (before after : List Birth) (news : List News) → BirthsChange before after news → HaveTheirBytes before → HaveTheirBytes after
change-has_bytes before after news (same births) have = have
change-has_bytes before after news (wrote births base off bytes) have = put-have births base off bytes have
change-has_bytes before after news (bore births region task chain sizes) have =
    pushed-have births (fresh_birth region task chain sizes) (fresh_birth-has region task chain sizes) have
change-has_bytes before after news (died births n task chain) have = changed-have (ended_birth task chain) births n (ended-have task chain) have
change-has_bytes before after news (both a b c first second one two) have = change-has_bytes b c second two (change-has_bytes a b first one have)

-- ---- news

pub after_news-append : (births : List Birth) (first second : List News) → after_news births (first ++ second) ≡ after_news (after_news births first) second
unfolding after_news
after_news-append births [] second = refl
after_news-append births (news ∷ first) second = after_news-append (with_news births news) first second

bare-written : (births : List Birth) (base : Base) (off : ℕ) (bytes : List SourceByte) → bare (put_bytes births base off bytes) ≡ bare births
bare-written births Null off bytes = refl
bare-written births (Object o) off bytes =
    map-changed_at bare_birth (written_birth o.index off bytes) births o.birth
    (λ birth. ap (λ objects. record birth { objects = objects }) (map-changed_at bare_object (written_object off bytes) birth.objects o.index (written-bare off bytes)))

bare-ended : (task : ℕ) (chain : List Site) (birth : Birth) → bare_birth (ended_birth task chain birth) ≡ ended_birth task chain (bare_birth birth)
bare-ended task chain birth =
    ap (λ objects. record birth { objects = objects })
    (map-map bare_object (ended_object task chain) birth.objects
    ∙ map-equal _ _ birth.objects (ended-bare task chain)
    ∙ sym (map-map (ended_object task chain) bare_object birth.objects))

-- the births are what the news say, but for bytes
pub change-is_told : (before after : List Birth) (news : List News) → BirthsChange before after news → bare after ≡ after_news (bare before) news
unfolding after_news
change-is_told before after news (same births) = refl
change-is_told before after news (wrote births base off bytes) = bare-written births base off bytes
change-is_told before after news (bore births region task chain sizes) = map-append bare_birth births (fresh_birth region task chain sizes ∷ [])
change-is_told before after news (died births n task chain) = map-changed_at_by bare_birth (ended_birth task chain) (ended_birth task chain) births n (bare-ended task chain)
change-is_told before after news (both a b c first second one two) =
    change-is_told b c second two
    ∙ ap (λ births. after_news births second) (change-is_told a b first one)
    ∙ sym (after_news-append (bare a) first second)

-- ---- writes of nothing

written_object-nothing : (off : ℕ) (x : SourceObject) → written_object off [] x ≡ x
unfolding written_from
written_object-nothing off x = by_life (λ y. y ≡ x) x _ refl refl

-- a write of no bytes changes nothing
pub put_bytes-nothing : (births : List Birth) (base : Base) (off : ℕ) → put_bytes births base off [] ≡ births
put_bytes-nothing births Null off = refl
put_bytes-nothing births (Object o) off =
    changed_at-same (written_birth o.index off []) births o.birth
    (λ birth. ap (λ objects. record birth { objects = objects }) (changed_at-same (written_object off []) birth.objects o.index (written_object-nothing off)))
