-- What was born stays born, and births stay as they should be under writes, births and deaths.
use Rattle.std.proofs.Common.{◌≡◌, ◌⊎◌, ℕ, zero, suc, ◌+◌, List, [], ◌∷◌, ◌++◌, map, replicate, slice_get, slice_set, Option, Some, None, option_map, Bool, true, false, if◌then◌else◌, inl, inr, refl, sym, ◌∙◌, ap, subst, ◌^◌, ◌<◌, arith}
use Rattle.std.proofs.lemmas.Option.{slice_get-map}
use Rattle.std.proofs.lemmas.Bool.{cases_eq}
use Rattle.hw_base.specs.declared.pointers.Base.{Base}
use Rattle.hw_base.specs.declared.pointers.Base.TheVariants.{Null, Object}
use Rattle.hw_base.specs.declared.pointers.Obj.{Obj}
use Rattle.hw_base.specs.declared.pointers.Site.{Site}
use Rattle.ir_core.specs.declared.ir_module.Module.{Module}
use Rattle.ir_meaning.specs.Births.{Birth, Region, Globals, Dead, SourceObject, get_object, object_in, is_living, region_in, changed_at, fresh_object, fresh_birth, ended_object, ended_birth, after_death, written_from, written_object, written_birth, put_bytes}
use Rattle.ir_meaning.specs.BirthChanges.{BirthsChange, wrote, bore, died, OnlyGrow}
use Rattle.ir_meaning.specs.State.{News}
use Rattle.ir_meaning.specs.Values.{Value, Integer, Address, IntegerAndBit, SourceByte, Data, Piece}
use Rattle.ir_meaning.proofs.BirthChangeLaws.{change-only_grows, change-has_bytes, pushed-get}
use Rattle.well_typed_runs.specs.KnownValues.{IsBorn, IsKnownBase, IsKnownValue, IsKnownByte, AreKnownBytes, AreGoodBirths}
use Rattle.well_typed_runs.specs.GoodWorlds.{AreSmall}
use Rattle.well_typed_runs.specs.GoodFrames.{HasVariables}
use Rattle.well_typed_runs.proofs.Registers.{get-set_here, get-set_other}

-- ---- what was born stays born

same-length : (xs ys : List SourceObject) (i : ℕ) (x : SourceObject) → map (λ (z : SourceObject). z.size) ys ≡ map (λ (z : SourceObject). z.size) xs → slice_get xs i ≡ Some x
    → (y : SourceObject) × (slice_get ys i ≡ Some y)
same-length xs ys i x e there = by_object (slice_get ys i) refl
  where
    by_object : (found : Option SourceObject) → slice_get ys i ≡ found → (y : SourceObject) × (slice_get ys i ≡ Some y)
    by_object (Some y) here = (y, here)
    by_object None here =
        let none : slice_get (map (λ (z : SourceObject). z.size) ys) i ≡ None = slice_get-map (λ (z : SourceObject). z.size) ys i ∙ ap (option_map (λ (z : SourceObject). z.size)) here in
        let some : slice_get (map (λ (z : SourceObject). z.size) xs) i ≡ Some x.size = slice_get-map (λ (z : SourceObject). z.size) xs i ∙ ap (option_map (λ (z : SourceObject). z.size)) there in
        let same : slice_get (map (λ (z : SourceObject). z.size) ys) i ≡ slice_get (map (λ (z : SourceObject). z.size) xs) i = ap (λ (l : List ℕ). slice_get l i) e in
        absurd cc

pub born-grows : (before after : List Birth) (o : Obj) → OnlyGrow before after → IsBorn before o → IsBorn after o
born-grows before after o grow (x, there) = by_birth (slice_get before o.birth) refl there
  where
    by_birth : (found : Option Birth) → slice_get before o.birth ≡ found → object_in found o.index ≡ Some x → IsBorn after o
    by_birth None here e = absurd cc
    by_birth (Some birth) here e =
        let (later, at, same) = grow o.birth birth here in
        let (y, found) = same-length birth.objects later.objects o.index x same.sizes e in
        (y, ap (λ (b : Option Birth). object_in b o.index) at ∙ found)

pub base-grows : (before after : List Birth) (base : Base) → OnlyGrow before after → IsKnownBase before base → IsKnownBase after base
base-grows before after Null grow h = tt
base-grows before after (Object o) grow h = born-grows before after o grow h

pub value-grows : (before after : List Birth) (value : Value) → OnlyGrow before after → IsKnownValue before value → IsKnownValue after value
value-grows before after (Integer n) grow h = tt
value-grows before after (Address base off) grow h = base-grows before after base grow h
value-grows before after (IntegerAndBit n bit) grow h = tt

pub byte-grows : (before after : List Birth) (byte : SourceByte) → OnlyGrow before after → IsKnownByte before byte → IsKnownByte after byte
byte-grows before after (Data n) grow h = tt
byte-grows before after (Piece o off j) grow h = born-grows before after o grow h

pub bytes-grow : (before after : List Birth) (bytes : List SourceByte) → OnlyGrow before after → AreKnownBytes before bytes → AreKnownBytes after bytes
bytes-grow before after bytes grow h k byte e = byte-grows before after byte grow (h k byte e)

pub variables-grow : (before after : List Birth) (sizes : List ℕ) (birth : Option ℕ) → OnlyGrow before after → HasVariables before sizes birth → HasVariables after sizes birth
variables-grow before after sizes None grow h = h
variables-grow before after sizes (Some n) grow (born, (birth, there, other)) =
    let (later, at, same) = grow n birth there in
    (λ k below. born-grows before after (record { birth = n; index = k }) grow (born k below), (later, at, λ e. other (sym same.region ∙ e)))

-- ---- objects of changed births

-- an item of a list with one item changed
pub changed-cases : {X : Type 0} (f : X → X) (xs : List X) (i j : ℕ) (y : X) → slice_get (changed_at f xs i) j ≡ Some y
    → (x : X) × (slice_get xs j ≡ Some x) × ((y ≡ x) ⊎ ((j ≡ i) × (y ≡ f x)))
unfolding changed_at
changed-cases f [] i j y e = absurd cc
changed-cases f (x ∷ xs) zero zero y e = (x, refl, inr (refl, cc))
changed-cases f (x ∷ xs) zero (suc j) y e = (y, e, inl refl)
changed-cases f (x ∷ xs) (suc i) zero y e = (y, e, inl refl)
changed-cases f (x ∷ xs) (suc i) (suc j) y e =
    let (old, there, kind) = changed-cases f xs i j y e in
    (old, there, elim kind [ inl same ↦ inl same | inr (at, is) ↦ inr (ap suc at, is) ])

-- all objects of births, with their regions
abbrev pub AllObjects : (P : Region → SourceObject → Type 0) → List Birth → Type 0
AllObjects P births = (n k : ℕ) (birth : Birth) (x : SourceObject) → slice_get births n ≡ Some birth → slice_get birth.objects k ≡ Some x → P birth.region x

-- births with one birth changed
pub changed-objects : (P : Region → SourceObject → Type 0) (f : Birth → Birth) (births : List Birth) (n : ℕ) → AllObjects P births
    → ((birth : Birth) → slice_get births n ≡ Some birth → (k : ℕ) (x : SourceObject) → slice_get (f birth).objects k ≡ Some x → P (f birth).region x) → AllObjects P (changed_at f births n)
changed-objects P f births n all new number k birth x there e =
    let (old, at, kind) = changed-cases f births n number birth there in
    elim kind [
      | inl same ↦
          let e2 : slice_get old.objects k ≡ Some x = subst (λ (b : Birth). slice_get b.objects k ≡ Some x) same e in
          subst (λ (b : Birth). P b.region x) (sym same) (all number k old x at e2)
      | inr (here, is) ↦
          let at_n : slice_get births n ≡ Some old = subst (λ (i : ℕ). slice_get births i ≡ Some old) here at in
          let e2 : slice_get (f old).objects k ≡ Some x = subst (λ (b : Birth). slice_get b.objects k ≡ Some x) is e in
          subst (λ (b : Birth). P b.region x) (sym is) (new old at_n k x e2)
    ]

-- births with one more
pub pushed-objects : (P : Region → SourceObject → Type 0) (births : List Birth) (birth : Birth) → AllObjects P births
    → ((k : ℕ) (x : SourceObject) → slice_get birth.objects k ≡ Some x → P birth.region x) → AllObjects P (births ++ birth ∷ [])
pushed-objects P births birth all new number k b x there e =
    elim (pushed-get births birth number b there) [
      | inl old ↦ all number k b x old e
      | inr is ↦
          let e2 : slice_get birth.objects k ≡ Some x = subst (λ (c : Birth). slice_get c.objects k ≡ Some x) is e in
          subst (λ (c : Birth). P c.region x) (sym is) (new k x e2)
    ]

-- ---- objects that are as they should be

-- a global variable lives, and the bytes are known
pub record IsGoodObject (births : List Birth) (region : Region) (x : SourceObject) : Type 0 where
  pub living : region ≡ Globals → is_living x.life ≡ true
  pub bytes : AreKnownBytes births x.bytes

pub objects_of : (m : Module) (births : List Birth) → AreGoodBirths m births → AllObjects (IsGoodObject births) births
objects_of m births good n k birth x there e =
    let o : Obj = record { birth = n; index = k } in
    let at : get_object births o ≡ Some x = ap (λ (b : Option Birth). object_in b k) there ∙ e in
    record {
      living = λ region. good.living o x at (ap region_in there ∙ region);
      bytes = good.bytes o x at;
    }

-- births that were as they should be, after a change whose objects are so
pub births_after : (m : Module) (before after : List Birth) (news : List News) → BirthsChange before after news → AreGoodBirths m before → AllObjects (IsGoodObject after) after
    → AreGoodBirths m after
births_after m before after news change good all =
    record {
      globals = λ index below. born-grows before after (record { birth = 0; index = index }) (change-only_grows before after news change) (good.globals index below);
      living = λ o x e region. by_birth_living o x (slice_get after o.birth) refl e region;
      bytes = λ o x e. by_birth_bytes o x (slice_get after o.birth) refl e;
      sizes = change-has_bytes before after news change good.sizes;
    }
  where
    by_birth_living : (o : Obj) (x : SourceObject) (found : Option Birth) → slice_get after o.birth ≡ found → object_in found o.index ≡ Some x → region_in found ≡ Globals → is_living x.life ≡ true
    by_birth_living o x None there e region = absurd cc
    by_birth_living o x (Some birth) there e region = (all o.birth o.index birth x there e).living region

    by_birth_bytes : (o : Obj) (x : SourceObject) (found : Option Birth) → slice_get after o.birth ≡ found → object_in found o.index ≡ Some x → AreKnownBytes after x.bytes
    by_birth_bytes o x None there e = absurd cc
    by_birth_bytes o x (Some birth) there e = (all o.birth o.index birth x there e).bytes

pub object-grows : (before after : List Birth) (region : Region) (x : SourceObject) → OnlyGrow before after → IsGoodObject before region x → IsGoodObject after region x
object-grows before after region x grow h = record { living = h.living; bytes = bytes-grow before after x.bytes grow h.bytes }

pub objects-grow : (before after births : List Birth) → OnlyGrow before after → AllObjects (IsGoodObject before) births → AllObjects (IsGoodObject after) births
objects-grow before after births grow all n k birth x there e = object-grows before after birth.region x grow (all n k birth x there e)

-- ---- writes

set-known : (births : List Birth) (bytes : List SourceByte) (i : ℕ) (byte : SourceByte) → AreKnownBytes births bytes → IsKnownByte births byte → AreKnownBytes births (slice_set bytes i byte)
set-known births bytes i byte h new k b e =
    elim (cases_eq k i) [
      | inl same ↦
          let here : slice_get (slice_set bytes i byte) i ≡ Some b = subst (λ (j : ℕ). slice_get (slice_set bytes i byte) j ≡ Some b) same e in
          was_set (slice_get bytes i) b (sym (get-set_here bytes i byte) ∙ here)
      | inr other ↦ h k b (sym (get-set_other bytes i k byte other) ∙ e)
    ]
  where
    was_set : (old : Option SourceByte) (b : SourceByte) → option_map (λ _old. byte) old ≡ Some b → IsKnownByte births b
    was_set None b e = absurd cc
    was_set (Some x) b e = let is : byte ≡ b = cc in subst (λ (y : SourceByte). IsKnownByte births y) is new

pub written-known : (births : List Birth) (bytes : List SourceByte) (off : ℕ) (new : List SourceByte) → AreKnownBytes births bytes → AreKnownBytes births new
    → AreKnownBytes births (written_from bytes off new)
unfolding written_from
written-known births bytes off [] h new = h
written-known births bytes off (byte ∷ more) h new =
    written-known births (slice_set bytes off byte) (off + 1) more (set-known births bytes off byte h (new 0 byte refl)) (λ k b e. new (suc k) b e)

written-good : (births : List Birth) (region : Region) (off : ℕ) (new : List SourceByte) (x : SourceObject) → AreKnownBytes births new → IsGoodObject births region x
    → IsGoodObject births region (written_object off new x)
written-good births region off new x known h =
    elim (is_living x.life) as (λ (alive : Bool). IsGoodObject births region (if alive then record x { bytes = written_from x.bytes off new } else x)) [
      | true ↦ record { living = h.living; bytes = written-known births x.bytes off new h.bytes known }
      | false ↦ h
    ]

pub births_written : (m : Module) (births : List Birth) (base : Base) (off : ℕ) (new : List SourceByte) → AreGoodBirths m births → AreKnownBytes births new
    → AreGoodBirths m (put_bytes births base off new)
births_written m births Null off new good known = good
births_written m births (Object o) off new good known =
    let change = wrote births (Object o) off new in
    let grow = change-only_grows births (put_bytes births (Object o) off new) [] change in
    births_after m births (put_bytes births (Object o) off new) [] change good
    (objects-grow births (put_bytes births (Object o) off new) (put_bytes births (Object o) off new) grow
    (changed-objects (IsGoodObject births) (written_birth o.index off new) births o.birth (objects_of m births good) (λ birth there k x e.
    let (old, at, kind) = changed-cases (written_object off new) birth.objects o.index k x e in
    let was = objects_of m births good o.birth k birth old there at in
    elim kind [
      | inl same ↦ subst (λ (y : SourceObject). IsGoodObject births birth.region y) (sym same) was
      | inr (here, is) ↦ subst (λ (y : SourceObject). IsGoodObject births birth.region y) (sym is) (written-good births birth.region off new old known was)
    ])))

-- ---- births and deaths

pub zeros-known : (births : List Birth) (size : ℕ) → AreKnownBytes births (replicate size (Data 0))
zeros-known births zero k byte e = absurd cc
zeros-known births (suc size) zero byte e = let is : Data 0 ≡ byte = cc in subst (λ (b : SourceByte). IsKnownByte births b) is tt
zeros-known births (suc size) (suc k) byte e = zeros-known births size k byte e

fresh-good : (births : List Birth) (region : Region) (sizes : List ℕ) (k : ℕ) (x : SourceObject) → slice_get (map fresh_object sizes) k ≡ Some x → IsGoodObject births region x
fresh-good births region [] k x e = absurd cc
fresh-good births region (size ∷ sizes) zero x e =
    let is : fresh_object size ≡ x = cc in
    subst (λ (y : SourceObject). IsGoodObject births region y) is (record { living = λ global. refl; bytes = zeros-known births size })
fresh-good births region (size ∷ sizes) (suc k) x e = fresh-good births region sizes k x e

pub births_born : (m : Module) (births : List Birth) (region : Region) (task : ℕ) (chain : List Site) (sizes : List ℕ) → AreGoodBirths m births
    → AreGoodBirths m (births ++ fresh_birth region task chain sizes ∷ [])
births_born m births region task chain sizes good =
    let after : List Birth = births ++ fresh_birth region task chain sizes ∷ [] in
    let change = bore births region task chain sizes in
    births_after m births after _ change good
    (pushed-objects (IsGoodObject after) births (fresh_birth region task chain sizes)
    (objects-grow births after births (change-only_grows births after _ change) (objects_of m births good))
    (λ k x e. fresh-good after region sizes k x e))

ended-good : (births : List Birth) (region : Region) (task : ℕ) (chain : List Site) (x : SourceObject) → (region ≡ Globals → ⊥) → IsGoodObject births region x
    → IsGoodObject births region (ended_object task chain x)
ended-good births region task chain x other h =
    elim (is_living x.life) as (λ (alive : Bool). IsGoodObject births region (if alive then record x { life = Dead task chain; bytes = [] } else x)) [
      | true ↦ record { living = λ global. absurd (other global); bytes = λ k byte e. absurd cc }
      | false ↦ h
    ]

ended-get : (task : ℕ) (chain : List Site) (xs : List SourceObject) (k : ℕ) (y : SourceObject) → slice_get (map (ended_object task chain) xs) k ≡ Some y
    → (x : SourceObject) × (slice_get xs k ≡ Some x) × (y ≡ ended_object task chain x)
ended-get task chain [] k y e = absurd cc
ended-get task chain (x ∷ xs) zero y e = (x, refl, cc)
ended-get task chain (x ∷ xs) (suc k) y e = ended-get task chain xs k y e

pub births_ended : (m : Module) (births : List Birth) (n task : ℕ) (chain : List Site) → AreGoodBirths m births
    → ((birth : Birth) → slice_get births n ≡ Some birth → birth.region ≡ Globals → ⊥) → AreGoodBirths m (after_death births n task chain)
births_ended m births n task chain good other =
    let after : List Birth = after_death births n task chain in
    let change = died births n task chain in
    let grow = change-only_grows births after _ change in
    births_after m births after _ change good
    (objects-grow births after after grow
    (changed-objects (IsGoodObject births) (ended_birth task chain) births n (objects_of m births good) (λ birth there k x e.
    let (old, at, is) = ended-get task chain birth.objects k x e in
    subst (λ (y : SourceObject). IsGoodObject births birth.region y) (sym is)
    (ended-good births birth.region task chain old (other birth there) (objects_of m births good n k birth old there at)))))

-- ---- small objects

abbrev IsSmallObject : Region → SourceObject → Type 0
IsSmallObject region x = x.size < 2 ^ 64

small_objects : (births : List Birth) → AreSmall births → AllObjects IsSmallObject births
small_objects births small n k birth x there e = small (record { birth = n; index = k }) x (ap (λ (b : Option Birth). object_in b k) there ∙ e)

objects_small : (births : List Birth) → AllObjects IsSmallObject births → AreSmall births
objects_small births all o x e = by_birth (slice_get births o.birth) refl e
  where
    by_birth : (found : Option Birth) → slice_get births o.birth ≡ found → object_in found o.index ≡ Some x → x.size < 2 ^ 64
    by_birth None there h = absurd cc
    by_birth (Some birth) there h = all o.birth o.index birth x there h

size-written : (off : ℕ) (new : List SourceByte) (x : SourceObject) → (written_object off new x).size ≡ x.size
size-written off new x =
    elim (is_living x.life) as (λ (alive : Bool). (if alive then record x { bytes = written_from x.bytes off new } else x).size ≡ x.size) [ true ↦ refl | false ↦ refl ]

size-ended : (task : ℕ) (chain : List Site) (x : SourceObject) → (ended_object task chain x).size ≡ x.size
size-ended task chain x =
    elim (is_living x.life) as (λ (alive : Bool). (if alive then record x { life = Dead task chain; bytes = [] } else x).size ≡ x.size) [ true ↦ refl | false ↦ refl ]

smaller : (a b : ℕ) → a ≡ b → b < 2 ^ 64 → a < 2 ^ 64
smaller a b e h = omega arith

pub small_written : (births : List Birth) (base : Base) (off : ℕ) (new : List SourceByte) → AreSmall births → AreSmall (put_bytes births base off new)
small_written births Null off new small = small
small_written births (Object o) off new small =
    objects_small (put_bytes births (Object o) off new)
    (changed-objects IsSmallObject (written_birth o.index off new) births o.birth (small_objects births small) (λ birth there k x e.
    let (old, at, kind) = changed-cases (written_object off new) birth.objects o.index k x e in
    let was : old.size < 2 ^ 64 = small_objects births small o.birth k birth old there at in
    elim kind [
      | inl same ↦ smaller x.size old.size (ap (λ (y : SourceObject). y.size) same) was
      | inr (here, is) ↦ smaller x.size old.size (ap (λ (y : SourceObject). y.size) is ∙ size-written off new old) was
    ]))

pub small_ended : (births : List Birth) (n task : ℕ) (chain : List Site) → AreSmall births → AreSmall (after_death births n task chain)
small_ended births n task chain small =
    objects_small (after_death births n task chain)
    (changed-objects IsSmallObject (ended_birth task chain) births n (small_objects births small) (λ birth there k x e.
    let (old, at, is) = ended-get task chain birth.objects k x e in
    smaller x.size old.size (ap (λ (y : SourceObject). y.size) is ∙ size-ended task chain old) (small_objects births small n k birth old there at)))

-- sizes below 2^64
abbrev pub AreSmallSizes : List ℕ → Type 0
AreSmallSizes sizes = (k size : ℕ) → slice_get sizes k ≡ Some size → size < 2 ^ 64

fresh_small : (sizes : List ℕ) (k : ℕ) (x : SourceObject) → AreSmallSizes sizes → slice_get (map fresh_object sizes) k ≡ Some x → x.size < 2 ^ 64
fresh_small [] k x small e = absurd cc
fresh_small (size ∷ sizes) zero x small e = let is : fresh_object size ≡ x = cc in smaller x.size size (ap (λ (y : SourceObject). y.size) (sym is)) (small 0 size refl)
fresh_small (size ∷ sizes) (suc k) x small e = fresh_small sizes k x (λ i n at. small (suc i) n at) e

pub small_born : (births : List Birth) (region : Region) (task : ℕ) (chain : List Site) (sizes : List ℕ) → AreSmallSizes sizes → AreSmall births
    → AreSmall (births ++ fresh_birth region task chain sizes ∷ [])
small_born births region task chain sizes sizes_small small =
    objects_small (births ++ fresh_birth region task chain sizes ∷ [])
    (pushed-objects IsSmallObject births (fresh_birth region task chain sizes) (small_objects births small) (λ k x e. fresh_small sizes k x sizes_small e))

pub one_size : (size : ℕ) → size < 2 ^ 64 → AreSmallSizes (size ∷ [])
one_size size h zero n e = let is : size ≡ n = cc in smaller n size (sym is) h
one_size size h (suc k) n e = absurd cc
