-- Objects by their numbers after a birth: an old one as it was, or one of the new birth.
use Rattle.std.proofs.Common.{◌≡◌, ℕ, zero, suc, ◌<◌, List, [], ◌∷◌, ◌++◌, length, map, slice_get, Option, Some, None, option_map, ◌⊎◌, inl, inr, refl, sym, ◌∙◌, ap, arith}
use Rattle.std.proofs.lemmas.Option.{slice_get-map, slice_get_within}
use Rattle.dbg_sites.proofs.ChainLemmas.{slice_get-push_new}
use Rattle.hw_base.specs.declared.pointers.Obj.{Obj}
use Rattle.hw_base.specs.declared.pointers.Site.{Site}
use Rattle.ir_meaning.specs.Births.{Region, Birth, SourceObject, Living, object_in, get_object, fresh_object, fresh_birth}
use Rattle.ir_meaning.specs.Values.{SourceByte, Data}
use Rattle.tag_story.proofs.StoryLists.{pushed-cases}
use Rattle.tag_story.specs.Story.{Placed, StoryBirth, placed_in, get_placed}

-- the birth of these objects in the story
abbrev pub told_birth : Region → (task : ℕ) → List Site → List Placed → StoryBirth
told_birth region task chain objects = record { region = region; task = task; born = chain; life = Living; objects = objects }

-- ---- objects of the source

-- an object of the new birth
pub record IsNewObject (births : List Birth) (sizes : List ℕ) (o : Obj) (x : SourceObject) : Type 0 where
  pub birth : o.birth ≡ length births
  pub size : ℕ
  pub there : slice_get sizes o.index ≡ Some size
  pub is : x ≡ fresh_object size

new-object : (births : List Birth) (sizes : List ℕ) (o : Obj) (x : SourceObject) → o.birth ≡ length births → slice_get (map fresh_object sizes) o.index ≡ Some x → IsNewObject births sizes o x
new-object births sizes o x same h = by_size (slice_get sizes o.index) refl
  where
    mapped : option_map fresh_object (slice_get sizes o.index) ≡ Some x
    mapped = sym (slice_get-map fresh_object sizes o.index) ∙ h

    by_size : (s : Option ℕ) → slice_get sizes o.index ≡ s → IsNewObject births sizes o x
    by_size None here = let none : option_map fresh_object None ≡ Some x = ap (option_map fresh_object) (sym here) ∙ mapped in absurd cc
    by_size (Some size) here = let one : option_map fresh_object (Some size) ≡ Some x = ap (option_map fresh_object) (sym here) ∙ mapped in record { birth = same; size = size; there = here; is = cc }

pub object-cases : (births : List Birth) (region : Region) (task : ℕ) (chain : List Site) (sizes : List ℕ) (o : Obj) (x : SourceObject) → get_object (births ++ fresh_birth region task chain sizes ∷ []) o ≡ Some x → (get_object births o ≡ Some x) ⊎ IsNewObject births sizes o x
object-cases births region task chain sizes o x h = by_birth (slice_get (births ++ fresh_birth region task chain sizes ∷ []) o.birth) refl h
  where
    by_birth : (b : Option Birth) → slice_get (births ++ fresh_birth region task chain sizes ∷ []) o.birth ≡ b → object_in b o.index ≡ Some x → (get_object births o ≡ Some x) ⊎ IsNewObject births sizes o x
    by_birth None here found = absurd cc
    by_birth (Some birth) here found =
        elim (pushed-cases births (fresh_birth region task chain sizes) o.birth birth here) [
          | inl old ↦ inl (ap (λ b. object_in b o.index) old ∙ found)
          | inr new ↦ inr (new-object births sizes o x new.0 (ap (λ (b : Birth). slice_get b.objects o.index) (sym new.1) ∙ found))
        ]

pub object-below : (births : List Birth) (o : Obj) (x : SourceObject) → get_object births o ≡ Some x → o.birth < length births
object-below births o x h = by_birth (slice_get births o.birth) refl h
  where
    by_birth : (b : Option Birth) → slice_get births o.birth ≡ b → object_in b o.index ≡ Some x → o.birth < length births
    by_birth None here found = absurd cc
    by_birth (Some birth) here found = slice_get_within births o.birth birth here

-- the bytes of a new object are all 0
pub new-byte : (size i : ℕ) (byte : SourceByte) → slice_get (fresh_object size).bytes i ≡ Some byte → (byte ≡ Data 0) × (i < size)
new-byte zero i byte h = absurd cc
new-byte (suc n) zero byte h = (cc, omega arith)
new-byte (suc n) (suc i) byte h = let rest = new-byte n i byte h in let below = rest.1 in (rest.0, omega (arith, below))

-- ---- objects of the story

-- an object of the new birth
pub record IsNewPlaced (births : List StoryBirth) (objects : List Placed) (o : Obj) (x : Placed) : Type 0 where
  pub birth : o.birth ≡ length births
  pub there : slice_get objects o.index ≡ Some x

pub placed-cases : (births : List StoryBirth) (region : Region) (task : ℕ) (chain : List Site) (objects : List Placed) (o : Obj) (x : Placed) → get_placed (births ++ told_birth region task chain objects ∷ []) o ≡ Some x → (get_placed births o ≡ Some x) ⊎ IsNewPlaced births objects o x
placed-cases births region task chain objects o x h = by_birth (slice_get (births ++ told_birth region task chain objects ∷ []) o.birth) refl h
  where
    by_birth : (b : Option StoryBirth) → slice_get (births ++ told_birth region task chain objects ∷ []) o.birth ≡ b → placed_in b o.index ≡ Some x → (get_placed births o ≡ Some x) ⊎ IsNewPlaced births objects o x
    by_birth None here found = absurd cc
    by_birth (Some birth) here found =
        elim (pushed-cases births (told_birth region task chain objects) o.birth birth here) [
          | inl old ↦ inl (ap (λ b. placed_in b o.index) old ∙ found)
          | inr new ↦ inr (record { birth = new.0; there = ap (λ (b : StoryBirth). slice_get b.objects o.index) (sym new.1) ∙ found })
        ]

pub placed-below : (births : List StoryBirth) (o : Obj) (x : Placed) → get_placed births o ≡ Some x → o.birth < length births
placed-below births o x h = by_birth (slice_get births o.birth) refl h
  where
    by_birth : (b : Option StoryBirth) → slice_get births o.birth ≡ b → placed_in b o.index ≡ Some x → o.birth < length births
    by_birth None here found = absurd cc
    by_birth (Some birth) here found = slice_get_within births o.birth birth here

-- a placed object is object o.index of birth o.birth
pub record IsPlacedIn (births : List StoryBirth) (o : Obj) (x : Placed) : Type 0 where
  pub birth : StoryBirth
  pub there : slice_get births o.birth ≡ Some birth
  pub object : slice_get birth.objects o.index ≡ Some x

pub placed-in : (births : List StoryBirth) (o : Obj) (x : Placed) → get_placed births o ≡ Some x → IsPlacedIn births o x
placed-in births o x h = by_birth (slice_get births o.birth) refl h
  where
    by_birth : (b : Option StoryBirth) → slice_get births o.birth ≡ b → placed_in b o.index ≡ Some x → IsPlacedIn births o x
    by_birth None here found = absurd cc
    by_birth (Some birth) here found = record { birth = birth; there = here; object = found }

pub new-there : (births : List StoryBirth) (new : StoryBirth) → slice_get (births ++ new ∷ []) (length births) ≡ Some new
new-there births new = slice_get-push_new births new

-- an item of a list whose numbers are those of another
pub same-number : {X : Type 0} (f : X → ℕ) (xs : List X) (ns : List ℕ) (k : ℕ) (x : X) (n : ℕ) → map f xs ≡ ns → slice_get xs k ≡ Some x → slice_get ns k ≡ Some n → f x ≡ n
same-number f xs ns k x n same there at =
    let one : Some (f x) ≡ Some n = sym (slice_get-map f xs k ∙ ap (option_map f) there) ∙ ap (λ ms. slice_get ms k) same ∙ at in
    cc
