-- A death keeps what is related of objects and memory: the dead objects have no bytes, their granules get another tag, and nothing
-- else changes.
use Rattle.std.proofs.Common.{◌≡◌, ◌≢◌, ℕ, zero, suc, ◌+◌, ◌-◌, ◌*◌, ◌%◌, ◌<◌, Bool, true, false, if◌then◌else◌, List, [], ◌∷◌, length, map, slice_get, Option, Some, None, is_some, ◌⊎◌, inl, inr, refl, sym, ◌∙◌, ap, subst, arith}
use Rattle.hw_base.specs.AddressMap.{rounded_size}
use Rattle.hw_base.specs.declared.pointers.Obj.{Obj}
use Rattle.hw_base.specs.declared.pointers.Site.{Site}
use Rattle.global_tags.specs.declared.descriptor.Descriptor.{Descriptor}
use Rattle.ir_core.specs.declared.ir_module.GlobalVar.{GlobalVar}
use Rattle.ir_machine.specs.State.{MachineSetting}
use Rattle.ir_meaning.proofs.BirthChangeLaws.{change-has_bytes}
use Rattle.ir_meaning.specs.BirthChanges.{died}
use Rattle.ir_meaning.specs.Births.{Globals, Birth, SourceObject, Dead, is_living, object_in, get_object, changed_at, ended_object, ended_birth, after_death}
use Rattle.ir_meaning.specs.Values.{SourceByte}
use Rattle.tag_story.proofs.Owners.{covers-in, one-owner}
use Rattle.tag_story.proofs.StoryLists.{changed-cases}
use Rattle.tag_story.specs.Story.{Story, Placed, StoryBirth, placed_in, get_placed, byte_image}
use Rattle.tag_story.specs.StoryFacts.{IsLaidOut, IsObject}
use Rattle.tag_story.specs.StoryTags.{Owner, owner_in, owner_from, owner_of, freed_tag, tag_by, is_mapped}
use Rattle.tag_story.specs.Telling.{ended}
use Rattle.tbi_memory.specs.AddressSpace.{AddressSpace}
use Rattle.tbi_memory.specs.MappedBytes.{Range, byte_at}
use Rattle.simulation.proofs.BirthOwners.{CoverNot, OneCovers, one-or-none, in-not}
use Rattle.simulation.proofs.BirthRelated.{IsInMap, ObjectsRelated}
use Rattle.simulation.proofs.FinePasses.{owned}
use Rattle.simulation.proofs.Images.{stays-died, byte-stays, known_byte-stays}
use Rattle.simulation.proofs.OwnedGranules.{IsOwner, owner-is}
use Rattle.simulation.proofs.TablesKept.{changed-other}
use Rattle.simulation.specs.Images.{Stays}
use Rattle.simulation.specs.Parts.{IsTold, IsKnownByte, HasTags, LiesAsConstant}
use Rattle.simulation.specs.Relation.{HasGlobals, story_setting}

-- ---- lists

pub length-changed : {X : Type 0} (f : X → X) (xs : List X) (i : ℕ) → length (changed_at f xs i) ≡ length xs
unfolding changed_at
length-changed f [] i = refl
length-changed f (x ∷ xs) zero = refl
length-changed f (x ∷ xs) (suc i) = ap suc (length-changed f xs i)

-- ---- owners

-- a birth that dies owns nothing more; a granule that it didn't cover keeps its owner
from-died : (n k : ℕ) (births : List StoryBirth) (task : ℕ) (chain : List Site) (g : ℕ) → ((birth : StoryBirth) → slice_get births k ≡ Some birth → CoverNot birth.objects g) → owner_from n (changed_at (ended task chain) births k) g ≡ owner_from n births g
unfolding owner_from changed_at
from-died n k [] task chain g none = refl
from-died n zero (birth ∷ births) task chain g none = by_life (is_living birth.life)
  where
    by_life : (bit : Bool) → owner_from (n + 1) births g ≡ (if bit then owner_in n 0 birth.objects g (owner_from (n + 1) births g) else owner_from (n + 1) births g)
    by_life true = sym (in-not n 0 birth.objects g (owner_from (n + 1) births g) (none birth refl))
    by_life false = refl
from-died n (suc k) (birth ∷ births) task chain g none =
    ap (λ (later : Option Owner). if is_living birth.life then owner_in n 0 birth.objects g later else later) (from-died (n + 1) k births task chain g none)

-- ---- objects

ended-alive : (task : ℕ) (chain : List Site) (x : SourceObject) → is_living x.life ≡ true → ended_object task chain x ≡ record x { life = Dead task chain; bytes = [] }
ended-alive task chain x alive = rw alive refl

ended-size : (task : ℕ) (chain : List Site) (x : SourceObject) → (ended_object task chain x).size ≡ x.size
ended-size task chain x = elim (is_living x.life) as (λ b. (if b then record x { life = Dead task chain; bytes = [] } else x).size ≡ x.size) [ true ↦ refl | false ↦ refl ]

ended-constant : (task : ℕ) (chain : List Site) (x : SourceObject) → (ended_object task chain x).constant ≡ x.constant
ended-constant task chain x = elim (is_living x.life) as (λ b. (if b then record x { life = Dead task chain; bytes = [] } else x).constant ≡ x.constant) [ true ↦ refl | false ↦ refl ]

ended-sizes : (task : ℕ) (chain : List Site) (xs : List SourceObject) → map (λ (x : SourceObject). x.size) (map (ended_object task chain) xs) ≡ map (λ (x : SourceObject). x.size) xs
ended-sizes task chain [] = refl
ended-sizes task chain (x ∷ xs) = ap (λ n. n ∷ map (λ (x : SourceObject). x.size) (map (ended_object task chain) xs)) (ended-size task chain x) ∙ ap (λ ns. x.size ∷ ns) (ended-sizes task chain xs)

-- an object of a birth that died
record IsEndedObject (task : ℕ) (chain : List Site) (xs : List SourceObject) (k : ℕ) (y : SourceObject) : Type 0 where
  x : SourceObject
  there : slice_get xs k ≡ Some x
  is : y ≡ ended_object task chain x

ended-get : (task : ℕ) (chain : List Site) (xs : List SourceObject) (k : ℕ) (y : SourceObject) → slice_get (map (ended_object task chain) xs) k ≡ Some y → IsEndedObject task chain xs k y
ended-get task chain [] k y h = absurd cc
ended-get task chain (x ∷ xs) zero y h = record { x = x; there = refl; is = cc }
ended-get task chain (x ∷ xs) (suc k) y h = let rest = ended-get task chain xs k y h in record { x = rest.x; there = rest.there; is = rest.is }

-- a granule of a living birth has a tag
pub tag-before : (setting : MachineSetting) (w : Story) (shadow : List Range) (number : ℕ) (birth : StoryBirth) (g : ℕ) → IsLaidOut (story_setting setting) w → HasTags (story_setting setting) w shadow → slice_get w.births number ≡ Some birth → is_living birth.life ≡ true → OneCovers birth.objects g → is_some (byte_at shadow g) ≡ true
tag-before setting w shadow number birth g laid tags there alive one =
    let (owner, (found, same)) = owned (story_setting setting) w g number one.k birth one.x laid (record { there = there; object = one.there }) alive one.over in
    ap is_some (tags g ∙ ap (tag_by (story_setting setting) w.freed g) found)

module _ (setting : MachineSetting) (objects : List Birth) (w : Story) (space : AddressSpace) (descriptors : List Descriptor) (laid : IsLaidOut (story_setting setting) w) (related : ObjectsRelated setting objects w space descriptors)
    (number task : ℕ) (chain : List Site) (birth : StoryBirth) (there : slice_get w.births number ≡ Some birth) (alive : is_living birth.life ≡ true) (no_globals : birth.region ≢ Globals)
    (shadow : List Range) (after : Story) (after_births : after.births ≡ changed_at (ended task chain) w.births number)
    (in_map : (k : ℕ) (x : Placed) → slice_get birth.objects k ≡ Some x → IsInMap (story_setting setting) x)
    (covered : (g : ℕ) → OneCovers birth.objects g → byte_at shadow g ≡ Some (freed_tag after.freed g))
    (uncovered : (g : ℕ) → CoverNot birth.objects g → (byte_at shadow g ≡ byte_at space.shadow g) × (freed_tag after.freed g ≡ freed_tag w.freed g)) where
  abbrev births_after : List StoryBirth
  births_after = changed_at (ended task chain) w.births number

  abbrev objects_after : List Birth
  objects_after = after_death objects number task chain

  stays : Stays w.births births_after
  stays = stays-died w.births number task chain

  same-birth : (story : StoryBirth) → slice_get w.births number ≡ Some story → story ≡ birth
  same-birth story h = let one : Some story ≡ Some birth = sym h ∙ there in cc

  -- ---- objects by their numbers

  -- an object after the death is another one as it was, or one of the birth that died, which lived
  record IsAfter (o : Obj) (y : SourceObject) : Type 0 where
    x : SourceObject
    before : get_object objects o ≡ Some x
    kind : ((y ≡ x) × (o.birth ≢ number)) ⊎ ((y ≡ record x { life = Dead task chain; bytes = [] }) × (o.birth ≡ number))

  object-lives : (o : Obj) (b : Birth) (x : SourceObject) → slice_get objects o.birth ≡ Some b → slice_get b.objects o.index ≡ Some x → o.birth ≡ number → is_living x.life ≡ true
  object-lives o b x here object same =
      let story : slice_get w.births o.birth ≡ Some birth = ap (slice_get w.births) same ∙ there in
      ap is_living ((related.told.each o.birth b birth here story).lives o.index x object) ∙ alive

  object-after : (o : Obj) (y : SourceObject) → get_object objects_after o ≡ Some y → IsAfter o y
  object-after o y h = by_birth (slice_get objects_after o.birth) refl h
    where
      by_kind : (changed b : Birth) → slice_get objects o.birth ≡ Some b → ((changed ≡ b) × (o.birth ≡ number → ⊥)) ⊎ ((changed ≡ ended_birth task chain b) × (o.birth ≡ number)) → slice_get changed.objects o.index ≡ Some y → IsAfter o y
      by_kind changed b here (inl other) found =
          record {
            x = y;
            before = ap (λ c. object_in c o.index) here ∙ ap (λ (c : Birth). slice_get c.objects o.index) (sym other.0) ∙ found;
            kind = inl (refl, other.1);
          }
      by_kind changed b here (inr own) found =
          let old = ended-get task chain b.objects o.index y (ap (λ (c : Birth). slice_get c.objects o.index) (sym own.0) ∙ found) in
          record {
            x = old.x;
            before = ap (λ c. object_in c o.index) here ∙ old.there;
            kind = inr (old.is ∙ ended-alive task chain old.x (object-lives o b old.x here old.there own.1), own.1);
          }

      by_birth : (c : Option Birth) → slice_get objects_after o.birth ≡ c → object_in c o.index ≡ Some y → IsAfter o y
      by_birth None here found = absurd cc
      by_birth (Some changed) here found =
          let (b, before, kind) = changed-cases (ended_birth task chain) objects number o.birth changed here in
          by_kind changed b before kind found

  -- places are as they were
  placed-before : (o : Obj) (p : Placed) → get_placed births_after o ≡ Some p → get_placed w.births o ≡ Some p
  placed-before o p h = by_birth (slice_get births_after o.birth) refl h
    where
      by_birth : (c : Option StoryBirth) → slice_get births_after o.birth ≡ c → placed_in c o.index ≡ Some p → get_placed w.births o ≡ Some p
      by_birth None here found = absurd cc
      by_birth (Some changed) here found =
          let (b, before, kind) = changed-cases (ended task chain) w.births number o.birth changed here in
          ap (λ c. placed_in c o.index) before
          ∙ elim kind [
            | inl other ↦ ap (λ (c : StoryBirth). slice_get c.objects o.index) (sym other.0) ∙ found
            | inr own ↦ ap (λ (c : StoryBirth). slice_get c.objects o.index) (sym own.0) ∙ found
          ]

  -- ---- the parts

  ended-told : (b : Birth) → slice_get objects number ≡ Some b → IsTold b birth → IsTold (ended_birth task chain b) (ended task chain birth)
  ended-told b here told =
      record {
        region = told.region;
        task = told.task;
        born = told.born;
        sizes = told.sizes ∙ sym (ended-sizes task chain b.objects);
        lives = λ k y h.
            let old = ended-get task chain b.objects k y h in
            ap (λ (z : SourceObject). z.life) (old.is ∙ ended-alive task chain old.x (ap is_living (told.lives k old.x old.there) ∙ alive));
      }

  each-told : (n : ℕ) (b : Birth) (story : StoryBirth) → slice_get objects_after n ≡ Some b → slice_get births_after n ≡ Some story → IsTold b story
  each-told n b story h k =
      let (old, before, kind) = changed-cases (ended_birth task chain) objects number n b h in
      let (told, story_before, story_kind) = changed-cases (ended task chain) w.births number n story k in
      by_kinds old told before story_before kind story_kind
    where
      by_kinds : (old : Birth) (told : StoryBirth) → slice_get objects n ≡ Some old → slice_get w.births n ≡ Some told → ((b ≡ old) × (n ≡ number → ⊥)) ⊎ ((b ≡ ended_birth task chain old) × (n ≡ number)) → ((story ≡ told) × (n ≡ number → ⊥)) ⊎ ((story ≡ ended task chain told) × (n ≡ number)) → IsTold b story
      by_kinds old told before story_before (inl other) (inl also) = subst (λ (c : Birth). IsTold c story) (sym other.0) (subst (IsTold old) (sym also.0) (related.told.each n old told before story_before))
      by_kinds old told before story_before (inl other) (inr own) = absurd (other.1 own.1)
      by_kinds old told before story_before (inr own) (inl other) = absurd (other.1 own.1)
      by_kinds old told before story_before (inr own) (inr also) =
          let same = same-birth told (ap (slice_get w.births) (sym own.1) ∙ story_before) in
          let told_old : IsTold old birth = subst (IsTold old) same (related.told.each n old told before story_before) in
          subst (λ (c : Birth). IsTold c story) (sym own.0) (subst (IsTold (ended_birth task chain old)) (sym (also.0 ∙ ap (ended task chain) same)) (ended-told old (ap (slice_get objects) (sym own.1) ∙ before) told_old))

  each-known : (o : Obj) (y : SourceObject) (i : ℕ) (byte : SourceByte) → get_object objects_after o ≡ Some y → slice_get y.bytes i ≡ Some byte → IsKnownByte births_after byte
  each-known o y i byte h at =
      let own = object-after o y h in
      elim own.kind [
        | inl other ↦ known_byte-stays w.births births_after byte stays (related.known o own.x i byte own.before (ap (λ (z : SourceObject). slice_get z.bytes i) (sym other.0) ∙ at))
        | inr dead ↦ let none : slice_get {X = SourceByte} [] i ≡ Some byte = ap (λ (z : SourceObject). slice_get z.bytes i) (sym dead.0) ∙ at in absurd cc
      ]

  each-byte : (o : Obj) (y : SourceObject) (p : Placed) (i : ℕ) (byte : SourceByte) → get_object objects_after o ≡ Some y → get_placed births_after o ≡ Some p → slice_get y.bytes i ≡ Some byte → byte_at space.bytes (p.at + i) ≡ Some (byte_image births_after byte)
  each-byte o y p i byte h at byte_there =
      let own = object-after o y h in
      elim own.kind [
        | inl other ↦
            let before = ap (λ (z : SourceObject). slice_get z.bytes i) (sym other.0) ∙ byte_there in
            related.bytes.byte o own.x p i byte own.before (placed-before o p at) before
            ∙ ap (λ n. Some n) (sym (byte-stays w.births births_after byte stays (related.known o own.x i byte own.before before)))
        | inr dead ↦ let none : slice_get {X = SourceByte} [] i ≡ Some byte = ap (λ (z : SourceObject). slice_get z.bytes i) (sym dead.0) ∙ byte_there in absurd cc
      ]

  each-last : (o : Obj) (y : SourceObject) (p : Placed) → get_object objects_after o ≡ Some y → get_placed births_after o ≡ Some p → is_living y.life ≡ true → 0 < p.size % 16 → byte_at space.bytes (p.at + rounded_size p.size - 1) ≡ Some p.tag
  each-last o y p h at living short =
      let own = object-after o y h in
      elim own.kind [
        | inl other ↦ related.bytes.last o own.x p own.before (placed-before o p at) (ap (λ (z : SourceObject). is_living z.life) (sym other.0) ∙ living) short
        | inr dead ↦ let wrong : false ≡ true = ap (λ (z : SourceObject). is_living z.life) (sym dead.0) ∙ living in absurd cc
      ]

  each-constant : (o : Obj) (y : SourceObject) (p : Placed) → get_object objects_after o ≡ Some y → get_placed births_after o ≡ Some p → LiesAsConstant y.constant space.constants_at space.constants_end p
  each-constant o y p h at =
      let own = object-after o y h in
      let lies = related.constants o own.x p own.before (placed-before o p at) in
      elim own.kind [
        | inl other ↦ subst (λ (z : SourceObject). LiesAsConstant z.constant space.constants_at space.constants_end p) (sym other.0) lies
        | inr dead ↦ subst (λ (z : SourceObject). LiesAsConstant z.constant space.constants_at space.constants_end p) (sym dead.0) lies
      ]

  globals-kept : (globals : List GlobalVar) → HasGlobals globals w.births descriptors → HasGlobals globals births_after descriptors
  globals-kept [] has = tt
  globals-kept (g ∷ globals) has = (has.0, changed-other (ended task chain) w.births number 0 has.0 (λ zero_is. no_globals (ap (λ (b : StoryBirth). b.region) (sym (same-birth has.0 (ap (slice_get w.births) (sym zero_is) ∙ has.1))) ∙ has.2)) has.1, has.2, has.3)

  -- ---- tags

  -- an object that lives after the death is of another birth, and lived before
  owner-before : (g : ℕ) (owner : Owner) → IsOwner births_after g owner → OneCovers birth.objects g → ⊥
  owner-before g owner own one =
      let (b, before, kind) = changed-cases (ended task chain) w.births number owner.o.birth own.birth own.object.there in
      elim kind [
        | inl other ↦
            let object : IsObject w.births owner.o.birth owner.o.index b owner.placed = record { there = before; object = ap (λ (c : StoryBirth). slice_get c.objects owner.o.index) (sym other.0) ∙ own.object.object } in
            let same = one-owner (story_setting setting) w g owner.o.birth owner.o.index number one.k b birth owner.placed one.x laid object (record { there = there; object = one.there }) (ap (λ (c : StoryBirth). is_living c.life) (sym other.0) ∙ own.alive) alive own.over one.over in
            other.1 same.0
        | inr dead ↦ let wrong : false ≡ true = ap (λ (c : StoryBirth). is_living c.life) (sym dead.0) ∙ own.alive in absurd cc
      ]

  each-tag : (g : ℕ) → byte_at shadow g ≡ tag_by (story_setting setting) after.freed g (owner_of births_after g)
  each-tag g = by_cover (one-or-none birth.objects g)
    where
      by_owner : OneCovers birth.objects g → (o : Option Owner) → owner_of births_after g ≡ o → Some (freed_tag after.freed g) ≡ tag_by (story_setting setting) after.freed g o
      by_owner one (Some owner) found = absurd (owner-before g owner (owner-is births_after g owner found) one)
      by_owner one None found =
          let inside = covers-in one.x g one.over in
          sym (ap (λ bit. if bit then Some (freed_tag after.freed g) else None) (in_map one.k one.x one.there (16 * g) inside.0 inside.1))

      by_freed : (o : Option Owner) → freed_tag after.freed g ≡ freed_tag w.freed g → tag_by (story_setting setting) w.freed g o ≡ tag_by (story_setting setting) after.freed g o
      by_freed None same = ap (λ tag. if is_mapped (story_setting setting) g then Some tag else None) (sym same)
      by_freed (Some owner) same = refl

      by_cover : OneCovers birth.objects g ⊎ CoverNot birth.objects g → byte_at shadow g ≡ tag_by (story_setting setting) after.freed g (owner_of births_after g)
      by_cover (inl one) = covered g one ∙ by_owner one (owner_of births_after g) refl
      by_cover (inr none) =
          let facts = uncovered g none in
          facts.0
          ∙ related.tags g
          ∙ by_freed (owner_of w.births g) facts.1
          ∙ ap (tag_by (story_setting setting) after.freed g) (sym (from-died 0 number w.births task chain g (λ b h. subst (λ (c : StoryBirth). CoverNot c.objects g) (sym (same-birth b h)) none)))

  pub death-related : ObjectsRelated setting objects_after after (record space { shadow = shadow }) descriptors
  death-related =
      record {
        told = record {
          count = let a = length-changed (ended task chain) w.births number in let b = length-changed (ended_birth task chain) objects number in let c = related.told.count in let d = ap length after_births in omega (arith, a, b, c, d);
          each = λ n b story h k. each-told n b story h (ap (λ bs. slice_get bs n) (sym after_births) ∙ k);
        };
        their_bytes = change-has_bytes objects objects_after _ (died objects number task chain) related.their_bytes;
        known = λ o y i byte h at. subst (λ births. IsKnownByte births byte) (sym after_births) (each-known o y i byte h at);
        tags = λ g. each-tag g ∙ ap (λ births. tag_by (story_setting setting) after.freed g (owner_of births g)) (sym after_births);
        bytes = record {
          byte = λ o y p i byte h at byte_there. each-byte o y p i byte h (ap (λ births. get_placed births o) (sym after_births) ∙ at) byte_there ∙ ap (λ births. Some (byte_image births byte)) (sym after_births);
          last = λ o y p h at living short. each-last o y p h (ap (λ births. get_placed births o) (sym after_births) ∙ at) living short;
        };
        mapped = related.mapped;
        constants = λ o y p h at. each-constant o y p h (ap (λ births. get_placed births o) (sym after_births) ∙ at);
        globals = subst (λ births. HasGlobals setting.program.globals births descriptors) (sym after_births) (globals-kept setting.program.globals related.globals);
      }
