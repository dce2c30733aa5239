-- A birth keeps what is related of objects and memory: the new objects are zero and tagged, and nothing else changes.
use Rattle.std.proofs.Common.{◌≡◌, ℕ, zero, suc, ◌+◌, ◌-◌, ◌*◌, ◌%◌, ◌<◌, ◌≤◌, Bool, true, false, if◌then◌else◌, List, [], ◌∷◌, ◌++◌, length, map, slice_get, Option, Some, None, is_some, ◌⊎◌, inl, inr, refl, sym, ◌∙◌, ap, subst, arith}
use Rattle.std.specs.List.{list_any}
use Rattle.std.proofs.lemmas.List.{length-append}
use Rattle.hw_base.specs.AddressMap.{rounded_size}
use Rattle.hw_base.specs.declared.pointers.Obj.{Obj}
use Rattle.hw_base.specs.declared.pointers.Site.{Site}
use Rattle.global_tags.specs.GlobalPlaces.{layout_of}
use Rattle.global_tags.specs.declared.descriptor.Descriptor.{Descriptor}
use Rattle.ir_core.specs.declared.ir_module.GlobalVar.{GlobalVar}
use Rattle.ir_machine.specs.State.{MachineSetting}
use Rattle.ir_meaning.proofs.BirthChangeLaws.{slice_get-pushed, change-has_bytes}
use Rattle.ir_meaning.specs.BirthChanges.{bore, HaveTheirBytes}
use Rattle.ir_meaning.specs.Births.{Region, Birth, SourceObject, Living, is_living, get_object, fresh_object, fresh_birth}
use Rattle.ir_meaning.specs.Values.{SourceByte}
use Rattle.tag_story.proofs.StoryLists.{pushed-cases, get-below}
use Rattle.tag_story.specs.Story.{StorySetting, Story, Placed, StoryBirth, OpenFrame, get_placed, byte_image}
use Rattle.tag_story.specs.StoryFacts.{IsLaidOut, IsObject, AreApart}
use Rattle.tag_story.specs.StoryTags.{Owner, covers, owner_of, owned_tag, tag_by, memory_tag, is_mapped, ground_tag}
use Rattle.tag_story.specs.Telling.{with_birth}
use Rattle.tbi_memory.specs.AddressSpace.{AddressSpace, is_in, mapped_ranges}
use Rattle.tbi_memory.specs.MappedBytes.{byte_at}
use Rattle.simulation.proofs.BirthLists.{told_birth, IsNewObject, object-cases, object-below, new-byte, placed-cases, placed-below, new-there, same-number}
use Rattle.simulation.proofs.BirthOwners.{CoverNot, OneCovers, one-or-none, from-pushed}
use Rattle.simulation.proofs.Sizes.{size-rounded, short-rounded}
use Rattle.simulation.proofs.FinePasses.{owned}
use Rattle.simulation.proofs.FreshMemory.{with_all_fresh, AreFresh, all-mapped, all-outside, all-tags_other, all-zero, all-last, all-tags}
use Rattle.simulation.proofs.Images.{stays-born, byte-stays, known_byte-stays}
use Rattle.simulation.proofs.ObjectPlaces.{placed-as, placed-there}
use Rattle.simulation.specs.Images.{Stays}
use Rattle.simulation.specs.Parts.{IsTold, AreTold, IsKnownByte, AreKnownBytes, HasTags, HasBytes, HasConstants, LiesAsConstant, IsMapped}
use Rattle.simulation.specs.Relation.{IsSetting, HasGlobals, story_setting}

-- the story after a birth
abbrev pub born_story : Story → Region → (task : ℕ) → List Site → List Placed → List OpenFrame → (heap_size : ℕ) → Story
born_story w region task chain objects frames heap_size = record (with_birth w region task chain objects) { frames = frames; heap_size = heap_size }

-- the addresses of an object are mapped
abbrev pub IsInMap : StorySetting → Placed → Type 0
IsInMap e x = (address : ℕ) → x.at ≤ address → address < x.at + rounded_size x.size → list_any (is_in address) (mapped_ranges e.places (layout_of e.places e.program.layouts e.program.globals)) ≡ true

-- what is related of objects and memory
pub record ObjectsRelated (setting : MachineSetting) (objects : List Birth) (w : Story) (space : AddressSpace) (descriptors : List Descriptor) : Type 0 where
  pub told : AreTold objects w.births
  pub their_bytes : HaveTheirBytes objects
  pub known : AreKnownBytes objects w.births
  pub tags : HasTags (story_setting setting) w space.shadow
  pub bytes : HasBytes objects w.births space.bytes
  pub mapped : IsMapped (story_setting setting) space.bytes
  pub constants : HasConstants objects w.births space.constants_at space.constants_end
  pub globals : HasGlobals setting.program.globals w.births descriptors

module _ (setting : MachineSetting) (objects : List Birth) (w : Story) (space : AddressSpace) (descriptors : List Descriptor) (is : IsSetting setting) (laid : IsLaidOut (story_setting setting) w) (related : ObjectsRelated setting objects w space descriptors)
    (region : Region) (task : ℕ) (chain : List Site) (sizes : List ℕ) (placed : List Placed) (frames : List OpenFrame) (heap_size : ℕ)
    (laid_after : IsLaidOut (story_setting setting) (born_story w region task chain placed frames heap_size))
    (are_sizes : map (λ (x : Placed). x.size) placed ≡ sizes)
    (in_map : (k : ℕ) (x : Placed) → slice_get placed k ≡ Some x → IsInMap (story_setting setting) x)
    (past : (k : ℕ) (x : Placed) → slice_get placed k ≡ Some x → space.constants_end ≤ x.at) where
  abbrev after : Story
  after = born_story w region task chain placed frames heap_size

  abbrev objects_after : List Birth
  objects_after = objects ++ fresh_birth region task chain sizes ∷ []

  abbrev space_after : AddressSpace
  space_after = with_all_fresh space placed

  stays : Stays w.births after.births
  stays = stays-born w.births (told_birth region task chain placed ∷ [])

  new-object : (k : ℕ) (x : Placed) → slice_get placed k ≡ Some x → IsObject after.births (length w.births) k (told_birth region task chain placed) x
  new-object k x h = record { there = new-there w.births (told_birth region task chain placed); object = h }

  fresh : AreFresh placed
  fresh =
      record {
        aligned = λ k x h. laid_after.aligned (length w.births) k (told_birth region task chain placed) x (new-object k x h);
        apart = λ k j x y h i. elim (laid_after.apart (length w.births) k (length w.births) j (told_birth region task chain placed) (told_birth region task chain placed) x y (new-object k x h) (new-object j y i) refl refl) [
          | inl apart ↦ inl apart
          | inr both ↦ inr both.1
        ];
      }

  -- an old living object is apart from the new ones
  old-apart : (o : Obj) (x : SourceObject) (p : Placed) → get_object objects o ≡ Some x → is_living x.life ≡ true → get_placed w.births o ≡ Some p → (k : ℕ) (y : Placed) → slice_get placed k ≡ Some y → AreApart p y
  old-apart o x p there living at k y h =
      let own = placed-as setting objects w o x is laid related.told there in
      let one : Some own.placed ≡ Some p = sym (placed-there w o x own) ∙ at in
      let same : own.placed ≡ p = cc in
      let below = placed-below w.births o p at in
      let before : IsObject after.births o.birth o.index own.birth own.placed = record { there = slice_get-pushed w.births (told_birth region task chain placed ∷ []) o.birth own.birth own.object.there; object = own.object.object } in
      elim (laid_after.apart o.birth o.index (length w.births) k own.birth (told_birth region task chain placed) own.placed y before (new-object k y h) (ap is_living (sym own.life) ∙ living) refl) [
        | inl apart ↦ subst (λ (q : Placed). AreApart q y) same apart
        | inr both ↦ let end = both.0 in absurd (omega (arith, below, end))
      ]

  old-outside : (o : Obj) (x : SourceObject) (p : Placed) (address : ℕ) → get_object objects o ≡ Some x → is_living x.life ≡ true → get_placed w.births o ≡ Some p → p.at ≤ address → address < p.at + rounded_size p.size → byte_at space_after.bytes address ≡ byte_at space.bytes address
  old-outside o x p address there living at low high =
      all-outside space placed address (λ k y h.
      elim (old-apart o x p there living at k y h) [
        | inl before ↦ inl (omega (arith, before, high))
        | inr later ↦ inr (omega (arith, later, low))
      ])

  -- the place of an object that was there before
  old-place : (o : Obj) (x : SourceObject) (p : Placed) → get_object objects o ≡ Some x → get_placed after.births o ≡ Some p → get_placed w.births o ≡ Some p
  old-place o x p there at =
      elim (placed-cases w.births region task chain placed o p at) [
        | inl old ↦ old
        | inr new ↦
            let below = object-below objects o x there in
            let end = new.birth in
            let count = related.told.count in
            absurd (omega (arith, below, end, count))
      ]

  new-place : (o : Obj) (x : SourceObject) (p : Placed) (new : IsNewObject objects sizes o x) → get_placed after.births o ≡ Some p → (slice_get placed o.index ≡ Some p) × (p.size ≡ new.size)
  new-place o x p new at =
      elim (placed-cases w.births region task chain placed o p at) [
        | inl old ↦
            let below = placed-below w.births o p old in
            let end = new.birth in
            let count = related.told.count in
            absurd (omega (arith, below, end, count))
        | inr here ↦ (here.there, same-number (λ (z : Placed). z.size) placed sizes o.index p new.size are_sizes here.there new.there)
      ]

  mapped-byte : (k : ℕ) (p : Placed) (address : ℕ) → slice_get placed k ≡ Some p → p.at ≤ address → address < p.at + rounded_size p.size → is_some (byte_at space.bytes address) ≡ true
  mapped-byte k p address h low high = related.mapped address ∙ in_map k p h address low high

  -- ---- bytes

  old-byte : (o : Obj) (x : SourceObject) (p : Placed) (i : ℕ) (byte : SourceByte) (life : Bool) → get_object objects o ≡ Some x → is_living x.life ≡ life → get_placed w.births o ≡ Some p → slice_get x.bytes i ≡ Some byte → byte_at space_after.bytes (p.at + i) ≡ Some (byte_image after.births byte)
  old-byte o x p i byte false there dead at h =
      let none = related.their_bytes o x there ∙ ap (λ bit. if bit then x.size else 0) dead in
      let below = get-below x.bytes i byte h in
      absurd (omega (arith, none, below))
  old-byte o x p i byte true there living at h =
      let many = related.their_bytes o x there ∙ ap (λ bit. if bit then x.size else 0) living in
      let below = get-below x.bytes i byte h in
      let own = placed-as setting objects w o x is laid related.told there in
      let one : Some own.placed ≡ Some p = sym (placed-there w o x own) ∙ at in
      let same : own.placed ≡ p = cc in
      let size : p.size ≡ x.size = ap (λ (q : Placed). q.size) (sym same) ∙ own.size in
      let whole = size-rounded p.size in
      old-outside o x p (p.at + i) there living at (omega arith) (omega (arith, many, below, size, whole))
      ∙ related.bytes.byte o x p i byte there at h
      ∙ ap (λ n. Some n) (sym (byte-stays w.births after.births byte stays (related.known o x i byte there h)))

  each-byte : (o : Obj) (x : SourceObject) (p : Placed) (i : ℕ) (byte : SourceByte) → get_object objects_after o ≡ Some x → get_placed after.births o ≡ Some p → slice_get x.bytes i ≡ Some byte → byte_at space_after.bytes (p.at + i) ≡ Some (byte_image after.births byte)
  each-byte o x p i byte there at h =
      elim (object-cases objects region task chain sizes o x there) [
        | inl old ↦ old-byte o x p i byte (is_living x.life) old refl (old-place o x p old at) h
        | inr new ↦
            let place = new-place o x p new at in
            let zeros = new-byte new.size i byte (ap (λ (z : SourceObject). slice_get z.bytes i) (sym new.is) ∙ h) in
            let size = place.1 in
            let below = zeros.1 in
            let whole = size-rounded p.size in
            all-zero space placed o.index i p fresh place.0 (omega (arith, size, below)) (mapped-byte o.index p (p.at + i) place.0 (omega arith) (omega (arith, size, below, whole)))
            ∙ ap (λ b. Some (byte_image after.births b)) (sym zeros.0)
      ]

  each-last : (o : Obj) (x : SourceObject) (p : Placed) → get_object objects_after o ≡ Some x → get_placed after.births o ≡ Some p → is_living x.life ≡ true → 0 < p.size % 16 → byte_at space_after.bytes (p.at + rounded_size p.size - 1) ≡ Some p.tag
  each-last o x p there at living short =
      let ends = short-rounded p.size short in
      elim (object-cases objects region task chain sizes o x there) [
        | inl old ↦
            let before = old-place o x p old at in
            old-outside o x p (p.at + rounded_size p.size - 1) old living before (omega (arith, ends)) (omega (arith, ends))
            ∙ related.bytes.last o x p old before living short
        | inr new ↦
            let place = new-place o x p new at in
            all-last space placed o.index p fresh place.0 short (mapped-byte o.index p (p.at + rounded_size p.size - 1) place.0 (omega (arith, ends)) (omega (arith, ends)))
      ]

  -- ---- tags

  -- each granule of a new object has a tag before
  tag-there : (k g : ℕ) (p : Placed) → slice_get placed k ≡ Some p → covers p g ≡ true → is_some (byte_at space.shadow g) ≡ true
  tag-there k g p h over =
      let inside = Rattle.tag_story.proofs.Owners.covers-in p g over in
      ap is_some (related.tags g) ∙ by_owner (owner_of w.births g) (in_map k p h (16 * g) inside.0 inside.1)
    where
      by_owner : (owner : Option Owner) → is_mapped (story_setting setting) g ≡ true → is_some (tag_by (story_setting setting) w.freed g owner) ≡ true
      by_owner None mapped = ap (λ bit. is_some (if bit then Some (Rattle.tag_story.specs.StoryTags.freed_tag w.freed g) else None)) mapped
      by_owner (Some owner) mapped = refl

  each-tag : (g : ℕ) → byte_at space_after.shadow g ≡ memory_tag (story_setting setting) after g
  each-tag g = by_cover (one-or-none placed g)
    where
      by_cover : OneCovers placed g ⊎ CoverNot placed g → byte_at space_after.shadow g ≡ memory_tag (story_setting setting) after g
      by_cover (inl one) =
          let (owner, (found, same)) = owned (story_setting setting) after g (length w.births) one.k (told_birth region task chain placed) one.x laid_after (new-object one.k one.x one.there) refl one.over in
          all-tags space placed one.k g one.x fresh one.there one.over (tag-there one.k g one.x one.there one.over)
          ∙ sym (ap (tag_by (story_setting setting) w.freed g) found ∙ ap (λ (p : Placed). Some (owned_tag p g)) same)
      by_cover (inr none) =
          all-tags_other space placed g (λ k x h. (fresh.aligned k x h, none k x h))
          ∙ related.tags g
          ∙ ap (tag_by (story_setting setting) w.freed g) (sym (from-pushed 0 w.births (told_birth region task chain placed) g none))

  -- ---- objects

  new-told : IsTold (fresh_birth region task chain sizes) (told_birth region task chain placed)
  new-told =
      record {
        region = refl;
        task = refl;
        born = refl;
        sizes = are_sizes ∙ sym (fresh-sizes sizes);
        lives = λ k x h. fresh-life sizes k x h;
      }
    where
      fresh-sizes : (ns : List ℕ) → map (λ (x : SourceObject). x.size) (map fresh_object ns) ≡ ns
      fresh-sizes [] = refl
      fresh-sizes (n ∷ ns) = ap (λ xs. n ∷ xs) (fresh-sizes ns)

      fresh-life : (ns : List ℕ) (k : ℕ) (x : SourceObject) → slice_get (map fresh_object ns) k ≡ Some x → x.life ≡ Living
      fresh-life [] k x h = absurd cc
      fresh-life (n ∷ ns) zero x h = let same : fresh_object n ≡ x = cc in ap (λ (y : SourceObject). y.life) (sym same)
      fresh-life (n ∷ ns) (suc k) x h = fresh-life ns k x h

  each-told : (n : ℕ) (birth : Birth) (story : StoryBirth) → slice_get objects_after n ≡ Some birth → slice_get after.births n ≡ Some story → IsTold birth story
  each-told n birth story h there =
      elim (pushed-cases objects (fresh_birth region task chain sizes) n birth h) [
        | inl old ↦ elim (pushed-cases w.births (told_birth region task chain placed) n story there) [
          | inl before ↦ related.told.each n birth story old before
          | inr new ↦ let below = get-below objects n birth old in let end = new.0 in let count = related.told.count in absurd (omega (arith, below, end, count))
        ]
        | inr last ↦ elim (pushed-cases w.births (told_birth region task chain placed) n story there) [
          | inl before ↦ let below = get-below w.births n story before in let end = last.0 in let count = related.told.count in absurd (omega (arith, below, end, count))
          | inr new ↦ subst (λ (b : Birth). IsTold b story) (sym last.1) (subst (IsTold (fresh_birth region task chain sizes)) (sym new.1) new-told)
        ]
      ]

  each-known : (o : Obj) (x : SourceObject) (i : ℕ) (byte : SourceByte) → get_object objects_after o ≡ Some x → slice_get x.bytes i ≡ Some byte → IsKnownByte after.births byte
  each-known o x i byte there h =
      elim (object-cases objects region task chain sizes o x there) [
        | inl old ↦ known_byte-stays w.births after.births byte stays (related.known o x i byte old h)
        | inr new ↦
            let zeros = new-byte new.size i byte (ap (λ (z : SourceObject). slice_get z.bytes i) (sym new.is) ∙ h) in
            subst (IsKnownByte after.births) (sym zeros.0) (let small : 0 < 256 = omega arith in small)
      ]

  each-constant : (o : Obj) (x : SourceObject) (p : Placed) → get_object objects_after o ≡ Some x → get_placed after.births o ≡ Some p → LiesAsConstant x.constant space.constants_at space.constants_end p
  each-constant o x p there at =
      elim (object-cases objects region task chain sizes o x there) [
        | inl old ↦ related.constants o x p old (old-place o x p old at)
        | inr new ↦
            let place = new-place o x p new at in
            subst (λ (z : SourceObject). LiesAsConstant z.constant space.constants_at space.constants_end p) (sym new.is) (past o.index p place.0)
      ]

  globals-kept : (globals : List GlobalVar) → HasGlobals globals w.births descriptors → HasGlobals globals after.births descriptors
  globals-kept [] has = tt
  globals-kept (g ∷ globals) has = (has.0, slice_get-pushed w.births (told_birth region task chain placed ∷ []) 0 has.0 has.1, has.2, has.3)

  pub birth-related : (constants_same : (space_after.constants_at ≡ space.constants_at) × (space_after.constants_end ≡ space.constants_end)) → ObjectsRelated setting objects_after after space_after descriptors
  birth-related constants_same =
      record {
        told = record { count = let a = length-append w.births (told_birth region task chain placed ∷ []) in let b = length-append objects (fresh_birth region task chain sizes ∷ []) in let c = related.told.count in omega (arith, a, b, c); each = each-told };
        their_bytes = change-has_bytes objects objects_after _ (bore objects region task chain sizes) related.their_bytes;
        known = each-known;
        tags = each-tag;
        bytes = record { byte = each-byte; last = each-last };
        mapped = λ address. all-mapped space placed address ∙ related.mapped address;
        constants = λ o x p there at.
            subst (λ end. LiesAsConstant x.constant space_after.constants_at end p) (sym constants_same.1)
            (subst (λ from. LiesAsConstant x.constant from space.constants_end p) (sym constants_same.0) (each-constant o x p there at));
        globals = globals-kept setting.program.globals related.globals;
      }
