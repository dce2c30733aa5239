-- A write of the images of bytes inside a living object keeps the relation.
use Rattle.std.proofs.Common.{◌≡◌, ℕ, ◌+◌, ◌-◌, ◌^◌, ◌%◌, ◌<◌, ◌≤◌, Bool, true, false, if◌then◌else◌, List, [], length, map, slice_get, Option, Some, None, option_map, ◌⊎◌, inl, inr, refl, sym, ◌∙◌, ap, subst, arith}
use Rattle.std.proofs.lemmas.List.{length-map}
use Rattle.std.proofs.lemmas.Option.{slice_get-map}
use Rattle.hw_base.specs.AddressMap.{rounded_size}
use Rattle.hw_base.specs.declared.pointers.Base.TheVariants.{Object}
use Rattle.hw_base.specs.declared.pointers.Obj.{Obj}
use Rattle.ir_machine.proofs.CodeAt.{get-below as get-at}
use Rattle.ir_machine.specs.State.{MachineSetting, MachineShared}
use Rattle.ir_meaning.proofs.BirthChangeLaws.{map-changed_at, change-has_bytes}
use Rattle.ir_meaning.specs.BirthChanges.{wrote}
use Rattle.ir_meaning.specs.Births.{Birth, SourceObject, is_living, object_in, get_object, written_from, written_object, written_birth, put_bytes}
use Rattle.ir_meaning.specs.Values.{SourceByte}
use Rattle.tag_story.proofs.StoryLists.{changed-cases, get-below}
use Rattle.tag_story.specs.Story.{StoryBirth, Placed, placed_in, get_placed, byte_image}
use Rattle.tag_story.specs.StoryFacts.{AreApart}
use Rattle.tag_story.specs.ToldRun.{ToldShared}
use Rattle.tbi_memory.proofs.MappedBytesLemmas.{write_below, write_above, write_inside, write_some}
use Rattle.tbi_memory.specs.MappedBytes.{Range, byte_at, write}
use Rattle.simulation.proofs.Sizes.{size-rounded, short-rounded}
use Rattle.simulation.proofs.ObjectPlaces.{IsPlacedAs, placed-as, placed-there}
use Rattle.simulation.proofs.MappedEnds.{write-ends}
use Rattle.simulation.proofs.WrittenBytes.{IsNewByte, IsOldByte, written-cases, put-cases}
use Rattle.simulation.specs.Parts.{IsTold, IsKnownByte, LiesAsConstant}
use Rattle.simulation.specs.Relation.{IsSetting, SharedRelated}
use Rattle.simulation.specs.Writes.{AreKnown, put_told, put_memory}

-- ---- what a write leaves of an object

written-size : (off : ℕ) (bytes : List SourceByte) (x : SourceObject) → (written_object off bytes x).size ≡ x.size
written-size off bytes x = elim (is_living x.life) as (λ b. (if b then record x { bytes = written_from x.bytes off bytes } else x).size ≡ x.size) [ true ↦ refl | false ↦ refl ]

written-life : (off : ℕ) (bytes : List SourceByte) (x : SourceObject) → (written_object off bytes x).life ≡ x.life
written-life off bytes x = elim (is_living x.life) as (λ b. (if b then record x { bytes = written_from x.bytes off bytes } else x).life ≡ x.life) [ true ↦ refl | false ↦ refl ]

written-constant : (off : ℕ) (bytes : List SourceByte) (x : SourceObject) → (written_object off bytes x).constant ≡ x.constant
written-constant off bytes x = elim (is_living x.life) as (λ b. (if b then record x { bytes = written_from x.bytes off bytes } else x).constant ≡ x.constant) [ true ↦ refl | false ↦ refl ]

written-alive : (off : ℕ) (bytes : List SourceByte) (x : SourceObject) → is_living x.life ≡ true → written_object off bytes x ≡ record x { bytes = written_from x.bytes off bytes }
written-alive off bytes x alive = rw alive refl

module _ (setting : MachineSetting) (t : ToldShared) (m : MachineShared) (is : IsSetting setting) (related : SharedRelated setting t m) (o : Obj) (x : SourceObject) (found : get_object t.source.births o ≡ Some x) (alive : is_living x.life ≡ true) (place : IsPlacedAs t.story o x) (off : ℕ) (bytes : List SourceByte) (inside : off + length bytes ≤ x.size) (known : AreKnown t.story.births bytes) where
  abbrev after_births : List Birth
  after_births = put_bytes t.source.births (Object o) off bytes

  abbrev numbers : List ℕ
  numbers = map (byte_image t.story.births) bytes

  abbrev after_bytes : List Range
  after_bytes = write m.memory.bytes (place.placed.at + off) numbers

  -- ---- objects

  same-object : (p : Obj) → p.birth ≡ o.birth → p.index ≡ o.index → get_object t.source.births p ≡ Some x
  same-object p birth index = ap (λ n. object_in (slice_get t.source.births n) p.index) birth ∙ ap (object_in (slice_get t.source.births o.birth)) index ∙ found

  same-placed : (p : Obj) (placed : Placed) → p.birth ≡ o.birth → p.index ≡ o.index → get_placed t.story.births p ≡ Some placed → placed ≡ place.placed
  same-placed p placed birth index there =
      let here : get_placed t.story.births p ≡ Some place.placed = ap (λ n. placed_in (slice_get t.story.births n) p.index) birth ∙ ap (placed_in (slice_get t.story.births o.birth)) index ∙ placed-there t.story o x place in
      let same : Some placed ≡ Some place.placed = sym there ∙ here in
      cc

  -- the object that was written
  written-is : (p : Obj) (after old : SourceObject) → get_object t.source.births p ≡ Some old → p.birth ≡ o.birth → p.index ≡ o.index → after ≡ written_object off bytes old → after ≡ record x { bytes = written_from x.bytes off bytes }
  written-is p after old there birth index h =
      let one : Some old ≡ Some x = sym there ∙ same-object p birth index in
      let same : old ≡ x = cc in
      h ∙ ap (written_object off bytes) same ∙ written-alive off bytes x alive

  birth-told : (story : StoryBirth) (birth : Birth) → IsTold birth story → IsTold (written_birth o.index off bytes birth) story
  birth-told story birth told =
      record {
        region = told.region;
        task = told.task;
        born = told.born;
        sizes = told.sizes ∙ sym (map-changed_at (λ (y : SourceObject). y.size) (written_object off bytes) birth.objects o.index (written-size off bytes));
        lives = λ k y h.
            let (old, there, kind) = changed-cases (written_object off bytes) birth.objects o.index k y h in
            elim kind [
              | inl other ↦ ap (λ (z : SourceObject). z.life) other.0 ∙ told.lives k old there
              | inr here ↦ ap (λ (z : SourceObject). z.life) here.0 ∙ written-life off bytes old ∙ told.lives k old there
            ];
      }

  each-told : (n : ℕ) (birth : Birth) (story : StoryBirth) → slice_get after_births n ≡ Some birth → slice_get t.story.births n ≡ Some story → IsTold birth story
  each-told n birth story h there =
      let (old, before, kind) = changed-cases (written_birth o.index off bytes) t.source.births o.birth n birth h in
      let told = related.told.each n old story before there in
      elim kind [
        | inl other ↦ subst (λ (b : Birth). IsTold b story) (sym other.0) told
        | inr here ↦ subst (λ (b : Birth). IsTold b story) (sym here.0) (birth-told story old told)
      ]

  bytes-known : (p : Obj) (after : SourceObject) (i : ℕ) (byte : SourceByte) → get_object after_births p ≡ Some after → slice_get after.bytes i ≡ Some byte → IsKnownByte t.story.births byte
  bytes-known p after i byte h at =
      let put = put-cases t.source.births o off bytes p after h in
      elim put.kind [
        | inl other ↦ related.known p put.x i byte put.there (ap (λ (z : SourceObject). slice_get z.bytes i) (sym other.0) ∙ at)
        | inr here ↦
            let same = written-is p after put.x put.there here.1 here.2 here.0 in
            elim (written-cases x.bytes off bytes i byte (ap (λ (z : SourceObject). slice_get z.bytes i) (sym same) ∙ at)) [
              | inl new ↦ known new.k byte new.there
              | inr old ↦ related.known o x i byte found old.there
            ]
      ]

  constants-lie : (p : Obj) (after : SourceObject) (placed : Placed) → get_object after_births p ≡ Some after → get_placed t.story.births p ≡ Some placed → LiesAsConstant after.constant m.memory.constants_at m.memory.constants_end placed
  constants-lie p after placed h there =
      let put = put-cases t.source.births o off bytes p after h in
      let lies = related.constants p put.x placed put.there there in
      elim put.kind [
        | inl other ↦ subst (λ (z : SourceObject). LiesAsConstant z.constant m.memory.constants_at m.memory.constants_end placed) (sym other.0) lies
        | inr here ↦ subst (λ bit. LiesAsConstant bit m.memory.constants_at m.memory.constants_end placed) (sym (ap (λ (z : SourceObject). z.constant) here.0 ∙ written-constant off bytes put.x)) lies
      ]

  -- ---- bytes

  size-is : length x.bytes ≡ x.size
  size-is = related.their_bytes o x found ∙ ap (λ bit. if bit then x.size else 0) alive

  -- outside the write memory is as it was
  outside-same : (address : ℕ) → (address < place.placed.at + off) ⊎ (place.placed.at + off + length bytes ≤ address) → byte_at after_bytes address ≡ byte_at m.memory.bytes address
  outside-same address (inl below) = write_below m.memory.bytes (place.placed.at + off) numbers address below
  outside-same address (inr above) = let count : length numbers ≡ length bytes = length-map _ _ in write_above m.memory.bytes (place.placed.at + off) numbers address (omega (arith, above, count))

  -- in the rounded size of another living object it is
  other-same : (p : Obj) (y : SourceObject) (placed : Placed) (address : ℕ) → get_object t.source.births p ≡ Some y → is_living y.life ≡ true → get_placed t.story.births p ≡ Some placed → ((p.birth ≡ o.birth) × (p.index ≡ o.index) → ⊥)
      → placed.at ≤ address → address < placed.at + rounded_size placed.size → byte_at after_bytes address ≡ byte_at m.memory.bytes address
  other-same p y placed address there living at other low high =
      let own = placed-as setting t.source.births t.story p y is related.laid related.told there in
      let one : Some own.placed ≡ Some placed = sym (placed-there t.story p y own) ∙ at in
      let same : own.placed ≡ placed = cc in
      let size = place.size in
      let whole = size-rounded place.placed.size in
      elim (related.laid.apart o.birth o.index p.birth p.index place.birth own.birth place.placed own.placed place.object own.object (ap is_living (sym place.life) ∙ alive) (ap is_living (sym own.life) ∙ living)) [
        | inl apart ↦ elim (subst (AreApart place.placed) same apart) [
          | inl before ↦ outside-same address (inr (omega (arith, before, low, inside, size, whole)))
          | inr after ↦ outside-same address (inl (omega (arith, after, high)))
        ]
        | inr both ↦ absurd (other (sym both.0, sym both.1))
      ]

  own-byte : (i : ℕ) (byte : SourceByte) → IsNewByte off bytes i byte ⊎ IsOldByte x.bytes off (length bytes) i byte → byte_at after_bytes (place.placed.at + i) ≡ Some (byte_image t.story.births byte)
  own-byte i byte (inl new) =
      let at = new.at in
      let below = get-below bytes new.k byte new.there in
      let size = size-is in
      let (old, there) = get-at x.bytes (off + new.k) (omega (arith, below, inside, size)) in
      let here = related.bytes.byte o x place.placed (off + new.k) old found (placed-there t.story o x place) there in
      let first : place.placed.at + (off + new.k) ≡ place.placed.at + off + new.k = omega arith in
      let last : place.placed.at + i ≡ place.placed.at + off + new.k = omega (arith, at) in
      ap (byte_at after_bytes) last
      ∙ write_inside m.memory.bytes (place.placed.at + off) numbers new.k (byte_image t.story.births old) (byte_image t.story.births byte)
      (ap (byte_at m.memory.bytes) (sym first) ∙ here)
      (slice_get-map (byte_image t.story.births) bytes new.k ∙ ap (option_map (byte_image t.story.births)) new.there)
  own-byte i byte (inr old) =
      outside-same (place.placed.at + i) (elim old.outside [ inl below ↦ inl (omega (arith, below)) | inr above ↦ inr (omega (arith, above)) ])
      ∙ related.bytes.byte o x place.placed i byte found (placed-there t.story o x place) old.there

  other-byte : (p : Obj) (y : SourceObject) (placed : Placed) (i : ℕ) (byte : SourceByte) (life : Bool) → get_object t.source.births p ≡ Some y → is_living y.life ≡ life → get_placed t.story.births p ≡ Some placed → ((p.birth ≡ o.birth) × (p.index ≡ o.index) → ⊥) → slice_get y.bytes i ≡ Some byte
      → byte_at after_bytes (placed.at + i) ≡ Some (byte_image t.story.births byte)
  other-byte p y placed i byte false there dead at other h =
      let none = related.their_bytes p y there ∙ ap (λ bit. if bit then y.size else 0) dead in
      let below = get-below y.bytes i byte h in
      absurd (omega (arith, none, below))
  other-byte p y placed i byte true there living at other h =
      let many = related.their_bytes p y there ∙ ap (λ bit. if bit then y.size else 0) living in
      let below = get-below y.bytes i byte h in
      let own = placed-as setting t.source.births t.story p y is related.laid related.told there in
      let one : Some own.placed ≡ Some placed = sym (placed-there t.story p y own) ∙ at in
      let size : placed.size ≡ y.size = ap (λ (z : Option Placed). elim z [ None ↦ 0 | Some q ↦ q.size ]) (sym one) ∙ own.size in
      let whole = size-rounded placed.size in
      other-same p y placed (placed.at + i) there living at other (omega arith) (omega (arith, many, below, size, whole))
      ∙ related.bytes.byte p y placed i byte there at h

  each-byte : (p : Obj) (after : SourceObject) (placed : Placed) (i : ℕ) (byte : SourceByte) → get_object after_births p ≡ Some after → get_placed t.story.births p ≡ Some placed → slice_get after.bytes i ≡ Some byte → byte_at after_bytes (placed.at + i) ≡ Some (byte_image t.story.births byte)
  each-byte p after placed i byte h at there =
      let put = put-cases t.source.births o off bytes p after h in
      elim put.kind [
        | inl other ↦ other-byte p put.x placed i byte (is_living put.x.life) put.there refl at other.1 (ap (λ (z : SourceObject). slice_get z.bytes i) (sym other.0) ∙ there)
        | inr here ↦
            let same = written-is p after put.x put.there here.1 here.2 here.0 in
            let own = same-placed p placed here.1 here.2 at in
            ap (λ (q : Placed). byte_at after_bytes (q.at + i)) own
            ∙ own-byte i byte (written-cases x.bytes off bytes i byte (ap (λ (z : SourceObject). slice_get z.bytes i) (sym same) ∙ there))
      ]

  each-last : (p : Obj) (after : SourceObject) (placed : Placed) → get_object after_births p ≡ Some after → get_placed t.story.births p ≡ Some placed → is_living after.life ≡ true → 0 < placed.size % 16 → byte_at after_bytes (placed.at + rounded_size placed.size - 1) ≡ Some placed.tag
  each-last p after placed h at living short =
      let put = put-cases t.source.births o off bytes p after h in
      let ends = short-rounded placed.size short in
      elim put.kind [
        | inl other ↦
            let before = ap (λ (z : SourceObject). is_living z.life) (sym other.0) ∙ living in
            other-same p put.x placed (placed.at + rounded_size placed.size - 1) put.there before at other.1 (omega (arith, ends)) (omega (arith, ends))
            ∙ related.bytes.last p put.x placed put.there at before short
        | inr here ↦
            let own = same-placed p placed here.1 here.2 at in
            let from = ap (λ (q : Placed). q.at) own in
            let many = ap (λ (q : Placed). q.size) own in
            let size = place.size in
            let before : is_living put.x.life ≡ true = ap is_living (sym (ap (λ (z : SourceObject). z.life) here.0 ∙ written-life off bytes put.x)) ∙ living in
            outside-same (placed.at + rounded_size placed.size - 1) (inr (omega (arith, ends, from, many, size, inside)))
            ∙ related.bytes.last p put.x placed put.there at before short
      ]

  pub put-related : SharedRelated setting (put_told t (Object o) off bytes) (put_memory m (place.placed.at + off) numbers)
  put-related =
      record {
        laid = related.laid;
        told = record { count = let a = ap length (map-changed_at (λ (b : Birth). b.region) (written_birth o.index off bytes) t.source.births o.birth (λ b. refl)) in let b : length (map (λ (b : Birth). b.region) after_births) ≡ length after_births = length-map _ _ in let c : length (map (λ (b : Birth). b.region) t.source.births) ≡ length t.source.births = length-map _ _ in let d = related.told.count in omega (arith, a, b, c, d); each = each-told };
        their_bytes = change-has_bytes t.source.births after_births [] (wrote t.source.births (Object o) off bytes) related.their_bytes;
        known = bytes-known;
        table = related.table;
        tags = related.tags;
        bytes = record { byte = each-byte; last = each-last };
        mapped = λ address. ap (λ b. b) (write_some m.memory.bytes (place.placed.at + off) numbers address) ∙ related.mapped address;
        ends = subst (λ n. n < 2 ^ 56) (sym (write-ends m.memory.bytes (place.placed.at + off) numbers)) related.ends;
        constants_at = related.constants_at;
        constants_end = related.constants_end;
        descriptors = related.descriptors;
        constants = constants-lie;
        globals = related.globals;
        heap = related.heap;
        freed = related.freed;
        stacks = related.stacks;
        opened = related.opened;
        births = related.births;
        drawn = related.drawn;
        input = related.input;
      }
