-- Memory in which globals are loaded: each has the images of its first bytes, its tags, and its tag at the end of a short granule.
use Rattle.std.proofs.Common.{◌≡◌, ℕ, zero, suc, ◌+◌, ◌-◌, ◌%◌, ◌<◌, ◌≤◌, ◌==◌, List, [], ◌∷◌, length, map, slice_get, replicate, Some, is_some, option_map, ◌⊎◌, true, inl, inr, refl, sym, ◌∙◌, ap, subst, arith}
use Rattle.std.proofs.lemmas.List.{length-map, length-replicate}
use Rattle.std.proofs.lemmas.Option.{slice_get-map, slice_get_within}
use Rattle.global_tags.specs.GlobalBytes.{piece_number, with_pieces, with_global, with_globals}
use Rattle.global_tags.specs.declared.descriptor.Descriptor.{Descriptor}
use Rattle.hw_base.proofs.ByteLaws.{length-le_bytes}
use Rattle.hw_base.specs.AddressMap.{rounded_size, granule_of}
use Rattle.hw_base.specs.Bytes.{le_bytes}
use Rattle.hw_shadow.specs.ObjectTags.{object_tags}
use Rattle.ir_core.specs.declared.ir_module.GlobalVar.{GlobalVar}
use Rattle.ir_core.specs.declared.operands.Part.{Part}
use Rattle.ir_lib.specs.Strings.{mapped_end}
use Rattle.ir_machine.proofs.CodeAt.{get-below}
use Rattle.ir_meaning.proofs.BirthChangeLaws.{length-written_from}
use Rattle.ir_meaning.specs.Births.{written_from}
use Rattle.ir_meaning.specs.Start.{part_bytes, with_parts}
use Rattle.ir_meaning.specs.Values.{SourceByte, Data}
use Rattle.tag_story.proofs.BirthPlaces.{rounded-some}
use Rattle.tag_story.specs.Story.{StoryBirth, Placed, byte_image}
use Rattle.tag_story.specs.Telling.{global_placed}
use Rattle.tbi_memory.proofs.MappedBytesLemmas.{write_below, write_above, write_inside, write_some}
use Rattle.tbi_memory.specs.AddressSpace.{AddressSpace, with_bytes}
use Rattle.tbi_memory.specs.MappedBytes.{Range, byte_at, write}
use Rattle.tbi_memory.specs.ObjectMemory.{with_fresh_object}
use Rattle.simulation.proofs.Sizes.{size-rounded}
use Rattle.simulation.proofs.FreshMemory.{last-other, last-some, last-apart, last-there, with_all_fresh, IsOutsideOf, AreFresh, fresh-later, first-outside}
use Rattle.simulation.proofs.MappedEnds.{write-ends, last-ends}
use Rattle.simulation.proofs.WrittenBytes.{written-cases}
use Rattle.simulation.specs.Writes.{AreKnown}

-- ---- bytes of one object

-- memory from a place on has the images of bytes
abbrev pub AreImages : List StoryBirth → List Range → (place : ℕ) → List SourceByte → Type 0
AreImages births ranges place bytes = (i : ℕ) (byte : SourceByte) → slice_get bytes i ≡ Some byte → byte_at ranges (place + i) ≡ Some (byte_image births byte)

write-images : (births : List StoryBirth) (ranges : List Range) (place off : ℕ) (bytes new : List SourceByte) (numbers : List ℕ) → AreImages births ranges place bytes → map (byte_image births) new ≡ numbers → off + length new ≤ length bytes → AreImages births (write ranges (place + off) numbers) place (written_from bytes off new)
write-images births ranges place off bytes new numbers images same inside i byte h =
    let mapped : length (map (byte_image births) new) ≡ length new = length-map _ _ in
    let counted : length (map (byte_image births) new) ≡ length numbers = ap length same in
    elim (written-cases bytes off new i byte h) [
      | inl one ↦
          let at = one.at in
          let few = slice_get_within new one.k byte one.there in
          let (before, there) = get-below bytes (off + one.k) (omega (arith, inside, few)) in
          let address : place + i ≡ place + off + one.k = omega (arith, at) in
          let moved : place + off + one.k ≡ place + (off + one.k) = omega arith in
          ap (byte_at (write ranges (place + off) numbers)) address
          ∙ write_inside ranges (place + off) numbers one.k (byte_image births before) (byte_image births byte) (ap (byte_at ranges) moved ∙ images (off + one.k) before there)
          (ap (λ ns. slice_get ns one.k) (sym same) ∙ slice_get-map (byte_image births) new one.k ∙ ap (option_map (byte_image births)) one.there)
      | inr old ↦ elim old.outside [
        | inl below ↦ write_below ranges (place + off) numbers (place + i) (omega (arith, below)) ∙ images i byte old.there
        | inr above ↦ write_above ranges (place + off) numbers (place + i) (omega (arith, above, mapped, counted)) ∙ images i byte old.there
      ]
    ]

-- ---- pieces of first values

-- a piece lies within a size, and memory gets the images of its bytes
pub record IsPiece (births : List StoryBirth) (all : List Descriptor) (size : ℕ) (part : Part) : Type 0 where
  pub inside : part.at + part.size ≤ size
  pub count : length (part_bytes part.size part.value) ≡ part.size
  pub image : map (byte_image births) (part_bytes part.size part.value) ≡ le_bytes part.size (piece_number all part.value)
  pub known : AreKnown births (part_bytes part.size part.value)

abbrev pub ArePieces : List StoryBirth → List Descriptor → (size : ℕ) → List Part → Type 0
ArePieces births all size parts = (k : ℕ) (part : Part) → slice_get parts k ≡ Some part → IsPiece births all size part

pub length-with_parts : (bytes : List SourceByte) (parts : List Part) → length (with_parts bytes parts) ≡ length bytes
unfolding with_parts
length-with_parts bytes [] = refl
length-with_parts bytes (part ∷ parts) =
    length-with_parts (written_from bytes part.at (part_bytes part.size part.value)) parts
    ∙ length-written_from bytes part.at (part_bytes part.size part.value)

written-known : (births : List StoryBirth) (bytes : List SourceByte) (off : ℕ) (new : List SourceByte) → AreKnown births bytes → AreKnown births new → AreKnown births (written_from bytes off new)
written-known births bytes off new old known i byte h =
    elim (written-cases bytes off new i byte h) [ inl one ↦ known one.k byte one.there | inr other ↦ old i byte other.there ]

pub parts-known : (births : List StoryBirth) (all : List Descriptor) (size : ℕ) (bytes : List SourceByte) (parts : List Part) → ArePieces births all size parts → AreKnown births bytes → AreKnown births (with_parts bytes parts)
unfolding with_parts
parts-known births all size bytes [] pieces known = known
parts-known births all size bytes (part ∷ parts) pieces known =
    parts-known births all size (written_from bytes part.at (part_bytes part.size part.value)) parts (λ k other h. pieces (suc k) other h)
    (written-known births bytes part.at (part_bytes part.size part.value) known (pieces 0 part refl).known)

pieces-images : (births : List StoryBirth) (all : List Descriptor) (space : AddressSpace) (place : ℕ) (parts : List Part) (bytes : List SourceByte) → ArePieces births all (length bytes) parts → AreImages births space.bytes place bytes → AreImages births (with_pieces all space place parts).bytes place (with_parts bytes parts)
unfolding with_pieces with_parts
pieces-images births all space place [] bytes pieces images = images
pieces-images births all space place (part ∷ parts) bytes pieces images =
    let first = pieces 0 part refl in
    let inside = first.inside in
    let count = first.count in
    let many = length-written_from bytes part.at (part_bytes part.size part.value) in
    pieces-images births all (with_bytes space (place + part.at) (le_bytes part.size (piece_number all part.value))) place parts (written_from bytes part.at (part_bytes part.size part.value))
    (λ k other h. subst (λ n. IsPiece births all n other) (sym many) (pieces (suc k) other h))
    (write-images births space.bytes place part.at bytes (part_bytes part.size part.value) (le_bytes part.size (piece_number all part.value)) images first.image (omega (arith, inside, count)))

pieces-outside : (births : List StoryBirth) (all : List Descriptor) (space : AddressSpace) (place size : ℕ) (parts : List Part) (address : ℕ) → ArePieces births all size parts → (address < place) ⊎ (place + size ≤ address) → byte_at (with_pieces all space place parts).bytes address ≡ byte_at space.bytes address
unfolding with_pieces
pieces-outside births all space place size [] address pieces outside = refl
pieces-outside births all space place size (part ∷ parts) address pieces outside =
    let inside = (pieces 0 part refl).inside in
    let count = length-le_bytes part.size (piece_number all part.value) in
    pieces-outside births all (with_bytes space (place + part.at) (le_bytes part.size (piece_number all part.value))) place size parts address (λ k other h. pieces (suc k) other h) outside
    ∙ elim outside [
      | inl below ↦ write_below space.bytes (place + part.at) (le_bytes part.size (piece_number all part.value)) address (omega (arith, below))
      | inr above ↦ write_above space.bytes (place + part.at) (le_bytes part.size (piece_number all part.value)) address (omega (arith, above, inside, count))
    ]

pieces-some : (all : List Descriptor) (space : AddressSpace) (place : ℕ) (parts : List Part) (address : ℕ) → is_some (byte_at (with_pieces all space place parts).bytes address) ≡ is_some (byte_at space.bytes address)
unfolding with_pieces
pieces-some all space place [] address = refl
pieces-some all space place (part ∷ parts) address =
    pieces-some all (with_bytes space (place + part.at) (le_bytes part.size (piece_number all part.value))) place parts address
    ∙ write_some space.bytes (place + part.at) (le_bytes part.size (piece_number all part.value)) address

pieces-ends : (all : List Descriptor) (space : AddressSpace) (place : ℕ) (parts : List Part) → mapped_end (with_pieces all space place parts).bytes ≡ mapped_end space.bytes
unfolding with_pieces
pieces-ends all space place [] = refl
pieces-ends all space place (part ∷ parts) =
    pieces-ends all (with_bytes space (place + part.at) (le_bytes part.size (piece_number all part.value))) place parts
    ∙ write-ends space.bytes (place + part.at) (le_bytes part.size (piece_number all part.value))

-- the rest of memory stays
abbrev SameBut : AddressSpace → AddressSpace → Type 0
SameBut space after = (after.shadow ≡ space.shadow) × (after.constants_at ≡ space.constants_at) × (after.constants_end ≡ space.constants_end)

pieces-same : (all : List Descriptor) (space : AddressSpace) (place : ℕ) (parts : List Part) → SameBut space (with_pieces all space place parts)
unfolding with_pieces
pieces-same all space place [] = (refl, refl, refl)
pieces-same all space place (part ∷ parts) = pieces-same all (with_bytes space (place + part.at) (le_bytes part.size (piece_number all part.value))) place parts

-- ---- one global

module _ (births : List StoryBirth) (all : List Descriptor) (space : AddressSpace) (d : Descriptor) (g : GlobalVar) where
  one-some : (address : ℕ) → is_some (byte_at (with_global all space d g).bytes address) ≡ is_some (byte_at space.bytes address)
  one-some address =
      last-some space (global_placed d) (with_pieces all space d.at g.init).bytes address (d.size % 16 == 0)
      ∙ pieces-some all space d.at g.init address

  one-outside : (address : ℕ) → ArePieces births all d.size g.init → IsOutsideOf address (global_placed d) → byte_at (with_global all space d g).bytes address ≡ byte_at space.bytes address
  one-outside address pieces outside =
      let some = (rounded-some d.size).0 in
      let whole = size-rounded d.size in
      last-other space (global_placed d) (with_pieces all space d.at g.init).bytes address (d.size % 16 == 0)
      (λ bit same. elim outside [ inl below ↦ omega (arith, below, same, some) | inr above ↦ omega (arith, above, same, some) ])
      ∙ pieces-outside births all space d.at d.size g.init address pieces
      (elim outside [ inl below ↦ inl below | inr above ↦ inr (omega (arith, above, whole)) ])

  one-image : ArePieces births all d.size g.init → AreImages births space.bytes d.at (replicate d.size (Data 0)) → AreImages births (with_global all space d g).bytes d.at (with_parts (replicate d.size (Data 0)) g.init)
  one-image pieces zeros i byte h =
      let many : length (replicate d.size (Data 0)) ≡ d.size = length-replicate d.size (Data 0) in
      let same = length-with_parts (replicate d.size (Data 0)) g.init in
      let within = slice_get_within (with_parts (replicate d.size (Data 0)) g.init) i byte h in
      last-other space (global_placed d) (with_pieces all space d.at g.init).bytes (d.at + i) (d.size % 16 == 0) (last-apart space (global_placed d) i (omega (arith, within, many, same)))
      ∙ pieces-images births all space d.at g.init (replicate d.size (Data 0)) (λ k part at. subst (λ n. IsPiece births all n part) (sym many) (pieces k part at)) zeros i byte h

  one-last : 0 < d.size % 16 → is_some (byte_at space.bytes (d.at + rounded_size d.size - 1)) ≡ true → byte_at (with_global all space d g).bytes (d.at + rounded_size d.size - 1) ≡ Some d.tag
  one-last short mapped =
      last-there space (global_placed d) (with_pieces all space d.at g.init).bytes short (pieces-some all space d.at g.init (d.at + rounded_size d.size - 1) ∙ mapped)

  one-ends : mapped_end (with_global all space d g).bytes ≡ mapped_end space.bytes
  one-ends =
      last-ends (with_pieces all space d.at g.init).bytes (d.at + rounded_size d.size - 1) d.tag (d.size % 16 == 0)
      ∙ pieces-ends all space d.at g.init

-- ---- all globals

abbrev pub HavePieces : List StoryBirth → List Descriptor → List Descriptor → List GlobalVar → Type 0
HavePieces births all ds gs = (k : ℕ) (d : Descriptor) (g : GlobalVar) → slice_get ds k ≡ Some d → slice_get gs k ≡ Some g → ArePieces births all d.size g.init

placed-at : (ds : List Descriptor) (k : ℕ) (d : Descriptor) → slice_get ds k ≡ Some d → slice_get (map global_placed ds) k ≡ Some (global_placed d)
placed-at ds k d h = slice_get-map global_placed ds k ∙ ap (option_map global_placed) h

pub globals-some : (all : List Descriptor) (space : AddressSpace) (ds : List Descriptor) (gs : List GlobalVar) (address : ℕ) → is_some (byte_at (with_globals all space ds gs).bytes address) ≡ is_some (byte_at space.bytes address)
unfolding with_globals
globals-some all space [] gs address = refl
globals-some all space (d ∷ ds) [] address = refl
globals-some all space (d ∷ ds) (g ∷ gs) address = globals-some all (with_global all space d g) ds gs address ∙ one-some [] all space d g address

pub globals-ends : (all : List Descriptor) (space : AddressSpace) (ds : List Descriptor) (gs : List GlobalVar) → mapped_end (with_globals all space ds gs).bytes ≡ mapped_end space.bytes
unfolding with_globals
globals-ends all space [] gs = refl
globals-ends all space (d ∷ ds) [] = refl
globals-ends all space (d ∷ ds) (g ∷ gs) = globals-ends all (with_global all space d g) ds gs ∙ one-ends [] all space d g

pub globals-constants : (all : List Descriptor) (space : AddressSpace) (ds : List Descriptor) (gs : List GlobalVar) → ((with_globals all space ds gs).constants_at ≡ space.constants_at) × ((with_globals all space ds gs).constants_end ≡ space.constants_end)
unfolding with_globals
globals-constants all space [] gs = (refl, refl)
globals-constants all space (d ∷ ds) [] = (refl, refl)
globals-constants all space (d ∷ ds) (g ∷ gs) =
    let rest = globals-constants all (with_global all space d g) ds gs in
    let first = pieces-same all space d.at g.init in (
      rest.0 ∙ first.1,
      rest.1 ∙ first.2,
    )

-- tags are those of as many objects that are born
pub globals-shadow : (all : List Descriptor) (space other : AddressSpace) (ds : List Descriptor) (gs : List GlobalVar) → length gs ≡ length ds → space.shadow ≡ other.shadow → (with_globals all space ds gs).shadow ≡ (with_all_fresh other (map global_placed ds)).shadow
unfolding with_globals with_all_fresh
globals-shadow all space other [] gs many same = same
globals-shadow all space other (d ∷ ds) [] many same = absurd (omega (arith, many))
globals-shadow all space other (d ∷ ds) (g ∷ gs) many same =
    globals-shadow all (with_global all space d g) (with_fresh_object other d.at d.size d.tag) ds gs (omega (arith, many))
    (ap (λ shadow. write shadow (granule_of d.at) (object_tags d.size d.tag)) ((pieces-same all space d.at g.init).0 ∙ same))

globals-outside : (births : List StoryBirth) (all : List Descriptor) (space : AddressSpace) (ds : List Descriptor) (gs : List GlobalVar) (address : ℕ) → HavePieces births all ds gs → ((k : ℕ) (x : Placed) → slice_get (map global_placed ds) k ≡ Some x → IsOutsideOf address x) → byte_at (with_globals all space ds gs).bytes address ≡ byte_at space.bytes address
unfolding with_globals
globals-outside births all space [] gs address pieces outside = refl
globals-outside births all space (d ∷ ds) [] address pieces outside = refl
globals-outside births all space (d ∷ ds) (g ∷ gs) address pieces outside =
    globals-outside births all (with_global all space d g) ds gs address (λ k e h there here. pieces (suc k) e h there here) (λ k x h. outside (suc k) x h)
    ∙ one-outside births all space d g address (pieces 0 d g refl refl) (outside 0 (global_placed d) refl)

-- an address of a later object is outside the first one
later-outside : (d : Descriptor) (ds : List Descriptor) (k : ℕ) (e : Descriptor) (address : ℕ) → AreFresh (global_placed d ∷ map global_placed ds) → slice_get ds k ≡ Some e → e.at ≤ address → address < e.at + rounded_size e.size → IsOutsideOf address (global_placed d)
later-outside d ds k e address fresh there low high =
    elim (fresh.apart (suc k) 0 (global_placed e) (global_placed d) (placed-at ds k e there) refl) [
      | inl apart ↦ elim apart [ inl before ↦ inl (omega (arith, before, high)) | inr after ↦ inr (omega (arith, after, low)) ]
      | inr same ↦ absurd (omega (arith, same))
    ]

module _ (births : List StoryBirth) (all : List Descriptor) where
  -- the first global, and those after it
  first-image : (space : AddressSpace) (d : Descriptor) (ds : List Descriptor) (g : GlobalVar) (gs : List GlobalVar) → HavePieces births all (d ∷ ds) (g ∷ gs) → AreFresh (map global_placed (d ∷ ds)) → AreImages births space.bytes d.at (replicate d.size (Data 0)) → AreImages births (with_globals all (with_global all space d g) ds gs).bytes d.at (with_parts (replicate d.size (Data 0)) g.init)
  first-image space d ds g gs pieces fresh zeros i byte h =
      let many : length (replicate d.size (Data 0)) ≡ d.size = length-replicate d.size (Data 0) in
      let same = length-with_parts (replicate d.size (Data 0)) g.init in
      let within = slice_get_within (with_parts (replicate d.size (Data 0)) g.init) i byte h in
      let whole = size-rounded d.size in
      globals-outside births all (with_global all space d g) ds gs (d.at + i) (λ k e f there here. pieces (suc k) e f there here)
      (first-outside (global_placed d) (map global_placed ds) (d.at + i) fresh (omega arith) (omega (arith, within, many, same, whole)))
      ∙ one-image births all space d g (pieces 0 d g refl refl) zeros i byte h

  pub globals-image : (space : AddressSpace) (ds : List Descriptor) (gs : List GlobalVar) → HavePieces births all ds gs → AreFresh (map global_placed ds) → (k : ℕ) (d : Descriptor) (g : GlobalVar) → slice_get ds k ≡ Some d → slice_get gs k ≡ Some g → AreImages births space.bytes d.at (replicate d.size (Data 0)) → AreImages births (with_globals all space ds gs).bytes d.at (with_parts (replicate d.size (Data 0)) g.init)
  unfolding with_globals
  globals-image space [] gs pieces fresh k d g there here zeros = absurd cc
  globals-image space (e ∷ ds) [] pieces fresh k d g there here zeros = absurd cc
  globals-image space (e ∷ ds) (f ∷ gs) pieces fresh zero d g there here zeros =
      let own : e ≡ d = cc in
      let same : f ≡ g = cc in
      subst (λ (x : GlobalVar). AreImages births (with_globals all (with_global all space e f) ds gs).bytes d.at (with_parts (replicate d.size (Data 0)) x.init)) same
      (subst (λ (x : Descriptor). AreImages births (with_globals all (with_global all space e f) ds gs).bytes x.at (with_parts (replicate x.size (Data 0)) f.init)) own
      (first-image space e ds f gs pieces fresh
      (subst (λ (x : Descriptor). AreImages births space.bytes x.at (replicate x.size (Data 0))) (sym own) zeros)))
  globals-image space (e ∷ ds) (f ∷ gs) pieces fresh (suc k) d g there here zeros =
      globals-image (with_global all space e f) ds gs (λ j x y at to. pieces (suc j) x y at to) (fresh-later (global_placed e) (map global_placed ds) fresh) k d g there here
      (λ i byte h.
      let many : length (replicate d.size (Data 0)) ≡ d.size = length-replicate d.size (Data 0) in
      let within = slice_get_within (replicate d.size (Data 0)) i byte h in
      let whole = size-rounded d.size in
      one-outside births all space e f (d.at + i) (pieces 0 e f refl refl) (later-outside e ds k d (d.at + i) fresh there (omega arith) (omega (arith, many, within, whole)))
      ∙ zeros i byte h)

  first-last : (space : AddressSpace) (d : Descriptor) (ds : List Descriptor) (g : GlobalVar) (gs : List GlobalVar) → HavePieces births all (d ∷ ds) (g ∷ gs) → AreFresh (map global_placed (d ∷ ds)) → 0 < d.size % 16 → is_some (byte_at space.bytes (d.at + rounded_size d.size - 1)) ≡ true → byte_at (with_globals all (with_global all space d g) ds gs).bytes (d.at + rounded_size d.size - 1) ≡ Some d.tag
  first-last space d ds g gs pieces fresh short mapped =
      let some = (rounded-some d.size).0 in
      globals-outside births all (with_global all space d g) ds gs (d.at + rounded_size d.size - 1) (λ k e f there here. pieces (suc k) e f there here)
      (first-outside (global_placed d) (map global_placed ds) (d.at + rounded_size d.size - 1) fresh (omega (arith, some)) (omega (arith, some)))
      ∙ one-last births all space d g short mapped

  pub globals-last : (space : AddressSpace) (ds : List Descriptor) (gs : List GlobalVar) → HavePieces births all ds gs → AreFresh (map global_placed ds) → (k : ℕ) (d : Descriptor) (g : GlobalVar) → slice_get ds k ≡ Some d → slice_get gs k ≡ Some g → 0 < d.size % 16 → is_some (byte_at space.bytes (d.at + rounded_size d.size - 1)) ≡ true → byte_at (with_globals all space ds gs).bytes (d.at + rounded_size d.size - 1) ≡ Some d.tag
  unfolding with_globals
  globals-last space [] gs pieces fresh k d g there here short mapped = absurd cc
  globals-last space (e ∷ ds) [] pieces fresh k d g there here short mapped = absurd cc
  globals-last space (e ∷ ds) (f ∷ gs) pieces fresh zero d g there here short mapped =
      let own : e ≡ d = cc in
      subst (λ (x : Descriptor). byte_at (with_globals all (with_global all space e f) ds gs).bytes (x.at + rounded_size x.size - 1) ≡ Some x.tag) own
      (first-last space e ds f gs pieces fresh (subst (λ (x : Descriptor). 0 < x.size % 16) (sym own) short)
      (subst (λ (x : Descriptor). is_some (byte_at space.bytes (x.at + rounded_size x.size - 1)) ≡ true) (sym own) mapped))
  globals-last space (e ∷ ds) (f ∷ gs) pieces fresh (suc k) d g there here short mapped =
      globals-last (with_global all space e f) ds gs (λ j x y at to. pieces (suc j) x y at to) (fresh-later (global_placed e) (map global_placed ds) fresh) k d g there here short
      (one-some births all space e f (d.at + rounded_size d.size - 1) ∙ mapped)
