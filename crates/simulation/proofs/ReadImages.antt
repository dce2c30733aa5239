-- What the machine reads for a fine access is the images of the source's bytes.
use Rattle.std.proofs.Common.{◌≡◌, ◌≢◌, ℕ, zero, suc, ◌+◌, ◌≤◌, true, if◌then◌else◌, List, [], length, map, take, drop, slice_get, Option, Some, None, Ok, refl, sym, ◌∙◌, ap, inl, inr, arith}
use Rattle.std.proofs.lemmas.List.{length-map}
use Rattle.hw_base.specs.TaggedAddress.{address_of}
use Rattle.hw_base.specs.declared.accesses.Access.{Access}
use Rattle.hw_base.specs.declared.accesses.Access.TheVariants.{Read, Write, Free}
use Rattle.hw_base.specs.declared.accesses.Kind.TheVariants.{NoObject}
use Rattle.hw_base.specs.declared.pointers.Base.{Base}
use Rattle.hw_base.specs.declared.pointers.Base.TheVariants.{Null, Object}
use Rattle.hw_base.specs.declared.pointers.Obj.{Obj}
use Rattle.ir_machine.specs.State.{MachineSetting, MachineShared}
use Rattle.ir_meaning.specs.AccessRule.{Fine, OnNull, OnNothing, bytes_answer, access_rule, accessed_in, accessed, access_answer}
use Rattle.ir_meaning.specs.Births.{SourceObject, is_living, get_object, region_of, bytes_in, bytes_at}
use Rattle.tag_story.specs.Story.{number_of, number_in, byte_image}
use Rattle.tag_story.specs.ToldRun.{ToldShared}
use Rattle.tbi_memory.proofs.MappedBytesLemmas.{read_bytes-same}
use Rattle.tbi_memory.specs.AddressSpace.{read}
use Rattle.tbi_memory.specs.MappedBytes.{byte_at, read_bytes}
use Rattle.simulation.proofs.Sizes.{size-rounded}
use Rattle.simulation.proofs.FinePasses.{fine-object, fine-nothing}
use Rattle.simulation.proofs.ListParts.{get-take, get-drop, get-map, length-part}
use Rattle.simulation.proofs.ObjectPlaces.{IsPlacedAs, placed-as, placed-there}
use Rattle.simulation.specs.Checks.{lies_inside}
use Rattle.simulation.specs.Relation.{IsSetting, SharedRelated}

module _ (setting : MachineSetting) (t : ToldShared) (m : MachineShared) (is : IsSetting setting) (related : SharedRelated setting t m) where
  -- the images of the bytes of an access
  abbrev images : Base → (off count : ℕ) → List ℕ
  images base off count = map (byte_image t.story.births) (bytes_at t.source.births base off count)

  nothing-read : (number : ℕ) (base : Base) (off : ℕ) → read m.memory number 0 ≡ Ok (images base off 0)
  nothing-read number Null off = read_bytes-same m.memory.bytes (address_of number) [] (λ i v h. absurd cc)
  nothing-read number (Object o) off = read_bytes-same m.memory.bytes (address_of number) [] (λ i v h. absurd cc)

  inside-read : (o : Obj) (x : SourceObject) (off count : ℕ) → get_object t.source.births o ≡ Some x → is_living x.life ≡ true → off + count ≤ x.size → IsPlacedAs t.story o x → read m.memory (number_of t.story.births (Object o) off) count ≡ Ok (images (Object o) off count)
  inside-read o x off count found alive inside place =
      ap (λ b. read_bytes m.memory.bytes (address_of (number_of t.story.births (Object o) off)) b) (sym counted)
      ∙ ap (λ a. read_bytes m.memory.bytes a (length (images (Object o) off count))) address
      ∙ read_bytes-same m.memory.bytes (place.placed.at + off) (images (Object o) off count) each
    where
      size : length x.bytes ≡ x.size
      size = related.their_bytes o x found ∙ ap (λ bit. if bit then x.size else 0) alive

      bytes : bytes_at t.source.births (Object o) off count ≡ take count (drop off x.bytes)
      bytes = ap (λ b. take count (drop off (bytes_in b))) found

      counted : length (images (Object o) off count) ≡ count
      counted = length-map _ _ ∙ ap length bytes ∙ length-part off count x.bytes (let all = size in omega (arith, inside, all))

      address : address_of (number_of t.story.births (Object o) off) ≡ place.placed.at + off
      address =
          ap (λ p. address_of (number_in p off)) (placed-there t.story o x place)
          ∙ (let tag = place.tag in let high = place.below in let own = place.size in let rounded = size-rounded place.placed.size in omega (arith, tag, high, own, rounded, inside))

      each : (i v : ℕ) → slice_get (images (Object o) off count) i ≡ Some v → byte_at m.memory.bytes (place.placed.at + off + i) ≡ Some v
      each i v h =
          let (byte, (there, image)) = get-map (byte_image t.story.births) (bytes_at t.source.births (Object o) off count) i v h in
          let own = get-drop off x.bytes i byte (get-take count (drop off x.bytes) i byte (ap (λ bs. slice_get bs i) (sym bytes) ∙ there)) in
          let e : place.placed.at + off + i ≡ place.placed.at + (off + i) = omega arith in
          ap (byte_at m.memory.bytes) e
          ∙ related.bytes.byte o x place.placed (off + i) byte found (placed-there t.story o x place) own
          ∙ ap (λ n. Some n) image

  object-read : (access : Access) (o : Obj) (found : Option SourceObject) (off n align : ℕ) → get_object t.source.births o ≡ found → bytes_answer access (accessed_in (region_of t.source.births o) found) off (suc n) align ≡ Fine → read m.memory (number_of t.story.births (Object o) off) (suc n) ≡ Ok (images (Object o) off (suc n))
  object-read access o None off n align there h = absurd (fine-nothing access OnNothing off n align (inl refl) (ap lies_inside h))
  object-read access o (Some x) off n align there h =
      let fine = fine-object access (region_of t.source.births o) x off n align (ap lies_inside h) in
      inside-read o x off (suc n) there fine.0 fine.1 (placed-as setting t.source.births t.story o x is related.laid related.told there)

  bytes-read : (access : Access) (base : Base) (off count align : ℕ) → bytes_answer access (accessed t.source.births base) off count align ≡ Fine → read m.memory (number_of t.story.births base off) count ≡ Ok (images base off count)
  bytes-read access base off zero align h = nothing-read (number_of t.story.births base off) base off
  bytes-read access Null off (suc n) align h = absurd (fine-nothing access OnNull off n align (inr (NoObject, refl)) (ap lies_inside h))
  bytes-read access (Object o) off (suc n) align h = object-read access o (get_object t.source.births o) off n align refl h

  -- the bytes of a fine read or write are mapped, and read as the images of the source's
  pub fine-read : (access : Access) (base : Base) (off count align : ℕ) → access ≢ Free → access_answer t.source.births access base off count align ≡ Fine → read m.memory (number_of t.story.births base off) count ≡ Ok (images base off count)
  unfolding access_rule
  fine-read Read base off count align other h = bytes-read Read base off count align h
  fine-read Write base off count align other h = bytes-read Write base off count align h
  fine-read Free base off count align other h = absurd (other refl)
