-- Memory takes a write that the access rule finds fine, and refuses one that the rule finds writes to a constant.
use Rattle.std.proofs.Common.{◌≡◌, ℕ, zero, suc, ◌+◌, ◌%◌, ◌<◌, ◌≤◌, ◌==◌, ◌&&◌, Bool, true, false, nat_le, nat_lt, if◌then◌else◌, List, [], ◌∷◌, length, map, Option, Some, None, Ok, Err, inl, inr, refl, sym, ◌∙◌, ap, subst, arith}
use Rattle.std.proofs.lemmas.Bool.Decides.{nat_tests}
use Rattle.hw_base.specs.TaggedAddress.{address_of}
use Rattle.hw_base.specs.declared.accesses.Access.TheVariants.{Read, Write}
use Rattle.hw_base.specs.declared.accesses.Kind.TheVariants.{NoObject}
use Rattle.hw_base.specs.declared.accesses.Reason.TheVariants.{Misaligned}
use Rattle.hw_base.specs.declared.pointers.Base.{Base}
use Rattle.hw_base.specs.declared.pointers.Base.TheVariants.{Null, Object}
use Rattle.hw_base.specs.declared.pointers.Obj.{Obj}
use Rattle.ir_machine.specs.State.{MachineSetting, MachineShared}
use Rattle.ir_meaning.proofs.BirthChangeLaws.{put_bytes-nothing}
use Rattle.ir_meaning.specs.AccessRule.{AccessAnswer, Fine, Violates, WritesConstant, IsOutside, OnNull, OnNothing, overflow_kind, dead_answer, inside_answer, base_answer, bytes_answer, access_rule, accessed_in, access_answer}
use Rattle.ir_meaning.specs.Births.{Birth, Region, Globals, Stack, Heap, SourceObject, is_living, get_object, region_of}
use Rattle.ir_meaning.specs.Values.{SourceByte}
use Rattle.tag_story.specs.Story.{Placed, number_in, number_of, byte_image}
use Rattle.tag_story.specs.ToldRun.{ToldShared}
use Rattle.tbi_memory.specs.AddressSpace.{AddressSpace, read, meets_constants, refused_write, write_fault, with_bytes, written}
use Rattle.tbi_memory.specs.MappedBytes.{write}
use Rattle.tbi_memory.specs.declared.mem_fault.MemFault.{MemFault}
use Rattle.tbi_memory.specs.declared.mem_fault.MemFault.TheVariants.{ReadOnly}
use Rattle.simulation.proofs.Sizes.{size-rounded}
use Rattle.simulation.proofs.FinePasses.{fine-object, fine-nothing}
use Rattle.simulation.proofs.ObjectPlaces.{IsPlacedAs, placed-as, placed-there}
use Rattle.simulation.proofs.ReadImages.{fine-read}
use Rattle.simulation.proofs.WriteRelated.{put-related}
use Rattle.simulation.specs.Checks.{lies_inside}
use Rattle.simulation.specs.Parts.{LiesAsConstant}
use Rattle.simulation.specs.Relation.{IsSetting, SharedRelated}
use Rattle.simulation.specs.Writes.{AreKnown, put_told, put_memory}

-- ---- what the rule says of constants

-- what the rule says of a write within a living object
abbrev AnswersConstant : (constant : Bool) → AccessAnswer → Type 0
AnswersConstant constant answer = answer ≡ (if constant then WritesConstant else Fine)

answered : (x : SourceObject) (region : Region) (off n align : ℕ) → lies_inside (bytes_answer Write (accessed_in region (Some x)) off (suc n) align) ≡ true → AnswersConstant x.constant (bytes_answer Write (accessed_in region (Some x)) off (suc n) align)
answered x region off n align h = by_align (off % align == 0) h
  where
    is_dead : (r : Region) → lies_inside (dead_answer r) ≡ true → dead_answer r ≡ (if x.constant then WritesConstant else Fine)
    is_dead Globals e = absurd cc
    is_dead (Stack func) e = absurd cc
    is_dead Heap e = absurd cc

    by_constant : (c : Bool) → inside_answer Write c ≡ (if c then WritesConstant else Fine)
    by_constant true = refl
    by_constant false = refl

    by_size : (fits : Bool) → lies_inside (if fits then inside_answer Write x.constant else Violates (overflow_kind region)) ≡ true → (if fits then inside_answer Write x.constant else Violates (overflow_kind region)) ≡ (if x.constant then WritesConstant else Fine)
    by_size true e = by_constant x.constant
    by_size false e = absurd cc

    by_life : (living : Bool) → lies_inside (if living then (if nat_le (off + suc n) x.size then inside_answer Write x.constant else Violates (overflow_kind region)) else dead_answer region) ≡ true → (if living then (if nat_le (off + suc n) x.size then inside_answer Write x.constant else Violates (overflow_kind region)) else dead_answer region) ≡ (if x.constant then WritesConstant else Fine)
    by_life true e = by_size (nat_le (off + suc n) x.size) e
    by_life false e = is_dead region e

    by_align : (aligned : Bool) → lies_inside (if aligned then base_answer Write (accessed_in region (Some x)) off (suc n) else IsOutside Misaligned) ≡ true → (if aligned then base_answer Write (accessed_in region (Some x)) off (suc n) else IsOutside Misaligned) ≡ (if x.constant then WritesConstant else Fine)
    by_align true e = by_life (is_living x.life) e
    by_align false e = absurd cc

-- a read is fine where a write is fine or writes to a constant
reads-fine : (x : SourceObject) (region : Region) (off n align : ℕ) → lies_inside (bytes_answer Write (accessed_in region (Some x)) off (suc n) align) ≡ true → bytes_answer Read (accessed_in region (Some x)) off (suc n) align ≡ Fine
reads-fine x region off n align h = by_align (off % align == 0) h
  where
    is_dead : (r : Region) → lies_inside (dead_answer r) ≡ true → dead_answer r ≡ Fine
    is_dead Globals e = absurd cc
    is_dead (Stack func) e = absurd cc
    is_dead Heap e = absurd cc

    by_size : (fits : Bool) → lies_inside (if fits then inside_answer Write x.constant else Violates (overflow_kind region)) ≡ true → (if fits then inside_answer Read x.constant else Violates (overflow_kind region)) ≡ Fine
    by_size true e = refl
    by_size false e = absurd cc

    by_life : (living : Bool) → lies_inside (if living then (if nat_le (off + suc n) x.size then inside_answer Write x.constant else Violates (overflow_kind region)) else dead_answer region) ≡ true → (if living then (if nat_le (off + suc n) x.size then inside_answer Read x.constant else Violates (overflow_kind region)) else dead_answer region) ≡ Fine
    by_life true e = by_size (nat_le (off + suc n) x.size) e
    by_life false e = is_dead region e

    by_align : (aligned : Bool) → lies_inside (if aligned then base_answer Write (accessed_in region (Some x)) off (suc n) else IsOutside Misaligned) ≡ true → (if aligned then base_answer Read (accessed_in region (Some x)) off (suc n) else IsOutside Misaligned) ≡ Fine
    by_align true e = by_life (is_living x.life) e
    by_align false e = absurd cc

-- ---- constants in memory

-- a range inside an object meets the constants exactly if the object is one
meets-constants : (constant : Bool) (memory : AddressSpace) (placed : Placed) (off n : ℕ) → LiesAsConstant constant memory.constants_at memory.constants_end placed → off + suc n ≤ placed.size → meets_constants memory (placed.at + off) (suc n) ≡ constant
meets-constants true memory placed off n lies inside =
    let low = lies.0 in
    let high = lies.1 in
    let whole = size-rounded placed.size in
    let first : placed.at + off < memory.constants_end = omega (arith, high, whole, inside) in
    let last : memory.constants_at < placed.at + off + suc n = omega (arith, low) in
    grind (arith, nat_tests)
meets-constants false memory placed off n lies inside =
    let past : memory.constants_end ≤ placed.at + off = omega (arith, lies) in
    let not_below : nat_lt (placed.at + off) memory.constants_end ≡ false = grind (arith, nat_tests) in
    let some : nat_lt 0 (suc n) ≡ true = grind (arith, nat_tests) in
    ap (λ bit. bit && nat_lt (placed.at + off) memory.constants_end && nat_lt memory.constants_at (placed.at + off + suc n)) some
    ∙ ap (λ bit. bit && nat_lt memory.constants_at (placed.at + off + suc n)) not_below

refused : (memory : AddressSpace) (number count : ℕ) (old : List ℕ) (constant : Bool) → read memory number count ≡ Ok old → meets_constants memory (address_of number) count ≡ constant → write_fault memory number count ≡ (if constant then Some ReadOnly else None)
refused memory number count old constant mapped meets = ap (refused_write (meets_constants memory (address_of number) count)) mapped ∙ ap (λ bit. if bit then Some ReadOnly else None) meets

-- what a write does, by what refuses it
written-by : (memory : AddressSpace) (number : ℕ) (numbers : List ℕ) (fault : Option MemFault) → write_fault memory number (length numbers) ≡ fault → written memory number numbers ≡ elim fault [ Some one ↦ Err one | None ↦ Ok (with_bytes memory (address_of number) numbers) ]
unfolding written
written-by memory number numbers fault h = ap (λ (f : Option MemFault). elim f [ Some one ↦ Err one | None ↦ Ok (with_bytes memory (address_of number) numbers) ]) h

module _ (setting : MachineSetting) (t : ToldShared) (m : MachineShared) (is : IsSetting setting) (related : SharedRelated setting t m) where
  -- the address of an access inside an object
  pub object-address : (o : Obj) (x : SourceObject) (place : IsPlacedAs t.story o x) (off n : ℕ) → off + n ≤ x.size → address_of (number_of t.story.births (Object o) off) ≡ place.placed.at + off
  object-address o x place off n inside =
      ap (λ p. address_of (number_in p off)) (placed-there t.story o x place)
      ∙ (let tag = place.tag in let high = place.below in let own = place.size in let rounded = size-rounded place.placed.size in omega (arith, tag, high, own, rounded, inside))

  -- what refuses a write within an object
  object-fault : (o : Obj) (found : Option SourceObject) (off n align : ℕ) → get_object t.source.births o ≡ found → lies_inside (bytes_answer Write (accessed_in (region_of t.source.births o) found) off (suc n) align) ≡ true
      → write_fault m.memory (number_of t.story.births (Object o) off) (suc n) ≡ elim (bytes_answer Write (accessed_in (region_of t.source.births o) found) off (suc n) align) [ WritesConstant ↦ Some ReadOnly | _ ↦ None ]
  unfolding access_rule
  object-fault o None off n align there h = absurd (fine-nothing Write OnNothing off n align (inl refl) h)
  object-fault o (Some x) off n align there h =
      let fine = fine-object Write (region_of t.source.births o) x off n align h in
      let place = placed-as setting t.source.births t.story o x is related.laid related.told there in
      let lies = related.constants o x place.placed there (placed-there t.story o x place) in
      let own = place.size in
      let inner = fine.1 in
      let meets = meets-constants x.constant m.memory place.placed off n lies (omega (arith, own, inner)) in
      let address = object-address o x place off (suc n) inner in
      let readable : access_answer t.source.births Read (Object o) off (suc n) align ≡ Fine = ap (λ b. bytes_answer Read (accessed_in (region_of t.source.births o) b) off (suc n) align) there ∙ reads-fine x (region_of t.source.births o) off n align h in
      refused m.memory (number_of t.story.births (Object o) off) (suc n) _ x.constant (fine-read setting t m is related Read (Object o) off (suc n) align (λ same. absurd cc) readable) (ap (λ a. meets_constants m.memory a (suc n)) address ∙ meets)
      ∙ by_constant x.constant
      ∙ ap (λ (a : AccessAnswer). elim a [ WritesConstant ↦ Some ReadOnly | _ ↦ None ]) (sym (answered x (region_of t.source.births o) off n align h))
    where
      by_constant : (c : Bool) → (if c then Some ReadOnly else None) ≡ elim (if c then WritesConstant else Fine) [ WritesConstant ↦ Some ReadOnly | _ ↦ None ]
      by_constant true = refl
      by_constant false = refl

  bytes-fault : (base : Base) (off count align : ℕ) → lies_inside (access_answer t.source.births Write base off count align) ≡ true → write_fault m.memory (number_of t.story.births base off) count ≡ elim (access_answer t.source.births Write base off count align) [ WritesConstant ↦ Some ReadOnly | _ ↦ None ]
  unfolding access_rule Rattle.tbi_memory.specs.MappedBytes.read_bytes
  bytes-fault base off zero align h = refl
  bytes-fault Null off (suc n) align h = absurd (fine-nothing Write OnNull off n align (inr (NoObject, refl)) h)
  bytes-fault (Object o) off (suc n) align h = object-fault o (get_object t.source.births o) off n align refl h

  object-readable : (o : Obj) (found : Option SourceObject) (off n align : ℕ) → get_object t.source.births o ≡ found → lies_inside (bytes_answer Write (accessed_in (region_of t.source.births o) found) off (suc n) align) ≡ true → bytes_answer Read (accessed_in (region_of t.source.births o) found) off (suc n) align ≡ Fine
  object-readable o None off n align there h = absurd (fine-nothing Write OnNothing off n align (inl refl) h)
  object-readable o (Some x) off n align there h = reads-fine x (region_of t.source.births o) off n align h

  -- what a write within an object overwrites can be read
  pub readable : (base : Base) (off count align : ℕ) → lies_inside (access_answer t.source.births Write base off count align) ≡ true → access_answer t.source.births Read base off count align ≡ Fine
  unfolding access_rule
  readable base off zero align h = refl
  readable Null off (suc n) align h = absurd (fine-nothing Write OnNull off n align (inr (NoObject, refl)) h)
  readable (Object o) off (suc n) align h = object-readable o (get_object t.source.births o) off n align refl h

  -- a fine write is refused by nothing
  pub fine-writable : (base : Base) (off count align : ℕ) → access_answer t.source.births Write base off count align ≡ Fine → write_fault m.memory (number_of t.story.births base off) count ≡ None
  fine-writable base off count align h = bytes-fault base off count align (ap lies_inside h) ∙ ap (λ (a : AccessAnswer). elim a [ WritesConstant ↦ Some ReadOnly | _ ↦ None ]) h

  -- a write to a constant is refused
  pub constant-refused : (base : Base) (off count align : ℕ) → access_answer t.source.births Write base off count align ≡ WritesConstant → write_fault m.memory (number_of t.story.births base off) count ≡ Some ReadOnly
  constant-refused base off count align h = bytes-fault base off count align (ap lies_inside h) ∙ ap (λ (a : AccessAnswer). elim a [ WritesConstant ↦ Some ReadOnly | _ ↦ None ]) h

  pub fine-written : (base : Base) (off align : ℕ) (numbers : List ℕ) → access_answer t.source.births Write base off (length numbers) align ≡ Fine → written m.memory (number_of t.story.births base off) numbers ≡ Ok (with_bytes m.memory (address_of (number_of t.story.births base off)) numbers)
  fine-written base off align numbers h = written-by m.memory (number_of t.story.births base off) numbers None (fine-writable base off (length numbers) align h)

  pub constant-written : (base : Base) (off align : ℕ) (numbers : List ℕ) → access_answer t.source.births Write base off (length numbers) align ≡ WritesConstant → written m.memory (number_of t.story.births base off) numbers ≡ Err ReadOnly
  constant-written base off align numbers h = written-by m.memory (number_of t.story.births base off) numbers (Some ReadOnly) (constant-refused base off (length numbers) align h)

  object-kept : (o : Obj) (found : Option SourceObject) (off align : ℕ) (byte : SourceByte) (bytes : List SourceByte) → get_object t.source.births o ≡ found → lies_inside (bytes_answer Write (accessed_in (region_of t.source.births o) found) off (suc (length bytes)) align) ≡ true → AreKnown t.story.births (byte ∷ bytes)
      → SharedRelated setting (put_told t (Object o) off (byte ∷ bytes)) (put_memory m (address_of (number_of t.story.births (Object o) off)) (map (byte_image t.story.births) (byte ∷ bytes)))
  object-kept o None off align byte bytes there h known = absurd (fine-nothing Write OnNothing off (length bytes) align (inl refl) h)
  object-kept o (Some x) off align byte bytes there h known =
      let fine = fine-object Write (region_of t.source.births o) x off (length bytes) align h in
      let place = placed-as setting t.source.births t.story o x is related.laid related.told there in
      let inner = fine.1 in
      let address = object-address o x place off (suc (length bytes)) inner in
      subst (λ a. SharedRelated setting (put_told t (Object o) off (byte ∷ bytes)) (put_memory m a (map (byte_image t.story.births) (byte ∷ bytes)))) (sym address)
      (put-related setting t m is related o x there fine.0 place off (byte ∷ bytes) inner known)

  -- a fine write of the images of bytes keeps the relation
  pub write-kept : (base : Base) (off align : ℕ) (bytes : List SourceByte) → access_answer t.source.births Write base off (length bytes) align ≡ Fine → AreKnown t.story.births bytes
      → SharedRelated setting (put_told t base off bytes) (put_memory m (address_of (number_of t.story.births base off)) (map (byte_image t.story.births) bytes))
  unfolding access_rule write
  write-kept base off align [] h known = subst (λ (births : List Birth). SharedRelated setting (record t { source = record t.source { births = births } }) m) (sym (put_bytes-nothing t.source.births base off)) related
  write-kept Null off align (byte ∷ bytes) h known = absurd (fine-nothing Write OnNull off (length bytes) align (inr (NoObject, refl)) (ap lies_inside h))
  write-kept (Object o) off align (byte ∷ bytes) h known = object-kept o (get_object t.source.births o) off align byte bytes refl (ap lies_inside h) known
