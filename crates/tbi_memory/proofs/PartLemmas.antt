-- The four parts of memory as an address space: an address, a granule, or a run in one of them.
use Rattle.std.proofs.Common.{refl, None, ◌≡◌, ℕ, ◌+◌, ◌-◌, ◌*◌, ◌%◌, ◌<◌, ◌≤◌, ◌^◌, true, List, [], ◌∷◌, length, Some, sym, ◌∙◌, ap, inl, inr, arith}
use Rattle.std.proofs.lemmas.Bool.{cases_lt}
use Rattle.std.specs.Prelude.{Ok}
use Rattle.hw_base.specs.AddressMap.{granule_of}
use Rattle.hw_base.specs.Bytes.{le_number}
use Rattle.hw_base.specs.TaggedAddress.{address_of, pointer_tag}
use Rattle.hw_shadow.specs.TagRule.{granules_touched}
use Rattle.hw_region.specs.RegionBytes.{bytes_from, with_bytes_at}
use Rattle.tbi_memory.specs.declared.mapped_part.MappedPart.{MappedPart}
use Rattle.tbi_memory.specs.AddressSpace.{read, with_bytes, written, check}
use Rattle.tbi_memory.specs.MappedBytes.{Range, byte_in, byte_at, write, read_bytes}
use Rattle.tbi_memory.specs.MemoryParts.{bytes_of, tags_of, space_of, AreInOrder, all_tagged, lie_in, number_read, with_tags}
use Rattle.tbi_memory.proofs.RangeLemmas.{AreRising, lie_in-true, byte_in-past, byte_at-only, read_bytes-inside, write-inside}
use Rattle.tbi_memory.proofs.SpaceLemmas.{written-by, meets-none}
use Rattle.tbi_memory.proofs.StepLemmas.{check-tagged}

module _ (c v s h : MappedPart) (order : AreInOrder c v s h) where
  pub bytes-rising : AreRising (space_of c v s h).bytes
  bytes-rising =
      ((omega (arith, order.constants_end), (omega (arith, order.constants_end, order.variables_end), (omega (arith, order.constants_end, order.variables_end, order.stacks_end), tt))), ((omega (arith, order.variables_end), (omega (arith, order.variables_end, order.stacks_end), tt)), ((omega (arith, order.stacks_end), tt), (tt, tt))))

  -- the byte at an address, by the highest part that doesn't begin after it
  pub byte_at-heap : (a : ℕ) → h.at ≤ a → byte_at (space_of c v s h).bytes a ≡ byte_in (bytes_of h) a
  byte_at-heap a low =
      byte_at-only (bytes_of c ∷ bytes_of v ∷ bytes_of s ∷ []) (bytes_of h) [] h.at a
      (omega (arith, order.constants_end, order.variables_end, order.stacks_end), (omega (arith, order.variables_end, order.stacks_end), (omega (arith, order.stacks_end), tt))) low tt

  pub byte_at-stacks : (a : ℕ) → s.at ≤ a → a < h.at → byte_at (space_of c v s h).bytes a ≡ byte_in (bytes_of s) a
  byte_at-stacks a low high =
      byte_at-only (bytes_of c ∷ bytes_of v ∷ []) (bytes_of s) (bytes_of h ∷ []) s.at a
      (omega (arith, order.constants_end, order.variables_end), (omega (arith, order.variables_end), tt)) low (omega (arith, high), tt)

  pub byte_at-variables : (a : ℕ) → v.at ≤ a → a < s.at → byte_at (space_of c v s h).bytes a ≡ byte_in (bytes_of v) a
  byte_at-variables a low high =
      byte_at-only (bytes_of c ∷ []) (bytes_of v) (bytes_of s ∷ bytes_of h ∷ []) v.at a
      (omega (arith, order.constants_end), tt) low (omega (arith, high), (omega (arith, high, order.stacks_end), tt))

  pub byte_at-constants : (a : ℕ) → a < v.at → byte_at (space_of c v s h).bytes a ≡ byte_in (bytes_of c) a
  byte_at-constants a high =
      byte_at-only [] (bytes_of c) (bytes_of v ∷ bytes_of s ∷ bytes_of h ∷ []) 0 a
      tt (omega arith) (omega (arith, high), (omega (arith, high, order.variables_end), (omega (arith, high, order.variables_end, order.stacks_end), tt)))

  -- the granules of the parts are in the same order
  granules_end : (part next : MappedPart) → part.at % 16 ≡ 0 → length part.bytes ≡ 16 * length part.tags → part.at + length part.bytes ≤ next.at
      → granule_of part.at + length part.tags ≤ granule_of next.at
  granules_end part next place count less = omega (arith, place, count, less)

  c-v : granule_of c.at + length c.tags ≤ granule_of v.at
  c-v = granules_end c v order.of_constants.place order.of_constants.count order.constants_end

  v-s : granule_of v.at + length v.tags ≤ granule_of s.at
  v-s = granules_end v s order.of_variables.place order.of_variables.count order.variables_end

  s-h : granule_of s.at + length s.tags ≤ granule_of h.at
  s-h = granules_end s h order.of_stacks.place order.of_stacks.count order.stacks_end

  -- the tag of a granule, by the highest part that doesn't begin after it
  pub tag_at-heap : (g : ℕ) → granule_of h.at ≤ g → byte_at (space_of c v s h).shadow g ≡ byte_in (tags_of h) g
  tag_at-heap g low =
      byte_at-only (tags_of c ∷ tags_of v ∷ tags_of s ∷ []) (tags_of h) [] (granule_of h.at) g
      (omega (arith, c-v, v-s, s-h), (omega (arith, v-s, s-h), (omega (arith, s-h), tt))) low tt

  pub tag_at-stacks : (g : ℕ) → granule_of s.at ≤ g → g < granule_of h.at → byte_at (space_of c v s h).shadow g ≡ byte_in (tags_of s) g
  tag_at-stacks g low high =
      byte_at-only (tags_of c ∷ tags_of v ∷ []) (tags_of s) (tags_of h ∷ []) (granule_of s.at) g
      (omega (arith, c-v, v-s), (omega (arith, v-s), tt)) low (omega (arith, high), tt)

  pub tag_at-variables : (g : ℕ) → granule_of v.at ≤ g → g < granule_of s.at → byte_at (space_of c v s h).shadow g ≡ byte_in (tags_of v) g
  tag_at-variables g low high =
      byte_at-only (tags_of c ∷ []) (tags_of v) (tags_of s ∷ tags_of h ∷ []) (granule_of v.at) g
      (omega (arith, c-v), tt) low (omega (arith, high), (omega (arith, high, s-h), tt))

  pub tag_at-constants : (g : ℕ) → g < granule_of v.at → byte_at (space_of c v s h).shadow g ≡ byte_in (tags_of c) g
  tag_at-constants g high =
      byte_at-only [] (tags_of c) (tags_of v ∷ tags_of s ∷ tags_of h ∷ []) 0 g
      tt (omega arith) (omega (arith, high), (omega (arith, high, v-s), (omega (arith, high, v-s, s-h), tt)))

  -- a run in a part is read there
  pub read-heap : (a n : ℕ) → lie_in (bytes_of h) a n ≡ true → read_bytes (space_of c v s h).bytes a n ≡ Ok (bytes_from h.bytes (a - h.at) n)
  read-heap a n inside =
      read_bytes-inside (bytes_of c ∷ bytes_of v ∷ bytes_of s ∷ []) (bytes_of h) [] a n
      (omega (arith, order.constants_end, order.variables_end, order.stacks_end), (omega (arith, order.variables_end, order.stacks_end), (omega (arith, order.stacks_end), tt))) inside

  pub read-stacks : (a n : ℕ) → lie_in (bytes_of s) a n ≡ true → read_bytes (space_of c v s h).bytes a n ≡ Ok (bytes_from s.bytes (a - s.at) n)
  read-stacks a n inside =
      read_bytes-inside (bytes_of c ∷ bytes_of v ∷ []) (bytes_of s) (bytes_of h ∷ []) a n
      (omega (arith, order.constants_end, order.variables_end), (omega (arith, order.variables_end), tt)) inside

  pub read-variables : (a n : ℕ) → lie_in (bytes_of v) a n ≡ true → read_bytes (space_of c v s h).bytes a n ≡ Ok (bytes_from v.bytes (a - v.at) n)
  read-variables a n inside =
      read_bytes-inside (bytes_of c ∷ []) (bytes_of v) (bytes_of s ∷ bytes_of h ∷ []) a n (omega (arith, order.constants_end), tt) inside

  pub read-constants : (a n : ℕ) → lie_in (bytes_of c) a n ≡ true → read_bytes (space_of c v s h).bytes a n ≡ Ok (bytes_from c.bytes (a - c.at) n)
  read-constants a n inside = read_bytes-inside [] (bytes_of c) (bytes_of v ∷ bytes_of s ∷ bytes_of h ∷ []) a n tt inside

  -- and written there
  pub write-heap : (a n : ℕ) (bytes : List ℕ) → lie_in (bytes_of h) a n ≡ true → length bytes ≡ n
      → write (space_of c v s h).bytes a bytes ≡ bytes_of c ∷ bytes_of v ∷ bytes_of s ∷ record (bytes_of h) { bytes = with_bytes_at h.bytes (a - h.at) bytes } ∷ []
  write-heap a n bytes inside count =
      let (low, high) = lie_in-true (bytes_of h) a n inside in
      write-inside (bytes_of c ∷ bytes_of v ∷ bytes_of s ∷ []) (bytes_of h) [] a bytes
      (omega (arith, order.constants_end, order.variables_end, order.stacks_end), (omega (arith, order.variables_end, order.stacks_end), (omega (arith, order.stacks_end), tt))) tt low (omega (arith, high, count))

  pub write-stacks : (a n : ℕ) (bytes : List ℕ) → lie_in (bytes_of s) a n ≡ true → length bytes ≡ n
      → write (space_of c v s h).bytes a bytes ≡ bytes_of c ∷ bytes_of v ∷ record (bytes_of s) { bytes = with_bytes_at s.bytes (a - s.at) bytes } ∷ bytes_of h ∷ []
  write-stacks a n bytes inside count =
      let (low, high) = lie_in-true (bytes_of s) a n inside in
      write-inside (bytes_of c ∷ bytes_of v ∷ []) (bytes_of s) (bytes_of h ∷ []) a bytes
      (omega (arith, order.constants_end, order.variables_end), (omega (arith, order.variables_end), tt)) (order.stacks_end, tt) low (omega (arith, high, count))

  pub write-variables : (a n : ℕ) (bytes : List ℕ) → lie_in (bytes_of v) a n ≡ true → length bytes ≡ n
      → write (space_of c v s h).bytes a bytes ≡ bytes_of c ∷ record (bytes_of v) { bytes = with_bytes_at v.bytes (a - v.at) bytes } ∷ bytes_of s ∷ bytes_of h ∷ []
  write-variables a n bytes inside count =
      let (low, high) = lie_in-true (bytes_of v) a n inside in
      write-inside (bytes_of c ∷ []) (bytes_of v) (bytes_of s ∷ bytes_of h ∷ []) a bytes
      (omega (arith, order.constants_end), tt) (order.variables_end, (omega (arith, order.variables_end, order.stacks_end), tt)) low (omega (arith, high, count))

  -- tags in a part are set there
  pub paint-heap : (g n : ℕ) (tags : List ℕ) → lie_in (tags_of h) g n ≡ true → length tags ≡ n
      → write (space_of c v s h).shadow g tags ≡ tags_of c ∷ tags_of v ∷ tags_of s ∷ record (tags_of h) { bytes = with_bytes_at h.tags (g - granule_of h.at) tags } ∷ []
  paint-heap g n tags inside count =
      let (low, high) = lie_in-true (tags_of h) g n inside in
      write-inside (tags_of c ∷ tags_of v ∷ tags_of s ∷ []) (tags_of h) [] g tags
      (omega (arith, c-v, v-s, s-h), (omega (arith, v-s, s-h), (omega (arith, s-h), tt))) tt low (omega (arith, high, count))

  pub paint-stacks : (g n : ℕ) (tags : List ℕ) → lie_in (tags_of s) g n ≡ true → length tags ≡ n
      → write (space_of c v s h).shadow g tags ≡ tags_of c ∷ tags_of v ∷ record (tags_of s) { bytes = with_bytes_at s.tags (g - granule_of s.at) tags } ∷ tags_of h ∷ []
  paint-stacks g n tags inside count =
      let (low, high) = lie_in-true (tags_of s) g n inside in
      write-inside (tags_of c ∷ tags_of v ∷ []) (tags_of s) (tags_of h ∷ []) g tags
      (omega (arith, c-v, v-s), (omega (arith, v-s), tt)) (s-h, tt) low (omega (arith, high, count))

  -- so the number of a run is read
  pub number-heap : (number a n x : ℕ) → a ≡ address_of number → lie_in (bytes_of h) a n ≡ true → x ≡ le_number (bytes_from h.bytes (a - h.at) n)
      → Ok x ≡ number_read (read (space_of c v s h) number n)
  number-heap number a n x place inside e =
      ap Ok e ∙ ap number_read (sym (ap (λ (b : ℕ). read_bytes (space_of c v s h).bytes b n) (sym place) ∙ read-heap a n inside))

  pub number-stacks : (number a n x : ℕ) → a ≡ address_of number → lie_in (bytes_of s) a n ≡ true → x ≡ le_number (bytes_from s.bytes (a - s.at) n)
      → Ok x ≡ number_read (read (space_of c v s h) number n)
  number-stacks number a n x place inside e =
      ap Ok e ∙ ap number_read (sym (ap (λ (b : ℕ). read_bytes (space_of c v s h).bytes b n) (sym place) ∙ read-stacks a n inside))

  pub number-variables : (number a n x : ℕ) → a ≡ address_of number → lie_in (bytes_of v) a n ≡ true → x ≡ le_number (bytes_from v.bytes (a - v.at) n)
      → Ok x ≡ number_read (read (space_of c v s h) number n)
  number-variables number a n x place inside e =
      ap Ok e ∙ ap number_read (sym (ap (λ (b : ℕ). read_bytes (space_of c v s h).bytes b n) (sym place) ∙ read-variables a n inside))

  pub number-constants : (number a n x : ℕ) → a ≡ address_of number → lie_in (bytes_of c) a n ≡ true → x ≡ le_number (bytes_from c.bytes (a - c.at) n)
      → Ok x ≡ number_read (read (space_of c v s h) number n)
  number-constants number a n x place inside e =
      ap Ok e ∙ ap number_read (sym (ap (λ (b : ℕ). read_bytes (space_of c v s h).bytes b n) (sym place) ∙ read-constants a n inside))

  -- a run that was read and lies after the constants is written
  written_after : (number a n : ℕ) (bytes old : List ℕ) → a ≡ address_of number → length bytes ≡ n → c.at + length c.bytes ≤ a
      → read_bytes (space_of c v s h).bytes a n ≡ Ok old → written (space_of c v s h) number bytes ≡ Ok (with_bytes (space_of c v s h) a bytes)
  written_after number a n bytes old place count past mapped =
      let here : read (space_of c v s h) number (length bytes) ≡ Ok old =
      ap (λ (b : ℕ). read_bytes (space_of c v s h).bytes b (length bytes)) (sym place) ∙ ap (read_bytes (space_of c v s h).bytes a) count ∙ mapped in
      written-by (space_of c v s h) number bytes old (meets-none (space_of c v s h) (address_of number) (length bytes) (omega (arith, place, past))) here
      ∙ ap (λ (b : ℕ). Ok (with_bytes (space_of c v s h) b bytes)) (sym place)

  pub written-heap : (number a n : ℕ) (bytes after : List ℕ) → a ≡ address_of number → lie_in (bytes_of h) a n ≡ true → length bytes ≡ n
      → after ≡ with_bytes_at h.bytes (a - h.at) bytes → written (space_of c v s h) number bytes ≡ Ok (space_of c v s (record h { bytes = after }))
  written-heap number a n bytes after place inside count e =
      let (low, high) = lie_in-true (bytes_of h) a n inside in
      written_after number a n bytes (bytes_from h.bytes (a - h.at) n) place count (omega (arith, low, order.constants_end, order.variables_end, order.stacks_end)) (read-heap a n inside)
      ∙ ap (λ (rs : List Range). Ok (record (space_of c v s h) { bytes = rs })) (write-heap a n bytes inside count)
      ∙ ap (λ (ys : List ℕ). Ok (space_of c v s (record h { bytes = ys }))) (sym e)

  pub written-stacks : (number a n : ℕ) (bytes after : List ℕ) → a ≡ address_of number → lie_in (bytes_of s) a n ≡ true → length bytes ≡ n
      → after ≡ with_bytes_at s.bytes (a - s.at) bytes → written (space_of c v s h) number bytes ≡ Ok (space_of c v (record s { bytes = after }) h)
  written-stacks number a n bytes after place inside count e =
      let (low, high) = lie_in-true (bytes_of s) a n inside in
      written_after number a n bytes (bytes_from s.bytes (a - s.at) n) place count (omega (arith, low, order.constants_end, order.variables_end)) (read-stacks a n inside)
      ∙ ap (λ (rs : List Range). Ok (record (space_of c v s h) { bytes = rs })) (write-stacks a n bytes inside count)
      ∙ ap (λ (ys : List ℕ). Ok (space_of c v (record s { bytes = ys }) h)) (sym e)

  pub written-variables : (number a n : ℕ) (bytes after : List ℕ) → a ≡ address_of number → lie_in (bytes_of v) a n ≡ true → length bytes ≡ n
      → after ≡ with_bytes_at v.bytes (a - v.at) bytes → written (space_of c v s h) number bytes ≡ Ok (space_of c (record v { bytes = after }) s h)
  written-variables number a n bytes after place inside count e =
      let (low, high) = lie_in-true (bytes_of v) a n inside in
      written_after number a n bytes (bytes_from v.bytes (a - v.at) n) place count (omega (arith, low, order.constants_end)) (read-variables a n inside)
      ∙ ap (λ (rs : List Range). Ok (record (space_of c v s h) { bytes = rs })) (write-variables a n bytes inside count)
      ∙ ap (λ (ys : List ℕ). Ok (space_of c (record v { bytes = ys }) s h)) (sym e)

  -- a run in a part is written there, constants or not
  pub placed-heap : (a n : ℕ) (bytes after : List ℕ) → lie_in (bytes_of h) a n ≡ true → length bytes ≡ n → after ≡ with_bytes_at h.bytes (a - h.at) bytes
      → space_of c v s (record h { bytes = after }) ≡ with_bytes (space_of c v s h) a bytes
  placed-heap a n bytes after inside count e =
      ap (λ (ys : List ℕ). space_of c v s (record h { bytes = ys })) e
      ∙ sym (ap (λ (rs : List Range). record (space_of c v s h) { bytes = rs }) (write-heap a n bytes inside count))

  pub placed-stacks : (a n : ℕ) (bytes after : List ℕ) → lie_in (bytes_of s) a n ≡ true → length bytes ≡ n → after ≡ with_bytes_at s.bytes (a - s.at) bytes
      → space_of c v (record s { bytes = after }) h ≡ with_bytes (space_of c v s h) a bytes
  placed-stacks a n bytes after inside count e =
      ap (λ (ys : List ℕ). space_of c v (record s { bytes = ys }) h) e
      ∙ sym (ap (λ (rs : List Range). record (space_of c v s h) { bytes = rs }) (write-stacks a n bytes inside count))

  -- and so are tags
  pub tagged-heap : (g n : ℕ) (tags after : List ℕ) → lie_in (tags_of h) g n ≡ true → length tags ≡ n → after ≡ with_bytes_at h.tags (g - granule_of h.at) tags
      → space_of c v s (record h { tags = after }) ≡ with_tags (space_of c v s h) g tags
  tagged-heap g n tags after inside count e =
      ap (λ (ys : List ℕ). space_of c v s (record h { tags = ys })) e
      ∙ sym (ap (λ (rs : List Range). record (space_of c v s h) { shadow = rs }) (paint-heap g n tags inside count))

  pub tagged-stacks : (g n : ℕ) (tags after : List ℕ) → lie_in (tags_of s) g n ≡ true → length tags ≡ n → after ≡ with_bytes_at s.tags (g - granule_of s.at) tags
      → space_of c v (record s { tags = after }) h ≡ with_tags (space_of c v s h) g tags
  tagged-stacks g n tags after inside count e =
      ap (λ (ys : List ℕ). space_of c v (record s { tags = ys }) h) e
      ∙ sym (ap (λ (rs : List Range). record (space_of c v s h) { shadow = rs }) (paint-stacks g n tags inside count))

  byte_in-below : (r : Range) (a x : ℕ) → byte_in r a ≡ Some x → a < r.at + length r.bytes
  byte_in-below r a x e =
      elim (cases_lt a (r.at + length r.bytes)) [
        | inl below ↦ below
        | inr past ↦ absurd (let none = byte_in-past r a past in cc)
      ]

  -- no tag is past the last address
  pub heap-below : (g x : ℕ) → byte_in (tags_of h) g ≡ Some x → g < 2 ^ 52
  heap-below g x e = omega (arith, byte_in-below (tags_of h) g x e, order.of_heap.place, order.of_heap.count, order.heap_end)

  -- an access passes whose granules lie in a part and have the pointer's tag
  pub checked-heap : (number size tag a count : ℕ) → a ≡ address_of number → count ≡ granules_touched a size
      → all_tagged (tags_of h) (granule_of a) count tag ≡ true → tag ≡ pointer_tag number → check (space_of c v s h) number size ≡ None
  checked-heap number size tag a count place touched all same =
      check-tagged (space_of c v s h) (tags_of c ∷ tags_of v ∷ tags_of s ∷ []) (tags_of h) [] number size tag refl
      (omega (arith, c-v, v-s, s-h), (omega (arith, v-s, s-h), (omega (arith, s-h), tt)))
      (ap (λ (b : ℕ). all_tagged (tags_of h) (granule_of b) (granules_touched b size) tag) (sym place) ∙ ap (λ (k : ℕ). all_tagged (tags_of h) (granule_of a) k tag) (sym touched) ∙ all) same

  pub checked-stacks : (number size tag a count : ℕ) → a ≡ address_of number → count ≡ granules_touched a size
      → all_tagged (tags_of s) (granule_of a) count tag ≡ true → tag ≡ pointer_tag number → check (space_of c v s h) number size ≡ None
  checked-stacks number size tag a count place touched all same =
      check-tagged (space_of c v s h) (tags_of c ∷ tags_of v ∷ []) (tags_of s) (tags_of h ∷ []) number size tag refl
      (omega (arith, c-v, v-s), (omega (arith, v-s), tt))
      (ap (λ (b : ℕ). all_tagged (tags_of s) (granule_of b) (granules_touched b size) tag) (sym place) ∙ ap (λ (k : ℕ). all_tagged (tags_of s) (granule_of a) k tag) (sym touched) ∙ all) same
