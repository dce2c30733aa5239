-- What is mapped at the start, and what its bytes are.
use Rattle.std.proofs.Common.{◌≡◌, ℕ, zero, suc, ◌+◌, ◌-◌, ◌*◌, ◌%◌, ◌≤◌, Bool, true, false, ◌&&◌, List, [], ◌∷◌, length, Option, None, refl, ◌∙◌, ap, arith, replicate}
use Rattle.std.specs.Prelude.{slice_get, nat_le, nat_lt, ◌||◌, if◌then◌else◌}
use Rattle.std.specs.List.{list_any}
use Rattle.std.specs.Option.{option_or}
use Rattle.std.proofs.lemmas.Bool.Decides.{nat_tests}
use Rattle.std.proofs.lemmas.List.{length-replicate}
use Rattle.hw_base.specs.AddressMap.{AddressMap, granule_of}
use Rattle.hw_base.specs.declared.numbers.TheConstants.{GLOBALS_AT, STACKS_AT, STACK_LENGTH, MOST_TASKS, MOST_HEAP, HEAP_AT}
use Rattle.tbi_memory.specs.declared.layout.Layout.{Layout}
use Rattle.tbi_memory.specs.declared.mapped_part.MappedPart.{MappedPart}
use Rattle.tbi_memory.specs.MappedBytes.{byte_in, byte_at}
use Rattle.tbi_memory.specs.MemoryParts.{HasWholeGranules, AreInOrder, space_of}
use Rattle.tbi_memory.specs.AddressSpace.{Mapped, all_zeros, is_in, space_at_start, zero_if, zeros}

get-replicate : (n i : ℕ) → slice_get (replicate {A = ℕ} n 0) i ≡ zero_if (nat_lt i n)
get-replicate zero i = let no : false ≡ nat_lt i 0 = grind (arith, nat_tests) in ap zero_if no
get-replicate (suc n) zero = let yes : true ≡ nat_lt 0 (suc n) = grind (arith, nat_tests) in ap zero_if yes
get-replicate (suc n) (suc i) = let same : nat_lt i n ≡ nat_lt (suc i) (suc n) = grind (arith, nat_tests) in get-replicate n i ∙ ap zero_if same

-- the byte of a range of zeros, by whether the address is at its first one or after it
zero_in : (at count a : ℕ) (t : Bool) → nat_le at a ≡ t → (if t then slice_get (replicate {A = ℕ} count 0) (a - at) else None) ≡ zero_if (t && nat_lt a (at + count))
zero_in at count a false e = refl
zero_in at count a true e =
    let same : nat_lt (a - at) count ≡ nat_lt a (at + count) = grind (arith, nat_tests) in
    get-replicate count (a - at) ∙ ap zero_if same

byte_in-zeros : (mapped : Mapped) (a : ℕ) → byte_in (zeros mapped.at mapped.count) a ≡ zero_if (is_in a mapped)
unfolding zeros
byte_in-zeros mapped a = zero_in mapped.at mapped.count a (nat_le mapped.at a) refl

or-test : (s t : Bool) → option_or (zero_if s) (zero_if t) ≡ zero_if (s || t)
or-test true t = refl
or-test false true = refl
or-test false false = refl

pub byte_at-zeros : (mapped : List Mapped) (a : ℕ) → byte_at (all_zeros mapped) a ≡ zero_if (list_any (is_in a) mapped)
unfolding byte_at
byte_at-zeros [] a = refl
byte_at-zeros (first ∷ mapped) a =
    ap (λ (o : Option ℕ). option_or o (byte_at (all_zeros mapped) a)) (byte_in-zeros first a)
    ∙ (ap (option_or (zero_if (is_in a first))) (byte_at-zeros mapped a)
    ∙ or-test (is_in a first) (list_any (is_in a) mapped))

-- a part of zeros
abbrev pub zero_part : (at count : ℕ) → MappedPart
zero_part at count = record { at = at; bytes = replicate count 0; tags = replicate (granule_of count) 0 }

pub zero_part-whole : (at count : ℕ) (part : MappedPart) → at % 16 ≡ 0 → count % 16 ≡ 0 → part ≡ zero_part at count → HasWholeGranules part
zero_part-whole at count part place whole e =
    rw e record {
      place = place;
      count = omega (arith, length-replicate {A = ℕ} count 0, length-replicate {A = ℕ} (granule_of count) 0, whole);
    }

zeros_everywhere : (places : AddressMap) (layout : Layout)
    → space_of (zero_part places.globals_at layout.constants) (zero_part layout.variables_at layout.variables)
    (zero_part places.stacks_at (places.most_tasks * places.stack_length)) (zero_part places.heap_at layout.heap)
    ≡ space_at_start places layout
unfolding zeros
zeros_everywhere places layout =
    ap (λ (n : ℕ). record (space_at_start places layout) { constants_end = places.globals_at + n }) (length-replicate {A = ℕ} layout.constants 0)

-- four parts of zeros are the space at the start
pub space_of-zeros : (places : AddressMap) (layout : Layout) (count : ℕ) (c v s h : MappedPart)
    → c ≡ zero_part places.globals_at layout.constants → v ≡ zero_part layout.variables_at layout.variables
    → s ≡ zero_part places.stacks_at count → h ≡ zero_part places.heap_at layout.heap → count ≡ places.most_tasks * places.stack_length
    → space_of c v s h ≡ space_at_start places layout
space_of-zeros places layout count c v s h ec ev es eh stacks =
    ap (λ (p : MappedPart). space_of p v s h) ec
    ∙ ap (λ (p : MappedPart). space_of (zero_part places.globals_at layout.constants) p s h) ev
    ∙ ap (λ (p : MappedPart). space_of (zero_part places.globals_at layout.constants) (zero_part layout.variables_at layout.variables) p h) (es ∙ ap (zero_part places.stacks_at) stacks)
    ∙ ap (λ (p : MappedPart). space_of (zero_part places.globals_at layout.constants) (zero_part layout.variables_at layout.variables) (zero_part places.stacks_at (places.most_tasks * places.stack_length)) p) eh
    ∙ zeros_everywhere places layout

pub zero_parts-in_order : (layout : Layout) (count : ℕ) (c v s h : MappedPart)
    → c ≡ zero_part GLOBALS_AT layout.constants → v ≡ zero_part layout.variables_at layout.variables
    → s ≡ zero_part STACKS_AT count → h ≡ zero_part HEAP_AT layout.heap → count ≡ MOST_TASKS * STACK_LENGTH
    → layout.constants % 16 ≡ 0 → layout.variables_at % 16 ≡ 0 → layout.variables % 16 ≡ 0 → layout.heap % 16 ≡ 0
    → GLOBALS_AT + layout.constants ≤ layout.variables_at → layout.variables_at + layout.variables ≤ STACKS_AT → layout.heap ≤ MOST_HEAP
    → AreInOrder c v s h
zero_parts-in_order layout count c v s h ec ev es eh stacks c16 va16 v16 h16 c-v v-s most =
    let lc : length c.bytes ≡ layout.constants = ap (λ (p : MappedPart). length p.bytes) ec ∙ length-replicate {A = ℕ} layout.constants 0 in
    let lv : length v.bytes ≡ layout.variables = ap (λ (p : MappedPart). length p.bytes) ev ∙ length-replicate {A = ℕ} layout.variables 0 in
    let ls : length s.bytes ≡ count = ap (λ (p : MappedPart). length p.bytes) es ∙ length-replicate {A = ℕ} count 0 in
    let lh : length h.bytes ≡ layout.heap = ap (λ (p : MappedPart). length p.bytes) eh ∙ length-replicate {A = ℕ} layout.heap 0 in
    let ac : c.at ≡ GLOBALS_AT = ap (λ (p : MappedPart). p.at) ec in
    let av : v.at ≡ layout.variables_at = ap (λ (p : MappedPart). p.at) ev in
    let at-s : s.at ≡ STACKS_AT = ap (λ (p : MappedPart). p.at) es in
    let ah : h.at ≡ HEAP_AT = ap (λ (p : MappedPart). p.at) eh in
    record {
      of_constants = zero_part-whole GLOBALS_AT layout.constants c refl c16 ec;
      of_variables = zero_part-whole layout.variables_at layout.variables v va16 v16 ev;
      of_stacks = zero_part-whole STACKS_AT count s refl (omega (arith, stacks)) es;
      of_heap = zero_part-whole HEAP_AT layout.heap h refl h16 eh;
      constants_end = omega (arith, lc, ac, av, c-v);
      variables_end = omega (arith, lv, av, at-s, v-s);
      stacks_end = omega (arith, ls, at-s, ah, stacks);
      heap_end = omega (arith, lh, ah, most);
    }
