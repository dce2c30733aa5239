-- A look at some mapped bytes: what a part has from an address on is read there, and what no part has isn't mapped.
use Rattle.std.proofs.Common.{◌≡◌, ℕ, ◌+◌, ◌-◌, ◌≤◌, true, false, List, length, None, refl, sym, ◌∙◌, ap, inl, inr, arith}
use Rattle.std.specs.Prelude.{nat_le, Ok}
use Rattle.std.proofs.lemmas.Bool.{cases_lt}
use Rattle.std.proofs.lemmas.Bool.Decides.{nat_tests}
use Rattle.hw_base.specs.TaggedAddress.{address_of}
use Rattle.hw_region.specs.RegionBytes.{bytes_from}
use Rattle.tbi_memory.specs.declared.mapped_part.MappedPart.{MappedPart}
use Rattle.tbi_memory.specs.AddressSpace.{read}
use Rattle.tbi_memory.specs.MappedBytes.{Range, byte_in, byte_at, read_bytes}
use Rattle.tbi_memory.specs.MemoryParts.{bytes_of, space_of, AreInOrder, lie_in}
use Rattle.tbi_memory.proofs.RangeLemmas.{byte_in-past, byte_in-before, lie_in-true}
use Rattle.tbi_memory.proofs.PartLemmas.{read-heap, read-stacks, read-variables, read-constants}

lie_in-by : (r : Range) (a n : ℕ) → r.at ≤ a → a + n ≤ r.at + length r.bytes → lie_in r a n ≡ true
lie_in-by r a n low high =
    let first : nat_le r.at a ≡ true = grind (arith, nat_tests) in
    let second : nat_le (a + n) (r.at + length r.bytes) ≡ true = grind (arith, nat_tests) in
    cc

lie_in-out : (r : Range) (a : ℕ) → lie_in r a 1 ≡ false → byte_in r a ≡ None
lie_in-out r a e =
    elim (cases_lt a r.at) [
      | inl before ↦ byte_in-before r a before
      | inr low ↦ elim (cases_lt a (r.at + length r.bytes)) [
        | inl high ↦ absurd (let inside : lie_in r a 1 ≡ true = lie_in-by r a 1 low (omega arith) in cc)
        | inr past ↦ byte_in-past r a past
      ]
    ]

pub unmapped-outside : (c v s h : MappedPart) (a : ℕ) → lie_in (bytes_of h) a 1 ≡ false → lie_in (bytes_of s) a 1 ≡ false → lie_in (bytes_of v) a 1 ≡ false → lie_in (bytes_of c) a 1 ≡ false
    → byte_at (space_of c v s h).bytes a ≡ None
unfolding byte_at
unmapped-outside c v s h a eh es ev ec =
    let nh = lie_in-out (bytes_of h) a eh in
    let ns = lie_in-out (bytes_of s) a es in
    let nv = lie_in-out (bytes_of v) a ev in
    let nc = lie_in-out (bytes_of c) a ec in
    simp (nc, nv, ns, nh) refl

-- a run of a part from an address on
inside : (r : Range) (a : ℕ) (run : List ℕ) → lie_in r a 1 ≡ true → a - r.at + length run ≤ length r.bytes → lie_in r a (length run) ≡ true
inside r a run e fits = let (low, high) = lie_in-true r a 1 e in lie_in-by r a (length run) low (omega (arith, low, fits))

module _ (c v s h : MappedPart) (order : AreInOrder c v s h) where
  pub run-heap : (number a : ℕ) (run : List ℕ) → a ≡ address_of number → lie_in (bytes_of h) a 1 ≡ true → a - h.at + length run ≤ length h.bytes → bytes_from h.bytes (a - h.at) (length run) ≡ run
      → read (space_of c v s h) number (length run) ≡ Ok run
  run-heap number a run place e fits same =
      ap (λ (b : ℕ). read_bytes (space_of c v s h).bytes b (length run)) (sym place)
      ∙ read-heap c v s h order a (length run) (inside (bytes_of h) a run e fits)
      ∙ ap Ok same

  pub run-stacks : (number a : ℕ) (run : List ℕ) → a ≡ address_of number → lie_in (bytes_of s) a 1 ≡ true → a - s.at + length run ≤ length s.bytes → bytes_from s.bytes (a - s.at) (length run) ≡ run
      → read (space_of c v s h) number (length run) ≡ Ok run
  run-stacks number a run place e fits same =
      ap (λ (b : ℕ). read_bytes (space_of c v s h).bytes b (length run)) (sym place)
      ∙ read-stacks c v s h order a (length run) (inside (bytes_of s) a run e fits)
      ∙ ap Ok same

  pub run-variables : (number a : ℕ) (run : List ℕ) → a ≡ address_of number → lie_in (bytes_of v) a 1 ≡ true → a - v.at + length run ≤ length v.bytes → bytes_from v.bytes (a - v.at) (length run) ≡ run
      → read (space_of c v s h) number (length run) ≡ Ok run
  run-variables number a run place e fits same =
      ap (λ (b : ℕ). read_bytes (space_of c v s h).bytes b (length run)) (sym place)
      ∙ read-variables c v s h order a (length run) (inside (bytes_of v) a run e fits)
      ∙ ap Ok same

  pub run-constants : (number a : ℕ) (run : List ℕ) → a ≡ address_of number → lie_in (bytes_of c) a 1 ≡ true → a - c.at + length run ≤ length c.bytes → bytes_from c.bytes (a - c.at) (length run) ≡ run
      → read (space_of c v s h) number (length run) ≡ Ok run
  run-constants number a run place e fits same =
      ap (λ (b : ℕ). read_bytes (space_of c v s h).bytes b (length run)) (sym place)
      ∙ read-constants c v s h order a (length run) (inside (bytes_of c) a run e fits)
      ∙ ap Ok same
