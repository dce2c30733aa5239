-- Registers after a result: those of the machine have its image.
use Rattle.std.proofs.Common.{◌≡◌, ◌≢◌, ◌⊎◌, ℕ, ◌+◌, ◌*◌, ◌<◌, ◌≤◌, List, length, slice_get, slice_set, slice_index, Option, Some, None, option_map, sym, ◌∙◌, ap, subst, inl, inr, arith}
use Rattle.std.proofs.lemmas.Bool.{cases_eq}
use Rattle.std.proofs.lemmas.List.{get_or-set_same, get_or-set_other, length-set}
use Rattle.tbi_memory.proofs.ListLemmas.{slice_get-set_at, slice_get-set_other}
use Rattle.ir_meaning.specs.Values.{Value, Integer, Address, IntegerAndBit}
use Rattle.tag_story.specs.Story.{StoryBirth, value_image}
use Rattle.tag_story.proofs.StoryLists.{get-below}
use Rattle.simulation.specs.Parts.{IsKnownValue, HasBit, HasRegisters}

-- a value that isn't a pair has no bit
abbrev pub IsSingle : Value → Type 0
IsSingle (Integer n) = Unit {0}
IsSingle (Address base off) = Unit {0}
IsSingle (IntegerAndBit n bit) = ⊥

pub single-bit : (numbers : List ℕ) (r : ℕ) (v : Value) → IsSingle v → HasBit numbers r v
single-bit numbers r (Integer n) s = tt
single-bit numbers r (Address base off) s = tt
single-bit numbers r (IntegerAndBit n bit) s = absurd s

bit-set : (numbers : List ℕ) (r at n : ℕ) (v : Value) → 2 * r + 1 ≢ at → HasBit numbers r v → HasBit (slice_set numbers at n) r v
bit-set numbers r at n (Integer m) other h = tt
bit-set numbers r at n (Address base off) other h = tt
bit-set numbers r at n (IntegerAndBit m bit) other h = get_or-set_other numbers at (2 * r + 1) n 0 other ∙ h

-- a register that was just set, or another one
set-cases : (values : List (Option Value)) (r k : ℕ) (v w : Value) → slice_get (slice_set values r (Some v)) k ≡ Some (Some w) → ((k ≡ r) × (w ≡ v) × (r < length values)) ⊎ ((k ≢ r) × (slice_get values k ≡ Some (Some w)))
set-cases values r k v w e =
    elim (cases_eq k r) [
      | inl same ↦
          let here : slice_get (slice_set values r (Some v)) r ≡ Some (Some w) = subst (λ i. slice_get (slice_set values r (Some v)) i ≡ Some (Some w)) same e in
          let below : r < length (slice_set values r (Some v)) = get-below _ r _ here in
          let many : length (slice_set values r (Some v)) ≡ length values = length-set values r (Some v) in
          inl (same, set-value (slice_get values r) (sym (slice_get-set_at values r (Some v)) ∙ here), omega arith)
      | inr other ↦ inr (other, sym (slice_get-set_other values r k (Some v) other) ∙ e)
    ]
  where
    set-value : (old : Option (Option Value)) → option_map (λ _old. Some v) old ≡ Some (Some w) → w ≡ v
    set-value None h = absurd cc
    set-value (Some x) h = cc

-- a single value in a register
pub register-set : (births : List StoryBirth) (values : List (Option Value)) (numbers : List ℕ) (r : ℕ) (v : Value) (n : ℕ) → HasRegisters births values numbers → IsKnownValue births v → IsSingle v → n ≡ value_image births v → HasRegisters births (slice_set values r (Some v)) (slice_set numbers (2 * r) n)
register-set births values numbers r v n has known single image =
    record {
      count = let a = length-set values r (Some v) in let b = length-set numbers (2 * r) n in let c = has.count in omega (arith, a, b, c);
      known = λ k w e. elim (set-cases values r k v w e) [
        | inl same ↦ subst (IsKnownValue births) (sym same.1) known
        | inr other ↦ has.known k w other.1
      ];
      number = λ k w e. elim (set-cases values r k v w e) [
        | inl same ↦
            let below = same.2 in
            let count = has.count in
            let room : 2 * r < length numbers = omega (arith, below, count) in
            ap (λ i. slice_index (slice_set numbers (2 * r) n) (2 * i)) same.0
            ∙ get_or-set_same numbers (2 * r) n 0 room
            ∙ image
            ∙ ap (value_image births) (sym same.1)
        | inr other ↦
            let apart = other.0 in
            get_or-set_other numbers (2 * r) (2 * k) n 0 (λ h. apart (omega (arith, h))) ∙ has.number k w other.1
      ];
      bit = λ k w e. elim (set-cases values r k v w e) [
        | inl same ↦ single-bit (slice_set numbers (2 * r) n) k w (subst IsSingle (sym same.1) single)
        | inr other ↦ bit-set numbers k (2 * r) n w (λ h. omega arith) (has.bit k w other.1)
      ];
    }

-- a pair in two registers
pub pair-set : (births : List StoryBirth) (values : List (Option Value)) (numbers : List ℕ) (r n bit : ℕ) → HasRegisters births values numbers → HasRegisters births (slice_set values r (Some (IntegerAndBit n bit))) (slice_set (slice_set numbers (2 * r) n) (2 * r + 1) bit)
pair-set births values numbers r n bit has =
    record {
      count =
          let a = length-set values r (Some (IntegerAndBit n bit)) in
          let b = length-set numbers (2 * r) n in
          let d = length-set (slice_set numbers (2 * r) n) (2 * r + 1) bit in
          let c = has.count in
          omega (arith, a, b, c, d);
      known = λ k w e. elim (set-cases values r k (IntegerAndBit n bit) w e) [
        | inl same ↦ subst (IsKnownValue births) (sym same.1) tt
        | inr other ↦ has.known k w other.1
      ];
      number = λ k w e. elim (set-cases values r k (IntegerAndBit n bit) w e) [
        | inl same ↦
            let below = same.2 in
            let count = has.count in
            let room : 2 * r < length numbers = omega (arith, below, count) in
            ap (λ i. slice_index (slice_set (slice_set numbers (2 * r) n) (2 * r + 1) bit) (2 * i)) same.0
            ∙ get_or-set_other (slice_set numbers (2 * r) n) (2 * r + 1) (2 * r) bit 0 (λ h. omega arith)
            ∙ get_or-set_same numbers (2 * r) n 0 room
            ∙ ap (value_image births) (sym same.1)
        | inr other ↦
            let apart = other.0 in
            get_or-set_other (slice_set numbers (2 * r) n) (2 * r + 1) (2 * k) bit 0 (λ h. omega arith)
            ∙ get_or-set_other numbers (2 * r) (2 * k) n 0 (λ h. apart (omega (arith, h)))
            ∙ has.number k w other.1
      ];
      bit = λ k w e. elim (set-cases values r k (IntegerAndBit n bit) w e) [
        | inl same ↦
            let below = same.2 in
            let count = has.count in
            let many = length-set numbers (2 * r) n in
            let room : 2 * r + 1 < length (slice_set numbers (2 * r) n) = omega (arith, below, count, many) in
            let here : slice_index (slice_set (slice_set numbers (2 * r) n) (2 * r + 1) bit) (2 * k + 1) ≡ bit = ap (λ i. slice_index (slice_set (slice_set numbers (2 * r) n) (2 * r + 1) bit) (2 * i + 1)) same.0 ∙ get_or-set_same (slice_set numbers (2 * r) n) (2 * r + 1) bit 0 room in
            subst (HasBit (slice_set (slice_set numbers (2 * r) n) (2 * r + 1) bit) k) (sym same.1) here
        | inr other ↦
            let apart = other.0 in
            bit-set (slice_set numbers (2 * r) n) k (2 * r + 1) bit w (λ h. apart (omega (arith, h)))
            (bit-set numbers k (2 * r) n w (λ h. omega arith) (has.bit k w other.1))
      ];
    }

-- a write to a register after the last changes nothing
pub past-set : (births : List StoryBirth) (values : List (Option Value)) (numbers : List ℕ) (at n : ℕ) → 2 * length values ≤ at → HasRegisters births values numbers → HasRegisters births values (slice_set numbers at n)
past-set births values numbers at n past has =
    record {
      count = length-set numbers at n ∙ has.count;
      known = has.known;
      number = λ k w e. let below = get-below values k (Some w) e in get_or-set_other numbers at (2 * k) n 0 (λ h. omega (arith, h, below, past)) ∙ has.number k w e;
      bit = λ k w e. let below = get-below values k (Some w) e in bit-set numbers k at n w (λ h. omega (arith, h, below, past)) (has.bit k w e);
    }
