-- Questions that come to one block.
use Rattle.std.proofs.Common.{◌≡◌, ◌≢◌, ℕ, ◌+◌, ◌-◌, ◌^◌, ◌<◌, ◌≤◌, ◌⊎◌, inl, inr, List, [], ◌∷◌, ◌++◌, length, get_or, zero, suc, refl, sym, ap, subst, ◌∙◌, arith}
use Rattle.std.proofs.Math.ListN.{set, length-set}
use Rattle.std.proofs.lemmas.List.{get_or-set_same, get_or-set_other, length-append}
use Rattle.std.proofs.lemmas.List.Sums.{sum_by-set}
use Rattle.std.proofs.lemmas.List.Elements.{Contains-append_left, Contains-append_right, All-append}
use Rattle.std.proofs.lemmas.Nat.{le_or_l}
use Rattle.std.proofs.lemmas.Bool.{cases_eq}
use Rattle.std.specs.List.{All, Contains}
use Rattle.std.specs.Int.RustNames.{bit_or}
use Rattle.ir_check_flow.specs.Spreading.{HasBit, IsReached, room_left}
use Rattle.ir_check_flow.proofs.QuestionBits.{joined_left, joined_right, of_joined}

-- the questions at a block after some came to this one
at_it : (reach : List ℕ) (to v : ℕ) → to < length reach → get_or (set reach to v) to 0 ≡ v
at_it reach to v h = get_or-set_same reach to v 0 h

elsewhere : (reach : List ℕ) (to v block : ℕ) → block ≢ to → get_or (set reach to v) block 0 ≡ get_or reach block 0
elsewhere reach to v block h = get_or-set_other reach to block v 0 h

with_bit : (a b q : ℕ) → a ≡ b → HasBit a q → HasBit b q
with_bit a b q e h = subst (λ (n : ℕ). HasBit n q) e h

-- the sets after these questions came to the block
abbrev pub after : (to bits : ℕ) → List ℕ → List ℕ
after to bits reach = set reach to (bit_or (get_or reach to 0) bits)

grows_at : (to bits : ℕ) (reach : List ℕ) → to < length reach → (block q : ℕ) → (block ≡ to) ⊎ (block ≢ to)
    → HasBit (get_or reach block 0) q → HasBit (get_or (after to bits reach) block 0) q
grows_at to bits reach there block q (inl e) h =
    let old : HasBit (get_or reach to 0) q = subst (λ (b : ℕ). HasBit (get_or reach b 0) q) e h in
    let new : HasBit (get_or (after to bits reach) to 0) q =
    with_bit (bit_or (get_or reach to 0) bits) (get_or (after to bits reach) to 0) q (sym (at_it reach to (bit_or (get_or reach to 0) bits) there))
    (joined_left (get_or reach to 0) bits q old) in
    subst (λ (b : ℕ). HasBit (get_or (after to bits reach) b 0) q) (sym e) new
grows_at to bits reach there block q (inr n) h =
    with_bit (get_or reach block 0) (get_or (after to bits reach) block 0) q (sym (elsewhere reach to (bit_or (get_or reach to 0) bits) block n)) h

from_joined : (to block bits : ℕ) (reach : List ℕ) (q : ℕ) → block ≡ to → HasBit (get_or reach to 0) q ⊎ HasBit bits q
    → HasBit (get_or reach block 0) q ⊎ ((block ≡ to) × HasBit bits q)
from_joined to block bits reach q e (inl h) = inl (subst (λ (b : ℕ). HasBit (get_or reach b 0) q) (sym e) h)
from_joined to block bits reach q e (inr h) = inr (e, h)

only_at : (to bits : ℕ) (reach : List ℕ) → to < length reach → (block q : ℕ) → (block ≡ to) ⊎ (block ≢ to)
    → HasBit (get_or (after to bits reach) block 0) q → HasBit (get_or reach block 0) q ⊎ ((block ≡ to) × HasBit bits q)
only_at to bits reach there block q (inl e) h =
    let new : HasBit (get_or (after to bits reach) to 0) q = subst (λ (b : ℕ). HasBit (get_or (after to bits reach) b 0) q) e h in
    from_joined to block bits reach q e
    (of_joined (get_or reach to 0) bits q (with_bit (get_or (after to bits reach) to 0) (bit_or (get_or reach to 0) bits) q (at_it reach to (bit_or (get_or reach to 0) bits) there) new))
only_at to bits reach there block q (inr n) h =
    inl (with_bit (get_or (after to bits reach) block 0) (get_or reach block 0) q (elsewhere reach to (bit_or (get_or reach to 0) bits) block n) h)

last_one : (work : List ℕ) (to : ℕ) → Contains (work ++ to ∷ []) to
last_one work to = Contains-append_right work (to ∷ []) to (0, omega arith, refl)

pending_at : (to bits : ℕ) (reach work : List ℕ) → (block : ℕ) → (block ≡ to) ⊎ (block ≢ to)
    → (get_or (after to bits reach) block 0 ≡ get_or reach block 0) ⊎ Contains (work ++ to ∷ []) block
pending_at to bits reach work block (inl e) = inr (subst (λ (b : ℕ). Contains (work ++ to ∷ []) b) (sym e) (last_one work to))
pending_at to bits reach work block (inr n) = inl (elsewhere reach to (bit_or (get_or reach to 0) bits) block n)

only_one : (to count : ℕ) → to < count → All (λ block. block < count) (to ∷ [])
only_one to count h zero d within = h
only_one to count h (suc k) d within = absurd (omega arith)

less_room : (reach : List ℕ) (to v : ℕ) → to < length reach → get_or reach to 0 < v → get_or reach to 0 < 2 ^ 128
    → room_left (set reach to v) + 1 ≤ room_left reach
less_room reach to v there more small =
    let e = sum_by-set (λ (s : ℕ). 2 ^ 128 - s) reach to v 0 there in
    omega arith

-- new questions came to the block, which is work to do now
pub more_reached : (to bits : ℕ) (reach work working : List ℕ) → to < length reach → get_or reach to 0 < 2 ^ 128
    → bit_or (get_or reach to 0) bits ≢ get_or reach to 0 → working ≡ work ++ to ∷ []
    → IsReached to bits reach work (set reach to (bit_or (get_or reach to 0) bits)) working
more_reached to bits reach work working there small new e = record {
  same = length-set reach to (bit_or (get_or reach to 0) bits);
  grows = λ block q h. grows_at to bits reach there block q (cases_eq block to) h;
  comes = λ q h.
      with_bit (bit_or (get_or reach to 0) bits) (get_or (after to bits reach) to 0) q (sym (at_it reach to (bit_or (get_or reach to 0) bits) there))
      (joined_right (get_or reach to 0) bits q h);
  only = λ block q h. only_at to bits reach there block q (cases_eq block to) h;
  kept = λ block h. subst (λ (list : List ℕ). Contains list block) (sym e) (Contains-append_left work (to ∷ []) block h);
  pending = λ block. subst (λ (list : List ℕ). (get_or (after to bits reach) block 0 ≡ get_or reach block 0) ⊎ Contains list block) (sym e) (pending_at to bits reach work block (cases_eq block to));
  inside = λ count h all. subst (λ (list : List ℕ). All (λ block. block < count) list) (sym e) (All-append (λ block. block < count) work (to ∷ []) all (only_one to count h));
  room =
      let above = le_or_l (get_or reach to 0) bits in
      let less = less_room reach to (bit_or (get_or reach to 0) bits) there (omega arith) small in
      let longer : length working ≡ length work + 1 = ap length e ∙ length-append work (to ∷ []) in
      omega arith;
}

-- all that came was there
pub none_reached : (to bits : ℕ) (reach work : List ℕ) → bit_or (get_or reach to 0) bits ≡ get_or reach to 0 → IsReached to bits reach work reach work
none_reached to bits reach work e = record {
  same = refl;
  grows = λ block q h. h;
  comes = λ q h. with_bit (bit_or (get_or reach to 0) bits) (get_or reach to 0) q e (joined_right (get_or reach to 0) bits q h);
  only = λ block q h. inl h;
  kept = λ block h. h;
  pending = λ block. inl refl;
  inside = λ count h all. all;
  room = omega arith;
}
