-- An access that passes the tag rule passes it byte by byte.
use Rattle.std.proofs.Common.{◌≡◌, ℕ, ◌+◌, ◌-◌, ◌*◌, ◌^◌, ◌<◌, ◌≤◌, Bool, true, false, Option, Some, None, refl, sym, ◌∙◌, ap, subst, min, arith}
use Rattle.std.specs.Prelude.{◌==◌, ◌&&◌, ◌||◌, nat_le}
use Rattle.std.proofs.lemmas.Bool.Decides.{nat_tests}
use Rattle.hw_base.specs.AddressMap.{granule_of}
use Rattle.hw_base.specs.TaggedAddress.{address_of, pointer_tag}
use Rattle.hw_shadow.specs.TagRule.{end_in_granule, granule_agrees, is_short_size}
use Rattle.hw_shadow.proofs.TagRuleLemmas.{refusing_of-none, passes-refusing_of}
use Rattle.tbi_memory.specs.AddressSpace.{AddressSpace, check, last_byte}
use Rattle.tbi_memory.specs.MappedBytes.{byte_at}
use Rattle.ir_lib.proofs.LengthLemmas.{next-address_of}

-- an access that ends before another agrees where that one does
agrees-before : (p s e f l : Bool) → (e ≡ true → f ≡ true) → (p || (s && e && l)) ≡ true → (p || (s && f && l)) ≡ true
agrees-before true s e f l less h = refl
agrees-before false true true f l less h = let g : f ≡ true = less refl in ap (λ (t : Bool). t && l) g ∙ h
agrees-before false true false f l less h = absurd (cc)
agrees-before false false e f l less h = h

granule_agrees-before : (pointer end before : ℕ) (memory : Option ℕ) (last : ℕ) → before ≤ end → granule_agrees pointer end memory last ≡ true → granule_agrees pointer before memory last ≡ true
granule_agrees-before pointer end before None last less h = h
granule_agrees-before pointer end before (Some memory) last less h =
    agrees-before (pointer == memory) (is_short_size memory) (nat_le end memory) (nat_le before memory) (pointer == last) (λ (e : nat_le end memory ≡ true). grind (arith, nat_tests)) h

pub check-byte : (space : AddressSpace) (v n j : ℕ) → v < 2 ^ 64 → address_of v + n ≤ 2 ^ 56 → j < n → check space v n ≡ None → check space (v + j) 1 ≡ None
check-byte space v n j fits inside less none =
    let passes = refusing_of-none (byte_at space.shadow) (last_byte space.bytes) v n none in
    let place : address_of (v + j) ≡ address_of v + j = next-address_of v j fits (omega arith) in
    let tag : pointer_tag (v + j) ≡ pointer_tag v = same_tag v j (omega arith) in
    passes-refusing_of (byte_at space.shadow) (last_byte space.bytes) (v + j) 1
    (λ (address : ℕ) (low : address_of (v + j) ≤ address) (high : address < address_of (v + j) + 1).
    subst (λ (t : ℕ). granule_agrees t (end_in_granule (address_of (v + j)) 1 (granule_of address)) (byte_at space.shadow (granule_of address)) (last_byte space.bytes (granule_of address)) ≡ true) (sym tag)
    (granule_agrees-before (pointer_tag v) (end_in_granule (address_of v) n (granule_of address)) (end_in_granule (address_of (v + j)) 1 (granule_of address))
    (byte_at space.shadow (granule_of address)) (last_byte space.bytes (granule_of address))
    (earlier (address_of v) n (address_of (v + j)) (16 * granule_of address) (omega (arith, place, less)))
    (passes address (omega (arith, place, low)) (omega (arith, place, high, less)))))
  where
    same_tag : (v j : ℕ) → address_of v + j < 2 ^ 56 → pointer_tag (v + j) ≡ pointer_tag v
    same_tag v j inside = omega arith

    earlier : (a n b g : ℕ) → b + 1 ≤ a + n → min 16 (b + 1 - g) ≤ min 16 (a + n - g)
    earlier a n b g less = omega arith
