-- Two views of tags and last bytes find the same in an access, if they have the same tags, and the same last bytes in the
-- granules whose tag could be the size of a short one.
use Rattle.std.proofs.Common.{◌≡◌, ℕ, zero, suc, ◌+◌, ◌*◌, ◌==◌, ◌&&◌, ◌||◌, Bool, true, false, nat_le, if◌then◌else◌, Option, Some, None, option_map, refl, sym, ◌∙◌, ap}
use Rattle.hw_base.specs.TaggedAddress.{pointer_tag, address_of}
use Rattle.hw_shadow.specs.TagRule.{is_short_size, end_in_granule, mismatch_in, first_mismatch}
use Rattle.hw_shadow.specs.declared.mismatch.Mismatch.{Mismatch}
use Rattle.hw_shadow.specs.declared.mismatch.Mismatch.TheVariants.{Tags}
use Rattle.tag_story.specs.Judging.{refusing_by}
use Rattle.tag_story.specs.declared.judgement.Refusing.{Refusing}
use Rattle.tag_story.specs.declared.judgement.Refusing.TheVariants.{Granule}

-- what refuses an access, as the story says it
abbrev pub shown : Option Mismatch → Option Refusing
shown found = option_map refusing_by found

-- ---- one granule

-- what is found in a granule with this memory tag
abbrev found_by : (number size granule memory last : ℕ) → (agrees : Bool) → Option Mismatch
found_by number size granule memory last agrees =
    if agrees then None else Some (Tags (16 * granule) (pointer_tag number) memory last (end_in_granule (address_of number) size granule))

-- of a granule that can't be a short one the last byte isn't asked for
unasked : (number size granule memory a b : ℕ) (agrees : Bool) → is_short_size memory ≡ false → shown (found_by number size granule memory a agrees) ≡ shown (found_by number size granule memory b agrees)
unasked number size granule memory a b true long = refl
unasked number size granule memory a b false long =
    ap (λ last. Some (Granule (16 * granule) (pointer_tag number) memory last (end_in_granule (address_of number) size granule)))
    (ap (λ bit. if bit then Some a else None) long ∙ sym (ap (λ bit. if bit then Some b else None) long))

-- whether the tags agree, by whether the memory tag can be the size of a short granule
abbrev agrees_by : (short : Bool) → (pointer memory end last : ℕ) → Bool
agrees_by short pointer memory end last = (pointer == memory) || (short && nat_le end memory && (pointer == last))

long-same : (number size granule memory a b : ℕ) → is_short_size memory ≡ false → shown (mismatch_in number size granule (Some memory) a) ≡ shown (mismatch_in number size granule (Some memory) b)
long-same number size granule memory a b long =
    ap (λ short. shown (found_by number size granule memory a (agrees_by short (pointer_tag number) memory (end_in_granule (address_of number) size granule) a))) long
    ∙ unasked number size granule memory a b (agrees_by false (pointer_tag number) memory (end_in_granule (address_of number) size granule) b) long
    ∙ sym (ap (λ short. shown (found_by number size granule memory b (agrees_by short (pointer_tag number) memory (end_in_granule (address_of number) size granule) b))) long)

pub mismatch-same : (number size granule : ℕ) (tag : Option ℕ) (a b : ℕ) → ((memory : ℕ) → tag ≡ Some memory → is_short_size memory ≡ true → a ≡ b) → shown (mismatch_in number size granule tag a) ≡ shown (mismatch_in number size granule tag b)
mismatch-same number size granule None a b same = refl
mismatch-same number size granule (Some memory) a b same = by_size (is_short_size memory) refl
  where
    by_size : (short : Bool) → is_short_size memory ≡ short → shown (mismatch_in number size granule (Some memory) a) ≡ shown (mismatch_in number size granule (Some memory) b)
    by_size true short = ap (λ last. shown (mismatch_in number size granule (Some memory) last)) (same memory refl short)
    by_size false long = long-same number size granule memory a b long

-- ---- all touched granules

first-found : Option Mismatch → Option Mismatch → Option Mismatch
first-found now later = elim now [ None ↦ later | Some found ↦ Some found ]

found-same : (now later here rest : Option Mismatch) → shown now ≡ shown here → shown later ≡ shown rest → shown (first-found now later) ≡ shown (first-found here rest)
unfolding first-found
found-same None later None rest same after = after
found-same None later (Some found) rest same after = absurd cc
found-same (Some found) later None rest same after = absurd cc
found-same (Some found) later (Some other) rest same after = same

pub first-same : (tag seen : ℕ → Option ℕ) (last byte : ℕ → ℕ) → ((granule : ℕ) → tag granule ≡ seen granule) → ((granule memory : ℕ) → seen granule ≡ Some memory → is_short_size memory ≡ true → last granule ≡ byte granule)
    → (number size count granule : ℕ) → shown (first_mismatch tag last number size count granule) ≡ shown (first_mismatch seen byte number size count granule)
unfolding first_mismatch first-found
first-same tag seen last byte tags bytes number size zero granule = refl
first-same tag seen last byte tags bytes number size (suc count) granule =
    found-same (mismatch_in number size granule (tag granule) (last granule)) (first_mismatch tag last number size count (granule + 1)) (mismatch_in number size granule (seen granule) (byte granule)) (first_mismatch seen byte number size count (granule + 1))
    (ap (λ t. shown (mismatch_in number size granule t (last granule))) (tags granule)
    ∙ mismatch-same number size granule (seen granule) (last granule) (byte granule) (λ memory is short. bytes granule memory is short))
    (first-same tag seen last byte tags bytes number size count (granule + 1))
