-- The bytes of objects after a write: the new ones are at their place, and all others are as they were.
use Rattle.std.proofs.Common.{◌≡◌, ◌≢◌, ℕ, suc, ◌+◌, ◌<◌, ◌≤◌, List, [], ◌∷◌, length, slice_get, slice_set, Option, Some, None, option_map, ◌⊎◌, inl, inr, refl, sym, ◌∙◌, ap, arith}
use Rattle.std.proofs.lemmas.Bool.{cases_eq}
use Rattle.hw_base.specs.declared.pointers.Base.TheVariants.{Object}
use Rattle.hw_base.specs.declared.pointers.Obj.{Obj}
use Rattle.ir_meaning.specs.Births.{Birth, SourceObject, object_in, get_object, changed_at, written_from, written_object, written_birth, put_bytes}
use Rattle.ir_meaning.specs.Values.{SourceByte}
use Rattle.tag_story.proofs.StoryLists.{changed-cases}
use Rattle.tbi_memory.proofs.ListLemmas.{slice_get-set_at, slice_get-set_other}

-- ---- bytes

-- byte i after a write is one of the new bytes
pub record IsNewByte (off : ℕ) (new : List SourceByte) (i : ℕ) (byte : SourceByte) : Type 0 where
  pub k : ℕ
  pub at : i ≡ off + k
  pub there : slice_get new k ≡ Some byte

-- or it lies outside them, and was there before
pub record IsOldByte (bytes : List SourceByte) (off count i : ℕ) (byte : SourceByte) : Type 0 where
  pub outside : (i < off) ⊎ (off + count ≤ i)
  pub there : slice_get bytes i ≡ Some byte

set-byte : (old : Option SourceByte) (new byte : SourceByte) → option_map (λ _old. new) old ≡ Some byte → new ≡ byte
set-byte None new byte h = absurd cc
set-byte (Some other) new byte h = cc

pub written-cases : (bytes : List SourceByte) (off : ℕ) (new : List SourceByte) (i : ℕ) (byte : SourceByte) → slice_get (written_from bytes off new) i ≡ Some byte → IsNewByte off new i byte ⊎ IsOldByte bytes off (length new) i byte
unfolding written_from
written-cases bytes off [] i byte h = inr (record { outside = by_order (Rattle.std.proofs.lemmas.Bool.cases_lt i off); there = h })
  where
    by_order : (i < off) ⊎ (off ≤ i) → (i < off) ⊎ (off + 0 ≤ i)
    by_order (inl below) = inl below
    by_order (inr above) = inr (omega (arith, above))
written-cases bytes off (first ∷ new) i byte h =
    elim (written-cases (slice_set bytes off first) (off + 1) new i byte h) [
      | inl one ↦ let at = one.at in inl (record { k = suc one.k; at = omega (arith, at); there = one.there })
      | inr old ↦ by_place old (cases_eq i off)
    ]
  where
    by_place : IsOldByte (slice_set bytes off first) (off + 1) (length new) i byte → (i ≡ off) ⊎ (i ≢ off) → IsNewByte off (first ∷ new) i byte ⊎ IsOldByte bytes off (length (first ∷ new)) i byte
    by_place old (inl same) =
        let here : option_map (λ _old. first) (slice_get bytes off) ≡ Some byte = sym (slice_get-set_at bytes off first) ∙ ap (slice_get (slice_set bytes off first)) (sym same) ∙ old.there in
        let is = set-byte (slice_get bytes off) first byte here in
        inl (record { k = 0; at = omega (arith, same); there = ap (λ b. Some b) is })
    by_place old (inr other) =
        inr (record {
          outside = elim old.outside [
            | inl below ↦ inl (omega (arith, below, other))
            | inr above ↦ inr (omega (arith, above))
          ];
          there = sym (slice_get-set_other bytes off i first other) ∙ old.there;
        })

-- ---- objects

-- an object after a write is another one as it was, or the one that was written
pub record IsPut (births : List Birth) (o : Obj) (off : ℕ) (bytes : List SourceByte) (p : Obj) (after : SourceObject) : Type 0 where
  pub x : SourceObject
  pub there : get_object births p ≡ Some x
  pub kind : ((after ≡ x) × ((p.birth ≡ o.birth) × (p.index ≡ o.index) → ⊥)) ⊎ ((after ≡ written_object off bytes x) × (p.birth ≡ o.birth) × (p.index ≡ o.index))

pub put-cases : (births : List Birth) (o : Obj) (off : ℕ) (bytes : List SourceByte) (p : Obj) (after : SourceObject) → get_object (put_bytes births (Object o) off bytes) p ≡ Some after → IsPut births o off bytes p after
put-cases births o off bytes p after h = by_birth (slice_get (changed_at (written_birth o.index off bytes) births o.birth) p.birth) refl h
  where
    by_object : (birth : Birth) → slice_get births p.birth ≡ Some birth → p.birth ≡ o.birth → (x : SourceObject) × (slice_get birth.objects p.index ≡ Some x) × (((after ≡ x) × (p.index ≡ o.index → ⊥)) ⊎ ((after ≡ written_object off bytes x) × (p.index ≡ o.index))) → IsPut births o off bytes p after
    by_object birth there same found =
        record {
          x = found.0;
          there = ap (λ b. object_in b p.index) there ∙ found.1;
          kind = elim found.2 [
            | inl other ↦ let apart = other.1 in inl (other.0, λ both. apart both.1)
            | inr here ↦ inr (here.0, same, here.1)
          ];
        }

    by_kind : (changed birth : Birth) → slice_get births p.birth ≡ Some birth → ((changed ≡ birth) × (p.birth ≡ o.birth → ⊥)) ⊎ ((changed ≡ written_birth o.index off bytes birth) × (p.birth ≡ o.birth)) → slice_get changed.objects p.index ≡ Some after → IsPut births o off bytes p after
    by_kind changed birth there (inl other) found =
        let apart = other.1 in
        record {
          x = after;
          there = ap (λ b. object_in b p.index) there ∙ ap (λ (b : Birth). slice_get b.objects p.index) (sym other.0) ∙ found;
          kind = inl (refl, λ both. apart both.0);
        }
    by_kind changed birth there (inr here) found =
        by_object birth there here.1 (changed-cases (written_object off bytes) birth.objects o.index p.index after (ap (λ (b : Birth). slice_get b.objects p.index) (sym here.0) ∙ found))

    by_birth : (b : Option Birth) → slice_get (changed_at (written_birth o.index off bytes) births o.birth) p.birth ≡ b → object_in b p.index ≡ Some after → IsPut births o off bytes p after
    by_birth None here found = absurd cc
    by_birth (Some changed) here found =
        let (birth, there, kind) = changed-cases (written_birth o.index off bytes) births o.birth p.birth changed here in
        by_kind changed birth there kind found
