-- The places of keys, one key on.
use Rattle.std.proofs.Common.{◌≡◌, ℕ, List, Bool, true, false, cond, Option, Some, None, is_some, refl, sym, ap, ◌∙◌}
use Rattle.std.specs.Str.{bytes_eq}
use Rattle.std.specs.Map.{update}
use Rattle.std.proofs.lemmas.Slice.Eq.{bytes_eq-Decides}
use Rattle.std.proofs.lemmas.Bool.Decides.{same_from_decides}
use Rattle.ir_names.specs.Places.{place_or}

bytes_eq-swap : (a b : List ℕ) → bytes_eq a b ≡ bytes_eq b a
bytes_eq-swap a b = let d = bytes_eq-Decides b a in same_from_decides _ (bytes_eq b a) (bytes_eq-Decides a b) ((λ e. sym (d.0 e)), (λ h. d.1 (sym h)))

place_or-none : (o : Option ℕ) → o ≡ place_or o None
place_or-none None = refl
place_or-none (Some x) = refl

place_or-absent : (o other : Option ℕ) → is_some o ≡ false → other ≡ place_or o other
place_or-absent None other h = refl
place_or-absent (Some x) other h = cc

set_by : (f : List ℕ → Option ℕ) (key q : List ℕ) (place : ℕ) (b : Bool) → bytes_eq q key ≡ b → is_some (f key) ≡ false → cond b (Some place) (f q) ≡ place_or (f q) (cond b (Some place) None)
set_by f key q place true same absent =
    let e : q ≡ key = (bytes_eq-Decides q key).0 same in
    place_or-absent (f q) (Some place) (ap (λ n. is_some (f n)) e ∙ absent)
set_by f key q place false apart absent = place_or-none (f q)

-- where a key has no place, it gets this one
pub place_set : (f : List ℕ → Option ℕ) (key : List ℕ) (place : ℕ) → is_some (f key) ≡ false → (q : List ℕ) → update bytes_eq f key (Some place) q ≡ place_or (f q) (cond (bytes_eq q key) (Some place) None)
place_set f key place absent q = ap (λ b. cond b (Some place) (f q)) (bytes_eq-swap key q) ∙ set_by f key q place (bytes_eq q key) refl absent
